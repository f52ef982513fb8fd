-- What contracts see of the two ends of a link, and of a link whose ends are back. Own rule.
use Rattle.std.specs.Prelude.{List}
use Rattle.atomic_table.specs.Seated.{TableId}

-- An end: which link it is of, by the identity of the link's box, and what went through it, oldest first.
pub record End (T : Type 0) : Type 0 where
  pub link : TableId
  pub list : List T

-- A settled link: what was put into its box, what was taken out, and what was left in it at the end, each oldest first.
pub record Trace (T : Type 0) : Type 0 where
  pub sent : List T
  pub taken : List T
  pub left : List T

module _ {T : Type 0} where
  -- The end of a link through which a list went.
  abbrev pub end : TableId → List T → End T
  end link list = record { link = link; list = list }

  -- A settled link with these lists.
  abbrev pub trace : (sent taken left : List T) → Trace T
  trace sent taken left = record { sent = sent; taken = taken; left = left }
