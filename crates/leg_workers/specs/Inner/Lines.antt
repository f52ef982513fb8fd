-- A bus and three links of notes.
-- Nobody has to believe this: it serves private functions alone.
use Rattle.std.specs.Prelude.{◌≡◌, List, [], ◌++◌}
use Rattle.atomic_table.specs.Seated.{TableId}
use Rattle.tri_base.specs.declared.leg.Triple.{Triple}
use Rattle.tribus.specs.Ends.{End, end}
use Rattle.tribus.specs.Posts.{first_posts}
use Rattle.tribus.specs.declared.note_link.Told.{Told}
use Rattle.leg_workers.specs.declared.printing.Lines.{Lines}

-- the ends of a link that is new, over which nothing was told
pub record AreNewEnds (link : TableId) (told heard : End Told) : Type 0 where
  pub into : told ≡ end link []
  pub out : heard ≡ end link []

-- all are new
pub record AreOpen (l : Lines) : Type 0 where
  pub posts : l.posts ≡ first_posts l.bus
  pub a : AreNewEnds l.links.a l.ins.a l.outs.a
  pub b : AreNewEnds l.links.b l.ins.b l.outs.b
  pub c : AreNewEnds l.links.c l.ins.c l.outs.c

-- two ends are those of a link
pub record AreEndsOf (link : TableId) (told heard : End Told) : Type 0 where
  pub into : told.link ≡ link
  pub out : heard.link ≡ link

-- of each of three links
pub record AreNotesOf (links : Triple TableId) (ins outs : Triple (End Told)) : Type 0 where
  pub a : AreEndsOf links.a ins.a outs.a
  pub b : AreEndsOf links.b ins.b outs.b
  pub c : AreEndsOf links.c ins.c outs.c

-- what was heard is the beginning of what was told
abbrev pub IsFront : (out into : End Told) → Type 0
IsFront out into = (left : List Told) × (into.list ≡ out.list ++ left)

-- of each of three
pub record AreFronts (outs ins : Triple (End Told)) : Type 0 where
  pub a : IsFront outs.a ins.a
  pub b : IsFront outs.b ins.b
  pub c : IsFront outs.c ins.c
