-- What a leg put and took on its two sides: that of a leg in a play, whose words these are. Own rule.
use Rattle.std.specs.Prelude.{ℤ, List}
use Rattle.tri_base.specs.declared.leg.Side.{Side}
use Rattle.tri_base.specs.declared.leg.Side.TheVariants.{Left, Right}
pub use Rattle.leg_laws.specs.SentTaken.{SentTaken, nothing_sent, sent_on, sent_more, taken_more}

-- What was taken from a side.
abbrev pub taken_on : Side → SentTaken → List (List ℤ)
taken_on Left l = l.taken_left
taken_on Right l = l.taken_right
