-- Six settled links make a settled bus.
use Rattle.std.proofs.Common.{◌≡◌, ℤ, List, ◌++◌}
use Rattle.tri_base.specs.declared.leg.Leg.TheVariants.{A, B, C}
use Rattle.tri_base.specs.declared.leg.Side.TheVariants.{Left, Right}
use Rattle.tribus.specs.Ends.{Trace}
use Rattle.tribus.specs.Settling.{settled_post, LosesNothing}

-- what was put is what was taken and what was left
abbrev pub IsWhole : Trace (List ℤ) → Type 0
IsWhole t = t.sent ≡ t.taken ++ t.left

pub delivers : (a_to_c a_to_b b_to_a b_to_c c_to_b c_to_a : Trace (List ℤ))
    → IsWhole a_to_c → IsWhole a_to_b → IsWhole b_to_a → IsWhole b_to_c → IsWhole c_to_b → IsWhole c_to_a
    → LosesNothing (record {
      a = settled_post a_to_c a_to_b c_to_a b_to_a;
      b = settled_post b_to_a b_to_c a_to_b c_to_b;
      c = settled_post c_to_b c_to_a b_to_c a_to_c;
    })
delivers a_to_c a_to_b b_to_a b_to_c c_to_b c_to_a ac ab ba bc cb ca A Left = ca
delivers a_to_c a_to_b b_to_a b_to_c c_to_b c_to_a ac ab ba bc cb ca A Right = ba
delivers a_to_c a_to_b b_to_a b_to_c c_to_b c_to_a ac ab ba bc cb ca B Left = ab
delivers a_to_c a_to_b b_to_a b_to_c c_to_b c_to_a ac ab ba bc cb ca B Right = cb
delivers a_to_c a_to_b b_to_a b_to_c c_to_b c_to_a ac ab ba bc cb ca C Left = bc
delivers a_to_c a_to_b b_to_a b_to_c c_to_b c_to_a ac ab ba bc cb ca C Right = ac
