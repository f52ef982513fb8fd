-- What a running leg makes of its own result and its neighbours'. Own rule.
use Rattle.std.specs.Prelude.{ℤ, Bool, true, false, ◌&&◌, List, Some, None, is_some}
use Rattle.std.specs.Cmp.Lexicographic.{pointwise}
use Rattle.std.specs.Ordering.{int_eq}
use Rattle.tri_base.specs.declared.leg.Side.TheVariants.{Left, Right}
use Rattle.leg_packet.specs.Sheets.{sheet_of}
use Rattle.memory_compare.specs.declared.judging.Judgement.{Judgement}
use Rattle.memory_compare.specs.declared.judging.Judgement.TheVariants.{Agrees, Minority, NoVote}

-- Two packets have the same words.
abbrev pub same_words : (xs ys : List ℤ) → Bool
same_words xs ys = pointwise int_eq xs ys

-- Two packets are one running result.
abbrev pub are_one_result : (left right : List ℤ) → Bool
are_one_result left right = same_words left right && is_some (sheet_of left)

-- By whether the leg's own result is that on its left, and that on its right, and whether those two are one result.
abbrev pub judged_by : (own_is_left own_is_right two_run : Bool) → Judgement
judged_by true true two_run = Agrees None
judged_by true false two_run = Agrees (Some Right)
judged_by false true two_run = Agrees (Some Left)
judged_by false false true = Minority
judged_by false false false = NoVote

-- Minority where the neighbours have one running result and the leg another. Else Agrees with the neighbours that have
-- the leg's own result, accusing the other one; NoVote where neither has it.
abbrev pub judge_of : (own left right : List ℤ) → Judgement
judge_of own left right = judged_by (same_words own left) (same_words own right) (are_one_result left right)
