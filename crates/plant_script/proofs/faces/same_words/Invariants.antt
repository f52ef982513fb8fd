use Rattle.std.proofs.Common.{◌≡◌, ◌↔◌, length}
use Rattle.plant_script.proofs.faces.same_words.Given as goal

-- what is left is the same exactly where the whole is
abbrev pub invariant-words : goal.invariant-words
invariant-words l = (l.left ≡ l.right) ↔ (l.left_behind ≡ l.right_behind)

abbrev pub decreases-words : goal.decreases-words
decreases-words l = length l.left_behind
