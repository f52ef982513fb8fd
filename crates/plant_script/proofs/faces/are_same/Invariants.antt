use Rattle.std.proofs.Common.{◌≡◌, ◌↔◌, length}
use Rattle.plant_script.proofs.faces.are_same.Given as goal

-- what is left is the same exactly where the whole is
abbrev pub invariant-values : goal.invariant-values
invariant-values l = (l.values ≡ l.readings) ↔ (l.values_left ≡ l.readings_left)

abbrev pub decreases-values : goal.decreases-values
decreases-values l = length l.values_left
