use Rattle.majority_laws.proofs.Outputs.{carried, carried_before}
use Rattle.majority_laws.proofs.Scripts.{scripts_carry}
use Rattle.majority_laws.proofs.laws.majority_carries.Goals as goal

pub returns : goal.returns
returns c = record { of_a_script = scripts_carry; before_uncalm = carried_before; while_calm = carried }
