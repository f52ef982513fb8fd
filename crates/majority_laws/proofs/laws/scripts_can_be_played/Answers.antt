use Rattle.majority_laws.proofs.Scripts.{can_be_played, can_be_read}
use Rattle.majority_laws.proofs.laws.scripts_can_be_played.Goals as goal

pub returns : goal.returns
returns c = record { played = can_be_played; read = can_be_read }
