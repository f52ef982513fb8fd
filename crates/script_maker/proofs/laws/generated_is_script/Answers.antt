use Rattle.std.proofs.Common.{sym, ap, ◌+◌, ℕ}
use Rattle.script_writer.proofs.Round.{round}
use Rattle.script_maker.specs.Generated.{generated}
use Rattle.script_maker.proofs.Plants.{points_length}
use Rattle.script_maker.proofs.Programs.{text_length}
use Rattle.script_maker.proofs.Scripts.{is_script}
use Rattle.script_maker.proofs.laws.generated_is_script.Goals as goal

pub returns-clause-script : goal.returns-clause-script
returns-clause-script c = is_script

pub returns-clause-read_again : goal.returns-clause-read_again
returns-clause-read_again c = λ number scans low high. round (generated number scans).value (is_script number scans low high)

pub returns-clause-program : goal.returns-clause-program
returns-clause-program c = text_length

pub returns-clause-line : goal.returns-clause-line
returns-clause-line c = λ number scans. ap (λ (n : ℕ). 2 + n) (sym points_length)
