use Rattle.st_types.proofs.Inputs.{among_unless_new}
use Rattle.st_types.proofs.calls.note_name.Goals as goal

pub returns-clause-again : goal.returns-clause-again
returns-clause-again c = among_unless_new c.args.named.now.keys c.args.name c.in_ok-new.new c.in_ok-new.ensures.added
