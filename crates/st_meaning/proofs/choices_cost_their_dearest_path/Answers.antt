use Rattle.st_meaning.proofs.Dearest.{dearest}
use Rattle.st_meaning.proofs.choices_cost_their_dearest_path.Goals as goal

pub returns : goal.returns
returns c = dearest
