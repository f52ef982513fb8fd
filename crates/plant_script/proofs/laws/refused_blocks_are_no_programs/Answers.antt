use Rattle.plant_script.proofs.Blocks.{blocks_are_no_programs}
use Rattle.plant_script.proofs.laws.refused_blocks_are_no_programs.Goals as goal

pub returns : goal.returns
returns c = blocks_are_no_programs
