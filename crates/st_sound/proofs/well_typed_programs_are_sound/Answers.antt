use Rattle.st_sound.proofs.SoundStatements.{well_typed_sound}
use Rattle.st_sound.proofs.well_typed_programs_are_sound.Goals as goal

pub returns : goal.returns
returns c = well_typed_sound
