use Rattle.std.proofs.Common.{[]}
use Rattle.st_core.proofs.Sound.{fits_of}
use Rattle.st_core.proofs.fits_where_sound.Goals as goal

pub returns : goal.returns
returns c = λ shape a sound low. fits_of shape [] a sound low
