use Rattle.st_build.specs.Inner.Scans.{scan_runs}
use Rattle.st_build.proofs.laws.scans_are_runs.Goals as goal

pub returns : goal.returns
returns c = λ points text tree words inputs dt h count. scan_runs points text tree words inputs dt h.is count
