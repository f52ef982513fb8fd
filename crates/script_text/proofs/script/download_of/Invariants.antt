use Rattle.std.proofs.Common.{◌≡◌, length}
use Rattle.script_text.specs.Moments.{download_in}
use Rattle.script_text.proofs.script.download_of.Given as goal

-- no line so far is the download
abbrev pub invariant-lines : goal.invariant-lines
invariant-lines l = download_in l.rest ≡ download_in l.lines

abbrev pub decreases-lines : goal.decreases-lines
decreases-lines l = length l.rest
