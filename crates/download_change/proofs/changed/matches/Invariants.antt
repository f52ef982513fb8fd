use Rattle.std.proofs.Common.{◌≡◌, drop}
use Rattle.std.specs.List.{find}
use Rattle.download_change.specs.Kept.{is_changed}
use Rattle.download_change.proofs.changed.matches.Given as goal

abbrev pub invariant-loop-tag : goal.invariant-loop-tag
invariant-loop-tag l = find (is_changed l.new l.renames) (drop l.tag-index l.tag-items) ≡ find (is_changed l.new l.renames) l.tag-items
