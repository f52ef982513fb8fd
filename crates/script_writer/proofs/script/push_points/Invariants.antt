use Rattle.std.proofs.Common.{◌≡◌, ◌++◌, map, flat_map, take}
use Rattle.script_lines.specs.Lines.{ended}
use Rattle.script_writer.specs.Canonical.{spaced, point_words}
use Rattle.script_writer.proofs.script.push_points.Given as goal

abbrev pub invariant-loop-point : goal.invariant-loop-point
invariant-loop-point l = l.text.list ≡ l.fn.text.list ++ flat_map ended (map (λ p. spaced (point_words p)) (take l.point-index l.points))
