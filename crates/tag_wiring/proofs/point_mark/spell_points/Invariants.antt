use Rattle.std.proofs.Common.{◌≡◌, take}
use Rattle.std.specs.List.{All}
use Rattle.std.specs.String.{string_bytes}
use Rattle.tag_wiring.specs.Inner.Spelling.{IsPlain, spelled}
use Rattle.tag_wiring.proofs.point_mark.spell_points.Given as goal

-- so far they are spelled
abbrev pub invariant-loop-point : goal.invariant-loop-point
invariant-loop-point l = record {
  text : string_bytes l.text ≡ spelled (take l.point-index l.points);
  plain : All IsPlain (take l.point-index l.points);
}
