-- Nobody has to believe what stands here: it serves private fields alone.
-- The text of a mark spells its points.
use Rattle.std.specs.Prelude.{◌≡◌}
use Rattle.std.specs.List.{All}
use Rattle.std.specs.String.{string_bytes}
use Rattle.tag_wiring.specs.Inner.Spelling.{IsPlain, spelled}
use Rattle.tag_wiring.specs.declared.point_mark.PointMark.TheInside.{Inside}

pub record IsMarked (s : Inside) : Type 0 where
  pub text : string_bytes s.text ≡ spelled s.points.value
  pub plain : All IsPlain s.points.value
