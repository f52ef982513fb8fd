-- What a script says.
use Rattle.std.specs.Prelude.{ℕ, List}
use Rattle.tri_base.specs.declared.point.Point.{Point}
use Rattle.tri_base.specs.declared.leg.Leg.{Leg}
use Rattle.script_text.specs.MomentValue.{MomentValue}

-- A script is what its lines say, in their order. The SCHEDULE lines are joined. Where RENAME and ASK lines stand among
-- the other lines of their scan doesn't count.
pub record ScriptValue : Type 0 where
  pub points : List Point
  -- the text of the program
  pub text : List ℕ
  pub schedule : List Leg
  -- how many scans there are
  pub scans : ℕ
  -- the AT lines with what stands below them
  pub moments : List MomentValue

-- The script of these parts.
abbrev pub script_value : List Point → List ℕ → List Leg → ℕ → List MomentValue → ScriptValue
script_value points text schedule scans moments =
    record { points = points; text = text; schedule = schedule; scans = scans; moments = moments }

-- A script, the line of its word TEXT, and the lines of its words SWAP, in their order.
pub record ReadScript : Type 0 where
  pub value : ScriptValue
  pub text_line : ℕ
  pub swap_lines : List ℕ
