-- What code that writes a piece of a text ensures, unless memory fails. It serves private functions alone: nobody has
-- to believe it.
use Rattle.std.specs.Prelude.{◌≡◌, ℕ, List, [], ◌∷◌, ◌++◌, map, flat_map, decimal, codes, Result, OnOk}
use Rattle.tri_base.specs.Rows.{TextValue}
use Rattle.tri_base.specs.declared.point.Point.{Point}
use Rattle.script_lines.specs.Lines.{lines_of, ended}
use Rattle.script_text.specs.IsScript.{IsMoment}
use Rattle.script_text.specs.MomentValue.{MomentValue}
use Rattle.script_text.specs.ScriptValue.{ScriptValue}
use Rattle.script_writer.specs.Canonical.{spaced, point_words, schedule_lines, moment_lines}

-- the piece stands behind what there was
abbrev pub Adds : {T E : Type 0} → Result T E → TextValue → TextValue → List ℕ → Type 0
Adds result old new piece = OnOk result (new.list ≡ old.list ++ piece)

-- each of some moments is one of a script
abbrev pub MomentsAre : List Point → List MomentValue → Type 0
MomentsAre points [] = Unit {0}
MomentsAre points (m ∷ moments) = IsMoment points m × MomentsAre points moments

-- the text of an AT line with what stands below it
unfoldable pub moment_text : List Point → MomentValue → List ℕ
moment_text points m = flat_map ended (moment_lines points m)

-- the lines up to the end of the program
abbrev pub head_text : ScriptValue → List ℕ
head_text v =
    codes "TRICON 1\n" ++ (flat_map ended (map (λ p. spaced (point_words p)) v.points)
    ++ (codes "TEXT\n" ++ flat_map ended (lines_of v.text ++ codes "ENDTEXT" ∷ [])))

-- the lines behind the program
abbrev pub tail_text : ScriptValue → List ℕ
tail_text v =
    flat_map ended (schedule_lines v.schedule) ++ (ended (spaced (codes "SCANS" ∷ decimal v.scans ∷ []))
    ++ (flat_map (moment_text v.points) v.moments ++ codes "END\n"))
