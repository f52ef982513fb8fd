-- Scans without lines on a leg's state.
use Rattle.std.proofs.Common.{◌≡◌, true, List, [], ◌∷◌, refl, ap, ◌∙◌}
use Rattle.std.specs.List.{All}
use Rattle.std.proofs.lemmas.List.Elements.{All-nil}
use Rattle.engine_face.specs.Meaning.{Meaning}
use Rattle.script_text.specs.LegScans.{LegAct, LegScan, SwapsBytes}
use Rattle.plant_script.specs.Countdown.{no_acts}
use Rattle.leg_laws.specs.States.{State}
use Rattle.leg_laws.specs.FaultLines.{acted_all}
use Rattle.leg_laws.specs.ChangePoint.{change_point, prepared}
use Rattle.leg_laws.specs.Plays.{SwapBuilds}
use Rattle.leg_laws.proofs.Pieces.{does_lines, takes_downloads}

pub none_there : (acts : List LegAct) → no_acts acts ≡ true → acts ≡ []
none_there [] e = refl
none_there (act ∷ acts) e = absurd (cc)

pub unacted : (m : Meaning) (l : LegScan) (state : State) → no_acts l.acts ≡ true
    → prepared m l state ≡ change_point m l.download state
unacted m l state e =
    (takes_downloads m).behind l state
    ∙ ap (λ (acts : List LegAct). change_point m l.download (acted_all m state acts)) (none_there l.acts e)
    ∙ ap (λ (s : State). change_point m l.download s) ((does_lines m).none state)

-- no line swaps a text
pub no_swap_builds : (m : Meaning) (acts : List LegAct) → no_acts acts ≡ true → All (SwapBuilds m) acts
no_swap_builds m [] e = All-nil (SwapBuilds m)
no_swap_builds m (act ∷ acts) e = absurd (cc)

pub no_swap_bytes : (acts : List LegAct) → no_acts acts ≡ true → All SwapsBytes acts
no_swap_bytes [] e = All-nil SwapsBytes
no_swap_bytes (act ∷ acts) e = absurd (cc)
