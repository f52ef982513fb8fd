-- The change point of a scan: what a leg makes of the scan's download. Own rule.
use Rattle.std.specs.Prelude.{ℕ, ◌+◌, min, Option, Some, None}
use Rattle.tri_base.specs.Downloads.{Download}
use Rattle.engine_face.specs.declared.refusal.Refusal.{Refusal}
use Rattle.engine_face.specs.declared.verdict.Verdict.{Verdict}
use Rattle.engine_face.specs.declared.verdict.Verdict.TheVariants as v
use Rattle.engine_face.specs.Meaning.{Meaning, changes}
use Rattle.leg_packet.specs.Sheets.{epoch_limit}
use Rattle.script_text.specs.LegScans.{LegScan}
use Rattle.leg_laws.specs.States.{Run, State, Running, Learning}
use Rattle.leg_laws.specs.FaultLines.{acted_all}

-- A leg behind the change point, with its verdict where the scan has a download.
pub record Prepared : Type 0 where
  pub state : State
  pub verdict : Option Verdict

-- One accepted download more; the greatest count stays.
abbrev pub next_epoch : ℕ → ℕ
next_epoch epoch = min (epoch + 1) epoch_limit

-- An accepted download: the new text, the words that it carries over, and the first window again. A refused one leaves
-- the run as it is.
abbrev pub changed_run : Meaning → Download → Run → Option Refusal → Prepared
changed_run m d run None = record {
  state = Running (record {
    text = d.text;
    words = m.carried run.text d run.words;
    epoch = next_epoch run.epoch;
    turn = 0;
  });
  verdict = Some v.Accepted;
}
changed_run m d run (Some refusal) = record { state = Running run; verdict = Some (v.Refused refusal) }

-- A leg that runs is asked whether its own text can be changed to the download. One that learns takes nothing.
unfoldable pub change_point : Meaning → Option Download → State → Prepared
change_point m None state = record { state = state; verdict = None }
change_point m (Some d) (Running run) = changed_run m d run (changes m run.text d)
change_point m (Some d) (Learning lesson) = record { state = Learning lesson; verdict = Some v.Learning }

-- How a leg goes into the exchange of readings: its fault lines first, then the change point.
unfoldable pub prepared : Meaning → LegScan → State → Prepared
prepared m l state = change_point m l.download (acted_all m state l.acts)
