-- The events and the replies of three legs are the one controller's.
use Rattle.std.proofs.Common.{◌≡◌, ◌∙◌, ℕ, pos, ◌≤◌, List, [], ◌∷◌, ◌++◌, Option, None, ap, codes, arith}
use Rattle.tri_base.specs.declared.leg.Leg.TheVariants.{A}
use Rattle.report_lines.specs.Calm.{calm_line}
use Rattle.report_lines.specs.Lines.{line}
use Rattle.std.specs.List.{flat_map, range_with_len}
use Rattle.script_text.specs.ScriptValue.{ReadScript}
use Rattle.majority_laws.specs.Carried.{Carry}
use Rattle.majority_laws.specs.Majority.{IsBefore, note_at}
use Rattle.soe_log.specs.Recording.{ScanShown}
use Rattle.soe_log.specs.EventText.{events_text}
use Rattle.play_texts.specs.Events.{shown_of}
use Rattle.play_texts.specs.Replies.{scan_replies}
use Rattle.script_commands.specs.declared.script_command.ScriptCommand.TheVariants.{Play}
use Rattle.script_commands.specs.declared.script_command.PlayCommand.TheVariants.{Events, Modbus}
use Rattle.tricon.specs.Readings.{meaning_over}
use Rattle.tricon.specs.Answered.{CalmRepliesCarry, RepliesCarry, answered, answered_at, replies_text}
use Rattle.tricon.specs.Events.{CalmEventsCarry, EventsCarry, shown_at}
use Rattle.tricon.proofs.Carried.{carried, flat_alike, flat_numbered, map_alike, map_twice, told_at}

-- what a recorder is shown of a scan that carries the one controller
shown_same : (s : ReadScript) (scan : ℕ) → Carry (meaning_over s) s.value scan (note_at (meaning_over s) s.value scan)
    → shown_of (told_at s scan) ≡ shown_at (meaning_over s) s.value scan
shown_same s scan carry = λ i. record {
  time = carry.time A i;
  inputs = carry.values A i;
  outputs = carry.outputs i;
}

-- the recorder is shown the one controller
pub events_carry : EventsCarry
events_carry bytes uncalm output is =
    let s = is.script in
    record {
      shown = λ scan. shown_of (told_at s scan);
      is = is.is.1
          ∙ ap (λ (scans : List ScanShown). events_text s.value.points scans uncalm)
          (map_twice shown_of (told_at s) (range_with_len 1 s.value.scans));
      scans = λ scan first last before.
          shown_same s scan (carried (Play Events) bytes uncalm output is is.is.0 scan first last before);
    }

-- so, where all scans are calm, the events are its own
pub calm_events_carry : CalmEventsCarry
calm_events_carry bytes output is =
    let s = is.script in
    let records = events_carry bytes None output is in
    records.is
    ∙ ap (λ (scans : List ScanShown). events_text s.value.points scans None)
    (map_alike records.shown (shown_at (meaning_over s) s.value) 1 s.value.scans
    (λ scan first last. records.scans scan first (omega (arith, last)) tt))

-- the text of the same lines
same_text : (scans : ℕ) (f g : ℕ → List ℕ) (uncalm : Option ℕ)
    → flat_map f (range_with_len 1 scans) ≡ flat_map g (range_with_len 1 scans)
    → replies_text scans f uncalm ≡ replies_text scans g uncalm
same_text scans f g uncalm e =
    ap (λ (lines : List ℕ). line (codes "TRICON MODBUS") (pos 1 ∷ [])
    ++ (lines ++ (calm_line uncalm ++ line (codes "END") []))) e

-- the requests are answered over the one controller
pub replies_carry : RepliesCarry
replies_carry bytes uncalm output is =
    let s = is.script in
    let carry : (scan : ℕ) → 1 ≤ scan → scan ≤ s.value.scans → IsBefore scan uncalm
    → Carry (meaning_over s) s.value scan (note_at (meaning_over s) s.value scan) =
    carried (Play Modbus) bytes uncalm output is is.is.0 in
    record {
      inputs = λ scan. (told_at s scan).a.values;
      outputs = λ scan. (told_at s scan).out;
      is = is.is.1
          ∙ ap (λ (lines : List ℕ). line (codes "TRICON MODBUS") (pos 1 ∷ [])
          ++ (lines ++ (calm_line uncalm ++ line (codes "END") [])))
          (flat_numbered (scan_replies s.value) (told_at s) 1 s.value.scans);
      voted = λ scan first last before. (carry scan first last before).values A;
      driven = λ scan first last before. (carry scan first last before).outputs;
    }

-- so, where all scans are calm, the replies are its own
pub calm_replies_carry : CalmRepliesCarry
calm_replies_carry bytes output is =
    let s = is.script in
    let answers = replies_carry bytes None output is in
    answers.is
    ∙ same_text s.value.scans (λ scan. answered s.value scan (answers.inputs scan) (answers.outputs scan))
    (answered_at (meaning_over s) s.value) None
    (flat_alike (λ scan. answered s.value scan (answers.inputs scan) (answers.outputs scan))
    (answered_at (meaning_over s) s.value) 1 s.value.scans
    (λ scan first last i. answered s.value scan (answers.voted scan first (omega (arith, last)) tt i)
    (answers.driven scan first (omega (arith, last)) tt i)))
