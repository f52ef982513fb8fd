-- Where neither source nor sink nor memory fails, a run ends as its bytes say.
use Rattle.std.proofs.Common.{◌≡◌, ◌≢◌, ℕ, ◌≤◌, List, length, Option, Some, None, refl, sym, subst, ◌∙◌, ap, arith, ◌⊎◌, inl, inr}
use Rattle.std.proofs.lemmas.Option.{same_Some}
use Rattle.tri_io.specs.WholeStreams.{PutsAll, PutsSome}
use Rattle.tricon.specs.Readings.{IsOutput, IsRefused, IsStuck}
use Rattle.tricon.specs.CommandRuns.{Stream, Failed, ReaderSays, MakerSays, Reads, Runs, Says, Writes, ended, script_limit}
use Rattle.tricon.specs.Inner.Outcomes.{RunsReader}
use Rattle.tricon.specs.declared.command.Command.{Command}
use Rattle.tricon.specs.declared.command.Command.TheVariants.{Script, Matrix, Make}
use Rattle.tricon.specs.declared.status.Status.{Status}
use Rattle.tricon.specs.declared.status.Status.TheVariants.{Done, Usage, Refused, ReadFault, WriteFault, NoMemory, DoneNotCalm, ScriptTooLong, Stuck}
use Rattle.tricon.specs.declared.status.RefusedCause.{RefusedCause}
use Rattle.tricon.proofs.Runs.{took, past}
use Rattle.tricon.proofs.ByCommand.{not_refused, not_stuck, one_end, one_letter, one_refusal, stuck_not_refused}

-- ---- what was written, against what the bytes are

ends : (command : Command) (source sink : Stream) (mine : Option ℕ) (bytes : List ℕ) (uncalm : Option ℕ) (output : List ℕ) (puts : Option (List ℕ) → Option (List ℕ) → List ℕ → Type 0) → Writes command mine source sink puts → source.before ≡ Some bytes → IsOutput command bytes uncalm output → mine ≡ uncalm
ends command source sink mine bytes uncalm output puts says held is =
    let same = took source.before source.after says.bytes bytes held says.read in
    one_end command bytes mine uncalm says.output output (subst (λ (b : List ℕ). IsOutput command b mine says.output) same says.is) is

written_not_refused : (command : Command) (source sink : Stream) (mine : Option ℕ) (bytes : List ℕ) (line : ℕ) (cause : RefusedCause) (puts : Option (List ℕ) → Option (List ℕ) → List ℕ → Type 0) → Writes command mine source sink puts → source.before ≡ Some bytes → IsRefused command bytes line cause → ⊥
written_not_refused command source sink mine bytes line cause puts says held is =
    let same = took source.before source.after says.bytes bytes held says.read in
    not_refused command bytes mine says.output line cause (subst (λ (b : List ℕ). IsOutput command b mine says.output) same says.is) is

written_not_stuck : (command : Command) (source sink : Stream) (mine : Option ℕ) (bytes : List ℕ) (letter : ℕ) (puts : Option (List ℕ) → Option (List ℕ) → List ℕ → Type 0) → Writes command mine source sink puts → source.before ≡ Some bytes → IsStuck command bytes letter → ⊥
written_not_stuck command source sink mine bytes letter puts says held is =
    let same = took source.before source.after says.bytes bytes held says.read in
    not_stuck command bytes mine says.output letter (subst (λ (b : List ℕ). IsOutput command b mine says.output) same says.is) is

-- ---- how a run ends

-- bytes that have an output are played
pub completes : (command : Command) (source sink : Stream) (status : Status) (bytes : List ℕ) (uncalm : Option ℕ) (output : List ℕ) → ReaderSays command source sink status → source.before ≡ Some bytes → length bytes ≤ script_limit → IsOutput command bytes uncalm output → (Failed source → ⊥) → (Failed sink → ⊥) → (status ≡ ended uncalm) ⊎ (status ≡ NoMemory)
completes command source sink Done bytes uncalm output says held short is reads writes =
    inl (ap ended (ends command source sink None bytes uncalm output PutsAll says held is))
completes command source sink Usage bytes uncalm output says held short is reads writes = absurd says
completes command source sink (Refused line cause) bytes uncalm output says held short is reads writes =
    let same = took source.before source.after says.bytes bytes held says.read in
    absurd (not_refused command bytes uncalm output line cause is (subst (λ (b : List ℕ). IsRefused command b line cause) same says.is))
completes command source sink ReadFault bytes uncalm output says held short is reads writes = absurd (reads says.0)
completes command source sink WriteFault bytes uncalm output says held short is reads writes = absurd (writes says.failed)
completes command source sink NoMemory bytes uncalm output says held short is reads writes = inr refl
completes command source sink (DoneNotCalm scan) bytes uncalm output says held short is reads writes =
    inl (ap ended (ends command source sink (Some scan) bytes uncalm output PutsAll says held is))
completes command source sink ScriptTooLong bytes uncalm output says held short is reads writes =
    absurd (omega (arith, past script_limit source.before source.after bytes held says))
completes command source sink (Stuck index) bytes uncalm output says held short is reads writes =
    let same = took source.before source.after says.bytes bytes held says.read in
    absurd (not_stuck command bytes uncalm output index is (subst (λ (b : List ℕ). IsStuck command b index) same says.is))

-- the same line and cause
same_status : (l m : ℕ) (c d : RefusedCause) → (l ≡ m) × (c ≡ d) → Refused l c ≡ Refused m d
same_status l m c d same = ap (λ (x : ℕ). Refused x c) same.0 ∙ ap (λ (x : RefusedCause). Refused m x) same.1

-- bytes that are refused get their line and cause
pub refuses : (command : Command) (source sink : Stream) (status : Status) (bytes : List ℕ) (line : ℕ) (cause : RefusedCause) → ReaderSays command source sink status → source.before ≡ Some bytes → length bytes ≤ script_limit → IsRefused command bytes line cause → (Failed source → ⊥) → (status ≡ Refused line cause) ⊎ (status ≡ NoMemory)
refuses command source sink Done bytes line cause says held short is reads =
    absurd (written_not_refused command source sink None bytes line cause PutsAll says held is)
refuses command source sink Usage bytes line cause says held short is reads = absurd says
refuses command source sink (Refused l c) bytes line cause says held short is reads =
    let same = took source.before source.after says.bytes bytes held says.read in
    inl (same_status l line c cause (one_refusal command bytes l line c cause (subst (λ (b : List ℕ). IsRefused command b l c) same says.is) is))
refuses command source sink ReadFault bytes line cause says held short is reads = absurd (reads says.0)
refuses command source sink WriteFault bytes line cause says held short is reads =
    absurd (written_not_refused command source sink says.uncalm bytes line cause PutsSome says.some held is)
refuses command source sink NoMemory bytes line cause says held short is reads = inr refl
refuses command source sink (DoneNotCalm scan) bytes line cause says held short is reads =
    absurd (written_not_refused command source sink (Some scan) bytes line cause PutsAll says held is)
refuses command source sink ScriptTooLong bytes line cause says held short is reads =
    absurd (omega (arith, past script_limit source.before source.after bytes held says))
refuses command source sink (Stuck index) bytes line cause says held short is reads =
    let same = took source.before source.after says.bytes bytes held says.read in
    absurd (stuck_not_refused command bytes index line cause (subst (λ (b : List ℕ). IsStuck command b index) same says.is) is)

-- a schedule that is stuck gets its letter
pub sticks : (command : Command) (source sink : Stream) (status : Status) (bytes : List ℕ) (letter : ℕ) → ReaderSays command source sink status → source.before ≡ Some bytes → length bytes ≤ script_limit → IsStuck command bytes letter → (Failed source → ⊥) → (status ≡ Stuck letter) ⊎ (status ≡ NoMemory)
sticks command source sink Done bytes letter says held short is reads =
    absurd (written_not_stuck command source sink None bytes letter PutsAll says held is)
sticks command source sink Usage bytes letter says held short is reads = absurd says
sticks command source sink (Refused l c) bytes letter says held short is reads =
    let same = took source.before source.after says.bytes bytes held says.read in
    absurd (stuck_not_refused command bytes letter l c is (subst (λ (b : List ℕ). IsRefused command b l c) same says.is))
sticks command source sink ReadFault bytes letter says held short is reads = absurd (reads says.0)
sticks command source sink WriteFault bytes letter says held short is reads =
    absurd (written_not_stuck command source sink says.uncalm bytes letter PutsSome says.some held is)
sticks command source sink NoMemory bytes letter says held short is reads = inr refl
sticks command source sink (DoneNotCalm scan) bytes letter says held short is reads =
    absurd (written_not_stuck command source sink (Some scan) bytes letter PutsAll says held is)
sticks command source sink ScriptTooLong bytes letter says held short is reads =
    absurd (omega (arith, past script_limit source.before source.after bytes held says))
sticks command source sink (Stuck index) bytes letter says held short is reads =
    let same = took source.before source.after says.bytes bytes held says.read in
    inl (ap (λ (x : ℕ). Stuck x) (one_letter command bytes index letter (subst (λ (b : List ℕ). IsStuck command b index) same says.is) is))

-- ---- which command it is

module _ (asked : Option Command) (mine : Command) (h : asked ≡ Some mine) where
  -- what was asked is one command
  one_command : (other : Command) → asked ≡ Some other → mine ≡ other
  one_command other k = same_Some mine other (sym h ∙ k)

  -- it is some
  some_command : asked ≡ None → ⊥
  some_command k = let both : ◌≡◌ {A = Option Command} None (Some mine) = sym k ∙ h in absurd (cc)

reader_says : (command : Command) (source sink : Stream) (status : Status) → Reads command → ReaderSays command source sink status → Says command source sink status
reader_says (Script command) source sink status reads says = says
reader_says Matrix source sink status reads says = says
reader_says (Make number scans) source sink status reads says = absurd reads

-- a run of a command that reads
pub reader_runs : (asked : Option Command) (mine : Command) (source sink : Stream) (status : Status) → asked ≡ Some mine
    → Reads mine → RunsReader mine source sink status → Runs asked source sink status
reader_runs asked mine source sink status h reads ran = record {
  usage = (
    λ e. absurd (ran.asks e),
    λ e. absurd (some_command asked mine h e),
  );
  says = λ command e. subst (λ (c : Command). Says c source sink status) (one_command asked mine h command e) (reader_says mine source sink status reads ran.says);
  source_steady = ran.source_steady;
  sink_steady = ran.sink_steady;
  source_never_falls = ran.source_never_falls;
  sink_never_falls = ran.sink_never_falls;
  too_long = λ command bytes e r held long. ran.too_long bytes held long;
  complete = λ command bytes uncalm output e held short is calm_source calm_sink.
      completes mine source sink status bytes uncalm output ran.says held short
      (subst (λ (c : Command). IsOutput c bytes uncalm output) (sym (one_command asked mine h command e)) is) calm_source calm_sink;
  refused = λ command bytes line cause e held short is calm_source.
      refuses mine source sink status bytes line cause ran.says held short
      (subst (λ (c : Command). IsRefused c bytes line cause) (sym (one_command asked mine h command e)) is) calm_source;
  stuck = λ command bytes letter e held short is calm_source.
      sticks mine source sink status bytes letter ran.says held short
      (subst (λ (c : Command). IsStuck c bytes letter) (sym (one_command asked mine h command e)) is) calm_source;
}

-- a run of `make` never tells the usage
no_usage_made : (number scans : ℕ) (sink : Stream) (status : Status) → MakerSays number scans sink status → status ≡ Usage → ⊥
no_usage_made number scans sink status says e = subst (MakerSays number scans sink) e says

-- nor any fault of the source
no_read_fault : (number scans : ℕ) (sink : Stream) (status : Status) → MakerSays number scans sink status → status ≡ ReadFault → ⊥
no_read_fault number scans sink status says e = subst (MakerSays number scans sink) e says

-- a run of `make`, which leaves its source as it is
pub maker_runs : (asked : Option Command) (number scans : ℕ) (source sink : Stream) (status : Status)
    → asked ≡ Some (Make number scans) → source.faults_after ≡ source.faults_before
    → MakerSays number scans sink status → (status ≢ WriteFault → sink.faults_after ≡ sink.faults_before)
    → sink.faults_before ≤ sink.faults_after → Runs asked source sink status
maker_runs asked number scans source sink status h still says steady rises = record {
  usage = (
    λ e. absurd (no_usage_made number scans sink status says e),
    λ e. absurd (some_command asked (Make number scans) h e),
  );
  says = λ command e. subst (λ (c : Command). Says c source sink status) (one_command asked (Make number scans) h command e) says;
  source_steady = λ e. still;
  sink_steady = steady;
  source_never_falls = omega (arith, still);
  sink_never_falls = rises;
  too_long = λ command bytes e r held long. absurd (subst Reads (sym (one_command asked (Make number scans) h command e)) r);
  complete = λ command bytes uncalm output e held short is calm_source calm_sink.
      absurd (subst (λ (c : Command). IsOutput c bytes uncalm output) (sym (one_command asked (Make number scans) h command e)) is);
  refused = λ command bytes line cause e held short is calm_source.
      absurd (subst (λ (c : Command). IsRefused c bytes line cause) (sym (one_command asked (Make number scans) h command e)) is);
  stuck = λ command bytes letter e held short is calm_source.
      absurd (subst (λ (c : Command). IsStuck c bytes letter) (sym (one_command asked (Make number scans) h command e)) is);
}

-- words that are no command
no_command : (asked : Option Command) (command : Command) → asked ≡ None → asked ≡ Some command → ⊥
no_command asked command h k = some_command asked command k h

pub usage_runs : (asked : Option Command) (source sink : Stream) → asked ≡ None
    → source.faults_after ≡ source.faults_before → sink.faults_after ≡ sink.faults_before → Runs asked source sink Usage
usage_runs asked source sink h still_source still_sink = record {
  usage = (λ e. h, λ e. refl);
  says = λ command e. absurd (no_command asked command h e);
  source_steady = λ e. still_source;
  sink_steady = λ e. still_sink;
  source_never_falls = omega (arith, still_source);
  sink_never_falls = omega (arith, still_sink);
  too_long = λ command bytes e r held long. absurd (no_command asked command h e);
  complete = λ command bytes uncalm output e held short is calm_source calm_sink. absurd (no_command asked command h e);
  refused = λ command bytes line cause e held short is calm_source. absurd (no_command asked command h e);
  stuck = λ command bytes letter e held short is calm_source. absurd (no_command asked command h e);
}
