-- A run that writes what its command makes of the bytes that it read.
use Rattle.std.proofs.Common.{◌≡◌, ℕ, ◌≤◌, List, length, Option, Some, None, Ok, ap, arith, ◌⊎◌, inl, inr, subst, sym}
use Rattle.std.specs.Result.{IsErrOf}
use Rattle.tri_io.specs.WholeStreams.{TakesAll, PutsAll}
use Rattle.tricon.specs.CommandRuns.{ReaderSays, Runs, Stream, ended, script_limit}
use Rattle.tricon.specs.Inner.Outcomes.{RunsReader}
use Rattle.tricon.specs.Readings.{IsOutput}
use Rattle.tricon.specs.declared.command.Command.{Command}
use Rattle.tricon.specs.declared.status.Status.{Status}
use Rattle.tricon.specs.declared.status.Status.TheVariants.{Usage}
use Rattle.tricon.proofs.Runs.{took}

module _ (command : Command) (source sink : Stream) (bytes output : List ℕ) (read : TakesAll source.before source.after bytes) (short : length bytes ≤ script_limit) (puts : PutsAll sink.before sink.after output) where
  says : (uncalm : Option ℕ) → IsOutput command bytes uncalm output → ReaderSays command source sink (ended uncalm)
  says None is = record { bytes = bytes; output = output; read = read; short = short; is = is; written = puts }
  says (Some scan) is = record { bytes = bytes; output = output; read = read; short = short; is = is; written = puts }

  asks : (uncalm : Option ℕ) → ended uncalm ≡ Usage → ⊥
  asks None e = absurd cc
  asks (Some scan) e = absurd cc

  pub written : (uncalm : Option ℕ) → IsOutput command bytes uncalm output → source.faults_after ≡ source.faults_before → sink.faults_after ≡ sink.faults_before → RunsReader command source sink (ended uncalm)
  written uncalm is still steady = record {
    says = says uncalm is;
    asks = asks uncalm;
    source_steady = λ e. still;
    sink_steady = λ e. steady;
    source_never_falls = omega (arith, still);
    sink_never_falls = omega (arith, steady);
    too_long = λ others held long. absurd (omega (arith, long, short, ap length (took source.before source.after bytes others held read)));
  }

-- the same of a run whose status and whose bytes are told by equations
pub wrote : (command : Command) (source sink : Stream) (bytes output put : List ℕ) (uncalm : Option ℕ) (status : Status) → status ≡ ended uncalm → TakesAll source.before source.after bytes → length bytes ≤ script_limit → put ≡ output → PutsAll sink.before sink.after put → IsOutput command bytes uncalm output → source.faults_after ≡ source.faults_before → sink.faults_after ≡ sink.faults_before → RunsReader command source sink status
wrote command source sink bytes output put uncalm status told read short same puts is still steady =
    let all = subst (λ (l : List ℕ). PutsAll sink.before sink.after l) same puts in
    let ran = written command source sink bytes output read short all uncalm is still steady in
    subst (λ (s : Status). RunsReader command source sink s) (sym told) ran

-- what is good is no error
pub no_error : {T E X : Type 0} → (x : T) → (e : E) → IsErrOf (Ok x) e ⊎ X → X
no_error x e (inl h) = absurd cc
no_error x e (inr y) = y

-- a run of what was asked, under another name
pub same_runs : (asked other : Option Command) (source sink : Stream) (status : Status) → other ≡ asked → Runs other source sink status → Runs asked source sink status
same_runs asked other source sink status e ran = subst (λ (a : Option Command). Runs a source sink status) e ran
