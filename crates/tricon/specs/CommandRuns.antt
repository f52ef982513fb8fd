-- A run of a command, and what each status says of what was read and of what was written. Own rule.
use Rattle.std.specs.Prelude.{◌≡◌, ◌≢◌, ◌⊎◌, ◌↔◌, ℕ, ◌<◌, ◌≤◌, List, length, Option, Some, None}
use Rattle.tri_io.specs.FaultCounts.{Rose}
use Rattle.tri_io.specs.WholeStreams.{TakesAll, TakesPast, TakesFront, PutsAll, PutsSome}
use Rattle.script_writer.specs.Canonical.{canonical_text}
use Rattle.script_maker.specs.Generated.{generated}
use Rattle.tricon.specs.declared.command.Command.{Command}
use Rattle.tricon.specs.declared.command.Command.TheVariants.{Script, Matrix, Make}
use Rattle.tricon.specs.Readings.{IsOutput, IsRefused, IsStuck}
use Rattle.tricon.specs.declared.status.Status.{Status}
use Rattle.tricon.specs.declared.status.Status.TheVariants.{Done, Usage, Refused, ReadFault, WriteFault, NoMemory, DoneNotCalm, ScriptTooLong, Stuck}
use Rattle.tricon.specs.declared.status.RefusedCause.{RefusedCause}

-- A script, or a matrix, has at most so many bytes.
abbrev pub script_limit : ℕ
script_limit = 1048576

-- What a run does to a source or a sink: the bytes that it held and holds, as far as it tells, and its counts of
-- faults, before and after.
pub record Stream : Type 0 where
  pub before : Option (List ℕ)
  pub after : Option (List ℕ)
  pub faults_before : ℕ
  pub faults_after : ℕ

-- One of these parts.
abbrev pub stream : (before after : Option (List ℕ)) (faults_before faults_after : ℕ) → Stream
stream before after faults_before faults_after =
    record { before = before; after = after; faults_before = faults_before; faults_after = faults_after }

-- A fault was counted.
abbrev pub Failed : Stream → Type 0
Failed s = Rose s.faults_before s.faults_after

-- The source was read to its end, and something was written of what the command makes of its bytes, which are no more
-- than the limit.
pub record Writes
    (command : Command)
    (uncalm : Option ℕ)
    (source sink : Stream)
    (puts : Option (List ℕ) → Option (List ℕ) → List ℕ → Type 0)
    : Type 0 where
  pub bytes : List ℕ
  pub output : List ℕ
  pub read : TakesAll source.before source.after bytes
  pub short : length bytes ≤ script_limit
  pub is : IsOutput command bytes uncalm output
  pub written : puts sink.before sink.after output

-- The source was read to its end, and of its bytes, which are no more than the limit, this holds.
pub record Refuses (source : Stream) (bytes_are : List ℕ → Type 0) : Type 0 where
  pub bytes : List ℕ
  pub read : TakesAll source.before source.after bytes
  pub short : length bytes ≤ script_limit
  pub is : bytes_are bytes

-- Not all of what the command makes of the bytes was written, and the sink failed.
pub record WritesSome (command : Command) (source sink : Stream) : Type 0 where
  pub failed : Failed sink
  pub uncalm : Option ℕ
  pub some : Writes command uncalm source sink PutsSome

-- What a status says of a run of a command that reads.
abbrev pub ReaderSays : Command → (source sink : Stream) → Status → Type 0
ReaderSays command source sink Done = Writes command None source sink PutsAll
ReaderSays command source sink Usage = ⊥
ReaderSays command source sink (Refused line cause) = Refuses source (λ bytes. IsRefused command bytes line cause)
ReaderSays command source sink ReadFault = Failed source × TakesFront script_limit source.before source.after
ReaderSays command source sink WriteFault = WritesSome command source sink
ReaderSays command source sink NoMemory = TakesFront script_limit source.before source.after
ReaderSays command source sink (DoneNotCalm scan) = Writes command (Some scan) source sink PutsAll
ReaderSays command source sink ScriptTooLong = TakesPast script_limit source.before source.after
ReaderSays command source sink (Stuck index) = Refuses source (λ bytes. IsStuck command bytes index)

-- The text of the generated script of a number.
abbrev pub made_text : (number scans : ℕ) → List ℕ
made_text number scans = canonical_text (generated number scans).value

-- What a status says of a run of `make`.
abbrev pub MakerSays : (number scans : ℕ) → (sink : Stream) → Status → Type 0
MakerSays number scans sink Done = PutsAll sink.before sink.after (made_text number scans)
MakerSays number scans sink Usage = ⊥
MakerSays number scans sink (Refused line cause) = ⊥
MakerSays number scans sink ReadFault = ⊥
MakerSays number scans sink WriteFault = Failed sink × PutsSome sink.before sink.after (made_text number scans)
MakerSays number scans sink NoMemory = Unit {0}
MakerSays number scans sink (DoneNotCalm scan) = ⊥
MakerSays number scans sink ScriptTooLong = ⊥
MakerSays number scans sink (Stuck index) = ⊥

-- What a status says of a run of a command.
abbrev pub Says : Command → (source sink : Stream) → Status → Type 0
Says (Script command) source sink status = ReaderSays (Script command) source sink status
Says Matrix source sink status = ReaderSays Matrix source sink status
Says (Make number scans) source sink status = MakerSays number scans sink status

-- The command reads its source.
abbrev pub Reads : Command → Type 0
Reads (Script command) = Unit {0}
Reads Matrix = Unit {0}
Reads (Make number scans) = ⊥

-- The statuses with which nothing was written.
abbrev pub IsSilent : Status → Type 0
IsSilent status = (status ≢ Done) × (status ≢ WriteFault) × ((scan : ℕ) → status ≢ DoneNotCalm scan)

-- The status with which the output is there whole.
abbrev pub ended : (uncalm : Option ℕ) → Status
ended None = Done
ended (Some scan) = DoneNotCalm scan

-- A run of what was asked, where that is a command, over a source and a sink, and its status.
pub record Runs (asked : Option Command) (source sink : Stream) (status : Status) : Type 0 where
  -- words that are no command, and no others, get the usage
  pub usage : (status ≡ Usage) ↔ (asked ≡ None)
  -- what the status says
  pub says : (command : Command) → asked ≡ Some command → Says command source sink status
  -- no fault is passed over: each count is as it was, except where its fault is the answer
  pub source_steady : status ≢ ReadFault → source.faults_after ≡ source.faults_before
  pub sink_steady : status ≢ WriteFault → sink.faults_after ≡ sink.faults_before
  pub source_never_falls : source.faults_before ≤ source.faults_after
  pub sink_never_falls : sink.faults_before ≤ sink.faults_after
  -- more bytes than the limit are neither played nor refused for what they say
  pub too_long : (command : Command) (bytes : List ℕ) → asked ≡ Some command → Reads command
      → source.before ≡ Some bytes → script_limit < length bytes
      → (status ≡ ScriptTooLong) ⊎ ((status ≡ ReadFault) ⊎ (status ≡ NoMemory))
  -- bytes within the limit that have an output get it, unless source, sink or memory fail
  pub complete : (command : Command) (bytes : List ℕ) (uncalm : Option ℕ) (output : List ℕ) → asked ≡ Some command
      → source.before ≡ Some bytes → length bytes ≤ script_limit → IsOutput command bytes uncalm output
      → (Failed source → ⊥) → (Failed sink → ⊥) → (status ≡ ended uncalm) ⊎ (status ≡ NoMemory)
  -- bytes that are refused get their line and cause, unless source or memory fail
  pub refused : (command : Command) (bytes : List ℕ) (line : ℕ) (cause : RefusedCause) → asked ≡ Some command
      → source.before ≡ Some bytes → length bytes ≤ script_limit → IsRefused command bytes line cause
      → (Failed source → ⊥) → (status ≡ Refused line cause) ⊎ (status ≡ NoMemory)
  -- a schedule that is stuck gets its letter, unless source or memory fail
  pub stuck : (command : Command) (bytes : List ℕ) (letter : ℕ) → asked ≡ Some command
      → source.before ≡ Some bytes → length bytes ≤ script_limit → IsStuck command bytes letter
      → (Failed source → ⊥) → (status ≡ Stuck letter) ⊎ (status ≡ NoMemory)
