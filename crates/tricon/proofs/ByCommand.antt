-- What bytes come to is one output, one refusal, or one letter, by each command.
use Rattle.std.proofs.Common.{◌≡◌, ℕ, List, Option, sym, ◌∙◌}
use Rattle.tricon.specs.declared.command.Command.{Command}
use Rattle.tricon.specs.declared.command.Command.TheVariants.{Script, Matrix, Make}
use Rattle.tricon.specs.Readings.{IsOutput, IsRefused, IsStuck}
use Rattle.tricon.specs.declared.status.RefusedCause.{RefusedCause}
use Rattle.tricon.proofs.Spelled as script
use Rattle.tricon.proofs.Drawn as matrix

-- bytes have one first scan that isn't calm
pub one_end : (command : Command) (bytes : List ℕ) (a b : Option ℕ) (x y : List ℕ) → IsOutput command bytes a x → IsOutput command bytes b y → a ≡ b
one_end (Script command) bytes a b x y h k = script.one_end command bytes a b x y h k
one_end Matrix bytes a b x y h k = h.calm ∙ sym k.calm
one_end (Make number scans) bytes a b x y h k = absurd h

-- they are refused at one line for one cause
pub one_refusal : (command : Command) (bytes : List ℕ) (l m : ℕ) (c d : RefusedCause) → IsRefused command bytes l c → IsRefused command bytes m d → (l ≡ m) × (c ≡ d)
one_refusal (Script command) bytes l m c d h k = script.one_refusal bytes l m c d h k
one_refusal Matrix bytes l m c d h k = matrix.one_refusal bytes l m c d h k
one_refusal (Make number scans) bytes l m c d h k = absurd h

-- their schedule is stuck at one letter
pub one_letter : (command : Command) (bytes : List ℕ) (l m : ℕ) → IsStuck command bytes l → IsStuck command bytes m → l ≡ m
one_letter (Script command) bytes l m h k = script.one_letter command bytes l m h k
one_letter Matrix bytes l m h k = absurd h
one_letter (Make number scans) bytes l m h k = absurd h

-- bytes that have an output aren't refused
pub not_refused : (command : Command) (bytes : List ℕ) (uncalm : Option ℕ) (output : List ℕ) (line : ℕ) (cause : RefusedCause) → IsOutput command bytes uncalm output → IsRefused command bytes line cause → ⊥
not_refused (Script command) bytes uncalm output line cause h k = script.not_refused command bytes uncalm output line cause h k
not_refused Matrix bytes uncalm output line cause h k = matrix.not_refused bytes uncalm output line cause h k
not_refused (Make number scans) bytes uncalm output line cause h k = h

-- nor is their schedule stuck
pub not_stuck : (command : Command) (bytes : List ℕ) (uncalm : Option ℕ) (output : List ℕ) (letter : ℕ) → IsOutput command bytes uncalm output → IsStuck command bytes letter → ⊥
not_stuck (Script command) bytes uncalm output letter h k = script.not_stuck command bytes uncalm output letter h k
not_stuck Matrix bytes uncalm output letter h k = k
not_stuck (Make number scans) bytes uncalm output letter h k = h

-- bytes whose schedule is stuck aren't refused
pub stuck_not_refused : (command : Command) (bytes : List ℕ) (letter line : ℕ) (cause : RefusedCause) → IsStuck command bytes letter → IsRefused command bytes line cause → ⊥
stuck_not_refused (Script command) bytes letter line cause h k = script.stuck_not_refused command bytes letter line cause h k
stuck_not_refused Matrix bytes letter line cause h k = h
stuck_not_refused (Make number scans) bytes letter line cause h k = h
