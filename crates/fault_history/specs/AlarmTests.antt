-- The alarms of a scan. Own rule.
use Rattle.std.specs.Prelude.{ℤ, Bool, true, false, not, ◌&&◌, ◌||◌, List, Option, Some, None}
use Rattle.std.specs.Cmp.Lexicographic.{pointwise}
use Rattle.std.specs.Ordering.{int_eq}
use Rattle.tri_base.specs.declared.judged.Judged.{Judged}
use Rattle.tri_base.specs.declared.judged.Judged.TheVariants.{Agrees, Accuses, Minority, NoVote, Waiting, Learned, Ready, Rejected}
use Rattle.vote_discrete.specs.Majority.{two_of_three}
use Rattle.fault_history.specs.declared.alarms.Alarms.{Alarms}
use Rattle.fault_history.specs.Notes.{NoteData}

-- A leg's result equals both its neighbours'.
abbrev pub agrees : Judged → Bool
agrees Agrees = true
agrees (Accuses leg) = false
agrees Minority = false
agrees NoVote = false
agrees Waiting = false
agrees (Learned windows) = false
agrees Ready = false
agrees Rejected = false

-- A leg drives these very values.
abbrev pub drives : List ℤ → Option (List ℤ) → Bool
drives out None = false
drives out (Some words) = pointwise int_eq words out

-- From the three legs' notes and the voted outputs: a main processor that doesn't agree, a marked input, a drive that
-- is absent or differs from the outputs, and the flag ARITH of two legs.
abbrev pub alarms_of : (a b c : NoteData) (out : List ℤ) → Alarms
alarms_of a b c out = record {
  mp = not (agrees a.judged && agrees b.judged && agrees c.judged);
  input = a.marked || b.marked || c.marked;
  output = not (drives out a.drive && drives out b.drive && drives out c.drive);
  arith = two_of_three a.arith b.arith c.arith;
}
