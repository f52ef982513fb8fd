-- What holds of every play. The laws of the module `laws` are these. Own rule.
use Rattle.std.specs.Prelude.{◌≡◌, ◌↔◌, ℕ, ℤ, ◌≤◌, true, List, [], ◌∷◌, ◌++◌, length, None}
use Rattle.tri_base.specs.declared.leg.Leg.{Leg}
use Rattle.tri_base.specs.declared.leg.Side.{Side}
use Rattle.tri_base.specs.declared.leg.Triple.{Triple}
use Rattle.tri_base.specs.declared.point.Point.{Point}
use Rattle.tri_base.specs.Legs.{leg_part}
use Rattle.engine_face.specs.Meaning.{Meaning}
use Rattle.engine_face.specs.Laws.{IsMeaning}
use Rattle.fault_history.specs.Notes.{NoteData}
use Rattle.script_text.specs.ScriptValue.{ScriptValue}
use Rattle.leg_laws.specs.declared.need.Need.TheVariants.{Put, Take}
use Rattle.leg_laws.specs.States.{IsState}
use Rattle.leg_laws.specs.Plays.{Play, HaveEqualScans, IsPlayable, play_of}
use Rattle.leg_laws.specs.Rounds.{in_step, state_after}
use Rattle.leg_laws.specs.ThreeScans.{IsNextScan}
use Rattle.leg_laws.specs.Configs.{LegValue, is_starved, need_of}
use Rattle.leg_laws.specs.Needs.{starved}
use Rattle.leg_laws.specs.Exchanges.{AllDone, Exchange, first_enabled}
use Rattle.leg_laws.specs.ExchangeSteps.{ExchangeStep, IsReached, Puts, Reaches, Takes, exchange_at_start, leg_at_start}
use Rattle.leg_laws.specs.Counts.{IsCounted}
use Rattle.leg_laws.specs.SentTaken.{Follows, SentTaken, TakesNote, by_taken, nothing_sent, sent_more, taken_more}
use Rattle.leg_laws.specs.Links.{HaveFollowed, HavePlayed, Honest, IsSettled, Joined, Linked}
use Rattle.leg_laws.specs.InStep.{IsInStep}

-- ---- for every list of steps

-- Whatever leg steps when, the legs' notes, endings and disagreements are those of the three in step.
abbrev pub StayInStep : Type 0
StayInStep =
    (m : List Point → Meaning) (play : Play) (steps : List Leg) (w : Exchange)
    → HaveEqualScans play → IsReached m play steps w → IsInStep (m play.points) play (leg_part w.legs)

-- The tapes of a script have equal numbers of scans, so this holds of its play.
abbrev pub ScriptsStayInStep : Type 0
ScriptsStayInStep =
    (m : List Point → Meaning) (v : ScriptValue) (steps : List Leg) (w : Exchange)
    → IsReached m (play_of v) steps w → IsInStep (m v.points) (play_of v) (leg_part w.legs)

-- Whatever leg stepped when, no step is enabled exactly where the last scan of each leg is over.
abbrev pub NeverStuck : Type 0
NeverStuck =
    (m : List Point → Meaning) (play : Play) (steps : List Leg) (w : Exchange)
    → HaveEqualScans play → IsReached m play steps w → (first_enabled w ≡ None) ↔ AllDone w

-- A step behind a list of steps makes a list with one more.
abbrev pub StepsGoOn : Type 0
StepsGoOn =
    (m : List Point → Meaning) (steps : List Leg) (leg : Leg) (w u w' : Exchange)
    → Reaches m w steps u → ExchangeStep m u leg w' → Reaches m w (steps ++ leg ∷ []) w'

-- ---- the counts of packets

-- They fit at the start.
abbrev pub StartsCounted : Type 0
StartsCounted = (m : Meaning) (play : Play) → HaveEqualScans play → IsCounted (exchange_at_start m play)

-- Each step keeps them.
abbrev pub StepsKeepCounts : Type 0
StepsKeepCounts =
    (m : List Point → Meaning) (w w' : Exchange) (leg : Leg) → IsCounted w → ExchangeStep m w leg w' → IsCounted w'

-- Where they fit, no step is enabled exactly where the last scan of each leg is over.
abbrev pub NoneIsStuck : Type 0
NoneIsStuck = (w : Exchange) → IsCounted w → (first_enabled w ≡ None) ↔ AllDone w

-- ---- a leg by itself

-- At its start a leg follows the play.
abbrev pub StartsFollowing : Type 0
StartsFollowing = (m : Meaning) (play : Play) (leg : Leg) → Follows m play (leg_at_start m play leg) nothing_sent

-- A put keeps that.
abbrev pub PutsKeepFollowing : Type 0
PutsKeepFollowing =
    (m : Meaning) (play : Play) (v v' : LegValue) (l : SentTaken) (side : Side) (packet : List ℤ)
    → Follows m play v l → need_of v ≡ Put side → Puts m v v' packet → Follows m play v' (sent_more side packet l)

-- So does a take.
abbrev pub TakesKeepFollowing : Type 0
TakesKeepFollowing =
    (m : Meaning) (play : Play) (v v' : LegValue) (l : SentTaken) (side : Side) (packet : List ℤ)
    → Follows m play v l → need_of v ≡ Take side → Takes m v v' packet → Follows m play v' (taken_more side packet l)

-- And so does taking away a note.
abbrev pub NotesTakenKeepFollowing : Type 0
NotesTakenKeepFollowing =
    (m : Meaning) (play : Play) (v v' : LegValue) (l : SentTaken) (note : NoteData)
    → Follows m play v l → TakesNote v note v' → Follows m play v' l

-- A leg that found no memory puts absent packets and takes, need by need.
abbrev pub GoesOnStarved : Type 0
GoesOnStarved =
    (m : Meaning) (v v' : LegValue) (packet : List ℤ) → is_starved v ≡ true
    → (Puts m v v' packet → (packet ≡ []) × (v' ≡ starved v)) × (Takes m v v' packet → v' ≡ starved v)

-- Whatever leg steps when, it stays starved.
abbrev pub StaysStarved : Type 0
StaysStarved =
    (m : List Point → Meaning) (steps : List Leg) (w w' : Exchange) (leg : Leg) → Reaches m w steps w'
    → is_starved (leg_part w.legs leg) ≡ true → is_starved (leg_part w'.legs leg) ≡ true

-- ---- three legs by their packets

-- Whatever leg stepped when, there are packets on which each leg follows the play, and which the boxes join.
abbrev pub StayJoined : Type 0
StayJoined =
    (m : List Point → Meaning) (play : Play) (steps : List Leg) (w : Exchange)
    → IsReached m play steps w → (t : Triple SentTaken) × Joined (m play.points) play w t

-- By what they took, linked legs stand where the three in step stand.
abbrev pub HaveOnePlay : Type 0
HaveOnePlay =
    (m : Meaning) (play : Play) (ls : Leg → SentTaken) (rounds : ℕ) → Linked ls → Honest m play ls rounds
    → (r : ℕ) (x : Leg) → r ≤ rounds → r ≤ length (ls x).taken_left → r ≤ length (ls x).taken_right
    → by_taken m play x (ls x) r ≡ in_step m play x r

-- Legs that followed a play to its end over settled links have played in step.
abbrev pub SettledHavePlayed : Type 0
SettledHavePlayed =
    (m : Meaning) (play : Play) (vs : Leg → LegValue) (ls : Leg → SentTaken) (left : Leg → Side → List (List ℤ))
    → HaveEqualScans play → HaveFollowed m play vs ls → IsSettled ls left → HavePlayed m play vs left

-- ---- scans in step

-- Two rounds of the three in step are one scan of three legs.
abbrev pub RoundsAreScans : Type 0
RoundsAreScans = (m : Meaning) (play : Play) (scans : ℕ) (leg : Leg) → IsNextScan m play scans leg

-- In step each leg has at all times what a state has to have, calm or not.
abbrev pub StatesAreKept : Type 0
StatesAreKept =
    (m : Meaning) (play : Play) → IsMeaning play.points m → IsPlayable m play
    → (scans : ℕ) (leg : Leg) → IsState m (state_after m play scans leg)
