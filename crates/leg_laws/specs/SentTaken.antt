-- What a leg has put and taken on its sides, and how it follows a play on what it took. Own rule.
use Rattle.std.specs.Prelude.{◌≡◌, ℕ, zero, suc, ℤ, ◌*◌, ◌<◌, ◌≤◌, false, List, [], ◌∷◌, ◌++◌, length, drop, slice_index_or}
use Rattle.tri_base.specs.declared.leg.Leg.{Leg}
use Rattle.tri_base.specs.declared.leg.Side.{Side}
use Rattle.tri_base.specs.declared.leg.Side.TheVariants.{Left, Right}
use Rattle.tri_base.specs.Legs.{leg_part}
use Rattle.engine_face.specs.Meaning.{Meaning}
use Rattle.fault_history.specs.Notes.{NoteData}
use Rattle.script_text.specs.LegScans.{LegScan}
use Rattle.leg_laws.specs.declared.place.Place.{Place}
use Rattle.leg_laws.specs.declared.place.Place.TheVariants as p
use Rattle.leg_laws.specs.ChangePoint.{prepared}
use Rattle.leg_laws.specs.Plays.{Play, scan_behind}
use Rattle.leg_laws.specs.Rounds.{Stand, Before, Within, Standing, starting, put_in, round}
use Rattle.leg_laws.specs.Configs.{Config, LegValue, PutLeftReadings, PutRightReadings, TakeLeftReadings, TakeRightReadings, PutLeftResult, PutRightResult, TakeLeftResult, TakeRightResult, Starved, place_of, is_starved, noted}
use Rattle.leg_laws.specs.Counts.{rounds_done, put_left, put_right, took_left, took_right}

-- The packets, in order.
pub record SentTaken : Type 0 where
  pub sent_left : List (List ℤ)
  pub sent_right : List (List ℤ)
  pub taken_left : List (List ℤ)
  pub taken_right : List (List ℤ)

-- Nothing yet.
abbrev pub nothing_sent : SentTaken
nothing_sent = record { sent_left = []; sent_right = []; taken_left = []; taken_right = [] }

-- What was put on a side.
abbrev pub sent_on : Side → SentTaken → List (List ℤ)
sent_on Left l = l.sent_left
sent_on Right l = l.sent_right

-- One packet more is put on a side.
abbrev pub sent_more : Side → (packet : List ℤ) → SentTaken → SentTaken
sent_more Left packet l = record {
  sent_left = l.sent_left ++ packet ∷ [];
  sent_right = l.sent_right;
  taken_left = l.taken_left;
  taken_right = l.taken_right;
}
sent_more Right packet l = record {
  sent_left = l.sent_left;
  sent_right = l.sent_right ++ packet ∷ [];
  taken_left = l.taken_left;
  taken_right = l.taken_right;
}

-- One packet more is taken from a side.
abbrev pub taken_more : Side → (packet : List ℤ) → SentTaken → SentTaken
taken_more Left packet l = record {
  sent_left = l.sent_left;
  sent_right = l.sent_right;
  taken_left = l.taken_left ++ packet ∷ [];
  taken_right = l.taken_right;
}
taken_more Right packet l = record {
  sent_left = l.sent_left;
  sent_right = l.sent_right;
  taken_left = l.taken_left;
  taken_right = l.taken_right ++ packet ∷ [];
}

-- The packet of a round, counted from 0.
abbrev pub packet_of : List (List ℤ) → (round : ℕ) → List ℤ
packet_of packets round = slice_index_or packets round []

-- A leg after so many rounds, by what it took.
unfoldable pub by_taken : Meaning → Play → Leg → SentTaken → (rounds : ℕ) → Standing
by_taken m play leg l zero = starting m play
by_taken m play leg l (suc rounds) =
    round m play leg (by_taken m play leg l rounds) (packet_of l.taken_left rounds) (packet_of l.taken_right rounds)

-- Where a leg that stands so between two rounds stands at a place of the next one, with the packet that it took last
-- from its left.
abbrev pub config_of : Meaning → LegScan → (left : List ℤ) → Place → Stand → Config
config_of m l left p.PutLeftReadings (Before state) = PutLeftReadings state
config_of m l left p.PutRightReadings (Before state) = PutRightReadings (prepared m l state)
config_of m l left p.TakeLeftReadings (Before state) = TakeLeftReadings (prepared m l state)
config_of m l left p.TakeRightReadings (Before state) = TakeRightReadings (prepared m l state) left
config_of m l left p.PutLeftResult (Within half) = PutLeftResult half
config_of m l left p.PutRightResult (Within half) = PutRightResult half
config_of m l left p.TakeLeftResult (Within half) = TakeLeftResult half
config_of m l left p.TakeRightResult (Within half) = TakeRightResult half left
config_of m l left place stand = Starved place

-- How many packets a leg has put and taken, by where it stands; starved or not.
pub record CountsPackets (v : LegValue) (l : SentTaken) : Type 0 where
  pub sent_left : length l.sent_left ≡ put_left v
  pub sent_right : length l.sent_right ≡ put_right v
  pub taken_left : length l.taken_left ≡ took_left v
  pub taken_right : length l.taken_right ≡ took_right v

-- In the first rounds a leg put what it had to put, by what it took before.
abbrev pub PutsIn : Meaning → Play → Leg → SentTaken → (rounds : ℕ) → Type 0
PutsIn m play leg l rounds =
    (side : Side) (r : ℕ) → r < rounds → r < length (sent_on side l)
    → packet_of (sent_on side l) r ≡ put_in play leg side (by_taken m play leg l r)

-- A leg stands where its packets lead, with the notes that were not taken away.
pub record StandsAt (m : Meaning) (play : Play) (v : LegValue) (l : SentTaken) (s : Standing) : Type 0 where
  pub given : v.given ≤ length s.notes
  pub notes : v.notes ≡ drop v.given s.notes
  pub marks : v.marks ≡ s.marks
  pub finished : v.finished ≡ s.finished
  pub config : v.config ≡ config_of m (scan_behind play v.leg s.finished) (packet_of l.taken_left (rounds_done v))
      (place_of v.config) s.stand

-- A leg follows a play: it put what it had to put and stands where it has to stand, by what it took. Of a starved leg
-- this is said of the scans that it made a note of, and else only that the numbers of packets follow its needs.
pub record Follows (m : Meaning) (play : Play) (v : LegValue) (l : SentTaken) : Type 0 where
  pub points : v.points ≡ play.points
  pub tape : v.tape ≡ leg_part play.tapes v.leg
  pub counted : CountsPackets v l
  pub puts : is_starved v ≡ false → (rounds : ℕ) → PutsIn m play v.leg l rounds
  pub stands : is_starved v ≡ false → StandsAt m play v l (by_taken m play v.leg l (rounds_done v))
  pub behind : noted v ≤ v.finished
  pub early_puts : PutsIn m play v.leg l (2 * noted v)
  pub early_notes : v.notes ≡ drop v.given (by_taken m play v.leg l (2 * noted v)).notes

-- The first of the notes is taken away from a leg.
pub record TakesNote (v : LegValue) (note : NoteData) (v' : LegValue) : Type 0 where
  pub notes : v.notes ≡ note ∷ v'.notes
  pub given : v' ≡ record v { given = suc v.given; notes = v'.notes }
