-- A take keeps that a leg follows the play.
use Rattle.std.proofs.Common.{◌≡◌, ℕ, zero, suc, ◌+◌, ◌*◌, ◌/◌, ◌≤◌, ◌⊎◌, inl, inr, ℤ, Bool, true, false, List, [], ◌∷◌, ◌++◌, length, drop, refl, sym, ap, subst, ◌∙◌, arith, ⊎_elim, add-one}
use Rattle.std.proofs.lemmas.List.{get_or_append_left, get_or_at, length-append, length-drop}
use Rattle.tri_base.specs.declared.leg.Leg.{Leg}
use Rattle.tri_base.specs.declared.leg.Side.{Side}
use Rattle.tri_base.specs.declared.leg.Side.TheVariants.{Left, Right}
use Rattle.tri_base.specs.declared.leg.Triple.{Triple}
use Rattle.engine_face.specs.Meaning.{Meaning}
use Rattle.fault_history.specs.Notes.{NoteData}
use Rattle.script_text.specs.LegScans.{LegScan}
use Rattle.leg_laws.specs.declared.need.Need.TheVariants.{Take}
use Rattle.leg_laws.specs.declared.place.Place.{Place}
use Rattle.leg_laws.specs.declared.place.Place.TheVariants as p
use Rattle.leg_laws.specs.Plays.{Play, scan_behind}
use Rattle.leg_laws.specs.Rounds.{Standing, Stand, Before, Within, put_in, round, round_at}
use Rattle.leg_laws.specs.Places.{need_at, next_place, finished_after, served}
use Rattle.leg_laws.specs.Configs.{Config, LegValue, PutLeftReadings, PutRightReadings, TakeLeftReadings, TakeRightReadings, PutLeftResult, PutRightResult, TakeLeftResult, TakeRightResult, Starved, place_of, need_of, starves, is_starved, scan_now, noted}
use Rattle.leg_laws.specs.Needs.{config_after_take, marks_after_take, notes_after_take, after_take, starved}
use Rattle.leg_laws.specs.ExchangeSteps.{Takes}
use Rattle.leg_laws.specs.Counts.{rounds_done, served_in_round}
use Rattle.leg_laws.specs.SentTaken.{SentTaken, packet_of, by_taken, taken_more, config_of, PutsIn, StandsAt, Follows}
use Rattle.leg_laws.proofs.CutTakes.{left_take, right_take}
use Rattle.leg_laws.proofs.Moves.{At, GoesOn, at_take, place_take, starves_take, starved_goes, left_adds, right_adds, left_rounds, right_rounds, rounds_next, counted_take, one_most, put_is_take, scan_there, take_other, true_is_false}

-- ---- what was taken before stays

module _ (m : Meaning) (play : Play) (leg : Leg) (l : SentTaken) (packet : List ℤ) where
  abbrev lefts : SentTaken
  lefts = taken_more Left packet l

  abbrev rights : SentTaken
  rights = taken_more Right packet l

  by_taken_left : (r : ℕ) → r ≤ length l.taken_left → by_taken m play leg lefts r ≡ by_taken m play leg l r
  unfolding by_taken
  by_taken_left zero h = refl
  by_taken_left (suc r) h =
      let e = get_or_append_left l.taken_left (packet ∷ []) [] r h in
      λ i. round m play leg (by_taken_left r (omega (arith, h)) i) (e i) (packet_of l.taken_right r)

  by_taken_right : (r : ℕ) → r ≤ length l.taken_right → by_taken m play leg rights r ≡ by_taken m play leg l r
  unfolding by_taken
  by_taken_right zero h = refl
  by_taken_right (suc r) h =
      let e = get_or_append_left l.taken_right (packet ∷ []) [] r h in
      λ i. round m play leg (by_taken_right r (omega (arith, h)) i) (packet_of l.taken_left r) (e i)

  puts_left : (bound : ℕ) → length l.sent_left ≤ length l.taken_left + 1 → length l.sent_right ≤ length l.taken_left + 1
      → PutsIn m play leg l bound → PutsIn m play leg lefts bound
  puts_left bound a b f Left r rb h =
      f Left r rb h ∙ ap (λ s. put_in play leg Left s) (sym (by_taken_left r (omega (arith, a, h))))
  puts_left bound a b f Right r rb h =
      f Right r rb h ∙ ap (λ s. put_in play leg Right s) (sym (by_taken_left r (omega (arith, b, h))))

  puts_right : (bound : ℕ) → length l.sent_left ≤ length l.taken_right + 1
      → length l.sent_right ≤ length l.taken_right + 1 → PutsIn m play leg l bound → PutsIn m play leg rights bound
  puts_right bound a b f Left r rb h =
      f Left r rb h ∙ ap (λ s. put_in play leg Left s) (sym (by_taken_right r (omega (arith, a, h))))
  puts_right bound a b f Right r rb h =
      f Right r rb h ∙ ap (λ s. put_in play leg Right s) (sym (by_taken_right r (omega (arith, b, h))))

  by_taken_next : (ls : SentTaken) (r : ℕ) → by_taken m play leg ls (r + 1)
      ≡ round m play leg (by_taken m play leg ls r) (packet_of ls.taken_left r) (packet_of ls.taken_right r)
  unfolding by_taken
  by_taken_next ls r = rw add-one

-- ---- a leg that is fed has a note of each scan

round_number : (m : Meaning) (play : Play) (leg : Leg) (s : Standing) (left right : List ℤ) (stand : Stand)
    → length s.notes ≡ s.finished
    → length (round_at m play leg s left right stand).notes ≡ (round_at m play leg s left right stand).finished
round_number m play leg s left right (Before state) h = h
round_number m play leg s left right (Within half) h = length-append s.notes _ ∙ ap (λ k. k + 1) h

notes_number : (m : Meaning) (play : Play) (leg : Leg) (l : SentTaken) (r : ℕ)
    → length (by_taken m play leg l r).notes ≡ (by_taken m play leg l r).finished
unfolding by_taken
notes_number m play leg l zero = refl
notes_number m play leg l (suc r) =
    let s = by_taken m play leg l r in
    round_number m play leg s (packet_of l.taken_left r) (packet_of l.taken_right r) s.stand
    (notes_number m play leg l r)

halves : (place : Place) → need_at place ≡ Take Right
    → (served (next_place place) / 4 ≡ 0) ⊎ (place ≡ p.TakeRightReadings)
halves p.TakeRightReadings n = inr refl
halves p.TakeRightResult n = inl refl
halves p.PutLeftReadings n = absurd (put_is_take Left Right n)
halves p.PutRightReadings n = absurd (put_is_take Right Right n)
halves p.TakeLeftReadings n = absurd (take_other n)
halves p.PutLeftResult n = absurd (put_is_take Left Right n)
halves p.PutRightResult n = absurd (put_is_take Right Right n)
halves p.TakeLeftResult n = absurd (take_other n)

other_place : p.TakeRightResult ≡ p.TakeRightReadings → ⊥
other_place e = cc

no_note : (m : Meaning) (leg : Leg) (l : LegScan) (packet : List ℤ) (marks : List (Triple ℕ)) (notes : List NoteData)
    (c : Config) → place_of c ≡ p.TakeRightReadings → notes_after_take m leg l packet marks notes c ≡ notes
no_note m leg l packet marks notes (TakeRightResult half left) e = absurd (other_place e)
no_note m leg l packet marks notes (PutLeftReadings state) e = refl
no_note m leg l packet marks notes (PutRightReadings ready) e = refl
no_note m leg l packet marks notes (TakeLeftReadings ready) e = refl
no_note m leg l packet marks notes (TakeRightReadings ready left) e = refl
no_note m leg l packet marks notes (PutLeftResult half) e = refl
no_note m leg l packet marks notes (PutRightResult half) e = refl
no_note m leg l packet marks notes (TakeLeftResult half) e = refl
no_note m leg l packet marks notes (Starved place) e = refl

module _ (m : Meaning) (play : Play) (v : LegValue) (l : SentTaken) (packet : List ℤ) (f : Follows m play v l) where
  sent_left_most : length l.sent_left ≤ rounds_done v + 1
  sent_left_most = omega (arith, f.counted.sent_left, one_most 1 (served_in_round v))

  sent_right_most : length l.sent_right ≤ rounds_done v + 1
  sent_right_most = omega (arith, f.counted.sent_right, one_most 2 (served_in_round v))

  early : 2 * noted v ≤ rounds_done v
  early = omega (arith, f.behind)

  -- where the leg stands, by what it took
  abbrev here : Standing
  here = by_taken m play v.leg l (rounds_done v)

  abbrev lines : LegScan
  lines = scan_behind play v.leg here.finished

  abbrev last : List ℤ
  last = packet_of l.taken_left (rounds_done v)

  -- the notes that are left of so many rounds
  abbrev notes_by : SentTaken → ℕ → List NoteData
  notes_by ls r = drop v.given (by_taken m play v.leg ls r).notes

  fits : is_starved v ≡ false → starves (config_of m lines last (place_of v.config) here.stand) ≡ false
  fits h = sym (ap starves (f.stands h).config) ∙ h

  -- ---- from the left

  module _ (at : At v (Take Left)) where
    full_left : length l.taken_left ≡ rounds_done v
    full_left =
        let a = left_adds (place_of v.config) at.need_is in omega (arith, f.counted.taken_left, a.before)

    puts_on_left : (bound : ℕ) → PutsIn m play v.leg l bound → PutsIn m play v.leg (taken_more Left packet l) bound
    puts_on_left bound = puts_left m play v.leg l packet bound
        (omega (arith, sent_left_most, full_left)) (omega (arith, sent_right_most, full_left))

    same_left : (r : ℕ) → r ≤ rounds_done v → notes_by l r ≡ notes_by (taken_more Left packet l) r
    same_left r h =
        ap (λ (x : Standing). drop v.given x.notes)
        (sym (by_taken_left m play v.leg l packet r (omega (arith, h, full_left))))

    fed_left : is_starved v ≡ false → Follows m play (after_take m v packet) (taken_more Left packet l)
    fed_left h =
        let w : LegValue = after_take m v packet in
        let ls : SentTaken = taken_more Left packet l in
        let at_here = f.stands h in
        let scan = scan_there play v here f.tape at_here.finished in
        let t = left_take m v.points v.leg lines last packet (place_of v.config) here.stand at.need_is (fits h) in
        let a = left_adds (place_of v.config) at.need_is in
        let place = place_take m v (scan_now v) packet v.config Left at.need_is in
        let goes : GoesOn v w = record { finished = refl; place = place; scans = refl } in
        let r : rounds_done w ≡ rounds_done v = left_rounds v w at goes in
        let same : by_taken m play v.leg ls (rounds_done w) ≡ here =
        ap (λ k. by_taken m play v.leg ls k) r
        ∙ by_taken_left m play v.leg l packet (rounds_done v) (omega (arith, full_left)) in
        let marks : w.marks ≡ v.marks =
        (λ i. marks_after_take v.points v.leg (scan i) packet v.marks (at_here.config i)) ∙ t.marks v.marks in
        let notes : w.notes ≡ v.notes =
        (λ i. notes_after_take m v.leg (scan i) packet v.marks v.notes (at_here.config i)) ∙ t.notes v.marks v.notes in
        let count : noted w ≡ noted v = ap (λ (ns : List NoteData). v.given + length ns) notes in
        let new : packet_of (l.taken_left ++ packet ∷ []) (rounds_done w) ≡ packet =
        get_or_at l.taken_left packet [] [] (rounds_done w) (full_left ∙ sym r) in
        record {
          points = f.points;
          tape = f.tape;
          counted = counted_take v w l Left packet f.counted at goes;
          puts = λ g bound. puts_on_left bound (f.puts h bound);
          stands = λ g. subst (λ (x : Standing). StandsAt m play w ls x) (sym same) (record {
            given = at_here.given;
            notes = notes ∙ at_here.notes;
            marks = marks ∙ at_here.marks;
            finished = a.finished v.finished ∙ at_here.finished;
            config = (λ i. config_after_take m v.points v.leg (scan i) packet (at_here.config i))
                ∙ (t.config ∙ (λ i. config_of m lines (sym new i) (sym place i) here.stand));
          });
          behind = omega (arith, f.behind, count, a.finished v.finished);
          early_puts = puts_on_left (2 * noted w) (f.puts h (2 * noted w));
          early_notes = notes ∙ (f.early_notes ∙ ((λ i. notes_by l (2 * sym count i))
              ∙ same_left (2 * noted w) (omega (arith, early, count))));
        }

    empty_left : Follows m play (starved v) (taken_more Left packet l)
    empty_left =
        let a = left_adds (place_of v.config) at.need_is in
        record {
          points = f.points;
          tape = f.tape;
          counted = counted_take v (starved v) l Left packet f.counted at (starved_goes v);
          puts = λ g. absurd (true_is_false g);
          stands = λ g. absurd (true_is_false g);
          behind = omega (arith, f.behind, a.finished v.finished);
          early_puts = puts_on_left (2 * noted v) f.early_puts;
          early_notes = f.early_notes ∙ same_left (2 * noted v) early;
        }

  -- ---- from the right

  module _ (at : At v (Take Right)) where
    puts_on_right : (bound : ℕ) → PutsIn m play v.leg l bound → PutsIn m play v.leg (taken_more Right packet l) bound
    puts_on_right bound = puts_right m play v.leg l packet bound
        (omega (arith, sent_left_most, f.counted.taken_right)) (omega (arith, sent_right_most, f.counted.taken_right))

    same_right : (r : ℕ) → r ≤ rounds_done v → notes_by l r ≡ notes_by (taken_more Right packet l) r
    same_right r h =
        ap (λ (x : Standing). drop v.given x.notes)
        (sym (by_taken_right m play v.leg l packet r (omega (arith, h, f.counted.taken_right))))

    empty_right : Follows m play (starved v) (taken_more Right packet l)
    empty_right =
        let a = right_adds (place_of v.config) at.need_is in
        record {
          points = f.points;
          tape = f.tape;
          counted = counted_take v (starved v) l Right packet f.counted at (starved_goes v);
          puts = λ g. absurd (true_is_false g);
          stands = λ g. absurd (true_is_false g);
          behind = omega (arith, f.behind, a.on v.finished);
          early_puts = puts_on_right (2 * noted v) f.early_puts;
          early_notes = f.early_notes ∙ same_right (2 * noted v) early;
        }

    -- where the leg stands after the round
    abbrev there : Standing
    there = round_at m play v.leg here last packet here.stand

    goes : GoesOn v (after_take m v packet)
    goes = record {
      finished = refl;
      place = place_take m v (scan_now v) packet v.config Right at.need_is;
      scans = refl;
    }

    is_there : by_taken m play v.leg (taken_more Right packet l) (rounds_done (after_take m v packet)) ≡ there
    is_there =
        let ls : SentTaken = taken_more Right packet l in
        let full : length l.taken_right ≡ rounds_done v = f.counted.taken_right in
        let new : packet_of (l.taken_right ++ packet ∷ []) (rounds_done v) ≡ packet =
        get_or_at l.taken_right packet [] [] (rounds_done v) full in
        let before = by_taken_right m play v.leg l packet (rounds_done v) (omega (arith, full)) in
        ap (λ k. by_taken m play v.leg ls k) (right_rounds v (after_take m v packet) at goes)
        ∙ (by_taken_next m play v.leg l packet ls (rounds_done v)
        ∙ (λ i. round m play v.leg (before i) last (new i)))

    stands_there : is_starved v ≡ false → StandsAt m play (after_take m v packet) (taken_more Right packet l) there
    stands_there h =
        let at_here = f.stands h in
        let scan = scan_there play v here f.tape at_here.finished in
        let t = right_take m play v.leg here last packet (place_of v.config) here.stand at.need_is (fits h) in
        let next : LegScan = scan_behind play v.leg there.finished in
        let other : List ℤ = packet_of l.taken_left (rounds_done (after_take m v packet)) in
        record {
          given = t.given v.given at_here.given;
          notes = (λ i.
              notes_after_take m v.leg (scan i) packet (at_here.marks i) (at_here.notes i) (at_here.config i))
              ∙ t.notes v.given at_here.given;
          marks = (λ i. marks_after_take (f.points i) v.leg (scan i) packet (at_here.marks i) (at_here.config i))
              ∙ t.marks;
          finished = ap (finished_after (place_of v.config)) at_here.finished ∙ t.finished;
          config = (λ i. config_after_take m (f.points i) v.leg (scan i) packet (at_here.config i))
              ∙ (t.config next other ∙ (λ i. config_of m next other (sym goes.place i) there.stand));
        }

    -- all scans are noted
    all_noted : is_starved v ≡ false → noted (after_take m v packet) ≡ (after_take m v packet).finished
    all_noted h =
        let s = stands_there h in
        let number : length there.notes ≡ there.finished =
        round_number m play v.leg here last packet here.stand (notes_number m play v.leg l (rounds_done v)) in
        omega (arith, ap length s.notes, length-drop v.given there.notes, s.given, number, s.finished)

    -- the notes that were made before, or all of them at the end of a scan
    right_notes : (h : is_starved v ≡ false)
        → (after_take m v packet).notes ≡ notes_by (taken_more Right packet l) (2 * noted (after_take m v packet))
    right_notes h = ⊎_elim
        (λ (z : served (next_place (place_of v.config)) / 4 ≡ 0).
        let w : LegValue = after_take m v packet in
        let whole : 2 * noted w ≡ rounds_done w =
        ap (λ k. 2 * k) (all_noted h) ∙ omega (arith, z, rounds_next v w goes) in
        (stands_there h).notes
        ∙ ap (λ (x : Standing). drop v.given x.notes)
        (sym is_there ∙ ap (λ k. by_taken m play v.leg (taken_more Right packet l) k) (sym whole)))
        (λ (z : place_of v.config ≡ p.TakeRightReadings).
        let w : LegValue = after_take m v packet in
        let kept : w.notes ≡ v.notes = no_note m v.leg (scan_now v) packet v.marks v.notes v.config z in
        let number : noted w ≡ noted v = ap (λ (ns : List NoteData). v.given + length ns) kept in
        kept ∙ (f.early_notes ∙ ((λ i. notes_by l (2 * sym number i))
        ∙ same_right (2 * noted w) (omega (arith, early, number)))))
        (halves (place_of v.config) at.need_is)

    fed_right : is_starved v ≡ false → Follows m play (after_take m v packet) (taken_more Right packet l)
    fed_right h =
        let w : LegValue = after_take m v packet in
        record {
          points = f.points;
          tape = f.tape;
          counted = counted_take v w l Right packet f.counted at goes;
          puts = λ g bound. puts_on_right bound (f.puts h bound);
          stands = λ g. subst (λ (x : Standing). StandsAt m play w (taken_more Right packet l) x) (sym is_there)
              (stands_there h);
          behind = omega (arith, all_noted h);
          early_puts = puts_on_right (2 * noted w) (f.puts h (2 * noted w));
          early_notes = right_notes h;
        }

-- ---- both

-- a take of a fed leg, or of a starved one
either : (m : Meaning) (play : Play) (v v' : LegValue) (l : SentTaken) (packet : List ℤ) → Takes m v v' packet
    → (is_starved v ≡ false → Follows m play (after_take m v packet) l) → Follows m play (starved v) l
    → Follows m play v' l
either m play v v' l packet takes fed empty = by (is_starved v') refl
  where
    by : (t : Bool) → is_starved v' ≡ t → Follows m play v' l
    by false h =
        let was : is_starved v ≡ false =
        sym (starves_take m v (scan_now v) packet v.config) ∙ (sym (ap is_starved (takes.fed h)) ∙ h) in
        subst (λ (w : LegValue). Follows m play w l) (sym (takes.fed h)) (fed was)
    by true h = subst (λ (w : LegValue). Follows m play w l) (sym (takes.out h)) empty

pub followed_take : (m : Meaning) (play : Play) (v v' : LegValue) (l : SentTaken) (side : Side) (packet : List ℤ)
    → Follows m play v l → need_of v ≡ Take side → Takes m v v' packet → Follows m play v' (taken_more side packet l)
followed_take m play v v' l Left packet f need takes =
    let at = at_take v Left need in
    either m play v v' (taken_more Left packet l) packet takes
    (λ h. fed_left m play v l packet f at h) (empty_left m play v l packet f at)
followed_take m play v v' l Right packet f need takes =
    let at = at_take v Right need in
    either m play v v' (taken_more Right packet l) packet takes
    (λ h. fed_right m play v l packet f at h) (empty_right m play v l packet f at)
