-- Two rounds of three legs in step are one scan.
use Rattle.std.proofs.Common.{◌≡◌, ℕ, zero, suc, ℤ, ◌+◌, ◌*◌, List, [], ◌∷◌, ◌++◌, refl, sym, ap, subst, ◌∙◌, arith}
use Rattle.tri_base.specs.declared.leg.Leg.{Leg}
use Rattle.tri_base.specs.declared.leg.Side.{Side}
use Rattle.tri_base.specs.declared.leg.Side.TheVariants.{Left, Right}
use Rattle.tri_base.specs.declared.leg.Triple.{Triple}
use Rattle.tri_base.specs.Legs.{left_of, right_of}
use Rattle.engine_face.specs.Meaning.{Meaning}
use Rattle.fault_history.specs.Notes.{NoteData}
use Rattle.input_legs.specs.Marks.{has_mark, note_of}
use Rattle.plant_script.specs.Faces.{face}
use Rattle.leg_laws.specs.States.{State}
use Rattle.leg_laws.specs.ChangePoint.{prepared}
use Rattle.leg_laws.specs.HalfScans.{HalfScan, half_scan, result_towards, voted_packets}
use Rattle.leg_laws.specs.Closing.{Closed, closed, scan_note}
use Rattle.leg_laws.specs.Plays.{Play, scan_behind}
use Rattle.leg_laws.specs.Rounds.{Stand, Before, Within, Standing, round, round_at, in_step, after_scans, put_in, put_at, state_of, state_after}
use Rattle.leg_laws.specs.ThreeScans.{IsNextScan, scans_behind, half_at, from_left, from_right, closed_at, marks_at}

-- A leg stands before a scan, with so many finished.
pub record IsBefore (s : Standing) (k : ℕ) (state : State) : Type 0 where
  pub stand : s.stand ≡ Before state
  pub finished : s.finished ≡ k

-- A leg stands within the scan.
record IsWithin (s : Standing) (k : ℕ) (half : HalfScan) (ns : List NoteData) (ms : List (Triple ℕ)) : Type 0 where
  stand : s.stand ≡ Within half
  finished : s.finished ≡ k
  notes : s.notes ≡ ns
  marks : s.marks ≡ ms

-- A leg stands behind it.
record IsAfter (s : Standing) (k : ℕ) (half : HalfScan) (end : Closed) (ns : List NoteData) (ms : List (Triple ℕ))
    : Type 0 where
  stand : s.stand ≡ Before end.state
  finished : s.finished ≡ k
  notes : s.notes ≡ ns ++ scan_note half end (has_mark ms) ∷ []
  marks : s.marks ≡ ms

module _ (m : Meaning) (play : Play) where
  -- What a leg makes of the first round of a scan.
  abbrev half_by : (x : Leg) (k : ℕ) → State → (a b : List ℤ) → HalfScan
  half_by x k state a b = half_scan m play.points x (scan_behind play x k) (prepared m (scan_behind play x k) state) a b

  -- Its disagreements behind it.
  abbrev marks_by : (x : Leg) (k : ℕ) → (a b : List ℤ) → List (Triple ℕ) → List (Triple ℕ)
  marks_by x k a b marks = note_of play.points (voted_packets x (scan_behind play x k) a b) marks

  first_round : (x : Leg) (s : Standing) (k : ℕ) (state : State) (a b : List ℤ) → IsBefore s k state
      → IsWithin (round m play x s a b) k (half_by x k state a b) s.notes (marks_by x k a b s.marks)
  first_round x s k state a b h =
      let there : Stand → ℕ → Type 0 = λ u n.
      IsWithin (round_at m play x s a b u) k (half_by x n state a b) s.notes (marks_by x n a b s.marks) in
      subst (λ u. there u k) (sym h.stand) (subst (λ n. there (Before state) n) h.finished
      (record { stand = refl; finished = h.finished; notes = refl; marks = refl }))

  second_round : (x : Leg) (s : Standing) (k : ℕ) (half : HalfScan) (notes : List NoteData) (marks : List (Triple ℕ))
      (a b : List ℤ) → IsWithin s k half notes marks
      → IsAfter (round m play x s a b) (k + 1) half (closed m x (scan_behind play x k) half a b) notes marks
  second_round x s k half notes marks a b h =
      let end : ℕ → Closed = λ n. closed m x (scan_behind play x n) half a b in
      let there : Stand → ℕ → Type 0 = λ u n. IsAfter (round_at m play x s a b u) (k + 1) half (end n) notes marks in
      subst (λ u. there u k) (sym h.stand) (subst (λ n. there (Within half) n) h.finished (record {
        stand = refl;
        finished = ap (λ n. n + 1) h.finished;
        notes = λ i. h.notes i ++ scan_note half (end s.finished) (has_mark (h.marks i)) ∷ [];
        marks = h.marks;
      }))

  put_before : (y : Leg) (side : Side) (s : Standing) (k : ℕ) (state : State) → IsBefore s k state
      → put_in play y side s ≡ face side (scan_behind play y k)
  put_before y side s k state h = λ i. put_at (scan_behind play y (h.finished i)) side (h.stand i)

  put_within : (y : Leg) (side : Side) (s : Standing) (k : ℕ) (half : HalfScan) (notes : List NoteData)
      (marks : List (Triple ℕ)) → IsWithin s k half notes marks
      → put_in play y side s ≡ result_towards side (scan_behind play y k) half
  put_within y side s k half notes marks h = λ i. put_at (scan_behind play y (h.finished i)) side (h.stand i)

  -- Each leg stands before a scan, in its state.
  abbrev AllBefore : ℕ → (Leg → State) → Type 0
  AllBefore k states = (x : Leg) → IsBefore (in_step m play x (2 * k)) k (states x)

  -- Each leg's half of the scan, its end and its disagreements.
  abbrev half_in : ℕ → (Leg → State) → Leg → HalfScan
  half_in k states x = half_at m play.points (scans_behind play k) states x

  abbrev closed_in : ℕ → (Leg → State) → Leg → Closed
  closed_in k states x = closed_at m play.points (scans_behind play k) states x

  abbrev marks_in : ℕ → Leg → List (Triple ℕ)
  marks_in k x = marks_at play.points (scans_behind play k) x (after_scans m play x k).marks

  -- Each leg stands within the scan as the three legs do.
  abbrev AllWithin : ℕ → (Leg → State) → Type 0
  AllWithin k states = (x : Leg)
      → IsWithin (in_step m play x (suc (2 * k))) k (half_in k states x) (after_scans m play x k).notes (marks_in k x)

  all_within : (k : ℕ) (states : Leg → State) → AllBefore k states → AllWithin k states
  unfolding in_step
  all_within k states h x =
      let s : Standing = in_step m play x (2 * k) in
      let l : Leg = left_of x in
      let r : Leg = right_of x in
      let a = put_before l Right (in_step m play l (2 * k)) k (states l) (h l) in
      let b = put_before r Left (in_step m play r (2 * k)) k (states r) (h r) in
      subst (λ (p : List ℤ × List ℤ). IsWithin (round m play x s p.0 p.1) k (half_in k states x) s.notes (marks_in k x))
      (λ i. (sym a i, sym b i))
      (first_round x s k (states x) (face Right (scan_behind play l k)) (face Left (scan_behind play r k)) (h x))

  twice : (k : ℕ) → suc (suc (2 * k)) ≡ 2 * suc k
  twice k = omega arith

  -- The three legs have played the scan.
  abbrev HasPlayed : ℕ → (Leg → State) → Leg → Standing → Type 0
  HasPlayed k states x s =
      IsAfter s (k + 1) (half_in k states x) (closed_in k states x) (after_scans m play x k).notes (marks_in k x)

  all_after : (k : ℕ) (states : Leg → State) → AllBefore k states → (x : Leg)
      → HasPlayed k states x (in_step m play x (2 * suc k))
  unfolding in_step
  all_after k states h x =
      let w = all_within k states h in
      let s : Standing = in_step m play x (suc (2 * k)) in
      let l : Leg = left_of x in
      let r : Leg = right_of x in
      let a =
      put_within l Right (in_step m play l (suc (2 * k))) k (half_in k states l) (after_scans m play l k).notes
      (marks_in k l) (w l) in
      let b =
      put_within r Left (in_step m play r (suc (2 * k))) k (half_in k states r) (after_scans m play r k).notes
      (marks_in k r) (w r) in
      let end : HasPlayed k states x
      (round m play x s (from_left m play.points (scans_behind play k) states x)
      (from_right m play.points (scans_behind play k) states x)) =
      second_round x s k (half_in k states x) (after_scans m play x k).notes (marks_in k x)
      (from_left m play.points (scans_behind play k) states x)
      (from_right m play.points (scans_behind play k) states x) (w x) in
      subst (λ n. HasPlayed k states x (in_step m play x n)) (twice k)
      (subst (λ (p : List ℤ × List ℤ). HasPlayed k states x (round m play x s p.0 p.1)) (λ i. (sym a i, sym b i)) end)

  pub all_before : (k : ℕ) → AllBefore k (state_after m play k)
  unfolding in_step
  all_before zero x = record { stand = refl; finished = refl }
  all_before (suc k) x =
      let h = all_after k (state_after m play k) (all_before k) x in
      record { stand = h.stand ∙ sym (ap (λ u. Before (state_of u)) h.stand); finished = h.finished ∙ omega arith }

  pub next_scan : (k : ℕ) (x : Leg) → IsNextScan m play k x
  next_scan k x =
      let b = all_before k x in
      let h = all_after k (state_after m play k) (all_before k) x in
      record {
        stand = b.stand;
        finished = b.finished;
        state = ap state_of h.stand;
        marks = h.marks;
        notes =
            h.notes
            ∙
            (λ i.
            (after_scans m play x k).notes ++ scan_note (half_in k (state_after m play k) x)
            (closed_in k (state_after m play k) x) (has_mark (sym h.marks i)) ∷ []);
      }
