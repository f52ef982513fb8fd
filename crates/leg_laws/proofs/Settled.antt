-- From settled links to the three in step.
use Rattle.std.proofs.Common.{◌≡◌, ℕ, ◌+◌, ◌*◌, ◌%◌, ◌≤◌, nat_lt, ℤ, List, [], ◌++◌, length, refl, ap, subst, ◌∙◌, arith}
use Rattle.std.proofs.lemmas.Bool.{ltb-false}
use Rattle.std.proofs.lemmas.List.{append-nil, length-append, nil_from_length}
use Rattle.tri_base.specs.declared.leg.Leg.{Leg}
use Rattle.tri_base.specs.declared.leg.Leg.TheVariants.{A, B, C}
use Rattle.tri_base.specs.declared.leg.Side.{Side}
use Rattle.tri_base.specs.declared.leg.Side.TheVariants.{Left, Right}
use Rattle.tri_base.specs.Legs.{left_of, right_of}
use Rattle.engine_face.specs.Meaning.{Meaning}
use Rattle.leg_laws.specs.declared.place.Place.TheVariants as p
use Rattle.leg_laws.specs.Configs.{LegValue, place_of}
use Rattle.script_text.specs.LegScans.{TapeValue}
use Rattle.leg_laws.specs.Plays.{Play, scans_of, HaveEqualScans}
use Rattle.leg_laws.specs.SentTaken.{SentTaken}
use Rattle.leg_laws.specs.Counts.{rounds_done, served_in_round, one_from}
use Rattle.leg_laws.specs.Places.{served}
use Rattle.leg_laws.specs.Links.{IsFront, Linked, IsSettled, HaveFollowed, HavePlayed}
use Rattle.leg_laws.proofs.LinkedPlays.{are_in_step, done_by, first_place}

module _ (m : Meaning) (play : Play) (vs : Leg → LegValue) (ls : Leg → SentTaken)
    (left : Leg → Side → List (List ℤ)) (same : HaveEqualScans play) (f : HaveFollowed m play vs ls)
    (s : IsSettled ls left) where
  abbrev scans : ℕ
  scans = scans_of play A

  each : (x : Leg) → scans_of play x ≡ scans
  each A = refl
  each B = same.0
  each C = same.1

  -- where a done leg stands
  record AtEnd (x : Leg) : Type 0 where
    finished : (vs x).finished ≡ scans
    place : place_of (vs x).config ≡ p.PutLeftReadings
    rounds : rounds_done (vs x) ≡ 2 * scans
    sent_left : length (ls x).sent_left ≡ 2 * scans
    sent_right : length (ls x).sent_right ≡ 2 * scans
    taken_left : length (ls x).taken_left ≡ 2 * scans
    taken_right : length (ls x).taken_right ≡ 2 * scans

  at_end : (x : Leg) → AtEnd x
  at_end x =
      let v : LegValue = vs x in
      let g = f.follows x in
      let past : length v.tape.scans ≤ v.finished =
      ltb-false v.finished (length v.tape.scans)
      (done_by (place_of v.config) (nat_lt v.finished (length v.tape.scans)) (f.done x)) in
      let most = f.within x in
      let n : length v.tape.scans ≡ scans =
      ap (λ (tape : TapeValue). length tape.scans) g.tape ∙ ap (λ (y : Leg). scans_of play y) (f.letters x) ∙ each x in
      let none : served (place_of v.config) ≡ 0 = omega (arith, past, most) in
      let is : v.finished ≡ scans = omega (arith, past, most, n) in
      let r : rounds_done v ≡ 2 * scans = omega (arith, none, is) in
      let q : served_in_round v ≡ 0 = ap (λ k. k % 4) none in
      let c = g.counted in
      record {
        finished = is;
        place = first_place (place_of v.config) none;
        rounds = r;
        sent_left = c.sent_left ∙ (λ i. r i + one_from 1 (q i)) ∙ plus scans;
        sent_right = c.sent_right ∙ (λ i. r i + one_from 2 (q i)) ∙ plus scans;
        taken_left = c.taken_left ∙ (λ i. r i + one_from 3 (q i)) ∙ plus scans;
        taken_right = c.taken_right ∙ r;
      }
    where
      plus : (n : ℕ) → 2 * n + 0 ≡ 2 * n
      plus n = omega arith

  none : (x : Leg) (side : Side) → left x side ≡ []
  none x Left =
      nil_from_length (left x Left)
      (omega (
        arith,
        (s.from_left x).0,
        length-append (ls x).taken_left (left x Left),
        (at_end x).taken_left,
        (at_end (left_of x)).sent_right,
      ))
  none x Right =
      nil_from_length (left x Right)
      (omega (
        arith,
        (s.from_right x).0,
        length-append (ls x).taken_right (left x Right),
        (at_end x).taken_right,
        (at_end (right_of x)).sent_left,
      ))

  linked : Linked ls
  linked = record {
    from_left =
        λ x.
        subst (λ (l : List (List ℤ)). IsFront l (ls (left_of x)).sent_right)
        (ap (λ (l : List (List ℤ)). (ls x).taken_left ++ l) (none x Left)
        ∙ append-nil (ls x).taken_left) (s.from_left x);
    from_right =
        λ x.
        subst (λ (l : List (List ℤ)). IsFront l (ls (right_of x)).sent_left)
        (ap (λ (l : List (List ℤ)). (ls x).taken_right ++ l) (none x Right)
        ∙ append-nil (ls x).taken_right) (s.from_right x);
  }

  pub settled_played : HavePlayed m play vs left
  settled_played = record {
    none_left = none;
    in_step = are_in_step m play vs ls f.letters f.follows linked f.within;
  }
