-- The recorder of a play, scan by scan.
use Rattle.std.proofs.Common.{◌≡◌, ◌∙◌, ℕ, zero, suc, ◌+◌, ◌≤◌, ◌≤ℤ◌, List, [], ◌∷◌, ◌++◌, length, map, refl, ap, sym, subst, arith}
use Rattle.std.specs.List.{All, enumerate_from, fold}
use Rattle.std.proofs.lemmas.List.{length-map}
use Rattle.std.proofs.lemmas.List.Elements.{All-append, All-cons, All-nil}
use Rattle.tri_base.specs.declared.leg.Leg.TheVariants.{A}
use Rattle.tri_base.specs.declared.leg.Triple.{Triple}
use Rattle.tri_base.specs.declared.point.Point.{Point}
use Rattle.tri_base.specs.Limits.{scan_limit, scan_time_limit}
use Rattle.chassis.specs.Points.{IsChassis}
use Rattle.engine_face.specs.Meaning.{Meaning}
use Rattle.fault_history.specs.Notes.{NoteData}
use Rattle.script_text.specs.ScriptValue.{ScriptValue}
use Rattle.soe_log.specs.Plays.{TakesAScan}
use Rattle.soe_log.specs.Recording.{RecorderData, ScanShown, new_recorder, note_scan_of, recorder_after}
use Rattle.soe_log.proofs.Whole.{plays_fit}
use Rattle.leg_laws.specs.Configs.{LegValue}
use Rattle.play_report.specs.Played.{HavePlayed}
use Rattle.play_texts.specs.Events.{shown_of}
use Rattle.play_texts.specs.Inner.Noted.{first_told, told_in}
use Rattle.play_texts.proofs.Growing.{told_count, told_next}
use Rattle.play_texts.proofs.Times.{IsTime, time_fits}

map_more : {X Y : Type 0} (f : X → Y) (xs : List X) (x : X) → map f (xs ++ x ∷ []) ≡ map f xs ++ f x ∷ []
map_more f [] x = refl
map_more f (y ∷ ys) x = ap (λ l. f y ∷ l) (map_more f ys x)

-- what a recorder is shown of the first scans
abbrev pub shown_first : List Point → Triple LegValue → ℕ → List ScanShown
shown_first points legs n = map shown_of (first_told points legs n)

pub shown_next : (points : List Point) (legs : Triple LegValue) (n : ℕ)
    → shown_first points legs (n + 1) ≡ shown_first points legs n ++ shown_of (told_in points legs (n + 1)) ∷ []
shown_next points legs n =
    ap (map shown_of) (told_next points legs n)
    ∙ map_more shown_of (first_told points legs n) (told_in points legs (n + 1))

pub shown_count : (points : List Point) (legs : Triple LegValue) (n : ℕ) → length (shown_first points legs n) ≡ n
shown_count points legs n = length-map (first_told points legs n) shown_of ∙ told_count points legs n

-- the recorder with one scan more
pub recorded_on : (points chassis : List Point) (legs : Triple LegValue) (n : ℕ) (new : RecorderData)
    (shown : ScanShown) → chassis ≡ points → new ≡ recorder_after chassis (shown_first points legs n ++ shown ∷ [])
    → shown ≡ shown_of (told_in points legs (n + 1)) → new ≡ recorder_after points (shown_first points legs (n + 1))
recorded_on points chassis legs n new shown e h s =
    h ∙ ((λ i. recorder_after (e i) (shown_first points legs n ++ s i ∷ []))
    ∙ ap (recorder_after points) (sym (shown_next points legs n)))

points_stay : (r : RecorderData) (scans : List (ℕ × ScanShown))
    → (fold (λ (r : RecorderData) (s : ℕ × ScanShown). note_scan_of r s.0 s.1) r scans).points ≡ r.points
points_stay r [] = refl
points_stay r (s ∷ scans) = points_stay (note_scan_of r s.0 s.1) scans

-- the recorder of a play is of its chassis
pub recorder_points : (points : List Point) (scans : List ScanShown) → (recorder_after points scans).points ≡ points
recorder_points points scans = points_stay (new_recorder points) (enumerate_from 1 scans)

module _ (m : Meaning) (v : ScriptValue) (points : List Point) (legs : Triple LegValue)
    (played : HavePlayed m v legs) where
  -- the scan time in leg A's note
  pub time_in : (scan : ℕ) → 1 ≤ scan → scan ≤ v.scans → IsTime (told_in points legs scan).a.time
  time_in scan first last =
      subst (λ (note : NoteData). IsTime note.time) (sym (played.notes A scan first last)) (time_fits m v scan A first)

  times_in : (n : ℕ) → n ≤ v.scans
      → All (λ (shown : ScanShown). shown.time ≤ℤ scan_time_limit) (shown_first points legs n)
  times_in zero last = All-nil (λ (shown : ScanShown). shown.time ≤ℤ scan_time_limit)
  times_in (suc n) last =
      let one : n + 1 ≡ suc n = omega arith in
      let IsShort : ScanShown → Type 0 = λ shown. shown.time ≤ℤ scan_time_limit in
      let here = (time_in (n + 1) (omega arith) (omega (arith, last))).1 in
      subst (λ (k : ℕ). All IsShort (shown_first points legs k)) one
      (subst (λ (l : List ScanShown). All IsShort l) (sym (shown_next points legs n))
      (All-append IsShort (shown_first points legs n) (shown_of (told_in points legs (n + 1)) ∷ [])
      (times_in n (omega (arith, last)))
      (All-cons IsShort (shown_of (told_in points legs (n + 1))) [] here (All-nil IsShort))))

  -- the recorder takes one scan more
  pub takes_a_scan : (n : ℕ) → n ≤ v.scans → v.scans ≤ scan_limit → (chassis : List Point) → chassis ≡ points
      → IsChassis chassis → (recorder : RecorderData) → recorder ≡ recorder_after points (shown_first points legs n)
      → TakesAScan points recorder
  takes_a_scan n last few chassis e is recorder h =
      let shown : length (shown_first points legs n) ≤ scan_limit =
      omega (arith, shown_count points legs n, last, few) in
      subst (λ (r : RecorderData). TakesAScan points r) (sym h)
      (plays_fit points (shown_first points legs n) (subst (λ (ps : List Point). IsChassis ps) e is)
      (times_in n last) shown)
