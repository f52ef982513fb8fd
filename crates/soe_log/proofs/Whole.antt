-- What a recorder has of a whole play.
use Rattle.std.proofs.Common.{not, suc, ◌≡◌, ◌∙◌, ◌≤◌, ◌+◌, ◌*◌, ◌++◌, ◌∷◌, [], ℕ, ℤ, pos, ◌+ℤ◌, ◌≤ℤ◌, Bool, List, length, fold, filter, arith, ap, sym, refl}
use Rattle.std.specs.List.{All, enumerate_from, zip}
use Rattle.std.proofs.lemmas.Int.{ints}
use Rattle.std.proofs.lemmas.List.{length-append, length-map, length-take}
use Rattle.std.proofs.lemmas.List.Filters.{length-filter_both}
use Rattle.std.proofs.lemmas.Slice.Zip.{length-zip}
use Rattle.tri_base.specs.declared.point.Point.{Point}
use Rattle.tri_base.specs.Limits.{scan_time_limit}
use Rattle.soe_log.specs.Changes.{changed_of, discrete_points, event_at, has_changed, pairs_of, values_of}
use Rattle.soe_log.specs.Plays.{KeepsTheFirst, PlaysFit, changes_from}
use Rattle.soe_log.specs.Recording.{RecorderData, ScanShown, event_limit, new_recorder, note_scan_of, scan_event_limit}
use Rattle.soe_log.specs.Inner.Logged.{LogData, logged}
use Rattle.soe_log.proofs.Finding.{few_found}
use Rattle.soe_log.proofs.Logs.{logged_more, logged_none}

-- a recorder after further scans
abbrev further : RecorderData → ℕ → List ScanShown → RecorderData
further r scan scans = fold (λ (a : RecorderData) (s : ℕ × ScanShown). note_scan_of a s.0 s.1) r (enumerate_from scan scans)

abbrev log_of : RecorderData → LogData
log_of r = record { events = r.events; lost = r.lost }

kept_few : (r : RecorderData) (scan : ℕ) (shown : ScanShown) → length (note_scan_of r scan shown).events ≤ event_limit
kept_few r scan shown =
    let all = r.events ++ changed_of r.points r.last scan (r.time +ℤ shown.time) (values_of r.points shown.inputs shown.outputs) in
    omega (arith, length-take event_limit all)

-- from any recorder on
kept_from : (r : RecorderData) (scan : ℕ) (scans : List ScanShown) → length r.events ≤ event_limit
    → log_of (further r scan scans)
    ≡ logged (log_of r) (changes_from r.points r.last scan r.time scans)
kept_from r scan [] few = sym (logged_none (log_of r) few)
kept_from r scan (shown ∷ scans) few =
    let next = note_scan_of r scan shown in
    let first = changed_of r.points r.last scan (r.time +ℤ shown.time) (values_of r.points shown.inputs shown.outputs) in
    kept_from next (scan + 1) scans (kept_few r scan shown)
    ∙ logged_more (log_of r) first (changes_from next.points next.last (scan + 1) next.time scans)

pub keeps_the_first : (points : List Point) (scans : List ScanShown) → KeepsTheFirst points scans
keeps_the_first points scans =
    let whole = kept_from (new_recorder points) 1 scans (omega arith) in
    record { events = ap (λ (l : LogData). l.events) whole; lost = omega (arith, ap (λ (l : LogData). l.lost) whole) }

-- no scan has more events than the chassis has points
few_changed : (points : List Point) (last : List Bool) (scan : ℕ) (time : ℤ) (values : List Bool)
    → length (changed_of points last scan time values) ≤ length (discrete_points points)
few_changed points last scan time values =
    let pairs = pairs_of points last values in
    omega (
      arith,
      length-map (filter has_changed pairs) (event_at scan time),
      length-filter_both has_changed (λ s. not (has_changed s)) (λ s. refl) pairs,
      length-zip (discrete_points points) (zip last values),
    )

pub lost_grows : (r : RecorderData) (scan : ℕ) (shown : ScanShown) → length r.events ≤ event_limit
    → length (discrete_points r.points) ≤ scan_event_limit
    → (note_scan_of r scan shown).lost ≤ r.lost + scan_event_limit
lost_grows r scan shown few few_points =
    let values = values_of r.points shown.inputs shown.outputs in
    let more = changed_of r.points r.last scan (r.time +ℤ shown.time) values in
    omega (arith, few, few_points, few_changed r.points r.last scan (r.time +ℤ shown.time) values, length-append r.events more)

-- how a recorder grows in some scans
record Grows (old new : RecorderData) (count : ℕ) : Type 0 where
  points : new.points ≡ old.points
  time : new.time ≤ℤ (old.time +ℤ pos (10000 * count))
  lost : new.lost ≤ old.lost + 512 * count

grows : (r : RecorderData) (scan : ℕ) (scans : List ScanShown) → length r.events ≤ event_limit
    → length (discrete_points r.points) ≤ scan_event_limit → All (λ (s : ScanShown). s.time ≤ℤ scan_time_limit) scans
    → Grows r (further r scan scans) (length scans)
grows r scan [] few few_points short = record { points = refl; time = omega (arith, ints); lost = omega arith }
grows r scan (shown ∷ scans) few few_points short =
    let next = note_scan_of r scan shown in
    let first : shown.time ≤ℤ scan_time_limit = short 0 shown (omega arith) in
    let rest : All (λ (s : ScanShown). s.time ≤ℤ scan_time_limit) scans = λ k d within. short (suc k) d (omega (arith, within)) in
    let behind = grows next (scan + 1) scans (kept_few r scan shown) few_points rest in
    record {
      points = behind.points;
      time = omega (arith, ints, behind.time, first);
      lost = omega (arith, behind.lost, lost_grows r scan shown few few_points);
    }

pub plays_fit : PlaysFit
plays_fit points scans whole short few_scans =
    let play = grows (new_recorder points) 1 scans (omega arith) (few_found points whole) short in
    record {
      points = play.points;
      time = omega (arith, ints, play.time, few_scans);
      lost = omega (arith, play.lost, few_scans);
    }
