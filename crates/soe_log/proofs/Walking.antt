-- A scan, point by point.
use Rattle.std.proofs.Common.{◌≡◌, ◌≤◌, ◌<◌, ◌+◌, ◌++◌, ◌∷◌, [], ℕ, ℤ, Bool, true, false, cond, if◌then◌else◌, List, length, map, filter, take, drop, set, get_or, arith, ap, sym, refl, ◌∙◌}
use Rattle.std.specs.List.{zip}
use Rattle.std.proofs.lemmas.List.{drop-drop, drop-set-lt, get_or-drop, get_or-map, length-map, length-set, map-append, take_all, take_more, take_more_set}
use Rattle.std.proofs.lemmas.List.Elements.{filter-append}
use Rattle.std.proofs.lemmas.Slice.Zip.{get_or-zip, length-zip}
use Rattle.soe_log.specs.declared.discrete.DiscretePoint.{DiscretePoint}
use Rattle.soe_log.specs.declared.event.Event.{Event}
use Rattle.soe_log.specs.Changes.{event_at, has_changed}
use Rattle.soe_log.specs.Recording.{event_limit}
use Rattle.soe_log.specs.Inner.Logged.{LogData, logged, noted}
use Rattle.soe_log.proofs.Logs.{logged_more, logged_none}

-- each point with its older and its newer value
abbrev pub rows : List DiscretePoint → (DiscretePoint → Bool) → List Bool → List (DiscretePoint × (Bool × Bool))
rows points value older = zip points (zip older (map value points))

-- the events of rows
abbrev pub events_among : ℕ → ℤ → List (DiscretePoint × (Bool × Bool)) → List Event
events_among scan time some = map (event_at scan time) (filter has_changed some)

-- what holds when the first points have been looked at
pub record Walked
    (points : List DiscretePoint) (value : DiscretePoint → Bool) (older : List Bool) (scan : ℕ) (time : ℤ)
    (start : LogData) (i : ℕ) (last : List Bool) (kept : LogData) : Type 0 where
  pub done : take i last ≡ take i (map value points)
  pub rest : drop i last ≡ drop i older
  pub log : kept ≡ logged start (events_among scan time (take i (rows points value older)))
  pub lost : kept.lost ≤ start.lost + i
  pub few : length kept.events ≤ event_limit
  pub count : length last ≡ length points
  pub older_count : length older ≡ length points

pub starts : (points : List DiscretePoint) (value : DiscretePoint → Bool) (older : List Bool) (scan : ℕ) (time : ℤ)
    (start : LogData) (last : List Bool) (kept : LogData) → last ≡ older → kept ≡ start
    → length kept.events ≤ event_limit → length last ≡ length points
    → Walked points value older scan time start 0 last kept
starts points value older scan time start last kept same_last same_log few count =
    let few_first : length start.events ≤ event_limit = omega (arith, few, ap (λ (l : LogData). length l.events) same_log) in
    record {
      done = refl;
      rest = same_last;
      log = same_log ∙ sym (logged_none start few_first);
      lost = omega (arith, ap (λ (l : LogData). l.lost) same_log);
      few = few;
      count = count;
      older_count = sym (ap length same_last) ∙ count;
    }

one : (scan : ℕ) (time : ℤ) (r : DiscretePoint × (Bool × Bool)) (t : Bool)
    → map (event_at scan time) (cond t (r ∷ []) []) ≡ (if t then event_at scan time r ∷ [] else [])
one scan time r true = refl
one scan time r false = refl

-- the event of one row more
one_more : (scan : ℕ) (time : ℤ) (some : List (DiscretePoint × (Bool × Bool))) (r : DiscretePoint × (Bool × Bool))
    → events_among scan time (some ++ r ∷ [])
    ≡ events_among scan time some ++ (if has_changed r then event_at scan time r ∷ [] else [])
one_more scan time some r =
    ap (map (event_at scan time)) (filter-append has_changed some (r ∷ []))
    ∙ (map-append (event_at scan time) (filter has_changed some) (cond (has_changed r) (r ∷ []) [])
    ∙ ap (λ l. events_among scan time some ++ l) (one scan time r (has_changed r)))

at_rest : (last older : List Bool) (i : ℕ) (o : Bool) → drop i last ≡ drop i older → get_or last i o ≡ get_or older i o
at_rest last older i o same =
    let zero_more : i + 0 ≡ i = omega arith in
    sym (get_or-drop i last 0 o ∙ ap (λ k. get_or last k o) zero_more)
    ∙ (ap (λ l. get_or l 0 o) same ∙ (get_or-drop i older 0 o ∙ ap (λ k. get_or older k o) zero_more))

-- the row at a place
row_at : (points : List DiscretePoint) (value : DiscretePoint → Bool) (older : List Bool) (i : ℕ)
    (d : DiscretePoint) (o v : Bool) → i < length points → length older ≡ length points → get_or points i d ≡ d
    → get_or older i o ≡ o → value d ≡ v → get_or (rows points value older) i (d, (o, v)) ≡ (d, (o, v))
row_at points value older i d o v within same is_d is_o is_v =
    let values = map value points in
    let in_older : i < length older = omega (arith, within, same) in
    let in_values : i < length values = omega (arith, within, length-map points value) in
    let in_zip : i < length (zip older values) = omega (arith, length-zip older values, in_older, in_values) in
    let is_value : get_or values i v ≡ v = get_or-map value points i d v within ∙ (ap value is_d ∙ is_v) in
    let pair : get_or (zip older values) i (o, v) ≡ (o, v) =
    get_or-zip older values i (o, v) in_older in_values ∙ (λ k. (is_o k, is_value k)) in
    get_or-zip points (zip older values) i (d, (o, v)) within in_zip ∙ (λ k. (is_d k, pair k))

-- one point more
pub steps : (points : List DiscretePoint) (value : DiscretePoint → Bool) (older : List Bool) (scan : ℕ) (time : ℤ)
    (start : LogData) (i : ℕ) (last new_last : List Bool) (log new_log : LogData) (d : DiscretePoint) (o v : Bool)
    → Walked points value older scan time start i last log → i < length points → d ≡ get_or points i d
    → o ≡ get_or last i o → v ≡ value d → new_last ≡ set last i v
    → new_log ≡ noted log o (event_at scan time (d, (o, v))) → new_log.lost ≤ log.lost + 1
    → length new_log.events ≤ event_limit
    → Walked points value older scan time start (i + 1) new_last new_log
steps points value older scan time start i last new_last log new_log d o v so_far within is_d is_o is_v stored added one_lost few =
    let values = map value points in
    let r : DiscretePoint × (Bool × Bool) = (d, (o, v)) in
    let all = rows points value older in
    let in_last : i < length last = omega (arith, within, so_far.count) in
    let in_values : i < length values = omega (arith, within, length-map points value) in
    let was : get_or older i o ≡ o = sym (at_rest last older i o so_far.rest) ∙ sym is_o in
    let row : get_or all i r ≡ r = row_at points value older i d o v within so_far.older_count (sym is_d) was (sym is_v) in
    let in_pairs : i < length (zip older values) =
    omega (arith, length-zip older values, within, so_far.older_count, in_values) in
    let in_rows : i < length all = omega (arith, length-zip points (zip older values), within, in_pairs) in
    let front : take (i + 1) all ≡ take i all ++ r ∷ [] =
    take_more all i r in_rows ∙ ap (λ x. take i all ++ x ∷ []) row in
    let is_value : get_or values i v ≡ v = get_or-map value points i d v within ∙ (ap value (sym is_d) ∙ sym is_v) in
    record {
      done =
          ap (take (i + 1)) stored
          ∙ (take_more_set last i v in_last
          ∙ (ap (λ l. l ++ v ∷ []) so_far.done
          ∙ sym (take_more values i v in_values ∙ ap (λ x. take i values ++ x ∷ []) is_value)));
      rest =
          ap (drop (i + 1)) stored
          ∙ (drop-set-lt (i + 1) last i v (omega arith)
          ∙ (sym (drop-drop 1 i last) ∙ (ap (drop 1) so_far.rest ∙ drop-drop 1 i older)));
      log =
          added
          ∙ (ap (λ l. noted l o (event_at scan time r)) so_far.log
          ∙ (logged_more start (events_among scan time (take i all)) (if has_changed r then event_at scan time r ∷ [] else [])
          ∙ ap (logged start) (sym (ap (events_among scan time) front ∙ one_more scan time (take i all) r))));
      lost = omega (arith, one_lost, so_far.lost);
      few = few;
      count = ap length stored ∙ (length-set last i v ∙ so_far.count);
      older_count = so_far.older_count;
    }

-- when all points have been looked at
pub ends_last : (points : List DiscretePoint) (value : DiscretePoint → Bool) (older : List Bool) (scan : ℕ) (time : ℤ)
    (start : LogData) (i : ℕ) (last : List Bool) (log : LogData)
    → Walked points value older scan time start i last log → length points ≤ i → last ≡ map value points
ends_last points value older scan time start i last log so_far end =
    sym (take_all i last (omega (arith, end, so_far.count)))
    ∙ (so_far.done ∙ take_all i (map value points) (omega (arith, end, length-map points value)))

pub ends_log : (points : List DiscretePoint) (value : DiscretePoint → Bool) (older : List Bool) (scan : ℕ) (time : ℤ)
    (start : LogData) (i : ℕ) (last : List Bool) (log : LogData)
    → Walked points value older scan time start i last log → length points ≤ i
    → log ≡ logged start (events_among scan time (rows points value older))
ends_log points value older scan time start i last log so_far end =
    let all = rows points value older in
    let few : length all ≤ i = omega (arith, end, length-zip points (zip older (map value points))) in
    so_far.log ∙ ap (λ l. logged start (events_among scan time l)) (take_all i all few)
