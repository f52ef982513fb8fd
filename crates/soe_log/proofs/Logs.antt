-- Events added to a log one by one are those added at once.
use Rattle.std.proofs.Common.{◌≡◌, ◌≤◌, ◌<◌, ◌+◌, ◌++◌, ◌∷◌, [], Bool, true, false, nat_le, List, length, take, if◌then◌else◌, not, arith, ap, sym, refl, ◌∙◌, append-nil}
use Rattle.std.proofs.lemmas.Bool.{leb-false, leb-true}
use Rattle.std.proofs.lemmas.List.{append_assoc, length-append, length-take-le, take-append-le, take-take, take_all}
use Rattle.soe_log.specs.declared.event.Event.{Event}
use Rattle.soe_log.specs.Inner.Logged.{LogData, logged, noted}
use Rattle.soe_log.specs.Recording.{event_limit}

log_is : (a b : LogData) → a.events ≡ b.events → a.lost ≡ b.lost → a ≡ b
log_is a b e k = λ i. record { events = e i; lost = k i }

-- nothing more
pub logged_none : (log : LogData) → length log.events ≤ event_limit → logged log [] ≡ log
logged_none log few =
    let same = append-nil log.events in
    let count : length (log.events ++ []) ≡ length log.events = ap length same in
    log_is (logged log []) log (ap (take event_limit) same ∙ take_all event_limit log.events few) (omega (arith, count, few))

-- where the value is the older one, nothing more
pub unchanged : (log : LogData) (older : Bool) (event : Event) → event.value ≡ older
    → length log.events ≤ event_limit → noted log older event ≡ log
unchanged log older event same few =
    ap (λ v. logged log (if (if older then not v else v) then event ∷ [] else [])) same ∙ by older
  where
    by : (t : Bool) → logged log (if (if t then not t else t) then event ∷ [] else []) ≡ log
    by true = logged_none log few
    by false = logged_none log few

-- one more, in the room that is there
pub logged_room : (log : LogData) (event : Event) → length log.events < event_limit
    → logged log (event ∷ []) ≡ record { events = log.events ++ event ∷ []; lost = log.lost }
logged_room log event few =
    let count : length (log.events ++ event ∷ []) ≡ length log.events + 1 = length-append log.events (event ∷ []) in
    log_is (logged log (event ∷ [])) (record { events = log.events ++ event ∷ []; lost = log.lost })
    (take_all event_limit (log.events ++ event ∷ []) (omega (arith, count, few))) (omega (arith, count, few))

-- one more, where there is none
pub logged_full : (log : LogData) (event : Event) → length log.events ≡ event_limit
    → logged log (event ∷ []) ≡ record { events = log.events; lost = log.lost + 1 }
logged_full log event full =
    let count : length (log.events ++ event ∷ []) ≡ length log.events + 1 = length-append log.events (event ∷ []) in
    log_is (logged log (event ∷ [])) (record { events = log.events; lost = log.lost + 1 })
    (take-append-le event_limit log.events (event ∷ []) (omega (arith, full)) ∙ take_all event_limit log.events (omega (arith, full)))
    (omega (arith, count, full))

-- some, and then others
pub logged_more : (log : LogData) (some more : List Event) → logged (logged log some) more ≡ logged log (some ++ more)
logged_more log some more = by (nat_le event_limit (length kept)) refl
  where
    kept : List Event
    kept = log.events ++ some

    joined : kept ++ more ≡ log.events ++ (some ++ more)
    joined = append_assoc log.events some more

    counts : length (kept ++ more) ≡ length kept + length more
    counts = length-append kept more

    counted : length (take event_limit kept ++ more) ≡ length (take event_limit kept) + length more
    counted = length-append (take event_limit kept) more

    by : (t : Bool) → nat_le event_limit (length kept) ≡ t
        → logged (logged log some) more ≡ logged log (some ++ more)
    by true e =
        let full : event_limit ≤ length kept = leb-true event_limit (length kept) e in
        let first : length (take event_limit kept) ≡ event_limit = length-take-le event_limit kept full in
        let events : take event_limit (take event_limit kept ++ more) ≡ take event_limit (log.events ++ (some ++ more)) =
        take-append-le event_limit (take event_limit kept) more (omega (arith, first))
        ∙ (take-take event_limit event_limit kept (omega arith)
        ∙ (sym (take-append-le event_limit kept more full) ∙ ap (take event_limit) joined)) in
        let whole : length (log.events ++ (some ++ more)) ≡ length kept + length more = sym (ap length joined) ∙ counts in
        log_is (logged (logged log some) more) (logged log (some ++ more)) events (omega (arith, full, first, counted, whole))
    by false e =
        let few : length kept < event_limit = leb-false event_limit (length kept) e in
        let same : take event_limit kept ≡ kept = take_all event_limit kept (omega (arith, few)) in
        let all : take event_limit kept ++ more ≡ log.events ++ (some ++ more) = ap (λ l. l ++ more) same ∙ joined in
        let count : length (take event_limit kept ++ more) ≡ length (log.events ++ (some ++ more)) = ap length all in
        log_is (logged (logged log some) more) (logged log (some ++ more)) (ap (take event_limit) all) (omega (arith, few, count))
