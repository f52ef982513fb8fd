use Rattle.std.proofs.Common.{◌≡◌, ◌<◌, ◌++◌, ◌∷◌, [], List, length, arith, ap, is_ok, sym, ◌∙◌, if◌then◌else◌}
use Rattle.std.proofs.lemmas.Grind.{common_steps}
use Rattle.soe_log.proofs.Logs.{logged_full, logged_room}
use Rattle.soe_log.specs.declared.event.Event.{Event}
use Rattle.soe_log.specs.Inner.Logged.{LogData, logged}
use Rattle.soe_log.proofs.log.Log.add.Goals as goal

pub returns-then-len-lt-EVENT_LIMIT-clause-log : goal.returns-then-len-lt-EVENT_LIMIT-clause-log
returns-then-len-lt-EVENT_LIMIT-clause-log c =
    let events : List Event = c.self.inside.events.items in
    let event = c.args.event in
    let before : LogData = record { events = events; lost = c.self.inside.lost } in
    let room : length before.events < 4096 = grind (arith, common_steps) in
    let pushed : c.push.new.self.items ≡ events ++ event ∷ [] =
    c.push.ensures.items ∙ ap (λ t. if t then events ++ event ∷ [] else events) (ap is_ok c.unwrap.ensures) in
    let with : List Event → LogData = λ l. record { events = l; lost = c.self.inside.lost } in
    ap with pushed
    ∙ (sym (logged_room before event room) ∙ ap (λ l. logged l (event ∷ [])) c.self.view_is)

pub returns-else-len-lt-EVENT_LIMIT-clause-log : goal.returns-else-len-lt-EVENT_LIMIT-clause-log
returns-else-len-lt-EVENT_LIMIT-clause-log c =
    let event = c.args.event in
    let before : LogData = record { events = c.self.inside.events.items; lost = c.self.inside.lost } in
    let full : length before.events ≡ 4096 = grind (arith, common_steps) in
    sym (logged_full before event full) ∙ ap (λ l. logged l (event ∷ [])) c.self.view_is
