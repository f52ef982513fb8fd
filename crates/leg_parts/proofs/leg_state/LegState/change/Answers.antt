use Rattle.std.proofs.Common.{◌≡◌, ◌∙◌, Some, option_map, sym, ap, rules}
use Rattle.tri_base.specs.Downloads.{Download}
use Rattle.script_text.specs.LegScans.{scan_at}
use Rattle.leg_laws.specs.ChangePoint.{change_point}
use Rattle.leg_parts.specs.Results.{StateValue}
use Rattle.leg_parts.specs.Inner.Kept.{state_kept}
use Rattle.leg_parts.specs.declared.leg_state.Mode.{Mode}
use Rattle.leg_parts.proofs.Changes.{running_change}
use Rattle.leg_parts.proofs.leg_state.LegState.change.Goals as goal

pub returns-in_ok-verdict-in-Running-clause-ready : goal.returns-in_ok-verdict-in-Running-clause-ready
returns-in_ok-verdict-in-Running-clause-ready g c =
    let s = c.self.inside in
    let m = g.E.Engine.meaning (g.E.Engine.points s.engine) in
    let d = (scan_at c.args.tape.now c.args.scan).download in
    let verdict = c.in_ok-verdict-in-Running.verdict in
    let text : Some c.in-Some.text.now.list ≡ option_map (λ (x : Download). x.text) d = search rules in
    ap (λ (v : StateValue). change_point (g.E.Engine.meaning v.points) d v.state) (sym c.self.view_is)
    ∙ ap (λ (mode : Mode). change_point m d (state_kept mode s.run s.learner.lesson)) c.in-Running.is
    ∙ running_change m d _ _ s.run c.load.new.self verdict text c.renames-renames.ensures c.in_ok-verdict-in-Running.ensures.run
    ∙ ap (λ (mode : Mode). record { state = state_kept mode c.load.new.self s.learner.lesson; verdict = Some verdict }) (sym c.in-Running.is)
