use Rattle.std.proofs.Common.{◌≡◌, ◌∙◌, IfOk, List, sym, subst, ap}
use Rattle.std.specs.List.{All}
use Rattle.tri_base.specs.declared.point.Point.{Point}
use Rattle.script_text.specs.LegScans.{IsReadable}
use Rattle.leg_laws.specs.Configs.{LegValue}
use Rattle.leg_laws.specs.ExchangeSteps.{leg_at_start}
use Rattle.leg_laws.specs.Plays.{play_of}
use Rattle.leg_core.proofs.Tapes.{reads_inputs}
use Rattle.play_report.proofs.Starting.{tape_is}
use Rattle.play_report.proofs.start.start_leg.Goals as goal

pub start-requires-clause-reads : goal.start-requires-clause-reads
start-requires-clause-reads g c =
    let points = c.in_ok-chassis.ensures ∙ c.chassis.ensures in
    let readable = subst (λ (ps : List Point). All (IsReadable ps) c.in_ok-tape.tape.scans) (sym points) c.in_ok-tape.ensures.readable in
    reads_inputs c.in_ok-chassis.chassis c.in_ok-tape.tape readable

pub returns : goal.returns
returns g c =
    let v = c.args.script.now.value in
    let points = c.in_ok-chassis.ensures ∙ c.chassis.ensures in
    let text = c.in_ok-program.ensures ∙ c.text.ensures.value in
    let started = c.start.ensures (play_of v) (sym points) (sym text) (tape_is v c.args.leg ∙ sym c.in_ok-tape.ensures.tape) in
    subst (λ (ps : List Point). IfOk c.start.result (λ run. run ≡ leg_at_start (g.E.Engine.meaning ps) (play_of v) c.args.leg)) points started
