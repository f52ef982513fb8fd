use Rattle.std.proofs.Common.{refl, sym, subst, ◌∙◌, true}
use Rattle.tri_base.specs.declared.leg.Triple.{Triple}
use Rattle.leg_workers.specs.declared.hearing.Listener.{Listener}
use Rattle.leg_workers.specs.declared.pages.Page.{Page}
use Rattle.leg_workers.specs.Inner.Hearing.{ArePrinted, HasPrinted}
use Rattle.leg_workers.specs.Inner.Telling.{TellsOn}
use Rattle.leg_workers.proofs.Here.{all_self, all_twice}
use Rattle.leg_workers.proofs.Heard.{all_printed, none_printed}
use Rattle.leg_workers.proofs.Told.{tells_self, tells_twice}
use Rattle.leg_workers.proofs.rounds.play_rounds.Goals as goal

pub loop-init : goal.loop-init
loop-init g c =
    let m = g.E.Engine.meaning in
    let page : Page = record { scan = 0; scans = c.args.scans; is_open = true } in
    record {
      here = all_self (TellsOn m) (tells_self m) c.args.here.now;
      limit = refl;
      printed = λ nothing.
          subst
          (λ (ears : Triple Listener).
          HasPrinted g.P.Printer.After c.args.outs ears page c.args.printer.now c.args.printer.now)
          (sym c.listeners-ears.ensures)
          (none_printed g.P.Printer.After c.args.outs page c.args.printer.now nothing refl refl);
    }

pub returns-then-is_played-clause-here : goal.returns-then-is_played-clause-here
returns-then-is_played-clause-here g c =
    let m = g.E.Engine.meaning in
    all_twice (TellsOn m) (tells_twice m) _ c.loop.here _ c.loop.invariant.here c.play_scan.ensures

pub returns-then-is_played-clause-printed : goal.returns-then-is_played-clause-printed
returns-then-is_played-clause-printed g c = record {
  printed = λ nothing.
      let now = c.print_round.ensures.printed c.args.outs c.args.printer.now (c.loop.invariant.printed nothing) in
      subst (λ outs. ArePrinted g.P.Printer.After c.args.scans c.args.outs outs c.args.printer.now c.print_round.new.printer)
      (sym c.ends_of.ensures)
      (all_printed g.P.Printer.After c.args.outs c.print_round.new.ears c.print_round.new.page c.args.scans c.args.printer.now
      c.print_round.new.printer now (c.print_round.ensures.limit ∙ c.loop.invariant.limit)
      (c.is_played.ensures.over c.if-is_played.true));
}

pub loop-preserved : goal.loop-preserved
loop-preserved g c =
    let m = g.E.Engine.meaning in
    record {
      here =
          all_twice (TellsOn m) (tells_twice m) _ c.loop.here _ c.loop.invariant.here c.play_scan.ensures;
      limit = c.print_round.ensures.limit ∙ c.loop.invariant.limit;
      printed = λ nothing.
          c.print_round.ensures.printed c.args.outs c.args.printer.now (c.loop.invariant.printed nothing);
    }
