use Rattle.std.proofs.Common.{◌∙◌, ◌-◌, sym, subst, ap}
use Rattle.tri_base.specs.declared.leg.Leg.TheVariants.{A, B, C}
use Rattle.engine_face.specs.Meaning.{Scanned}
use Rattle.single_controller.specs.Standing.{SingleValue, Stands}
use Rattle.single_controller.proofs.Scans.{next_stands, ready_is, scanned_is, verdict_is, voted_is, within}
use Rattle.single_controller.proofs.single.Single.next_scan.Goals as goal

pub change-requires-clause-scan : goal.change-requires-clause-scan
change-requires-clause-scan g c =
    let m = g.E.Engine.meaning (g.E.Engine.points c.args.engine.now) in
    let v = c.args.script.now.value in
    let h = subst (λ (s : SingleValue). Stands m v (c.args.scan - 1) s) (sym c.self.view_is) c.requires.stands in
    (c.requires.scan.0, within v A c.args.scan c.tape.result.now (c.tape.ensures ∙ h.tape_a) c.requires.scan.1)

pub show_all-requires-clause-a : goal.show_all-requires-clause-a
show_all-requires-clause-a g c =
    let m = g.E.Engine.meaning (g.E.Engine.points c.args.engine.now) in
    let v = c.args.script.now.value in
    let h = subst (λ (s : SingleValue). Stands m v (c.args.scan - 1) s) (sym c.self.view_is) c.requires.stands in
    (c.requires.scan.0, within v A c.args.scan c.self.inside.faces.a.tape h.tape_a c.requires.scan.1)

pub show_all-requires-clause-b : goal.show_all-requires-clause-b
show_all-requires-clause-b g c =
    let m = g.E.Engine.meaning (g.E.Engine.points c.args.engine.now) in
    let v = c.args.script.now.value in
    let h = subst (λ (s : SingleValue). Stands m v (c.args.scan - 1) s) (sym c.self.view_is) c.requires.stands in
    (c.requires.scan.0, within v B c.args.scan c.self.inside.faces.b.tape h.tape_b c.requires.scan.1)

pub show_all-requires-clause-c : goal.show_all-requires-clause-c
show_all-requires-clause-c g c =
    let m = g.E.Engine.meaning (g.E.Engine.points c.args.engine.now) in
    let v = c.args.script.now.value in
    let h = subst (λ (s : SingleValue). Stands m v (c.args.scan - 1) s) (sym c.self.view_is) c.requires.stands in
    (c.requires.scan.0, within v C c.args.scan c.self.inside.faces.c.tape h.tape_c c.requires.scan.1)

pub returns-clause-verdict : goal.returns-clause-verdict
returns-clause-verdict g c =
    let m = g.E.Engine.meaning (g.E.Engine.points c.args.engine.now) in
    let v = c.args.script.now.value in
    let h = subst (λ (s : SingleValue). Stands m v (c.args.scan - 1) s) (sym c.self.view_is) c.requires.stands in
    verdict_is m v c.args.scan _ c.tape.result.now c.in_ok-verdict.verdict h c.requires.scan.0 c.requires.scan.1 c.tape.ensures c.in_ok-verdict.ensures.verdict

pub returns-clause-voted : goal.returns-clause-voted
returns-clause-voted g c =
    let m = g.E.Engine.meaning (g.E.Engine.points c.args.engine.now) in
    let v = c.args.script.now.value in
    let h = subst (λ (s : SingleValue). Stands m v (c.args.scan - 1) s) (sym c.self.view_is) c.requires.stands in
    voted_is m v c.args.scan _ c.vote_sheet.new.voted c.chassis-chassis.result.now c.packet.result.now c.packet-2.result.now c.packet-3.result.now h c.requires.scan.0 c.requires.scan.1 c.chassis-chassis.ensures (c.packet.ensures ∙ c.in_ok-show_all.ensures.a) (c.packet-2.ensures ∙ c.in_ok-show_all.ensures.b) (c.packet-3.ensures ∙ c.in_ok-show_all.ensures.c) c.vote_sheet.ensures.time c.vote_sheet.ensures.values

pub returns-clause-outputs : goal.returns-clause-outputs
returns-clause-outputs g c =
    let m = g.E.Engine.meaning (g.E.Engine.points c.args.engine.now) in
    let v = c.args.script.now.value in
    let h = subst (λ (s : SingleValue). Stands m v (c.args.scan - 1) s) (sym c.self.view_is) c.requires.stands in
    let ready = ready_is m v c.args.scan _ c.tape.result.now c.change.new.self h c.requires.scan.0 c.requires.scan.1 c.tape.ensures c.in_ok-verdict.ensures.state in
    let voted = voted_is m v c.args.scan _ c.vote_sheet.new.voted c.chassis-chassis.result.now c.packet.result.now c.packet-2.result.now c.packet-3.result.now h c.requires.scan.0 c.requires.scan.1 c.chassis-chassis.ensures (c.packet.ensures ∙ c.in_ok-show_all.ensures.a) (c.packet-2.ensures ∙ c.in_ok-show_all.ensures.b) (c.packet-3.ensures ∙ c.in_ok-show_all.ensures.c) c.vote_sheet.ensures.time c.vote_sheet.ensures.values in
    c.run-arith.ensures.outputs ∙ ap (λ (s : Scanned). s.outputs) (scanned_is m v c.args.scan _ _ voted ready)

pub returns-clause-flag : goal.returns-clause-flag
returns-clause-flag g c =
    let m = g.E.Engine.meaning (g.E.Engine.points c.args.engine.now) in
    let v = c.args.script.now.value in
    let h = subst (λ (s : SingleValue). Stands m v (c.args.scan - 1) s) (sym c.self.view_is) c.requires.stands in
    let ready = ready_is m v c.args.scan _ c.tape.result.now c.change.new.self h c.requires.scan.0 c.requires.scan.1 c.tape.ensures c.in_ok-verdict.ensures.state in
    let voted = voted_is m v c.args.scan _ c.vote_sheet.new.voted c.chassis-chassis.result.now c.packet.result.now c.packet-2.result.now c.packet-3.result.now h c.requires.scan.0 c.requires.scan.1 c.chassis-chassis.ensures (c.packet.ensures ∙ c.in_ok-show_all.ensures.a) (c.packet-2.ensures ∙ c.in_ok-show_all.ensures.b) (c.packet-3.ensures ∙ c.in_ok-show_all.ensures.c) c.vote_sheet.ensures.time c.vote_sheet.ensures.values in
    c.run-arith.ensures.flag ∙ ap (λ (s : Scanned). s.flag) (scanned_is m v c.args.scan _ _ voted ready)

pub returns-clause-stands : goal.returns-clause-stands
returns-clause-stands g c =
    let m = g.E.Engine.meaning (g.E.Engine.points c.args.engine.now) in
    let v = c.args.script.now.value in
    let h = subst (λ (s : SingleValue). Stands m v (c.args.scan - 1) s) (sym c.self.view_is) c.requires.stands in
    let ready = ready_is m v c.args.scan _ c.tape.result.now c.change.new.self h c.requires.scan.0 c.requires.scan.1 c.tape.ensures c.in_ok-verdict.ensures.state in
    let voted = voted_is m v c.args.scan _ c.vote_sheet.new.voted c.chassis-chassis.result.now c.packet.result.now c.packet-2.result.now c.packet-3.result.now h c.requires.scan.0 c.requires.scan.1 c.chassis-chassis.ensures (c.packet.ensures ∙ c.in_ok-show_all.ensures.a) (c.packet-2.ensures ∙ c.in_ok-show_all.ensures.b) (c.packet-3.ensures ∙ c.in_ok-show_all.ensures.c) c.vote_sheet.ensures.time c.vote_sheet.ensures.values in
    next_stands m v c.args.scan _ _ c.change.new.self h c.requires.scan.0 c.requires.scan.1 ready c.in_ok-verdict.ensures.builds c.in_ok-verdict.ensures.count c.in_ok-verdict.ensures.epoch voted c.run-arith.ensures.state c.run-arith.ensures.count c.in_ok-show_all.ensures.tape_a c.in_ok-show_all.ensures.tape_b c.in_ok-show_all.ensures.tape_c
