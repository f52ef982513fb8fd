use Rattle.std.proofs.Common.{IsOk}
use Rattle.std.proofs.lemmas.Result.{on_ok_weaker}
use Rattle.tri_base.specs.declared.leg.Leg.TheVariants.{A, B, C}
use Rattle.leg_laws.specs.Exchanges.{Exchange}
use Rattle.lockstep.proofs.Steps.{moved, kept, enabled_so}
use Rattle.lockstep.proofs.lockstep.Lockstep.step.Goals as goal

pub returns-in-A-clause-stepped : goal.returns-in-A-clause-stepped
returns-in-A-clause-stepped g c =
    let s = c.self.inside in
    let v : Exchange = record { legs = record { a = s.legs.a; b = s.legs.b; c = s.legs.c }; boxes = record { a = record { left = s.boxes.a.left; right = s.boxes.a.right }; b = record { left = s.boxes.b.left; right = s.boxes.b.right }; c = record { left = s.boxes.c.left; right = s.boxes.c.right } } } in
    let n = c.serve.new in
    on_ok_weaker c.serve.result (λ serves. moved g.E.Engine.meaning v c.args.self.now A c.args.leg (record { leg = n.leg; left = n.left; right = n.right; from_left = n.from_left; from_right = n.from_right }) c.self.view_is c.in-A.is serves) c.serve.ensures.served

pub returns-in-B-clause-stepped : goal.returns-in-B-clause-stepped
returns-in-B-clause-stepped g c =
    let s = c.self.inside in
    let v : Exchange = record { legs = record { a = s.legs.a; b = s.legs.b; c = s.legs.c }; boxes = record { a = record { left = s.boxes.a.left; right = s.boxes.a.right }; b = record { left = s.boxes.b.left; right = s.boxes.b.right }; c = record { left = s.boxes.c.left; right = s.boxes.c.right } } } in
    let n = c.serve-in-B.new in
    on_ok_weaker c.serve-in-B.result (λ serves. moved g.E.Engine.meaning v c.args.self.now B c.args.leg (record { leg = n.leg; left = n.left; right = n.right; from_left = n.from_left; from_right = n.from_right }) c.self.view_is c.in-B.is serves) c.serve-in-B.ensures.served

pub returns-in-C-clause-stepped : goal.returns-in-C-clause-stepped
returns-in-C-clause-stepped g c =
    let s = c.self.inside in
    let v : Exchange = record { legs = record { a = s.legs.a; b = s.legs.b; c = s.legs.c }; boxes = record { a = record { left = s.boxes.a.left; right = s.boxes.a.right }; b = record { left = s.boxes.b.left; right = s.boxes.b.right }; c = record { left = s.boxes.c.left; right = s.boxes.c.right } } } in
    let n = c.serve-in-C.new in
    on_ok_weaker c.serve-in-C.result (λ serves. moved g.E.Engine.meaning v c.args.self.now C c.args.leg (record { leg = n.leg; left = n.left; right = n.right; from_left = n.from_left; from_right = n.from_right }) c.self.view_is c.in-C.is serves) c.serve-in-C.ensures.served

pub invariant_of-self : goal.invariant_of-self
invariant_of-self g c =
    let s = c.self.inside in
    let v : Exchange = record { legs = record { a = s.legs.a; b = s.legs.b; c = s.legs.c }; boxes = record { a = record { left = s.boxes.a.left; right = s.boxes.a.right }; b = record { left = s.boxes.b.left; right = s.boxes.b.right }; c = record { left = s.boxes.c.left; right = s.boxes.c.right } } } in
    let n = c.serve.new in
    kept c.serve.result g.E.Engine.meaning v A (record { leg = n.leg; left = n.left; right = n.right; from_left = n.from_left; from_right = n.from_right }) c.self.invariant c.serve.ensures.served c.serve.ensures.unchanged

pub returns-in-A-clause-enabled : goal.returns-in-A-clause-enabled
returns-in-A-clause-enabled g c =
    let s = c.self.inside in
    let v : Exchange = record { legs = record { a = s.legs.a; b = s.legs.b; c = s.legs.c }; boxes = record { a = record { left = s.boxes.a.left; right = s.boxes.a.right }; b = record { left = s.boxes.b.left; right = s.boxes.b.right }; c = record { left = s.boxes.c.left; right = s.boxes.c.right } } } in
    enabled_so v c.args.self.now A c.args.leg (IsOk c.serve.result) c.self.view_is c.in-A.is c.serve.ensures.enabled

pub invariant_of-self-in-B : goal.invariant_of-self-in-B
invariant_of-self-in-B g c =
    let s = c.self.inside in
    let v : Exchange = record { legs = record { a = s.legs.a; b = s.legs.b; c = s.legs.c }; boxes = record { a = record { left = s.boxes.a.left; right = s.boxes.a.right }; b = record { left = s.boxes.b.left; right = s.boxes.b.right }; c = record { left = s.boxes.c.left; right = s.boxes.c.right } } } in
    let n = c.serve-in-B.new in
    kept c.serve-in-B.result g.E.Engine.meaning v B (record { leg = n.leg; left = n.left; right = n.right; from_left = n.from_left; from_right = n.from_right }) c.self.invariant c.serve-in-B.ensures.served c.serve-in-B.ensures.unchanged

pub returns-in-B-clause-enabled : goal.returns-in-B-clause-enabled
returns-in-B-clause-enabled g c =
    let s = c.self.inside in
    let v : Exchange = record { legs = record { a = s.legs.a; b = s.legs.b; c = s.legs.c }; boxes = record { a = record { left = s.boxes.a.left; right = s.boxes.a.right }; b = record { left = s.boxes.b.left; right = s.boxes.b.right }; c = record { left = s.boxes.c.left; right = s.boxes.c.right } } } in
    enabled_so v c.args.self.now B c.args.leg (IsOk c.serve-in-B.result) c.self.view_is c.in-B.is c.serve-in-B.ensures.enabled

pub invariant_of-self-in-C : goal.invariant_of-self-in-C
invariant_of-self-in-C g c =
    let s = c.self.inside in
    let v : Exchange = record { legs = record { a = s.legs.a; b = s.legs.b; c = s.legs.c }; boxes = record { a = record { left = s.boxes.a.left; right = s.boxes.a.right }; b = record { left = s.boxes.b.left; right = s.boxes.b.right }; c = record { left = s.boxes.c.left; right = s.boxes.c.right } } } in
    let n = c.serve-in-C.new in
    kept c.serve-in-C.result g.E.Engine.meaning v C (record { leg = n.leg; left = n.left; right = n.right; from_left = n.from_left; from_right = n.from_right }) c.self.invariant c.serve-in-C.ensures.served c.serve-in-C.ensures.unchanged

pub returns-in-C-clause-enabled : goal.returns-in-C-clause-enabled
returns-in-C-clause-enabled g c =
    let s = c.self.inside in
    let v : Exchange = record { legs = record { a = s.legs.a; b = s.legs.b; c = s.legs.c }; boxes = record { a = record { left = s.boxes.a.left; right = s.boxes.a.right }; b = record { left = s.boxes.b.left; right = s.boxes.b.right }; c = record { left = s.boxes.c.left; right = s.boxes.c.right } } } in
    enabled_so v c.args.self.now C c.args.leg (IsOk c.serve-in-C.result) c.self.view_is c.in-C.is c.serve-in-C.ensures.enabled
