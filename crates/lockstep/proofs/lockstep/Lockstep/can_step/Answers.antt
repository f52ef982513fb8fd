use Rattle.tri_base.specs.declared.leg.Leg.TheVariants.{A, B, C}
use Rattle.leg_laws.specs.Exchanges.{Exchange}
use Rattle.lockstep.proofs.Steps.{answered}
use Rattle.lockstep.proofs.lockstep.Lockstep.can_step.Goals as goal

pub returns-in-A : goal.returns-in-A
returns-in-A g c =
    let s = c.self.inside in
    let v : Exchange = record { legs = record { a = s.legs.a; b = s.legs.b; c = s.legs.c }; boxes = record { a = record { left = s.boxes.a.left; right = s.boxes.a.right }; b = record { left = s.boxes.b.left; right = s.boxes.b.right }; c = record { left = s.boxes.c.left; right = s.boxes.c.right } } } in
    answered v c.args.self.now A c.args.leg c.can_serve.result c.self.view_is c.in-A.is c.can_serve.ensures

pub returns-in-B : goal.returns-in-B
returns-in-B g c =
    let s = c.self.inside in
    let v : Exchange = record { legs = record { a = s.legs.a; b = s.legs.b; c = s.legs.c }; boxes = record { a = record { left = s.boxes.a.left; right = s.boxes.a.right }; b = record { left = s.boxes.b.left; right = s.boxes.b.right }; c = record { left = s.boxes.c.left; right = s.boxes.c.right } } } in
    answered v c.args.self.now B c.args.leg c.can_serve-in-B.result c.self.view_is c.in-B.is c.can_serve-in-B.ensures

pub returns-in-C : goal.returns-in-C
returns-in-C g c =
    let s = c.self.inside in
    let v : Exchange = record { legs = record { a = s.legs.a; b = s.legs.b; c = s.legs.c }; boxes = record { a = record { left = s.boxes.a.left; right = s.boxes.a.right }; b = record { left = s.boxes.b.left; right = s.boxes.b.right }; c = record { left = s.boxes.c.left; right = s.boxes.c.right } } } in
    answered v c.args.self.now C c.args.leg c.can_serve-in-C.result c.self.view_is c.in-C.is c.can_serve-in-C.ensures
