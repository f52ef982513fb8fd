use Rattle.std.specs.Cmp.Rules.{signed_items}
use Rattle.std.proofs.Common.{◌≡◌, ◌∙◌, List, ℤ, sym, rules}
use Rattle.chassis.specs.Points.{inputs_of}
use Rattle.input_legs.proofs.Common.{counted, spelled}
use Rattle.input_legs.proofs.alike.common_readings.Goals as goal

pub returns-then-eq-2-clause-all : goal.returns-then-eq-2-clause-all
returns-then-eq-2-clause-all c =
    let b : c.args.a.now ≡ c.args.b.now = sym c.words.ensures ∙ ((signed_items c.words.result.now c.words-2.result.now).0 (sym c.if-eq.ensures) ∙ c.words-2.ensures) in
    let third : c.args.a.now ≡ c.args.c.now = sym c.words-then-eq.ensures ∙ ((signed_items c.words-then-eq.result.now c.words-then-eq-2.result.now).0 (sym c.if-eq-2.ensures) ∙ c.words-then-eq-2.ensures) in
    spelled c.args.chassis.now c.args.a.now c.args.b.now c.args.c.now c.read_in.result (sym b) (sym third)
    c.read_in.ensures.view

pub returns-then-eq-2-clause-count : goal.returns-then-eq-2-clause-count
returns-then-eq-2-clause-count c =
    counted (inputs_of c.args.chassis.now) c.read_in.result (search rules)
