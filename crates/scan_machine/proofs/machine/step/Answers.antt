use Rattle.std.proofs.Common.{ℕ, ◌+◌, ◌-◌, Option, Some, length, arith, ap, sym, subst, refl, ◌∙◌}
use Rattle.scan_machine.specs.declared.instructions.Instr.{Instr}
use Rattle.function_blocks.specs.Fields.{field_count}
use Rattle.scan_machine.specs.Rules.{HasWords}
use Rattle.scan_machine.specs.Inner.Reaches.{reach}
use Rattle.scan_machine.specs.Machine.{does}
use Rattle.scan_machine.specs.Inner.Waiting.{here, landed}
use Rattle.scan_machine.proofs.Reaches.{reach_there}
use Rattle.scan_machine.proofs.Calling.{fields_some}
use Rattle.scan_machine.proofs.machine.step.Goals as goal

pub load-requires-clause-place : goal.load-requires-clause-place
load-requires-clause-place c =
    let n = c.in-Load in subst (HasWords (length c.args.words.now)) n.is c.requires.words n.address refl

pub store-requires-clause-place : goal.store-requires-clause-place
store-requires-clause-place c =
    let n = c.in-Store in subst (HasWords (length c.args.words.now)) n.is c.requires.words n.address refl

pub call-requires-clause-place : goal.call-requires-clause-place
call-requires-clause-place c =
    let n = c.in-Call in
    let h = reach_there (length c.args.words.now) n.address (field_count n.kind - 1) c.args.instr.now (ap reach n.is) c.requires.words in
    let some = fields_some n.kind in
    omega (arith, h, some)

pub returns-in-Store-clause-value : goal.returns-in-Store-clause-value
returns-in-Store-clause-value c index =
    let s = here index c.args.places.now c.args.depth.now c.args.words.now c.args.flag.now c.args.touched.now in
    ap (λ (m : Instr). does c.args.dt m s) c.in-Store.is
    ∙ (c.store.ensures.value c.args.dt index c.args.flag.now
    ∙ ap (λ (r : Option ℕ). Some (here (landed (index + 1) r) c.args.places.now c.store.new.depth c.store.new.words c.args.flag.now c.store.new.touched))
    (sym c.store.ensures.next))

pub returns-in-JumpFalse-clause-value : goal.returns-in-JumpFalse-clause-value
returns-in-JumpFalse-clause-value c index =
    let s = here index c.args.places.now c.args.depth.now c.args.words.now c.args.flag.now c.args.touched.now in
    ap (λ (m : Instr). does c.args.dt m s) c.in-JumpFalse.is
    ∙ c.jump_false.ensures.value c.args.dt index c.args.words.now c.args.flag.now c.args.touched.now
