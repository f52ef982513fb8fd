use Rattle.std.proofs.Common.{refl, ◌≡◌, ◌<◌, pos, ◌+ℤ◌, length, to_z, of_z, w64, arith, rules, ap, subst, ◌∙◌}
use Rattle.std.proofs.lemmas.Int.{ints}
use Rattle.std.specs.Prelude.{slice_index_or}
use Rattle.tri_base.specs.Noted.{TouchedValue}
use Rattle.scan_machine.specs.declared.instructions.Instr.{Instr}
use Rattle.scan_machine.specs.declared.instructions.Instr.TheVariants as i
use Rattle.function_blocks.specs.Values.{clamped}
use Rattle.scan_machine.specs.Rules.{HasWords, HasConstants}
use Rattle.scan_machine.specs.Machine.{State, read, does}
use Rattle.scan_machine.specs.Inner.Waiting.{waiting}
use Rattle.scan_machine.proofs.Turns.{within_dint}
use Rattle.scan_machine.proofs.Turning.{next_left, next_back}
use Rattle.scan_machine.proofs.jumps.turn.Goals as goal

pub offset_bounds-words-address : goal.offset_bounds-words-address
offset_bounds-words-address c =
    let n = c.in-Next in
    let there : n.address < length c.args.words.now = subst (HasWords (length c.args.words.now)) n.is c.requires.words n.address refl in search rules

pub slice_copy_out-clamp_to : goal.slice_copy_out-clamp_to
slice_copy_out-clamp_to c =
    let n = c.in-Next in subst (HasWords (length c.args.words.now)) n.is c.requires.words n.address refl

pub put-requires-clause-place : goal.put-requires-clause-place
put-requires-clause-place c =
    let n = c.in-Next in subst (HasWords (length c.args.words.now)) n.is c.requires.words n.address refl

pub returns-then-is_past-clause-value : goal.returns-then-is_past-clause-value
returns-then-is_past-clause-value c dt index places depth was =
    let n = c.in-Next in let r = c.clamp_to.result in
    let consts : HasConstants (i.Next n.address n.kind n.step n.last n.back) = subst HasConstants n.is c.requires.constants in
    let small = within_dint n.kind n.step consts.0 in
    let word = slice_index_or c.args.words.now n.address (pos 0) in
    let fits : to_z w64 (of_z w64 word) ≡ word = omega (arith, ints) in
    let is : r ≡ read c.args.words.now n.address n.kind = c.clamp_to.ensures.value ∙ ap (clamped n.kind) fits in
    let e : to_z w64 (of_z w64 n.step) ≡ n.step = omega (arith, ints) in
    let f : to_z w64 (of_z w64 n.last) ≡ n.last = omega (arith, ints) in
    let g : to_z w64 (of_z w64 (to_z w64 (of_z w64 r) +ℤ to_z w64 (of_z w64 n.step))) ≡ r +ℤ n.step = omega (arith, ints, small.0, small.1, c.clamp_to.ensures.operand) in
    let s : State = record { index = index; stack = waiting places depth; words = c.args.words.now; flag = was; stores = c.args.touched.now.pairs } in
    ap (λ (m : Instr). does dt m s) n.is
    ∙ next_left dt index (waiting places depth) c.args.words.now was c.args.touched.now.pairs n.address n.kind n.step n.last n.back
    c.is_past.result _ _ _ c.is_past.ensures e f (g ∙ ap (λ z. z +ℤ n.step) is) c.if-is_past.true

pub returns-else-is_past-clause-value : goal.returns-else-is_past-clause-value
returns-else-is_past-clause-value c dt index places depth was =
    let n = c.in-Next in let r = c.clamp_to.result in let put = c.put in
    let consts : HasConstants (i.Next n.address n.kind n.step n.last n.back) = subst HasConstants n.is c.requires.constants in
    let small = within_dint n.kind n.step consts.0 in
    let word = slice_index_or c.args.words.now n.address (pos 0) in
    let fits : to_z w64 (of_z w64 word) ≡ word = omega (arith, ints) in
    let is : r ≡ read c.args.words.now n.address n.kind = c.clamp_to.ensures.value ∙ ap (clamped n.kind) fits in
    let e : to_z w64 (of_z w64 n.step) ≡ n.step = omega (arith, ints) in
    let f : to_z w64 (of_z w64 n.last) ≡ n.last = omega (arith, ints) in
    let g : to_z w64 (of_z w64 (to_z w64 (of_z w64 r) +ℤ to_z w64 (of_z w64 n.step))) ≡ r +ℤ n.step = omega (arith, ints, small.0, small.1, c.clamp_to.ensures.operand) in
    let s : State = record { index = index; stack = waiting places depth; words = c.args.words.now; flag = was; stores = c.args.touched.now.pairs } in
    ap (λ (m : Instr). does dt m s) n.is
    ∙ next_back dt index (waiting places depth) c.args.words.now was c.args.touched.now.pairs n.address n.kind n.step n.last n.back
    c.is_past.result _ _ _ c.is_past.ensures e f (g ∙ ap (λ z. z +ℤ n.step) is)
    put.new.words put.new.touched.pairs c.if-is_past.false put.ensures.words (ap (λ (t : TouchedValue). t.pairs) put.ensures.touched)
