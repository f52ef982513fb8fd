use Rattle.std.proofs.Common.{map, arith, refl}
use Rattle.st_core.specs.Codes.{size_of}
use Rattle.st_meaning.specs.Statements.{in_order, set_input, given}
use Rattle.code_size.proofs.Countings.{counts_from, counts_more, counts_none}
use Rattle.code_size.proofs.ActSizes.{order_size, none_size}
use Rattle.code_size.proofs.calls.size_of_more.Goals as goal

pub loop-input-init : goal.loop-input-init
loop-input-init c = λ ts n type. counts_from (λ xs. size_of (in_order (map (set_input n type) (map (given ts) xs)))) (λ x. size_of (set_input n type (given ts x))) (λ x xs. order_size (set_input n type (given ts x)) (map (set_input n type) (map (given ts) xs))) c.args.inputs.now _ 0 0 refl (omega arith)

pub loop-input-preserved : goal.loop-input-preserved
loop-input-preserved c = λ ts n type.
    counts_more (λ xs. size_of (in_order (map (set_input n type) (map (given ts) xs)))) (λ x. size_of (set_input n type (given ts x))) (λ x xs. order_size (set_input n type (given ts x)) (map (set_input n type) (map (given ts) xs))) c.args.inputs.now c.loop-input.input-index _ c.input-item.result c.loop-input.size c.size_of_input.result c.plus-size.result c.loop-input-test.true c.input-item.is (c.loop-input.invariant ts n type) (c.size_of_input.ensures ts n type) c.plus-size.ensures

pub returns : goal.returns
returns c = λ ts n type. counts_none (λ xs. size_of (in_order (map (set_input n type) (map (given ts) xs)))) (λ x. size_of (set_input n type (given ts x))) (λ x xs. order_size (set_input n type (given ts x)) (map (set_input n type) (map (given ts) xs))) c.args.inputs.now c.loop-input.input-index _ c.loop-input.size c.loop-input-test.false (c.loop-input.invariant ts n type) none_size
