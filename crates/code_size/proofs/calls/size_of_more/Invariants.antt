use Rattle.std.proofs.Common.{List, Option, map}
use Rattle.st_tree.specs.declared.declaration.DeclaredType.{DeclaredType}
use Rattle.st_tree.specs.declared.tag.Tag.{Tag}
use Rattle.st_core.specs.Core.{Name}
use Rattle.st_core.specs.Codes.{size_of}
use Rattle.st_meaning.specs.Statements.{in_order, set_input, given}
use Rattle.code_size.proofs.Countings.{Counts}
use Rattle.code_size.proofs.ActSizes.{order_size}
use Rattle.code_size.proofs.calls.size_of_more.Given as goal

abbrev pub invariant-loop-input : goal.invariant-loop-input
invariant-loop-input l = (ts : List Tag) → (n : Name) → (type : Option DeclaredType) → Counts (λ xs. size_of (in_order (map (set_input n type) (map (given ts) xs)))) (λ x. size_of (set_input n type (given ts x))) (λ x xs. order_size (set_input n type (given ts x)) (map (set_input n type) (map (given ts) xs))) l.inputs l.input-index (size_of (in_order (map (set_input n type) (map (given ts) l.inputs)))) l.size
