use Rattle.std.proofs.Common.{◌++◌, map, length}
use Rattle.st_tree.specs.declared.statement.Element.{Element}
use Rattle.st_core.specs.Codes.{act_code}
use Rattle.st_meaning.specs.Expressions.{integer_of}
use Rattle.st_meaning.specs.Statements.{guarded, in_order, act_of, acts_of}
use Rattle.st_sound.specs.Shapes.{shape_in}
use Rattle.code_size.specs.Inner.Parts.{branch_in, element_in}
use Rattle.scan_code.specs.Inner.Emits.{spot_at, behind}
use Rattle.scan_code.specs.Inner.GuardCodes.{guards_code}
use Rattle.scan_code.proofs.ListCodes.{Codes}
use Rattle.scan_code.proofs.statements.+statements.Given as goal

abbrev pub invariant-emit_block-loop-s : goal.invariant-emit_block-loop-s
invariant-emit_block-loop-s l = Codes (λ xs n. act_code (shape_in l.layout) (in_order (map (act_of l.layout) xs)) (spot_at n l.exit l.finish)) l.statements l.s-index (l.fn.code.items ++ act_code (shape_in l.layout) (acts_of l.layout l.statements) (behind l.fn.code.items l.exit l.finish)) l.code.items

abbrev pub invariant-emit_branches-loop-b : goal.invariant-emit_branches-loop-b
invariant-emit_branches-loop-b l = Codes (λ xs n. guards_code (shape_in l.layout) (map (branch_in l.layout) xs) n l.exit l.finish l.end) l.branches l.b-index (l.fn.code.items ++ guards_code (shape_in l.layout) (map (branch_in l.layout) l.branches) (length l.fn.code.items) l.exit l.finish l.end) l.code.items

abbrev pub invariant-emit_statement-loop-e : goal.invariant-emit_statement-loop-e
invariant-emit_statement-loop-e l =
    let f = (λ (e : Element). guarded (integer_of l.layout l.selector) (element_in l.layout e)) in
    Codes (λ xs n. guards_code (shape_in l.layout) (map f xs) n l.exit l.finish l.end) l.others l.e-index (l.initial.code.items ++ guards_code (shape_in l.layout) (map f l.others) (length l.initial.code.items) l.exit l.finish l.end) l.code.items
