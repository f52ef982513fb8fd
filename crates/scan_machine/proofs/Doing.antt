-- What is on the stack after an instruction that works on operands alone.
use Rattle.std.proofs.Common.{◌≡◌, ℤ, Bool, List, ◌∷◌, Some, sym, ap, ◌∙◌}
use Rattle.function_blocks.specs.declared.kinds.Kind.{Kind}
use Rattle.function_blocks.specs.declared.arithmetic.Computed.{Computed}
use Rattle.scan_machine.specs.declared.instructions.Instr.{Instr}
use Rattle.function_blocks.specs.Arithmetic.{exact}
use Rattle.scan_machine.specs.Machine.{Operated, operate, on_top}

pub exact_on_top : (kind : Kind) (z z' : ℤ) (r : Computed) (below : List ℤ) → r ≡ exact kind z' → z' ≡ z → on_top (exact kind z) below ≡ on_top r below
exact_on_top kind z z' r below e same = ap (λ c. on_top c below) (sym (e ∙ ap (exact kind) same))

pub pushed : (c : Computed) (rest new : List ℤ) (flag : Bool) → new ≡ c.value ∷ rest → flag ≡ c.flag → on_top c rest ≡ Some (record { stack = new; flag = flag })
pushed c rest new flag e f =
    ap (λ (l : List ℤ). let left : Operated = record { stack = l; flag = c.flag } in Some left) (sym e)
    ∙ ap (λ (b : Bool). let left : Operated = record { stack = new; flag = b } in Some left) (sym f)

-- an instruction with two operands puts a computed number in their place
pub two_computed : (instr : Instr) (stack rest new : List ℤ) (x y : ℤ) (c : Computed) (flag : Bool) → stack ≡ y ∷ x ∷ rest
    → operate instr (y ∷ x ∷ rest) ≡ on_top c rest → new ≡ c.value ∷ rest → flag ≡ c.flag → operate instr stack ≡ Some (record { stack = new; flag = flag })
two_computed instr stack rest new x y c flag top is e f = ap (operate instr) top ∙ (is ∙ pushed c rest new flag e f)
