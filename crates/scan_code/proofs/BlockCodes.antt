-- The code of calls of function blocks.
use Rattle.std.proofs.Common.{◌≡◌, ℕ, ◌+◌, List, [], ◌∷◌, ◌++◌, length, arith, ap, sym, ◌∙◌, append_assoc, length-append}
use Rattle.function_blocks.specs.declared.kinds.Kind.{Kind}
use Rattle.function_blocks.specs.declared.blocks.BlockKind.{BlockKind}
use Rattle.scan_machine.specs.declared.instructions.Instr.{Instr}
use Rattle.scan_machine.specs.declared.instructions.Instr.TheVariants as i
use Rattle.st_tree.specs.declared.tag.Tag.{Tag}
use Rattle.st_core.specs.Core.{Name, Term, Act}
use Rattle.st_core.specs.Core as c
use Rattle.st_core.specs.Memory.{Shape, address_of}
use Rattle.st_core.specs.Codes.{term_code, act_code}
use Rattle.st_meaning.specs.Types.{type_of, block_of, field_place, field_type}
use Rattle.st_meaning.specs.Statements.{in_order}
use Rattle.st_sound.specs.Shapes.{shape_in}
use Rattle.scan_code.specs.declared.found.Found.{Found}
use Rattle.scan_code.specs.Inner.Found.{block_of_tag, IsFound}
use Rattle.scan_code.specs.Inner.Emits.{spot_at, behind}
use Rattle.scan_code.proofs.ListCodes.{order_code}

pub input_put : (tags : List Tag) (n f : Name) (found : Found) (b : BlockKind) (place : ℕ) (kind : Kind) (value : Kind → Term) (old here new : List Instr) (exit finish : ℕ) → IsFound tags n found
    → b ≡ block_of (type_of tags n) → place ≡ field_place b f → kind ≡ field_type b f → here ≡ old ++ term_code (shape_in tags) (value kind) → new ≡ here ++ i.Store (found.address + place) kind ∷ []
    → let own = block_of (type_of tags n) in new ≡ old ++ act_code (shape_in tags) (c.Assign n (field_place own f) (field_type own f) (value (field_type own f))) (behind old exit finish)
unfolding act_code
input_put tags n f found b place kind value old here new exit finish is same p k h w =
    let shape = shape_in tags in
    let at : found.address + place ≡ address_of n shape + field_place (block_of (type_of tags n)) f = omega (arith, is.address, p, ap (λ b. field_place b f) same) in
    let of : kind ≡ field_type (block_of (type_of tags n)) f = k ∙ ap (λ b. field_type b f) same in
    w ∙ (ap (λ l. l ++ i.Store (found.address + place) kind ∷ []) h ∙ (append_assoc old (term_code shape (value kind)) (i.Store (found.address + place) kind ∷ []) ∙ (λ j. old ++ (term_code shape (value (of j)) ++ i.Store (at j) (of j) ∷ []))))

-- the first act, and the others behind it
pub first_put : (shape : Shape) (a : Act) (acts : List Act) (old here new : List Instr) (exit finish : ℕ) → here ≡ old ++ act_code shape a (behind old exit finish) → new ≡ here ++ act_code shape (in_order acts) (behind here exit finish)
    → new ≡ old ++ act_code shape (in_order (a ∷ acts)) (behind old exit finish)
first_put shape a acts old here new exit finish h w =
    let own = act_code shape a (behind old exit finish) in
    let len : length here ≡ length old + length own = ap length h ∙ length-append old own in
    w ∙ (ap (λ n. here ++ act_code shape (in_order acts) (spot_at n exit finish)) len
    ∙ (ap (λ l. l ++ act_code shape (in_order acts) (spot_at (length old + length own) exit finish)) h
    ∙ (append_assoc old own (act_code shape (in_order acts) (spot_at (length old + length own) exit finish))
    ∙ ap (λ l. old ++ l) (sym (order_code shape a acts (length old) exit finish)))))

-- the block behind its inputs
pub invoke_put : (tags : List Tag) (n : Name) (found : Found) (a : Act) (old here new : List Instr) (exit finish : ℕ) → IsFound tags n found
    → here ≡ old ++ act_code (shape_in tags) a (behind old exit finish) → new ≡ here ++ i.Call (block_of_tag found.of) found.address ∷ []
    → new ≡ old ++ act_code (shape_in tags) (c.Then a (c.Invoke (block_of (type_of tags n)) n)) (behind old exit finish)
unfolding act_code
invoke_put tags n found a old here new exit finish is h w =
    let shape = shape_in tags in
    w ∙ ((λ j. h j ++ i.Call (is.block j) (is.address j) ∷ []) ∙ append_assoc old (act_code shape a (behind old exit finish)) (i.Call (block_of (type_of tags n)) (address_of n shape) ∷ []))
