-- The code of what stands alone.
use Rattle.std.proofs.Common.{◌≡◌, ℕ, ◌+◌, ℤ, List, [], ◌∷◌, ◌++◌, Option, Result, Ok, Err, OnOk, arith, ap, ◌∙◌, append_assoc}
use Rattle.function_blocks.specs.declared.kinds.Kind.{Kind}
use Rattle.function_blocks.specs.declared.blocks.BlockKind.{BlockKind}
use Rattle.scan_machine.specs.declared.instructions.Instr.{Instr}
use Rattle.scan_machine.specs.declared.instructions.Instr.TheVariants as i
use Rattle.st_tree.specs.declared.tag.Tag.{Tag}
use Rattle.st_core.specs.Core.{Name}
use Rattle.st_core.specs.Core as c
use Rattle.st_core.specs.Memory.{Shape, address_of}
use Rattle.st_core.specs.Codes.{term_code}
use Rattle.st_meaning.specs.Types.{type_of, block_of, field_place, field_type}
use Rattle.st_meaning.specs.Expressions.{Elaborated, settled, tag, array_element}
use Rattle.st_sound.specs.Shapes.{shape_in}
use Rattle.scan_code.specs.declared.found.Found.{Found}
use Rattle.scan_code.specs.Inner.Found.{word_type_of, IsFound, load_at}

-- what follows where a call succeeds
pub on_ok : {T E P Q : Type 0} (r : Result T E) → OnOk r P → (P → Q) → OnOk r Q
on_ok (Ok x) h f = f h
on_ok (Err e) h f = tt

pub push_code : (shape : Shape) (v : ℤ) (old new : List Instr) → new ≡ old ++ i.Push v ∷ [] → new ≡ old ++ term_code shape (c.Literal v)
unfolding term_code
push_code shape v old new h = h

pub load_code : (tags : List Tag) (n : Name) (found : Found) (load : Instr) (asked : Kind) (old new : List Instr) → IsFound tags n found → load ≡ i.Load found.address (word_type_of found.of) → new ≡ old ++ load ∷ []
    → new ≡ old ++ term_code (shape_in tags) ((tag n (type_of tags n)).asked asked)
unfolding term_code
load_code tags n found load asked old new is l h =
    let address : found.address ≡ address_of n (shape_in tags) + 0 = omega (arith, is.address) in
    h ∙ (ap (λ x. old ++ x ∷ []) l ∙ (λ j. old ++ i.Load (address j) (is.word j) ∷ []))

pub load_at_code : (tags : List Tag) (n : Name) (found : Found) (load : Instr) (asked : Kind) (index : Elaborated) (own : Option Kind) (at : Kind) (old here new : List Instr) → IsFound tags n found → load ≡ load_at found
    → own ≡ index.own → at ≡ settled own → here ≡ old ++ term_code (shape_in tags) (index.asked at) → new ≡ here ++ load ∷ []
    → new ≡ old ++ term_code (shape_in tags) ((array_element n (type_of tags n) index).asked asked)
unfolding term_code
load_at_code tags n found load asked index own at old here new is l k a h w =
    let shape = shape_in tags in
    w ∙ (ap (λ x. here ++ x ∷ []) l ∙ (ap (λ x. x ++ load_at found ∷ []) h
    ∙ (append_assoc old (term_code shape (index.asked at)) (load_at found ∷ [])
    ∙ (λ j. old ++ (term_code shape (index.asked ((a ∙ ap settled k) j)) ++ i.LoadAt (is.address j) (is.element j) (is.low j) (is.high j) ∷ [])))))

pub field_code : (tags : List Tag) (n f : Name) (found : Found) (b : BlockKind) (place : ℕ) (kind : Kind) (old new : List Instr) → IsFound tags n found
    → b ≡ block_of (type_of tags n) → place ≡ field_place b f → kind ≡ field_type b f → new ≡ old ++ i.Load (found.address + place) kind ∷ []
    → new ≡ old ++ term_code (shape_in tags) (c.Field n (field_place (block_of (type_of tags n)) f) (field_type (block_of (type_of tags n)) f))
unfolding term_code
field_code tags n f found b place kind old new is same p k h =
    let at : found.address + place ≡ address_of n (shape_in tags) + field_place (block_of (type_of tags n)) f = omega (arith, is.address, p, ap (λ b. field_place b f) same) in
    let of : kind ≡ field_type (block_of (type_of tags n)) f = k ∙ ap (λ b. field_type b f) same in
    h ∙ (λ j. old ++ i.Load (at j) (of j) ∷ [])
