-- Nobody has to believe what stands here: it serves private functions alone.
-- The code of choices, one condition with its body at a time.
use Rattle.std.specs.Prelude.{◌≡◌, ℕ, ◌+◌, List, [], ◌∷◌, ◌++◌, length, Result, OnOk}
use Rattle.scan_machine.specs.declared.instructions.Instr.{Instr}
use Rattle.scan_machine.specs.declared.instructions.Instr.TheVariants as i
use Rattle.st_tree.specs.declared.tag.Tag.{Tag}
use Rattle.st_core.specs.Core.{Act}
use Rattle.st_core.specs.Costs.{term_cost}
use Rattle.st_core.specs.Memory.{Shape}
use Rattle.st_core.specs.Codes.{Spot, moved, term_code, act_code, size_of}
use Rattle.st_meaning.specs.Statements.{Guarded}
use Rattle.st_sound.specs.Shapes.{shape_in}
use Rattle.code_size.specs.Inner.Guards.{guard_size}
use Rattle.scan_code.specs.Inner.Emits.{spot_at, behind}

-- what stands behind a condition: a jump past the body, the body, and a jump to the end
abbrev pub tail_code : Shape → Act → (at exit finish end : ℕ) → List Instr
tail_code shape body at exit finish end =
    i.JumpFalse (at + 1 + size_of body + 1) ∷ (act_code shape body (spot_at (at + 1) exit finish) ++ i.Jump end ∷ [])

-- a condition and what stands behind it
abbrev pub guard_code : Shape → Guarded → Spot → (end : ℕ) → List Instr
guard_code shape g spot end =
    let first = spot.at + term_cost g.condition + 1 in let second = first + size_of g.body + 1 in
    term_code shape g.condition ++ (i.JumpFalse second ∷ (act_code shape g.body (moved spot first) ++ i.Jump end ∷ []))

-- several of them in a row
unfoldable pub guards_code : Shape → List Guarded → (at exit finish end : ℕ) → List Instr
guards_code shape [] at exit finish end = []
guards_code shape (g ∷ gs) at exit finish end =
    guard_code shape g (spot_at at exit finish) end ++ guards_code shape gs (at + guard_size g) exit finish end

-- what stands behind a condition was added
abbrev pub EmitsTail :
    {T E : Type 0} → Result T E → List Tag → (old new : List Instr) → Act → (exit finish end : ℕ) → Type 0
EmitsTail result tags old new body exit finish end =
    OnOk result (new ≡ old ++ tail_code (shape_in tags) body (length old) exit finish end)

-- a condition with its body was added
abbrev pub EmitsGuard :
    {T E : Type 0} → Result T E → List Tag → (old new : List Instr) → Guarded → (exit finish end : ℕ) → Type 0
EmitsGuard result tags old new g exit finish end =
    OnOk result (new ≡ old ++ guard_code (shape_in tags) g (behind old exit finish) end)

-- several of them were added
abbrev pub EmitsGuards :
    {T E : Type 0} → Result T E → List Tag → (old new : List Instr) → List Guarded → (exit finish end : ℕ) → Type 0
EmitsGuards result tags old new gs exit finish end =
    OnOk result (new ≡ old ++ guards_code (shape_in tags) gs (length old) exit finish end)
