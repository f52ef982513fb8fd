-- Nobody has to believe what stands here: it serves private functions alone.
-- Code that is added behind code.
use Rattle.std.specs.Prelude.{◌≡◌, ℕ, List, ◌++◌, length, Result, OnOk}
use Rattle.scan_machine.specs.declared.instructions.Instr.{Instr}
use Rattle.st_tree.specs.declared.tag.Tag.{Tag}
use Rattle.st_core.specs.Core.{Term, Act}
use Rattle.st_core.specs.Codes.{Spot, term_code, act_code}
use Rattle.st_sound.specs.Shapes.{shape_in}

-- this code was added, where there was memory for it
abbrev pub Emits : {T E : Type 0} → Result T E → (old new own : List Instr) → Type 0
Emits result old new own = OnOk result (new ≡ old ++ own)

-- the code of a term was added
abbrev pub EmitsTerm : {T E : Type 0} → Result T E → List Tag → (old new : List Instr) → Term → Type 0
EmitsTerm result tags old new t = OnOk result (new ≡ old ++ term_code (shape_in tags) t)

-- a place, where EXIT and RETURN lead to these
abbrev pub spot_at : (at exit finish : ℕ) → Spot
spot_at at exit finish = record { at = at; exit = exit; finish = finish }

-- the place behind this code
abbrev pub behind : List Instr → (exit finish : ℕ) → Spot
behind code exit finish = spot_at (length code) exit finish

-- the code of an act was added
abbrev pub EmitsAct :
    {T E : Type 0} → Result T E → List Tag → (old new : List Instr) → Act → (exit finish : ℕ) → Type 0
EmitsAct result tags old new a exit finish =
    OnOk result (new ≡ old ++ act_code (shape_in tags) a (behind old exit finish))
