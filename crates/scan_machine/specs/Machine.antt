-- What each instruction of the scan machine does. Own rule.
use Rattle.std.specs.Prelude.{◌≡◌, ℕ, zero, suc, ◌+◌, ℤ, pos, ◌+ℤ◌, ◌-ℤ◌, ◌*ℤ◌, neg_ℤ, int_lt, unsigned_abs, Bool, false, not, ◌&&◌, ◌||◌, if◌then◌else◌, List, [], ◌∷◌, ◌++◌, Option, None, Some, length, take, drop, slice_index_or, slice_set, slice_get}
use Rattle.std.specs.Option.{option_and_then}
use Rattle.std.specs.Int.{int_max, int_min}
use Rattle.std.specs.Int.RustNames.{int_le}
use Rattle.std.specs.Ordering.{int_eq}
use Rattle.tri_base.specs.Noted.{noted}
use Rattle.function_blocks.specs.declared.kinds.Kind.{Kind}
use Rattle.function_blocks.specs.declared.blocks.BlockKind.{BlockKind}
use Rattle.function_blocks.specs.declared.arithmetic.Computed.{Computed}
use Rattle.scan_machine.specs.declared.instructions.Instr.{Instr}
use Rattle.scan_machine.specs.declared.instructions.Instr.TheVariants as i
use Rattle.function_blocks.specs.Values.{is_on, number, clamped}
use Rattle.function_blocks.specs.Fields.{field_count}
use Rattle.function_blocks.specs.Blocks.{step_block}
use Rattle.function_blocks.specs.Arithmetic.{exact, quotient, remainder, bounded}
use Rattle.scan_machine.specs.Elements.{element}

-- ---- operands

-- the operands that an instruction leaves, the last one first, and the flag: a number or an index was clamped, or a
-- divisor was 0
pub record Operated : Type 0 where
  pub stack : List ℤ
  pub flag : Bool

-- a computed number on top of these operands
abbrev pub on_top : Computed → List ℤ → Option Operated
on_top c below = Some (record { stack = c.value ∷ below; flag = c.flag })

-- a number on top of these operands
abbrev pub one_operand : ℤ → List ℤ → Option Operated
one_operand v below = Some (record { stack = v ∷ below; flag = false })

-- 1 or 0 on top of these operands
abbrev pub answer : Bool → List ℤ → Option Operated
answer b below = one_operand (number b) below

-- what an instruction that works on operands alone makes of them; none where an operand lacks
abbrev pub operate : Instr → List ℤ → Option Operated
operate (i.Add kind) (y ∷ x ∷ below) = on_top (exact kind (x +ℤ y)) below
operate (i.Sub kind) (y ∷ x ∷ below) = on_top (exact kind (x -ℤ y)) below
operate (i.Mul kind) (y ∷ x ∷ below) = on_top (exact kind (x *ℤ y)) below
operate (i.Div kind) (y ∷ x ∷ below) = on_top (quotient kind x y) below
operate (i.Mod kind) (y ∷ x ∷ below) = on_top (remainder kind x y) below
operate (i.Min kind) (y ∷ x ∷ below) = on_top (exact kind (int_min x y)) below
operate (i.Max kind) (y ∷ x ∷ below) = on_top (exact kind (int_max x y)) below
operate (i.Neg kind) (x ∷ below) = on_top (exact kind (neg_ℤ x)) below
operate (i.Abs kind) (x ∷ below) = on_top (exact kind (pos (unsigned_abs x))) below
operate (i.Convert kind) (x ∷ below) = on_top (exact kind x) below
operate i.Limit (mx ∷ x ∷ mn ∷ below) = one_operand (int_min (int_max x mn) mx) below
operate i.Select (y ∷ x ∷ g ∷ below) = one_operand (if is_on g then y else x) below
operate i.And (y ∷ x ∷ below) = answer (is_on x && is_on y) below
operate i.Or (y ∷ x ∷ below) = answer (is_on x || is_on y) below
operate i.Xor (y ∷ x ∷ below) = answer (if is_on x then not (is_on y) else is_on y) below
operate i.Not (x ∷ below) = answer (not (is_on x)) below
operate i.Eq (y ∷ x ∷ below) = answer (int_eq x y) below
operate i.Ne (y ∷ x ∷ below) = answer (not (int_eq x y)) below
operate i.Lt (y ∷ x ∷ below) = answer (int_lt x y) below
operate i.Gt (y ∷ x ∷ below) = answer (int_lt y x) below
operate i.Le (y ∷ x ∷ below) = answer (int_le x y) below
operate i.Ge (y ∷ x ∷ below) = answer (int_le y x) below
operate (i.Within low high) (x ∷ below) = answer (int_le low x && int_le x high) below
operate _ _ = None

-- ---- words

-- Where the machine stands: the next instruction, the operands with the last one first, the words, the flag (a number or
-- an index was clamped, or a divisor was 0), and the stores so far, each address once with the number that stood there
-- before.
pub record State : Type 0 where
  pub index : ℕ
  pub stack : List ℤ
  pub words : List ℤ
  pub flag : Bool
  pub stores : List (ℕ × ℤ)

-- the word at an address, read as a value of the kind
abbrev pub read : List ℤ → ℕ → Kind → ℤ
read words address kind = clamped kind (slice_index_or words address (pos 0))

-- a number stored at an address, and noted
abbrev pub store : State → ℕ → ℤ → State
store s address v = record s {
  words = slice_set s.words address v;
  stores = noted address (slice_index_or s.words address (pos 0)) s.stores;
}

-- stores to the words from an address on, the lowest first
abbrev pub noted_all : ℕ → List ℤ → List (ℕ × ℤ) → List (ℕ × ℤ)
noted_all address [] stores = stores
noted_all address (before ∷ more) stores = noted_all (address + 1) more (noted address before stores)

-- so many words from an address on
abbrev pub words_at : List ℤ → ℕ → ℕ → List ℤ
words_at words address count = take count (drop address words)

-- other words in place of those from an address on
abbrev pub with_words : List ℤ → ℕ → List ℤ → List ℤ
with_words words address new = take address words ++ (new ++ drop (length new) (drop address words))

-- ---- the next state

-- the next instruction, with these operands
abbrev pub onward : State → List ℤ → State
onward s stack = record s { index = s.index + 1; stack = stack }

-- the next instruction with what is left of the operands
abbrev pub operated : State → Option Operated → Option State
operated s None = None
operated s (Some l) = Some (record (onward s l.stack) { flag = s.flag || l.flag })

-- the operand on top stored at an address, as a value of the kind
abbrev pub stored : State → ℕ → Kind → List ℤ → Option State
stored s address kind [] = None
stored s address kind (x ∷ below) = Some (store (onward s below) address (clamped kind x))

-- the element of an array at the index on top
abbrev pub load_at : List ℤ → ℕ → Kind → ℤ → ℤ → List ℤ → Option Operated
load_at words address kind low high [] = None
load_at words address kind low high (x ∷ below) =
    let index = bounded low high x in
    Some (record { stack = read words (element address low index.value) kind ∷ below; flag = index.flag })

-- the operand on top stored at an element, at the index below it
abbrev pub stored_at : State → ℕ → Kind → ℤ → ℤ → List ℤ → Option State
stored_at s address kind low high (v ∷ x ∷ below) =
    let index = bounded low high x in
    let after = store (onward s below) (element address low index.value) (clamped kind v) in
    Some (record after { flag = s.flag || index.flag })
stored_at s address kind low high _ = None

-- the place after a jump that the operand on top decides
abbrev pub chosen : State → ℕ → List ℤ → Option State
chosen s target [] = None
chosen s target (x ∷ below) = Some (record s { index = if is_on x then s.index + 1 else target; stack = below })

-- a sum is past the last value, in the direction of the step
abbrev pub is_past : (step last sum : ℤ) → Bool
is_past step last sum = if int_lt (pos 0) step then int_lt last sum else int_lt sum last

-- a loop goes back with the sum where that isn't past the last value, and is left else
abbrev pub turned : State → ℕ → (step last sum : ℤ) → ℕ → State
turned s address step last sum back =
    if is_past step last sum then onward s s.stack else record (store s address sum) { index = back }

-- a block's words, replaced by what one call makes of them, and each of them noted
abbrev pub called : State → BlockKind → ℕ → ℤ → State
called s kind address dt =
    let fields = words_at s.words address (field_count kind) in
    record (onward s s.stack) {
      words = with_words s.words address (step_block kind dt fields);
      stores = noted_all address fields s.stores;
    }

-- one instruction, in a scan of `dt` milliseconds; none where an operand lacks
abbrev pub does : ℤ → Instr → State → Option State
does dt (i.Push v) s = Some (onward s (v ∷ s.stack))
does dt (i.Load address kind) s = Some (onward s (read s.words address kind ∷ s.stack))
does dt (i.Store address kind) s = stored s address kind s.stack
does dt (i.LoadAt address kind low high) s = operated s (load_at s.words address kind low high s.stack)
does dt (i.StoreAt address kind low high) s = stored_at s address kind low high s.stack
does dt (i.Jump target) s = Some (record s { index = target })
does dt (i.JumpFalse target) s = chosen s target s.stack
does dt (i.Next address kind step last back) s =
    Some (turned s address step last (read s.words address kind +ℤ step) back)
does dt (i.Call kind address) s = Some (called s kind address dt)
does dt instr s = operated s (operate instr s.stack)

-- ---- a run

-- the machine does its next instruction; none where there is no instruction, or an operand lacks
abbrev pub next : List Instr → ℤ → State → Option State
next code dt s = option_and_then (λ instr. does dt instr s) (slice_get code s.index)

-- where the machine stands after so many instructions
unfoldable pub after : List Instr → ℤ → ℕ → State → Option State
after code dt zero s = Some s
after code dt (suc n) s = option_and_then (next code dt) (after code dt n s)

-- what a run works on: the words, and the stores that were noted
pub record Memory : Type 0 where
  pub words : List ℤ
  pub stores : List (ℕ × ℤ)

-- what a run leaves: the memory, the flag, and how many instructions were done
pub record Ran : Type 0 where
  pub memory : Memory
  pub flag : Bool
  pub count : ℕ

-- a run begins at the first instruction, with no operand
abbrev pub at_start : Memory → State
at_start m = record { index = 0; stack = []; words = m.words; flag = false; stores = m.stores }

-- a run ends behind the last instruction, with no operand left
abbrev pub at_end : List Instr → Ran → State
at_end code ran =
    record { index = length code; stack = []; words = ran.memory.words; flag = ran.flag; stores = ran.memory.stores }

-- from this memory a run of the code ends so
abbrev pub Runs : List Instr → ℤ → Memory → Ran → Type 0
Runs code dt before ran = after code dt ran.count (at_start before) ≡ Some (at_end code ran)
