-- The five rules that each instruction of verified code keeps, as statements about the whole list. Own rule.
use Rattle.std.specs.Prelude.{◌≡◌, ℕ, ◌+◌, ◌-◌, ◌<◌, ◌≤◌, ℤ, pos, ◌≤ℤ◌, ◌≢◌, ◌⊎◌, List, Option, None, Some, length, take, fold, slice_get, IfSome}
use Rattle.function_blocks.specs.declared.kinds.Kind.TheVariants as kinds
use Rattle.function_blocks.specs.declared.kinds.Kind.{Kind}
use Rattle.scan_machine.specs.declared.instructions.Instr.{Instr}
use Rattle.scan_machine.specs.declared.instructions.Instr.TheVariants as i
use Rattle.scan_machine.specs.declared.verified.CodeRule.{CodeRule}
use Rattle.scan_machine.specs.declared.verified.CodeRule.TheVariants as rule
use Rattle.scan_machine.specs.declared.verified.BadCode.{BadCode}
use Rattle.function_blocks.specs.Values.{least, greatest, IsOperand}
use Rattle.function_blocks.specs.Fields.{field_count}
use Rattle.scan_machine.specs.Elements.{IsElement}

-- ---- Address

-- the instruction can touch the word
abbrev pub Touches : Instr → ℕ → Type 0
Touches (i.Push v) word = ⊥
Touches (i.Load address kind) word = word ≡ address
Touches (i.Store address kind) word = word ≡ address
Touches (i.LoadAt address kind low high) word = IsElement address low high word
Touches (i.StoreAt address kind low high) word = IsElement address low high word
Touches (i.Add kind) word = ⊥
Touches (i.Sub kind) word = ⊥
Touches (i.Mul kind) word = ⊥
Touches (i.Div kind) word = ⊥
Touches (i.Mod kind) word = ⊥
Touches (i.Min kind) word = ⊥
Touches (i.Max kind) word = ⊥
Touches (i.Neg kind) word = ⊥
Touches (i.Abs kind) word = ⊥
Touches (i.Convert kind) word = ⊥
Touches i.Limit word = ⊥
Touches i.Select word = ⊥
Touches i.And word = ⊥
Touches i.Or word = ⊥
Touches i.Xor word = ⊥
Touches i.Not word = ⊥
Touches i.Eq word = ⊥
Touches i.Ne word = ⊥
Touches i.Lt word = ⊥
Touches i.Gt word = ⊥
Touches i.Le word = ⊥
Touches i.Ge word = ⊥
Touches (i.Within low high) word = ⊥
Touches (i.Jump target) word = ⊥
Touches (i.JumpFalse target) word = ⊥
Touches (i.Next address kind step last back) word = word ≡ address
Touches (i.Call kind address) word = (address ≤ word) × (word < address + field_count kind)

-- the instruction can store to the word
abbrev pub StoresTo : Instr → ℕ → Type 0
StoresTo (i.Push v) word = ⊥
StoresTo (i.Load address kind) word = ⊥
StoresTo (i.Store address kind) word = word ≡ address
StoresTo (i.LoadAt address kind low high) word = ⊥
StoresTo (i.StoreAt address kind low high) word = IsElement address low high word
StoresTo (i.Add kind) word = ⊥
StoresTo (i.Sub kind) word = ⊥
StoresTo (i.Mul kind) word = ⊥
StoresTo (i.Div kind) word = ⊥
StoresTo (i.Mod kind) word = ⊥
StoresTo (i.Min kind) word = ⊥
StoresTo (i.Max kind) word = ⊥
StoresTo (i.Neg kind) word = ⊥
StoresTo (i.Abs kind) word = ⊥
StoresTo (i.Convert kind) word = ⊥
StoresTo i.Limit word = ⊥
StoresTo i.Select word = ⊥
StoresTo i.And word = ⊥
StoresTo i.Or word = ⊥
StoresTo i.Xor word = ⊥
StoresTo i.Not word = ⊥
StoresTo i.Eq word = ⊥
StoresTo i.Ne word = ⊥
StoresTo i.Lt word = ⊥
StoresTo i.Gt word = ⊥
StoresTo i.Le word = ⊥
StoresTo i.Ge word = ⊥
StoresTo (i.Within low high) word = ⊥
StoresTo (i.Jump target) word = ⊥
StoresTo (i.JumpFalse target) word = ⊥
StoresTo (i.Next address kind step last back) word = word ≡ address
StoresTo (i.Call kind address) word = (address ≤ word) × (word < address + field_count kind)

-- all words that the instruction can touch are there
abbrev pub HasWords : ℕ → Instr → Type 0
HasWords words instr = (word : ℕ) → Touches instr word → word < words

-- ---- Constant

-- the number is a value of the kind
abbrev pub IsOf : Kind → ℤ → Type 0
IsOf kind v = (least kind ≤ℤ v) × (v ≤ℤ greatest kind)

-- the bounds of an array: both lie within DINT, and the lower isn't above the upper
abbrev pub AreBounds : ℤ → ℤ → Type 0
AreBounds low high = (low ≤ℤ high) × (least kinds.Dint ≤ℤ low) × (high ≤ℤ greatest kinds.Dint)

-- a pushed number and the bounds of a Within lie in the range of a constant; step and last of a Next are values of its
-- kind, and the step isn't 0; an array has bounds
abbrev pub HasConstants : Instr → Type 0
HasConstants (i.Push v) = IsOperand v
HasConstants (i.Within low high) = IsOperand low × IsOperand high
HasConstants (i.Next address kind step last back) = IsOf kind step × IsOf kind last × (step ≢ pos 0)
HasConstants (i.LoadAt address kind low high) = AreBounds low high
HasConstants (i.StoreAt address kind low high) = AreBounds low high
HasConstants _ = Unit {0}

-- ---- Target

-- a jump goes to a later place, the end of the code at most; a loop goes back to its own place at most
abbrev pub HasTarget : ℕ → ℕ → Instr → Type 0
HasTarget count place (i.Jump target) = (place < target) × (target ≤ count)
HasTarget count place (i.JumpFalse target) = (place < target) × (target ≤ count)
HasTarget count place (i.Next address kind step last back) = back ≤ place
HasTarget count place _ = Unit {0}

-- ---- Depth

-- how many operands wait at most
abbrev pub operand_limit : ℕ
operand_limit = 1024

-- how many operands an instruction pops
abbrev pub takes : Instr → ℕ
takes (i.Push v) = 0
takes (i.Load address kind) = 0
takes (i.Store address kind) = 1
takes (i.LoadAt address kind low high) = 1
takes (i.StoreAt address kind low high) = 2
takes (i.Neg kind) = 1
takes (i.Abs kind) = 1
takes (i.Convert kind) = 1
takes i.Limit = 3
takes i.Select = 3
takes i.Not = 1
takes (i.Within low high) = 1
takes (i.Jump target) = 0
takes (i.JumpFalse target) = 1
takes (i.Next address kind step last back) = 0
takes (i.Call kind address) = 0
takes _ = 2

-- how many it pushes
abbrev pub gives : Instr → ℕ
gives (i.Store address kind) = 0
gives (i.StoreAt address kind low high) = 0
gives (i.Jump target) = 0
gives (i.JumpFalse target) = 0
gives (i.Next address kind step last back) = 0
gives (i.Call kind address) = 0
gives _ = 1

-- how many operands wait after an instruction, where so many waited before it; after a Jump none is said to wait
abbrev pub depth_after : ℕ → Instr → ℕ
depth_after depth (i.Jump target) = 0
depth_after depth instr = depth - takes instr + gives instr

-- how many operands wait before the instruction at a place, in order of the places
abbrev pub depth_at : List Instr → ℕ → ℕ
depth_at code place = fold depth_after 0 (take place code)

-- the instruction jumps or counts a loop, so that no operand may wait after its pop
abbrev pub EmptiesStack : Instr → Type 0
EmptiesStack (i.Jump target) = Unit {0}
EmptiesStack (i.JumpFalse target) = Unit {0}
EmptiesStack (i.Next address kind step last back) = Unit {0}
EmptiesStack _ = ⊥

-- no operand lacks, no more than the limit wait afterwards, and none at a jump after its pop
pub record HasDepth (depth : ℕ) (instr : Instr) : Type 0 where
  pub operands : takes instr ≤ depth
  pub room : depth - takes instr + gives instr ≤ operand_limit
  pub emptied : EmptiesStack instr → depth ≡ takes instr

-- the place that an instruction names
abbrev pub named : Instr → Option ℕ
named (i.Jump target) = Some target
named (i.JumpFalse target) = Some target
named (i.Next address kind step last back) = Some back
named _ = None

-- the instruction at a place names a target, and keeps the rule Target
abbrev pub NamesTarget : List Instr → ℕ → ℕ → Type 0
NamesTarget code place target =
    (instr : Instr) × (slice_get code place ≡ Some instr)
    × (named instr ≡ Some target) × HasTarget (length code) place instr

-- some instruction names the place as a target
abbrev pub IsTarget : List Instr → ℕ → Type 0
IsTarget code target = (place : ℕ) × NamesTarget code place target

-- the place keeps the rule Depth; no operand waits at a target or at the end
pub record KeepsDepth (code : List Instr) (place : ℕ) : Type 0 where
  pub here : IfSome (slice_get code place) (HasDepth (depth_at code place))
  pub target : IsTarget code place → depth_at code place ≡ 0
  pub finish : place ≡ length code → depth_at code place ≡ 0

-- ---- Loop

-- two loops, each from its first instruction to its Next, lie apart, or one within the other
abbrev pub Nest : (from to from' to' : ℕ) → Type 0
Nest from to from' to' =
    (to < from') ⊎ (to' < from) ⊎ ((from ≤ from') × (to' ≤ to)) ⊎ ((from' ≤ from) × (to ≤ to'))

-- a loop nests with that of an earlier Next
abbrev pub NestsWith : (from to at : ℕ) → Instr → Type 0
NestsWith from to at (i.Next address kind step last back) = Nest back at from to
NestsWith from to at _ = Unit {0}

-- from `back` to the Next nothing else can store to its word, and its loop nests with each earlier one
abbrev pub HasLoop : List Instr → ℕ → Instr → Type 0
HasLoop code place (i.Next address kind step last back) =
    (at : ℕ) → (instr : Instr) → at < place → slice_get code at ≡ Some instr
    → (back ≤ at → StoresTo instr address → ⊥) × NestsWith back place at instr
HasLoop code place _ = Unit {0}

-- ---- all five

-- the place keeps the rule
abbrev pub Keeps : List Instr → ℕ → ℕ → CodeRule → Type 0
Keeps code words place rule.Address = IfSome (slice_get code place) (HasWords words)
Keeps code words place rule.Constant = IfSome (slice_get code place) HasConstants
Keeps code words place rule.Target = IfSome (slice_get code place) (HasTarget (length code) place)
Keeps code words place rule.Depth = KeepsDepth code place
Keeps code words place rule.Loop = IfSome (slice_get code place) (HasLoop code place)

-- no rule is broken, at no place of the list and not at its end
abbrev pub IsVerified : List Instr → ℕ → Type 0
IsVerified code words = (place : ℕ) → place ≤ length code → (r : CodeRule) → Keeps code words place r

-- the order of the rules
abbrev pub rank : CodeRule → ℕ
rank rule.Address = 0
rank rule.Constant = 1
rank rule.Target = 2
rank rule.Depth = 3
rank rule.Loop = 4

-- the first broken rule at the first place that breaks one
pub record IsFirstBroken (code : List Instr) (words : ℕ) (bad : BadCode) : Type 0 where
  pub within : bad.index ≤ length code
  pub before : (place : ℕ) → place < bad.index → (r : CodeRule) → Keeps code words place r
  pub earlier : (r : CodeRule) → rank r < rank bad.cause → Keeps code words bad.index r
  pub broken : Keeps code words bad.index bad.cause → ⊥
