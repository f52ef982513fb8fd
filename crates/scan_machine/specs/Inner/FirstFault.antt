-- Nobody has to believe what stands here: it serves private functions alone.
-- The first fault of a list, looked for in two parts: without the operands that wait at a target, and those alone.
use Rattle.std.specs.Prelude.{◌≡◌, ℕ, ◌<◌, ◌≤◌, ◌≢◌, List, length, slice_get, IfSome}
use Rattle.scan_machine.specs.declared.instructions.Instr.{Instr}
use Rattle.scan_machine.specs.declared.verified.CodeRule.{CodeRule}
use Rattle.scan_machine.specs.declared.verified.CodeRule.TheVariants as rule
use Rattle.scan_machine.specs.declared.verified.BadCode.{BadCode}
use Rattle.scan_machine.specs.Rules.{HasTarget, HasDepth, depth_at, IsTarget, NamesTarget, Keeps, rank}

-- each instruction before the place keeps the rule Target
abbrev pub HaveTargets : List Instr → ℕ → Type 0
HaveTargets code place = (at : ℕ) → at < place → IfSome (slice_get code at) (HasTarget (length code) at)

-- each instruction before the place has its operands and room
abbrev pub HaveDepths : List Instr → ℕ → Type 0
HaveDepths code place = (at : ℕ) → at < place → IfSome (slice_get code at) (HasDepth (depth_at code at))

-- the place keeps the rule, but that operands may wait at a target
abbrev pub KeepsAlone : List Instr → ℕ → ℕ → CodeRule → Type 0
KeepsAlone code words place rule.Depth =
    IfSome (slice_get code place) (HasDepth (depth_at code place))
    × (place ≡ length code → depth_at code place ≡ 0)
KeepsAlone code words place rule.Address = Keeps code words place rule.Address
KeepsAlone code words place rule.Constant = Keeps code words place rule.Constant
KeepsAlone code words place rule.Target = Keeps code words place rule.Target
KeepsAlone code words place rule.Loop = Keeps code words place rule.Loop

-- the first rule that is broken at a place, but for operands at a target
pub record IsBrokenAt (code : List Instr) (words : ℕ) (place : ℕ) (cause : CodeRule) : Type 0 where
  pub earlier : (r : CodeRule) → rank r < rank cause → KeepsAlone code words place r
  pub broken : KeepsAlone code words place cause → ⊥

-- the place breaks none, but for operands at a target
abbrev pub IsSoundAt : List Instr → ℕ → ℕ → Type 0
IsSoundAt code words place = (r : CodeRule) → KeepsAlone code words place r

-- no place before this one breaks one
abbrev pub AreSoundBelow : List Instr → ℕ → ℕ → Type 0
AreSoundBelow code words place = (at : ℕ) → at < place → (r : CodeRule) → KeepsAlone code words at r

-- the first place that breaks one
pub record IsFirstAlone (code : List Instr) (words : ℕ) (bad : BadCode) : Type 0 where
  pub within : bad.index ≤ length code
  pub before : AreSoundBelow code words bad.index
  pub here : IsBrokenAt code words bad.index bad.cause

-- no operand waits at a target before the place
abbrev pub HaveEmptyTargets : List Instr → ℕ → Type 0
HaveEmptyTargets code place = (target : ℕ) → target < place → IsTarget code target → depth_at code target ≡ 0

-- the instruction at a place names no target before the bound at which an operand waits
abbrev pub NamesEmpty : List Instr → ℕ → ℕ → Type 0
NamesEmpty code bound place =
    (target : ℕ) → target < bound → NamesTarget code place target → depth_at code target ≡ 0

-- a target at which an operand waits
pub record IsLoaded (code : List Instr) (target : ℕ) : Type 0 where
  pub named : IsTarget code target
  pub waiting : depth_at code target ≢ 0
