-- The first place that breaks a rule, but for operands that wait at a target.
use Rattle.std.proofs.Common.{◌≡◌, ℕ, ◌+◌, ◌<◌, ◌≤◌, ◌↔◌, Bool, IsTrue, IfSome, List, length, get_or, slice_get, arith, sym, subst}
use Rattle.std.proofs.lemmas.Option.{slice_get-get_or, slice_get_past}
use borrow.Author.Count.{below_more}
use Rattle.scan_machine.specs.declared.instructions.Instr.{Instr}
use Rattle.scan_machine.specs.declared.verified.CodeRule.{CodeRule}
use Rattle.scan_machine.specs.declared.verified.CodeRule.TheVariants as rule
use Rattle.scan_machine.specs.declared.verified.BadCode.{BadCode}
use Rattle.scan_machine.specs.Rules.{HasWords, HasConstants, HasTarget, HasDepth, HasLoop, depth_at, rank, Keeps, IsTarget, IsVerified, IsFirstBroken, KeepsDepth}
use Rattle.scan_machine.specs.Inner.FirstFault.{KeepsAlone, IsSoundAt, AreSoundBelow, IsFirstAlone, HaveTargets, HaveDepths, HaveEmptyTargets, IsLoaded}

-- what is asked of the instruction at a place
at_place : (b : Bool) (code : List Instr) (place : ℕ) (d : Instr) (P : Instr → Type 0) → place < length code
    → (IsTrue b ↔ P (get_or code place d)) → (IsTrue b ↔ IfSome (slice_get code place) P)
at_place b code place d P within h = subst (λ o. (IsTrue b ↔ IfSome o P)) (sym (slice_get-get_or code place d within)) h

module _ (b : Bool) (code : List Instr) (words place : ℕ) (r : CodeRule) (d : Instr) (within : place < length code) where
  pub keeps_address : r ≡ rule.Address → (IsTrue b ↔ HasWords words (get_or code place d)) → (IsTrue b ↔ KeepsAlone code words place r)
  keeps_address e h = subst (λ r. (IsTrue b ↔ KeepsAlone code words place r)) (sym e) (at_place b code place d (HasWords words) within h)

  pub keeps_constant : r ≡ rule.Constant → (IsTrue b ↔ HasConstants (get_or code place d)) → (IsTrue b ↔ KeepsAlone code words place r)
  keeps_constant e h = subst (λ r. (IsTrue b ↔ KeepsAlone code words place r)) (sym e) (at_place b code place d HasConstants within h)

  pub keeps_target : r ≡ rule.Target → (IsTrue b ↔ HasTarget (length code) place (get_or code place d)) → (IsTrue b ↔ KeepsAlone code words place r)
  keeps_target e h = subst (λ r. (IsTrue b ↔ KeepsAlone code words place r)) (sym e) (at_place b code place d (HasTarget (length code) place) within h)

  pub keeps_depth : (depth : ℕ) → depth ≡ depth_at code place → r ≡ rule.Depth → (IsTrue b ↔ HasDepth depth (get_or code place d)) → (IsTrue b ↔ KeepsAlone code words place r)
  keeps_depth depth is e h =
      let here : (IsTrue b ↔ IfSome (slice_get code place) (HasDepth (depth_at code place))) =
      at_place b code place d (HasDepth (depth_at code place)) within (subst (λ n. (IsTrue b ↔ HasDepth n (get_or code place d))) is h) in
      subst (λ r. (IsTrue b ↔ KeepsAlone code words place r)) (sym e)
      ((λ t. (here.0 t, λ at_end. absurd (omega arith))), (λ k. here.1 k.0))

-- ---- the first rule that a place breaks

module _ (code : List Instr) (words place : ℕ) where
  abbrev Alone : CodeRule → Type 0
  Alone r = KeepsAlone code words place r

  pub sound : Alone rule.Address → Alone rule.Constant → Alone rule.Target → Alone rule.Depth → Alone rule.Loop → IsSoundAt code words place
  sound a c t d l rule.Address = a
  sound a c t d l rule.Constant = c
  sound a c t d l rule.Target = t
  sound a c t d l rule.Depth = d
  sound a c t d l rule.Loop = l

  pub before_constant : Alone rule.Address → (r : CodeRule) → rank r < 1 → Alone r
  before_constant a rule.Address below = a
  before_constant a rule.Constant below = absurd (omega arith)
  before_constant a rule.Target below = absurd (omega arith)
  before_constant a rule.Depth below = absurd (omega arith)
  before_constant a rule.Loop below = absurd (omega arith)

  pub before_target : Alone rule.Address → Alone rule.Constant → (r : CodeRule) → rank r < 2 → Alone r
  before_target a c rule.Address below = a
  before_target a c rule.Constant below = c
  before_target a c rule.Target below = absurd (omega arith)
  before_target a c rule.Depth below = absurd (omega arith)
  before_target a c rule.Loop below = absurd (omega arith)

  pub before_depth : Alone rule.Address → Alone rule.Constant → Alone rule.Target → (r : CodeRule) → rank r < 3 → Alone r
  before_depth a c t rule.Address below = a
  before_depth a c t rule.Constant below = c
  before_depth a c t rule.Target below = t
  before_depth a c t rule.Depth below = absurd (omega arith)
  before_depth a c t rule.Loop below = absurd (omega arith)

  pub before_loop : Alone rule.Address → Alone rule.Constant → Alone rule.Target → Alone rule.Depth → (r : CodeRule) → rank r < 4 → Alone r
  before_loop a c t d rule.Address below = a
  before_loop a c t d rule.Constant below = c
  before_loop a c t d rule.Target below = t
  before_loop a c t d rule.Depth below = d
  before_loop a c t d rule.Loop below = absurd (omega arith)

-- ---- the end of the list

module _ (code : List Instr) (words place : ℕ) (over : length code ≤ place) where
  nothing : (P : Instr → Type 0) → IfSome (slice_get code place) P
  nothing P = subst (λ o. IfSome o P) (sym (slice_get_past code place over)) tt

  pub end_before_depth : (r : CodeRule) → rank r < 3 → KeepsAlone code words place r
  end_before_depth = before_depth code words place (nothing (HasWords words)) (nothing HasConstants) (nothing (HasTarget (length code) place))

  pub sound_end : depth_at code place ≡ 0 → IsSoundAt code words place
  sound_end empty =
      sound code words place (nothing (HasWords words)) (nothing HasConstants) (nothing (HasTarget (length code) place))
      (nothing (HasDepth (depth_at code place)), λ _. empty) (nothing (HasLoop code place))

pub sound_more : (code : List Instr) (words place : ℕ) → AreSoundBelow code words place → IsSoundAt code words place → AreSoundBelow code words (place + 1)
sound_more code words place below here =
    let P : ℕ → Type 0 = λ at. IsSoundAt code words at in below_more P place below here

pub sound_targets : (code : List Instr) (words place : ℕ) → AreSoundBelow code words place → HaveTargets code place
sound_targets code words place sound at below = sound at below rule.Target

pub sound_depths : (code : List Instr) (words place : ℕ) → AreSoundBelow code words place → HaveDepths code place
sound_depths code words place sound at below = (sound at below rule.Depth).0

-- ---- with the targets

-- a place that breaks no rule alone, and at which no operand waits where it is a target
keeps_depth_rule : (code : List Instr) (words place : ℕ) → KeepsAlone code words place rule.Depth → (IsTarget code place → depth_at code place ≡ 0) → KeepsDepth code place
keeps_depth_rule code words place h empty = record { here = h.0; target = empty; finish = h.1 }

pub with_target : (code : List Instr) (words place : ℕ) (r : CodeRule) → KeepsAlone code words place r → (IsTarget code place → depth_at code place ≡ 0) → Keeps code words place r
with_target code words place rule.Address h empty = h
with_target code words place rule.Constant h empty = h
with_target code words place rule.Target h empty = h
with_target code words place rule.Depth h empty = keeps_depth_rule code words place h empty
with_target code words place rule.Loop h empty = h

-- before the rule Depth targets don't matter
pub before_target_depth : (code : List Instr) (words place : ℕ) (r : CodeRule) → rank r < 3 → KeepsAlone code words place r → Keeps code words place r
before_target_depth code words place rule.Address below h = h
before_target_depth code words place rule.Constant below h = h
before_target_depth code words place rule.Target below h = h
before_target_depth code words place rule.Depth below h = absurd (omega arith)
before_target_depth code words place rule.Loop below h = absurd (omega arith)

pub alone : (code : List Instr) (words place : ℕ) (r : CodeRule) → Keeps code words place r → KeepsAlone code words place r
alone code words place rule.Address h = h
alone code words place rule.Constant h = h
alone code words place rule.Target h = h
alone code words place rule.Depth h = (h.here, h.finish)
alone code words place rule.Loop h = h

pub all_kept : (code : List Instr) (words place : ℕ) → AreSoundBelow code words place → HaveEmptyTargets code place
    → (at : ℕ) → at < place → (r : CodeRule) → Keeps code words at r
all_kept code words place sound empty at below r = with_target code words at r (sound at below r) (λ is. empty at below is)

pub verified : (code : List Instr) (words : ℕ) → AreSoundBelow code words (length code + 1) → HaveEmptyTargets code (length code + 1) → IsVerified code words
verified code words sound empty place within r = all_kept code words (length code + 1) sound empty place (omega arith) r

-- the first fault is an operand that waits at a target
pub loaded_first : (code : List Instr) (words target : ℕ) → target ≤ length code → AreSoundBelow code words target → ((r : CodeRule) → rank r < 3 → KeepsAlone code words target r)
    → HaveEmptyTargets code target → IsLoaded code target → IsFirstBroken code words (record { index = target; cause = rule.Depth })
loaded_first code words target within sound earlier empty loaded = record {
  within = within;
  before = all_kept code words target sound empty;
  earlier = λ r below. before_target_depth code words target r below (earlier r below);
  broken = λ h. loaded.waiting (h.target loaded.named);
}

-- the first fault is one that has nothing to do with a target
pub alone_first : (code : List Instr) (words : ℕ) (bad : BadCode) → IsFirstAlone code words bad → HaveEmptyTargets code (bad.index + 1) → IsFirstBroken code words bad
alone_first code words bad first empty = record {
  within = first.within;
  before = all_kept code words bad.index first.before (λ target below is. empty target (omega arith) is);
  earlier = λ r below. with_target code words bad.index r (first.here.earlier r below) (λ is. empty bad.index (omega arith) is);
  broken = λ h. first.here.broken (alone code words bad.index bad.cause h);
}

-- the same where an operand waits at that very place, but an earlier rule is broken there
pub alone_before : (code : List Instr) (words : ℕ) (bad : BadCode) → IsFirstAlone code words bad → rank bad.cause < 3 → HaveEmptyTargets code bad.index → IsFirstBroken code words bad
alone_before code words bad first sooner empty = record {
  within = first.within;
  before = all_kept code words bad.index first.before empty;
  earlier = λ r below. before_target_depth code words bad.index r (omega arith) (first.here.earlier r below);
  broken = λ h. first.here.broken (alone code words bad.index bad.cause h);
}

-- the same where an operand waits at that very place, and no earlier rule is broken there
pub loaded_here : (code : List Instr) (words : ℕ) (bad : BadCode) (target : ℕ) → IsFirstAlone code words bad → bad.index ≡ target → 3 ≤ rank bad.cause
    → HaveEmptyTargets code target → IsLoaded code target → IsFirstBroken code words (record { index = target; cause = rule.Depth })
loaded_here code words bad target first e late empty loaded =
    loaded_first code words target (subst (λ n. n ≤ length code) e first.within)
    (subst (λ n. AreSoundBelow code words n) e first.before)
    (λ r below. subst (λ n. KeepsAlone code words n r) e (first.here.earlier r (omega arith)))
    empty loaded

-- where a rule is broken, not all are kept
pub not_verified : (code : List Instr) (words : ℕ) (bad : BadCode) → IsFirstBroken code words bad → IsVerified code words → ⊥
not_verified code words bad first kept = first.broken (kept bad.index first.within bad.cause)
