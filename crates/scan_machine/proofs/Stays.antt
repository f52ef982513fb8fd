-- A run of verified code stays within the code, with as many operands as the rules count, and comes nearer to its end.
use Rattle.std.proofs.Common.{◌≡◌, ℕ, ◌+◌, ◌<◌, ◌≤◌, Some, IfSome, List, length, get_or, slice_get, arith, sym, subst, ap, ◌∙◌, refl, inl, inr}
use Rattle.std.proofs.lemmas.Option.{slice_get-get_or}
use Rattle.scan_machine.specs.declared.instructions.Instr.{Instr}
use Rattle.scan_machine.specs.declared.instructions.Instr.TheVariants as i
use Rattle.scan_machine.specs.declared.verified.CodeRule.TheVariants as rule
use Rattle.scan_machine.specs.Rules.{HasWords, HasConstants, HasTarget, HasDepth, takes, gives, depth_at, depth_after, NamesTarget, IsVerified}
use Rattle.scan_machine.specs.Machine.{State, read}
use Rattle.scan_machine.proofs.Waiting.{depth_more}
use Rattle.scan_machine.proofs.Reaches.{reach_there}
use Rattle.scan_machine.proofs.Turns.{potential, forward, backward, turned_read}
use Rattle.scan_machine.proofs.Moves.{Leads, Went}

module _ (code : List Instr) (total : ℕ) (kept : IsVerified code total) (at : ℕ) (d : Instr) (within : at < length code) where
  pub instr_at : slice_get code at ≡ Some (get_or code at d)
  instr_at = slice_get-get_or code at d within

  pub words_at_place : HasWords total (get_or code at d)
  words_at_place = subst (λ o. IfSome o (HasWords total)) instr_at (kept at (omega arith) rule.Address)

  pub constants_at_place : HasConstants (get_or code at d)
  constants_at_place = subst (λ o. IfSome o HasConstants) instr_at (kept at (omega arith) rule.Constant)

  pub target_at_place : HasTarget (length code) at (get_or code at d)
  target_at_place = subst (λ o. IfSome o (HasTarget (length code) at)) instr_at (kept at (omega arith) rule.Target)

  pub depth_at_place : HasDepth (depth_at code at) (get_or code at d)
  depth_at_place = subst (λ o. IfSome o (HasDepth (depth_at code at))) instr_at (kept at (omega arith) rule.Depth).here

leads_within : (count : ℕ) (s s' : State) (instr : Instr) → s.index < count → HasTarget count s.index instr → Leads instr s s' → s'.index ≤ count
leads_within count s s' (i.Jump target) here t h = omega (arith, h, t.1)
leads_within count s s' (i.JumpFalse target) here t (inl h) = omega (arith, h)
leads_within count s s' (i.JumpFalse target) here t (inr h) = omega (arith, h, t.1)
leads_within count s s' (i.Next address kind step last back) here t (inl h) = omega (arith, h)
leads_within count s s' (i.Next address kind step last back) here t (inr h) = omega (arith, h.0, t)
leads_within count s s' _ here t h = omega (arith, h)

module _ (code : List Instr) (total : ℕ) (kept : IsVerified code total) (s s' : State) where
  -- no operand waits where a jump leads
  empty_target : (target : ℕ) → target ≤ length code → NamesTarget code s.index target → depth_at code target ≡ 0
  empty_target target within names = (kept target within rule.Depth).target (s.index, names)

  leads_depth : (instr : Instr) → slice_get code s.index ≡ Some instr → HasTarget (length code) s.index instr → HasDepth (depth_at code s.index) instr
      → s.index < length code → length s.stack ≡ depth_at code s.index → length s'.stack + takes instr ≡ length s.stack + gives instr
      → depth_at code (s.index + 1) ≡ depth_after (depth_at code s.index) instr → Leads instr s s' → length s'.stack ≡ depth_at code s'.index
  leads_depth (i.Jump target) is t d here now count more h =
      let e = empty_target target t.1 (i.Jump target, is, refl, t) in
      let none = d.emptied tt in
      let same : depth_at code s'.index ≡ depth_at code target = ap (depth_at code) h in
      omega (arith, e, none, same)
  leads_depth (i.JumpFalse target) is t d here now count more (inl h) =
      let same : depth_at code s'.index ≡ depth_at code (s.index + 1) = ap (depth_at code) h in
      omega (arith, same, more, d.operands)
  leads_depth (i.JumpFalse target) is t d here now count more (inr h) =
      let e = empty_target target t.1 (i.JumpFalse target, is, refl, t) in
      let one = d.emptied tt in
      let same : depth_at code s'.index ≡ depth_at code target = ap (depth_at code) h in
      omega (arith, e, one, same)
  leads_depth (i.Next address kind step last back) is t d here now count more (inl h) =
      let same : depth_at code s'.index ≡ depth_at code (s.index + 1) = ap (depth_at code) h in
      omega (arith, same, more, d.operands)
  leads_depth (i.Next address kind step last back) is t d here now count more (inr h) =
      let e = empty_target back (omega (arith, t)) (i.Next address kind step last back, is, refl, t) in
      let none = d.emptied tt in
      let same : depth_at code s'.index ≡ depth_at code back = ap (depth_at code) h.0 in
      omega (arith, e, none, same)
  leads_depth _ is t d here now count more h =
      let same : depth_at code s'.index ≡ depth_at code (s.index + 1) = ap (depth_at code) h in
      omega (arith, same, more, d.operands)

  leads_nearer : (instr : Instr) → slice_get code s.index ≡ Some instr → HasTarget (length code) s.index instr → HasConstants instr → HasWords (length s.words) instr
      → Went instr s s' → potential code s'.words s'.index < potential code s.words s.index
  leads_nearer (i.Jump target) is t c w h =
      forward code total kept s.words s'.words s.index s'.index (i.Jump target) (omega (arith, h.leads, t.0)) is h.same
  leads_nearer (i.JumpFalse target) is t c w h =
      let on : s.index < s'.index = elim h.leads as (λ _. s.index < s'.index) [ inl e ↦ omega (arith, e) | inr e ↦ omega (arith, e, t.0) ] in
      forward code total kept s.words s'.words s.index s'.index (i.JumpFalse target) on is h.same
  leads_nearer (i.Next address kind step last back) is t c w h =
      let there = reach_there (length s.words) address 0 (i.Next address kind step last back) refl w in
      elim h.leads as (λ _. potential code s'.words s'.index < potential code s.words s.index) [
        | inl e ↦ forward code total kept s.words s'.words s.index s'.index (i.Next address kind step last back) (omega (arith, e)) is h.same
        | inr e ↦
            let new = ap (λ l. read l address kind) e.2 ∙ turned_read kind step last s.words address (omega (arith, there)) c.1 e.1 in
            subst (λ n. potential code s'.words n < potential code s.words s.index) (sym e.0)
            (backward code total kept s.words s.index address kind step last back is s'.words h.same c t e.1 new)
      ]
  leads_nearer instr is t c w h =
      forward code total kept s.words s'.words s.index s'.index instr (omega (arith, h.leads)) is h.same

module _ (code : List Instr) (total : ℕ) (kept : IsVerified code total) (d : Instr) (s s' : State) (here : s.index < length code) (sized : length s.words ≡ total)
    (went : Went (get_or code s.index d) s s') where
  abbrev instr : Instr
  instr = get_or code s.index d

  pub step_within : s'.index ≤ length code
  step_within = leads_within (length code) s s' instr here (target_at_place code total kept s.index d here) went.leads

  pub step_depth : length s.stack ≡ depth_at code s.index → length s'.stack + takes instr ≡ length s.stack + gives instr → length s'.stack ≡ depth_at code s'.index
  step_depth now count =
      leads_depth code total kept s s' instr (instr_at code total kept s.index d here) (target_at_place code total kept s.index d here)
      (depth_at_place code total kept s.index d here) here now count (depth_more code s.index d here) went.leads

  pub step_nearer : potential code s'.words s'.index < potential code s.words s.index
  step_nearer =
      leads_nearer code total kept s s' instr (instr_at code total kept s.index d here) (target_at_place code total kept s.index d here)
      (constants_at_place code total kept s.index d here) (subst (λ n. HasWords n instr) (sym sized) (words_at_place code total kept s.index d here)) went
