use Rattle.std.proofs.Common.{◌≤◌, arith, refl, inl, inr}
use Rattle.std.proofs.lemmas.Bool.{cases_lt}
use Rattle.scan_machine.specs.Rules.{rank}
use Rattle.scan_machine.proofs.Sound.{sound_depths, loaded_first, alone_first, alone_before, loaded_here}
use Rattle.scan_machine.proofs.verified.with_targets.Goals as goal

pub first_loaded-target-requires-clause-depths : goal.first_loaded-target-requires-clause-depths
first_loaded-target-requires-clause-depths c at below =
    sound_depths c.args.code.now c.args.words c.args.bad.index c.requires.before at (omega arith)

pub returns-then-target-bad : goal.returns-then-target-bad
returns-then-target-bad c =
    let t = c.first_loaded-target in let sound = c.requires.before in
    loaded_first c.args.code.now c.args.words t.result (omega arith) (λ at below. sound at (omega arith)) (λ r below. sound t.result (omega arith) r) t.ensures.before (t.ensures.loaded (omega arith))

pub returns-then-target-bad-2 : goal.returns-then-target-bad-2
returns-then-target-bad-2 c =
    let t = c.first_loaded-target in
    alone_first c.args.code.now c.args.words c.args.bad c.requires (λ target below. t.ensures.before target (omega arith))

pub returns-then-is_before_depth : goal.returns-then-is_before_depth
returns-then-is_before_depth c =
    let t = c.first_loaded-target in
    alone_before c.args.code.now c.args.words c.args.bad c.requires (c.if-is_before_depth.ensures.0 refl) (λ target below. t.ensures.before target (omega arith))

pub returns-else-is_before_depth : goal.returns-else-is_before_depth
returns-else-is_before_depth c =
    let t = c.first_loaded-target in
    let late : 3 ≤ rank c.args.bad.cause =
    elim (cases_lt (rank c.args.bad.cause) 3) as (λ _. 3 ≤ rank c.args.bad.cause) [
      | inl h ↦ let no_way = c.if-is_before_depth.ensures.1 h in cc
      | inr h ↦ h
    ] in
    loaded_here c.args.code.now c.args.words c.args.bad t.result c.requires (omega arith) late t.ensures.before (t.ensures.loaded (omega arith))
