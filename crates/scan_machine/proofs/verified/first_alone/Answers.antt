use Rattle.std.proofs.Common.{◌≡◌, ◌≤◌, ◌+◌, length, get_or, pos, arith, subst, sym, ap, refl, ◌∙◌}
use Rattle.scan_machine.specs.declared.instructions.Instr.TheVariants.{Push, Limit}
use Rattle.scan_machine.specs.Rules.{depth_at, depth_after}
use Rattle.scan_machine.specs.Inner.FirstFault.{AreSoundBelow}
use Rattle.scan_machine.proofs.Waiting.{depth_bound, depth_more}
use Rattle.scan_machine.proofs.Sound.{sound_more, sound_targets, sound_depths, sound_end, end_before_depth}
use Rattle.scan_machine.proofs.verified.first_alone.Goals as goal

pub broken_rule-requires-clause-targets : goal.broken_rule-requires-clause-targets
broken_rule-requires-clause-targets c = sound_targets c.args.code.now c.args.words c.loop-index.index c.loop-index.invariant.sound

pub broken_rule-requires-clause-room : goal.broken_rule-requires-clause-room
broken_rule-requires-clause-room c =
    let code = c.args.code.now in let at = c.loop-index.index in
    subst (λ n. n ≤ 1024) (sym c.loop-index.invariant.depth)
    (depth_bound code at at Limit (sound_depths code c.args.words at c.loop-index.invariant.sound) (omega arith) (omega arith))

pub depth_after-depth-requires : goal.depth_after-depth-requires
depth_after-depth-requires c =
    let code = c.args.code.now in let at = c.loop-index.index in
    subst (λ n. n ≤ 1024) (sym c.loop-index.invariant.depth)
    (depth_bound code at at Limit (sound_depths code c.args.words at c.loop-index.invariant.sound) (omega arith) (omega arith))

pub loop-index-preserved : goal.loop-index-preserved
loop-index-preserved c =
    let code = c.args.code.now in let at = c.loop-index.index in
    record {
      sound = sound_more code c.args.words at c.loop-index.invariant.sound c.in_default.ensures;
      depth = c.depth_after-depth.ensures ∙ (ap (λ n. depth_after n (get_or code at (Push (pos 0)))) c.loop-index.invariant.depth ∙ sym (depth_more code at (Push (pos 0)) (omega arith)));
    }

pub returns-then-depth-eq0 : goal.returns-then-depth-eq0
returns-then-depth-eq0 c =
    let code = c.args.code.now in
    let e : c.loop-index.index ≡ length code = omega arith in
    let empty : depth_at code c.loop-index.index ≡ 0 = sym c.loop-index.invariant.depth ∙ c.if-depth-eq0.true in
    subst (λ n. AreSoundBelow code c.args.words (n + 1)) e
    (sound_more code c.args.words c.loop-index.index c.loop-index.invariant.sound (sound_end code c.args.words c.loop-index.index (omega arith) empty))

pub returns-else-depth-eq0 : goal.returns-else-depth-eq0
returns-else-depth-eq0 c =
    let code = c.args.code.now in
    let e : c.loop-index.index ≡ length code = omega arith in
    record {
      within = omega arith;
      before = subst (λ n. AreSoundBelow code c.args.words n) e c.loop-index.invariant.sound;
      here = record {
        earlier = end_before_depth code c.args.words (length code) (omega arith);
        broken = λ k. c.if-depth-eq0.false (c.loop-index.invariant.depth ∙ (ap (depth_at code) e ∙ k.1 refl));
      };
    }
