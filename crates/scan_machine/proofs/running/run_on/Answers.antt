use Rattle.std.proofs.Common.{◌≡◌, ℕ, ◌+◌, Some, pos, length, get_or, to_z, of_z, w64, arith, sym, subst, ap, refl, ◌∙◌}
use Rattle.std.proofs.lemmas.Int.{ints}
use Rattle.scan_machine.specs.declared.instructions.Instr.{Instr}
use Rattle.scan_machine.specs.declared.instructions.Instr.TheVariants.{Push}
use Rattle.scan_machine.specs.Rules.{HasWords, takes, gives}
use Rattle.scan_machine.specs.Machine.{State, at_start}
use Rattle.scan_machine.specs.Inner.Waiting.{waiting}
use Rattle.scan_machine.proofs.Stacking.{length-waiting, waiting-none}
use Rattle.scan_machine.proofs.Moves.{Went, went}
use Rattle.scan_machine.proofs.Stays.{instr_at, words_at_place, constants_at_place, depth_at_place, step_within, step_depth, step_nearer}
use Rattle.scan_machine.proofs.Ran.{begun, ran_more, held, ended}
use Rattle.scan_machine.proofs.running.run_on.Goals as goal

pub loop-index-init : goal.loop-index-init
loop-index-init g c =
    record {
      ran = (0, begun c.args.code.now (to_z w64 (of_z w64 c.args.dt)) (record { words = c.args.words.now; stores = c.args.touched.now.pairs }) (waiting c.new-places.result 0) (waiting-none c.new-places.result), omega arith);
      within = omega arith;
      depth = refl;
      size = refl;
    }

pub step-jump-requires-clause-words : goal.step-jump-requires-clause-words
step-jump-requires-clause-words g c =
    let code = c.args.code.now in let at = c.loop-index.index in
    subst (λ n. HasWords n (get_or code at (Push (pos 0)))) (sym c.loop-index.auto.words)
    (words_at_place code (length c.args.words.now) c.requires.verified at (Push (pos 0)) c.loop-index-test.true)

pub step-jump-requires-clause-constants : goal.step-jump-requires-clause-constants
step-jump-requires-clause-constants g c =
    constants_at_place c.args.code.now (length c.args.words.now) c.requires.verified c.loop-index.index (Push (pos 0)) c.loop-index-test.true

pub step-jump-requires-clause-operands : goal.step-jump-requires-clause-operands
step-jump-requires-clause-operands g c =
    let d = depth_at_place c.args.code.now (length c.args.words.now) c.requires.verified c.loop-index.index (Push (pos 0)) c.loop-index-test.true in
    let depth = c.loop-index.invariant.depth in
    omega (arith, d.operands, depth)

pub step-jump-requires-clause-room : goal.step-jump-requires-clause-room
step-jump-requires-clause-room g c =
    let d = depth_at_place c.args.code.now (length c.args.words.now) c.requires.verified c.loop-index.index (Push (pos 0)) c.loop-index-test.true in
    let depth = c.loop-index.invariant.depth in
    omega (arith, d.operands, d.room, depth)

pub step-jump-requires-clause-held : goal.step-jump-requires-clause-held
step-jump-requires-clause-held g c =
    let h = held c.args.code.now (length c.args.words.now) c.requires.verified c.loop-index.index (Push (pos 0)) c.loop-index.invariant.within in
    let depth = c.loop-index.invariant.depth in
    omega (arith, h, depth)

pub loop-index-smaller : goal.loop-index-smaller
loop-index-smaller g c =
    let code = c.args.code.now in let total = length c.args.words.now in let l = c.loop-index in let n = c.step-jump in
    let d : Instr = Push (pos 0) in let here = c.loop-index-test.true in
    let s : State = record { index = l.index; stack = waiting l.places l.depth; words = l.words; flag = l.flag; stores = l.touched.pairs } in
    let s' : State = record { index = c.landed-index.result; stack = waiting n.new.places n.new.depth; words = n.new.words; flag = n.new.flag; stores = n.new.touched.pairs } in
    let done =
    n.ensures.value l.index
    ∙ ap (λ (k : ℕ). let s : State = record { index = k; stack = waiting n.new.places n.new.depth; words = n.new.words; flag = n.new.flag; stores = n.new.touched.pairs } in Some s)
    (sym c.landed-index.ensures) in
    let move : Went (get_or code l.index d) s s' =
    went (to_z w64 (of_z w64 c.args.dt)) (get_or code l.index d) s s'
    (subst (λ n. HasWords n (get_or code l.index d)) (sym l.auto.words) (words_at_place code total c.requires.verified l.index d here))
    (constants_at_place code total c.requires.verified l.index d here) done in
    step_nearer code total c.requires.verified d s s' here l.auto.words move

pub loop-index-preserved : goal.loop-index-preserved
loop-index-preserved g c =
    let code = c.args.code.now in let total = length c.args.words.now in let l = c.loop-index in let n = c.step-jump in
    let d : Instr = Push (pos 0) in let here = c.loop-index-test.true in
    let s : State = record { index = l.index; stack = waiting l.places l.depth; words = l.words; flag = l.flag; stores = l.touched.pairs } in
    let s' : State = record { index = c.landed-index.result; stack = waiting n.new.places n.new.depth; words = n.new.words; flag = n.new.flag; stores = n.new.touched.pairs } in
    let done =
    n.ensures.value l.index
    ∙ ap (λ (k : ℕ). let s : State = record { index = k; stack = waiting n.new.places n.new.depth; words = n.new.words; flag = n.new.flag; stores = n.new.touched.pairs } in Some s)
    (sym c.landed-index.ensures) in
    let dt = to_z w64 (of_z w64 c.args.dt) in
    let move : Went (get_or code l.index d) s s' =
    went dt (get_or code l.index d) s s'
    (subst (λ n. HasWords n (get_or code l.index d)) (sym l.auto.words) (words_at_place code total c.requires.verified l.index d here))
    (constants_at_place code total c.requires.verified l.index d here) done in
    let ran = l.invariant.ran in
    let ticked = c.tick.ensures in
    record {
      ran = (
        ran.0 + 1,
        ran_more code dt ran.0 (at_start (record { words = c.args.words.now; stores = c.args.touched.now.pairs })) s s' (get_or code l.index d) ran.1 (instr_at code total c.requires.verified l.index d here) done,
        omega (arith, ran.2, ticked),
      );
      within = step_within code total c.requires.verified d s s' here l.auto.words move;
      depth = sym (length-waiting n.new.places n.new.depth) ∙ step_depth code total c.requires.verified d s s' here l.auto.words move
          (length-waiting l.places l.depth ∙ l.invariant.depth)
          (ap (λ k. k + takes (get_or code l.index d)) (length-waiting n.new.places n.new.depth)
          ∙ (n.ensures.depth ∙ ap (λ k. k + gives (get_or code l.index d)) (sym (length-waiting l.places l.depth))));
      size = n.ensures.size ∙ l.invariant.size;
    }

pub returns-clause-ran : goal.returns-clause-ran
returns-clause-ran g c =
    let l = c.loop-index in let ran = l.invariant.ran in
    let same : to_z w64 (of_z w64 c.args.dt) ≡ c.args.dt = omega (arith, ints) in (
      ran.0,
      ended c.args.code.now (length c.args.words.now) c.requires.verified c.args.dt (to_z w64 (of_z w64 c.args.dt))
          (record { words = c.args.words.now; stores = c.args.touched.now.pairs }) ran.0
          (record { index = l.index; stack = waiting l.places l.depth; words = l.words; flag = l.flag; stores = l.touched.pairs })
          same l.invariant.within c.loop-index-test.false (length-waiting l.places l.depth ∙ l.invariant.depth) ran.1,
      ran.2,
    )
