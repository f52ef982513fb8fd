use Rattle.std.proofs.Common.{rules, ◌≡◌, ◌<◌, ◌+◌, length, arith, ap, not, cond, if◌then◌else◌, sym, ◌∙◌}
use Rattle.std.proofs.lemmas.Grind.{common_steps}
use Rattle.chassis.specs.Points.{is_input_kind}
use Rattle.soe_log.proofs.Finding.{all_found, found_more, one_counted}
use Rattle.soe_log.specs.Inner.Found.{points_found}
use Rattle.soe_log.proofs.discrete.discrete_points.Goals as goal

pub loop-place-preserved : goal.loop-place-preserved
loop-place-preserved c =
    let points = c.args.points.now in
    let place = c.loop-place.place in
    let point = c.index-points-place.result in
    let within : place < length points = grind arith in
    let word : c.if-input.word ≡ (if c.is_input-input.result then c.loop-place.inputs else c.loop-place.outputs) =
    search rules in
    let input : c.from-inputs.result ≡ cond (is_input_kind point.kind) 1 0 = grind (arith, common_steps) in
    let output : c.from-outputs.result ≡ cond (not (is_input_kind point.kind)) 1 0 = grind (arith, common_steps) in
    record {
      found =
          found_more points place point c.is_input-input.result c.loop-place.inputs c.loop-place.outputs
          c.if-input.word c.loop-place.found.items c.push_discrete.new.found.items within c.index-points-place.is
          c.is_input-input.ensures c.loop-place.invariant.inputs c.loop-place.invariant.outputs word
          c.loop-place.invariant.found c.in_ok-push_discrete.ensures;
      inputs = ap (λ n. c.loop-place.inputs + n) input ∙ (ap (λ n. n + cond (is_input_kind point.kind) 1 0) c.loop-place.invariant.inputs ∙ sym (one_counted (λ p. is_input_kind p.kind) points place point within c.index-points-place.is));
      outputs = ap (λ n. c.loop-place.outputs + n) output ∙ (ap (λ n. n + cond (not (is_input_kind point.kind)) 1 0) c.loop-place.invariant.outputs ∙ sym (one_counted (λ p. not (is_input_kind p.kind)) points place point within c.index-points-place.is));
      all = grind (arith, common_steps);
    }

pub returns : goal.returns
returns c =
    let end : c.loop-place.place ≡ length c.args.points.now = grind arith in
    c.loop-place.invariant.found ∙ (ap (points_found c.args.points.now) end ∙ all_found c.args.points.now)
