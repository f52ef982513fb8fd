use Rattle.std.proofs.Common.{◌∙◌, ◌<◌, sym, arith}
use Rattle.script_text.proofs.Scans.{moment_before, moment_found, moment_other}
use Rattle.script_text.proofs.find_moment.find_moment.Goals as goal

pub returns-then-count-eq0 : goal.returns-then-count-eq0
returns-then-count-eq0 c = moment_before c.args.scan c.args.moments.now c.moments_up_to-count.result c.requires c.moments_up_to-count.ensures.bound c.moments_up_to-count.ensures.parts c.if-count-eq0.true

pub returns-then-scan : goal.returns-then-scan
returns-then-scan c =
    let some : 0 < c.moments_up_to-count.result = grind (arith, c.if-count-eq0.false) in
    moment_found c.args.scan c.args.moments.now c.moments_up_to-count.result c.index-moments-count.result c.requires c.moments_up_to-count.ensures.bound c.moments_up_to-count.ensures.parts some c.index-moments-count.is (sym c.scan.ensures ∙ c.if-scan.true)

pub returns-else-scan : goal.returns-else-scan
returns-else-scan c =
    let some : 0 < c.moments_up_to-count.result = grind (arith, c.if-count-eq0.false) in
    moment_other c.args.scan c.args.moments.now c.moments_up_to-count.result c.index-moments-count.result c.requires c.moments_up_to-count.ensures.bound c.moments_up_to-count.ensures.parts some c.index-moments-count.is (λ e. c.if-scan.false (c.scan.ensures ∙ e))
