use Rattle.std.specs.Str.{bytes_eq}
use Rattle.download_change.specs.Renames.{Rename}
use Rattle.download_change.proofs.Tabled.{one, other}
use Rattle.download_change.proofs.Walks.{any_met, any_passed}
use Rattle.download_change.proofs.heirs.is_new_name.Goals as goal

pub returns-then-eq : goal.returns-then-eq
returns-then-eq c =
    let e = one c.args.name.now c.rename-item.result.1 c.eq.result c.eq.ensures c.if-eq.true in
    any_met (λ (r : Rename). bytes_eq c.args.name.now r.1) c.args.renames.now c.loop-rename.rename-index c.rename-item.result c.loop-rename-test.true c.rename-item.is e c.loop-rename.invariant

pub loop-rename-preserved : goal.loop-rename-preserved
loop-rename-preserved c =
    let e = other c.args.name.now c.rename-item.result.1 c.eq.result c.eq.ensures c.if-eq.false in
    any_passed (λ (r : Rename). bytes_eq c.args.name.now r.1) c.args.renames.now c.loop-rename.rename-index c.rename-item.result c.loop-rename-test.true c.rename-item.is e c.loop-rename.invariant
