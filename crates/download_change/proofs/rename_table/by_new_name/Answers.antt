use Rattle.download_change.specs.Renames.{Rename}
use Rattle.download_change.proofs.Tabled.{entered_before}
use Rattle.download_change.proofs.rename_table.by_new_name.Goals as goal

pub loop-at-preserved : goal.loop-at-preserved
loop-at-preserved c =
    λ name. entered_before (λ (r : Rename). r.1) (λ (r : Rename). r.0) name c.args.renames.now c.loop-at.at c.index-renames-at.result _ _ c.loop-at-test.true c.loop-at.auto.at c.index-renames-at.is (c.in_ok-insert.ensures.updates.0 name) (c.loop-at.invariant name)
