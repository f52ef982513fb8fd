use Rattle.std.proofs.Common.{◌≡◌, ◌-◌, ◌≤◌}
use Rattle.plant_script.specs.Calm.{IsCalm}
use Rattle.plant_script.specs.Inner.Scans.{Stands, tapes_of}
use Rattle.plant_script.proofs.uncalm.first_uncalm.Given as goal

-- how the play stands, and that all scans so far are calm
abbrev pub invariant-scans : goal.invariant-scans
invariant-scans g l =
    let m = g.E.Engine.meaning (g.E.Engine.points l.engine) in
    record {
      stands : Stands m l.script.value l.scan (g.E.Engine.text_of l.program) l.counts;
      calm : IsCalm m l.script.value l.scan;
      within : l.scan ≤ l.script.value.scans;
      tapes : l.tapes ≡ tapes_of l.script.value;
    }

abbrev pub decreases-scans : goal.decreases-scans
decreases-scans g l = l.script.value.scans - l.scan
