use Rattle.std.proofs.Common.{◌≡◌, ◌++◌, ◌-◌, ◌≤◌, None}
use Rattle.plant_script.specs.SingleTexts.{text_after}
use Rattle.check_report.specs.Inner.Told.{told}
use Rattle.check_report.proofs.check_text.push_downloads.Given as goal

-- the program that stands there, and what was told so far
abbrev pub invariant-scans : goal.invariant-scans
invariant-scans g l =
    let m = g.E.Engine.meaning (g.E.Engine.points l.engine) in
    record {
      stands : g.E.Engine.text_of l.program ≡ text_after m l.script.value l.scan;
      builds : m.builds (g.E.Engine.text_of l.program) ≡ None;
      told : l.text.list ≡ l.fn.text.list ++ told m l.script.value l.scan;
      within : l.scan ≤ l.script.value.scans;
    }

abbrev pub decreases-scans : goal.decreases-scans
decreases-scans g l = l.script.value.scans - l.scan
