-- Nobody has to believe what stands here: it serves private functions alone.
-- What is told of scans, by the notes that three legs have of them.
use Rattle.std.specs.Prelude.{ℕ, ◌≤◌, List, length}
use Rattle.tri_base.specs.declared.leg.Triple.{Triple}
use Rattle.tri_base.specs.declared.point.Point.{Point}
use Rattle.tri_base.specs.Legs.{leg_part}
use Rattle.diag_report.specs.Report.{ScanTold}
use Rattle.leg_laws.specs.Configs.{LegValue}
use Rattle.play_report.specs.Told.{note_of_scan, told_by, told_first}

-- Each leg has a note of each of the first scans.
pub record HaveNotes (scans : ℕ) (legs : Triple LegValue) : Type 0 where
  pub a : scans ≤ length legs.a.notes
  pub b : scans ≤ length legs.b.notes
  pub c : scans ≤ length legs.c.notes

-- What is told of a scan, counted from 1.
abbrev pub told_in : List Point → Triple LegValue → (scan : ℕ) → ScanTold
told_in points legs scan = told_by points (λ leg. note_of_scan (leg_part legs leg).notes scan)

-- What is told of the first scans.
abbrev pub first_told : List Point → Triple LegValue → (scans : ℕ) → List ScanTold
first_told points legs scans = told_first points (λ leg. note_of_scan (leg_part legs leg).notes) scans
