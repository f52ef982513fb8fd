-- The lines of one scan.
use Rattle.std.specs.Prelude.{ℕ, List}
use Rattle.script_text.specs.declared.moment.ScanLine.{ScanLine}

-- The scan of an AT line, and what stands below it.
pub record MomentValue : Type 0 where
  -- the scan's number, from 1
  pub scan : ℕ
  -- the lines but RENAME and ASK, in their order
  pub lines : List ScanLine
  -- the names of the tags that the download renames, each the old one and the new one
  pub renames : List (List ℕ × List ℕ)
  -- the bytes of the requests
  pub asks : List (List ℕ)
