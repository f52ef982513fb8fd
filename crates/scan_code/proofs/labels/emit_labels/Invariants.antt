use Rattle.std.proofs.Common.{◌≡◌, ◌++◌, take}
use Rattle.st_core.specs.Codes.{term_code}
use Rattle.st_meaning.specs.Expressions.{integer_of}
use Rattle.st_meaning.specs.Statements.{range_of}
use Rattle.st_sound.specs.Shapes.{shape_in}
use Rattle.code_size.proofs.LabelCosts.{rows}
use Rattle.scan_code.proofs.labels.emit_labels.Given as goal

abbrev pub invariant-loop-label : goal.invariant-loop-label
invariant-loop-label l = l.code.items ≡ l.fn.code.items ++ term_code (shape_in l.layout) (rows (integer_of l.layout l.selector) (range_of l.fn.first) (take l.label-index l.more))
