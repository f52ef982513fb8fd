use Rattle.std.proofs.Common.{◌+◌, ◌<◌, ◌^◌, length}
use Rattle.script_lines.specs.Lines.{lines_of}
use Rattle.cause_effect.proofs.Firsts.{HasRead}
use Rattle.cause_effect.proofs.read.read_bytes.Given as goal

-- how what was read stands, and no line goes uncounted
abbrev pub invariant-loop-rest : goal.invariant-loop-rest
invariant-loop-rest l = record {
  read : HasRead l.bytes l.rest l.lines l.reader;
  counted : l.lines + length (lines_of l.rest) + 1 < 2 ^ 32;
}

abbrev pub decreases-loop-rest : goal.decreases-loop-rest
decreases-loop-rest l = length l.rest
