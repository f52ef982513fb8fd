use Rattle.std.proofs.Common.{◌≡◌, ◌++◌, map, flat_map, take}
use Rattle.script_lines.specs.Lines.{ended}
use Rattle.script_writer.specs.Canonical.{ask_line}
use Rattle.script_writer.proofs.line.push_asks.Given as goal

abbrev pub invariant-loop-ask : goal.invariant-loop-ask
invariant-loop-ask l = l.text.list ≡ l.fn.text.list ++ flat_map ended (map ask_line (map (λ t. t.list) (take l.ask-index l.asks)))
