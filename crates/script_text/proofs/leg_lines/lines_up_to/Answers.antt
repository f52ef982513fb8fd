use Rattle.std.proofs.Common.{nat_le, rules}
use Rattle.std.proofs.lemmas.List.Sorted.{IsPartitionPoint-from_clause, IsPartitionedBy-leb}
use Rattle.script_text.specs.Inner.LegParts.{LegLinesValue}
use Rattle.script_text.proofs.leg_lines.lines_up_to.Goals as goal

pub returns-clause-parts : goal.returns-clause-parts
returns-clause-parts c = IsPartitionPoint-from_clause (λ (l : LegLinesValue). nat_le l.scan c.args.scan) _ _ c.partition_point.ensures.partitioned (IsPartitionedBy-leb (λ (l : LegLinesValue). l.scan) _ c.args.scan c.requires) (λ a r q k. search rules)
