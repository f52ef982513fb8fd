use Rattle.std.proofs.Common.{nat_le, rules}
use Rattle.std.proofs.lemmas.List.Sorted.{IsPartitionPoint-from_clause, IsPartitionedBy-leb}
use Rattle.script_text.specs.Inner.LegParts.{RowValue}
use Rattle.script_text.proofs.row.rows_up_to.Goals as goal

pub returns-clause-parts : goal.returns-clause-parts
returns-clause-parts c = IsPartitionPoint-from_clause (λ (r : RowValue). nat_le r.scan c.args.scan) _ _ c.partition_point.ensures.partitioned (IsPartitionedBy-leb (λ (r : RowValue). r.scan) _ c.args.scan c.requires) (λ a r q k. search rules)
