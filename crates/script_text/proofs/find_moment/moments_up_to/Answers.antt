use Rattle.std.proofs.Common.{nat_le, rules}
use Rattle.std.proofs.lemmas.List.Sorted.{IsPartitionPoint-from_clause, IsPartitionedBy-leb}
use Rattle.script_text.specs.MomentValue.{MomentValue}
use Rattle.script_text.proofs.Scans.{moments_sorted}
use Rattle.script_text.proofs.find_moment.moments_up_to.Goals as goal

pub returns-clause-parts : goal.returns-clause-parts
returns-clause-parts c = IsPartitionPoint-from_clause (λ (m : MomentValue). nat_le m.scan c.args.scan) _ _ c.partition_point.ensures.partitioned (IsPartitionedBy-leb (λ (m : MomentValue). m.scan) _ c.args.scan (moments_sorted c.args.moments.now c.requires)) (λ a r q k. search rules)
