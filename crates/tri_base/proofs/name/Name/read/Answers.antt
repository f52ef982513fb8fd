use Rattle.std.proofs.Common.{◌≡◌, ◌∙◌, ap, arith, length}
use Rattle.std.proofs.Math.ListN.{set}
use Rattle.tri_base.proofs.NameBytes.{front, front_more, whole_is_kept, name_length}
use Rattle.tri_base.proofs.name.Name.read.Goals as goal

pub loop-at-preserved : goal.loop-at-preserved
loop-at-preserved c =
    let size = name_length c.args.text.now (cc) in
    ap (set c.loop-at.bytes c.loop-at.at) c.to_ascii_uppercase.ensures.value ∙ front_more c.args.text.now c.loop-at.bytes c.loop-at.at (omega arith) size.1 c.loop-at.invariant

pub invariant_of-result : goal.invariant_of-result
invariant_of-result c =
    let ended : c.loop-at.at ≡ length c.args.text.now = omega arith in
    whole_is_kept c.args.text.now c.loop-at.bytes (cc) (c.loop-at.invariant ∙ ap (front c.args.text.now) ended)
