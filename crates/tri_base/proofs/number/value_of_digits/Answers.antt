use Rattle.std.proofs.Common.{◌∙◌, ap, arith, w64, pos}
use Rattle.std.proofs.lemmas.Int.{to_z_pos}
use Rattle.tri_base.proofs.Digits.{reads_on, short_value, all_read}
use Rattle.tri_base.proofs.number.value_of_digits.Goals as goal

pub overflow_mul-value : goal.overflow_mul-value
overflow_mul-value c =
    let next = reads_on c.args.text.now c.loop-byte.byte-index c.loop-byte.value (omega arith) c.loop-byte.invariant in
    let short = short_value c.args.text.now c.requires in
    omega (arith, next.bound, short.0)

pub overflow_add-value : goal.overflow_add-value
overflow_add-value c =
    let next = reads_on c.args.text.now c.loop-byte.byte-index c.loop-byte.value (omega arith) c.loop-byte.invariant in
    let short = short_value c.args.text.now c.requires in
    omega (arith, next.bound, short.0)

pub overflow_cast-result : goal.overflow_cast-result
overflow_cast-result c =
    let whole = all_read c.args.text.now c.loop-byte.byte-index c.loop-byte.value (omega arith) c.loop-byte.invariant in
    let short = short_value c.args.text.now c.requires in
    omega (arith, whole, short.0)

pub returns : goal.returns
returns c =
    let whole = all_read c.args.text.now c.loop-byte.byte-index c.loop-byte.value (omega arith) c.loop-byte.invariant in
    let short = short_value c.args.text.now c.requires in
    to_z_pos w64 c.loop-byte.value (omega (arith, whole, short.0)) ∙ ap (λ n. pos n) whole
