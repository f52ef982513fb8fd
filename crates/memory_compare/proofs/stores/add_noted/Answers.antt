use Rattle.std.proofs.Common.{◌+◌, sym, ◌∙◌, arith}
use Rattle.tri_base.specs.Noted.{number_before}
use Rattle.memory_compare.proofs.Below.{below_most, below_grows, below_more, changed_noted}
use Rattle.memory_compare.proofs.stores.add_noted.Goals as goal

pub add-requires : goal.add-requires
add-requires c =
    let k = c.args.address in
    let pairs = c.args.touched.now.pairs in
    let noted = changed_noted (number_before k pairs) _ (sym c.is_changed.ensures ∙ c.if-is_changed.true) in
    omega (arith, c.requires.addresses_room, below_more k pairs noted, below_most (k + 1) pairs)

pub add-requires-then-is_changed : goal.add-requires-then-is_changed
add-requires-then-is_changed c =
    let k = c.args.address in
    let pairs = c.args.touched.now.pairs in
    let noted = changed_noted (number_before k pairs) _ (sym c.is_changed.ensures ∙ c.if-is_changed.true) in
    omega (arith, c.requires.values_room, below_more k pairs noted, below_most (k + 1) pairs)

pub returns-then-is_changed-clause-addresses_room : goal.returns-then-is_changed-clause-addresses_room
returns-then-is_changed-clause-addresses_room c =
    let k = c.args.address in
    let pairs = c.args.touched.now.pairs in
    let noted = changed_noted (number_before k pairs) _ (sym c.is_changed.ensures ∙ c.if-is_changed.true) in
    omega (arith, c.requires.addresses_room, c.add.ensures.room, below_more k pairs noted)

pub returns-then-is_changed-clause-values_room : goal.returns-then-is_changed-clause-values_room
returns-then-is_changed-clause-values_room c =
    let k = c.args.address in
    let pairs = c.args.touched.now.pairs in
    let noted = changed_noted (number_before k pairs) _ (sym c.is_changed.ensures ∙ c.if-is_changed.true) in
    omega (arith, c.requires.values_room, c.add-then-is_changed.ensures.room, below_more k pairs noted)

pub returns-else-is_changed-clause-addresses_room : goal.returns-else-is_changed-clause-addresses_room
returns-else-is_changed-clause-addresses_room c = omega (arith, c.requires.addresses_room, below_grows c.args.address c.args.touched.now.pairs)

pub returns-else-is_changed-clause-values_room : goal.returns-else-is_changed-clause-values_room
returns-else-is_changed-clause-values_room c = omega (arith, c.requires.values_room, below_grows c.args.address c.args.touched.now.pairs)
