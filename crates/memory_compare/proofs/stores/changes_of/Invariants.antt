use Rattle.std.proofs.Common.{◌≡◌, ◌≤◌, ◌+◌, ◌++◌, length, drop}
use Rattle.tri_base.specs.Rows.{KeepsRoom}
use Rattle.memory_compare.specs.Changes.{addresses_in, values_in}
use Rattle.memory_compare.proofs.Steps.{noted_changes}
use Rattle.memory_compare.specs.Inner.OneChange.{noted_below}
use Rattle.memory_compare.proofs.stores.changes_of.Given as goal

abbrev pub invariant-loop-address : goal.invariant-loop-address
invariant-loop-address l =
    let left = noted_changes l.address l.touched.pairs (drop l.address l.words.list) in
    let all = noted_changes 0 l.touched.pairs l.words.list in
    record {
      addresses : l.addresses.list ++ addresses_in left ≡ l.fn.addresses.list ++ addresses_in all;
      values : l.values.list ++ values_in left ≡ l.fn.values.list ++ values_in all;
      addresses_room : length l.touched.pairs ≤ l.addresses.spare + noted_below l.address l.touched.pairs;
      values_room : length l.touched.pairs ≤ l.values.spare + noted_below l.address l.touched.pairs;
      addresses_kept : KeepsRoom l.fn.addresses l.addresses;
      values_kept : KeepsRoom l.fn.values l.values;
    }
