use Rattle.std.proofs.Common.{◌≡◌, ◌≤◌, ◌+◌, ◌++◌, length, drop}
use Rattle.tri_base.specs.Rows.{KeepsRoom}
use Rattle.memory_compare.specs.Changes.{changes_from, addresses_in, values_in}
use Rattle.memory_compare.proofs.comparing.changes.Given as goal

abbrev pub invariant-loop-address : goal.invariant-loop-address
invariant-loop-address l =
    let left = changes_from l.address (drop l.address l.old.list) (drop l.address l.new.list) in
    let all = changes_from 0 l.old.list l.new.list in
    record {
      addresses : l.addresses.list ++ addresses_in left ≡ l.fn.addresses.list ++ addresses_in all;
      values : l.values.list ++ values_in left ≡ l.fn.values.list ++ values_in all;
      addresses_room : length l.old.list ≤ l.addresses.spare + l.address;
      values_room : length l.old.list ≤ l.values.spare + l.address;
      addresses_kept : KeepsRoom l.fn.addresses l.addresses;
      values_kept : KeepsRoom l.fn.values l.values;
    }
