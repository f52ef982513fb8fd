use Rattle.std.proofs.Common.{◌≡◌, ◌∙◌, sym, ap, length, arith}
use Rattle.tri_base.specs.Noted.{restored}
use Rattle.memory_compare.specs.Changes.{changes_of}
use Rattle.memory_compare.specs.Windows.{memory, window}
use Rattle.leg_parts.proofs.Lengths.{added, addresses_number, values_number, window_few}
use Rattle.leg_parts.proofs.running.tell_changes.Goals as goal

pub returns-clause-short : goal.returns-clause-short
returns-clause-short c =
    let s = c.requires.short in
    let words = c.args.words.now.list in
    let changed = changes_of (restored c.args.touched.now.pairs words) words in
    let shown = window (memory c.args.text.now.list words) c.args.turn in
    let a : length c.changes_of.new.addresses.list ≡ length changed =
    added c.changes_of.new.addresses.list _ _ c.clear.ensures.list c.changes_of.ensures.addresses ∙ addresses_number changed in
    let v : length c.changes_of.new.values.list ≡ length changed =
    added c.changes_of.new.values.list _ _ c.clear-2.ensures.list c.changes_of.ensures.values ∙ values_number changed in
    let w : length c.window.new.into.list ≡ length shown =
    added c.window.new.into.list _ _ c.clear-3.ensures.list c.window.ensures.list in
    let e1 : length c.clear.new.self.list ≡ 0 = ap length c.clear.ensures.list in
    let e2 : length c.clear-2.new.self.list ≡ 0 = ap length c.clear-2.ensures.list in
    let e3 : length c.clear-3.new.self.list ≡ 0 = ap length c.clear-3.ensures.list in
    record {
      window_room = omega (arith, s.window_room, c.clear-3.ensures.room, c.window.ensures.room, e3);
      addresses_room = omega (arith, s.addresses_room, c.clear.ensures.room, c.changes_of.ensures.rooms.0, e1);
      values_room = omega (arith, s.values_room, c.clear-2.ensures.room, c.changes_of.ensures.rooms.1, e2);
      outputs_room = s.outputs_room;
      paired = a ∙ sym v;
      window = omega (arith, w, window_few (memory c.args.text.now.list words) c.args.turn);
      few = omega (arith, a, c.changes_of.ensures.few, c.pairs-pairs.ensures.few, c.requires.size);
      outputs = s.outputs;
    }
