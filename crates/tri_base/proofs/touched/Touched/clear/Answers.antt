use Rattle.std.proofs.Common.{arith, subst, ap, ◌∙◌, List}
use Rattle.std.proofs.lemmas.List.{length-set, append-nil, nil_from_length}
use Rattle.tri_base.specs.Inner.TouchedFields.{Tied}
use Rattle.tri_base.proofs.Places.{Pair, less, last_inside}
use Rattle.tri_base.proofs.touched.Touched.clear.Goals as goal

pub loop-address-init : goal.loop-address-init
loop-address-init c = record { held = c.self.invariant; size = ap (λ t. t.size) c.self.view_is }

pub index_mut-requires : goal.index_mut-requires
index_mut-requires c =
    let places = c.loop-address.self-inside.places in
    let tied = subst (λ (x : List Pair). Tied x places.items) c.in-Some.ensures.items c.loop-address.invariant.held.tied in
    omega (arith, places.ok.0, last_inside c.pop.new.self.items (c.in-Some.address, c.in-Some.field-0-1) places.items tied)

pub loop-address-preserved : goal.loop-address-preserved
loop-address-preserved c =
    let places = c.loop-address.self-inside.places.items in
    let held = c.loop-address.invariant.held in
    let tied = subst (λ (x : List Pair). Tied x places) c.in-Some.ensures.items held.tied in
    let same_size = length-set places c.in-Some.address 0 in
    record {
      held = record {
        tied = less c.pop.new.self.items (c.in-Some.address, c.in-Some.field-0-1) places tied;
        room = omega (arith, same_size, c.in-Some.ensures.capacity, held.room);
      };
      size = same_size ∙ c.loop-address.invariant.size;
    }

pub invariant_of-self : goal.invariant_of-self
invariant_of-self c =
    let held = c.loop-address.invariant.held in
    let same = c.in_default.ensures.items ∙ append-nil c.pop.new.self.items in
    record {
      tied = subst (λ (x : List Pair). Tied x c.loop-address.self-inside.places.items) same held.tied;
      room = omega (arith, c.in_default.ensures.capacity, held.room);
    }

pub returns : goal.returns
returns c =
    let empty = nil_from_length c.pop.new.self.items (omega (arith, c.in_default.ensures.cases.1, c.pop.new.self.ok.0)) in
    let size = c.loop-address.invariant.size in
    λ i. record { pairs = empty i; size = size i }
