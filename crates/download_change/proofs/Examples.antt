-- Downloads worked by hand: each is computed from the definitions.
use Rattle.std.proofs.Common.{refl}
use Rattle.tag_layout.specs.Layout.{placed_tags, placed_named, laid_words, first_words}
use Rattle.download_change.specs.Kept.{carried_of, carried_words}
use Rattle.download_change.specs.Worked.{Worked}

pub worked : Worked
unfolding placed_tags placed_named laid_words first_words carried_of carried_words
worked = record {
  new_name = refl;
  own_name = refl;
  name_lost = refl;
  names_swapped = refl;
  no_fault = refl;
  swap_is_no_fault = refl;
  old_unknown = refl;
  new_unknown = refl;
  old_twice = refl;
  new_twice = refl;
  unknown_before_twice = refl;
  nothing_changed = refl;
  dint_for_int = refl;
  told_by_its_old_name = refl;
  no_heir_no_change = refl;
  bounds_changed = refl;
  kept_at_another_place = refl;
  kept_under_a_new_name = refl;
  kept_swapped = refl;
  lost_to_a_rename = refl;
  array_kept = refl;
  other_bounds_not_kept = refl;
  hidden_field_kept = refl;
  environment_kept = refl;
}
