-- Layouts worked by hand: each is computed from the definitions.
use Rattle.std.proofs.Common.{refl}
use Rattle.tag_layout.specs.Layout.{placed_tags, placed_named, laid_words, first_words}
use Rattle.tag_layout.specs.Worked.{Worked}

pub worked : Worked
unfolding placed_tags placed_named laid_words first_words
worked = record {
  array_words = refl;
  array_addresses = refl;
  last_element = refl;
  no_element = refl;
  only_word = refl;
  no_second_word = refl;
  no_tag = refl;
  array_first = refl;
  ten_addresses = refl;
  third_element = refl;
  fourth_element = refl;
  hidden_field = refl;
  last_word = refl;
  ten = refl;
  ten_first = refl;
  one_too_many = refl;
  trip_words = refl;
  delay_at_17 = refl;
  elapsed_at_20 = refl;
  n_at_22 = refl;
}
