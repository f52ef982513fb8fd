-- Words in which the inputs are set hold the environment in which they are set.
use Rattle.std.proofs.Common.{◌≡◌, ℕ, ◌<◌, ◌+◌, ℤ, Bool, true, false, if◌then◌else◌, List, [], ◌∷◌, length, arith, refl, sym, ap, ◌∙◌, subst, length-set}
use Rattle.std.specs.Prelude.{fold, zip, slice_set}
use Rattle.tri_base.specs.declared.point.Point.{Point}
use Rattle.chassis.specs.Points.{inputs_of}
use Rattle.st_tree.specs.declared.tag.Tag.{Tag}
use Rattle.st_core.specs.Environments.{Env, with_number}
use Rattle.st_core.specs.Memory.{Shape, address_of, count_of, total_of, shape_of, words_of}
use Rattle.st_core.proofs.Laid.{word_set, number_shape}
use Rattle.st_meaning.specs.Programs.{is_point_tag, with_input}
use Rattle.st_sound.specs.Shapes.{shape_in}
use Rattle.tag_wiring.specs.HeldEnvironments.{env_in}
use Rattle.tag_wiring.specs.PointWords.{tag_address, input_set}
use Rattle.tag_wiring.specs.Inner.Steps.{HaveWords}
use Rattle.tag_wiring.specs.Laws.{InputsAreSet}
use Rattle.tag_wiring.proofs.Holding.{held_shape, held_words}
use Rattle.tag_wiring.proofs.Declaring.{have_words, total_same}

-- the first field's address is the tag's
pub first_field : (n : List ℕ) (s t : Shape) → s ≡ t → address_of n t ≡ address_of n s + 0
first_field n s t e = let a = ap (address_of n) e in omega (arith, a)

set_one : (tags : List Tag) (env : Env) (z : Point × ℤ) → HaveWords tags → shape_of env ≡ shape_in tags → input_set tags (words_of env) z ≡ words_of (with_input tags env z)
set_one tags env z have s = by (is_point_tag tags z.0.name) refl
  where
    by : (b : Bool) → is_point_tag tags z.0.name ≡ b
        → (if b then slice_set (words_of env) (tag_address tags z.0.name) z.1 else words_of env) ≡ words_of (if b then with_number env z.0.name 0 z.1 else env)
    by true e =
        ap (λ a. slice_set (words_of env) a z.1) (first_field z.0.name (shape_of env) (shape_in tags) s)
        ∙ word_set z.0.name env 0 z.1 (subst (λ (t : Shape). 0 < count_of z.0.name t) (sym s) (have z.0.name e))
    by false e = refl

shape_one : (tags : List Tag) (env : Env) (z : Point × ℤ) → shape_of (with_input tags env z) ≡ shape_of env
shape_one tags env z = by (is_point_tag tags z.0.name)
  where
    by : (b : Bool) → shape_of (if b then with_number env z.0.name 0 z.1 else env) ≡ shape_of env
    by true = number_shape z.0.name env 0 z.1
    by false = refl

set_each : (tags : List Tag) (env : Env) (zs : List (Point × ℤ)) → HaveWords tags → shape_of env ≡ shape_in tags
    → fold (input_set tags) (words_of env) zs ≡ words_of (fold (with_input tags) env zs)
set_each tags env [] have s = refl
set_each tags env (z ∷ zs) have s =
    ap (λ ws. fold (input_set tags) ws zs) (set_one tags env z have s)
    ∙ set_each tags (with_input tags env z) zs have (shape_one tags env z ∙ s)

shape_each : (tags : List Tag) (env : Env) (zs : List (Point × ℤ)) → shape_of (fold (with_input tags) env zs) ≡ shape_of env
shape_each tags env [] = refl
shape_each tags env (z ∷ zs) = shape_each tags (with_input tags env z) zs ∙ shape_one tags env z

count_one : (tags : List Tag) (words : List ℤ) (z : Point × ℤ) → length (input_set tags words z) ≡ length words
count_one tags words z = by (is_point_tag tags z.0.name)
  where
    by : (b : Bool) → length (if b then slice_set words (tag_address tags z.0.name) z.1 else words) ≡ length words
    by true = length-set words (tag_address tags z.0.name) z.1
    by false = refl

pub count_each : (tags : List Tag) (words : List ℤ) (zs : List (Point × ℤ)) → length (fold (input_set tags) words zs) ≡ length words
count_each tags words [] = refl
count_each tags words (z ∷ zs) = count_each tags (input_set tags words z) zs ∙ count_one tags words z

pub inputs_are : InputsAreSet
inputs_are points tags inputs words declared count =
    let zs = zip (inputs_of points) inputs in
    let env = env_in (shape_in tags) words in
    let all : length words ≡ total_of (shape_in tags) = count ∙ sym (total_same tags) in
    let shape = held_shape (shape_in tags) words all in
    record {
      count = count_each tags words zs;
      words = ap (λ ws. fold (input_set tags) ws zs) (sym (held_words (shape_in tags) words all)) ∙ set_each tags env zs (have_words tags declared) shape;
      shape = shape_each tags env zs ∙ shape;
    }
