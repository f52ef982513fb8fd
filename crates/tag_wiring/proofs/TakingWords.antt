-- The outputs from words are those of the environment that they hold, and lie in their points' ranges.
use Rattle.std.proofs.Common.{◌≡◌, ℕ, ◌<◌, ℤ, pos, ◌≤ℤ◌, Bool, true, false, not, if◌then◌else◌, List, [], ◌∷◌, length, map, arith, refl, sym, ap, ◌∙◌, subst}
use Rattle.std.specs.Prelude.{slice_index_or}
use Rattle.std.specs.Int.{int_max, int_min}
use Rattle.std.specs.List.{All, AllZip}
use Rattle.std.proofs.lemmas.Int.{ints, clamps}
use Rattle.std.proofs.lemmas.List.Elements.{All-head, All-tail, All-filter}
use Rattle.tri_base.specs.declared.point.Point.{Point}
use Rattle.function_blocks.specs.Values.{clamped}
use Rattle.chassis.specs.Points.{outputs_of, is_input_kind}
use Rattle.chassis.specs.Ranges.{HoldsZero, IsWithin}
use Rattle.st_tree.specs.declared.tag.Tag.{Tag}
use Rattle.st_core.specs.Environments.{Env, number_of}
use Rattle.st_core.specs.Memory.{Shape, count_of, total_of, shape_of, words_of}
use Rattle.st_core.proofs.Laid.{word_is}
use Rattle.st_meaning.specs.Types.{type_of, word_type}
use Rattle.st_meaning.specs.Programs.{is_point_tag, output_of}
use Rattle.st_sound.specs.Shapes.{shape_in}
use Rattle.tag_wiring.specs.HeldEnvironments.{env_in}
use Rattle.tag_wiring.specs.PointWords.{tag_word, output_in}
use Rattle.tag_wiring.specs.Inner.Steps.{HaveWords}
use Rattle.tag_wiring.specs.Laws.{OutputsAreTaken, OutputsLieWithin}
use Rattle.tag_wiring.proofs.Holding.{held_shape, held_words}
use Rattle.tag_wiring.proofs.Declaring.{have_words, total_same}
use Rattle.tag_wiring.proofs.SettingWords.{first_field}

-- ---- as the environment has them

word_of_tag : (tags : List Tag) (env : Env) (n : List ℕ) → HaveWords tags → shape_of env ≡ shape_in tags → is_point_tag tags n ≡ true
    → tag_word tags (words_of env) n ≡ number_of env n 0
word_of_tag tags env n have s e =
    ap (λ a. slice_index_or (words_of env) a (pos 0)) (first_field n (shape_of env) (shape_in tags) s)
    ∙ word_is n env 0 (subst (λ (t : Shape). 0 < count_of n t) (sym s) (have n e))

take_one : (tags : List Tag) (env : Env) (p : Point) → HaveWords tags → shape_of env ≡ shape_in tags → output_in tags (words_of env) p ≡ output_of tags env p
take_one tags env p have s = by (is_point_tag tags p.name) refl
  where
    number : ℤ → ℤ
    number v = int_max p.low (int_min (clamped (word_type (type_of tags p.name)) v) p.high)

    by : (b : Bool) → is_point_tag tags p.name ≡ b
        → (if b then number (tag_word tags (words_of env) p.name) else pos 0) ≡ (if b then number (number_of env p.name 0) else pos 0)
    by true e = ap number (word_of_tag tags env p.name have s e)
    by false e = refl

pub outputs_are : OutputsAreTaken
outputs_are points tags words declared count =
    let env = env_in (shape_in tags) words in
    let all : length words ≡ total_of (shape_in tags) = count ∙ sym (total_same tags) in
    let same = held_words (shape_in tags) words all in
    ap (λ ws. map (output_in tags ws) (outputs_of points)) (sym same)
    ∙ (λ i. map (λ p. take_one tags env p (have_words tags declared) (held_shape (shape_in tags) words all) i) (outputs_of points))

-- ---- in their ranges

between : (low high v : ℤ) → low ≤ℤ pos 0 → pos 0 ≤ℤ high → (low ≤ℤ int_max low (int_min v high)) × (int_max low (int_min v high) ≤ℤ high)
between low high v l h = (omega (arith, ints, clamps), omega (arith, ints, clamps, l, h))

within_one : (tags : List Tag) (words : List ℤ) (p : Point) → HoldsZero p → IsWithin p (output_in tags words p)
within_one tags words p h = by (is_point_tag tags p.name)
  where
    by : (b : Bool) → IsWithin p (if b then int_max p.low (int_min (clamped (word_type (type_of tags p.name)) (tag_word tags words p.name)) p.high) else pos 0)
    by true = between p.low p.high (clamped (word_type (type_of tags p.name)) (tag_word tags words p.name)) h.0 h.1
    by false = h

within_each : (tags : List Tag) (words : List ℤ) (ps : List Point) → All HoldsZero ps → AllZip IsWithin ps (map (output_in tags words) ps)
within_each tags words [] h = tt
within_each tags words (p ∷ ps) h =
    (within_one tags words p (All-head HoldsZero p ps h), within_each tags words ps (All-tail HoldsZero p ps h))

pub outputs_within : OutputsLieWithin
outputs_within points tags words h =
    within_each tags words (outputs_of points) (All-filter (λ (p : Point). not (is_input_kind p.kind)) HoldsZero points h)
