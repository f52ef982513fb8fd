-- A scan of a matrix's program does a step of the matrix.
use Rattle.std.proofs.Common.{◌≡◌, ◌≢◌, ℕ, zero, suc, ◌+◌, ◌<◌, ℤ, pos, Bool, true, false, not, List, [], ◌∷◌, ◌++◌, length, map, get_or, Contains, Option, Some, None, unwrap_or, option_to_list, refl, sym, ap, ◌∙◌, subst, arith, if◌then◌else◌}
use Rattle.std.specs.List.{All, AllPairs}
use Rattle.std.specs.Int.{int_max, int_min}
use Rattle.std.specs.Str.{bytes_eq}
use Rattle.std.proofs.lemmas.List.Elements.{All-contains, All-head, All-tail, All-nil, All-cons, Contains-append_left, Contains-append_right}
use Rattle.std.proofs.lemmas.Slice.Eq.{bytes_eq-Decides}
use Rattle.tri_base.specs.declared.point.Point.{Point}
use Rattle.tri_base.specs.declared.point.PointKind.TheVariants.{Di, Do}
use Rattle.chassis.specs.Points.{IsChassis, inputs_of, outputs_of, is_input_kind}
use Rattle.chassis.specs.Ranges.{Fits, HasRange}
use Rattle.function_blocks.specs.Values.{is_on, number, clamped}
use Rattle.function_blocks.specs.declared.kinds.Kind.TheVariants as kind
use Rattle.st_tree.specs.declared.declaration.DeclaredType.TheVariants as declared
use Rattle.st_tree.specs.declared.tag.Tag.{Tag}
use Rattle.st_tree.specs.Tags.{tags_of}
use Rattle.st_core.specs.Environments.{Env, number_of, numbers_of}
use Rattle.st_core.specs.Memory.{count_of, shape_of}
use Rattle.st_core.proofs.Laid.{count_is}
use Rattle.st_meaning.specs.Types.{type_of, word_type}
use Rattle.st_meaning.specs.Programs.{scan_of, with_inputs, output_of, is_point_tag, is_external}
use Rattle.cause_effect.specs.declared.matrix.Mode.{Mode}
use Rattle.cause_effect.specs.declared.matrix.Link.{Link}
use Rattle.cause_effect.specs.Matrices.{MatrixValue, IsMatrix, cause_names, effect_names, declared_names}
use Rattle.matrix_laws.specs.Laws.{HasPoint, Suits, held_of, value_named, read_of, DoesStep, IsSmall, ProgramsDoSteps}
use Rattle.matrix_laws.proofs.Trees.{tree_of, effects_place, head_bytes}
use Rattle.matrix_laws.proofs.Written.{Each, each_of, filtered, keyed, read}
use Rattle.matrix_laws.proofs.Typed.{Means, meant, IsBool, Tagged, tagged, bool_tag, tags_at, tags_are, declared_bool, well_typed}
use Rattle.cause_effect.specs.Programs.{declaration_line}
use Rattle.matrix_laws.proofs.Costs.{program_cheap}
use Rattle.matrix_laws.proofs.Meant.{Apart, Away, Ready, Holds, Inputs, lines_env, then_of, lines_do, on_number, tag_type}
use Rattle.matrix_laws.proofs.Inputs.{found_in, find_kept, find_dropped, value_there, value_mapped, unlike_all, unlike_some, set_to, not_set, inputs_shape}

-- ---- names that differ

Distinct : List (List ℕ) → Type 0
Distinct [] = Unit {0}
Distinct (n ∷ names) = Each (λ (x : List ℕ). n ≢ x) names × Distinct names

distinct_of : (names : List (List ℕ)) → AllPairs (λ (a b : List ℕ). a ≢ b) names → Distinct names
unfolding Distinct
distinct_of [] h = tt
distinct_of (n ∷ names) h = (
  go names (λ k d within. h 0 (suc k) d (omega arith) (omega (arith, within))),
  distinct_of names (λ i j d less within. h (suc i) (suc j) d (omega (arith, less)) (omega (arith, within))),
)
  where
    go : (ns : List (List ℕ)) → ((k : ℕ) (d : List ℕ) → k < length ns → n ≢ get_or ns k d) → Each (λ (x : List ℕ). n ≢ x) ns
    go [] f = tt
    go (x ∷ ns) f = (f 0 x (omega arith), go ns (λ k d within. f (suc k) d (omega (arith, within))))

each_right : {X : Type 0} (P : X → Type 0) (xs ys : List X) → Each P (xs ++ ys) → Each P ys
each_right P [] ys h = h
each_right P (x ∷ xs) ys h = each_right P xs ys h.1

distinct_left : (xs ys : List (List ℕ)) → Distinct (xs ++ ys) → Distinct xs
unfolding Distinct
distinct_left [] ys h = tt
distinct_left (x ∷ xs) ys h = (left xs h.0, distinct_left xs ys h.1)
  where
    left : (zs : List (List ℕ)) → Each (λ (y : List ℕ). x ≢ y) (zs ++ ys) → Each (λ (y : List ℕ). x ≢ y) zs
    left [] g = tt
    left (z ∷ zs) g = (g.0, left zs g.1)

distinct_right : (xs ys : List (List ℕ)) → Distinct (xs ++ ys) → Distinct ys
unfolding Distinct
distinct_right [] ys h = h
distinct_right (x ∷ xs) ys h = distinct_right xs ys h.1

cross : (xs ys : List (List ℕ)) → Distinct (xs ++ ys) → Each (λ (x : List ℕ). Each (λ (y : List ℕ). x ≢ y) ys) xs
unfolding Distinct
cross [] ys h = tt
cross (x ∷ xs) ys h = (each_right (λ (y : List ℕ). x ≢ y) xs ys h.0, cross xs ys h.1)

each_at : {X : Type 0} (P : X → Type 0) (xs : List X) (x : X) (k : ℕ) → k < length xs → get_or xs k x ≡ x → Each P xs → P x
each_at P [] x k within e h = absurd (omega (arith, within))
each_at P (y ∷ xs) x zero within e h = subst P e h.0
each_at P (y ∷ xs) x (suc k) within e h = each_at P xs x k (omega (arith, within)) e h.1

apart_keys : (effects : List (List ℕ × Mode)) → Distinct (map (λ e. e.0) effects) → Apart effects
unfolding Distinct
apart_keys [] h = tt
apart_keys (e ∷ effects) h = (flip effects (keyed (λ y. e.0 ≢ y) effects h.0), apart_keys effects h.1)
  where
    flip : (es : List (List ℕ × Mode)) → Each (λ x. e.0 ≢ x.0) es → Each (λ (x : List ℕ × Mode). x.0 ≢ e.0) es
    flip [] g = tt
    flip (x ∷ es) g = ((λ q. g.0 (sym q)), flip es g.1)

reset_away : (reset : Option (List ℕ)) (effects : List (List ℕ × Mode)) → Each (λ (x : List ℕ). Each (λ (y : List ℕ). x ≢ y) (option_to_list reset)) (map (λ e. e.0) effects) → Each (λ r. Away r effects) (option_to_list reset)
reset_away None effects h = tt
reset_away (Some r) effects h = (go effects (keyed (λ x. Each (λ (y : List ℕ). x ≢ y) (r ∷ [])) effects h), tt)
  where
    go : (es : List (List ℕ × Mode)) → Each (λ x. Each (λ (y : List ℕ). x.0 ≢ y) (r ∷ [])) es → Away r es
    go [] g = tt
    go (x ∷ es) g = ((λ q. g.0.0 (sym q)), go es g.1)

inputs_apart : (m : MatrixValue) → IsMatrix m → Inputs m m.effects
inputs_apart m is =
    let all = distinct_of (declared_names m) is.apart in
    let others = cause_names m ++ effect_names m in
    let causes = cross (cause_names m) (effect_names m) (distinct_left others (option_to_list m.reset) all) in
    let to_reset = each_right (λ (x : List ℕ). Each (λ (y : List ℕ). x ≢ y) (option_to_list m.reset)) (cause_names m) (effect_names m) (cross others (option_to_list m.reset) all) in
    let away : Each (λ l. Away l.cause m.effects) m.links =
    each_of (λ (l : Link). Away l.cause m.effects) m.links (λ l c.
    let known = (All-contains (λ (l : Link). Contains (cause_names m) l.cause × Contains (effect_names m) l.effect) m.links l is.links_known c).0 in
    keyed (λ y. l.cause ≢ y) m.effects (each_at (λ (x : List ℕ). Each (λ (y : List ℕ). x ≢ y) (effect_names m)) (cause_names m) l.cause known.0 known.1 known.2 causes)) in
    record {
      links = λ effect. filtered (λ (l : Link). Away l.cause m.effects) (λ l. bytes_eq l.effect effect) m.links away;
      reset = reset_away m.reset m.effects to_reset;
    }

effects_apart : (m : MatrixValue) → IsMatrix m → Apart m.effects
effects_apart m is =
    let others = cause_names m ++ effect_names m in
    apart_keys m.effects (distinct_right (cause_names m) (effect_names m) (distinct_left others (option_to_list m.reset) (distinct_of (declared_names m) is.apart)))

-- ---- points

found_name : (points : List Point) (n : List ℕ) (a : Point) → found_in n points ≡ Some a → a.name ≡ n
found_name [] n a h = absurd (cc)
found_name (q ∷ points) n a h = by (bytes_eq n q.name) refl h (λ k. found_name points n a k)
  where
    by : (t : Bool) → bytes_eq n q.name ≡ t → (if t then Some q else found_in n points) ≡ Some a → (found_in n points ≡ Some a → a.name ≡ n) → a.name ≡ n
    by true k g more = ap (λ (x : Point). x.name) (sym (ap (λ o. unwrap_or o q) g)) ∙ sym ((bytes_eq-Decides n q.name).0 k)
    by false k g more = more g

found_fits : (points : List Point) (n : List ℕ) (a : Point) → All Fits points → found_in n points ≡ Some a → Fits a
found_fits [] n a fits h = absurd (cc)
found_fits (q ∷ points) n a fits h = by (bytes_eq n q.name) h (λ k. found_fits points n a (All-tail Fits q points fits) k)
  where
    by : (t : Bool) → (if t then Some q else found_in n points) ≡ Some a → (found_in n points ≡ Some a → Fits a) → Fits a
    by true g more = subst Fits (ap (λ o. unwrap_or o q) g) (All-head Fits q points fits)
    by false g more = more g

in_range : (b : Bool) → int_max (pos 0) (int_min (clamped kind.Bool (number b)) (pos 1)) ≡ number b
in_range true = refl
in_range false = refl

-- ---- the law

each_equal : {X Y : Type 0} (f g : X → Y) (xs : List X) → Each (λ x. f x ≡ g x) xs → map f xs ≡ map g xs
each_equal f g [] h = refl
each_equal f g (x ∷ xs) h = λ i. h.0 i ∷ each_equal f g xs h.1 i

each_both : {X : Type 0} (P Q R : X → Type 0) (xs : List X) → ((x : X) → P x → Q x → R x) → Each P xs → Each Q xs → Each R xs
each_both P Q R [] f h k = tt
each_both P Q R (x ∷ xs) f h k = (f x h.0 k.0, each_both P Q R xs f h.1 k.1)

map_after : {X Y Z : Type 0} (f : X → Y) (g : Y → Z) (xs : List X) → map (λ x. g (f x)) xs ≡ map g (map f xs)
map_after f g [] = refl
map_after f g (x ∷ xs) = ap (λ zs. g (f x) ∷ zs) (map_after f g xs)

module _ (points : List Point) (m : MatrixValue) (is : IsMatrix m) (chassis : IsChassis points) (suits : Suits points m) (env : Env) (inputs : List ℤ) (dt : ℤ)
    (has : All (λ n. 0 < length (numbers_of n env)) (declared_names m)) (long : length inputs ≡ length (inputs_of points)) where
  abbrev tags : List Tag
  tags = tags_of (tree_of m)

  bool : (n : List ℕ) → Contains (declared_names m) n → IsBool tags n
  bool n c = subst (λ (ts : List Tag). IsBool ts n) (sym (tags_are m)) (declared_bool head_bytes (declared_names m) n c)

  known : Tagged tags m
  known = subst (λ (ts : List Tag). Tagged ts m) (sym (tags_are m)) (tagged m is)

  external : (n : List ℕ) → Contains (declared_names m) n → is_point_tag tags n ≡ true
  external n c = ap is_external (bool n c).1

  has_word : (n : List ℕ) → Contains (declared_names m) n → 0 < count_of n (shape_of env)
  has_word n c = subst (λ k. 0 < k) (sym (count_is n env)) (All-contains (λ (n : List ℕ). 0 < length (numbers_of n env)) (declared_names m) n has c)

  abbrev others : List (List ℕ)
  others = cause_names m ++ effect_names m

  of_cause : (n : List ℕ) → Contains (cause_names m) n → Contains (declared_names m) n
  of_cause n c = Contains-append_left others (option_to_list m.reset) n (Contains-append_left (cause_names m) (effect_names m) n c)

  of_effect : (n : List ℕ) → Contains (effect_names m) n → Contains (declared_names m) n
  of_effect n c = Contains-append_left others (option_to_list m.reset) n (Contains-append_right (cause_names m) (effect_names m) n c)

  of_reset : (n : List ℕ) → Contains (option_to_list m.reset) n → Contains (declared_names m) n
  of_reset n c = Contains-append_right others (option_to_list m.reset) n c

  -- the environment with the inputs set
  abbrev begun : Env
  begun = with_inputs points tags inputs env

  -- an input is read
  is_read : (n : List ℕ) → Contains (declared_names m) n → Means points Di n → held_of begun n ≡ read_of points inputs n
  is_read n c means =
      let a = means.0 in
      let there = find_kept (λ p. is_input_kind p.kind) points n a means.1 (ap is_input_kind means.2) in
      let value = value_there (inputs_of points) inputs n a (sym long) there in
      let set = set_to tags (inputs_of points) inputs env n value.0 (external n c) (has_word n c) (unlike_some (λ p. is_input_kind p.kind) points (unlike_all points chassis.apart)) value.1 in
      ap is_on set ∙ ap (λ o. is_on (unwrap_or o (pos 0))) (sym value.1)

  -- an effect is as before
  is_before : (n : List ℕ) → Means points Do n → held_of begun n ≡ held_of env n
  is_before n means =
      ap is_on (not_set tags (inputs_of points) inputs env n (find_dropped (λ p. is_input_kind p.kind) points n means.0 chassis.apart means.1 (ap is_input_kind means.2)))

  cause_means : (n : List ℕ) → Contains (cause_names m) n → Means points Di n
  cause_means n c = meant points Di n chassis.apart (All-contains (HasPoint points Di) (cause_names m) n suits.causes c)

  effect_means : (n : List ℕ) → Contains (effect_names m) n → Means points Do n
  effect_means n c = meant points Do n chassis.apart (All-contains (HasPoint points Do) (effect_names m) n suits.effects c)

  reset_means : (n : List ℕ) → Contains (option_to_list m.reset) n → Means points Di n
  reset_means n c = meant points Di n chassis.apart (All-contains (HasPoint points Di) (option_to_list m.reset) n suits.reset c)

  links_read : Each (λ l. held_of begun l.cause ≡ read_of points inputs l.cause) m.links
  links_read = each_of (λ (l : Link). held_of begun l.cause ≡ read_of points inputs l.cause) m.links (λ l c.
      let known_cause = (All-contains (λ (l : Link). Contains (cause_names m) l.cause × Contains (effect_names m) l.effect) m.links l is.links_known c).0 in
      is_read l.cause (of_cause l.cause known_cause) (cause_means l.cause known_cause))

  holds : Holds m (held_of env) (read_of points inputs) m.effects begun
  holds = record {
    links = λ effect. filtered (λ (l : Link). held_of begun l.cause ≡ read_of points inputs l.cause) (λ l. bytes_eq l.effect effect) m.links links_read;
    reset = each_of (λ (r : List ℕ). held_of begun r ≡ read_of points inputs r) (option_to_list m.reset) (λ r c. is_read r (of_reset r c) (reset_means r c));
    own = keyed (λ n. held_of begun n ≡ held_of env n) m.effects (each_of (λ (n : List ℕ). held_of begun n ≡ held_of env n) (effect_names m) (λ n c. is_before n (effect_means n c)));
  }

  ready : Ready tags m m.effects begun
  ready = record {
    bools = known.effects;
    there = keyed (λ n. 0 < count_of n (shape_of begun)) m.effects (each_of (λ (n : List ℕ). 0 < count_of n (shape_of begun)) (effect_names m)
        (λ n c. subst (λ s. 0 < count_of n s) (sym (inputs_shape tags (inputs_of points) inputs env)) (has_word n (of_effect n c))));
    apart = effects_apart m is;
  }

  -- the environment after the scan
  abbrev ended : Env
  ended = lines_env dt tags m (effects_place m) m.effects begun

  done : Each (λ e. number_of ended e.0 0 ≡ number (then_of m (held_of env) (read_of points inputs) e)) m.effects
  done = lines_do dt tags m (held_of env) (read_of points inputs) m.effects (effects_place m) begun ready known.reset known.links (inputs_apart m is) holds

  output_is : (n : List ℕ) (b : Bool) → IsBool tags n → Means points Do n → is_point_tag tags n ≡ true → number_of ended n 0 ≡ number b → value_named (outputs_of points) (map (output_of tags ended) (outputs_of points)) n ≡ Some (number b)
  output_is n b bools means point e =
      let a = means.0 in
      let there = find_kept (λ p. not (is_input_kind p.kind)) points n a means.1 (ap (λ k. not (is_input_kind k)) means.2) in
      let name : a.name ≡ n = found_name points n a means.1 in
      let range : HasRange Do a.low a.high a.tolerance = subst (λ k. HasRange k a.low a.high a.tolerance) means.2 (found_fits points n a chassis.fit means.1) in
      let test : is_point_tag tags a.name ≡ true = ap (is_point_tag tags) name ∙ point in
      let type = ap (λ x. word_type (type_of tags x)) name ∙ tag_type tags n bools in
      let value = ap (λ x. number_of ended x 0) name ∙ e in
      value_mapped (output_of tags ended) (outputs_of points) n a there
      ∙ ap Some ((λ i. if test i then int_max (range.0 i) (int_min (clamped (type i) (value i)) (range.1 i)) else pos 0) ∙ in_range b)

  does : DoesStep points m (tree_of m) env inputs dt
  unfolding scan_of
  does =
      let step = then_of m (held_of env) (read_of points inputs) in
      let points_of : Each (λ e. IsBool tags e.0 × Means points Do e.0 × (is_point_tag tags e.0 ≡ true)) m.effects =
      keyed (λ n. IsBool tags n × Means points Do n × (is_point_tag tags n ≡ true)) m.effects
      (each_of (λ (n : List ℕ). IsBool tags n × Means points Do n × (is_point_tag tags n ≡ true)) (effect_names m) (λ n c. (bool n (of_effect n c), effect_means n c, external n (of_effect n c)))) in
      record {
        outputs =
            each_equal (λ e. value_named (outputs_of points) (map (output_of tags ended) (outputs_of points)) e.0) (λ e. Some (number (step e))) m.effects
            (each_both (λ e. IsBool tags e.0 × Means points Do e.0 × (is_point_tag tags e.0 ≡ true)) (λ e. number_of ended e.0 0 ≡ number (step e)) (λ e. value_named (outputs_of points) (map (output_of tags ended) (outputs_of points)) e.0 ≡ Some (number (step e))) m.effects
            (λ e p q. output_is e.0 (step e) p.0 p.1 p.2 q) points_of done)
            ∙ map_after step (λ b. Some (number b)) m.effects;
        held =
            each_equal (λ e. held_of ended e.0) step m.effects
            (each_both (λ e. Unit {0}) (λ e. number_of ended e.0 0 ≡ number (step e)) (λ e. held_of ended e.0 ≡ step e) m.effects (λ e p q. ap is_on q ∙ on_number (step e)) (each_of (λ e. Unit {0}) m.effects (λ e c. tt)) done);
      }

names_are : (place : ℕ) (names : List (List ℕ)) → map (λ (t : Tag). t.name) (tags_at place names) ≡ names
names_are place [] = refl
names_are place (n ∷ names) = ap (λ ns. n ∷ ns) (names_are (place + length (declaration_line n)) names)

bools_are : (place : ℕ) (names : List (List ℕ)) → All (λ (t : Tag). t.declared ≡ declared.Simple kind.Bool) (tags_at place names)
bools_are place [] = All-nil (λ (t : Tag). t.declared ≡ declared.Simple kind.Bool)
bools_are place (n ∷ names) =
    All-cons (λ (t : Tag). t.declared ≡ declared.Simple kind.Bool) (bool_tag n place) (tags_at (place + length (declaration_line n)) names) refl (bools_are (place + length (declaration_line n)) names)

small : (m : MatrixValue) → IsMatrix m → IsSmall m (tree_of m)
small m is = record {
  cheap = program_cheap m is;
  tags = ap (map (λ (t : Tag). t.name)) (tags_are m) ∙ names_are head_bytes (declared_names m);
  bools = subst (All (λ (t : Tag). t.declared ≡ declared.Simple kind.Bool)) (sym (tags_are m)) (bools_are head_bytes (declared_names m));
}

pub programs_do_steps : ProgramsDoSteps
programs_do_steps m is = (tree_of m, read m is, small m is, λ points chassis suits. (well_typed points m is chassis.apart suits, λ env inputs dt has long. does points m is chassis suits env inputs dt has long))
