-- The stores tell what setting the inputs did to the words.
use Rattle.std.proofs.Common.{◌≡◌, ◌≢◌, ℕ, zero, suc, ◌<◌, ◌+◌, ℤ, pos, Bool, true, false, ◌&&◌, cond, ◌==◌, if◌then◌else◌, List, [], ◌∷◌, length, get_or, map, Option, Some, None, arith, refl, sym, ap, ◌∙◌, subst, true≢false, eqb-true, eq-eqb, get_or-set_other}
use Rattle.std.specs.Prelude.{fold, zip, filter, slice_index_or, slice_set}
use Rattle.std.specs.List.{All, AllPairs, find}
use Rattle.std.specs.Str.{bytes_eq}
use Rattle.std.proofs.lemmas.Slice.Eq.{bytes_eq-Decides}
use Rattle.std.proofs.lemmas.Option.{none-some, same_Some}
use Rattle.std.proofs.lemmas.List.{get_or-map, length-map}
use Rattle.std.proofs.lemmas.List.Elements.{All-head, All-tail, All-cons, All-map, All-weaker, All-filter, filter_passes}
use Rattle.std.proofs.lemmas.List.Kept.{AllPairs-filter}
use Rattle.tri_base.specs.declared.point.Point.{Point}
use Rattle.tri_base.specs.Noted.{number_before}
use Rattle.chassis.specs.Points.{inputs_of}
use Rattle.chassis.specs.Points as chassis
use Rattle.st_tree.specs.declared.tag.Tag.{Tag}
use Rattle.st_tree.specs.Tags.{tag_named}
use Rattle.st_tree.specs.Typing.Points.{point_named, is_input, is_input_point}
use Rattle.st_types.proofs.Named.{input_kind_is}
use Rattle.tag_layout.specs.Layout.{AreApart}
use Rattle.st_core.specs.Memory.{total_of}
use Rattle.st_core.proofs.Laid.{address_within, addresses_apart}
use Rattle.st_meaning.specs.Programs.{is_external, is_point_tag}
use Rattle.st_sound.specs.Shapes.{shape_in}
use Rattle.tag_wiring.specs.PointWords.{tag_address, tag_word, input_set, is_input_tag, input_tags}
use Rattle.tag_wiring.specs.Inner.Steps.{HaveWords, told_at}
use Rattle.tag_wiring.specs.Laws.{StoresTellInputs}
use Rattle.tag_wiring.proofs.Declaring.{have_words, total_same}

and_first : (a b : Bool) → (a && b) ≡ true → a ≡ true
and_first true b h = refl
and_first false b h = h

and_both : (a b : Bool) → a ≡ true → b ≡ true → (a && b) ≡ true
and_both true b e h = h
and_both false b e h = e

-- ---- addresses

pub plus_none : (a b : ℕ) → a + 0 < b → a < b
plus_none a b h = omega (arith, h)

-- the address of each declared input tag is that of a word
pub told_within : (points : List Point) (tags : List Tag) → HaveWords tags
    → All (λ (t : Tag). tag_address tags t.name < total_of (shape_in tags)) (input_tags points tags)
told_within points tags have =
    All-weaker (λ (t : Tag). is_input_tag points tags t ≡ true) (λ (t : Tag). tag_address tags t.name < total_of (shape_in tags))
    (λ t e. plus_none (tag_address tags t.name) (total_of (shape_in tags)) (address_within t.name 0 (shape_in tags) (have t.name (and_first (is_point_tag tags t.name) _ e))))
    (input_tags points tags) (filter_passes (is_input_tag points tags) tags)

apart_one : (tags : List Tag) (n m : List ℕ) → HaveWords tags → is_point_tag tags n ≡ true → is_point_tag tags m ≡ true → n ≢ m → tag_address tags n ≢ tag_address tags m
apart_one tags n m have e f apart = λ same.
    addresses_apart n m 0 0 (shape_in tags) apart (have n e) (have m f) (ap (λ k. k + 0) same)

-- no two declared input tags have one address
pub told_apart : (points : List Point) (tags : List Tag) → HaveWords tags → AreApart tags
    → AllPairs (λ (s t : Tag). tag_address tags s.name ≢ tag_address tags t.name) (input_tags points tags)
told_apart points tags have apart i j d before within =
    let passes = filter_passes (is_input_tag points tags) tags in
    let names = AllPairs-filter (λ (s t : Tag). s.name ≢ t.name) (is_input_tag points tags) tags apart in
    let s = get_or (input_tags points tags) i d in
    let t = get_or (input_tags points tags) j d in
    apart_one tags s.name t.name have
    (and_first (is_point_tag tags s.name) _ (passes i d (omega (arith, before, within))))
    (and_first (is_point_tag tags t.name) _ (passes j d within))
    (names i j d before within)

-- what holds of each two holds of what is made of them
pub pairs_mapped : {X Y : Type 0} (R : Y → Y → Type 0) (f : X → Y) (xs : List X) → AllPairs (λ x y. R (f x) (f y)) xs → AllPairs R (map f xs)
pairs_mapped R f [] h i j d before within = absurd (omega (arith, within))
pairs_mapped R f (x ∷ xs) h i j d before within =
    let inside : j < length (x ∷ xs) = subst (λ n. j < n) (length-map (x ∷ xs) f) within in
    let left = get_or-map f (x ∷ xs) i x d (omega (arith, before, inside)) in
    let right = get_or-map f (x ∷ xs) j x d inside in
    subst (λ y. R y (get_or (map f (x ∷ xs)) j d)) (sym left) (subst (λ y. R (f (get_or (x ∷ xs) i x)) y) (sym right) (h i j x before inside))

-- ---- numbers

number_told : (words : List ℤ) (f : Tag → ℕ) (ts : List Tag) (address : ℕ) (v : ℤ) → number_before address (map (λ t. told_at words (f t)) ts) ≡ Some v
    → v ≡ slice_index_or words address (pos 0)
number_told words f [] address v h = absurd (none-some v h)
number_told words f (t ∷ ts) address v h = by (f t == address) refl h (number_told words f ts address v)
  where
    rest : Option ℤ
    rest = number_before address (map (λ t. told_at words (f t)) ts)

    by : (b : Bool) → (f t == address) ≡ b → (if b then Some (slice_index_or words (f t) (pos 0)) else rest) ≡ Some v
        → (rest ≡ Some v → v ≡ slice_index_or words address (pos 0)) → v ≡ slice_index_or words address (pos 0)
    by true e g more = sym (same_Some (slice_index_or words (f t) (pos 0)) v g) ∙ ap (λ a. slice_index_or words a (pos 0)) (eqb-true (f t) address e)
    by false e g more = more g

-- a word that isn't told is no input tag's
not_told : (words : List ℤ) (f : Tag → ℕ) (ts : List Tag) (address : ℕ) → number_before address (map (λ t. told_at words (f t)) ts) ≡ None
    → All (λ (t : Tag). f t ≢ address) ts
not_told words f [] address h = λ k d w. absurd (omega (arith, w))
not_told words f (t ∷ ts) address h = by (f t == address) refl h (not_told words f ts address)
  where
    rest : Option ℤ
    rest = number_before address (map (λ t. told_at words (f t)) ts)

    by : (b : Bool) → (f t == address) ≡ b → (if b then Some (slice_index_or words (f t) (pos 0)) else rest) ≡ None
        → (rest ≡ None → All (λ (t : Tag). f t ≢ address) ts) → All (λ (t : Tag). f t ≢ address) (t ∷ ts)
    by true e g more = absurd (none-some (slice_index_or words (f t) (pos 0)) (sym g))
    by false e g more = All-cons (λ (t : Tag). f t ≢ address) t ts (λ same. true≢false (sym (eq-eqb (f t) address same) ∙ e)) (more g)

-- ---- each declared input point has an input tag

-- what is found and passes is among what passes
found_passes : (P : Tag → Type 0) (q : Tag → Bool) (tags : List Tag) (n : List ℕ) (t : Tag) → find (λ (u : Tag). bytes_eq n u.name) tags ≡ Some t
    → All P (filter q tags) → q t ≡ true → P t × (n ≡ t.name)
found_passes P q [] n t h all e = absurd (none-some t h)
found_passes P q (u ∷ us) n t h all e = by (bytes_eq n u.name) refl h (λ g a. found_passes P q us n t g a e)
  where
    here : (b : Bool) → q u ≡ b → All P (cond b (u ∷ filter q us) (filter q us)) → q u ≡ true → P u
    here true f a g = All-head P u (filter q us) a
    here false f a g = absurd (true≢false (sym g ∙ f))

    behind : (b : Bool) → All P (cond b (u ∷ filter q us) (filter q us)) → All P (filter q us)
    behind true a = All-tail P u (filter q us) a
    behind false a = a

    by : (b : Bool) → bytes_eq n u.name ≡ b → cond b (Some u) (find (λ (v : Tag). bytes_eq n v.name) us) ≡ Some t
        → (find (λ (v : Tag). bytes_eq n v.name) us ≡ Some t → All P (filter q us) → P t × (n ≡ t.name)) → P t × (n ≡ t.name)
    by true f g more =
        let same = same_Some u t g in
        subst (λ (v : Tag). P v × (n ≡ v.name)) same (here (q u) refl all (subst (λ (v : Tag). q v ≡ true) (sym same) e), (bytes_eq-Decides n u.name).0 f)
    by false f g more = more g (behind (q u) all)

-- where no two points have one name, each is the first with its name
own_points : (ps : List Point) → AllPairs (λ (p q : Point). p.name ≢ q.name) ps → All (λ (p : Point). find (λ (q : Point). bytes_eq p.name q.name) ps ≡ Some p) ps
own_points [] h k d w = absurd (omega (arith, w))
own_points (p ∷ ps) h zero d w = ap (λ b. cond b (Some p) (find (λ (q : Point). bytes_eq p.name q.name) ps)) ((bytes_eq-Decides p.name p.name).1 refl)
own_points (p ∷ ps) h (suc k) d w =
    let x = get_or ps k d in
    ap (λ b. cond b (Some p) (find (λ (q : Point). bytes_eq x.name q.name) ps)) (other x.name p.name (h 0 (suc k) d (omega arith) w))
    ∙ own_points ps (λ i j e l m. h (suc i) (suc j) e (omega (arith, l)) (omega (arith, m))) k d (omega (arith, w))
  where
    other : (n m : List ℕ) → m ≢ n → bytes_eq n m ≡ false
    other n m apart = by (bytes_eq n m) refl
      where
        by : (b : Bool) → bytes_eq n m ≡ b → b ≡ false
        by true e = absurd (apart (sym ((bytes_eq-Decides n m).0 e)))
        by false e = refl

-- the name of each input point is that of an input point
input_names : (points : List Point) → AllPairs (λ (p q : Point). p.name ≢ q.name) points → All (λ (p : Point). is_input_point points p.name ≡ true) (inputs_of points)
input_names points apart k d w =
    let is_in : Point → Bool = λ p. chassis.is_input_kind p.kind in
    let p = get_or (inputs_of points) k d in
    let own = All-filter is_in (λ (p : Point). point_named points p.name ≡ Some p) points (own_points points apart) k d w in
    let passes = filter_passes is_in points k d w in
    ap is_input own ∙ (sym (input_kind_is p.kind) ∙ passes)

-- ---- words that aren't told

one_stays : (tags : List Tag) (words : List ℤ) (z : Point × ℤ) (address : ℕ) → (is_point_tag tags z.0.name ≡ true → tag_address tags z.0.name ≢ address)
    → slice_index_or (input_set tags words z) address (pos 0) ≡ slice_index_or words address (pos 0)
one_stays tags words z address other = by (is_point_tag tags z.0.name) refl
  where
    by : (b : Bool) → is_point_tag tags z.0.name ≡ b
        → slice_index_or (if b then slice_set words (tag_address tags z.0.name) z.1 else words) address (pos 0) ≡ slice_index_or words address (pos 0)
    by true e = get_or-set_other words (tag_address tags z.0.name) address z.1 (pos 0) (λ same. other e (sym same))
    by false e = refl

all_stay : (tags : List Tag) (ps : List Point) (inputs words : List ℤ) (address : ℕ) → All (λ (p : Point). is_point_tag tags p.name ≡ true → tag_address tags p.name ≢ address) ps
    → slice_index_or (fold (input_set tags) words (zip ps inputs)) address (pos 0) ≡ slice_index_or words address (pos 0)
all_stay tags [] inputs words address h = refl
all_stay tags (p ∷ ps) [] words address h = refl
all_stay tags (p ∷ ps) (v ∷ vs) words address h =
    let P : Point → Type 0 = λ p. is_point_tag tags p.name ≡ true → tag_address tags p.name ≢ address in
    all_stay tags ps vs (input_set tags words (p, v)) address (All-tail P p ps h)
    ∙ one_stays tags words (p, v) address (All-head P p ps h)

-- the tag of a declared input point is an input tag, so its address is told
other_address : (points : List Point) (tags : List Tag) (address : ℕ) → All (λ (t : Tag). tag_address tags t.name ≢ address) (input_tags points tags)
    → (p : Point) → is_input_point points p.name ≡ true → is_point_tag tags p.name ≡ true → tag_address tags p.name ≢ address
unfolding tag_named
other_address points tags address none p input declared = by (find (λ (u : Tag). bytes_eq p.name u.name) tags) refl declared
  where
    by : (o : Option Tag) → find (λ (u : Tag). bytes_eq p.name u.name) tags ≡ o → is_external o ≡ true → tag_address tags p.name ≢ address
    by None e h = absurd (true≢false (sym h))
    by (Some t) e h = at_tag t e
      where
        named : (t : Tag) → find (λ (u : Tag). bytes_eq p.name u.name) tags ≡ Some t → p.name ≡ t.name
        named t e = (found_passes (λ u. Unit {0}) (λ u. true) tags p.name t e (λ k d w. tt) refl).1

        at_tag : (t : Tag) → find (λ (u : Tag). bytes_eq p.name u.name) tags ≡ Some t → tag_address tags p.name ≢ address
        at_tag t e =
            let same = named t e in
            let passes : is_input_tag points tags t ≡ true =
            subst (λ (n : List ℕ). (is_point_tag tags n && is_input_point points n) ≡ true) same (and_both (is_point_tag tags p.name) (is_input_point points p.name) declared input) in
            let it = found_passes (λ (u : Tag). tag_address tags u.name ≢ address) (is_input_tag points tags) tags p.name t e none passes in
            subst (λ (n : List ℕ). tag_address tags n ≢ address) (sym same) it.0

pub stores_tell : StoresTellInputs
stores_tell points tags inputs words declared apart names count =
    let have = have_words tags declared in
    let told : Tag → ℕ × ℤ = λ t. (tag_address tags t.name, tag_word tags words t.name) in
    let ts = input_tags points tags in
    let all : total_of (shape_in tags) ≡ length words = total_same tags ∙ sym count in
    record {
      within = All-map (λ (pair : ℕ × ℤ). pair.0 < length words) told ts (subst (λ n. All (λ (t : Tag). tag_address tags t.name < n) ts) all (told_within points tags have));
      once = pairs_mapped (λ (pair other : ℕ × ℤ). pair.0 ≢ other.0) told ts (told_apart points tags have apart);
      number = λ address v h. number_told words (λ t. tag_address tags t.name) ts address v h;
      others = λ address h.
          let none = not_told words (λ t. tag_address tags t.name) ts address h in
          all_stay tags (inputs_of points) inputs words address
          (All-weaker (λ (p : Point). is_input_point points p.name ≡ true) (λ (p : Point). is_point_tag tags p.name ≡ true → tag_address tags p.name ≢ address)
          (λ p. other_address points tags address none p) (inputs_of points) (input_names points names));
    }
