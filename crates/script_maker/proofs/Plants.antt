-- The points of the generator are such as a script may have, and each input stands at its place.
use Rattle.std.proofs.Common.{◌≡◌, ℕ, ℤ, zero, suc, pos, ◌+◌, ◌<◌, Bool, true, false, List, [], ◌∷◌, ◌++◌, map, length, get_or, is_none, Option, Some, None, slice_get, codes, refl, sym, ap, ◌∙◌, arith, append_assoc, ◌&&◌, ◌==◌}
use Rattle.std.specs.List.{list_all, range_with_len}
use Rattle.std.specs.Str.{bytes_eq}
use Rattle.std.specs.Fmt.{digits}
use Rattle.std.proofs.lemmas.Slice.Eq.{bytes_eq-Decides}
use Rattle.std.proofs.lemmas.List.{get_or_append_left, get_or-append-add}
use Rattle.std.proofs.lemmas.List.FromFn.{length-map-range_with_len, get_or-map-range_with_len}
use Rattle.std.proofs.lemmas.Option.{slice_get-get_or}
use Rattle.tri_base.specs.Names.{name_of}
use Rattle.tri_base.specs.declared.point.Point.{Point}
use Rattle.tri_base.specs.declared.point.PointKind.{PointKind}
use Rattle.tri_base.specs.declared.point.PointKind.TheVariants.{Di, Ai, Do, Ao}
use Rattle.chassis.specs.Points.{refusal_of, place_of}
use Rattle.script_text.specs.IsScript.{IsPlant, Writable, IsShort}
use Rattle.script_text.proofs.LineFacts.{both}
use Rattle.script_maker.specs.Plants.{row_length, numbered, row_point, row_of, generated_points}
use Rattle.script_maker.proofs.Rows.{passes}

-- ---- names and refusals, worked

abbrev is_same : List ℕ → Option (List ℕ) → Bool
is_same name None = false
is_same name (Some n) = bytes_eq n name

same_is : (name : List ℕ) (o : Option (List ℕ)) → is_same name o ≡ true → o ≡ Some name
same_is name None h = absurd (cc)
same_is name (Some n) h = ap (λ (x : List ℕ). Some x) ((bytes_eq-Decides n name).0 h)

none_is : {A : Type 0} (o : Option A) → is_none o ≡ true → o ≡ None
none_is None h = refl
none_is (Some x) h = absurd (cc)

abbrev is_named : List ℕ → Bool
is_named name = is_same name (name_of name)

abbrev letter_names : List ℕ → ℕ → Bool
letter_names letter i = is_named (numbered letter i)

names_d : list_all (letter_names (codes "D")) (range_with_len 0 128) ≡ true
unfolding digits
names_d = refl

names_a : list_all (letter_names (codes "A")) (range_with_len 0 128) ≡ true
unfolding digits
names_a = refl

names_q : list_all (letter_names (codes "Q")) (range_with_len 0 128) ≡ true
unfolding digits
names_q = refl

names_v : list_all (letter_names (codes "V")) (range_with_len 0 128) ≡ true
unfolding digits
names_v = refl

abbrev pub AreNames : List ℕ → Type 0
AreNames letter = (i : ℕ) → i < row_length → name_of (numbered letter i) ≡ Some (numbered letter i)

named : (letter : List ℕ) → list_all (letter_names letter) (range_with_len 0 128) ≡ true → AreNames letter
named letter h i lt = same_is (numbered letter i) (name_of (numbered letter i)) (passes (letter_names letter) 128 i h lt)

pub d_names : AreNames (codes "D")
d_names = named (codes "D") names_d

pub a_names : AreNames (codes "A")
a_names = named (codes "A") names_a

pub q_names : AreNames (codes "Q")
q_names = named (codes "Q") names_q

pub v_names : AreNames (codes "V")
v_names = named (codes "V") names_v

abbrev is_plant : List Point → List Point → Bool
is_plant before [] = true
is_plant before (p ∷ points) = is_none (refusal_of before p) && (is_named p.name && is_plant (before ++ p ∷ []) points)

plant_passes : is_plant [] generated_points ≡ true
unfolding digits generated_points row_of
plant_passes = refl

-- ---- ranges and tolerances

abbrev AreWritable : List Point → Type 0
AreWritable [] = Unit {0}
AreWritable (p ∷ points) = Writable p.kind p × AreWritable points

row_writable : (f : ℕ → Point) → ((i : ℕ) → Writable (f i).kind (f i)) → (a n : ℕ) → AreWritable (map f (range_with_len a n))
row_writable f h a zero = tt
row_writable f h a (suc n) = (h a, row_writable f h (a + 1) n)

both_writable : (p q : List Point) → AreWritable p → AreWritable q → AreWritable (p ++ q)
both_writable [] q h k = k
both_writable (x ∷ p) q h k = (h.0, both_writable p q h.1 k)

writable_row : (kind : PointKind) (letter : List ℕ) (high tolerance : ℤ) → ((i : ℕ) → Writable kind (row_point kind letter high tolerance i)) → AreWritable (row_of kind letter high tolerance)
unfolding row_of
writable_row kind letter high tolerance h = row_writable (row_point kind letter high tolerance) h 0 row_length

writable : AreWritable generated_points
unfolding generated_points
writable =
    let zero_short : IsShort (pos 0) = omega arith in
    let high_short : IsShort (pos 4095) = omega arith in
    let wide_short : IsShort (pos 16) = omega arith in
    both_writable (row_of Di (codes "D") (pos 1) (pos 0)) (row_of Ai (codes "A") (pos 4095) (pos 16) ++ (row_of Do (codes "Q") (pos 1) (pos 0) ++ row_of Ao (codes "V") (pos 4095) (pos 0)))
    (writable_row Di (codes "D") (pos 1) (pos 0) (λ i. (refl, refl, refl)))
    (both_writable (row_of Ai (codes "A") (pos 4095) (pos 16)) (row_of Do (codes "Q") (pos 1) (pos 0) ++ row_of Ao (codes "V") (pos 4095) (pos 0))
    (writable_row Ai (codes "A") (pos 4095) (pos 16) (λ i. (zero_short, high_short, wide_short)))
    (both_writable (row_of Do (codes "Q") (pos 1) (pos 0)) (row_of Ao (codes "V") (pos 4095) (pos 0))
    (writable_row Do (codes "Q") (pos 1) (pos 0) (λ i. (refl, refl, refl)))
    (writable_row Ao (codes "V") (pos 4095) (pos 0) (λ i. (zero_short, high_short, refl)))))

planted : (before points : List Point) → is_plant before points ≡ true → AreWritable points → IsPlant before points
planted before [] h w = tt
planted before (p ∷ points) h w =
    let first = both (is_none (refusal_of before p)) (is_named p.name && is_plant (before ++ p ∷ []) points) h in
    let second = both (is_named p.name) (is_plant (before ++ p ∷ []) points) first.1 in
    (none_is (refusal_of before p) first.0, same_is p.name (name_of p.name) second.0, w.0, planted (before ++ p ∷ []) points second.1 w.1)

pub plant : IsPlant [] generated_points
plant = planted [] generated_points plant_passes writable

-- ---- each input at its place

abbrev no_point : Point
no_point = row_point Di [] (pos 0) (pos 0) 0

abbrev is_at : ℕ → Option ℕ → Bool
is_at i None = false
is_at i (Some j) = j == i

at_is : (i : ℕ) (o : Option ℕ) → is_at i o ≡ true → o ≡ Some i
at_is i None h = absurd (cc)
at_is i (Some j) h = ap (λ (x : ℕ). Some x) (grind (arith, h))

abbrev stands : ℕ → Bool
stands i = is_at i (place_of generated_points (get_or generated_points i no_point).name)

all_stand : list_all stands (range_with_len 0 256) ≡ true
unfolding digits generated_points row_of
all_stand = refl

pub points_length : length generated_points ≡ 512
unfolding generated_points row_of
points_length = refl

row_size : (kind : PointKind) (letter : List ℕ) (high tolerance : ℤ) → length (row_of kind letter high tolerance) ≡ row_length
unfolding row_of
row_size kind letter high tolerance = length-map-range_with_len (row_point kind letter high tolerance) 0 row_length

row_at : (kind : PointKind) (letter : List ℕ) (high tolerance : ℤ) (i : ℕ) → i < row_length → get_or (row_of kind letter high tolerance) i no_point ≡ row_point kind letter high tolerance i
unfolding row_of
row_at kind letter high tolerance i lt = get_or-map-range_with_len (row_point kind letter high tolerance) 0 row_length i i no_point lt (omega arith)

abbrev pub discrete_point : ℕ → Point
discrete_point i = row_point Di (codes "D") (pos 1) (pos 0) i

abbrev pub analogue_point : ℕ → Point
analogue_point j = row_point Ai (codes "A") (pos 4095) (pos 16) j

discrete_at : (i : ℕ) → i < row_length → get_or generated_points i no_point ≡ discrete_point i
unfolding generated_points
discrete_at i lt =
    let row = row_of Di (codes "D") (pos 1) (pos 0) in
    let rest = row_of Ai (codes "A") (pos 4095) (pos 16) ++ (row_of Do (codes "Q") (pos 1) (pos 0) ++ row_of Ao (codes "V") (pos 4095) (pos 0)) in
    let size = row_size Di (codes "D") (pos 1) (pos 0) in
    get_or_append_left row rest no_point i (omega (arith, lt, size)) ∙ row_at Di (codes "D") (pos 1) (pos 0) i lt

analogue_at : (j : ℕ) → j < row_length → get_or generated_points (row_length + j) no_point ≡ analogue_point j
unfolding generated_points
analogue_at j lt =
    let first = row_of Di (codes "D") (pos 1) (pos 0) in
    let row = row_of Ai (codes "A") (pos 4095) (pos 16) in
    let rest = row_of Do (codes "Q") (pos 1) (pos 0) ++ row_of Ao (codes "V") (pos 4095) (pos 0) in
    let size = row_size Ai (codes "A") (pos 4095) (pos 16) in
    ap (λ n. get_or (first ++ (row ++ rest)) (n + j) no_point) (sym (row_size Di (codes "D") (pos 1) (pos 0)))
    ∙ (get_or-append-add first (row ++ rest) j no_point
    ∙ (get_or_append_left row rest no_point j (omega (arith, lt, size)) ∙ row_at Ai (codes "A") (pos 4095) (pos 16) j lt))

pub record StandsAt (place : ℕ) (point : Point) : Type 0 where
  pub there : slice_get generated_points place ≡ Some point
  pub found : place_of generated_points point.name ≡ Some place

stands_at : (place : ℕ) (point : Point) → place < 256 → get_or generated_points place no_point ≡ point → StandsAt place point
stands_at place point lt e = record {
  there = slice_get-get_or generated_points place no_point (omega (arith, lt, points_length)) ∙ ap (λ (p : Point). Some p) e;
  found = ap (λ (p : Point). place_of generated_points p.name) (sym e) ∙ at_is place (place_of generated_points (get_or generated_points place no_point).name) (passes stands 256 place all_stand lt);
}

pub discrete_stands : (i : ℕ) → i < row_length → StandsAt i (discrete_point i)
discrete_stands i lt = stands_at i (discrete_point i) (omega (arith, lt)) (discrete_at i lt)

pub analogue_stands : (j : ℕ) → j < row_length → StandsAt (row_length + j) (analogue_point j)
analogue_stands j lt = stands_at (row_length + j) (analogue_point j) (omega (arith, lt)) (analogue_at j lt)

-- ---- the rows as code adds them

pub row_whole : (kind : PointKind) (letter : List ℕ) (high tolerance : ℤ) (n : ℕ) (start points : List Point) → n ≡ row_length → points ≡ start ++ map (row_point kind letter high tolerance) (range_with_len 0 n) → points ≡ start ++ row_of kind letter high tolerance
unfolding row_of
row_whole kind letter high tolerance n start points e h = h ∙ ap (λ m. start ++ map (row_point kind letter high tolerance) (range_with_len 0 m)) e

pub rows_whole : (none a b c d : List Point) → none ≡ [] → a ≡ none ++ row_of Di (codes "D") (pos 1) (pos 0) → b ≡ a ++ row_of Ai (codes "A") (pos 4095) (pos 16) → c ≡ b ++ row_of Do (codes "Q") (pos 1) (pos 0) → d ≡ c ++ row_of Ao (codes "V") (pos 4095) (pos 0) → d ≡ generated_points
unfolding generated_points
rows_whole none a b c d h e f g k =
    let first = row_of Di (codes "D") (pos 1) (pos 0) in
    let second = row_of Ai (codes "A") (pos 4095) (pos 16) in
    let third = row_of Do (codes "Q") (pos 1) (pos 0) in
    let fourth = row_of Ao (codes "V") (pos 4095) (pos 0) in
    let at : c ≡ (first ++ second) ++ third = g ∙ ap (λ t. t ++ third) (f ∙ ap (λ t. t ++ second) (e ∙ ap (λ t. t ++ first) h)) in
    k ∙ (ap (λ t. t ++ fourth) at ∙ (append_assoc (first ++ second) third fourth ∙ append_assoc first second (third ++ fourth)))

pub point_is : (kind : PointKind) (letter : List ℕ) (high tolerance : ℤ) (i : ℕ) (name : List ℕ) → name ≡ numbered letter i → record { name = name; kind = kind; low = pos 0; high = high; tolerance = tolerance } ≡ row_point kind letter high tolerance i
point_is kind letter high tolerance i name e = ap (λ (n : List ℕ). record { name = n; kind = kind; low = pos 0; high = high; tolerance = tolerance }) e
