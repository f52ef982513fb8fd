-- Numbers, names and the words of each kind of line are read again.
use Rattle.std.proofs.Common.{◌≡◌, ℕ, ℤ, suc, pos, negsuc, neg_ℤ, ◌+◌, ◌<◌, ◌^◌, ◌*◌, ◌/◌, ◌%◌, flat_map, Bool, true, false, not, List, [], ◌∷◌, ◌++◌, length, map, nat_lt, nat_le, ◌==◌, ◌&&◌, Option, Some, None, option_map, refl, sym, ap, ◌∙◌, arith, length-append, decimal, codes, get_or}
use Rattle.std.specs.Bool.{if◌then◌else◌}
use Rattle.std.specs.List.{list_all, range_with_len}
use Rattle.std.proofs.lemmas.Bool.{leb-true, ltb-true}
use Rattle.std.proofs.lemmas.List.FromFn.{get_or-map-range_with_len}
use Rattle.std.specs.Char.{is_ascii_digit, to_ascii_uppercase}
use Rattle.std.specs.Str.{bytes_eq}
use Rattle.std.specs.Option.{option_and_then}
use Rattle.std.proofs.lemmas.Bool.Decides.{Decides-int_eq}
use Rattle.tri_base.specs.declared.point.Point.{Point}
use Rattle.tri_base.specs.declared.point.PointKind.{PointKind}
use Rattle.tri_base.specs.declared.point.PointKind.TheVariants.{Di, Ai, Do, Ao}
use Rattle.std.specs.Fmt.{signed_decimal}
use Rattle.std.specs.Str.Parse.{digits_value}
use Rattle.std.specs.Ordering.{int_eq}
use Rattle.std.proofs.lemmas.List.Folds.{list_all-append}
use Rattle.std.proofs.lemmas.Fmt.{decimal_by_steps, decimal_is_IsNumeral, length-decimal-le}
use Rattle.tri_base.specs.Numbers.{number_of, size_of, is_short_numeral}
use Rattle.tri_base.specs.Names.{name_of, is_name, is_word_byte, starts_with_digit}
use Rattle.tri_base.specs.declared.leg.Leg.{Leg}
use Rattle.tri_base.specs.declared.leg.Leg.TheVariants.{A, B, C}
use Rattle.tri_base.specs.declared.leg.Side.{Side}
use Rattle.tri_base.specs.declared.leg.Side.TheVariants.{Left, Right}
use Rattle.tri_base.specs.declared.leg.Triple.{Triple}
use Rattle.script_lines.specs.Statements.{triple, numbers_of, leg_of, side_of, sided_of, sided_leg, sided, legs_of, hex_digit, hex_byte, hex_bytes, point, discrete_point, input_point, output_point}
use Rattle.script_text.specs.Standing.{is_time}
use Rattle.script_text.specs.IsScript.{IsShort, AllShort, IsShortTriple, Writable, IsRequest}
use Rattle.script_text.proofs.LineFacts.{both}
use Rattle.script_writer.specs.Canonical.{triple_words, leg_word, side_words, sided_words, digit_of, hex_of, point_tail, point_words}
use Rattle.script_writer.proofs.RoundLines.{all_weaker, is_plain, IsPlain, ArePlain}

-- ---- numbers

digits : (n : ℕ) → n < 2 ^ 64 → (list_all is_ascii_digit (decimal n) ≡ true) × (0 < length (decimal n))
digits n h = decimal_by_steps
    (λ n ds. (list_all is_ascii_digit ds ≡ true) × (0 < length ds))
    (λ n small. (grind (arith), omega arith))
    (λ n ds large k. (list_all-append is_ascii_digit ds ((48 + n % 10) ∷ []) ∙ (λ i. k.0 i && last (n % 10) (grind arith) i), omega (arith, length-append ds ((48 + n % 10) ∷ []))))
    n h
  where
    last : (d : ℕ) → d < 10 → list_all is_ascii_digit ((48 + d) ∷ []) ≡ true
    last d h = grind arith

size_again : (n : ℕ) → n < 10 ^ 18 → size_of (decimal n) ≡ Some n
size_again n h =
    let own = digits n (omega arith) in
    let short = length-decimal-le 18 n (omega arith) h (omega arith) in
    let least : nat_le 1 (length (decimal n)) ≡ true = grind (arith, own.1) in
    let most : nat_le (length (decimal n)) 18 ≡ true = grind (arith, short) in
    let numeral : is_short_numeral (decimal n) ≡ true = (λ i. (least i && most i) && own.0 i) in
    ap (λ t. if t then Some (digits_value 10 (decimal n)) else None) numeral ∙ ap (λ k. Some k) (decimal_is_IsNumeral n (omega arith)).1

pub number_again : (z : ℤ) → IsShort z → number_of (signed_decimal z) ≡ Some z
number_again (negsuc n) h = ap (option_map (λ n. neg_ℤ (pos n))) (size_again (suc n) (omega (arith, h)))
number_again (pos n) h = first (decimal n) (digits n (omega (arith, h))) (size_again n (omega (arith, h)))
  where
    first : (ds : List ℕ) → (list_all is_ascii_digit ds ≡ true) × (0 < length ds) → size_of ds ≡ Some n → number_of ds ≡ Some (pos n)
    first [] own is = absurd (omega (arith, own.1))
    first (b ∷ ds) own is =
        let digit = (both (is_ascii_digit b) (list_all is_ascii_digit ds) own.0).0 in
        let no_sign : (b == 45) ≡ false = grind (arith, digit) in
        ap (λ t. if t then option_map (λ n. neg_ℤ (pos n)) (size_of ds) else option_map (λ n. pos n) (size_of (b ∷ ds))) no_sign ∙ ap (option_map (λ n. pos n)) is

digits_plain : (ds : List ℕ) → (list_all is_ascii_digit ds ≡ true) × (0 < length ds) → IsPlain ds
digits_plain [] own = absurd (omega (arith, own.1))
digits_plain (b ∷ ds) own = all_weaker is_ascii_digit is_plain (λ c h. grind (arith, h)) (b ∷ ds) own.0

pub number_plain : (z : ℤ) → IsShort z → IsPlain (signed_decimal z)
number_plain (pos n) h = digits_plain (decimal n) (digits n (omega (arith, h)))
number_plain (negsuc n) h = all_weaker is_ascii_digit is_plain (λ c h. grind (arith, h)) (decimal (suc n)) (digits (suc n) (omega (arith, h))).0

-- ---- three numbers

same : (y z : ℤ) → int_eq y z ≡ true → y ≡ z
same y z h = (Decides-int_eq y z).0 h

pub triple_again : (t : Triple ℤ) → IsShortTriple t → triple (triple_words t) ≡ Some t
triple_again t (a, b, c) = by (int_eq t.a t.b) refl (int_eq t.a t.c) refl
  where
    by : (p : Bool) → int_eq t.a t.b ≡ p → (q : Bool) → int_eq t.a t.c ≡ q → triple (if p && q then signed_decimal t.a ∷ [] else signed_decimal t.a ∷ signed_decimal t.b ∷ signed_decimal t.c ∷ []) ≡ Some t
    by true e true f = ap (option_map (λ v. record { a = v; b = v; c = v })) (number_again t.a a) ∙ (λ i. Some (record { a = t.a; b = same t.a t.b e i; c = same t.a t.c f i }))
    by true e false f = λ i. option_and_then (λ a'. option_and_then (λ b'. option_map (λ c'. record { a = a'; b = b'; c = c' }) (number_again t.c c i)) (number_again t.b b i)) (number_again t.a a i)
    by false e q f = λ i. option_and_then (λ a'. option_and_then (λ b'. option_map (λ c'. record { a = a'; b = b'; c = c' }) (number_again t.c c i)) (number_again t.b b i)) (number_again t.a a i)

pub triple_plain : (t : Triple ℤ) → IsShortTriple t → ArePlain (triple_words t)
triple_plain t (a, b, c) = by (int_eq t.a t.b && int_eq t.a t.c)
  where
    by : (p : Bool) → ArePlain (if p then signed_decimal t.a ∷ [] else signed_decimal t.a ∷ signed_decimal t.b ∷ signed_decimal t.c ∷ [])
    by true = (number_plain t.a a, tt)
    by false = (number_plain t.a a, (number_plain t.b b, (number_plain t.c c, tt)))

-- ---- names

pub name_plain : (name : List ℕ) → name_of name ≡ Some name → IsPlain name
name_plain name h = by name (is_name name) refl h
  where
    by : (name : List ℕ) (t : Bool) → is_name name ≡ t → (if t then Some (map to_ascii_uppercase name) else None) ≡ Some name → IsPlain name
    by name false e k = absurd (cc)
    by [] true e k = let w : false ≡ true = e in absurd (cc)
    by (b ∷ bs) true e k =
        let parts = both ((nat_le 1 (length (b ∷ bs)) && nat_le (length (b ∷ bs)) 32) && list_all is_word_byte (b ∷ bs)) (not (starts_with_digit (b ∷ bs))) e in
        let word = both (nat_le 1 (length (b ∷ bs)) && nat_le (length (b ∷ bs)) 32) (list_all is_word_byte (b ∷ bs)) parts.0 in
        all_weaker is_word_byte is_plain (λ c h. grind (arith, h)) (b ∷ bs) word.1

-- ---- numbers in a row

pub numbers_again : (ns : List ℤ) → AllShort ns → numbers_of (map signed_decimal ns) ≡ Some ns
numbers_again [] h = refl
numbers_again (n ∷ ns) h = λ i. option_and_then (λ number. option_map (λ numbers. number ∷ numbers) (numbers_again ns h.1 i)) (number_again n h.0 i)

pub numbers_plain : (ns : List ℤ) → AllShort ns → ArePlain (map signed_decimal ns)
numbers_plain [] h = tt
numbers_plain (n ∷ ns) h = (number_plain n h.0, numbers_plain ns h.1)

-- a number is no side
no_side : (z : ℤ) → IsShort z → side_of (signed_decimal z) ≡ None
no_side (negsuc n) h = refl
no_side (pos n) h = first (decimal n) (digits n (omega (arith, h)))
  where
    first : (ds : List ℕ) → (list_all is_ascii_digit ds ≡ true) × (0 < length ds) → side_of ds ≡ None
    first [] own = refl
    first (b ∷ ds) own =
        let digit = (both (is_ascii_digit b) (list_all is_ascii_digit ds) own.0).0 in
        let no_left : (b == 76) ≡ false = grind (arith, digit) in
        let no_right : (b == 82) ≡ false = grind (arith, digit) in
        λ i. if no_left i && bytes_eq ds (codes "EFT") then Some Left else if no_right i && bytes_eq ds (codes "IGHT") then Some Right else None

side_again : (leg : Leg) (side : Option Side) (ns : List ℤ) → AllShort ns → sided_leg leg (side_words side ++ map signed_decimal ns) ≡ Some (leg, side, ns)
side_again leg (Some Left) ns h = ap (option_map (λ numbers. (leg, Some Left, numbers))) (numbers_again ns h)
side_again leg (Some Right) ns h = ap (option_map (λ numbers. (leg, Some Right, numbers))) (numbers_again ns h)
side_again leg None [] h = refl
side_again leg None (n ∷ ns) h = ap (sided leg (signed_decimal n) (map signed_decimal ns)) (no_side n h.0) ∙ ap (option_map (λ numbers. (leg, None, numbers))) (numbers_again (n ∷ ns) h)

pub leg_again : (leg : Leg) → leg_of (leg_word leg) ≡ Some leg
leg_again A = refl
leg_again B = refl
leg_again C = refl

pub leg_plain : (leg : Leg) → IsPlain (leg_word leg)
leg_plain A = refl
leg_plain B = refl
leg_plain C = refl

pub sided_again : (leg : Leg) (side : Option Side) (ns : List ℤ) → AllShort ns → sided_of (sided_words leg side ns) ≡ Some (leg, side, ns)
sided_again leg side ns h = ap (option_and_then (λ leg. sided_leg leg (side_words side ++ map signed_decimal ns))) (leg_again leg) ∙ side_again leg side ns h

pub sided_plain : (leg : Leg) (side : Option Side) (ns : List ℤ) → AllShort ns → ArePlain (sided_words leg side ns)
sided_plain leg side ns h = (leg_plain leg, sides side)
  where
    sides : (side : Option Side) → ArePlain (side_words side ++ map signed_decimal ns)
    sides None = numbers_plain ns h
    sides (Some Left) = (refl, numbers_plain ns h)
    sides (Some Right) = (refl, numbers_plain ns h)

-- ---- scan times

pub time_short : (t : ℤ) → is_time t ≡ true → IsShort t
time_short (negsuc n) h = absurd (cc)
time_short (pos n) h = let most = leb-true n 10000 (both (nat_le 1 n) (nat_le n 10000) h).1 in omega (arith, most)

-- ---- schedules

pub legs_again : (legs : List Leg) → legs_of (flat_map leg_word legs) ≡ Some legs
legs_again [] = refl
legs_again (A ∷ legs) = ap (option_map (λ legs. A ∷ legs)) (legs_again legs)
legs_again (B ∷ legs) = ap (option_map (λ legs. B ∷ legs)) (legs_again legs)
legs_again (C ∷ legs) = ap (option_map (λ legs. C ∷ legs)) (legs_again legs)

letters_plain : (legs : List Leg) → list_all is_plain (flat_map leg_word legs) ≡ true
letters_plain [] = refl
letters_plain (A ∷ legs) = letters_plain legs
letters_plain (B ∷ legs) = letters_plain legs
letters_plain (C ∷ legs) = letters_plain legs

pub legs_plain : (leg : Leg) (legs : List Leg) → IsPlain (flat_map leg_word (leg ∷ legs))
legs_plain A legs = letters_plain legs
legs_plain B legs = letters_plain legs
legs_plain C legs = letters_plain legs

-- ---- requests

digit_again : (d : ℕ) → d < 16 → hex_digit (digit_of d) ≡ Some d
digit_again d lt =
    sym (get_or-map-range_with_len (λ k. hex_digit (digit_of k)) 0 16 d d None lt (omega arith))
    ∙ (ap (λ (os : List (Option ℕ)). get_or os d None) table ∙ get_or-map-range_with_len (λ k. Some k) 0 16 d d None lt (omega arith))
  where
    table : map (λ k. hex_digit (digit_of k)) (range_with_len 0 16) ≡ map (λ k. Some k) (range_with_len 0 16)
    table = refl

digit_plain : (d : ℕ) → d < 16 → is_plain (digit_of d) ≡ true
digit_plain d lt =
    sym (get_or-map-range_with_len (λ k. is_plain (digit_of k)) 0 16 d d true lt (omega arith))
    ∙ (ap (λ (ts : List Bool). get_or ts d true) table ∙ get_or-map-range_with_len (λ k. true) 0 16 d d true lt (omega arith))
  where
    table : map (λ k. is_plain (digit_of k)) (range_with_len 0 16) ≡ map (λ k. true) (range_with_len 0 16)
    table = refl

high : (b : ℕ) → b < 256 → b / 16 < 16
high b lt = omega (arith, lt)

low : (b : ℕ) → b % 16 < 16
low b = omega arith

byte_again : (b : ℕ) → b < 256 → hex_byte (digit_of (b / 16)) (digit_of (b % 16)) ≡ Some b
byte_again b lt =
    (λ i. option_and_then (λ h. option_map (λ l. 16 * h + l) (digit_again (b % 16) (low b) i)) (digit_again (b / 16) (high b lt) i))
    ∙ ap (λ (n : ℕ). Some n) whole
  where
    whole : 16 * (b / 16) + b % 16 ≡ b
    whole = omega arith

pub bytes_again : (bytes : List ℕ) → list_all (λ b. nat_lt b 256) bytes ≡ true → hex_bytes (flat_map hex_of bytes) ≡ Some bytes
bytes_again [] h = refl
bytes_again (b ∷ bytes) h =
    let (first, rest) = both (nat_lt b 256) (list_all (λ b. nat_lt b 256) bytes) h in
    let lt : b < 256 = ltb-true b 256 first in
    λ i. option_and_then (λ byte. option_map (λ bytes. byte ∷ bytes) (bytes_again bytes rest i)) (byte_again b lt i)

pub bytes_count : (bytes : List ℕ) → length (flat_map hex_of bytes) ≡ length bytes + length bytes
bytes_count [] = refl
bytes_count (b ∷ bytes) = let e = bytes_count bytes in omega (arith, e)

digits_all : (bytes : List ℕ) → list_all (λ b. nat_lt b 256) bytes ≡ true → list_all is_plain (flat_map hex_of bytes) ≡ true
digits_all [] h = refl
digits_all (b ∷ bytes) h =
    let (first, rest) = both (nat_lt b 256) (list_all (λ b. nat_lt b 256) bytes) h in
    let lt : b < 256 = ltb-true b 256 first in
    λ i. digit_plain (b / 16) (high b lt) i && (digit_plain (b % 16) (low b) i && digits_all bytes rest i)

pub bytes_plain : (bytes : List ℕ) → IsRequest bytes → IsPlain (flat_map hex_of bytes)
bytes_plain [] h = absurd (let few = h.some in omega (arith, few))
bytes_plain (b ∷ bytes) h = digits_all (b ∷ bytes) h.small

-- ---- points

pub point_again : (p : Point) → name_of p.name ≡ Some p.name → Writable p.kind p → point (point_tail p.kind p) ≡ Some p
point_again p name h = by p.kind refl h
  where
    by : (k : PointKind) → p.kind ≡ k → Writable k p → point (point_tail k p) ≡ Some p
    by Di e w = (λ i. option_map (λ n. discrete_point Di n) (name i)) ∙ (λ i. Some (record { name = p.name; kind = sym e i; low = sym w.0 i; high = sym w.1 i; tolerance = sym w.2 i }))
    by Do e w = (λ i. option_map (λ n. discrete_point Do n) (name i)) ∙ (λ i. Some (record { name = p.name; kind = sym e i; low = sym w.0 i; high = sym w.1 i; tolerance = sym w.2 i }))
    by Ai e w = (λ i. option_and_then (λ n. option_and_then (λ l. option_and_then (λ u. option_map (λ t. input_point n l u t) (number_again p.tolerance w.2 i)) (number_again p.high w.1 i)) (number_again p.low w.0 i)) (name i)) ∙ (λ i. Some (record { name = p.name; kind = sym e i; low = p.low; high = p.high; tolerance = p.tolerance }))
    by Ao e w = (λ i. option_and_then (λ n. option_and_then (λ l. option_map (λ u. output_point n l u) (number_again p.high w.1 i)) (number_again p.low w.0 i)) (name i)) ∙ (λ i. Some (record { name = p.name; kind = sym e i; low = p.low; high = p.high; tolerance = sym w.2 i }))

pub point_plain : (p : Point) → name_of p.name ≡ Some p.name → Writable p.kind p → ArePlain (point_words p)
point_plain p name h = (refl, by p.kind h)
  where
    by : (k : PointKind) → Writable k p → ArePlain (point_tail k p)
    by Di w = (refl, (name_plain p.name name, tt))
    by Do w = (refl, (name_plain p.name name, tt))
    by Ai w = (refl, (name_plain p.name name, (number_plain p.low w.0, (number_plain p.high w.1, (number_plain p.tolerance w.2, tt)))))
    by Ao w = (refl, (name_plain p.name name, (number_plain p.low w.0, (number_plain p.high w.1, tt))))
