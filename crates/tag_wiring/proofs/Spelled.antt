-- Points that are spelled in one way are the same.
use Rattle.std.proofs.Common.{◌≡◌, ◌≢◌, ℕ, zero, suc, ◌<◌, ◌+◌, nat_le, ℤ, pos, negsuc, FitsSigned, w64}
use Rattle.std.proofs.Common.{Bool, true, false, not, ◌&&◌, ◌==◌, if◌then◌else◌, Some, None, List, [], ◌∷◌, ◌++◌}
use Rattle.std.proofs.Common.{length, get_or, take, drop, map, append_assoc, arith, refl, sym, ap, ◌∙◌, subst}
use Rattle.std.specs.List.{All, list_all}
use Rattle.std.specs.Char.{to_ascii_uppercase}
use Rattle.std.specs.Str.{IsAscii, IsUtf8, bytes_eq}
use Rattle.std.specs.Str.Parse.{AllDigits}
use Rattle.std.specs.Fmt.{decimal, signed_decimal}
use Rattle.std.proofs.lemmas.List.{take_more}
use Rattle.std.proofs.lemmas.List.Elements.{All-head, All-tail, All-more}
use Rattle.std.proofs.lemmas.Slice.Eq.{bytes_eq-Decides}
use Rattle.std.proofs.lemmas.Option.{none-some}
use Rattle.std.proofs.lemmas.Str.{IsUtf8-from_ascii}
use Rattle.std.proofs.lemmas.Str.Parse.{digit_from_value}
use Rattle.std.proofs.lemmas.Fmt.{decimal_is_IsNumeral, signed_decimal_injective}
use Rattle.tri_base.specs.Names.{is_word_byte, is_name, name_of, starts_with_digit}
use Rattle.tri_base.specs.declared.point.Point.{Point}
use Rattle.tri_base.specs.declared.point.PointKind.{PointKind}
use Rattle.tri_base.specs.declared.point.PointKind.TheVariants.{Di, Ai, Do, Ao}
use Rattle.tag_wiring.specs.Inner.Spelling.{IsPlain, kind_letter, word_then, point_then, spelled}

-- ---- one point more

word_ends : (w a b : List ℕ) → word_then w (a ++ b) ≡ word_then w a ++ b
word_ends w a b = sym (append_assoc w (32 ∷ a) b)

point_ends : (p : Point) (a b : List ℕ) → point_then p (a ++ b) ≡ point_then p a ++ b
point_ends p a b =
    let low = signed_decimal p.low in
    let high = signed_decimal p.high in
    let tolerance = signed_decimal p.tolerance in
    let one = word_then p.name a in
    let two = word_then tolerance one in
    let three = word_then high two in
    ap (λ l. kind_letter p.kind ∷ l)
    (ap (word_then low)
    (ap (word_then high) (ap (word_then tolerance) (word_ends p.name a b) ∙ word_ends tolerance one b)
    ∙ word_ends high two b)
    ∙ word_ends low three b)

pub spelled_more : (ps : List Point) (p : Point) → spelled (ps ++ p ∷ []) ≡ spelled ps ++ point_then p []
unfolding spelled
spelled_more [] p = refl
spelled_more (q ∷ qs) p = ap (point_then q) (spelled_more qs p) ∙ point_ends q (spelled qs) (point_then p [])

next : (ps : List Point) (i : ℕ) (p : Point) → i < length ps → p ≡ get_or ps i p → take (i + 1) ps ≡ take i ps ++ p ∷ []
next ps i p within is = take_more ps i p within ∙ ap (λ q. take i ps ++ q ∷ []) (sym is)

pub text_more : (ps : List Point) (i : ℕ) (p : Point) (here now : List ℕ) → i < length ps → p ≡ get_or ps i p
    → here ≡ spelled (take i ps) → now ≡ here ++ point_then p [] → now ≡ spelled (take (i + 1) ps)
text_more ps i p here now within is h n =
    n ∙ (ap (λ l. l ++ point_then p []) h
    ∙ (sym (spelled_more (take i ps) p) ∙ ap spelled (sym (next ps i p within is))))

pub plain_more : (ps : List Point) (i : ℕ) (p : Point) → i < length ps → p ≡ get_or ps i p → All IsPlain (take i ps)
    → IsPlain p → All IsPlain (take (i + 1) ps)
plain_more ps i p within is h plain = All-more IsPlain ps i p within h (subst IsPlain is plain)

-- ---- words without a space

abbrev IsWord : List ℕ → Type 0
IsWord [] = Unit {0}
IsWord (b ∷ bs) = (b ≢ 32) × IsWord bs

head : (x y : ℕ) (xs ys : List ℕ) → x ∷ xs ≡ y ∷ ys → x ≡ y
head x y xs ys e = ap (λ l. get_or l 0 0) e

tail : (x y : ℕ) (xs ys : List ℕ) → x ∷ xs ≡ y ∷ ys → xs ≡ ys
tail x y xs ys e = ap (drop 1) e

-- two words that end at a space are the same, and so is what follows
cut : (v w a b : List ℕ) → IsWord v → IsWord w → word_then v a ≡ word_then w b → (v ≡ w) × (a ≡ b)
cut [] [] a b g h e = (refl, tail 32 32 a b e)
cut [] (y ∷ ys) a b g h e = absurd (h.0 (sym (head 32 y a (word_then ys b) e)))
cut (x ∷ xs) [] a b g h e = absurd (g.0 (head x 32 (word_then xs a) b e))
cut (x ∷ xs) (y ∷ ys) a b g h e =
    let rest = cut xs ys a b g.1 h.1 (tail x y (word_then xs a) (word_then ys b) e) in
    ((λ i. head x y (word_then xs a) (word_then ys b) e i ∷ rest.0 i), rest.1)

digits_word : (ds : List ℕ) → AllDigits 10 ds → IsWord ds
digits_word [] d = tt
digits_word (c ∷ cs) d = ((λ e. omega (arith, digit_from_value c d.0, e)), digits_word cs d.1)

number_word : (z : ℤ) → FitsSigned w64 z → IsWord (signed_decimal z)
number_word (pos n) h = digits_word (decimal n) (decimal_is_IsNumeral n (omega (arith, h.sfits))).0.1
number_word (negsuc n) h =
    let numeral = decimal_is_IsNumeral (suc n) (omega (arith, h.sfits)) in
    ((λ e. omega (arith, e)), digits_word (decimal (suc n)) numeral.0.1)

first : (a b : Bool) → (a && b) ≡ true → (a ≡ true) × (b ≡ true)
first true b h = (refl, h)
first false b h = absurd (cc)

bytes_word : (n : List ℕ) → list_all is_word_byte n ≡ true → IsWord n
bytes_word [] h = tt
bytes_word (b ∷ bs) h =
    let parts = first (is_word_byte b) (list_all is_word_byte bs) h in
    ((λ e. grind (arith, parts.0, e)), bytes_word bs parts.1)

bytes_ascii : (n : List ℕ) → list_all is_word_byte n ≡ true → IsAscii n
bytes_ascii [] h i = omega arith
bytes_ascii (b ∷ bs) h zero = grind (arith, (first (is_word_byte b) (list_all is_word_byte bs) h).0)
bytes_ascii (b ∷ bs) h (suc i) = bytes_ascii bs (first (is_word_byte b) (list_all is_word_byte bs) h).1 i

named : (n : List ℕ) → name_of n ≡ Some n → is_name n ≡ true
named n h = by (is_name n) refl h
  where
    by : (b : Bool) → is_name n ≡ b → (if b then Some (map to_ascii_uppercase n) else None) ≡ Some n → is_name n ≡ true
    by true e k = e
    by false e k = absurd (none-some n k)

name_bytes : (n : List ℕ) → name_of n ≡ Some n → list_all is_word_byte n ≡ true
name_bytes n h =
    let sized = nat_le 1 (length n) && nat_le (length n) 32 in
    let outer = first (sized && list_all is_word_byte n) (not (starts_with_digit n)) (named n h) in
    (first sized (list_all is_word_byte n) outer.0).1

pub name_utf8 : (n : List ℕ) → name_of n ≡ Some n → IsUtf8 n
name_utf8 n h = IsUtf8-from_ascii n (bytes_ascii n (name_bytes n h))

-- ---- the same points

-- the kind of a letter
abbrev kind_of : ℕ → PointKind
kind_of b = if b == 68 then Di else if b == 65 then Ai else if b == 100 then Do else Ao

kind_back : (k : PointKind) → kind_of (kind_letter k) ≡ k
kind_back Di = refl
kind_back Ai = refl
kind_back Do = refl
kind_back Ao = refl

same_kind : (k m : PointKind) → kind_letter k ≡ kind_letter m → k ≡ m
same_kind k m e = sym (kind_back k) ∙ (ap kind_of e ∙ kind_back m)

same_number : (y z : ℤ) (a b : List ℕ) → FitsSigned w64 y → FitsSigned w64 z
    → word_then (signed_decimal y) a ≡ word_then (signed_decimal z) b → (y ≡ z) × (a ≡ b)
same_number y z a b g h e =
    let both = cut (signed_decimal y) (signed_decimal z) a b (number_word y g) (number_word z h) e in
    (signed_decimal_injective y z g.sfits h.sfits both.0, both.1)

same_name : (m n a b : List ℕ) → name_of m ≡ Some m → name_of n ≡ Some n → word_then m a ≡ word_then n b
    → (m ≡ n) × (a ≡ b)
same_name m n a b g h e = cut m n a b (bytes_word m (name_bytes m g)) (bytes_word n (name_bytes n h)) e

-- what stands behind the tolerance, the high and the low count, and the kind
abbrev behind_tolerance : Point → List ℕ → List ℕ
behind_tolerance p a = word_then p.name a

abbrev behind_high : Point → List ℕ → List ℕ
behind_high p a = word_then (signed_decimal p.tolerance) (behind_tolerance p a)

abbrev behind_low : Point → List ℕ → List ℕ
behind_low p a = word_then (signed_decimal p.high) (behind_high p a)

abbrev behind_kind : Point → List ℕ → List ℕ
behind_kind p a = word_then (signed_decimal p.low) (behind_low p a)

same_first : (p q : Point) (a b : List ℕ) → IsPlain p → IsPlain q → point_then p a ≡ point_then q b → (p ≡ q) × (a ≡ b)
same_first p q a b g h e =
    let j = kind_letter p.kind in
    let k = kind_letter q.kind in
    let kind = same_kind p.kind q.kind (head j k (behind_kind p a) (behind_kind q b) e) in
    let rest = tail j k (behind_kind p a) (behind_kind q b) e in
    let low = same_number p.low q.low (behind_low p a) (behind_low q b) g.low h.low rest in
    let high = same_number p.high q.high (behind_high p a) (behind_high q b) g.high h.high low.1 in
    let x = behind_tolerance p a in
    let y = behind_tolerance q b in
    let tolerance = same_number p.tolerance q.tolerance x y g.tolerance h.tolerance high.1 in
    let name = same_name p.name q.name a b g.name h.name tolerance.1 in
    let same : p ≡ q = λ i. record {
      name = name.0 i;
      kind = kind i;
      low = low.0 i;
      high = high.0 i;
      tolerance = tolerance.0 i;
    } in
    (same, name.1)

pub same_points : (ps qs : List Point) → All IsPlain ps → All IsPlain qs → spelled ps ≡ spelled qs → ps ≡ qs
unfolding spelled
same_points [] [] g h e = refl
same_points [] (q ∷ qs) g h e = absurd (cc)
same_points (p ∷ ps) [] g h e = absurd (cc)
same_points (p ∷ ps) (q ∷ qs) g h e =
    let one = same_first p q (spelled ps) (spelled qs) (All-head IsPlain p ps g) (All-head IsPlain q qs h) e in
    (λ i. one.0 i ∷ same_points ps qs (All-tail IsPlain p ps g) (All-tail IsPlain q qs h) one.1 i)

-- texts that spell points are the same just where the points are
pub texts_tell : (ps qs : List Point) (s t : List ℕ) (r : Bool) → s ≡ spelled ps → t ≡ spelled qs
    → All IsPlain ps → All IsPlain qs → r ≡ bytes_eq s t → (r ≡ true → ps ≡ qs) × (ps ≡ qs → r ≡ true)
texts_tell ps qs s t r a b g h is =
    let decides = bytes_eq-Decides s t in (
      (λ e. same_points ps qs g h (sym a ∙ (decides.0 (sym is ∙ e) ∙ b))),
      (λ e. is ∙ decides.1 (a ∙ (ap spelled e ∙ sym b))),
    )
