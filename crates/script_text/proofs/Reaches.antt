-- What is read keeps what holds of every script: numbers, names, points, blocks and the lines of a scan, with one more.
use Rattle.std.proofs.Common.{◌≡◌, ℕ, ℤ, zero, suc, pos, neg_ℤ, ◌+◌, ◌*◌, ◌<◌, ◌≤◌, ◌^◌, Bool, true, false, List, [], ◌∷◌, ◌++◌, length, flat_map, nat_lt, ◌==◌, ◌&&◌, ◌||◌, Option, Some, None, option_map, refl, sym, ap, ◌∙◌, subst, arith, slice_get, get_or, codes, append_assoc, append-nil, map}
use Rattle.std.specs.Bool.{if◌then◌else◌}
use Rattle.std.specs.List.{list_all}
use Rattle.std.specs.Option.{option_and_then}
use Rattle.std.specs.Str.{bytes_eq}
use Rattle.std.specs.Str.Parse.{digits_value}
use Rattle.std.specs.Char.{to_ascii_uppercase}
use Rattle.std.proofs.lemmas.Slice.Eq.{bytes_eq-Decides}
use Rattle.std.proofs.lemmas.List.Quantifiers.{position-Some}
use Rattle.std.proofs.lemmas.Option.{get_or_from_slice_get}
use Rattle.std.proofs.lemmas.Bool.{lt-ltb}
use Rattle.std.proofs.lemmas.List.Folds.{list_all-append}
use Rattle.tri_base.proofs.Digits.{short_value}
use Rattle.tri_base.proofs.NameBytes.{name_of-capitals}
use Rattle.tri_base.specs.Numbers.{number_of, size_of, is_short_numeral}
use Rattle.tri_base.specs.Names.{name_of, is_name}
use Rattle.tri_base.specs.declared.leg.Triple.{Triple}
use Rattle.tri_base.specs.declared.point.Point.{Point}
use Rattle.chassis.specs.Points.{refusal_of, place_of, is_input_kind}
use Rattle.script_lines.specs.Lines.{ended}
use Rattle.script_lines.specs.Statements.{numbers_of, triple, hex_digit, hex_byte, hex_bytes}
use Rattle.script_text.specs.declared.moment.ScanLine.{ScanLine}
use Rattle.script_text.specs.MomentValue.{MomentValue}
use Rattle.script_text.specs.Standing.{with_last, with_line, new_moment, all_within}
use Rattle.script_text.specs.IsScript.{is_byte, IsShort, AllShort, IsShortTriple, Writable, IsPlant, AreBlockLines, IsBlock, IsSetting, IsLine, is_download, downloads, AreLines, AreRenames, HaveDownload, IsRequest, AreRequests, IsMoment, AreMoments}

-- ---- what an option gives, where it gives anything

abbrev pub Given : {A : Type 0} → (A → Type 0) → Option A → Type 0
Given P None = Unit {0}
Given P (Some x) = P x

pub given_map : {A B : Type 0} (P : B → Type 0) (f : A → B) (o : Option A) → ((x : A) → o ≡ Some x → P (f x)) → Given P (option_map f o)
given_map P f None h = tt
given_map P f (Some x) h = h x refl

pub given_then : {A B : Type 0} (P : B → Type 0) (f : A → Option B) (o : Option A) → ((x : A) → o ≡ Some x → Given P (f x)) → Given P (option_and_then f o)
given_then P f None h = tt
given_then P f (Some x) h = h x refl

pub given_when : {A : Type 0} (P : A → Type 0) (t : Bool) (o : Option A) → (t ≡ true → Given P o) → Given P (if t then o else None)
given_when P true o h = h refl
given_when P false o h = tt

pub given_at : {A : Type 0} (P : A → Type 0) (o : Option A) (x : A) → Given P o → o ≡ Some x → P x
given_at P o x h e = subst (Given P) e h

-- ---- numbers and names that were read

short_size : (text : List ℕ) (n : ℕ) → size_of text ≡ Some n → n < 10 ^ 18
short_size text n h = by (is_short_numeral text) refl h
  where
    by : (t : Bool) → is_short_numeral text ≡ t → (if t then Some (digits_value 10 text) else None) ≡ Some n → n < 10 ^ 18
    by false e k = absurd (cc)
    by true e k = let same : digits_value 10 text ≡ n = cc in omega (arith, same, (short_value text e).0)

negative : (n : ℕ) → n < 10 ^ 18 → IsShort (neg_ℤ (pos n))
negative zero h = omega arith
negative (suc n) h = omega (arith, h)

pub short_number : (text : List ℕ) (z : ℤ) → number_of text ≡ Some z → IsShort z
short_number [] z h = absurd (cc)
short_number (b ∷ bs) z h = by (b == 45) h
  where
    at : (o : Option ℕ) → ((n : ℕ) → o ≡ Some n → n < 10 ^ 18) → option_map (λ n. pos n) o ≡ Some z → IsShort z
    at None less k = absurd (cc)
    at (Some n) less k = let same : pos n ≡ z = cc in subst IsShort same (less n refl)

    under : (o : Option ℕ) → ((n : ℕ) → o ≡ Some n → n < 10 ^ 18) → option_map (λ n. neg_ℤ (pos n)) o ≡ Some z → IsShort z
    under None less k = absurd (cc)
    under (Some n) less k = let same : neg_ℤ (pos n) ≡ z = cc in subst IsShort same (negative n (less n refl))

    by : (t : Bool) → (if t then option_map (λ n. neg_ℤ (pos n)) (size_of bs) else option_map (λ n. pos n) (size_of (b ∷ bs))) ≡ Some z → IsShort z
    by true k = under (size_of bs) (short_size bs) k
    by false k = at (size_of (b ∷ bs)) (short_size (b ∷ bs)) k

pub read_name : (text name : List ℕ) → name_of text ≡ Some name → name_of name ≡ Some name
read_name text name h = by (is_name text) refl h
  where
    by : (t : Bool) → is_name text ≡ t → (if t then Some (map to_ascii_uppercase text) else None) ≡ Some name → name_of name ≡ Some name
    by false e k = absurd (cc)
    by true e k = let same : map to_ascii_uppercase text ≡ name = cc in subst (λ (n : List ℕ). name_of n ≡ Some n) same (name_of-capitals text e)

pub good_numbers : (words : List (List ℕ)) → Given AllShort (numbers_of words)
good_numbers [] = tt
good_numbers (w ∷ words) = given_then AllShort (λ number. option_map (λ numbers. number ∷ numbers) (numbers_of words)) (number_of w)
    (λ z e. given_map AllShort (λ numbers. z ∷ numbers) (numbers_of words) (λ ns f. (short_number w z e, given_at AllShort (numbers_of words) ns (good_numbers words) f)))

pub good_triple : (words : List (List ℕ)) → Given IsShortTriple (triple words)
good_triple [] = tt
good_triple (v ∷ []) = given_map IsShortTriple (λ v. record { a = v; b = v; c = v }) (number_of v) (λ z e. (short_number v z e, short_number v z e, short_number v z e))
good_triple (a ∷ b ∷ []) = tt
good_triple (a ∷ b ∷ c ∷ []) =
    given_then IsShortTriple (λ a. option_and_then (λ b. option_map (λ c. record { a = a; b = b; c = c }) (number_of c)) (number_of b)) (number_of a) (λ x e.
    given_then IsShortTriple (λ b. option_map (λ c. record { a = x; b = b; c = c }) (number_of c)) (number_of b) (λ y f.
    given_map IsShortTriple (λ c. record { a = x; b = y; c = c }) (number_of c) (λ z g. (short_number a x e, short_number b y f, short_number c z g))))
good_triple (a ∷ b ∷ c ∷ d ∷ words) = tt

-- ---- the bytes of a request

small_digit : (b : ℕ) → Given (λ v. v < 16) (hex_digit b)
small_digit b = by (hex_digit b) refl
  where
    by : (o : Option ℕ) → hex_digit b ≡ o → Given (λ v. v < 16) o
    by None e = tt
    by (Some v) e = (position-Some (λ digit. digit == to_ascii_uppercase b) (codes "0123456789ABCDEF") v 0 e).0

small_byte : (high low : ℕ) → Given (λ v. v < 256) (hex_byte high low)
small_byte high low =
    given_then (λ v. v < 256) (λ high. option_map (λ low. 16 * high + low) (hex_digit low)) (hex_digit high) (λ h e.
    given_map (λ v. v < 256) (λ low. 16 * h + low) (hex_digit low) (λ l f.
    let x : h < 16 = given_at (λ v. v < 16) (hex_digit high) h (small_digit high) e in
    let y : l < 16 = given_at (λ v. v < 16) (hex_digit low) l (small_digit low) f in
    omega (arith, x, y)))

-- as many bytes as pairs of digits
abbrev Paired : List ℕ → List ℕ → Type 0
Paired digits bytes = (length bytes + length bytes ≡ length digits) × (list_all (λ b. nat_lt b 256) bytes ≡ true)

paired : (digits : List ℕ) → Given (Paired digits) (hex_bytes digits)
paired [] = (refl, refl)
paired (h ∷ []) = tt
paired (h ∷ l ∷ digits) =
    given_then (Paired (h ∷ l ∷ digits)) (λ byte. option_map (λ bytes. byte ∷ bytes) (hex_bytes digits)) (hex_byte h l) (λ b e.
    given_map (Paired (h ∷ l ∷ digits)) (λ bytes. b ∷ bytes) (hex_bytes digits) (λ bs f.
    let rest : Paired digits bs = given_at (Paired digits) (hex_bytes digits) bs (paired digits) f in
    let small : b < 256 = given_at (λ v. v < 256) (hex_byte h l) b (small_byte h l) e in
    let less : nat_lt b 256 ≡ true = lt-ltb b 256 small in
    (omega (arith, rest.0), (λ i. less i && rest.1 i))))

pub good_request : (digits : List ℕ) → 2 ≤ length digits → length digits ≤ 520 → Given IsRequest (hex_bytes digits)
good_request digits low high = by (hex_bytes digits) (paired digits)
  where
    by : (o : Option (List ℕ)) → Given (Paired digits) o → Given IsRequest o
    by None h = tt
    by (Some bytes) h = record { some = omega (arith, h.0, low); few = omega (arith, h.0, high); small = h.1 }

-- ---- a plant, a block and a scan's lines, with one more

pub plant_more : (points before : List Point) (p : Point) → IsPlant before points → refusal_of (before ++ points) p ≡ None → name_of p.name ≡ Some p.name → Writable p.kind p → IsPlant before (points ++ p ∷ [])
plant_more [] before p h free name w = (ap (λ ps. refusal_of ps p) (sym (append-nil before)) ∙ free, name, w, tt)
plant_more (q ∷ points) before p h free name w = (h.0, h.1, h.2, plant_more points (before ++ q ∷ []) p h.3 (ap (λ ps. refusal_of ps p) (append_assoc before (q ∷ []) points) ∙ free) name w)

plant_at : (points before : List Point) (place : ℕ) (d : Point) → IsPlant before points → place < length points → name_of (get_or points place d).name ≡ Some (get_or points place d).name
plant_at [] before place d h lt = absurd (omega arith)
plant_at (p ∷ points) before zero d h lt = h.1
plant_at (p ∷ points) before (suc place) d h lt = plant_at points (before ++ p ∷ []) place d h.3 (omega arith)

ended_more : (lines : List (List ℕ)) (line : List ℕ) → flat_map ended lines ++ ended line ≡ flat_map ended (lines ++ line ∷ [])
ended_more [] line = sym (append-nil (ended line))
ended_more (l ∷ lines) line = append_assoc (ended l) (flat_map ended lines) (ended line) ∙ ap (λ t. ended l ++ t) (ended_more lines line)

block_lines_more : (lines : List (List ℕ)) (line : List ℕ) → AreBlockLines lines → AreBlockLines (line ∷ []) → AreBlockLines (lines ++ line ∷ [])
block_lines_more [] line h k = k
block_lines_more (l ∷ lines) line h k = (h.0, h.1, h.2, block_lines_more lines line h.3 k)

pub block_more : (text line : List ℕ) → IsBlock text → AreBlockLines (line ∷ []) → list_all is_byte line ≡ true → IsBlock (text ++ ended line)
block_more text line (lines, is, h, bytes) k small = (
  lines ++ line ∷ [],
  ap (λ t. t ++ ended line) is ∙ ended_more lines line,
  block_lines_more lines line h k,
  list_all-append is_byte text (ended line) ∙ (λ i. bytes i && (list_all-append is_byte line (10 ∷ []) ∙ (λ j. small j && true)) i),
)

lines_more : (points : List Point) (lines : List ScanLine) (d : Bool) (line : ScanLine) → AreLines points d lines → IsLine points (downloads d lines) line → AreLines points d (lines ++ line ∷ [])
lines_more points [] d line h k = (k, tt)
lines_more points (l ∷ lines) d line h k = (h.0, lines_more points lines (d || is_download l) line h.1 k)

pub downloads_more : (lines : List ScanLine) (d : Bool) (line : ScanLine) → downloads d (lines ++ line ∷ []) ≡ (downloads d lines || is_download line)
downloads_more [] d line = refl
downloads_more (l ∷ lines) d line = downloads_more lines (d || is_download l) line

have_still : (renames : List (List ℕ × List ℕ)) (d e : Bool) → HaveDownload renames d → HaveDownload renames (d || e)
have_still [] d e h = tt
have_still (r ∷ renames) d e h = ap (λ t. t || e) h

have : (renames : List (List ℕ × List ℕ)) (d : Bool) → d ≡ true → HaveDownload renames d
have [] d h = tt
have (r ∷ renames) d h = h

renames_more : (renames : List (List ℕ × List ℕ)) (r : List ℕ × List ℕ) → AreRenames renames → name_of r.0 ≡ Some r.0 → name_of r.1 ≡ Some r.1 → AreRenames (renames ++ r ∷ [])
renames_more [] r h a b = (a, b, tt)
renames_more (q ∷ renames) r h a b = (h.0, h.1, renames_more renames r h.2 a b)

requests_more : (asks : List (List ℕ)) (ask : List ℕ) → AreRequests asks → IsRequest ask → AreRequests (asks ++ ask ∷ [])
requests_more [] ask h k = (k, tt)
requests_more (a ∷ asks) ask h k = (h.0, requests_more asks ask h.1 k)

pub moment_line : (points : List Point) (m : MomentValue) (line : ScanLine) → IsMoment points m → IsLine points (downloads false m.lines) line → IsMoment points (with_line line m)
moment_line points m line h k = record {
  lines = lines_more points m.lines false line h.lines k;
  renames = h.renames;
  prepared = subst (HaveDownload m.renames) (sym (downloads_more m.lines false line)) (have_still m.renames (downloads false m.lines) (is_download line) h.prepared);
  asks = h.asks;
}

pub moment_rename : (points : List Point) (m : MomentValue) (r : List ℕ × List ℕ) → IsMoment points m → downloads false m.lines ≡ true → name_of r.0 ≡ Some r.0 → name_of r.1 ≡ Some r.1 → IsMoment points (record m { renames = m.renames ++ r ∷ [] })
moment_rename points m r h there a b = record { lines = h.lines; renames = renames_more m.renames r h.renames a b; prepared = have (m.renames ++ r ∷ []) (downloads false m.lines) there; asks = h.asks }

pub moment_ask : (points : List Point) (m : MomentValue) (ask : List ℕ) → IsMoment points m → IsRequest ask → IsMoment points (record m { asks = m.asks ++ ask ∷ [] })
moment_ask points m ask h k = record { lines = h.lines; renames = h.renames; prepared = h.prepared; asks = requests_more m.asks ask h.asks k }

-- ---- the last of some moments

-- something holds of the last one
abbrev pub LastDoes : (MomentValue → Type 0) → List MomentValue → Type 0
LastDoes P [] = Unit {0}
LastDoes P (m ∷ []) = P m
LastDoes P (m ∷ n ∷ moments) = LastDoes P (n ∷ moments)

-- its scan, or the one before all
abbrev pub LastIs : ℕ → List MomentValue → ℕ → Type 0
LastIs a [] last = a ≡ last
LastIs a (m ∷ moments) last = LastIs m.scan moments last

pub moment_more : (points : List Point) (a scans last k : ℕ) (moments : List MomentValue) → AreMoments points a scans moments → LastIs a moments last → last + 1 ≤ k → k ≤ scans → AreMoments points a scans (moments ++ new_moment k ∷ [])
moment_more points a scans last k [] h at low high = (omega (arith, at), high, record { lines = tt; renames = tt; prepared = tt; asks = tt }, tt)
moment_more points a scans last k (m ∷ moments) h at low high = (h.0, h.1, h.2, moment_more points m.scan scans last k moments h.3 at low high)

pub last_more : (a k : ℕ) (moments : List MomentValue) → LastIs a (moments ++ new_moment k ∷ []) k
last_more a k [] = refl
last_more a k (m ∷ moments) = last_more m.scan k moments

pub does_more : (P : MomentValue → Type 0) (k : ℕ) (moments : List MomentValue) → P (new_moment k) → LastDoes P (moments ++ new_moment k ∷ [])
does_more P k [] h = h
does_more P k (m ∷ []) h = h
does_more P k (m ∷ n ∷ moments) h = does_more P k (n ∷ moments) h

pub changed : (points : List Point) (a scans : ℕ) (P : MomentValue → Type 0) (change : MomentValue → MomentValue) (moments : List MomentValue) → AreMoments points a scans moments → LastDoes P moments
    → ((m : MomentValue) → (change m).scan ≡ m.scan) → ((m : MomentValue) → IsMoment points m → P m → IsMoment points (change m)) → AreMoments points a scans (with_last change moments)
changed points a scans P change [] h does same keeps = tt
changed points a scans P change (m ∷ []) h does same keeps = (omega (arith, h.0, same m), omega (arith, h.1, same m), keeps m h.2 does, tt)
changed points a scans P change (m ∷ n ∷ moments) h does same keeps = (h.0, h.1, h.2, changed points m.scan scans P change (n ∷ moments) h.3 does same keeps)

pub does : (P Q : MomentValue → Type 0) (change : MomentValue → MomentValue) (moments : List MomentValue) → LastDoes P moments → ((m : MomentValue) → P m → Q (change m)) → LastDoes Q (with_last change moments)
does P Q change [] h k = tt
does P Q change (m ∷ []) h k = k m h
does P Q change (m ∷ n ∷ []) h k = k n h
does P Q change (m ∷ n ∷ o ∷ moments) h k = does P Q change (n ∷ o ∷ moments) h k

pub last_changed : (a last : ℕ) (change : MomentValue → MomentValue) (moments : List MomentValue) → LastIs a moments last → ((m : MomentValue) → (change m).scan ≡ m.scan) → LastIs a (with_last change moments) last
last_changed a last change [] h same = h
last_changed a last change (m ∷ []) h same = same m ∙ h
last_changed a last change (m ∷ n ∷ moments) h same = last_changed m.scan last change (n ∷ moments) h same

-- ---- a setting that was taken

pub setting_is : (points : List Point) (name : List ℕ) (place : ℕ) (p : Point) (reads : Triple ℤ) → IsPlant [] points → place_of points name ≡ Some place → slice_get points place ≡ Some p → is_input_kind p.kind ≡ true → all_within p reads ≡ true → IsShortTriple reads
    → IsSetting points (record { point = place; reads = reads })
setting_is points name place p reads plant found there input range short =
    let at = position-Some (λ (q : Point). bytes_eq name q.name) points place p found in
    let same : get_or points place p ≡ p = get_or_from_slice_get points place p p there in
    let named : name ≡ p.name = (bytes_eq-Decides name p.name).0 (ap (λ (q : Point). bytes_eq name q.name) (sym same) ∙ at.1) in
    record {
      point = p;
      there = there;
      named = subst (λ (q : Point). name_of q.name ≡ Some q.name) same (plant_at points [] place p plant at.0);
      place = ap (place_of points) (sym named) ∙ found;
      input = input;
      within = range;
      short = short;
    }
