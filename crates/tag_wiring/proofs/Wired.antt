-- What the kept addresses give.
use Rattle.std.proofs.Common.{◌≡◌, ◌≢◌, ℕ, ◌<◌, ℤ, pos, Bool, true, false, if◌then◌else◌, List, [], ◌∷◌, map, Option, Some, None, refl, sym, ap, ◌∙◌, subst}
use Rattle.std.specs.Prelude.{fold, zip, slice_index_or, slice_set, IfSome}
use Rattle.std.specs.Int.{int_max, int_min}
use Rattle.std.specs.List.{All, AllPairs}
use Rattle.std.proofs.lemmas.List.Elements.{All-map, All-same}
use Rattle.tri_base.specs.declared.point.Point.{Point}
use Rattle.function_blocks.specs.Values.{clamped}
use Rattle.st_tree.specs.declared.tag.Tag.{Tag}
use Rattle.tag_layout.specs.Layout.{total_words, AreApart}
use Rattle.st_core.specs.Memory.{total_of}
use Rattle.st_core.proofs.Laid.{address_within}
use Rattle.st_meaning.specs.Types.{type_of, word_type}
use Rattle.st_meaning.specs.Programs.{is_point_tag}
use Rattle.st_sound.specs.Shapes.{shape_in}
use Rattle.tag_wiring.specs.declared.outputs.OutputWire.{OutputWire}
use Rattle.tag_wiring.specs.PointWords.{tag_address, tag_word, input_set, input_tags, output_in}
use Rattle.tag_wiring.specs.Inner.Steps.{HaveWords, address_for, word_set, all_set, told_at}
use Rattle.tag_wiring.specs.Inner.Wires.{wire_of, value_in, value_at}
use Rattle.tag_wiring.proofs.Declaring.{total_same}
use Rattle.tag_wiring.proofs.TellingStores.{told_within, told_apart, pairs_mapped, plus_none}

-- ---- where the addresses lie

-- the address of each declared input tag
abbrev addresses_of : List Tag → List Tag → List ℕ
addresses_of tags ts = map (λ (t : Tag). tag_address tags t.name) ts

pub told_in : (points : List Point) (tags : List Tag) (told : List ℕ) (n : ℕ) → told ≡ addresses_of tags (input_tags points tags) → HaveWords tags → n ≡ total_words tags
    → All (λ a. a < n) told
told_in points tags told n is have count =
    All-same (λ a. a < n) told (addresses_of tags (input_tags points tags)) is
    (All-map (λ a. a < n) (λ (t : Tag). tag_address tags t.name) (input_tags points tags)
    (subst (λ k. All (λ (t : Tag). tag_address tags t.name < k) (input_tags points tags)) (total_same tags ∙ sym count) (told_within points tags have)))

pub told_once : (points : List Point) (tags : List Tag) (told : List ℕ) → told ≡ addresses_of tags (input_tags points tags) → HaveWords tags → AreApart tags
    → AllPairs (λ a b. a ≢ b) told
told_once points tags told is have apart =
    subst (λ xs. AllPairs (λ (a b : ℕ). a ≢ b) xs) (sym is)
    (pairs_mapped (λ (a b : ℕ). a ≢ b) (λ (t : Tag). tag_address tags t.name) (input_tags points tags) (told_apart points tags have apart))

pub one_in : (tags : List Tag) (n : List ℕ) (size : ℕ) → HaveWords tags → size ≡ total_words tags → IfSome (address_for tags n) (λ at. at < size)
one_in tags n size have count = by (is_point_tag tags n) refl
  where
    by : (b : Bool) → is_point_tag tags n ≡ b → IfSome (if b then Some (tag_address tags n) else None) (λ at. at < size)
    by true e =
        subst (λ k. tag_address tags n < k) (total_same tags ∙ sym count)
        (plus_none (tag_address tags n) (total_of (shape_in tags)) (address_within n 0 (shape_in tags) (have n e)))
    by false e = tt

pub addresses_in : (tags : List Tag) (ps : List Point) (addresses : List (Option ℕ)) (size : ℕ) → addresses ≡ map (λ (p : Point). address_for tags p.name) ps → HaveWords tags
    → size ≡ total_words tags → All (λ (a : Option ℕ). IfSome a (λ at. at < size)) addresses
addresses_in tags ps addresses size is have count =
    All-same (λ (a : Option ℕ). IfSome a (λ at. at < size)) addresses (map (λ (p : Point). address_for tags p.name) ps) is
    (All-map (λ (a : Option ℕ). IfSome a (λ at. at < size)) (λ (p : Point). address_for tags p.name) ps
    (λ k d w. one_in tags (slice_index_or ps k d).name size have count))

pub wires_in : (tags : List Tag) (ps : List Point) (wires : List OutputWire) (size : ℕ) → wires ≡ map (wire_of tags) ps → HaveWords tags → size ≡ total_words tags
    → All (λ (w : OutputWire). IfSome w.address (λ at. at < size)) wires
wires_in tags ps wires size is have count =
    All-same (λ (w : OutputWire). IfSome w.address (λ at. at < size)) wires (map (wire_of tags) ps) is
    (All-map (λ (w : OutputWire). IfSome w.address (λ at. at < size)) (wire_of tags) ps
    (λ k d w. one_in tags (slice_index_or ps k d).name size have count))

-- ---- what is set, told and taken

set_one : (tags : List Tag) (words : List ℤ) (p : Point) (v : ℤ) → word_set words (address_for tags p.name) v ≡ input_set tags words (p, v)
set_one tags words p v = by (is_point_tag tags p.name)
  where
    by : (b : Bool) → word_set words (if b then Some (tag_address tags p.name) else None) v ≡ (if b then slice_set words (tag_address tags p.name) v else words)
    by true = refl
    by false = refl

set_each : (tags : List Tag) (ps : List Point) (inputs words : List ℤ) → all_set (map (λ (p : Point). address_for tags p.name) ps) inputs words ≡ fold (input_set tags) words (zip ps inputs)
set_each tags [] inputs words = refl
set_each tags (p ∷ ps) [] words = refl
set_each tags (p ∷ ps) (v ∷ vs) words =
    ap (all_set (map (λ (p : Point). address_for tags p.name) ps) vs) (set_one tags words p v) ∙ set_each tags ps vs (input_set tags words (p, v))

pub set_is : (tags : List Tag) (ps : List Point) (addresses : List (Option ℕ)) (inputs words : List ℤ) → addresses ≡ map (λ (p : Point). address_for tags p.name) ps
    → all_set addresses inputs words ≡ fold (input_set tags) words (zip ps inputs)
set_is tags ps addresses inputs words is = ap (λ xs. all_set xs inputs words) is ∙ set_each tags ps inputs words

stores_each : (tags ts : List Tag) (words : List ℤ) → map (told_at words) (addresses_of tags ts) ≡ map (λ (t : Tag). (tag_address tags t.name, tag_word tags words t.name)) ts
stores_each tags [] words = refl
stores_each tags (t ∷ ts) words = ap (λ l. (tag_address tags t.name, tag_word tags words t.name) ∷ l) (stores_each tags ts words)

pub stores_are : (tags ts : List Tag) (told : List ℕ) (read words : List ℤ) → told ≡ addresses_of tags ts → read ≡ words
    → map (told_at read) told ≡ map (λ (t : Tag). (tag_address tags t.name, tag_word tags words t.name)) ts
stores_are tags ts told read words is same = (λ i. map (told_at (same i)) (is i)) ∙ stores_each tags ts words

take_one : (tags : List Tag) (words : List ℤ) (p : Point) → value_in words (wire_of tags p) ≡ output_in tags words p
take_one tags words p = by (is_point_tag tags p.name)
  where
    by : (b : Bool) → value_at words (word_type (type_of tags p.name)) p.low p.high (if b then Some (tag_address tags p.name) else None)
        ≡ (if b then int_max p.low (int_min (clamped (word_type (type_of tags p.name)) (tag_word tags words p.name)) p.high) else pos 0)
    by true = refl
    by false = refl

take_each : (tags : List Tag) (words : List ℤ) (ps : List Point) → map (value_in words) (map (wire_of tags) ps) ≡ map (output_in tags words) ps
take_each tags words [] = refl
take_each tags words (p ∷ ps) = λ i. take_one tags words p i ∷ take_each tags words ps i

pub taken_are : (tags : List Tag) (ps : List Point) (wires : List OutputWire) (words : List ℤ) → wires ≡ map (wire_of tags) ps → map (value_in words) wires ≡ map (output_in tags words) ps
taken_are tags ps wires words is = ap (map (value_in words)) is ∙ take_each tags words ps
