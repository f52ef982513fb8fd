-- Nobody has to believe what stands here: it serves the implementation of a trait alone.
-- The meaning of programs of Structured Text keeps the laws of engines.
use Rattle.std.proofs.Common.{◌≡◌, ◌≢◌, ℕ, suc, ◌<◌, ◌≤◌, ℤ, pos, Bool, true, false, not, ◌&&◌, ◌||◌, if◌then◌else◌, List, [], ◌∷◌, ◌++◌, length, length-append, map, Some, None, Ok, arith, refl, sym, ap, ◌∙◌, subst, true≢false}
use Rattle.std.specs.List.{All, AllPairs, AllByRecursion, AllZip}
use Rattle.std.specs.Str.{bytes_eq}
use Rattle.std.proofs.lemmas.Option.{none-some}
use Rattle.std.proofs.lemmas.Slice.Eq.{bytes_eq-Decides}
use Rattle.std.proofs.lemmas.List.Elements.{All-nil, All-cons, All-head, All-tail, All-filter, recursion_from_All}
use Rattle.std.proofs.lemmas.List.Kept.{AllPairs-cons}
use Rattle.tri_base.specs.Limits.{word_limit}
use Rattle.tri_base.specs.declared.point.Point.{Point}
use Rattle.chassis.specs.Points.{is_input_kind, outputs_of}
use Rattle.chassis.specs.Ranges.{IsWithin, HoldsZero}
use Rattle.st_tree.specs.declared.program.Tree.{Tree}
use Rattle.st_tree.specs.Lexes.{bytes_of, AreItems, Part, tokens_from}
use Rattle.st_tree.specs.Programs.{Spells}
use Rattle.st_tree.specs.Tags.{tags_of}
use Rattle.tag_layout.specs.Layout.{total_words, first_words, first_environment}
use Rattle.tag_layout.proofs.Standing.{counts}
use Rattle.tag_layout.proofs.FirstValues.{first_laid}
use Rattle.download_change.proofs.Parts.{carried_count}
use Rattle.engine_face.specs.Laws.{IsMeaning, IsScan, TellStores}
use Rattle.engine_face.specs.Counting.{zeros_at}
use Rattle.st_front.specs.FrontEnd.{IsProgram}
use Rattle.st_build.specs.Building.{program_of, refusal_in, tags_in, tags_at}
use Rattle.st_build.specs.Running.{is_named, are_apart, running, scanned_by, stored_by}
use Rattle.st_build.specs.StructuredText.{structured_text}
use Rattle.st_build.specs.Inner.Judged.{built, refused_of_text}
use Rattle.st_build.specs.Inner.Scans.{is_scan}

-- ---- points of different names

unlike : (n m : List ℕ) → bytes_eq n m ≡ false → n ≢ m
unlike n m e = λ same. true≢false (sym ((bytes_eq-Decides n m).1 same) ∙ e)

is_unlike : (n m : List ℕ) → n ≢ m → bytes_eq n m ≡ false
is_unlike n m apart = by (bytes_eq n m) refl
  where
    by : (b : Bool) → bytes_eq n m ≡ b → b ≡ false
    by true e = absurd (apart ((bytes_eq-Decides n m).0 e))
    by false e = refl

neither : (a b : Bool) → (a || b) ≡ false → (a ≡ false) × (b ≡ false)
neither true b e = absurd (true≢false e)
neither false b e = (refl, e)

not_named : (n : List ℕ) (ps : List Point) → is_named n ps ≡ false → All (λ (p : Point). n ≢ p.name) ps
unfolding is_named
not_named n [] e = All-nil (λ (p : Point). n ≢ p.name)
not_named n (p ∷ ps) e =
    let both = neither (bytes_eq n p.name) (is_named n ps) e in
    All-cons (λ (p : Point). n ≢ p.name) p ps (unlike n p.name both.0) (not_named n ps both.1)

is_not_named : (n : List ℕ) (ps : List Point) → All (λ (p : Point). n ≢ p.name) ps → is_named n ps ≡ false
unfolding is_named
is_not_named n [] h = refl
is_not_named n (p ∷ ps) h =
    ap (λ b. b || is_named n ps) (is_unlike n p.name (All-head (λ (p : Point). n ≢ p.name) p ps h))
    ∙ is_not_named n ps (All-tail (λ (p : Point). n ≢ p.name) p ps h)

both_are : (a b : Bool) → (not a && b) ≡ true → (a ≡ false) × (b ≡ true)
both_are true b e = absurd (true≢false (sym e))
both_are false b e = (refl, e)

abbrev Unlike : Point → Point → Type 0
Unlike p q = p.name ≢ q.name

apart_pairs : (ps : List Point) → are_apart ps ≡ true → AllPairs Unlike ps
unfolding are_apart
apart_pairs [] e = λ i j d before within. absurd (omega (arith, within))
apart_pairs (p ∷ ps) e =
    let both = both_are (is_named p.name ps) (are_apart ps) e in
    AllPairs-cons Unlike p ps (not_named p.name ps both.0) (apart_pairs ps both.1)

pub pairs_apart : (ps : List Point) → AllPairs (λ (p q : Point). p.name ≢ q.name) ps → are_apart ps ≡ true
unfolding are_apart
pairs_apart [] h = refl
pairs_apart (p ∷ ps) h =
    ap (λ b. not b && are_apart ps) (is_not_named p.name ps (λ k d within. h 0 (suc k) d (omega arith) (omega (arith, within))))
    ∙ pairs_apart ps (λ i j d before within. h (suc i) (suc j) d (omega (arith, before)) (omega (arith, within)))

-- ---- texts

-- a text of no bytes has no tokens, and no program has none
no_bytes : (bs cs : List ℕ) → 1 ≤ length bs → bs ++ cs ≡ [] → ⊥
no_bytes bs cs some e = omega (arith, some, sym (length-append bs cs) ∙ ap length e)

no_tokens : (parts : List Part) → bytes_of parts ≡ [] → AreItems parts [] → tokens_from 0 parts ≡ []
no_tokens [] e are = refl
no_tokens (part ∷ parts) e are = absurd (no_bytes part.bytes (bytes_of parts) are.0 e)

no_tree : (tree : Tree) → Spells tree [] → ⊥
unfolding Spells
no_tree tree h = h

some_bytes : (points : List Point) (text : List ℕ) (tree : Tree) → IsProgram points text tree → 0 < length text
some_bytes points [] tree h =
    let l = h.has.has.lexes in
    let none = l.are_tokens ∙ no_tokens l.parts (sym l.whole) l.items in
    absurd (no_tree tree (subst (Spells tree) none h.has.spells))
some_bytes points (b ∷ bs) tree h = omega arith

-- the tags of a text that is a program
pub own_tags : (points : List Point) (text : List ℕ) (tree : Tree) → program_of points text ≡ Ok tree → tags_at points text ≡ tags_of tree
own_tags points text tree e = ap tags_in e

few : (points : List Point) (text : List ℕ) → refusal_in (program_of points text) ≡ None → total_words (tags_at points text) ≤ word_limit
few points text e =
    let found = built points text e in
    subst (λ tags. total_words tags ≤ word_limit) (sym (own_tags points text found.0 found.1)) found.2.is.few

-- ---- scans where nothing runs

zeros_fit : (ps : List Point) → AllByRecursion HoldsZero ps → AllZip IsWithin ps (map (λ _. pos 0) ps)
zeros_fit [] h = tt
zeros_fit (p ∷ ps) h = (h.0, zeros_fit ps h.1)

outputs_fit : (points : List Point) → All HoldsZero points → AllZip IsWithin (outputs_of points) (zeros_at points)
outputs_fit points h =
    let outputs : All HoldsZero (outputs_of points) =
    All-filter (λ (p : Point). not (is_input_kind p.kind)) HoldsZero points h in
    zeros_fit (outputs_of points) (recursion_from_All HoldsZero (outputs_of points) outputs)

none_told : (words : List ℤ) → TellStores words words []
none_told words = record {
  within = All-nil (λ (pair : ℕ × ℤ). pair.0 < length words);
  once = λ i j d before within. absurd (omega (arith, within));
  number = λ address v e. absurd (none-some v e);
  others = λ address e. refl;
}

nothing_runs : (points : List Point) (words inputs : List ℤ) (dt : ℤ) → All HoldsZero points → IsScan points words (scanned_by points None words inputs dt) (stored_by points None words inputs dt)
nothing_runs points words inputs dt h = record { count = refl; outputs = outputs_fit points h; stores = none_told words }

-- ---- all scans

scan_by : (points : List Point) (text : List ℕ) (words inputs : List ℤ) (dt : ℤ) → All HoldsZero points → (tree : Tree) → program_of points text ≡ Ok tree → IsProgram points text tree
    → length words ≡ total_words (tags_at points text)
    → IsScan points words (scanned_by points (running points (program_of points text)) words inputs dt) (stored_by points (running points (program_of points text)) words inputs dt)
scan_by points text words inputs dt h tree e is count =
    subst (λ a. IsScan points words (scanned_by points (running points a) words inputs dt) (stored_by points (running points a) words inputs dt)) (sym e) (by (are_apart points) refl)
  where
    by : (b : Bool) → are_apart points ≡ b
        → IsScan points words (scanned_by points (if b then Some tree else None) words inputs dt) (stored_by points (if b then Some tree else None) words inputs dt)
    by true f = is_scan points text tree words inputs dt h (apart_pairs points f) is (count ∙ ap total_words (own_tags points text tree e))
    by false f = nothing_runs points words inputs dt h

pub lawful : (points : List Point) → All HoldsZero points → IsMeaning points (structured_text points)
lawful points h = record {
  some_text = λ text e. let found = built points text e in some_bytes points text found.0 found.2.is;
  short_text = λ text e. (built points text e).2.is.has.has.short;
  few_words = λ text e. few points text e;
  of_text = refused_of_text points;
  first_count = λ text e. counts (tags_at points text) (first_environment (tags_at points text)) (first_words (tags_at points text)) (first_laid (tags_at points text));
  carried_count = λ old d words e f g k.
      let new = tags_at points d.text in
      carried_count (tags_at points old) new d.renames (first_words new) words (counts new (first_environment new) (first_words new) (first_laid new)) k;
  scan = λ text words inputs dt e f g k l. let found = built points text e in scan_by points text words inputs dt h found.0 found.1 found.2.is f;
}
