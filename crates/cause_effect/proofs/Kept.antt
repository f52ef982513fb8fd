-- What lines come to is, line by line, what holds of every matrix.
use Rattle.std.proofs.Common.{◌≡◌, ◌≢◌, ℕ, ◌<◌, Bool, true, false, ◌&&◌, nat_le, List, [], ◌∷◌, ◌++◌, length, map, fold, get_or, Contains, Option, Some, None, is_some, unwrap_or, option_map, Result, Ok, Err, refl, sym, ap, ◌∙◌, subst, arith, true≢false, append_assoc, append-nil, length-append, if◌then◌else◌}
use Rattle.std.specs.Option.{option_and_then}
use Rattle.std.specs.List.{All, AllPairs}
use Rattle.std.specs.Char.{to_ascii_uppercase}
use Rattle.std.specs.Str.{bytes_eq}
use Rattle.std.proofs.lemmas.Bool.{leb-false}
use Rattle.std.proofs.lemmas.List.{map-append}
use Rattle.std.proofs.lemmas.List.Elements.{All-push, All-nil, Contains-append_left}
use Rattle.std.proofs.lemmas.List.Folds.{list_any_at}
use Rattle.std.proofs.lemmas.List.Quantifiers.{all_pairs_push}
use Rattle.std.proofs.lemmas.Slice.Eq.{bytes_eq-Decides}
use Rattle.indexmap.proofs.CallerLemmas.{Contains-list_any}
use Rattle.script_lines.specs.Statements.{begins_comment}
use Rattle.script_lines.specs.Words.{words_of}
use Rattle.st_tree.specs.declared.token.Fixed.{Fixed}
use Rattle.st_tree.specs.Words.{reserved_word}
use Rattle.tri_base.proofs.NameBytes.{name_of-capitals}
use Rattle.tri_base.specs.Names.{name_of, is_name}
use Rattle.cause_effect.specs.declared.fault.MatrixCause.{MatrixCause}
use Rattle.cause_effect.specs.declared.fault.MatrixCause.TheVariants.{Twice, Unknown}
use Rattle.cause_effect.specs.declared.keyword.Keyword.{Keyword}
use Rattle.cause_effect.specs.declared.keyword.Keyword.TheVariants.{Matrix, Cause, Effect, Reset, Link as LinkWord, End}
use Rattle.cause_effect.specs.declared.matrix.Level.{Level}
use Rattle.cause_effect.specs.declared.matrix.Mode.{Mode}
use Rattle.cause_effect.specs.declared.matrix.Link.{Link}
use Rattle.cause_effect.specs.declared.statement.Statement.{Statement}
use Rattle.cause_effect.specs.declared.statement.Statement.TheVariants.{Heading, Cause as CauseLine, Effect as EffectLine, Reset as ResetLine, Link as LinkLine, End as EndLine}
use Rattle.cause_effect.specs.Matrices.{MatrixValue, IsMatrix, IsFree, cause_names, effect_names, declared_names, row_limit}
use Rattle.cause_effect.specs.Statements.{keyword_of, may_follow, statement_of, heading, cause_line, effect_line, reset_line, link_line, end_line, level_word, mode_word}
use Rattle.cause_effect.specs.Standing.{Standing, beginning, after, spoken, worded, shaped, behind, stated, unless, refusal_of, linked, with_cause, with_effect, with_reset, with_link, no_matrix, is_among, is_link_among, is_reserved}
use Rattle.cause_effect.specs.Spells.{goes_on, Spells}
use Rattle.cause_effect.proofs.Tables.{Allowed, allowed}

some_is : {A : Type 0} (a b : A) → Some a ≡ Some b → a ≡ b
some_is a b h = ap (λ o. unwrap_or o a) h

-- ---- what a line says by itself

-- a name that was read is one in capitals
read_name : (text name : List ℕ) → name_of text ≡ Some name → name_of name ≡ Some name
read_name text name h = by (is_name text) refl h
  where
    by : (t : Bool) → is_name text ≡ t → (if t then Some (map to_ascii_uppercase text) else None) ≡ Some name → name_of name ≡ Some name
    by true e k = subst (λ (n : List ℕ). name_of n ≡ Some n) (some_is (map to_ascii_uppercase text) name k) (name_of-capitals text e)
    by false e k = absurd (cc)

-- a line says what its keyword lets it, of names in capitals
abbrev Says : Keyword → Statement → Type 0
Says Matrix Heading = Unit {0}
Says Cause (CauseLine name level) = name_of name ≡ Some name
Says Effect (EffectLine name mode) = name_of name ≡ Some name
Says Reset (ResetLine name) = name_of name ≡ Some name
Says LinkWord (LinkLine link) = Unit {0}
Says End EndLine = Unit {0}
Says keyword statement = ⊥

says_heading : (words : List (List ℕ)) (st : Statement) → heading words ≡ Some st → Says Matrix st
says_heading [] st h = absurd (cc)
says_heading (v ∷ []) st h = by (bytes_eq v (49 ∷ [])) h
  where
    by : (t : Bool) → (if t then Some Heading else None) ≡ Some st → Says Matrix st
    by true k = subst (Says Matrix) (some_is Heading st k) tt
    by false k = absurd (cc)
says_heading (v ∷ w ∷ words) st h = absurd (cc)

says_cause : (words : List (List ℕ)) (st : Statement) → cause_line words ≡ Some st → Says Cause st
says_cause [] st h = absurd (cc)
says_cause (n ∷ []) st h = absurd (cc)
says_cause (n ∷ l ∷ []) st h = by (name_of n) (level_word l) (read_name n) h
  where
    by : (o : Option (List ℕ)) (p : Option Level) → ((name : List ℕ) → o ≡ Some name → name_of name ≡ Some name)
        → option_and_then (λ name. option_map (λ level. CauseLine name level) p) o ≡ Some st → Says Cause st
    by None p named k = absurd (cc)
    by (Some name) None named k = absurd (cc)
    by (Some name) (Some level) named k = subst (Says Cause) (some_is (CauseLine name level) st k) (named name refl)
says_cause (n ∷ l ∷ w ∷ words) st h = absurd (cc)

says_effect : (words : List (List ℕ)) (st : Statement) → effect_line words ≡ Some st → Says Effect st
says_effect [] st h = absurd (cc)
says_effect (n ∷ []) st h = absurd (cc)
says_effect (n ∷ l ∷ []) st h = by (name_of n) (mode_word l) (read_name n) h
  where
    by : (o : Option (List ℕ)) (p : Option Mode) → ((name : List ℕ) → o ≡ Some name → name_of name ≡ Some name)
        → option_and_then (λ name. option_map (λ mode. EffectLine name mode) p) o ≡ Some st → Says Effect st
    by None p named k = absurd (cc)
    by (Some name) None named k = absurd (cc)
    by (Some name) (Some mode) named k = subst (Says Effect) (some_is (EffectLine name mode) st k) (named name refl)
says_effect (n ∷ l ∷ w ∷ words) st h = absurd (cc)

says_reset : (words : List (List ℕ)) (st : Statement) → reset_line words ≡ Some st → Says Reset st
says_reset [] st h = absurd (cc)
says_reset (n ∷ []) st h = by (name_of n) (read_name n) h
  where
    by : (o : Option (List ℕ)) → ((name : List ℕ) → o ≡ Some name → name_of name ≡ Some name)
        → option_map (λ name. ResetLine name) o ≡ Some st → Says Reset st
    by None named k = absurd (cc)
    by (Some name) named k = subst (Says Reset) (some_is (ResetLine name) st k) (named name refl)
says_reset (n ∷ w ∷ words) st h = absurd (cc)

says_link : (words : List (List ℕ)) (st : Statement) → link_line words ≡ Some st → Says LinkWord st
says_link [] st h = absurd (cc)
says_link (n ∷ []) st h = absurd (cc)
says_link (n ∷ l ∷ []) st h = by (name_of n) (name_of l) h
  where
    by : (o p : Option (List ℕ))
        → option_and_then (λ cause. option_map (λ effect. LinkLine (record { cause = cause; effect = effect })) p) o ≡ Some st → Says LinkWord st
    by None p k = absurd (cc)
    by (Some cause) None k = absurd (cc)
    by (Some cause) (Some effect) k = subst (Says LinkWord) (some_is (LinkLine (record { cause = cause; effect = effect })) st k) tt
says_link (n ∷ l ∷ w ∷ words) st h = absurd (cc)

says_end : (words : List (List ℕ)) (st : Statement) → end_line words ≡ Some st → Says End st
says_end [] st h = subst (Says End) (some_is EndLine st h) tt
says_end (w ∷ words) st h = absurd (cc)

says : (keyword : Keyword) (words : List (List ℕ)) (st : Statement) → statement_of keyword words ≡ Some st → Says keyword st
says Matrix words st h = says_heading words st h
says Cause words st h = says_cause words st h
says Effect words st h = says_effect words st h
says Reset words st h = says_reset words st h
says LinkWord words st h = says_link words st h
says End words st h = says_end words st h

-- ---- a name more

differs : (names : List (List ℕ)) (name : List ℕ) → is_among names name ≡ false → (k : ℕ) (d : List ℕ) → k < length names → get_or names k d ≢ name
differs names name h k d within e =
    true≢false (sym (list_any_at (bytes_eq name) names k d within ((bytes_eq-Decides name (get_or names k d)).1 (sym e))) ∙ h)

unreserved : (name : List ℕ) → is_reserved name ≡ false → reserved_word name ≡ None
unreserved name h = by (reserved_word name) h
  where
    by : (o : Option Fixed) → is_some o ≡ false → o ≡ None
    by None e = refl
    by (Some w) e = absurd (true≢false e)

abbrev Apart : MatrixValue → Type 0
Apart m = AllPairs (λ (a b : List ℕ). a ≢ b) (declared_names m)

apart_more : (m n : MatrixValue) (name : List ℕ) (full : Bool) → declared_names n ≡ declared_names m ++ name ∷ [] → Apart m → Allowed m name full → Apart n
apart_more m n name full e h ok =
    subst (λ (names : List (List ℕ)). AllPairs (λ (a b : List ℕ). a ≢ b) names) (sym e)
    (all_pairs_push (λ (a b : List ℕ). a ≢ b) (declared_names m) name h (differs (declared_names m) name ok.new))

free_more : (m n : MatrixValue) (name : List ℕ) (full : Bool) → declared_names n ≡ declared_names m ++ name ∷ [] → All IsFree (declared_names m) → Allowed m name full → name_of name ≡ Some name → All IsFree (declared_names n)
free_more m n name full e h ok named =
    subst (All IsFree) (sym e) (All-push IsFree (declared_names m) name h (named, unreserved name ok.free))

abbrev key : {X : Type 0} → List ℕ × X → List ℕ
key e = e.0

abbrev IsKnown : MatrixValue → Link → Type 0
IsKnown m l = Contains (cause_names m) l.cause × Contains (effect_names m) l.effect

-- before there are effects and a reset
first_names : (causes : List (List ℕ × Level)) (links : List Link) → declared_names (record { causes = causes; effects = []; reset = None; links = links }) ≡ map key causes
first_names causes links = append-nil (map key causes ++ []) ∙ append-nil (map key causes)

cause_more : (causes : List (List ℕ × Level)) (links : List Link) (name : List ℕ) (level : Level)
    → IsMatrix (record { causes = causes; effects = []; reset = None; links = links })
    → Allowed (record { causes = causes; effects = []; reset = None; links = links }) name (nat_le row_limit (length causes))
    → name_of name ≡ Some name
    → IsMatrix (record { causes = causes ++ (name, level) ∷ []; effects = []; reset = None; links = links })
cause_more causes links name level h ok named =
    let m : MatrixValue = record { causes = causes; effects = []; reset = None; links = links } in
    let n : MatrixValue = record { causes = causes ++ (name, level) ∷ []; effects = []; reset = None; links = links } in
    let full = nat_le row_limit (length causes) in
    let pushed : map key (causes ++ (name, level) ∷ []) ≡ map key causes ++ name ∷ [] = map-append key causes ((name, level) ∷ []) in
    let e : declared_names n ≡ declared_names m ++ name ∷ [] =
    first_names (causes ++ (name, level) ∷ []) links ∙ (pushed ∙ ap (λ ns. ns ++ name ∷ []) (sym (first_names causes links))) in
    record {
      apart = apart_more m n name full e h.apart ok;
      free = free_more m n name full e h.free ok named;
      few_causes = omega (arith, leb-false 64 (length causes) ok.room, length-append causes ((name, level) ∷ []));
      few_effects = h.few_effects;
      links_apart = h.links_apart;
      links_known = λ k d within.
          let known = h.links_known k d within in
          (subst (λ (ns : List (List ℕ)). Contains ns (get_or links k d).cause) (sym pushed) (Contains-append_left (map key causes) (name ∷ []) (get_or links k d).cause known.0), known.1);
    }

effect_more : (causes : List (List ℕ × Level)) (effects : List (List ℕ × Mode)) (links : List Link) (name : List ℕ) (mode : Mode)
    → IsMatrix (record { causes = causes; effects = effects; reset = None; links = links })
    → Allowed (record { causes = causes; effects = effects; reset = None; links = links }) name (nat_le row_limit (length effects))
    → name_of name ≡ Some name
    → IsMatrix (record { causes = causes; effects = effects ++ (name, mode) ∷ []; reset = None; links = links })
effect_more causes effects links name mode h ok named =
    let m : MatrixValue = record { causes = causes; effects = effects; reset = None; links = links } in
    let n : MatrixValue = record { causes = causes; effects = effects ++ (name, mode) ∷ []; reset = None; links = links } in
    let full = nat_le row_limit (length effects) in
    let pushed : map key (effects ++ (name, mode) ∷ []) ≡ map key effects ++ name ∷ [] = map-append key effects ((name, mode) ∷ []) in
    let e : declared_names n ≡ declared_names m ++ name ∷ [] =
    append-nil (map key causes ++ map key (effects ++ (name, mode) ∷ []))
    ∙ (ap (λ ns. map key causes ++ ns) pushed
    ∙ (sym (append_assoc (map key causes) (map key effects) (name ∷ []))
    ∙ ap (λ ns. ns ++ name ∷ []) (sym (append-nil (map key causes ++ map key effects))))) in
    record {
      apart = apart_more m n name full e h.apart ok;
      free = free_more m n name full e h.free ok named;
      few_causes = h.few_causes;
      few_effects = omega (arith, leb-false 64 (length effects) ok.room, length-append effects ((name, mode) ∷ []));
      links_apart = h.links_apart;
      links_known = λ k d within.
          let known = h.links_known k d within in
          (known.0, subst (λ (ns : List (List ℕ)). Contains ns (get_or links k d).effect) (sym pushed) (Contains-append_left (map key effects) (name ∷ []) (get_or links k d).effect known.1));
    }

reset_more : (causes : List (List ℕ × Level)) (effects : List (List ℕ × Mode)) (links : List Link) (name : List ℕ)
    → IsMatrix (record { causes = causes; effects = effects; reset = None; links = links })
    → Allowed (record { causes = causes; effects = effects; reset = None; links = links }) name false
    → name_of name ≡ Some name
    → IsMatrix (record { causes = causes; effects = effects; reset = Some name; links = links })
reset_more causes effects links name h ok named =
    let m : MatrixValue = record { causes = causes; effects = effects; reset = None; links = links } in
    let n : MatrixValue = record { causes = causes; effects = effects; reset = Some name; links = links } in
    let e : declared_names n ≡ declared_names m ++ name ∷ [] = ap (λ ns. ns ++ name ∷ []) (sym (append-nil (map key causes ++ map key effects))) in
    record {
      apart = apart_more m n name false e h.apart ok;
      free = free_more m n name false e h.free ok named;
      few_causes = h.few_causes;
      few_effects = h.few_effects;
      links_apart = h.links_apart;
      links_known = h.links_known;
    }

-- ---- a link more

and_true : (a b : Bool) → (a && b) ≡ true → (a ≡ true) × (b ≡ true)
and_true true true h = (refl, refl)
and_true true false h = absurd (true≢false (sym h))
and_true false b h = absurd (true≢false (sym h))

same_self : (a : List ℕ) → bytes_eq a a ≡ true
same_self a = (bytes_eq-Decides a a).1 refl

link_differs : (links : List Link) (link : Link) → is_link_among links link ≡ false → (k : ℕ) (d : Link) → k < length links → get_or links k d ≢ link
link_differs links link h k d within e =
    let test : Link → Bool = λ l. bytes_eq link.cause l.cause && bytes_eq link.effect l.effect in
    let hit : test link ≡ true = λ i. same_self link.cause i && same_self link.effect i in
    true≢false (sym (list_any_at test links k d within (ap test e ∙ hit)) ∙ h)

there : (names : List (List ℕ)) (name : List ℕ) → is_among names name ≡ true → Contains names name
there names name h = Contains-list_any bytes_eq (λ x y e. (bytes_eq-Decides x y).0 e) names name h

link_more : (m : MatrixValue) (link : Link) → IsMatrix m → is_link_among m.links link ≡ false → is_among (cause_names m) link.cause ≡ true → is_among (effect_names m) link.effect ≡ true → IsMatrix (with_link m link)
link_more m link h new cause effect = record {
  apart = h.apart;
  free = h.free;
  few_causes = h.few_causes;
  few_effects = h.few_effects;
  links_apart = all_pairs_push (λ (a b : Link). a ≢ b) m.links link h.links_apart (link_differs m.links link new);
  links_known = All-push (IsKnown m) m.links link h.links_known (there (cause_names m) link.cause cause, there (effect_names m) link.effect effect);
}

-- ---- a line more

-- what is not there yet behind a keyword
abbrev IsEarly : Option Keyword → MatrixValue → Type 0
IsEarly None m = (m.effects ≡ []) × (m.reset ≡ None)
IsEarly (Some Matrix) m = (m.effects ≡ []) × (m.reset ≡ None)
IsEarly (Some Cause) m = (m.effects ≡ []) × (m.reset ≡ None)
IsEarly (Some Effect) m = m.reset ≡ None
IsEarly (Some Reset) m = Unit {0}
IsEarly (Some LinkWord) m = Unit {0}
IsEarly (Some End) m = Unit {0}

record Kept (s : Standing) : Type 0 where
  matrix : IsMatrix s.matrix
  early : IsEarly s.last s.matrix

before_causes : (last : Option Keyword) (m : MatrixValue) → may_follow last Cause ≡ true → IsEarly last m → (m.effects ≡ []) × (m.reset ≡ None)
before_causes None m f e = e
before_causes (Some Matrix) m f e = e
before_causes (Some Cause) m f e = e
before_causes (Some Effect) m f e = absurd (true≢false (sym f))
before_causes (Some Reset) m f e = absurd (true≢false (sym f))
before_causes (Some LinkWord) m f e = absurd (true≢false (sym f))
before_causes (Some End) m f e = absurd (true≢false (sym f))

before_effects : (last : Option Keyword) (m : MatrixValue) → may_follow last Effect ≡ true → IsEarly last m → m.reset ≡ None
before_effects None m f e = e.1
before_effects (Some Matrix) m f e = e.1
before_effects (Some Cause) m f e = e.1
before_effects (Some Effect) m f e = e
before_effects (Some Reset) m f e = absurd (true≢false (sym f))
before_effects (Some LinkWord) m f e = absurd (true≢false (sym f))
before_effects (Some End) m f e = absurd (true≢false (sym f))

before_reset : (last : Option Keyword) (m : MatrixValue) → may_follow last Reset ≡ true → IsEarly last m → m.reset ≡ None
before_reset None m f e = e.1
before_reset (Some Matrix) m f e = e.1
before_reset (Some Cause) m f e = e.1
before_reset (Some Effect) m f e = e
before_reset (Some Reset) m f e = absurd (true≢false (sym f))
before_reset (Some LinkWord) m f e = absurd (true≢false (sym f))
before_reset (Some End) m f e = absurd (true≢false (sym f))

before_all : (last : Option Keyword) (m : MatrixValue) → may_follow last Matrix ≡ true → IsEarly last m → (m.effects ≡ []) × (m.reset ≡ None)
before_all None m f e = e
before_all (Some Matrix) m f e = absurd (true≢false (sym f))
before_all (Some Cause) m f e = absurd (true≢false (sym f))
before_all (Some Effect) m f e = absurd (true≢false (sym f))
before_all (Some Reset) m f e = absurd (true≢false (sym f))
before_all (Some LinkWord) m f e = absurd (true≢false (sym f))
before_all (Some End) m f e = absurd (true≢false (sym f))

-- what nothing forbids
unless_ok : (o : Option MatrixCause) (more n : MatrixValue) → unless o more ≡ Ok n → (o ≡ None) × (more ≡ n)
unless_ok None more n h = let e : ◌≡◌ {A = Result MatrixValue MatrixCause} (Ok more) (Ok n) = h in (refl, cc)
unless_ok (Some cause) more n h = let e : ◌≡◌ {A = Result MatrixValue MatrixCause} (Err cause) (Ok n) = h in absurd (cc)

same_ok : (m n : MatrixValue) → ◌≡◌ {A = Result MatrixValue MatrixCause} (Ok m) (Ok n) → m ≡ n
same_ok m n h = cc

said_cause : (last : Option Keyword) (m n : MatrixValue) (name : List ℕ) (level : Level) → may_follow last Cause ≡ true → name_of name ≡ Some name → IsMatrix m → IsEarly last m → stated m (CauseLine name level) ≡ Ok n → Kept (record { last = Some Cause; matrix = n })
said_cause last m n name level f named h early is =
    let full = nat_le row_limit (length m.causes) in
    let ok = unless_ok (refusal_of m name full) (with_cause m name level) n is in
    let none = before_causes last m f early in
    let m0 : MatrixValue = record { causes = m.causes; effects = []; reset = None; links = m.links } in
    let flat : m ≡ m0 = λ i. record { causes = m.causes; effects = none.0 i; reset = none.1 i; links = m.links } in
    let more = cause_more m.causes m.links name level (subst IsMatrix flat h) (subst (λ (x : MatrixValue). Allowed x name full) flat (allowed m name full ok.0)) named in
    let end : with_cause m0 name level ≡ n = ap (λ (x : MatrixValue). with_cause x name level) (sym flat) ∙ ok.1 in
    record {
      matrix = subst IsMatrix end more;
      early = (ap (λ (x : MatrixValue). x.effects) (sym end), ap (λ (x : MatrixValue). x.reset) (sym end));
    }

said_effect : (last : Option Keyword) (m n : MatrixValue) (name : List ℕ) (mode : Mode) → may_follow last Effect ≡ true → name_of name ≡ Some name → IsMatrix m → IsEarly last m → stated m (EffectLine name mode) ≡ Ok n → Kept (record { last = Some Effect; matrix = n })
said_effect last m n name mode f named h early is =
    let full = nat_le row_limit (length m.effects) in
    let ok = unless_ok (refusal_of m name full) (with_effect m name mode) n is in
    let none = before_effects last m f early in
    let m0 : MatrixValue = record { causes = m.causes; effects = m.effects; reset = None; links = m.links } in
    let flat : m ≡ m0 = λ i. record { causes = m.causes; effects = m.effects; reset = none i; links = m.links } in
    let more = effect_more m.causes m.effects m.links name mode (subst IsMatrix flat h) (subst (λ (x : MatrixValue). Allowed x name full) flat (allowed m name full ok.0)) named in
    let end : with_effect m0 name mode ≡ n = ap (λ (x : MatrixValue). with_effect x name mode) (sym flat) ∙ ok.1 in
    record {
      matrix = subst IsMatrix end more;
      early = ap (λ (x : MatrixValue). x.reset) (sym end);
    }

said_reset : (last : Option Keyword) (m n : MatrixValue) (name : List ℕ) → may_follow last Reset ≡ true → name_of name ≡ Some name → IsMatrix m → IsEarly last m → stated m (ResetLine name) ≡ Ok n → Kept (record { last = Some Reset; matrix = n })
said_reset last m n name f named h early is =
    let ok = unless_ok (refusal_of m name false) (with_reset m name) n is in
    let none = before_reset last m f early in
    let m0 : MatrixValue = record { causes = m.causes; effects = m.effects; reset = None; links = m.links } in
    let flat : m ≡ m0 = λ i. record { causes = m.causes; effects = m.effects; reset = none i; links = m.links } in
    let more = reset_more m.causes m.effects m.links name (subst IsMatrix flat h) (subst (λ (x : MatrixValue). Allowed x name false) flat (allowed m name false ok.0)) named in
    let end : with_reset m0 name ≡ n = ap (λ (x : MatrixValue). with_reset x name) (sym flat) ∙ ok.1 in
    record {
      matrix = subst IsMatrix end more;
      early = tt;
    }

said_link : (m n : MatrixValue) (link : Link) → IsMatrix m → linked m link ≡ Ok n → Kept (record { last = Some LinkWord; matrix = n })
said_link m n link h is = by (is_link_among m.links link) (is_among (cause_names m) link.cause) (is_among (effect_names m) link.effect) refl refl refl is
  where
    by : (a b c : Bool) → is_link_among m.links link ≡ a → is_among (cause_names m) link.cause ≡ b → is_among (effect_names m) link.effect ≡ c
        → ◌≡◌ {A = Result MatrixValue MatrixCause} (if a then Err Twice else if b && c then Ok (with_link m link) else Err Unknown) (Ok n) → Kept (record { last = Some LinkWord; matrix = n })
    by true b c x y z k = absurd (cc)
    by false false c x y z k = absurd (cc)
    by false true false x y z k = absurd (cc)
    by false true true x y z k = record { matrix = subst IsMatrix (same_ok (with_link m link) n k) (link_more m link h x y z); early = tt }

said : (keyword : Keyword) (st : Statement) (last : Option Keyword) (m n : MatrixValue) → may_follow last keyword ≡ true → Says keyword st → IsMatrix m → IsEarly last m → stated m st ≡ Ok n → Kept (record { last = Some keyword; matrix = n })
said Matrix Heading last m n f s h early is =
    let same = same_ok m n is in
    record { matrix = subst IsMatrix same h; early = subst (λ (x : MatrixValue). (x.effects ≡ []) × (x.reset ≡ None)) same (before_all last m f early) }
said Cause (CauseLine name level) last m n f s h early is = said_cause last m n name level f s h early is
said Effect (EffectLine name mode) last m n f s h early is = said_effect last m n name mode f s h early is
said Reset (ResetLine name) last m n f s h early is = said_reset last m n name f s h early is
said LinkWord (LinkLine link) last m n f s h early is = said_link m n link h is
said End EndLine last m n f s h early is = record { matrix = subst IsMatrix (same_ok m n is) h; early = tt }
said keyword st last m n f s h early is = absurd s

same_standing : (s t : Standing) → ◌≡◌ {A = Result Standing MatrixCause} (Ok s) (Ok t) → s ≡ t
same_standing s t h = cc

on_statement : (s t : Standing) (keyword : Keyword) (words : List (List ℕ)) → may_follow s.last keyword ≡ true → Kept s → shaped s keyword (statement_of keyword words) ≡ Ok t → Kept t
on_statement s t keyword words f k is = by (statement_of keyword words) (says keyword words) is
  where
    done : (st : Statement) (r : Result MatrixValue MatrixCause) → stated s.matrix st ≡ r → Says keyword st → behind keyword r ≡ Ok t → Kept t
    done st (Ok n) e says_it is = subst Kept (same_standing (record { last = Some keyword; matrix = n }) t is) (said keyword st s.last s.matrix n f says_it k.matrix k.early e)
    done st (Err cause) e says_it is = absurd (cc)

    by : (o : Option Statement) → ((st : Statement) → o ≡ Some st → Says keyword st) → shaped s keyword o ≡ Ok t → Kept t
    by None says_it is = absurd (cc)
    by (Some st) says_it is = done st (stated s.matrix st) refl (says_it st refl) is

on_keyword : (s t : Standing) (o : Option Keyword) (words : List (List ℕ)) → Kept s → worded s o words ≡ Ok t → Kept t
on_keyword s t None words k is = absurd (cc)
on_keyword s t (Some keyword) words k is = by (may_follow s.last keyword) refl is
  where
    by : (b : Bool) → may_follow s.last keyword ≡ b → ◌≡◌ {A = Result Standing MatrixCause} (if b then shaped s keyword (statement_of keyword words) else Err MatrixCause.Word) (Ok t) → Kept t
    by true f is = on_statement s t keyword words f k is
    by false f is = absurd (cc)

on_words : (s t : Standing) (words : List (List ℕ)) → Kept s → spoken s words ≡ Ok t → Kept t
on_words s t [] k is = subst Kept (same_standing s t is) k
on_words s t (word ∷ words) k is = by (begins_comment word) is
  where
    by : (b : Bool) → ◌≡◌ {A = Result Standing MatrixCause} (if b then Ok s else worded s (keyword_of word) words) (Ok t) → Kept t
    by true is = subst Kept (same_standing s t is) k
    by false is = on_keyword s t (keyword_of word) words k is

-- ---- all lines

abbrev AreKept : Result Standing MatrixCause → Type 0
AreKept (Ok s) = Kept s
AreKept (Err cause) = Unit {0}

line_more : (r : Result Standing MatrixCause) (line : List ℕ) → AreKept r → AreKept (goes_on r line)
line_more (Ok s) line k = by (after s line) refl
  where
    by : (r : Result Standing MatrixCause) → after s line ≡ r → AreKept r
    by (Ok t) e = on_words s t (words_of line) k e
    by (Err cause) e = tt
line_more (Err cause) line k = tt

lines_more : (lines : List (List ℕ)) (r : Result Standing MatrixCause) → AreKept r → AreKept (fold goes_on r lines)
lines_more [] r k = k
lines_more (line ∷ lines) r k = lines_more lines (goes_on r line) (line_more r line k)

none_at_first : IsMatrix no_matrix
none_at_first = record {
  apart = λ i j d a b. absurd (omega arith);
  free = All-nil IsFree;
  few_causes = omega arith;
  few_effects = omega arith;
  links_apart = λ i j d a b. absurd (omega arith);
  links_known = All-nil (IsKnown no_matrix);
}

-- what lines spell is a matrix
pub spelled : (lines : List (List ℕ)) (m : MatrixValue) → Spells lines m → IsMatrix m
spelled lines m h =
    let k : AreKept (Ok (record { last = Some End; matrix = m })) = subst AreKept h (lines_more lines (Ok beginning) (record { matrix = none_at_first; early = (refl, refl) })) in
    k.matrix
