-- The tables of a matrix find the names and links that stand in its lists.
use Rattle.std.proofs.Common.{◌≡◌, ℕ, Bool, true, false, cond, ◌||◌, ◌&&◌, List, [], ◌∷◌, ◌++◌, map, filter, Option, Some, None, Ok, Err, is_some, option_to_list, refl, sym, ap, ◌∙◌, subst, true≢false, if◌then◌else◌}
use Rattle.std.specs.List.{list_any, flat_map}
use Rattle.std.specs.Map.{lookup}
use Rattle.std.specs.Str.{bytes_eq}
use Rattle.std.proofs.lemmas.Grind.{flat_map-append}
use Rattle.std.proofs.lemmas.List.Folds.{list_any-append}
use Rattle.std.proofs.lemmas.Slice.Eq.{bytes_eq-Decides}
use Rattle.tri_base.specs.Inner.NameFields.{same_name, same_name_is, is_same_name}
use Rattle.indexmap.specs.IndexMap.{insert_entry}
use Rattle.indexmap.specs.IndexSet.{insert_key}
use Rattle.cause_effect.specs.declared.fault.MatrixCause.{MatrixCause}
use Rattle.cause_effect.specs.declared.matrix.Link.{Link}
use Rattle.cause_effect.specs.Matrices.{MatrixValue, cause_names, effect_names, declared_names}
use Rattle.cause_effect.specs.Matrices.{level_of}
use Rattle.cause_effect.specs.Programs.{cause_term, declaration_line}
use Rattle.cause_effect.specs.Inner.Terms.{link_term}
use Rattle.cause_effect.specs.Standing.{is_reserved, is_among, is_link_among, refusal_of, linked, with_link}

-- the tables' test of two names is that of their bytes
pub same_bytes : (a b : List ℕ) → same_name a b ≡ bytes_eq a b
same_bytes a b = by (same_name a b) (bytes_eq a b) refl refl
  where
    by : (s t : Bool) → same_name a b ≡ s → bytes_eq a b ≡ t → s ≡ t
    by true true e k = refl
    by false false e k = refl
    by true false e k = absurd (true≢false (sym ((bytes_eq-Decides a b).1 (same_name_is a b e)) ∙ k))
    by false true e k = absurd (true≢false (sym (subst (λ (x : List ℕ). same_name a x ≡ true) ((bytes_eq-Decides a b).0 k) (is_same_name a)) ∙ e))

-- the test of two links
abbrev pub same_link : Link → Link → Bool
same_link a b = same_name a.cause b.cause && same_name a.effect b.effect

found_step : {X : Type 0} (t u : Bool) (x : X) (o : Option X) (rest : Bool) → t ≡ u → is_some o ≡ rest → is_some (cond t (Some x) o) ≡ (u || rest)
found_step true true x o rest e h = refl
found_step false false x o rest e h = h
found_step true false x o rest e h = absurd (true≢false e)
found_step false true x o rest e h = absurd (true≢false (sym e))

-- a table has a name that is among its keys
pub found : {X : Type 0} (name : List ℕ) (es : List (List ℕ × X)) → is_some (lookup (same_name name) es) ≡ is_among (map (λ e. e.0) es) name
found name [] = refl
found name (e ∷ es) = found_step (same_name name e.0) (bytes_eq name e.0) e.1 (lookup (same_name name) es) (is_among (map (λ e. e.0) es) name) (same_bytes name e.0) (found name es)

pub looked_up : {X : Type 0} (name : List ℕ) (es : List (List ℕ × X)) → lookup (same_name name) es ≡ lookup (bytes_eq name) es
looked_up name es = λ i. lookup (λ n. same_bytes name n i) es

pub link_found : (link : Link) (links : List Link) → list_any (same_link link) links ≡ is_link_among links link
link_found link links = λ i. list_any (λ l. same_bytes link.cause l.cause i && same_bytes link.effect l.effect i) links

or_none : (t : Bool) → t ≡ (t || false)
or_none true = refl
or_none false = refl

pub alone : (name reset : List ℕ) → same_name name reset ≡ is_among (reset ∷ []) name
alone name reset = same_bytes name reset ∙ or_none (bytes_eq name reset)

-- a name is declared as a cause, an effect or the reset
pub declared_as : (m : MatrixValue) (name : List ℕ) → is_among (declared_names m) name ≡ ((is_among (cause_names m) name || is_among (effect_names m) name) || is_among (option_to_list m.reset) name)
declared_as m name =
    list_any-append (bytes_eq name) (cause_names m ++ effect_names m) (option_to_list m.reset)
    ∙ ap (λ t. t || is_among (option_to_list m.reset) name) (list_any-append (bytes_eq name) (cause_names m) (effect_names m))

-- ---- what may be declared

pub record Allowed (m : MatrixValue) (name : List ℕ) (full : Bool) : Type 0 where
  pub free : is_reserved name ≡ false
  pub new : is_among (declared_names m) name ≡ false
  pub room : full ≡ false

pub allowed : (m : MatrixValue) (name : List ℕ) (full : Bool) → refusal_of m name full ≡ None → Allowed m name full
allowed m name full h = by (is_reserved name) (is_among (declared_names m) name) full refl refl refl h
  where
    by : (a b c : Bool) → is_reserved name ≡ a → is_among (declared_names m) name ≡ b → full ≡ c
        → (if a then Some MatrixCause.Reserved else if b then Some MatrixCause.Twice else if c then Some MatrixCause.Full else None) ≡ None → Allowed m name full
    by false false false free new room h = record { free = free; new = new; room = room }
    by true b c free new room h = absurd (cc)
    by false true c free new room h = absurd (cc)
    by false false true free new room h = absurd (cc)

or_false : (a b : Bool) → (a || b) ≡ false → (a ≡ false) × (b ≡ false)
or_false false false h = (refl, refl)
or_false false true h = absurd (true≢false h)
or_false true b h = absurd (true≢false h)

pub new_cause : (m : MatrixValue) (name : List ℕ) → is_among (declared_names m) name ≡ false → is_among (cause_names m) name ≡ false
new_cause m name h = (or_false (is_among (cause_names m) name) (is_among (effect_names m) name) (or_false (is_among (cause_names m) name || is_among (effect_names m) name) (is_among (option_to_list m.reset) name) (sym (declared_as m name) ∙ h)).0).0

pub new_effect : (m : MatrixValue) (name : List ℕ) → is_among (declared_names m) name ≡ false → is_among (effect_names m) name ≡ false
new_effect m name h = (or_false (is_among (cause_names m) name) (is_among (effect_names m) name) (or_false (is_among (cause_names m) name || is_among (effect_names m) name) (is_among (option_to_list m.reset) name) (sym (declared_as m name) ∙ h)).0).1

-- ---- a new entry goes last

last_step : {X : Type 0} (name : List ℕ) (x : X) (e : List ℕ × X) (es : List (List ℕ × X)) (t : Bool) → same_name name e.0 ≡ t → (t || is_among (map (λ e. e.0) es) name) ≡ false
    → (is_among (map (λ e. e.0) es) name ≡ false → insert_entry same_name es name x ≡ es ++ (name, x) ∷ [])
    → (if t then (e.0, x) ∷ es else e ∷ insert_entry same_name es name x) ≡ (e ∷ es) ++ (name, x) ∷ []
last_step name x e es true same h go = absurd (true≢false h)
last_step name x e es false same h go = ap (λ rest. e ∷ rest) (go h)

pub goes_last : {X : Type 0} (name : List ℕ) (x : X) (es : List (List ℕ × X)) → is_among (map (λ e. e.0) es) name ≡ false → insert_entry same_name es name x ≡ es ++ (name, x) ∷ []
goes_last name x [] h = refl
goes_last name x (e ∷ es) h = last_step name x e es (same_name name e.0) refl (ap (λ t. t || is_among (map (λ e. e.0) es) name) (same_bytes name e.0) ∙ h) (goes_last name x es)

pub link_last : (link : Link) (links : List Link) → is_link_among links link ≡ false → insert_key same_link links link ≡ links ++ link ∷ []
link_last link links h = ap (λ t. if t then links else links ++ link ∷ []) (link_found link links ∙ h)

-- a link that is new, from a cause to an effect
pub linked_new : (m : MatrixValue) (link : Link) → is_link_among m.links link ≡ false → is_among (cause_names m) link.cause ≡ true → is_among (effect_names m) link.effect ≡ true → linked m link ≡ Ok (with_link m link)
linked_new m link new cause effect =
    λ i. if new i then Err MatrixCause.Twice else if cause i && effect i then Ok (with_link m link) else Err MatrixCause.Unknown

-- ---- the links to an effect

dropped : (m : MatrixValue) (effect : List ℕ) (l : Link) (rest : List Link) (t : Bool) → bytes_eq l.effect effect ≡ t
    → (if t then cause_term (level_of m l.cause) l.cause else []) ++ flat_map (λ l. cause_term (level_of m l.cause) l.cause) rest
    ≡ flat_map (λ l. cause_term (level_of m l.cause) l.cause) (cond t (l ∷ rest) rest)
dropped m effect l rest true e = refl
dropped m effect l rest false e = refl

pub terms_to : (m : MatrixValue) (effect : List ℕ) (links : List Link)
    → flat_map (link_term m effect) links ≡ flat_map (λ l. cause_term (level_of m l.cause) l.cause) (filter (λ l. bytes_eq l.effect effect) links)
terms_to m effect [] = refl
terms_to m effect (l ∷ links) =
    ap (λ ts. link_term m effect l ++ ts) (terms_to m effect links)
    ∙ dropped m effect l (filter (λ l. bytes_eq l.effect effect) links) (bytes_eq l.effect effect) refl

-- ---- the declared names

pub keyed : {X : Type 0} (f : List ℕ → List ℕ) (es : List (List ℕ × X)) → flat_map (λ e. f e.0) es ≡ flat_map f (map (λ e. e.0) es)
keyed f [] = refl
keyed f (e ∷ es) = ap (λ ts. f e.0 ++ ts) (keyed f es)

pub declarations : (m : MatrixValue) → (flat_map (λ c. declaration_line c.0) m.causes ++ flat_map (λ e. declaration_line e.0) m.effects) ++ flat_map declaration_line (option_to_list m.reset) ≡ flat_map declaration_line (declared_names m)
declarations m =
    (λ i. (keyed declaration_line m.causes i ++ keyed declaration_line m.effects i) ++ flat_map declaration_line (option_to_list m.reset))
    ∙ (ap (λ ts. ts ++ flat_map declaration_line (option_to_list m.reset)) (sym (flat_map-append declaration_line (cause_names m) (effect_names m)))
    ∙ sym (flat_map-append declaration_line (cause_names m ++ effect_names m) (option_to_list m.reset)))
