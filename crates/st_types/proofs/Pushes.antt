-- Lists that are made one part after the other.
use Rattle.std.proofs.Common.{◌≡◌, ℕ, ◌<◌, ◌≤◌, ◌+◌, suc, List, [], ◌∷◌, ◌++◌, length, take, drop, get_or, map, sym, ap, ◌∙◌, append-nil, append_assoc, drop-cons, add-one}
use Rattle.std.specs.Prelude.{Option}
use Rattle.std.specs.List.{flat_map, list_any}
use Rattle.std.specs.Str.{bytes_eq}
use Rattle.std.proofs.lemmas.List.{take_more, take_all, map-append}
use Rattle.std.proofs.lemmas.List.Concat.{flat_map-append}
use Rattle.tri_base.specs.declared.point.Point.{Point}
use Rattle.tri_base.specs.declared.faults.TypeFault.{TypeFault}
use Rattle.st_tree.specs.declared.tag.Tag.{Tag}
use Rattle.st_types.proofs.Firsts.{first_of_append}
use Rattle.st_types.proofs.Parts.{soonest-assoc}
use Rattle.st_types.specs.Inner.Firsts.{soonest}
use Rattle.st_tree.specs.Typing.Faults.{first_of}
use Rattle.st_tree.specs.Typing.Declarations.{name_faults, names_faults}

next : {X : Type 0} (xs : List X) (i : ℕ) (x : X) → i < length xs → x ≡ get_or xs i x → take (i + 1) xs ≡ take i xs ++ x ∷ []
next xs i x here is = take_more xs i x here ∙ ap (λ y. take i xs ++ y ∷ []) (sym is)

pub flat_pushed : {X Y : Type 0} (f : X → List Y) (old : List Y) (xs : List X) (i : ℕ) (x : X) (here now : List Y) → i < length xs → x ≡ get_or xs i x
    → here ≡ old ++ flat_map f (take i xs) → now ≡ here ++ f x → now ≡ old ++ flat_map f (take (i + 1) xs)
flat_pushed f old xs i x here now within is h n =
    n ∙ (ap (λ l. l ++ f x) h ∙ (append_assoc old (flat_map f (take i xs)) (f x)
    ∙ ap (λ l. old ++ l) (ap (λ l. flat_map f (take i xs) ++ l) (sym (append-nil (f x))) ∙ (sym (flat_map-append f (take i xs) (x ∷ [])) ∙ ap (flat_map f) (sym (next xs i x within is))))))

pub mapped_pushed : {X Y : Type 0} (f : X → Y) (old : List Y) (first : X) (xs : List X) (i : ℕ) (x : X) (here now : List Y) → i < length xs → x ≡ get_or xs i x
    → here ≡ old ++ map f (first ∷ take i xs) → now ≡ here ++ f x ∷ [] → now ≡ old ++ map f (first ∷ take (i + 1) xs)
mapped_pushed f old first xs i x here now within is h n =
    n ∙ (ap (λ l. l ++ f x ∷ []) h ∙ (append_assoc old (map f (first ∷ take i xs)) (f x ∷ [])
    ∙ ap (λ l. old ++ l) (sym (map-append f (first ∷ take i xs) (x ∷ [])) ∙ ap (λ ys. map f (first ∷ ys)) (sym (next xs i x within is)))))

pub flat_whole : {X Y : Type 0} (f : X → List Y) (old : List Y) (xs ys : List X) (i : ℕ) (here : List Y) → length xs ≤ i → xs ≡ ys → here ≡ old ++ flat_map f (take i xs) → here ≡ old ++ flat_map f ys
flat_whole f old xs ys i here past same h = h ∙ ap (λ zs. old ++ flat_map f zs) (take_all i xs past ∙ same)

pub mapped_whole : {X Y : Type 0} (f : X → Y) (old : List Y) (first : X) (xs ys : List X) (i : ℕ) (here : List Y) → length xs ≤ i → xs ≡ ys → here ≡ old ++ map f (first ∷ take i xs) → here ≡ old ++ map f (first ∷ ys)
mapped_whole f old first xs ys i here past same h = h ∙ ap (λ zs. old ++ map f (first ∷ zs)) (take_all i xs past ∙ same)

-- a name more
pub name_more : (points : List Point) (before : List (List ℕ)) (xs : List Tag) (i : ℕ) (x : Tag) (fault one whole : Option TypeFault) → i < length xs → x ≡ get_or xs i x
    → one ≡ first_of (name_faults points (list_any (bytes_eq x.name) before) x)
    → soonest fault (first_of (names_faults points before (drop i xs))) ≡ whole
    → soonest (soonest fault one) (first_of (names_faults points (before ++ x.name ∷ []) (drop (i + 1) xs))) ≡ whole
name_more points before xs i x fault one whole here is so h =
    let rest = names_faults points (before ++ x.name ∷ []) (drop (i + 1) xs) in
    let this = name_faults points (list_any (bytes_eq x.name) before) x in
    let opened : drop i xs ≡ x ∷ drop (i + 1) xs = rw (add-one, drop-cons xs i x here) (λ j. sym is j ∷ drop (suc i) xs) in
    soonest-assoc fault one (first_of rest)
    ∙ (ap (soonest fault) (ap (λ o. soonest o (first_of rest)) so ∙ (sym (first_of_append this rest) ∙ ap (λ l. first_of (names_faults points before l)) (sym opened))) ∙ h)

-- the names of the tags before the next one
pub names_next : (xs : List Tag) (i : ℕ) (x : Tag) → i < length xs → x ≡ get_or xs i x → map (λ (t : Tag). t.name) (take (i + 1) xs) ≡ map (λ (t : Tag). t.name) (take i xs) ++ x.name ∷ []
names_next xs i x here is = ap (map (λ (t : Tag). t.name)) (next xs i x here is) ∙ map-append (λ (t : Tag). t.name) (take i xs) (x ∷ [])
