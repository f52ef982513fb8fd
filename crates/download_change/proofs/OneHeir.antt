-- A name of the new program is the heir of one name at most, where no two renames share a name in one place.
use Rattle.std.proofs.Common.{◌≡◌, ℕ, Bool, true, false, cond, ◌||◌, List, [], ◌∷◌, ◌++◌, Option, Some, None, refl, sym, ap, ◌∙◌, subst, true≢false, if◌then◌else◌}
use Rattle.std.specs.List.{find, list_any}
use Rattle.std.specs.Option.{option_or, option_and_then}
use Rattle.std.specs.Str.{bytes_eq}
use Rattle.std.proofs.lemmas.Slice.Eq.{bytes_eq-Decides}
use Rattle.std.proofs.lemmas.List.Folds.{list_any-append}
use Rattle.st_tree.specs.declared.tag.Tag.{Tag}
use Rattle.tag_layout.specs.declared.placed.PlacedTag.{PlacedTag}
use Rattle.tag_layout.specs.Layout.{placed_tags, placed_named}
use Rattle.download_change.specs.Renames.{Rename, is_old_name, is_new_name, twice_in, twice_behind, name_twice_of, unknown_name_of, first_fault, renames_fault_of, heir_by, heir_of}
use Rattle.download_change.specs.Kept.{is_called, origin_of, of_type, kept_for}
use Rattle.download_change.specs.Inner.Origins.{source_by, source_of, kept_by_name}
use Rattle.download_change.proofs.Walks.{find_passes, found_there, none_there, none_found}

-- ---- names

pub itself : (n : List ℕ) → bytes_eq n n ≡ true
itself n = (bytes_eq-Decides n n).1 refl

is_one : (n m : List ℕ) → bytes_eq n m ≡ true → n ≡ m
is_one n m h = (bytes_eq-Decides n m).0 h

-- ---- names that no two renames have in one place

-- no rename has a name that one before it has
AllFresh : (Rename → List ℕ) → (before rs : List Rename) → Type 0
AllFresh pick before [] = Unit {0}
AllFresh pick before (r ∷ rs) = (list_any (λ e. bytes_eq (pick r) (pick e)) before ≡ false) × AllFresh pick (before ++ r ∷ []) rs

-- no rename has a name that one behind it has
abbrev pub Distinct : (Rename → List ℕ) → List Rename → Type 0
Distinct pick [] = Unit {0}
Distinct pick (r ∷ rs) = (list_any (λ e. bytes_eq (pick r) (pick e)) rs ≡ false) × Distinct pick rs

by_cases : (old new : Bool) (r : Rename) → (if old then Some r.0 else (if new then Some r.1 else None)) ≡ None → (old ≡ false) × (new ≡ false)
by_cases true new r h = absurd (cc)
by_cases false true r h = absurd (cc)
by_cases false false r h = (refl, refl)

once : (earlier : List Rename) (r : Rename) → twice_in earlier r ≡ None → (is_old_name earlier r.0 ≡ false) × (is_new_name earlier r.1 ≡ false)
once earlier r h = by_cases (is_old_name earlier r.0) (is_new_name earlier r.1) r h

neither : {X : Type 0} (o p : Option X) → option_or o p ≡ None → (o ≡ None) × (p ≡ None)
neither None p h = (refl, h)
neither (Some x) p h = absurd (cc)

fresh : (before rs : List Rename) → twice_behind before rs ≡ None → AllFresh (λ r. r.0) before rs × AllFresh (λ r. r.1) before rs
unfolding AllFresh
fresh before [] h = (tt, tt)
fresh before (r ∷ rs) h =
    let parts = neither (twice_in before r) (twice_behind (before ++ r ∷ []) rs) h in
    let here = once before r parts.0 in
    let rest = fresh (before ++ r ∷ []) rs parts.1 in
    ((here.0, rest.0), (here.1, rest.1))

or_true : (a : Bool) → (a || true) ≡ true
or_true true = refl
or_true false = refl

still_there : (pick : Rename → List ℕ) (m : List ℕ) (before : List Rename) (r : Rename) → list_any (λ e. bytes_eq m (pick e)) before ≡ true → list_any (λ e. bytes_eq m (pick e)) (before ++ r ∷ []) ≡ true
still_there pick m before r h =
    list_any-append (λ e. bytes_eq m (pick e)) before (r ∷ []) ∙ ap (λ b. b || (bytes_eq m (pick r) || false)) h

there_last : (pick : Rename → List ℕ) (before : List Rename) (r : Rename) → list_any (λ e. bytes_eq (pick r) (pick e)) (before ++ r ∷ []) ≡ true
there_last pick before r =
    list_any-append (λ e. bytes_eq (pick r) (pick e)) before (r ∷ [])
    ∙ (ap (λ b. list_any (λ e. bytes_eq (pick r) (pick e)) before || (b || false)) (itself (pick r))
    ∙ or_true (list_any (λ e. bytes_eq (pick r) (pick e)) before))

-- a name that lies before is none of the others
gone : (pick : Rename → List ℕ) (m : List ℕ) (before rs : List Rename) → list_any (λ e. bytes_eq m (pick e)) before ≡ true → AllFresh pick before rs → list_any (λ e. bytes_eq m (pick e)) rs ≡ false
unfolding AllFresh
gone pick m before [] h f = refl
gone pick m before (r ∷ rs) h f = by (bytes_eq m (pick r)) refl (gone pick m (before ++ r ∷ []) rs (still_there pick m before r h) f.1)
  where
    by : (t : Bool) → bytes_eq m (pick r) ≡ t → list_any (λ e. bytes_eq m (pick e)) rs ≡ false → (t || list_any (λ e. bytes_eq m (pick e)) rs) ≡ false
    by true e rest = absurd (true≢false (sym (subst (λ (n : List ℕ). list_any (λ e. bytes_eq n (pick e)) before ≡ true) (is_one m (pick r) e) h) ∙ f.0))
    by false e rest = rest

distinct : (pick : Rename → List ℕ) (before rs : List Rename) → AllFresh pick before rs → Distinct pick rs
unfolding AllFresh
distinct pick before [] f = tt
distinct pick before (r ∷ rs) f = (gone pick (pick r) (before ++ r ∷ []) rs (there_last pick before r) f.1, distinct pick (before ++ r ∷ []) rs f.1)

no_fault : (unknown twice : Option (List ℕ)) → first_fault unknown twice ≡ None → twice ≡ None
no_fault None None h = refl
no_fault None (Some n) h = absurd (cc)
no_fault (Some n) twice h = absurd (cc)

-- the renames have different old names, and different new ones
pub record Apart (renames : List Rename) : Type 0 where
  pub old : Distinct (λ r. r.0) renames
  pub new : Distinct (λ r. r.1) renames

apart_names : (renames : List Rename) → name_twice_of renames ≡ None → Apart renames
apart_names renames h =
    let both = fresh [] renames h in
    record { old = distinct (λ r. r.0) [] renames both.0; new = distinct (λ r. r.1) [] renames both.1 }

pub apart_of : (old new : List Tag) (renames : List Rename) → renames_fault_of old new renames ≡ None → Apart renames
apart_of old new renames h = apart_names renames (no_fault (unknown_name_of old new renames) (name_twice_of renames) h)

-- ---- there and back

-- what a rename that is found by one of its names gives, or else the name itself, if it is no other rename's
by_rename : (other : Rename → List ℕ) → Option Rename → Bool → List ℕ → Option (List ℕ)
by_rename other (Some r) taken name = Some (other r)
by_rename other None true name = None
by_rename other None false name = Some name

turned : (pick other : Rename → List ℕ) → List Rename → List ℕ → Option (List ℕ)
turned pick other renames name = by_rename other (find (λ r. bytes_eq name (pick r)) renames) (list_any (λ r. bytes_eq name (other r)) renames) name

as_heir : (renames : List Rename) (name : List ℕ) → heir_of renames name ≡ turned (λ r. r.0) (λ r. r.1) renames name
unfolding turned by_rename
as_heir renames name = by (find (λ r. bytes_eq name r.0) renames) (is_new_name renames name)
  where
    by : (o : Option Rename) (t : Bool) → heir_by o t name ≡ by_rename (λ r. r.1) o t name
    by (Some r) t = refl
    by None true = refl
    by None false = refl

as_source : (renames : List Rename) (name : List ℕ) → source_of renames name ≡ turned (λ r. r.1) (λ r. r.0) renames name
unfolding turned by_rename
as_source renames name = by (find (λ r. bytes_eq name r.1) renames) (is_old_name renames name)
  where
    by : (o : Option Rename) (t : Bool) → source_by o t name ≡ by_rename (λ r. r.0) o t name
    by (Some r) t = refl
    by None true = refl
    by None false = refl

-- the rename that is found by one name is found by the other
found_back : (pick other : Rename → List ℕ) (n : List ℕ) (rs : List Rename) (r : Rename) → Distinct other rs → find (λ e. bytes_eq n (pick e)) rs ≡ Some r → find (λ e. bytes_eq (other r) (other e)) rs ≡ Some r
found_back pick other n [] r d h = absurd (cc)
found_back pick other n (e ∷ es) r d h = by (found_back pick other n es r d.1) (bytes_eq n (pick e)) h
  where
    apart : find (λ x. bytes_eq (other r) (other x)) es ≡ Some r → (t : Bool) → bytes_eq (other r) (other e) ≡ t → cond t (Some e) (find (λ x. bytes_eq (other r) (other x)) es) ≡ Some r
    apart k true is =
        absurd (true≢false (sym (found_there (λ x. bytes_eq (other r) (other x)) es r k)
        ∙ (ap (λ (n : List ℕ). list_any (λ x. bytes_eq n (other x)) es) (is_one (other r) (other e) is) ∙ d.0)))
    apart k false is = k

    by : (find (λ x. bytes_eq n (pick x)) es ≡ Some r → find (λ x. bytes_eq (other r) (other x)) es ≡ Some r) → (t : Bool) → cond t (Some e) (find (λ x. bytes_eq n (pick x)) es) ≡ Some r
        → cond (bytes_eq (other r) (other e)) (Some e) (find (λ x. bytes_eq (other r) (other x)) es) ≡ Some r
    by rest true k =
        let same : e ≡ r = cc in
        ap (λ b. cond b (Some e) (find (λ x. bytes_eq (other r) (other x)) es)) (ap (bytes_eq (other r)) (ap other same) ∙ itself (other r)) ∙ ap Some same
    by rest false k = apart (rest k) (bytes_eq (other r) (other e)) refl

back : (pick other : Rename → List ℕ) (renames : List Rename) (n m : List ℕ) → Distinct other renames → turned pick other renames n ≡ Some m → turned other pick renames m ≡ Some n
unfolding turned by_rename
back pick other renames n m d h = by (find (λ r. bytes_eq n (pick r)) renames) refl (list_any (λ r. bytes_eq n (other r)) renames) refl h
  where
    by : (o : Option Rename) → find (λ r. bytes_eq n (pick r)) renames ≡ o → (t : Bool) → list_any (λ r. bytes_eq n (other r)) renames ≡ t → by_rename other o t n ≡ Some m → turned other pick renames m ≡ Some n
    by (Some r) e t s k =
        let same : other r ≡ m = cc in
        let own : n ≡ pick r = is_one n (pick r) (find_passes (λ x. bytes_eq n (pick x)) renames r e) in
        subst (λ (x : List ℕ). turned other pick renames x ≡ Some n) same
        (ap (λ o. by_rename pick o (list_any (λ x. bytes_eq (other r) (pick x)) renames) (other r)) (found_back pick other n renames r d e) ∙ ap Some (sym own))
    by None e true s k = absurd (cc)
    by None e false s k =
        let same : n ≡ m = cc in
        subst (λ (x : List ℕ). turned other pick renames x ≡ Some n) same
        (λ i. by_rename pick (none_found (λ x. bytes_eq n (other x)) renames s i) (none_there (λ x. bytes_eq n (pick x)) renames e i) n)

pub heir_back : (renames : List Rename) → Apart renames → (n m : List ℕ) → heir_of renames n ≡ Some m → source_of renames m ≡ Some n
heir_back renames a n m h = as_source renames m ∙ back (λ r. r.0) (λ r. r.1) renames n m a.new (sym (as_heir renames n) ∙ h)

-- so two names have no heir in common
pub one_origin : (renames : List Rename) → name_twice_of renames ≡ None → (n m heir : List ℕ) → heir_of renames n ≡ Some heir → heir_of renames m ≡ Some heir → n ≡ m
one_origin renames h n m heir a b =
    let apart = apart_names renames h in
    let same : Some n ≡ Some m = sym (heir_back renames apart n heir a) ∙ heir_back renames apart m heir b in
    cc

source_back : (renames : List Rename) → Apart renames → (n m : List ℕ) → source_of renames n ≡ Some m → heir_of renames m ≡ Some n
source_back renames a n m h = as_heir renames m ∙ back (λ r. r.1) (λ r. r.0) renames n m a.old (sym (as_source renames n) ∙ h)

-- ---- the tag whose heir a name is

-- a name, if there is one, is this one
is_from : List ℕ → Option (List ℕ) → Bool
is_from n None = false
is_from n (Some p) = bytes_eq p n

called_so : (name : List ℕ) (o : Option (List ℕ)) → is_called name o ≡ true → o ≡ Some name
called_so name None h = absurd (true≢false (sym h))
called_so name (Some m) h = ap Some (sym (is_one name m h))

from_so : (n : List ℕ) (o : Option (List ℕ)) → is_from n o ≡ true → o ≡ Some n
unfolding is_from
from_so n None h = absurd (true≢false (sym h))
from_so n (Some p) h = ap Some (is_one p n h)

same_test : (renames : List Rename) → Apart renames → (name n : List ℕ) → is_called name (heir_of renames n) ≡ is_from n (source_of renames name)
unfolding is_from
same_test renames a name n = by (is_called name (heir_of renames n)) refl (is_from n (source_of renames name)) refl
  where
    by : (s : Bool) → is_called name (heir_of renames n) ≡ s → (t : Bool) → is_from n (source_of renames name) ≡ t → s ≡ t
    by true e true k = refl
    by false e false k = refl
    by true e false k =
        absurd (true≢false (sym (ap (is_from n) (heir_back renames a n name (called_so name (heir_of renames n) e)) ∙ itself n) ∙ k))
    by false e true k =
        absurd (true≢false (sym (ap (is_called name) (source_back renames a name n (from_so n (source_of renames name) k)) ∙ itself name) ∙ e))

nothing : (ps : List PlacedTag) → find (λ (t : PlacedTag). false) ps ≡ None
nothing [] = refl
nothing (p ∷ ps) = nothing ps

from_name : (old : List Tag) (o : Option (List ℕ)) → find (λ (t : PlacedTag). is_from t.name o) (placed_tags old) ≡ option_and_then (placed_named old) o
unfolding is_from placed_named
from_name old None = nothing (placed_tags old)
from_name old (Some p) = refl

pub origin_is : (old : List Tag) (renames : List Rename) → Apart renames → (name : List ℕ) → origin_of old renames name ≡ option_and_then (placed_named old) (source_of renames name)
origin_is old renames a name =
    (λ i. find (λ (t : PlacedTag). same_test renames a name t.name i) (placed_tags old)) ∙ from_name old (source_of renames name)

pub kept_is : (old : List Tag) (renames : List Rename) → Apart renames → (t : PlacedTag) → kept_for old renames t ≡ kept_by_name old renames t
kept_is old renames a t = ap (of_type t.of) (origin_is old renames a t.name)
