-- The first fault of two lists is the sooner of the first faults of the two.
use Rattle.std.proofs.Common.{◌≡◌, ℕ, Bool, true, false, List, [], ◌∷◌, ◌++◌, Some, refl, ap, ◌∙◌, arith, append-nil}
use Rattle.std.specs.Prelude.{nat_lt, ◌==◌, ◌&&◌, ◌||◌}
use Rattle.std.specs.List.{fold}
use Rattle.std.proofs.lemmas.Bool.Decides.{nat_tests}
use Rattle.std.proofs.lemmas.Grind.{fold-append}
use Rattle.tri_base.specs.declared.faults.TypeFault.{TypeFault}
use Rattle.st_tree.specs.Typing.Faults.{rank, goes_before, sooner, first_of}
use Rattle.st_types.specs.Inner.Firsts.{soonest}

-- by two numbers
abbrev before : ℕ → ℕ → ℕ → ℕ → Bool
before p r q s = nat_lt p q || (p == q && nat_lt r s)

then_before : (p r q s o t : ℕ) → before p r q s ≡ true → before q s o t ≡ true → before p r o t ≡ true
then_before p r q s o t a b = grind (arith, nat_tests)

not_before : (p r q s o t : ℕ) → before p r q s ≡ false → before q s o t ≡ false → before p r o t ≡ false
not_before p r q s o t a b = grind (arith, nat_tests)

by : (f g h : TypeFault) (a b c : Bool) → goes_before g f ≡ a → goes_before h g ≡ b → goes_before h f ≡ c → sooner (sooner f g) h ≡ sooner f (sooner g h)
by f g h true true true p q r = cc
by f g h true true false p q r = absurd (let e = then_before h.place (rank h.cause) g.place (rank g.cause) f.place (rank f.cause) q p in cc)
by f g h true false c p q r = cc
by f g h false true c p q r = cc
by f g h false false true p q r = absurd (let e = not_before h.place (rank h.cause) g.place (rank g.cause) f.place (rank f.cause) q p in cc)
by f g h false false false p q r = cc

pub sooner-assoc : (f g h : TypeFault) → sooner (sooner f g) h ≡ sooner f (sooner g h)
sooner-assoc f g h = by f g h (goes_before g f) (goes_before h g) (goes_before h f) refl refl refl

fold-sooner : (f g : TypeFault) (fs : List TypeFault) → fold sooner (sooner f g) fs ≡ sooner f (fold sooner g fs)
fold-sooner f g [] = refl
fold-sooner f g (h ∷ fs) = ap (λ x. fold sooner x fs) (sooner-assoc f g h) ∙ fold-sooner f (sooner g h) fs

pub first_of_append : (fs gs : List TypeFault) → first_of (fs ++ gs) ≡ soonest (first_of fs) (first_of gs)
first_of_append [] gs = refl
first_of_append (f ∷ fs) [] = ap (λ l. Some (fold sooner f l)) (append-nil fs)
first_of_append (f ∷ fs) (g ∷ gs) = ap Some (fold-append sooner f fs (g ∷ gs) ∙ fold-sooner (fold sooner f fs) g gs)
