-- A recursion on a count of turns, beside a loop that counts up.
use Rattle.std.proofs.Common.{◌≡◌, ℕ, suc, ◌+◌, ◌-◌, ◌<◌, ◌≤◌, Bool, true, false, cond, List, [], ◌∷◌, ◌++◌, length, Ok, Err, ap, ◌∙◌, arith}
use Rattle.st_tree.specs.declared.token.Token.{Token}
use Rattle.st_parser.specs.Inner.Parsers.{Outcome, Parser, Look, ahead, and_then, more_of}

pub one_more : {X : Type 0} {x : X} (f : ℕ → X) (end at : ℕ) → at < end → x ≡ f (end - at) → x ≡ f (suc (end - (at + 1)))
one_more f end at below e = let turn : end - at ≡ suc (end - (at + 1)) = omega arith in e ∙ ap f turn

pub no_more : {X : Type 0} {x : X} (f : ℕ → X) (end at : ℕ) → end ≤ at → x ≡ f (end - at) → x ≡ f 0
no_more f end at done e = let none : end - at ≡ 0 = omega arith in e ∙ ap f none

pub deeper : {X : Type 0} (f : ℕ → X) (n : ℕ) → 0 < n → f n ≡ f (suc (n - 1))
deeper f n some = let e : n ≡ suc (n - 1) = omega arith in ap f e

-- ---- a loop that reads any number of parts: what the whole gives is what the turns that are left give

module _ {A : Type 0} (test : Look → Bool) (p : Parser A) (x : Outcome (List A)) (end at : ℕ) (found : List A) (ts : List Token) (so_far : x ≡ more_of test p (end - at) found ts) where
  pub stops_here : at < end → test (ahead ts) ≡ false → x ≡ Ok (found, ts)
  unfolding more_of
  stops_here below none =
      one_more (λ n. more_of test p n found ts) end at below so_far
      ∙ ap (λ b. cond b (and_then (p ts) (λ a ks. more_of test p (end - (at + 1)) (found ++ a ∷ []) ks)) (Ok (found, ts))) none

  pub goes : at < end → test (ahead ts) ≡ true → x ≡ and_then (p ts) (λ a ks. more_of test p (end - (at + 1)) (found ++ a ∷ []) ks)
  unfolding more_of
  goes below some =
      one_more (λ n. more_of test p n found ts) end at below so_far
      ∙ ap (λ b. cond b (and_then (p ts) (λ a ks. more_of test p (end - (at + 1)) (found ++ a ∷ []) ks)) (Ok (found, ts))) some

  pub no_turn_left : end ≤ at → x ≡ Err (length ts)
  unfolding more_of
  no_turn_left done = no_more (λ n. more_of test p n found ts) end at done so_far
