-- Parts put together keep the laws.
use Rattle.std.proofs.Common.{◌≡◌, ℕ, suc, ◌+◌, ◌<◌, Bool, true, ◌⊎◌, inl, inr, List, ◌++◌, length, Ok, Err, refl, ap, sym, ◌∙◌, subst, append_assoc, length-append, arith}
use Rattle.st_tree.specs.declared.token.Token.{Token}
use Rattle.st_tree.specs.Pieces.{Piece, ArePieces}
use Rattle.st_parser.specs.Inner.Parsers.{Outcome, Parser, and_then, first, Look, ahead, one, ◌⨟◌}
use Rattle.st_parser.proofs.Lawful.{Is, Took, Failed, Lawful, Fits, fits, first_same, split, join, and_then_ok, and_then_err, same_answer}

-- ---- one and then the other

abbrev pub pair : {A B : Type 0} → (A → List Piece) → (B → List Piece) → A × B → List Piece
pair s r x = s x.0 ++ r x.1

module _ {A B : Type 0} (n : ℕ) (p p' : Parser A) (q q' : Parser B) (s : A → List Piece) (r : B → List Piece) (opens stop opens' stop' : Look → Bool)
    (lp : Lawful n p p' (Is s) opens stop) (lq : Lawful n q q' (Is r) opens' stop') (meet : Fits opens' stop) where
  abbrev tail : A → Parser (A × B)
  tail a = λ ks. and_then (q ks) (λ b js. Ok ((a, b), js))

  -- where both parts are read
  runs : (xs ks ms : List Token) (a : A) (b : B) → p (xs ++ ks) ≡ Ok (a, ks) → q ks ≡ Ok (b, ms) → (p ⨟ q) (xs ++ ks) ≡ Ok ((a, b), ms)
  runs xs ks ms a b h k = ap (λ o. and_then o tail) h ∙ ap (λ o. and_then o (λ b js. Ok ((a, b), js))) k

  took : (ts : List Token) (a : A) (js : List Token) (b : B) (ks : List Token) → p ts ≡ Ok (a, js) → q js ≡ Ok (b, ks) → Took (p ⨟ q) (Is (pair s r)) ts (a, b) ks
  took ts a js b ks h k =
      let f = lp.takes ts a js h in
      let g = lq.takes js b ks k in
      record {
        front = f.front ++ g.front;
        whole = f.whole ∙ (ap (λ l. f.front ++ l) g.whole ∙ sym (append_assoc f.front g.front ks));
        spelled = join (s a) (r b) f.front g.front f.spelled g.spelled;
        local = λ ms e.
            ap (p ⨟ q) (append_assoc f.front g.front ms)
            ∙ runs f.front (g.front ++ ms) ms a b (f.local (g.front ++ ms) (first_same g.front ms ks e ∙ ap first (sym g.whole))) (g.local ms e);
      }

  both_takes : (ts : List Token) (x : A × B) (ks : List Token) → (p ⨟ q) ts ≡ Ok (x, ks) → Took (p ⨟ q) (Is (pair s r)) ts x ks
  both_takes ts x ks h =
      let (a, js, one, k) = and_then_ok (p ts) tail (x, ks) h in
      let (b, is, two, m) = and_then_ok (q js) (λ b js. Ok ((a, b), js)) (x, ks) k in
      subst (λ (y : (A × B) × List Token). Took (p ⨟ q) (Is (pair s r)) ts y.0 y.1) (same_answer (a, b) x is ks m) (took ts a js b is one two)

  first_fails : (ts : List Token) (left : ℕ) → p ts ≡ Err left → Failed (p ⨟ q) (Is (pair s r)) ts left
  first_fails ts left h =
      let f = lp.fails ts left h in
      record {
        front = f.front;
        ks = f.ks;
        whole = f.whole;
        remains = f.remains;
        local = λ js e. ap (λ o. and_then o tail) (f.local js e);
        end = f.end ++ lq.sample.tokens;
        value = (f.value, lq.sample.value);
        completed = subst (ArePieces (pair s r (f.value, lq.sample.value))) (append_assoc f.front f.end lq.sample.tokens)
            (join (s f.value) (r lq.sample.value) (f.front ++ f.end) lq.sample.tokens f.completed lq.sample.spelled);
      }

  second_fails : (ts : List Token) (left : ℕ) (a : A) (js : List Token) → p ts ≡ Ok (a, js) → q js ≡ Err left → Failed (p ⨟ q) (Is (pair s r)) ts left
  second_fails ts left a js h k =
      let f = lp.takes ts a js h in
      let g = lq.fails js left k in
      record {
        front = f.front ++ g.front;
        ks = g.ks;
        whole = f.whole ∙ (ap (λ l. f.front ++ l) g.whole ∙ sym (append_assoc f.front g.front g.ks));
        remains = g.remains;
        local = λ ms e.
            ap (p ⨟ q) (append_assoc f.front g.front ms)
            ∙ (ap (λ o. and_then o tail) (f.local (g.front ++ ms) (first_same g.front ms g.ks e ∙ ap first (sym g.whole)))
            ∙ ap (λ o. and_then o (λ b is. Ok ((a, b), is))) (g.local ms e));
        end = g.end;
        value = (a, g.value);
        completed = subst (ArePieces (pair s r (a, g.value))) (sym (append_assoc f.front g.front g.end))
            (join (s a) (r g.value) f.front (g.front ++ g.end) f.spelled g.completed);
      }

  both_fails : (ts : List Token) (left : ℕ) → (p ⨟ q) ts ≡ Err left → Failed (p ⨟ q) (Is (pair s r)) ts left
  both_fails ts left h = by (and_then_err (p ts) tail left h)
    where
      inner : (a : A) (js : List Token) → p ts ≡ Ok (a, js) → (q js ≡ Err left) ⊎ ((b : B) × (is : List Token) × (q js ≡ Ok (b, is)) × (◌≡◌ {A = Outcome (A × B)} (Ok ((a, b), is)) (Err left))) → Failed (p ⨟ q) (Is (pair s r)) ts left
      inner a js one (inl two) = second_fails ts left a js one two
      inner a js one (inr (b, is, two, m)) = absurd (cc)

      by : (p ts ≡ Err left) ⊎ ((a : A) × (js : List Token) × (p ts ≡ Ok (a, js)) × (tail a js ≡ Err left)) → Failed (p ⨟ q) (Is (pair s r)) ts left
      by (inl one) = first_fails ts left one
      by (inr (a, js, one, k)) = inner a js one (and_then_err (q js) (λ b is. Ok ((a, b), is)) left k)

  both_again : (x : A × B) (front ks : List Token) → Is (pair s r) x front → length front < n → stop' (ahead ks) ≡ true → (p ⨟ q) (front ++ ks) ≡ Ok (x, ks)
  both_again x front ks h short e =
      let d = split (s x.0) (r x.1) front h in
      let long : length d.front + length d.back < n = omega (arith, ap length d.whole, length-append d.front d.back) in
      let next = fits opens' stop meet (ahead (d.back ++ ks)) (lq.heads x.1 d.back ks d.right e) in
      ap (λ l. (p ⨟ q) (l ++ ks)) d.whole
      ∙ (ap (p ⨟ q) (append_assoc d.front d.back ks)
      ∙ runs d.front (d.back ++ ks) ks x.0 x.1 (lp.again x.0 d.front (d.back ++ ks) d.left (omega arith) next) (lq.again x.1 d.back ks d.right (omega arith) e))

  both_heads : (x : A × B) (front ks : List Token) → Is (pair s r) x front → stop' (ahead ks) ≡ true → opens (ahead (front ++ ks)) ≡ true
  both_heads x front ks h e =
      let d = split (s x.0) (r x.1) front h in
      ap (λ l. opens (ahead (l ++ ks))) d.whole
      ∙ (ap (λ l. opens (ahead l)) (append_assoc d.front d.back ks)
      ∙ lp.heads x.0 d.front (d.back ++ ks) d.left (fits opens' stop meet (ahead (d.back ++ ks)) (lq.heads x.1 d.back ks d.right e)))

  both_same : (ts : List Token) → length ts < n → (p ⨟ q) ts ≡ (p' ⨟ q') ts
  both_same ts short = by (p ts) refl ∙ ap (λ o. and_then o (λ a ks. and_then (q' ks) (λ b js. Ok ((a, b), js)))) (lp.same ts short)
    where
      by : (o : Outcome A) → p ts ≡ o → and_then (p ts) tail ≡ and_then (p ts) (λ a ks. and_then (q' ks) (λ b js. Ok ((a, b), js)))
      by (Err e) h = ap (λ o. and_then o tail) h ∙ sym (ap (λ o. and_then o (λ a ks. and_then (q' ks) (λ b js. Ok ((a, b), js)))) h)
      by (Ok x) h =
          let f = lp.takes ts x.0 x.1 h in
          let fewer : length x.1 < n = omega (arith, ap length f.whole, length-append f.front x.1) in
          ap (λ o. and_then o tail) h
          ∙ (ap (λ o. and_then o (λ b js. Ok ((x.0, b), js))) (lq.same x.1 fewer)
          ∙ sym (ap (λ o. and_then o (λ a ks. and_then (q' ks) (λ b js. Ok ((a, b), js)))) h))

  pub both : Lawful n (p ⨟ q) (p' ⨟ q') (Is (pair s r)) opens stop'
  both = record {
    takes = both_takes;
    fails = both_fails;
    again = both_again;
    heads = both_heads;
    same = both_same;
    sample = record {
      value = (lp.sample.value, lq.sample.value);
      tokens = lp.sample.tokens ++ lq.sample.tokens;
      spelled = join (s lp.sample.value) (r lq.sample.value) lp.sample.tokens lq.sample.tokens lp.sample.spelled lq.sample.spelled;
    };
  }

-- ---- a part of at least a token, and another of fewer

module _ {A B : Type 0} (n : ℕ) (p p' : Parser A) (q q' : Parser B) (s : A → List Piece) (r : B → List Piece) (opens stop opens' stop' : Look → Bool)
    (lp : Lawful (suc n) p p' (Is s) opens stop) (lq : Lawful n q q' (Is r) opens' stop') (meet : Fits opens' stop) (solid : (a : A) (ts : List Token) → Is s a ts → 0 < length ts) where
  abbrev flat : A → Parser (A × B)
  flat a ks = and_then {B = A × B} (q ks) (λ b js. Ok ((a, b), js))

  abbrev deep : A → Parser (A × B)
  deep a ks = and_then {B = A × B} (q' ks) (λ b js. Ok ((a, b), js))

  short : Lawful n p p' (Is s) opens stop
  short = record {
    takes = lp.takes;
    fails = lp.fails;
    again = λ a front ks h few. lp.again a front ks h (omega arith);
    heads = lp.heads;
    same = λ ts few. lp.same ts (omega arith);
    sample = lp.sample;
  }

  below : Lawful n (p ⨟ q) (p' ⨟ q') (Is (pair s r)) opens stop'
  below = both n p p' q q' s r opens stop opens' stop' short lq meet

  solid_again : (x : A × B) (front ks : List Token) → Is (pair s r) x front → length front < suc n → stop' (ahead ks) ≡ true → (p ⨟ q) (front ++ ks) ≡ Ok (x, ks)
  solid_again x front ks h few e =
      let d = split (s x.0) (r x.1) front h in
      let some = solid x.0 d.front d.left in
      let long : length d.front + length d.back < suc n = omega (arith, ap length d.whole, length-append d.front d.back) in
      let next = fits opens' stop meet (ahead (d.back ++ ks)) (lq.heads x.1 d.back ks d.right e) in
      ap (λ l. (p ⨟ q) (l ++ ks)) d.whole
      ∙ (ap (p ⨟ q) (append_assoc d.front d.back ks)
      ∙ (ap (λ o. and_then o flat) (lp.again x.0 d.front (d.back ++ ks) d.left (omega arith) next)
      ∙ ap (λ o. and_then o (λ b js. Ok ((x.0, b), js))) (lq.again x.1 d.back ks d.right (omega arith) e)))

  solid_same : (ts : List Token) → length ts < suc n → (p ⨟ q) ts ≡ (p' ⨟ q') ts
  solid_same ts few = by (p ts) refl ∙ ap (λ o. and_then o deep) (lp.same ts few)
    where
      by : (o : Outcome A) → p ts ≡ o → and_then {B = A × B} (p ts) flat ≡ and_then {B = A × B} (p ts) deep
      by (Err e) h = ap (λ o. and_then o flat) h ∙ sym (ap (λ o. and_then o deep) h)
      by (Ok x) h =
          let f = lp.takes ts x.0 x.1 h in
          let some = solid x.0 f.front f.spelled in
          let fewer : length x.1 < n = omega (arith, ap length f.whole, length-append f.front x.1) in
          ap (λ o. and_then o flat) h
          ∙ (ap (λ o. and_then o (λ b js. Ok ((x.0, b), js))) (lq.same x.1 fewer)
          ∙ sym (ap (λ o. and_then o deep) h))

  pub both_solid : Lawful (suc n) (p ⨟ q) (p' ⨟ q') (Is (pair s r)) opens stop'
  both_solid = record {
    takes = λ ts. below.takes ts;
    fails = λ ts. below.fails ts;
    again = solid_again;
    heads = λ x. below.heads x;
    same = solid_same;
    sample = below.sample;
  }
