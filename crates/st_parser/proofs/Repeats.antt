-- Any number of parts keeps the laws.
use Rattle.std.proofs.Common.{◌≡◌, ℕ, zero, suc, ◌+◌, ◌<◌, Bool, true, false, cond, ◌⊎◌, inl, inr, List, [], ◌∷◌, ◌++◌, length, Ok, Err, refl, ap, sym, ◌∙◌, subst, append_assoc, append-nil, length-append, arith}
use Rattle.st_tree.specs.declared.token.Token.{Token}
use Rattle.st_tree.specs.Pieces.{Piece, ArePieces, each}
use Rattle.st_parser.specs.Inner.Parsers.{Outcome, Parser, and_then, refuse, first, Look, ahead, more_of, many}
use Rattle.st_parser.proofs.Lawful.{Is, Took, Failed, Lawful, Fits, fits, first_same, ahead_same, split, join, and_then_ok, and_then_err, same_answer}
use Rattle.st_parser.proofs.Choices.{Or, Not, or_left, or_right, not_true, nil_only}

-- ---- the repetition without what was found before

unfoldable pub more : {A : Type 0} → (Look → Bool) → Parser A → ℕ → Parser (List A)
more test p zero ts = refuse ts
more test p (suc turns) ts = cond (test (ahead ts)) (and_then (p ts) (λ a ks. and_then (more test p turns ks) (λ es js. Ok (a ∷ es, js)))) (Ok ([], ts))

abbrev behind : {A : Type 0} → List A → Outcome (List A) → Outcome (List A)
behind found o = and_then o (λ es js. Ok (found ++ es, js))

found_so_far : {A : Type 0} (test : Look → Bool) (p : Parser A) (turns : ℕ) (found : List A) (ts : List Token) → more_of test p turns found ts ≡ behind found (more test p turns ts)
unfolding more more_of
found_so_far test p zero found ts = refl
found_so_far {A} test p (suc turns) found ts = by (test (ahead ts)) (p ts) (λ a ks. found_so_far test p turns (found ++ a ∷ []) ks)
  where
    joined : (a : A) (o : Outcome (List A)) → behind (found ++ a ∷ []) o ≡ behind found (and_then o (λ es js. Ok (a ∷ es, js)))
    joined a (Ok x) = ap (λ l. Ok (l, x.1)) (append_assoc found (a ∷ []) x.0)
    joined a (Err e) = refl

    by : (b : Bool) (o : Outcome A) → ((a : A) (ks : List Token) → more_of test p turns (found ++ a ∷ []) ks ≡ behind (found ++ a ∷ []) (more test p turns ks))
        → cond b (and_then o (λ a ks. more_of test p turns (found ++ a ∷ []) ks)) (Ok (found, ts))
        ≡ behind found (cond b (and_then o (λ a ks. and_then (more test p turns ks) (λ es js. Ok (a ∷ es, js)))) (Ok ([], ts)))
    by true (Ok x) again = again x.0 x.1 ∙ joined x.0 (more test p turns x.1)
    by true (Err e) again = refl
    by false o again = ap (λ l. Ok (l, ts)) (sym (append-nil found))

many_is : {A : Type 0} (test : Look → Bool) (p : Parser A) (turns : ℕ) (ts : List Token) → more test p turns ts ≡ many test p turns ts
many_is {A} test p turns ts = none (more test p turns ts) ∙ sym (found_so_far test p turns [] ts)
  where
    none : (o : Outcome (List A)) → o ≡ behind [] o
    none (Ok x) = refl
    none (Err e) = refl

-- ---- the laws

module _ {A : Type 0} (n : ℕ) (test : Look → Bool) (p p' : Parser A) (s : A → List Piece) (opens stop stop' : Look → Bool) (l : Lawful n p p' (Is s) opens stop)
    (begins : Fits opens test) (ends : Fits stop' (Not test)) (follows : Fits (Or opens stop') stop) (solid : (a : A) (ts : List Token) → Is s a ts → 0 < length ts) where
  abbrev more_p : ℕ → Parser (List A)
  more_p m = more test p m

  abbrev tail : ℕ → A → Parser (List A)
  tail m a ks = and_then (more test p m ks) (λ es js. Ok (a ∷ es, js))

  abbrev keep : A → List A → Parser (List A)
  keep a es js = Ok (a ∷ es, js)

  -- where an item comes
  goes : (m : ℕ) (ts : List Token) → test (ahead ts) ≡ true → more test p (suc m) ts ≡ and_then (p ts) (tail m)
  unfolding more
  goes m ts t = ap (λ b. cond b (and_then (p ts) (tail m)) (Ok ([], ts))) t

  -- where none comes
  stops : (m : ℕ) (ts : List Token) → test (ahead ts) ≡ false → more test p (suc m) ts ≡ Ok ([], ts)
  unfolding more
  stops m ts t = ap (λ b. cond b (and_then (p ts) (tail m)) (Ok ([], ts))) t

  tested : (ts front ks js : List Token) → ts ≡ front ++ ks → first js ≡ first ks → (b : Bool) → test (ahead ts) ≡ b → test (ahead (front ++ js)) ≡ b
  tested ts front ks js whole e b h = ap test (ahead_same (front ++ js) (front ++ ks) (first_same front js ks e) ∙ ap ahead (sym whole)) ∙ h

  one_took : (m : ℕ) (ts : List Token) → test (ahead ts) ≡ true → (a : A) (js : List Token) → p ts ≡ Ok (a, js) → (es : List A) (ks : List Token) → Took (more_p m) (Is (each s)) js es ks
      → Took (more_p (suc m)) (Is (each s)) ts (a ∷ es) ks
  one_took m ts t a js h es ks g =
      let f = l.takes ts a js h in
      let whole : ts ≡ (f.front ++ g.front) ++ ks = f.whole ∙ (ap (λ l. f.front ++ l) g.whole ∙ sym (append_assoc f.front g.front ks)) in
      record {
        front = f.front ++ g.front;
        whole = whole;
        spelled = join (s a) (each s es) f.front g.front f.spelled g.spelled;
        local = λ ms e.
            goes m ((f.front ++ g.front) ++ ms) (tested ts (f.front ++ g.front) ks ms whole e true t)
            ∙ (ap (λ l. and_then (p l) (tail m)) (append_assoc f.front g.front ms)
            ∙ (ap (λ o. and_then o (tail m)) (f.local (g.front ++ ms) (first_same g.front ms ks e ∙ ap first (sym g.whole)))
            ∙ ap (λ o. and_then o (keep a)) (g.local ms e)));
      }

  none_took : (m : ℕ) (ts : List Token) → test (ahead ts) ≡ false → Took (more_p (suc m)) (Is (each s)) ts [] ts
  none_took m ts t = record { front = []; whole = refl; spelled = tt; local = λ js e. stops m js (ap test (ahead_same js ts e) ∙ t) }

  more_takes : (m : ℕ) (ts : List Token) (es : List A) (ks : List Token) → more_p m ts ≡ Ok (es, ks) → Took (more_p m) (Is (each s)) ts es ks
  unfolding more
  more_takes zero ts es ks h = absurd (cc)
  more_takes (suc m) ts es ks h = by (test (ahead ts)) refl h (more_takes m)
    where
      by : (b : Bool) → test (ahead ts) ≡ b → cond b (and_then (p ts) (tail m)) (Ok ([], ts)) ≡ Ok (es, ks)
          → ((us : List Token) (xs : List A) (vs : List Token) → more_p m us ≡ Ok (xs, vs) → Took (more_p m) (Is (each s)) us xs vs) → Took (more_p (suc m)) (Is (each s)) ts es ks
      by false t h rec = subst (λ (y : List A × List Token). Took (more_p (suc m)) (Is (each s)) ts y.0 y.1) (same_answer [] es ts ks h) (none_took m ts t)
      by true t h rec =
          let (a, js, one, k) = and_then_ok (p ts) (tail m) (es, ks) h in
          let (xs, is, two, e) = and_then_ok (more_p m js) (keep a) (es, ks) k in
          subst (λ (y : List A × List Token). Took (more_p (suc m)) (Is (each s)) ts y.0 y.1) (same_answer (a ∷ xs) es is ks e) (one_took m ts t a js one xs is (rec js xs is two))

  item_failed : (m : ℕ) (ts : List Token) → test (ahead ts) ≡ true → (left : ℕ) → p ts ≡ Err left → Failed (more_p (suc m)) (Is (each s)) ts left
  item_failed m ts t left h =
      let f = l.fails ts left h in
      record {
        front = f.front;
        ks = f.ks;
        whole = f.whole;
        remains = f.remains;
        local = λ js e. goes m (f.front ++ js) (tested ts f.front f.ks js f.whole e true t) ∙ ap (λ o. and_then o (tail m)) (f.local js e);
        end = f.end;
        value = f.value ∷ [];
        completed = subst (ArePieces (s f.value ++ [])) (append-nil (f.front ++ f.end)) (join (s f.value) [] (f.front ++ f.end) [] f.completed tt);
      }

  later_failed : (m : ℕ) (ts : List Token) → test (ahead ts) ≡ true → (left : ℕ) (a : A) (js : List Token) → p ts ≡ Ok (a, js) → Failed (more_p m) (Is (each s)) js left
      → Failed (more_p (suc m)) (Is (each s)) ts left
  later_failed m ts t left a js h g =
      let f = l.takes ts a js h in
      let whole : ts ≡ (f.front ++ g.front) ++ g.ks = f.whole ∙ (ap (λ l. f.front ++ l) g.whole ∙ sym (append_assoc f.front g.front g.ks)) in
      record {
        front = f.front ++ g.front;
        ks = g.ks;
        whole = whole;
        remains = g.remains;
        local = λ ms e.
            goes m ((f.front ++ g.front) ++ ms) (tested ts (f.front ++ g.front) g.ks ms whole e true t)
            ∙ (ap (λ l. and_then (p l) (tail m)) (append_assoc f.front g.front ms)
            ∙ (ap (λ o. and_then o (tail m)) (f.local (g.front ++ ms) (first_same g.front ms g.ks e ∙ ap first (sym g.whole)))
            ∙ ap (λ o. and_then o (keep a)) (g.local ms e)));
        end = g.end;
        value = a ∷ g.value;
        completed = subst (ArePieces (s a ++ each s g.value)) (sym (append_assoc f.front g.front g.end)) (join (s a) (each s g.value) f.front (g.front ++ g.end) f.spelled g.completed);
      }

  more_fails : (m : ℕ) (ts : List Token) (left : ℕ) → more_p m ts ≡ Err left → Failed (more_p m) (Is (each s)) ts left
  unfolding more
  more_fails zero ts left h = record { front = []; ks = ts; whole = refl; remains = cc; local = λ js e. refl; end = []; value = []; completed = tt }
  more_fails (suc m) ts left h = by (test (ahead ts)) refl h (more_fails m)
    where
      deeper : test (ahead ts) ≡ true → (a : A) (js : List Token) → p ts ≡ Ok (a, js)
          → (more_p m js ≡ Err left) ⊎ ((xs : List A) × (is : List Token) × (more_p m js ≡ Ok (xs, is)) × (◌≡◌ {A = Outcome (List A)} (Ok (a ∷ xs, is)) (Err left)))
          → ((us : List Token) (left : ℕ) → more_p m us ≡ Err left → Failed (more_p m) (Is (each s)) us left) → Failed (more_p (suc m)) (Is (each s)) ts left
      deeper t a js one (inl two) rec = later_failed m ts t left a js one (rec js left two)
      deeper t a js one (inr (xs, is, two, e)) rec = absurd (cc)

      split_by : test (ahead ts) ≡ true → (p ts ≡ Err left) ⊎ ((a : A) × (js : List Token) × (p ts ≡ Ok (a, js)) × (tail m a js ≡ Err left))
          → ((us : List Token) (left : ℕ) → more_p m us ≡ Err left → Failed (more_p m) (Is (each s)) us left) → Failed (more_p (suc m)) (Is (each s)) ts left
      split_by t (inl one) rec = item_failed m ts t left one
      split_by t (inr (a, js, one, k)) rec = deeper t a js one (and_then_err (more_p m js) (keep a) left k) rec

      by : (b : Bool) → test (ahead ts) ≡ b → cond b (and_then (p ts) (tail m)) (Ok ([], ts)) ≡ Err left
          → ((us : List Token) (left : ℕ) → more_p m us ≡ Err left → Failed (more_p m) (Is (each s)) us left) → Failed (more_p (suc m)) (Is (each s)) ts left
      by false t h rec = absurd (cc)
      by true t h rec = split_by t (and_then_err (p ts) (tail m) left h) rec

  more_heads : (es : List A) (front ks : List Token) → Is (each s) es front → stop' (ahead ks) ≡ true → Or opens stop' (ahead (front ++ ks)) ≡ true
  more_heads [] front ks h e =
      ap (λ l. Or opens stop' (ahead (l ++ ks))) (nil_only front h) ∙ or_right (opens (ahead ks)) (stop' (ahead ks)) e
  more_heads (a ∷ es) front ks h e =
      let d = split (s a) (each s es) front h in
      ap (λ l. Or opens stop' (ahead (l ++ ks))) d.whole
      ∙ (ap (λ l. Or opens stop' (ahead l)) (append_assoc d.front d.back ks)
      ∙ or_left (opens (ahead (d.front ++ (d.back ++ ks)))) (stop' (ahead (d.front ++ (d.back ++ ks))))
      (l.heads a d.front (d.back ++ ks) d.left (fits (Or opens stop') stop follows (ahead (d.back ++ ks)) (more_heads es d.back ks d.right e))))

  more_again : (m : ℕ) (es : List A) (front ks : List Token) → Is (each s) es front → length front < m → length front < n → stop' (ahead ks) ≡ true → more_p m (front ++ ks) ≡ Ok (es, ks)
  more_again zero es front ks h turns short e = absurd (omega arith)
  more_again (suc m) [] front ks h turns short e =
      ap (λ l. more_p (suc m) (l ++ ks)) (nil_only front h) ∙ stops m ks (not_true (test (ahead ks)) (fits stop' (Not test) ends (ahead ks) e))
  more_again (suc m) (a ∷ es) front ks h turns short e =
      let d = split (s a) (each s es) front h in
      let both : length front ≡ length d.front + length d.back = ap length d.whole ∙ length-append d.front d.back in
      let some : 0 < length d.front = solid a d.front d.left in
      let next = fits (Or opens stop') stop follows (ahead (d.back ++ ks)) (more_heads es d.back ks d.right e) in
      let comes = fits opens test begins (ahead (d.front ++ (d.back ++ ks))) (l.heads a d.front (d.back ++ ks) d.left next) in
      ap (λ l. more_p (suc m) (l ++ ks)) d.whole
      ∙ (ap (more_p (suc m)) (append_assoc d.front d.back ks)
      ∙ (goes m (d.front ++ (d.back ++ ks)) comes
      ∙ (ap (λ o. and_then o (tail m)) (l.again a d.front (d.back ++ ks) d.left (omega arith) next)
      ∙ ap (λ o. and_then o (keep a)) (more_again m es d.back ks d.right (omega arith) (omega arith) e))))

  more_same : (m : ℕ) (ts : List Token) → length ts < m → length ts < n → more test p m ts ≡ more test p' (suc m) ts
  unfolding more
  more_same zero ts turns short = absurd (omega arith)
  more_same (suc m) ts turns short = ap (λ o. cond (test (ahead ts)) o (Ok ([], ts))) (by (p ts) refl (more_same m) ∙ ap (λ o. and_then o (λ a ks. and_then (more test p' (suc m) ks) (λ es js. Ok (a ∷ es, js)))) (l.same ts short))
    where
      by : (o : Outcome A) → p ts ≡ o → ((us : List Token) → length us < m → length us < n → more test p m us ≡ more test p' (suc m) us)
          → and_then (p ts) (tail m) ≡ and_then (p ts) (λ a ks. and_then (more test p' (suc m) ks) (λ es js. Ok (a ∷ es, js)))
      by (Err e) h rec = ap (λ o. and_then o (tail m)) h ∙ sym (ap (λ o. and_then o (λ a ks. and_then (more test p' (suc m) ks) (λ es js. Ok (a ∷ es, js)))) h)
      by (Ok x) h rec =
          let f = l.takes ts x.0 x.1 h in
          let some : 0 < length f.front = solid x.0 f.front f.spelled in
          let parts : length ts ≡ length f.front + length x.1 = ap length f.whole ∙ length-append f.front x.1 in
          ap (λ o. and_then o (tail m)) h
          ∙ (ap (λ o. and_then o (keep x.0)) (rec x.1 (omega arith) (omega arith))
          ∙ sym (ap (λ o. and_then o (λ a ks. and_then (more test p' (suc m) ks) (λ es js. Ok (a ∷ es, js)))) h))

  pub more_part : Lawful n (more test p n) (more test p' (suc n)) (Is (each s)) (Or opens stop') stop'
  more_part = record {
    takes = more_takes n;
    fails = more_fails n;
    again = λ es front ks h short e. more_again n es front ks h short short e;
    heads = more_heads;
    same = λ ts short. more_same n ts short short;
    sample = record { value = []; tokens = []; spelled = tt };
  }

  pub many_part : Lawful n (many test p n) (many test p' (suc n)) (Is (each s)) (Or opens stop') stop'
  many_part = subst (λ (f : Parser (List A)). Lawful n f (many test p' (suc n)) (Is (each s)) (Or opens stop') stop') (λ i ts. many_is test p n ts i)
      (subst (λ (f : Parser (List A)). Lawful n (more test p n) f (Is (each s)) (Or opens stop') stop') (λ i ts. many_is test p' (suc n) ts i) more_part)
