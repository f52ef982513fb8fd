-- One token, a word before a part, what a part makes, and choices between parts keep the laws.
use Rattle.std.proofs.Common.{◌≡◌, ℕ, suc, ◌<◌, Bool, true, false, not, ◌||◌, cond, ◌⊎◌, inl, inr, List, [], ◌∷◌, ◌++◌, length, Option, Some, None, Ok, Err, refl, ap, sym, ◌∙◌, subst, arith}
use denote.Enum.Bare.{same_true, true_same}
use Rattle.st_tree.specs.declared.token.Fixed.{Fixed}
use Rattle.st_tree.specs.contracts.token.Fixed.{the_type}
use Rattle.st_tree.specs.declared.token.TokenKind.{TokenKind}
use Rattle.st_tree.specs.declared.token.TokenKind.TheVariants as kind
use Rattle.st_tree.specs.declared.token.Token.{Token}
use Rattle.st_tree.specs.Pieces.{Piece, IsPiece, ArePieces, word}
use Rattle.st_tree.specs.Pieces as pieces
use Rattle.st_parser.specs.Inner.Parsers.{Parser, and_then, first, Look, ahead, one, one_of, made, either, maybe, expect, after, the_word, is_kind, sees}
use Rattle.st_parser.proofs.Lawful.{Is, Took, Failed, Sample, Lawful, Fits, fits, first_same, ahead_same, and_then_ok, and_then_err, same_answer}

-- ---- other words for the same

-- what is spelled, said in another way
pub recast : {A : Type 0} (n : ℕ) (p q : Parser A) (S T : A → List Token → Type 0) (opens stop : Look → Bool) → ((a : A) (ts : List Token) → S a ts → T a ts) → ((a : A) (ts : List Token) → T a ts → S a ts)
    → Lawful n p q S opens stop → Lawful n p q T opens stop
recast n p q S T opens stop to from l = record {
  takes = λ ts a ks h. let f = l.takes ts a ks h in record { front = f.front; whole = f.whole; spelled = to a f.front f.spelled; local = f.local };
  fails = λ ts left h. let f = l.fails ts left h in
      record { front = f.front; ks = f.ks; whole = f.whole; remains = f.remains; local = f.local; end = f.end; value = f.value; completed = to f.value (f.front ++ f.end) f.completed };
  again = λ a front ks h. l.again a front ks (from a front h);
  heads = λ a front ks h. l.heads a front ks (from a front h);
  same = l.same;
  sample = record { value = l.sample.value; tokens = l.sample.tokens; spelled = to l.sample.value l.sample.tokens l.sample.spelled };
}

-- more that may come first, and less that may follow
pub adjust : {A : Type 0} (n : ℕ) (p q : Parser A) (S : A → List Token → Type 0) (opens stop opens' stop' : Look → Bool) → Fits opens opens' → Fits stop' stop
    → Lawful n p q S opens stop → Lawful n p q S opens' stop'
adjust n p q S opens stop opens' stop' more less l = record {
  takes = l.takes;
  fails = l.fails;
  again = λ a front ks h short e. l.again a front ks h short (fits stop' stop less (ahead ks) e);
  heads = λ a front ks h e. fits opens opens' more (ahead (front ++ ks)) (l.heads a front ks h (fits stop' stop less (ahead ks) e));
  same = l.same;
  sample = l.sample;
}

-- at lists with fewer tokens
pub fewer : {A : Type 0} (n : ℕ) (p q : Parser A) (S : A → List Token → Type 0) (opens stop : Look → Bool) → Lawful (suc n) p q S opens stop → Lawful n p q S opens stop
fewer n p q S opens stop l = record {
  takes = l.takes;
  fails = l.fails;
  again = λ a front ks h short. l.again a front ks h (omega arith);
  heads = l.heads;
  same = λ ts short. l.same ts (omega arith);
  sample = l.sample;
}

-- ---- one token

abbrev pub Always : Look → Bool
Always o = true

pub record Reads_one {A : Type 0} (f : Token → Option A) (piece : A → Piece) (opens : Look → Bool) : Type 0 where
  pub gives : (t : Token) (a : A) → f t ≡ Some a → IsPiece (piece a) t
  pub known : (t : Token) (a : A) → IsPiece (piece a) t → f t ≡ Some a
  pub seen : (t : Token) (a : A) → f t ≡ Some a → opens (Some t.kind) ≡ true
  pub value : A
  pub token : Token
  pub sample : f token ≡ Some value

module _ {A : Type 0} (n : ℕ) (f : Token → Option A) (piece : A → Piece) (opens : Look → Bool) (l : Reads_one f piece opens) where
  abbrev spell : A → List Piece
  spell a = piece a ∷ []

  one_took : (t : Token) (ts : List Token) (o : Option A) → f t ≡ o → (a : A) (ks : List Token) → one_of o t ts ≡ Ok (a, ks) → Took (one f) (Is spell) (t ∷ ts) a ks
  one_took t ts None e a ks h = absurd (cc)
  one_took t ts (Some b) e a ks h =
      subst (λ (y : A × List Token). Took (one f) (Is spell) (t ∷ ts) y.0 y.1) (same_answer b a ts ks h)
      (record { front = t ∷ []; whole = refl; spelled = (l.gives t b e, tt); local = λ js _. ap (λ o. one_of o t js) e })

  one_takes : (ts : List Token) (a : A) (ks : List Token) → one f ts ≡ Ok (a, ks) → Took (one f) (Is spell) ts a ks
  one_takes [] a ks h = absurd (cc)
  one_takes (t ∷ ts) a ks h = one_took t ts (f t) refl a ks h

  -- it refuses the next token
  refused : (t : Token) → f t ≡ None → (js : List Token) → first js ≡ Some t → one f js ≡ Err (length js)
  refused t e [] h = refl
  refused t e (u ∷ us) h =
      let same : u ≡ t = cc in
      ap (λ o. one_of o u us) (ap f same ∙ e)

  sample_of : Sample (Is spell)
  sample_of = record { value = l.value; tokens = l.token ∷ []; spelled = (l.gives l.token l.value l.sample, tt) }

  one_failed : (t : Token) (ts : List Token) (o : Option A) → f t ≡ o → (left : ℕ) → one_of o t ts ≡ Err left → Failed (one f) (Is spell) (t ∷ ts) left
  one_failed t ts (Some b) e left h = absurd (cc)
  one_failed t ts None e left h = record {
    front = [];
    ks = t ∷ ts;
    whole = refl;
    remains = cc;
    local = refused t e;
    end = l.token ∷ [];
    value = l.value;
    completed = (l.gives l.token l.value l.sample, tt);
  }

  one_fails : (ts : List Token) (left : ℕ) → one f ts ≡ Err left → Failed (one f) (Is spell) ts left
  one_fails [] left h = record {
    front = [];
    ks = [];
    whole = refl;
    remains = cc;
    local = λ js e. nothing js e;
    end = l.token ∷ [];
    value = l.value;
    completed = (l.gives l.token l.value l.sample, tt);
  }
    where
      nothing : (js : List Token) → first js ≡ None → one f js ≡ Err (length js)
      nothing [] e = refl
      nothing (t ∷ ts) e = absurd (cc)
  one_fails (t ∷ ts) left h = one_failed t ts (f t) refl left h

  one_again : (a : A) (front ks : List Token) → Is spell a front → one f (front ++ ks) ≡ Ok (a, ks)
  one_again a [] ks h = absurd h
  one_again a (t ∷ []) ks h = ap (λ o. one_of o t ks) (l.known t a h.0)
  one_again a (t ∷ u ∷ us) ks h = absurd h.1

  one_heads : (a : A) (front ks : List Token) → Is spell a front → opens (ahead (front ++ ks)) ≡ true
  one_heads a [] ks h = absurd h
  one_heads a (t ∷ []) ks h = l.seen t a (l.known t a h.0)
  one_heads a (t ∷ u ∷ us) ks h = absurd h.1

  pub one_token : Lawful n (one f) (one f) (Is (λ a. piece a ∷ [])) opens Always
  one_token = record {
    takes = one_takes;
    fails = one_fails;
    again = λ a front ks h _ _. one_again a front ks h;
    heads = λ a front ks h _. one_heads a front ks h;
    same = λ ts _. refl;
    sample = sample_of;
  }

-- ---- a reserved word or symbol

word_true : (b : Bool) (u : Unit {0}) → the_word b ≡ Some u → b ≡ true
word_true true u h = refl
word_true false u h = absurd (cc)

pub is_kind_true : (w : Fixed) (k : TokenKind) → is_kind w k ≡ true → k ≡ kind.Fixed w
is_kind_true w (kind.Fixed v) h = ap (λ x. kind.Fixed x) (same_true the_type tt v w h)
is_kind_true w (kind.Name m) h = absurd (cc)
is_kind_true w (kind.Number m) h = absurd (cc)

pub is_kind_same : (w : Fixed) (k : TokenKind) → k ≡ kind.Fixed w → is_kind w k ≡ true
is_kind_same w k h = ap (is_kind w) h ∙ true_same the_type w w refl

pub expected : (w : Fixed) → Reads_one (λ t. the_word (is_kind w t.kind)) (λ _. pieces.Anywhere (kind.Fixed w)) (sees w)
expected w = record {
  gives = λ t u h. is_kind_true w t.kind (word_true (is_kind w t.kind) u h);
  known = λ t u h. ap the_word (is_kind_same w t.kind h);
  seen = λ t u h. word_true (is_kind w t.kind) u h;
  value = tt;
  token = record { kind = kind.Fixed w; place = 0 };
  sample = ap the_word (is_kind_same w (kind.Fixed w) refl);
}

pub expect_word : (n : ℕ) (w : Fixed) → Lawful n (expect w) (expect w) (Is (λ _. word w)) (sees w) Always
expect_word n w = one_token n (λ t. the_word (is_kind w t.kind)) (λ _. pieces.Anywhere (kind.Fixed w)) (sees w) (expected w)

-- ---- a part behind a word, which is one token longer

module _ {A : Type 0} (n : ℕ) (w : Fixed) (q q' : Parser A) (r : A → List Piece) (opens stop : Look → Bool) (l : Lawful n q q' (Is r) opens stop) where
  abbrev longer : A → List Piece
  longer a = pieces.Anywhere (kind.Fixed w) ∷ r a

  -- the word comes first
  leads : (t : Token) (ts : List Token) → t.kind ≡ kind.Fixed w → after w q (t ∷ ts) ≡ q ts
  leads t ts e = ap (λ o. and_then (one_of o t ts) (λ _ ks. q ks)) (ap the_word (is_kind_same w t.kind e))

  is_word : (t : Token) (u : Unit {0}) → the_word (is_kind w t.kind) ≡ Some u → t.kind ≡ kind.Fixed w
  is_word t u h = is_kind_true w t.kind (word_true (is_kind w t.kind) u h)

  after_took : (t : Token) (ts : List Token) (o : Option (Unit {0})) → the_word (is_kind w t.kind) ≡ o → (a : A) (ks : List Token) → and_then (one_of o t ts) (λ _ js. q js) ≡ Ok (a, ks)
      → Took (after w q) (Is longer) (t ∷ ts) a ks
  after_took t ts None e a ks h = absurd (cc)
  after_took t ts (Some u) e a ks h =
      let f = l.takes ts a ks h in
      let is = is_word t u e in
      record { front = t ∷ f.front; whole = ap (λ l. t ∷ l) f.whole; spelled = (is, f.spelled); local = λ js g. leads t (f.front ++ js) is ∙ f.local js g }

  after_takes : (ts : List Token) (a : A) (ks : List Token) → after w q ts ≡ Ok (a, ks) → Took (after w q) (Is longer) ts a ks
  after_takes [] a ks h = absurd (cc)
  after_takes (t ∷ ts) a ks h = after_took t ts (the_word (is_kind w t.kind)) refl a ks h

  -- it refuses another token
  turns_away : (t : Token) → the_word (is_kind w t.kind) ≡ None → (js : List Token) → first js ≡ Some t → after w q js ≡ Err (length js)
  turns_away t e [] h = refl
  turns_away t e (u ∷ us) h =
      let same : u ≡ t = cc in
      ap (λ o. and_then (one_of o u us) (λ _ ks. q ks)) (ap (λ (x : Token). the_word (is_kind w x.kind)) same ∙ e)

  abbrev first_token : Token
  first_token = record { kind = kind.Fixed w; place = 0 }

  after_failed : (t : Token) (ts : List Token) (o : Option (Unit {0})) → the_word (is_kind w t.kind) ≡ o → (left : ℕ) → and_then (one_of o t ts) (λ _ js. q js) ≡ Err left
      → Failed (after w q) (Is longer) (t ∷ ts) left
  after_failed t ts None e left h = record {
    front = [];
    ks = t ∷ ts;
    whole = refl;
    remains = cc;
    local = turns_away t e;
    end = first_token ∷ l.sample.tokens;
    value = l.sample.value;
    completed = (refl, l.sample.spelled);
  }
  after_failed t ts (Some u) e left h =
      let f = l.fails ts left h in
      let is = is_word t u e in
      record {
        front = t ∷ f.front;
        ks = f.ks;
        whole = ap (λ l. t ∷ l) f.whole;
        remains = f.remains;
        local = λ js g. leads t (f.front ++ js) is ∙ f.local js g;
        end = f.end;
        value = f.value;
        completed = (is, f.completed);
      }

  no_token : (js : List Token) → first js ≡ None → after w q js ≡ Err (length js)
  no_token [] e = refl
  no_token (t ∷ ts) e = absurd (cc)

  after_fails : (ts : List Token) (left : ℕ) → after w q ts ≡ Err left → Failed (after w q) (Is longer) ts left
  after_fails [] left h = record {
    front = [];
    ks = [];
    whole = refl;
    remains = cc;
    local = no_token;
    end = first_token ∷ l.sample.tokens;
    value = l.sample.value;
    completed = (refl, l.sample.spelled);
  }
  after_fails (t ∷ ts) left h = after_failed t ts (the_word (is_kind w t.kind)) refl left h

  after_again : (a : A) (front ks : List Token) → Is longer a front → length front < suc n → stop (ahead ks) ≡ true → after w q (front ++ ks) ≡ Ok (a, ks)
  after_again a [] ks h short e = absurd h
  after_again a (t ∷ ts) ks h short e = leads t (ts ++ ks) h.0 ∙ l.again a ts ks h.1 (omega arith) e

  after_heads : (a : A) (front ks : List Token) → Is longer a front → sees w (ahead (front ++ ks)) ≡ true
  after_heads a [] ks h = absurd h
  after_heads a (t ∷ ts) ks h = is_kind_same w t.kind h.0

  after_same : (ts : List Token) → length ts < suc n → after w q ts ≡ after w q' ts
  after_same [] short = refl
  after_same (t ∷ ts) short = by (the_word (is_kind w t.kind))
    where
      by : (o : Option (Unit {0})) → and_then (one_of o t ts) (λ _ ks. q ks) ≡ and_then (one_of o t ts) (λ _ ks. q' ks)
      by None = refl
      by (Some u) = l.same ts (omega arith)

  pub after_word : Lawful (suc n) (after w q) (after w q') (Is (λ a. word w ++ r a)) (sees w) stop
  after_word = record {
    takes = after_takes;
    fails = after_fails;
    again = after_again;
    heads = λ a front ks h _. after_heads a front ks h;
    same = after_same;
    sample = record { value = l.sample.value; tokens = first_token ∷ l.sample.tokens; spelled = (refl, l.sample.spelled) };
  }

-- ---- what a part makes

abbrev pub Made : {A B : Type 0} → (A → B) → (A → List Token → Type 0) → B → List Token → Type 0
Made {A} build S b ts = (a : A) × (build a ≡ b) × S a ts

module _ {A B : Type 0} (n : ℕ) (build : A → B) (p p' : Parser A) (S : A → List Token → Type 0) (opens stop : Look → Bool) (l : Lawful n p p' S opens stop) where
  abbrev give : A → Parser B
  give a = λ ks. Ok (build a, ks)

  made_takes : (ts : List Token) (b : B) (ks : List Token) → made build p ts ≡ Ok (b, ks) → Took (made build p) (Made build S) ts b ks
  made_takes ts b ks h =
      let (a, js, one, k) = and_then_ok (p ts) give (b, ks) h in
      let f = l.takes ts a js one in
      subst (λ (y : B × List Token). Took (made build p) (Made build S) ts y.0 y.1) (same_answer (build a) b js ks k)
      (record { front = f.front; whole = f.whole; spelled = (a, refl, f.spelled); local = λ ms e. ap (λ o. and_then o give) (f.local ms e) })

  made_fails : (ts : List Token) (left : ℕ) → made build p ts ≡ Err left → Failed (made build p) (Made build S) ts left
  made_fails ts left h = by (and_then_err (p ts) give left h)
    where
      by : (p ts ≡ Err left) ⊎ ((a : A) × (js : List Token) × (p ts ≡ Ok (a, js)) × (give a js ≡ Err left)) → Failed (made build p) (Made build S) ts left
      by (inl one) =
          let f = l.fails ts left one in
          record {
            front = f.front;
            ks = f.ks;
            whole = f.whole;
            remains = f.remains;
            local = λ js e. ap (λ o. and_then o give) (f.local js e);
            end = f.end;
            value = build f.value;
            completed = (f.value, refl, f.completed);
          }
      by (inr (a, js, one, k)) = absurd (cc)

  made_again : (b : B) (front ks : List Token) → Made build S b front → length front < n → stop (ahead ks) ≡ true → made build p (front ++ ks) ≡ Ok (b, ks)
  made_again b front ks h short e = ap (λ o. and_then o give) (l.again h.0 front ks h.2 short e) ∙ ap (λ x. Ok (x, ks)) h.1

  pub made_part : Lawful n (made build p) (made build p') (Made build S) opens stop
  made_part = record {
    takes = made_takes;
    fails = made_fails;
    again = made_again;
    heads = λ b front ks h e. l.heads h.0 front ks h.2 e;
    same = λ ts short. ap (λ o. and_then o give) (l.same ts short);
    sample = record { value = build l.sample.value; tokens = l.sample.tokens; spelled = (l.sample.value, refl, l.sample.spelled) };
  }

-- where each value is made of one part, in one way
pub rebuilt : {A B : Type 0} (n : ℕ) (build : A → B) (open_up : B → A) (p p' : Parser A) (s : A → List Piece) (r : B → List Piece) (opens stop : Look → Bool)
    → ((b : B) → build (open_up b) ≡ b) → ((a : A) → r (build a) ≡ s a) → Lawful n p p' (Is s) opens stop → Lawful n (made build p) (made build p') (Is r) opens stop
rebuilt {A} {B} n build open_up p p' s r opens stop back spells l = recast n (made build p) (made build p') (Made build (Is s)) (Is r) opens stop
    (λ b ts h. subst (λ (x : B). ArePieces (r x) ts) h.1 (subst (λ ps. ArePieces ps ts) (sym (spells h.0)) h.2))
    (λ b ts h. (open_up b, back b, subst (λ ps. ArePieces ps ts) (spells (open_up b)) (subst (λ (x : B). ArePieces (r x) ts) (sym (back b)) h)))
    (made_part n build p p' (Is s) opens stop l)

-- ---- one of two parts

abbrev pub Either : {A : Type 0} → (A → List Token → Type 0) → (A → List Token → Type 0) → A → List Token → Type 0
Either S T a ts = S a ts ⊎ T a ts

abbrev pub Or : (Look → Bool) → (Look → Bool) → Look → Bool
Or f g o = f o || g o

abbrev pub Not : (Look → Bool) → Look → Bool
Not f o = not (f o)

pub or_left : (b c : Bool) → b ≡ true → (b || c) ≡ true
or_left true c h = refl
or_left false c h = absurd (cc)

pub or_right : (b c : Bool) → c ≡ true → (b || c) ≡ true
or_right true c h = refl
or_right false c h = h

pub not_true : (b : Bool) → not b ≡ true → b ≡ false
not_true true h = absurd (cc)
not_true false h = refl

module _ {A : Type 0} (n : ℕ) (test : Look → Bool) (p p' q q' : Parser A) (S T : A → List Token → Type 0) (opens opens' stop : Look → Bool)
    (lp : Lawful n p p' S opens stop) (lq : Lawful n q q' T opens' stop) (first_part : Fits opens test) (second_part : Fits opens' (Not test)) where
  -- the test sees the same
  tested : (ts front ks js : List Token) → ts ≡ front ++ ks → first js ≡ first ks → (b : Bool) → test (ahead ts) ≡ b → test (ahead (front ++ js)) ≡ b
  tested ts front ks js whole e b h = ap test (ahead_same (front ++ js) (front ++ ks) (first_same front js ks e) ∙ ap ahead (sym whole)) ∙ h

  either_takes : (ts : List Token) (a : A) (ks : List Token) → either test p q ts ≡ Ok (a, ks) → Took (either test p q) (Either S T) ts a ks
  either_takes ts a ks h = by (test (ahead ts)) refl h
    where
      by : (b : Bool) → test (ahead ts) ≡ b → cond b (p ts) (q ts) ≡ Ok (a, ks) → Took (either test p q) (Either S T) ts a ks
      by true t h =
          let f = lp.takes ts a ks h in
          record {
            front = f.front;
            whole = f.whole;
            spelled = inl f.spelled;
            local = λ js e. ap (λ b. cond b (p (f.front ++ js)) (q (f.front ++ js))) (tested ts f.front ks js f.whole e true t) ∙ f.local js e;
          }
      by false t h =
          let f = lq.takes ts a ks h in
          record {
            front = f.front;
            whole = f.whole;
            spelled = inr f.spelled;
            local = λ js e. ap (λ b. cond b (p (f.front ++ js)) (q (f.front ++ js))) (tested ts f.front ks js f.whole e false t) ∙ f.local js e;
          }

  either_fails : (ts : List Token) (left : ℕ) → either test p q ts ≡ Err left → Failed (either test p q) (Either S T) ts left
  either_fails ts left h = by (test (ahead ts)) refl h
    where
      by : (b : Bool) → test (ahead ts) ≡ b → cond b (p ts) (q ts) ≡ Err left → Failed (either test p q) (Either S T) ts left
      by true t h =
          let f = lp.fails ts left h in
          record {
            front = f.front;
            ks = f.ks;
            whole = f.whole;
            remains = f.remains;
            end = f.end;
            value = f.value;
            completed = inl f.completed;
            local = λ js e. ap (λ b. cond b (p (f.front ++ js)) (q (f.front ++ js))) (tested ts f.front f.ks js f.whole e true t) ∙ f.local js e;
          }
      by false t h =
          let f = lq.fails ts left h in
          record {
            front = f.front;
            ks = f.ks;
            whole = f.whole;
            remains = f.remains;
            end = f.end;
            value = f.value;
            completed = inr f.completed;
            local = λ js e. ap (λ b. cond b (p (f.front ++ js)) (q (f.front ++ js))) (tested ts f.front f.ks js f.whole e false t) ∙ f.local js e;
          }

  either_again : (a : A) (front ks : List Token) → Either S T a front → length front < n → stop (ahead ks) ≡ true → either test p q (front ++ ks) ≡ Ok (a, ks)
  either_again a front ks (inl h) short e =
      ap (λ b. cond b (p (front ++ ks)) (q (front ++ ks))) (fits opens test first_part (ahead (front ++ ks)) (lp.heads a front ks h e)) ∙ lp.again a front ks h short e
  either_again a front ks (inr h) short e =
      ap (λ b. cond b (p (front ++ ks)) (q (front ++ ks))) (not_true (test (ahead (front ++ ks))) (fits opens' (Not test) second_part (ahead (front ++ ks)) (lq.heads a front ks h e)))
      ∙ lq.again a front ks h short e

  either_heads : (a : A) (front ks : List Token) → Either S T a front → stop (ahead ks) ≡ true → Or opens opens' (ahead (front ++ ks)) ≡ true
  either_heads a front ks (inl h) e = or_left (opens (ahead (front ++ ks))) (opens' (ahead (front ++ ks))) (lp.heads a front ks h e)
  either_heads a front ks (inr h) e = or_right (opens (ahead (front ++ ks))) (opens' (ahead (front ++ ks))) (lq.heads a front ks h e)

  pub either_part : Lawful n (either test p q) (either test p' q') (Either S T) (Or opens opens') stop
  either_part = record {
    takes = either_takes;
    fails = either_fails;
    again = either_again;
    heads = either_heads;
    same = λ ts short. ap (λ o. cond (test (ahead ts)) o (q ts)) (lp.same ts short) ∙ ap (λ o. cond (test (ahead ts)) (p' ts) o) (lq.same ts short);
    sample = record { value = lp.sample.value; tokens = lp.sample.tokens; spelled = inl lp.sample.spelled };
  }

-- ---- nothing

abbrev pub nothing : {A : Type 0} → A → Parser A
nothing a ts = Ok (a, ts)

pub nothing_part : {A : Type 0} (n : ℕ) (a : A) (stop : Look → Bool) → Lawful n (nothing a) (nothing a) (λ b ts. (a ≡ b) × (ts ≡ [])) stop stop
nothing_part {A} n a stop = record {
  takes = λ ts b ks h.
      subst (λ (y : A × List Token). Took (nothing a) (λ b ts. (a ≡ b) × (ts ≡ [])) ts y.0 y.1) (same_answer a b ts ks h)
      (record { front = []; whole = refl; spelled = (refl, refl); local = λ js e. refl });
  fails = λ ts left h. absurd (cc);
  again = λ b front ks h short e. λ i. Ok (h.0 i, h.1 i ++ ks);
  heads = λ b front ks h e. ap (λ l. stop (ahead (l ++ ks))) h.1 ∙ e;
  same = λ ts short. refl;
  sample = record { value = a; tokens = []; spelled = (refl, refl) };
}

-- ---- a part or nothing: it is one of two, the part seen as a Some, and nothing as None

pub nil_only : (ts : List Token) → ArePieces [] ts → ts ≡ []
nil_only [] h = refl
nil_only (t ∷ ts) h = absurd h

pub maybe_part : {A : Type 0} (n : ℕ) (test : Look → Bool) (p p' : Parser A) (s : A → List Piece) (opens stop stop' : Look → Bool)
    → Lawful n p p' (Is s) opens stop → Fits opens test → Fits stop' (Not test) → Fits stop' stop
    → Lawful n (maybe test p) (maybe test p') (Is (pieces.maybe s)) (Or opens stop') stop'
maybe_part {A} n test p p' s opens stop stop' l begins ends less =
    recast n (maybe test p) (maybe test p') (Either (Made (λ x. Some x) (Is s)) (λ b ts. (None ≡ b) × (ts ≡ []))) (Is (pieces.maybe s)) (Or opens stop') stop'
    to from
    (either_part n test (made (λ x. Some x) p) (made (λ x. Some x) p') (nothing None) (nothing None) (Made (λ x. Some x) (Is s)) (λ b ts. (None ≡ b) × (ts ≡ [])) opens stop' stop'
    (made_part n (λ x. Some x) p p' (Is s) opens stop' (adjust n p p' (Is s) opens stop opens stop' (self opens) less l))
    (nothing_part n None stop') begins ends)
  where
    self : (f : Look → Bool) → Fits f f
    self f o = by (f o)
      where
        by : (b : Bool) → (not b || b) ≡ true
        by true = refl
        by false = refl

    to : (b : Option A) (ts : List Token) → Either (Made (λ x. Some x) (Is s)) (λ b ts. (None ≡ b) × (ts ≡ [])) b ts → Is (pieces.maybe s) b ts
    to b ts (inl h) = subst (λ (x : Option A). ArePieces (pieces.maybe s x) ts) h.1 h.2
    to b ts (inr h) = subst (λ (x : Option A). ArePieces (pieces.maybe s x) ts) h.0 (subst (λ l. ArePieces [] l) (sym h.1) tt)

    from : (b : Option A) (ts : List Token) → Is (pieces.maybe s) b ts → Either (Made (λ x. Some x) (Is s)) (λ b ts. (None ≡ b) × (ts ≡ [])) b ts
    from None ts h = inr (refl, nil_only ts h)
    from (Some a) ts h = inl (a, refl, h)
