-- What a parser of a grammar with one token of look-ahead keeps, and that parts put together keep it.
use Rattle.std.proofs.Common.{◌≡◌, ℕ, ◌<◌, Bool, true, false, not, ◌||◌, ◌⊎◌, inl, inr, List, [], ◌∷◌, ◌++◌, length, Option, Some, None, Ok, Err, refl, ap, sym, ◌∙◌}
use Rattle.st_tree.specs.declared.token.Token.{Token}
use Rattle.st_tree.specs.Pieces.{Piece, ArePieces}
use Rattle.st_parser.specs.Inner.Parsers.{Outcome, Parser, and_then, first, Look, ahead}

-- these tokens are those pieces
abbrev pub Is : {A : Type 0} → (A → List Piece) → A → List Token → Type 0
Is spell a tokens = ArePieces (spell a) tokens

-- what was taken is spelled so, and the parser looks no further than the next token
pub record Took {A : Type 0} (p : Parser A) (S : A → List Token → Type 0) (ts : List Token) (a : A) (ks : List Token) : Type 0 where
  pub front : List Token
  pub whole : ts ≡ front ++ ks
  pub spelled : S a front
  pub local : (js : List Token) → first js ≡ first ks → p (front ++ js) ≡ Ok (a, js)

-- it refuses there whatever follows, and what was read goes on
pub record Failed {A : Type 0} (p : Parser A) (S : A → List Token → Type 0) (ts : List Token) (left : ℕ) : Type 0 where
  pub front : List Token
  pub ks : List Token
  pub whole : ts ≡ front ++ ks
  pub remains : length ks ≡ left
  pub local : (js : List Token) → first js ≡ first ks → p (front ++ js) ≡ Err (length js)
  pub end : List Token
  pub value : A
  pub completed : S value (front ++ end)

pub record Sample {A : Type 0} (S : A → List Token → Type 0) : Type 0 where
  pub value : A
  pub tokens : List Token
  pub spelled : S value tokens

-- p at lists with fewer than n tokens, as q one level deeper. S is what is spelled, `opens` holds of what comes first,
-- and `stop` of what may follow.
pub record Lawful {A : Type 0} (n : ℕ) (p q : Parser A) (S : A → List Token → Type 0) (opens stop : Look → Bool) : Type 0 where
  pub takes : (ts : List Token) (a : A) (ks : List Token) → p ts ≡ Ok (a, ks) → Took p S ts a ks
  pub fails : (ts : List Token) (left : ℕ) → p ts ≡ Err left → Failed p S ts left
  pub again : (a : A) (front ks : List Token) → S a front → length front < n → stop (ahead ks) ≡ true → p (front ++ ks) ≡ Ok (a, ks)
  pub heads : (a : A) (front ks : List Token) → S a front → stop (ahead ks) ≡ true → opens (ahead (front ++ ks)) ≡ true
  pub same : (ts : List Token) → length ts < n → p ts ≡ q ts
  pub sample : Sample S

-- what may come first is something that may follow
abbrev pub Fits : (Look → Bool) → (Look → Bool) → Type 0
Fits opens stop = (o : Look) → (not (opens o) || stop o) ≡ true

pub fits : (opens stop : Look → Bool) → Fits opens stop → (o : Look) → opens o ≡ true → stop o ≡ true
fits opens stop f o h = by (opens o) (stop o) h (f o)
  where
    by : (s t : Bool) → s ≡ true → (not s || t) ≡ true → t ≡ true
    by true t e h = h
    by false t e h = absurd (cc)

-- ---- lists of tokens

pub first_same : (front js ks : List Token) → first js ≡ first ks → first (front ++ js) ≡ first (front ++ ks)
first_same [] js ks h = h
first_same (t ∷ ts) js ks h = refl

abbrev kind_of : Option Token → Look
kind_of None = None
kind_of (Some t) = Some t.kind

ahead_first : (ts : List Token) → ahead ts ≡ kind_of (first ts)
ahead_first [] = refl
ahead_first (t ∷ ts) = refl

pub ahead_same : (js ks : List Token) → first js ≡ first ks → ahead js ≡ ahead ks
ahead_same js ks h = ahead_first js ∙ (ap kind_of h ∙ sym (ahead_first ks))

pub record Split (ps qs : List Piece) (ts : List Token) : Type 0 where
  pub front : List Token
  pub back : List Token
  pub whole : ts ≡ front ++ back
  pub left : ArePieces ps front
  pub right : ArePieces qs back

pub split : (ps qs : List Piece) (ts : List Token) → ArePieces (ps ++ qs) ts → Split ps qs ts
split [] qs ts h = record { front = []; back = ts; whole = refl; left = tt; right = h }
split (p ∷ ps) qs [] h = absurd h
split (p ∷ ps) qs (t ∷ ts) h =
    let s = split ps qs ts h.1 in
    record { front = t ∷ s.front; back = s.back; whole = ap (λ l. t ∷ l) s.whole; left = (h.0, s.left); right = s.right }

pub join : (ps qs : List Piece) (ts us : List Token) → ArePieces ps ts → ArePieces qs us → ArePieces (ps ++ qs) (ts ++ us)
join [] qs [] us h k = k
join [] qs (t ∷ ts) us h k = absurd h
join (p ∷ ps) qs [] us h k = absurd h
join (p ∷ ps) qs (t ∷ ts) us h k = (h.0, join ps qs ts us h.1 k)

-- ---- outcomes

pub and_then_ok : {A B : Type 0} (r : Outcome A) (f : A → Parser B) (y : B × List Token) → and_then r f ≡ Ok y → (a : A) × (ks : List Token) × (r ≡ Ok (a, ks)) × (f a ks ≡ Ok y)
and_then_ok (Ok x) f y h = (x.0, x.1, refl, h)
and_then_ok (Err e) f y h = absurd (cc)

-- the first part fails, or it goes on and the second does
pub and_then_err : {A B : Type 0} (r : Outcome A) (f : A → Parser B) (left : ℕ) → and_then r f ≡ Err left
    → (r ≡ Err left) ⊎ ((a : A) × (ks : List Token) × (r ≡ Ok (a, ks)) × (f a ks ≡ Err left))
and_then_err (Ok x) f left h = inr (x.0, x.1, refl, h)
and_then_err (Err e) f left h = inl (cc)

pub same_answer : {A : Type 0} (a b : A) (ts ks : List Token) → ◌≡◌ {A = Outcome A} (Ok (a, ts)) (Ok (b, ks)) → ◌≡◌ {A = A × List Token} (a, ts) (b, ks)
same_answer a b ts ks h = cc
