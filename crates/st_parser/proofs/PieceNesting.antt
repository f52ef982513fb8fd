-- How deep pieces nest.
use Rattle.std.proofs.Common.{◌≡◌, ◌≢◌, ℕ, ◌+◌, ◌-◌, ◌≤◌, max, ◌==◌, Bool, true, false, if◌then◌else◌, List, [], ◌∷◌, ◌++◌, map, fold, Option, None, Some, arith, refl, ap, sym, ◌∙◌, subst, append_assoc, append-nil}
use Rattle.std.specs.Option.{option_map}
use Rattle.std.proofs.lemmas.Option.{none-some}
use Rattle.std.proofs.lemmas.Bool.{eqb-false, ne_eqb}
use Rattle.st_tree.specs.declared.token.Token.{Token}
use Rattle.st_tree.specs.declared.token.TokenKind.{TokenKind}
use Rattle.st_tree.specs.Pieces.{Piece, Anywhere, Placed, IsPiece, ArePieces, each}
use Rattle.st_tree.specs.Nesting.{nesting_with, too_deep_from}

-- Pieces that nest so deep leave the nesting as it was, and no token of theirs becomes nested 65 deep just where there
-- are levels enough.
pub record Nests (ps : List Piece) (n : ℕ) : Type 0 where
  pub fits : (d : ℕ) (ts rest : List Token) → ArePieces ps ts → d ≤ 64 → too_deep_from d (ts ++ rest) ≡ None → (d + n ≤ 64) × (too_deep_from d rest ≡ None)
  pub goes : (d : ℕ) (ts rest : List Token) → ArePieces ps ts → d + n ≤ 64 → too_deep_from d rest ≡ None → too_deep_from d (ts ++ rest) ≡ None

abbrev pub kind_of : Piece → TokenKind
kind_of (Anywhere kind) = kind
kind_of (Placed kind place) = kind

piece_kind : (p : Piece) (t : Token) → IsPiece p t → t.kind ≡ kind_of p
piece_kind (Anywhere kind) t h = h
piece_kind (Placed kind place) t h = ap (λ (t : Token). t.kind) h

-- ---- one token

record Steps (d : ℕ) (t : Token) (ts : List Token) : Type 0 where
  pub fits : nesting_with d t.kind ≢ 65
  pub rest : too_deep_from (nesting_with d t.kind) ts ≡ None

none_map : (o : Option ℕ) → option_map (λ at. at + 1) o ≡ None → o ≡ None
none_map None h = refl
none_map (Some n) h = absurd (none-some (n + 1) (sym h))

-- what is found where the nesting has become e
abbrev found : ℕ → List Token → Bool → Option ℕ
found e ts b = if b then Some 0 else option_map (λ at. at + 1) (too_deep_from e ts)

steps_by : (d : ℕ) (t : Token) (ts : List Token) (b : Bool) → (nesting_with d t.kind == 65) ≡ b → too_deep_from d (t ∷ ts) ≡ None → Steps d t ts
steps_by d t ts true e h = absurd (none-some 0 (sym (ap (found (nesting_with d t.kind) ts) (sym e) ∙ h)))
steps_by d t ts false e h = record {
  fits = eqb-false (nesting_with d t.kind) 65 e;
  rest = none_map (too_deep_from (nesting_with d t.kind) ts) (ap (found (nesting_with d t.kind) ts) (sym e) ∙ h);
}

steps : (d : ℕ) (t : Token) (ts : List Token) → too_deep_from d (t ∷ ts) ≡ None → Steps d t ts
steps d t ts h = steps_by d t ts (nesting_with d t.kind == 65) refl h

stays : (d e : ℕ) (t : Token) (ts : List Token) → nesting_with d t.kind ≡ e → e ≤ 64 → too_deep_from e ts ≡ None → too_deep_from d (t ∷ ts) ≡ None
stays d e t ts is le h =
    let low : e ≢ 65 = λ same. absurd (omega (arith, le, same)) in
    ap (λ k. found k ts (k == 65)) is ∙ (ap (found e ts) (ne_eqb e 65 low) ∙ ap (option_map (λ at. at + 1)) h)

-- ---- pieces in a row are tokens in a row

record Split (ps qs : List Piece) (ts : List Token) : Type 0 where
  pub us : List Token
  pub vs : List Token
  pub is : ts ≡ us ++ vs
  pub front : ArePieces ps us
  pub back : ArePieces qs vs

split : (ps qs : List Piece) (ts : List Token) → ArePieces (ps ++ qs) ts → Split ps qs ts
split [] qs ts h = record { us = []; vs = ts; is = refl; front = tt; back = h }
split (p ∷ ps) qs [] h = absurd h
split (p ∷ ps) qs (t ∷ ts) h =
    let s = split ps qs ts h.1 in
    record { us = t ∷ s.us; vs = s.vs; is = ap (λ l. t ∷ l) s.is; front = (h.0, s.front); back = s.back }

pub nests_to : (ps qs : List Piece) (m n : ℕ) → ps ≡ qs → m ≡ n → Nests qs n → Nests ps m
nests_to ps qs m n e f h = subst (λ l. Nests l m) (sym e) (subst (λ k. Nests qs k) (sym f) h)

-- nothing
pub nests_none : Nests [] 0
nests_none = record { fits = fits; goes = goes }
  where
    fits : (d : ℕ) (ts rest : List Token) → ArePieces [] ts → d ≤ 64 → too_deep_from d (ts ++ rest) ≡ None → (d + 0 ≤ 64) × (too_deep_from d rest ≡ None)
    fits d [] rest are le h = (omega (arith, le), h)
    fits d (t ∷ ts) rest are le h = absurd are

    goes : (d : ℕ) (ts rest : List Token) → ArePieces [] ts → d + 0 ≤ 64 → too_deep_from d rest ≡ None → too_deep_from d (ts ++ rest) ≡ None
    goes d [] rest are le h = h
    goes d (t ∷ ts) rest are le h = absurd are

-- a piece that neither opens nor closes
pub nests_piece : (p : Piece) → ((d : ℕ) → nesting_with d (kind_of p) ≡ d) → Nests (p ∷ []) 0
nests_piece p quiet = record { fits = fits; goes = goes }
  where
    fits : (d : ℕ) (ts rest : List Token) → ArePieces (p ∷ []) ts → d ≤ 64 → too_deep_from d (ts ++ rest) ≡ None → (d + 0 ≤ 64) × (too_deep_from d rest ≡ None)
    fits d [] rest are le h = absurd are
    fits d (t ∷ []) rest are le h =
        let s = steps d t rest h in
        let same : nesting_with d t.kind ≡ d = ap (nesting_with d) (piece_kind p t are.0) ∙ quiet d in
        (omega (arith, le), subst (λ k. too_deep_from k rest ≡ None) same s.rest)
    fits d (t ∷ u ∷ ts) rest are le h = absurd are.1

    goes : (d : ℕ) (ts rest : List Token) → ArePieces (p ∷ []) ts → d + 0 ≤ 64 → too_deep_from d rest ≡ None → too_deep_from d (ts ++ rest) ≡ None
    goes d [] rest are le h = absurd are
    goes d (t ∷ []) rest are le h = stays d d t rest (ap (nesting_with d) (piece_kind p t are.0) ∙ quiet d) (omega (arith, le)) h
    goes d (t ∷ u ∷ ts) rest are le h = absurd are.1

-- one after the other
pub nests_append : (ps qs : List Piece) (m n : ℕ) → Nests ps m → Nests qs n → Nests (ps ++ qs) (max m n)
nests_append ps qs m n a b = record {
  fits = λ d ts rest are le h.
      let s = split ps qs ts are in
      let h' : too_deep_from d (s.us ++ (s.vs ++ rest)) ≡ None = ap (too_deep_from d) (sym (append_assoc s.us s.vs rest)) ∙ (ap (λ l. too_deep_from d (l ++ rest)) (sym s.is) ∙ h) in
      let x = a.fits d s.us (s.vs ++ rest) s.front le h' in
      let y = b.fits d s.vs rest s.back le x.1 in
      (omega (arith, x.0, y.0), y.1);
  goes = λ d ts rest are le h.
      let s = split ps qs ts are in
      let y = b.goes d s.vs rest s.back (omega (arith, le)) h in
      let x = a.goes d s.us (s.vs ++ rest) s.front (omega (arith, le)) y in
      ap (λ l. too_deep_from d (l ++ rest)) s.is ∙ (ap (too_deep_from d) (append_assoc s.us s.vs rest) ∙ x);
}

-- a bracket round them
pub nests_bracket : (o c : Piece) (ps : List Piece) (n : ℕ) → ((d : ℕ) → nesting_with d (kind_of o) ≡ d + 1) → ((d : ℕ) → nesting_with (d + 1) (kind_of c) ≡ d) → Nests ps n → Nests (o ∷ (ps ++ c ∷ [])) (n + 1)
nests_bracket o c ps n opens closes a = record { fits = fits; goes = goes }
  where
    last : (d : ℕ) (ts rest : List Token) → ArePieces (c ∷ []) ts → too_deep_from (d + 1) (ts ++ rest) ≡ None → too_deep_from d rest ≡ None
    last d [] rest are h = absurd are
    last d (t ∷ []) rest are h =
        let s = steps (d + 1) t rest h in
        let same : nesting_with (d + 1) t.kind ≡ d = ap (nesting_with (d + 1)) (piece_kind c t are.0) ∙ closes d in
        subst (λ k. too_deep_from k rest ≡ None) same s.rest
    last d (t ∷ u ∷ ts) rest are h = absurd are.1

    closed : (d : ℕ) (ts rest : List Token) → ArePieces (c ∷ []) ts → d ≤ 64 → too_deep_from d rest ≡ None → too_deep_from (d + 1) (ts ++ rest) ≡ None
    closed d [] rest are le h = absurd are
    closed d (t ∷ []) rest are le h = stays (d + 1) d t rest (ap (nesting_with (d + 1)) (piece_kind c t are.0) ∙ closes d) le h
    closed d (t ∷ u ∷ ts) rest are le h = absurd are.1

    fits : (d : ℕ) (ts rest : List Token) → ArePieces (o ∷ (ps ++ c ∷ [])) ts → d ≤ 64 → too_deep_from d (ts ++ rest) ≡ None → (d + (n + 1) ≤ 64) × (too_deep_from d rest ≡ None)
    fits d [] rest are le h = absurd are
    fits d (t ∷ ts) rest are le h =
        let s = steps d t (ts ++ rest) h in
        let more : nesting_with d t.kind ≡ d + 1 = ap (nesting_with d) (piece_kind o t are.0) ∙ opens d in
        let low : d + 1 ≤ 64 = omega (arith, le, s.fits, more) in
        let p = split ps (c ∷ []) ts are.1 in
        let h' : too_deep_from (d + 1) (p.us ++ (p.vs ++ rest)) ≡ None = ap (too_deep_from (d + 1)) (sym (append_assoc p.us p.vs rest)) ∙ (ap (λ l. too_deep_from (d + 1) (l ++ rest)) (sym p.is) ∙ subst (λ k. too_deep_from k (ts ++ rest) ≡ None) more s.rest) in
        let x = a.fits (d + 1) p.us (p.vs ++ rest) p.front low h' in
        (omega (arith, x.0), last d p.vs rest p.back x.1)

    goes : (d : ℕ) (ts rest : List Token) → ArePieces (o ∷ (ps ++ c ∷ [])) ts → d + (n + 1) ≤ 64 → too_deep_from d rest ≡ None → too_deep_from d (ts ++ rest) ≡ None
    goes d [] rest are le h = absurd are
    goes d (t ∷ ts) rest are le h =
        let p = split ps (c ∷ []) ts are.1 in
        let y = closed d p.vs rest p.back (omega (arith, le)) h in
        let x = a.goes (d + 1) p.us (p.vs ++ rest) p.front (omega (arith, le)) y in
        stays d (d + 1) t (ts ++ rest) (ap (nesting_with d) (piece_kind o t are.0) ∙ opens d) (omega (arith, le))
        (ap (λ l. too_deep_from (d + 1) (l ++ rest)) p.is ∙ (ap (too_deep_from (d + 1)) (append_assoc p.us p.vs rest) ∙ x))

-- ---- what follows from these

-- a quiet piece before others
pub nests_behind : (p : Piece) (ps : List Piece) (n : ℕ) → ((d : ℕ) → nesting_with d (kind_of p) ≡ d) → Nests ps n → Nests (p ∷ ps) n
nests_behind p ps n quiet a = nests_to (p ∷ ps) ((p ∷ []) ++ ps) n (max 0 n) refl (omega arith) (nests_append (p ∷ []) ps 0 n (nests_piece p quiet) a)

-- a quiet piece behind others
pub nests_before : (p : Piece) (ps : List Piece) (n : ℕ) → ((d : ℕ) → nesting_with d (kind_of p) ≡ d) → Nests ps n → Nests (ps ++ p ∷ []) n
nests_before p ps n quiet a = nests_to (ps ++ p ∷ []) (ps ++ p ∷ []) n (max n 0) refl (omega arith) (nests_append ps (p ∷ []) n 0 a (nests_piece p quiet))

-- a bracket, and a quiet piece behind it
pub nests_closed : (o c p : Piece) (ps : List Piece) (n : ℕ) → ((d : ℕ) → nesting_with d (kind_of o) ≡ d + 1) → ((d : ℕ) → nesting_with (d + 1) (kind_of c) ≡ d) → ((d : ℕ) → nesting_with d (kind_of p) ≡ d) → Nests ps n → Nests (o ∷ (ps ++ c ∷ p ∷ [])) (n + 1)
nests_closed o c p ps n opens closes quiet a =
    nests_to (o ∷ (ps ++ c ∷ p ∷ [])) ((o ∷ (ps ++ c ∷ [])) ++ p ∷ []) (n + 1) (n + 1) (ap (λ l. o ∷ l) (sym (append_assoc ps (c ∷ []) (p ∷ [])))) refl
    (nests_before p (o ∷ (ps ++ c ∷ [])) (n + 1) quiet (nests_bracket o c ps n opens closes a))

-- pieces, and any number of further parts, of each of which it is known
pub nests_more : {A Q : Type 0} (part : A → List Piece) (deep : A → ℕ) (v : Q → A) → ((q : Q) → Nests (part (v q)) (deep (v q))) → (qs : List Q) (ps : List Piece) (m : ℕ) → Nests ps m → Nests (ps ++ each part (map v qs)) (fold max m (map deep (map v qs)))
nests_more part deep v h [] ps m a = nests_to (ps ++ []) ps m m (append-nil ps) refl a
nests_more part deep v h (q ∷ qs) ps m a =
    nests_to (ps ++ (part (v q) ++ each part (map v qs))) ((ps ++ part (v q)) ++ each part (map v qs)) _ _ (sym (append_assoc ps (part (v q)) (each part (map v qs)))) refl
    (nests_more part deep v h qs (ps ++ part (v q)) (max m (deep (v q))) (nests_append ps (part (v q)) m (deep (v q)) a (h q)))

-- any number of parts
pub nests_all : {A Q : Type 0} (part : A → List Piece) (deep : A → ℕ) (v : Q → A) → ((q : Q) → Nests (part (v q)) (deep (v q))) → (qs : List Q) → Nests (each part (map v qs)) (fold max 0 (map deep (map v qs)))
nests_all part deep v h qs = nests_more part deep v h qs [] 0 nests_none

pub nests_each : {A : Type 0} (part : A → List Piece) (deep : A → ℕ) → ((x : A) → Nests (part x) (deep x)) → (xs : List A) (ps : List Piece) (m : ℕ) → Nests ps m → Nests (ps ++ each part xs) (fold max m (map deep xs))
nests_each part deep h [] ps m a = nests_to (ps ++ []) ps m m (append-nil ps) refl a
nests_each part deep h (x ∷ xs) ps m a =
    nests_to (ps ++ (part x ++ each part xs)) ((ps ++ part x) ++ each part xs) _ _ (sym (append_assoc ps (part x) (each part xs))) refl
    (nests_each part deep h xs (ps ++ part x) (max m (deep x)) (nests_append ps (part x) m (deep x) a (h x)))

-- any number of parts without brackets
pub nests_flat : {A : Type 0} (part : A → List Piece) → ((x : A) → Nests (part x) 0) → (xs : List A) → Nests (each part xs) 0
nests_flat part h [] = nests_none
nests_flat part h (x ∷ xs) = nests_append (part x) (each part xs) 0 0 (h x) (nests_flat part h xs)

pub closes_one : (d : ℕ) → d + 1 - 1 ≡ d
closes_one d = omega arith
