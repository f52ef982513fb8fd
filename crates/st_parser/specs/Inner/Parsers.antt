-- Nobody has to believe what stands here: it serves private functions alone.
-- Parsers with one token of look-ahead, as functions of the tokens that are left, and how they are put together.
use Rattle.std.specs.Prelude.{◌≡◌, ◌≢◌, ℕ, zero, suc, Bool, true, false, if◌then◌else◌, List, [], ◌∷◌, ◌++◌, length, Option, Some, None, is_some, Result, Ok, Err}
use denote.Enum.Bare.{sameb}
use Rattle.st_tree.specs.declared.token.Fixed.{Fixed}
use Rattle.st_tree.specs.contracts.token.Fixed.{the_type}
use Rattle.st_tree.specs.declared.token.TokenKind.{TokenKind}
use Rattle.st_tree.specs.declared.token.TokenKind.TheVariants as kind
use Rattle.st_tree.specs.declared.token.Token.{Token}
use Rattle.st_tree.specs.declared.declaration.PlacedName.{PlacedName}
use Rattle.st_parser.specs.declared.refusal.Refusal.{Refusal}
use Rattle.st_parser.specs.declared.refusal.Refusal.TheVariants.{Left, NoMemory}

-- what was read with the tokens that are left; or no program goes on, with so many tokens left
abbrev pub Outcome : Type 0 → Type 0
Outcome A = Result (A × List Token) ℕ

abbrev pub Parser : Type 0 → Type 0
Parser A = List Token → Outcome A

abbrev pub and_then : {A B : Type 0} → Outcome A → (A → Parser B) → Outcome B
and_then (Ok x) f = f x.0 x.1
and_then (Err left) f = Err left

abbrev pub refuse : {A : Type 0} → Parser A
refuse tokens = Err (length tokens)

-- ---- the next token

abbrev pub first : List Token → Option Token
first [] = None
first (token ∷ tokens) = Some token

-- its kind
abbrev pub Look : Type 0
Look = Option TokenKind

abbrev pub ahead : List Token → Look
ahead [] = None
ahead (token ∷ tokens) = Some token.kind

abbrev pub rest : List Token → List Token
rest [] = []
rest (token ∷ tokens) = tokens

abbrev pub is_kind : Fixed → TokenKind → Bool
is_kind word (kind.Fixed other) = sameb the_type other word
is_kind word (kind.Name n) = false
is_kind word (kind.Number n) = false

-- a reserved word or symbol comes next
abbrev pub sees : Fixed → Look → Bool
sees word None = false
sees word (Some k) = is_kind word k

-- a name comes next
abbrev pub sees_name : Look → Bool
sees_name (Some (kind.Name n)) = true
sees_name _ = false

-- a number comes next
abbrev pub sees_number : Look → Bool
sees_number (Some (kind.Number n)) = true
sees_number _ = false

-- what a table gives of the reserved word or symbol that comes next
abbrev pub found : {A : Type 0} → (Fixed → Option A) → Look → Option A
found table (Some (kind.Fixed w)) = table w
found table _ = None

abbrev pub sees_some : {A : Type 0} → (Fixed → Option A) → Look → Bool
sees_some table look = is_some (found table look)

-- the byte place of the next token
abbrev pub place_ahead : List Token → ℕ
place_ahead [] = 0
place_ahead (token ∷ tokens) = token.place

-- ---- one token

abbrev pub one_of : {A : Type 0} → Option A → Token → List Token → Outcome A
one_of (Some a) token tokens = Ok (a, tokens)
one_of None token tokens = refuse (token ∷ tokens)

-- a token of which the function gives something
abbrev pub one : {A : Type 0} → (Token → Option A) → Parser A
one f [] = refuse []
one f (token ∷ tokens) = one_of (f token) token tokens

-- ---- parts put together

-- one and then the other
infixr 9 ◌⨟◌
abbrev pub ◌⨟◌ : {A B : Type 0} → Parser A → Parser B → Parser (A × B)
p ⨟ q = λ tokens. and_then (p tokens) (λ a ks. and_then (q ks) (λ b js. Ok ((a, b), js)))

-- what the part makes
abbrev pub made : {A B : Type 0} → (A → B) → Parser A → Parser B
made build p tokens = and_then (p tokens) (λ a ks. Ok (build a, ks))

-- the first where the next token passes the test, else the second
abbrev pub either : {A : Type 0} → (Look → Bool) → Parser A → Parser A → Parser A
either test p q tokens = if test (ahead tokens) then p tokens else q tokens

-- the part where the next token passes the test, else nothing
abbrev pub maybe : {A : Type 0} → (Look → Bool) → Parser A → Parser (Option A)
maybe test p tokens = if test (ahead tokens) then and_then (p tokens) (λ a ks. Ok (Some a, ks)) else Ok (None, tokens)

-- the part as often as the next token passes the test, behind those that were found, at most so many times
unfoldable pub more_of : {A : Type 0} → (Look → Bool) → Parser A → ℕ → List A → Parser (List A)
more_of test p zero found tokens = refuse tokens
more_of test p (suc turns) found tokens =
    if test (ahead tokens) then and_then (p tokens) (λ a ks. more_of test p turns (found ++ a ∷ []) ks)
    else Ok (found, tokens)

abbrev pub many : {A : Type 0} → (Look → Bool) → Parser A → ℕ → Parser (List A)
many test p turns tokens = more_of test p turns [] tokens

-- ---- what a function of the code ensures

abbrev pub left_of : Refusal → ℕ
left_of (Left n) = n
left_of NoMemory = 0

-- the outcome, unless memory fails
abbrev pub Reads : {A : Type 0} → Outcome A → Result A Refusal → List Token → Type 0
Reads outcome (Ok a) new = outcome ≡ Ok (a, new)
Reads outcome (Err e) new = e ≢ NoMemory → outcome ≡ Err (left_of e)

-- nothing
abbrev pub nothing : {A : Type 0} → A → Parser A
nothing a tokens = Ok (a, tokens)

-- ---- tokens of each sort

abbrev pub the_word : Bool → Option (Unit {0})
the_word true = Some tt
the_word false = None

-- a reserved word or symbol
abbrev pub expect : Fixed → Parser (Unit {0})
expect word = one (λ token. the_word (is_kind word token.kind))

-- what stands behind a reserved word or symbol
abbrev pub after : {A : Type 0} → Fixed → Parser A → Parser A
after word p tokens = and_then (expect word tokens) (λ _ ks. p ks)

abbrev pub the_place : Bool → ℕ → Option ℕ
the_place true place = Some place
the_place false place = None

-- a reserved word or symbol, and its place
abbrev pub place_of : Fixed → Parser ℕ
place_of word = one (λ token. the_place (is_kind word token.kind) token.place)

abbrev pub name_at : TokenKind → ℕ → Option PlacedName
name_at (kind.Name n) place = Some (record { name = n; place = place })
name_at _ place = None

abbrev pub name : Parser PlacedName
name = one (λ token. name_at token.kind token.place)

abbrev pub number_at : TokenKind → ℕ → Option (ℕ × ℕ)
number_at (kind.Number n) place = Some (n, place)
number_at _ place = None

-- a number and its place
abbrev pub number : Parser (ℕ × ℕ)
number = one (λ token. number_at token.kind token.place)

abbrev pub given : {A : Type 0} → Option A → Parser A
given (Some a) tokens = Ok (a, rest tokens)
given None tokens = refuse tokens

-- what a table gives of the next token
abbrev pub entry : {A : Type 0} → (Fixed → Option A) → Parser A
entry table tokens = given (found table (ahead tokens)) tokens

abbrev pub with_place : {A : Type 0} → Option A → ℕ → Option (A × ℕ)
with_place (Some a) place = Some (a, place)
with_place None place = None

-- that, and its place
abbrev pub entry_at : {A : Type 0} → (Fixed → Option A) → Parser (A × ℕ)
entry_at table tokens = given (with_place (found table (ahead tokens)) (place_ahead tokens)) tokens
