-- Nobody has to believe what stands here: it serves private functions alone.
-- Function values that look up a word, that look at the next token, and that read a part.
use Rattle.std.specs.Prelude.{◌≡◌, ℕ, Bool, List, Option, Result}
use denote.Ref.{MutBor, Bor}
use Rattle.st_tree.specs.declared.token.Fixed.{Fixed}
use Rattle.st_tree.specs.declared.token.Token.{Token}
use Rattle.st_parser.specs.declared.refusal.Refusal.{Refusal}
use Rattle.st_parser.specs.Inner.Parsers.{Look, Parser, Reads, ahead, many}

-- it answers the entries of this table
abbrev pub Lists : {A : Type 0} → (Fixed → Option A) → (Fixed → Option A → Type 0) → Type 0
Lists {A} entries post = (word : Fixed) → (r : Option A) → post word r → r ≡ entries word

-- it tells of the next token what the test does
abbrev pub Tells : (Look → Bool) → (Bor (List Token) → Bool → Type 0) → Type 0
Tells test post = (tokens : Bor (List Token)) → (r : Bool) → post tokens r → r ≡ test (ahead tokens.now)

-- it reads what the parser reads
abbrev pub Parses : {A : Type 0} → Parser A
    → (MutBor (List Token) → Result A Refusal → MutBor (List Token) → Type 0) → Type 0
Parses {A} p post =
    (old new : MutBor (List Token)) → (r : Result A Refusal) → post old r new → Reads (p old.now) r new.now

-- what a function reads that was given a look-up: what the rule reads of the table that the look-up answers
abbrev pub ReadsBy : {A B : Type 0} → ((Fixed → Option A) → Parser B) → (Fixed → Option A → Type 0)
    → List Token → Result B Refusal → List Token → Type 0
ReadsBy {A} rule post old result new =
    (entries : Fixed → Option A) → Lists entries post → Reads (rule entries old) result new

-- what a function answers of the next token that was given a look-up
abbrev pub GivenBy : {A B : Type 0} → ((Fixed → Option A) → Look → B) → (Fixed → Option A → Type 0)
    → List Token → B → Type 0
GivenBy {A} rule post tokens result =
    (entries : Fixed → Option A) → Lists entries post → result ≡ rule entries (ahead tokens)

-- what a function reads that was given a test and a part: the part as often as the test passes, at most so many times
abbrev pub ReadsMany : {A : Type 0} → ℕ → (Bor (List Token) → Bool → Type 0)
    → (MutBor (List Token) → Result A Refusal → MutBor (List Token) → Type 0)
    → List Token → Result (List A) Refusal → List Token → Type 0
ReadsMany {A} turns comes part old result new =
    (test : Look → Bool) → (p : Parser A) → Tells test comes → Parses p part → Reads (many test p turns old) result new
