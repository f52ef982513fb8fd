-- The function says what the relations say.
use Rattle.std.proofs.Common.{◌≡◌, ◌≢◌, ◌∙◌, ◌+◌, ◌-◌, ◌<◌, ◌≤◌, refl, sym, ap, subst, ℕ, Bool, true, false, nat_lt, min, if◌then◌else◌, List, [], ◌∷◌, ◌++◌, length, take, drop, Option, Some, None, Result, Ok, Err, append_assoc, take-append-drop, arith}
use Rattle.std.proofs.Math.Seq.{take-take}
use Rattle.std.proofs.lemmas.Bool.{ltb-true, ltb-false, lt-ltb, le-ltb}
use Rattle.tri_base.specs.Limits.{text_limit, word_limit}
use Rattle.tri_base.specs.declared.point.Point.{Point}
use Rattle.tri_base.specs.declared.faults.LexCause.{LexCause}
use Rattle.tri_base.specs.declared.faults.TypeFault.{TypeFault}
use Rattle.st_tree.specs.declared.token.Token.{Token}
use Rattle.st_tree.specs.declared.program.Tree.{Tree}
use Rattle.st_tree.specs.Lexes.{Lexes, IsLexicalFault}
use Rattle.st_tree.specs.Nesting.{first_too_deep}
use Rattle.st_tree.specs.Programs.{Spells, Begins, IsFirstImpossible}
use Rattle.st_tree.specs.Tags.{tags_of}
use Rattle.st_tree.specs.Typing.Faults.{first_of}
use Rattle.st_tree.specs.Typing.Programs.{typing_faults, WellTyped, first_typing_fault}
use Rattle.st_parser.specs.Inner.Parsers.{Outcome}
use Rattle.st_parser.specs.Inner.ReadPrograms.{whole}
use Rattle.st_parser.proofs.ProgramLaws.{one_tree, read_is_spelled, refused_is_first}
use Rattle.st_reader.proofs.Once.{one_lexing}
use Rattle.tag_layout.specs.Layout.{total_words, greatest_told}
use Rattle.engine_face.specs.declared.refusal.Refusal.{Refusal}
use Rattle.engine_face.specs.declared.refusal.Refusal.TheVariants as r
use Rattle.st_front.specs.FrontEnd.{HasTokens, HasTree, IsProgram, IsRefused}
use Rattle.st_front.specs.Judging.{front_of, front_of_lexed, front_of_tokens, front_of_outcome, front_of_tree, front_of_words, FrontIs}
use Rattle.st_front.specs.Inner.Texts.{Lexed, Spelled, Faulty, every_text}

-- what an answer says of a text
abbrev Means : List Point → List ℕ → Result Tree Refusal → Type 0
Means points text (Ok tree) = IsProgram points text tree
Means points text (Err refusal) = IsRefused points text refusal

-- ---- what the function answers is so

words_mean : (points : List Point) (text : List ℕ) (tree : Tree) → HasTree text tree → WellTyped points tree → (b : Bool) → nat_lt word_limit (total_words (tags_of tree)) ≡ b
    → Means points text (if b then Err (r.TooManyWords (min (total_words (tags_of tree)) greatest_told)) else Ok tree)
words_mean points text tree has typed true e = record { tree = tree; has = has; typed = typed; many = ltb-true word_limit (total_words (tags_of tree)) e; told = refl }
words_mean points text tree has typed false e = record { has = has; typed = typed; few = ltb-false word_limit (total_words (tags_of tree)) e }

none_first : (faults : List TypeFault) → first_of faults ≡ None → faults ≡ []
none_first [] e = refl
none_first (f ∷ fs) e = cc

tree_means : (points : List Point) (text : List ℕ) (tree : Tree) → HasTree text tree → (o : Option TypeFault) → first_typing_fault points tree ≡ o → Means points text (front_of_tree tree o)
unfolding WellTyped first_typing_fault
tree_means points text tree has (Some fault) e = (tree, has, e)
tree_means points text tree has None e = words_mean points text tree has (none_first (typing_faults points tree) e) (nat_lt word_limit (total_words (tags_of tree))) refl

outcome_means : (points : List Point) (text : List ℕ) (tokens : List Token) → HasTokens text tokens → first_too_deep tokens ≡ None → (o : Outcome Tree) → whole (length tokens + 1) tokens ≡ o
    → Means points text (front_of_outcome points (length tokens) o)
outcome_means points text tokens has low (Ok (tree, more)) e =
    tree_means points text tree (record { tokens = tokens; has = has; low = low; spells = read_is_spelled tokens tree more e }) (first_typing_fault points tree) refl
outcome_means points text tokens has low (Err left) e = record { tokens = tokens; has = has; low = low; impossible = refused_is_first tokens left e }

tokens_mean : (points : List Point) (text : List ℕ) (tokens : List Token) → HasTokens text tokens → (o : Option ℕ) → first_too_deep tokens ≡ o → Means points text (front_of_tokens points tokens o)
tokens_mean points text tokens has (Some token) e = record { tokens = tokens; has = has; deep = e }
tokens_mean points text tokens has None e = outcome_means points text tokens has e (whole (length tokens + 1) tokens) refl

lexed_means : (points : List Point) (text : List ℕ) → length text ≤ text_limit → (l : Lexed text) → Means points text (front_of_lexed points l)
lexed_means points text short (Faulty place cause is) = (short, is)
lexed_means points text short (Spelled tokens are) = tokens_mean points text tokens (record { short = short; lexes = are }) (first_too_deep tokens) refl

text_means : (points : List Point) (text : List ℕ) → Means points text (front_of points text)
unfolding front_of
text_means points text = by (nat_lt text_limit (length text)) refl
  where
    by : (b : Bool) → nat_lt text_limit (length text) ≡ b → Means points text (if b then Err r.TooLarge else front_of_lexed points (every_text text))
    by true e = ltb-true text_limit (length text) e
    by false e = lexed_means points text (ltb-false text_limit (length text) e) (every_text text)

-- ---- what is so is what the function answers

-- a beginning of a beginning
begins_front : (a b : ℕ) (tokens : List Token) → a ≤ b → Begins (take b tokens) → Begins (take a tokens)
begins_front a b tokens h (tree, more, spells) =
    let front : take a (take b tokens) ≡ take a tokens = take-take a b tokens h in
    let seam : take b tokens ≡ take a tokens ++ drop a (take b tokens) = sym (take-append-drop a (take b tokens)) ∙ ap (λ l. l ++ drop a (take b tokens)) front in
    (tree, drop a (take b tokens) ++ more, subst (Spells tree) (ap (λ l. l ++ more) seam ∙ append_assoc (take a tokens) (drop a (take b tokens)) more) spells)

never_before : (tokens : List Token) (a b : ℕ) → IsFirstImpossible tokens a → IsFirstImpossible tokens b → a < b → ⊥
never_before tokens a b x y h = x.there (omega (arith, h, y.within)) (begins_front (a + 1) b tokens (omega (arith, h)) y.before)

one_impossible : (tokens : List Token) (a b : ℕ) → IsFirstImpossible tokens a → IsFirstImpossible tokens b → a ≡ b
one_impossible tokens a b x y = by (nat_lt a b) refl (nat_lt b a) refl
  where
    by : (s : Bool) → nat_lt a b ≡ s → (t : Bool) → nat_lt b a ≡ t → a ≡ b
    by true e t f = absurd (never_before tokens a b x y (ltb-true a b e))
    by false e true f = absurd (never_before tokens b a y x (ltb-true b a f))
    by false e false f = omega (arith, ltb-false a b e, ltb-false b a f)

on_short : (points : List Point) (text : List ℕ) → length text ≤ text_limit → front_of points text ≡ front_of_lexed points (every_text text)
unfolding front_of
on_short points text h = ap (λ b. if b then Err r.TooLarge else front_of_lexed points (every_text text)) (le-ltb text_limit (length text) h)

on_fault : (points : List Point) (text : List ℕ) (place : ℕ) (cause : LexCause) → IsLexicalFault text place cause → (l : Lexed text) → front_of_lexed points l ≡ Err (r.Lex place cause)
on_fault points text place cause h (Faulty p c f) =
    let same = one_lexing.fault text p place c cause f h in λ i. Err (r.Lex (same.0 i) (same.1 i))
on_fault points text place cause h (Spelled tokens are) = absurd (one_lexing.either text tokens place cause are h)

on_tokens : (points : List Point) (text : List ℕ) (tokens : List Token) → Lexes text tokens → (l : Lexed text) → front_of_lexed points l ≡ front_of_tokens points tokens (first_too_deep tokens)
on_tokens points text tokens h (Faulty place cause f) = absurd (one_lexing.either text tokens place cause h f)
on_tokens points text tokens h (Spelled found are) = ap (λ ts. front_of_tokens points ts (first_too_deep ts)) (one_lexing.tokens text found tokens are h)

has_tokens : (points : List Point) (text : List ℕ) (tokens : List Token) → HasTokens text tokens → front_of points text ≡ front_of_tokens points tokens (first_too_deep tokens)
has_tokens points text tokens h = on_short points text h.short ∙ on_tokens points text tokens h.lexes (every_text text)

low_tokens : (points : List Point) (text : List ℕ) (tokens : List Token) → HasTokens text tokens → first_too_deep tokens ≡ None
    → front_of points text ≡ front_of_outcome points (length tokens) (whole (length tokens + 1) tokens)
low_tokens points text tokens h low = has_tokens points text tokens h ∙ ap (front_of_tokens points tokens) low

on_spelled : (points : List Point) (tokens : List Token) (tree : Tree) → Spells tree tokens → (o : Outcome Tree) → whole (length tokens + 1) tokens ≡ o
    → front_of_outcome points (length tokens) o ≡ front_of_tree tree (first_typing_fault points tree)
on_spelled points tokens tree h (Ok (found, more)) e = ap (λ t. front_of_tree t (first_typing_fault points t)) (one_tree tokens found tree (read_is_spelled tokens found more e) h)
on_spelled points tokens tree h (Err left) e = absurd ((refused_is_first tokens left e).no_program tree h)

on_impossible : (points : List Point) (tokens : List Token) (token : ℕ) → IsFirstImpossible tokens token → (o : Outcome Tree) → whole (length tokens + 1) tokens ≡ o
    → front_of_outcome points (length tokens) o ≡ Err (r.Syntax token)
on_impossible points tokens token h (Ok (found, more)) e = absurd (h.no_program found (read_is_spelled tokens found more e))
on_impossible points tokens token h (Err left) e = ap (λ n. Err (r.Syntax n)) (one_impossible tokens (length tokens - left) token (refused_is_first tokens left e) h)

has_tree : (points : List Point) (text : List ℕ) (tree : Tree) → HasTree text tree → front_of points text ≡ front_of_tree tree (first_typing_fault points tree)
has_tree points text tree h =
    low_tokens points text h.tokens h.has h.low ∙ on_spelled points h.tokens tree h.spells (whole (length h.tokens + 1) h.tokens) refl

well_typed : (points : List Point) (text : List ℕ) (tree : Tree) → HasTree text tree → WellTyped points tree → front_of points text ≡ front_of_words tree (total_words (tags_of tree))
unfolding WellTyped first_typing_fault
well_typed points text tree h typed = has_tree points text tree h ∙ ap (λ faults. front_of_tree tree (first_of faults)) typed

is_program : (points : List Point) (text : List ℕ) (tree : Tree) → IsProgram points text tree → front_of points text ≡ Ok tree
is_program points text tree h =
    well_typed points text tree h.has h.typed
    ∙ ap (λ b. if b then Err (r.TooManyWords (min (total_words (tags_of tree)) greatest_told)) else Ok tree) (le-ltb word_limit (total_words (tags_of tree)) h.few)

is_refused : (points : List Point) (text : List ℕ) (refusal : Refusal) → refusal ≢ r.NoMemory → IsRefused points text refusal → front_of points text ≡ Err refusal
unfolding front_of
is_refused points text r.TooLarge some h = ap (λ b. if b then Err r.TooLarge else front_of_lexed points (every_text text)) (lt-ltb text_limit (length text) h)
is_refused points text (r.Lex place cause) some h = on_short points text h.0 ∙ on_fault points text place cause h.1 (every_text text)
is_refused points text (r.TooDeep token) some h = has_tokens points text h.tokens h.has ∙ ap (front_of_tokens points h.tokens) h.deep
is_refused points text (r.Syntax token) some h = low_tokens points text h.tokens h.has h.low ∙ on_impossible points h.tokens token h.impossible (whole (length h.tokens + 1) h.tokens) refl
is_refused points text (r.Typing fault) some (tree, has, e) = has_tree points text tree has ∙ ap (front_of_tree tree) e
is_refused points text (r.TooManyWords words) some h =
    well_typed points text h.tree h.has h.typed
    ∙ (ap (λ b. if b then Err (r.TooManyWords (min (total_words (tags_of h.tree)) greatest_told)) else Ok h.tree) (lt-ltb word_limit (total_words (tags_of h.tree)) h.many)
    ∙ ap (λ n. Err (r.TooManyWords n)) (sym h.told))
is_refused points text (r.TooLong cost) some h = absurd h
is_refused points text (r.RenameUnknown name) some h = absurd h
is_refused points text (r.RenameTwice name) some h = absurd h
is_refused points text (r.KindChanged name) some h = absurd h
is_refused points text r.NoMemory some h = absurd (some refl)

-- ---- never want of memory

not_told : (words : ℕ) (tree : Tree) (b : Bool) → (if b then Err (r.TooManyWords words) else Ok tree) ≡ Err r.NoMemory → ⊥
not_told words tree true e = cc
not_told words tree false e = cc

tree_told : (tree : Tree) (o : Option TypeFault) → front_of_tree tree o ≡ Err r.NoMemory → ⊥
tree_told tree (Some fault) e = cc
tree_told tree None e = not_told (min (total_words (tags_of tree)) greatest_told) tree (nat_lt word_limit (total_words (tags_of tree))) e

outcome_told : (points : List Point) (count : ℕ) (o : Outcome Tree) → front_of_outcome points count o ≡ Err r.NoMemory → ⊥
outcome_told points count (Ok (tree, more)) e = tree_told tree (first_typing_fault points tree) e
outcome_told points count (Err left) e = cc

tokens_told : (points : List Point) (tokens : List Token) (o : Option ℕ) → front_of_tokens points tokens o ≡ Err r.NoMemory → ⊥
tokens_told points tokens (Some token) e = cc
tokens_told points tokens None e = outcome_told points (length tokens) (whole (length tokens + 1) tokens) e

lexed_told : {text : List ℕ} (points : List Point) (l : Lexed text) → front_of_lexed points l ≡ Err r.NoMemory → ⊥
lexed_told points (Faulty place cause is) e = cc
lexed_told points (Spelled tokens are) e = tokens_told points tokens (first_too_deep tokens) e

never_memory : (points : List Point) (text : List ℕ) → front_of points text ≢ Err r.NoMemory
unfolding front_of
never_memory points text e = by (nat_lt text_limit (length text)) e
  where
    by : (b : Bool) → (if b then Err r.TooLarge else front_of_lexed points (every_text text)) ≡ Err r.NoMemory → ⊥
    by true e = cc
    by false e = lexed_told points (every_text text) e

-- ---- the law

pub front_is : (points : List Point) (text : List ℕ) → FrontIs points text
front_is points text = record {
  program = λ tree. ((λ e. subst (Means points text) e (text_means points text)), is_program points text tree);
  refused = λ refusal some. ((λ e. subst (Means points text) e (text_means points text)), is_refused points text refusal some);
  memory = never_memory points text;
}
