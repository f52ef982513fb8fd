-- The rules of declarations keep the laws.
use Rattle.std.proofs.Common.{◌≡◌, ℕ, suc, ◌<◌, Bool, true, ◌||◌, inl, inr, List, ◌++◌, length, Option, Some, refl, subst}
use Rattle.st_tree.specs.declared.token.Fixed.{Fixed}
use Rattle.st_tree.specs.declared.token.Fixed.TheVariants as w
use Rattle.st_tree.specs.declared.token.Token.{Token}
use Rattle.function_blocks.specs.declared.kinds.Kind.{Kind as Simple}
use Rattle.function_blocks.specs.declared.kinds.Kind.TheVariants as simple
use Rattle.st_tree.specs.declared.declaration.Sign.{Sign}
use Rattle.st_tree.specs.declared.declaration.Sign.TheVariants as sign
use Rattle.st_tree.specs.declared.declaration.Integer.{Integer}
use Rattle.st_tree.specs.declared.declaration.Constant.{Constant}
use Rattle.st_tree.specs.declared.declaration.Constant.TheVariants as constant
use Rattle.function_blocks.specs.declared.blocks.BlockKind.{BlockKind}
use Rattle.function_blocks.specs.declared.blocks.BlockKind.TheVariants as block
use Rattle.st_tree.specs.declared.declaration.DeclaredType.{DeclaredType}
use Rattle.st_tree.specs.declared.declaration.DeclaredType.TheVariants as declared
use Rattle.st_tree.specs.declared.declaration.Declaration.{Declaration}
use Rattle.st_tree.specs.declared.declaration.ExternalDeclaration.{ExternalDeclaration}
use Rattle.st_tree.specs.declared.declaration.Block.{Block}
use Rattle.st_tree.specs.declared.declaration.Block.TheVariants as part
use Rattle.st_tree.specs.Pieces.{Piece, ArePieces, ◌·◌, word, word_at, number_at, each}
use Rattle.st_tree.specs.Pieces as pieces
use Rattle.st_tree.specs.Expressions.{truth_word}
use Rattle.st_tree.specs.Declarations.{sign_word, spell_integer, spell_constant, simple_word, block_word, spell_type, spell_names, spell_declaration, spell_external, spell_block}
use Rattle.st_parser.specs.Inner.Parsers.{Parser, Look, after, name, number, sees, sees_name, sees_number, sees_some}
use Rattle.st_parser.specs.Inner.Tables.{truth_of, sign_of, simple_of, block_of}
use Rattle.st_parser.specs.Inner.ReadDeclarations as read
use Rattle.st_parser.proofs.Lawful.{Is, Lawful}
use Rattle.st_parser.proofs.Parts.{both}
use Rattle.st_parser.proofs.Choices.{Always, Made, Either, Or, Not, recast, fewer, expect_word, after_word, made_part, rebuilt, either_part, maybe_part}
use Rattle.st_parser.proofs.Repeats.{many_part}
use Rattle.st_parser.proofs.Sets.{fit, Table}
use Rattle.st_parser.proofs.Tokens.{name_law, number_law, entry_law, entry_at_law}
use Rattle.st_parser.proofs.StatementSpelling.{plain_block-is, external_block-is}
use Rattle.st_parser.proofs.ExpressionLaws.{truth_table, some_token, put, get}

sign_table : Table sign_of sign_word
sign_table = record { back = back; only = refl }
  where
    back : (a : Sign) → sign_of (sign_word a) ≡ Some a
    back sign.Plus = refl
    back sign.Minus = refl

simple_table : Table simple_of simple_word
simple_table = record { back = back; only = refl }
  where
    back : (a : Simple) → simple_of (simple_word a) ≡ Some a
    back simple.Bool = refl
    back simple.Int = refl
    back simple.Dint = refl

block_table : Table block_of block_word
block_table = record { back = back; only = refl }
  where
    back : (a : BlockKind) → block_of (block_word a) ≡ Some a
    back block.RTrig = refl
    back block.FTrig = refl
    back block.Sr = refl
    back block.Rs = refl
    back block.Ctu = refl
    back block.Ctd = refl
    back block.Ton = refl
    back block.Tof = refl
    back block.Tp = refl

-- a part behind a word
pub after_same : {A : Type 0} (n : ℕ) (v : Fixed) (q q' : Parser A) (r : A → List Piece) (opens stop : Look → Bool) → Lawful n q q' (Is r) opens stop → Lawful n (after v q) (after v q') (Is (λ a. word v ++ r a)) (sees v) stop
after_same n v q q' r opens stop l = fewer n _ _ _ (sees v) stop (after_word n v q q' r opens stop l)

abbrev pub starts_integer : Look → Bool
starts_integer o = sees_some sign_of o || sees_number o

pub integer_law : (n : ℕ) → Lawful n read.integer read.integer (Is spell_integer) starts_integer Always
unfolding read.integer
integer_law n = rebuilt n (λ x. record { sign = x.0; number = x.1.0; place = x.1.1 }) (λ i. (i.sign, (i.number, i.place))) _ _ _ spell_integer starts_integer Always (λ b. refl) (λ a. refl)
    (both n _ _ number number (pieces.maybe (λ s. word_at (sign_word s.0) s.1)) (λ x. number_at x.0 x.1) (Or (sees_some sign_of) sees_number) sees_number sees_number Always
    (maybe_part n (sees_some sign_of) _ _ (λ s. word_at (sign_word s.0) s.1) (sees_some sign_of) Always sees_number (entry_at_law sign_of sign_word sign_table sign.Plus n)
    (fit (sees_some sign_of) (sees_some sign_of) refl (λ _. refl) (λ _. refl) refl) (fit (sees_number) (Not (sees_some sign_of)) refl (λ _. refl) (λ _. refl) refl) (fit (sees_number) (Always) refl (λ _. refl) (λ _. refl) refl))
    (number_law n) (fit (sees_number) (sees_number) refl (λ _. refl) (λ _. refl) refl))

abbrev starts_constant : Look → Bool
starts_constant = Or (sees_some truth_of) starts_integer

constant_law : (n : ℕ) → Lawful n read.constant read.constant (Is spell_constant) starts_constant Always
unfolding read.constant
constant_law n = recast n _ _ (Either (Made (λ (x : Bool × ℕ). constant.Truth x.0 x.1) (Is (λ x. word_at (truth_word x.0) x.1))) (Made constant.Integer (Is spell_integer))) (Is spell_constant) starts_constant Always to from
    (either_part n (sees_some truth_of) _ _ _ _ _ _ (sees_some truth_of) starts_integer Always
    (made_part n (λ x. constant.Truth x.0 x.1) _ _ _ (sees_some truth_of) Always (entry_at_law truth_of truth_word truth_table true n))
    (made_part n constant.Integer _ _ _ starts_integer Always (integer_law n))
    (fit (sees_some truth_of) (sees_some truth_of) refl (λ _. refl) (λ _. refl) refl) (fit (starts_integer) (Not (sees_some truth_of)) refl (λ _. refl) (λ _. refl) refl))
  where
    to : (b : Constant) (ts : List Token) → Either (Made (λ (x : Bool × ℕ). constant.Truth x.0 x.1) (Is (λ x. word_at (truth_word x.0) x.1))) (Made constant.Integer (Is spell_integer)) b ts → Is spell_constant b ts
    to b ts (inl h) = subst (λ (x : Constant). ArePieces (spell_constant x) ts) h.1 h.2
    to b ts (inr h) = subst (λ (x : Constant). ArePieces (spell_constant x) ts) h.1 h.2

    from : (b : Constant) (ts : List Token) → Is spell_constant b ts → Either (Made (λ (x : Bool × ℕ). constant.Truth x.0 x.1) (Is (λ x. word_at (truth_word x.0) x.1))) (Made constant.Integer (Is spell_integer)) b ts
    from (constant.Truth v place) ts h = inl ((v, place), refl, h)
    from (constant.Integer i) ts h = inr (i, refl, h)

simple_law : (n : ℕ) → Lawful n read.simple read.simple (Is (λ s. word (simple_word s))) (sees_some simple_of) Always
simple_law n = entry_law simple_of simple_word simple_table simple.Bool n

abbrev spell_array : Integer × (Integer × Simple) → List Piece
spell_array x = word w.Array · word w.OpenBracket · spell_integer x.0 · word w.Range · spell_integer x.1.0 · word w.CloseBracket · word w.Of · word (simple_word x.1.1)

array_law : (n : ℕ) → Lawful n read.array read.array (Made (λ (x : Integer × (Integer × Simple)). declared.Array x.0 x.1.0 x.1.1) (Is spell_array)) (sees w.Array) Always
unfolding read.array
array_law n = made_part n (λ x. declared.Array x.0 x.1.0 x.1.1) _ _ (Is spell_array) (sees w.Array) Always
    (after_same n w.Array _ _ (λ (x : Integer × (Integer × Simple)). word w.OpenBracket · spell_integer x.0 · word w.Range · spell_integer x.1.0 · word w.CloseBracket · word w.Of · word (simple_word x.1.1)) (sees w.OpenBracket) Always (after_same n w.OpenBracket _ _ (λ (x : Integer × (Integer × Simple)). spell_integer x.0 · word w.Range · spell_integer x.1.0 · word w.CloseBracket · word w.Of · word (simple_word x.1.1)) starts_integer Always
    (both n _ _ _ _ spell_integer (λ (x : Integer × Simple). word w.Range · spell_integer x.0 · word w.CloseBracket · word w.Of · word (simple_word x.1)) starts_integer Always (sees w.Range) Always (integer_law n)
    (after_same n w.Range _ _ (λ (x : Integer × Simple). spell_integer x.0 · word w.CloseBracket · word w.Of · word (simple_word x.1)) starts_integer Always
    (both n _ _ _ _ spell_integer (λ s. word w.CloseBracket · word w.Of · word (simple_word s)) starts_integer Always (sees w.CloseBracket) Always (integer_law n)
    (after_same n w.CloseBracket _ _ (λ s. word w.Of · word (simple_word s)) (sees w.Of) Always (after_same n w.Of _ _ (λ s. word (simple_word s)) (sees_some simple_of) Always (simple_law n)))
    (fit (sees w.CloseBracket) (Always) refl (λ _. refl) (λ _. refl) refl)))
    (fit (sees w.Range) (Always) refl (λ _. refl) (λ _. refl) refl))))

abbrev Types : DeclaredType → List Token → Type 0
Types = Either (Made (λ (x : Integer × (Integer × Simple)). declared.Array x.0 x.1.0 x.1.1) (Is spell_array)) (Either (Made declared.Simple (Is (λ s. word (simple_word s)))) (Made declared.Block (Is (λ b. word (block_word b)))))

abbrev starts_type : Look → Bool
starts_type = Or (sees w.Array) (Or (sees_some simple_of) (sees_some block_of))

type_law : (n : ℕ) → Lawful n read.declared_type read.declared_type (Is spell_type) starts_type Always
unfolding read.declared_type
type_law n = recast n _ _ Types (Is spell_type) starts_type Always to from
    (either_part n (sees w.Array) _ _ _ _ _ _ (sees w.Array) (Or (sees_some simple_of) (sees_some block_of)) Always (array_law n)
    (either_part n (sees_some simple_of) _ _ _ _ _ _ (sees_some simple_of) (sees_some block_of) Always
    (made_part n declared.Simple _ _ _ (sees_some simple_of) Always (simple_law n))
    (made_part n declared.Block _ _ _ (sees_some block_of) Always (entry_law block_of block_word block_table block.RTrig n))
    (fit (sees_some simple_of) (sees_some simple_of) refl (λ _. refl) (λ _. refl) refl) (fit (sees_some block_of) (Not (sees_some simple_of)) refl (λ _. refl) (λ _. refl) refl))
    (fit (sees w.Array) (sees w.Array) refl (λ _. refl) (λ _. refl) refl) (fit (Or (sees_some simple_of) (sees_some block_of)) (Not (sees w.Array)) refl (λ _. refl) (λ _. refl) refl))
  where
    to : (b : DeclaredType) (ts : List Token) → Types b ts → Is spell_type b ts
    to b ts (inl h) = subst (λ (x : DeclaredType). ArePieces (spell_type x) ts) h.1 h.2
    to b ts (inr (inl h)) = subst (λ (x : DeclaredType). ArePieces (spell_type x) ts) h.1 h.2
    to b ts (inr (inr h)) = subst (λ (x : DeclaredType). ArePieces (spell_type x) ts) h.1 h.2

    from : (b : DeclaredType) (ts : List Token) → Is spell_type b ts → Types b ts
    from (declared.Array low high element) ts h = inl ((low, (high, element)), refl, h)
    from (declared.Simple s) ts h = inr (inl (s, refl, h))
    from (declared.Block b) ts h = inr (inr (b, refl, h))

next_name_law : (n : ℕ) → Lawful n read.next_name read.next_name (Is (λ x. word w.Comma · pieces.name x)) (sees w.Comma) Always
unfolding read.next_name
next_name_law n = after_same n w.Comma name name pieces.name sees_name Always (name_law n)

names_law : (n : ℕ) → Lawful n (read.names n) (read.names (suc n)) (Is spell_names) sees_name (sees w.Colon)
unfolding read.names
names_law n = rebuilt n (λ x. record { first = x.0; more = x.1 }) (λ x. (x.first, x.more)) _ _ _ spell_names sees_name (sees w.Colon) (λ b. refl) (λ a. refl)
    (both n name name _ _ pieces.name (each (λ x. word w.Comma · pieces.name x)) sees_name Always (Or (sees w.Comma) (sees w.Colon)) (sees w.Colon) (name_law n)
    (many_part n (sees w.Comma) _ _ (λ x. word w.Comma · pieces.name x) (sees w.Comma) Always (sees w.Colon) (next_name_law n)
    (fit (sees w.Comma) (sees w.Comma) refl (λ _. refl) (λ _. refl) refl) (fit (sees w.Colon) (Not (sees w.Comma)) refl (λ _. refl) (λ _. refl) refl) (fit (Or (sees w.Comma) (sees w.Colon)) (Always) refl (λ _. refl) (λ _. refl) refl) (λ a ts h. some_token (word w.Comma · pieces.name a) refl ts h))
    (fit (Or (sees w.Comma) (sees w.Colon)) (Always) refl (λ _. refl) (λ _. refl) refl))

first_value_law : (n : ℕ) → Lawful n read.first_value read.first_value (Is (pieces.maybe (λ c. word w.Assign · spell_constant c))) (Or (sees w.Assign) (sees w.Semicolon)) (sees w.Semicolon)
first_value_law n = maybe_part n (sees w.Assign) _ _ (λ c. word w.Assign · spell_constant c) (sees w.Assign) Always (sees w.Semicolon) (after_same n w.Assign _ _ spell_constant starts_constant Always (constant_law n))
    (fit (sees w.Assign) (sees w.Assign) refl (λ _. refl) (λ _. refl) refl) (fit (sees w.Semicolon) (Not (sees w.Assign)) refl (λ _. refl) (λ _. refl) refl) (fit (sees w.Semicolon) (Always) refl (λ _. refl) (λ _. refl) refl)

declaration_law : (n : ℕ) → Lawful n (read.declaration n) (read.declaration (suc n)) (Is spell_declaration) sees_name Always
unfolding read.declaration
declaration_law n = rebuilt n (λ x. record { names = x.0; declared = x.1.0; constant = x.1.1.0 }) (λ x. (x.names, (x.declared, (x.constant, tt)))) _ _ _ spell_declaration sees_name Always (λ b. refl) (λ a. refl)
    (both n _ _ _ _ spell_names (λ (x : DeclaredType × (Option Constant × Unit {0})). word w.Colon · spell_type x.0 · pieces.maybe (λ c. word w.Assign · spell_constant c) x.1.0 · word w.Semicolon) sees_name (sees w.Colon) (sees w.Colon) Always (names_law n)
    (after_same n w.Colon _ _ (λ (x : DeclaredType × (Option Constant × Unit {0})). spell_type x.0 · pieces.maybe (λ c. word w.Assign · spell_constant c) x.1.0 · word w.Semicolon) starts_type Always
    (both n _ _ _ _ spell_type (λ (x : Option Constant × Unit {0}). pieces.maybe (λ c. word w.Assign · spell_constant c) x.0 · word w.Semicolon) starts_type Always (Or (sees w.Assign) (sees w.Semicolon)) Always (type_law n)
    (both n _ _ _ _ (pieces.maybe (λ c. word w.Assign · spell_constant c)) (λ _. word w.Semicolon) (Or (sees w.Assign) (sees w.Semicolon)) (sees w.Semicolon) (sees w.Semicolon) Always (first_value_law n) (expect_word n w.Semicolon)
    (fit (sees w.Semicolon) (sees w.Semicolon) refl (λ _. refl) (λ _. refl) refl))
    (fit (Or (sees w.Assign) (sees w.Semicolon)) (Always) refl (λ _. refl) (λ _. refl) refl)))
    (fit (sees w.Colon) (sees w.Colon) refl (λ _. refl) (λ _. refl) refl))

external_law : (n : ℕ) → Lawful n (read.external n) (read.external (suc n)) (Is spell_external) sees_name Always
unfolding read.external
external_law n = rebuilt n (λ x. record { names = x.0; declared = x.1.0 }) (λ x. (x.names, (x.declared, tt))) _ _ _ spell_external sees_name Always (λ b. refl) (λ a. refl)
    (both n _ _ _ _ spell_names (λ (x : Simple × Unit {0}). word w.Colon · word (simple_word x.0) · word w.Semicolon) sees_name (sees w.Colon) (sees w.Colon) Always (names_law n)
    (after_same n w.Colon _ _ (λ (x : Simple × Unit {0}). word (simple_word x.0) · word w.Semicolon) (sees_some simple_of) Always
    (both n _ _ _ _ (λ s. word (simple_word s)) (λ _. word w.Semicolon) (sees_some simple_of) Always (sees w.Semicolon) Always (simple_law n) (expect_word n w.Semicolon) (fit (sees w.Semicolon) (Always) refl (λ _. refl) (λ _. refl) refl)))
    (fit (sees w.Colon) (sees w.Colon) refl (λ _. refl) (λ _. refl) refl))

-- a declaration begins with a name, and has a token
declared_some : (d : Declaration) (ts : List Token) → Is spell_declaration d ts → 0 < length ts
declared_some d ts h = some_token (spell_declaration d) refl ts h

external_some : (d : ExternalDeclaration) (ts : List Token) → Is spell_external d ts → 0 < length ts
external_some d ts h = some_token (spell_external d) refl ts h

plain_law : (n : ℕ) → Lawful n (read.plain_block n) (read.plain_block (suc n)) (Made (λ (x : List Declaration × Unit {0}). part.Plain x.0) (Is (λ x. word w.Var · each spell_declaration x.0 · word w.EndVar))) (sees w.Var) Always
unfolding read.plain_block
plain_law n = made_part n (λ x. part.Plain x.0) _ _ _ (sees w.Var) Always
    (after_same n w.Var _ _ (λ (x : List Declaration × Unit {0}). each spell_declaration x.0 · word w.EndVar) (Or sees_name (sees w.EndVar)) Always
    (both n _ _ _ _ (each spell_declaration) (λ _. word w.EndVar) (Or sees_name (sees w.EndVar)) (sees w.EndVar) (sees w.EndVar) Always
    (many_part n sees_name _ _ spell_declaration sees_name Always (sees w.EndVar) (declaration_law n) (fit (sees_name) (sees_name) refl (λ _. refl) (λ _. refl) refl) (fit (sees w.EndVar) (Not sees_name) refl (λ _. refl) (λ _. refl) refl) (fit (Or sees_name (sees w.EndVar)) (Always) refl (λ _. refl) (λ _. refl) refl) declared_some)
    (expect_word n w.EndVar) (fit (sees w.EndVar) (sees w.EndVar) refl (λ _. refl) (λ _. refl) refl)))

external_block_law : (n : ℕ) → Lawful n (read.external_block n) (read.external_block (suc n)) (Made (λ (x : List ExternalDeclaration × Unit {0}). part.External x.0) (Is (λ x. word w.VarExternal · each spell_external x.0 · word w.EndVar))) (sees w.VarExternal) Always
unfolding read.external_block
external_block_law n = made_part n (λ x. part.External x.0) _ _ _ (sees w.VarExternal) Always
    (after_same n w.VarExternal _ _ (λ (x : List ExternalDeclaration × Unit {0}). each spell_external x.0 · word w.EndVar) (Or sees_name (sees w.EndVar)) Always
    (both n _ _ _ _ (each spell_external) (λ _. word w.EndVar) (Or sees_name (sees w.EndVar)) (sees w.EndVar) (sees w.EndVar) Always
    (many_part n sees_name _ _ spell_external sees_name Always (sees w.EndVar) (external_law n) (fit (sees_name) (sees_name) refl (λ _. refl) (λ _. refl) refl) (fit (sees w.EndVar) (Not sees_name) refl (λ _. refl) (λ _. refl) refl) (fit (Or sees_name (sees w.EndVar)) (Always) refl (λ _. refl) (λ _. refl) refl) external_some)
    (expect_word n w.EndVar) (fit (sees w.EndVar) (sees w.EndVar) refl (λ _. refl) (λ _. refl) refl)))

abbrev Blocks : Block → List Token → Type 0
Blocks = Either (Made {A = List Declaration × Unit {0}} (λ x. part.Plain x.0) (Is (λ x. word w.Var · each spell_declaration x.0 · word w.EndVar))) (Made {A = List ExternalDeclaration × Unit {0}} (λ x. part.External x.0) (Is (λ x. word w.VarExternal · each spell_external x.0 · word w.EndVar)))

pub block_law : (n : ℕ) → Lawful n (read.block n) (read.block (suc n)) (Is spell_block) (Or (sees w.Var) (sees w.VarExternal)) Always
unfolding read.block
block_law n = recast n _ _ Blocks (Is spell_block) _ Always to from
    (either_part n (sees w.Var) _ _ _ _ _ _ (sees w.Var) (sees w.VarExternal) Always (plain_law n) (external_block_law n) (fit (sees w.Var) (sees w.Var) refl (λ _. refl) (λ _. refl) refl) (fit (sees w.VarExternal) (Not (sees w.Var)) refl (λ _. refl) (λ _. refl) refl))
  where
    to : (b : Block) (ts : List Token) → Blocks b ts → Is spell_block b ts
    to b ts (inl h) = put spell_block b (part.Plain h.0.0) _ ts h.1 (plain_block-is h.0.0) h.2
    to b ts (inr h) = put spell_block b (part.External h.0.0) _ ts h.1 (external_block-is h.0.0) h.2

    from : (b : Block) (ts : List Token) → Is spell_block b ts → Blocks b ts
    from (part.Plain ds) ts h = inl ((ds, tt), refl, get spell_block (part.Plain ds) (part.Plain ds) _ ts refl (plain_block-is ds) h)
    from (part.External ds) ts h = inr ((ds, tt), refl, get spell_block (part.External ds) (part.External ds) _ ts refl (external_block-is ds) h)

pub block_some : (b : Block) (ts : List Token) → Is spell_block b ts → 0 < length ts
block_some (part.Plain ds) ts h = some_token (word w.Var · each spell_declaration ds · word w.EndVar) refl ts (get spell_block (part.Plain ds) (part.Plain ds) _ ts refl (plain_block-is ds) h)
block_some (part.External ds) ts h = some_token (word w.VarExternal · each spell_external ds · word w.EndVar) refl ts (get spell_block (part.External ds) (part.External ds) _ ts refl (external_block-is ds) h)
