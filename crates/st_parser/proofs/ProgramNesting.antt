-- How deep programs nest.
use Rattle.std.proofs.Common.{◌≡◌, ◌↔◌, ◌≤◌, ℕ, max, List, [], ◌∷◌, ◌++◌, Option, None, Some, arith, refl, ap, sym, ◌∙◌, append_assoc, append-nil}
use Rattle.function_blocks.specs.declared.kinds.Kind.{Kind as Simple}
use Rattle.function_blocks.specs.declared.kinds.Kind.TheVariants as simple
use Rattle.function_blocks.specs.declared.blocks.BlockKind.{BlockKind}
use Rattle.function_blocks.specs.declared.blocks.BlockKind.TheVariants as block
use Rattle.st_tree.specs.declared.token.Token.{Token}
use Rattle.st_tree.specs.declared.token.TokenKind.TheVariants as kind
use Rattle.st_tree.specs.declared.token.Fixed.TheVariants as w
use Rattle.st_tree.specs.declared.declaration.PlacedName.{PlacedName}
use Rattle.st_tree.specs.declared.declaration.Constant.{Constant}
use Rattle.st_tree.specs.declared.declaration.Constant.TheVariants as constant
use Rattle.st_tree.specs.declared.declaration.DeclaredType.{DeclaredType}
use Rattle.st_tree.specs.declared.declaration.DeclaredType.TheVariants as declared
use Rattle.st_tree.specs.declared.declaration.Names.{Names}
use Rattle.st_tree.specs.declared.declaration.Declaration.{Declaration}
use Rattle.st_tree.specs.declared.declaration.ExternalDeclaration.{ExternalDeclaration}
use Rattle.st_tree.specs.declared.declaration.Block.{Block}
use Rattle.st_tree.specs.declared.declaration.Block.TheVariants as part
use Rattle.st_tree.specs.declared.program.Tree.{Tree}
use Rattle.st_tree.specs.Pieces.{Anywhere, Placed, ◌·◌, word, name, each}
use Rattle.st_tree.specs.Pieces as pieces
use Rattle.st_tree.specs.Nesting.{nesting_with, too_deep_from, first_too_deep}
use Rattle.st_tree.specs.TreeNesting.{type_nesting, block_nesting, body_nesting, nesting_of}
use Rattle.st_tree.specs.Declarations.{spell_integer, spell_constant, simple_word, block_word, spell_type, spell_names, spell_declaration, spell_external, spell_block}
use Rattle.st_tree.specs.Expressions.{truth_word}
use Rattle.st_tree.specs.Statements.{spell_statement}
use Rattle.st_tree.specs.Programs.{spell_program, Spells}
use Rattle.st_parser.proofs.StatementSpelling.{plain_block-is, external_block-is}
use Rattle.st_parser.proofs.PieceNesting.{Nests, nests_to, nests_piece, nests_append, nests_bracket, nests_behind, nests_none, nests_before, nests_each, nests_flat, closes_one}
use Rattle.st_parser.proofs.ExpressionNesting.{quiet_truth}
use Rattle.st_parser.proofs.StatementNesting.{nests_integer, statement_depth, nests_statement}

quiet_simple : (s : Simple) (d : ℕ) → nesting_with d (kind.Fixed (simple_word s)) ≡ d
quiet_simple simple.Bool d = refl
quiet_simple simple.Int d = refl
quiet_simple simple.Dint d = refl

quiet_block : (b : BlockKind) (d : ℕ) → nesting_with d (kind.Fixed (block_word b)) ≡ d
quiet_block block.RTrig d = refl
quiet_block block.FTrig d = refl
quiet_block block.Sr d = refl
quiet_block block.Rs d = refl
quiet_block block.Ctu d = refl
quiet_block block.Ctd d = refl
quiet_block block.Ton d = refl
quiet_block block.Tof d = refl
quiet_block block.Tp d = refl

nests_constant : (c : Constant) → Nests (spell_constant c) 0
nests_constant (constant.Integer i) = nests_integer i
nests_constant (constant.Truth value place) = nests_piece (Placed (kind.Fixed (truth_word value)) place) (quiet_truth value)

nests_type : (t : DeclaredType) → Nests (spell_type t) (type_nesting t)
nests_type (declared.Simple s) = nests_piece (Anywhere (kind.Fixed (simple_word s))) (quiet_simple s)
nests_type (declared.Array low high element) =
    let l = spell_integer low in
    let h = Anywhere (kind.Fixed w.Range) ∷ spell_integer high in
    let c = Anywhere (kind.Fixed w.CloseBracket) in
    let rest = Anywhere (kind.Fixed w.Of) ∷ Anywhere (kind.Fixed (simple_word element)) ∷ [] in
    let o = Anywhere (kind.Fixed w.OpenBracket) in
    let flat : l ++ (h ++ (c ∷ rest)) ≡ ((l ++ h) ++ c ∷ []) ++ rest = sym (append_assoc (l ++ h) (c ∷ []) rest ∙ append_assoc l h (c ∷ rest)) in
    nests_behind (Anywhere (kind.Fixed w.Array)) _ 1 (λ d. refl) (nests_to _ (o ∷ (((l ++ h) ++ c ∷ []) ++ rest)) 1 1 (ap (λ l. o ∷ l) flat) refl
    (nests_append (o ∷ ((l ++ h) ++ c ∷ [])) rest 1 0 (nests_bracket o c (l ++ h) 0 (λ d. refl) closes_one (nests_append l h 0 0 (nests_integer low) (nests_behind (Anywhere (kind.Fixed w.Range)) _ 0 (λ d. refl) (nests_integer high))))
    (nests_behind (Anywhere (kind.Fixed w.Of)) _ 0 (λ d. refl) (nests_piece (Anywhere (kind.Fixed (simple_word element))) (quiet_simple element)))))
nests_type (declared.Block b) = nests_piece (Anywhere (kind.Fixed (block_word b))) (quiet_block b)

nests_name : (n : PlacedName) → Nests (name n) 0
nests_name n = nests_piece (Placed (kind.Name n.name) n.place) (λ d. refl)

nests_names : (n : Names) → Nests (spell_names n) 0
nests_names n = nests_append (name n.first) (each (λ n. word w.Comma · name n) n.more) 0 0 (nests_name n.first) (nests_flat (λ n. word w.Comma · name n) (λ n. nests_behind (Anywhere (kind.Fixed w.Comma)) _ 0 (λ d. refl) (nests_name n)) n.more)

nests_first : (o : Option Constant) → Nests (pieces.maybe (λ c. word w.Assign · spell_constant c) o) 0
nests_first None = nests_none
nests_first (Some c) = nests_behind (Anywhere (kind.Fixed w.Assign)) _ 0 (λ d. refl) (nests_constant c)

nests_declaration : (x : Declaration) → Nests (spell_declaration x) (type_nesting x.declared)
nests_declaration x =
    let n = type_nesting x.declared in
    nests_to _ _ n (max 0 (max n (max 0 0))) refl (omega arith)
    (nests_append (spell_names x.names) _ 0 (max n (max 0 0)) (nests_names x.names) (nests_behind (Anywhere (kind.Fixed w.Colon)) _ (max n (max 0 0)) (λ d. refl)
    (nests_append (spell_type x.declared) _ n (max 0 0) (nests_type x.declared) (nests_append (pieces.maybe (λ c. word w.Assign · spell_constant c) x.constant) _ 0 0 (nests_first x.constant) (nests_piece (Anywhere (kind.Fixed w.Semicolon)) (λ d. refl))))))

nests_external : (x : ExternalDeclaration) → Nests (spell_external x) 0
nests_external x =
    nests_append (spell_names x.names) _ 0 0 (nests_names x.names) (nests_behind (Anywhere (kind.Fixed w.Colon)) _ 0 (λ d. refl)
    (nests_behind (Anywhere (kind.Fixed (simple_word x.declared))) _ 0 (quiet_simple x.declared) (nests_piece (Anywhere (kind.Fixed w.Semicolon)) (λ d. refl))))

nests_block : (b : Block) → Nests (spell_block b) (block_nesting b)
unfolding block_nesting
nests_block (part.Plain declarations) = nests_to _ _ _ _ (plain_block-is declarations) refl
    (nests_behind (Anywhere (kind.Fixed w.Var)) _ _ (λ d. refl) (nests_before (Anywhere (kind.Fixed w.EndVar)) _ _ (λ d. refl) (nests_each spell_declaration (λ (d : Declaration). type_nesting d.declared) nests_declaration declarations [] 0 nests_none)))
nests_block (part.External externals) = nests_to _ _ _ _ (external_block-is externals) refl
    (nests_behind (Anywhere (kind.Fixed w.VarExternal)) _ _ (λ d. refl) (nests_before (Anywhere (kind.Fixed w.EndVar)) _ _ (λ d. refl) (nests_each spell_external (λ (d : ExternalDeclaration). 0) nests_external externals [] 0 nests_none)))

nests_program : (t : Tree) → Nests (spell_program t) (nesting_of t)
unfolding nesting_of body_nesting
nests_program t =
    let n = nesting_of t in
    nests_behind (Anywhere (kind.Fixed w.Program)) _ n (λ d. refl) (nests_behind (Placed (kind.Name t.name.name) t.name.place) _ n (λ d. refl)
    (nests_append (each spell_block t.blocks) _ _ _ (nests_each spell_block block_nesting nests_block t.blocks [] 0 nests_none)
    (nests_before (Anywhere (kind.Fixed w.EndProgram)) (each spell_statement t.statements) _ (λ d. refl) (nests_each spell_statement statement_depth nests_statement t.statements [] 0 nests_none))))

pub nests_as_its_tokens : (tree : Tree) (tokens : List Token) → Spells tree tokens → (first_too_deep tokens ≡ None) ↔ (nesting_of tree ≤ 64)
unfolding Spells first_too_deep
nests_as_its_tokens tree tokens spells = (to, from)
  where
    to : too_deep_from 0 tokens ≡ None → nesting_of tree ≤ 64
    to none =
        let x = (nests_program tree).fits 0 tokens [] spells (omega arith) (ap (too_deep_from 0) (append-nil tokens) ∙ none) in
        omega (arith, x.0)

    from : nesting_of tree ≤ 64 → too_deep_from 0 tokens ≡ None
    from low = sym (ap (too_deep_from 0) (append-nil tokens)) ∙ (nests_program tree).goes 0 tokens [] spells (omega (arith, low)) refl
