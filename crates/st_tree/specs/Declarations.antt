-- The grammar of declarations (IEC 61131-3:2013, 6.5): what each part spells.
use Rattle.std.specs.Prelude.{List}
use Rattle.st_tree.specs.declared.token.Fixed.{Fixed}
use Rattle.st_tree.specs.declared.token.Fixed.TheVariants as w
use Rattle.function_blocks.specs.declared.kinds.Kind.{Kind as Simple}
use Rattle.function_blocks.specs.declared.kinds.Kind.TheVariants as simple
use Rattle.function_blocks.specs.declared.blocks.BlockKind.{BlockKind}
use Rattle.function_blocks.specs.declared.blocks.BlockKind.TheVariants as block
use Rattle.st_tree.specs.declared.declaration.Sign.{Sign}
use Rattle.st_tree.specs.declared.declaration.Sign.TheVariants as sign
use Rattle.st_tree.specs.declared.declaration.Integer.{Integer}
use Rattle.st_tree.specs.declared.declaration.Constant.{Constant}
use Rattle.st_tree.specs.declared.declaration.Constant.TheVariants as constant
use Rattle.st_tree.specs.declared.declaration.DeclaredType.{DeclaredType}
use Rattle.st_tree.specs.declared.declaration.DeclaredType.TheVariants as declared
use Rattle.st_tree.specs.declared.declaration.Names.{Names}
use Rattle.st_tree.specs.declared.declaration.Declaration.{Declaration}
use Rattle.st_tree.specs.declared.declaration.ExternalDeclaration.{ExternalDeclaration}
use Rattle.st_tree.specs.declared.declaration.Block.{Block}
use Rattle.st_tree.specs.DeclarationFolds.{DeclarationSteps, fold_block}
use Rattle.st_tree.specs.Pieces.{Piece, ◌·◌, word, word_at, number_at, name, each, separated, maybe}
use Rattle.st_tree.specs.Listed.{names_of}
use Rattle.st_tree.specs.Expressions.{truth_word}

-- the symbol of a sign
abbrev pub sign_word : Sign → Fixed
sign_word sign.Plus = w.Plus
sign_word sign.Minus = w.Minus

-- integer = [ "+" | "-" ] number
abbrev pub spell_integer : Integer → List Piece
spell_integer i = maybe (λ s. word_at (sign_word s.0) s.1) i.sign · number_at i.number i.place

-- constant = integer | TRUE | FALSE
abbrev pub spell_constant : Constant → List Piece
spell_constant (constant.Integer i) = spell_integer i
spell_constant (constant.Truth value place) = word_at (truth_word value) place

-- simple = BOOL | INT | DINT
abbrev pub simple_word : Simple → Fixed
simple_word simple.Bool = w.Bool
simple_word simple.Int = w.Int
simple_word simple.Dint = w.Dint

-- the reserved word of a function block
abbrev pub block_word : BlockKind → Fixed
block_word block.RTrig = w.RTrig
block_word block.FTrig = w.FTrig
block_word block.Sr = w.Sr
block_word block.Rs = w.Rs
block_word block.Ctu = w.Ctu
block_word block.Ctd = w.Ctd
block_word block.Ton = w.Ton
block_word block.Tof = w.Tof
block_word block.Tp = w.Tp

-- kind = simple | ARRAY "[" integer ".." integer "]" OF simple
--      | R_TRIG | F_TRIG | SR | RS | CTU | CTD | TON | TOF | TP
abbrev pub spell_type : DeclaredType → List Piece
spell_type (declared.Simple s) = word (simple_word s)
spell_type (declared.Array low high element) =
    word w.Array · word w.OpenBracket · spell_integer low · word w.Range · spell_integer high · word w.CloseBracket
    · word w.Of · word (simple_word element)
spell_type (declared.Block b) = word (block_word b)

-- tags = name { "," name }
abbrev pub spell_names : Names → List Piece
spell_names names = separated w.Comma name (names_of names)

-- tags ":" kind [ ":=" constant ] ";"
abbrev pub spell_declaration : Declaration → List Piece
spell_declaration d =
    spell_names d.names · word w.Colon · spell_type d.declared
    · maybe (λ c. word w.Assign · spell_constant c) d.constant · word w.Semicolon

-- tags ":" simple ";"
abbrev pub spell_external : ExternalDeclaration → List Piece
spell_external d = spell_names d.names · word w.Colon · word (simple_word d.declared) · word w.Semicolon

-- what each part of a declaration spells, where the declarations of a block spell these pieces
abbrev pub spelled : DeclarationSteps (List Piece) (List Piece)
spelled = record {
  declaration = spell_declaration;
  external = spell_external;
  -- VAR { tags ":" kind [ ":=" constant ] ";" } END_VAR
  plain_block = λ declarations. word w.Var · each (λ declaration. declaration) declarations · word w.EndVar;
  -- VAR_EXTERNAL { tags ":" simple ";" } END_VAR
  external_block = λ externals. word w.VarExternal · each (λ external. external) externals · word w.EndVar;
}

-- what a block of declarations spells
unfoldable pub spell_block : Block → List Piece
spell_block = fold_block spelled
