-- Nobody has to believe what stands here: it serves private functions alone.
-- Reading declarations: each part as a parser. The number is more than the tokens that are left.
use Rattle.std.specs.Prelude.{ℕ, List, Option}
use Rattle.st_tree.specs.declared.token.Fixed.TheVariants as w
use Rattle.function_blocks.specs.declared.kinds.Kind.{Kind as Simple}
use Rattle.st_tree.specs.declared.declaration.PlacedName.{PlacedName}
use Rattle.st_tree.specs.declared.declaration.Sign.{Sign}
use Rattle.st_tree.specs.declared.declaration.Integer.{Integer}
use Rattle.st_tree.specs.declared.declaration.Constant.{Constant}
use Rattle.st_tree.specs.declared.declaration.Constant.TheVariants as constant_is
use Rattle.st_tree.specs.declared.declaration.DeclaredType.{DeclaredType}
use Rattle.st_tree.specs.declared.declaration.DeclaredType.TheVariants as declared
use Rattle.st_tree.specs.declared.declaration.Names.{Names}
use Rattle.st_tree.specs.declared.declaration.Declaration.{Declaration}
use Rattle.st_tree.specs.declared.declaration.ExternalDeclaration.{ExternalDeclaration}
use Rattle.st_tree.specs.declared.declaration.Block.{Block}
use Rattle.st_tree.specs.declared.declaration.Block.TheVariants as part
use Rattle.st_parser.specs.Inner.Parsers.{Parser, ◌⨟◌, made, either, maybe, many, after, expect, name, number, entry, entry_at, sees, sees_name, sees_some}
use Rattle.st_parser.specs.Inner.Tables.{truth_of, sign_of, simple_of, block_of}

abbrev pub sign_part : Parser (Option (Sign × ℕ))
sign_part = maybe (sees_some sign_of) (entry_at sign_of)

unfoldable pub integer : Parser Integer
integer = made (λ x. record { sign = x.0; number = x.1.0; place = x.1.1 }) (sign_part ⨟ number)

unfoldable pub constant : Parser Constant
constant =
    either (sees_some truth_of) (made (λ x. constant_is.Truth x.0 x.1) (entry_at truth_of))
    (made constant_is.Integer integer)

abbrev pub simple : Parser Simple
simple = entry simple_of

-- ARRAY "[" integer ".." integer "]" OF simple
unfoldable pub array : Parser DeclaredType
array = made (λ x. declared.Array x.0 x.1.0 x.1.1)
    (after w.Array (after w.OpenBracket (integer ⨟ after w.Range (integer ⨟ after w.CloseBracket (after w.Of simple)))))

unfoldable pub declared_type : Parser DeclaredType
declared_type =
    either (sees w.Array) array
    (either (sees_some simple_of) (made declared.Simple simple) (made declared.Block (entry block_of)))

-- [ ":=" constant ]
abbrev pub first_value : Parser (Option Constant)
first_value = maybe (sees w.Assign) (after w.Assign constant)

unfoldable pub next_name : Parser PlacedName
next_name = after w.Comma name

module _ (turns : ℕ) where
  abbrev pub more_names : Parser (List PlacedName)
  more_names = many (sees w.Comma) next_name turns

  unfoldable pub names : Parser Names
  names = made (λ x. record { first = x.0; more = x.1 }) (name ⨟ more_names)

  unfoldable pub declaration : Parser Declaration
  declaration = made (λ x. record { names = x.0; declared = x.1.0; constant = x.1.1.0 })
      (names ⨟ after w.Colon (declared_type ⨟ first_value ⨟ expect w.Semicolon))

  unfoldable pub external : Parser ExternalDeclaration
  external = made (λ x. record { names = x.0; declared = x.1.0 }) (names ⨟ after w.Colon (simple ⨟ expect w.Semicolon))

  abbrev pub declarations : Parser (List Declaration)
  declarations = many sees_name declaration turns

  abbrev pub externals : Parser (List ExternalDeclaration)
  externals = many sees_name external turns

  unfoldable pub plain_block : Parser Block
  plain_block = made (λ x. part.Plain x.0) (after w.Var (declarations ⨟ expect w.EndVar))

  unfoldable pub external_block : Parser Block
  external_block = made (λ x. part.External x.0) (after w.VarExternal (externals ⨟ expect w.EndVar))

  unfoldable pub block : Parser Block
  block = either (sees w.Var) plain_block external_block
