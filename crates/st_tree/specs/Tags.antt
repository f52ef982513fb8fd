-- The tags of a program, in the order of their declarations.
use Rattle.std.specs.Prelude.{ℕ, Bool, true, false, List, map, Option, None}
use Rattle.std.specs.List.{flat_map, find}
use Rattle.std.specs.Str.{bytes_eq}
use Rattle.st_tree.specs.declared.declaration.PlacedName.{PlacedName}
use Rattle.st_tree.specs.declared.declaration.Constant.{Constant}
use Rattle.st_tree.specs.declared.declaration.DeclaredType.{DeclaredType}
use Rattle.st_tree.specs.declared.declaration.DeclaredType.TheVariants as declared
use Rattle.st_tree.specs.declared.declaration.Declaration.{Declaration}
use Rattle.st_tree.specs.declared.declaration.ExternalDeclaration.{ExternalDeclaration}
use Rattle.st_tree.specs.declared.declaration.Block.{Block}
use Rattle.st_tree.specs.declared.declaration.Block.TheVariants as part
use Rattle.st_tree.specs.declared.program.Tree.{Tree}
use Rattle.st_tree.specs.declared.tag.Tag.{Tag}
use Rattle.st_tree.specs.Listed.{names_of}

-- the tag of a declared name, with its type and the first value that is written; of VAR_EXTERNAL or of VAR
abbrev pub tag_of : Bool → DeclaredType → Option Constant → PlacedName → Tag
tag_of external declared constant n =
    record { name = n.name; place = n.place; declared = declared; constant = constant; external = external }

-- a declaration of VAR makes a tag of each of its names, with one type and one first value
abbrev pub tags_of_declaration : Declaration → List Tag
tags_of_declaration d = map (tag_of false d.declared d.constant) (names_of d.names)

-- a declaration of VAR_EXTERNAL makes a tag of one word of each of its names, and has no first value
abbrev pub tags_of_external : ExternalDeclaration → List Tag
tags_of_external d = map (tag_of true (declared.Simple d.declared) None) (names_of d.names)

-- the tags of a block of declarations
abbrev pub tags_of_block : Block → List Tag
tags_of_block (part.Plain declarations) = flat_map tags_of_declaration declarations
tags_of_block (part.External declarations) = flat_map tags_of_external declarations

-- all of a program's tags
unfoldable pub tags_of : Tree → List Tag
tags_of tree = flat_map tags_of_block tree.blocks

-- the tag that a name means: the first that is declared so
unfoldable pub tag_named : List Tag → List ℕ → Option Tag
tag_named tags name = find (λ t. bytes_eq name t.name) tags
