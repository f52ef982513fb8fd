-- What a function over declarations makes of each part of the grammar: one record of four steps, and the function that
-- it gives.
use Rattle.std.specs.Prelude.{List, map}
use Rattle.st_tree.specs.declared.declaration.Declaration.{Declaration}
use Rattle.st_tree.specs.declared.declaration.ExternalDeclaration.{ExternalDeclaration}
use Rattle.st_tree.specs.declared.declaration.Block.{Block}
use Rattle.st_tree.specs.declared.declaration.Block.TheVariants as part

-- The four steps. D is what is made of a declaration, and B of a block.
pub record DeclarationSteps (D B : Type 0) : Type 0 where
  -- of VAR
  pub declaration : Declaration → D
  -- of VAR_EXTERNAL
  pub external : ExternalDeclaration → D
  pub plain_block : List D → B
  pub external_block : List D → B

-- a block, each declaration of which has been replaced
abbrev pub fold_block : {D B : Type 0} → DeclarationSteps D B → Block → B
fold_block s (part.Plain declarations) = s.plain_block (map s.declaration declarations)
fold_block s (part.External declarations) = s.external_block (map s.external declarations)
