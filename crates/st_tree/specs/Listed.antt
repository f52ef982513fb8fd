-- One or more parts of one sort, as the tree has them: the first, and those behind it.
use Rattle.std.specs.Prelude.{List, ◌∷◌, map}
use Rattle.st_tree.specs.declared.declaration.PlacedName.{PlacedName}
use Rattle.st_tree.specs.declared.declaration.Names.{Names}
use Rattle.st_tree.specs.declared.expression.Operation.{Operation}
use Rattle.st_tree.specs.declared.statement.Input.{Input}
use Rattle.st_tree.specs.declared.statement.Inputs.{Inputs}

-- all of them, in order
abbrev pub listed : {A : Type 0} → A → List A → List A
listed first more = first ∷ more

-- the names of a declaration
abbrev pub names_of : Names → List PlacedName
names_of names = listed names.first names.more

-- the inputs of a call
abbrev pub inputs_of : Inputs → List Input
inputs_of inputs = listed inputs.first inputs.more

-- what stands behind the operators
abbrev pub operands : {O A : Type 0} → List (Operation O A) → List A
operands more = map (λ part. part.operand) more
