-- The tree of a matrix's program, with the byte places of its names.
use Rattle.std.proofs.Common.{◌≡◌, ℕ, ◌+◌, false, List, [], ◌∷◌, ◌++◌, length, map, Option, Some, None, refl, ap, ◌∙◌, codes}
use Rattle.std.specs.List.{flat_map}
use Rattle.function_blocks.specs.declared.kinds.Kind.TheVariants as simple
use Rattle.st_tree.specs.declared.declaration.PlacedName.{PlacedName}
use Rattle.st_tree.specs.declared.declaration.ExternalDeclaration.{ExternalDeclaration}
use Rattle.st_tree.specs.declared.declaration.Block.TheVariants as part
use Rattle.st_tree.specs.declared.expression.Primary.TheVariants as p
use Rattle.st_tree.specs.declared.expression.Primary.TheOpen.{Primary-F, Unary-F}
use Rattle.st_tree.specs.declared.expression.Unary.{Unary}
use Rattle.st_tree.specs.declared.expression.Unary.TheVariants as u
use Rattle.st_tree.specs.declared.expression.Product.{Product, roll-Product}
use Rattle.st_tree.specs.declared.expression.Sum.{Sum, roll-Sum}
use Rattle.st_tree.specs.declared.expression.Comparison.{Comparison, roll-Comparison}
use Rattle.st_tree.specs.declared.expression.Equality.{Equality, roll-Equality}
use Rattle.st_tree.specs.declared.expression.Conjunction.{roll-Conjunction}
use Rattle.st_tree.specs.declared.expression.Exclusive.{Exclusive, roll-Exclusive}
use Rattle.st_tree.specs.declared.expression.Expr.{Expr, roll-Expr}
use Rattle.st_tree.specs.declared.statement.Assignment.{Assignment}
use Rattle.st_tree.specs.declared.statement.Statement.{Statement}
use Rattle.st_tree.specs.declared.statement.Statement.TheVariants as st
use Rattle.st_tree.specs.declared.program.Tree.{Tree}
use Rattle.st_tree.specs.ExpressionFolds.{ExpressionSteps, fold_unary, fold_equality, fold_exclusive}
use Rattle.st_tree.proofs.ExpressionEquations.{at-truth, at-tag, at-plain, at-not, at-product, at-sum, at-comparison, at-equality, at-conjunction, at-exclusive}
use Rattle.cause_effect.specs.declared.matrix.Level.{Level}
use Rattle.cause_effect.specs.declared.matrix.Level.TheVariants.{High, Low}
use Rattle.cause_effect.specs.declared.matrix.Mode.{Mode}
use Rattle.cause_effect.specs.declared.matrix.Mode.TheVariants.{Latch, Follow}
use Rattle.cause_effect.specs.declared.matrix.Link.{Link}
use Rattle.cause_effect.specs.Matrices.{MatrixValue, declared_names, level_of, links_to}
use Rattle.cause_effect.specs.Programs.{cause_term, declaration_line, effect_text}

-- ---- names

abbrev pub placed : List ℕ → ℕ → PlacedName
placed name place = record { name = name; place = place }

-- ---- operands

abbrev pub product_of : Unary → Product
product_of x = roll-Product (record { first = x; more = [] })

abbrev pub sum_of : Unary → Sum
sum_of x = roll-Sum (record { first = product_of x; more = [] })

abbrev pub comparison_of : Unary → Comparison
comparison_of x = roll-Comparison (record { first = sum_of x; more = [] })

abbrev pub equality_of : Unary → Equality
equality_of x = roll-Equality (record { first = comparison_of x; more = [] })

-- operands joined by AND
abbrev pub joined_of : Unary → List Unary → Exclusive
joined_of x more = roll-Exclusive (record { first = roll-Conjunction (record { first = equality_of x; more = map equality_of more }); more = [] })

-- a name at a byte place
abbrev pub tag_at : List ℕ → ℕ → Unary
tag_at name place = u.Plain (p.Tag (placed name place))

-- NOT and a name behind it, from a byte place on
abbrev pub not_at : List ℕ → ℕ → Unary
not_at name place = u.Not place (p.Tag (placed name (place + 4)))

-- a cause, from a byte place on
abbrev pub cause_at : Level → List ℕ → ℕ → Unary
cause_at High cause place = tag_at cause place
cause_at Low cause place = not_at cause place

-- what keeps an effect TRUE, from a byte place on: the effect, and NOT reset
abbrev pub resets_at : Option (List ℕ) → ℕ → List Unary
resets_at None place = []
resets_at (Some reset) place = not_at reset (place + 5) ∷ []

abbrev pub hold_at : Mode → Option (List ℕ) → List ℕ → ℕ → List Exclusive
hold_at Follow reset effect place = []
hold_at Latch reset effect place = joined_of (tag_at effect (place + 4)) (resets_at reset (place + 4 + length effect)) ∷ []

-- the causes of links, from a byte place on
abbrev pub causes_at : MatrixValue → ℕ → List Link → List Exclusive
causes_at m place [] = []
causes_at m place (l ∷ links) =
    joined_of (cause_at (level_of m l.cause) l.cause (place + 4)) [] ∷ causes_at m (place + length (cause_term (level_of m l.cause) l.cause)) links

-- the texts of links
abbrev pub causes_text : MatrixValue → List Link → List ℕ
causes_text m links = flat_map (λ l. cause_term (level_of m l.cause) l.cause) links

-- FALSE at a byte place
abbrev pub false_at : ℕ → Exclusive
false_at place = joined_of (u.Plain (p.Truth false place)) []

-- the value of an effect: behind `:=`, from the byte place of its line on
abbrev pub value_at : MatrixValue → List ℕ × Mode → ℕ → Expr
value_at m effect place =
    let causes = place + length effect.0 + 9 in
    let links = links_to m effect.0 in
    roll-Expr (record { first = false_at (place + length effect.0 + 4); more = causes_at m causes links ++ hold_at effect.1 m.reset effect.0 (causes + length (causes_text m links)) })

abbrev pub assignment_at : MatrixValue → List ℕ × Mode → ℕ → Assignment
assignment_at m effect place = record { target = placed effect.0 place; index = None; value = value_at m effect place }

abbrev pub statements_at : MatrixValue → ℕ → List (List ℕ × Mode) → List Statement
statements_at m place [] = []
statements_at m place (e ∷ effects) = st.Assignment (assignment_at m e place) ∷ statements_at m (place + length (effect_text m e)) effects

-- ---- declarations

abbrev pub declaration_at : List ℕ → ℕ → ExternalDeclaration
declaration_at name place = record { names = record { first = placed name place; more = [] }; declared = simple.Bool }

abbrev pub declarations_at : ℕ → List (List ℕ) → List ExternalDeclaration
declarations_at place [] = []
declarations_at place (n ∷ names) = declaration_at n place ∷ declarations_at (place + length (declaration_line n)) names

-- ---- the tree

-- how many bytes the first lines have, before the names
abbrev pub head_bytes : ℕ
head_bytes = 28

-- the byte place of the first line of an effect
abbrev pub effects_place : MatrixValue → ℕ
effects_place m = head_bytes + length (flat_map declaration_line (declared_names m)) + 8

abbrev pub tree_of : MatrixValue → Tree
tree_of m = record {
  name = placed (codes "MATRIX") 8;
  blocks = part.External (declarations_at head_bytes (declared_names m)) ∷ [];
  statements = statements_at m (effects_place m) m.effects;
}

-- ---- what is made of the parts

module _ {P A B : Type 0} (s : ExpressionSteps P A B) where
  -- a single operand, up to the rank of AND
  abbrev pub lifted : A → A
  lifted a = s.equality (s.comparison (s.sum (s.product a []) []) []) []

  -- operands joined by AND
  abbrev pub joined : A → List A → A
  joined a more = s.exclusive (s.conjunction (lifted a) (map lifted more)) []

  at_equality : (x : Unary) → fold_equality s (equality_of x) ≡ lifted (fold_unary s x)
  at_equality x =
      at-equality s (comparison_of x) []
      ∙ ap (λ a. s.equality a []) (at-comparison s (sum_of x) []
      ∙ ap (λ a. s.comparison a []) (at-sum s (product_of x) []
      ∙ ap (λ a. s.sum a []) (at-product s x [])))

  at_equalities : (xs : List Unary) → map (fold_equality s) (map equality_of xs) ≡ map lifted (map (fold_unary s) xs)
  at_equalities [] = refl
  at_equalities (x ∷ xs) = λ i. at_equality x i ∷ at_equalities xs i

  pub at_joined : (x : Unary) (more : List Unary) → fold_exclusive s (joined_of x more) ≡ joined (fold_unary s x) (map (fold_unary s) more)
  at_joined x more =
      at-exclusive s (roll-Conjunction (record { first = equality_of x; more = map equality_of more })) []
      ∙ ap (λ a. s.exclusive a []) (at-conjunction s (equality_of x) (map equality_of more)
      ∙ (λ i. s.conjunction (at_equality x i) (at_equalities more i)))

  pub at_tag : (name : List ℕ) (place : ℕ) → fold_unary s (tag_at name place) ≡ s.unary (Unary-F.Plain (s.primary (Primary-F.Tag (placed name place))))
  at_tag name place = at-plain s (p.Tag (placed name place)) ∙ ap (λ a. s.unary (Unary-F.Plain a)) (at-tag s (placed name place))

  pub at_not : (name : List ℕ) (place : ℕ) → fold_unary s (not_at name place) ≡ s.unary (Unary-F.Not place (s.primary (Primary-F.Tag (placed name (place + 4)))))
  at_not name place = at-not s place (p.Tag (placed name (place + 4))) ∙ ap (λ a. s.unary (Unary-F.Not place a)) (at-tag s (placed name (place + 4)))

  pub at_false : (place : ℕ) → fold_unary s (u.Plain (p.Truth false place)) ≡ s.unary (Unary-F.Plain (s.primary (Primary-F.Truth false place)))
  at_false place = at-plain s (p.Truth false place) ∙ ap (λ a. s.unary (Unary-F.Plain a)) (at-truth s false place)
