-- What a scan of a matrix's program costs.
use Rattle.std.proofs.Common.{◌≡◌, ℕ, ◌+◌, ◌≤◌, false, List, [], ◌∷◌, ◌++◌, length, map, fold, Option, Some, None, sym, ap, ◌∙◌, subst, arith, codes, length-append}
use Rattle.std.specs.List.{flat_map}
use Rattle.function_blocks.specs.declared.kinds.Kind.TheVariants as kind
use Rattle.st_tree.specs.declared.expression.Primary.TheVariants as p
use Rattle.st_tree.specs.declared.expression.Unary.TheVariants as u
use Rattle.st_tree.specs.declared.tag.Tag.{Tag}
use Rattle.st_tree.specs.ExpressionFolds.{fold_exclusive}
use Rattle.st_tree.proofs.ExpressionEquations.{at-expr}
use Rattle.st_core.specs.Core as c
use Rattle.st_core.specs.Costs.{term_cost, cost_of}
use Rattle.st_tree.specs.Tags.{tags_of}
use Rattle.st_meaning.specs.Programs.{program_cost}
use Rattle.st_meaning.specs.Expressions.{Elaborated, logic, expression_parts, elaborated}
use Rattle.st_meaning.specs.Statements.{acts_of, in_order}
use Rattle.cause_effect.specs.declared.matrix.Level.{Level}
use Rattle.cause_effect.specs.declared.matrix.Level.TheVariants.{High, Low}
use Rattle.cause_effect.specs.declared.matrix.Mode.{Mode}
use Rattle.cause_effect.specs.declared.matrix.Mode.TheVariants.{Latch, Follow}
use Rattle.cause_effect.specs.declared.matrix.Link.{Link}
use Rattle.cause_effect.specs.Matrices.{MatrixValue, IsMatrix, declared_names, level_of, links_to}
use Rattle.cause_effect.specs.Programs.{cause_term, hold_term, declaration_line, effect_text, program_of}
use Rattle.matrix_laws.proofs.Trees.{joined_of, tag_at, not_at, cause_at, hold_at, causes_at, causes_text, false_at, value_at, statements_at, effects_place, tree_of, at_joined, at_tag, at_not, at_false}
use Rattle.matrix_laws.proofs.Written.{Each}
use Rattle.matrix_laws.proofs.Typed.{IsBool, Tagged, tagged, tags_are}
use Rattle.matrix_laws.proofs.Meant.{act_is, parts_join}

abbrev cost : Elaborated → ℕ
cost x = term_cost (x.asked kind.Bool)

-- what operands of OR cost, with the operators
costs : List Elaborated → ℕ
costs [] = 0
costs (x ∷ xs) = cost x + 1 + costs xs

ors_cost : (first : Elaborated) (more : List Elaborated) → cost (fold (logic c.Or) first more) ≡ cost first + costs more
unfolding costs term_cost
ors_cost first [] = omega arith
ors_cost first (x ∷ more) = ors_cost (logic c.Or first x) more ∙ omega arith

costs_join : (xs ys : List Elaborated) → costs (xs ++ ys) ≡ costs xs + costs ys
unfolding costs
costs_join [] ys = omega arith
costs_join (x ∷ xs) ys = omega (arith, costs_join xs ys)

cause_cost : (tags : List Tag) (level : Level) (n : List ℕ) (at : ℕ) → cost (fold_exclusive (expression_parts tags) (joined_of (cause_at level n at) [])) + 1 ≤ length (cause_term level n)
unfolding term_cost
cause_cost tags High n at =
    let e : cost (fold_exclusive (expression_parts tags) (joined_of (tag_at n at) [])) ≡ 1 = ap cost (at_joined (expression_parts tags) (tag_at n at) []) ∙ ap cost (at_tag (expression_parts tags) n at) in
    omega (arith, e, length-append (codes " OR ") n)
cause_cost tags Low n at =
    let e : cost (fold_exclusive (expression_parts tags) (joined_of (not_at n at) [])) ≡ 2 = ap cost (at_joined (expression_parts tags) (not_at n at) []) ∙ ap cost (at_not (expression_parts tags) n at) in
    omega (arith, e, length-append (codes " OR NOT ") n)

causes_cost : (tags : List Tag) (m : MatrixValue) (place : ℕ) (links : List Link) → costs (map (fold_exclusive (expression_parts tags)) (causes_at m place links)) ≤ length (causes_text m links)
unfolding costs
causes_cost tags m place [] = omega arith
causes_cost tags m place (l ∷ links) =
    let level = level_of m l.cause in
    omega (arith, cause_cost tags level l.cause (place + 4), causes_cost tags m (place + length (cause_term level l.cause)) links, length-append (cause_term level l.cause) (causes_text m links))

hold_cost : (tags : List Tag) (mode : Mode) (reset : Option (List ℕ)) (effect : List ℕ) (place : ℕ) → costs (map (fold_exclusive (expression_parts tags)) (hold_at mode reset effect place)) ≤ length (hold_term mode reset effect)
unfolding costs term_cost
hold_cost tags Follow reset effect place = omega arith
hold_cost tags Latch None effect place =
    let e : cost (fold_exclusive (expression_parts tags) (joined_of (tag_at effect (place + 4)) [])) ≡ 1 = ap cost (at_joined (expression_parts tags) (tag_at effect (place + 4)) []) ∙ ap cost (at_tag (expression_parts tags) effect (place + 4)) in
    omega (arith, e, length-append (codes " OR ") (effect ++ []))
hold_cost tags Latch (Some reset) effect place =
    let at = place + 4 + length effect + 5 in
    let e : cost (fold_exclusive (expression_parts tags) (joined_of (tag_at effect (place + 4)) (not_at reset at ∷ []))) ≡ 4 =
    ap cost (at_joined (expression_parts tags) (tag_at effect (place + 4)) (not_at reset at ∷ []))
    ∙ (λ i. cost (logic c.And (at_tag (expression_parts tags) effect (place + 4) i) (at_not (expression_parts tags) reset at i))) in
    omega (arith, e, length-append (codes " OR ") (effect ++ (codes " AND NOT " ++ reset)), length-append effect (codes " AND NOT " ++ reset), length-append (codes " AND NOT ") reset)

value_cost : (tags : List Tag) (m : MatrixValue) (e : List ℕ × Mode) (place : ℕ) → cost (elaborated tags (value_at m e place)) + 1 ≤ length (effect_text m e)
unfolding elaborated term_cost
value_cost tags m e place =
    let at = place + length e.0 + 9 in
    let causes = causes_at m at (links_to m e.0) in
    let hold = hold_at e.1 m.reset e.0 (at + length (causes_text m (links_to m e.0))) in
    let parts = map (fold_exclusive (expression_parts tags)) in
    let first = fold_exclusive (expression_parts tags) (false_at (place + length e.0 + 4)) in
    let one : cost first ≡ 1 = ap cost (at_joined (expression_parts tags) (u.Plain (p.Truth false (place + length e.0 + 4))) []) ∙ ap cost (at_false (expression_parts tags) (place + length e.0 + 4)) in
    let whole : cost (elaborated tags (value_at m e place)) ≡ cost first + costs (parts (causes ++ hold)) =
    ap cost (at-expr (expression_parts tags) (false_at (place + length e.0 + 4)) (causes ++ hold)) ∙ ors_cost first (parts (causes ++ hold)) in
    let split : costs (parts (causes ++ hold)) ≡ costs (parts causes) + costs (parts hold) = ap costs (parts_join tags causes hold) ∙ costs_join (parts causes) (parts hold) in
    let held = hold_term e.1 m.reset e.0 in
    let text = causes_text m (links_to m e.0) in
    omega (
      arith,
      one,
      whole,
      split,
      causes_cost tags m at (links_to m e.0),
      hold_cost tags e.1 m.reset e.0 (at + length text),
      length-append e.0 (codes " := FALSE" ++ (text ++ (held ++ codes ";\n"))),
      length-append (codes " := FALSE") (text ++ (held ++ codes ";\n")),
      length-append text (held ++ codes ";\n"),
      length-append held (codes ";\n"),
    )

pub lines_cost : (tags : List Tag) (m : MatrixValue) (effects : List (List ℕ × Mode)) (place : ℕ) → Each (λ e. IsBool tags e.0) effects → cost_of (acts_of tags (statements_at m place effects)) ≤ length (flat_map (effect_text m) effects)
unfolding in_order cost_of
lines_cost tags m [] place are = omega arith
lines_cost tags m (e ∷ effects) place are =
    let rest = acts_of tags (statements_at m (place + length (effect_text m e)) effects) in
    let act = ap cost_of (act_is tags m e place are.0) in
    omega (arith, act, value_cost tags m e place, lines_cost tags m effects (place + length (effect_text m e)) are.1, length-append (effect_text m e) (flat_map (effect_text m) effects))

pub program_cheap : (m : MatrixValue) → IsMatrix m → program_cost (tree_of m) ≤ length (program_of m)
program_cheap m is =
    let known = subst (λ (ts : List Tag). Tagged ts m) (sym (tags_are m)) (tagged m is) in
    let lines = flat_map (effect_text m) m.effects in
    let names = flat_map declaration_line (declared_names m) in
    omega (
      arith,
      lines_cost (tags_of (tree_of m)) m m.effects (effects_place m) known.effects,
      length-append (codes "PROGRAM MATRIX\nVAR_EXTERNAL\n") (names ++ (codes "END_VAR\n" ++ (lines ++ codes "END_PROGRAM\n"))),
      length-append names (codes "END_VAR\n" ++ (lines ++ codes "END_PROGRAM\n")),
      length-append (codes "END_VAR\n") (lines ++ codes "END_PROGRAM\n"),
      length-append lines (codes "END_PROGRAM\n"),
    )
