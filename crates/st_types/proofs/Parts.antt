-- The faults of each statement, as the checker gathers them.
use Rattle.std.proofs.Common.{◌≡◌, ℕ, ◌<◌, ◌+◌, suc, List, [], ◌∷◌, ◌++◌, Option, None, Some, length, drop, get_or, refl, sym, ap, ◌∙◌, drop-cons, add-one}
use Rattle.std.specs.List.{flat_map, list_any}
use Rattle.std.specs.Str.{bytes_eq}
use Rattle.tri_base.specs.declared.faults.TypeFault.{TypeFault}
use Rattle.function_blocks.specs.declared.kinds.Kind.{Kind}
use Rattle.function_blocks.specs.declared.kinds.Kind.TheVariants as kind
use Rattle.st_tree.specs.declared.declaration.PlacedName.{PlacedName}
use Rattle.function_blocks.specs.declared.blocks.BlockKind.{BlockKind}
use Rattle.st_tree.specs.declared.declaration.Integer.{Integer}
use Rattle.st_tree.specs.declared.expression.Expr.{Expr}
use Rattle.st_tree.specs.declared.statement.Input.{Input}
use Rattle.st_tree.specs.declared.statement.Statement.{Statement}
use Rattle.st_tree.specs.declared.statement.Statement.TheVariants as st
use Rattle.st_tree.specs.declared.statement.Branch.{Branch, out-Branch}
use Rattle.st_tree.specs.declared.statement.Element.{Element, out-Element}
use Rattle.st_tree.specs.declared.tag.Tag.{Tag}
use Rattle.st_tree.specs.StatementFolds.{fold_statement, fold_branch, fold_element}
use Rattle.st_tree.proofs.StatementEquations.{at-if, at-case, at-for, out-of_branch, out-of_element}
use Rattle.st_types.proofs.Firsts.{first_of_append, sooner-assoc}
use Rattle.st_types.proofs.Lists.{each_mapped, elements_mapped, two_parts}
use Rattle.function_blocks.specs.Fields.{input_named}
use Rattle.st_tree.specs.Tags.{tag_named}
use Rattle.st_types.specs.Inner.Firsts.{soonest}
use Rattle.st_types.specs.Inner.Parts.{behind_else}
use Rattle.st_tree.specs.Typing.Faults.{first_of}
use Rattle.st_tree.specs.Typing.Operands.{faults_of, type_in, as_integer}
use Rattle.st_tree.specs.Typing.Expressions.{typing_of}
use Rattle.st_tree.specs.Typing.Statements.{Scope, Loops, Checks, ElementChecks, statement_rules, statement_faults, value_faults, labels_faults, for_faults, input_faults, inputs_faults}

pub branch_is : (s : Scope) (loops : Loops) (b : Branch) → fold_branch (statement_rules s) b loops ≡ value_faults s.tags kind.Bool (out-Branch b).condition ++ flat_map (statement_faults s loops) (out-Branch b).body
branch_is s loops b =
    ap (λ (f : Checks). f loops) (out-of_branch (statement_rules s) b)
    ∙ ap (λ l. value_faults s.tags kind.Bool (out-Branch b).condition ++ l) (each_mapped (fold_statement (statement_rules s)) (out-Branch b).body loops)

pub element_is : (s : Scope) (k : Option Kind) (loops : Loops) (e : Element) → fold_element (statement_rules s) e k loops ≡ labels_faults k ((out-Element e).first ∷ (out-Element e).more) ++ flat_map (statement_faults s loops) (out-Element e).body
element_is s k loops e =
    ap (λ (f : ElementChecks). f k loops) (out-of_element (statement_rules s) e)
    ∙ ap (λ l. labels_faults k ((out-Element e).first ∷ (out-Element e).more) ++ l) (each_mapped (fold_statement (statement_rules s)) (out-Element e).body loops)

pub if_is : (s : Scope) (loops : Loops) (first : Branch) (more : List Branch) (others : Option (List Statement))
    → statement_faults s loops (st.If first more others) ≡ (fold_branch (statement_rules s) first loops ++ flat_map (λ b. fold_branch (statement_rules s) b loops) more) ++ flat_map (statement_faults s loops) (behind_else others)
if_is s loops first more None =
    ap (λ (f : Checks). f loops) (at-if (statement_rules s) first more None)
    ∙ ap (λ l. (fold_branch (statement_rules s) first loops ++ l) ++ []) (each_mapped (fold_branch (statement_rules s)) more loops)
if_is s loops first more (Some body) =
    ap (λ (f : Checks). f loops) (at-if (statement_rules s) first more (Some body))
    ∙ λ i. (fold_branch (statement_rules s) first loops ++ each_mapped (fold_branch (statement_rules s)) more loops i) ++ each_mapped (fold_statement (statement_rules s)) body loops i

pub case_is : (s : Scope) (loops : Loops) (selector : Expr) (first : Element) (more : List Element) (others : Option (List Statement))
    → statement_faults s loops (st.Case selector first more others)
    ≡ ((faults_of (as_integer (typing_of s.tags selector)) ++ fold_element (statement_rules s) first (type_in (as_integer (typing_of s.tags selector))) loops)
    ++ flat_map (λ e. fold_element (statement_rules s) e (type_in (as_integer (typing_of s.tags selector))) loops) more) ++ flat_map (statement_faults s loops) (behind_else others)
case_is s loops selector first more None =
    let found = as_integer (typing_of s.tags selector) in
    ap (λ (f : Checks). f loops) (at-case (statement_rules s) selector first more None)
    ∙ ap (λ l. ((faults_of found ++ fold_element (statement_rules s) first (type_in found) loops) ++ l) ++ []) (elements_mapped (fold_element (statement_rules s)) (type_in found) more loops)
case_is s loops selector first more (Some body) =
    let found = as_integer (typing_of s.tags selector) in
    ap (λ (f : Checks). f loops) (at-case (statement_rules s) selector first more (Some body))
    ∙ λ i. ((faults_of found ++ fold_element (statement_rules s) first (type_in found) loops) ++ elements_mapped (fold_element (statement_rules s)) (type_in found) more loops i) ++ each_mapped (fold_statement (statement_rules s)) body loops i

pub for_is : (s : Scope) (loops : Loops) (tag : PlacedName) (first last : Integer) (step : Option Integer) (body : List Statement)
    → statement_faults s loops (st.For tag first last step body) ≡ for_faults s.points loops tag first last step (tag_named s.tags tag.name) ++ flat_map (statement_faults s (loops ++ tag.name ∷ [])) body
for_is s loops tag first last step body =
    ap (λ (f : Checks). f loops) (at-for (statement_rules s) tag first last step body)
    ∙ ap (λ l. for_faults s.points loops tag first last step (tag_named s.tags tag.name) ++ l) (each_mapped (fold_statement (statement_rules s)) body (loops ++ tag.name ∷ []))

-- a statement that is such, and what is found of such
pub of_part : (s : Scope) (loops : Loops) (x y : Statement) (fs : List TypeFault) (r : Option TypeFault) → x ≡ y → statement_faults s loops y ≡ fs → r ≡ first_of fs → r ≡ first_of (statement_faults s loops x)
of_part s loops x y fs r is at so = so ∙ ap first_of (sym (ap (statement_faults s loops) is ∙ at))

-- two parts, the second seen in another way
pub with_part : (whole a b : List TypeFault) (x y r : Option TypeFault) → r ≡ soonest x y → whole ≡ a ++ b → x ≡ first_of a → y ≡ first_of b → r ≡ first_of whole
with_part whole a b x y r is parts p q = is ∙ (two_parts a b x y p q ∙ ap first_of (sym parts))

pub soonest-none : (x : Option TypeFault) → soonest x None ≡ x
soonest-none None = refl
soonest-none (Some f) = refl

pub soonest-assoc : (x y z : Option TypeFault) → soonest (soonest x y) z ≡ soonest x (soonest y z)
soonest-assoc (Some f) (Some g) (Some h) = ap Some (sooner-assoc f g h)
soonest-assoc (Some f) (Some g) None = refl
soonest-assoc (Some f) None z = refl
soonest-assoc None y z = refl

-- an input more
pub input_more : (tags : List Tag) (b : BlockKind) (named : List (List ℕ)) (xs : List Input) (i : ℕ) (x : Input) (fault one : Option TypeFault) (whole : Option TypeFault) → i < length xs → x ≡ get_or xs i x
    → one ≡ first_of (input_faults tags (list_any (bytes_eq x.name.name) named) x.name x.value (input_named b x.name.name))
    → soonest fault (first_of (inputs_faults tags b named (drop i xs))) ≡ whole
    → soonest (soonest fault one) (first_of (inputs_faults tags b (named ++ x.name.name ∷ []) (drop (i + 1) xs))) ≡ whole
input_more tags b named xs i x fault one whole here is so h =
    let rest = inputs_faults tags b (named ++ x.name.name ∷ []) (drop (i + 1) xs) in
    let this = input_faults tags (list_any (bytes_eq x.name.name) named) x.name x.value (input_named b x.name.name) in
    let opened : drop i xs ≡ x ∷ drop (i + 1) xs = rw (add-one, drop-cons xs i x here) (λ j. sym is j ∷ drop (suc i) xs) in
    soonest-assoc fault one (first_of rest)
    ∙ (ap (soonest fault) (ap (λ o. soonest o (first_of rest)) so ∙ (sym (first_of_append this rest) ∙ ap (λ l. first_of (inputs_faults tags b named l)) (sym opened))) ∙ h)
