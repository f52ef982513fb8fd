-- Statements without a fault are a sound act.
use Rattle.std.proofs.Common.{◌≡◌, ◌≢◌, ℕ, ℤ, pos, Bool, false, ◌||◌, ◌==◌, List, [], ◌∷◌, ◌++◌, length, map, fold, Option, None, Some, arith, refl, ap, sym, ◌∙◌, subst, true≢false}
use Rattle.std.specs.List.{flat_map, list_any}
use Rattle.std.specs.Option.{option_map}
use Rattle.std.specs.Ordering.{int_eq}
use Rattle.std.specs.Str.{bytes_eq}
use Rattle.std.proofs.lemmas.Bool.{or_parts}
use Rattle.std.proofs.lemmas.Int.{ints}
use Rattle.std.proofs.lemmas.Slice.Eq.{bytes_eq-Decides}
use Rattle.std.proofs.lemmas.List.Folds.{list_any-append}
use Rattle.tri_base.specs.declared.point.Point.{Point}
use Rattle.function_blocks.specs.declared.kinds.Kind.{Kind}
use Rattle.function_blocks.specs.declared.kinds.Kind.TheVariants as kind
use Rattle.function_blocks.specs.declared.blocks.BlockKind.{BlockKind}
use Rattle.function_blocks.specs.Values.{IsOperand}
use Rattle.function_blocks.specs.Fields.{field_count, input_named}
use Rattle.scan_machine.specs.Rules.{IsOf}
use Rattle.st_tree.specs.declared.declaration.PlacedName.{PlacedName}
use Rattle.st_tree.specs.declared.declaration.Integer.{Integer}
use Rattle.st_tree.specs.declared.declaration.DeclaredType.{DeclaredType}
use Rattle.st_tree.specs.declared.declaration.DeclaredType.TheVariants as declared
use Rattle.st_tree.specs.declared.expression.Expr.{Expr}
use Rattle.st_tree.specs.declared.statement.Input.{Input}
use Rattle.st_tree.specs.declared.statement.Inputs.{Inputs}
use Rattle.st_tree.specs.declared.statement.Label.{Label}
use Rattle.st_tree.specs.declared.statement.Statement.{Statement, roll-Statement, map-Statement, ind-Statement}
use Rattle.st_tree.specs.declared.statement.Statement.TheVariants.{rolls-Empty, rolls-Assignment, rolls-BlockCall, rolls-If, rolls-Case, rolls-For, rolls-Exit, rolls-Return}
use Rattle.st_tree.specs.declared.statement.Branch.{Branch, roll-Branch, map-Branch}
use Rattle.st_tree.specs.declared.statement.Element.{Element, roll-Element, map-Element}
use Rattle.st_tree.specs.declared.statement.Statement.TheOpen.{Statement-F, Branch-F, Element-F}
use Rattle.st_tree.specs.declared.tag.Tag.{Tag}
use Rattle.st_tree.specs.Integers.{integer_value}
use Rattle.st_tree.specs.Listed.{listed}
use Rattle.st_tree.specs.Tags.{tags_of, tag_named}
use Rattle.st_tree.specs.StatementFolds.{fold_statement, fold_branch, fold_element}
use Rattle.st_tree.specs.Typing.Faults.{fault_if}
use Rattle.st_tree.specs.Typing.Declarations.{names_faults, block_faults}
use Rattle.st_tree.specs.Typing.Programs.{typing_faults, WellTyped, scope_of}
use Rattle.st_tree.specs.Typing.Literals.{range_faults}
use Rattle.st_tree.specs.Typing.Operands.{faults_of, type_in, as_integer}
use Rattle.st_tree.specs.Typing.Expressions.{typing_of}
use Rattle.st_tree.specs.Typing.Statements.{Scope, Loops, Checks, ElementChecks, value_faults, integer_faults, is_input_tag, in_loop, setting_faults, plain_faults, element_faults, set_faults, input_faults, inputs_faults, inputs_in, called_faults, call_faults, end_faults, label_faults, labels_faults, step_faults, bounds_faults, counted_faults, for_faults, exit_faults, each_in, otherwise_in, elements_in, statement_rules, statement_faults}
use Rattle.st_tree.proofs.StatementEquations.{at-empty, at-assignment, at-blockcall, at-if, at-case, at-for, at-exit, at-return, at-branch, at-element}
use Rattle.st_core.specs.Core.{Name, Term, Act}
use Rattle.st_core.specs.Core as c
use Rattle.st_core.specs.Memory.{Shape}
use Rattle.st_core.specs.Fits.{TermFits, IsFree, LoopFits, IsSound}
use Rattle.st_meaning.specs.Types.{type_of, word_type, block_of}
use Rattle.st_meaning.specs.Expressions.{settled, elaborated, integer_of}
use Rattle.st_meaning.specs.Statements.{Guarded, Labelled, in_order, choice, otherwise, set_to, set_input, given, call_with, last_of, range_of, within, or_within, guarded, step_of, statement_parts, act_of}
use Rattle.st_sound.specs.Shapes.{shape_in}
use Rattle.st_sound.specs.Laws.{WellTypedIsSound}
use Rattle.st_sound.proofs.Ranges.{none_both, not_broken, in_range, operand_of, not_zero}
use Rattle.st_sound.proofs.Judged.{asked_then, integer_then, integer_typed, Fit}
use Rattle.st_sound.proofs.TagWords.{AreBounded, bounded_blocks, IsDeclared, declared_as, word_there, block_there, field_there}
use Rattle.st_sound.proofs.FittingTerms.{array_bounds, expression_judged}

-- ---- loops

-- a type of more than one word, which no loop counts with
abbrev IsCompound : Option DeclaredType → Type 0
IsCompound None = ⊥
IsCompound (Some (declared.Simple k)) = ⊥
IsCompound (Some (declared.Array low high k)) = Unit {0}
IsCompound (Some (declared.Block b)) = Unit {0}

-- the loops around a statement, as typing has them and as the core has them
record AreAround (tags : List Tag) (loops : Loops) (names : List Name) : Type 0 where
  free : (n : Name) → in_loop loops n ≡ false → IsFree n names
  inside : (length loops == 0) ≡ false → names ≢ []
  simple : (n : Name) → IsCompound (type_of tags n) → IsFree n names

none_around : (tags : List Tag) → AreAround tags [] []
unfolding IsFree
none_around tags = record { free = λ n h. tt; inside = λ h e. true≢false h; simple = λ n h. tt }

differs : (n m : Name) → bytes_eq n m ≡ false → n ≢ m
differs n m h e = true≢false (sym ((bytes_eq-Decides n m).1 e) ∙ h)

some_names : (n : Name) (names : List Name) → n ∷ names ≢ []
some_names n names e = cc

-- one loop more
one_around : (tags : List Tag) (loops : Loops) (names : List Name) (m : Name) (k : Kind) → type_of tags m ≡ Some (declared.Simple k) → AreAround tags loops names
    → AreAround tags (loops ++ m ∷ []) (m ∷ names)
unfolding IsFree
one_around tags loops names m k is around = record {
  free = λ n h.
      let parts = or_parts (list_any (bytes_eq n) loops) (bytes_eq n m || false) (sym (list_any-append (bytes_eq n) loops (m ∷ [])) ∙ h) in
      (differs n m (or_parts (bytes_eq n m) false parts.1).0, around.free n parts.0);
  inside = λ h. some_names m names;
  simple = λ n h. ((λ e. subst IsCompound (ap (type_of tags) e ∙ is) h), around.simple n h);
}

module _ (tags : List Tag) (all : AreBounded tags) where
  abbrev S : Shape
  S = shape_in tags

  abbrev Sound : List Name → Act → Type 0
  Sound names a = IsSound S names a

  -- ---- expressions

  value_fits : (k : Kind) (e : Expr) → value_faults tags k e ≡ [] → Fit S (elaborated tags e)
  value_fits k e none = asked_then (Fit S (elaborated tags e)) k (typing_of tags e).first (typing_of tags e).outcome (expression_judged tags all e) none

  integer_fits : (e : Expr) → integer_faults tags e ≡ [] → TermFits S (integer_of tags e)
  integer_fits e none =
      integer_then (Fit S (elaborated tags e)) (typing_of tags e).first (typing_of tags e).outcome (expression_judged tags all e) none (settled (elaborated tags e).own)

  -- ---- assignments

  free_name : (points : List Point) (loops : Loops) (names : List Name) (n : PlacedName) (t : Tag) → AreAround tags loops names → setting_faults points loops n t ≡ [] → IsFree n.name names
  free_name points loops names n t around none =
      let parts = none_both (fault_if (is_input_tag points t) n.place _) (fault_if (in_loop loops n.name) n.place _) none in
      around.free n.name (not_broken (in_loop loops n.name) n.place _ parts.1)

  plain_sound : (points : List Point) (loops : Loops) (names : List Name) (n : PlacedName) (value : Expr) (t : Tag) (d : DeclaredType) → AreAround tags loops names → IsDeclared tags n.name d
      → plain_faults points tags loops n value t d ≡ [] → Sound names (set_to n.name (type_of tags n.name) None (elaborated tags value))
  unfolding IsSound
  plain_sound points loops names n value t (declared.Simple k) around d none =
      let parts = none_both (setting_faults points loops n t) (value_faults tags k value) none in
      (free_name points loops names n t around parts.0, word_there tags n.name k d, value_fits k value parts.1 (word_type (type_of tags n.name)))
  plain_sound points loops names n value t (declared.Array low high k) around d none = absurd (cc)
  plain_sound points loops names n value t (declared.Block b) around d none = absurd (cc)

  -- a block or an array is no loop's tag
  compound_free : (loops : Loops) (names : List Name) (n : Name) (d : DeclaredType) → AreAround tags loops names → IsDeclared tags n d → IsCompound (Some d) → IsFree n names
  compound_free loops names n d around is compound = around.simple n (subst IsCompound (sym is.is) compound)

  element_sound : (loops : Loops) (names : List Name) (n : PlacedName) (index value : Expr) (d : DeclaredType) → AreAround tags loops names → IsDeclared tags n.name d
      → element_faults tags n index value d ≡ [] → Sound names (set_to n.name (type_of tags n.name) (Some (elaborated tags index)) (elaborated tags value))
  unfolding IsSound
  element_sound loops names n index value (declared.Simple k) around d none = absurd (cc)
  element_sound loops names n index value (declared.Array low high k) around d none =
      let parts = none_both (integer_faults tags index) (value_faults tags k value) none in
      (compound_free loops names n.name (declared.Array low high k) around d tt, array_bounds tags all n.name low high k d, integer_fits index parts.0, value_fits k value parts.1 _)
  element_sound loops names n index value (declared.Block b) around d none = absurd (cc)

  set_sound : (points : List Point) (loops : Loops) (names : List Name) (n : PlacedName) (index : Option Expr) (value : Expr) (o : Option Tag) → AreAround tags loops names
      → tag_named tags n.name ≡ o → set_faults points tags loops n index value o ≡ []
      → Sound names (set_to n.name (type_of tags n.name) (option_map (elaborated tags) index) (elaborated tags value))
  set_sound points loops names n index value None around is none = absurd (cc)
  set_sound points loops names n None value (Some t) around is none = plain_sound points loops names n value t t.declared around (declared_as tags all n.name t is) none
  set_sound points loops names n (Some index) value (Some t) around is none = element_sound loops names n index value t.declared around (declared_as tags all n.name t is) none

  -- ---- calls of blocks

  input_fits : (again : Bool) (n : PlacedName) (value : Expr) (o : Option Kind) → input_faults tags again n value o ≡ [] → Fit S (elaborated tags value)
  input_fits again n value None none = absurd (cc)
  input_fits again n value (Some k) none = value_fits k value (none_both (fault_if again n.place _) (value_faults tags k value) none).1

  inputs_sound : (names : List Name) (n : Name) (b : BlockKind) → IsFree n names → IsDeclared tags n (declared.Block b) → (before : List (List ℕ)) (inputs : List Input)
      → inputs_faults tags b before inputs ≡ [] → Sound names (in_order (map (set_input n (type_of tags n)) (map (given tags) inputs)))
  unfolding IsSound in_order
  inputs_sound names n b free d before [] none = tt
  inputs_sound names n b free d before (i ∷ inputs) none =
      let parts = none_both (input_faults tags (list_any (bytes_eq i.name.name) before) i.name i.value (input_named b i.name.name)) (inputs_faults tags b (before ++ i.name.name ∷ []) inputs) none in (
        (free, field_there tags n b i.name.name d, input_fits (list_any (bytes_eq i.name.name) before) i.name i.value (input_named b i.name.name) parts.0 _),
        inputs_sound names n b free d (before ++ i.name.name ∷ []) inputs parts.1,
      )

  call_sound : (loops : Loops) (names : List Name) (n : PlacedName) (inputs : Option Inputs) (d : DeclaredType) → AreAround tags loops names → IsDeclared tags n.name d
      → called_faults tags n inputs d ≡ [] → Sound names (call_with n.name (type_of tags n.name) (map (given tags) (inputs_in inputs)))
  unfolding IsSound
  call_sound loops names n inputs (declared.Simple k) around d none = absurd (cc)
  call_sound loops names n inputs (declared.Array low high k) around d none = absurd (cc)
  call_sound loops names n inputs (declared.Block b) around d none =
      let free = compound_free loops names n.name (declared.Block b) around d tt in
      let same : block_of (type_of tags n.name) ≡ b = ap block_of d.is in
      (inputs_sound names n.name b free d [] (inputs_in inputs) none, (free, block_there tags n.name b d ∙ ap field_count (sym same)))

  named_call_sound : (loops : Loops) (names : List Name) (n : PlacedName) (inputs : Option Inputs) (o : Option Tag) → AreAround tags loops names → tag_named tags n.name ≡ o
      → call_faults tags n inputs o ≡ [] → Sound names (call_with n.name (type_of tags n.name) (map (given tags) (inputs_in inputs)))
  named_call_sound loops names n inputs None around is none = absurd (cc)
  named_call_sound loops names n inputs (Some t) around is none = call_sound loops names n inputs t.declared around (declared_as tags all n.name t is) none

  -- ---- choices

  abbrev SoundGuard : List Name → Guarded → Type 0
  SoundGuard names g = TermFits S g.condition × Sound names g.body

  unfoldable SoundGuards : List Name → List Guarded → Type 0
  SoundGuards names [] = Unit {0}
  SoundGuards names (g ∷ gs) = SoundGuard names g × SoundGuards names gs

  choice_sound : (names : List Name) (gs : List Guarded) (other : Act) → SoundGuards names gs → Sound names other → Sound names (choice gs other)
  unfolding choice IsSound SoundGuards
  choice_sound names [] other h o = o
  choice_sound names (g ∷ gs) other h o = (h.0.0, h.0.1, choice_sound names gs other h.1 o)

  both_guards : (names : List Name) (g : Guarded) (gs : List Guarded) → SoundGuard names g → SoundGuards names gs → SoundGuards names (g ∷ gs)
  unfolding SoundGuards
  both_guards names g gs h k = (h, k)

  -- ---- labels

  abbrev CanBeConstants : ℤ × ℤ → Type 0
  CanBeConstants range = IsOperand range.0 × IsOperand range.1

  unfoldable AllConstants : List (ℤ × ℤ) → Type 0
  AllConstants [] = Unit {0}
  AllConstants (r ∷ rs) = CanBeConstants r × AllConstants rs

  last_constant : (k : Kind) (low : Integer) (high : Option Integer) → IsOperand (integer_value low) → end_faults k high ≡ [] → IsOperand (last_of low high)
  last_constant k low None h none = h
  last_constant k low (Some high) h none = operand_of k (integer_value high) (in_range k high none)

  label_constants : (k : Kind) (l : Label) → label_faults k l ≡ [] → CanBeConstants (range_of l)
  label_constants k l none =
      let parts = none_both (range_faults k l.low) (end_faults k l.high) none in
      let low = operand_of k (integer_value l.low) (in_range k l.low parts.0) in
      (low, last_constant k l.low l.high low parts.1)

  labels_constants : (k : Kind) (ls : List Label) → flat_map (label_faults k) ls ≡ [] → AllConstants (map range_of ls)
  unfolding AllConstants
  labels_constants k [] none = tt
  labels_constants k (l ∷ ls) none =
      let parts = none_both (label_faults k l) (flat_map (label_faults k) ls) none in
      (label_constants k l parts.0, labels_constants k ls parts.1)

  within_fits : (t : Term) (r : ℤ × ℤ) → TermFits S t → CanBeConstants r → TermFits S (within t r)
  unfolding TermFits
  within_fits t r h g = (g, h)

  or_fits : (t u : Term) → TermFits S t → TermFits S u → TermFits S (c.Binary c.Or t u)
  unfolding TermFits
  or_fits t u h g = (h, g)

  tests_fit : (t : Term) → TermFits S t → (rs : List (ℤ × ℤ)) (a : Term) → AllConstants rs → TermFits S a → TermFits S (fold (or_within t) a rs)
  unfolding AllConstants
  tests_fit t h [] a g i = i
  tests_fit t h (r ∷ rs) a g i = tests_fit t h rs (or_within t a r) g.1 (or_fits a (within t r) i (within_fits t r h g.0))

  abbrev SoundLabelled : List Name → Labelled → Type 0
  SoundLabelled names l = CanBeConstants l.first × AllConstants l.more × Sound names l.body

  guarded_sound : (names : List Name) (t : Term) (l : Labelled) → TermFits S t → SoundLabelled names l → SoundGuard names (guarded t l)
  guarded_sound names t l h g = (tests_fit t h l.more (within t l.first) g.1 (within_fits t l.first h g.0), g.2)

  -- ---- FOR

  record StepFits (k : Kind) (v : ℤ) : Type 0 where
    is : IsOf k v
    some : v ≢ pos 0

  unit_step : (k : Kind) → StepFits k (pos 1)
  unit_step kind.Bool = record { is = (omega (arith, ints), omega (arith, ints)); some = not_zero (pos 1) refl }
  unit_step kind.Int = record { is = (omega (arith, ints), omega (arith, ints)); some = not_zero (pos 1) refl }
  unit_step kind.Dint = record { is = (omega (arith, ints), omega (arith, ints)); some = not_zero (pos 1) refl }

  step_fits : (k : Kind) (step : Option Integer) → step_faults k step ≡ [] → StepFits k (step_of step)
  step_fits k None none = unit_step k
  step_fits k (Some i) none =
      let parts = none_both (fault_if (int_eq (integer_value i) (pos 0)) _ _) (range_faults k i) none in
      record { is = in_range k i parts.1; some = not_zero (integer_value i) (not_broken (int_eq (integer_value i) (pos 0)) _ _ parts.0) }

  loop_fits : (n : Name) (k : Kind) (first last : Integer) (step : Option Integer) → IsDeclared tags n (declared.Simple k) → bounds_faults k first last step ≡ []
      → LoopFits S n (word_type (type_of tags n)) (integer_value first) (integer_value last) (step_of step)
  loop_fits n k first last step d none =
      let parts = none_both (range_faults k first ++ range_faults k last) (step_faults k step) none in
      let ends = none_both (range_faults k first) (range_faults k last) parts.0 in
      let s = step_fits k step parts.1 in
      let fits : LoopFits S n k (integer_value first) (integer_value last) (step_of step) = record { there = word_there tags n k d; first_is = in_range k first ends.0; last_is = in_range k last ends.1; step_is = s.is; some = s.some } in
      subst (λ j. LoopFits S n j (integer_value first) (integer_value last) (step_of step)) (sym (ap word_type d.is)) fits

  -- what a loop without a fault has
  record Counts (loops : Loops) (names : List Name) (n : Name) (first last : Integer) (step : Option Integer) : Type 0 where
    not_set : IsFree n names
    fits : LoopFits S n (word_type (type_of tags n)) (integer_value first) (integer_value last) (step_of step)
    around : AreAround tags (loops ++ n ∷ []) (n ∷ names)

  counts : (points : List Point) (loops : Loops) (names : List Name) (n : PlacedName) (first last : Integer) (step : Option Integer) (t : Tag) (k : Kind) → AreAround tags loops names
      → IsDeclared tags n.name (declared.Simple k) → setting_faults points loops n t ++ bounds_faults k first last step ≡ [] → Counts loops names n.name first last step
  counts points loops names n first last step t k around d none =
      let parts = none_both (setting_faults points loops n t) (bounds_faults k first last step) none in
      record { not_set = free_name points loops names n t around parts.0; fits = loop_fits n.name k first last step d parts.1; around = one_around tags loops names n.name k d.is around }

  counted : (points : List Point) (loops : Loops) (names : List Name) (n : PlacedName) (first last : Integer) (step : Option Integer) (t : Tag) (d : DeclaredType) → AreAround tags loops names
      → IsDeclared tags n.name d → counted_faults points loops n first last step t d ≡ [] → Counts loops names n.name first last step
  counted points loops names n first last step t (declared.Simple kind.Bool) around d none = absurd (cc)
  counted points loops names n first last step t (declared.Simple kind.Int) around d none = counts points loops names n first last step t kind.Int around d none
  counted points loops names n first last step t (declared.Simple kind.Dint) around d none = counts points loops names n first last step t kind.Dint around d none
  counted points loops names n first last step t (declared.Array low high k) around d none = absurd (cc)
  counted points loops names n first last step t (declared.Block b) around d none = absurd (cc)

  named_counted : (points : List Point) (loops : Loops) (names : List Name) (n : PlacedName) (first last : Integer) (step : Option Integer) (o : Option Tag) → AreAround tags loops names
      → tag_named tags n.name ≡ o → for_faults points loops n first last step o ≡ [] → Counts loops names n.name first last step
  named_counted points loops names n first last step None around is none = absurd (cc)
  named_counted points loops names n first last step (Some t) around is none = counted points loops names n first last step t t.declared around (declared_as tags all n.name t is) none

  -- ---- all statements

  module _ (points : List Point) where
    abbrev scope : Scope
    scope = record { points = points; tags = tags }

    abbrev Act_of : Statement → Act
    Act_of = fold_statement (statement_parts tags)

    abbrev Guarded_of : Branch → Guarded
    Guarded_of = fold_branch (statement_parts tags)

    abbrev Labelled_of : Element → Labelled
    Labelled_of = fold_element (statement_parts tags)

    abbrev checks : Statement → Checks
    checks = fold_statement (statement_rules scope)

    abbrev branch_checks_of : Branch → Checks
    branch_checks_of = fold_branch (statement_rules scope)

    abbrev element_checks_of : Element → ElementChecks
    element_checks_of = fold_element (statement_rules scope)

    abbrev OfStatement : Statement → Type 0
    OfStatement s = (loops : Loops) (names : List Name) → AreAround tags loops names → checks s loops ≡ [] → Sound names (Act_of s)

    abbrev PStatement : Type 0
    PStatement = (s : Statement) × OfStatement s

    abbrev OfBranch : Branch → Type 0
    OfBranch b = (loops : Loops) (names : List Name) → AreAround tags loops names → branch_checks_of b loops ≡ [] → SoundGuard names (Guarded_of b)

    abbrev PBranch : Type 0
    PBranch = (b : Branch) × OfBranch b

    abbrev OfElement : Element → Type 0
    OfElement e = (k : Kind) (loops : Loops) (names : List Name) → AreAround tags loops names → element_checks_of e (Some k) loops ≡ [] → SoundLabelled names (Labelled_of e)

    abbrev PElement : Type 0
    PElement = (e : Element) × OfElement e

    abbrev statements : List PStatement → List Statement
    statements qs = map (λ (q : PStatement). q.0) qs

    abbrev branches : List PBranch → List Branch
    branches qs = map (λ (q : PBranch). q.0) qs

    abbrev elements : List PElement → List Element
    elements qs = map (λ (q : PElement). q.0) qs

    body_sound : (loops : Loops) (names : List Name) → AreAround tags loops names → (qs : List PStatement) → each_in (map checks (statements qs)) loops ≡ []
        → Sound names (in_order (map Act_of (statements qs)))
    unfolding IsSound in_order
    body_sound loops names around [] none = tt
    body_sound loops names around (q ∷ qs) none =
        let parts = none_both (checks q.0 loops) (each_in (map checks (statements qs)) loops) none in
        (q.1 loops names around parts.0, body_sound loops names around qs parts.1)

    guards_sound : (loops : Loops) (names : List Name) → AreAround tags loops names → (qs : List PBranch) → each_in (map branch_checks_of (branches qs)) loops ≡ []
        → SoundGuards names (map Guarded_of (branches qs))
    unfolding SoundGuards
    guards_sound loops names around [] none = tt
    guards_sound loops names around (q ∷ qs) none =
        let parts = none_both (branch_checks_of q.0 loops) (each_in (map branch_checks_of (branches qs)) loops) none in
        (q.1 loops names around parts.0, guards_sound loops names around qs parts.1)

    elements_sound : (k : Kind) (t : Term) → TermFits S t → (loops : Loops) (names : List Name) → AreAround tags loops names → (qs : List PElement)
        → elements_in (Some k) (map element_checks_of (elements qs)) loops ≡ [] → SoundGuards names (map (guarded t) (map Labelled_of (elements qs)))
    unfolding SoundGuards
    elements_sound k t fits loops names around [] none = tt
    elements_sound k t fits loops names around (q ∷ qs) none =
        let parts = none_both (element_checks_of q.0 (Some k) loops) (elements_in (Some k) (map element_checks_of (elements qs)) loops) none in
        (guarded_sound names t (Labelled_of q.0) fits (q.1 k loops names around parts.0), elements_sound k t fits loops names around qs parts.1)

    else_sound : (loops : Loops) (names : List Name) → AreAround tags loops names → (o : Option (List PStatement)) → otherwise_in (option_map (map checks) (option_map statements o)) loops ≡ []
        → Sound names (otherwise (option_map (map Act_of) (option_map statements o)))
    unfolding IsSound
    else_sound loops names around None none = tt
    else_sound loops names around (Some qs) none = body_sound loops names around qs none

    if_sound : (first : PBranch) (more : List PBranch) (others : Option (List PStatement)) (loops : Loops) (names : List Name) → AreAround tags loops names
        → branch_checks_of first.0 loops ++ each_in (map branch_checks_of (branches more)) loops ++ otherwise_in (option_map (map checks) (option_map statements others)) loops ≡ []
        → Sound names (choice (Guarded_of first.0 ∷ map Guarded_of (branches more)) (otherwise (option_map (map Act_of) (option_map statements others))))
    if_sound first more others loops names around none =
        let whole = each_in (map branch_checks_of (branches (first ∷ more))) loops in
        let parts = none_both whole (otherwise_in (option_map (map checks) (option_map statements others)) loops) none in
        choice_sound names (map Guarded_of (branches (first ∷ more))) (otherwise (option_map (map Act_of) (option_map statements others)))
        (guards_sound loops names around (first ∷ more) parts.0) (else_sound loops names around others parts.1)

    case_sound : (selector : Expr) (first : PElement) (more : List PElement) (others : Option (List PStatement)) (loops : Loops) (names : List Name) → AreAround tags loops names
        → faults_of (as_integer (typing_of tags selector)) ++ element_checks_of first.0 (type_in (as_integer (typing_of tags selector))) loops
        ++ elements_in (type_in (as_integer (typing_of tags selector))) (map element_checks_of (elements more)) loops
        ++ otherwise_in (option_map (map checks) (option_map statements others)) loops ≡ []
        → Sound names (choice (map (guarded (integer_of tags selector)) (Labelled_of first.0 ∷ map Labelled_of (elements more))) (otherwise (option_map (map Act_of) (option_map statements others))))
    case_sound selector first more others loops names around none =
        let found = as_integer (typing_of tags selector) in
        let one = faults_of found ++ element_checks_of first.0 (type_in found) loops in
        let rest = elements_in (type_in found) (map element_checks_of (elements more)) loops in
        let ends = none_both (one ++ rest) (otherwise_in (option_map (map checks) (option_map statements others)) loops) none in
        let parts = none_both one rest ends.0 in
        let head = none_both (faults_of found) (element_checks_of first.0 (type_in found) loops) parts.0 in
        let typed = integer_typed (typing_of tags selector).first (typing_of tags selector).outcome head.0 in
        let here : element_checks_of first.0 (Some typed.0) loops ≡ [] = subst (λ k. element_checks_of first.0 k loops ≡ []) typed.1 head.1 in
        let others_none : elements_in (Some typed.0) (map element_checks_of (elements more)) loops ≡ [] = subst (λ k. elements_in k (map element_checks_of (elements more)) loops ≡ []) typed.1 parts.1 in
        let fits = integer_fits selector head.0 in
        choice_sound names (map (guarded (integer_of tags selector)) (map Labelled_of (elements (first ∷ more)))) (otherwise (option_map (map Act_of) (option_map statements others)))
        (both_guards names _ _ (guarded_sound names (integer_of tags selector) (Labelled_of first.0) fits (first.1 typed.0 loops names around here)) (elements_sound typed.0 (integer_of tags selector) fits loops names around more others_none))
        (else_sound loops names around others ends.1)

    for_sound : (n : PlacedName) (first last : Integer) (step : Option Integer) (body : List PStatement) (loops : Loops) (names : List Name) → AreAround tags loops names
        → for_faults points loops n first last step (tag_named tags n.name) ++ each_in (map checks (statements body)) (loops ++ n.name ∷ []) ≡ []
        → Sound names (c.For n.name (word_type (type_of tags n.name)) (integer_value first) (integer_value last) (step_of step) (in_order (map Act_of (statements body))))
    unfolding IsSound
    for_sound n first last step body loops names around none =
        let parts = none_both (for_faults points loops n first last step (tag_named tags n.name)) (each_in (map checks (statements body)) (loops ++ n.name ∷ [])) none in
        let counted = named_counted points loops names n first last step (tag_named tags n.name) around refl parts.0 in
        (counted.not_set, counted.fits, body_sound (loops ++ n.name ∷ []) (n.name ∷ names) counted.around body parts.1)

    exit_sound : (place : ℕ) (loops : Loops) (names : List Name) → AreAround tags loops names → exit_faults loops place ≡ [] → Sound names c.Exit
    unfolding IsSound
    exit_sound place loops names around none = around.inside (not_broken (length loops == 0) place _ none)

    -- a variant as it is rolled, by what is known of it where it is made
    of_made : (z made : Statement) (faults : Checks) (a : Act) → z ≡ made → Act_of made ≡ a → checks made ≡ faults
        → ((loops : Loops) (names : List Name) → AreAround tags loops names → faults loops ≡ [] → Sound names a) → OfStatement z
    of_made z made faults a is does checked h loops names around none =
        subst (Sound names) (sym (ap Act_of is ∙ does)) (h loops names around (sym (ap (λ (f : Checks). f loops) (ap checks is ∙ checked)) ∙ none))

    of_statement_layer : (x : Statement-F Statement Branch Element) (y : Statement-F PStatement PBranch PElement) → map-Statement PStatement PBranch PElement Statement Branch Element (λ q. q.0) (λ q. q.0) (λ q. q.0) y ≡ x → OfStatement (roll-Statement x)
    unfolding IsSound
    of_statement_layer x (Statement-F.Empty) is = subst (λ z. OfStatement (roll-Statement z)) is
        (of_made _ _ _ _ rolls-Empty (at-empty (statement_parts tags)) (at-empty (statement_rules scope)) (λ loops names around none. tt))
    of_statement_layer x (Statement-F.Assignment a) is = subst (λ z. OfStatement (roll-Statement z)) is
        (of_made _ _ _ _ (rolls-Assignment a) (at-assignment (statement_parts tags) a) (at-assignment (statement_rules scope) a) (λ loops names around none. set_sound points loops names a.target a.index a.value (tag_named tags a.target.name) around refl none))
    of_statement_layer x (Statement-F.BlockCall b) is = subst (λ z. OfStatement (roll-Statement z)) is
        (of_made _ _ _ _ (rolls-BlockCall b) (at-blockcall (statement_parts tags) b) (at-blockcall (statement_rules scope) b) (λ loops names around none. named_call_sound loops names b.block b.inputs (tag_named tags b.block.name) around refl none))
    of_statement_layer x (Statement-F.If first more None) is = subst (λ z. OfStatement (roll-Statement z)) is
        (of_made _ _ _ _ (rolls-If first.0 (branches more) None) (at-if (statement_parts tags) first.0 (branches more) None) (at-if (statement_rules scope) first.0 (branches more) None) (if_sound first more None))
    of_statement_layer x (Statement-F.If first more (Some body)) is = subst (λ z. OfStatement (roll-Statement z)) is
        (of_made _ _ _ _ (rolls-If first.0 (branches more) (Some (statements body))) (at-if (statement_parts tags) first.0 (branches more) (Some (statements body))) (at-if (statement_rules scope) first.0 (branches more) (Some (statements body))) (if_sound first more (Some body)))
    of_statement_layer x (Statement-F.Case selector first more None) is = subst (λ z. OfStatement (roll-Statement z)) is
        (of_made _ _ _ _ (rolls-Case selector first.0 (elements more) None) (at-case (statement_parts tags) selector first.0 (elements more) None) (at-case (statement_rules scope) selector first.0 (elements more) None) (case_sound selector first more None))
    of_statement_layer x (Statement-F.Case selector first more (Some body)) is = subst (λ z. OfStatement (roll-Statement z)) is
        (of_made _ _ _ _ (rolls-Case selector first.0 (elements more) (Some (statements body))) (at-case (statement_parts tags) selector first.0 (elements more) (Some (statements body))) (at-case (statement_rules scope) selector first.0 (elements more) (Some (statements body))) (case_sound selector first more (Some body)))
    of_statement_layer x (Statement-F.For n first last step body) is = subst (λ z. OfStatement (roll-Statement z)) is
        (of_made _ _ _ _ (rolls-For n first last step (statements body)) (at-for (statement_parts tags) n first last step (statements body)) (at-for (statement_rules scope) n first last step (statements body)) (for_sound n first last step body))
    of_statement_layer x (Statement-F.Exit place) is = subst (λ z. OfStatement (roll-Statement z)) is
        (of_made _ _ _ _ (rolls-Exit place) (at-exit (statement_parts tags) place) (at-exit (statement_rules scope) place) (exit_sound place))
    of_statement_layer x (Statement-F.Return) is = subst (λ z. OfStatement (roll-Statement z)) is
        (of_made _ _ _ _ rolls-Return (at-return (statement_parts tags)) (at-return (statement_rules scope)) (λ loops names around none. tt))

    of_branch : (condition : Expr) (body : List PStatement) → OfBranch (roll-Branch (record { condition = condition; body = statements body }))
    of_branch condition body loops names around none =
        let checked : value_faults tags kind.Bool condition ++ each_in (map checks (statements body)) loops ≡ [] = sym (ap (λ (f : Checks). f loops) (at-branch (statement_rules scope) condition (statements body))) ∙ none in
        let parts = none_both (value_faults tags kind.Bool condition) (each_in (map checks (statements body)) loops) checked in
        subst (SoundGuard names) (sym (at-branch (statement_parts tags) condition (statements body)))
        (value_fits kind.Bool condition parts.0 kind.Bool, body_sound loops names around body parts.1)

    of_branch_layer : (x : Branch-F Statement Branch Element) (y : Branch-F PStatement PBranch PElement) → map-Branch PStatement PBranch PElement Statement Branch Element (λ q. q.0) (λ q. q.0) (λ q. q.0) y ≡ x → OfBranch (roll-Branch x)
    of_branch_layer x y is = subst (λ z. OfBranch (roll-Branch z)) is (of_branch y.condition y.body)

    of_element : (first : Label) (more : List Label) (body : List PStatement) → OfElement (roll-Element (record { first = first; more = more; body = statements body }))
    unfolding AllConstants
    of_element first more body k loops names around none =
        let checked : labels_faults (Some k) (listed first more) ++ each_in (map checks (statements body)) loops ≡ [] = sym (ap (λ (f : ElementChecks). f (Some k) loops) (at-element (statement_rules scope) first more (statements body))) ∙ none in
        let parts = none_both (labels_faults (Some k) (listed first more)) (each_in (map checks (statements body)) loops) checked in
        let labels = labels_constants k (first ∷ more) parts.0 in
        subst (SoundLabelled names) (sym (at-element (statement_parts tags) first more (statements body)))
        (labels.0, labels.1, body_sound loops names around body parts.1)

    of_element_layer : (x : Element-F Statement Branch Element) (y : Element-F PStatement PBranch PElement) → map-Element PStatement PBranch PElement Statement Branch Element (λ q. q.0) (λ q. q.0) (λ q. q.0) y ≡ x → OfElement (roll-Element x)
    of_element_layer x y is = subst (λ z. OfElement (roll-Element z)) is (of_element y.first y.more y.body)

    sound_statement : (s : Statement) → OfStatement s
    sound_statement = ind-Statement OfStatement OfBranch OfElement of_statement_layer of_branch_layer of_element_layer

    statements_sound : (ss : List Statement) → flat_map (statement_faults scope []) ss ≡ [] → Sound [] (in_order (map (act_of tags) ss))
    unfolding IsSound in_order act_of
    statements_sound [] none = tt
    statements_sound (s ∷ ss) none =
        let parts = none_both (statement_faults scope [] s) (flat_map (statement_faults scope []) ss) none in
        (sound_statement s [] [] (none_around tags) parts.0, statements_sound ss parts.1)

-- the statements of a well-typed program are sound
pub well_typed_sound : WellTypedIsSound
unfolding tags_of typing_faults WellTyped
well_typed_sound points tree none =
    let names = names_faults points [] (tags_of tree) in
    let blocks = flat_map block_faults tree.blocks in
    let statements = flat_map (statement_faults (scope_of points tree) []) tree.statements in
    let parts = none_both (names ++ blocks) statements none in
    let bounded : AreBounded (tags_of tree) = bounded_blocks tree.blocks (none_both names blocks parts.0).1 in
    statements_sound (tags_of tree) bounded points tree.statements parts.1
