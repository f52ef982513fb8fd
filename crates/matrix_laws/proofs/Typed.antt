-- The tree of a matrix's program breaks no typing rule, over points that the matrix is made for.
use Rattle.std.proofs.Common.{◌≡◌, ◌≢◌, ℕ, zero, suc, ◌+◌, ◌<◌, Bool, true, false, cond, ◌⊎◌, List, [], ◌∷◌, ◌++◌, length, map, get_or, Contains, Option, Some, None, option_to_list, refl, sym, ap, ◌∙◌, subst, arith, append_assoc, append-nil, length-append, inl, inr}
use Rattle.std.specs.List.{flat_map, find, list_any, All, AllPairs}
use Rattle.std.specs.Str.{bytes_eq}
use Rattle.std.proofs.lemmas.List.Elements.{All-contains, Contains-append_left, Contains-append_right, Contains-append_cases}
use Rattle.std.proofs.lemmas.List.Folds.{list_any_none}
use Rattle.std.proofs.Math.Seq.{get_or-append_seam}
use Rattle.std.proofs.lemmas.Slice.Eq.{bytes_eq-Decides}
use Rattle.tri_base.specs.declared.point.Point.{Point}
use Rattle.tri_base.specs.declared.point.PointKind.{PointKind}
use Rattle.tri_base.specs.declared.point.PointKind.TheVariants.{Di, Do}
use Rattle.tri_base.specs.declared.faults.TypeFault.{TypeFault}
use Rattle.function_blocks.specs.declared.kinds.Kind.TheVariants as kind
use Rattle.st_tree.specs.declared.declaration.DeclaredType.TheVariants as declared
use Rattle.st_tree.specs.declared.expression.Exclusive.{Exclusive}
use Rattle.st_tree.specs.declared.expression.Primary.TheVariants as p
use Rattle.st_tree.specs.declared.expression.Unary.{Unary}
use Rattle.st_tree.specs.declared.expression.Unary.TheVariants as u
use Rattle.st_tree.specs.declared.statement.Statement.TheVariants as st
use Rattle.st_tree.specs.declared.tag.Tag.{Tag}
use Rattle.st_tree.specs.ExpressionFolds.{fold_exclusive, fold_unary}
use Rattle.st_tree.specs.Tags.{tag_of, tags_of, tag_named}
use Rattle.st_tree.specs.Typing.Faults.{fault_if}
use Rattle.st_tree.specs.Typing.Points.{point_named, is_input_point, kind_of_point}
use Rattle.st_tree.specs.Typing.Declarations.{names_faults, name_faults, point_faults, kind_faults}
use Rattle.st_tree.specs.Typing.Operands.{Outcome, Typed, Typing, found, booleans, both_bool, chain, asked, faults_of}
use Rattle.st_tree.specs.Typing.Expressions.{expression_types, typing_of}
use Rattle.st_tree.specs.Typing.Names.{tag_value}
use Rattle.st_tree.specs.Typing.Statements.{Scope, statement_rules, statement_faults, set_faults, is_input_tag}
use Rattle.st_tree.specs.Typing.Programs.{scope_of, typing_faults, WellTyped}
use Rattle.st_tree.proofs.ExpressionEquations.{at-expr}
use Rattle.st_tree.proofs.StatementEquations.{at-assignment}
use Rattle.cause_effect.specs.declared.matrix.Level.{Level}
use Rattle.cause_effect.specs.declared.matrix.Level.TheVariants.{High, Low}
use Rattle.cause_effect.specs.declared.matrix.Mode.{Mode}
use Rattle.cause_effect.specs.declared.matrix.Mode.TheVariants.{Latch, Follow}
use Rattle.cause_effect.specs.declared.matrix.Link.{Link}
use Rattle.cause_effect.specs.Matrices.{MatrixValue, IsMatrix, cause_names, effect_names, declared_names, level_of, links_to}
use Rattle.cause_effect.specs.Programs.{cause_term, declaration_line, effect_text}
use Rattle.matrix_laws.specs.Laws.{HasPoint, Suits}
use Rattle.matrix_laws.proofs.Trees.{placed, joined_of, tag_at, not_at, cause_at, hold_at, causes_at, causes_text, false_at, value_at, assignment_at, statements_at, declarations_at, head_bytes, effects_place, tree_of, lifted, at_joined, at_tag, at_not, at_false}
use Rattle.matrix_laws.proofs.Written.{Each, each_of, filtered, keyed}

-- ---- points by name

same_self : (a : List ℕ) → bytes_eq a a ≡ true
same_self a = (bytes_eq-Decides a a).1 refl

unlike : (a b : List ℕ) → (a ≡ b → ⊥) → bytes_eq a b ≡ false
unlike a b h = by (bytes_eq a b) refl
  where
    by : (t : Bool) → bytes_eq a b ≡ t → t ≡ false
    by true e = absurd (h ((bytes_eq-Decides a b).0 e))
    by false e = refl

abbrev pub AreApart : List Point → Type 0
AreApart points = AllPairs (λ (a b : Point). a.name ≢ b.name) points

apart_rest : (a : Point) (points : List Point) → AreApart (a ∷ points) → AreApart points
apart_rest a points h = λ i j d less within. h (suc i) (suc j) d (omega (arith, less)) (omega (arith, within))

pub own_point : (points : List Point) (k : ℕ) (d : Point) → AreApart points → k < length points → point_named points (get_or points k d).name ≡ Some (get_or points k d)
own_point [] k d h within = absurd (omega (arith, within))
own_point (a ∷ points) zero d h within = ap (λ t. cond t (Some a) (find (λ q. bytes_eq a.name q.name) points)) (same_self a.name)
own_point (a ∷ points) (suc k) d h within =
    let n = (get_or points k d).name in
    let other : bytes_eq n a.name ≡ false = unlike n a.name (λ e. h 0 (suc k) d (omega arith) within (sym e)) in
    ap (λ t. cond t (Some a) (find (λ q. bytes_eq n q.name) points)) other ∙ own_point points k d (apart_rest a points h) (omega (arith, within))

-- the point that a name means, of a kind
abbrev pub Means : List Point → PointKind → List ℕ → Type 0
Means points k n = (a : Point) × (point_named points n ≡ Some a) × (a.kind ≡ k)

pub meant : (points : List Point) (k : PointKind) (n : List ℕ) → AreApart points → HasPoint points k n → Means points k n
meant points k n h has =
    let a = has.0 in
    let at = has.1 in
    let here : point_named points a.name ≡ Some a = subst (λ (x : Point). point_named points x.name ≡ Some x) at.2 (own_point points at.0 a h at.1) in
    (a, subst (λ (x : List ℕ). point_named points x ≡ Some a) has.2 here, has.3)

-- ---- tags

abbrev pub bool_tag : List ℕ → ℕ → Tag
bool_tag n place = tag_of true (declared.Simple kind.Bool) None (placed n place)

abbrev pub tags_at : ℕ → List (List ℕ) → List Tag
tags_at place [] = []
tags_at place (n ∷ names) = bool_tag n place ∷ tags_at (place + length (declaration_line n)) names

tags_flat : (place : ℕ) (names : List (List ℕ)) → flat_map Rattle.st_tree.specs.Tags.tags_of_external (declarations_at place names) ≡ tags_at place names
tags_flat place [] = refl
tags_flat place (n ∷ names) = ap (λ ts. bool_tag n place ∷ ts) (tags_flat (place + length (declaration_line n)) names)

pub tags_are : (m : MatrixValue) → tags_of (tree_of m) ≡ tags_at head_bytes (declared_names m)
unfolding tags_of
tags_are m = append-nil (flat_map Rattle.st_tree.specs.Tags.tags_of_external (declarations_at head_bytes (declared_names m))) ∙ tags_flat head_bytes (declared_names m)

-- a declared name is that of a BOOL
abbrev pub IsBool : List Tag → List ℕ → Type 0
IsBool tags n = (place : ℕ) × (tag_named tags n ≡ Some (bool_tag n place))

declared_step : (x : List ℕ) (place : ℕ) (names : List (List ℕ)) (n : List ℕ) → IsBool (tags_at (place + length (declaration_line x)) names) n → IsBool (tags_at place (x ∷ names)) n
unfolding tag_named
declared_step x place names n rest = by (bytes_eq n x) refl
  where
    by : (t : Bool) → bytes_eq n x ≡ t → IsBool (tags_at place (x ∷ names)) n
    by true h = (place, ap (λ t. cond t (Some (bool_tag x place)) (find (λ (t : Tag). bytes_eq n t.name) (tags_at (place + length (declaration_line x)) names))) h ∙ ap (λ y. Some (bool_tag y place)) (sym ((bytes_eq-Decides n x).0 h)))
    by false h = (rest.0, ap (λ t. cond t (Some (bool_tag x place)) (find (λ (t : Tag). bytes_eq n t.name) (tags_at (place + length (declaration_line x)) names))) h ∙ rest.1)

declared_at : (names : List (List ℕ)) (place : ℕ) (n : List ℕ) (k : ℕ) → k < length names → get_or names k n ≡ n → IsBool (tags_at place names) n
unfolding tag_named
declared_at [] place n k within e = absurd (omega (arith, within))
declared_at (x ∷ names) place n zero within e =
    (place, ap (λ t. cond t (Some (bool_tag x place)) (find (λ (t : Tag). bytes_eq n t.name) (tags_at (place + length (declaration_line x)) names))) ((bytes_eq-Decides n x).1 (sym e)) ∙ ap (λ y. Some (bool_tag y place)) e)
declared_at (x ∷ names) place n (suc k) within e =
    declared_step x place names n (declared_at names (place + length (declaration_line x)) n k (omega (arith, within)) e)

pub declared_bool : (place : ℕ) (names : List (List ℕ)) (n : List ℕ) → Contains names n → IsBool (tags_at place names) n
declared_bool place names n c = declared_at names place n c.0 c.1 c.2

-- ---- declarations break no rule

-- each name is new behind those before it
NewNames : List (List ℕ) → List (List ℕ) → Type 0
NewNames before [] = Unit {0}
NewNames before (n ∷ names) = (list_any (bytes_eq n) before ≡ false) × NewNames (before ++ n ∷ []) names

new_names : (before names : List (List ℕ)) → AllPairs (λ (a b : List ℕ). a ≢ b) (before ++ names) → NewNames before names
unfolding NewNames
new_names before [] h = tt
new_names before (n ∷ names) h =
    let all : List (List ℕ) = before ++ n ∷ names in
    let here : (d : List ℕ) → get_or all (length before) d ≡ n = λ d. get_or-append_seam before n names d in
    let long : length before < length all = omega (arith, length-append before (n ∷ names)) in
    let old : All (λ x. bytes_eq n x ≡ false) before = λ k d within.
    unlike n (get_or before k d) (λ e. h k (length before) d within long (Rattle.std.proofs.lemmas.List.get_or_append_left before (n ∷ names) d k within ∙ (sym e ∙ sym (here d)))) in
    (list_any_none (bytes_eq n) before old, new_names (before ++ n ∷ []) names (subst (λ (ns : List (List ℕ)). AllPairs (λ (a b : List ℕ). a ≢ b) ns) (sym (append_assoc before (n ∷ []) names)) h))

-- a discrete point of either direction
abbrev IsDiscrete : List Point → List ℕ → Type 0
IsDiscrete points n = (a : Point) × (point_named points n ≡ Some a) × (kind_of_point a.kind ≡ kind.Bool)

no_name_faults : (points : List Point) (before : List (List ℕ)) (place : ℕ) (names : List (List ℕ)) → NewNames before names → Each (IsDiscrete points) names → names_faults points before (tags_at place names) ≡ []
unfolding NewNames
no_name_faults points before place [] new each = refl
no_name_faults points before place (n ∷ names) new each =
    let a = each.0.0 in
    let own : name_faults points (list_any (bytes_eq n) before) (bool_tag n place) ≡ [] =
    (λ i. name_faults points (new.0 i) (bool_tag n place))
    ∙ (ap (λ o. point_faults (bool_tag n place) o) each.0.1
    ∙ ap (λ k. kind_faults place k (declared.Simple kind.Bool)) each.0.2) in
    (λ i. own i ++ names_faults points (before ++ n ∷ []) (tags_at (place + length (declaration_line n)) names))
    ∙ no_name_faults points (before ++ n ∷ []) (place + length (declaration_line n)) names new.1 each.1

-- ---- expressions are BOOL

abbrev YieldsBool : Typing → Type 0
YieldsBool t = t.outcome ≡ Typed kind.Bool

both_are : (a b : Typing) → YieldsBool a → YieldsBool b → both_bool a b ≡ Typed kind.Bool
both_are a b h k = λ i. booleans (found a.first (h i) ∷ found b.first (k i) ∷ [])

chain_bool : (first : Typing) (more : List Typing) → YieldsBool first → Each YieldsBool more → YieldsBool (chain both_bool first more)
chain_bool first [] h each = h
chain_bool first (t ∷ more) h each = chain_bool (found first.first (both_bool first t)) more (both_are first t h each.0) each.1

tag_bool : (tags : List Tag) (n : List ℕ) (place : ℕ) → IsBool tags n → YieldsBool (fold_unary (expression_types tags) (tag_at n place))
tag_bool tags n place is = ap (λ (t : Typing). t.outcome) (at_tag (expression_types tags) n place) ∙ ap (λ o. tag_value (placed n place) o) is.1

not_bool : (tags : List Tag) (n : List ℕ) (place : ℕ) → IsBool tags n → YieldsBool (fold_unary (expression_types tags) (not_at n place))
not_bool tags n place is =
    ap (λ (t : Typing). t.outcome) (at_not (expression_types tags) n place)
    ∙ ap (λ o. asked kind.Bool (found (place + 4) (tag_value (placed n (place + 4)) o))) is.1

cause_bool : (tags : List Tag) (level : Level) (n : List ℕ) (place : ℕ) → IsBool tags n → YieldsBool (fold_unary (expression_types tags) (cause_at level n place))
cause_bool tags High n place is = tag_bool tags n place is
cause_bool tags Low n place is = not_bool tags n place is

each_map : (tags : List Tag) (xs : List Unary) → Each (λ x. YieldsBool (fold_unary (expression_types tags) x)) xs → Each YieldsBool (map (lifted (expression_types tags)) (map (fold_unary (expression_types tags)) xs))
each_map tags [] h = tt
each_map tags (x ∷ xs) h = (h.0, each_map tags xs h.1)

joined_bool : (tags : List Tag) (x : Unary) (more : List Unary) → YieldsBool (fold_unary (expression_types tags) x) → Each (λ y. YieldsBool (fold_unary (expression_types tags) y)) more → YieldsBool (fold_exclusive (expression_types tags) (joined_of x more))
joined_bool tags x more h each =
    ap (λ (t : Typing). t.outcome) (at_joined (expression_types tags) x more)
    ∙ chain_bool (lifted (expression_types tags) (fold_unary (expression_types tags) x)) (map (lifted (expression_types tags)) (map (fold_unary (expression_types tags)) more)) h (each_map tags more each)

causes_bool : (tags : List Tag) (m : MatrixValue) (place : ℕ) (links : List Link) → Each (λ l. IsBool tags l.cause) links → Each YieldsBool (map (fold_exclusive (expression_types tags)) (causes_at m place links))
causes_bool tags m place [] each = tt
causes_bool tags m place (l ∷ links) each = (
  joined_bool tags (cause_at (level_of m l.cause) l.cause (place + 4)) [] (cause_bool tags (level_of m l.cause) l.cause (place + 4) each.0) tt,
  causes_bool tags m (place + length (cause_term (level_of m l.cause) l.cause)) links each.1,
)

abbrev pub BoolReset : List Tag → Option (List ℕ) → Type 0
BoolReset tags None = Unit {0}
BoolReset tags (Some reset) = IsBool tags reset

hold_bool : (tags : List Tag) (mode : Mode) (reset : Option (List ℕ)) (effect : List ℕ) (place : ℕ) → IsBool tags effect → BoolReset tags reset → Each YieldsBool (map (fold_exclusive (expression_types tags)) (hold_at mode reset effect place))
hold_bool tags Follow reset effect place is other = tt
hold_bool tags Latch None effect place is other = (joined_bool tags (tag_at effect (place + 4)) [] (tag_bool tags effect (place + 4) is) tt, tt)
hold_bool tags Latch (Some reset) effect place is other =
    (joined_bool tags (tag_at effect (place + 4)) (not_at reset (place + 4 + length effect + 5) ∷ []) (tag_bool tags effect (place + 4) is) (not_bool tags reset (place + 4 + length effect + 5) other, tt), tt)

each_join : (tags : List Tag) (xs ys : List Exclusive) → Each YieldsBool (map (fold_exclusive (expression_types tags)) xs) → Each YieldsBool (map (fold_exclusive (expression_types tags)) ys) → Each YieldsBool (map (fold_exclusive (expression_types tags)) (xs ++ ys))
each_join tags [] ys h k = k
each_join tags (x ∷ xs) ys h k = (h.0, each_join tags xs ys h.1 k)

value_bool : (tags : List Tag) (m : MatrixValue) (e : List ℕ × Mode) (place : ℕ) → IsBool tags e.0 → BoolReset tags m.reset → Each (λ l. IsBool tags l.cause) (links_to m e.0) → YieldsBool (typing_of tags (value_at m e place))
value_bool tags m e place is reset links =
    let causes = causes_at m (place + length e.0 + 9) (links_to m e.0) in
    let hold = hold_at e.1 m.reset e.0 (place + length e.0 + 9 + length (causes_text m (links_to m e.0))) in
    let more = map (fold_exclusive (expression_types tags)) (causes ++ hold) in
    ap (λ (t : Typing). t.outcome) (at-expr (expression_types tags) (false_at (place + length e.0 + 4)) (causes ++ hold))
    ∙ chain_bool (fold_exclusive (expression_types tags) (false_at (place + length e.0 + 4))) more
    (ap (λ (t : Typing). t.outcome) (at_joined (expression_types tags) (u.Plain (p.Truth false (place + length e.0 + 4))) []) ∙ ap (λ (t : Typing). t.outcome) (at_false (expression_types tags) (place + length e.0 + 4)))
    (each_join tags causes hold (causes_bool tags m (place + length e.0 + 9) (links_to m e.0) links) (hold_bool tags e.1 m.reset e.0 (place + length e.0 + 9 + length (causes_text m (links_to m e.0))) is reset))

-- ---- statements break no rule

no_effect_faults : (points : List Point) (tags : List Tag) (m : MatrixValue) (e : List ℕ × Mode) (place : ℕ) → Means points Do e.0 → IsBool tags e.0 → BoolReset tags m.reset → Each (λ l. IsBool tags l.cause) (links_to m e.0)
    → statement_faults (record { points = points; tags = tags }) [] (st.Assignment (assignment_at m e place)) ≡ []
no_effect_faults points tags m e place means is reset links =
    let s : Scope = record { points = points; tags = tags } in
    let n = placed e.0 place in
    let tag = bool_tag e.0 is.0 in
    let value = value_at m e place in
    let no_input : is_input_tag points tag ≡ false = ap (λ o. Rattle.st_tree.specs.Typing.Points.is_input o) means.1 ∙ ap (λ k. Rattle.st_tree.specs.Typing.Points.is_input_kind k) means.2 in
    ap (λ (f : List (List ℕ) → List TypeFault). f []) (at-assignment (statement_rules s) (assignment_at m e place))
    ∙ (ap (λ o. set_faults points tags [] n None value o) is.1
    ∙ (λ i. (fault_if (no_input i) place Rattle.tri_base.specs.declared.faults.TypeCause.TheVariants.NotAssignable ++ []) ++ faults_of (Rattle.st_tree.specs.Typing.Operands.asked_of kind.Bool (typing_of tags value).first (value_bool tags m e place is reset links i))))

no_line_faults : (points : List Point) (tags : List Tag) (m : MatrixValue) (place : ℕ) (effects : List (List ℕ × Mode)) → Each (λ e. Means points Do e.0) effects → Each (λ e. IsBool tags e.0) effects → BoolReset tags m.reset → ((effect : List ℕ) → Each (λ l. IsBool tags l.cause) (links_to m effect))
    → flat_map (statement_faults (record { points = points; tags = tags }) []) (statements_at m place effects) ≡ []
no_line_faults points tags m place [] means are reset links = refl
no_line_faults points tags m place (e ∷ effects) means are reset links =
    λ i. no_effect_faults points tags m e place means.0 are.0 reset (links e.0) i ++ no_line_faults points tags m (place + length (effect_text m e)) effects means.1 are.1 reset links i

-- ---- the whole

reset_bool : (tags : List Tag) (reset : Option (List ℕ)) → ((n : List ℕ) → Contains (option_to_list reset) n → IsBool tags n) → BoolReset tags reset
reset_bool tags None h = tt
reset_bool tags (Some reset) h = h reset (0, omega arith, refl)

pub discrete : (points : List Point) (k : PointKind) (n : List ℕ) → kind_of_point k ≡ kind.Bool → Means points k n → IsDiscrete points n
discrete points k n e means = (means.0, means.1, ap kind_of_point means.2 ∙ e)

pub each_discrete : (points : List Point) (m : MatrixValue) → AreApart points → Suits points m → (n : List ℕ) → Contains (declared_names m) n → IsDiscrete points n
each_discrete points m apart suits n c =
    by (Contains-append_cases (cause_names m ++ effect_names m) (option_to_list m.reset) n c)
  where
    one : (k : PointKind) (names : List (List ℕ)) → kind_of_point k ≡ kind.Bool → All (HasPoint points k) names → Contains names n → IsDiscrete points n
    one k names e all c = discrete points k n e (meant points k n apart (All-contains (HasPoint points k) names n all c))

    of_two : Contains (cause_names m) n ⊎ Contains (effect_names m) n → IsDiscrete points n
    of_two (inl c) = one Di (cause_names m) refl suits.causes c
    of_two (inr c) = one Do (effect_names m) refl suits.effects c

    by : Contains (cause_names m ++ effect_names m) n ⊎ Contains (option_to_list m.reset) n → IsDiscrete points n
    by (inl c) = of_two (Contains-append_cases (cause_names m) (effect_names m) n c)
    by (inr c) = one Di (option_to_list m.reset) refl suits.reset c

-- what is known of the tags of a matrix's program
pub record Tagged (tags : List Tag) (m : MatrixValue) : Type 0 where
  pub effects : Each (λ e. IsBool tags e.0) m.effects
  pub reset : BoolReset tags m.reset
  pub links : (effect : List ℕ) → Each (λ l. IsBool tags l.cause) (links_to m effect)

pub tagged : (m : MatrixValue) → IsMatrix m → Tagged (tags_at head_bytes (declared_names m)) m
tagged m is =
    let tags = tags_at head_bytes (declared_names m) in
    let others = cause_names m ++ effect_names m in
    let bool : (n : List ℕ) → Contains (declared_names m) n → IsBool tags n = λ n c. declared_bool head_bytes (declared_names m) n c in
    let of_cause : (n : List ℕ) → Contains (cause_names m) n → IsBool tags n =
    λ n c. bool n (Contains-append_left others (option_to_list m.reset) n (Contains-append_left (cause_names m) (effect_names m) n c)) in
    let of_effect : (n : List ℕ) → Contains (effect_names m) n → IsBool tags n =
    λ n c. bool n (Contains-append_left others (option_to_list m.reset) n (Contains-append_right (cause_names m) (effect_names m) n c)) in
    let of_reset : (n : List ℕ) → Contains (option_to_list m.reset) n → IsBool tags n = λ n c. bool n (Contains-append_right others (option_to_list m.reset) n c) in
    let links : Each (λ l. IsBool tags l.cause) m.links =
    each_of (λ (l : Link). IsBool tags l.cause) m.links (λ l c. of_cause l.cause (All-contains (λ (l : Link). Contains (cause_names m) l.cause × Contains (effect_names m) l.effect) m.links l is.links_known c).0) in
    record {
      effects = keyed (IsBool tags) m.effects (each_of (IsBool tags) (effect_names m) of_effect);
      reset = reset_bool tags m.reset of_reset;
      links = λ effect. filtered (λ (l : Link). IsBool tags l.cause) (λ l. bytes_eq l.effect effect) m.links links;
    }

pub well_typed : (points : List Point) (m : MatrixValue) → IsMatrix m → AreApart points → Suits points m → WellTyped points (tree_of m)
unfolding typing_faults WellTyped
well_typed points m is apart suits =
    let tags = tags_at head_bytes (declared_names m) in
    let t = tagged m is in
    let names : names_faults points [] (tags_of (tree_of m)) ≡ [] =
    ap (names_faults points []) (tags_are m)
    ∙ no_name_faults points [] head_bytes (declared_names m) (new_names [] (declared_names m) is.apart) (each_of (IsDiscrete points) (declared_names m) (each_discrete points m apart suits)) in
    let lines : flat_map (statement_faults (scope_of points (tree_of m)) []) (statements_at m (effects_place m) m.effects) ≡ [] =
    ap (λ (ts : List Tag). flat_map (statement_faults (record { points = points; tags = ts }) []) (statements_at m (effects_place m) m.effects)) (tags_are m)
    ∙ no_line_faults points tags m (effects_place m) m.effects
    (keyed (Means points Do) m.effects (each_of (Means points Do) (effect_names m) (λ n c. meant points Do n apart (All-contains (HasPoint points Do) (effect_names m) n suits.effects c))))
    t.effects t.reset t.links in
    λ i. (names i ++ []) ++ lines i
