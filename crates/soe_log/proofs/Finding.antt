-- The discrete points of a chassis, found one by one.
use Rattle.std.proofs.Common.{◌≡◌, ℕ, ◌<◌, ◌≤◌, ◌+◌, ◌++◌, ◌∷◌, [], Bool, true, false, not, cond, if◌then◌else◌, List, length, map, filter, take, get_or, arith, ap, sym, refl, ◌∙◌}
use Rattle.std.specs.List.{enumerate_from}
use Rattle.std.proofs.lemmas.List.{length-map, map-append, take_all}
use Rattle.std.proofs.lemmas.List.Elements.{filter_more}
use Rattle.std.proofs.lemmas.List.Filters.{length-filter_both, length-filter_more}
use Rattle.std.proofs.lemmas.List.FromFn.{get_or-enumerate_from, length-enumerate_from}
use Rattle.tri_base.specs.declared.point.Point.{Point}
use Rattle.chassis.specs.Points.{IsChassis, inputs_of, is_input_kind, outputs_of}
use Rattle.soe_log.specs.declared.discrete.DiscretePoint.{DiscretePoint}
use Rattle.soe_log.specs.Changes.{discrete_point, discrete_points, is_discrete_kind, points_on}
use Rattle.soe_log.specs.Inner.Found.{points_found}

-- the point at a place, numbered
numbered : (points : List Point) (i : ℕ) (p : Point) → i < length points → p ≡ get_or points i p
    → get_or (enumerate_from 0 points) i (i, p) ≡ (i, p)
numbered points i p within is =
    let zero_more : 0 + i ≡ i = omega arith in
    get_or-enumerate_from 0 points i (i, p) within ∙ (λ k. (zero_more k, sym is k))

-- one point more, where it is discrete
pub one_found : (points : List Point) (i : ℕ) (p : Point) → i < length points → p ≡ get_or points i p
    → points_found points (i + 1)
    ≡ points_found points i ++ (if is_discrete_kind p.kind then discrete_point points (i, p) ∷ [] else [])
one_found points i p within is =
    let rows = enumerate_from 0 points in
    let test : ℕ × Point → Bool = λ s. is_discrete_kind s.1.kind in
    let inside : i < length rows = omega (arith, within, length-enumerate_from 0 points) in
    let more = filter_more test rows i (i, p) inside in
    let at : cond (test (get_or rows i (i, p))) (get_or rows i (i, p) ∷ []) [] ≡ cond (test (i, p)) ((i, p) ∷ []) [] =
    ap (λ s. cond (test s) (s ∷ []) []) (numbered points i p within is) in
    ap (map (discrete_point points)) (more ∙ ap (λ l. filter test (take i rows) ++ l) at)
    ∙ (map-append (discrete_point points) (filter test (take i rows)) (cond (test (i, p)) ((i, p) ∷ []) [])
    ∙ ap (λ l. points_found points i ++ l) (one (test (i, p))))
  where
    one : (t : Bool) → map (discrete_point points) (cond t ((i, p) ∷ []) []) ≡ cond t (discrete_point points (i, p) ∷ []) []
    one true = refl
    one false = refl

-- the place of its word
word_at : (input : Bool) (points : List Point) (ins outs : ℕ) → ins ≡ length (inputs_of points)
    → outs ≡ length (outputs_of points) → (if input then ins else outs) ≡ length (points_on input points)
word_at true points ins outs is other = is
word_at false points ins outs is other = other

-- as the code adds it
pub found_more : (points : List Point) (i : ℕ) (p : Point) (input : Bool) (ins outs word : ℕ)
    (old new : List DiscretePoint) → i < length points → p ≡ get_or points i p → input ≡ is_input_kind p.kind
    → ins ≡ length (inputs_of (take i points)) → outs ≡ length (outputs_of (take i points))
    → word ≡ (if input then ins else outs) → old ≡ points_found points i
    → new ≡ old
    ++ (if is_discrete_kind p.kind then (record { place = i; input = input; word = word }) ∷ [] else [])
    → new ≡ points_found points (i + 1)
found_more points i p input ins outs word old new within is side inputs outputs stands so_far added =
    let t = is_discrete_kind p.kind in
    let at : word ≡ length (points_on (is_input_kind p.kind) (take i points)) =
    stands ∙ (word_at input (take i points) ins outs inputs outputs
    ∙ ap (λ t. length (points_on t (take i points))) side) in
    let with_word : Bool → ℕ → List DiscretePoint =
    λ b n. if t then (record { place = i; input = b; word = n }) ∷ [] else [] in
    added ∙ (ap (λ l. l ++ with_word input word) so_far
    ∙ (ap (λ b. points_found points i ++ with_word b word) side
    ∙ (ap (λ n. points_found points i ++ with_word (is_input_kind p.kind) n) at
    ∙ sym (one_found points i p within is))))

-- one input or output more
pub one_counted : (test : Point → Bool) (points : List Point) (i : ℕ) (p : Point) → i < length points
    → p ≡ get_or points i p
    → length (filter test (take (i + 1) points)) ≡ length (filter test (take i points)) + cond (test p) 1 0
one_counted test points i p within is =
    length-filter_more test points i p within
    ∙ ap (λ q. length (filter test (take i points)) + cond (test q) 1 0) (sym is)

-- at the end all are found
pub all_found : (points : List Point) → points_found points (length points) ≡ discrete_points points
all_found points =
    let rows = enumerate_from 0 points in
    ap (λ l. map (discrete_point points) (filter (λ s. is_discrete_kind s.1.kind) l))
    (take_all (length points) rows (omega (arith, length-enumerate_from 0 points)))

-- there are no more of them than of points
pub few_found : (points : List Point) → IsChassis points → length (discrete_points points) ≤ 512
few_found points whole =
    let rows = enumerate_from 0 points in
    let test : ℕ × Point → Bool = λ s. is_discrete_kind s.1.kind in
    omega (
      arith,
      length-map (filter test rows) (discrete_point points),
      length-filter_both test (λ s. not (test s)) (λ s. refl) rows,
      length-enumerate_from 0 points,
      length-filter_both (λ (p : Point). is_input_kind p.kind) (λ p. not (is_input_kind p.kind)) (λ p. refl) points,
      whole.few_inputs,
      whole.few_outputs,
    )
