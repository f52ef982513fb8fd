-- What the inputs of a scan set, and what its outputs are, by name.
use Rattle.std.proofs.Common.{◌≡◌, ◌≢◌, ℕ, suc, ◌<◌, ℤ, Bool, true, false, cond, List, [], ◌∷◌, length, map, filter, zip, fold, get_or, Option, Some, None, unwrap_or, refl, sym, ap, ◌∙◌, subst, arith, true≢false, if◌then◌else◌}
use Rattle.std.specs.List.{find}
use Rattle.std.specs.Str.{bytes_eq}
use Rattle.std.proofs.lemmas.Slice.Eq.{bytes_eq-Decides}
use Rattle.tri_base.specs.declared.point.Point.{Point}
use Rattle.st_tree.specs.declared.tag.Tag.{Tag}
use Rattle.st_core.specs.Environments.{Env, number_of, with_number}
use Rattle.st_core.specs.Memory.{count_of, shape_of}
use Rattle.st_core.proofs.Laid.{number_own, number_shape}
use Rattle.st_meaning.specs.Programs.{is_point_tag, with_input}
use Rattle.matrix_laws.specs.Laws.{value_named}
use Rattle.matrix_laws.proofs.Typed.{AreApart}
use Rattle.matrix_laws.proofs.Meant.{number_other}
use Rattle.matrix_laws.proofs.Written.{Each}

-- ---- points found among some of them

some_is : {A : Type 0} (a b : A) → Some a ≡ Some b → a ≡ b
some_is a b h = ap (λ o. unwrap_or o a) h

abbrev pub found_in : List ℕ → List Point → Option Point
found_in n points = find (λ q. bytes_eq n q.name) points

-- a point that is found is found among those that pass a test, if it passes
pub find_kept : (test : Point → Bool) (points : List Point) (n : List ℕ) (a : Point) → found_in n points ≡ Some a → test a ≡ true → found_in n (filter test points) ≡ Some a
find_kept test [] n a h e = absurd (cc)
find_kept test (q ∷ points) n a h e = by (bytes_eq n q.name) refl (λ k. find_kept test points n a k e)
  where
    skip : (t : Bool) → bytes_eq n q.name ≡ false → found_in n (filter test points) ≡ Some a → found_in n (cond t (q ∷ (filter test points)) (filter test points)) ≡ Some a
    skip true k g = ap (λ b. cond b (Some q) (found_in n (filter test points))) k ∙ g
    skip false k g = g

    by : (t : Bool) → bytes_eq n q.name ≡ t → (found_in n points ≡ Some a → found_in n (filter test points) ≡ Some a) → found_in n (filter test (q ∷ points)) ≡ Some a
    by true k more =
        let same : q ≡ a = some_is q a (sym (ap (λ b. cond b (Some q) (found_in n points)) k) ∙ h) in
        ap (λ b. found_in n (cond b (q ∷ (filter test points)) (filter test points))) (ap test same ∙ e) ∙ (ap (λ b. cond b (Some q) (found_in n (filter test points))) k ∙ ap Some same)
    by false k more = skip (test q) k (more (sym (ap (λ b. cond b (Some q) (found_in n points)) k) ∙ h))

lacks_filtered : (test : Point → Bool) (points : List Point) (n : List ℕ) → Each (λ (q : Point). bytes_eq n q.name ≡ false) points → Each (λ (q : Point). bytes_eq n q.name ≡ false) (filter test points)
lacks_filtered test [] n h = tt
lacks_filtered test (q ∷ points) n h = by (test q) (lacks_filtered test points n h.1)
  where
    by : (t : Bool) → Each (λ (q : Point). bytes_eq n q.name ≡ false) (filter test points) → Each (λ (q : Point). bytes_eq n q.name ≡ false) (cond t (q ∷ filter test points) (filter test points))
    by true k = (h.0, k)
    by false k = k

unlike : (a b : List ℕ) → (a ≡ b → ⊥) → bytes_eq a b ≡ false
unlike a b h = by (bytes_eq a b) refl
  where
    by : (t : Bool) → bytes_eq a b ≡ t → t ≡ false
    by true e = absurd (h ((bytes_eq-Decides a b).0 e))
    by false e = refl

apart_rest : (a : Point) (points : List Point) → AreApart (a ∷ points) → AreApart points
apart_rest a points h = λ i j d less within. h (suc i) (suc j) d (omega (arith, less)) (omega (arith, within))

others_lack : (a : Point) (points : List Point) → AreApart (a ∷ points) → Each (λ (q : Point). bytes_eq a.name q.name ≡ false) points
others_lack a points h = go points (λ k d within. h 0 (suc k) d (omega arith) (omega (arith, within)))
  where
    go : (ps : List Point) → ((k : ℕ) (d : Point) → k < length ps → a.name ≢ (get_or ps k d).name) → Each (λ (q : Point). bytes_eq a.name q.name ≡ false) ps
    go [] f = tt
    go (p ∷ ps) f = (unlike a.name p.name (f 0 p (omega arith)), go ps (λ k d within. f (suc k) d (omega (arith, within))))

-- a point that is found is not found among those that pass a test, if it doesn't pass
pub find_dropped : (test : Point → Bool) (points : List Point) (n : List ℕ) (a : Point) → AreApart points → found_in n points ≡ Some a → test a ≡ false → Each (λ (q : Point). bytes_eq n q.name ≡ false) (filter test points)
find_dropped test [] n a apart h e = tt
find_dropped test (q ∷ points) n a apart h e = by (bytes_eq n q.name) refl (λ k. find_dropped test points n a (apart_rest q points apart) k e)
  where
    skip : (t : Bool) → bytes_eq n q.name ≡ false → Each (λ (x : Point). bytes_eq n x.name ≡ false) (filter test points) → Each (λ (x : Point). bytes_eq n x.name ≡ false) (cond t (q ∷ (filter test points)) (filter test points))
    skip true k g = (k, g)
    skip false k g = g

    by : (t : Bool) → bytes_eq n q.name ≡ t → (found_in n points ≡ Some a → Each (λ (x : Point). bytes_eq n x.name ≡ false) (filter test points)) → Each (λ (x : Point). bytes_eq n x.name ≡ false) (filter test (q ∷ points))
    by true k more =
        let same : q ≡ a = some_is q a (sym (ap (λ b. cond b (Some q) (found_in n points)) k) ∙ h) in
        let name : q.name ≡ n = sym ((bytes_eq-Decides n q.name).0 k) in
        let lack = lacks_filtered test points q.name (others_lack q points apart) in
        subst (λ (t : Bool). Each (λ (x : Point). bytes_eq n x.name ≡ false) (cond t (q ∷ (filter test points)) (filter test points))) (sym (ap test same ∙ e))
        (subst (λ (m : List ℕ). Each (λ (x : Point). bytes_eq m x.name ≡ false) (filter test points)) name lack)
    by false k more = skip (test q) k (more (sym (ap (λ b. cond b (Some q) (found_in n points)) k) ∙ h))

-- ---- values by name

pub value_there : (points : List Point) (values : List ℤ) (n : List ℕ) (a : Point) → length points ≡ length values → found_in n points ≡ Some a → (v : ℤ) × (value_named points values n ≡ Some v)
value_there [] values n a long h = absurd (cc)
value_there (q ∷ points) [] n a long h = absurd (omega (arith, long))
value_there (q ∷ points) (v ∷ values) n a long h = by (bytes_eq n q.name) refl (λ k. value_there points values n a (omega (arith, long)) k)
  where
    by : (t : Bool) → bytes_eq n q.name ≡ t → (found_in n points ≡ Some a → (w : ℤ) × (value_named points values n ≡ Some w)) → (w : ℤ) × (value_named (q ∷ points) (v ∷ values) n ≡ Some w)
    by true k more = (v, ap (λ b. cond b (Some v) (value_named points values n)) k)
    by false k more =
        let rest = more (sym (ap (λ b. cond b (Some q) (found_in n points)) k) ∙ h) in
        (rest.0, ap (λ b. cond b (Some v) (value_named points values n)) k ∙ rest.1)

pub value_nowhere : (points : List Point) (values : List ℤ) (n : List ℕ) → Each (λ (q : Point). bytes_eq n q.name ≡ false) points → value_named points values n ≡ None
value_nowhere [] values n h = refl
value_nowhere (q ∷ points) [] n h = refl
value_nowhere (q ∷ points) (v ∷ values) n h = ap (λ b. cond b (Some v) (value_named points values n)) h.0 ∙ value_nowhere points values n h.1

-- the values of a function of the points
pub value_mapped : (f : Point → ℤ) (points : List Point) (n : List ℕ) (a : Point) → found_in n points ≡ Some a → value_named points (map f points) n ≡ Some (f a)
value_mapped f [] n a h = absurd (cc)
value_mapped f (q ∷ points) n a h = by (bytes_eq n q.name) refl (λ k. value_mapped f points n a k)
  where
    by : (t : Bool) → bytes_eq n q.name ≡ t → (found_in n points ≡ Some a → value_named points (map f points) n ≡ Some (f a)) → value_named (q ∷ points) (map f (q ∷ points)) n ≡ Some (f a)
    by true k more = ap (λ b. cond b (Some (f q)) (value_named points (map f points) n)) k ∙ ap (λ (x : Point). Some (f x)) (some_is q a (sym (ap (λ b. cond b (Some q) (found_in n points)) k) ∙ h))
    by false k more = ap (λ b. cond b (Some (f q)) (value_named points (map f points) n)) k ∙ more (sym (ap (λ b. cond b (Some q) (found_in n points)) k) ∙ h)

-- ---- the inputs are set

-- each point's name is that of no later one
abbrev pub Unlike : List Point → Type 0
Unlike [] = Unit {0}
Unlike (q ∷ points) = Each (λ (x : Point). bytes_eq q.name x.name ≡ false) points × Unlike points

pub unlike_all : (points : List Point) → AreApart points → Unlike points
unlike_all [] h = tt
unlike_all (q ∷ points) h = (others_lack q points h, unlike_all points (apart_rest q points h))

pub unlike_some : (test : Point → Bool) (points : List Point) → Unlike points → Unlike (filter test points)
unlike_some test [] h = tt
unlike_some test (q ∷ points) h = by (test q) (unlike_some test points h.1)
  where
    by : (t : Bool) → Unlike (filter test points) → Unlike (cond t (q ∷ filter test points) (filter test points))
    by true k = (lacks_filtered test points q.name h.0, k)
    by false k = k

abbrev pub set_all : List Tag → List Point → List ℤ → Env → Env
set_all tags points values env = fold (with_input tags) env (zip points values)

input_shape : (tags : List Tag) (env : Env) (q : Point) (v : ℤ) → shape_of (with_input tags env (q, v)) ≡ shape_of env
input_shape tags env q v = by (is_point_tag tags q.name)
  where
    by : (t : Bool) → shape_of (if t then with_number env q.name 0 v else env) ≡ shape_of env
    by true = number_shape q.name env 0 v
    by false = refl

pub inputs_shape : (tags : List Tag) (points : List Point) (values : List ℤ) (env : Env) → shape_of (set_all tags points values env) ≡ shape_of env
inputs_shape tags [] values env = refl
inputs_shape tags (q ∷ points) [] env = refl
inputs_shape tags (q ∷ points) (v ∷ values) env = inputs_shape tags points values (with_input tags env (q, v)) ∙ input_shape tags env q v

input_same : (tags : List Tag) (env : Env) (q : Point) (v : ℤ) (n : List ℕ) → bytes_eq n q.name ≡ false → number_of (with_input tags env (q, v)) n 0 ≡ number_of env n 0
input_same tags env q v n e = by (is_point_tag tags q.name)
  where
    apart : n ≢ q.name
    apart k = true≢false (sym ((bytes_eq-Decides n q.name).1 k) ∙ e)

    by : (t : Bool) → number_of (if t then with_number env q.name 0 v else env) n 0 ≡ number_of env n 0
    by true = number_other n q.name env v apart
    by false = refl

pub not_set : (tags : List Tag) (points : List Point) (values : List ℤ) (env : Env) (n : List ℕ) → Each (λ (x : Point). bytes_eq n x.name ≡ false) points → number_of (set_all tags points values env) n 0 ≡ number_of env n 0
not_set tags [] values env n h = refl
not_set tags (q ∷ points) [] env n h = refl
not_set tags (q ∷ points) (v ∷ values) env n h = not_set tags points values (with_input tags env (q, v)) n h.1 ∙ input_same tags env q v n h.0

pub set_to : (tags : List Tag) (points : List Point) (values : List ℤ) (env : Env) (n : List ℕ) (w : ℤ) → is_point_tag tags n ≡ true → 0 < count_of n (shape_of env) → Unlike points → value_named points values n ≡ Some w → number_of (set_all tags points values env) n 0 ≡ w
set_to tags [] values env n w tag there apart h = absurd (cc)
set_to tags (q ∷ points) [] env n w tag there apart h = absurd (cc)
set_to tags (q ∷ points) (v ∷ values) env n w tag there apart h = by (bytes_eq n q.name) refl (λ here k. set_to tags points values (with_input tags env (q, v)) n w tag here apart.1 k)
  where
    by : (t : Bool) → bytes_eq n q.name ≡ t → (0 < count_of n (shape_of (with_input tags env (q, v))) → value_named points values n ≡ Some w → number_of (set_all tags points values (with_input tags env (q, v))) n 0 ≡ w) → number_of (set_all tags points values (with_input tags env (q, v))) n 0 ≡ w
    by true k more =
        let name : n ≡ q.name = (bytes_eq-Decides n q.name).0 k in
        let value : v ≡ w = some_is v w (sym (ap (λ b. cond b (Some v) (value_named points values n)) k) ∙ h) in
        let lack : Each (λ (x : Point). bytes_eq n x.name ≡ false) points = subst (λ (m : List ℕ). Each (λ (x : Point). bytes_eq m x.name ≡ false) points) (sym name) apart.0 in
        let own : number_of (with_input tags env (q, v)) n 0 ≡ v =
        ap (λ t. number_of (if t then with_number env q.name 0 v else env) n 0) (ap (is_point_tag tags) (sym name) ∙ tag)
        ∙ (ap (λ m. number_of (with_number env m 0 v) n 0) (sym name) ∙ number_own n env 0 v there) in
        not_set tags points values (with_input tags env (q, v)) n lack ∙ (own ∙ value)
    by false k more =
        more (subst (λ s. 0 < count_of n s) (sym (input_shape tags env q v)) there)
        (sym (ap (λ b. cond b (Some v) (value_named points values n)) k) ∙ h)
