-- The lines of a scan are found among those of all scans.
use Rattle.std.proofs.Common.{◌≡◌, ℕ, ◌-◌, ◌<◌, ◌≤◌, Bool, true, false, List, [], ◌∷◌, length, fold, get_or, nat_le, ◌==◌, refl, sym, ap, ◌∙◌, arith}
use Rattle.std.specs.Bool.{if◌then◌else◌}
use Rattle.std.specs.List.Sorted.{IsNonDecreasingBy}
use Rattle.std.proofs.lemmas.Bool.{eqb-true, eq-eqb, ne_eqb, le-leb}
use Rattle.script_text.specs.MomentValue.{MomentValue}
use Rattle.script_text.specs.Moments.{moment_at}
use Rattle.script_text.specs.Standing.{new_moment}
use Rattle.script_text.specs.Inner.LegParts.{Rise, MomentsCount}
use Rattle.script_text.proofs.Tapes.{Rising, sorted, decided, before_count, before_some, not_yet}

rising : (last : ℕ) (moments : List MomentValue) → Rise last moments → Rising (λ m. m.scan) last moments
rising last [] h = tt
rising last (m ∷ moments) h = (omega (arith, h.0), rising m.scan moments h.1)

pub moments_sorted : (moments : List MomentValue) → Rise 0 moments → IsNonDecreasingBy (λ m. m.scan) moments
moments_sorted moments h = sorted (λ (m : MomentValue). m.scan) 0 moments (rising 0 moments h)

-- the last one up to a scan
abbrev moments_until : MomentValue → ℕ → List MomentValue → MomentValue
moments_until start k moments = fold (λ before m. if nat_le m.scan k then m else before) start moments

abbrev of_moment : ℕ → MomentValue → MomentValue
of_moment k m = if m.scan == k then m else new_moment k

later : (last k : ℕ) (start : MomentValue) (moments : List MomentValue) → Rise last moments → k ≤ last → moments_until start k moments ≡ start
later last k start [] h le = refl
later last k start (m ∷ moments) h le =
    ap (λ t. moments_until (if t then m else start) k moments) (not_yet k m.scan (omega (arith, h.0, le)))
    ∙ later m.scan k start moments h.1 (omega (arith, h.0, le))

law : (last k : ℕ) (start : MomentValue) (moments : List MomentValue) → Rise last moments → of_moment k start ≡ new_moment k → of_moment k (moments_until start k moments) ≡ moment_at k moments
law last k start [] h other = other
law last k start (m ∷ moments) h other = by (m.scan == k) refl (nat_le m.scan k) refl (λ s own. law m.scan k s moments h.1 own)
  where
    by : (t : Bool) → (m.scan == k) ≡ t → (u : Bool) → nat_le m.scan k ≡ u → ((s : MomentValue) → of_moment k s ≡ new_moment k → of_moment k (moments_until s k moments) ≡ moment_at k moments)
        → of_moment k (moments_until (if u then m else start) k moments) ≡ (if t then m else moment_at k moments)
    by true e true f others =
        let scan : m.scan ≡ k = eqb-true m.scan k e in
        ap (of_moment k) (later m.scan k m moments h.1 (omega (arith, scan))) ∙ ap (λ t. if t then m else new_moment k) e
    by true e false f others = absurd (let scan : m.scan ≡ k = eqb-true m.scan k e in let le : nat_le m.scan k ≡ true = le-leb m.scan k (omega (arith, scan)) in cc)
    by false e true f others = others m (ap (λ t. if t then m else new_moment k) e)
    by false e false f others = others start other

own : (k : ℕ) → of_moment k (new_moment k) ≡ new_moment k
own k = ap (λ t. if t then new_moment k else new_moment k) (eq-eqb k k refl)

-- by the count of those up to a scan
pub moment_before : (k : ℕ) (moments : List MomentValue) (count : ℕ) → Rise 0 moments → count ≤ length moments → MomentsCount k moments count → count ≡ 0 → moment_at k moments ≡ new_moment k
moment_before k moments count h le parts none =
    let start : MomentValue = new_moment k in
    sym (law 0 k start moments h (own k))
    ∙ (ap (of_moment k) (decided (λ (m : MomentValue). m.scan) k start moments count start le parts ∙ ap (λ n. before_count start moments n start) none) ∙ own k)

at_count : (k : ℕ) (moments : List MomentValue) (count : ℕ) (m : MomentValue) → Rise 0 moments → count ≤ length moments → MomentsCount k moments count → 0 < count → m ≡ get_or moments (count - 1) m → moment_at k moments ≡ of_moment k m
at_count k moments count m h le parts some is =
    let start : MomentValue = new_moment k in
    sym (law 0 k start moments h (own k))
    ∙ ap (of_moment k) (decided (λ (m : MomentValue). m.scan) k start moments count m le parts ∙ (before_some start moments count m some ∙ sym is))

pub moment_found : (k : ℕ) (moments : List MomentValue) (count : ℕ) (m : MomentValue) → Rise 0 moments → count ≤ length moments → MomentsCount k moments count → 0 < count → m ≡ get_or moments (count - 1) m → m.scan ≡ k → moment_at k moments ≡ m
moment_found k moments count m h le parts some is same = at_count k moments count m h le parts some is ∙ ap (λ t. if t then m else new_moment k) (eq-eqb m.scan k same)

pub moment_other : (k : ℕ) (moments : List MomentValue) (count : ℕ) (m : MomentValue) → Rise 0 moments → count ≤ length moments → MomentsCount k moments count → 0 < count → m ≡ get_or moments (count - 1) m → (m.scan ≡ k → ⊥) → moment_at k moments ≡ new_moment k
moment_other k moments count m h le parts some is other = at_count k moments count m h le parts some is ∙ ap (λ t. if t then m else new_moment k) (ne_eqb m.scan k other)
