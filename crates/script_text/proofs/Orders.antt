-- The parts of a script before and behind its SCANS line.
use Rattle.std.proofs.Common.{◌≡◌, Bool, true, false, not, ◌&&◌, List, [], ◌∷◌, refl, sym, ◌∙◌}
use Rattle.std.specs.Bool.{if◌then◌else◌}
use Rattle.std.specs.List.{list_all}
use Rattle.script_lines.specs.declared.keyword.Part.{Part}
use Rattle.script_lines.specs.declared.keyword.Part.TheVariants.{Nothing, Heading, Plant, Program, Order, Count, Moment, Inside, Ended}
use Rattle.script_lines.specs.Order.{may_follow}
use Rattle.script_text.proofs.LineFacts.{both}

-- the number of scans is known
abbrev pub has_scans : Part → Bool
has_scans Nothing = false
has_scans Heading = false
has_scans Plant = false
has_scans Program = false
has_scans Order = false
has_scans Count = true
has_scans Moment = true
has_scans Inside = true
has_scans Ended = true

-- parts that stand behind those without scans alone
abbrev pub is_early : Part → Bool
is_early Nothing = false
is_early Heading = true
is_early Plant = true
is_early Program = true
is_early Order = true
is_early Count = true
is_early Moment = false
is_early Inside = false
is_early Ended = false

-- parts that stand behind those with scans alone
abbrev pub is_late : Part → Bool
is_late Moment = true
is_late Inside = true
is_late Ended = true
is_late part = false

abbrev parts : List Part
parts = Nothing ∷ Heading ∷ Plant ∷ Program ∷ Order ∷ Count ∷ Moment ∷ Inside ∷ Ended ∷ []

-- a test that all parts pass is passed by each
every : (f : Part → Bool) → list_all f parts ≡ true → (p : Part) → f p ≡ true
every f h p = at p
  where
    b1 : (f Heading && (f Plant && (f Program && (f Order && (f Count && (f Moment && (f Inside && (f Ended && true)))))))) ≡ true
    b1 = (both (f Nothing) (f Heading && (f Plant && (f Program && (f Order && (f Count && (f Moment && (f Inside && (f Ended && true)))))))) h).1

    b2 : (f Plant && (f Program && (f Order && (f Count && (f Moment && (f Inside && (f Ended && true))))))) ≡ true
    b2 = (both (f Heading) (f Plant && (f Program && (f Order && (f Count && (f Moment && (f Inside && (f Ended && true))))))) b1).1

    b3 : (f Program && (f Order && (f Count && (f Moment && (f Inside && (f Ended && true)))))) ≡ true
    b3 = (both (f Plant) (f Program && (f Order && (f Count && (f Moment && (f Inside && (f Ended && true)))))) b2).1

    b4 : (f Order && (f Count && (f Moment && (f Inside && (f Ended && true))))) ≡ true
    b4 = (both (f Program) (f Order && (f Count && (f Moment && (f Inside && (f Ended && true))))) b3).1

    b5 : (f Count && (f Moment && (f Inside && (f Ended && true)))) ≡ true
    b5 = (both (f Order) (f Count && (f Moment && (f Inside && (f Ended && true)))) b4).1

    b6 : (f Moment && (f Inside && (f Ended && true))) ≡ true
    b6 = (both (f Count) (f Moment && (f Inside && (f Ended && true))) b5).1

    b7 : (f Inside && (f Ended && true)) ≡ true
    b7 = (both (f Moment) (f Inside && (f Ended && true)) b6).1

    b8 : (f Ended && true) ≡ true
    b8 = (both (f Inside) (f Ended && true) b7).1

    at : (p : Part) → f p ≡ true
    at Nothing = (both (f Nothing) (f Heading && (f Plant && (f Program && (f Order && (f Count && (f Moment && (f Inside && (f Ended && true)))))))) h).0
    at Heading = (both (f Heading) (f Plant && (f Program && (f Order && (f Count && (f Moment && (f Inside && (f Ended && true))))))) b1).0
    at Plant = (both (f Plant) (f Program && (f Order && (f Count && (f Moment && (f Inside && (f Ended && true)))))) b2).0
    at Program = (both (f Program) (f Order && (f Count && (f Moment && (f Inside && (f Ended && true))))) b3).0
    at Order = (both (f Order) (f Count && (f Moment && (f Inside && (f Ended && true)))) b4).0
    at Count = (both (f Count) (f Moment && (f Inside && (f Ended && true))) b5).0
    at Moment = (both (f Moment) (f Inside && (f Ended && true)) b6).0
    at Inside = (both (f Inside) (f Ended && true) b7).0
    at Ended = (both (f Ended) true b8).0

-- a test of two parts that all parts pass
pairs : (f : Part → Part → Bool) → list_all (λ p. list_all (f p) parts) parts ≡ true → (p q : Part) → f p q ≡ true
pairs f h p q = every (f p) (every (λ p. list_all (f p) parts) h p) q

abbrev no_scans_before : Part → Part → Bool
no_scans_before p q = if may_follow p q && is_early q then not (has_scans p) else true

abbrev scans_before : Part → Part → Bool
scans_before p q = if may_follow p q && is_late q then has_scans p else true

isnt : (t : Bool) → not t ≡ true → t ≡ false
isnt true h = absurd (cc)
isnt false h = refl

-- behind a part without scans
pub early : (p q : Part) → may_follow p q ≡ true → is_early q ≡ true → has_scans p ≡ false
early p q a b = isnt (has_scans p) (sym (λ i. if a i && b i then not (has_scans p) else true) ∙ pairs no_scans_before refl p q)

-- behind a part with scans
pub late : (p q : Part) → may_follow p q ≡ true → is_late q ≡ true → has_scans p ≡ true
late p q a b = sym (λ i. if a i && b i then has_scans p else true) ∙ pairs scans_before refl p q
