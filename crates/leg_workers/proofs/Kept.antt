-- What work keeps, over nothing and over more and more needs.
use Rattle.std.proofs.Common.{◌≡◌, List, refl, sym, subst, ◌∙◌}
use Rattle.tri_base.specs.declared.point.Point.{Point}
use Rattle.engine_face.specs.Meaning.{Meaning}
use Rattle.leg_laws.specs.Plays.{Play}
use Rattle.leg_laws.specs.SentTaken.{Follows}
use Rattle.leg_workers.specs.Working.{LegAtPost, IsKept, IsWorked}

module _ (m : List Point → Meaning) where
  pub kept_self : (p : LegAtPost) → IsKept m p p
  kept_self p = record {
    letter = refl;
    points = refl;
    tape = refl;
    given = refl;
    place = refl;
    follows = λ play f. f;
    within = λ h. h;
  }

  pub kept_same : (p q : LegAtPost) → q ≡ p → IsKept m p q
  kept_same p q e = subst (IsKept m p) (sym e) (kept_self p)

  pub kept_twice : (p q r : LegAtPost) → IsKept m p q → IsKept m q r → IsKept m p r
  kept_twice p q r a b = record {
    letter = b.letter ∙ a.letter;
    points = b.points ∙ a.points;
    tape = b.tape ∙ a.tape;
    given = b.given ∙ a.given;
    place = b.place ∙ a.place;
    follows =
        λ play f.
        subst (λ (ps : List Point). (play : Play) → Follows (m ps) play q.0 q.1.lists
        → Follows (m ps) play r.0 r.1.lists) a.points b.follows play (a.follows play f);
    within = λ h. b.within (a.within h);
  }

  -- one that was kept and then worked to its end
  pub kept_worked : (p q r : LegAtPost) → IsKept m p q → IsWorked m q r → IsKept m p r
  kept_worked p q r a b = kept_twice p q r a b.0
