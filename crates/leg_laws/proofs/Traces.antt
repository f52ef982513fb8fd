-- Three legs scan by scan, all at once: what after_scans gives, in a form that is quickly computed.
use Rattle.std.proofs.Common.{◌≡◌, ℕ, zero, suc, List, [], ◌∷◌, ◌++◌, refl, sym, ◌∙◌}
use Rattle.tri_base.specs.declared.leg.Leg.{Leg}
use Rattle.tri_base.specs.declared.leg.Leg.TheVariants.{A, B, C}
use Rattle.tri_base.specs.declared.leg.Triple.{Triple}
use Rattle.tri_base.specs.declared.point.Point.{Point}
use Rattle.tri_base.specs.Legs.{leg_part}
use Rattle.engine_face.specs.Meaning.{Meaning}
use Rattle.fault_history.specs.Notes.{NoteData}
use Rattle.input_legs.specs.Marks.{has_mark, no_marks}
use Rattle.script_text.specs.LegScans.{LegScan}
use Rattle.leg_laws.specs.States.{State, first_state}
use Rattle.leg_laws.specs.Closing.{scan_note}
use Rattle.leg_laws.specs.Plays.{Play}
use Rattle.leg_laws.specs.Rounds.{after_scans, in_step, state_after}
use Rattle.leg_laws.specs.ThreeScans.{closed_at, half_at, marks_at, scans_behind}
use Rattle.leg_laws.proofs.Scans.{next_scan}

-- A leg between two scans.
pub record Traced : Type 0 where
  pub state : State
  pub marks : List (Triple ℕ)
  pub notes : List NoteData

abbrev pub states_of : Triple Traced → Leg → State
states_of t leg = (leg_part t leg).state

abbrev next_traced : Meaning → List Point → (Leg → LegScan) → (Leg → State) → Leg → Traced → Traced
next_traced m points ls states x t =
    let marks = marks_at points ls x t.marks in
    let end = closed_at m points ls states x in
    record {
      state = end.state;
      marks = marks;
      notes = t.notes ++ scan_note (half_at m points ls states x) end (has_mark marks) ∷ [];
    }

abbrev next_three : Meaning → List Point → (Leg → LegScan) → Triple Traced → Triple Traced
next_three m points ls t = record {
  a = next_traced m points ls (states_of t) A t.a;
  b = next_traced m points ls (states_of t) B t.b;
  c = next_traced m points ls (states_of t) C t.c;
}

abbrev first_traced : Meaning → Play → Traced
first_traced m play = record { state = first_state m play.text; marks = no_marks play.points; notes = [] }

unfoldable pub traced : Meaning → Play → ℕ → Triple Traced
traced m play zero = record { a = first_traced m play; b = first_traced m play; c = first_traced m play }
traced m play (suc k) = next_three m play.points (scans_behind play k) (traced m play k)

abbrev shown_at : Meaning → Play → ℕ → Leg → Traced
shown_at m play k x = record {
  state = state_after m play k x;
  marks = (after_scans m play x k).marks;
  notes = (after_scans m play x k).notes;
}

part_of_next : (m : Meaning) (points : List Point) (ls : Leg → LegScan) (t : Triple Traced) (x : Leg)
    → leg_part (next_three m points ls t) x ≡ next_traced m points ls (states_of t) x (leg_part t x)
part_of_next m points ls t A = refl
part_of_next m points ls t B = refl
part_of_next m points ls t C = refl

pub traced_is : (m : Meaning) (play : Play) (k : ℕ) (x : Leg) → leg_part (traced m play k) x ≡ shown_at m play k x
unfolding traced in_step
traced_is m play zero A = refl
traced_is m play zero B = refl
traced_is m play zero C = refl
traced_is m play (suc k) x =
    let h = traced_is m play k in
    let n = next_scan m play k x in
    part_of_next m play.points (scans_behind play k) (traced m play k) x
    ∙ (λ i. next_traced m play.points (scans_behind play k) (λ y. (h y i).state) x (h x i))
    ∙ (λ i. record {
      state = sym n.state i;
      marks = sym n.marks i;
      notes = (after_scans m play x k).notes
          ++ scan_note (half_at m play.points (scans_behind play k) (state_after m play k) x)
          (closed_at m play.points (scans_behind play k) (state_after m play k) x)
          (has_mark (sym n.marks i)) ∷ [];
    })
    ∙ (λ i. record {
      state = state_after m play (suc k) x;
      marks = (after_scans m play x (suc k)).marks;
      notes = sym n.notes i;
    })
