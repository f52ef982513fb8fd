-- What the legs of a script see of a scan.
use Rattle.std.proofs.Common.{◌≡◌, ℕ, zero, suc, ◌+◌, ◌-◌, ◌<◌, ◌≤◌, Bool, true, false, List, [], ◌∷◌, fold, Option, Some, None, refl, sym, ap, ◌∙◌, arith}
use Rattle.tri_base.specs.declared.leg.Leg.{Leg}
use Rattle.tri_base.specs.declared.leg.Leg.TheVariants.{A, B, C}
use Rattle.tri_base.specs.declared.leg.Side.{Side}
use Rattle.tri_base.specs.declared.leg.Side.TheVariants.{Left, Right}
use Rattle.tri_base.specs.declared.point.Point.{Point}
use Rattle.script_text.specs.declared.moment.ScanLine.{ScanLine}
use Rattle.script_text.specs.declared.moment.ScanLine.TheVariants.{Set, Time, Download, Mute, Poke, Replace, Swap, Read, Result, Drive}
use Rattle.script_text.specs.Moments.{moment_at}
use Rattle.script_text.specs.ScriptValue.{ScriptValue}
use Rattle.script_text.specs.LegScans.{LegScan, for_leg, same_leg, scan_of, with_leg_line, with_result, with_shown}
use Rattle.plant_script.proofs.Plays.{tape_scan}
use Rattle.input_legs.specs.VotedSheets.{vote_sheet_of}
use Rattle.single_controller.specs.Controller.{voted_at}
use Rattle.leg_laws.specs.Plays.{play_of, scan_behind}
use Rattle.leg_laws.specs.ThreeScans.{scans_behind}
use Rattle.majority_laws.specs.Recovering.{shown_in}

-- with so many scans behind, a leg sees the next one of the script
pub seen : (v : ScriptValue) (leg : Leg) (k : ℕ) → k < v.scans → scan_behind (play_of v) leg k ≡ scan_of v leg (suc k)
seen v leg k low =
    let one : k + 1 ≡ suc k = omega arith in
    tape leg ∙ ap (λ (n : ℕ). scan_of v leg n) one
  where
    tape : (x : Leg) → scan_behind (play_of v) x k ≡ scan_of v x (k + 1)
    tape A = tape_scan v A (k + 1) (omega arith) (omega (arith, low))
    tape B = tape_scan v B (k + 1) (omega arith) (omega (arith, low))
    tape C = tape_scan v C (k + 1) (omega arith) (omega (arith, low))

-- so a leg sees a scan, counted from 1, and what the three show is voted to what the one controller runs on
module _ (v : ScriptValue) (scan : ℕ) (first : 1 ≤ scan) (last : scan ≤ v.scans) where
  pub seen_in : (x : Leg) → scans_behind (play_of v) (scan - 1) x ≡ scan_of v x scan
  seen_in x =
      seen v x (scan - 1) (omega (arith, first, last)) ∙ ap (λ (n : ℕ). scan_of v x n) (omega (arith, first))

  pub voted_in : vote_sheet_of v.points (shown_in (scans_behind (play_of v) (scan - 1))) ≡ voted_at v scan
  voted_in = λ i. vote_sheet_of v.points (shown_in (λ (x : Leg). seen_in x i))

-- ---- a download is the same for each leg

for_either : (l changed : LegScan) (b : Bool) → changed.download ≡ l.download → (for_leg l changed b).download
    ≡ l.download
for_either l changed true e = e
for_either l changed false e = refl

shown_stays : (l : LegScan) (side : Option Side) (words : List _) → (with_shown l side words).download ≡ l.download
shown_stays l None words = refl
shown_stays l (Some Left) words = refl
shown_stays l (Some Right) words = refl

result_stays : (l : LegScan) (side : Option Side) (words : List _) → (with_result l side words).download ≡ l.download
result_stays l None words = refl
result_stays l (Some Left) words = refl
result_stays l (Some Right) words = refl

module _ (points : List Point) (renames : List (List ℕ × List ℕ)) (x y : Leg) where
  line_shared : (l l' : LegScan) (line : ScanLine) → l.download ≡ l'.download
      → (with_leg_line points renames x l line).download ≡ (with_leg_line points renames y l' line).download
  line_shared l l' (Set setting) e = e
  line_shared l l' (Time reads) e = e
  line_shared l l' (Download text) e = refl
  line_shared l l' (Mute other) e =
      for_either l _ (same_leg other x) refl ∙ e ∙ sym (for_either l' _ (same_leg other y) refl)
  line_shared l l' (Poke other address value) e =
      for_either l _ (same_leg other x) refl ∙ e ∙ sym (for_either l' _ (same_leg other y) refl)
  line_shared l l' (Replace other) e =
      for_either l _ (same_leg other x) refl ∙ e ∙ sym (for_either l' _ (same_leg other y) refl)
  line_shared l l' (Swap other text) e =
      for_either l _ (same_leg other x) refl ∙ e ∙ sym (for_either l' _ (same_leg other y) refl)
  line_shared l l' (Read other side words) e =
      for_either l (with_shown l side words) (same_leg other x) (shown_stays l side words) ∙ e
      ∙ sym (for_either l' (with_shown l' side words) (same_leg other y) (shown_stays l' side words))
  line_shared l l' (Result other side words) e =
      for_either l (with_result l side words) (same_leg other x) (result_stays l side words) ∙ e
      ∙ sym (for_either l' (with_result l' side words) (same_leg other y) (result_stays l' side words))
  line_shared l l' (Drive other words) e =
      for_either l _ (same_leg other x) refl ∙ e ∙ sym (for_either l' _ (same_leg other y) refl)

  lines_shared : (l l' : LegScan) (lines : List ScanLine) → l.download ≡ l'.download
      → (fold (with_leg_line points renames x) l lines).download
      ≡ (fold (with_leg_line points renames y) l' lines).download
  lines_shared l l' [] e = e
  lines_shared l l' (line ∷ lines) e =
      lines_shared (with_leg_line points renames x l line) (with_leg_line points renames y l' line) lines
      (line_shared l l' line e)

pub shared : (v : ScriptValue) (x y : Leg) (scan : ℕ) → (scan_of v x scan).download ≡ (scan_of v y scan).download
unfolding scan_of
shared v x y zero = refl
shared v x y (suc k) =
    lines_shared v.points (moment_at (suc k) v.moments).renames x y _ _ (moment_at (suc k) v.moments).lines refl
