-- A script whose blocks an engine builds can be played.
use Rattle.std.proofs.Common.{◌≡◌, ⊎_elim, ℕ, suc, ◌+◌, ◌-◌, ◌==◌, ◌<◌, ◌≤◌, Bool, true, false, List, [], ◌∷◌, ◌++◌, fold, length, Option, Some, None, refl, sym, subst, arith}
use Rattle.std.specs.List.{All, AllByRecursion, flat_map}
use Rattle.std.proofs.lemmas.Bool.{cases_lt, cond_both}
use Rattle.std.proofs.lemmas.List.{get_or_past}
use Rattle.std.proofs.lemmas.List.Elements.{All-cons, All-nil, All-push}
use Rattle.std.proofs.lemmas.Option.{none-some}
use Rattle.tri_base.specs.declared.leg.Leg.{Leg}
use Rattle.tri_base.specs.declared.leg.Leg.TheVariants.{A, B, C}
use Rattle.tri_base.specs.declared.leg.Side.{Side}
use Rattle.tri_base.specs.declared.leg.Side.TheVariants.{Left, Right}
use Rattle.tri_base.specs.declared.point.Point.{Point}
use Rattle.chassis.specs.Points.{first_fault, is_full, place_of}
use Rattle.chassis.specs.Ranges.{Fits, fits_range}
use Rattle.chassis.proofs.Ranges.{fits_is}
use Rattle.engine_face.specs.declared.refusal.Refusal.{Refusal}
use Rattle.engine_face.specs.Meaning.{Meaning}
use Rattle.engine_face.specs.Laws.{IsMeaning}
use Rattle.script_text.specs.declared.moment.ScanLine.{ScanLine}
use Rattle.script_text.specs.declared.moment.ScanLine.TheVariants.{Set, Time, Download, Mute, Poke, Replace, Swap, Read, Result, Drive}
use Rattle.script_text.specs.IsScript.{IsPlant, IsScript}
use Rattle.script_text.specs.MomentValue.{MomentValue}
use Rattle.script_text.specs.Moments.{moment_at}
use Rattle.script_text.specs.ScriptValue.{ReadScript, ScriptValue}
use Rattle.script_text.specs.LegScans.{IsReadable, LegAct, LegScan, LoadsBytes, SwapsBytes, for_leg, no_lines, same_leg, scan_of, tape_of, with_leg_line, with_result, with_shown}
use Rattle.script_text.specs.LegScans.{Poke as PokeAct, Replace as ReplaceAct, Swap as SwapAct}
use Rattle.script_text.proofs.LineFacts.{bytes_all}
use Rattle.script_text.proofs.Readable.{all_read}
use Rattle.plant_script.specs.FirstRefused.{first_refused_in, first_refused_of, refused_or, swap_text, swap_texts, with_lines}
use Rattle.plant_script.proofs.Plays.{tape_length, tape_scan}
use Rattle.leg_laws.specs.Plays.{SwapBuilds, play_of, scan_behind}
use Rattle.majority_laws.specs.Between.{CanBeRead}
use Rattle.majority_laws.specs.Majority.{CanBePlayed, MajorityCarries}
use Rattle.majority_laws.proofs.Outputs.{carried_before}
use Rattle.majority_laws.proofs.Seen.{seen}

-- ---- the points have their ranges

ranged_by : (fits : Bool) (there : Option ℕ) (full : Bool) (name : List ℕ) → first_fault fits there full name ≡ None
    → fits ≡ true
ranged_by true there full name e = refl
ranged_by false there full name e = absurd (cc)

pub all_fit : (before points : List Point) → IsPlant before points → All Fits points
all_fit before [] h = All-nil Fits
all_fit before (p ∷ points) h =
    All-cons Fits p points
    (fits_is p (ranged_by (fits_range p) (place_of before p.name) (is_full before p.kind) p.name h.0))
    (all_fit (before ++ p ∷ []) points h.3)

-- ---- each SWAP text builds

abbrev AllBuild : Meaning → List (List ℕ) → Type 0
AllBuild m texts = AllByRecursion (λ text. m.builds text ≡ None) texts

builds_by : (line : ℕ) (o : Option Refusal) (others : Option (ℕ × Refusal)) → refused_or line o others ≡ None
    → (o ≡ None) × (others ≡ None)
builds_by line None others e = (refl, e)
builds_by line (Some refusal) others e = absurd (none-some (line, refusal) (sym e))

all_build : (m : Meaning) (lines : List ℕ) (texts : List (List ℕ)) → first_refused_in m (with_lines lines texts) ≡ None
    → AllBuild m texts
unfolding with_lines
all_build m lines [] e = tt
all_build m [] (text ∷ texts) e =
    let parts = builds_by 0 (m.builds text) (first_refused_in m (with_lines [] texts)) e in
    (parts.0, all_build m [] texts parts.1)
all_build m (line ∷ lines) (text ∷ texts) e =
    let parts = builds_by line (m.builds text) (first_refused_in m (with_lines lines texts)) e in
    (parts.0, all_build m lines texts parts.1)

split : (m : Meaning) (xs ys : List (List ℕ)) → AllBuild m (xs ++ ys) → AllBuild m xs × AllBuild m ys
split m [] ys h = (tt, h)
split m (x ∷ xs) ys h = let rest = split m xs ys h.1 in ((h.0, rest.0), rest.1)

moment_builds : (m : Meaning) (k : ℕ) (moments : List MomentValue) → AllBuild m (swap_texts moments)
    → AllBuild m (flat_map swap_text (moment_at k moments).lines)
moment_builds m k [] h = tt
moment_builds m k (x ∷ moments) h =
    let parts = split m (flat_map swap_text x.lines) (swap_texts moments) h in
    cond_both (x.scan == k) x (moment_at k moments) (λ (y : MomentValue). AllBuild m (flat_map swap_text y.lines))
    (λ e. parts.0) (λ e. moment_builds m k moments parts.1)

-- ---- so each line of a leg builds

abbrev Builds : Meaning → LegScan → Type 0
Builds m l = All (SwapBuilds m) l.acts

either_builds : (m : Meaning) (l changed : LegScan) (b : Bool) → Builds m l → Builds m changed
    → Builds m (for_leg l changed b)
either_builds m l changed true h k = k
either_builds m l changed false h k = h

shown_builds : (m : Meaning) (l : LegScan) (side : Option Side) (words : List _) → Builds m l
    → Builds m (with_shown l side words)
shown_builds m l None words h = h
shown_builds m l (Some Left) words h = h
shown_builds m l (Some Right) words h = h

result_builds : (m : Meaning) (l : LegScan) (side : Option Side) (words : List _) → Builds m l
    → Builds m (with_result l side words)
result_builds m l None words h = h
result_builds m l (Some Left) words h = h
result_builds m l (Some Right) words h = h

module _ (m : Meaning) (points : List Point) (renames : List (List ℕ × List ℕ)) (leg : Leg) where
  acted : (l : LegScan) (act : LegAct) → Builds m l → SwapBuilds m act
      → Builds m (record l { acts = l.acts ++ act ∷ [] })
  acted l act h b = All-push (SwapBuilds m) l.acts act h b

  line_builds : (l : LegScan) (line : ScanLine) → AllBuild m (swap_text line) → Builds m l
      → Builds m (with_leg_line points renames leg l line)
  line_builds l (Set setting) b h = h
  line_builds l (Time reads) b h = h
  line_builds l (Download text) b h = h
  line_builds l (Mute other) b h = either_builds m l _ (same_leg other leg) h h
  line_builds l (Poke other address value) b h =
      either_builds m l _ (same_leg other leg) h (acted l (PokeAct address value) h tt)
  line_builds l (Replace other) b h = either_builds m l _ (same_leg other leg) h (acted l ReplaceAct h tt)
  line_builds l (Swap other text) b h = either_builds m l _ (same_leg other leg) h (acted l (SwapAct text) h b.0)
  line_builds l (Read other side words) b h =
      either_builds m l (with_shown l side words) (same_leg other leg) h (shown_builds m l side words h)
  line_builds l (Result other side words) b h =
      either_builds m l (with_result l side words) (same_leg other leg) h (result_builds m l side words h)
  line_builds l (Drive other words) b h = either_builds m l _ (same_leg other leg) h h

  lines_build : (l : LegScan) (lines : List ScanLine) → AllBuild m (flat_map swap_text lines) → Builds m l
      → Builds m (fold (with_leg_line points renames leg) l lines)
  lines_build l [] b h = h
  lines_build l (line ∷ lines) b h =
      let parts = split m (swap_text line) (flat_map swap_text lines) b in
      lines_build (with_leg_line points renames leg l line) lines parts.1 (line_builds l line parts.0 h)

scan_builds : (m : Meaning) (v : ScriptValue) (leg : Leg) (k : ℕ) → AllBuild m (swap_texts v.moments)
    → Builds m (scan_of v leg (suc k))
unfolding scan_of
scan_builds m v leg k b =
    lines_build m v.points (moment_at (suc k) v.moments).renames leg _ (moment_at (suc k) v.moments).lines
    (moment_builds m (suc k) v.moments b) (All-nil (SwapBuilds m))

-- ---- each scan of a tape, and past its end

past : (v : ScriptValue) (leg : Leg) (k : ℕ) → v.scans ≤ k → scan_behind (play_of v) leg k ≡ no_lines
past v leg k h = tape leg
  where
    far : (x : Leg) → length (tape_of v x).scans ≤ k + 1 - 1
    far x = omega (arith, tape_length v x, h)

    tape : (x : Leg) → scan_behind (play_of v) x k ≡ no_lines
    tape A = get_or_past (tape_of v A).scans (k + 1 - 1) no_lines (far A)
    tape B = get_or_past (tape_of v B).scans (k + 1 - 1) no_lines (far B)
    tape C = get_or_past (tape_of v C).scans (k + 1 - 1) no_lines (far C)

at_each : (v : ScriptValue) (P : LegScan → Type 0) → P no_lines
    → ((leg : Leg) (k : ℕ) → k < v.scans → P (scan_of v leg (suc k)))
    → (leg : Leg) (k : ℕ) → P (scan_behind (play_of v) leg k)
at_each v P none each leg k = ⊎_elim
    (λ (l : k < v.scans). subst P (sym (seen v leg k l)) (each leg k l))
    (λ (l : v.scans ≤ k). subst P (sym (past v leg k l)) none)
    (cases_lt k v.scans)

pub scan_readable : (v : ScriptValue) → IsScript v → (leg : Leg) (scan : ℕ) → 1 ≤ scan → scan ≤ v.scans
    → IsReadable v.points (scan_of v leg scan)
scan_readable v is leg scan first last =
    subst (IsReadable v.points) (tape_scan v leg scan first last)
    (all_read v leg is (all_fit [] v.points is.plant) (scan - 1) no_lines
    (omega (arith, first, last, tape_length v leg)))

pub can_be_read : (s : ReadScript) (scan : ℕ) → IsScript s.value → 1 ≤ scan → scan ≤ s.value.scans
    → CanBeRead s.value scan
can_be_read s scan is first last = record {
  ranges = all_fit [] s.value.points is.plant;
  readable = λ leg. scan_readable s.value is leg scan first last;
}

pub can_be_played : (m : Meaning) (s : ReadScript) → IsMeaning s.value.points m → IsScript s.value
    → first_refused_of m s ≡ None → CanBePlayed m s.value
can_be_played m s law is e =
    let v : ScriptValue = s.value in
    let parts = builds_by s.text_line (m.builds v.text)
    (first_refused_in m (with_lines s.swap_lines (swap_texts v.moments))) e in
    let swaps : AllBuild m (swap_texts v.moments) = all_build m s.swap_lines (swap_texts v.moments) parts.1 in
    let read : (leg : Leg) (k : ℕ) → k < v.scans → IsReadable v.points (scan_of v leg (suc k)) =
    λ leg k l. scan_readable v is leg (suc k) (omega arith) (omega (arith, l)) in
    record {
      engine = law;
      ranges = all_fit [] v.points is.plant;
      texts = record {
        builds = parts.0;
        bytes = bytes_all v.text is.text.3;
        swaps = at_each v (λ l. Builds m l) (All-nil (SwapBuilds m)) (λ leg k l. scan_builds m v leg k swaps);
        swap_bytes = at_each v (λ l. All SwapsBytes l.acts) (All-nil SwapsBytes) (λ leg k l. (read leg k l).acts);
        downloads = at_each v (λ l. LoadsBytes l.download) tt (λ leg k l. (read leg k l).download);
      };
      scans = omega (arith, is.most);
    }

pub scripts_carry : MajorityCarries
scripts_carry m s uncalm scan law is e calm first last before =
    carried_before m s.value uncalm scan (can_be_played m s law is e) calm first last before
