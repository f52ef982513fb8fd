-- What a run shows, and what it leaves.
use Rattle.std.proofs.Common.{◌≡◌, ℕ, ℤ, pos, ◌+◌, ◌*◌, ◌<◌, ◌≤◌, Some, List, ◌++◌, length, map, refl, sym, ap, ◌∙◌, arith}
use Rattle.std.proofs.lemmas.List.{length-map, length-append}
use Rattle.tri_base.specs.Limits.{text_limit, word_limit}
use Rattle.engine_face.specs.Meaning.{Meaning, Scanned}
use Rattle.leg_packet.specs.Sheets.{IsCanonical, IsSized, Sheet, sheet_of, spelled, window_length}
use Rattle.leg_packet.proofs.Codec.{read_back}
use Rattle.memory_compare.specs.Changes.{applied, changes_of}
use Rattle.memory_compare.specs.Windows.{memory, window, written}
use Rattle.memory_compare.proofs.AllMemories.{applied_changes, bytes_shown, own_window, rising}
use Rattle.memory_compare.proofs.AllMemories.{sized as window_sized}
use Rattle.re_education.specs.Learning.{sheet_windows, taught}
use Rattle.leg_laws.specs.States.{IsRun, Run}
use Rattle.leg_laws.specs.HalfScans.{run_sheet}
use Rattle.leg_laws.specs.Closing.{run_windows, turned}
use Rattle.majority_laws.proofs.Stages.{Sane, Shows, run_memory}

-- ---- canonical sheets

sheet_fits : (g : Sheet) → IsCanonical g → 64 * g.turn + length g.window ≤ g.text_length + g.word_length
sheet_fits g c = let w = c.window in let t = c.turn in omega (arith, w, t)

sheet_full : (g : Sheet) → IsCanonical g → (j : ℕ) → j < 64 → length g.window ≤ j
    → g.text_length + g.word_length ≤ 64 * g.turn + j
sheet_full g c j a b = let w = c.window in let t = c.turn in omega (arith, w, t)

sheet_turn : (g : Sheet) → IsCanonical g → g.turn < sheet_windows g
sheet_turn g c = let t = c.turn in omega arith

-- a run and what a scan leaves of it
module _ (run : Run) (after : Scanned) (same : length after.words ≡ length run.words) where
  abbrev g : Sheet
  g = run_sheet run after

  abbrev next : Run
  next = turned (record run { words = after.words })

  size : length (memory run.text after.words) ≡ length run.text + length after.words
  size = length-append (map pos run.text) after.words ∙ ap (λ n. n + length after.words) (length-map run.text pos)

  pub sized : IsSized g
  sized = window_sized (memory run.text after.words) run.turn ∙ ap (λ n. window_length n run.turn) size

  -- its memory is brought up to date by what it shows
  kept : run_memory next ≡ taught g (run_memory run)
  kept =
      let changed : applied (length run.text) (changes_of run.words after.words) (map pos run.text ++ run.words)
      ≡ map pos run.text ++ after.words =
      applied_changes (length run.text) (map pos run.text) run.words after.words (length-map run.text pos) (sym same) in
      sym (ap (λ (l : List ℤ). written (64 * run.turn) (window (memory run.text after.words) run.turn) l) changed
      ∙ own_window (memory run.text after.words) run.turn)

  pub shows : Shows run next g
  shows = record {
    epoch = refl;
    turn = refl;
    text_length = refl;
    word_length = same;
    kept = kept;
    text = refl;
    words = same;
    epoch' = refl;
    turn' = refl;
  }

  module _ (m : Meaning) (k : IsRun m run) (in_turn : run.turn < run_windows run) (some : 0 < length run.text)
      (short : length run.text ≤ text_limit) (few : length run.words ≤ word_limit) where
    canonical : IsCanonical g
    canonical = record {
      epoch = k.epoch;
      text_length = short;
      word_length = omega (arith, same, few);
      turn = (let t = in_turn in omega (arith, t, same, some));
      window = sized;
      bytes = bytes_shown run.text after.words run.turn k.bytes;
      pairs = rising run.words after.words (sym same);
    }

    pub sane : Sane m run g
    sane = record {
      builds = k.builds;
      counted = sym k.count;
      turn = sheet_turn g canonical;
      fits = sheet_fits g canonical;
      full = sheet_full g canonical;
    }

    pub read : sheet_of (spelled g) ≡ Some g
    read = read_back g canonical
