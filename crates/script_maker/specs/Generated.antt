-- The script of the generator: from a number come draws, and two draws decide what is set in each scan (own rules).
use Rattle.std.specs.Prelude.{ℕ, ℤ, zero, suc, pos, ◌+◌, ◌*◌, ◌/◌, ◌%◌, ◌==◌, List, [], ◌∷◌, map, if◌then◌else◌}
use Rattle.std.specs.List.{range_with_len}
use Rattle.tri_base.specs.declared.leg.Leg.{Leg}
use Rattle.tri_base.specs.declared.leg.Leg.TheVariants.{A, B, C}
use Rattle.tri_base.specs.declared.leg.Triple.{Triple}
use Rattle.script_text.specs.declared.moment.ScanLine.{ScanLine}
use Rattle.script_text.specs.declared.moment.ScanLine.TheVariants.{Set, Replace, Download}
use Rattle.script_text.specs.MomentValue.{MomentValue}
use Rattle.script_text.specs.ScriptValue.{ReadScript}
use Rattle.script_maker.specs.Plants.{row_length, generated_points}
use Rattle.script_maker.specs.Programs.{generated_text}

-- The draw behind x, a number of 32 bits.
abbrev pub next_draw : ℕ → ℕ
next_draw x = (1664525 * x + 1013904223) % 4294967296

-- A draw by its place, from 1; in place 0 stands the number that the draws come from.
unfoldable pub draw : ℕ → ℕ → ℕ
draw number zero = number
draw number (suc n) = next_draw (draw number n)

-- The same reading for all legs.
abbrev pub all_legs : ℕ → Triple ℤ
all_legs value = record { a = pos value; b = pos value; c = pos value }

-- A discrete input gets a reading: the draw's bits from 16 on say which input, bit 23 says which reading.
abbrev pub discrete_line : ℕ → ScanLine
discrete_line x = Set (record { point = x / 65536 % row_length; reads = all_legs (x / 8388608 % 2) })

-- An analogue input gets a reading: the bits from 16 on say which input, the upper 12 bits are the reading.
abbrev pub analogue_line : ℕ → ScanLine
analogue_line x = Set (record { point = row_length + x / 65536 % row_length; reads = all_legs (x / 1048576) })

-- The legs take turns.
abbrev pub leg_in_turn : ℕ → Leg
leg_in_turn turn = if turn == 0 then A else if turn == 1 then B else C

-- What else stands in a scan: in each thousand scans one leg is replaced, and the program is downloaded again.
abbrev pub event_lines : ℕ → List ScanLine
event_lines scan =
    if scan % 1000 == 10 then Replace (leg_in_turn (scan / 1000 % 3)) ∷ []
    else if scan % 1000 == 990 then Download generated_text ∷ [] else []

-- A scan with its two draws.
abbrev pub moment_of : (scan first second : ℕ) → MomentValue
moment_of scan first second =
    let lines = discrete_line first ∷ analogue_line second ∷ event_lines scan in
    record { scan = scan; lines = lines; renames = []; asks = [] }

-- The scan behind `before` others has the next two draws.
abbrev pub generated_moment : (number before : ℕ) → MomentValue
generated_moment number before =
    moment_of (before + 1) (draw number (2 * before + 1)) (draw number (2 * before + 2))

-- The script of a number, with so many scans. In its text the word TEXT stands behind the points.
abbrev pub generated : (number scans : ℕ) → ReadScript
generated number scans = record {
  value = record {
    points = generated_points;
    text = generated_text;
    schedule = [];
    scans = scans;
    moments = map (generated_moment number) (range_with_len 0 scans);
  };
  text_line = 514;
  swap_lines = [];
}
