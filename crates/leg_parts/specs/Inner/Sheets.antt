-- Nobody has to believe what stands here: it serves private functions alone.
-- How a leg keeps its result.
use Rattle.std.specs.Prelude.{◌≡◌, ◌≤◌, ℕ, ℤ, Bool, true, false, List, length}
use Rattle.tri_base.specs.Limits.{word_limit}
use Rattle.tri_base.specs.Rows.{HasRoom}
use Rattle.chassis.specs.Points.{point_limit}
use Rattle.leg_packet.specs.declared.sheet.OutSheet.{OutSheet}
use Rattle.leg_packet.specs.Sheets.{Sheet, spelled_out}
use Rattle.memory_compare.specs.Changes.{changes_of}
use Rattle.memory_compare.specs.Windows.{memory, window}
use Rattle.leg_parts.specs.Results.{ResultValue, learner_result}

-- The result that is kept: the sheet of a leg that ran, or that of a leg that learns.
abbrev pub result_kept : (runs : Bool) → OutSheet → (flag : Bool) → ResultValue
result_kept true sheet flag = record { own = spelled_out sheet; outputs = sheet.outputs.list; flag = flag }
result_kept false sheet flag = learner_result

-- A sheet fits a packet, and has room for any.
pub record IsShort (s : OutSheet) : Type 0 where
  pub window_room : HasRoom 64 s.window
  pub addresses_room : HasRoom word_limit s.addresses
  pub values_room : HasRoom word_limit s.values
  pub outputs_room : HasRoom point_limit s.outputs
  pub paired : length s.addresses.list ≡ length s.values.list
  pub window : length s.window.list ≤ 64
  pub few : length s.addresses.list ≤ word_limit
  pub outputs : length s.outputs.list ≤ point_limit

-- What is told of words before and after a scan.
abbrev pub sheet_told : (epoch turn : ℕ) (text : List ℕ) (before after outputs : List ℤ) → Sheet
sheet_told epoch turn text before after outputs = record {
  epoch = epoch;
  turn = turn;
  text_length = length text;
  word_length = length after;
  window = window (memory text after) turn;
  pairs = changes_of before after;
  outputs = outputs;
}
