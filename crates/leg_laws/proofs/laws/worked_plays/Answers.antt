use Rattle.leg_laws.proofs.WorkedPlays.{changed_program_worked, false_result_worked, lines_worked, mute_leg_worked, one_scan_worked, one_window_worked, poked_leg_worked, poked_ring_worked, poked_twice_worked, replaced_leg_worked, scheduled_worked, swapped_leg_worked, ten_windows_worked, two_faced_worked}
use Rattle.leg_laws.proofs.laws.worked_plays.Goals as goal

pub returns : goal.returns
returns c = record {
  lines = lines_worked;
  one_scan = one_scan_worked;
  schedules = scheduled_worked;
  mute_leg = mute_leg_worked;
  poked_leg = poked_leg_worked;
  poked_ring = poked_ring_worked;
  replaced_leg = replaced_leg_worked;
  two_faced = two_faced_worked;
  false_result = false_result_worked;
  one_window = one_window_worked;
  changed_program = changed_program_worked;
  swapped_leg = swapped_leg_worked;
  ten_windows = ten_windows_worked;
  poked_twice = poked_twice_worked;
}
