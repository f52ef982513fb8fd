-- A program and its engine may go to another thread, since each of their parts may.
use denote.Param.Send.{IsSend, sendable}
use Rattle.std.proofs.Crossing.{crosses}
use Rattle.tri_base.specs.contracts.text.Text as Text
use Rattle.chassis.specs.contracts.table.Chassis as Chassis
use Rattle.scan_machine.specs.contracts.instructions.Instr as Instr
use Rattle.scan_machine.specs.contracts.verified.Code as Code
use Rattle.tag_layout.specs.contracts.layout.Layout as Layout
use Rattle.tag_wiring.specs.contracts.point_mark.PointMark as PointMark
use Rattle.tag_wiring.specs.contracts.wiring.Wiring as Wiring
use Rattle.st_build.specs.contracts.marked_chassis.MarkedChassis as MarkedChassis
use Rattle.st_build.specs.contracts.engine.StEngine as StEngine
use Rattle.st_build.specs.contracts.program.StProgram as StProgram

text_send : IsSend Text.the_row
text_send = search (sendable, crosses) depth 60 fits 5000

instr_send : IsSend Instr.the_row
instr_send = search sendable depth 60 fits 20000

code_send : IsSend Code.the_row
code_send = search (instr_send, sendable, crosses) depth 60 fits 5000

layout_send : IsSend Layout.the_row
layout_send = search (sendable, crosses) depth 60 fits 5000

mark_send : IsSend PointMark.the_row
mark_send = search (sendable, crosses) depth 60 fits 5000

wiring_send : IsSend Wiring.the_row
wiring_send = search (mark_send, sendable, crosses) depth 60 fits 5000

pub program_send : IsSend StProgram.the_row
program_send = search (text_send, layout_send, code_send, wiring_send, sendable) depth 20

chassis_send : IsSend Chassis.the_row
chassis_send = search (sendable, crosses) depth 60 fits 5000

marked_send : IsSend MarkedChassis.the_row
marked_send = search (chassis_send, mark_send, sendable) depth 20

pub engine_send : IsSend StEngine.the_row
engine_send = first_of (
  search (marked_send, sendable) depth 60 fits 5000,
  search (marked_send, sendable, crosses) depth 60 fits 5000,
  search (chassis_send, mark_send, sendable, crosses) depth 60 fits 5000,
)
