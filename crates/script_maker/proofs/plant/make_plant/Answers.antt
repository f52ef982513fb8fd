use Rattle.script_maker.proofs.Plants.{d_names, a_names, q_names, v_names, rows_whole}
use Rattle.script_maker.proofs.plant.make_plant.Goals as goal

pub add_row-requires : goal.add_row-requires
add_row-requires c = d_names

pub add_row-requires-2 : goal.add_row-requires-2
add_row-requires-2 c = a_names

pub add_row-requires-3 : goal.add_row-requires-3
add_row-requires-3 c = q_names

pub add_row-requires-4 : goal.add_row-requires-4
add_row-requires-4 c = v_names

pub returns : goal.returns
returns c = rows_whole c.new-chassis.result _ _ _ _ c.new-chassis.ensures c.in_ok-add_row.ensures c.in_ok-add_row-2.ensures c.in_ok-add_row-3.ensures c.in_ok-add_row-4.ensures
