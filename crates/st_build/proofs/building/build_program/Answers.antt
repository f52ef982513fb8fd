use Rattle.st_build.proofs.Refusing.{refused_meant, finished}
use Rattle.st_build.proofs.building.build_program.Goals as goal

pub returns-in-Ok : goal.returns-in-Ok
returns-in-Ok c = finished c.args.chassis.now c.args.text.now.list c.in-Ok.typed.tree c.in-Ok.ensures.0 c.finish_program.result c.finish_program.ensures

pub returns-in-Err : goal.returns-in-Err
returns-in-Err c = refused_meant c.args.chassis.now c.args.text.now.list c.in-Err.refusal c.in-Err.ensures
