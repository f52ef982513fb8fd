use Rattle.std.proofs.Common.{ℤ, FitsSigned, w64, rules, refl, subst}
use Rattle.std.proofs.lemmas.Int.{to_z-of_z}
use Rattle.scan_machine.specs.Machine.{Memory, Ran, Runs}
use Rattle.st_build.proofs.scanning.run_counted.Goals as goal

pub returns-clause-ran : goal.returns-clause-ran
returns-clause-ran g c =
    let r = c.run.ensures.ran in
    let fits : FitsSigned w64 c.args.dt = search rules in
    let before : Memory = record { words = c.args.words.now.list; stores = c.args.touched.now.pairs } in
    let ran : Ran = record { memory = record { words = c.run.new.words.list; stores = c.run.new.touched.pairs }; flag = c.run.result; count = r.0 } in
    (ran, subst (λ (dt : ℤ). Runs c.args.code.now.list dt before ran) (to_z-of_z w64 c.args.dt fits) r.1, refl, refl)
