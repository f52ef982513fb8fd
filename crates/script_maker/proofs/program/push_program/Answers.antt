use Rattle.std.proofs.Common.{◌≡◌, ◌++◌, List, ℕ, OnOk, sym, subst, rules, arith}
use Rattle.std.proofs.lemmas.Grind.{common_steps}
use Rattle.script_maker.proofs.Programs.{pieces}
use Rattle.script_maker.proofs.program.push_program.Goals as goal

pub returns : goal.returns
returns c = subst (λ (t : List ℕ). OnOk c.push_end.result (c.push_end.new.text.list ≡ c.args.text.now.list ++ t)) (sym pieces) (first_of (search rules, grind (arith, common_steps)))
