use Rattle.std.proofs.Common.{◌≡◌, ◌++◌, List, ℕ, OnOk, sym, subst, rules, arith}
use Rattle.std.proofs.lemmas.Grind.{common_steps}
use Rattle.script_writer.proofs.Pieces.{canonical_pieces}
use Rattle.script_writer.proofs.script.push_script.Goals as goal

pub returns : goal.returns
returns c = subst (λ (t : List ℕ). OnOk c.push_tail.result (c.push_tail.new.text.list ≡ c.args.text.now.list ++ t)) (sym (canonical_pieces c.args.script.now.value)) (first_of (search rules, grind (arith, common_steps)))
