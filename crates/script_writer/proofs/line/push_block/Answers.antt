use Rattle.std.proofs.Common.{◌≡◌, ◌++◌, List, ℕ, OnOk, sym, subst, rules, arith}
use Rattle.std.proofs.lemmas.Grind.{common_steps}
use Rattle.script_writer.proofs.Pieces.{block_text}
use Rattle.script_writer.proofs.line.push_block.Goals as goal

pub returns : goal.returns
returns c = subst (λ (t : List ℕ). OnOk c.push_bytes-2.result (c.push_bytes-2.new.text.list ≡ c.args.text.now.list ++ t)) (sym (block_text c.args.block.now.list c.requires)) (first_of (search rules, grind (arith, common_steps)))
