use Rattle.std.proofs.Common.{sym, subst}
use Rattle.script_text.specs.IsScript.{IsBlock}
use Rattle.script_writer.proofs.script.push_head.Goals as goal

pub push_block-requires : goal.push_block-requires
push_block-requires c = subst IsBlock (sym c.text.ensures.value) c.text.ensures.block
