-- The lines that change a leg's state, as code has them and as the leg sees them.
use Rattle.script_text.specs.declared.act.Act.{Act}
use Rattle.script_text.specs.declared.act.Act.TheVariants.{Poke as PokeAct, Replace as ReplaceAct, Swap as SwapAct}
use Rattle.script_text.specs.LegScans.{LegAct, Poke, Replace, Swap}

-- The room of a text does not count.
abbrev pub act_of : Act → LegAct
act_of (PokeAct address value) = Poke address value
act_of ReplaceAct = Replace
act_of (SwapAct text) = Swap text.list
