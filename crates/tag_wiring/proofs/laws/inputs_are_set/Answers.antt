use Rattle.tag_wiring.proofs.SettingWords.{inputs_are}
use Rattle.tag_wiring.proofs.laws.inputs_are_set.Goals as goal

pub returns : goal.returns
returns c = inputs_are
