use Rattle.majority_laws.proofs.Accounts.{sound_judged}
use Rattle.majority_laws.proofs.laws.sound_legs_judge_fairly.Goals as goal

pub returns : goal.returns
returns c m v scan can first last calm leg sound = sound_judged m v can scan first last calm leg sound
