use Rattle.majority_laws.proofs.Accounts.{stands_good}
use Rattle.majority_laws.proofs.Sound.{sound_ends, sound_is_good, sound_was_good}
use Rattle.majority_laws.proofs.laws.sound_legs_are_good.Goals as goal

pub returns : goal.returns
returns c = record {
  after = sound_is_good;
  before = sound_was_good;
  within = λ m v scan can first last calm leg sound. stands_good m v can scan first last calm leg sound;
  ends = sound_ends;
}
