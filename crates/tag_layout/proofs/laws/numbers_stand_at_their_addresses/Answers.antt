use Rattle.tag_layout.proofs.Standing.{stands}
use Rattle.tag_layout.proofs.laws.numbers_stand_at_their_addresses.Goals as goal

pub returns : goal.returns
returns c = stands
