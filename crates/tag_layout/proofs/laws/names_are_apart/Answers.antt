use Rattle.tag_layout.proofs.Apart.{apart_of}
use Rattle.tag_layout.proofs.laws.names_are_apart.Goals as goal

pub returns : goal.returns
returns c = apart_of
