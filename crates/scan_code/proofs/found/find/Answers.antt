use Rattle.scan_code.proofs.Lookups.{found_some, found_none}
use Rattle.scan_code.proofs.found.find.Goals as goal

pub returns-in-Some-clause-found : goal.returns-in-Some-clause-found
returns-in-Some-clause-found c = found_some c.args.layout.now c.args.name c.in-Some.tag c.in-Some.ensures.value

pub returns-in-None-clause-found : goal.returns-in-None-clause-found
returns-in-None-clause-found c = found_none c.args.layout.now c.args.name c.words.result c.in-None.ensures.value c.words.ensures.value
