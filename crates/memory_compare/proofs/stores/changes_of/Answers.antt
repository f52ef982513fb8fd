use Rattle.memory_compare.proofs.Below.{few_changes}
use Rattle.memory_compare.proofs.stores.changes_of.Goals as goal

pub returns-clause-few : goal.returns-clause-few
returns-clause-few c = few_changes c.args.touched.now.pairs c.args.words.now.list
