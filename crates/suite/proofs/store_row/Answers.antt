use borrow.Author.Rules.{rules}
use Rattle.suite.proofs.All.{all}
use Rattle.suite.proofs.store_row.Goals as goal

pub pack-w-requires : goal.pack-w-requires
pack-w-requires c = search (all, rules)
