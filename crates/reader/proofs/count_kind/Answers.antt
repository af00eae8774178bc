use borrow.Author.Rules.{rules}
use Rattle.reader.proofs.All.{all}
use Rattle.reader.proofs.count_kind.Goals as goal

pub returns : goal.returns
returns c = search (all, rules)
