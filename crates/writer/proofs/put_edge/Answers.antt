use borrow.Author.Rules.{rules}
use Rattle.writer.proofs.All.{all}
use Rattle.writer.proofs.put_edge.Goals as goal

pub returns : goal.returns
returns c = search (all, rules)
