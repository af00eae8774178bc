use borrow.Author.Rules.{rules}
use Rattle.writeback.proofs.All.{all}
use Rattle.writeback.proofs.put_proc.Goals as goal

pub returns : goal.returns
returns c = search (all, rules)
