use borrow.Author.Rules.{rules}
use Rattle.reader.proofs.All.{all}
use Rattle.reader.proofs.new_proc.Goals as goal

pub returns-then-had-ge64 : goal.returns-then-had-ge64
returns-then-had-ge64 c = search (all, rules)

pub returns-then-is_some : goal.returns-then-is_some
returns-then-is_some c = search (all, rules)

pub returns : goal.returns
returns c = search (all, rules)
