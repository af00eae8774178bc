use borrow.Author.Rules.{rules}
use Rattle.after.proofs.Search.{on_exit}
use Rattle.after.proofs.Worklist.go_on.Goals as goal

pub returns-then-is_exit-clause-on : goal.returns-then-is_exit-clause-on
returns-then-is_exit-clause-on c = search (on_exit, rules)
