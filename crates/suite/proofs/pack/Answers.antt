use borrow.Author.Rules.{rules}
use Rattle.suite.proofs.All.{all}
use Rattle.suite.proofs.pack.Goals as goal

pub overflow_mul-eight_at : goal.overflow_mul-eight_at
overflow_mul-eight_at c = search (all, rules)

pub overflow_add-eight_at : goal.overflow_add-eight_at
overflow_add-eight_at c = search (all, rules)
