use borrow.Author.Rules.{rules}
use Rattle.checker.proofs.Laws.{all_alike}
use Rattle.checker.proofs.rule2.Goals as goal

pub returns : goal.returns
returns c = all_alike _ _ _ _ _ c.all_pairs.ensures _ _ (λ n k t q. search rules)
