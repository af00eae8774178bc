use borrow.Author.Rules.{rules}
use Rattle.checker.proofs.Laws.{all_entered}
use Rattle.checker.proofs.rule3.Goals as goal

pub returns : goal.returns
returns c = all_entered _ _ _ _ _ c.all_pairs.ensures _ _ (λ n k t q. search rules)
