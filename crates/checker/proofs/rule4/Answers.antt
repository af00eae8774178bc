use borrow.Author.Rules.{rules}
use Rattle.checker.proofs.Laws.{all_edges}
use Rattle.checker.proofs.rule4.Goals as goal

pub returns : goal.returns
returns c = all_edges _ _ _ _ _ c.all_pairs.ensures _ _ _ (λ n k t q. search rules)
