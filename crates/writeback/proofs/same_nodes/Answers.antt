use borrow.Author.Rules.{rules}
use Rattle.writeback.proofs.Parts.{every_told}
use Rattle.writeback.proofs.same_nodes.Goals as goal

pub returns : goal.returns
returns c = every_told _ _ _ _ (λ i t p. search rules) c.all_below.ensures
