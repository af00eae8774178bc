use borrow.Author.Rules.{rules}
use Rattle.writeback.proofs.Parts.{long_end, long_on}
use Rattle.writeback.proofs.names_long.Goals as goal

pub loop-q-preserved : goal.loop-q-preserved
loop-q-preserved c = search (long_on, c.in-Some.ensures, rules)

pub returns : goal.returns
returns c = long_end _ _ _ _ _ c.loop-q.invariant _ c.in-None.ensures.steps
