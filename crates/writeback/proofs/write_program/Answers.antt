use borrow.Author.Rules.{rules}
use Rattle.writeback.proofs.All.{all}
use Rattle.writeback.proofs.write_program.Goals as goal

pub loop-q-init : goal.loop-q-init
loop-q-init c = search (all, rules)

pub loop-q-preserved : goal.loop-q-preserved
loop-q-preserved c = search (all, rules)

pub returns : goal.returns
returns c = search (all, rules)
