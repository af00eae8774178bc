use borrow.Author.Rules.{rules}
use Rattle.reader.proofs.All.{all}
use Rattle.reader.proofs.add_node.Goals as goal
use Rattle.reader.proofs.add_node.Goals.{then-had-eq0-via-then-had-eq0, then-had-eq0-via-else-had-eq0+then-of_current-had}

pub returns-then-had-eq0 : goal.returns-then-had-eq0
returns-then-had-eq0 c =
    elim c.then-had-eq0.branch [ then-had-eq0-via-then-had-eq0 w ↦ search (all, rules) | then-had-eq0-via-else-had-eq0+then-of_current-had w ↦ search (all, rules) ]

pub returns-then-had-ge512 : goal.returns-then-had-ge512
returns-then-had-ge512 c = search (all, rules)

pub returns : goal.returns
returns c = search (all, rules)
