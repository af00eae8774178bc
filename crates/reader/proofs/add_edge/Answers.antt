use borrow.Author.Rules.{rules}
use Rattle.reader.proofs.All.{all}
use Rattle.reader.proofs.add_edge.Goals as goal
use Rattle.reader.proofs.add_edge.Goals.{then-not-in_procedure-via-then-not-in_procedure, then-not-in_procedure-via-else-not-in_procedure+then-not-in_procedure-2}

pub returns-then-had-eq0 : goal.returns-then-had-eq0
returns-then-had-eq0 c = search (all, rules)

pub returns-then-had-ge1024 : goal.returns-then-had-ge1024
returns-then-had-ge1024 c = search (all, rules)

pub returns-then-not-in_procedure : goal.returns-then-not-in_procedure
returns-then-not-in_procedure c =
    elim c.then-not-in_procedure.branch [
      | then-not-in_procedure-via-then-not-in_procedure w ↦ search (all, rules)
      | then-not-in_procedure-via-else-not-in_procedure+then-not-in_procedure-2 w ↦ search (all, rules)
    ]

pub returns : goal.returns
returns c = search (all, rules)
