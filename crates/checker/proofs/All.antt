-- The turns and the returns of every function, as one set.
use Rattle.checker.proofs.Laws.{rule1_is, listings, kept, walks, edges, tests}
use Rattle.checker.proofs.Checks.{judges, checks}

pub ruleset all = (rule1_is, listings, kept, walks, edges, tests, judges, checks)
