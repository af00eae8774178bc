use Rattle.after.proofs.Search.{visit_done}
use Rattle.after.proofs.Worklist.visit.Goals as goal

pub returns-clause-visited : goal.returns-clause-visited
returns-clause-visited c = visit_done _ _ _ _ _ _ _ _ _ _ _ _ c.target.ensures c.go_on.ensures.on c.go_on.ensures.kept.1 c.clear_bit.ensures
