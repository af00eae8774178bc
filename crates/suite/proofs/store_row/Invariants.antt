use mathlib.Core.Path.{◌≡◌}
use Rattle.suite.specs.Tables.{stored_row}
use Rattle.suite.proofs.Laws.{stored_from}
use Rattle.suite.proofs.store_row.Given as goal

abbrev pub invariant-loop-k : goal.invariant-loop-k
invariant-loop-k l = stored_row l.initial.rows l.test l.row ≡ stored_from l.rows l.test l.row l.k
