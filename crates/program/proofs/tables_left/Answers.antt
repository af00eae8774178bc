use mathlib.Core.Path.{refl}
use borrow.Author.Rules.{rules}
use Rattle.program.proofs.Laws.{left_done}
use Rattle.program.proofs.tables_left.Goals as goal

pub returns : goal.returns
returns c = left_done _ _ _ _ _ c.in-Ok.ensures (search rules) refl _ c.same_nodes.ensures c.if-not-same_nodes.false _ c.same_links.ensures c.if-not-same_links.false
