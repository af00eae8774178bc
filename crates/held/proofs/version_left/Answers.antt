use native.Mathlib.Omega.{arith}
use Rattle.held.proofs.Laws.{version_is}
use Rattle.held.proofs.version_left.Goals as goal

pub returns : goal.returns
returns c = version_is _ _ _ _ _ _ _ _ (omega arith) (omega arith) c.text.ensures c.nodes.ensures c.links-links.ensures c.tables_left.ensures
