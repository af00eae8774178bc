use Rattle.std.proofs.Common.{arith}
use Rattle.std.proofs.lemmas.Grind.{common_steps}
use Rattle.laws.specs.Tests.{◌and◌}
use Rattle.sheet_reader.specs.Reading.{edge_fits}
use Rattle.sheet_reader.proofs.edge_fits.Goals as goal

pub returns-then-e-edges : goal.returns-then-e-edges
unfolding edge_fits ◌and◌
returns-then-e-edges c = grind (arith, common_steps)

pub returns-else-e-edges : goal.returns-else-e-edges
unfolding edge_fits ◌and◌
returns-else-e-edges c = grind (arith, common_steps)
