use Rattle.std.proofs.Common.{arith}
use Rattle.std.proofs.lemmas.Grind.{common_steps}
use Rattle.laws.specs.Tests.{◌and◌}
use Rattle.sheet_reader.specs.Reading.{pair_fits}
use Rattle.sheet_reader.proofs.pair_fits.Goals as goal

pub returns-then-b-bounds : goal.returns-then-b-bounds
unfolding pair_fits ◌and◌
returns-then-b-bounds c = grind (arith, common_steps)

pub returns-else-b-bounds : goal.returns-else-b-bounds
unfolding pair_fits ◌and◌
returns-else-b-bounds c = grind (arith, common_steps)
