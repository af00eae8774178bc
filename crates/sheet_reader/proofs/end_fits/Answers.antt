use Rattle.std.proofs.Common.{arith}
use Rattle.std.proofs.lemmas.Grind.{common_steps}
use Rattle.laws.specs.Tests.{◌and◌}
use Rattle.sheet_reader.specs.Reading.{end_fits}
use Rattle.sheet_reader.proofs.end_fits.Goals as goal

pub returns-then-b-had : goal.returns-then-b-had
unfolding end_fits ◌and◌
returns-then-b-had c = grind (arith, common_steps)

pub returns-else-b-had : goal.returns-else-b-had
unfolding end_fits ◌and◌
returns-else-b-had c = grind (arith, common_steps)
