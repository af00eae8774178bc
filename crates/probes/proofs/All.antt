-- The turns and the returns of every function, as one set.
use Rattle.probes.proofs.Starts.{starts}
use Rattle.probes.proofs.Sets.{found}

pub ruleset all = (starts, found)
