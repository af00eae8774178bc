-- The turns and the returns of every function, as one set.
use Rattle.sheet_reader.proofs.Leaves.{names, ways, fields}
use Rattle.sheet_reader.proofs.Steps.{opens, pairs, edges, tests, ends}
use Rattle.sheet_reader.proofs.Turns.{steps, finishes, turns, texts}

pub ruleset all = (names, ways, fields, opens, pairs, edges, tests, ends, steps, finishes, turns, texts)
