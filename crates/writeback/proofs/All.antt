-- The turns and the returns of every function, as one set.
use Rattle.writeback.proofs.Parts.{longs, numbers, parts, tests}
use Rattle.writeback.proofs.Lines.{lines, procedures}

pub ruleset all = (numbers, longs, parts, tests, lines, procedures)
