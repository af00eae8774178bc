-- The turns and the returns of every function, as one set.
use Rattle.writer.proofs.Lines.{lines}
use Rattle.writer.proofs.Sets.{edges, tests}
use Rattle.writer.proofs.Pairs.{partners, pairs}
use Rattle.writer.proofs.Sheets.{sheets, records}

pub ruleset all = (lines, partners, pairs, edges, tests, sheets, records)
