-- The turns and the returns of every function, as one set.
use Rattle.suite.proofs.Laws.{packs, rows}
use Rattle.suite.proofs.Digits.{digits}
use Rattle.suite.proofs.Forms.{lines, names, mets, fines}
use Rattle.suite.proofs.Stores.{adds, steps}
use Rattle.suite.proofs.Turns.{turns, texts}

pub ruleset all = (packs, digits, rows, lines, names, mets, fines, adds, steps, turns, texts)
