-- The turns and the returns of every function, as one set.
use Rattle.selection.proofs.Dangers.{walks, fittings, dangers}
use Rattle.selection.proofs.Counterparts.{counterparts}
use Rattle.selection.proofs.Marks.{raises, carries, opens, marks}

pub ruleset all = (walks, fittings, dangers, counterparts, raises, carries, opens, marks)
