use Rattle.reader.proofs.+callees_in.Given as goal

abbrev pub decreases-callees_in : goal.decreases-callees_in
decreases-callees_in l = l.most
