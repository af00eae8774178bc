use Rattle.lines.proofs.+names_up_to.Given as goal

abbrev pub decreases-names_up_to : goal.decreases-names_up_to
decreases-names_up_to l = l.most
