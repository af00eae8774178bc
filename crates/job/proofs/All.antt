-- The returns of every function on values, as one set.
use Rattle.job.proofs.Laws.{all as old_all}
use Rattle.job.proofs.NewLaws.{new_all}
use Rattle.job.proofs.TestsLaws.{tests_all}

pub ruleset all = (old_all, new_all, tests_all)
