-- What a job that was read says of itself.
use Rattle.intake.specs.declared.Counts.{Counts}
use Rattle.work.specs.declared.Loaded.{Loaded}

-- The counts of a job that was read, as the claims take them.
abbrev pub had_in : Loaded → Counts
had_in job = record { old_nodes = job.old_nodes; old_edges = job.old_edges; new_nodes = job.new_nodes; new_edges = job.new_edges; tests = job.suite.now.count }
