-- The job and the tables after the whole chain of calls that read.
use Rattle.std.specs.Prelude.{ℕ}
use Rattle.rules.specs.Text.{Bytes}
use Rattle.lent_job.specs.Held.{lent}
use Rattle.lent_job.specs.Progress.{Chain}
use Rattle.lent_job.specs.Calls.{LentJob, lent_job}

-- The job and the tables that the three calls left, with so many numbers of scratch.
abbrev pub left_job : (old new tests : Bytes) → Chain old new tests → ℕ → LentJob
left_job old new tests c n =
    lent_job c.third.job (lent old c.first.nodes c.first.links) (lent new c.second.nodes c.second.links) tests c.third.names c.third.rows n
