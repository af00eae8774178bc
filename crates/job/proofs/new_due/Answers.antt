use borrow.Author.Rules.{rules}
use Rattle.records.proofs.Laws.{jobs_same}
use Rattle.job.proofs.NewLaws.{new_job_lem, new_none}
use Rattle.job.proofs.new_due.Goals as goal

pub returns-in-Some : goal.returns-in-Some
returns-in-Some c =
    new_none _ _ _ _ _ _ _ _ c.if-job-ne1.false _ c.long_enough.ensures (search rules) _ c.part.ensures _ c.in-Some.ensures _ c.with_old.ensures _ (jobs_same _ _ _ c.eq.ensures) c.if-eq.true

pub returns-in_default : goal.returns-in_default
returns-in_default c =
    new_job_lem _ _ _ _ _ _ _ _ c.if-job-ne1.false _ c.long_enough.ensures (search rules) _ c.part.ensures _ c.in-Some.ensures _ c.with_old.ensures _ (jobs_same _ _ _ c.eq.ensures) c.if-eq.false
