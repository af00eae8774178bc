use mathlib.Core.Path.{◌∙◌, sym}
use Rattle.records.proofs.Laws.{jobs_same}
use Rattle.job.proofs.TestsLaws.{both_job, both_none}
use Rattle.job.proofs.both_due.Goals as goal

pub returns-then-eq : goal.returns-then-eq
returns-then-eq c =
    both_none _ _ _ _ _ _ _ _ _ _ c.part.ensures _ (sym c.in_ok-had.ensures.ok_part ∙ c.counts.ensures) _ c.part-2.ensures _ (sym c.in_ok-next.ensures.ok_part ∙ c.counts-2.ensures)
    _ c.with_old.ensures _ c.with_new.ensures _ (jobs_same _ _ _ c.eq.ensures) c.if-eq.true

pub returns-else-eq : goal.returns-else-eq
returns-else-eq c =
    both_job _ _ _ _ _ _ _ _ _ _ c.part.ensures _ (sym c.in_ok-had.ensures.ok_part ∙ c.counts.ensures) _ c.part-2.ensures _ (sym c.in_ok-next.ensures.ok_part ∙ c.counts-2.ensures)
    _ c.with_old.ensures _ c.with_new.ensures _ (jobs_same _ _ _ c.eq.ensures) c.if-eq.false
