use Rattle.job.specs.Taken.{reply}
use Rattle.rivetyellow.proofs.Laws.{old_left}
use Rattle.rivetyellow.proofs.ry_job_read_old.Goals as goal

pub returns : goal.returns
returns c =
    old_left
    c.args.job.now c.args.old.now c.args.nodes.now c.store_taken.new.nodes c.args.links.now c.take_old-taken.new.lent
    c.args.scratch.now c.take_old-taken.new.scratch c.store_taken.new.scratch (reply c.args.job.now c.take_old-taken.result) c.store_taken.result
    c.take_old-taken.ensures c.store_taken.ensures.nodes_after c.store_taken.ensures.scratch_after c.take_old-taken.auto.scratch c.store_taken.ensures.value
    c.store_taken.new.job c.store_taken.ensures.job_after
