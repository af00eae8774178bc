use Rattle.job.specs.Taken.{reply}
use Rattle.rivetyellow.proofs.Laws.{new_left}
use Rattle.rivetyellow.proofs.ry_job_read_new.Goals as goal

pub returns : goal.returns
returns c =
    new_left
    c.args.job.now c.args.old.now c.args.old_nodes.now c.args.old_links.now c.args.new.now c.args.nodes.now c.store_taken.new.nodes c.args.links.now c.take_new-taken.new.lent
    c.args.scratch.now c.load.new.out c.take_new-taken.new.scratch c.store_taken.new.scratch (reply c.args.job.now c.take_new-taken.result) c.store_taken.result
    c.load.ensures c.load.auto.out c.take_new-taken.ensures c.store_taken.ensures.nodes_after c.store_taken.ensures.scratch_after c.take_new-taken.auto.scratch c.store_taken.ensures.value
    c.store_taken.new.job c.store_taken.ensures.job_after
