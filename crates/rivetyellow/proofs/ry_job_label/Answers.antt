use Rattle.job_calls.proofs.Laws.{label_is}
use Rattle.rivetyellow.proofs.ry_job_label.Goals as goal

pub returns : goal.returns
returns c =
    label_is
    c.args.job.now c.args.old.now c.args.old_nodes.now c.args.old_links.now c.args.new.now c.args.new_nodes.now c.args.new_links.now c.args.text.now c.args.tests.now c.args.rows.now
    c.args.scratch.now c.load_both.new.out c.load_both.ensures
    c.args.side c.args.node c.unwrap_or-label.result c.pack.result c.label_on.new.w
    (rw c.unwrap_or-label.ensures c.label_on.ensures.0) c.label_on.ensures.1 c.pack.ensures
