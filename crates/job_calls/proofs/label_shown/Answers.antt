use Rattle.job_calls.proofs.Laws.{shown_is}
use Rattle.job_calls.proofs.label_shown.Goals as goal

pub returns : goal.returns
returns c =
    shown_is
    c.args.job.now c.args.ot.now c.args.on.now c.args.ol.now c.args.nt.now c.args.nn.now c.args.nl.now c.args.tt.now c.args.tests.now c.args.rows.now
    c.args.scratch.now c.load_both.new.out c.load_both.ensures
    c.args.side c.args.node c.unwrap_or-label.result c.shown_part.result.now c.label_on.new.w
    (rw c.unwrap_or-label.ensures c.label_on.ensures.0) c.label_on.ensures.1 c.shown_part.ensures
