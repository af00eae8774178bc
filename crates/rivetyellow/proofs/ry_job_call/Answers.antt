use Rattle.answer.specs.Refusals.{told}
use Rattle.rules.specs.Job.{request_by}
use Rattle.job_calls.proofs.Laws.{call_is}
use Rattle.rivetyellow.proofs.ry_job_call.Goals as goal

pub returns : goal.returns
returns c =
    call_is
    c.args.job.now c.args.old.now c.args.old_nodes.now c.args.old_links.now c.args.new.now c.args.new_nodes.now c.args.new_links.now c.args.text.now c.args.tests.now c.args.rows.now
    c.args.scratch.now c.load_both.new.out c.load_both.ensures
    (request_by c.args.request c.args.a c.args.b) c.args.input.now (told c.call_on-answer.result) c.pack_answer.result c.call_on-answer.new.w c.args.out.now c.call_on-answer.new.out
    c.call_on-answer.ensures c.pack_answer.ensures
