use Rattle.std.specs.Prelude.{Ok, Err}
use Rattle.job.specs.Taken.{moved}
use Rattle.job.proofs.TestsLaws.{read_tests_is}
use Rattle.rivetyellow.proofs.ry_job_read_tests.Goals as goal

pub returns-in-Ok : goal.returns-in-Ok
returns-in-Ok c =
    read_tests_is
    c.args.job.now c.args.old.now c.args.old_nodes.now c.args.old_links.now c.args.new.now c.args.new_nodes.now c.args.new_links.now c.args.text.now
    c.args.tests.now c.take_tests-taken.new.tests c.args.rows.now c.take_tests-taken.new.rows
    c.args.scratch.now c.load_both.new.out c.clear.new.s (moved c.args.job.now (Ok c.in-Ok.next)) c.pack_answer.result
    c.load_both.ensures c.load_both.auto.out c.in-Ok.ensures c.clear.ensures c.pack_answer.ensures

pub returns-in-Err : goal.returns-in-Err
returns-in-Err c =
    read_tests_is
    c.args.job.now c.args.old.now c.args.old_nodes.now c.args.old_links.now c.args.new.now c.args.new_nodes.now c.args.new_links.now c.args.text.now
    c.args.tests.now c.take_tests-taken.new.tests c.args.rows.now c.take_tests-taken.new.rows
    c.args.scratch.now c.load_both.new.out c.clear.new.s (moved c.args.job.now (Err c.in-Err.refusal)) c.pack_answer-in-Err.result
    c.load_both.ensures c.load_both.auto.out c.in-Err.ensures c.clear.ensures c.pack_answer-in-Err.ensures
