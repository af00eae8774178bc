use borrow.Author.Rules.{rules}
use Rattle.requests.specs.Requests.{asked}
use Rattle.rivetyellow.proofs.Laws.{whole_stop, whole_goes}
use Rattle.rivetyellow.proofs.whole_job.Goals as goal

pub returns-in_err-had : goal.returns-in_err-had
returns-in_err-had c = whole_stop _ _ _ _ _ _ _ _ _ c.in_err-had.ensures (search rules) (asked c.args.request) _ _

pub returns : goal.returns
returns c =
    whole_goes c.args.old.now c.read_job.new.ow c.args.new.now c.read_job.new.nw c.args.tt.now c.read_job.new.tests c.read_job.new.rows c.in_ok-had.had c.in_ok-had.ensures
    _ _ c.links.ensures c.links-2.ensures _ _ c.new-old.ensures c.new-new.ensures _ c.new-suite.ensures (asked c.args.request) _ _ _ _ _ _ c.serve.ensures
