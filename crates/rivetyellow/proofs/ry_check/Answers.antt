use Rattle.rivetyellow.proofs.Laws.{check_packs}
use Rattle.rivetyellow.proofs.ry_check.Goals as goal

pub returns : goal.returns
returns c = check_packs _ _ _ _ _ _ _ _ c.whole_job.ensures c.pack_answer.ensures
