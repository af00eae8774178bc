use Rattle.rivetyellow.proofs.Laws.{tests_packs}
use Rattle.rivetyellow.proofs.ry_read_tests.Goals as goal

pub returns : goal.returns
returns c = tests_packs _ _ _ _ _ _ _ _ _ _ c.read_job-had.ensures c.read_answer.ensures c.pack_answer.ensures
