use Rattle.rivetyellow.proofs.Laws.{old_packs}
use Rattle.rivetyellow.proofs.ry_read_old.Goals as goal

pub returns : goal.returns
returns c = old_packs _ _ _ _ _ c.read_into.ensures c.read_answer.ensures c.pack_answer.ensures
