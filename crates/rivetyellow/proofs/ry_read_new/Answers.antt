use Rattle.rivetyellow.proofs.Laws.{new_packs}
use Rattle.rivetyellow.proofs.ry_read_new.Goals as goal

pub returns : goal.returns
returns c = new_packs _ _ _ _ c.read_both.ensures c.pack_answer.ensures
