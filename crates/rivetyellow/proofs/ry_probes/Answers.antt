use Rattle.rivetyellow.proofs.Laws.{probes_packs}
use Rattle.rivetyellow.proofs.ry_probes.Goals as goal

pub returns : goal.returns
returns c = let both = probes_packs _ _ _ _ _ _ _ _ c.whole_job.ensures c.pack_answer.ensures in record { value = both.0; out_after = both.1 }
