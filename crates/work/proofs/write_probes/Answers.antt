use borrow.Author.Rules.{rules}
use Rattle.work.proofs.Laws.{probes_or_few}
use Rattle.work.proofs.write_probes.Goals as goal

pub returns : goal.returns
returns c = probes_or_few _ _ _ _ _ _ _ _ _ _ c.in_ok-select.ensures.selects (search rules) c.in_ok-select.ensures.few _ _ (search rules) c.find_probes.ensures _ _ c.write_probes.ensures
