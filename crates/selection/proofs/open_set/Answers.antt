use Rattle.selection.proofs.Marks.{set_start}
use Rattle.selection.proofs.open_set.Goals as goal

pub loop-f-init : goal.loop-f-init
loop-f-init c = set_start _ _
