use Rattle.std.proofs.Common.{length}
use Rattle.text.specs.Scans.{class_byte}
use Rattle.text.proofs.Laws.{Left}
use Rattle.text.proofs.all_in.Given as goal

abbrev pub invariant-loop-block : goal.invariant-loop-block
invariant-loop-block l = Left (class_byte l.class) l.s l.rest

abbrev pub decreases-loop-block : goal.decreases-loop-block
decreases-loop-block l = length l.rest
