use mathlib.Core.Path.{◌≡◌}
use lib.ListN.{length}
use Rattle.reader.specs.Reading.{ResolvedTo}
use Rattle.reader.proofs.resolve.Given as goal

abbrev pub invariant-loop-n : goal.invariant-loop-n
invariant-loop-n l = (length l.work ≡ length l.initial.work) × ResolvedTo l.text l.initial.work l.procs l.nodes l.n l.work
