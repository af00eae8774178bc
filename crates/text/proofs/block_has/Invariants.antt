use Rattle.std.proofs.Common.{◌≡◌, drop}
use Rattle.laws.specs.Tests.{◌or◌, has}
use Rattle.text.proofs.block_has.Given as goal

abbrev pub invariant-loop-x : goal.invariant-loop-x
invariant-loop-x l = has l.block l.b ≡ (l.hit or has (drop l.x-index l.block) l.b)
