use Rattle.std.proofs.Common.{◌≡◌, ◌<◌, drop}
use Rattle.text.specs.Hash.{hash_from, hash_of}
use Rattle.text.proofs.hash.Given as goal

abbrev pub invariant-loop-x : goal.invariant-loop-x
invariant-loop-x l = (l.h < 4096) × (hash_of l.s ≡ hash_from l.h (drop l.x-index l.s))
