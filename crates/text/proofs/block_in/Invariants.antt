use Rattle.std.proofs.Common.{◌≡◌, drop}
use Rattle.laws.specs.Tests.{◌and◌}
use Rattle.rules.specs.Text.{all_bytes}
use Rattle.text.specs.Scans.{class_byte}
use Rattle.text.proofs.block_in.Given as goal

abbrev pub invariant-loop-x : goal.invariant-loop-x
invariant-loop-x l = all_bytes (class_byte l.class) l.block ≡ (l.all and all_bytes (class_byte l.class) (drop l.x-index l.block))
