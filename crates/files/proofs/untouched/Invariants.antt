use Rattle.std.proofs.Common.{◌≡◌, drop}
use Rattle.rules.specs.Text.{all_bytes}
use Rattle.files.specs.Marks.{is_mark}
use Rattle.files.proofs.untouched.Given as goal

abbrev pub invariant-loop-x : goal.invariant-loop-x
invariant-loop-x l = all_bytes is_mark (drop l.from l.out) ≡ all_bytes is_mark (drop l.x-index (drop l.from l.out))
