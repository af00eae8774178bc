use Rattle.std.proofs.Common.{◌≡◌, ◌-◌, ◌≤◌, [], get_or, length}
use Rattle.rules.specs.Text.{split}
use Rattle.files.proofs.field.Given as goal

abbrev pub invariant-loop-i : goal.invariant-loop-i
invariant-loop-i l = (length l.rest ≤ length l.s) × (get_or (split l.b l.s) l.k [] ≡ get_or (split l.b l.rest) (l.k - l.i) [])
