use Rattle.std.proofs.Common.{◌≡◌, ◌≤◌, min, drop}
use Rattle.std.specs.Prelude.{Option, Some, None, ℕ}
use Rattle.laws.specs.Tests.{choose}
use Rattle.rules.specs.Text.{all_bytes, digit_byte, is_number, value_from}
use Rattle.text.proofs.number.Given as goal

abbrev pub invariant-loop-b : goal.invariant-loop-b
invariant-loop-b l =
    (l.v ≤ 65536)
    × (◌≡◌ {A = Option ℕ} (choose (is_number l.s) (Some (min (value_from 0 l.s) 65536)) None) (choose (all_bytes digit_byte (drop l.b-index l.s)) (Some (min (value_from l.v (drop l.b-index l.s)) 65536)) None))
