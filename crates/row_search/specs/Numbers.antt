-- The number that the exported search returns.
use Rattle.std.specs.Prelude.{◌≡◌, ◌↔◌, List, ℕ, ◌<◌}
use Rattle.std.proofs.Common.{ap, arith}
use Rattle.std.proofs.Math.Option.{Option, none, some}
use Rattle.laws.specs.Tests.{◌and◌}
use Rattle.laws.specs.TestLaws.{first_at}
use Rattle.laws.specs.Bits.{bit_in}
use Rattle.coverage.specs.Rows.{first_common}

-- An edge by its number; none is 1,024, which is the number of no edge.
unfoldable pub edge_number : Option ℕ → ℕ
edge_number none = 1024
edge_number (some e) = e

-- So it tells what is found: an edge exactly if it is that edge, below 1,024.
pub number_is : (row set : List ℕ) (e : ℕ) → (first_common row set ≡ some e) ↔ ((edge_number (first_common row set) ≡ e) × (e < 1024))
unfolding first_common edge_number
number_is row set e = (λ q. (ap edge_number q, (first_at (λ i. bit_in row i and bit_in set i) 1024 e q).0), λ w. go (first_common row set) w.0 w.1)
  where
    go : (o : Option ℕ) → edge_number o ≡ e → e < 1024 → o ≡ some e
    go none p l = absurd (omega (arith, p))
    go (some x) p l = ap some p
