-- What the function that copies out the dangerous edges leaves.
use Rattle.std.specs.Prelude.{◌≡◌, List, ℕ, ◌≤◌, ◌<◌, drop, length}
use Rattle.laws.specs.Tests.{has}
use Rattle.laws.specs.Bits.{bit_in}
use Rattle.rules.specs.Graph.{Program}
use Rattle.rules.specs.Closing.{dangers}
use Rattle.pairset.specs.Store.{danger_in}

-- Of the edges below n the set, words of 64 bits, lowest bit first, has just those of the list.
abbrev pub SetOf : ℕ → List ℕ → List ℕ → Type 0
SetOf n l set = (e : ℕ) → e < n → bit_in set e ≡ has l e

-- The set, 16 words of 64 bits, lowest bit first, has just the dangerous edges.
pub record DangerSet (old new : Program) (set : List ℕ) : Type 0 where
  pub bits : SetOf 1024 (dangers old new) set

-- `copy_dangers`: where the table holds the dangerous edges, the first 16 words are the set, and else they are left open; what stands behind them stays.
unfoldable pub Copies : List ℕ → List ℕ → List ℕ → Type 0
Copies w set set' = (old new : Program) → ((e : ℕ) → danger_in w e ≡ has (dangers old new) e) → 16 ≤ length set → DangerSet old new set'

pub record DangersCopied (w set set' : List ℕ) : Type 0 where
  pub copies : Copies w set set'
  pub rest : drop 16 set' ≡ drop 16 set
  pub size : length set' ≡ length set
