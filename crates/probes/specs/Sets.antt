-- What the two sets hold that are found: the new edges that need a probe, and the old edges after a danger.
use Rattle.std.specs.Prelude.{◌≡◌, Bool, true, false, List, ℕ, ◌≤◌, length}
use Rattle.laws.specs.Bits.{bit_in}
use Rattle.rules.specs.Text.{Bytes}
use Rattle.rules.specs.Graph.{edge_count, node_count}
use Rattle.rules.specs.Closing.{after_dangers, probes}
use Rattle.rules.specs.ProgramFile.{Listing}
use Rattle.versions.specs.Memory.{InMemory, memory}
use Rattle.selection.specs.Compared.{Compared}
use Rattle.selection.specs.Dangers.{DangerSet, SetOf}

-- `find_probes`
unfoldable pub FindsProbes : List ℕ → List ℕ → List ℕ → List ℕ → List ℕ → List ℕ → ℕ → ℕ → List ℕ → List ℕ → Type 0
FindsProbes on ol nn nl w dangers edges nodes set set' =
    (o p : Listing) (c : ℕ) → Compared on ol nn nl w c o p → DangerSet o.program p.program dangers → edges ≡ edge_count o.program → nodes ≡ node_count p.program
    → 16 ≤ length set → ((e : ℕ) → bit_in set e ≡ false) → SetOf (edge_count p.program) (probes o.program p.program) set'

pub record ProbesFound (on ol nn nl w dangers : List ℕ) (edges nodes : ℕ) (set set' : List ℕ) : Type 0 where
  pub finds : FindsProbes on ol nn nl w dangers edges nodes set set'
  pub size : length set' ≡ length set

-- `find_after`
unfoldable pub FindsAfter : List ℕ → List ℕ → List ℕ → ℕ → List ℕ → List ℕ → Type 0
FindsAfter on ol dangers nodes set set' =
    (t : Bytes) (o p : Listing) → InMemory (memory t on ol) o → DangerSet o.program p.program dangers → nodes ≡ node_count o.program → length dangers ≡ 16 → 16 ≤ length set
    → SetOf (edge_count o.program) (after_dangers o.program p.program) set'

pub record AfterFound (on ol dangers : List ℕ) (nodes : ℕ) (set set' : List ℕ) : Type 0 where
  pub finds : FindsAfter on ol dangers nodes set set'
  pub size : length set' ≡ length set

-- `find_open`: both, where the test is repeated.
pub record OpenFound (again : Bool) (P A : Type 0) : Type 0 where
  pub probed : again ≡ true → P
  pub after : again ≡ true → A
