-- Groups of the nodes of one program, by which alike nodes are told without their labels: a table that has, for a node, 1 + a node that is alike to it, or 0. Nodes
-- with one number are alike to the same nodes. Which nodes have one number is left open: nodes with two numbers may be alike too.
use Rattle.std.specs.Prelude.{◌≡◌, Bool, true, List, ℕ, ◌-◌, ◌<◌, length, get_or, replicate}
use Rattle.std.proofs.Common.{arith}
use Rattle.laws.specs.Tests.{listed}
use Rattle.laws.specs.BitSets.{clear_word}
use Rattle.rules.specs.Graph.{Program, node_count}
use Rattle.rules.specs.Closing.{alike}
use Rattle.rules.specs.ProgramFile.{Listing}
use Rattle.pairset.specs.Store.{Store, pairs_in}
use Rattle.versions.specs.Memory.{InMemory, Memory}

-- The number r is 1 + a node that is alike to the node x.
abbrev pub OfGroup : Program → ℕ → ℕ → Type 0
OfGroup p r x = alike p p (r - 1) x ≡ true

-- The table has groups of the program.
unfoldable pub Grouped : Program → List ℕ → Type 0
Grouped p g = (x : ℕ) → x < node_count p → 0 < get_or g x 0 → OfGroup p (get_or g x 0) x

-- A table of zeros has.
pub grouped_none : (p : Program) (n : ℕ) → Grouped p (replicate n 0)
unfolding Grouped
grouped_none p n x l h = absurd (let z : ⊥ = omega (arith, clear_word n x) in z)

-- A memory holds the listing, and the table has groups of its program.
pub record InGroups (m : Memory) (g : List ℕ) (s : Listing) : Type 0 where
  pub memory : InMemory m s
  pub groups : Grouped s.program g

-- `group_node`, `group`: a table that has groups has groups afterwards, and is as long as it was.
unfoldable pub Groups : Memory → List ℕ → List ℕ → Type 0
Groups v g g' = (s : Listing) → InMemory v s → Grouped s.program g → Grouped s.program g'

pub record Regrouped (v : Memory) (g g' : List ℕ) : Type 0 where
  pub size : length g' ≡ length g
  pub groups : Groups v g g'

-- `known_alike`: if it is told, the old node a and the new node b are alike, where the pairs of the table are.
unfoldable pub Known : List ℕ → List ℕ → ℕ → ℕ → Bool → Type 0
Known w g a b t =
    (old new : Program) (c : ℕ) → Store w c → Grouped new g → ((x y : ℕ) → listed (pairs_in w c) x y ≡ true → (alike old new x y ≡ true) × (y < node_count new))
    → b < node_count new → t ≡ true → alike old new a b ≡ true
