-- The state of the search for the edges after some first ones: the set of those found, the set of the edges that are left to go on from, and the table of the returns, which are left to go on by.
use Rattle.std.specs.Prelude.{◌≡◌, Bool, true, false, List, ℕ, ◌+◌, ◌*◌, ◌≤◌, ◌<◌, eqb, ltb, length, get_or}
use Rattle.laws.specs.Tests.{◌and◌, ◌or◌, any, has}
use Rattle.laws.specs.Bits.{bit_in}
use Rattle.rules.specs.Graph.{C, Program, X, callee_count, called, edge_count, kind_at, node_count, owner_at, proc_count, same_kind, source_at}
use Rattle.rules.specs.After.{edges_after, goes_on_from, leads, resumes_at}

-- The second set is the first with the edges that leave a node that passes T.
unfoldable pub Adds : Program → (ℕ → Bool) → List ℕ → List ℕ → Type 0
Adds p T set set' = (f : ℕ) → bit_in set' f ≡ (bit_in set f or (ltb f (edge_count p) and T (source_at p f)))

-- The set has the edges that leave a node that passes T; all of them are after the first.
unfoldable pub Has : Program → (ℕ → Bool) → List ℕ → Type 0
Has p T set = (f : ℕ) → f < edge_count p → T (source_at p f) ≡ true → bit_in set f ≡ true

unfoldable pub Reaches : Program → (ℕ → Bool) → (ℕ → Bool) → Type 0
Reaches p first T = (f : ℕ) → f < edge_count p → T (source_at p f) ≡ true → has (edges_after p first) f ≡ true

-- The test of the nodes whose edges a run may cross next that has come to the node n.
abbrev pub on_from : Program → ℕ → ℕ → Bool
on_from p n = goes_on_from p (kind_at p n) n

-- A node that is an exit.
pub record IsExit (p : Program) (n : ℕ) : Type 0 where
  pub below : n < node_count p
  pub kind : kind_at p n ≡ X

-- The table has the procedure of each exit.
unfoldable pub Owners : Program → List ℕ → Type 0
Owners p owners = (n : ℕ) → IsExit p n → get_or owners n 0 ≡ owner_at p n

-- The returns of the procedure q: a run that has come to its exit goes on from the node j behind the callee i of the call k; at the node k, if that is a call; at some node. For an exit of q
-- that is `on_from`.
abbrev pub from_callee : Program → ℕ → ℕ → ℕ → ℕ → Bool
from_callee p q k j i = eqb (called p k i) q and eqb j (resumes_at p k i)

abbrev pub from_call : Program → ℕ → ℕ → ℕ → Bool
from_call p q j k = same_kind (kind_at p k) C and any (callee_count p k) (from_callee p q k j)

abbrev pub returns_to : Program → ℕ → ℕ → Bool
returns_to p q j = any (node_count p) (from_call p q j)

-- A table of returns has a row of 512 bits for each procedure, in which nodes are noted.
abbrev pub noted : List ℕ → ℕ → ℕ → Bool
noted returns q j = bit_in returns (512 * q + j)

-- The set has the first edges and none but edges after them; those to which an edge leads that is left no more, and those that leave a node to which a procedure returns and that is not noted
-- there. Nothing else is noted.
pub record State (p : Program) (first : ℕ → Bool) (left returns set : List ℕ) : Type 0 where
  pub room : 16 ≤ length set
  pub begun : (e : ℕ) → e < edge_count p → first e ≡ true → bit_in set e ≡ true
  pub only : (e : ℕ) → e < 1024 → bit_in set e ≡ true → has (edges_after p first) e ≡ true
  pub edges : (e f : ℕ) → e < edge_count p → bit_in left e ≡ false → f < edge_count p → leads p e f ≡ true → bit_in set f ≡ true
  pub gone_by : (q f : ℕ) → q < proc_count p → f < edge_count p → returns_to p q (source_at p f) ≡ true → noted returns q (source_at p f) ≡ false → bit_in set f ≡ true
  pub notes : (q j : ℕ) → q < proc_count p → j < 512 → noted returns q j ≡ true → (j < node_count p) × (returns_to p q j ≡ true)

-- The same, with all that follows the node n.
pub record Gone (p : Program) (first : ℕ → Bool) (n : ℕ) (left returns set : List ℕ) : Type 0 where
  pub state : State p first left returns set
  pub follows : Has p (on_from p n) set

-- A claim, and a table as long as it was; the returns and the set; these and what is left, of which nothing is left that was not.
pub record Sized (set set' : List ℕ) (Y : Type 0) : Type 0 where
  pub size : length set' ≡ length set
  pub claim : Y

pub record BothSized (returns set returns' set' : List ℕ) (Y : Type 0) : Type 0 where
  pub returns_size : length returns' ≡ length returns
  pub size : length set' ≡ length set
  pub claim : Y

pub record Worked (left returns set left' returns' set' : List ℕ) (Y : Type 0) : Type 0 where
  pub left_size : length left' ≡ length left
  pub returns_size : length returns' ≡ length returns
  pub size : length set' ≡ length set
  pub less : (i : ℕ) → bit_in left' i ≡ true → bit_in left i ≡ true
  pub claim : Y
