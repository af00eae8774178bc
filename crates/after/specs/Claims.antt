-- What the functions promise, whatever program the tables hold.
use Rattle.std.specs.Prelude.{◌≡◌, Bool, true, false, List, ℕ, suc, ◌+◌, ◌*◌, ◌≤◌, ◌<◌, eqb, length, take, drop}
use Rattle.std.proofs.Math.Option.{none}
use Rattle.laws.specs.Tests.{◌and◌, ◌or◌, any, has, isnt}
use Rattle.laws.specs.Bits.{bit_in}
use Rattle.laws.specs.BitSets.{without_bit}
use Rattle.rules.specs.Text.{Bytes}
use Rattle.rules.specs.Graph.{C, Program, X, callee_count, edge_count, kind_at, node_count, proc_count}
use Rattle.rules.specs.After.{edges_after, resumes_at}
use Rattle.rules.specs.ProgramFile.{Listing}
use Rattle.graph.specs.Table.{callees_from}
use Rattle.coverage.specs.Rows.{first_common}
use Rattle.versions.specs.Memory.{InMemory, memory}
use Rattle.after.specs.State.{Adds, Gone, Owners, Reaches, Sized, State, from_call, from_callee, noted, on_from, returns_to}

-- ---- the crate's promise

-- `spread`: the set of edges becomes that of the edges after them, and no bit behind the edges is set, where none was.
unfoldable pub Spreads : List ℕ → List ℕ → ℕ → List ℕ → List ℕ → Type 0
Spreads nodes links count set set' =
    (t : Bytes) (s : Listing) → InMemory (memory t nodes links) s → count ≡ node_count s.program → 16 ≤ length set
    → ((e : ℕ) → e < 1024 → edge_count s.program ≤ e → bit_in set e ≡ false)
    → (e : ℕ) → e < edge_count s.program → bit_in set' e ≡ has (edges_after s.program (bit_in set)) e

unfoldable pub Spares : List ℕ → List ℕ → ℕ → List ℕ → List ℕ → Type 0
Spares nodes links count set set' =
    (t : Bytes) (s : Listing) → InMemory (memory t nodes links) s → count ≡ node_count s.program → 16 ≤ length set
    → ((e : ℕ) → e < 1024 → edge_count s.program ≤ e → bit_in set e ≡ false)
    → (e : ℕ) → e < 1024 → edge_count s.program ≤ e → bit_in set' e ≡ false

pub record Spread (nodes links : List ℕ) (count : ℕ) (set set' : List ℕ) : Type 0 where
  pub spreads : Spreads nodes links count set set'
  pub spare : Spares nodes links count set set'
  pub size : length set' ≡ length set

-- ---- the edges that leave a node

-- `add_leaving`
unfoldable pub AddsLeaving : List ℕ → ℕ → List ℕ → List ℕ → Type 0
AddsLeaving links n set set' =
    (t nodes : List ℕ) (s : Listing) → InMemory (memory t nodes links) s → 16 ≤ length set → n < node_count s.program → Adds s.program (λ j. eqb j n) set set'

-- `goes_on_at`
unfoldable pub GoesOnAt : List ℕ → List ℕ → ℕ → ℕ → Type 0
GoesOnAt nodes links n r =
    (t : Bytes) (s : Listing) → InMemory (memory t nodes links) s → n < node_count s.program → (kind_at s.program n ≡ X → ⊥)
    → (r < node_count s.program) × ((j : ℕ) → on_from s.program n j ≡ eqb j r)

-- ---- the returns

-- A node that is a call.
pub record IsCall (p : Program) (k : ℕ) : Type 0 where
  pub below : k < node_count p
  pub kind : kind_at p k ≡ C

-- `find_owners`
unfoldable pub FindsOwners : List ℕ → List ℕ → List ℕ → Type 0
FindsOwners links owners owners' = (t nodes : List ℕ) (s : Listing) → InMemory (memory t nodes links) s → 512 ≤ length owners → Owners s.program owners'

-- The second table is the first with the nodes j noted at the procedures q that pass T, if it has room for 64 rows.
unfoldable pub Notes : Program → (ℕ → ℕ → Bool) → List ℕ → List ℕ → Type 0
Notes p T returns returns' = 512 ≤ length returns → (q j : ℕ) → q < proc_count p → j < 512 → noted returns' q j ≡ (noted returns q j or T q j)

-- `resumes_at`
unfoldable pub ResumesAt : List ℕ → ℕ → ℕ → ℕ → Type 0
ResumesAt links k rest r =
    (t nodes : List ℕ) (s : Listing) → InMemory (memory t nodes links) s → IsCall s.program k → (i : ℕ) → rest ≡ callees_from s.program k (suc i)
    → (r < node_count s.program) × (r ≡ resumes_at s.program k i)

-- `note_first`
unfoldable pub NotesFirst : List ℕ → ℕ → ℕ → List ℕ → List ℕ → Type 0
NotesFirst links k callees returns returns' =
    (t nodes : List ℕ) (s : Listing) → InMemory (memory t nodes links) s → IsCall s.program k → (i : ℕ) → callees ≡ callees_from s.program k i
    → Notes s.program (λ q j. from_callee s.program q k j i) returns returns'

-- `note_callees`
unfoldable pub NotesCallees : List ℕ → ℕ → ℕ → List ℕ → List ℕ → Type 0
NotesCallees links k callees returns returns' =
    (t nodes : List ℕ) (s : Listing) → InMemory (memory t nodes links) s → IsCall s.program k → callees ≡ callees_from s.program k 0
    → Notes s.program (λ q j. any (callee_count s.program k) (from_callee s.program q k j)) returns returns'

-- `note_call`
unfoldable pub NotesCall : List ℕ → List ℕ → ℕ → List ℕ → List ℕ → Type 0
NotesCall nodes links k returns returns' =
    (t : Bytes) (s : Listing) → InMemory (memory t nodes links) s → k < node_count s.program → Notes s.program (λ q j. from_call s.program q j k) returns returns'

-- `note_all`
unfoldable pub NotesAll : List ℕ → List ℕ → ℕ → List ℕ → List ℕ → Type 0
NotesAll nodes links count returns returns' =
    (t : Bytes) (s : Listing) → InMemory (memory t nodes links) s → count ≡ node_count s.program → Notes s.program (returns_to s.program) returns returns'

-- ---- the worklist

-- The words of the row of the procedure q in a table of returns.
abbrev pub return_row : List ℕ → ℕ → List ℕ
return_row returns q = take 8 (drop (8 * q) returns)

-- `take_return`: the edges of the node j are added, and it is noted at the procedure q no more, whatever the tables hold.
pub record Taken (links : List ℕ) (q j : ℕ) (returns set returns' set' : List ℕ) : Type 0 where
  pub adds : Sized set set' (AddsLeaving links j set set')
  pub out : returns' ≡ without_bit returns (512 * q + j)

-- `leave`: the edges of the nodes noted at q are added, and these are noted no more.
pub record Leave (p : Program) (q : ℕ) (returns set returns' set' : List ℕ) : Type 0 where
  pub adds : Adds p (noted returns q) set set'
  pub rest : (r j : ℕ) → j < 512 → noted returns' r j ≡ (isnt (eqb r q) and noted returns r j)

module _ (links returns set : List ℕ) where
  unfoldable pub Leaves : ℕ → List ℕ → List ℕ → Type 0
  Leaves q returns' set' =
      (t nodes : List ℕ) (s : Listing) → InMemory (memory t nodes links) s → 16 ≤ length set → q < proc_count s.program
      → ((j : ℕ) → j < 512 → noted returns q j ≡ true → j < node_count s.program) → Leave s.program q returns set returns' set'

module _ (nodes links owners returns set : List ℕ) where
  -- `go_on`: what follows the node n is in the set.
  unfoldable pub GoesOn : ℕ → List ℕ → List ℕ → Type 0
  GoesOn n returns' set' =
      (t left : List ℕ) (s : Listing) (first : ℕ → Bool) → InMemory (memory t nodes links) s → Owners s.program owners → State s.program first left returns set
      → n < node_count s.program → Reaches s.program first (on_from s.program n) → Gone s.program first n left returns' set'

module _ (nodes links owners left returns set : List ℕ) where
  -- `visit`: the state is kept, where e is an edge of the set; e is left no more, whatever the tables hold.
  unfoldable pub Visits : ℕ → List ℕ → List ℕ → List ℕ → Type 0
  Visits e left' returns' set' =
      (t : Bytes) (s : Listing) (first : ℕ → Bool) → InMemory (memory t nodes links) s → Owners s.program owners → State s.program first left returns set
      → e < 1024 → bit_in set e ≡ true → State s.program first left' returns' set'

  pub record Visit (e : ℕ) (left' returns' set' : List ℕ) : Type 0 where
    pub dropped : bit_in left' e ≡ false
    pub visits : Visits e left' returns' set'

  -- `run`: the state is kept, and no edge of the set is left.
  unfoldable pub Runs : List ℕ → List ℕ → List ℕ → Type 0
  Runs left' returns' set' =
      (t : Bytes) (s : Listing) (first : ℕ → Bool) → InMemory (memory t nodes links) s → Owners s.program owners → State s.program first left returns set
      → State s.program first left' returns' set'

  pub record Ends (left' returns' set' : List ℕ) : Type 0 where
    pub none_left : first_common left' set' ≡ none
    pub runs : Runs left' returns' set'
