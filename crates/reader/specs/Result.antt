-- What the reader of program files promises: `read_into` and `degrees_of`.
use Rattle.std.specs.Prelude.{◌≡◌, List, ℕ, ◌≤◌, ◌<◌, get_or, drop, Result, Ok, Err}
use Rattle.rules.specs.Text.{Bytes, Reading, refused, accepted}
use Rattle.rules.specs.Graph.{degrees, node_count, edge_count, proc_count}
use Rattle.rules.specs.ProgramFile.{Listing, read_listing}
use Rattle.graph.specs.Table.{At, node_base, proc_base, edge_base, head_base, node_row, proc_row, edge_row, head_of}
use Rattle.graph.specs.Lookups.{in_table}
use Rattle.answer.specs.declared.Refusal.{Refusal}
use Rattle.answer.specs.Refusals.{fault_number}
use Rattle.reader.specs.declared.Counts.{Counts}
use Rattle.reader.specs.declared.Degrees.{Degrees}

-- What was read so far: a refusal by number and place, where the number is not 0, and the counts of procedures, nodes and edges.
pub record Count : Type 0 where
  pub number : ℕ
  pub place : ℕ
  pub procs : ℕ
  pub nodes : ℕ
  pub edges : ℕ

-- No refusal, and these counts.
abbrev pub counts_of : Counts → Count
counts_of c = record { number = 0; place = 0; procs = c.procs; nodes = c.nodes; edges = c.edges }

-- What `read_into` answers, as one record. The counts beside a refusal are 0.
abbrev pub seen : Result Counts Refusal → Count
seen (Ok c) = counts_of c
seen (Err e) = record { number = fault_number e.fault; place = e.place; procs = 0; nodes = 0; edges = 0 }

-- The links of a work table.
abbrev pub links_of : List ℕ → List ℕ
links_of w = drop 2048 w

-- The counts are within their limits.
pub record Small (c : Count) : Type 0 where
  pub few_procs : c.procs ≤ 64
  pub few_nodes : c.nodes ≤ 512
  pub few_edges : c.edges ≤ 1024

-- The work table holds all that reading leaves.
pub record InTable (w : List ℕ) (c : Count) (s : Listing) : Type 0 where
  pub procs_n : c.procs ≡ proc_count s.program
  pub nodes_n : c.nodes ≡ node_count s.program
  pub edges_n : c.edges ≡ edge_count s.program
  pub nodes : (n : ℕ) → n < node_count s.program → At (in_table w) (node_base n) (node_row s n)
  pub procs : (q : ℕ) → q < proc_count s.program → At (in_table (links_of w)) (proc_base q) (proc_row s q)
  pub edges : (e : ℕ) → e < edge_count s.program → At (in_table (links_of w)) (edge_base e) (edge_row s e)
  pub heads : (n : ℕ) → n < node_count s.program → in_table (links_of w) (head_base n) ≡ head_of s n

-- `read_into`: the answer is the definition's, and the work table holds what was read. After a refusal nothing is said of the work table.
abbrev pub Told : Reading Listing → Count → List ℕ → Type 0
Told (refused k p) r w = (r.number ≡ k) × (r.place ≡ p) × (0 < k)
Told (accepted s) r w = (r.number ≡ 0) × (r.place ≡ 0) × InTable w r s

pub record ReadInto (text : Bytes) (r : Count) (w : List ℕ) : Type 0 where
  pub told : Told (read_listing text) r w
  pub small : Small r

-- `degrees_of`: the bounds of a kind, by the constant table.
pub record DegreesOf (kind : ℕ) (r : Degrees) : Type 0 where
  pub fewest_is : r.fewest ≡ (get_or degrees kind (0, 0)).0
  pub most_is : r.most ≡ (get_or degrees kind (0, 0)).1
