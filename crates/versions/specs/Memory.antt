-- A program in memory: its text, and the two tables that reading the text leaves.
use Rattle.std.specs.Prelude.{◌≡◌, List, ℕ, ◌<◌}
use Rattle.rules.specs.Text.{accepted}
use Rattle.rules.specs.Graph.{edge_count, node_count, proc_count}
use Rattle.rules.specs.ProgramFile.{Listing, read_listing}
use Rattle.graph.specs.Table.{At, edge_base, edge_row, head_base, head_of, node_base, node_row, proc_base, proc_row}
use Rattle.graph.specs.Lookups.{in_table}

pub record Memory : Type 0 where
  pub text : List ℕ
  pub nodes : List ℕ
  pub links : List ℕ

abbrev pub memory : List ℕ → List ℕ → List ℕ → Memory
memory t n l = record { text = t; nodes = n; links = l }

-- The memory holds the listing: it is what reading the text gives, and its rows stand in the tables.
pub record InMemory (m : Memory) (s : Listing) : Type 0 where
  pub read : read_listing m.text ≡ accepted s
  pub nodes : (n : ℕ) → n < node_count s.program → At (in_table m.nodes) (node_base n) (node_row s n)
  pub procs : (q : ℕ) → q < proc_count s.program → At (in_table m.links) (proc_base q) (proc_row s q)
  pub edges : (e : ℕ) → e < edge_count s.program → At (in_table m.links) (edge_base e) (edge_row s e)
  pub heads : (n : ℕ) → n < node_count s.program → in_table m.links (head_base n) ≡ head_of s n
