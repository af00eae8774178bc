-- What reading a program file leaves in lent tables.
use Rattle.std.specs.Prelude.{◌≡◌, Bool, List, ℕ, ◌*◌, take, drop, Option, Some, None}
use Rattle.std.proofs.lemmas.List.Edits.{sets}
use Rattle.laws.specs.Tests.{◌and◌, choose}
use Rattle.rules.specs.Text.{Bytes, same, Reading, refused, accepted}
use Rattle.rules.specs.Graph.{proc_count, node_count, edge_count}
use Rattle.rules.specs.ProgramFile.{Listing, read_listing}
use Rattle.graph.specs.Table.{nodes_after, links_after}
use Rattle.reader.specs.declared.Counts.{Counts}
use Rattle.reader.specs.Result.{Count, counts_of, links_of}

-- The rows of a work table, copied.
unfoldable pub copied_nodes : List ℕ → ℕ → List ℕ → List ℕ
copied_nodes w n t = sets t 0 (take (4 * n) (drop 0 w))

unfoldable pub copied_links : List ℕ → Count → List ℕ → List ℕ
copied_links w c t =
    sets (sets (sets t 0 (take (7 * c.procs) (drop 0 (links_of w)))) 448 (take (5 * c.edges) (drop 448 (links_of w)))) 5568 (take c.nodes (drop 5568 (links_of w)))

-- The counts of what was read.
pub record Counted (c : Count) (s : Listing) : Type 0 where
  pub procs_n : c.procs ≡ proc_count s.program
  pub nodes_n : c.nodes ≡ node_count s.program
  pub edges_n : c.edges ≡ edge_count s.program

-- The tables n and l are what reading the text leaves: storing it would change nothing.
unfoldable pub is_left : Listing → List ℕ → List ℕ → Bool
is_left s n l = same (nodes_after s n) n and same (links_after s l) l

-- The number that says so: 14 where they are not, and where the text is refused.
unfoldable pub left_number : Reading Listing → List ℕ → List ℕ → ℕ
left_number (refused k p) n l = 14
left_number (accepted s) n l = choose (is_left s n l) 0 14

-- What `tables_left` answers, as one record: 14 for none.
abbrev pub left_count : Option Counts → Count
left_count None = record { number = 14; place = 0; procs = 0; nodes = 0; edges = 0 }
left_count (Some c) = counts_of c

-- `tables_left`. What the work table holds afterwards is left open, and so are the counts beside 14.
pub record TablesLeft (text : Bytes) (n l : List ℕ) (r : Count) : Type 0 where
  pub number_is : r.number ≡ left_number (read_listing text) n l
  pub place_is : r.place ≡ 0
  pub counted : (s : Listing) → read_listing text ≡ accepted s → r.number ≡ 0 → Counted r s
