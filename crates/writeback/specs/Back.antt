-- The program file that the tables and a text hold: for each procedure its P line, the lines of its nodes, then those of its edges.
use Rattle.std.specs.Prelude.{List, [], ◌∷◌, ◌++◌, ℕ, zero, suc, ◌+◌, ◌-◌, min, ltb, get_or}
use Rattle.laws.specs.Tests.{choose}
use Rattle.rules.specs.Text.{Bytes, text_of}
use Rattle.rules.specs.Graph.{C, E, Edge, Kind, Node, S, X}
use Rattle.rules.specs.Layout.{line_of_edge, line_of_node, line_of_proc}
use Rattle.graph.specs.Table.{edge_base, node_base, proc_base}
use Rattle.reader.specs.Result.{Count}
use Rattle.writeback.specs.Parts.{callee_in, label_in, name_in, word_in}

-- ---- lines, each with its byte 10

-- The kind of a number.
unfoldable pub kind_from : ℕ → Kind
kind_from zero = E
kind_from (suc zero) = S
kind_from (suc (suc zero)) = C
kind_from (suc (suc (suc k))) = X

-- The node m, without its procedure, which its line does not say; the edge e.
unfoldable pub node_in : Bytes → List ℕ → List ℕ → ℕ → Node
node_in t n l m = record { owner = 0; kind = kind_from (get_or n (node_base m) 0); label = label_in t n m; callee = callee_in t n l m }

unfoldable pub edge_in : Bytes → List ℕ → ℕ → Edge
edge_in t l e = record { source = get_or l (edge_base e) 0; word = word_in t l e; target = get_or l (edge_base e + 3) 0 }

unfoldable pub proc_text : Bytes → List ℕ → ℕ → Bytes
proc_text t l q = text_of (line_of_proc (name_in t l q) ∷ [])

unfoldable pub node_text : Bytes → List ℕ → List ℕ → ℕ → Bytes
node_text t n l m = text_of (line_of_node (node_in t n l m) ∷ [])

unfoldable pub edge_text : Bytes → List ℕ → ℕ → Bytes
edge_text t l e = text_of (line_of_edge (edge_in t l e) ∷ [])

-- ---- procedures

-- f a, f (a + 1) and so on, n of them, one behind the other.
unfoldable pub run_from : (ℕ → Bytes) → ℕ → ℕ → Bytes
run_from f a zero = []
run_from f a (suc n) = run_from f a n ++ f (a + n)

-- Where the procedure q begins in the nodes (k is 3) or in the edges (k is 4), of which there are `count`: what the table says, but at most the count; behind the last procedure, the
-- count.
unfoldable pub begins : List ℕ → ℕ → ℕ → ℕ → ℕ → ℕ
begins l k procs count q = choose (ltb q procs) (min (get_or l (proc_base q + k) 0) count) count

-- The nodes and the edges of the procedure q: from where it begins to where the next one begins.
unfoldable pub nodes_text : Bytes → List ℕ → List ℕ → Count → ℕ → Bytes
nodes_text t n l had q =
    let from = begins l 3 had.procs had.nodes q in
    run_from (node_text t n l) from (begins l 3 had.procs had.nodes (q + 1) - from)

unfoldable pub edges_text : Bytes → List ℕ → Count → ℕ → Bytes
edges_text t l had q =
    let from = begins l 4 had.procs had.edges q in
    run_from (edge_text t l) from (begins l 4 had.procs had.edges (q + 1) - from)

unfoldable pub procedure_text : Bytes → List ℕ → List ℕ → Count → ℕ → Bytes
procedure_text t n l had q = proc_text t l q ++ (nodes_text t n l had q ++ edges_text t l had q)

-- The whole file.
unfoldable pub back_text : Bytes → List ℕ → List ℕ → Count → Bytes
back_text t n l had = run_from (procedure_text t n l had) 0 had.procs
