-- A program in memory: its text, `nodes` with four numbers a node, and `links` with its procedures, its edges and the head of each node's chain of edges.
use Rattle.std.specs.Prelude.{◌≡◌, List, [], ◌∷◌, ◌++◌, ℕ, ◌+◌, ◌*◌, ◌<◌, ltb, length, get_or, drop}
use Rattle.std.proofs.lemmas.List.Edits.{sets}
use Rattle.laws.specs.Digits.{number}
use Rattle.laws.specs.Tests.{count, first, found}
use Rattle.laws.specs.Tables.{rows}
use Rattle.laws.specs.Chain.{latest}
use Rattle.rules.specs.Text.{Bytes, names_in, same}
use Rattle.rules.specs.Graph.{Program, name_at, owner_at, kind_at, label_at, callee_at, source_at, word_at, target_at, proc_count, node_count, edge_count, kind_number, entry, exit}
use Rattle.rules.specs.ProgramFile.{Listing}
use Rattle.graph.specs.Keys.{word_key}

-- ---- the layout: where rows begin

-- The node n in `nodes`; the procedure q, the edge e and the head of the node n's chain in `links`.
abbrev pub node_base : ℕ → ℕ
node_base n = 4 * n

abbrev pub proc_base : ℕ → ℕ
proc_base q = 7 * q

abbrev pub edge_base : ℕ → ℕ
edge_base e = 448 + 5 * e

abbrev pub head_base : ℕ → ℕ
head_base n = 5568 + n

-- ---- what the rows hold

-- How many nodes, and how many edges, stand before the procedure q.
unfoldable pub first_node : Program → ℕ → ℕ
first_node p q = count (node_count p) (λ n. ltb (owner_at p n) q)

unfoldable pub first_edge : Program → ℕ → ℕ
first_edge p q = count (edge_count p) (λ e. ltb (owner_at p (source_at p e)) q)

-- The callees of a node as one number, by their names from the name i on: a digit to the base 256 each, the first callee's the lowest. The digit is 1 + the procedure of that name, or 0
-- where there is none, as for the callee field of a node that calls nothing.
unfoldable pub proc_digit : Program → Bytes → ℕ
proc_digit p name = found (first (proc_count p) (λ q. same (name_at p q) name))

unfoldable pub callees_from : Program → ℕ → ℕ → ℕ
callees_from p n i = number 256 (proc_digit p) (drop i (names_in (callee_at p n)))

-- A node: its kind, where its label stands and how long it is, and the procedures that it calls.
abbrev pub node_row : Listing → ℕ → List ℕ
node_row s n = kind_number (kind_at s.program n) ∷ get_or s.places.label_starts n 0 ∷ length (label_at s.program n) ∷ callees_from s.program n 0 ∷ []

-- A procedure: where its name stands and how long it is, its P line, its first node and its first edge; its entry and its exit.
abbrev pub proc_head : Listing → ℕ → List ℕ
proc_head s q =
    get_or s.places.name_starts q 0 ∷ length (name_at s.program q) ∷ get_or s.places.proc_lines q 0 ∷ first_node s.program q ∷ first_edge s.program q ∷ []

abbrev pub proc_row : Listing → ℕ → List ℕ
proc_row s q = proc_head s q ++ (entry s.program q ∷ exit s.program q ∷ [])

-- An edge: the node that it leaves, where its word stands, the key of its word, the node that it ends on, and 1 + the edge before it of the same node, or 0.
abbrev pub edge_row : Listing → ℕ → List ℕ
edge_row s e =
    source_at s.program e ∷ get_or s.places.word_starts e 0 ∷ word_key (word_at s.program e) ∷ target_at s.program e
    ∷ latest (source_at s.program) (source_at s.program e) e ∷ []

-- The head of the node n's chain: 1 + its last edge, or 0.
abbrev pub head_of : Listing → ℕ → ℕ
head_of s n = latest (source_at s.program) n (edge_count s.program)

-- ---- the tables that reading leaves

-- What reading leaves in tables that held t: the rows up to the counts; entries beyond them stay.
unfoldable pub nodes_after : Listing → List ℕ → List ℕ
nodes_after s t = sets t 0 (rows (node_row s) (node_count s.program))

unfoldable pub links_after : Listing → List ℕ → List ℕ
links_after s t =
    sets (sets (sets t 0 (rows (proc_row s) (proc_count s.program))) 448 (rows (edge_row s) (edge_count s.program))) 5568
    (rows (λ n. head_of s n ∷ []) (node_count s.program))

-- ---- the tables by index: f i is what stands at i

-- The row stands at i.
abbrev pub At : (ℕ → ℕ) → ℕ → List ℕ → Type 0
At f i row = (k : ℕ) → k < length row → f (i + k) ≡ get_or row k 0
