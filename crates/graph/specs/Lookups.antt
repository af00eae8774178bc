-- What the look-ups in the tables of a program answer. Each says: whatever program the tables hold, the answer is the definition's.
use Rattle.std.specs.Prelude.{◌≡◌, Bool, true, List, ℕ, ◌<◌, eqb, get_or}
use Rattle.laws.specs.Tests.{◌⇒◌, every, first, found}
use Rattle.rules.specs.Text.{Bytes, same, is_word}
use Rattle.rules.specs.Graph.{name_at, source_at, word_at, proc_count, node_count, edge_count, dash, edge_taken, edge_with, degree}
use Rattle.rules.specs.ProgramFile.{Listing}
use Rattle.rules.specs.Places.{Part}
use Rattle.graph.specs.Table.{edge_base, head_base, proc_base, edge_row, head_of, proc_head, At}
use Rattle.graph.specs.Keys.{word_key}

-- The numbers of a table by index.
abbrev pub in_table : List ℕ → ℕ → ℕ
in_table t i = get_or t i 0

-- The links hold the procedures: their heads stand at their rows, and their names in the text.
pub record Procs (text : Bytes) (link : ℕ → ℕ) (s : Listing) : Type 0 where
  pub heads : (q : ℕ) → q < proc_count s.program → At link (proc_base q) (proc_head s q)
  pub names : (q : ℕ) → q < proc_count s.program → Part text (get_or s.places.name_starts q 0) (name_at s.program q)

-- The links hold the edges: their rows, with words, and the heads of their chains.
pub record Edges (link : ℕ → ℕ) (s : Listing) : Type 0 where
  pub sources : (e : ℕ) → e < edge_count s.program → source_at s.program e < node_count s.program
  pub rows : (e : ℕ) → e < edge_count s.program → At link (edge_base e) (edge_row s e)
  pub heads : (n : ℕ) → n < node_count s.program → link (head_base n) ≡ head_of s n
  pub words : (e : ℕ) → e < edge_count s.program → is_word (word_at s.program e) ≡ true
  pub once : (e f : ℕ) → e < edge_count s.program → f < edge_count s.program → source_at s.program f ≡ source_at s.program e → word_at s.program f ≡ word_at s.program e → f ≡ e

-- `proc_named`: the procedure of a name, among the first c.
unfoldable pub ProcNamed : Bytes → List ℕ → ℕ → Bytes → ℕ → Type 0
ProcNamed text links c name r = (s : Listing) → Procs text (in_table links) s → c ≡ proc_count s.program → r ≡ found (first (proc_count s.program) (λ q. same (name_at s.program q) name))

-- `edge_with`: the edge of a node with a word, by its key; `edge_taken`: the edge that it takes for the word.
unfoldable pub EdgeWith : List ℕ → ℕ → ℕ → ℕ → Type 0
EdgeWith links n key r =
    (s : Listing) (word : Bytes) → Edges (in_table links) s → n < node_count s.program → is_word word ≡ true → key ≡ word_key word → r ≡ found (edge_with s.program n word)

unfoldable pub EdgeTaken : List ℕ → ℕ → ℕ → ℕ → Type 0
EdgeTaken links n key r =
    (s : Listing) (word : Bytes) → Edges (in_table links) s → n < node_count s.program → is_word word ≡ true → key ≡ word_key word → r ≡ found (edge_taken s.program n word)

-- `degree`: how many edges leave a node.
unfoldable pub Degree : List ℕ → ℕ → ℕ → Type 0
Degree links n r = (s : Listing) → Edges (in_table links) s → n < node_count s.program → r ≡ degree s.program n

-- `dashed`: every edge that leaves a node has the word `-`.
unfoldable pub Dashed : List ℕ → ℕ → Bool → Type 0
Dashed links n r =
    (s : Listing) → Edges (in_table links) s → n < node_count s.program
    → r ≡ every (edge_count s.program) (λ e. eqb (source_at s.program e) n ⇒ same (word_at s.program e) dash)
