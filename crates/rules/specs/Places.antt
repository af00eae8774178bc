-- What reading leaves of places: the offsets and line numbers lead to the parts of the text. The tables hold these places.
use Rattle.std.specs.Prelude.{◌≡◌, List, [], ◌∷◌, ◌++◌, ℕ, ◌-◌, ◌≤◌, ◌<◌, length, get_or}
use Rattle.rules.specs.Text.{Bytes, lines_of}
use Rattle.rules.specs.Graph.{Edge, Node, no_edge, no_node}
use Rattle.rules.specs.ProgramFile.{Listing}
use Rattle.rules.specs.SuiteFile.{TestListing}
use Rattle.rules.specs.Layout.{line_of_node, line_of_proc}

-- The bytes w stand in the text at the offset i.
pub record Part (text : Bytes) (i : ℕ) (w : Bytes) : Type 0 where
  pub front : Bytes
  pub back : Bytes
  pub text_is : text ≡ front ++ (w ++ back)
  pub offset : length front ≡ i

-- Offsets in a text that lead to the bytes of the values.
pub record Starts {A : Type 0} (text : Bytes) (d : A) (bytes_of : A → Bytes) (values : List A) (starts : List ℕ) : Type 0 where
  pub counted : length starts ≡ length values
  pub parts : (n : ℕ) → n < length values → Part text (get_or starts n 0) (bytes_of (get_or values n d))

-- Line numbers, from 1 and ascending, that lead to the lines of the values.
pub record OnLines {A : Type 0} (lines : List Bytes) (d : A) (line_of : A → Bytes) (values : List A) (numbers : List ℕ) : Type 0 where
  pub counted : length numbers ≡ length values
  pub inside : (n : ℕ) → n < length values → (0 < get_or numbers n 0) × (get_or numbers n 0 ≤ length lines)
  pub lines_are : (n : ℕ) → n < length values → get_or lines (get_or numbers n 0 - 1) [] ≡ line_of (get_or values n d)
  pub ascend : (m n : ℕ) → m < n → n < length values → get_or numbers m 0 < get_or numbers n 0

-- The names, labels and words of a program that was read stand at their offsets in the text, a callee field behind its label and a comma; its P and N lines at their numbers.
pub record Placed (text : Bytes) (s : Listing) : Type 0 where
  pub names : Starts text [] (λ (n : Bytes). n) s.program.procs s.places.name_starts
  pub labels : Starts text no_node (λ (v : Node). v.label) s.program.nodes s.places.label_starts
  pub callees : Starts text no_node (λ (v : Node). v.label ++ (44 ∷ v.callee)) s.program.nodes s.places.label_starts
  pub words : Starts text no_edge (λ (x : Edge). x.word) s.program.edges s.places.word_starts
  pub proc_lines_are : OnLines (lines_of text) [] line_of_proc s.program.procs s.places.proc_lines
  pub node_lines_are : OnLines (lines_of text) no_node line_of_node s.program.nodes s.places.node_lines

-- The names of the tests that were read stand at their offsets in the text.
pub record TestsPlaced (text : Bytes) (l : TestListing) : Type 0 where
  pub names : Starts text [] (λ (n : Bytes). n) l.suite.names l.starts
