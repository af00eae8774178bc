-- The layouts, said without reading: how a program and a suite are written, and which programs, suites and sheets follow the rules. The readers accept just these.
--
use Rattle.std.specs.Prelude.{◌≡◌, Bool, true, false, List, [], ◌∷◌, ◌++◌, ℕ, zero, suc, ◌+◌, ◌*◌, ◌≤◌, ◌<◌, eqb, ltb, length}
use Rattle.laws.specs.Tests.{choose, has, listed}
use Rattle.laws.specs.TestLaws.{Ascending}
use Rattle.laws.specs.Lists.{Rising}
use Rattle.rules.specs.Text.{Bytes, bytes, max_bytes, max_procs, max_nodes, max_edges, max_tests, commas, text_of, is_name, is_word, decimal}
use Rattle.rules.specs.Graph.{Kind, E, S, C, X, Node, Edge, Program, WellFormed, name_at, owner_at, kind_at, label_at, callee_at, source_at, word_at, proc_count, node_count, edge_count}
use Rattle.rules.specs.ProgramFile.{is_node}
use Rattle.rules.specs.SuiteFile.{Suite, test_count, test_name, coverage_at}
use Rattle.rules.specs.Closing.{Coverage}
use Rattle.rules.specs.Sheet.{Sheet}

-- ---- programs

-- The field that names a kind.
abbrev pub kind_field : Kind → Bytes
kind_field E = bytes "E"
kind_field S = bytes "S"
kind_field C = bytes "C"
kind_field X = bytes "X"

-- The line of a procedure, of a node, of an edge.
unfoldable pub line_of_proc : Bytes → Bytes
line_of_proc name = commas (bytes "P" ∷ name ∷ [])

unfoldable pub line_of_node : Node → Bytes
line_of_node v = commas (bytes "N" ∷ kind_field v.kind ∷ v.label ∷ v.callee ∷ [])

unfoldable pub line_of_edge : Edge → Bytes
line_of_edge x = commas (bytes "B" ∷ decimal x.source ∷ x.word ∷ decimal x.target ∷ [])

-- The lines of those of the list that pass f, in the list's order.
unfoldable pub lines_of_those : {A : Type 0} → (A → Bool) → (A → Bytes) → List A → List Bytes
lines_of_those f line [] = []
lines_of_those f line (x ∷ l) = choose (f x) (line x ∷ lines_of_those f line l) (lines_of_those f line l)

-- The procedure q is its P line, its N lines, then its B lines; the first n procedures; the whole file.
unfoldable pub proc_lines : Program → ℕ → List Bytes
proc_lines p q =
    line_of_proc (name_at p q)
    ∷ (lines_of_those (λ v. eqb v.owner q) line_of_node p.nodes ++ lines_of_those (λ x. eqb (owner_at p x.source) q) line_of_edge p.edges)

unfoldable pub program_lines : Program → ℕ → List Bytes
program_lines p zero = []
program_lines p (suc q) = program_lines p q ++ proc_lines p q

unfoldable pub write_program : Program → Bytes
write_program p = text_of (program_lines p (proc_count p))

-- A program that follows the rules: its structure (one E and one X, the table, `-`, known callees, words); names, labels, callees and words of their bytes and lengths; the nodes and the
-- edges numbered procedure by procedure; the limits.
pub record Follows (p : Program) : Type 0 where
  pub structure : WellFormed p
  pub name_forms : (q : ℕ) → q < proc_count p → is_name (name_at p q) ≡ true
  pub node_forms : (n : ℕ) → n < node_count p → is_node (kind_at p n) (label_at p n) (callee_at p n) ≡ true
  pub word_forms : (e : ℕ) → e < edge_count p → is_word (word_at p e) ≡ true
  pub node_order : (m n : ℕ) → m ≤ n → n < node_count p → owner_at p m ≤ owner_at p n
  pub edge_order : (e f : ℕ) → e ≤ f → f < edge_count p → owner_at p (source_at p e) ≤ owner_at p (source_at p f)
  pub few_procs : proc_count p ≤ max_procs
  pub few_nodes : node_count p ≤ max_nodes
  pub few_edges : edge_count p ≤ max_edges
  pub few_bytes : length (write_program p) ≤ max_bytes

-- ---- suites

-- A bit's number; the digit of four bits, lower-case hexadecimal.
abbrev pub bit : Bool → ℕ
bit true = 1
bit false = 0

unfoldable pub hex_digit : ℕ → ℕ
hex_digit v = choose (ltb v 10) (48 + v) (87 + v)

unfoldable pub hex_of : Bool → Bool → Bool → Bool → ℕ
hex_of a b c d = hex_digit (8 * bit a + 4 * bit b + 2 * bit c + bit d)

-- The row of a coverage: a digit for each four edges, the first the highest bit, spare bits 0.
unfoldable pub row_of : Coverage → Bytes
row_of [] = []
row_of (a ∷ []) = hex_of a false false false ∷ []
row_of (a ∷ b ∷ []) = hex_of a b false false ∷ []
row_of (a ∷ b ∷ c ∷ []) = hex_of a b c false ∷ []
row_of (a ∷ b ∷ c ∷ d ∷ l) = hex_of a b c d ∷ row_of l

-- The line of a test; the lines of the first n tests; the whole file.
unfoldable pub line_of_test : Bytes → Coverage → Bytes
line_of_test name coverage = commas (bytes "T" ∷ name ∷ row_of coverage ∷ [])

unfoldable pub suite_lines : Suite → ℕ → List Bytes
suite_lines s zero = []
suite_lines s (suc i) = suite_lines s i ++ (line_of_test (test_name s i) (coverage_at s i) ∷ [])

unfoldable pub write_suite : Suite → Bytes
write_suite s = text_of (suite_lines s (test_count s))

-- A suite that follows the rules, where the old program has m edges.
pub record SuiteFollows (m : ℕ) (s : Suite) : Type 0 where
  pub paired : length s.coverages ≡ test_count s
  pub name_forms : (i : ℕ) → i < test_count s → is_name (test_name s i) ≡ true
  pub names : (i j : ℕ) → i < test_count s → j < test_count s → test_name s j ≡ test_name s i → j ≡ i
  pub widths : (i : ℕ) → i < test_count s → length (coverage_at s i) ≡ m
  pub few : test_count s ≤ max_tests
  pub few_bytes : length (write_suite s) ≤ max_bytes

-- ---- sheets

-- A sheet that follows the rules: at most `limit` pairs, ascending by old, then new; edges ascending; tests in the order of their file; all of these the files have.
pub record SheetFollows (limit : ℕ) (old new : Program) (suite : Suite) (c : Sheet) : Type 0 where
  pub few_pairs : length c.M ≤ limit
  pub ascends : Ascending c.M
  pub nodes : (n k : ℕ) → listed c.M n k ≡ true → (n < node_count old) × (k < node_count new)
  pub rises_d : Rising c.D
  pub edges : (e : ℕ) → has c.D e ≡ true → e < edge_count old
  pub rises_r : Rising c.R
  pub tests : (i : ℕ) → has c.R i ≡ true → i < test_count suite
