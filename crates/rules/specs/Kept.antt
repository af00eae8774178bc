-- What reading keeps, as facts. Contracts and laws of the crates that read go by them; no promise of Promises does.
use Rattle.std.specs.Prelude.{◌≡◌, Bool, true, List, [], ◌∷◌, ℕ, suc, ◌≤◌, ◌<◌, eqb, length}
use Rattle.laws.specs.Tests.{isnt, count}
use Rattle.rules.specs.Text.{Bytes, bytes, max_procs, max_nodes, max_edges, is_name, is_word, max_tests}
use Rattle.rules.specs.Graph.{E, X, Program, name_at, owner_at, kind_at, label_at, callee_at, source_at, word_at, target_at, proc_count, node_count, edge_count, is_of, degree, fewest, most, worded}
use Rattle.rules.specs.ProgramFile.{Line, proc_line, node_line, edge_line, malformed, is_node, is_edge, Listing, with_proc, with_node, with_edge}
use Rattle.rules.specs.Layout.{kind_field}
use Rattle.rules.specs.SuiteFile.{Suite, test_count, test_name, coverage_at}

-- What the fields of a line are, by what it says.
abbrev pub Formed : List Bytes → Line → Type 0
Formed fs (proc_line a) = (fs ≡ bytes "P" ∷ a ∷ []) × (is_name a ≡ true)
Formed fs (node_line k b c) = (fs ≡ bytes "N" ∷ kind_field k ∷ b ∷ c ∷ []) × (is_node k b c ≡ true)
Formed fs (edge_line a b c) = (fs ≡ bytes "B" ∷ a ∷ b ∷ c ∷ []) × (is_edge a b c ≡ true)
Formed fs malformed = Unit {0}

-- The procedure q is complete: what refusal 8 asks of it.
pub record Complete (p : Program) (q : ℕ) : Type 0 where
  pub one_entry : count (node_count p) (is_of p q E) ≡ 1
  pub one_exit : count (node_count p) (is_of p q X) ≡ 1
  pub least : (n : ℕ) → n < node_count p → owner_at p n ≡ q → fewest (kind_at p n) ≤ degree p n
  pub greatest : (n : ℕ) → n < node_count p → owner_at p n ≡ q → degree p n ≤ most (kind_at p n)
  pub dashed : (e : ℕ) → e < edge_count p → owner_at p (source_at p e) ≡ q → worded (kind_at p (source_at p e)) (word_at p e) ≡ true

-- What is read keeps: the limits, the forms, the order of the lines, and all that the refusals ask for.
pub record Sound (p : Program) : Type 0 where
  pub few_procs : proc_count p ≤ max_procs
  pub few_nodes : node_count p ≤ max_nodes
  pub few_edges : edge_count p ≤ max_edges
  pub name_forms : (q : ℕ) → q < proc_count p → is_name (name_at p q) ≡ true
  pub names : (q r : ℕ) → q < proc_count p → r < proc_count p → name_at p r ≡ name_at p q → r ≡ q
  pub node_forms : (n : ℕ) → n < node_count p → is_node (kind_at p n) (label_at p n) (callee_at p n) ≡ true
  pub owners : (n : ℕ) → n < node_count p → owner_at p n < proc_count p
  pub node_order : (m n : ℕ) → m ≤ n → n < node_count p → owner_at p m ≤ owner_at p n
  pub word_forms : (e : ℕ) → e < edge_count p → is_word (word_at p e) ≡ true
  pub sources : (e : ℕ) → e < edge_count p → source_at p e < node_count p
  pub targets : (e : ℕ) → e < edge_count p → target_at p e < node_count p
  pub stays : (e : ℕ) → e < edge_count p → owner_at p (source_at p e) ≡ owner_at p (target_at p e)
  pub edge_order : (e f : ℕ) → e ≤ f → f < edge_count p → owner_at p (source_at p e) ≤ owner_at p (source_at p f)
  pub words : (e f : ℕ) → e < edge_count p → f < edge_count p → source_at p f ≡ source_at p e → word_at p f ≡ word_at p e → f ≡ e
  pub closed : (q : ℕ) → suc q < proc_count p → Complete p q

-- What was read after a line.
abbrev pub after_line : ℕ → ℕ → Listing → Line → Listing
after_line n at s (proc_line name) = with_proc n at name s
after_line n at s (node_line kind label callee) = with_node n at kind label callee s
after_line n at s (edge_line from word to) = with_edge at from word to s
after_line n at s malformed = s

-- What is read of a test file keeps, where the old program has m edges.
pub record SoundSuite (m : ℕ) (s : Suite) : Type 0 where
  pub few : test_count s ≤ max_tests
  pub paired : length s.coverages ≡ test_count s
  pub name_forms : (i : ℕ) → i < test_count s → is_name (test_name s i) ≡ true
  pub names : (i j : ℕ) → i < test_count s → j < test_count s → test_name s j ≡ test_name s i → j ≡ i
  pub widths : (i : ℕ) → i < test_count s → length (coverage_at s i) ≡ m

-- The byte x is another than b.
unfoldable pub other : ℕ → ℕ → Bool
other b x = isnt (eqb x b)
