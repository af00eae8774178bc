-- What the reader of sheets promises: its answer is the definition's, and the tables hold the claims of an accepted sheet.
use Rattle.std.specs.Prelude.{◌≡◌, List, ℕ, ◌+◌, ◌<◌, Result, Ok, Err}
use Rattle.laws.specs.Tests.{has}
use Rattle.laws.specs.Bits.{bit_in}
use Rattle.rules.specs.Text.{Reading, Bytes, accepted, refused}
use Rattle.rules.specs.Graph.{Program, edge_count, node_count}
use Rattle.rules.specs.SuiteFile.{Suite, test_count, test_name}
use Rattle.rules.specs.Sheet.{Sheet, read_sheet}
use Rattle.pairset.specs.Store.{Store, pairs_in}
use Rattle.suite.specs.Reading.{name_at}
use Rattle.answer.specs.declared.Refusal.{Refusal}
use Rattle.answer.specs.Refusals.{number_in, place_in}

-- The programs and the suite that a sheet is read for: so many old and new nodes, old edges and tests, and the names that the table gives in the text of the tests, no name
-- twice.
pub record For (olds news edges : ℕ) (tt : Bytes) (table : List ℕ) (count : ℕ) (old new : Program) (suite : Suite) : Type 0 where
  pub old_nodes : olds ≡ node_count old
  pub new_nodes : news ≡ node_count new
  pub old_edges : edges ≡ edge_count old
  pub counted : count ≡ test_count suite
  pub names : (i : ℕ) → i < test_count suite → name_at tt table i ≡ test_name suite i
  pub differ : (i j : ℕ) → i < test_count suite → j < test_count suite → test_name suite j ≡ test_name suite i → j ≡ i

-- The tables hold the claims of a sheet: its m pairs, in order; bit e is whether D has the edge e, and bit 1024 + i whether R has the test i.
pub record ClaimsHeld (w sets : List ℕ) (m : ℕ) (s : Sheet) : Type 0 where
  pub store : Store w m
  pub pairs_are : pairs_in w m ≡ s.M
  pub edges_are : (e : ℕ) → e < 1024 → bit_in sets e ≡ has s.D e
  pub tests_are : (i : ℕ) → i < 200 → bit_in sets (1024 + i) ≡ has s.R i

-- An answer, how many pairs there are or a refusal, against the definition's. What the tables hold after a refusal is left open.
abbrev pub Told : Reading Sheet → Result ℕ Refusal → List ℕ → List ℕ → Type 0
Told (refused k p) r w sets = (number_in r ≡ k) × (place_in r ≡ p) × (0 < k)
Told (accepted s) (Ok m) w sets = ClaimsHeld w sets m s
Told (accepted s) (Err e) w sets = ⊥

-- `read_sheet`: whatever programs and suite have these counts and names, the answer is the definition's, of a sheet of at most `limit` pairs.
unfoldable pub Reads : ℕ → ℕ → ℕ → ℕ → Bytes → List ℕ → ℕ → Bytes → Result ℕ Refusal → List ℕ → List ℕ → Type 0
Reads limit olds news edges tt table count sheet r w sets =
    (old new : Program) (suite : Suite) → For olds news edges tt table count old new suite → Told (read_sheet limit old new suite sheet) r w sets
