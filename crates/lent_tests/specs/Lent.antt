-- What reading a test file leaves in lent tables: `tests` with two numbers a test, `rows` with 16 words of 64 bits a test.
use Rattle.std.specs.Prelude.{◌≡◌, Bool, List, [], ◌∷◌, ℕ, ◌*◌, ◌≤◌, ◌<◌, length, get_or, take, Option, None, Some, IfSome}
use Rattle.std.proofs.lemmas.List.Edits.{sets}
use Rattle.laws.specs.Tests.{◌and◌, choose}
use Rattle.laws.specs.Tables.{rows}
use Rattle.laws.specs.Bits.{words_of}
use Rattle.rules.specs.Text.{Bytes, same, Reading, refused, accepted}
use Rattle.rules.specs.SuiteFile.{TestListing, coverage_at, read_tests, test_count, test_name}
use Rattle.suite.specs.Reads.{Read}

-- The test i: where its name stands in the text and how long it is; the words of its coverage.
abbrev pub test_row : TestListing → ℕ → List ℕ
test_row l i = get_or l.starts i 0 ∷ length (test_name l.suite i) ∷ []

abbrev pub coverage_row : TestListing → ℕ → List ℕ
coverage_row l i = words_of 16 (coverage_at l.suite i)

-- What reading leaves in tables that held t and w: the rows of the tests; entries beyond them stay.
unfoldable pub tests_after : TestListing → List ℕ → List ℕ
tests_after l t = sets t 0 (rows (test_row l) (test_count l.suite))

unfoldable pub rows_after : TestListing → List ℕ → List ℕ
rows_after l w = sets w 0 (rows (coverage_row l) (test_count l.suite))

-- The first n tests of the work tables, copied.
unfoldable pub copied_tests : List ℕ → ℕ → List ℕ → List ℕ
copied_tests work n t = sets t 0 (take (2 * n) work)

unfoldable pub copied_rows : List ℕ → ℕ → List ℕ → List ℕ
copied_rows words n w = sets w 0 (take (16 * n) words)

-- The answer is the definition's; a refusal leaves the tables t and w as they were, and else they hold what reading leaves.
abbrev pub Leaves : Reading TestListing → Read → List ℕ → List ℕ → List ℕ → List ℕ → Type 0
Leaves (refused k p) r t t' w w' = (r.number ≡ k) × (r.place ≡ p) × (r.count ≡ 0) × (0 < k) × (t' ≡ t) × (w' ≡ w)
Leaves (accepted l) r t t' w w' = (r.number ≡ 0) × (r.place ≡ 0) × (r.count ≡ test_count l.suite) × (t' ≡ tests_after l t) × (w' ≡ rows_after l w)

-- `read_lent_tests`, where the old program has m edges. What the work tables hold afterwards is left open.
pub record ReadLent (m : ℕ) (text : Bytes) (r : Read) (t t' w w' : List ℕ) : Type 0 where
  pub leaves : Leaves (read_tests m text) r t t' w w'
  pub few : r.count ≤ 200

-- The tables t and w are what reading the text leaves: storing it would change nothing.
unfoldable pub is_left : TestListing → List ℕ → List ℕ → Bool
is_left l t w = same (tests_after l t) t and same (rows_after l w) w

-- How many tests there are, where the tables are what reading leaves: none where the text is refused.
unfoldable pub tests_found : Reading TestListing → List ℕ → List ℕ → Option ℕ
tests_found (refused k p) t w = None
tests_found (accepted l) t w = choose (is_left l t w) (Some (test_count l.suite)) None

-- `tests_left`, where the old program has m edges. What the work tables hold afterwards is left open.
pub record TestsLeft (m : ℕ) (text : Bytes) (t w : List ℕ) (r : Option ℕ) : Type 0 where
  pub found_is : r ≡ tests_found (read_tests m text) t w
  pub few : IfSome r (λ n. n ≤ 200)
