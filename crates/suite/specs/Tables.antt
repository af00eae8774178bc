-- How two tables hold a suite: in `tests` two numbers a test, where its name stands in the text and how long it is; in `rows` the row of each test, its coverage (`coverage/specs/Rows`).
use Rattle.std.specs.Prelude.{◌≡◌, List, ℕ, ◌+◌, ◌*◌, ◌/◌, ◌<◌, length, get_or, set}
use Rattle.std.specs.Int.Bits.{bit_and}
use Rattle.std.proofs.lemmas.List.Edits.{sets}
use Rattle.laws.specs.Bits.{words_of}
use Rattle.rules.specs.Text.{Bytes}
use Rattle.rules.specs.SuiteFile.{TestListing, bits_of, coverage_at, test_count, test_name}
use Rattle.coverage.specs.Rows.{Row}

-- The tests of a suite in memory: the text with their names, the table of the names, that of the rows, and how many there are.
pub record Tests : Type 0 where
  pub text : Bytes
  pub names : List ℕ
  pub rows : List ℕ
  pub count : ℕ

abbrev pub tests : Bytes → List ℕ → List ℕ → ℕ → Tests
tests text names rows count = record { text = text; names = names; rows = rows; count = count }

-- The tables hold the tests that were read, where the old program has m edges.
pub record Holds (m : ℕ) (tests rows : List ℕ) (n : ℕ) (l : TestListing) : Type 0 where
  pub counted : n ≡ test_count l.suite
  pub starts : (i : ℕ) → i < test_count l.suite → get_or tests (2 * i) 0 ≡ get_or l.starts i 0
  pub lengths : (i : ℕ) → i < test_count l.suite → get_or tests (2 * i + 1) 0 ≡ length (test_name l.suite i)
  pub row : (i : ℕ) → i < test_count l.suite → Row m rows i (coverage_at l.suite i)

-- ---- what the functions leave and answer

-- `turned`: the four bits of each digit to the base 16 turned round, by those that stand at one place in all of them.
unfoldable pub turn : ℕ → ℕ
turn w = bit_and w 1229782938247303441 * 8 + bit_and w 2459565876494606882 * 2 + bit_and w 4919131752989213764 / 2 + bit_and w 9838263505978427528 / 8

-- `store_row`: the row of the test i is that of the digits.
unfoldable pub stored_row : List ℕ → ℕ → Bytes → List ℕ
stored_row rows i row = sets rows (16 * i) (words_of 16 (bits_of row))

-- `put_test`: where the name of the test i stands, and how long it is.
unfoldable pub stored_test : List ℕ → ℕ → ℕ → ℕ → List ℕ
stored_test tests i start len = set (set tests (2 * i) start) (2 * i + 1) len
