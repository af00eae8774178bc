-- What the reader of test files claims: its answer is the definition's, whatever the tables hold before.
use Rattle.std.specs.Prelude.{◌≡◌, refl, Bool, true, List, ℕ, ◌+◌, ◌*◌, ◌≤◌, ◌<◌, ltb, length, get_or, take, drop}
use Rattle.std.proofs.Common.{sym, ap₂, arith}
use Rattle.laws.specs.Tests.{◌and◌, any, isnt}
use Rattle.laws.specs.Bits.{bit_in}
use Rattle.rules.specs.Text.{Bytes, same, bytes, is_name, Reading, refused, accepted, lines_of, read_lines}
use Rattle.rules.specs.SuiteFile.{TestListing, finish_suite, no_tests, read_tests, step_suite, take_test, test_line, test_count, test_name}
use Rattle.text.specs.Scans.{span}
use Rattle.text.specs.Hash.{hash_of}
use Rattle.suite.specs.Reads.{Read}
use Rattle.suite.specs.Tables.{Holds}

-- ---- a line

-- What stands before the first comma.
abbrev pub first_field : Bytes → Bytes
first_field s = take (span 44 s) s

-- `begins_test`: the line begins with `T`, a comma, a name and a comma.
unfoldable pub begins_test : Bytes → Bool
begins_test line =
    same (first_field line) (bytes "T")
    and is_name (first_field (drop 2 line))
    and ltb (length (first_field (drop 2 line))) (length (drop 2 line))

-- `comma_in`: a row that is not fine has a comma.
unfoldable pub comma_in : Bool → Bytes → Bool
comma_in fine row = isnt fine and ltb (span 44 row) (length row)

-- `name_at`: the part of the text that the table gives as the name of the test i.
unfoldable pub name_at : Bytes → List ℕ → ℕ → Bytes
name_at text tests i = take (get_or tests (2 * i + 1) 0) (drop (get_or tests (2 * i) 0) text)

-- `name_seen`: one of the first n tests has the name.
unfoldable pub name_in : Bytes → List ℕ → ℕ → Bytes → Bool
name_in text tests n name = any n (λ i. same (name_at text tests i) name)

-- `name_met`: the filter has the hash of the name, and one of the first n tests has the name.
unfoldable pub name_met : Bytes → List ℕ → ℕ → List ℕ → Bytes → Bool
name_met text tests n filter name = bit_in filter (hash_of name) and name_in text tests n name

-- The filter has the hash of every test's name.
unfoldable pub Marked : List ℕ → TestListing → Type 0
Marked filter l = (i : ℕ) → i < test_count l.suite → bit_in filter (hash_of (test_name l.suite i)) ≡ true

-- The same of the tests that the definition accepts.
abbrev pub MarkedAfter : List ℕ → Reading TestListing → Type 0
MarkedAfter filter x = (l : TestListing) → x ≡ accepted l → Marked filter l

-- What is known of the tests that were read: each has a place and a coverage, and its name stands in the text.
pub record Known (text : Bytes) (l : TestListing) : Type 0 where
  pub placed : length l.starts ≡ test_count l.suite
  pub covered : length l.suite.coverages ≡ test_count l.suite
  pub names : (i : ℕ) → i < test_count l.suite → take (length (test_name l.suite i)) (drop (get_or l.starts i 0) text) ≡ test_name l.suite i

-- An answer against the definition's, where the old program has m edges. After a refusal the count and what the tables hold are left open, and what they hold behind
-- the tests of an accepted text always.
abbrev pub After : ℕ → Reading TestListing → Read → List ℕ → List ℕ → Type 0
After m (refused k p) r tests rows = (r.number ≡ k) × (r.place ≡ p) × (0 < k)
After m (accepted l) r tests rows = (r.number ≡ 0) × (r.place ≡ 0) × Holds m tests rows r.count l

-- What the definition answers, by the number.
pub accepted_of : (m : ℕ) (x : Reading TestListing) (r : Read) (tests rows : List ℕ) → After m x r tests rows → r.number ≡ 0
    → (l : TestListing) × (x ≡ accepted l) × Holds m tests rows r.count l
accepted_of m (refused k p) r tests rows h z = absurd (omega arith)
accepted_of m (accepted l) r tests rows h z = (l, refl, h.2)

pub refused_of : (m : ℕ) (x : Reading TestListing) (r : Read) (tests rows : List ℕ) → After m x r tests rows → (r.number ≡ 0 → ⊥)
    → (x ≡ refused r.number r.place) × (0 < r.number)
refused_of m (refused k p) r tests rows h z = (ap₂ refused (sym h.0) (sym h.1), omega arith)
refused_of m (accepted l) r tests rows h z = absurd (z h.0)

-- `add_test`: whatever tests the tables hold, the answer to a test more is the definition's, and the filter has the hashes of the names. Which other hashes it has is left open,
-- and what it holds after a refusal.
unfoldable pub Adds : Bytes → ℕ → ℕ → ℕ → Bytes → Bytes → ℕ → List ℕ → List ℕ → List ℕ → Read → List ℕ → List ℕ → List ℕ → Type 0
Adds text m n at name row c filter tests rows r filter' tests' rows' =
    (l : TestListing) → Known text l → Holds m tests rows c l → Marked filter l
    → After m (take_test m n at l (test_line name row)) r tests' rows' × MarkedAfter filter' (take_test m n at l (test_line name row))

pub record Added (text : Bytes) (m n at : ℕ) (name row : Bytes) (c : ℕ) (filter tests rows : List ℕ) (r : Read) (filter' tests' rows' : List ℕ) : Type 0 where
  pub adds : Adds text m n at name row c filter tests rows r filter' tests' rows'
  pub few : r.count ≤ 200

-- `step`: the same of a line.
unfoldable pub Steps : Bytes → ℕ → ℕ → ℕ → Bytes → ℕ → List ℕ → List ℕ → List ℕ → Read → List ℕ → List ℕ → List ℕ → Type 0
Steps text m n at line c filter tests rows r filter' tests' rows' =
    (l : TestListing) → Known text l → Holds m tests rows c l → Marked filter l
    → After m (step_suite m n at l line) r tests' rows' × MarkedAfter filter' (step_suite m n at l line)

pub record Stepped (text : Bytes) (m n at : ℕ) (line : Bytes) (c : ℕ) (filter tests rows : List ℕ) (r : Read) (filter' tests' rows' : List ℕ) : Type 0 where
  pub steps : Steps text m n at line c filter tests rows r filter' tests' rows'
  pub few : r.count ≤ 200

-- ---- a text

-- `read_lines`: the answer to all lines is the definition's. What the filter holds afterwards is left open.
unfoldable pub Lines : ℕ → Bytes → Read → List ℕ → List ℕ → Type 0
Lines m text r tests rows = After m (read_lines (step_suite m) finish_suite 1 0 no_tests (lines_of text)) r tests rows

pub record LinesRead (m : ℕ) (text : Bytes) (r : Read) (tests rows : List ℕ) : Type 0 where
  pub lines : Lines m text r tests rows
  pub few : r.count ≤ 200

-- `read_tests`: the answer is the definition's.
unfoldable pub Reads : ℕ → Bytes → Read → List ℕ → List ℕ → Type 0
Reads m text r tests rows = After m (read_tests m text) r tests rows

pub record TestsRead (m : ℕ) (text : Bytes) (r : Read) (tests rows : List ℕ) : Type 0 where
  pub reads : Reads m text r tests rows
  pub few : r.count ≤ 200
