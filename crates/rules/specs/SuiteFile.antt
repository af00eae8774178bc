-- Test files ("Lift files" of document 01): a suite of named tests with their coverage, and what reading one answers (refusals 1, 2, 4, 5, 10).
use Rattle.std.specs.Prelude.{Bool, true, List, [], ◌∷◌, ◌++◌, ℕ, ◌+◌, ◌-◌, ◌/◌, ◌%◌, eqb, leb, length, get_or, take, drop}
use Rattle.laws.specs.Tests.{◌and◌, ◌or◌, isnt, any, choose}
use Rattle.rules.specs.Text.{Bytes, same, bytes, max_tests, fields_of, between, all_bytes, is_name, Reading, refused, accepted, then, unless, read_text}
use Rattle.rules.specs.Closing.{Coverage}

-- A suite ("lift file"): the names of its tests, and what each covers ("row").
pub record Suite : Type 0 where
  pub names : List Bytes
  pub coverages : List Coverage

-- What was read: the suite, and the offset in the text at which each name stands.
pub record TestListing : Type 0 where
  pub suite : Suite
  pub starts : List ℕ

abbrev pub no_tests : TestListing
no_tests = record { suite = record { names = []; coverages = [] }; starts = [] }

-- How many tests there are; the name of the test i; what it covers.
abbrev pub test_count : Suite → ℕ
test_count s = length s.names

abbrev pub test_name : Suite → ℕ → Bytes
test_name s i = get_or s.names i []

abbrev pub coverage_at : Suite → ℕ → Coverage
coverage_at s i = get_or s.coverages i []

-- What a line says: `T,name,row`, or nothing of that form. No bytes in the row make it malformed.
pub data TestLine : Type 0 where
  test_line : Bytes → Bytes → TestLine
  no_test : TestLine

unfoldable pub test_form : List Bytes → TestLine
test_form [] = no_test
test_form (f ∷ []) = no_test
test_form (f ∷ a ∷ []) = no_test
test_form (f ∷ a ∷ b ∷ []) = choose (same f (bytes "T") and is_name a) (test_line a b) no_test
test_form (f ∷ a ∷ b ∷ c ∷ cs) = no_test

-- A lower-case hexadecimal digit, its value, and its four bits, highest first.
unfoldable pub hex_byte : ℕ → Bool
hex_byte x = between 48 57 x or between 97 102 x

unfoldable pub hex_value : ℕ → ℕ
hex_value x = choose (leb x 57) (x - 48) (x - 87)

abbrev pub odd : ℕ → Bool
odd n = eqb (n % 2) 1

unfoldable pub bits_of : Bytes → List Bool
bits_of [] = []
bits_of (x ∷ s) = odd (hex_value x / 8) ∷ odd (hex_value x / 4) ∷ odd (hex_value x / 2) ∷ odd (hex_value x) ∷ bits_of s

-- No bit is 1.
unfoldable pub none_set : List Bool → Bool
none_set [] = true
none_set (b ∷ l) = isnt b and none_set l

-- A row for m edges: a digit for each four, rounded up, and spare bits 0.
unfoldable pub row_fine : ℕ → Bytes → Bool
row_fine m row = eqb (length row) ((m + 3) / 4) and all_bytes hex_byte row and none_set (drop m (bits_of row))

-- A test has this name.
unfoldable pub tested : Suite → Bytes → Bool
tested s name = any (test_count s) (λ i. same (test_name s i) name)

-- The suite with one test more; what was read, with a line more that begins at the offset `at`.
abbrev pub add_test : Bytes → Coverage → Suite → Suite
add_test name coverage s = record { names = s.names ++ (name ∷ []); coverages = s.coverages ++ (coverage ∷ []) }

abbrev pub with_test : ℕ → Bytes → Coverage → TestListing → TestListing
with_test at name coverage l = record { suite = add_test name coverage l.suite; starts = l.starts ++ ((at + 2) ∷ []) }

-- One line, numbered n, beginning at the offset `at`, where the old program has m edges.
unfoldable pub take_test : ℕ → ℕ → ℕ → TestListing → TestLine → Reading TestListing
take_test m n at l (test_line name row) =
    unless (leb max_tests (test_count l.suite)) 4 n
    (unless (tested l.suite name) 5 n
    (unless (isnt (row_fine m row)) 10 n
    (accepted (with_test at name (take m (bits_of row)) l))))
take_test m n at l no_test = refused 2 n

unfoldable pub step_suite : ℕ → ℕ → ℕ → TestListing → Bytes → Reading TestListing
step_suite m n at l line = take_test m n at l (test_form (fields_of line))

-- An empty test file holds no tests.
abbrev pub finish_suite : ℕ → TestListing → Reading TestListing
finish_suite n l = accepted l

-- Reading a test file, where the old program has m edges: with the places, and the suite alone.
unfoldable pub read_tests : ℕ → Bytes → Reading TestListing
read_tests m text = read_text (step_suite m) finish_suite no_tests text

unfoldable pub read_suite : ℕ → Bytes → Reading Suite
read_suite m text = then (read_tests m text) (λ l. accepted l.suite)
