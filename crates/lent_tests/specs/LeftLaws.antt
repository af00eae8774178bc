-- Lent tables that are what reading leaves hold the suite, and are found to be what reading leaves.
use Rattle.std.specs.Prelude.{◌≡◌, refl, true, false, ℕ, ◌+◌, ◌*◌, ◌/◌, ◌%◌, ◌≤◌, ◌<◌, length}
use Rattle.std.proofs.Math.Path.{ap}
use Rattle.std.proofs.Common.{◌∙◌}
use mathlib.Core.List.{List}
use native.Mathlib.Omega.{arith}
use Rattle.std.proofs.Math.ListN.{get_or, get_or-eq_default}
use Rattle.laws.specs.TestLaws.{and_both}
use Rattle.laws.specs.Slices.{sets_again}
use Rattle.laws.specs.Tables.{rows, rows_stored}
use Rattle.laws.specs.Bits.{bit_at, bit_in, bits_words, words_length}
use Rattle.rules.specs.Text.{Bytes, accepted}
use Rattle.rules.specs.SuiteFile.{TestListing, coverage_at, read_tests, test_count}
use Rattle.rules.proofs.TextLaws.{same_of}
use Rattle.rules.specs.Kept.{SoundSuite}
use Rattle.coverage.specs.Rows.{edge_bit}
use Rattle.suite.specs.Tables.{Holds}
use Rattle.suite.specs.TableLaws.{suite_read}
use Rattle.lent_tests.specs.Lent.{test_row, coverage_row, tests_after, rows_after, is_left}

-- Tables of the fixed lengths, or longer, hold what reading leaves in them.
module _ (m : ℕ) (text : Bytes) (l : TestListing) (edges : m ≤ 1024) (e : read_tests m text ≡ accepted l) (t w t' w' : List ℕ) (long : 400 ≤ length t) (wide : 3200 ≤ length w)
    (et : t' ≡ tests_after l t) (ew : w' ≡ rows_after l w) where
  sound : SoundSuite m l.suite
  sound = suite_read m text l e

  test_in : (i j : ℕ) → i < test_count l.suite → j < 2 → get_or t' (0 + (2 * i + j)) 0 ≡ get_or (test_row l i) j 0
  unfolding tests_after
  test_in i j h k =
      ap (λ (x : List ℕ). get_or x (0 + (2 * i + j)) 0) et ∙ rows_stored 2 (test_row l) (λ n. refl) t 0 (test_count l.suite) i j (omega (arith, sound.few)) h k

  word_in : (i j : ℕ) → i < test_count l.suite → j < 16 → get_or w' (16 * i + j) 0 ≡ get_or (coverage_row l i) j 0
  unfolding rows_after
  word_in i j h k =
      ap (λ (n : ℕ). get_or w' n 0) (let z : 16 * i + j ≡ 0 + (16 * i + j) = omega arith in z)
      ∙ ap (λ (x : List ℕ). get_or x (0 + (16 * i + j)) 0) ew
      ∙ rows_stored 16 (coverage_row l) (λ n. words_length 16 (coverage_at l.suite n)) w 0 (test_count l.suite) i j (omega (arith, sound.few)) h k

  bit_in_lem : (i e : ℕ) → i < test_count l.suite → e < 1024 → edge_bit w' i e ≡ get_or (coverage_at l.suite i) e false
  unfolding edge_bit bit_in
  bit_in_lem i e h k =
      ap (λ (n : ℕ). bit_at n (e % 64)) (word_in i (e / 64) h (omega arith)) ∙ bits_words 16 (coverage_at l.suite i) e (omega arith)

  pub after_holds : Holds m t' w' (test_count l.suite) l
  after_holds =
      record {
        counted = refl;
        starts = λ i h. ap (λ (n : ℕ). get_or t' n 0) (let z : 2 * i ≡ 0 + (2 * i + 0) = omega arith in z) ∙ test_in i 0 h (omega arith);
        lengths = λ i h. ap (λ (n : ℕ). get_or t' n 0) (let z : 2 * i + 1 ≡ 0 + (2 * i + 1) = omega arith in z) ∙ test_in i 1 h (omega arith);
        row = λ i h. record {
          edges = λ e k. bit_in_lem i e h (omega arith);
          spare = λ e k b. bit_in_lem i e h b ∙ get_or-eq_default (coverage_at l.suite i) false (omega (arith, sound.widths i h));
          words = λ j k. word_in i j h k;
        };
      }

-- What reading leaves is found to be what reading leaves.
pub after_left : (l : TestListing) (t w : List ℕ) → is_left l (tests_after l t) (rows_after l w) ≡ true
unfolding is_left tests_after rows_after
after_left l t w =
    and_both (same_of (sets_again (rows (test_row l) (test_count l.suite)) t 0)) (same_of (sets_again (rows (coverage_row l) (test_count l.suite)) w 0))
