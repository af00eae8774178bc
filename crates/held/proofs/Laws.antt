-- The returns of the functions.
use mathlib.Core.Path.{◌≡◌, refl, sym, ap, ◌∙◌, subst}
use mathlib.Core.Bool.{Bool, true, false}
use mathlib.Core.List.{List}
use mathlib.Core.Option.{none, some}
use Prim.Native.Nat.{ℕ, ◌≤◌, ◌<◌}
use native.Mathlib.Omega.{arith}
use lib.ListN.{length}
use borrow.Author.Tests.{le-leb, lt-leb}
use Rattle.std.specs.Prelude.{Option, None, Some}
use Rattle.laws.specs.Tests.{◌and◌, choose}
use Rattle.laws.specs.TestLaws.{and_both}
use Rattle.rules.specs.Text.{Reading, refused, accepted}
use Rattle.rules.specs.ProgramFile.{Listing, read_listing}
use Rattle.rules.specs.SuiteFile.{TestListing, read_tests, test_count}
use Rattle.reader.specs.declared.Counts.{Counts}
use Rattle.reader.specs.Result.{counts_of}
use Rattle.program.specs.Lent.{Counted, is_left, left_count, left_number, TablesLeft}
use Rattle.lent_tests.specs.Lent.{is_left as is_left_tests, tests_found, TestsLeft}
use Rattle.lent_job.specs.Held.{Lent, counted, numbers, long_enough, left_by, version_left, tests_long, tests_by, suite_left}
use Rattle.held.specs.Left.{count_left, read_left}

second_not : (a b : Bool) → b ≡ false → (a and b) ≡ false
unfolding ◌and◌
second_not true b e = e
second_not false b e = refl

-- ---- `version_left`

module _ (room : ℕ) (text nodes links : List ℕ) where
  abbrev lent_v : Lent
  lent_v = numbers room text nodes links

  short_by : (x : Reading Listing) → long_enough lent_v ≡ false → left_by x lent_v ≡ none
  unfolding left_by ◌and◌ choose
  short_by (refused k p) e = refl
  short_by (accepted s) e = simp e

  version_short : long_enough lent_v ≡ false → None ≡ count_left (version_left lent_v)
  unfolding version_left count_left
  version_short e = sym (ap count_left (short_by (read_listing text) e))

  pub version_few : room < 512 → None ≡ count_left (version_left lent_v)
  unfolding long_enough ◌and◌
  version_few h = version_short (simp (lt-leb 512 room h))

  pub version_links : (l : List ℕ) → l ≡ links → length l < 6080 → None ≡ count_left (version_left lent_v)
  unfolding long_enough
  version_links l q h = version_short (second_not _ _ (lt-leb 6080 (length links) (subst (λ (k : List ℕ). length k < 6080) q h)))

  module _ (long : long_enough lent_v ≡ true) where
    -- Nothing is left where the tables are not what reading leaves, and else the counts are the listing's.
    none_by : (x : Reading Listing) → 14 ≡ left_number x nodes links → None ≡ count_left (left_by x lent_v)
    unfolding left_by left_number ◌and◌ choose count_left
    none_by (refused k p) e = refl
    none_by (accepted s) e = go (is_left s nodes links) refl
      where
        go : (u : Bool) → is_left s nodes links ≡ u → None ≡ count_left (choose (long_enough lent_v and is_left s nodes links) (some s) none)
        go true q = absurd (let z : ⊥ = omega (arith, e ∙ ap (λ (u : Bool). choose u 0 14) q) in z)
        go false q = simp (long, q)

    some_by : (x : Reading Listing) (c : Counts) → 0 ≡ left_number x nodes links → ((s : Listing) → x ≡ accepted s → Counted (counts_of c) s) → Some c ≡ count_left (left_by x lent_v)
    unfolding left_by left_number ◌and◌ choose count_left
    some_by (refused k p) c e h = absurd (let z : ⊥ = omega (arith, e) in z)
    some_by (accepted s) c e h = go (is_left s nodes links) refl
      where
        is : c ≡ counted s
        is = let d = h s refl in rw (d.procs_n, d.nodes_n, d.edges_n)

        go : (u : Bool) → is_left s nodes links ≡ u → Some c ≡ count_left (choose (long_enough lent_v and is_left s nodes links) (some s) none)
        go true q = simp (long, q, is)
        go false q = absurd (let z : ⊥ = omega (arith, e ∙ ap (λ (u : Bool). choose u 0 14) q) in z)

    told : (r : Option Counts) → TablesLeft text nodes links (left_count r) → r ≡ count_left (version_left lent_v)
    unfolding version_left
    told None t = none_by (read_listing text) t.number_is
    told (Some c) t = some_by (read_listing text) c t.number_is (λ s e. t.counted s e refl)

  pub version_is : (t n l : List ℕ) (r : Option Counts) → 512 ≤ room → 6080 ≤ length l → t ≡ text → n ≡ nodes → l ≡ links → TablesLeft t n l (left_count r) → r ≡ count_left (version_left lent_v)
  unfolding long_enough
  version_is t n l r a b e₁ e₂ e₃ h =
      told (and_both (le-leb 512 room a) (le-leb 6080 (length links) (subst (λ (k : List ℕ). 6080 ≤ length k) e₃ b))) r
      (subst (λ (x : List ℕ). TablesLeft x nodes links (left_count r)) e₁ (subst (λ (x : List ℕ). TablesLeft t x links (left_count r)) e₂ (subst (λ (x : List ℕ). TablesLeft t n x (left_count r)) e₃ h)))

-- ---- `suite_left`

module _ (m : ℕ) (text tests rows : List ℕ) where
  short_tests : (x : Reading TestListing) → tests_long tests rows ≡ false → tests_by x tests rows ≡ none
  unfolding tests_by ◌and◌ choose
  short_tests (refused k p) e = refl
  short_tests (accepted s) e = simp e

  suite_short : tests_long tests rows ≡ false → None ≡ read_left (suite_left m text tests rows)
  unfolding suite_left read_left
  suite_short e = sym (ap read_left (short_tests (read_tests m text) e))

  pub suite_tests : length tests < 400 → None ≡ read_left (suite_left m text tests rows)
  unfolding tests_long ◌and◌
  suite_tests h = suite_short (simp (lt-leb 400 (length tests) h))

  pub suite_rows : length rows < 3200 → None ≡ read_left (suite_left m text tests rows)
  unfolding tests_long
  suite_rows h = suite_short (second_not _ _ (lt-leb 3200 (length rows) h))

  found_by : (x : Reading TestListing) → tests_long tests rows ≡ true → tests_found x tests rows ≡ read_left (tests_by x tests rows)
  unfolding tests_found tests_by read_left ◌and◌ choose
  found_by (refused k p) e = refl
  found_by (accepted s) e = rw e (go (is_left_tests s tests rows))
    where
      go : (u : Bool) → choose u (Some (test_count s.suite)) None ≡ read_left (choose u (some s) none)
      go true = refl
      go false = refl

  pub suite_is : (r : Option ℕ) → 400 ≤ length tests → 3200 ≤ length rows → TestsLeft m text tests rows r → r ≡ read_left (suite_left m text tests rows)
  unfolding suite_left tests_long
  suite_is r a b t = t.found_is ∙ found_by (read_tests m text) (and_both (le-leb 400 (length tests) a) (le-leb 3200 (length rows) b))

pub ruleset all = (version_few, version_links, version_is, suite_tests, suite_rows, suite_is)
