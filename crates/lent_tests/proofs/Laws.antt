-- What is copied from the work tables is what reading leaves; and the returns of the functions.
use mathlib.Core.Path.{◌≡◌, refl, sym, ap, ap₂, ◌∙◌, subst}
use mathlib.Core.Bool.{Bool, true, false}
use mathlib.Core.List.{List}
use Rattle.text.specs.Runs.{numbers_same}
use Rattle.std.specs.Prelude.{nat_eq, Option, Result, Ok, Err, None, Some, IfSome}
use Rattle.std.specs.Result.{result_ok}
use Rattle.std.proofs.lemmas.Option.{same_Some}
use Rattle.std.specs.Bool.{then_some}
use Prim.Native.Nat.{ℕ, zero, suc, ◌+◌, ◌*◌, ◌≤◌, ◌<◌}
use native.Mathlib.Omega.{arith}
use lib.ListN.{length, get_or, take}
use lib.Pointwise.{pointwise}
use lib.Seq.{sets}
use Rattle.laws.specs.Tests.{◌and◌, choose}
use Rattle.laws.specs.Tables.{rows, rows_window}
use Rattle.laws.specs.Bits.{words_length}
use Rattle.rules.specs.Text.{same, Reading, refused, accepted}
use Rattle.rules.specs.SuiteFile.{TestListing, coverage_at, read_tests}
use Rattle.answer.specs.declared.Refusal.{Refusal}
use Rattle.answer.specs.Refusals.{fault_some}
use Rattle.suite.specs.Reads.{read_of}
use Rattle.suite.specs.Tables.{Holds}
use Rattle.suite.specs.Reading.{After, Reads, TestsRead}
use Rattle.lent_tests.specs.Lent.{test_row, coverage_row, tests_after, rows_after, copied_tests, copied_rows, Leaves, ReadLent, is_left, tests_found, TestsLeft}

-- ---- what is copied

module _ (m : ℕ) (a b : List ℕ) (n : ℕ) (l : TestListing) (h : Holds m a b n l) (few : n ≤ 200) (long : 400 ≤ length a) (wide : 3200 ≤ length b) where
  test_at : (i : ℕ) → i < n → (j : ℕ) → j < 2 → get_or a (0 + 2 * i + j) 0 ≡ get_or (test_row l i) j 0
  test_at i d zero k = ap (λ (x : ℕ). get_or a x 0) (let z : 0 + 2 * i + 0 ≡ 2 * i = omega arith in z) ∙ h.starts i (omega (arith, h.counted))
  test_at i d (suc zero) k = ap (λ (x : ℕ). get_or a x 0) (let z : 0 + 2 * i + 1 ≡ 2 * i + 1 = omega arith in z) ∙ h.lengths i (omega (arith, h.counted))
  test_at i d (suc (suc j)) k = absurd (let z : ⊥ = omega arith in z)

  tests_copied : (t : List ℕ) → copied_tests a n t ≡ tests_after l t
  unfolding copied_tests tests_after
  tests_copied t = ap (sets t 0) (rows_window 2 (test_row l) (λ i. refl) a 0 n (omega arith) test_at ∙ ap (rows (test_row l)) h.counted)

  size : (i : ℕ) → length (coverage_row l i) ≡ 16
  size i = words_length 16 (coverage_at l.suite i)

  rows_copied : (t : List ℕ) → copied_rows b n t ≡ rows_after l t
  unfolding copied_rows rows_after
  rows_copied t =
      ap (sets t 0)
      (rows_window 16 (coverage_row l) size b 0 n (omega arith)
      (λ i d j k. ap (λ (x : ℕ). get_or b x 0) (let z : 0 + 16 * i + j ≡ 16 * i + j = omega arith in z) ∙ (h.row i (omega (arith, h.counted))).words j (omega (arith, size i)))
      ∙ ap (rows (coverage_row l)) h.counted)

-- ---- `copy_tests`, `copy_rows`, `same_tests`, `same_rows`

pub tests_copy : (work r t t' : List ℕ) (n : ℕ) → r ≡ take (2 * n) work → t' ≡ sets t 0 r → t' ≡ copied_tests work n t
unfolding copied_tests
tests_copy work r t t' n e q = q ∙ ap (sets t 0) e

pub rows_copy : (words r w w' : List ℕ) (n : ℕ) → r ≡ take (16 * n) words → w' ≡ sets w 0 r → w' ≡ copied_rows words n w
unfolding copied_rows
rows_copy words r w w' n e q = q ∙ ap (sets w 0) e

pub tests_same : (work v t : List ℕ) (n : ℕ) (r : Bool) → v ≡ take (2 * n) work → r ≡ pointwise nat_eq (sets t 0 v) t → r ≡ same (copied_tests work n t) t
unfolding copied_tests
tests_same work v t n r e q = q ∙ numbers_same (sets t 0 v) t ∙ ap (λ (x : List ℕ). same (sets t 0 x) t) e

pub rows_same : (words v w : List ℕ) (n : ℕ) (r : Bool) → v ≡ take (16 * n) words → r ≡ pointwise nat_eq (sets w 0 v) w → r ≡ same (copied_rows words n w) w
unfolding copied_rows
rows_same words v w n r e q = q ∙ numbers_same (sets w 0 v) w ∙ ap (λ (x : List ℕ). same (sets w 0 x) w) e

-- ---- `read_lent_tests`, `tests_left`

-- Both are compared, the second where the first are the same.
pub both_no : (p q r : Bool) → p ≡ false → r ≡ false → r ≡ (p and q)
unfolding ◌and◌
both_no p q r e f = rw (e, f) refl

pub both_yes : (p q r : Bool) → p ≡ true → r ≡ q → r ≡ (p and q)
unfolding ◌and◌
both_yes p q r e f = rw e f

-- The returns of both, by the answer c of the reader. The work tables are a and b.
module _ (m : ℕ) (text a b t w : List ℕ) (c : Result ℕ Refusal) (h : TestsRead m text (read_of c) a b) where
  read : After m (read_tests m text) (read_of c) a b
  unfolding Reads
  read = h.reads

  module _ (e : Refusal) (q : c ≡ Err e) where
    stops : (x : Reading TestListing) → After m x (read_of (Err e)) a b → Leaves x (read_of (Err e)) t t w w
    stops (refused k p) y = (y.0, y.1, refl, y.2, refl, refl)
    stops (accepted l) y = absurd (let z : ⊥ = omega (arith, y.0, fault_some e.fault) in z)

    read_err : After m (read_tests m text) (read_of (Err e)) a b
    read_err = subst (λ (x : Result ℕ Refusal). After m (read_tests m text) (read_of x) a b) q read

    pub lent_stop : ReadLent m text (read_of (Err e)) t t w w
    lent_stop = record { leaves = stops (read_tests m text) read_err; few = omega arith }

    unread : (x : Reading TestListing) → After m x (read_of (Err e)) a b → None ≡ tests_found x t w
    unfolding tests_found
    unread (refused k p) y = refl
    unread (accepted l) y = absurd (let z : ⊥ = omega (arith, y.0, fault_some e.fault) in z)

    refused_left : TestsLeft m text t w None
    refused_left = record { found_is = unread (read_tests m text) read_err; few = tt }

  module _ (n : ℕ) (q : c ≡ Ok n) (long : 400 ≤ length a) (wide : 3200 ≤ length b) where
    read_ok : After m (read_tests m text) (read_of (Ok n)) a b
    read_ok = subst (λ (x : Result ℕ Refusal). After m (read_tests m text) (read_of x) a b) q read

    few : n ≤ 200
    few = omega (arith, h.few, ap (λ (x : Result ℕ Refusal). (read_of x).count) q)

    goes : (x : Reading TestListing) → After m x (read_of (Ok n)) a b → Leaves x (read_of (Ok n)) t (copied_tests a n t) w (copied_rows b n w)
    goes (refused k p) y = absurd (let v : ⊥ = omega (arith, y.0, y.2) in v)
    goes (accepted l) y = (refl, refl, y.2.counted, tests_copied m a b n l y.2 few long wide t, rows_copied m a b n l y.2 few long wide w)

    pub lent_read : (t' w' : List ℕ) → t' ≡ copied_tests a n t → w' ≡ copied_rows b n w → ReadLent m text (read_of (Ok n)) t t' w w'
    lent_read t' w' et ew =
        subst (λ (x : List ℕ). ReadLent m text (read_of (Ok n)) t x w w') (sym et)
        (subst (λ (x : List ℕ). ReadLent m text (read_of (Ok n)) t (copied_tests a n t) w x) (sym ew) (record { leaves = goes (read_tests m text) read_ok; few = few }))

    tells : (x : Reading TestListing) → After m x (read_of (Ok n)) a b → choose (same (copied_tests a n t) t and same (copied_rows b n w) w) (Some n) None ≡ tests_found x t w
    unfolding tests_found is_left
    tells (refused k p) y = absurd (let v : ⊥ = omega (arith, y.0, y.2) in v)
    tells (accepted l) y =
        ap₂ (λ (x z : List ℕ). choose (same x t and same z w) (Some n) None) (tests_copied m a b n l y.2 few long wide t) (rows_copied m a b n l y.2 few long wide w)
        ∙ ap (λ (k : ℕ). choose (same (tests_after l t) t and same (rows_after l w) w) (Some k) None) y.2.counted

    -- What is answered by whether copying would change nothing.
    told_left : (u : Bool) → u ≡ (same (copied_tests a n t) t and same (copied_rows b n w) w) → TestsLeft m text t w (then_some u n)
    unfolding choose
    told_left u e = record { found_is = go u ∙ ap (λ (v : Bool). choose v (Some n) None) e ∙ tells (read_tests m text) read_ok; few = small u }
      where
        go : (v : Bool) → then_some v n ≡ choose v (Some n) None
        go true = refl
        go false = refl

        small : (v : Bool) → IfSome (then_some v n) (λ k. k ≤ 200)
        small true = few
        small false = tt

  -- The same by the answer without its refusal.
  pub left_refused : None ≡ result_ok c → TestsLeft m text t w None
  left_refused = go c refl
    where
      go : (x : Result ℕ Refusal) → c ≡ x → None ≡ result_ok x → TestsLeft m text t w None
      go (Ok n) q z = cc
      go (Err e) q z = refused_left e q

  pub left_told : (n : ℕ) → Some n ≡ result_ok c → 400 ≤ length a → 3200 ≤ length b → (u : Bool) → u ≡ (same (copied_tests a n t) t and same (copied_rows b n w) w)
      → (r : Option ℕ) → r ≡ then_some u n → TestsLeft m text t w r
  left_told n q long wide u e r f = subst (λ (x : Option ℕ). TestsLeft m text t w x) (sym f) (go c refl q)
    where
      go : (x : Result ℕ Refusal) → c ≡ x → Some n ≡ result_ok x → TestsLeft m text t w (then_some u n)
      go (Ok k) y z = told_left n (y ∙ ap (λ (i : ℕ). Ok i) (sym (same_Some n k z))) long wide u e
      go (Err k) y z = cc

pub ruleset all = (tests_copy, rows_copy, tests_same, rows_same, left_refused)
