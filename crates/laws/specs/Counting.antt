-- Counting and finding among the numbers below n, by what passes.
use Rattle.std.specs.Prelude.{◌≡◌, refl, ◌⊎◌, Bool, ltb}
use Rattle.std.proofs.Common.{sym, ap, ◌∙◌, subst, inl, inr, ⊎_elim, lt-ltb, le-ltb}
use Rattle.std.proofs.Math.Bool.{true, false}
use Rattle.std.proofs.Math.Option.{Option, none, some}
use Prim.Native.Nat.{ℕ, zero, suc, ◌≤◌, ◌<◌}
use native.Mathlib.Omega.{arith}
use Rattle.laws.specs.Tests.{every, any, or_else, if_true, first, plus, count}
use Rattle.laws.specs.TestLaws.{both_ways, passes?, below_suc, first_at, count_none, count_skip, count_more}

pub count_few : (f : ℕ → Bool) (n : ℕ) → count n f ≤ n
unfolding count plus
count_few f zero = omega arith
count_few f (suc n) = go (f n) (count_few f n)
  where
    go : (b : Bool) → count n f ≤ n → plus b (count n f) ≤ suc n
    go true h = omega arith
    go false h = omega arith

pub count_all : (f : ℕ → Bool) (n : ℕ) → ((i : ℕ) → i < n → f i ≡ true) → count n f ≡ n
unfolding count
count_all f zero h = refl
count_all f (suc n) h = count_more f n (h n (omega arith)) ∙ ap suc (count_all f n (λ i l. h i (omega arith)))

pub count_zero : (f : ℕ → Bool) (n : ℕ) → ((i : ℕ) → i < n → f i ≡ false) → count n f ≡ 0
unfolding count
count_zero f zero h = refl
count_zero f (suc n) h = count_skip f n (h n (omega arith)) ∙ count_zero f n (λ i l. h i (omega arith))

-- What is counted below n is fewer than n exactly if one does not pass.
pub count_missing : (f : ℕ → Bool) (n i : ℕ) → i < n → f i ≡ false → count n f < n
unfolding count
count_missing f zero i h e = absurd (let z : ⊥ = omega arith in z)
count_missing f (suc n) i h e = go (passes? (f n)) (λ l. count_missing f n i l e)
  where
    go : (f n ≡ true) ⊎ (f n ≡ false) → (i < n → count n f < n) → count (suc n) f < suc n
    go (inr m) ih = omega (arith, count_skip f n m, count_few f n)
    go (inl t) ih =
        ⊎_elim (λ l. omega (arith, count_more f n t, ih l)) (λ (q : i ≡ n). absurd (both_ways (subst (λ (k : ℕ). f k ≡ true) (sym q) t) e)) (below_suc i n h)

-- Where no later number passes than one that does not, the count is where passing ends.
pub count_prefix : (f : ℕ → Bool) (n : ℕ) → ((i j : ℕ) → i ≤ j → j < n → f j ≡ true → f i ≡ true) → (i : ℕ) → i < n → f i ≡ ltb i (count n f)
unfolding count
count_prefix f zero mono i h = absurd (let z : ⊥ = omega arith in z)
count_prefix f (suc n) mono i h = go (passes? (f n)) (λ l. count_prefix f n (λ i j a b. mono i j a (omega arith)) i l)
  where
    go : (f n ≡ true) ⊎ (f n ≡ false) → (i < n → f i ≡ ltb i (count n f)) → f i ≡ ltb i (count (suc n) f)
    go (inl t) ih =
        let all : count (suc n) f ≡ suc n = count_all f (suc n) (λ j l. mono j n (omega arith) (omega arith) t) in
        mono i n (omega arith) (omega arith) t ∙ sym (lt-ltb i (count (suc n) f) (omega arith))
    go (inr m) ih =
        ⊎_elim (λ l. ih l ∙ ap (ltb i) (sym (count_skip f n m)))
        (λ (q : i ≡ n). subst (λ (k : ℕ). f k ≡ false) (sym q) m ∙ sym (le-ltb i (count (suc n) f) (omega (arith, count_skip f n m, count_few f n)))) (below_suc i n h)

pub first_agree : (f g : ℕ → Bool) (n : ℕ) → ((i : ℕ) → i < n → f i ≡ g i) → first n f ≡ first n g
unfolding first
first_agree f g zero h = refl
first_agree f g (suc n) h =
    let a : f n ≡ g n = h n (omega arith) in
    let b : first n f ≡ first n g = first_agree f g n (λ i l. h i (omega arith)) in
    cc

-- The first where none passes, and where the last alone passes.
pub first_of_none : (f : ℕ → Bool) (n : ℕ) → count n f ≡ 0 → first n f ≡ none
unfolding count
first_of_none f n e = go (first n f) refl
  where
    go : (o : Option ℕ) → first n f ≡ o → first n f ≡ none
    go none q = q
    go (some i) q = absurd (count_none f n e i (first_at f n i q).0 (first_at f n i q).1)

pub first_last : (f : ℕ → Bool) (n : ℕ) → count (suc n) f ≡ 1 → f n ≡ true → first (suc n) f ≡ some n
unfolding first or_else if_true
first_last f n e t =
    let z : count n f ≡ 0 = omega (arith, count_more f n t) in
    rw (first_of_none f n z, t)

pub any_agree : (f g : ℕ → Bool) (n : ℕ) → ((i : ℕ) → i < n → f i ≡ g i) → any n f ≡ any n g
unfolding any
any_agree f g zero h = refl
any_agree f g (suc n) h =
    let a : f n ≡ g n = h n (omega arith) in
    let b : any n f ≡ any n g = any_agree f g n (λ i l. h i (omega arith)) in
    cc

pub every_agree : (f g : ℕ → Bool) (n : ℕ) → ((i : ℕ) → i < n → f i ≡ g i) → every n f ≡ every n g
unfolding every
every_agree f g zero h = refl
every_agree f g (suc n) h =
    let a : f n ≡ g n = h n (omega arith) in
    let b : every n f ≡ every n g = every_agree f g n (λ i l. h i (omega arith)) in
    cc

-- Where g passes whatever f does, it counts no fewer, and where it counts no more, f passes whatever g does.
module _ (f g : ℕ → Bool) where
  pub count_within : (n : ℕ) → ((i : ℕ) → i < n → f i ≡ true → g i ≡ true) → count n f ≤ count n g
  unfolding count plus
  count_within zero h = omega arith
  count_within (suc n) h = go (f n) (g n) (h n (omega arith)) (count_within n (λ i l. h i (omega arith)))
    where
      go : (b c : Bool) → (b ≡ true → c ≡ true) → count n f ≤ count n g → plus b (count n f) ≤ plus c (count n g)
      go true true k r = omega arith
      go true false k r = absurd (both_ways (k refl) refl)
      go false true k r = omega arith
      go false false k r = r

  pub count_same : (n : ℕ) → ((i : ℕ) → i < n → f i ≡ true → g i ≡ true) → count n g ≤ count n f → (i : ℕ) → i < n → g i ≡ true → f i ≡ true
  count_same zero h e i l t = absurd (let z : ⊥ = omega arith in z)
  count_same (suc n) h e i l t = go (passes? (f n)) (passes? (g n)) (below_suc i n l) (λ r k. count_same n h' r i k t)
    where
      h' : (i : ℕ) → i < n → f i ≡ true → g i ≡ true
      h' i l = h i (omega arith)

      go : (f n ≡ true) ⊎ (f n ≡ false) → (g n ≡ true) ⊎ (g n ≡ false) → (i < n) ⊎ (i ≡ n) → (count n g ≤ count n f → i < n → f i ≡ true) → f i ≡ true
      go (inl p) q (inr k) r = rw k p
      go (inl p) (inl q) (inl k) r = r (omega (arith, count_more f n p, count_more g n q)) k
      go (inl p) (inr q) (inl k) r = absurd (both_ways (h n (omega arith) p) q)
      go (inr p) (inl q) k r = absurd (let z : ⊥ = omega (arith, count_skip f n p, count_more g n q, count_within n h') in z)
      go (inr p) (inr q) (inl k) r = r (omega (arith, count_skip f n p, count_skip g n q)) k
      go (inr p) (inr q) (inr k) r = absurd (both_ways (rw k at t) q)
