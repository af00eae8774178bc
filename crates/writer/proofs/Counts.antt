-- How many numbers below n pass, as an iterator counts them.
use mathlib.Core.Path.{◌≡◌, refl, ap, ◌∙◌}
use mathlib.Core.Bool.{Bool, true, false}
use Rattle.std.specs.Prelude.{cond}
use Prim.Native.Nat.{ℕ, zero, suc, ◌+◌}
use native.Mathlib.Numerals.{add-one}
use Rattle.std.proofs.Common.{add-zero}
use native.Mathlib.Omega.{arith}
use Rattle.std.specs.List.{count_by, range_with_len}
use Rattle.std.proofs.lemmas.List.Sums.{sum_by-cons}
use Rattle.laws.specs.Tests.{count, plus}

plus_is : (b : Bool) (k : ℕ) → plus b k ≡ cond b 1 0 + k
unfolding plus
plus_is true k = omega arith
plus_is false k = omega arith

module _ (f : ℕ → Bool) where
  count_suc : (n : ℕ) → count (suc n) f ≡ cond (f n) 1 0 + count n f
  unfolding count
  count_suc n = plus_is (f n) (count n f)

  count_none : count 0 f ≡ 0
  unfolding count
  count_none = refl

  -- The numbers from a on, and those below a.
  count_from : (a n : ℕ) → count_by f (range_with_len a n) + count a f ≡ count (a + n) f
  count_from a zero = omega (arith, ap (λ (k : ℕ). count k f) (add-zero a))
  count_from a (suc n) =
      let next : count_by f (range_with_len a (suc n)) ≡ cond (f a) 1 0 + count_by f (range_with_len (a + 1) n) = sum_by-cons (λ x. cond (f x) 1 0) a (range_with_len (a + 1) n) in
      let one : count (a + 1) f ≡ cond (f a) 1 0 + count a f = ap (λ (k : ℕ). count k f) (add-one a) ∙ count_suc a in
      let more : count (a + 1 + n) f ≡ count (a + suc n) f = ap (λ (k : ℕ). count k f) (omega arith) in
      omega (arith, next, one, more, count_from (a + 1) n)

  pub counted : (r n : ℕ) → r ≡ count_by f (range_with_len 0 n) → r ≡ count n f
  counted r n e =
      let whole : count (0 + n) f ≡ count n f = ap (λ (k : ℕ). count k f) (omega arith) in
      omega (arith, e, count_none, whole, count_from 0 n)
