-- More laws of tests over the numbers below n: one more for `any`; what `those` has, and how many it has.
use Rattle.std.specs.Prelude.{◌≡◌, Bool, List, [], ◌∷◌, ◌++◌}
use Rattle.std.proofs.Math.Path.{refl, ap}
use Rattle.std.proofs.Common.{ap₂, ◌∙◌, true≢false, arith}
use Rattle.std.proofs.Math.Bool.{true, false}
use Prim.Native.Nat.{ℕ, zero, suc, ◌<◌}
use Rattle.std.proofs.Math.ListN.{length}
use Rattle.laws.specs.Tests.{◌or◌, any, count, has, plus, those}
use Rattle.laws.specs.TestLaws.{same_test, those_at, those_of}
use Rattle.laws.specs.Lists.{snoc_length}

module _ (f : ℕ → Bool) where
  pub any_more : (n : ℕ) → any (suc n) f ≡ (any n f or f n)
  unfolding any
  any_more n = refl

  pub any_skip : (n : ℕ) → f n ≡ false → any (suc n) f ≡ any n f
  unfolding any ◌or◌
  any_skip n p = go (any n f) (f n) p
    where
      go : (a b : Bool) → b ≡ false → (a or b) ≡ a
      go a true q = absurd (true≢false q)
      go true false q = refl
      go false false q = refl

  -- `those` has a number exactly if it is below n and passes.
  pub those_has : (n i : ℕ) → i < n → has (those n f) i ≡ f i
  those_has n i h = same_test _ _ (λ t. (those_at f n i t).1) (λ t. those_of f n i h t)

  -- It has as many as are counted.
  pub those_count : (n : ℕ) → length (those n f) ≡ count n f
  unfolding those count plus
  those_count zero = refl
  those_count (suc n) = go (f n) (those_count n)
    where
      go : (b : Bool) → length (those n f) ≡ count n f → length {A = ℕ} (elim b [ true ↦ those n f ++ (n ∷ []) | false ↦ those n f ]) ≡ plus b (count n f)
      go true e = snoc_length 0 (those n f) n ∙ ap suc e
      go false e = e

-- Tests that agree below n give the same numbers.
pub those_agree : (f g : ℕ → Bool) (n : ℕ) → ((i : ℕ) → i < n → f i ≡ g i) → those n f ≡ those n g
unfolding those
those_agree f g zero h = refl
those_agree f g (suc n) h =
    ap₂ (λ (b : Bool) (l : List ℕ). elim b [ true ↦ l ++ (n ∷ []) | false ↦ l ]) (h n (omega arith)) (those_agree f g n (λ i l. h i (omega arith)))
