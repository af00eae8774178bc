-- What `found` says of the first number that passes: 0 where none does, and else 1 + it.
use Rattle.std.specs.Prelude.{◌≡◌, refl, Bool, true, ℕ, ◌-◌, ◌<◌}
use Rattle.std.proofs.Math.Option.{Option, none, some}
use Rattle.std.proofs.Common.{arith}
use Rattle.laws.specs.Tests.{first, found}
use Rattle.laws.specs.TestLaws.{first_at, first_none}

module _ (f : ℕ → Bool) (n : ℕ) where
  -- One is found: it is below n and passes.
  pub found_at : 0 < found (first n f) → (found (first n f) - 1 < n) × (f (found (first n f) - 1) ≡ true)
  found_at h = go (first n f) refl h
    where
      go : (o : Option ℕ) → first n f ≡ o → 0 < found o → (found o - 1 < n) × (f (found o - 1) ≡ true)
      go none e l = absurd (let z : ⊥ = omega arith in z)
      go (some i) e l =
          let r = first_at f n i e in
          let q : i ≡ found (some i) - 1 = omega arith in
          rw (← q) (r.0, r.1)

  -- None is found.
  pub found_none : found (first n f) ≡ 0 → (i : ℕ) → i < n → f i ≡ true → ⊥
  found_none h i l p = go (first n f) refl h
    where
      go : (o : Option ℕ) → first n f ≡ o → found o ≡ 0 → ⊥
      go none e z = first_none f n e i l p
      go (some j) e z = omega arith

  -- None passes: 0 is found.
  pub none_found : ((i : ℕ) → i < n → f i ≡ true → ⊥) → found (first n f) ≡ 0
  none_found h = go (first n f) refl
    where
      go : (o : Option ℕ) → first n f ≡ o → found o ≡ 0
      go none e = refl
      go (some i) e = let r = first_at f n i e in absurd (h i r.0 r.1)
