-- Lists of pairs in which no pair stands twice: such a list is no longer than a list that lists all its pairs.
use Rattle.std.specs.Prelude.{◌≡◌, ◌⊎◌, Bool}
use Rattle.std.proofs.Math.Path.{refl, ap}
use Rattle.std.proofs.Common.{sym, ◌∙◌, inl, inr, ⊎_elim, arith}
use Rattle.std.proofs.Math.Bool.{true, false}
use Rattle.std.proofs.lemmas.Bool.{false≢true}
use mathlib.Core.List.{List, [], ◌∷◌, ◌++◌}
use Prim.Native.Nat.{ℕ, suc, ◌≤◌}
use borrow.Author.Tests.{eqb-true}
use Rattle.std.proofs.Math.Dec.{eqb}
use Rattle.std.proofs.Math.ListN.{length}
use Rattle.laws.specs.Tests.{◌and◌, listed}
use Rattle.laws.specs.TestLaws.{and_left, and_right, or_cases, or_left, or_right, both_ways, fails, listed_append, listed_here, listed_one, Ascending, asc_none, asc_more}
use Rattle.laws.specs.Lists.{none_listed, listed_rest}

-- No pair stands twice.
pub data Once : List (ℕ × ℕ) → Type 0 where
  once_none : Once []
  once_more : {x : ℕ × ℕ} {l : List (ℕ × ℕ)} → listed l x.0 x.1 ≡ false → Once l → Once (x ∷ l)

-- One pair more, that is not listed.
pub once_snoc : {l : List (ℕ × ℕ)} (a b : ℕ) → Once l → listed l a b ≡ false → Once (l ++ ((a, b) ∷ []))
once_snoc a b once_none h = once_more (fails _ (λ t. none_listed a b t)) once_none
once_snoc a b (once_more {x = x} {l = l} u p) h =
    once_more
    (fails _ (λ t. ⊎_elim (λ s. both_ways s u) (λ s. let e = listed_one a b x.0 x.1 s in both_ways (rw (e.0, e.1) (listed_here x.0 x.1 l)) h) (listed_append l _ x.0 x.1 t)))
    (once_snoc a b p (fails _ (λ t. both_ways (listed_rest x l a b t) h)))

-- An ascending list has no pair twice.
pub once_ascending : {l : List (ℕ × ℕ)} → Ascending l → Once l
once_ascending asc_none = once_none
once_ascending (asc_more {x = x} h p) = once_more (fails _ (λ t. ⊎_elim (λ q. omega (arith, q)) (λ q. omega (arith, q.1)) (h x.0 x.1 t))) (once_ascending p)

-- ---- a list without one of its pairs

-- The test for the pair x.
abbrev at : ℕ × ℕ → ℕ × ℕ → Bool
at x y = eqb y.0 x.0 and eqb y.1 x.1

unfoldable without : ℕ × ℕ → List (ℕ × ℕ) → List (ℕ × ℕ)
without x [] = []
without x (y ∷ m) = elim (at x y) [ true ↦ m | false ↦ y ∷ without x m ]

module _ (x : ℕ × ℕ) where
  without_length : (m : List (ℕ × ℕ)) → listed m x.0 x.1 ≡ true → length m ≡ suc (length (without x m))
  unfolding listed without
  without_length [] e = absurd (false≢true e)
  without_length (y ∷ m) e = go (at x y) refl (without_length m) (or_cases _ _ e)
    where
      go : (t : Bool) → at x y ≡ t → (listed m x.0 x.1 ≡ true → length m ≡ suc (length (without x m))) → (at x y ≡ true) ⊎ (listed m x.0 x.1 ≡ true)
          → suc (length m) ≡ suc (length {A = ℕ × ℕ} (elim t [ true ↦ m | false ↦ y ∷ without x m ]))
      go true q r c = refl
      go false q r (inl p) = absurd (both_ways p q)
      go false q r (inr p) = ap suc (r p)

  without_listed : (m : List (ℕ × ℕ)) (a b : ℕ) → listed m a b ≡ true → ((x.0 ≡ a) → (x.1 ≡ b) → ⊥) → listed (without x m) a b ≡ true
  unfolding listed without
  without_listed [] a b e n = e
  without_listed (y ∷ m) a b e n = go (at x y) refl (λ p. without_listed m a b p n) (or_cases _ _ e)
    where
      go : (t : Bool) → at x y ≡ t → (listed m a b ≡ true → listed (without x m) a b ≡ true) → ((eqb y.0 a and eqb y.1 b) ≡ true) ⊎ (listed m a b ≡ true)
          → listed (elim t as (λ _. List (ℕ × ℕ)) [ true ↦ m | false ↦ y ∷ without x m ]) a b ≡ true
      go true q r (inl p) =
          absurd (n (sym (eqb-true _ _ (and_left _ _ q)) ∙ eqb-true _ _ (and_left _ _ p)) (sym (eqb-true _ _ (and_right _ _ q)) ∙ eqb-true _ _ (and_right _ _ p)))
      go true q r (inr p) = p
      go false q r (inl p) = or_left _ p
      go false q r (inr p) = or_right _ (r p)

-- Pairs that stand once, all listed in another list, are no more than that list has.
pub pigeonhole : {l : List (ℕ × ℕ)} (m : List (ℕ × ℕ)) → Once l → ((a b : ℕ) → listed l a b ≡ true → listed m a b ≡ true) → length l ≤ length m
pigeonhole m once_none h = omega arith
pigeonhole m (once_more {x = x} {l = l} u p) h =
    let e : length m ≡ suc (length (without x m)) = without_length x m (h x.0 x.1 (listed_here x.0 x.1 l)) in
    let r = pigeonhole (without x m) p (λ a b t. without_listed x m a b (h a b (listed_rest x l a b t)) (λ i j. both_ways (rw (i, j) t) u)) in
    omega arith
