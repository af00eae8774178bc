-- What a loop along a chain comes to: a value that each item changes in turn, the latest first; items of another key change nothing.
use Rattle.std.proofs.Math.Path.{◌≡◌, refl, sym, ap}
use Rattle.std.proofs.Common.{◌∙◌, subst}
use Rattle.std.specs.Prelude.{Bool, ◌⊎◌}
use Rattle.std.proofs.Math.Bool.{true, false}
use Rattle.std.proofs.Math.Logic.{inl, inr}
use Prim.Native.Nat.{ℕ, zero, suc, ◌-◌, ◌≤◌, ◌<◌}
use native.Mathlib.Omega.{arith}
use Rattle.laws.specs.Slices.{same_or}
use Rattle.laws.specs.Tests.{◌or◌, any, choose}
use Rattle.laws.specs.TestLaws.{fails, or_swap}
use Rattle.laws.specs.Those.{any_more}
use Rattle.laws.specs.Chain.{Blind, Chained, Left, latest, left_start, left_step}

-- The value x after the first c items, from the last of them down.
unfoldable pub fold : {X : Type 0} → (ℕ → X → X) → ℕ → X → X
fold g zero x = x
fold g (suc c) x = fold g c (g c x)

-- A walk along a's chain, at j: with the value now, the items below j lead to what all c items lead to from the start.
abbrev pub Folded : {X : Type 0} → (ℕ → ℕ) → ℕ → ℕ → (ℕ → X → X) → X → X → ℕ → Type 0
Folded key a c g start now j = Left key a c (fold g c start) (λ i. fold g i now) j

module _ {X : Type 0} {key : ℕ → ℕ} {a : ℕ} (g : ℕ → X → X) (others : (k : ℕ) (x : X) → (key k ≡ a → ⊥) → g k x ≡ x) where
  fold_blind : (x : X) → Blind key a (λ i. fold g i x)
  unfolding Blind fold
  fold_blind x k d = ap (fold g k) (others k x d)

  module _ {n c : ℕ} {tops links : ℕ → ℕ} (ch : Chained key n c tops links) (an : a < n) where
    pub fold_start : (x : X) (j : ℕ) → j ≡ tops a → Folded key a c g x x j
    fold_start x j e = rw e (left_start ch a an (fold_blind x))

    pub fold_step : (start now now' : X) (j next : ℕ) → Folded key a c g start now j → 0 < j → now' ≡ g (j - 1) now → next ≡ links (j - 1) → Folded key a c g start now' next
    unfolding fold
    fold_step start now now' j next w pos e q =
        let s : j ≡ suc (j - 1) = omega arith in
        let t : fold g j now ≡ fold g (j - 1) now' = ap (λ (i : ℕ). fold g i now) s ∙ ap (fold g (j - 1)) (sym e) in
        rw q (left_step ch w pos (fold_blind now') t)

  pub fold_end : (c : ℕ) (start now : X) (j : ℕ) → Folded key a c g start now j → j ≤ 0 → now ≡ fold g c start
  unfolding fold
  fold_end c start now j w z =
      let s : j ≡ 0 = omega arith in
      sym (w.rest ∙ ap (λ (i : ℕ). fold g i now) s)

-- Items that only add something to the value, and nothing where they do not pass.
pub record Adding {X : Type 0} (add : X → Bool → X) : Type 0 where
  pub none : (x : X) → add x false ≡ x
  pub more : (x : X) (b d : Bool) → add (add x b) d ≡ add x (b or d)

module _ {X : Type 0} {add : X → Bool → X} (h : Adding add) (T : ℕ → Bool) where
  pub fold_adds : (c : ℕ) (x : X) → fold (λ k y. add y (T k)) c x ≡ add x (any c T)
  unfolding fold any
  fold_adds zero x = sym (h.none x)
  fold_adds (suc c) x = fold_adds c (add x (T c)) ∙ h.more x (T c) (any c T) ∙ ap (add x) (or_swap (T c) (any c T) ∙ sym (any_more T c))

  pub adds_others : (key : ℕ → ℕ) (a : ℕ) → ((k : ℕ) → T k ≡ true → key k ≡ a) → (k : ℕ) (x : X) → (key k ≡ a → ⊥) → add x (T k) ≡ x
  adds_others key a only k x d = ap (add x) (fails _ (λ t. d (only k t))) ∙ h.none x

-- What each item keeps of the numbers met so far holds of all that are met.
module _ {X : Type 0} (g : ℕ → X → X) (Q : (ℕ → Type 0) → X → Type 0) (meets : ℕ → ℕ → Type 0)
    (keeps : (k : ℕ) (P : ℕ → Type 0) (x : X) → Q P x → Q (λ i. P i ⊎ meets k i) (g k x))
    (agree : (P P' : ℕ → Type 0) (x : X) → ((i : ℕ) → P i → P' i) → ((i : ℕ) → P' i → P i) → Q P x → Q P' x) where
  pub fold_keeps : (c : ℕ) (P : ℕ → Type 0) (x : X) → Q P x → Q (λ i. P i ⊎ ((k : ℕ) × (k < c) × meets k i)) (fold g c x)
  unfolding fold
  fold_keeps zero P x q = agree P _ x (λ i p. inl p) (λ i p. none i p) q
    where
      none : (i : ℕ) → P i ⊎ ((k : ℕ) × (k < 0) × meets k i) → P i
      none i (inl p) = p
      none i (inr m) = absurd (let z : ⊥ = omega (arith, m.1) in z)
  fold_keeps (suc c) P x q = agree _ _ (fold g c (g c x)) there back (fold_keeps c (λ i. P i ⊎ meets c i) (g c x) (keeps c P x q))
    where
      there : (i : ℕ) → (P i ⊎ meets c i) ⊎ ((k : ℕ) × (k < c) × meets k i) → P i ⊎ ((k : ℕ) × (k < suc c) × meets k i)
      there i (inl (inl p)) = inl p
      there i (inl (inr m)) = inr (c, omega arith, m)
      there i (inr m) = inr (m.0, omega (arith, m.1), m.2)

      back : (i : ℕ) → P i ⊎ ((k : ℕ) × (k < suc c) × meets k i) → (P i ⊎ meets c i) ⊎ ((k : ℕ) × (k < c) × meets k i)
      back i (inl p) = inl (inl p)
      back i (inr m) = last i m.0 m.1 m.2
        where
          last : (i k : ℕ) → k < suc c → meets k i → (P i ⊎ meets c i) ⊎ ((k : ℕ) × (k < c) × meets k i)
          last i k l m = same_or k c (λ e. inl (inr (subst (λ (x : ℕ). meets x i) e m))) (λ d. inr (k, omega arith, m))

-- ---- the numbers that pass a test, as a chain

-- The key of such a chain: 0 for those that pass.
unfoldable pub passing : (ℕ → Bool) → ℕ → ℕ
passing T f = choose (T f) 0 1

module _ (T : ℕ → Bool) (f : ℕ) where
  pub passing_at : passing T f ≡ 0 → T f ≡ true
  unfolding passing choose
  passing_at h = go (T f) refl h
    where
      go : (b : Bool) → T f ≡ b → ◌≡◌ {A = ℕ} (choose b 0 1) 0 → T f ≡ true
      go true q z = q
      go false q z = absurd (let y : ⊥ = omega arith in y)

  pub passing_of : T f ≡ true → passing T f ≡ 0
  unfolding passing choose
  passing_of q = rw q refl

pub passing_chain : (T : ℕ → Bool) (c : ℕ) → Chained (passing T) 1 c (λ a. latest (passing T) a c) (λ i. latest (passing T) (passing T i) i)
passing_chain T c = record { top = λ a l. refl; link = λ i l. refl }
