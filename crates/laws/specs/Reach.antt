-- What is reached from some numbers by a relation: the smallest set that has them and, with a number, those to which it leads; the same by computation, for numbers below n.
use Rattle.std.specs.Prelude.{◌≡◌, Bool}
use Rattle.std.proofs.Math.Path.{refl}
use Rattle.std.proofs.Common.{ap, arith, eqb-true}
use Rattle.std.proofs.Math.Logic.{⊎_elim}
use Rattle.std.proofs.Math.Bool.{true, false}
use mathlib.Core.List.{List}
use Prim.Native.Nat.{ℕ, zero, suc, ◌+◌, ◌≤◌, ◌<◌}
use Rattle.std.proofs.Math.Dec.{eqb}
use Rattle.std.proofs.Math.ListN.{length}
use Rattle.std.proofs.lemmas.Bool.{eqb-false}
use Rattle.laws.specs.Tests.{◌or◌, count, has, any_of, those}
use Rattle.laws.specs.TestLaws.{or_cases, or_left, or_right, passes?, same_test, those_of, those_at, any_of_of, any_of_at}
use Rattle.laws.specs.Lists.{Rising, those_few, those_rise}
use Rattle.laws.specs.Counting.{count_missing, count_same, count_within}
use Rattle.laws.specs.Those.{those_count, those_agree}

-- ---- the smallest set

pub data Reached (First : ℕ → Type 0) (Leads : ℕ → ℕ → Type 0) : ℕ → Type 0 where
  among_first : {a : ℕ} → First a → Reached First Leads a
  led_to : {a b : ℕ} → Reached First Leads a → Leads a b → Reached First Leads b

-- ---- by computation

module _ (n : ℕ) (leads : ℕ → ℕ → Bool) where
  -- The list with the numbers below n to which one of it leads, ascending.
  unfoldable pub spread : List ℕ → List ℕ
  spread l = those n (λ b. has l b or any_of (λ a. leads a b) l)

  -- The list spread until a round adds nothing, at most k times.
  unfoldable pub spreads : ℕ → List ℕ → List ℕ
  spreads zero l = l
  spreads (suc k) l = elim (eqb (length (spread l)) (length l)) [ true ↦ l | false ↦ spreads k (spread l) ]

  -- The numbers below n that are reached from those that pass `first`, ascending.
  unfoldable pub reached : (ℕ → Bool) → List ℕ
  reached first = spreads n (those n first)

-- ---- laws

module _ (n : ℕ) (leads : ℕ → ℕ → Bool) where
  -- The test that gives the spread list, where f gives the list.
  abbrev wider : (ℕ → Bool) → ℕ → Bool
  wider f b = has (those n f) b or any_of (λ a. leads a b) (those n f)

  -- What one round more comes to.
  round : (P : List ℕ → Type 0) (k : ℕ) (f : ℕ → Bool) → (length (those n (wider f)) ≡ length (those n f) → P (those n f))
      → ((length (those n (wider f)) ≡ length (those n f) → ⊥) → P (spreads n leads k (those n (wider f)))) → P (spreads n leads (suc k) (those n f))
  unfolding spreads spread
  round P k f stays on = go (eqb (length (those n (wider f))) (length (those n f))) refl
    where
      go : (t : Bool) → eqb (length (those n (wider f))) (length (those n f)) ≡ t
          → P (elim t as (λ _. List ℕ) [ true ↦ those n f | false ↦ spreads n leads k (those n (wider f)) ])
      go true e = stays (eqb-true _ _ e)
      go false e = on (eqb-false _ _ e)

  -- With a number the list has those below n to which it leads.
  Stable : List ℕ → Type 0
  Stable l = (a b : ℕ) → has l a ≡ true → b < n → leads a b ≡ true → has l b ≡ true

  spreads_stable : (k : ℕ) (f : ℕ → Bool) → n ≤ k + count n f → Stable (spreads n leads k (those n f))
  unfolding spreads Stable
  spreads_stable zero f h = λ a b t l s. ⊎_elim (λ p. those_of f n b l p) (λ p. absurd (let z : ⊥ = omega (arith, count_missing f n b l p) in z)) (passes? (f b))
  spreads_stable (suc k) f h =
      round Stable k f
      (λ (e : length (those n (wider f)) ≡ length (those n f)) a b t l s.
      those_of f n b l (count_same f (wider f) n within (omega (arith, those_count f n, those_count (wider f) n)) b l (or_right _ (any_of_of (λ a. leads a b) (those n f) a t s))))
      (λ (e : length (those n (wider f)) ≡ length (those n f) → ⊥). spreads_stable k (wider f) (more e (those_count f n) (those_count (wider f) n) (count_within f (wider f) n within) h))
    where
      within : (i : ℕ) → i < n → f i ≡ true → wider f i ≡ true
      within i l p = or_left _ (those_of f n i l p)

      more : (length (those n (wider f)) ≡ length (those n f) → ⊥) → length (those n f) ≡ count n f → length (those n (wider f)) ≡ count n (wider f) → count n f ≤ count n (wider f)
          → n ≤ suc k + count n f → n ≤ k + count n (wider f)
      more e p q r h = omega arith

  -- The list is one that a test gives.
  spreads_those : (k : ℕ) (f : ℕ → Bool) → (g : ℕ → Bool) × (spreads n leads k (those n f) ≡ those n g)
  unfolding spreads
  spreads_those zero f = (f, refl)
  spreads_those (suc k) f = round (λ l. (g : ℕ → Bool) × (l ≡ those n g)) k f (λ e. (f, refl)) (λ e. spreads_those k (wider f))

  -- What is spread is there still; nothing is there but what is reached.
  spreads_keeps : (k : ℕ) (f : ℕ → Bool) (i : ℕ) → i < n → f i ≡ true → has (spreads n leads k (those n f)) i ≡ true
  unfolding spreads
  spreads_keeps zero f i l p = those_of f n i l p
  spreads_keeps (suc k) f i l p =
      round (λ m. has m i ≡ true) k f (λ e. those_of f n i l p) (λ e. spreads_keeps k (wider f) i l (or_left _ (those_of f n i l p)))

  module _ (P : ℕ → Type 0) (onward : (a b : ℕ) → P a → b < n → leads a b ≡ true → P b) where
    spreads_only : (k : ℕ) (f : ℕ → Bool) → ((i : ℕ) → i < n → f i ≡ true → P i) → (i : ℕ) → has (spreads n leads k (those n f)) i ≡ true → P i
    unfolding spreads
    spreads_only zero f h = λ i t. let r = those_at f n i t in h i r.0 r.1
    spreads_only (suc k) f h =
        round (λ m. (i : ℕ) → has m i ≡ true → P i) k f (λ e i t. let r = those_at f n i t in h i r.0 r.1)
        (λ e. spreads_only k (wider f) (λ i l t.
        ⊎_elim (λ u. let r = those_at f n i u in h i r.0 r.1)
        (λ u. let r = any_of_at (λ a. leads a i) (those n f) u in let s = those_at f n r.0 r.1 in onward r.0 i (h r.0 s.0 s.1) l r.2) (or_cases _ _ t)))

  module _ (first : ℕ → Bool) where
    pub reached_first : (i : ℕ) → i < n → first i ≡ true → has (reached n leads first) i ≡ true
    unfolding reached
    reached_first i l p = spreads_keeps n first i l p

    pub reached_onward : (a b : ℕ) → has (reached n leads first) a ≡ true → b < n → leads a b ≡ true → has (reached n leads first) b ≡ true
    unfolding reached Stable
    reached_onward = spreads_stable n first (omega arith)

    pub reached_below : (i : ℕ) → has (reached n leads first) i ≡ true → i < n
    unfolding reached
    reached_below i t = let r = spreads_those n first in (those_at r.0 n i (rw r.1 at t)).0

    pub reached_rise : Rising (reached n leads first)
    unfolding reached
    reached_rise = let r = spreads_those n first in rw r.1 (those_rise r.0 n)

    pub reached_few : length (reached n leads first) ≤ n
    unfolding reached
    reached_few = let r = spreads_those n first in rw r.1 (those_few r.0 n)

    -- What holds of the first and, with a number, of those to which it leads, holds of all that are reached.
    pub reached_only : (P : ℕ → Type 0) → ((i : ℕ) → i < n → first i ≡ true → P i) → ((a b : ℕ) → P a → b < n → leads a b ≡ true → P b)
        → (i : ℕ) → has (reached n leads first) i ≡ true → P i
    unfolding reached
    reached_only P h onward = spreads_only P onward n first h

    -- Any test that passes the first, with a number those to which it leads, and none but what is reached, gives the list: what a worklist has to keep.
    pub reached_found : (f : ℕ → Bool) → ((i : ℕ) → i < n → first i ≡ true → f i ≡ true) → ((a b : ℕ) → a < n → f a ≡ true → b < n → leads a b ≡ true → f b ≡ true)
        → ((i : ℕ) → i < n → f i ≡ true → has (reached n leads first) i ≡ true) → those n f ≡ reached n leads first
    unfolding reached
    reached_found f h onward sound =
        let r = spreads_those n first in
        let back : (i : ℕ) → has (reached n leads first) i ≡ true → (i < n) × (f i ≡ true)
        = reached_only (λ i. (i < n) × (f i ≡ true)) (λ i l p. (l, h i l p)) (λ a b p l t. (l, onward a b p.0 p.1 l t)) in
        rw r.1 (those_agree f r.0 n (λ i l. same_test _ _ (λ t. (those_at r.0 n i (rw r.1 at (sound i l t))).1) (λ t. (back i (rw r.1 (those_of r.0 n i l t))).1)))

-- Tests that agree below n give the same list.
pub reached_agree : (n : ℕ) (leads : ℕ → ℕ → Bool) (f g : ℕ → Bool) → ((i : ℕ) → i < n → f i ≡ g i) → reached n leads f ≡ reached n leads g
unfolding reached
reached_agree n leads f g h = ap (spreads n leads n) (those_agree f g n h)

-- By computation just what is reached, where `first` and `leads` test First and Leads, which give numbers below n.
pub reached_iff : (n : ℕ) (leads : ℕ → ℕ → Bool) (first : ℕ → Bool) (First : ℕ → Type 0) (Leads : ℕ → ℕ → Type 0)
    → ((i : ℕ) → i < n → first i ≡ true → First i) → ((i : ℕ) → First i → (i < n) × (first i ≡ true))
    → ((a b : ℕ) → a < n → b < n → leads a b ≡ true → Leads a b) → ((a b : ℕ) → a < n → Leads a b → (b < n) × (leads a b ≡ true))
    → (i : ℕ) → (has (reached n leads first) i ≡ true → Reached First Leads i) × (Reached First Leads i → has (reached n leads first) i ≡ true)
reached_iff n leads first First Leads f f' l l' i = (
  λ t. (reached_only n leads first (λ i. (i < n) × Reached First Leads i) (λ i b p. (b, among_first (f i b p))) (λ a b p q t. (q, led_to p.1 (l a b p.0 q t))) i t).1,
  there,
)
  where
    there : {i : ℕ} → Reached First Leads i → has (reached n leads first) i ≡ true
    there (among_first p) = let r = f' _ p in reached_first n leads first _ r.0 r.1
    there (led_to p q) =
        let t = there p in
        let r = l' _ _ (reached_below n leads first _ t) q in
        reached_onward n leads first _ _ t r.0 r.1
