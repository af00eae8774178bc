-- What the tests of `Tests` say where they pass. `x_at` takes a fact out of a passed test, and `x_of` proves that a test passes.
use Rattle.std.proofs.Math.Path.{◌≡◌, refl, sym}
use Rattle.std.proofs.Common.{ap, ◌∙◌, inl, inr, eqb-true, eq-eqb}
use Rattle.std.specs.Prelude.{◌⊎◌, Bool}
use Rattle.std.proofs.Math.Logic.{⊎_elim}
use Rattle.std.proofs.Math.Bool.{true, false, true≢false}
use Rattle.std.proofs.lemmas.Bool.{false≢true}
use Rattle.std.proofs.Math.Option.{Option, none, some}
use mathlib.Core.List.{List, [], ◌∷◌, ◌++◌}
use Prim.Native.Nat.{ℕ, zero, suc, ◌≤◌, ◌<◌}
use native.Mathlib.Omega.{arith}
use Rattle.std.proofs.Math.Decide.{dec_lt}
use Rattle.std.proofs.Math.Dec.{eqb}
use Rattle.std.proofs.Math.ListN.{length}
use Rattle.laws.specs.Tests.{◌and◌, ◌or◌, ◌⇒◌, isnt, every, any, or_else, if_true, first, plus, count, those, has, any_of, listed, all_pairs, any_pair, keep, pick, grid_row, grid, first_failed, found, some?}

pub and_left : (a b : Bool) → (a and b) ≡ true → a ≡ true
unfolding ◌and◌
and_left true b e = refl
and_left false b e = e

pub and_right : (a b : Bool) → (a and b) ≡ true → b ≡ true
unfolding ◌and◌
and_right true b e = e
and_right false b e = absurd (false≢true e)

pub and_both : {a b : Bool} → a ≡ true → b ≡ true → (a and b) ≡ true
unfolding ◌and◌
and_both {a = true} p q = q
and_both {a = false} p q = p

pub or_cases : (a b : Bool) → (a or b) ≡ true → (a ≡ true) ⊎ (b ≡ true)
unfolding ◌or◌
or_cases true b e = inl refl
or_cases false b e = inr e

pub or_left : {a : Bool} (b : Bool) → a ≡ true → (a or b) ≡ true
unfolding ◌or◌
or_left {a = true} b e = refl
or_left {a = false} b e = absurd (false≢true e)

pub or_right : (a : Bool) {b : Bool} → b ≡ true → (a or b) ≡ true
unfolding ◌or◌
or_right true e = refl
or_right false e = e

-- A test with one that always passes, or never does; three tests in a row.
pub and_ends : (b : Bool) → (b and true) ≡ b
unfolding ◌and◌
and_ends true = refl
and_ends false = refl

pub yes_and : {a : Bool} (b : Bool) → a ≡ true → (a and b) ≡ b
unfolding ◌and◌
yes_and b e = ap (λ (a : Bool). a and b) e

pub and_not : (b : Bool) → (b and false) ≡ false
unfolding ◌and◌
and_not true = refl
and_not false = refl

pub and_assoc : (a b d : Bool) → (a and b and d) ≡ ((a and b) and d)
unfolding ◌and◌
and_assoc true b d = refl
and_assoc false b d = refl

pub or_ends : (b : Bool) → (b or false) ≡ b
unfolding ◌or◌
or_ends true = refl
or_ends false = refl

pub or_none : (a : Bool) {b : Bool} → b ≡ false → (a or b) ≡ a
unfolding ◌or◌
or_none true e = refl
or_none false e = e

pub or_assoc : (a b d : Bool) → (a or b or d) ≡ ((a or b) or d)
unfolding ◌or◌
or_assoc true b d = refl
or_assoc false b d = refl

pub or_swap : (a b : Bool) → (a or b) ≡ (b or a)
unfolding ◌or◌
or_swap true true = refl
or_swap true false = refl
or_swap false true = refl
or_swap false false = refl

-- What the second test says where the first passes, and the other way.
pub implied : (a b : Bool) → (a ⇒ b) ≡ true → a ≡ true → b ≡ true
unfolding ◌⇒◌
implied true b e p = e
implied false b e p = absurd (false≢true p)

pub implies : (a b : Bool) → (a ≡ true → b ≡ true) → (a ⇒ b) ≡ true
unfolding ◌⇒◌
implies true b f = f refl
implies false b f = refl

-- Why two tests do not both pass, or the second does not where the first does.
pub and_fails : (a b : Bool) → (a and b) ≡ false → (a ≡ false) ⊎ (b ≡ false)
unfolding ◌and◌
and_fails true b e = inr e
and_fails false b e = inl refl

pub unimplied : (a b : Bool) → (a ⇒ b) ≡ false → (a ≡ true) × (b ≡ false)
unfolding ◌⇒◌
unimplied true b e = (refl, e)
unimplied false b e = absurd (true≢false e)

-- There is one.
pub some_at : (o : Option ℕ) → some? o ≡ true → (i : ℕ) × (o ≡ some i)
unfolding some?
some_at none e = absurd (false≢true e)
some_at (some i) e = (i, refl)

pub some_of : {o : Option ℕ} {i : ℕ} → o ≡ some i → some? o ≡ true
unfolding some?
some_of e = rw e

pub some_none : (o : Option ℕ) → some? o ≡ false → o ≡ none
unfolding some?
some_none none e = refl
some_none (some i) e = absurd (true≢false e)

pub isnt_true : (a : Bool) → isnt a ≡ true → a ≡ false
unfolding isnt
isnt_true true e = absurd (false≢true e)
isnt_true false e = refl

pub isnt_false : (a : Bool) → isnt a ≡ false → a ≡ true
unfolding isnt
isnt_false true e = refl
isnt_false false e = absurd (true≢false e)

pub true_isnt : {a : Bool} → a ≡ false → isnt a ≡ true
unfolding isnt
true_isnt {a = true} e = absurd (true≢false e)
true_isnt {a = false} e = refl

pub false_isnt : {a : Bool} → a ≡ true → isnt a ≡ false
unfolding isnt
false_isnt {a = true} e = refl
false_isnt {a = false} e = absurd (false≢true e)

pub both_ways : {a : Bool} → a ≡ true → a ≡ false → ⊥
both_ways p q = true≢false (sym p ∙ q)

-- A test passes or fails.
pub passes? : (a : Bool) → (a ≡ true) ⊎ (a ≡ false)
passes? true = inl refl
passes? false = inr refl

-- What a failed test is, where passing it is absurd.
pub fails : (a : Bool) → (a ≡ true → ⊥) → a ≡ false
fails true h = absurd (h refl)
fails false h = refl

-- Two tests are equal where each passes if the other does.
pub same_test : (a b : Bool) → (a ≡ true → b ≡ true) → (b ≡ true → a ≡ true) → a ≡ b
same_test true b f g = sym (f refl)
same_test false true f g = g refl
same_test false false f g = refl

pub eqb_self : (n : ℕ) → eqb n n ≡ true
eqb_self n = eq-eqb n n refl

-- ---- the numbers below n

pub below_suc : (i n : ℕ) → i < suc n → (i < n) ⊎ (i ≡ n)
below_suc i n h = go (dec_lt i n)
  where
    go : Dec (i < n) → (i < n) ⊎ (i ≡ n)
    go (yes l) = inl l
    go (no l) = inr (omega arith)

not_below_zero : (i : ℕ) → i < 0 → ⊥
not_below_zero i h = omega arith

module _ (f : ℕ → Bool) where
  pub every_at : (n : ℕ) → every n f ≡ true → (i : ℕ) → i < n → f i ≡ true
  unfolding every
  every_at zero e i h = absurd (not_below_zero i h)
  every_at (suc n) e i h = ⊎_elim (every_at n (and_left _ _ e) i) (λ p. rw p (and_right _ _ e)) (below_suc i n h)

  pub every_of : (n : ℕ) → ((i : ℕ) → i < n → f i ≡ true) → every n f ≡ true
  unfolding every
  every_of zero h = refl
  every_of (suc n) h = and_both (every_of n (λ i l. h i (omega arith))) (h n (omega arith))

  pub every_not : (n : ℕ) → every n f ≡ false → (i : ℕ) × (i < n) × (f i ≡ false)
  unfolding every
  every_not zero e = absurd (true≢false e)
  every_not (suc n) e =
      ⊎_elim (λ p. let r = every_not n p in (r.0, omega (arith, r.1), r.2)) (λ p. (n, omega arith, p)) (and_fails _ _ e)

  pub any_at : (n : ℕ) → any n f ≡ true → (i : ℕ) × (i < n) × (f i ≡ true)
  unfolding any
  any_at zero e = absurd (false≢true e)
  any_at (suc n) e = ⊎_elim (λ p. let r = any_at n p in (r.0, omega (arith, r.1), r.2)) (λ p. (n, omega arith, p)) (or_cases _ _ e)

  pub any_of_lem : (n i : ℕ) → i < n → f i ≡ true → any n f ≡ true
  unfolding any
  any_of_lem zero i h e = absurd (not_below_zero i h)
  any_of_lem (suc n) i h e = ⊎_elim (λ l. or_left _ (any_of_lem n i l e)) (λ p. or_right _ (rw p at e)) (below_suc i n h)

  pub any_none : (n : ℕ) → any n f ≡ false → (i : ℕ) → i < n → f i ≡ true → ⊥
  any_none n e i h p = both_ways (any_of_lem n i h p) e

  -- What `first` finds is below n and passes.
  pub first_at : (n i : ℕ) → first n f ≡ some i → (i < n) × (f i ≡ true)
  unfolding first or_else if_true
  first_at zero i e = absurd (true≢false (let z : true ≡ false = cc in z))
  first_at (suc n) i e = go (first n f) (first_at n i) (f n) refl e
    where
      go : (o : Option ℕ) → (o ≡ some i → (i < n) × (f i ≡ true)) → (b : Bool) → f n ≡ b → or_else o (if_true b n) ≡ some i
          → (i < suc n) × (f i ≡ true)
      go none h true p q = let t : n ≡ i = cc in (omega arith, rw (← t) p)
      go none h false p q = absurd (true≢false (let z : true ≡ false = cc in z))
      go (some j) h b p q = (omega (arith, (h q).0), (h q).1)

  -- `first` finds one where one passes.
  pub first_none : (n : ℕ) → first n f ≡ none → (i : ℕ) → i < n → f i ≡ true → ⊥
  unfolding first or_else if_true
  first_none zero e i h p = not_below_zero i h
  first_none (suc n) e i h p = go (first n f) (first_none n) (f n) refl e (below_suc i n h)
    where
      go : (o : Option ℕ) → (o ≡ none → (j : ℕ) → j < n → f j ≡ true → ⊥) → (b : Bool) → f n ≡ b → or_else o (if_true b n) ≡ none
          → (i < n) ⊎ (i ≡ n) → ⊥
      go none k b q r (inl l) = k refl i l p
      go none k true q r (inr l) = true≢false (let z : true ≡ false = cc in z)
      go none k false q r (inr l) = true≢false (let z : true ≡ false = cc in z)
      go (some j) k b q r l = true≢false (let z : true ≡ false = cc in z)

  -- Below what `first` finds none passes.
  pub first_low : (n i : ℕ) → first n f ≡ some i → (j : ℕ) → j < i → f j ≡ true → ⊥
  unfolding first or_else if_true
  first_low zero i e j h p = absurd (true≢false (let z : true ≡ false = cc in z))
  first_low (suc n) i e j h p = go (first n f) refl (first_low n i) (f n) e
    where
      go : (o : Option ℕ) → first n f ≡ o → (o ≡ some i → (k : ℕ) → k < i → f k ≡ true → ⊥) → (b : Bool) → or_else o (if_true b n) ≡ some i → ⊥
      go none q l true r = let t : n ≡ i = cc in first_none n q j (omega arith) p
      go none q l false r = true≢false (let z : true ≡ false = cc in z)
      go (some k) q l b r = l r j h p

  -- `first` finds the only number that passes.
  pub first_only : (n i : ℕ) → i < n → f i ≡ true → ((j : ℕ) → j < n → f j ≡ true → j ≡ i) → first n f ≡ some i
  first_only n i h p only = go (first n f) refl
    where
      go : (o : Option ℕ) → first n f ≡ o → first n f ≡ some i
      go none e = absurd (first_none n e i h p)
      go (some j) e = e ∙ ap {B = Option ℕ} some (only j (first_at n j e).0 (first_at n j e).1)

  -- `first` finds the first number that passes.
  pub first_least : (n i : ℕ) → i < n → f i ≡ true → first i f ≡ none → first n f ≡ some i
  unfolding first or_else if_true
  first_least zero i h p e = absurd (not_below_zero i h)
  first_least (suc n) i h p e = ⊎_elim (λ l. rw (first_least n i l p e)) (λ (l : i ≡ n). rw (← l, e, p)) (below_suc i n h)

  -- One number more: it changes nothing where it does not pass, and of all where it passes.
  pub first_skip : (n : ℕ) → f n ≡ false → first (suc n) f ≡ first n f
  unfolding first or_else if_true
  first_skip n p = go (first n f) (f n) p
    where
      go : (o : Option ℕ) (b : Bool) → b ≡ false → or_else o (if_true b n) ≡ o
      go o true q = absurd (true≢false q)
      go none false q = refl
      go (some i) false q = refl

  pub count_skip : (n : ℕ) → f n ≡ false → count (suc n) f ≡ count n f
  unfolding count plus
  count_skip n p = rw p

  pub count_more : (n : ℕ) → f n ≡ true → count (suc n) f ≡ suc (count n f)
  unfolding count plus
  count_more n p = rw p

  pub every_skip : (n : ℕ) → f n ≡ true → every (suc n) f ≡ every n f
  unfolding every ◌and◌
  every_skip n p = go (every n f) (f n) p
    where
      go : (a b : Bool) → b ≡ true → (a and b) ≡ a
      go a false q = absurd (false≢true q)
      go true true q = refl
      go false true q = refl

  pub count_none : (n : ℕ) → count n f ≡ 0 → (i : ℕ) → i < n → f i ≡ true → ⊥
  unfolding count plus
  count_none zero e i h p = not_below_zero i h
  count_none (suc n) e i h p = go (f n) refl e (λ r l. count_none n r i l p) (below_suc i n h)
    where
      go : (b : Bool) → f n ≡ b → plus b (count n f) ≡ 0 → (count n f ≡ 0 → i < n → ⊥) → (i < n) ⊎ (i ≡ n) → ⊥
      go true q r k l = omega arith
      go false q r k (inl l) = k r l
      go false q r k (inr l) = true≢false (let z : true ≡ false = cc in z)

  -- Where one number below n passes, there is one, and no other.
  pub count_one : (n : ℕ) → count n f ≡ 1 → (i : ℕ) × (i < n) × (f i ≡ true) × ((j : ℕ) → j < n → f j ≡ true → j ≡ i)
  unfolding count plus
  count_one zero e = absurd (true≢false (let z : ◌≡◌ {A = ℕ} 0 1 = e in absurd (let b : ⊥ = omega arith in b)))
  count_one (suc n) e = go (f n) refl e (λ r. count_one n r)
    where
      go : (b : Bool) → f n ≡ b → plus b (count n f) ≡ 1
          → (count n f ≡ 1 → (i : ℕ) × (i < n) × (f i ≡ true) × ((j : ℕ) → j < n → f j ≡ true → j ≡ i))
          → (i : ℕ) × (i < suc n) × (f i ≡ true) × ((j : ℕ) → j < suc n → f j ≡ true → j ≡ i)
      go true q r k = (n, omega arith, q, λ j l p. ⊎_elim (λ m. absurd (count_none n (omega arith) j m p)) (λ m. m) (below_suc j n l))
      go false q r k =
          let t = k r in
          (t.0, omega (arith, t.1), t.2, λ j l p. ⊎_elim (λ m. t.3 j m p) (λ (m : j ≡ n). absurd (both_ways (rw m at p) q)) (below_suc j n l))

-- ---- lists of numbers

pub has_append_left : (l k : List ℕ) (n : ℕ) → has l n ≡ true → has (l ++ k) n ≡ true
unfolding has
has_append_left [] k n e = absurd (false≢true e)
has_append_left (x ∷ l) k n e = ⊎_elim (λ p. or_left _ p) (λ p. or_right _ (has_append_left l k n p)) (or_cases _ _ e)

pub has_append_right : (l k : List ℕ) (n : ℕ) → has k n ≡ true → has (l ++ k) n ≡ true
unfolding has
has_append_right [] k n e = e
has_append_right (x ∷ l) k n e = or_right _ (has_append_right l k n e)

pub has_append : (l k : List ℕ) (n : ℕ) → has (l ++ k) n ≡ true → (has l n ≡ true) ⊎ (has k n ≡ true)
unfolding has
has_append [] k n e = inr e
has_append (x ∷ l) k n e =
    ⊎_elim (λ p. inl (or_left _ p)) (λ p. ⊎_elim (λ q. inl (or_right _ q)) (λ q. inr q) (has_append l k n p)) (or_cases _ _ e)

pub has_here : (n : ℕ) → has (n ∷ []) n ≡ true
unfolding has
has_here n = or_left _ (eqb_self n)

pub none_has : (i : ℕ) → has [] i ≡ true → ⊥
unfolding has
none_has i e = false≢true e

pub one_has : (j i : ℕ) → has (j ∷ []) i ≡ true → j ≡ i
unfolding has
one_has j i e = ⊎_elim (λ p. eqb-true j i p) (λ p. absurd (false≢true p)) (or_cases _ _ e)

pub any_of_of : (f : ℕ → Bool) (l : List ℕ) (n : ℕ) → has l n ≡ true → f n ≡ true → any_of f l ≡ true
unfolding has any_of
any_of_of f [] n e p = e
any_of_of f (x ∷ l) n e p = ⊎_elim (λ q. or_left _ (rw (eqb-true x n q) p)) (λ q. or_right _ (any_of_of f l n q p)) (or_cases _ _ e)

pub any_of_at : (f : ℕ → Bool) (l : List ℕ) → any_of f l ≡ true → (n : ℕ) × (has l n ≡ true) × (f n ≡ true)
unfolding has any_of
any_of_at f [] e = absurd (false≢true e)
any_of_at f (x ∷ l) e =
    ⊎_elim (λ q. (x, or_left _ (eqb_self x), q)) (λ q. let r = any_of_at f l q in (r.0, or_right _ r.1, r.2)) (or_cases _ _ e)

-- `those` has just the numbers below n that pass.
pub those_of : (f : ℕ → Bool) (n i : ℕ) → i < n → f i ≡ true → has (those n f) i ≡ true
unfolding those
those_of f zero i h p = absurd (not_below_zero i h)
those_of f (suc n) i h p = go (f n) refl (those_of f n i) (below_suc i n h)
  where
    go : (b : Bool) → f n ≡ b → (i < n → f i ≡ true → has (those n f) i ≡ true) → (i < n) ⊎ (i ≡ n)
        → has (elim b [ true ↦ those n f ++ (n ∷ []) | false ↦ those n f ]) i ≡ true
    go true q k (inl l) = has_append_left (those n f) (n ∷ []) i (k l p)
    go true q k (inr l) = has_append_right (those n f) (n ∷ []) i (rw l (has_here n))
    go false q k (inl l) = k l p
    go false q k (inr l) = absurd (both_ways (rw l at p) q)

pub those_at : (f : ℕ → Bool) (n i : ℕ) → has (those n f) i ≡ true → (i < n) × (f i ≡ true)
unfolding those has
those_at f zero i h = absurd (false≢true h)
those_at f (suc n) i h = go (f n) refl (those_at f n i) h
  where
    go : (b : Bool) → f n ≡ b → (has (those n f) i ≡ true → (i < n) × (f i ≡ true))
        → has (elim b [ true ↦ those n f ++ (n ∷ []) | false ↦ those n f ]) i ≡ true → (i < suc n) × (f i ≡ true)
    go true q k e =
        ⊎_elim (λ r. (omega (arith, (k r).0), (k r).1))
        (λ r. ⊎_elim (λ s. let t : n ≡ i = eqb-true n i s in (omega arith, rw (← t) q)) (λ s. absurd (false≢true s)) (or_cases _ _ r))
        (has_append (those n f) (n ∷ []) i e)
    go false q k e = (omega (arith, (k e).0), (k e).1)

-- ---- lists of pairs of numbers

pub listed_here : (n k : ℕ) (l : List (ℕ × ℕ)) → listed ((n, k) ∷ l) n k ≡ true
unfolding listed
listed_here n k l = or_left _ (and_both (eqb_self n) (eqb_self k))

listed_append_left : (l m : List (ℕ × ℕ)) (n k : ℕ) → listed l n k ≡ true → listed (l ++ m) n k ≡ true
unfolding listed
listed_append_left [] m n k e = absurd (false≢true e)
listed_append_left (x ∷ l) m n k e = ⊎_elim (λ p. or_left _ p) (λ p. or_right _ (listed_append_left l m n k p)) (or_cases _ _ e)

listed_append_right : (l m : List (ℕ × ℕ)) (n k : ℕ) → listed m n k ≡ true → listed (l ++ m) n k ≡ true
unfolding listed
listed_append_right [] m n k e = e
listed_append_right (x ∷ l) m n k e = or_right _ (listed_append_right l m n k e)

pub listed_append : (l m : List (ℕ × ℕ)) (n k : ℕ) → listed (l ++ m) n k ≡ true → (listed l n k ≡ true) ⊎ (listed m n k ≡ true)
unfolding listed
listed_append [] m n k e = inr e
listed_append (x ∷ l) m n k e =
    ⊎_elim (λ p. inl (or_left _ p)) (λ p. ⊎_elim (λ q. inl (or_right _ q)) (λ q. inr q) (listed_append l m n k p)) (or_cases _ _ e)

module _ (f : ℕ → ℕ → Bool) where
  -- f at a pair whose parts are tested equal to n and k
  at_equal : (x : ℕ × ℕ) (n k : ℕ) → (eqb x.0 n and eqb x.1 k) ≡ true → f x.0 x.1 ≡ f n k
  at_equal x n k e =
      let p : x.0 ≡ n = eqb-true _ _ (and_left _ _ e) in
      let q : x.1 ≡ k = eqb-true _ _ (and_right _ _ e) in
      cc

  pub all_pairs_at : (l : List (ℕ × ℕ)) → all_pairs f l ≡ true → (n k : ℕ) → listed l n k ≡ true → f n k ≡ true
  unfolding all_pairs listed
  all_pairs_at [] e n k h = absurd (false≢true h)
  all_pairs_at (x ∷ l) e n k h =
      ⊎_elim (λ p. sym (at_equal x n k p) ∙ and_left _ _ e) (λ p. all_pairs_at l (and_right _ _ e) n k p) (or_cases _ _ h)

  pub all_pairs_of : (l : List (ℕ × ℕ)) → ((n k : ℕ) → listed l n k ≡ true → f n k ≡ true) → all_pairs f l ≡ true
  unfolding all_pairs listed
  all_pairs_of [] h = refl
  all_pairs_of (x ∷ l) h =
      and_both (h x.0 x.1 (or_left _ (and_both (eqb_self x.0) (eqb_self x.1)))) (all_pairs_of l (λ n k p. h n k (or_right _ p)))

  pub any_pair_at : (l : List (ℕ × ℕ)) → any_pair f l ≡ true → (n : ℕ) × (k : ℕ) × (listed l n k ≡ true) × (f n k ≡ true)
  unfolding any_pair listed
  any_pair_at [] e = absurd (false≢true e)
  any_pair_at (x ∷ l) e =
      ⊎_elim (λ p. (x.0, x.1, or_left _ (and_both (eqb_self x.0) (eqb_self x.1)), p))
      (λ p. let r = any_pair_at l p in (r.0, r.1, or_right _ r.2, r.3))
      (or_cases _ _ e)

  pub any_pair_of : (l : List (ℕ × ℕ)) (n k : ℕ) → listed l n k ≡ true → f n k ≡ true → any_pair f l ≡ true
  unfolding any_pair listed
  any_pair_of [] n k h e = h
  any_pair_of (x ∷ l) n k h e = ⊎_elim (λ p. or_left _ (at_equal x n k p ∙ e)) (λ p. or_right _ (any_pair_of l n k p e)) (or_cases _ _ h)

  pub pick_of : (l : List (ℕ × ℕ)) (n k : ℕ) → listed l n k ≡ true → f n k ≡ true → listed (pick f l) n k ≡ true
  unfolding pick listed
  pick_of [] n k h e = h
  pick_of (x ∷ l) n k h e = go (f x.0 x.1) refl (λ p. pick_of l n k p e) (or_cases _ _ h)
    where
      go : (b : Bool) → f x.0 x.1 ≡ b → (listed l n k ≡ true → listed (pick f l) n k ≡ true)
          → ((eqb x.0 n and eqb x.1 k) ≡ true) ⊎ (listed l n k ≡ true) → listed (keep b x (pick f l)) n k ≡ true
      go true q r (inl p) = or_left _ p
      go true q r (inr p) = or_right _ (r p)
      go false q r (inl p) = absurd (both_ways (at_equal x n k p ∙ e) q)
      go false q r (inr p) = r p

  pub pick_at : (l : List (ℕ × ℕ)) (n k : ℕ) → listed (pick f l) n k ≡ true → (listed l n k ≡ true) × (f n k ≡ true)
  unfolding pick listed
  pick_at [] n k h = absurd (false≢true h)
  pick_at (x ∷ l) n k h = go (f x.0 x.1) refl (pick_at l n k) h
    where
      go : (b : Bool) → f x.0 x.1 ≡ b → (listed (pick f l) n k ≡ true → (listed l n k ≡ true) × (f n k ≡ true))
          → listed (keep b x (pick f l)) n k ≡ true → (listed (x ∷ l) n k ≡ true) × (f n k ≡ true)
      go true q r e =
          ⊎_elim (λ p. (or_left _ p, sym (at_equal x n k p) ∙ q)) (λ p. (or_right _ (r p).0, (r p).1)) (or_cases _ _ e)
      go false q r e = (or_right _ (r e).0, (r e).1)

grid_row_of : (n b k : ℕ) → k < b → listed (grid_row n b) n k ≡ true
unfolding grid_row
grid_row_of n zero k h = absurd (not_below_zero k h)
grid_row_of n (suc b) k h =
    ⊎_elim (λ l. listed_append_left (grid_row n b) _ n k (grid_row_of n b k l)) (λ l. listed_append_right (grid_row n b) _ n k (rw l (listed_here n b []))) (below_suc k b h)

grid_row_at : (n b m k : ℕ) → listed (grid_row n b) m k ≡ true → (n ≡ m) × (k < b)
unfolding grid_row listed
grid_row_at n zero m k h = absurd (false≢true h)
grid_row_at n (suc b) m k h =
    ⊎_elim (λ p. let r = grid_row_at n b m k p in (r.0, omega (arith, r.1)))
    (λ p. ⊎_elim
    (λ q. let t : b ≡ k = eqb-true b k (and_right _ _ q) in (eqb-true n m (and_left _ _ q), omega arith))
    (λ q. absurd (false≢true q))
    (or_cases _ _ p))
    (listed_append (grid_row n b) _ m k h)

-- The grid has just the pairs of a number below a and one below b.
pub grid_of : (a b n k : ℕ) → n < a → k < b → listed (grid a b) n k ≡ true
unfolding grid
grid_of zero b n k h l = absurd (not_below_zero n h)
grid_of (suc a) b n k h l =
    ⊎_elim (λ p. listed_append_left (grid a b) _ n k (grid_of a b n k p l)) (λ p. listed_append_right (grid a b) _ n k (rw p (grid_row_of a b k l))) (below_suc n a h)

pub grid_at : (a b n k : ℕ) → listed (grid a b) n k ≡ true → (n < a) × (k < b)
unfolding grid listed
grid_at zero b n k h = absurd (false≢true h)
grid_at (suc a) b n k h =
    ⊎_elim (λ p. let r = grid_at a b n k p in (omega (arith, r.0), r.1))
    (λ p. let r = grid_row_at a b n k p in (omega (arith, r.0), r.1))
    (listed_append (grid a b) _ n k h)

-- Picking by a weaker test picks no fewer, and where it picks as many, it picks the same.
module _ (f g : ℕ → ℕ → Bool) where
  pub pick_more : (l : List (ℕ × ℕ)) → ((n k : ℕ) → listed l n k ≡ true → f n k ≡ true → g n k ≡ true) → length (pick f l) ≤ length (pick g l)
  unfolding pick listed
  pick_more [] h = omega arith
  pick_more (x ∷ l) h =
      go (f x.0 x.1) (g x.0 x.1) (h x.0 x.1 (or_left _ (and_both (eqb_self x.0) (eqb_self x.1)))) (pick_more l (λ n k p. h n k (or_right _ p)))
    where
      go : (b c : Bool) → (b ≡ true → c ≡ true) → length (pick f l) ≤ length (pick g l)
          → length (keep b x (pick f l)) ≤ length (keep c x (pick g l))
      go true true i r = omega arith
      go true false i r = absurd (false≢true (i refl))
      go false true i r = omega arith
      go false false i r = r

  pub pick_same : (l : List (ℕ × ℕ)) → ((n k : ℕ) → listed l n k ≡ true → f n k ≡ true → g n k ≡ true) → length (pick g l) ≤ length (pick f l)
      → (n k : ℕ) → listed l n k ≡ true → g n k ≡ true → f n k ≡ true
  unfolding pick listed
  pick_same [] h e n k i p = absurd (false≢true i)
  pick_same (x ∷ l) h e n k i p =
      let h' : (n k : ℕ) → listed l n k ≡ true → f n k ≡ true → g n k ≡ true = λ n k q. h n k (or_right _ q) in
      let m : length (pick f l) ≤ length (pick g l) = pick_more l h' in
      go (f x.0 x.1) (g x.0 x.1) refl refl (h x.0 x.1 (or_left _ (and_both (eqb_self x.0) (eqb_self x.1)))) e m (λ q j. pick_same l h' q n k j p) (or_cases _ _ i)
    where
      go : (b c : Bool) → f x.0 x.1 ≡ b → g x.0 x.1 ≡ c → (f x.0 x.1 ≡ true → g x.0 x.1 ≡ true)
          → length (keep c x (pick g l)) ≤ length (keep b x (pick f l))
          → length (pick f l) ≤ length (pick g l)
          → (length (pick g l) ≤ length (pick f l) → listed l n k ≡ true → f n k ≡ true)
          → ((eqb x.0 n and eqb x.1 k) ≡ true) ⊎ (listed l n k ≡ true) → f n k ≡ true
      go true c u v w q m r (inl j) = sym (at_equal f x n k j) ∙ u
      go true true u v w q m r (inr j) = r (omega arith) j
      go true false u v w q m r (inr j) = absurd (both_ways (w u) v)
      go false true u v w q m r j = absurd (let z : ⊥ = omega arith in z)
      go false false u v w q m r (inl j) = absurd (both_ways (at_equal g x n k j ∙ p) v)
      go false false u v w q m r (inr j) = r q j

-- What is picked of a list is no longer than it, and where it is as long, all of it is picked.
pub pick_short : (f : ℕ → ℕ → Bool) (l : List (ℕ × ℕ)) → length (pick f l) ≤ length l
unfolding pick
pick_short f [] = omega arith
pick_short f (x ∷ l) = go (f x.0 x.1) (pick_short f l)
  where
    go : (b : Bool) → length (pick f l) ≤ length l → length (keep b x (pick f l)) ≤ suc (length l)
    go true r = omega arith
    go false r = omega arith

pub pick_all : (f : ℕ → ℕ → Bool) (l : List (ℕ × ℕ)) → length l ≤ length (pick f l) → (n k : ℕ) → listed l n k ≡ true → f n k ≡ true
unfolding pick listed
pick_all f [] e n k i = absurd (false≢true i)
pick_all f (x ∷ l) e n k i = go (f x.0 x.1) refl e (pick_short f l) (λ q j. pick_all f l q n k j) (or_cases _ _ i)
  where
    go : (b : Bool) → f x.0 x.1 ≡ b → suc (length l) ≤ length (keep b x (pick f l)) → length (pick f l) ≤ length l
        → (length l ≤ length (pick f l) → listed l n k ≡ true → f n k ≡ true)
        → ((eqb x.0 n and eqb x.1 k) ≡ true) ⊎ (listed l n k ≡ true) → f n k ≡ true
    go true u q m r (inl j) = sym (at_equal f x n k j) ∙ u
    go true u q m r (inr j) = r (omega arith) j
    go false u q m r j = absurd (let z : ⊥ = omega arith in z)

-- ---- ascending lists of pairs

-- The pair x stands before the pair y: by the first number, then by the second.
abbrev pub Before : ℕ × ℕ → ℕ × ℕ → Type 0
Before x y = (x.0 < y.0) ⊎ ((x.0 ≡ y.0) × (x.1 < y.1))

-- The list is ascending, with no pair twice: each pair stands before all those after it.
pub data Ascending : List (ℕ × ℕ) → Type 0 where
  asc_none : Ascending []
  asc_more : {x : ℕ × ℕ} {l : List (ℕ × ℕ)} → ((n k : ℕ) → listed l n k ≡ true → Before x (n, k)) → Ascending l → Ascending (x ∷ l)

pub asc_append : {l m : List (ℕ × ℕ)} → Ascending l → Ascending m → ((a b n k : ℕ) → listed l a b ≡ true → listed m n k ≡ true → Before (a, b) (n, k)) → Ascending (l ++ m)
unfolding listed
asc_append asc_none q h = q
asc_append {m = m} (asc_more {x = x} {l = l} f p) q h =
    asc_more (λ n k t. ⊎_elim (f n k) (λ u. h x.0 x.1 n k (or_left _ (and_both (eqb_self x.0) (eqb_self x.1))) u) (listed_append l m n k t))
    (asc_append p q (λ a b n k t u. h a b n k (or_right _ t) u))

pub asc_one : (n k : ℕ) → Ascending ((n, k) ∷ [])
unfolding listed
asc_one n k = asc_more (λ a b t. absurd (false≢true t)) asc_none

pub listed_one : (n k a b : ℕ) → listed ((n, k) ∷ []) a b ≡ true → (n ≡ a) × (k ≡ b)
unfolding listed
listed_one n k a b t = ⊎_elim (λ u. (eqb-true _ _ (and_left _ _ u), eqb-true _ _ (and_right _ _ u))) (λ u. absurd (false≢true u)) (or_cases _ _ t)

grid_row_ascends : (n b : ℕ) → Ascending (grid_row n b)
unfolding grid_row
grid_row_ascends n zero = asc_none
grid_row_ascends n (suc b) =
    asc_append (grid_row_ascends n b) (asc_one n b)
    (λ a c x y t u.
    let r = grid_row_at n b a c t in
    let s = listed_one n b x y u in
    inr (sym r.0 ∙ s.0, omega (arith, r.1, s.1)))

pub grid_ascends : (a b : ℕ) → Ascending (grid a b)
unfolding grid
grid_ascends zero b = asc_none
grid_ascends (suc a) b =
    asc_append (grid_ascends a b) (grid_row_ascends a b)
    (λ n k x y t u.
    let r = grid_at a b n k t in
    let s = grid_row_at a b x y u in
    inl (omega (arith, r.0, s.0)))

-- What is picked of an ascending list is ascending.
pub pick_ascends : (f : ℕ → ℕ → Bool) {l : List (ℕ × ℕ)} → Ascending l → Ascending (pick f l)
unfolding pick
pick_ascends f asc_none = asc_none
pick_ascends f (asc_more {x = x} {l = l} h p) = go (f x.0 x.1) (pick_ascends f p)
  where
    go : (b : Bool) → Ascending (pick f l) → Ascending (keep b x (pick f l))
    go true q = asc_more (λ n k t. h n k (pick_at f l n k t).0) q
    go false q = q

-- Counted from 1, an answer of 0 says that the first test and the rest pass.
pub failed_none : (k : ℕ) (b : Bool) (l : List Bool) → first_failed (suc k) (b ∷ l) ≡ 0 → (b ≡ true) × (first_failed (suc (suc k)) l ≡ 0)
unfolding first_failed
failed_none k true l e = (refl, e)
failed_none k false l e = absurd (let z : ⊥ = omega arith in z)

pub none_left : (k : ℕ) → first_failed k [] ≡ 0
unfolding first_failed
none_left k = refl

pub none_failed : (k : ℕ) {b : Bool} (l : List Bool) → b ≡ true → first_failed (suc k) l ≡ 0 → first_failed k (b ∷ l) ≡ 0
unfolding first_failed
none_failed k {b = true} l p e = e
none_failed k {b = false} l p e = absurd (false≢true p)

-- ---- nothing below 0; one that is found

pub none_below : {X : Type 0} (n : ℕ) → n < 0 → X
none_below n h = absurd (not_below_zero n h)

pub found_some : (o : Option ℕ) → 0 < found o → (i : ℕ) × (o ≡ some i)
found_some none h = absurd (not_below_zero 0 h)
found_some (some i) h = (i, refl)
