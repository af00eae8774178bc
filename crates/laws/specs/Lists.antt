-- Lists: choices, one element more, ascending lists.
use Rattle.std.specs.Prelude.{◌≡◌, refl, ◌⊎◌, Bool, true, false, List, [], ◌∷◌, ◌++◌, ℕ, zero, suc, ◌≤◌, ◌<◌, length, get_or}
use Rattle.std.proofs.Common.{sym, subst, ⊎_elim, arith, length-append}
use Rattle.std.proofs.lemmas.Bool.{false≢true}
use Rattle.std.proofs.Math.ListN.{get_or-append}
use Rattle.std.proofs.Math.Seq.{get_or-append_seam}
use Rattle.laws.specs.Tests.{choose, count, has, listed, those}
use Rattle.laws.specs.TestLaws.{below_suc, eqb_self, has_append, none_has, one_has, or_left, or_right, those_at}

-- ---- a choice

pub choose_yes {ℓ} : {A : Type ℓ} {b : Bool} (x y : A) → b ≡ true → choose b x y ≡ x
unfolding choose
choose_yes x y e = rw e

pub choose_no {ℓ} : {A : Type ℓ} {b : Bool} (x y : A) → b ≡ false → choose b x y ≡ y
unfolding choose
choose_no x y e = rw e

-- ---- a list with one more

module _ {A : Type 0} (d : A) (l : List A) (x : A) where
  pub snoc_length : length (l ++ (x ∷ [])) ≡ suc (length l)
  snoc_length = omega (arith, length-append l (x ∷ []))

  pub snoc_cases : (n : ℕ) → n < length (l ++ (x ∷ [])) → (n < length l) ⊎ (n ≡ length l)
  snoc_cases n h = below_suc n (length l) (omega (arith, snoc_length))

  pub snoc_old : (n : ℕ) → n < length l → get_or (l ++ (x ∷ [])) n d ≡ get_or l n d
  snoc_old n h = get_or-append l (x ∷ []) d n h

  pub snoc_new : get_or (l ++ (x ∷ [])) (length l) d ≡ x
  snoc_new = get_or-append_seam l x [] d

  -- What holds of each element and of one more holds of each element of the longer list.
  pub snoc_all : (P : A → Type 0) → ((n : ℕ) → n < length l → P (get_or l n d)) → P x → (n : ℕ) → n < length (l ++ (x ∷ [])) → P (get_or (l ++ (x ∷ [])) n d)
  snoc_all P h q n i =
      ⊎_elim (λ k. subst P (sym (snoc_old n k)) (h n k)) (λ (k : n ≡ length l). subst (λ (m : ℕ). P (get_or (l ++ (x ∷ [])) m d)) (sym k) (subst P (sym snoc_new) q)) (snoc_cases n i)

-- Tests that agree below n count the same.
pub count_agree : (f g : ℕ → Bool) (n : ℕ) → ((i : ℕ) → i < n → f i ≡ g i) → count n f ≡ count n g
unfolding count
count_agree f g zero h = refl
count_agree f g (suc n) h =
    let a : f n ≡ g n = h n (omega arith) in
    let b : count n f ≡ count n g = count_agree f g n (λ i l. h i (omega arith)) in
    cc

-- ---- rising lists of numbers

-- Each number is below all those after it.
pub data Rising : List ℕ → Type 0 where
  rise_none : Rising []
  rise_more : {x : ℕ} {l : List ℕ} → ((n : ℕ) → has l n ≡ true → x < n) → Rising l → Rising (x ∷ l)

pub has_first : (x : ℕ) (l : List ℕ) → has (x ∷ l) x ≡ true
unfolding has
has_first x l = or_left _ (eqb_self x)

pub has_rest : (x : ℕ) (l : List ℕ) (n : ℕ) → has l n ≡ true → has (x ∷ l) n ≡ true
unfolding has
has_rest x l n h = or_right _ h

pub rise_append : {l m : List ℕ} → Rising l → Rising m → ((a b : ℕ) → has l a ≡ true → has m b ≡ true → a < b) → Rising (l ++ m)
rise_append rise_none q h = q
rise_append {m = m} (rise_more {x = x} {l = l} f p) q h =
    rise_more (λ n t. ⊎_elim (f n) (λ u. h x n (has_first x l) u) (has_append l m n t)) (rise_append p q (λ a b t u. h a b (has_rest x l a t) u))

pub those_rise : (f : ℕ → Bool) (n : ℕ) → Rising (those n f)
unfolding those
those_rise f zero = rise_none
those_rise f (suc n) = go (f n) (those_rise f n)
  where
    go : (b : Bool) → Rising (those n f) → Rising (elim b [ true ↦ those n f ++ (n ∷ []) | false ↦ those n f ])
    go true r = rise_append r (rise_more (λ k t. absurd (none_has k t)) rise_none) (λ a b t u. omega (arith, (those_at f n a t).0, one_has n b u))
    go false r = r

pub those_few : (f : ℕ → Bool) (n : ℕ) → length (those n f) ≤ n
unfolding those
those_few f zero = omega arith
those_few f (suc n) = go (f n) (those_few f n)
  where
    go : (b : Bool) → length (those n f) ≤ n → length {A = ℕ} (elim b [ true ↦ those n f ++ (n ∷ []) | false ↦ those n f ]) ≤ suc n
    go true h = omega (arith, length-append (those n f) (n ∷ []))
    go false h = omega arith

pub none_listed : (a b : ℕ) → listed [] a b ≡ true → ⊥
unfolding listed
none_listed a b e = false≢true e

pub listed_rest : (x : ℕ × ℕ) (l : List (ℕ × ℕ)) (n k : ℕ) → listed l n k ≡ true → listed (x ∷ l) n k ≡ true
unfolding listed
listed_rest x l n k h = or_right _ h
