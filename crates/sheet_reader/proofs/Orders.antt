-- Lists that rise: the least number behind them, one number more; and numbers as they are kept.
use mathlib.Core.Path.{◌≡◌, refl, sym, ap, ap₂, ◌∙◌}
use mathlib.Core.Logic.{◌⊎◌, inl, inr}
use mathlib.Core.Bool.{Bool, true, false}
use mathlib.Core.List.{List, [], ◌∷◌, ◌++◌}
use Prim.Native.Nat.{ℕ, ◌+◌, ◌*◌, ◌≤◌, ◌<◌, min}
use native.Mathlib.Omega.{arith}
use lib.Dec.{eqb, leb, ltb}
use lib.ListN.{length}
use borrow.Author.Tests.{eq-eqb, eqb-true, le-leb, le-ltb, lt-leb, lt-ltb, ltb-true, ne_eqb}
use Rattle.laws.specs.Tests.{◌and◌, ◌or◌, all_pairs, has, none?}
use Rattle.laws.specs.TestLaws.{and_assoc, and_both, and_ends, and_left, and_not, and_right, or_cases, or_left, or_right, same_test}
use Rattle.laws.specs.Slices.{below_or, same_or}
use Rattle.rules.specs.Sheet.{all_below, before}
use Rattle.pairset.specs.StoreLaws.{all_pairs_snoc}
use Rattle.sheet_reader.specs.Reading.{PairsUpTo, UpTo}

-- Where the first test passes, the second may be another that agrees.
pub and_when : (a b d : Bool) → (a ≡ true → b ≡ d) → (a and b) ≡ (a and d)
unfolding ◌and◌
and_when true b d h = h refl
and_when false b d h = refl

-- ---- the least number behind a list, with one number more: one law for pairs, edges and tests

next_more : (k v u : ℕ) → k ≤ v → (leb k u and ltb v u) ≡ leb (v + 1) u
next_more k v u h =
    below_or v u
    (λ l. ap₂ (λ (x y : Bool). x and y) (le-leb k u (omega arith)) (lt-ltb v u l) ∙ and_ends true ∙ sym (le-leb (v + 1) u (omega arith)))
    (λ l. ap (λ (y : Bool). leb k u and y) (le-ltb v u l) ∙ and_not (leb k u) ∙ sym (lt-leb (v + 1) u (omega arith)))

below_snoc : (l : List ℕ) (x n : ℕ) → all_below (l ++ (x ∷ [])) n ≡ (all_below l n and ltb x n)
unfolding all_below ◌and◌
below_snoc [] x n = and_ends (ltb x n)
below_snoc (y ∷ l) x n = ap (λ (t : Bool). ltb y n and t) (below_snoc l x n) ∙ and_assoc (ltb y n) (all_below l n) (ltb x n)

pub up_none : UpTo [] 0
unfolding UpTo all_below
up_none v = sym (le-leb 0 v (omega arith))

pub up_more : (l : List ℕ) (k v : ℕ) → UpTo l k → k ≤ v → UpTo (l ++ (v ∷ [])) (v + 1)
unfolding UpTo
up_more l k v h b u = below_snoc l v u ∙ ap (λ (t : Bool). t and ltb v u) (h u) ∙ next_more k v u b

before_is : (a b n k : ℕ) → b < 512 → k < 512 → before a b n k ≡ ltb (512 * n + k) (512 * a + b)
unfolding before
before_is a b n k h l =
    same_test _ _
    (λ t. lt-ltb (512 * n + k) (512 * a + b) (there (or_cases _ _ t)))
    (λ t. below_or n a
    (λ q. or_left _ (lt-ltb n a q))
    (λ q.
    let z : 512 * n + k < 512 * a + b = ltb-true _ _ t in
    or_right _ (and_both (eq-eqb n a (omega arith)) (lt-ltb k b (omega arith)))))
  where
    there : (ltb n a ≡ true) ⊎ ((eqb n a and ltb k b) ≡ true) → 512 * n + k < 512 * a + b
    there (inl p) = let q : n < a = ltb-true n a p in omega arith
    there (inr p) =
        let q : n ≡ a = eqb-true n a (and_left _ _ p) in
        let z : k < b = ltb-true k b (and_right _ _ p) in
        omega arith

pub pairs_up_none : PairsUpTo [] 0
unfolding PairsUpTo all_pairs
pairs_up_none a b h = sym (le-leb 0 (512 * a + b) (omega arith))

pub pairs_up_more : (l : List (ℕ × ℕ)) (k a b : ℕ) → PairsUpTo l k → b < 512 → k ≤ 512 * a + b → PairsUpTo (l ++ ((a, b) ∷ [])) (512 * a + b + 1)
unfolding PairsUpTo
pairs_up_more l k a b h s e c d m =
    all_pairs_snoc (a, b) (before c d) l
    ∙ ap₂ (λ (x y : Bool). x and y) (h c d m) (before_is c d a b m s)
    ∙ next_more k (512 * a + b) (512 * c + d) e

-- ---- one number more in a list

pub has_snoc : (l : List ℕ) (x n : ℕ) → has (l ++ (x ∷ [])) n ≡ (eqb x n or has l n)
unfolding has ◌or◌
has_snoc [] x n = refl
has_snoc (y ∷ l) x n = ap (λ (t : Bool). eqb y n or t) (has_snoc l x n) ∙ swap (eqb y n) (eqb x n) (has l n)
  where
    swap : (a b c : Bool) → (a or b or c) ≡ (b or a or c)
    swap true true c = refl
    swap true false c = refl
    swap false true c = refl
    swap false false c = refl

-- A list has no element.
pub none_is : {A : Type 0} (l : List A) → eqb (length l) 0 ≡ none? l
unfolding none?
none_is [] = refl
none_is (x ∷ l) = ne_eqb (length (x ∷ l)) 0 (λ e. let z : ⊥ = omega arith in z)

-- ---- a number as it is kept: one above 65,536 counts as 65,536

-- Below its bound it is itself.
module _ (v m : ℕ) (few : m ≤ 65536) where
  pub kept_below : ltb (min v 65536) m ≡ ltb v m
  kept_below =
      below_or v m
      (λ h. lt-ltb (min v 65536) m (omega arith) ∙ sym (lt-ltb v m h))
      (λ h. le-ltb (min v 65536) m (omega arith) ∙ sym (le-ltb v m h))

  pub kept_is : min v 65536 < m → min v 65536 ≡ v
  kept_is h = omega arith

pub kept_same : (v m : ℕ) → m < 65536 → eqb (min v 65536) m ≡ eqb v m
kept_same v m few =
    same_or v m
    (λ e. eq-eqb (min v 65536) m (omega arith) ∙ sym (eq-eqb v m e))
    (λ e. ne_eqb (min v 65536) m (λ q. e (omega arith)) ∙ sym (ne_eqb v m e))
