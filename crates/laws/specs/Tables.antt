-- Rows of numbers, one after another in a table.
use Rattle.std.specs.Prelude.{◌≡◌, drop}
use Rattle.std.proofs.Math.Path.{sym, ap, ap₂}
use Rattle.std.proofs.Common.{◌∙◌, mul-zero, ext_get_or, drop-drop}
use mathlib.Core.List.{List, [], ◌++◌}
use Prim.Native.Nat.{ℕ, zero, suc, ◌+◌, ◌*◌, ◌≤◌, ◌<◌}
use Rattle.std.proofs.Math.Nat.{mul-suc}
use native.Mathlib.Omega.{arith}
use Rattle.std.proofs.Math.ListN.{length, get_or, take, length-append, get_or-append}
use Rattle.std.proofs.lemmas.List.Edits.{sets}
use Rattle.std.proofs.Math.Seq.{take-add, get_or-append-add}
use Rattle.laws.specs.Slices.{below_or, length_part, get_d_part, get_d_sets_in}

-- The first k rows.
unfoldable pub rows : (ℕ → List ℕ) → ℕ → List ℕ
rows f zero = []
rows f (suc k) = rows f k ++ f k

-- A row that stands at j is the part of the table there.
pub row_window : (l : List ℕ) (j : ℕ) (row : List ℕ) → j + length row ≤ length l → ((k : ℕ) → k < length row → get_or l (j + k) 0 ≡ get_or row k 0) → take (length row) (drop j l) ≡ row
row_window l j row h a =
    let long : length (take (length row) (drop j l)) ≡ length row = length_part l j (length row) h in
    ext_get_or 0 (take (length row) (drop j l)) row long (λ i b. get_d_part l j (length row) i 0 (omega arith) ∙ a i (omega arith))

-- Rows of k numbers.
module _ (k : ℕ) (f : ℕ → List ℕ) (size : (i : ℕ) → length (f i) ≡ k) where
  -- Those that stand from b on are the part of the table there.
  pub rows_window : (l : List ℕ) (b c : ℕ) → b + k * c ≤ length l → ((i : ℕ) → i < c → (j : ℕ) → j < length (f i) → get_or l (b + k * i + j) 0 ≡ get_or (f i) j 0)
      → take (k * c) (drop b l) ≡ rows f c
  unfolding rows
  rows_window l b zero h a = ap (λ (n : ℕ). take n (drop b l)) (mul-zero k)
  rows_window l b (suc c) h a =
      let e : k * suc c ≡ k * c + k = mul-suc k c in
      let last : take k (drop (b + k * c) l) ≡ f c
      = ap (λ (n : ℕ). take n (drop (b + k * c) l)) (sym (size c)) ∙ row_window l (b + k * c) (f c) (omega (arith, size c)) (a c (omega arith)) in
      ap (λ (n : ℕ). take n (drop b l)) e ∙ take-add (k * c) k (drop b l)
      ∙ ap₂ (λ (x y : List ℕ). x ++ y) (rows_window l b c (omega arith) (λ i d. a i (omega arith))) (ap (take k) (drop-drop (k * c) b l) ∙ last)

  pub rows_length : (c : ℕ) → length (rows f c) ≡ k * c
  unfolding rows
  rows_length zero = sym (mul-zero k)
  rows_length (suc c) = length-append (rows f c) (f c) ∙ ap₂ (λ (x y : ℕ). x + y) (rows_length c) (size c) ∙ sym (mul-suc k c)

  -- What stands in the row i.
  row_end : (i c : ℕ) → i < c → k * i + k ≤ k * c
  row_end i zero h = absurd (let z : ⊥ = omega arith in z)
  row_end i (suc c) h =
      below_or i c
      (λ l. omega (arith, row_end i c l, mul-suc k c))
      (λ l.
      let q : i ≡ c = omega arith in
      let e : k * i ≡ k * c = ap (λ (n : ℕ). k * n) q in
      omega (arith, mul-suc k c))

  pub rows_at : (c i j : ℕ) → i < c → j < k → get_or (rows f c) (k * i + j) 0 ≡ get_or (f i) j 0
  unfolding rows
  rows_at zero i j h l = absurd (let z : ⊥ = omega arith in z)
  rows_at (suc c) i j h l =
      below_or i c
      (λ b. get_or-append (rows f c) (f c) 0 (k * i + j) (omega (arith, row_end i c b, rows_length c)) ∙ rows_at c i j b l)
      (λ b.
      let q : i ≡ c = omega arith in
      let e : k * i + j ≡ length (rows f c) + j = ap (λ (n : ℕ). n + j) (ap (λ (n : ℕ). k * n) q ∙ sym (rows_length c)) in
      ap (λ (n : ℕ). get_or (rows f c ++ f c) n 0) e ∙ get_or-append-add (rows f c) (f c) j 0 ∙ ap (λ (n : ℕ). get_or (f n) j 0) (sym q))

  -- The same in a table into which the rows were stored from b on.
  pub rows_stored : (l : List ℕ) (b c i j : ℕ) → b + k * c ≤ length l → i < c → j < k → get_or (sets l b (rows f c)) (b + (k * i + j)) 0 ≡ get_or (f i) j 0
  rows_stored l b c i j h n m =
      get_d_sets_in (rows f c) l b (k * i + j) 0 (omega (arith, rows_length c)) (omega (arith, row_end i c n, rows_length c)) ∙ rows_at c i j n m
