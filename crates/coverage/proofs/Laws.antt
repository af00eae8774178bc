-- The turns and the returns of this crate's functions: the premises are what the code holds there.
use mathlib.Core.Path.{◌≡◌, refl, sym, ap, ap₂, ◌∙◌}
use mathlib.Core.Bool.{Bool, true, false}
use mathlib.Core.Option.{Option, none, some}
use mathlib.Core.List.{List}
use Prim.Native.Nat.{ℕ, ◌+◌, ◌*◌, ◌/◌, ◌%◌, ◌^◌, ◌≤◌, ◌<◌}
use native.Mathlib.Omega.{arith}
use lib.Bits.{bit_and, and_zero_l, and_zero_r}
use lib.Count.{ones, ones-le, count_trailing_zeros, trailing_le}
use lib.Dec.{eqb}
use lib.ListN.{length, get_or, get_or-eq_default}
use Rattle.laws.specs.Tests.{◌and◌, after, count, first}
use Rattle.laws.specs.Counting.{count_few}
use Rattle.laws.specs.Bits.{bit_at, bit_in, bit_and_lem, count_word, first_word, first_no_word}
use Rattle.laws.specs.BitSets.{bit_in_lem, bit_out, without_in, without_out, word_bit}
use Rattle.std.specs.Prelude.{is_some, Option as CodeOption, Some, None}
use Rattle.coverage.specs.Rows.{edge_bit, edge_found, first_common, row_meets, row_ones, row_words}

-- ---- `covers`, `in_set`, `set_bit`, `clear_bit`, `ones`

pub covers_is : (rows : List ℕ) (i e w : ℕ) → w ≡ get_or rows (16 * i + e / 64) 0 → eqb (w / 2 ^ (e % 64) % 2) 1 ≡ edge_bit rows i e
unfolding edge_bit bit_at
covers_is rows i e w q = ap (λ (n : ℕ). eqb (n / 2 ^ (e % 64) % 2) 1) q

pub set_bit : (set : List ℕ) (e : ℕ) (r : Bool) → r ≡ edge_bit set 0 e → r ≡ bit_in set e
unfolding edge_bit bit_in
set_bit set e r p =
    let q : 16 * 0 + e / 64 ≡ e / 64 = omega arith in
    p ∙ ap (λ (i : ℕ). bit_at (get_or set i 0) (e % 64)) q

-- The word k of a row holds the 64 edges from 64 k on.
row_word : (rows : List ℕ) (i k j : ℕ) → j < 64 → edge_bit rows i (64 * k + j) ≡ bit_at (get_or rows (16 * i + k) 0) j
unfolding edge_bit
row_word rows i k j h =
    let a : (64 * k + j) / 64 ≡ k = omega arith in
    let b : (64 * k + j) % 64 ≡ j = omega arith in
    ap₂ (λ (x y : ℕ). bit_at (get_or rows (16 * i + x) 0) y) a b

module _ (rows : List ℕ) (i k sum : ℕ) (inv : sum ≡ count (64 * k) (edge_bit rows i)) where
  pub ones_room : (w o : ℕ) → k < 16 → w < 2 ^ 64 → o ≡ ones w → sum + o < 2 ^ 64
  ones_room w o h l e = omega (arith, inv, count_few (edge_bit rows i) (64 * k), ones-le 64 w l)

  pub ones_on : (w o : ℕ) → w < 2 ^ 64 → w ≡ get_or rows (16 * i + k) 0 → o ≡ ones w → sum + o ≡ count (64 * (k + 1)) (edge_bit rows i)
  ones_on w o l e f =
      ap₂ (λ (a b : ℕ). a + b) inv f
      ∙ sym (count_word (edge_bit rows i) k w l (λ j h. row_word rows i k j h ∙ ap (λ (x : ℕ). bit_at x j) (sym e)))

  pub ones_done : k ≤ 16 → 16 ≤ k → sum ≡ row_ones rows i
  unfolding row_ones
  ones_done h l = let q : k ≡ 16 = omega arith in inv ∙ ap (λ (n : ℕ). count (64 * n) (edge_bit rows i)) q

pub ones_start : (rows : List ℕ) (i : ℕ) → 0 ≡ count (64 * 0) (edge_bit rows i)
unfolding count
ones_start rows i = refl

pub ruleset counts = (covers_is, set_bit, bit_out, bit_in_lem, without_out, without_in, ones_room, ones_on, ones_done, ones_start)

-- ---- `common_word`

pub row_ended : (row set : List ℕ) (k : ℕ) → length row ≤ k → 0 ≡ bit_and (get_or row k 0) (get_or set k 0)
row_ended row set k h = sym (and_zero_l (get_or set k 0)) ∙ ap (λ (w : ℕ). bit_and w (get_or set k 0)) (sym (get_or-eq_default row 0 h))

pub set_ended : (row set : List ℕ) (k : ℕ) → length set ≤ k → 0 ≡ bit_and (get_or row k 0) (get_or set k 0)
set_ended row set k h = sym (and_zero_r (get_or row k 0)) ∙ ap (λ (w : ℕ). bit_and (get_or row k 0) w) (sym (get_or-eq_default set 0 h))

-- ---- `first_danger`

-- The row and the set both have the edge e.
abbrev both : List ℕ → List ℕ → ℕ → Bool
both row set e = bit_in row e and bit_in set e

-- They have no edge below 64 k in common.
unfoldable pub NoneTo : List ℕ → List ℕ → ℕ → Type 0
NoneTo row set k = first (64 * k) (both row set) ≡ none

pub danger_start : (row set : List ℕ) → NoneTo row set 0
unfolding NoneTo first
danger_start row set = refl

module _ (row set : List ℕ) (k w : ℕ) (inv : NoneTo row set k) (is : w ≡ bit_and (get_or row k 0) (get_or set k 0)) (fits : w < 2 ^ 64) where
  both_word : (j : ℕ) → j < 64 → both row set (64 * k + j) ≡ bit_at w j
  both_word j h =
      ap₂ (λ (x y : Bool). x and y) (word_bit row k j h) (word_bit set k j h)
      ∙ sym (bit_and_lem (get_or row k 0) (get_or set k 0) j)
      ∙ ap (λ (x : ℕ). bit_at x j) (sym is)

  pub danger_found : (z n : ℕ) → k < n → n ≤ 16 → (w ≡ 0 → ⊥) → z ≡ count_trailing_zeros 64 w → edge_found (Some (64 * k + z)) ≡ first_common row set
  unfolding NoneTo first_common
  danger_found z n h l some_bit e = ap (λ (y : ℕ). some (64 * k + y)) e ∙ sym (first_word (both row set) k w fits both_word 16 (omega arith) (omega arith) inv)

  pub danger_on : w ≡ 0 → NoneTo row set (k + 1)
  unfolding NoneTo
  danger_on no_bit = first_no_word (both row set) k w fits both_word no_bit inv

pub danger_room : (k z n w : ℕ) → k < n → n ≤ 16 → z ≡ count_trailing_zeros 64 w → 64 * k + z < 2 ^ 64
danger_room k z n w h l e = omega (arith, trailing_le 64 w)

pub danger_none : (row set : List ℕ) (k : ℕ) → NoneTo row set k → k ≤ 16 → 16 ≤ k → edge_found None ≡ first_common row set
unfolding NoneTo first_common
danger_none row set k inv h l =
    let q : k ≡ 16 = omega arith in
    sym (ap (λ (n : ℕ). first (64 * n) (both row set)) (sym q) ∙ inv)

-- ---- `row_meets`

some_told : (o : CodeOption ℕ) → is_some o ≡ after (edge_found o) false (λ e. true)
some_told (Some e) = refl
some_told None = refl

pub meets_told : (o : CodeOption ℕ) (rows set : List ℕ) (i : ℕ) → edge_found o ≡ first_common (row_words rows i) set → is_some o ≡ row_meets rows set i
unfolding row_meets
meets_told o rows set i searched = some_told o ∙ ap (λ (x : Option ℕ). after x false (λ e. true)) searched

pub ruleset searches = (row_ended, set_ended, danger_start, danger_found, danger_on, danger_room, danger_none, meets_told)

pub ruleset all = (counts, searches)
