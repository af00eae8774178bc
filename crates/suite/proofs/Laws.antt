-- The turns and the returns of this crate's functions, as `search` finds them: the premises are what the code holds there.
use mathlib.Core.Path.{◌≡◌, refl, sym, ap, ap₂, ◌∙◌}
use mathlib.Core.Bool.{Bool, true}
use mathlib.Core.List.{List, [], ◌∷◌}
use Prim.Native.Nat.{ℕ, zero, suc, ◌+◌, ◌-◌, ◌*◌, ◌/◌, ◌≤◌, ◌<◌}
use native.Mathlib.Nat.{add-zero}
use native.Mathlib.Omega.{arith}
use lib.ListN.{length, get_or, take, drop, set}
use lib.Seq.{sets, set_out, drop-drop, take-nil}
use Rattle.laws.specs.TestLaws.{and_both, and_left, and_right}
use Rattle.laws.specs.Slices.{drop_end, sets_more, part_short}
use Rattle.laws.specs.Bits.{word_of, words_of}
use Rattle.rules.specs.Text.{Bytes, all_bytes}
use Rattle.rules.specs.SuiteFile.{bits_of, hex_byte, hex_value, odd}
use Rattle.suite.specs.Tables.{stored_row}

-- ---- `put_word`

-- A word past the end is not stored.
pub word_out : (s : List ℕ) (i v : ℕ) → length s ≤ i → s ≡ set s i v
word_out s i v h = sym (set_out s i v h)

pub ruleset words = (word_out)

-- ---- digits

-- The digits of a row are digits wherever they stand.
pub digit_at : (s : Bytes) (i : ℕ) → all_bytes hex_byte s ≡ true → i < length s → hex_byte (get_or s i 0) ≡ true
unfolding all_bytes
digit_at [] i e h = absurd (let z : ⊥ = omega arith in z)
digit_at (x ∷ s) zero e h = and_left _ _ e
digit_at (x ∷ s) (suc i) e h = digit_at s i (and_right _ _ e) (omega arith)

pub all_drop : (s : Bytes) (n : ℕ) → all_bytes hex_byte s ≡ true → all_bytes hex_byte (drop n s) ≡ true
unfolding all_bytes
all_drop s zero e = e
all_drop [] (suc n) e = e
all_drop (x ∷ s) (suc n) e = all_drop s n (and_right _ _ e)

all_take : (s : Bytes) (n : ℕ) → all_bytes hex_byte s ≡ true → all_bytes hex_byte (take n s) ≡ true
unfolding all_bytes
all_take s zero e = refl
all_take [] (suc n) e = refl
all_take (x ∷ s) (suc n) e = and_both (and_left _ _ e) (all_take s n (and_right _ _ e))

pub digits_part : (s r : Bytes) (i n : ℕ) → all_bytes hex_byte s ≡ true → r ≡ take n (drop i s) → all_bytes hex_byte r ≡ true
digits_part s r i n e q = ap (all_bytes hex_byte) q ∙ all_take (drop i s) n (all_drop s i e)

pub digit_before : (s : Bytes) (i : ℕ) → all_bytes hex_byte s ≡ true → 0 < i → i ≤ length s → hex_byte (get_or s (i - 1) 0) ≡ true
digit_before s i e h k = digit_at s (i - 1) e (omega arith)

pub ruleset packs = (digit_at, digits_part, digit_before)

-- ---- `store_row`

take_bits : (n : ℕ) (s : Bytes) → take (4 * n) (bits_of s) ≡ bits_of (take n s)
unfolding bits_of
take_bits zero s = refl
take_bits (suc n) [] = take-nil (4 * suc n)
take_bits (suc n) (x ∷ s) =
    let e : 4 * suc n ≡ suc (suc (suc (suc (4 * n)))) = omega arith in
    ap (λ (k : ℕ). take k (bits_of (x ∷ s))) e
    ∙ ap (λ (l : List Bool). odd (hex_value x / 8) ∷ odd (hex_value x / 4) ∷ odd (hex_value x / 2) ∷ odd (hex_value x) ∷ l) (take_bits n s)

pub drop_bits : (n : ℕ) (s : Bytes) → drop (4 * n) (bits_of s) ≡ bits_of (drop n s)
unfolding bits_of
drop_bits zero s = refl
drop_bits (suc n) [] = drop_end [] (4 * suc n) (omega arith)
drop_bits (suc n) (x ∷ s) =
    let e : 4 * suc n ≡ suc (suc (suc (suc (4 * n)))) = omega arith in
    ap (λ (k : ℕ). drop k (bits_of (x ∷ s))) e ∙ drop_bits n s

words_more : (n k : ℕ) (row : Bytes) → words_of (suc n) (bits_of (drop (16 * k) row)) ≡ word_of (bits_of (take 16 (drop (16 * k) row))) ∷ words_of n (bits_of (drop (16 * (k + 1)) row))
unfolding words_of
words_more n k row =
    let e : 16 * k + 16 ≡ 16 * (k + 1) = omega arith in
    ap₂ (λ (a b : List Bool). word_of a ∷ words_of n b) (take_bits 16 (drop (16 * k) row))
    (drop_bits 16 (drop (16 * k) row) ∙ ap bits_of (drop-drop 16 (16 * k) row ∙ ap (λ (i : ℕ). drop i row) e))

-- What is stored, once the first k words are.
unfoldable pub stored_from : List ℕ → ℕ → Bytes → ℕ → List ℕ
stored_from rows i row k = sets rows (16 * i + k) (words_of (16 - k) (bits_of (drop (16 * k) row)))

pub store_start : (rows : List ℕ) (i : ℕ) (row : Bytes) → stored_row rows i row ≡ stored_from rows i row 0
unfolding stored_row stored_from
store_start rows i row = ap (λ (n : ℕ). sets rows n (words_of 16 (bits_of row))) (sym (add-zero (16 * i)))

pub part_few : (row s : Bytes) (at : ℕ) → s ≡ take 16 (drop at row) → length s ≤ 16
part_few row s at e = omega (arith, ap length e, part_short row at 16)

pub store_on : (rows₀ rows rows₁ : List ℕ) (i : ℕ) (row s : Bytes) (k w : ℕ) → stored_row rows₀ i row ≡ stored_from rows i row k → k < 16 → s ≡ take 16 (drop (16 * k) row)
    → w ≡ word_of (bits_of s) → rows₁ ≡ set rows (16 * i + k) w → stored_row rows₀ i row ≡ stored_from rows₁ i row (k + 1)
unfolding stored_from
store_on rows₀ rows rows₁ i row s k w inv h e f g =
    let a : 16 - k ≡ suc (16 - (k + 1)) = omega arith in
    let b : 16 * i + k + 1 ≡ 16 * i + (k + 1) = omega arith in
    let c : w ≡ word_of (bits_of (take 16 (drop (16 * k) row))) = f ∙ ap (λ (r : Bytes). word_of (bits_of r)) e in
    let rest : List ℕ = words_of (16 - (k + 1)) (bits_of (drop (16 * (k + 1)) row)) in
    inv
    ∙ ap (λ (n : ℕ). sets rows (16 * i + k) (words_of n (bits_of (drop (16 * k) row)))) a
    ∙ ap (λ (l : List ℕ). sets rows (16 * i + k) l) (words_more (16 - (k + 1)) k row ∙ ap (λ (x : ℕ). x ∷ rest) (sym c))
    ∙ sets_more rows (16 * i + k) w rest
    ∙ ap₂ (λ (l : List ℕ) (n : ℕ). sets l n rest) (sym g) b

pub store_done : (rows₀ rows : List ℕ) (i : ℕ) (row : Bytes) (k : ℕ) → stored_row rows₀ i row ≡ stored_from rows i row k → k ≤ 16 → 16 ≤ k → rows ≡ stored_row rows₀ i row
unfolding stored_from words_of
store_done rows₀ rows i row k inv h l = let q : 16 - k ≡ 0 = omega arith in sym (inv ∙ ap (λ (n : ℕ). sets rows (16 * i + k) (words_of n (bits_of (drop (16 * k) row)))) q)

pub ruleset rows = (store_start, part_few, store_on, store_done)
