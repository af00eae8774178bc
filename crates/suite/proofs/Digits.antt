-- The digits of a word, eight in its bytes or 16 in its halves of bytes: a mask works on each of them apart.
use mathlib.Core.Path.{◌≡◌, refl, sym, ap, ap₂, ◌∙◌}
use mathlib.Core.Logic.{⊎_elim}
use mathlib.Core.Bool.{Bool, true}
use mathlib.Core.List.{[], ◌∷◌}
use Prim.Native.Nat.{ℕ, zero, suc, ◌+◌, ◌-◌, ◌*◌, ◌/◌, ◌%◌, ◌^◌, ◌≤◌, ◌<◌}
use native.Mathlib.Numerals.{one-add}
use native.Mathlib.Nat.{add_assoc, add-mul, mul_right_comm, zero-add, zero-mul}
use native.Mathlib.Omega.{arith}
use lib.Bits.{bit_and, and_block, and_high, and_le_r, and_mask, and_zero_l}
use lib.Dec.{eqb, ltb}
use lib.ListN.{length, get_or, take, drop, length-drop}
use lib.Seq.{take_all}
use borrow.Author.Tests.{eqb-true, leb-true, ltb-true}
use Rattle.laws.specs.Tests.{◌and◌, ◌or◌, ◌⇒◌, choose, every}
use Rattle.laws.specs.TestLaws.{and_both, and_left, and_right, every_at, implied, or_cases}
use Rattle.laws.specs.Slices.{drop_at, drop_end, drop_four}
use Rattle.laws.specs.Bits.{odd_plus, word_of}
use Rattle.rules.specs.Text.{Bytes, all_bytes, between}
use Rattle.rules.specs.SuiteFile.{bits_of, hex_byte, hex_value}
use Rattle.laws.specs.Digits.{itself, number}
use Rattle.std.specs.Int.{w64, from_le_bytes}
use Rattle.suite.specs.Tables.{turn}
use Rattle.suite.proofs.Laws.{all_drop, digit_before, digits_part}

-- ---- the value of a digit: one test at each byte, which antt computes

right : ℕ → Bool
right x = hex_byte x ⇒ (ltb (hex_value x) 16 and eqb (x % 16 + 9 * (x / 64)) (hex_value x))

all_right : every 128 right ≡ true
unfolding every right hex_byte between hex_value choose ◌and◌ ◌or◌ ◌⇒◌
all_right = refl

hex_small : (x : ℕ) → hex_byte x ≡ true → x < 128
unfolding hex_byte between
hex_small x e =
    ⊎_elim
    (λ y. let z : x < 128 = omega (arith, leb-true x 57 (and_right _ _ y)) in z)
    (λ y. let z : x < 128 = omega (arith, leb-true x 102 (and_right _ _ y)) in z)
    (or_cases _ _ e)

at : (x : ℕ) → hex_byte x ≡ true → (ltb (hex_value x) 16 and eqb (x % 16 + 9 * (x / 64)) (hex_value x)) ≡ true
unfolding right
at x e = implied _ _ (every_at right 128 all_right x (hex_small x e)) e

value_small : (x : ℕ) → hex_byte x ≡ true → hex_value x < 16
value_small x e = ltb-true _ _ (and_left _ _ (at x e))

pub value_right : (x : ℕ) → hex_byte x ≡ true → x % 16 + 9 * (x / 64) ≡ hex_value x
value_right x e = eqb-true _ _ (and_right _ _ (at x e))

value_is : (x : ℕ) → hex_byte x ≡ true → bit_and x 15 + 9 * (x / 64 % 2) ≡ hex_value x
value_is x e =
    let q : x / 64 % 2 ≡ x / 64 = omega (arith, hex_small x e) in
    ap₂ (λ (n m : ℕ). n + 9 * m) (and_mask x 4) q ∙ value_right x e

-- ---- masks

-- The number with the digit c at n places.
rep : ℕ → ℕ → ℕ → ℕ
rep b c zero = 0
rep b c (suc n) = rep b c n * b + c

-- A mask that has one digit at all places.
mask_all : (k c : ℕ) (f : ℕ → ℕ) → c < 2 ^ k → ((x : ℕ) → hex_byte x ≡ true → f x < 2 ^ k) → (n : ℕ) (s : Bytes) → length s ≤ n → all_bytes hex_byte s ≡ true
    → bit_and (number (2 ^ k) f s) (rep (2 ^ k) c n) ≡ number (2 ^ k) (λ x. bit_and (f x) c) s
unfolding number rep all_bytes
mask_all k c f h small n [] l e = and_zero_l (rep (2 ^ k) c n)
mask_all k c f h small zero (x ∷ s) l e = absurd (let z : ⊥ = omega arith in z)
mask_all k c f h small (suc n) (x ∷ s) l e =
    and_block k (number (2 ^ k) f s) (rep (2 ^ k) c n) (f x) c (small x (and_left _ _ e)) h
    ∙ ap (λ (m : ℕ). m * 2 ^ k + bit_and (f x) c) (mask_all k c f h small n s (omega arith) (and_right _ _ e))

-- Digits that are multiples.
scaled : (b c : ℕ) (f g : ℕ → ℕ) → ((x : ℕ) → f x ≡ g x * c) → (s : Bytes) → number b f s ≡ number b g s * c
unfolding number
scaled b c f g h [] = sym (zero-mul c)
scaled b c f g h (x ∷ s) =
    let n : ℕ = number b g s in
    ap₂ (λ (y z : ℕ). y * b + z) (scaled b c f g h s) (h x)
    ∙ ap (λ (y : ℕ). y + g x * c) (mul_right_comm n c b)
    ∙ sym (add-mul (n * b) (g x) c)

one_bit : (v j : ℕ) → bit_and v (2 ^ j) ≡ v / 2 ^ j % 2 * 2 ^ j
one_bit v j =
    let q : 2 ^ j ≡ 2 ^ suc j - 2 ^ j = omega arith in
    ap (bit_and v) (q ∙ ap (λ (n : ℕ). 2 ^ n - 2 ^ j) (sym (one-add j))) ∙ and_high v 1 j

-- One bit of each digit.
place : (k j : ℕ) (f : ℕ → ℕ) → 2 ^ j < 2 ^ k → ((x : ℕ) → hex_byte x ≡ true → f x < 2 ^ k) → (n : ℕ) (s : Bytes) → length s ≤ n → all_bytes hex_byte s ≡ true
    → bit_and (number (2 ^ k) f s) (rep (2 ^ k) (2 ^ j) n) ≡ number (2 ^ k) (λ x. f x / 2 ^ j % 2) s * 2 ^ j
place k j f h small n s l e =
    mask_all k (2 ^ j) f h small n s l e ∙ scaled (2 ^ k) (2 ^ j) (λ x. bit_and (f x) (2 ^ j)) (λ x. f x / 2 ^ j % 2) (λ x. one_bit (f x) j) s

-- ---- `join`, `eight`

-- The values, one in each byte.
abbrev one : ℕ → ℕ
one x = bit_and x 1085102592571150095 + 9 * (bit_and x 4629771061636907072 / 64)

values_sum : (s : Bytes) → all_bytes hex_byte s ≡ true → number 256 (λ x. bit_and x 15) s + 9 * number 256 (λ x. x / 64 % 2) s ≡ number 256 hex_value s
unfolding number all_bytes
values_sum [] e = refl
values_sum (x ∷ s) e = omega (arith, values_sum s (and_right _ _ e), value_is x (and_left _ _ e))

one_is : (s : Bytes) → length s ≤ 8 → all_bytes hex_byte s ≡ true → one (number 256 itself s) ≡ number 256 hex_value s
unfolding rep
one_is s l e =
    let n : ℕ = number 256 itself s in
    let small : (x : ℕ) → hex_byte x ≡ true → x < 256 = λ x h. omega (arith, hex_small x h) in
    let low : bit_and n 1085102592571150095 ≡ number 256 (λ x. bit_and x 15) s = mask_all 8 15 itself (omega arith) small 8 s l e in
    let high : bit_and n 4629771061636907072 ≡ number 256 (λ x. x / 64 % 2) s * 64 = place 8 6 itself (omega arith) small 8 s l e in
    omega (arith, low, high, values_sum s e)

-- Two values in each part of 16 bits, then four in each of 32 bits.
abbrev two : ℕ → ℕ
two x = bit_and x 4222189076152335 + bit_and x 1080880403494997760 / 16

abbrev four : ℕ → ℕ
four x = bit_and x 1095216660735 + bit_and x 71776119077928960 / 256

low_four : (x y : ℕ) → x < 16 → bit_and (y * 256 + x) 15 ≡ x
low_four x y h = let q : (y * 256 + x) % 16 ≡ x = omega arith in and_mask (y * 256 + x) 4 ∙ q

high_four : (x y : ℕ) → x < 16 → y < 16 → bit_and (y * 256 + x) 3840 ≡ y * 256
high_four x y h k = let q : (y * 256 + x) / 256 % 16 ≡ y = omega arith in and_high (y * 256 + x) 4 8 ∙ ap (λ (n : ℕ). n * 256) q

low_eight : (x y : ℕ) → x < 256 → bit_and (y * 65536 + x) 255 ≡ x
low_eight x y h = let q : (y * 65536 + x) % 256 ≡ x = omega arith in and_mask (y * 65536 + x) 8 ∙ q

high_eight : (x y : ℕ) → x < 256 → y < 256 → bit_and (y * 65536 + x) 16711680 ≡ y * 65536
high_eight x y h k = let q : (y * 65536 + x) / 65536 % 256 ≡ y = omega arith in and_high (y * 65536 + x) 8 16 ∙ ap (λ (n : ℕ). n * 65536) q

-- A mask over four parts of 16 bits.
four_parts : (m p q r s : ℕ) → m < 65536 → p < 65536 → q < 65536 → r < 65536
    → bit_and (((s * 65536 + r) * 65536 + q) * 65536 + p) (((m * 65536 + m) * 65536 + m) * 65536 + m)
    ≡ ((bit_and s m * 65536 + bit_and r m) * 65536 + bit_and q m) * 65536 + bit_and p m
four_parts m p q r s hm hp hq hr =
    and_block 16 ((s * 65536 + r) * 65536 + q) ((m * 65536 + m) * 65536 + m) p m hp hm
    ∙ ap (λ (n : ℕ). n * 65536 + bit_and p m)
    (and_block 16 (s * 65536 + r) (m * 65536 + m) q m hq hm ∙ ap (λ (n : ℕ). n * 65536 + bit_and q m) (and_block 16 s m r m hr hm))

module _ (v0 v1 v2 v3 v4 v5 v6 v7 : ℕ) where
  abbrev in_bytes : ℕ
  in_bytes = (((v7 * 256 + v6) * 65536 + (v5 * 256 + v4)) * 65536 + (v3 * 256 + v2)) * 65536 + (v1 * 256 + v0)

  abbrev in_pairs : ℕ
  in_pairs = ((v7 * 16 + v6) * 65536 + (v5 * 16 + v4)) * 4294967296 + ((v3 * 16 + v2) * 65536 + (v1 * 16 + v0))

  abbrev in_fours : ℕ
  in_fours = (v7 * 4096 + v6 * 256 + v5 * 16 + v4) * 4294967296 + (v3 * 4096 + v2 * 256 + v1 * 16 + v0)

  module _ (h0 : v0 < 16) (h1 : v1 < 16) (h2 : v2 < 16) (h3 : v3 < 16) (h4 : v4 < 16) (h5 : v5 < 16) (h6 : v6 < 16) (h7 : v7 < 16) where
    two_is : two in_bytes ≡ in_pairs
    two_is =
        let low = four_parts 15 (v1 * 256 + v0) (v3 * 256 + v2) (v5 * 256 + v4) (v7 * 256 + v6) (omega arith) (omega arith) (omega arith) (omega arith) in
        let high = four_parts 3840 (v1 * 256 + v0) (v3 * 256 + v2) (v5 * 256 + v4) (v7 * 256 + v6) (omega arith) (omega arith) (omega arith) (omega arith) in
        omega (arith, low, high, low_four v0 v1 h0, low_four v2 v3 h2, low_four v4 v5 h4, low_four v6 v7 h6, high_four v0 v1 h0 h1, high_four v2 v3 h2 h3, high_four v4 v5 h4 h5, high_four v6 v7 h6 h7)

    four_is : four in_pairs ≡ in_fours
    four_is =
        let p : ℕ = (v3 * 16 + v2) * 65536 + (v1 * 16 + v0) in
        let q : ℕ = (v7 * 16 + v6) * 65536 + (v5 * 16 + v4) in
        let low = and_block 32 q 255 p 255 (omega arith) (omega arith) in
        let high = and_block 32 q 16711680 p 16711680 (omega arith) (omega arith) in
        omega (
          arith,
          low,
          high,
          low_eight (v1 * 16 + v0) (v3 * 16 + v2) (omega arith),
          low_eight (v5 * 16 + v4) (v7 * 16 + v6) (omega arith),
          high_eight (v1 * 16 + v0) (v3 * 16 + v2) (omega arith) (omega arith),
          high_eight (v5 * 16 + v4) (v7 * 16 + v6) (omega arith) (omega arith),
        )

    fours_are : in_fours % 65536 + in_fours / 65536 ≡ ((((((v7 * 16 + v6) * 16 + v5) * 16 + v4) * 16 + v3) * 16 + v2) * 16 + v1) * 16 + v0
    fours_are = omega arith

    -- All of them together.
    all_is : (x : ℕ) → x ≡ in_bytes → four (two x) % 65536 + four (two x) / 65536 ≡ ((((((v7 * 16 + v6) * 16 + v5) * 16 + v4) * 16 + v3) * 16 + v2) * 16 + v1) * 16 + v0
    all_is x e = ap (λ (n : ℕ). n % 65536 + n / 65536) (ap (λ (n : ℕ). four (two n)) e ∙ ap four two_is ∙ four_is) ∙ fours_are

-- Where nothing overflows.
pub nine_room : (x : ℕ) → 9 * (bit_and x 4629771061636907072 / 64) < 2 ^ 64
nine_room x = omega (arith, and_le_r x 4629771061636907072)

pub one_room : (x : ℕ) → one x < 2 ^ 64
one_room x = omega (arith, and_le_r x 4629771061636907072, and_le_r x 1085102592571150095)

pub two_room : (x : ℕ) → two x < 2 ^ 64
two_room x = omega (arith, and_le_r x 4222189076152335, and_le_r x 1080880403494997760)

pub four_room : (x : ℕ) → four x < 2 ^ 64
four_room x = omega (arith, and_le_r x 1095216660735, and_le_r x 71776119077928960)

pub all_room : (x : ℕ) → four x % 65536 + four x / 65536 < 2 ^ 64
all_room x = omega (arith, four_room x)

number_most : (n : ℕ) (s : Bytes) → length s ≤ n → all_bytes hex_byte s ≡ true → number 16 hex_value s ≤ rep 16 15 n
unfolding number rep all_bytes
number_most n [] l e = omega arith
number_most zero (x ∷ s) l e = absurd (let z : ⊥ = omega arith in z)
number_most (suc n) (x ∷ s) l e = omega (arith, number_most n s (omega arith) (and_right _ _ e), value_small x (and_left _ _ e))

-- ---- `value`, `few`

pub few_start : (s : Bytes) → 0 ≡ number 16 hex_value (drop (length s) s)
unfolding number
few_start s = sym (simp (drop_end s (length s) (omega arith)))

module _ (s : Bytes) (w i : ℕ) (inv : w ≡ number 16 hex_value (drop i s)) (h : length s ≤ 16) (e : all_bytes hex_byte s ≡ true) (k : 0 < i) (l : i ≤ length s) where
  rest_small : w < 2 ^ 60
  unfolding rep
  rest_small = omega (arith, inv, number_most 15 (drop i s) (omega (arith, length-drop i s)) (all_drop s i e))

  pub few_room : w * 16 < 2 ^ 64
  few_room = omega (arith, rest_small)

  module _ (d : ℕ) (q : d ≡ hex_value (get_or s (i - 1) 0)) where
    pub few_fits : w * 16 + d < 2 ^ 64
    few_fits = omega (arith, rest_small, value_small (get_or s (i - 1) 0) (digit_before s i e k l))

    pub few_on : w * 16 + d ≡ number 16 hex_value (drop (i - 1) s)
    unfolding number
    few_on =
        let j : i - 1 + 1 ≡ i = omega arith in
        let r : drop (i - 1) s ≡ get_or s (i - 1) 0 ∷ drop i s = drop_at s (i - 1) 0 (omega arith) ∙ ap (λ (n : ℕ). get_or s (i - 1) 0 ∷ drop n s) j in
        omega (arith, inv, q, ap (number 16 hex_value) r)

pub few_done : (s : Bytes) (w i : ℕ) → w ≡ number 16 hex_value (drop i s) → i ≤ 0 → w ≡ number 16 hex_value s
few_done s w i inv h = let q : i ≡ 0 = omega arith in inv ∙ ap (λ (n : ℕ). number 16 hex_value (drop n s)) q

-- ---- `eight_at`

drop_eight : (s : Bytes) (i : ℕ) → 8 ≤ length s - i → drop i s ≡ get_or s i 0 ∷ get_or s (i + 1) 0 ∷ get_or s (i + 2) 0 ∷ get_or s (i + 3) 0 ∷ get_or s (i + 4) 0 ∷ get_or s (i + 5) 0 ∷ get_or s (i + 6) 0 ∷ get_or s (i + 7) 0 ∷ drop (i + 8) s
drop_eight s i h =
    let four : drop (i + 4) s ≡ get_or s (i + 4) 0 ∷ get_or s (i + 5) 0 ∷ get_or s (i + 6) 0 ∷ get_or s (i + 7) 0 ∷ drop (i + 8) s =
    simp (add_assoc i 4 1, add_assoc i 4 2, add_assoc i 4 3, add_assoc i 4 4) at (drop_four s (i + 4) 0 (omega arith)) in
    drop_four s i 0 (omega arith) ∙ ap (λ (r : Bytes). get_or s i 0 ∷ get_or s (i + 1) 0 ∷ get_or s (i + 2) 0 ∷ get_or s (i + 3) 0 ∷ r) four

module _ (a b c d e f g h : ℕ) where
  eight_from : (x : ℕ) → all_bytes hex_byte (a ∷ b ∷ c ∷ d ∷ e ∷ f ∷ g ∷ h ∷ []) ≡ true → x ≡ number 256 itself (a ∷ b ∷ c ∷ d ∷ e ∷ f ∷ g ∷ h ∷ [])
      → four (two (one x)) % 65536 + four (two (one x)) / 65536 ≡ number 16 hex_value (a ∷ b ∷ c ∷ d ∷ e ∷ f ∷ g ∷ h ∷ [])
  unfolding number all_bytes
  eight_from x hex q =
      let r1 = and_right _ _ hex in
      let r2 = and_right _ _ r1 in
      let r3 = and_right _ _ r2 in
      let r4 = and_right _ _ r3 in
      let r5 = and_right _ _ r4 in
      let r6 = and_right _ _ r5 in
      let r7 = and_right _ _ r6 in
      let bytes : one x ≡ in_bytes (hex_value a) (hex_value b) (hex_value c) (hex_value d) (hex_value e) (hex_value f) (hex_value g) (hex_value h) = omega (arith, ap one q, one_is (a ∷ b ∷ c ∷ d ∷ e ∷ f ∷ g ∷ h ∷ []) (omega arith) hex) in
      omega
      (arith, all_is (hex_value a) (hex_value b) (hex_value c) (hex_value d) (hex_value e) (hex_value f) (hex_value g) (hex_value h) (value_small a (and_left _ _ hex)) (value_small b (and_left _ _ r1)) (value_small c (and_left _ _ r2)) (value_small d (and_left _ _ r3)) (value_small e (and_left _ _ r4)) (value_small f (and_left _ _ r5)) (value_small g (and_left _ _ r6)) (value_small h (and_left _ _ r7)) (one x) bytes)

-- A list of eight, one by one.
eight_of : (s : Bytes) → length s ≡ 8 → s ≡ get_or s 0 0 ∷ get_or s 1 0 ∷ get_or s 2 0 ∷ get_or s 3 0 ∷ get_or s 4 0 ∷ get_or s 5 0 ∷ get_or s 6 0 ∷ get_or s 7 0 ∷ []
eight_of s h =
    drop_eight s 0 (omega arith) ∙ ap (λ (r : Bytes). get_or s 0 0 ∷ get_or s 1 0 ∷ get_or s 2 0 ∷ get_or s 3 0 ∷ get_or s 4 0 ∷ get_or s 5 0 ∷ get_or s 6 0 ∷ get_or s 7 0 ∷ r) (drop_end s 8 (omega arith))

eight_digits_are : (s : Bytes) (x : ℕ) → x ≡ from_le_bytes w64 s
    → x ≡ number 256 itself (get_or s 0 0 ∷ get_or s 1 0 ∷ get_or s 2 0 ∷ get_or s 3 0 ∷ get_or s 4 0 ∷ get_or s 5 0 ∷ get_or s 6 0 ∷ get_or s 7 0 ∷ [])
unfolding number
eight_digits_are s x q = omega (arith, q)

pub eight_is : (s : Bytes) (x : ℕ) → length s ≡ 8 → all_bytes hex_byte s ≡ true → x ≡ from_le_bytes w64 s
    → four (two (one x)) % 65536 + four (two (one x)) / 65536 ≡ number 16 hex_value s
eight_is s x h hex q =
    eight_from (get_or s 0 0) (get_or s 1 0) (get_or s 2 0) (get_or s 3 0) (get_or s 4 0) (get_or s 5 0) (get_or s 6 0) (get_or s 7 0) x
    (sym (ap (all_bytes hex_byte) (eight_of s h)) ∙ hex) (eight_digits_are s x q)
    ∙ sym (ap (number 16 hex_value) (eight_of s h))

module _ (s : Bytes) (i : ℕ) (h : i ≤ 8) (l : length s ≡ 16) where
  part_eight : take 8 (drop i s) ≡ get_or s i 0 ∷ get_or s (i + 1) 0 ∷ get_or s (i + 2) 0 ∷ get_or s (i + 3) 0 ∷ get_or s (i + 4) 0 ∷ get_or s (i + 5) 0 ∷ get_or s (i + 6) 0 ∷ get_or s (i + 7) 0 ∷ []
  part_eight = ap (take 8) (drop_eight s i (omega arith))

  pub eight_digits : all_bytes hex_byte s ≡ true → all_bytes hex_byte (get_or s i 0 ∷ get_or s (i + 1) 0 ∷ get_or s (i + 2) 0 ∷ get_or s (i + 3) 0 ∷ get_or s (i + 4) 0 ∷ get_or s (i + 5) 0 ∷ get_or s (i + 6) 0 ∷ get_or s (i + 7) 0 ∷ []) ≡ true
  eight_digits e = digits_part s (get_or s i 0 ∷ get_or s (i + 1) 0 ∷ get_or s (i + 2) 0 ∷ get_or s (i + 3) 0 ∷ get_or s (i + 4) 0 ∷ get_or s (i + 5) 0 ∷ get_or s (i + 6) 0 ∷ get_or s (i + 7) 0 ∷ []) i 8 e (sym part_eight)

  pub eight_at_is : (r : ℕ) → r ≡ number 16 hex_value (get_or s i 0 ∷ get_or s (i + 1) 0 ∷ get_or s (i + 2) 0 ∷ get_or s (i + 3) 0 ∷ get_or s (i + 4) 0 ∷ get_or s (i + 5) 0 ∷ get_or s (i + 6) 0 ∷ get_or s (i + 7) 0 ∷ []) → r ≡ number 16 hex_value (take 8 (drop i s))
  eight_at_is r e = e ∙ ap (number 16 hex_value) (sym part_eight)

-- ---- `turned`

module _ (w : ℕ) where
  pub turn_first : bit_and w 1229782938247303441 * 8 < 2 ^ 64
  turn_first = omega (arith, and_le_r w 1229782938247303441)

  pub turn_second : bit_and w 2459565876494606882 * 2 < 2 ^ 64
  turn_second = omega (arith, and_le_r w 2459565876494606882)

  pub turn_two : bit_and w 1229782938247303441 * 8 + bit_and w 2459565876494606882 * 2 < 2 ^ 64
  turn_two = omega (arith, and_le_r w 1229782938247303441, and_le_r w 2459565876494606882)

  pub turn_three : bit_and w 1229782938247303441 * 8 + bit_and w 2459565876494606882 * 2 + bit_and w 4919131752989213764 / 2 < 2 ^ 64
  turn_three = omega (arith, and_le_r w 1229782938247303441, and_le_r w 2459565876494606882, and_le_r w 4919131752989213764)

  pub turn_four : bit_and w 1229782938247303441 * 8 + bit_and w 2459565876494606882 * 2 + bit_and w 4919131752989213764 / 2 + bit_and w 9838263505978427528 / 8 < 2 ^ 64
  turn_four = omega (arith, and_le_r w 1229782938247303441, and_le_r w 2459565876494606882, and_le_r w 4919131752989213764, and_le_r w 9838263505978427528)

  pub turn_is : bit_and w 1229782938247303441 * 8 + bit_and w 2459565876494606882 * 2 + bit_and w 4919131752989213764 / 2 + bit_and w 9838263505978427528 / 8 ≡ turn w
  unfolding turn
  turn_is = refl

-- The four bits of a digit, then those of the others.
digit_word : (x : ℕ) (s : Bytes) → word_of (bits_of (x ∷ s)) ≡ hex_value x / 8 % 2 + 2 * (hex_value x / 4 % 2 + 2 * (hex_value x / 2 % 2 + 2 * (hex_value x % 2 + 2 * word_of (bits_of s))))
unfolding word_of bits_of
digit_word x s = simp (odd_plus (hex_value x / 8), odd_plus (hex_value x / 4), odd_plus (hex_value x / 2), odd_plus (hex_value x))

-- The word of digits, by the bits that stand at one place in all of them.
bits_sum : (s : Bytes)
    → word_of (bits_of s) ≡ number 16 (λ x. hex_value x / 1 % 2) s * 8 + number 16 (λ x. hex_value x / 2 % 2) s * 4 + number 16 (λ x. hex_value x / 4 % 2) s * 2 + number 16 (λ x. hex_value x / 8 % 2) s
unfolding number word_of bits_of
bits_sum [] = refl
bits_sum (x ∷ s) = omega (arith, digit_word x s, bits_sum s)

pub turn_word : (s : Bytes) → length s ≤ 16 → all_bytes hex_byte s ≡ true → turn (number 16 hex_value s) ≡ word_of (bits_of s)
unfolding turn rep
turn_word s l e =
    let n : ℕ = number 16 hex_value s in
    let b0 : bit_and n 1229782938247303441 ≡ number 16 (λ x. hex_value x / 1 % 2) s * 1 = place 4 0 hex_value (omega arith) value_small 16 s l e in
    let b1 : bit_and n 2459565876494606882 ≡ number 16 (λ x. hex_value x / 2 % 2) s * 2 = place 4 1 hex_value (omega arith) value_small 16 s l e in
    let b2 : bit_and n 4919131752989213764 ≡ number 16 (λ x. hex_value x / 4 % 2) s * 4 = place 4 2 hex_value (omega arith) value_small 16 s l e in
    let b3 : bit_and n 9838263505978427528 ≡ number 16 (λ x. hex_value x / 8 % 2) s * 8 = place 4 3 hex_value (omega arith) value_small 16 s l e in
    omega (arith, b0, b1, b2, b3, bits_sum s)

-- ---- `pack`

module _ (s : Bytes) (l : length s ≡ 16) (e : all_bytes hex_byte s ≡ true) where
  half_small : (i n : ℕ) → i ≤ 8 → n ≡ number 16 hex_value (take 8 (drop i s)) → n < 4294967296
  unfolding rep
  half_small i n h q =
      let long : length (take 8 (drop i s)) ≡ 8 = ap length (part_eight s i h l) in
      omega (arith, number_most 8 (take 8 (drop i s)) (omega (arith, long)) (digits_part s (take 8 (drop i s)) i 8 e refl))

  module _ (high : ℕ) (eh : high ≡ number 16 hex_value (take 8 (drop 8 s))) where
    pub high_room : high * 4294967296 < 2 ^ 64
    high_room = omega (arith, half_small 8 high (omega arith) eh)

    module _ (low : ℕ) (el : low ≡ number 16 hex_value (take 8 (drop 0 s))) where
      pub both_room : high * 4294967296 + low < 2 ^ 64
      both_room = omega (arith, half_small 8 high (omega arith) eh, half_small 0 low (omega arith) el)

      both_is : high * 4294967296 + low ≡ number 16 hex_value s
      unfolding number
      both_is =
          let all : s ≡ get_or s 0 0 ∷ get_or s 1 0 ∷ get_or s 2 0 ∷ get_or s 3 0 ∷ get_or s 4 0 ∷ get_or s 5 0 ∷ get_or s 6 0 ∷ get_or s 7 0 ∷ drop 8 s = drop_eight s 0 (omega arith) in
          let rest : take 8 (drop 8 s) ≡ drop 8 s = take_all 8 (drop 8 s) (omega (arith, length-drop 8 s)) in
          omega (arith, el, eh, ap (number 16 hex_value) all, ap (number 16 hex_value) (part_eight s 0 (omega arith) l), ap (number 16 hex_value) rest)

      pub pack_is : (r : ℕ) → r ≡ turn (high * 4294967296 + low) → r ≡ word_of (bits_of s)
      pack_is r q = q ∙ ap turn both_is ∙ turn_word s (omega arith) e

-- The word of a few, and of one.
pub few_word : (s : Bytes) (n r : ℕ) → length s ≤ 16 → all_bytes hex_byte s ≡ true → n ≡ number 16 hex_value s → r ≡ turn n → r ≡ word_of (bits_of s)
few_word s n r l e q t = t ∙ ap turn q ∙ turn_word s l e

pub digit_turned : (x v r : ℕ) → hex_byte x ≡ true → v ≡ hex_value x → r ≡ turn v → r ≡ word_of (bits_of (x ∷ []))
unfolding number all_bytes
digit_turned x v r e q t = few_word (x ∷ []) v r (omega arith) (and_both e refl) (q ∙ sym (zero-add (hex_value x))) t

pub ruleset digits = (
  nine_room,
  one_room,
  two_room,
  four_room,
  all_room,
  eight_is,
  eight_digits,
  eight_at_is,
  turn_first,
  turn_second,
  turn_two,
  turn_three,
  turn_four,
  turn_is,
  high_room,
  both_room,
  pack_is,
  few_word,
  digit_turned,
  value_right,
  few_start,
  few_room,
  few_fits,
  few_on,
  few_done,
)
