-- Sets of numbers as bits in words of 64 bits: one bit set or cleared, the other bits staying as they were; the bits of a word from a number on.
use Rattle.std.specs.Prelude.{◌≡◌, refl, Bool, true, false, List, ℕ, zero, suc, ◌+◌, ◌-◌, ◌*◌, ◌/◌, ◌%◌, ◌^◌, ◌≤◌, ◌<◌, max, eqb, leb, length, get_or, set, replicate}
use Rattle.std.proofs.Common.{sym, ap, ap₂, ◌∙◌, one-add, div-one, mul_assoc, mul_comm, mul-one, one-mul, pow-suc, arith, length-set, pow_pos, shl_exact, shr-shr, get_or-set_other, get_or-set_same, eq-eqb, le-leb, ne_eqb}
use Rattle.std.proofs.Math.Nat.{zero-max}
use Rattle.std.proofs.Math.Arith.{digits_mod}
use Rattle.std.specs.Int.Bits.{bit_or, bit_xor, differ, or_step, xor_step}
use Rattle.std.proofs.lemmas.Nat.{or_shr, xor_shr}
use Rattle.std.proofs.lemmas.List.{length-replicate, get_or-replicate}
use Rattle.std.proofs.Math.ListN.{get_or-eq_default}
use Rattle.std.proofs.Math.Seq.{set_out}
use Rattle.std.proofs.lemmas.Bool.{lt-leb}
use Rattle.laws.specs.Tests.{◌and◌, ◌or◌, isnt}
use Rattle.laws.specs.TestLaws.{and_not, and_right, eqb_self, or_swap}
use Rattle.laws.specs.Slices.{below_or, same_or}
use Rattle.laws.specs.Bits.{bit_at, bit_in, bit_none, bit_suc, bit_zero}

-- The words with the bit i set.
unfoldable pub with_bit : List ℕ → ℕ → List ℕ
with_bit ws i = set ws (i / 64) (bit_or (get_or ws (i / 64) 0) (2 ^ (i % 64)))

-- The words with the bit i cleared: set, and then changed.
unfoldable pub without_bit : List ℕ → ℕ → List ℕ
without_bit ws i = set ws (i / 64) (bit_xor (bit_or (get_or ws (i / 64) 0) (2 ^ (i % 64))) (2 ^ (i % 64)))

-- ---- the bits of one of two numbers, and of a power of 2

either_set : (x y : ℕ) → x < 2 → y < 2 → eqb (max x y) 1 ≡ (eqb x 1 or eqb y 1)
unfolding ◌or◌
either_set zero y h k = ap (λ (n : ℕ). eqb n 1) (zero-max y)
either_set (suc zero) zero h k = refl
either_set (suc zero) (suc zero) h k = refl
either_set (suc zero) (suc (suc y)) h k = absurd (let z : ⊥ = omega arith in z)
either_set (suc (suc x)) y h k = absurd (let z : ⊥ = omega arith in z)

-- The bits that one of two numbers has.
pub bit_or_lem : (a b j : ℕ) → bit_at (bit_or a b) j ≡ (bit_at a j or bit_at b j)
unfolding bit_at
bit_or_lem a b j =
    let x : ℕ = a / 2 ^ j in
    let y : ℕ = b / 2 ^ j in
    let low : (bit_or (x / 2) (y / 2) * 2 + max (x % 2) (y % 2)) % 2 ≡ max (x % 2) (y % 2) = digits_mod (bit_or (x / 2) (y / 2)) (omega arith) in
    ap (λ (n : ℕ). eqb (n % 2) 1) (or_shr a b j ∙ or_step x y) ∙ ap (λ (n : ℕ). eqb n 1) low ∙ either_set (x % 2) (y % 2) (omega arith) (omega arith)

same_suc : (i j : ℕ) → eqb i j ≡ eqb (suc i) (suc j)
same_suc i j =
    same_or i j
    (λ e. eq-eqb i j e ∙ sym (eq-eqb (suc i) (suc j) (omega arith)))
    (λ e. ne_eqb i j e ∙ sym (ne_eqb (suc i) (suc j) (λ q. e (omega arith))))

-- The only bit of a power of 2.
pub bit_power : (s j : ℕ) → bit_at (2 ^ s) j ≡ eqb s j
bit_power zero zero = bit_zero 1
bit_power zero (suc j) = bit_suc 1 j ∙ bit_none j ∙ sym (ne_eqb 0 (suc j) (λ e. let z : ⊥ = omega arith in z))
bit_power (suc s) zero =
    bit_zero (2 ^ suc s)
    ∙ ne_eqb (2 ^ suc s % 2) 1 (λ e. let z : ⊥ = omega arith in z)
    ∙ sym (ne_eqb (suc s) 0 (λ e. let z : ⊥ = omega arith in z))
bit_power (suc s) (suc j) =
    let e : 2 ^ suc s / 2 ≡ 2 ^ s = omega arith in
    bit_suc (2 ^ suc s) j ∙ ap (λ (w : ℕ). bit_at w j) e ∙ bit_power s j ∙ same_suc s j

-- Two bits of one word are one exactly if they stand at one place of it.
same_place : (i j : ℕ) → j / 64 ≡ i / 64 → eqb (i % 64) (j % 64) ≡ eqb i j
same_place i j e =
    same_or i j
    (λ q. eq-eqb (i % 64) (j % 64) (omega arith) ∙ sym (eq-eqb i j q))
    (λ q. ne_eqb (i % 64) (j % 64) (λ r. q (omega arith)) ∙ sym (ne_eqb i j q))

-- The bit i is set, and every other bit is as it was.
pub bit_with : (ws : List ℕ) (i j : ℕ) → i < 64 * length ws → bit_in (with_bit ws i) j ≡ (eqb i j or bit_in ws j)
unfolding with_bit bit_in ◌or◌
bit_with ws i j h =
    let v : ℕ = bit_or (get_or ws (i / 64) 0) (2 ^ (i % 64)) in
    same_or (j / 64) (i / 64)
    (λ e.
    ap (λ (k : ℕ). bit_at (get_or (set ws (i / 64) v) k 0) (j % 64)) e
    ∙ ap (λ (w : ℕ). bit_at w (j % 64)) (get_or-set_same ws (i / 64) v 0 (omega arith))
    ∙ bit_or_lem (get_or ws (i / 64) 0) (2 ^ (i % 64)) (j % 64)
    ∙ or_swap (bit_at (get_or ws (i / 64) 0) (j % 64)) (bit_at (2 ^ (i % 64)) (j % 64))
    ∙ ap₂ (λ (x : Bool) (k : ℕ). x or bit_at (get_or ws k 0) (j % 64)) (bit_power (i % 64) (j % 64) ∙ same_place i j e) (sym e))
    (λ e.
    ap (λ (w : ℕ). bit_at w (j % 64)) (get_or-set_other ws (i / 64) (j / 64) v 0 e)
    ∙ ap (λ (x : Bool). x or bit_at (get_or ws (j / 64) 0) (j % 64)) (sym (ne_eqb i j (λ q. e (let z : j / 64 ≡ i / 64 = omega arith in z)))))

-- Past the words nothing is set; within them, as the code sets it.
pub bit_out : (ws : List ℕ) (i : ℕ) → length ws ≤ i / 64 → ws ≡ with_bit ws i
unfolding with_bit
bit_out ws i h = sym (set_out ws (i / 64) _ h)

pub bit_in_lem : (ws : List ℕ) (i : ℕ) → set ws (i / 64) (bit_or (get_or ws (i / 64) 0) (1 * 2 ^ (i % 64) % 18446744073709551616)) ≡ with_bit ws i
unfolding with_bit
bit_in_lem ws i =
    ap (λ (x : ℕ). set ws (i / 64) (bit_or (get_or ws (i / 64) 0) x))
    (shl_exact {a = 1} 1 (i % 64) 64 (omega arith) (omega arith) ∙ one-mul (2 ^ (i % 64)))

-- ---- a bit cleared

others_set : (x y : ℕ) → x < 2 → y < 2 → (differ (max x y) y < 2) × (eqb (differ (max x y) y) 1 ≡ (isnt (eqb y 1) and eqb x 1))
unfolding ◌and◌ isnt
others_set zero zero h k = (omega arith, refl)
others_set zero (suc zero) h k = (omega arith, refl)
others_set (suc zero) zero h k = (omega arith, refl)
others_set (suc zero) (suc zero) h k = (omega arith, refl)
others_set zero (suc (suc y)) h k = absurd (let z : ⊥ = omega arith in z)
others_set (suc zero) (suc (suc y)) h k = absurd (let z : ⊥ = omega arith in z)
others_set (suc (suc x)) y h k = absurd (let z : ⊥ = omega arith in z)

-- The bits of a number that a second has not.
pub bit_others : (a b j : ℕ) → bit_at (bit_xor (bit_or a b) b) j ≡ (isnt (bit_at b j) and bit_at a j)
unfolding bit_at
bit_others a b j =
    let x : ℕ = a / 2 ^ j in
    let y : ℕ = b / 2 ^ j in
    let r = others_set (x % 2) (y % 2) (omega arith) (omega arith) in
    let or_low : bit_or x y % 2 ≡ max (x % 2) (y % 2) = ap (λ (n : ℕ). n % 2) (or_step x y) ∙ digits_mod (bit_or (x / 2) (y / 2)) (omega arith) in
    let step : bit_xor (bit_or x y) y ≡ bit_xor (bit_or x y / 2) (y / 2) * 2 + differ (max (x % 2) (y % 2)) (y % 2)
    = xor_step (bit_or x y) y ∙ ap (λ (n : ℕ). bit_xor (bit_or x y / 2) (y / 2) * 2 + differ n (y % 2)) or_low in
    ap (λ (n : ℕ). eqb (n % 2) 1) (xor_shr (bit_or a b) b j ∙ ap (λ (n : ℕ). bit_xor n y) (or_shr a b j) ∙ step)
    ∙ ap (λ (n : ℕ). eqb n 1) (digits_mod (bit_xor (bit_or x y / 2) (y / 2)) r.0)
    ∙ r.1

-- Past the words no bit is set.
pub past_bit : (ws : List ℕ) (i : ℕ) → length ws ≤ i / 64 → bit_in ws i ≡ false
unfolding bit_in
past_bit ws i h = ap (λ (w : ℕ). bit_at w (i % 64)) (get_or-eq_default ws 0 h) ∙ bit_none (i % 64)

-- The bit i is cleared, and every other bit is as it was.
pub bit_without : (ws : List ℕ) (i j : ℕ) → bit_in (without_bit ws i) j ≡ (isnt (eqb i j) and bit_in ws j)
unfolding without_bit bit_in ◌and◌ isnt
bit_without ws i j =
    let v : ℕ = bit_xor (bit_or (get_or ws (i / 64) 0) (2 ^ (i % 64))) (2 ^ (i % 64)) in
    same_or (j / 64) (i / 64)
    (λ e.
    below_or (i / 64) (length ws)
    (λ h.
    ap (λ (k : ℕ). bit_at (get_or (set ws (i / 64) v) k 0) (j % 64)) e
    ∙ ap (λ (w : ℕ). bit_at w (j % 64)) (get_or-set_same ws (i / 64) v 0 h)
    ∙ bit_others (get_or ws (i / 64) 0) (2 ^ (i % 64)) (j % 64)
    ∙ ap₂ (λ (x : Bool) (k : ℕ). isnt x and bit_at (get_or ws k 0) (j % 64)) (bit_power (i % 64) (j % 64) ∙ same_place i j e) (sym e))
    (λ h.
    let out : bit_at (get_or ws (j / 64) 0) (j % 64) ≡ false = past_bit ws j (omega arith) in
    ap (λ (l : List ℕ). bit_at (get_or l (j / 64) 0) (j % 64)) (set_out ws (i / 64) v h) ∙ out
    ∙ sym (ap (λ (t : Bool). isnt (eqb i j) and t) out ∙ and_not (isnt (eqb i j)))))
    (λ e.
    ap (λ (w : ℕ). bit_at w (j % 64)) (get_or-set_other ws (i / 64) (j / 64) v 0 e)
    ∙ ap (λ (x : Bool). isnt x and bit_at (get_or ws (j / 64) 0) (j % 64)) (sym (ne_eqb i j (λ q. e (let z : j / 64 ≡ i / 64 = omega arith in z)))))

-- The bit i itself; another one; none is set that was not.
pub bit_cleared : (ws : List ℕ) (i : ℕ) → bit_in (without_bit ws i) i ≡ false
unfolding ◌and◌ isnt
bit_cleared ws i = bit_without ws i i ∙ ap (λ (t : Bool). isnt t and bit_in ws i) (eqb_self i)

pub bit_kept : (ws : List ℕ) (i j : ℕ) → (i ≡ j → ⊥) → bit_in (without_bit ws i) j ≡ bit_in ws j
unfolding ◌and◌ isnt
bit_kept ws i j h = bit_without ws i j ∙ ap (λ (t : Bool). isnt t and bit_in ws j) (ne_eqb i j h)

pub bit_before : (ws : List ℕ) (i j : ℕ) → bit_in (without_bit ws i) j ≡ true → bit_in ws j ≡ true
bit_before ws i j t = and_right _ _ (sym (bit_without ws i j) ∙ t)

-- There are as many words as before.
pub with_size : (ws : List ℕ) (i : ℕ) → length (with_bit ws i) ≡ length ws
unfolding with_bit
with_size ws i = length-set ws (i / 64) _

pub without_size : (ws : List ℕ) (i : ℕ) → length (without_bit ws i) ≡ length ws
unfolding without_bit
without_size ws i = length-set ws (i / 64) _

-- Past the words nothing is cleared; within them, as the code clears it.
pub without_out : (ws : List ℕ) (i : ℕ) → length ws ≤ i / 64 → ws ≡ without_bit ws i
unfolding without_bit
without_out ws i h = sym (set_out ws (i / 64) _ h)

pub without_in : (ws : List ℕ) (i : ℕ)
    → set ws (i / 64) (bit_xor (bit_or (get_or ws (i / 64) 0) (1 * 2 ^ (i % 64) % 18446744073709551616)) (1 * 2 ^ (i % 64) % 18446744073709551616)) ≡ without_bit ws i
unfolding without_bit
without_in ws i =
    ap (λ (x : ℕ). set ws (i / 64) (bit_xor (bit_or (get_or ws (i / 64) 0) x) x))
    (shl_exact {a = 1} 1 (i % 64) 64 (omega arith) (omega arith) ∙ one-mul (2 ^ (i % 64)))

-- ---- words in a row

-- The word k holds the 64 bits from 64 k on.
pub word_bit : (ws : List ℕ) (k j : ℕ) → j < 64 → bit_in ws (64 * k + j) ≡ bit_at (get_or ws k 0) j
unfolding bit_in
word_bit ws k j h =
    let a : (64 * k + j) / 64 ≡ k = omega arith in
    let b : (64 * k + j) % 64 ≡ j = omega arith in
    ap₂ (λ (x y : ℕ). bit_at (get_or ws x 0) y) a b

-- Words that are all 0, and have no bit set.
pub clear_word : (n k : ℕ) → get_or {A = ℕ} (replicate n 0) k 0 ≡ 0
clear_word n k =
    below_or k n
    (λ h. get_or-replicate n k 0 0 h)
    (λ h. get_or-eq_default (replicate {A = ℕ} n 0) 0 (let z : length (replicate {A = ℕ} n 0) ≤ k = omega (arith, length-replicate {A = ℕ} n 0) in z))

pub clear_bits : (s : List ℕ) (n : ℕ) → s ≡ replicate n 0 → (e : ℕ) → bit_in s e ≡ false
unfolding bit_in
clear_bits s n q e = ap (λ (l : List ℕ). bit_at (get_or l (e / 64) 0) (e % 64)) q ∙ ap (λ (x : ℕ). bit_at x (e % 64)) (clear_word n (e / 64)) ∙ bit_none (e % 64)

-- Words that are all ones, and have every bit set.
pub full_bit : (k j : ℕ) → j < k → bit_at (2 ^ k - 1) j ≡ true
full_bit zero j h = absurd (let z : ⊥ = omega arith in z)
full_bit (suc k) zero h = bit_zero (2 ^ suc k - 1) ∙ eq-eqb ((2 ^ suc k - 1) % 2) 1 (omega (arith, pow_pos k))
full_bit (suc k) (suc j) h =
    let e : (2 ^ suc k - 1) / 2 ≡ 2 ^ k - 1 = omega (arith, pow_pos k) in
    bit_suc (2 ^ suc k - 1) j ∙ ap (λ (w : ℕ). bit_at w j) e ∙ full_bit k j (omega arith)

pub full_bits : (s : List ℕ) (n : ℕ) → s ≡ replicate n 18446744073709551615 → (e : ℕ) → e < 64 * n → bit_in s e ≡ true
unfolding bit_in
full_bits s n q e h =
    ap (λ (l : List ℕ). bit_at (get_or l (e / 64) 0) (e % 64)) q
    ∙ ap (λ (x : ℕ). bit_at x (e % 64)) (get_or-replicate n (e / 64) 18446744073709551615 0 (omega arith))
    ∙ full_bit 64 (e % 64) (omega arith)

-- ---- the bits from a number on

leb_suc : (i j : ℕ) → leb i j ≡ leb (suc i) (suc j)
leb_suc i j =
    below_or j i
    (λ h. lt-leb i j h ∙ sym (lt-leb (suc i) (suc j) (omega arith)))
    (λ h. le-leb i j h ∙ sym (le-leb (suc i) (suc j) (omega arith)))

kept_double : (s w : ℕ) → w / 2 ^ suc s * 2 ^ suc s ≡ 2 * (w / 2 / 2 ^ s * 2 ^ s)
kept_double s w =
    ap₂ (λ (n m : ℕ). n * m) (ap (λ (n : ℕ). w / 2 ^ n) (sym (one-add s)) ∙ sym (shr-shr w 1 s)) (pow-suc 2 s)
    ∙ sym (mul_assoc (w / 2 / 2 ^ s) (2 ^ s) 2)
    ∙ mul_comm (w / 2 / 2 ^ s * 2 ^ s) 2

-- Shifted down and up again by s, a number keeps its bits from s on.
pub bit_from : (s w j : ℕ) → bit_at (w / 2 ^ s * 2 ^ s) j ≡ (leb s j and bit_at w j)
unfolding ◌and◌
bit_from zero w j =
    let e : w / 2 ^ 0 * 2 ^ 0 ≡ w = ap (λ (n : ℕ). n * 1) (div-one w) ∙ mul-one w in
    ap (λ (n : ℕ). bit_at n j) e ∙ sym (ap (λ (t : Bool). t and bit_at w j) (le-leb 0 j (omega arith)))
bit_from (suc s) w zero =
    bit_zero (w / 2 ^ suc s * 2 ^ suc s)
    ∙ ap (λ (n : ℕ). eqb (n % 2) 1) (kept_double s w)
    ∙ ne_eqb (2 * (w / 2 / 2 ^ s * 2 ^ s) % 2) 1 (λ e. let z : ⊥ = omega arith in z)
    ∙ sym (ap (λ (t : Bool). t and bit_at w 0) (lt-leb (suc s) 0 (omega arith)))
bit_from (suc s) w (suc j) =
    let q : w / 2 ^ suc s * 2 ^ suc s / 2 ≡ w / 2 / 2 ^ s * 2 ^ s = omega (arith, kept_double s w) in
    bit_suc (w / 2 ^ suc s * 2 ^ suc s) j ∙ ap (λ (n : ℕ). bit_at n j) q ∙ bit_from s (w / 2) j
    ∙ ap₂ (λ (t u : Bool). t and u) (leb_suc s j) (sym (bit_suc w j))
