-- Binary digits, lowest first: the bits of a number, the number of given bits, words of 64 bits in a row; counting the bits and finding the first.
use Rattle.std.specs.Prelude.{◌≡◌, refl, Bool, true, false, List, [], ◌∷◌, ℕ, zero, suc, ◌+◌, ◌-◌, ◌*◌, ◌/◌, ◌%◌, ◌^◌, ◌≤◌, ◌<◌, min, eqb, length, get_or, take, drop}
use Rattle.std.proofs.Common.{sym, ap, ap₂, ◌∙◌, one-add, add-zero, zero-add, add-suc, div-one, arith, length-take, shr-shr, drop-drop, get_or-take, get_or-drop, eq-eqb, ne_eqb}
use Rattle.std.proofs.Math.Option.{none, some}
use Rattle.std.proofs.Math.Nat.{zero-div, zero-min}
use Rattle.std.proofs.Math.Arith.{le-zero, digits_mod}
use Rattle.std.specs.Int.Bits.{bit_and, and_step}
use Rattle.std.proofs.lemmas.Nat.{and_shr, ones-le, trailing_le}
use Rattle.std.specs.Int.Count.{ones, ones_step, under, count_trailing_zeros}
use Rattle.std.proofs.Math.ListN.{get_or-eq_default}
use Rattle.laws.specs.Tests.{◌and◌, isnt, plus, count, first}
use Rattle.laws.specs.TestLaws.{first_least, first_skip}
use Rattle.laws.specs.Lists.{count_agree}
use Rattle.laws.specs.Counting.{count_zero}
use Rattle.laws.specs.Slices.{get_d_part, below_or}

-- The bit j of w.
unfoldable pub bit_at : ℕ → ℕ → Bool
bit_at w j = eqb (w / 2 ^ j % 2) 1

-- The number with these bits.
unfoldable pub word_of : List Bool → ℕ
word_of [] = 0
word_of (b ∷ l) = plus b (2 * word_of l)

-- The bit e of words in a row.
unfoldable pub bit_in : List ℕ → ℕ → Bool
bit_in ws e = bit_at (get_or ws (e / 64) 0) (e % 64)

-- The first n words with these bits.
unfoldable pub words_of : ℕ → List Bool → List ℕ
words_of zero l = []
words_of (suc n) l = word_of (take 64 l) ∷ words_of n (drop 64 l)

-- ---- the bits of a number

shift_one : (w j : ℕ) → w / 2 ^ suc j ≡ w / 2 / 2 ^ j
shift_one w j = ap (λ (n : ℕ). w / 2 ^ n) (sym (one-add j)) ∙ sym (shr-shr w 1 j)

pub bit_zero : (w : ℕ) → bit_at w 0 ≡ eqb (w % 2) 1
unfolding bit_at
bit_zero w = ap (λ (n : ℕ). eqb (n % 2) 1) (div-one w)

pub bit_suc : (w j : ℕ) → bit_at w (suc j) ≡ bit_at (w / 2) j
unfolding bit_at
bit_suc w j = ap (λ (n : ℕ). eqb (n % 2) 1) (shift_one w j)

pub bit_none : (j : ℕ) → bit_at 0 j ≡ false
unfolding bit_at
bit_none j = ap (λ (n : ℕ). eqb (n % 2) 1) (zero-div (2 ^ j))

both_set : (x y : ℕ) → x < 2 → y < 2 → eqb (min x y) 1 ≡ (eqb x 1 and eqb y 1)
unfolding ◌and◌
both_set zero y h k = ap (λ (n : ℕ). eqb n 1) (zero-min y)
both_set (suc zero) zero h k = refl
both_set (suc zero) (suc zero) h k = refl
both_set (suc zero) (suc (suc y)) h k = absurd (let z : ⊥ = omega arith in z)
both_set (suc (suc x)) y h k = absurd (let z : ⊥ = omega arith in z)

-- The bits that two numbers have in common.
pub bit_and_lem : (a b j : ℕ) → bit_at (bit_and a b) j ≡ (bit_at a j and bit_at b j)
unfolding bit_at
bit_and_lem a b j =
    let x : ℕ = a / 2 ^ j in
    let y : ℕ = b / 2 ^ j in
    let low : (bit_and (x / 2) (y / 2) * 2 + min (x % 2) (y % 2)) % 2 ≡ min (x % 2) (y % 2) = digits_mod (bit_and (x / 2) (y / 2)) (omega arith) in
    ap (λ (n : ℕ). eqb (n % 2) 1) (and_shr a b j ∙ and_step x y) ∙ ap (λ (n : ℕ). eqb n 1) low ∙ both_set (x % 2) (y % 2) (omega arith) (omega arith)

-- ---- the number of given bits

pub odd_plus : (n k : ℕ) → plus (eqb (n % 2) 1) k ≡ n % 2 + k
unfolding plus
odd_plus n k =
    below_or (n % 2) 1
    (λ h. let q : n % 2 ≡ 0 = omega arith in simp (q, zero-add))
    (λ h. let q : n % 2 ≡ 1 = omega arith in simp (q, one-add))

plus_half : (b : Bool) (n : ℕ) → plus b (2 * n) / 2 ≡ n
unfolding plus
plus_half true n = omega arith
plus_half false n = omega arith

plus_low : (b : Bool) (n : ℕ) → eqb (plus b (2 * n) % 2) 1 ≡ b
unfolding plus
plus_low true n = eq-eqb (suc (2 * n) % 2) 1 (omega arith)
plus_low false n = ne_eqb (2 * n % 2) 1 (λ e. let z : ⊥ = omega arith in z)

pub bit_word : (l : List Bool) (j : ℕ) → bit_at (word_of l) j ≡ get_or l j false
unfolding word_of
bit_word [] j = bit_none j
bit_word (b ∷ l) zero = bit_zero _ ∙ plus_low b (word_of l)
bit_word (b ∷ l) (suc j) = bit_suc _ j ∙ ap (λ (w : ℕ). bit_at w j) (plus_half b (word_of l)) ∙ bit_word l j

-- Lists that have the same bits make one number, however many spare zeros they end with.
pub word_agree : (l m : List Bool) → ((j : ℕ) → get_or l j false ≡ get_or m j false) → word_of l ≡ word_of m
unfolding word_of plus
word_agree [] [] h = refl
word_agree [] (b ∷ m) h = ap₂ (λ (c : Bool) (n : ℕ). plus c (2 * n)) (h 0) (word_agree [] m (λ j. h (suc j)))
word_agree (b ∷ l) [] h = ap₂ (λ (c : Bool) (n : ℕ). plus c (2 * n)) (h 0) (word_agree l [] (λ j. h (suc j)))
word_agree (b ∷ l) (c ∷ m) h = ap₂ (λ (d : Bool) (n : ℕ). plus d (2 * n)) (h 0) (word_agree l m (λ j. h (suc j)))

-- It is 0 exactly where no bit is 1.
pub word_none : (b : Bool) (l : List Bool) → eqb (word_of (b ∷ l)) 0 ≡ (isnt b and eqb (word_of l) 0)
unfolding word_of plus isnt ◌and◌
word_none b l = zero_of b (word_of l)
  where
    zero_of : (b : Bool) (n : ℕ) → eqb (plus b (2 * n)) 0 ≡ (isnt b and eqb n 0)
    zero_of true n = ne_eqb (suc (2 * n)) 0 (λ e. let z : ⊥ = omega arith in z)
    zero_of false zero = refl
    zero_of false (suc n) = ne_eqb (2 * suc n) 0 (λ e. let z : ⊥ = omega arith in z) ∙ sym (ne_eqb (suc n) 0 (λ e. let z : ⊥ = omega arith in z))

-- The bits from k on are those of the number shifted by k.
pub word_drop : (l : List Bool) (k : ℕ) → word_of (drop k l) ≡ word_of l / 2 ^ k
unfolding word_of
word_drop l zero = sym (div-one (word_of l))
word_drop [] (suc k) = sym (zero-div (2 ^ suc k))
word_drop (b ∷ l) (suc k) = word_drop l k ∙ sym (shift_one (plus b (2 * word_of l)) k ∙ ap (λ (w : ℕ). w / 2 ^ k) (plus_half b (word_of l)))

-- ---- words in a row

words_at : (n : ℕ) (l : List Bool) (k : ℕ) → k < n → get_or (words_of n l) k 0 ≡ word_of (take 64 (drop (64 * k) l))
unfolding words_of
words_at zero l k h = absurd (let z : ⊥ = omega arith in z)
words_at (suc n) l zero h = refl
words_at (suc n) l (suc k) h =
    let e : 64 + 64 * k ≡ 64 * suc k = omega arith in
    words_at n (drop 64 l) k (omega arith) ∙ ap (λ (r : List Bool). word_of (take 64 r)) (drop-drop (64 * k) 64 l ∙ ap (λ (i : ℕ). drop i l) e)

take_agree : (k : ℕ) (l m : List Bool) → ((j : ℕ) → get_or l j false ≡ get_or m j false) → (j : ℕ) → get_or (take k l) j false ≡ get_or (take k m) j false
take_agree k l m h j =
    below_or j k
    (λ b. get_or-take k l j false b ∙ h j ∙ sym (get_or-take k m j false b))
    (λ b. get_or-eq_default (take k l) false (omega (arith, length-take k l)) ∙ sym (get_or-eq_default (take k m) false (omega (arith, length-take k m))))

-- Lists that have the same bits make the same words.
pub words_agree : (n : ℕ) (l m : List Bool) → ((j : ℕ) → get_or l j false ≡ get_or m j false) → words_of n l ≡ words_of n m
unfolding words_of
words_agree zero l m h = refl
words_agree (suc n) l m h =
    ap₂ (λ (w : ℕ) (ws : List ℕ). w ∷ ws) (word_agree (take 64 l) (take 64 m) (take_agree 64 l m h))
    (words_agree n (drop 64 l) (drop 64 m) (λ j. get_or-drop 64 l j false ∙ h (64 + j) ∙ sym (get_or-drop 64 m j false)))

pub words_length : (n : ℕ) (l : List Bool) → length (words_of n l) ≡ n
unfolding words_of
words_length zero l = refl
words_length (suc n) l = ap suc (words_length n (drop 64 l))

-- The bits of the words are the bits that they were made of, whatever their number.
pub bits_words : (n : ℕ) (l : List Bool) (e : ℕ) → e < 64 * n → bit_in (words_of n l) e ≡ get_or l e false
unfolding bit_in
bits_words n l e h =
    let q : 64 * (e / 64) + e % 64 ≡ e = omega arith in
    ap (λ (w : ℕ). bit_at w (e % 64)) (words_at n l (e / 64) (omega arith))
    ∙ bit_word (take 64 (drop (64 * (e / 64)) l)) (e % 64)
    ∙ get_d_part l (64 * (e / 64)) 64 (e % 64) false (omega arith)
    ∙ ap (λ (i : ℕ). get_or l i false) q

-- ---- counting

pub count_both : (f : ℕ → Bool) (n m : ℕ) → count (n + m) f ≡ count n f + count m (λ j. f (n + j))
unfolding count plus
count_both f n zero = ap (λ (k : ℕ). count k f) (add-zero n) ∙ sym (add-zero (count n f))
count_both f n (suc m) = ap (λ (k : ℕ). count k f) (add-suc n m) ∙ ap (λ (k : ℕ). plus (f (n + m)) k) (count_both f n m) ∙ out (f (n + m)) (count n f) (count m (λ j. f (n + j)))
  where
    out : (b : Bool) (x y : ℕ) → plus b (x + y) ≡ x + plus b y
    out true x y = omega arith
    out false x y = refl

-- The ones of a number of k bits.
pub count_bits : (k w : ℕ) → w < 2 ^ k → count k (bit_at w) ≡ ones w
unfolding count
count_bits zero w h = sym (le-zero (ones-le zero w h))
count_bits (suc k) w h =
    let half : w / 2 < 2 ^ k = omega arith in
    ap (λ (n : ℕ). count n (bit_at w)) (sym (one-add k))
    ∙ count_both (bit_at w) 1 k
    ∙ ap₂ (λ (b : Bool) (n : ℕ). plus b 0 + n) (bit_zero w)
    (count_agree (λ j. bit_at w (1 + j)) (bit_at (w / 2)) k (λ j l. ap (bit_at w) (one-add j) ∙ bit_suc w j) ∙ count_bits k (w / 2) half)
    ∙ ap (λ (n : ℕ). n + ones (w / 2)) (odd_plus w 0 ∙ add-zero (w % 2))
    ∙ sym (ones_step w)

-- ---- the first

-- What passes only below m is found below m, and counted there.
pub first_within : (f : ℕ → Bool) (m n : ℕ) → ((i : ℕ) → m ≤ i → i < m + n → f i ≡ false) → first (m + n) f ≡ first m f
first_within f m zero h = ap (λ (k : ℕ). first k f) (add-zero m)
first_within f m (suc n) h =
    ap (λ (k : ℕ). first k f) (add-suc m n) ∙ first_skip f (m + n) (h (m + n) (omega arith) (omega arith)) ∙ first_within f m n (λ i a b. h i a (omega arith))

pub count_within : (f : ℕ → Bool) (m n : ℕ) → ((i : ℕ) → m ≤ i → i < m + n → f i ≡ false) → count (m + n) f ≡ count m f
count_within f m n h =
    count_both f m n ∙ ap (λ (k : ℕ). count m f + k) (count_zero (λ j. f (m + j)) n (λ j l. h (m + j) (omega arith) (omega arith))) ∙ add-zero (count m f)

-- The lowest bit that is 1 of a number that is not 0.
pub record Lowest (k w t : ℕ) : Type 0 where
  pub inside : t < k
  pub is_set : bit_at w t ≡ true
  pub below : (j : ℕ) → j < t → bit_at w j ≡ false

lowest_more : (k w t d : ℕ) → w % 2 ≡ d → (w % 2 ≡ 0 → Lowest k (w / 2) t) → Lowest (suc k) w (under d t)
lowest_more k w t zero e h =
    let r = h e in
    record { inside = omega (arith, r.inside); is_set = bit_suc w t ∙ r.is_set; below = less }
  where
    less : (j : ℕ) → j < suc t → bit_at w j ≡ false
    less zero l = bit_zero w ∙ ne_eqb (w % 2) 1 (λ q. let z : ⊥ = omega arith in z)
    less (suc j) l = bit_suc w j ∙ (h e).below j (omega arith)
lowest_more k w t (suc d) e h =
    record {
      inside = omega arith;
      is_set = bit_zero w ∙ eq-eqb (w % 2) 1 (omega arith);
      below = λ j l. absurd (let z : ⊥ = omega arith in z);
    }

pub trailing_lowest : (k w : ℕ) → w < 2 ^ k → 0 < w → Lowest k w (count_trailing_zeros k w)
unfolding count_trailing_zeros
trailing_lowest zero w h p = absurd (let z : ⊥ = omega arith in z)
trailing_lowest (suc k) w h p = lowest_more k w (count_trailing_zeros k (w / 2)) (w % 2) refl (λ e. trailing_lowest k (w / 2) (omega arith) (omega arith))

-- ---- a loop over the words: the word k holds what f says of the 64 numbers from 64 k on

module _ (f : ℕ → Bool) (k w : ℕ) (small : w < 2 ^ 64) (is : (j : ℕ) → j < 64 → f (64 * k + j) ≡ bit_at w j) where
  next : 64 * (k + 1) ≡ 64 * k + 64
  next = omega arith

  pub count_word : count (64 * (k + 1)) f ≡ count (64 * k) f + ones w
  count_word =
      ap (λ (n : ℕ). count n f) next ∙ count_both f (64 * k) 64
      ∙ ap (λ (n : ℕ). count (64 * k) f + n) (count_agree (λ j. f (64 * k + j)) (bit_at w) 64 is ∙ count_bits 64 w small)

  pub first_word : (n : ℕ) → k < n → 0 < w → first (64 * k) f ≡ none → first (64 * n) f ≡ some (64 * k + count_trailing_zeros 64 w)
  first_word n h p e =
      let t = trailing_lowest 64 w small p in
      first_least f (64 * n) (64 * k + count_trailing_zeros 64 w) (omega (arith, t.inside)) (is (count_trailing_zeros 64 w) t.inside ∙ t.is_set)
      (first_within f (64 * k) (count_trailing_zeros 64 w) (λ i a b. before i a b t.inside t.below) ∙ e)
    where
      before : (i : ℕ) → 64 * k ≤ i → i < 64 * k + count_trailing_zeros 64 w → count_trailing_zeros 64 w < 64 → ((j : ℕ) → j < count_trailing_zeros 64 w → bit_at w j ≡ false) → f i ≡ false
      before i a b c d =
          let q : 64 * k + (i - 64 * k) ≡ i = omega arith in
          ap f (sym q) ∙ is (i - 64 * k) (omega arith) ∙ d (i - 64 * k) (omega arith)

  pub first_no_word : w ≡ 0 → first (64 * k) f ≡ none → first (64 * (k + 1)) f ≡ none
  first_no_word z e = ap (λ (n : ℕ). first n f) next ∙ first_within f (64 * k) 64 before ∙ e
    where
      before : (i : ℕ) → 64 * k ≤ i → i < 64 * k + 64 → f i ≡ false
      before i a b =
          let q : 64 * k + (i - 64 * k) ≡ i = omega arith in
          ap f (sym q) ∙ is (i - 64 * k) (omega arith) ∙ ap (λ (v : ℕ). bit_at v (i - 64 * k)) z ∙ bit_none (i - 64 * k)

-- How many zeros stand below the lowest bit is a number of 64 bits.
pub zeros_fit : (w : ℕ) → count_trailing_zeros 64 w < 2 ^ 64
zeros_fit w = omega (arith, trailing_le 64 w)
