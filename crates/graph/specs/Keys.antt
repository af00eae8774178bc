-- The key of a word: words are compared by their keys, each a number of 64 bits.
use Rattle.std.specs.Prelude.{◌≡◌, refl, true, [], ◌∷◌, ℕ, ◌≤◌, ◌<◌, eqb, length, take}
use Rattle.std.proofs.Common.{sym, ap, ◌∙◌, arith, take_all, eqb-true, eq-eqb, leb-true}
use Rattle.laws.specs.Digits.{itself, number}
use Rattle.laws.specs.Tests.{◌and◌, isnt}
use Rattle.laws.specs.TestLaws.{and_left, and_right, same_test}
use Rattle.rules.specs.Text.{Bytes, same, between, all_bytes, word_byte, is_word}
use Rattle.rules.specs.Graph.{star}
use Rattle.rules.proofs.TextLaws.{same_true, same_of}

-- Its bytes as digits to the base 256, the first the lowest.
abbrev pub word_key : Bytes → ℕ
word_key = number 256 itself

-- A byte of a word is a digit, and not 0.
pub digit_of : (x : ℕ) → word_byte x ≡ true → (0 < x) × (x < 256)
unfolding word_byte between
digit_of x h =
    let a : 33 ≤ x = leb-true 33 x (and_left _ _ (and_left _ _ h)) in
    let b : x ≤ 126 = leb-true x 126 (and_right _ _ (and_left _ _ h)) in
    (omega arith, omega arith)

spelt : (a b : Bytes) → all_bytes word_byte a ≡ true → all_bytes word_byte b ≡ true → word_key a ≡ word_key b → a ≡ b
unfolding number all_bytes
spelt [] [] p q e = refl
spelt [] (y ∷ b) p q e = absurd (let z : ⊥ = omega (arith, (digit_of y (and_left _ _ q)).0) in z)
spelt (x ∷ a) [] p q e = absurd (let z : ⊥ = omega (arith, (digit_of x (and_left _ _ p)).0) in z)
spelt (x ∷ a) (y ∷ b) p q e =
    let h : x < 256 = (digit_of x (and_left _ _ p)).1 in
    let i : y < 256 = (digit_of y (and_left _ _ q)).1 in
    let d : x ≡ y = omega arith in
    let r : a ≡ b = spelt a b (and_right _ _ p) (and_right _ _ q) (omega arith) in
    cc

-- Words with one key are the same.
pub key_spells : (a b : Bytes) → is_word a ≡ true → is_word b ≡ true → word_key a ≡ word_key b → a ≡ b
unfolding is_word
key_spells a b p q e = spelt a b (and_right _ _ p) (and_right _ _ q) e

pub same_keys : (a b : Bytes) → is_word a ≡ true → is_word b ≡ true → same a b ≡ eqb (word_key a) (word_key b)
same_keys a b p q = same_test _ _ (λ t. eq-eqb _ _ (ap word_key (same_true a b t))) (λ t. same_of (key_spells a b p q (eqb-true _ _ t)))

-- A word has at most 8 bytes.
pub word_short : (w : Bytes) → is_word w ≡ true → take 8 w ≡ w
unfolding is_word between
word_short w h = take_all 8 w (leb-true (length w) 8 (and_right _ _ (and_left _ _ h)))

-- `*` is a word, and its key is 42; a word with this key is `*`.
pub star_word : is_word star ≡ true
unfolding is_word between all_bytes word_byte isnt ◌and◌
star_word = refl

pub star_key : word_key star ≡ 42
unfolding number
star_key = refl

pub key_star : (w : Bytes) → is_word w ≡ true → word_key w ≡ 42 → w ≡ star
key_star w v e = key_spells w star v star_word (e ∙ sym star_key)
