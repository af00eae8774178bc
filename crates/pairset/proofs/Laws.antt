-- The turns and the returns of this crate's functions, as `search` finds them: the premises are what the code holds there.
use mathlib.Core.Path.{◌≡◌, refl, sym, ap, ap₂, ◌∙◌}
use mathlib.Core.Bool.{Bool, false}
use mathlib.Core.List.{List, [], ◌∷◌, ◌++◌}
use mathlib.Core.Option.{none}
use Prim.Native.Nat.{ℕ, suc, ◌+◌, ◌-◌, ◌*◌, ◌/◌, ◌%◌, ◌^◌, ◌≤◌, ◌<◌}
use native.Mathlib.Nat.{div-mul-le_self, mod-eq_of_lt, zero-add}
use native.Mathlib.Omega.{arith}
use borrow.Author.Tests.{lt-ltb, le-ltb, le-leb, lt-leb}
use lib.Count.{count_trailing_zeros, trailing_le}
use lib.Dec.{leb}
use lib.ListN.{length, get_or, set, take, drop, replicate, length-append, length-drop, length-replicate, get_or-replicate, get_or-append, get_or-eq_default}
use lib.Seq.{sets, length-take-le}
use Rattle.laws.specs.Tests.{◌and◌, first, found, listed}
use Rattle.laws.specs.TestLaws.{and_right, fails, first_none}
use Rattle.laws.specs.Lists.{choose_yes, choose_no}
use Rattle.laws.specs.Counting.{first_agree}
use Rattle.laws.specs.Slices.{below_or}
use Rattle.laws.specs.Bits.{bit_at, bit_in, first_no_word, first_within, first_word, zeros_fit}
use Rattle.laws.specs.BitSets.{bit_from, with_bit, word_bit}
use Rattle.pairset.specs.Store.{danger_bit, danger_word, head_at, pair_base, pair_bit, new_at, link_at, pairs_in, Store, last_pair, pair_before, Has, Appends, Appended, MarksDanger, DangerMarked, Empties, Emptied, NextPartner, RowFrom}
use Rattle.pairset.specs.StoreLaws.{danger_more, dangers_stay, listed_at, listed_inside, marked_length, more_length, new_stays, no_dangers, old_stays, pairs_more, store_marked, store_more, store_none}

-- ---- `old_of`, `new_of`, `danger_word`, `last_pair`, `pair_before`

module _ (w : List ℕ) (k : ℕ) where
  past : (i : ℕ) → length w ≤ k → k ≤ i → 0 ≡ get_or w i 0
  past i h l = sym (get_or-eq_default w 0 (omega arith))

  pub number_past : (j : ℕ) → length w ≤ k → 0 ≡ get_or w (pair_base + j + 3 * k) 0
  number_past j h = past (pair_base + j + 3 * k) h (omega arith)

  pub danger_past : length w ≤ k → 0 ≡ danger_word w k
  danger_past h = past (4608 + k) h (omega arith)

  pub last_in : (r : ℕ) → k < 512 → r ≡ get_or w k 0 → r ≡ last_pair w k
  unfolding last_pair
  last_in r h e = e ∙ sym (choose_yes _ _ (lt-ltb k 512 h))

  pub last_out : 512 ≤ k → 0 ≡ last_pair w k
  unfolding last_pair
  last_out h = sym (choose_no _ _ (le-ltb k 512 h))

  module _ (place : ℕ) (p : place ≡ link_at w k) where
    pub before_in : place ≤ k → place ≡ pair_before w k
    unfolding pair_before
    before_in h = rw (← p) (sym (choose_yes place 0 (le-leb place k h)))

    pub before_out : k < place → 0 ≡ pair_before w k
    unfolding pair_before
    before_out h = rw (← p) (sym (choose_no place 0 (lt-leb place k h)))

pub ruleset reads = (number_past, danger_past, last_in, last_out, before_in, before_out)

-- ---- `empty`

pub empty_short : (w : List ℕ) → length w < pair_base → Emptied w w
unfolding Empties
empty_short w h = record { empties = λ l. absurd (let z : ⊥ = omega arith in z); size = refl }

module _ (w : List ℕ) (h : pair_base ≤ length w) where
  abbrev cleared : List ℕ
  cleared = replicate (length (take pair_base w)) 0

  long : length cleared ≡ pair_base
  long = length-replicate (length (take pair_base w)) 0 ∙ length-take-le pair_base w h

  zeros : (k : ℕ) → k < pair_base → get_or (cleared ++ drop pair_base w) k 0 ≡ 0
  zeros k l =
      get_or-append cleared (drop pair_base w) 0 k (omega (arith, long))
      ∙ get_or-replicate (length (take pair_base w)) k 0 0 (omega (arith, length-take-le pair_base w h))

  pub empty_done : Emptied w (replicate (length (take pair_base w)) 0 ++ drop pair_base w)
  unfolding Empties
  empty_done =
      let size : length (cleared ++ drop pair_base w) ≡ length w = omega (arith, length-append cleared (drop pair_base w), long, length-drop pair_base w) in
      record { empties = λ _. (store_none _ (omega arith) zeros, no_dangers _ (omega arith) zeros); size = size }

pub ruleset clears = (empty_short, empty_done)

-- ---- `has`

module _ (w : List ℕ) (a b : ℕ) where
  pub has_no_row : 512 ≤ a → Has w a b false
  unfolding Has
  has_no_row h c s = sym (fails _ (λ e. let r = listed_inside s a b e in let z : ⊥ = omega (arith, r.0) in z))

  pub has_no_bit : 512 ≤ b → Has w a b false
  unfolding Has
  has_no_bit h c s = sym (fails _ (λ e. let r = listed_inside s a b e in let z : ⊥ = omega (arith, r.1) in z))

  pub has_is : (r : Bool) → a < 512 → b < 512 → r ≡ bit_in w (pair_bit a b) → Has w a b r
  unfolding Has
  has_is r h l e c s = e ∙ s.bits a b h l

pub ruleset finds = (has_no_row, has_no_bit, has_is)

-- ---- `append`

module _ (w : List ℕ) (c a b : ℕ) where
  pub append_past : length w ≤ c → Appended w c a b w
  unfolding Appends
  append_past h = record { appends = λ s an bn room. absurd (let z : ⊥ = omega arith in z); size = refl }

  pub append_no_row : 512 ≤ a → Appended w c a b w
  unfolding Appends
  append_no_row h = record { appends = λ s an bn room. absurd (let z : ⊥ = omega arith in z); size = refl }

  pub append_no_bit : 512 ≤ b → Appended w c a b w
  unfolding Appends
  append_no_bit h = record { appends = λ s an bn room. absurd (let z : ⊥ = omega arith in z); size = refl }

  pub append_done : a < 512 → Appended w c a b (set (with_bit (sets w (pair_base + 3 * c) (a ∷ b ∷ head_at w a ∷ [])) (pair_bit a b)) a (c + 1))
  unfolding Appends
  append_done h =
      rw (last_in w a (head_at w a) h refl)
      (record { appends = λ s an bn room. (store_more w c a b s an bn room, pairs_more w c a b s an bn room, dangers_stay w c a b s an bn room); size = more_length w c a b })

pub ruleset adds = (append_past, append_no_row, append_no_bit, append_done)

-- ---- `mark_danger`

module _ (w : List ℕ) (e : ℕ) where
  pub mark_past : 1024 ≤ e → DangerMarked w e w
  unfolding MarksDanger
  mark_past h = record { marks = λ c s l. absurd (let z : ⊥ = omega arith in z); size = refl }

  pub mark_done : (v : List ℕ) → v ≡ with_bit w (danger_bit e) → DangerMarked w e v
  unfolding MarksDanger
  mark_done v q =
      rw q (record { marks = λ c s l. (store_marked w e c s l, λ k. (old_stays w e c s l k, new_stays w e c s l k), danger_more w e c s l); size = marked_length w e })

pub ruleset dangers = (mark_past, mark_done)

-- ---- `row_from`

module _ (w : List ℕ) (a k from word skip : ℕ) (e : word ≡ get_or w (512 + 8 * a + k) 0) where
  -- The word, bit by bit.
  row_bit : (j : ℕ) → j < 64 → bit_at word j ≡ bit_in w (pair_bit a (64 * k + j))
  row_bit j h =
      let q : 64 * (512 + 8 * a + k) + j ≡ pair_bit a (64 * k + j) = omega arith in
      ap (λ (n : ℕ). bit_at n j) e ∙ sym (word_bit w (512 + 8 * a + k) j h) ∙ ap (bit_in w) q

  pub row_part : word < 2 ^ 64 → skip ≡ from - 64 * k → RowFrom w a k from (word / 2 ^ skip * 2 ^ skip % 18446744073709551616)
  unfolding RowFrom
  row_part small d j h =
      let exact : word / 2 ^ skip * 2 ^ skip % 2 ^ 64 ≡ word / 2 ^ skip * 2 ^ skip = mod-eq_of_lt (omega (arith, small, div-mul-le_self word (2 ^ skip))) in
      let same : leb skip j ≡ leb from (64 * k + j) =
      below_or j skip
      (λ q. lt-leb skip j q ∙ sym (lt-leb from (64 * k + j) (omega arith)))
      (λ q. le-leb skip j q ∙ sym (le-leb from (64 * k + j) (omega arith))) in
      ap (λ (n : ℕ). bit_at n j) exact ∙ bit_from skip word j ∙ ap₂ (λ (t u : Bool). t and u) same (row_bit j h)

pub ruleset rows = (row_part, zeros_fit)

-- ---- `next_partner`

-- What passes nowhere below n is not found there.
none_of : (f : ℕ → Bool) (n : ℕ) → ((j : ℕ) → j < n → f j ≡ false) → first n f ≡ none
unfolding first
none_of f n h = ap (λ (k : ℕ). first k f) (sym (zero-add n)) ∙ first_within f 0 n (λ i l u. h i (omega arith))

module _ (w : List ℕ) (a from : ℕ) where
  -- The new nodes from `from` on that are paired with a, by the bits.
  abbrev partner : ℕ → Bool
  partner b = leb from b and bit_in w (pair_bit a b)

  -- The first of them below 512 by the bits is the first below n by the pairs.
  by_bits : a < 512 → (c n : ℕ) → Store w c → n ≤ 512 → ((k : ℕ) → k < c → new_at w k < n) → first 512 partner ≡ first n (λ b. leb from b and listed (pairs_in w c) a b)
  by_bits an c n s m h =
      let q : n + (512 - n) ≡ 512 = omega arith in
      ap (λ (k : ℕ). first k partner) (sym q)
      ∙ first_within partner n (512 - n)
      (λ i l u.
      fails _ (λ e.
      let t = listed_at w a i c (sym (s.bits a i an (omega arith)) ∙ and_right _ _ e) in
      let z : ⊥ = omega (arith, h t.0 t.1, t.3) in z))
      ∙ first_agree partner (λ b. leb from b and listed (pairs_in w c) a b) n (λ i l. ap (λ (t : Bool). leb from i and t) (s.bits a i an (omega arith)))

  next_is : a < 512 → (r : ℕ) → r ≡ found (first 512 partner) → NextPartner w a from r
  unfolding NextPartner
  next_is an r e c n s m h = e ∙ ap found (by_bits an c n s m h)

  pub next_no_row : 512 ≤ a → NextPartner w a from 0
  unfolding NextPartner
  next_no_row l c n s m h =
      sym (ap found (none_of (λ b. leb from b and listed (pairs_in w c) a b) n
      (λ j q. fails _ (λ e. let t = listed_inside s a j (and_right _ _ e) in let z : ⊥ = omega (arith, t.0) in z))))

-- No new node below 64 k is a partner.
unfoldable pub NoneTo : List ℕ → ℕ → ℕ → ℕ → Type 0
NoneTo w a from k = first (64 * k) (partner w a from) ≡ none

module _ (w : List ℕ) (a from : ℕ) where
  pub next_start : NoneTo w a from (from / 64)
  unfolding NoneTo ◌and◌
  next_start =
      none_of (partner w a from) (64 * (from / 64))
      (λ j h. ap (λ (t : Bool). t and bit_in w (pair_bit a j)) (lt-leb from j (omega arith)))

  module _ (k word : ℕ) (inv : NoneTo w a from k) (row : RowFrom w a k from word) (small : word < 2 ^ 64) where
    is : (j : ℕ) → j < 64 → partner w a from (64 * k + j) ≡ bit_at word j
    unfolding RowFrom
    is j h = sym (row j h)

    pub next_found : a < 512 → k < 8 → (word ≡ 0 → ⊥) → NextPartner w a from (suc (64 * k + count_trailing_zeros 64 word))
    unfolding NoneTo
    next_found an h n = next_is w a from an _ (sym (ap found (first_word (partner w a from) k word small is 8 h (omega arith) inv)))

    pub next_on : word ≡ 0 → NoneTo w a from (k + 1)
    unfolding NoneTo
    next_on z = first_no_word (partner w a from) k word small is z inv

  pub next_none : (k : ℕ) → NoneTo w a from k → a < 512 → 8 ≤ k → NextPartner w a from 0
  unfolding NoneTo
  next_none k inv an h =
      next_is w a from an 0
      (sym (ap found (none_of (partner w a from) 512 (λ j l. fails _ (λ e. first_none (partner w a from) (64 * k) inv j (omega arith) e)))))

pub ruleset nexts = (next_no_row, next_start, next_found, next_on, next_none, trailing_le)
