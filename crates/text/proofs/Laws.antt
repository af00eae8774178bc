-- The turns and the returns of this crate's functions, as `search` finds them: the premises are what the code holds there.
use mathlib.Core.Path.{◌≡◌, refl, sym, ap, ap₂, ◌∙◌}
use mathlib.Core.Bool.{Bool, true, false, ◌&&◌, ◌||◌, not}
use mathlib.Core.List.{List, [], ◌∷◌, ◌++◌, append_assoc, append-nil}
use Prim.Native.Nat.{ℕ, zero, suc, ◌+◌, ◌-◌, ◌*◌, ◌/◌, ◌%◌, ◌^◌, ◌≤◌, ◌<◌, min}
use native.Mathlib.Omega.{arith}
use Rattle.std.proofs.Common.{add-one, zero-add}
use lib.Dec.{eqb, leb, ltb}
use lib.ListN.{length, get_or, set, take, drop, length-drop, length-append, take-append-drop}
use lib.Seq.{drop-drop, length-take-le, set_out, sets, sets-eq, length-sets}
use borrow.Author.Tests.{le-leb, le-ltb, lt-leb, lt-ltb}
use Rattle.laws.specs.Tests.{◌and◌, ◌or◌, isnt, choose, has}
use Rattle.laws.specs.TestLaws.{and_assoc, and_ends, and_right, same_test, or_assoc, or_ends, or_left, or_right, fails, both_ways}
use Rattle.laws.specs.Slices.{below_or, drop_at, drop_end, sets_append, sets_out}
use borrow.Rule.Slice.PartMut.{put_mid}
use lib.Pointwise.{pointwise}
use Rattle.std.specs.Cmp.{IsEquivalence}
use Rattle.laws.specs.Bits.{bit_at, bit_in}
use Rattle.laws.specs.BitSets.{bit_in_lem, bit_out}
use Rattle.rules.specs.Text.{Bytes, same, between, all_bytes, name_byte, label_byte, word_byte, digit_byte, is_name, is_label, is_word, is_number, value_from, decimal}
use Rattle.rules.specs.SuiteFile.{hex_byte}
use Rattle.rules.proofs.TextLaws.{decimal_small, decimal_more, same_true}
use Rattle.std.specs.Prelude.{◌⊎◌, Option, Some, None, cond}
use Rattle.std.proofs.Common.{inl, inr}
use Rattle.text.specs.declared.Class.{Class}
use Rattle.text.specs.declared.Class.TheVariants.{Name, Label, Word, Digit}
use Rattle.std.specs.List.{list_all, position, position_or_len}
use Rattle.std.specs.Option.{unwrap_or}
use Rattle.text.specs.Scans.{last_byte, span, plain_byte, class_byte, sized}
use Rattle.text.specs.SplitLaws.{span_within}
use Rattle.text.specs.Puts.{Puts, puts_then}
use Rattle.text.specs.Hash.{hash_from, hash_of}

-- The test of the code and that of the rules.
pub also : (a b : Bool) → (a && b) ≡ (a and b)
unfolding ◌and◌
also true b = refl
also false b = refl

either : (a b : Bool) → (a || b) ≡ (a or b)
unfolding ◌or◌
either true b = refl
either false b = refl

pub not_is : (a : Bool) → not a ≡ isnt a
unfolding isnt
not_is true = refl
not_is false = refl

-- ---- `find_short`, `block_has`, `find`

first_place : (b : ℕ) (s : Bytes) → position_or_len (λ x. eqb x b) s ≡ span b s
unfolding span choose
first_place b [] = refl
first_place b (x ∷ s) = by_cases (eqb x b) (first_place b s)
  where
    by_cases : (t : Bool) → position_or_len (λ x. eqb x b) s ≡ span b s → cond (not t) (1 + position_or_len (λ x. eqb x b) s) 0 ≡ choose t 0 (suc (span b s))
    by_cases true e = refl
    by_cases false e = omega arith

-- The place that was found, or else the end.
pub place_or_end : (f : ℕ → Bool) (s : Bytes) (o : Option ℕ) (n : ℕ) → o ≡ position f s → position_or_len f s ≡ n → n ≤ length s → unwrap_or o (length s) ≡ n
place_or_end f s o n e q l =
    ap (λ (o : Option ℕ). unwrap_or o (length s)) e
    ∙ ap (λ (n : ℕ). unwrap_or (cond (ltb n (length s)) (Some n) None) (length s)) q
    ∙ below_or n (length s)
    (λ h. ap (λ (t : Bool). unwrap_or (cond t (Some n) None) (length s)) (lt-ltb n (length s) h))
    (λ h. ap (λ (t : Bool). unwrap_or (cond t (Some n) None) (length s)) (le-ltb n (length s) h) ∙ omega arith)

pub find_place : (b : ℕ) (s : Bytes) (r : ℕ) (o : Option ℕ) → o ≡ position (λ x. eqb x b) s → r ≡ unwrap_or o (length s) → r ≡ span b s
find_place b s r o e q = q ∙ place_or_end _ s o (span b s) e (first_place b s) (span_within b s)

pub has_start : (b : ℕ) (s : Bytes) → has s b ≡ (false or has s b)
unfolding ◌or◌
has_start b s = refl

module _ (b : ℕ) (s : Bytes) (i : ℕ) (hit : Bool) (inv : has s b ≡ (hit or has (drop i s) b)) where
  pub has_on : i < length s → has s b ≡ ((hit || eqb (get_or s i 0) b) or has (drop (i + 1) s) b)
  unfolding has
  has_on h =
      let rest = has (drop (i + 1) s) b in
      inv
      ∙ ap (λ (l : Bytes). hit or has l b) (drop_at s i 0 h)
      ∙ or_assoc hit (eqb (get_or s i 0) b) rest
      ∙ ap (λ (t : Bool). t or rest) (sym (either hit (eqb (get_or s i 0) b)))

  pub has_done : length s ≤ i → hit ≡ has s b
  unfolding has
  has_done h = sym (or_ends hit) ∙ sym (inv ∙ ap (λ (l : Bytes). hit or has l b) (drop_end s i h))

-- The first b stands past a part that has none.
span_past : (b n : ℕ) (s : Bytes) → n ≤ length s → has (take n s) b ≡ false → span b s ≡ n + span b (drop n s)
unfolding span has choose ◌or◌
span_past b zero s h e = omega arith
span_past b (suc n) [] h e = absurd (let z : ⊥ = omega arith in z)
span_past b (suc n) (x ∷ s) h e =
    let p : eqb x b ≡ false = fails _ (λ y. both_ways (or_left (has (take n s) b) y) e) in
    let q : has (take n s) b ≡ false = fails _ (λ y. both_ways (or_right (eqb x b) y) e) in
    ap (λ (t : Bool). choose t 0 (suc (span b s))) p ∙ omega (arith, span_past b n s (omega arith) q)

pub find_past : (b : ℕ) (s rest block more : Bytes) (t : Bool) → span b s ≡ length s - length rest + span b rest → length rest ≤ length s
    → block ≡ take 16 rest → more ≡ drop 16 rest → 16 ≤ length rest → t ≡ has block b → t ≡ false → span b s ≡ length s - length more + span b more
find_past b s rest block more t inv l eb em h e n =
    let p : span b rest ≡ 16 + span b (drop 16 rest) = span_past b 16 rest h (ap (λ (x : Bytes). has x b) (sym eb) ∙ sym e ∙ n) in
    omega (arith, ap length em, length-drop 16 rest, ap (span b) em)

pub ruleset finds = (has_start, has_on, has_done, find_past, span_within)

-- ---- `same`

pub same_sized : (a b : Bytes) → (length a ≡ length b → ⊥) → false ≡ same a b
same_sized a b h = sym (fails _ (λ y. h (ap length (same_true a b y))))

pub same_not : (a b : Bytes) (x y : ℕ) → x ≡ last_byte a → y ≡ last_byte b → (x ≡ y → ⊥) → false ≡ same a b
same_not a b x y e f n = sym (fails _ (λ h. n (e ∙ ap last_byte (same_true a b h) ∙ sym f)))

pub ruleset sames = (same_sized, same_not)

-- ---- `first`, `first_short`

pub first_is : (b : ℕ) (s r : Bytes) (n : ℕ) → n ≡ span b s → r ≡ take n s → r ≡ take (span b s) s
first_is b s r n e q = q ∙ ap (λ (m : ℕ). take m s) e

-- ---- `get`, `put`, `bit_at`, `set_bit`, `clear`, `copy`

pub bit_read : (s : List ℕ) (i n : ℕ) → n ≡ get_or s (i / 64) 0 → eqb (n / 2 ^ (i % 64) % 2) 1 ≡ bit_in s i
unfolding bit_in bit_at
bit_read s i n e = ap (λ (x : ℕ). eqb (x / 2 ^ (i % 64) % 2) 1) e

pub copy_none : {A : Type 0} (d s : List A) (at : ℕ) → length d ≤ at → d ≡ sets d at s
copy_none d s at h = sym (sets_out s d at h)

-- As many of s as fit.
module _ {A : Type 0} (d s : List A) (at n : ℕ) (e : n ≡ min (length s) (length d - at)) where
  sets_fit : at < length d → sets d at s ≡ take at d ++ (take n s ++ drop (at + n) d)
  sets_fit h =
      let m : length (take n s) ≡ n = length-take-le n s (omega arith) in
      let whole : sets d at s ≡ sets d at (take n s) =
      sym (sets_append d at (take n s) (drop n s) ∙ ap (sets d at) (take-append-drop n s))
      ∙ below_or n (length s)
      (λ l. sets_out (drop n s) (sets d at (take n s)) (at + length (take n s)) (omega (arith, length-sets d at (take n s))))
      (λ l. ap (sets (sets d at (take n s)) (at + length (take n s))) (drop_end s n l)) in
      whole ∙ sets-eq (take n s) d at (omega arith) ∙ append_assoc (take at d) (take n s) (drop (at + length (take n s)) d)
      ∙ ap (λ (k : ℕ). take at d ++ (take n s ++ drop (at + k) d)) m

-- One more of s put at the front of d, and no more.
module _ {A : Type 0} (d₀ d s : List A) (i n : ℕ) (inv : sets d₀ 0 s ≡ sets d i (drop i s)) (e : n ≡ min (length s) (length d₀)) where
  pub front_on : (x : A) → i < n → x ≡ get_or s i x → sets d₀ 0 s ≡ sets (set d i x) (i + 1) (drop (i + 1) s)
  front_on x h q = inv ∙ ap (sets d i) (drop_at s i x (omega (arith, e)) ∙ ap (λ (y : A). y ∷ drop (i + 1) s) (sym q))
      ∙ ap (λ (k : ℕ). sets (set d i x) k (drop (i + 1) s)) (sym (add-one i))

  pub front_done : length d ≡ length d₀ → n ≤ i → d ≡ sets d₀ 0 s
  front_done l h =
      below_or i (length s)
      (λ b. sym (inv ∙ sets_out (drop i s) d i (omega (arith, e, l))))
      (λ b. sym (inv ∙ ap (sets d i) (drop_end s i b)))

front_none : {A : Type 0} (s : List A) → take 0 s ≡ []
front_none [] = refl
front_none (x ∷ s) = refl

-- What stands from a place on, with s put at its front.
pub copy_front : {A : Type 0} (d s x : List A) (at : ℕ) → at < length d → x ≡ sets (take (length d - at) (drop at d)) 0 s → put_mid at (length d - at) d x ≡ sets d at s
copy_front {A} d s x at h q =
    let n = min (length s) (length d - at) in
    let l : length (drop at d) ≡ length d - at = length-drop at d in
    let none : drop (length d - at) (drop at d) ≡ [] = drop_end (drop at d) (length d - at) (omega (arith, l)) in
    let all : take (length d - at) (drop at d) ≡ drop at d =
    sym (append-nil _) ∙ ap (λ (r : List A). take (length d - at) (drop at d) ++ r) (sym none) ∙ take-append-drop (length d - at) (drop at d) in
    ap (λ (r : List A). take at d ++ r)
    (ap₂ (λ (y r : List A). y ++ r)
    (q ∙ ap (λ (r : List A). sets r 0 s) all ∙ sets_fit (drop at d) s 0 n (omega (arith, l)) (omega (arith, l)) ∙ ap₂ (λ (f : List A) (k : ℕ). f ++ (take n s ++ drop k (drop at d))) (front_none (drop at d)) (zero-add n)
    ∙ ap (λ (r : List A). take n s ++ r) (drop-drop n at d))
    none ∙ append-nil _)
    ∙ sym (sets_fit d s at n refl h)

-- Lists are equal by E just if they are without a front and an end that they share.
module _ {A : Type 0} (E : A → A → Bool) (equiv : IsEquivalence E) where
  equal_self : (a : List A) → pointwise E a a ≡ true
  equal_self [] = refl
  equal_self (z ∷ a) = simp (equiv.refl z) (equal_self a)

  front_equal : (a x y : List A) → pointwise E (a ++ x) (a ++ y) ≡ pointwise E x y
  front_equal [] x y = refl
  front_equal (z ∷ a) x y = simp (equiv.refl z) (front_equal a x y)

  end_equal : (x y b : List A) → length x ≡ length y → pointwise E (x ++ b) (y ++ b) ≡ pointwise E x y
  end_equal [] [] b l = equal_self b
  end_equal [] (v ∷ y) b l = absurd (let z : ⊥ = omega arith in z)
  end_equal (u ∷ x) [] b l = absurd (let z : ⊥ = omega arith in z)
  end_equal (u ∷ x) (v ∷ y) b l = ap (λ (t : Bool). E u v && t) (end_equal x y b (omega arith))

  pub run_equal : (d s room : List A) (at n : ℕ) (t : Bool) → room ≡ drop at d → n ≡ min (length s) (length room) → t ≡ pointwise E (take n s) (take n room)
      → t ≡ pointwise E (sets d at s) d
  run_equal d s room at n t q e u = below_or at (length d) within beyond
    where
      long : length room ≡ length d - at
      long = ap length q ∙ length-drop at d

      within : at < length d → t ≡ pointwise E (sets d at s) d
      within h =
          let m : length (take n s) ≡ length (take n room) = length-take-le n s (omega (arith, long)) ∙ sym (length-take-le n room (omega (arith, long))) in
          let whole : d ≡ take at d ++ (take n room ++ drop (at + n) d) =
          sym (take-append-drop at d)
          ∙ ap (λ (r : List A). take at d ++ r) (sym q ∙ sym (take-append-drop n room) ∙ ap (λ (r : List A). take n room ++ r) (ap (drop n) q ∙ drop-drop n at d)) in
          u
          ∙ sym (front_equal (take at d) (take n s ++ drop (at + n) d) (take n room ++ drop (at + n) d) ∙ end_equal (take n s) (take n room) (drop (at + n) d) m)
          ∙ ap₂ (pointwise E) (sym (sets_fit d s at n (omega (arith, long)) h)) (sym whole)

      beyond : length d ≤ at → t ≡ pointwise E (sets d at s) d
      beyond h =
          let z : n ≡ 0 = omega (arith, long) in
          u ∙ ap (λ (k : ℕ). pointwise E (take k s) (take k room)) z ∙ sym (equal_self d) ∙ ap (λ (x : List A). pointwise E x d) (copy_none d s at h)

pub ruleset bits = (bit_read, bit_out, bit_in_lem)

pub ruleset stores = (copy_none, front_on, front_done, copy_front, run_equal)

-- ---- the classes

pub between_is : (a b x : ℕ) → (leb a x && leb x b) ≡ between a b x
unfolding between
between_is a b x = also (leb a x) (leb x b)

pub name_is : (x : ℕ) (t u v : Bool) → t ≡ between 65 90 x → u ≡ between 97 122 x → v ≡ between 48 57 x → (t || u || v || eqb x 95) ≡ name_byte x
unfolding name_byte
name_is x t u v e f g = simp (either, or_assoc, e, f, g)

pub plain_is : (a x : ℕ) (t : Bool) → t ≡ between a 126 x → (t && not (eqb x 44)) ≡ plain_byte a x
unfolding plain_byte
plain_is a x t e = also t (not (eqb x 44)) ∙ ap₂ (λ (u v : Bool). u and v) e (not_is (eqb x 44))

pub hex_is : (x : ℕ) (t u : Bool) → t ≡ between 48 57 x → u ≡ between 97 102 x → (t || u) ≡ hex_byte x
unfolding hex_byte
hex_is x t u e f = either t u ∙ ap₂ (λ (t u : Bool). t or u) e f

module _ (k : Class) (x : ℕ) (t : Bool) where
  pub label_is : k ≡ Label → t ≡ plain_byte 32 x → t ≡ class_byte k x
  unfolding label_byte plain_byte
  label_is h e = e ∙ sym (simp h)

  pub word_is : k ≡ Word → t ≡ plain_byte 33 x → t ≡ class_byte k x
  unfolding word_byte plain_byte
  word_is h e = e ∙ sym (simp h)

  pub digit_is : k ≡ Digit → t ≡ between 48 57 x → t ≡ class_byte k x
  unfolding digit_byte
  digit_is h e = e ∙ sym (simp h)

pub ruleset classes = (between_is, name_is, plain_is, hex_is, digit_is, label_is, word_is)

-- ---- `all_short`, `block_in`, `all_in`

pub block_start : (f : ℕ → Bool) (s : Bytes) → all_bytes f s ≡ (true and all_bytes f s)
unfolding ◌and◌
block_start f s = refl

module _ (f : ℕ → Bool) (s : Bytes) (i : ℕ) (all : Bool) (inv : all_bytes f s ≡ (all and all_bytes f (drop i s))) where
  pub block_on : (t : Bool) → i < length s → t ≡ f (get_or s i 0) → all_bytes f s ≡ ((all && t) and all_bytes f (drop (i + 1) s))
  unfolding all_bytes
  block_on t h e =
      let rest = all_bytes f (drop (i + 1) s) in
      inv
      ∙ ap (λ (l : Bytes). all and all_bytes f l) (drop_at s i 0 h)
      ∙ ap (λ (b : Bool). all and b and rest) (sym e)
      ∙ and_assoc all t rest
      ∙ ap (λ (b : Bool). b and rest) (sym (also all t))

  pub block_done : length s ≤ i → all ≡ all_bytes f s
  unfolding all_bytes
  block_done h = sym (and_ends all) ∙ sym (inv ∙ ap (λ (l : Bytes). all and all_bytes f l) (drop_end s i h))

each_listed : (f : ℕ → Bool) (s : Bytes) → list_all f s ≡ all_bytes f s
unfolding all_bytes
each_listed f [] = refl
each_listed f (x ∷ s) = also (f x) (list_all f s) ∙ ap (λ (b : Bool). f x and b) (each_listed f s)

-- A part and the rest of it.
all_part : (f : ℕ → Bool) (n : ℕ) (s : Bytes) → all_bytes f s ≡ (all_bytes f (take n s) and all_bytes f (drop n s))
unfolding all_bytes ◌and◌
all_part f zero s = refl
all_part f (suc n) [] = refl
all_part f (suc n) (x ∷ s) = ap (λ (b : Bool). f x and b) (all_part f n s) ∙ and_assoc (f x) (all_bytes f (take n s)) (all_bytes f (drop n s))

all_drop : (f : ℕ → Bool) (n : ℕ) (s : Bytes) → all_bytes f s ≡ true → all_bytes f (drop n s) ≡ true
all_drop f n s y = and_right _ _ (sym (all_part f n s) ∙ y)

-- What is left of s behind whole blocks, all of whose bytes pass.
pub record Left (f : ℕ → Bool) (s rest : Bytes) : Type 0 where
  pub from : ℕ
  pub is : rest ≡ drop from s
  pub all : all_bytes f s ≡ all_bytes f rest

pub left_all : (f : ℕ → Bool) (s : Bytes) → Left f s s
left_all f s = record { from = 0; is = refl; all = refl }

module _ (f : ℕ → Bool) (s rest : Bytes) (l : Left f s rest) where
  module _ (block more : Bytes) (t : Bool) (eb : block ≡ take 16 rest) (em : more ≡ drop 16 rest) (et : t ≡ all_bytes f block) where
    parted : all_bytes f s ≡ (t and all_bytes f more)
    parted = l.all ∙ all_part f 16 rest ∙ ap₂ (λ (b : Bool) (r : Bytes). b and all_bytes f r) (sym (et ∙ ap (all_bytes f) eb)) (sym em)

    pub left_on : t ≡ true → Left f s more
    unfolding ◌and◌
    left_on y =
        record {
          from = l.from + 16;
          is = em ∙ ap (drop 16) l.is ∙ drop-drop 16 l.from s;
          all = parted ∙ ap (λ (b : Bool). b and all_bytes f more) y;
        }

    pub left_not : t ≡ false → false ≡ all_bytes f s
    unfolding ◌and◌
    left_not y = sym (parted ∙ ap (λ (b : Bool). b and all_bytes f more) y)

  -- The last 16 bytes, where no more are left.
  pub left_last : (last : Bytes) (t : Bool) → length rest < 16 → 16 ≤ length s → last ≡ drop (length s - 16) s → t ≡ all_bytes f last → t ≡ all_bytes f s
  left_last last t h g e et =
      let n = length s - 16 in
      let from : n ≤ l.from = omega (arith, ap length l.is, length-drop l.from s) in
      let back : n + (l.from - n) ≡ l.from = omega arith in
      et ∙ ap (all_bytes f) e ∙ same_test _ _
      (λ y. l.all ∙ ap (all_bytes f) (l.is ∙ ap (λ (m : ℕ). drop m s) (sym back) ∙ sym (drop-drop (l.from - n) n s)) ∙ all_drop f (l.from - n) (drop n s) y)
      (λ y. all_drop f n s y)

  pub left_short : (t : Bool) → t ≡ list_all f rest → t ≡ all_bytes f s
  left_short t e = e ∙ each_listed f rest ∙ sym l.all

pub ruleset alls = (block_start, block_on, block_done, left_all, left_on)

-- ---- `sized`, and what it serves

module _ (k : Class) (most : ℕ) (s : Bytes) where
  pub sized_none : length s < 1 → false ≡ sized k most s
  unfolding sized between ◌and◌
  sized_none h = sym (simp (lt-leb 1 (length s) h))

  pub sized_long : 1 ≤ length s → most < length s → false ≡ sized k most s
  unfolding sized between ◌and◌
  sized_long g h = sym (simp (le-leb 1 (length s) g, lt-leb (length s) most h))

  pub sized_all : (t : Bool) → 1 ≤ length s → length s ≤ most → t ≡ all_bytes (class_byte k) s → t ≡ sized k most s
  unfolding sized between ◌and◌
  sized_all t g h e = e ∙ sym (simp (le-leb 1 (length s) g, le-leb (length s) most h))

module _ (s : Bytes) (r : Bool) where
  pub sized_name : r ≡ sized Name 12 s → r ≡ is_name s
  unfolding sized is_name
  sized_name e = e

  pub sized_label : r ≡ sized Label 60 s → r ≡ is_label s
  unfolding sized is_label
  sized_label e = e

  pub sized_word : r ≡ sized Word 8 s → r ≡ is_word s
  unfolding sized is_word
  sized_word e = e

pub ruleset sizes = (sized_none, sized_long, sized_all, sized_name, sized_label, sized_word)

-- ---- `value`

value_step : (n : ℕ) (s : Bytes) (i : ℕ) → i < length s → value_from n (drop i s) ≡ value_from (n * 10 + (get_or s i 0 - 48)) (drop (i + 1) s)
unfolding value_from
value_step n s i h = simp (drop_at s i 0 h)

value_end : (n : ℕ) (s : Bytes) (i : ℕ) → length s ≤ i → value_from n (drop i s) ≡ n
unfolding value_from
value_end n s i h = simp (drop_end s i h)

-- A number only grows as digits follow it: where it has reached the cap, the cap is what it comes to.
value_grows : (ds : Bytes) (n : ℕ) → n ≤ value_from n ds
unfolding value_from
value_grows [] n = omega arith
value_grows (d ∷ ds) n = omega (arith, value_grows ds (n * 10 + (d - 48)))

value_capped : (w : ℕ) (ds : Bytes) → min (value_from w ds) 65536 ≡ min (value_from (min w 65536) ds) 65536
value_capped w ds =
    below_or w 65536
    (λ h. let q : w ≡ min w 65536 = omega arith in ap (λ (n : ℕ). min (value_from n ds) 65536) q)
    (λ h. let q : 65536 ≡ min w 65536 = omega arith in omega (arith, value_grows ds w, value_grows ds 65536, ap (λ (n : ℕ). value_from n ds) q))

-- One digit more.
value_next : (s : Bytes) (v i w : ℕ) → i < length s → w ≡ min (v * 10 + (get_or s i 0 - 48)) 65536 → min (value_from v (drop i s)) 65536 ≡ min (value_from w (drop (i + 1) s)) 65536
value_next s v i w h e =
    ap (λ (n : ℕ). min n 65536) (value_step v s i h) ∙ value_capped (v * 10 + (get_or s i 0 - 48)) (drop (i + 1) s)
    ∙ ap (λ (n : ℕ). min (value_from n (drop (i + 1) s)) 65536) (sym e)

module _ (s : Bytes) (v i : ℕ) (inv : min (value_from 0 s) 65536 ≡ min (value_from v (drop i s)) 65536) where
  pub value_on : (w : ℕ) → i < length s → w ≡ min (v * 10 + (get_or s i 0 - 48)) 65536 → min (value_from 0 s) 65536 ≡ min (value_from w (drop (i + 1) s)) 65536
  value_on w h e = inv ∙ value_next s v i w h e

  pub value_done : length s ≤ i → v ≤ 65536 → v ≡ min (value_from 0 s) 65536
  value_done h l = omega (arith, ap (λ (n : ℕ). min n 65536) (value_end v s i h))

pub ruleset values = (value_on, value_done)

-- ---- `number`

-- A digit that is not 0 is from 1 to 9.
lead_digit : (d : ℕ) → (d ≡ 48 → ⊥) → digit_byte d ≡ between 49 57 d
unfolding digit_byte between ◌and◌
lead_digit d h =
    below_or d 48
    (λ l. simp (lt-leb 48 d l, lt-leb 49 d (omega arith)))
    (λ l. simp (le-leb 48 d l, le-leb 49 d (omega arith)))

number_none : (s : Bytes) → length s < 1 → false ≡ is_number s
unfolding is_number
number_none [] h = refl
number_none (d ∷ ds) h = absurd (let z : ⊥ = omega arith in z)

-- Where the first is not 0, all bytes are digits.
digits_only : (s : Bytes) → 1 ≤ length s → (get_or s 0 0 ≡ 48 → ⊥) → is_number s ≡ all_bytes digit_byte s
unfolding is_number all_bytes
digits_only [] g h = absurd (let z : ⊥ = omega arith in z)
digits_only (d ∷ []) g h = sym (and_ends (digit_byte d))
digits_only (d ∷ x ∷ ds) g h = ap (λ (u : Bool). u and all_bytes digit_byte (x ∷ ds)) (sym (lead_digit d h))

number_zero : (s : Bytes) → 2 ≤ length s → get_or s 0 0 ≡ 48 → false ≡ is_number s
unfolding is_number between ◌and◌
number_zero [] g h = absurd (let z : ⊥ = omega arith in z)
number_zero (d ∷ []) g h = absurd (let z : ⊥ = omega arith in z)
number_zero (d ∷ x ∷ ds) g h = sym (simp h)

-- Digits, where the first is not 0 or the only one.
only_digits : (s : Bytes) → 1 ≤ length s → (get_or s 0 0 ≡ 48 → ⊥) ⊎ (length s ≤ 1) → is_number s ≡ all_bytes digit_byte s
unfolding is_number all_bytes
only_digits s g (inl h) = digits_only s g h
only_digits [] g (inr h) = absurd (let z : ⊥ = omega arith in z)
only_digits (d ∷ []) g (inr h) = sym (and_ends (digit_byte d))
only_digits (d ∷ x ∷ ds) g (inr h) = absurd (let z : ⊥ = omega arith in z)

module _ (s : Bytes) where
  number_not : is_number s ≡ false → ◌≡◌ {A = Option ℕ} None (choose (is_number s) (Some (min (value_from 0 s) 65536)) None)
  unfolding choose
  number_not e = sym (simp e)

  pub number_no_byte : length s ≡ 0 → ◌≡◌ {A = Option ℕ} None (choose (is_number s) (Some (min (value_from 0 s) 65536)) None)
  number_no_byte h = number_not (sym (number_none s (omega arith)))

  pub number_zeros : get_or s 0 0 ≡ 48 → 2 ≤ length s → ◌≡◌ {A = Option ℕ} None (choose (is_number s) (Some (min (value_from 0 s) 65536)) None)
  number_zeros e h = number_not (sym (number_zero s h e))

  -- What it is, by the bytes alone: the invariant of the loop at its start.
  pub number_start : 1 ≤ length s → (get_or s 0 0 ≡ 48 → ⊥) ⊎ (length s ≤ 1)
      → ◌≡◌ {A = Option ℕ} (choose (is_number s) (Some (min (value_from 0 s) 65536)) None) (choose (all_bytes digit_byte s) (Some (min (value_from 0 s) 65536)) None)
  number_start g h = ap (λ (t : Bool). choose {A = Option ℕ} t (Some (min (value_from 0 s) 65536)) None) (only_digits s g h)

module _ (s : Bytes) (x : Option ℕ) (v i : ℕ) (inv : x ≡ choose (all_bytes digit_byte (drop i s)) (Some (min (value_from v (drop i s)) 65536)) None) where
  module _ (t : Bool) (h : i < length s) (e : t ≡ digit_byte (get_or s i 0)) where
    number_step : x ≡ choose (t and all_bytes digit_byte (drop (i + 1) s)) (Some (min (value_from v (drop i s)) 65536)) None
    unfolding all_bytes
    number_step =
        inv ∙ ap (λ (l : Bytes). choose {A = Option ℕ} (all_bytes digit_byte l) (Some (min (value_from v (drop i s)) 65536)) None) (drop_at s i 0 h)
        ∙ ap (λ (u : Bool). choose {A = Option ℕ} (u and all_bytes digit_byte (drop (i + 1) s)) (Some (min (value_from v (drop i s)) 65536)) None) (sym e)

    pub number_off : t ≡ false → None ≡ x
    unfolding choose ◌and◌
    number_off y = sym (number_step ∙ ap (λ (u : Bool). choose {A = Option ℕ} (u and all_bytes digit_byte (drop (i + 1) s)) (Some (min (value_from v (drop i s)) 65536)) None) y)

    pub number_on : (w : ℕ) → t ≡ true → w ≡ min (v * 10 + (get_or s i 0 - 48)) 65536
        → x ≡ choose (all_bytes digit_byte (drop (i + 1) s)) (Some (min (value_from w (drop (i + 1) s)) 65536)) None
    unfolding ◌and◌
    number_on w y q =
        number_step
        ∙ ap₂ (λ (u : Bool) (n : ℕ). choose {A = Option ℕ} (u and all_bytes digit_byte (drop (i + 1) s)) (Some n) None) y (value_next s v i w h q)

  pub number_done : length s ≤ i → v ≤ 65536 → Some v ≡ x
  unfolding choose all_bytes value_from
  number_done h l =
      let q : v ≡ min v 65536 = omega arith in
      ap Some q ∙ sym (inv ∙ ap (λ (l : Bytes). choose {A = Option ℕ} (all_bytes digit_byte l) (Some (min (value_from v l) 65536)) None) (drop_end s i h))

pub ruleset numbers = (number_no_byte, number_zeros, number_start, number_off, number_on, number_done)

-- ---- `put_byte`, `put_bytes`, `put_decimal`

pub byte_past : (o : List ℕ) (at b : ℕ) → length o ≤ at → Puts o at (b ∷ []) (at + 1) o
byte_past o at b h = record { next = refl; bytes = sym (set_out o at b h) }

pub decimal_one : {o o₁ : List ℕ} {at r x d : ℕ} → x < 10 → d ≡ 48 + x % 10 → Puts o at (d ∷ []) r o₁ → Puts o at (decimal x) r o₁
decimal_one {o} {o₁} {at} {r} {x} h e p = rw (decimal_small x h) (rw e at p)

pub decimal_on : {o o₁ o₂ : List ℕ} {at r₁ r₂ x d : ℕ} → 10 ≤ x → d ≡ 48 + x % 10 → Puts o at (decimal (x / 10)) r₁ o₁ → Puts o₁ r₁ (d ∷ []) r₂ o₂ → Puts o at (decimal x) r₂ o₂
decimal_on {o} {o₁} {o₂} {at} {r₁} {r₂} {x} h e p q = rw (decimal_more x h) (puts_then p (rw e at q))

-- Room for one digit, for the digits before the last, and for the last.
decimal_length : (x : ℕ) → 10 ≤ x → length (decimal x) ≡ length (decimal (x / 10)) + 1
decimal_length x h = rw (decimal_more x h) (length-append (decimal (x / 10)) _)

module _ (at x : ℕ) (l : at + length (decimal x) < 2 ^ 64) where
  pub room_one : x < 10 → at + 1 < 2 ^ 64
  room_one h = omega (arith, ap length (decimal_small x h))

  pub room_before : 10 ≤ x → at + length (decimal (x / 10)) < 2 ^ 64
  room_before h = omega (arith, decimal_length x h)

  pub room_last : (o o₁ : List ℕ) (r : ℕ) → 10 ≤ x → Puts o at (decimal (x / 10)) r o₁ → r + 1 < 2 ^ 64
  room_last o o₁ r h p = omega (arith, decimal_length x h, p.next)

-- Three digits are more than one.
pub over_ten : (x : ℕ) → 100 ≤ x → 10 ≤ x
over_ten x h = omega arith

pub ruleset writes = (byte_past, decimal_one, decimal_on, room_one, room_before, room_last, over_ten)

-- ---- `hash`

module _ (s : Bytes) (h i : ℕ) (inv : hash_of s ≡ hash_from h (drop i s)) where
  pub hash_on : (k : ℕ) → i < length s → k ≡ (h * 31 + get_or s i 0) % 4096 → hash_of s ≡ hash_from k (drop (i + 1) s)
  unfolding hash_from
  hash_on k l e = inv ∙ ap (hash_from h) (drop_at s i 0 l) ∙ ap (λ (n : ℕ). hash_from n (drop (i + 1) s)) (sym e)

  pub hash_done : length s ≤ i → h ≡ hash_of s
  unfolding hash_from
  hash_done l = sym (inv ∙ ap (hash_from h) (drop_end s i l))

pub ruleset hashes = (hash_on, hash_done)
