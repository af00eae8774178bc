-- The turns and the returns of the functions on words, names and states.
use mathlib.Core.Path.{◌≡◌, refl, sym, ap, ◌∙◌}
use mathlib.Core.Bool.{Bool, true, false}
use mathlib.Core.Option.{none}
use mathlib.Core.List.{List}
use Prim.Native.Nat.{ℕ, suc, ◌+◌, ◌≤◌, ◌<◌}
use native.Mathlib.Omega.{arith}
use lib.Dec.{leb}
use borrow.Author.Tests.{le-leb, lt-leb}
use Rattle.laws.specs.Tests.{◌and◌, first, found, isnt}
use Rattle.laws.specs.TestLaws.{and_both, and_not, first_least}
use Rattle.laws.specs.Counting.{count_zero, first_of_none}
use Rattle.laws.specs.Slices.{below_or}
use Rattle.rules.specs.Text.{Bytes, same}
use Rattle.suite.specs.Reading.{name_at}
use Rattle.std.specs.Prelude.{Option, Some, None, Result}
use Rattle.std.specs.Option.{ok_or}
use Rattle.text.specs.NumberLaws.{a_number, no_number, number_kept, number_read}
use Rattle.answer.specs.declared.Refusal.{Refusal}
use Rattle.sheet_reader.specs.declared.Stage.{Stage}
use Rattle.sheet_reader.specs.declared.Stage.TheVariants.{Before, Listing, Ended}
use Rattle.sheet_reader.specs.declared.State.{State}
use Rattle.sheet_reader.specs.Reading.{Field, malformed, opened, shut, test_from, underway}

-- ---- `test_from`

-- No test from k on, below i, has the name.
unfoldable pub NoTest : Bytes → List ℕ → ℕ → ℕ → Bytes → Type 0
NoTest tt table k i name = (j : ℕ) → k ≤ j → j < i → same (name_at tt table j) name ≡ false

module _ (tt : Bytes) (table : List ℕ) (k : ℕ) (name : Bytes) where
  -- The test i is from k on, and has the name.
  abbrev pub sought : ℕ → Bool
  sought i = leb k i and same (name_at tt table i) name

  none_sought : (i : ℕ) → NoTest tt table k i name → first i sought ≡ none
  unfolding NoTest ◌and◌
  none_sought i h =
      first_of_none sought i
      (count_zero sought i
      (λ j l. below_or j k
      (λ b. ap (λ (t : Bool). t and same (name_at tt table j) name) (lt-leb k j b))
      (λ b. ap (λ (t : Bool). leb k j and t) (h j b l) ∙ and_not (leb k j))))

  pub test_start : NoTest tt table k k name
  unfolding NoTest
  test_start j a b = absurd (let z : ⊥ = omega arith in z)

  module _ (i : ℕ) (inv : NoTest tt table k i name) where
    pub test_none : (n : ℕ) → n ≤ i → 0 ≡ test_from tt table k n name
    unfolding NoTest test_from
    test_none n h = sym (ap found (none_sought n (λ j a b. inv j a (omega arith))))

    module _ (x : Bytes) (t : Bool) (ex : x ≡ name_at tt table i) (et : t ≡ same x name) where
      here : same (name_at tt table i) name ≡ t
      here = ap (λ (y : Bytes). same y name) (sym ex) ∙ sym et

      pub test_hit : (n : ℕ) → k ≤ i → i < n → t ≡ true → suc i ≡ test_from tt table k n name
      unfolding test_from
      test_hit n l h y = sym (ap found (first_least sought n i h (and_both (le-leb k i l) (here ∙ y)) (none_sought i inv)))

      pub test_on : t ≡ false → NoTest tt table k (i + 1) name
      unfolding NoTest
      test_on y j a b =
          below_or j i (inv j a)
          (λ l.
          let q : j ≡ i = omega arith in
          ap (λ (m : ℕ). same (name_at tt table m) name) q ∙ here ∙ y)

pub ruleset names = (test_start, test_none, test_hit, test_on)

-- ---- `underway`

not_listing : (g : Stage) → (g ≡ Listing → ⊥) → (opened g and isnt (shut g)) ≡ false
unfolding ◌and◌ isnt
not_listing Before h = refl
not_listing Listing h = absurd (h refl)
not_listing Ended h = refl

module _ (c : State) where
  pub under_way : c.stage ≡ Listing → true ≡ underway c
  unfolding underway ◌and◌ isnt
  under_way e = sym (simp e)

  pub under_not : (c.stage ≡ Listing → ⊥) → false ≡ underway c
  unfolding underway
  under_not h = sym (not_listing c.stage h)

pub ruleset ways = (under_way, under_not)

-- ---- `field`

module _ (n : ℕ) (a : Bytes) where
  pub field_is : (o : Option ℕ) (e : Refusal) (r : Result ℕ Refusal) → o ≡ number_read a → e ≡ malformed n → r ≡ ok_or o e → Field n a r
  field_is None e r eo ee er = rw er (no_number a eo, ee)
  field_is (Some i) e r eo ee er = rw er (a_number a i eo, number_kept a i eo)

pub ruleset fields = (field_is)
