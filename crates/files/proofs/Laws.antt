-- The turns of `field` and `untouched`.
use mathlib.Core.Path.{◌≡◌, refl, sym, ap, ◌∙◌}
use mathlib.Core.Bool.{true, false}
use mathlib.Core.List.{List, [], ◌∷◌}
use Prim.Native.Nat.{ℕ, zero, suc, ◌+◌, ◌-◌, ◌≤◌, ◌<◌}
use native.Mathlib.Omega.{arith}
use lib.ListN.{length, get_or, take, drop}
use lib.Seq.{take_all}
use borrow.Author.Tests.{eq-eqb, ne_eqb}
use Rattle.laws.specs.Tests.{◌and◌}
use Rattle.laws.specs.Slices.{below_or, drop_at, drop_end}
use Rattle.rules.specs.Text.{Bytes, all_bytes, split}
use Rattle.text.specs.Scans.{span}
use Rattle.text.specs.SplitLaws.{cut, uncut}
use Rattle.files.specs.Marks.{is_mark}

-- ---- `field`

-- The first piece ends where the first separator stands.
first_piece : (b : ℕ) (s : Bytes) → get_or (split b s) 0 [] ≡ take (span b s) s
first_piece b s =
    below_or (span b s) (length s)
    (λ h. ap (λ (ps : List Bytes). get_or ps 0 []) (cut b s (take (span b s) s) (drop (span b s + 1) s) (span b s) refl h refl refl))
    (λ h. ap (λ (ps : List Bytes). get_or ps 0 []) (uncut b s (span b s) refl h) ∙ sym (take_all (span b s) s h))

-- The turns of the loop: rest is what stands behind the first i pieces.

one_only : (j : ℕ) (p : Bytes) → (j ≡ 0 → ⊥) → get_or (p ∷ []) j [] ≡ []
one_only zero p z = absurd (z refl)
one_only (suc j) p z = refl

one_less : (j : ℕ) (p : Bytes) (ps : List Bytes) → (j ≡ 0 → ⊥) → get_or (p ∷ ps) j [] ≡ get_or ps (j - 1) []
one_less zero p ps z = absurd (z refl)
one_less (suc j) p ps z = let e : j ≡ suc j - 1 = omega arith in ap (λ (k : ℕ). get_or ps k []) e

module _ (b : ℕ) (s rest : Bytes) (k i : ℕ) (inv : get_or (split b s) k [] ≡ get_or (split b rest) (k - i) []) where
  pub field_this : (r : Bytes) → k ≤ i → r ≡ take (span b rest) rest → r ≡ get_or (split b s) k []
  field_this r l q =
      let z : k - i ≡ 0 = omega arith in
      q ∙ sym (inv ∙ ap (λ (m : ℕ). get_or (split b rest) m []) z ∙ first_piece b rest)

  module _ (n : ℕ) (e : n ≡ span b rest) (l : i < k) where
    pub field_last : (r : Bytes) → length rest ≤ n → r ≡ take 0 rest → r ≡ get_or (split b s) k []
    field_last r h q = q ∙ sym (inv ∙ ap (λ (ps : List Bytes). get_or ps (k - i) []) (uncut b rest n e h) ∙ one_only (k - i) rest (λ z. let y : ⊥ = omega arith in y))

    pub field_on : (more : Bytes) → n < length rest → more ≡ drop (n + 1) rest → get_or (split b s) k [] ≡ get_or (split b more) (k - (i + 1)) []
    field_on more h em =
        let z : k - i - 1 ≡ k - (i + 1) = omega arith in
        inv
        ∙ ap (λ (ps : List Bytes). get_or ps (k - i) []) (cut b rest (take n rest) more n e h refl em)
        ∙ one_less (k - i) (take n rest) (split b more) (λ z. let y : ⊥ = omega arith in y)
        ∙ ap (λ (m : ℕ). get_or (split b more) m []) z

pub ruleset fields = (field_this, field_last, field_on)

-- ---- `untouched`

module _ (s : Bytes) (i : ℕ) (inv : all_bytes is_mark s ≡ all_bytes is_mark (drop i s)) where
  pub mark_on : i < length s → get_or s i 0 ≡ 170 → all_bytes is_mark s ≡ all_bytes is_mark (drop (i + 1) s)
  unfolding all_bytes is_mark ◌and◌
  mark_on h e = inv ∙ simp (drop_at s i 0 h, eq-eqb _ _ e)

  pub mark_not : i < length s → (get_or s i 0 ≡ 170 → ⊥) → false ≡ all_bytes is_mark s
  unfolding all_bytes is_mark ◌and◌
  mark_not h e = sym (inv ∙ simp (drop_at s i 0 h, ne_eqb _ _ e))

  pub mark_done : length s ≤ i → true ≡ all_bytes is_mark s
  unfolding all_bytes
  mark_done h = sym (inv ∙ simp (drop_end s i h))

pub ruleset marks = (mark_on, mark_not, mark_done)
