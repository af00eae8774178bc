-- A writer that stores only inside its slice, and always answers the next place.
use Rattle.std.specs.Prelude.{◌≡◌, refl, List, [], ◌++◌, ℕ, ◌+◌, ◌≤◌, length, drop}
use Rattle.std.proofs.Common.{ap, ap₂, ◌∙◌, zero-add, arith, length-append}
use Rattle.std.proofs.lemmas.List.Edits.{sets}
use Rattle.std.proofs.Math.Seq.{length-sets}
use Rattle.laws.specs.Slices.{sets_append, sets_nil, sets_front}

-- The bytes vs were stored from the place `at` on, as far as the slice goes, and r is the place behind them.
pub record Puts (before : List ℕ) (at : ℕ) (vs : List ℕ) (r : ℕ) (after : List ℕ) : Type 0 where
  pub next : r ≡ at + length vs
  pub bytes : after ≡ sets before at vs

-- Nothing.
pub puts_none : (o : List ℕ) (at : ℕ) → Puts o at [] at o
puts_none o at = record { next = omega arith; bytes = refl }

-- Two runs in a row are one.
pub puts_then : {o o₁ o₂ xs ys : List ℕ} {at r₁ r₂ : ℕ} → Puts o at xs r₁ o₁ → Puts o₁ r₁ ys r₂ o₂ → Puts o at (xs ++ ys) r₂ o₂
puts_then {o} {o₁} {o₂} {xs} {ys} {at} {r₁} {r₂} p q =
    record {
      next = rw length-append (omega (arith, p.next, q.next));
      bytes = q.bytes ∙ ap₂ (λ (l : List ℕ) (k : ℕ). sets l k ys) p.bytes p.next ∙ sets_append o at xs ys;
    }

-- The slice keeps its length.
pub puts_length : {o o₁ vs : List ℕ} {at r : ℕ} → Puts o at vs r o₁ → length o₁ ≡ length o
puts_length {o} {o₁} {vs} {at} p = ap length p.bytes ∙ length-sets o at vs

-- Into a slice of no bytes: nothing is stored, and the answer is how many bytes there are.
pub puts_measure : {o vs : List ℕ} {r : ℕ} → Puts [] 0 vs r o → (r ≡ length vs) × (o ≡ [])
puts_measure {o} {vs} {r} p = (p.next ∙ zero-add (length vs), p.bytes ∙ sets_nil 0 vs)

-- From the front, where there is room: the bytes, then what stood behind them.
pub puts_front : {o o₁ vs : List ℕ} {r : ℕ} → Puts o 0 vs r o₁ → length vs ≤ length o → o₁ ≡ vs ++ drop (length vs) o
puts_front {o} {o₁} {vs} {r} p h = p.bytes ∙ sets_front o vs h
