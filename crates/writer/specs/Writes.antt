-- A writer that also bounds how many bytes it writes.
use Rattle.std.specs.Prelude.{◌≡◌, List, [], ◌∷◌, ◌++◌, ℕ, ◌+◌, ◌≤◌, length}
use Rattle.std.proofs.Common.{arith}
use Rattle.text.specs.Puts.{Puts, puts_none, puts_then, puts_length}

-- The bytes vs, at most `most` of them, were stored from the place `at` on, as far as the slice goes, and r is the place behind them.
pub record Writes (before : List ℕ) (at : ℕ) (vs : List ℕ) (most r : ℕ) (after : List ℕ) : Type 0 where
  pub puts : Puts before at vs r after
  pub within : r ≤ at + most

-- A run of known length.
pub writes_of : {o o₁ vs : List ℕ} {at r : ℕ} (most : ℕ) → Puts o at vs r o₁ → length vs ≤ most → Writes o at vs most r o₁
writes_of most p h = record { puts = p; within = omega (arith, p.next) }

-- Nothing.
pub writes_none : (o : List ℕ) (at : ℕ) → Writes o at [] 0 at o
writes_none o at = record { puts = puts_none o at; within = omega arith }

-- Two runs in a row are one.
pub writes_then : {o o₁ o₂ xs ys : List ℕ} {at m n r₁ r₂ : ℕ} → Writes o at xs m r₁ o₁ → Writes o₁ r₁ ys n r₂ o₂ → Writes o at (xs ++ ys) (m + n) r₂ o₂
writes_then p q = record { puts = puts_then p.puts q.puts; within = omega (arith, p.within, q.within) }

-- One byte more.
pub writes_byte : {o o₁ o₂ xs : List ℕ} {at m b r₁ r₂ : ℕ} → Writes o at xs m r₁ o₁ → Puts o₁ r₁ (b ∷ []) r₂ o₂ → Writes o at (xs ++ (b ∷ [])) (m + 1) r₂ o₂
writes_byte p q = writes_then p (writes_of 1 q (omega arith))

-- A larger bound.
pub writes_most : {o o₁ vs : List ℕ} {at m r : ℕ} (most : ℕ) → Writes o at vs m r o₁ → m ≤ most → Writes o at vs most r o₁
writes_most most p h = record { puts = p.puts; within = omega (arith, p.within) }

-- The slice keeps its length.
pub writes_length : {o o₁ vs : List ℕ} {at m r : ℕ} → Writes o at vs m r o₁ → length o₁ ≡ length o
writes_length p = puts_length p.puts
