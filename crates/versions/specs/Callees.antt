-- The callees of a node, one after another.
use Rattle.std.specs.Prelude.{◌≡◌, Option, Some, None, ℕ, ◌-◌, ◌/◌, ◌%◌, ◌<◌}
use Rattle.std.specs.Option.{unwrap_or}
use Rattle.std.proofs.Common.{ap, sym, ◌∙◌}

-- What comes next where k has the callees as digits, and l those behind it: the first digit's procedure, or nothing where none is left.
abbrev pub NextCallee : ℕ → Option ℕ → ℕ → Type 0
NextCallee k None l = (k ≡ 0) × (l ≡ 0)
NextCallee k (Some q) l = (0 < k) × (q ≡ k % 256 - 1) × (l ≡ k / 256)

-- Whichever it is, with the first procedure in place of nothing.
pub next_or : (k : ℕ) (r : Option ℕ) (l : ℕ) → NextCallee k r l → (unwrap_or r 0 ≡ k % 256 - 1) × (l ≡ k / 256)
next_or k None l (e, f) = (ap (λ (x : ℕ). x % 256 - 1) (sym e), f ∙ ap (λ (x : ℕ). x / 256) (sym e))
next_or k (Some q) l (pos, e, f) = (e, f)
