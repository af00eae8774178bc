-- The returns of `pack`.
use mathlib.Core.Path.{◌≡◌, sym, ◌∙◌}
use Prim.Native.Nat.{ℕ, ◌+◌, ◌*◌, ◌≤◌, ◌<◌}
use borrow.Author.Tests.{le-ltb, lt-ltb}
use Rattle.laws.specs.Lists.{choose_no, choose_yes}
use Rattle.answer.specs.Outcomes.{packing, packing_fits}

pub both_packed : (a b : ℕ) → a < 4294967296 → b < 4294967296 → a * 4294967296 + b ≡ packing a b
both_packed a b h k = sym (packing_fits a b h k)

pub low_lost : (a b : ℕ) → a < 4294967296 → 4294967296 ≤ b → 0 ≡ packing a b
unfolding packing
low_lost a b h k = sym (choose_yes _ _ (lt-ltb a _ h) ∙ choose_no _ _ (le-ltb b _ k))

pub high_lost : (a b : ℕ) → 4294967296 ≤ a → 0 ≡ packing a b
unfolding packing
high_lost a b h = sym (choose_no _ _ (le-ltb a _ h))

pub ruleset all = (both_packed, low_lost, high_lost)
