-- Runs of numbers, compared as slices are.
use Rattle.std.specs.Prelude.{◌≡◌, refl, Bool, true, false, ◌&&◌, List, [], ◌∷◌, ℕ, eqb, nat_eq}
use lib.Pointwise.{pointwise}
use Rattle.laws.specs.Tests.{◌and◌}
use Rattle.rules.specs.Text.{same}

-- Numbers that are equal one by one are the same, and only these.
pub numbers_same : (a b : List ℕ) → pointwise nat_eq a b ≡ same a b
unfolding same ◌and◌
numbers_same [] [] = refl
numbers_same [] (y ∷ b) = refl
numbers_same (x ∷ a) [] = refl
numbers_same (x ∷ a) (y ∷ b) = both (eqb x y) (numbers_same a b)
  where
    both : (t : Bool) → pointwise nat_eq a b ≡ same a b → (t && pointwise nat_eq a b) ≡ (t and same a b)
    both true e = e
    both false e = refl
