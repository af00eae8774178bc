-- Numbers by their digits.
use Rattle.std.specs.Prelude.{List, [], ◌∷◌, ℕ, ◌+◌, ◌*◌}

-- The number with these digits to the base b, the first lowest; f says what number a digit is.
unfoldable pub number : {A : Type 0} → ℕ → (A → ℕ) → List A → ℕ
number b f [] = 0
number b f (x ∷ s) = number b f s * b + f x

abbrev pub itself : ℕ → ℕ
itself x = x
