-- The byte that programs fill an output with, to see what a call leaves of it.
use Rattle.std.specs.Prelude.{Bool, ℕ, eqb}

unfoldable pub is_mark : ℕ → Bool
is_mark x = eqb x 170
