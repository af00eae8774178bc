-- A number that code found, or that there is none, as one number.
use Rattle.std.specs.Prelude.{ℕ, suc, Option, Some, None}

-- 1 + the number, or 0 for none: as `found`, of an `Option` of the code.
abbrev pub place : Option ℕ → ℕ
place None = 0
place (Some n) = suc n
