-- What reading a test file answers, by numbers.
use Rattle.std.specs.Prelude.{ℕ, Result, Ok, Err}
use Rattle.answer.specs.Refusals.{fault_number}
use Rattle.answer.specs.declared.Refusal.{Refusal}

-- A refusal by number and place, where the number is not 0, or how many tests there are.
pub record Read : Type 0 where
  pub number : ℕ
  pub place : ℕ
  pub count : ℕ

-- An answer of the code, so.
abbrev pub read_of : Result ℕ Refusal → Read
read_of (Ok n) = record { number = 0; place = 0; count = n }
read_of (Err e) = record { number = fault_number e.fault; place = e.place; count = 0 }
