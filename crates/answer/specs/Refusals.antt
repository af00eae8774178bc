-- Refusals by number and place, as the rules have them.
use Rattle.std.specs.Prelude.{ℕ, ◌<◌, Result, Ok, Err}
use Rattle.std.proofs.Common.{arith}
use Rattle.answer.specs.declared.Fault.{Fault}
use Rattle.answer.specs.declared.Fault.TheVariants.{TextTooLong, LineMalformed, LineOutOfPlace, TooManyLines, NameTwice, NotNamed, WordTwice, ProcedureBroken, UnknownCallee, RowWrong, SheetWrong, ClaimFalse, WrongStage, LentMemoryWrong, TooManyPairs, OutputShort}
use Rattle.answer.specs.declared.Refusal.{Refusal}

-- The number of a fault.
abbrev pub fault_number : Fault → ℕ
fault_number TextTooLong = 1
fault_number LineMalformed = 2
fault_number LineOutOfPlace = 3
fault_number TooManyLines = 4
fault_number NameTwice = 5
fault_number NotNamed = 6
fault_number WordTwice = 7
fault_number ProcedureBroken = 8
fault_number UnknownCallee = 9
fault_number RowWrong = 10
fault_number SheetWrong = 11
fault_number ClaimFalse = 12
fault_number WrongStage = 13
fault_number LentMemoryWrong = 14
fault_number TooManyPairs = 15
fault_number OutputShort = 16

-- No fault has the number 0.
pub fault_some : (f : Fault) → 0 < fault_number f
fault_some TextTooLong = omega arith
fault_some LineMalformed = omega arith
fault_some LineOutOfPlace = omega arith
fault_some TooManyLines = omega arith
fault_some NameTwice = omega arith
fault_some NotNamed = omega arith
fault_some WordTwice = omega arith
fault_some ProcedureBroken = omega arith
fault_some UnknownCallee = omega arith
fault_some RowWrong = omega arith
fault_some SheetWrong = omega arith
fault_some ClaimFalse = omega arith
fault_some WrongStage = omega arith
fault_some LentMemoryWrong = omega arith
fault_some TooManyPairs = omega arith
fault_some OutputShort = omega arith

-- The number and the place of a refusal; 0 for what is none.
abbrev pub number_in : {T : Type 0} → Result T Refusal → ℕ
number_in (Ok x) = 0
number_in (Err e) = fault_number e.fault

abbrev pub place_in : {T : Type 0} → Result T Refusal → ℕ
place_in (Ok x) = 0
place_in (Err e) = e.place

-- An answer by number and place: on success 0 and how many bytes were written.
pub record Answer : Type 0 where
  pub number : ℕ
  pub place : ℕ

abbrev pub told : Result ℕ Refusal → Answer
told (Ok n) = record { number = 0; place = n }
told (Err e) = record { number = fault_number e.fault; place = e.place }
