-- Refusals, as the definitions have them.
use mathlib.Core.Path.{◌≡◌, ap}
use mathlib.Core.Bool.{Bool, true, false}
use mathlib.Core.List.{List}
use Prim.Native.Nat.{ℕ, ◌<◌}
use Rattle.std.specs.Prelude.{Result, Err}
use Rattle.rules.specs.Text.{Reading, refused, unless}
use Rattle.rules.specs.Sheet.{SheetRead}
use Rattle.answer.specs.declared.Fault.{Fault}
use Rattle.answer.specs.declared.Refusal.{Refusal}
use Rattle.answer.specs.Refusals.{fault_number}
use Rattle.sheet_reader.specs.declared.State.{State}
use Rattle.sheet_reader.specs.Claims.{Told}
use Rattle.sheet_reader.specs.Reading.{After}

module _ (e : Refusal) (w sets : List ℕ) (f : Fault) (n : ℕ) where
  -- Of a line, and of a sheet.
  pub halt : 0 < fault_number f → e ≡ record { fault = f; place = n } → After (refused (fault_number f) n) (Err e) w sets
  halt p q = (ap (λ (x : Refusal). fault_number x.fault) q, ap (λ (x : Refusal). x.place) q, p)

  pub ended : 0 < fault_number f → e ≡ record { fault = f; place = n } → Told (refused (fault_number f) n) (Err e) w sets
  ended p q = (ap (λ (x : Refusal). fault_number x.fault) q, ap (λ (x : Refusal). x.place) q, p)

  -- A test that refuses.
  pub stop : {t : Bool} (x : Reading SheetRead) → t ≡ true → 0 < fault_number f → e ≡ record { fault = f; place = n } → After (unless t (fault_number f) n x) (Err e) w sets
  unfolding unless
  stop x y p q = rw y (halt p q)

-- A test that passes.
pub go_on : (r : Result State Refusal) (w sets : List ℕ) {t : Bool} (k n : ℕ) (x : Reading SheetRead) → t ≡ false → After x r w sets → After (unless t k n x) r w sets
unfolding unless
go_on r w sets k n x e a = rw e a
