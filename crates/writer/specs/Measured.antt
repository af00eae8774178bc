-- Measuring, then writing: what is claimed of any writer, by what its calls may answer and leave.
use Rattle.std.specs.Prelude.{◌≡◌, List, [], ℕ, ◌≤◌, ◌<◌, length, Result, Ok, Err}
use Rattle.answer.specs.declared.Fault.TheVariants.{OutputShort}
use Rattle.answer.specs.declared.Refusal.{Refusal}
use Rattle.std.specs.Fn.{Shared}
use denote.Ref.{MutBor}

-- A call of the writer f at the output o may answer r and leave o'.
pub record WritesAt {F : Type 0} (g : Shared F (MutBor (List ℕ) × Unit {0}) (ℕ × (MutBor (List ℕ) × Unit {0}))) (f : F) (o : List ℕ) (r : ℕ) (o' : List ℕ) : Type 0 where
  pub shown : MutBor (List ℕ)
  pub shows : shown.now ≡ o
  pub left : MutBor (List ℕ)
  pub says : g.post f (shown, tt) (r, (left, tt))
  pub leaves : left.now ≡ o'

-- n is what f answers of no bytes.
pub record Measures {F : Type 0} (g : Shared F (MutBor (List ℕ) × Unit {0}) (ℕ × (MutBor (List ℕ) × Unit {0}))) (f : F) (n : ℕ) : Type 0 where
  pub none : List ℕ
  pub measured : WritesAt g f [] n none

-- Where there is room for as many bytes as f answers of none, its answer of the output; otherwise a refusal, and nothing changed.
abbrev pub Outcome : {F : Type 0} → Shared F (MutBor (List ℕ) × Unit {0}) (ℕ × (MutBor (List ℕ) × Unit {0})) → F → ℕ → List ℕ → Result ℕ Refusal → List ℕ → Type 0
Outcome g f n o (Ok k) o' = (n ≤ length o) × WritesAt g f o k o'
Outcome g f n o (Err e) o' = (length o < n) × (e ≡ record { fault = OutputShort; place = 0 }) × (o' ≡ o)

-- `measured`
pub record Measured {F : Type 0} (g : Shared F (MutBor (List ℕ) × Unit {0}) (ℕ × (MutBor (List ℕ) × Unit {0}))) (f : F) (o : List ℕ) (r : Result ℕ Refusal) (o' : List ℕ) : Type 0 where
  pub len : ℕ
  pub measures : Measures g f len
  pub outcome : Outcome g f len o r o'
