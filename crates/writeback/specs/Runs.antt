-- A run of lines, each written by a call of one writer: what the writer is asked for and what is claimed of the run, by what the calls may answer and leave.
use Rattle.std.specs.Prelude.{List, ℕ, ◌-◌, ◌*◌, ◌^◌, ◌≤◌}
use Rattle.std.specs.Fn.{Shared}
use denote.Ref.{MutBor}
use Rattle.rules.specs.Text.{Bytes}
use Rattle.writer.specs.Writes.{Writes}
use Rattle.writeback.specs.Back.{run_from}

-- A writer of lines: called at an output, a place and the number of a line, it answers the place behind that line.
abbrev pub LineWriter : Type 0 → Type 1
LineWriter F = Shared F (MutBor (List ℕ) × (ℕ × (ℕ × Unit {0}))) (ℕ × (MutBor (List ℕ) × Unit {0}))

-- Each call of f writes the line of its number, of at most 128 bytes.
unfoldable pub PutsLines : {F : Type 0} → LineWriter F → F → (ℕ → Bytes) → Type 0
PutsLines g f line = (p q : MutBor (List ℕ)) (k i r : ℕ) → g.post f (p, (k, (i, tt))) (r, (q, tt)) → Writes p.now k (line i) 128 r q.now

-- What a run asks: f may be called at any place up to 2 ^ 31, and there are lines that it writes.
pub record Callable {F : Type 0} (g : LineWriter F) (f : F) : Type 0 where
  pub may : (p : MutBor (List ℕ)) (k i : ℕ) → k ≤ 2 ^ 31 → g.pre f (p, (k, (i, tt)))
  pub line : ℕ → Bytes
  pub puts : PutsLines g f line

-- `put_run`: whatever lines f writes, those from `from` up to `to` stand one behind the other.
unfoldable pub RunPut : {F : Type 0} → LineWriter F → F → List ℕ → ℕ → ℕ → ℕ → ℕ → List ℕ → Type 0
RunPut g f o at from to r o' = (line : ℕ → Bytes) → PutsLines g f line → Writes o at (run_from line from (to - from)) (128 * (to - from)) r o'
