-- The calls of stage 3 over a job that was read: what they answer and write, by the definitions of whole jobs.
use Rattle.std.specs.Prelude.{◌≡◌, List, ℕ, suc, ◌+◌, ◌*◌, ◌≤◌, ◌<◌, leb, length, Option, Some, None, Result}
use Rattle.laws.specs.Tests.{choose}
use Rattle.rules.specs.Text.{Bytes}
use Rattle.rules.specs.Graph.{Program}
use Rattle.rules.specs.ProgramFile.{Listing}
use Rattle.rules.specs.Closing.{pairs}
use Rattle.rules.specs.Job.{Given, probes_bytes, recording, sheet_bytes, writing}
use Rattle.answer.specs.declared.Refusal.{Refusal}
use Rattle.answer.specs.Refusals.{Answer, told}
use Rattle.answer.specs.Outcomes.{Told}
use Rattle.pairset.specs.Store.{pair_base}
use Rattle.versions.specs.Memory.{InMemory, Memory, memory}
use Rattle.versions.specs.PairsHeld.{PairsHeld}
use Rattle.selection.specs.Dangers.{DangerSet}
use Rattle.intake.specs.declared.Counts.{Counts}
use Rattle.intake.specs.Ready.{Ready}

-- The number of pairs, or one more than the limit where there are more; within the limit the table holds them, and the set has the dangerous edges. What table and set hold where
-- there are more is left open.
pub record Chosen (limit : ℕ) (old new : Program) (w set : List ℕ) (r : ℕ) : Type 0 where
  pub answer : r ≡ choose (leb (length (pairs old new)) limit) (length (pairs old new)) (suc limit)
  pub held : r ≤ limit → PairsHeld old new w r
  pub marked : r ≤ limit → DangerSet old new set

-- `select`: the pairs and the dangerous edges of two versions.
unfoldable pub SelectDone : ℕ → Memory → Memory → List ℕ → List ℕ → List ℕ → List ℕ → ℕ → Type 0
SelectDone limit v v' w w' set set' r =
    (o p : Listing) → InMemory v o → InMemory v' p → pair_base + 3 * limit ≤ length w → 16 ≤ length set → Chosen limit o.program p.program w' set' r

pub record Selected (limit : ℕ) (v v' : Memory) (w w' set set' : List ℕ) (r : ℕ) : Type 0 where
  pub selects : SelectDone limit v v' w w' set set' r
  pub size : length w' ≡ length w
  pub set_size : length set' ≡ length set

-- What an answer says that is None where more pairs exist than the limit, to a caller who has the number `over` for that.
abbrev pub told_or : ℕ → Option (Result ℕ Refusal) → Answer
told_or over None = record { number = over; place = 0 }
told_or over (Some r) = told r

-- `write_sheet`: the sheet; `over` where more than `limit` pairs exist, or 16. What the table w holds afterwards is left open.
unfoldable pub SheetDone : ℕ → ℕ → Memory → Memory → Bytes → List ℕ → List ℕ → Counts → List ℕ → Bytes → Answer → Bytes → Type 0
SheetDone limit over v v' tt tests rows had w out r out' =
    (g : Given) → Ready v v' tt tests rows had g → pair_base + 3 * limit ≤ length w → Told (writing limit over g (length out) (sheet_bytes g)) r out out'

-- The same for whatever number the caller has for more pairs.
unfoldable pub SheetOr : ℕ → Memory → Memory → Bytes → List ℕ → List ℕ → Counts → List ℕ → Bytes → Option (Result ℕ Refusal) → Bytes → Type 0
SheetOr limit v v' tt tests rows had w out r out' = (over : ℕ) → SheetDone limit over v v' tt tests rows had w out (told_or over r) out'

-- `write_probes`: the list of probes; `over` or 16. What the table w holds afterwards is left open.
unfoldable pub ProbesDone : ℕ → ℕ → Memory → Memory → Counts → List ℕ → Bytes → Answer → Bytes → Type 0
ProbesDone limit over v v' had w out r out' =
    (tt : Bytes) (tests rows : List ℕ) (g : Given) → Ready v v' tt tests rows had g → pair_base + 3 * limit ≤ length w → Told (writing limit over g (length out) (probes_bytes g)) r out out'

unfoldable pub ProbesOr : ℕ → Memory → Memory → Counts → List ℕ → Bytes → Option (Result ℕ Refusal) → Bytes → Type 0
ProbesOr limit v v' had w out r out' = (over : ℕ) → ProbesDone limit over v v' had w out (told_or over r) out'

-- `record_from`: the record line of a test, from the pairs and the dangerous edges.
unfoldable pub RecordFrom : List ℕ → List ℕ → List ℕ → List ℕ → Bytes → List ℕ → List ℕ → Counts → ℕ → List ℕ → List ℕ → Bytes → Answer → Bytes → Type 0
RecordFrom on ol nn nl tt tests rows had i w set out r out' =
    (limit over : ℕ) (ot nt : Bytes) (g : Given) (c : ℕ) (y : Ready (memory ot on ol) (memory nt nn nl) tt tests rows had g) → Chosen limit y.o.program y.p.program w set c → length set ≡ 16 → c ≤ limit → i < had.tests
    → Told (recording limit over g i (length out)) r out out'

-- `write_record`: the record line of a test; 6, `over` or 16. What the table w holds afterwards is left open.
unfoldable pub RecordDone : ℕ → ℕ → Memory → Memory → Bytes → List ℕ → List ℕ → Counts → ℕ → List ℕ → Bytes → Answer → Bytes → Type 0
RecordDone limit over v v' tt tests rows had i w out r out' =
    (g : Given) → Ready v v' tt tests rows had g → pair_base + 3 * limit ≤ length w → Told (recording limit over g i (length out)) r out out'

unfoldable pub RecordOr : ℕ → Memory → Memory → Bytes → List ℕ → List ℕ → Counts → ℕ → List ℕ → Bytes → Option (Result ℕ Refusal) → Bytes → Type 0
RecordOr limit v v' tt tests rows had i w out r out' = (over : ℕ) → RecordDone limit over v v' tt tests rows had i w out (told_or over r) out'

-- A claim of what was written, with the lengths of the output and of the table. What the table holds afterwards is left open.
pub record Done (w w' out out' : List ℕ) (X : Type 0) : Type 0 where
  pub claim : X
  pub size : length w' ≡ length w
  pub room : length out' ≡ length out
