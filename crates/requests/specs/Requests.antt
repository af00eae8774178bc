-- Requests: what each answers of whatever job is in memory.
use Rattle.std.specs.Prelude.{◌≡◌, List, ℕ, eqb, length}
use Rattle.laws.specs.Tests.{after, choose}
use Rattle.rules.specs.Text.{Bytes}
use Rattle.rules.specs.Job.{Given, Request as Asked, check_sheet, Outcome, by_side, labelling, no_request, refusal, serving, show_label, write_probes, write_back, write_record, write_sheet, written}
use Rattle.answer.specs.Refusals.{Answer}
use Rattle.answer.specs.Outcomes.{Answered, Told}
use Rattle.versions.specs.Memory.{Memory}
use Rattle.intake.specs.declared.Counts.{Counts}
use Rattle.intake.specs.Ready.{Ready}
use Rattle.requests.specs.declared.Request.{Request}
use Rattle.requests.specs.declared.Request.TheVariants.{Check, Label, Probes, Program, Record, Sheet, Unknown}

-- The request, as the rules have it.
unfoldable pub asked : Request → Asked
asked Sheet = write_sheet
asked (Record i) = write_record i
asked Check = check_sheet
asked (Label side n) = show_label side n
asked (Program side) = write_back side
asked Probes = write_probes
asked Unknown = no_request

-- `serve`: the answer is what is asked, of whatever job is in memory.
unfoldable pub Served : Asked → Memory → Memory → Bytes → List ℕ → List ℕ → Counts → Bytes → Bytes → Answer → Bytes → Type 0
Served q v v' tt tests rows had input out r out' =
    (g : Given) → Ready v v' tt tests rows had g → Told (serving q g input (length out)) r out out'

-- `nodes_on`: how many nodes the version of a side has, by the counts of a job that was read.
unfoldable pub nodes_on : Counts → ℕ → ℕ
nodes_on had side = choose (eqb side 0) had.old_nodes (choose (eqb side 1) had.new_nodes 0)

-- `label`: number and place of showing a label.
unfoldable pub LabelTold : Counts → ℕ → ℕ → Answer → Type 0
LabelTold had side n r =
    (v v' : Memory) (tt : Bytes) (tests rows : List ℕ) (g : Given) → Ready v v' tt tests rows had g → Answered (labelling g side n) r

-- `program`: the text of a side, written or refused; the output keeps its length.
unfoldable pub text_on : Bytes → Bytes → ℕ → ℕ → Outcome
text_on old new side room = after (by_side old new side) (refusal 6 0) (written room)

pub record ProgramTold (old new : Bytes) (side : ℕ) (out : Bytes) (r : Answer) (out' : Bytes) : Type 0 where
  pub told : Told (text_on old new side (length out)) r out out'
  pub size : length out' ≡ length out
