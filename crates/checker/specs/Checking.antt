-- What the check of a sheet promises: its answer is the definition's, whatever programs and tests the memory holds.
use Rattle.std.specs.Prelude.{◌≡◌, List, ℕ, Result}
use Rattle.rules.specs.Text.{Bytes, accepted}
use Rattle.rules.specs.Graph.{edge_count, node_count}
use Rattle.rules.specs.ProgramFile.{Listing}
use Rattle.rules.specs.SuiteFile.{TestListing, read_tests}
use Rattle.rules.specs.Job.{checking, given_of}
use Rattle.answer.specs.Refusals.{Answer}
use Rattle.answer.specs.declared.Refusal.{Refusal}
use Rattle.answer.specs.Outcomes.{Answered}
use Rattle.answer.specs.Refusals.{number_in, place_in}
use Rattle.suite.specs.Tables.{Holds}
use Rattle.versions.specs.Memory.{InMemory, Memory}

-- An answer by number and place; to pass is 0 and 0.
abbrev pub seen : {T : Type 0} → Result T Refusal → Answer
seen r = record { number = number_in r; place = place_in r }

-- `check_sheet`: the answer is what checking the sheet comes to. What the two tables that it is lent hold afterwards is left open.
unfoldable pub Checks : ℕ → Memory → Memory → ℕ → ℕ → ℕ → Bytes → List ℕ → List ℕ → ℕ → Bytes → Answer → Type 0
Checks limit v v' olds news edges tt tests rows count sheet r =
    (o p : Listing) (l : TestListing) → InMemory v o → InMemory v' p → read_tests (edge_count o.program) tt ≡ accepted l → Holds (edge_count o.program) tests rows count l
    → olds ≡ node_count o.program → news ≡ node_count p.program → edges ≡ edge_count o.program
    → Answered (checking limit (given_of o p l) sheet) r
