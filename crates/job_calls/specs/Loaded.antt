-- The calls of stage 3 on values, where the scratch holds the numbers of the nodes.
use Rattle.std.specs.Prelude.{◌≡◌, List, ℕ, ◌+◌, ◌*◌, eqb, ltb, length, get_or, take, drop, replicate, Option as CodeOption, Result, Ok, Err}
use Rattle.std.specs.Option.{unwrap_or}
use Rattle.std.proofs.Math.Option.{Option, none, some}
use Rattle.std.proofs.lemmas.List.Edits.{sets}
use Rattle.laws.specs.Tests.{choose}
use Rattle.rules.specs.Text.{Bytes, Reading, refused, accepted}
use Rattle.rules.specs.Graph.{node_count, edge_count}
use Rattle.rules.specs.SuiteFile.{TestListing, test_count}
use Rattle.rules.specs.Job.{Outcome, Request, Span, outcome, call_tests, serving, stage_after}
use Rattle.answer.specs.Refusals.{Answer}
use Rattle.answer.specs.Outcomes.{Told}
use Rattle.intake.specs.declared.Counts.{Counts}
use Rattle.answer.specs.declared.Refusal.{Refusal}
use Rattle.answer.specs.Refusals.{fault_number}
use Rattle.reader.specs.declared.Counts.{Counts as Program}
use Rattle.records.specs.declared.Job.{Job}
use Rattle.records.specs.Jobs.{same_job}
use Rattle.lent_job.specs.Held.{AllRead, job_at, numbers}
use Rattle.lent_job.specs.Calls.{LentJob, given_by, goes_by, goes_held, held_back, lent_job}
use Rattle.job_calls.specs.declared.Label.{Label}
use Rattle.job_calls.specs.declared.Held.{Held}

-- 2,048 numbers of a scratch, from the place k on.
unfoldable pub unloaded : ℕ → List ℕ → List ℕ
unloaded k w = sets (replicate 2048 0) 0 (take 2048 (drop k w))

-- What is lent, where the scratch w holds the numbers of the nodes: those of the old version from 0 on, those of the new one from 2,048 on.
abbrev pub loaded_job : Job → ℕ → Bytes → List ℕ → ℕ → Bytes → List ℕ → Bytes → List ℕ → List ℕ → List ℕ → LentJob
loaded_job j olds ot ol news nt nl text tests rows w =
    lent_job j (numbers olds ot (unloaded 0 w) ol) (numbers news nt (unloaded 2048 w) nl) text tests rows (length w)

-- What is lent to a call on values, beside a scratch of so many numbers.
abbrev pub lent_in : Held → ℕ → LentJob
lent_in h n =
    lent_job h.job (numbers h.old.room h.old.text.now h.old.nodes.now h.old.links.now) (numbers h.new.room h.new.text.now h.new.nodes.now h.new.links.now)
    h.tests.text.now h.tests.names.now h.tests.rows.now n

-- An answer of counts, by number and place; a refusal has no counts.
pub record Due : Type 0 where
  pub number : ℕ
  pub place : ℕ
  pub counts : Counts

abbrev pub refused_due : ℕ → ℕ → Due
refused_due k q = record { number = k; place = q; counts = record { old_nodes = 0; old_edges = 0; new_nodes = 0; new_edges = 0; tests = 0 } }

abbrev pub due_of : Result Counts Refusal → Due
due_of (Ok c) = record { number = 0; place = 0; counts = c }
due_of (Err e) = refused_due (fault_number e.fault) e.place

-- `suite_due`: the counts of a job whose programs have these counts, or 14.
unfoldable pub counts_by : Program → Program → ℕ → Due
counts_by o p n = record { number = 0; place = 0; counts = record { old_nodes = o.nodes; old_edges = o.edges; new_nodes = p.nodes; new_edges = p.edges; tests = n } }

unfoldable pub suite_counts : Job → Program → Program → Option TestListing → Due
suite_counts j o p none = refused_due 14 0
suite_counts j o p (some l) =
    choose (same_job j (job_at (stage_after call_tests) o p (test_count l.suite))) (counts_by o p (test_count l.suite)) (refused_due 14 0)

-- `due`: the refusal, or the counts of what is held.
unfoldable pub due_counts : Reading AllRead → Due
due_counts (refused k p) = refused_due k p
due_counts (accepted h) =
    record {
      number = 0;
      place = 0;
      counts = record {
        old_nodes = node_count h.old.program;
        old_edges = edge_count h.old.program;
        new_nodes = node_count h.new.program;
        new_edges = edge_count h.new.program;
        tests = test_count h.tests.suite;
      };
    }

-- `call_held`: what is asked, where job and tables are what reading the lent texts leaves; `call_back`: the same of the texts that the tables write back.
unfoldable pub HeldAnswer : Request → LentJob → Bytes → Bytes → Answer → Bytes → Type 0
HeldAnswer q k input out r out' = Told (outcome (goes_held k) (λ h. serving q (given_by h) input (length out))) r out out'

unfoldable pub BackAnswer : Request → LentJob → Bytes → Bytes → Answer → Bytes → Type 0
BackAnswer q k input out r out' = Told (outcome (goes_by k (held_back k)) (λ h. serving q (given_by h) input (length out))) r out out'

-- `not_held`: 13 at another stage than 3, else 14.
unfoldable pub not_held : Job → Answer
not_held j = record { number = choose (eqb j.stage 3) 14 13; place = 0 }

-- `call_on`: number and place, and the output; the scratch is zero.
pub record CalledOn (x : Outcome) (r : Answer) (w w' out out' : List ℕ) : Type 0 where
  pub told : Told x r out out'
  pub scratch_is : w' ≡ replicate (length w) 0

-- `label_at`: where the label of the node n stands, in a version that has so many nodes, or nowhere.
abbrev pub no_label : Label
no_label = record { start = 0; len = 0 }

-- A label that was found, or nowhere.
abbrev pub label_told : CodeOption Label → Label
label_told r = unwrap_or r no_label

unfoldable pub label_of_node : ℕ → List ℕ → ℕ → Label
label_of_node count nodes n = choose (ltb n count) (record { start = get_or nodes (4 * n + 1) 0; len = get_or nodes (4 * n + 2) 0 }) no_label

-- `label_of`: the same by side, 0 the old version, 1 the new one.
unfoldable pub label_by_side : ℕ → ℕ → List ℕ → ℕ → List ℕ → ℕ → Label
label_by_side side olds on news nn n = choose (eqb side 0) (label_of_node olds on n) (choose (eqb side 1) (label_of_node news nn n) no_label)

-- `label_on`: where the label stands.
pub record SpanIs (s : Span) (r : Label) : Type 0 where
  pub start_is : r.start ≡ s.start
  pub len_is : r.len ≡ s.len
