-- Reading the old program into lent memory: what is due before it, and what it leaves.
use Rattle.std.specs.Prelude.{◌≡◌, Bool, List, [], ◌∷◌, ◌++◌, ℕ, zero, suc, eqb, leb, length, get_or, replicate}
use Rattle.std.proofs.lemmas.List.Edits.{sets}
use Rattle.laws.specs.Tests.{◌and◌, choose}
use Rattle.rules.specs.Text.{Bytes, Reading, refused, accepted}
use Rattle.rules.specs.Graph.{kind_at, kind_number, label_at, node_count}
use Rattle.rules.specs.ProgramFile.{Listing, read_listing}
use Rattle.rules.specs.Job.{Outcome, of_stage, outcome, packed, call_old, success}
use Rattle.graph.specs.Table.{callees_from, links_after}
use Rattle.records.specs.declared.Job.{Job}
use Rattle.records.specs.declared.Node.{Node}
use Rattle.records.specs.Jobs.{fresh, same_job}
use Rattle.lent_job.specs.Held.{job_old}

-- ---- what is due before reading

-- Two lengths are at least a and b, and the scratch has the numbers that a reader asks for.
unfoldable pub roomy : ℕ → ℕ → ℕ → ℕ → ℕ → Bool
roomy a b x y work = leb a x and (leb b y and leb 8128 work)

-- 14 where the job is not a fresh one, else 0.
unfoldable pub fresh_due : Job → ℕ
fresh_due j = choose (same_job j fresh) 0 14

-- 13, 14, or 0 where neither is due; so many records of nodes, links and numbers of scratch are lent.
unfoldable pub old_due : Job → ℕ → ℕ → ℕ → ℕ
old_due j nodes links work = choose (of_stage call_old j.stage) (choose (roomy 512 6080 nodes links work) (fresh_due j) 14) 13

-- What a call has to go by: the refusal that is due, or what reading its text gives; for a program.
unfoldable pub past_due : {A : Type 0} → ℕ → Reading A → Reading A
past_due due a = choose (eqb due 0) a (refused due 0)

abbrev pub program_read : ℕ → Bytes → Reading Listing
program_read due text = past_due due (read_listing text)

abbrev pub old_read : Job → ℕ → ℕ → ℕ → Bytes → Reading Listing
old_read j nodes links work text = program_read (old_due j nodes links work) text

-- ---- what it leaves

-- The answer of a call that reads: the refusal, or success.
abbrev pub read_answer : {A : Type 0} → Reading A → Outcome
read_answer a = outcome a (λ s. success)

-- The record of the node n, and the first k of them.
abbrev pub node_record : Listing → ℕ → Node
node_record s n = record { kind = kind_number (kind_at s.program n); start = get_or s.places.label_starts n 0; len = length (label_at s.program n); callees = callees_from s.program n 0 }

unfoldable pub node_records : Listing → ℕ → List Node
node_records s zero = []
node_records s (suc k) = node_records s k ++ (node_record s k ∷ [])

-- The records that are stored: none after a refusal.
unfoldable pub records_read : Reading Listing → List Node
records_read (refused k p) = []
records_read (accepted s) = node_records s (node_count s.program)

-- The links afterwards.
unfoldable pub links_read : Reading Listing → List ℕ → List ℕ
links_read (refused k p) l = l
links_read (accepted s) l = links_after s l

-- The job afterwards.
unfoldable pub old_job : Job → Reading Listing → Job
old_job j (refused k p) = j
old_job j (accepted s) = job_old s

-- ---- the contract

-- Reading a program over lent memory: the answer in one number, the job, the nodes and the links; records and entries beyond the counts stay, and the scratch is zero.
pub record ProgramLeftBy (after : Reading Listing → Job) (a : Reading Listing) (n : List Node) (l w : List ℕ) (r : ℕ) (j' : Job) (n' : List Node) (l' w' : List ℕ) : Type 0 where
  pub answer_is : r ≡ packed (read_answer a)
  pub job_is : j' ≡ after a
  pub nodes_are : n' ≡ sets n 0 (records_read a)
  pub links_are : l' ≡ links_read a l
  pub scratch_is : w' ≡ replicate (length w) 0

-- `ry_job_read_old`
pub record ReadOld (j : Job) (text : Bytes) (n : List Node) (l w : List ℕ) (r : ℕ) (j' : Job) (n' : List Node) (l' w' : List ℕ) : Type 0 where
  pub left : ProgramLeftBy (old_job j) (old_read j (length n) (length l) (length w) text) n l w r j' n' l' w'
