-- Reading on values: what the functions below the calls that read leave.
use Rattle.std.specs.Prelude.{◌≡◌, List, ℕ, length, take, drop, Result, Ok, Err}
use Rattle.answer.specs.Refusals.{fault_number}
use Rattle.answer.specs.declared.Fault.{Fault}
use Rattle.answer.specs.declared.Refusal.{Refusal}
use Rattle.rules.specs.Text.{Bytes, Reading, refused, accepted}
use Rattle.rules.specs.Graph.{node_count}
use Rattle.rules.specs.ProgramFile.{Listing}
use Rattle.rules.specs.SuiteFile.{TestListing}
use Rattle.rules.specs.Job.{number_of, place_of, call_old, stage_after}
use Rattle.reader.specs.declared.Counts.{Counts}
use Rattle.records.specs.declared.Job.{Job}
use Rattle.records.specs.Nodes.{nodes_of}
use Rattle.lent_job.specs.Held.{Lent, job_at, uncounted}
use Rattle.lent_job.specs.ReadOld.{links_read, old_job, old_read, read_answer, records_read}
use Rattle.lent_job.specs.ReadNew.{new_job, new_read}
use Rattle.lent_job.specs.ReadTests.{names_left, rows_left, tests_job, tests_read}
use Rattle.job.specs.declared.Taken.{Taken}

-- What is due before a call, as a number: that of the fault, or 0.
abbrev pub due_in : Result (Unit {0}) Fault → ℕ
due_in (Ok x) = 0
due_in (Err f) = fault_number f

-- ---- a program

-- What reading a program leaves on values: the job, number and place of the answer, and how many nodes stand in the scratch.
pub record Reply : Type 0 where
  pub job : Job
  pub number : ℕ
  pub place : ℕ
  pub nodes : ℕ

-- A refusal: the job is as it was.
abbrev pub refused_reply : Job → ℕ → ℕ → Reply
refused_reply j k p = record { job = j; number = k; place = p; nodes = 0 }

-- The answer of the code for the job j, so.
abbrev pub reply : Job → Result Taken Refusal → Reply
reply j (Ok t) = record { job = t.job; number = 0; place = 0; nodes = t.nodes }
reply j (Err e) = refused_reply j (fault_number e.fault) e.place

-- `with_old`
unfoldable pub with_old : Counts → Job
with_old c = job_at (stage_after call_old) c uncounted 0

-- How many records of nodes are stored: none after a refusal.
unfoldable pub count_read : Reading Listing → ℕ
count_read (refused k p) = 0
count_read (accepted s) = node_count s.program

-- The job, with the answer and the count by what the call goes by.
unfoldable pub taken_of : Job → Reading Listing → Reply
taken_of j a = record { job = j; number = number_of (read_answer a); place = place_of (read_answer a); nodes = count_read a }

-- Reading a program on values, where `after` is the job afterwards by what the call goes by; the numbers of the nodes are in the work table, and what else it holds is left
-- open.
pub record TakenBy (after : Reading Listing → Job) (a : Reading Listing) (r : Reply) (l l' w : List ℕ) : Type 0 where
  pub taken : r ≡ taken_of (after a) a
  pub links_are : l' ≡ links_read a l
  pub nodes_are : nodes_of w (count_read a) ≡ records_read a

-- `take_old`
pub record OldTaken (j : Job) (room : ℕ) (text : Bytes) (r : Reply) (l l' : List ℕ) (work : ℕ) (w : List ℕ) : Type 0 where
  pub by : TakenBy (old_job j) (old_read j room (length l) work text) r l l' w

-- Where the numbers of the nodes stand in the scratch: those of the old ones at its front, those of the new ones from the place 2,048 on.
abbrev pub old_part : List ℕ → List ℕ
old_part w = take 2048 (drop 0 w)

abbrev pub new_part : List ℕ → List ℕ
new_part w = take 2048 (drop 2048 w)

-- `take_new`
pub record NewTaken (j : Job) (v : Lent) (room : ℕ) (text : Bytes) (r : Reply) (l l' : List ℕ) (work : ℕ) (w : List ℕ) : Type 0 where
  pub by : TakenBy (new_job j) (new_read j v room (length l) work text) r l l' w

-- ---- the tests

-- What reading the tests leaves on values: the job, and number and place of the answer.
pub record Moved : Type 0 where
  pub job : Job
  pub number : ℕ
  pub place : ℕ

-- The answer of the code for the job j, so.
abbrev pub moved : Job → Result Job Refusal → Moved
moved j (Ok k) = record { job = k; number = 0; place = 0 }
moved j (Err e) = record { job = j; number = fault_number e.fault; place = e.place }

-- `take_tests`: what is left on values.
pub record MovedBy (j : Job) (a : Reading TestListing) (r : Moved) (t t' w w' : List ℕ) : Type 0 where
  pub moved : r ≡ record { job = tests_job j a; number = number_of (read_answer a); place = place_of (read_answer a) }
  pub tests_are : t' ≡ names_left a t
  pub rows_are : w' ≡ rows_left a w

pub record TestsTaken (j : Job) (v v' : Lent) (text : Bytes) (r : Moved) (t t' w w' : List ℕ) (work : ℕ) : Type 0 where
  pub by : MovedBy j (tests_read j v v' (length t) (length w) work text) r t t' w w'
