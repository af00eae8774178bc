-- Lent tables and a job that are what reading these texts leaves.
use Rattle.std.specs.Prelude.{Bool, List, ℕ, leb, length}
use Rattle.std.proofs.Math.Option.{Option, none, some}
use Rattle.laws.specs.Tests.{◌and◌, after, choose}
use Rattle.rules.specs.Text.{Bytes, Reading, refused, accepted}
use Rattle.rules.specs.Graph.{proc_count, node_count, edge_count}
use Rattle.rules.specs.ProgramFile.{Listing, read_listing}
use Rattle.rules.specs.SuiteFile.{TestListing, read_tests, test_count}
use Rattle.rules.specs.Job.{call_old, call_new, call_tests, stage_after}
use Rattle.reader.specs.declared.Counts.{Counts}
use Rattle.program.specs.Lent.{is_left}
use Rattle.lent_tests.specs.Lent.{is_left as tests_left}
use Rattle.records.specs.declared.Job.{Job}
use Rattle.records.specs.declared.Node.{Node}
use Rattle.records.specs.Jobs.{same_job}
use Rattle.records.specs.Nodes.{flat}

-- ---- a version

-- A version as it is lent: its text, how many records of nodes there are, their numbers, and the links.
pub record Lent : Type 0 where
  pub text : Bytes
  pub room : ℕ
  pub nodes : List ℕ
  pub links : List ℕ

abbrev pub numbers : ℕ → Bytes → List ℕ → List ℕ → Lent
numbers m t n l = record { text = t; room = m; nodes = n; links = l }

-- With records of nodes.
abbrev pub lent : Bytes → List Node → List ℕ → Lent
lent t n l = numbers (length n) t (flat n) l

-- The tables have the fixed lengths, or more: 512 records of nodes, 6,080 links.
unfoldable pub long_enough : Lent → Bool
long_enough v = leb 512 v.room and leb 6080 (length v.links)

-- The listing that a text was read to, where the tables are long enough and what reading it leaves; entries beyond the counts are free.
unfoldable pub left_by : Reading Listing → Lent → Option Listing
left_by (refused k p) v = none
left_by (accepted s) v = choose (long_enough v and is_left s v.nodes v.links) (some s) none

unfoldable pub version_left : Lent → Option Listing
version_left v = left_by (read_listing v.text) v

-- ---- the tests, where the old program has m edges

-- The tables have the fixed lengths, or more: 400 numbers, 3,200 words.
unfoldable pub tests_long : List ℕ → List ℕ → Bool
tests_long tests rows = leb 400 (length tests) and leb 3200 (length rows)

unfoldable pub tests_by : Reading TestListing → List ℕ → List ℕ → Option TestListing
tests_by (refused k p) tests rows = none
tests_by (accepted l) tests rows = choose (tests_long tests rows and tests_left l tests rows) (some l) none

unfoldable pub suite_left : ℕ → Bytes → List ℕ → List ℕ → Option TestListing
suite_left m text tests rows = tests_by (read_tests m text) tests rows

-- ---- the jobs that reading leaves

-- The counts of a program that was read, and those before it is read.
abbrev pub counted : Listing → Counts
counted s = record { procs = proc_count s.program; nodes = node_count s.program; edges = edge_count s.program }

abbrev pub uncounted : Counts
uncounted = record { procs = 0; nodes = 0; edges = 0 }

-- The job at a stage, by the counts of the old program and of the new one and the number of tests.
abbrev pub job_at : ℕ → Counts → Counts → ℕ → Job
job_at stage o p n =
    record {
      stage = stage;
      old_procs = o.procs;
      old_nodes = o.nodes;
      old_edges = o.edges;
      new_procs = p.procs;
      new_nodes = p.nodes;
      new_edges = p.edges;
      tests = n;
    }

unfoldable pub job_old : Listing → Job
job_old o = job_at (stage_after call_old) (counted o) uncounted 0

unfoldable pub job_new : Listing → Listing → Job
job_new o p = job_at (stage_after call_new) (counted o) (counted p) 0

unfoldable pub job_tests : Listing → Listing → TestListing → Job
job_tests o p l = job_at (stage_after call_tests) (counted o) (counted p) (test_count l.suite)

-- ---- what job and tables hold at each stage: none where they are not what reading these texts leaves

pub record Versions : Type 0 where
  pub old : Listing
  pub new : Listing

pub record AllRead : Type 0 where
  pub old : Listing
  pub new : Listing
  pub tests : TestListing

unfoldable pub held_old : Job → Lent → Option Listing
held_old j v = after (version_left v) none (λ o. choose (same_job j (job_old o)) (some o) none)

unfoldable pub held_new : Job → Lent → Lent → Option Versions
held_new j v v' =
    after (version_left v) none (λ o. after (version_left v') none (λ p. choose (same_job j (job_new o p)) (some (record { old = o; new = p })) none))

unfoldable pub held_tests : Job → Lent → Lent → Bytes → List ℕ → List ℕ → Option AllRead
held_tests j v v' text tests rows =
    after (version_left v) none (λ o. after (version_left v') none (λ p. after (suite_left (edge_count o.program) text tests rows) none
    (λ l. choose (same_job j (job_tests o p l)) (some (record { old = o; new = p; tests = l })) none)))
