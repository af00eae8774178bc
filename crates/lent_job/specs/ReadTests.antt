-- Reading the tests into lent memory: what is due before it, and what it leaves.
use Rattle.std.specs.Prelude.{◌≡◌, List, ℕ, length, replicate}
use Rattle.laws.specs.Tests.{after, choose}
use Rattle.rules.specs.Text.{Bytes, Reading, refused, accepted}
use Rattle.rules.specs.SuiteFile.{TestListing, read_tests, test_count}
use Rattle.rules.specs.Job.{of_stage, packed, call_tests, stage_after}
use Rattle.reader.specs.declared.Counts.{Counts}
use Rattle.lent_tests.specs.Lent.{tests_after, rows_after}
use Rattle.records.specs.declared.Job.{Job}
use Rattle.lent_job.specs.Held.{Lent, held_new, job_at}
use Rattle.lent_job.specs.ReadOld.{past_due, read_answer, roomy}
use Rattle.lent_job.specs.ReadNew.{old_counts}

-- ---- what is due before reading

-- 14 where the old version v, the new one v' and the job are not what reading the two texts leaves, else 0.
unfoldable pub both_due : Job → Lent → Lent → ℕ
both_due j v v' = after (held_new j v v') 14 (λ h. 0)

-- 13, 14, or 0 where neither is due; so many numbers and words for the tests, and numbers of scratch are lent.
unfoldable pub tests_due : Job → Lent → Lent → ℕ → ℕ → ℕ → ℕ
tests_due j v v' tests rows work = choose (of_stage call_tests j.stage) (choose (roomy 400 3200 tests rows work) (both_due j v v') 14) 13

-- What the call has to go by, where the old program has as many edges as the job says.
abbrev pub suite_read : ℕ → ℕ → Bytes → Reading TestListing
suite_read due edges text = past_due due (read_tests edges text)

abbrev pub tests_read : Job → Lent → Lent → ℕ → ℕ → ℕ → Bytes → Reading TestListing
tests_read j v v' tests rows work text = suite_read (tests_due j v v' tests rows work) j.old_edges text

-- ---- what it leaves

-- The job afterwards.
abbrev pub new_counts : Job → Counts
new_counts j = record { procs = j.new_procs; nodes = j.new_nodes; edges = j.new_edges }

unfoldable pub with_tests : Job → ℕ → Job
with_tests j count = job_at (stage_after call_tests) (old_counts j) (new_counts j) count

unfoldable pub tests_job : Job → Reading TestListing → Job
tests_job j (refused k p) = j
tests_job j (accepted l) = with_tests j (test_count l.suite)

-- Where the names stand, and the rows, afterwards.
unfoldable pub names_left : Reading TestListing → List ℕ → List ℕ
names_left (refused k p) t = t
names_left (accepted l) t = tests_after l t

unfoldable pub rows_left : Reading TestListing → List ℕ → List ℕ
rows_left (refused k p) w = w
rows_left (accepted l) w = rows_after l w

-- ---- the contract

-- `ry_job_read_tests`: the answer in one number, the job and the tables by what the call goes by; entries beyond the counts stay, and the scratch s is zero.
pub record TestsLeftBy (j : Job) (a : Reading TestListing) (t w s : List ℕ) (r : ℕ) (j' : Job) (t' w' s' : List ℕ) : Type 0 where
  pub answer_is : r ≡ packed (read_answer a)
  pub job_is : j' ≡ tests_job j a
  pub tests_are : t' ≡ names_left a t
  pub rows_are : w' ≡ rows_left a w
  pub scratch_is : s' ≡ replicate (length s) 0

-- With the old version v and the new one v'.
pub record ReadTests (j : Job) (v v' : Lent) (text : Bytes) (t w s : List ℕ) (r : ℕ) (j' : Job) (t' w' s' : List ℕ) : Type 0 where
  pub left : TestsLeftBy j (tests_read j v v' (length t) (length w) (length s) text) t w s r j' t' w' s'
