-- Reading the new program into lent memory: what is due before it, and what it leaves.
use Rattle.std.specs.Prelude.{List, ℕ, length}
use Rattle.laws.specs.Tests.{after, choose}
use Rattle.rules.specs.Text.{Bytes, Reading, refused, accepted}
use Rattle.rules.specs.ProgramFile.{Listing}
use Rattle.rules.specs.Job.{of_stage, call_new, stage_after}
use Rattle.reader.specs.declared.Counts.{Counts}
use Rattle.records.specs.declared.Job.{Job}
use Rattle.records.specs.declared.Node.{Node}
use Rattle.lent_job.specs.Held.{Lent, counted, held_old, job_at}
use Rattle.lent_job.specs.ReadOld.{roomy, program_read, ProgramLeftBy}

-- 14 where the old version v and the job are not what reading the old text leaves, else 0.
unfoldable pub old_held_due : Job → Lent → ℕ
old_held_due j v = after (held_old j v) 14 (λ o. 0)

-- 13, 14, or 0 where neither is due; so many records of nodes, links and numbers of scratch are lent for the new program.
unfoldable pub new_due : Job → Lent → ℕ → ℕ → ℕ → ℕ
new_due j v nodes links work = choose (of_stage call_new j.stage) (choose (roomy 512 6080 nodes links work) (old_held_due j v) 14) 13

-- What the call has to go by.
abbrev pub new_read : Job → Lent → ℕ → ℕ → ℕ → Bytes → Reading Listing
new_read j v nodes links work text = program_read (new_due j v nodes links work) text

-- The job afterwards: what it said of the old program, with the counts of the new one.
abbrev pub old_counts : Job → Counts
old_counts j = record { procs = j.old_procs; nodes = j.old_nodes; edges = j.old_edges }

unfoldable pub with_new : Job → Counts → Job
with_new j c = job_at (stage_after call_new) (old_counts j) c 0

unfoldable pub new_job : Job → Reading Listing → Job
new_job j (refused k p) = j
new_job j (accepted s) = with_new j (counted s)

-- ---- the contract

-- `ry_job_read_new`, with the old version v.
pub record ReadNew (j : Job) (v : Lent) (text : Bytes) (n : List Node) (l w : List ℕ) (r : ℕ) (j' : Job) (n' : List Node) (l' w' : List ℕ) : Type 0 where
  pub left : ProgramLeftBy (new_job j) (new_read j v (length n) (length l) (length w) text) n l w r j' n' l' w'
