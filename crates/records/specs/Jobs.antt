-- The job record.
use Rattle.std.specs.Prelude.{◌≡◌, Bool, true, List, [], ◌∷◌, ℕ, get_or}
use Rattle.std.proofs.Common.{ap}
use Rattle.rules.specs.Text.{same}
use Rattle.rules.proofs.TextLaws.{same_true, same_self}
use Rattle.records.specs.declared.Job.{Job}

-- A fresh job.
abbrev pub fresh : Job
fresh = record { stage = 0; old_procs = 0; old_nodes = 0; old_edges = 0; new_procs = 0; new_nodes = 0; new_edges = 0; tests = 0 }

-- The numbers of a job.
abbrev pub numbers_of : Job → List ℕ
numbers_of j = j.stage ∷ j.old_procs ∷ j.old_nodes ∷ j.old_edges ∷ j.new_procs ∷ j.new_nodes ∷ j.new_edges ∷ j.tests ∷ []

-- Two jobs are the same.
unfoldable pub same_job : Job → Job → Bool
same_job a b = same (numbers_of a) (numbers_of b)

-- Then they are equal, and a job is the same as itself.
job_of : List ℕ → Job
job_of l =
    record {
      stage = get_or l 0 0;
      old_procs = get_or l 1 0;
      old_nodes = get_or l 2 0;
      old_edges = get_or l 3 0;
      new_procs = get_or l 4 0;
      new_nodes = get_or l 5 0;
      new_edges = get_or l 6 0;
      tests = get_or l 7 0;
    }

pub job_same : (a b : Job) → same_job a b ≡ true → a ≡ b
unfolding same_job job_of
job_same a b h = ap job_of (same_true (numbers_of a) (numbers_of b) h)

pub job_self : (a : Job) → same_job a a ≡ true
unfolding same_job
job_self a = same_self (numbers_of a)
