-- What a call of stage 3 goes by: 13 or 14 is due, or job and tables hold what was read.
use Rattle.std.specs.Prelude.{◌≡◌, Bool, ℕ, ◌≤◌, eqb, leb}
use Rattle.std.proofs.Math.Path.{refl}
use Rattle.std.proofs.Common.{sym, ap, ◌∙◌, true≢false, arith, eq-eqb, le-leb, leb-true}
use Rattle.std.proofs.Math.Bool.{true, false}
use Rattle.std.proofs.Math.Option.{Option, none, some}
use Rattle.laws.specs.Tests.{choose}
use Rattle.rules.specs.Text.{refused, accepted}
use Rattle.rules.specs.Job.{of_stage, stage_after}
use Rattle.rules.proofs.TextLaws.{accepted_same}
use Rattle.records.specs.declared.Job.{Job}
use Rattle.lent_job.specs.Held.{AllRead, job_tests}
use Rattle.lent_job.proofs.HeldLaws.{held_tests_parts}
use Rattle.lent_job.specs.Calls.{LentJob, goes_by, held, request_scratch}

-- The cases, of any claim, where x is what job and tables hold.
module _ {X : Type 0} (k : LentJob) (x : Option AllRead) (no : (n : ℕ) → 13 ≤ n → n ≤ 14 → goes_by k x ≡ refused n 0 → X)
    (yes : (h : AllRead) → goes_by k x ≡ accepted h → request_scratch ≤ k.scratch → x ≡ some h → X) where
  case_held : eqb k.job.stage 3 ≡ true → leb request_scratch k.scratch ≡ true → (y : Option AllRead) → x ≡ y → X
  unfolding goes_by of_stage choose
  case_held a b none e = no 14 (omega arith) (omega arith) (simp (a, b, e))
  case_held a b (some h) e = yes h (simp (a, b, e)) (leb-true _ _ b) e

  case_room : eqb k.job.stage 3 ≡ true → (u : Bool) → leb request_scratch k.scratch ≡ u → X
  unfolding goes_by of_stage choose
  case_room a true b = case_held a b _ refl
  case_room a false b = no 14 (omega arith) (omega arith) (simp (a, b))

  case_stage : (u : Bool) → eqb k.job.stage 3 ≡ u → X
  unfolding goes_by of_stage choose
  case_stage true a = case_room a _ refl
  case_stage false a = no 13 (omega arith) (omega arith) (simp a)

  pub due_cases : X
  due_cases = case_stage _ refl

-- A call that goes by what was read goes by what job and tables hold.
pub goes_held_lem : (k : LentJob) (x : Option AllRead) (h : AllRead) → goes_by k x ≡ accepted h → x ≡ some h
goes_held_lem k x h e =
    due_cases k x (λ n a b d. let c : refused n 0 ≡ accepted h = sym d ∙ e in absurd (true≢false (let z : true ≡ false = cc in z)))
    (λ g d room had. had ∙ ap some (accepted_same (sym d ∙ e)))

-- At stage 3, and where the scratch is long enough, a call goes by what is held.
pub goes_on : (k : LentJob) (x : Option AllRead) (h : AllRead) → k.job.stage ≡ 3 → request_scratch ≤ k.scratch → x ≡ some h → goes_by k x ≡ accepted h
unfolding goes_by of_stage choose
goes_on k x h stage room e = simp (eq-eqb _ _ stage, le-leb request_scratch _ room, e)

-- The stage of a job that is held is 3.
pub held_stage : (k : LentJob) (h : AllRead) → held k ≡ some h → k.job.stage ≡ 3
unfolding job_tests stage_after
held_stage k h e = ap (λ (j : Job). j.stage) (held_tests_parts k.job k.old k.new k.tests_text k.tests k.rows h e).3

pub held_goes : (k : LentJob) (h : AllRead) → held k ≡ some h → request_scratch ≤ k.scratch → goes_by k (held k) ≡ accepted h
held_goes k h e room = goes_on k (held k) h (held_stage k h e) room e
