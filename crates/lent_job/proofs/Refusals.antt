-- Refusals of the lent job: 13 wherever the job is at another stage, before anything else is asked; then 14 wherever what is lent is too short or not what reading leaves, before the
-- text of the call is looked at; and what is lent is as it was.
use Rattle.std.specs.Prelude.{◌≡◌, Bool, List, ℕ, ◌<◌, leb, length}
use Rattle.std.proofs.Math.Path.{refl}
use Rattle.std.proofs.Common.{ap, ◌∙◌, subst, eq-eqb, ne_eqb}
use Rattle.std.proofs.Math.Bool.{true, false}
use Rattle.std.proofs.Math.Option.{none}
use Rattle.std.proofs.lemmas.Bool.{lt-leb}
use Rattle.laws.specs.Tests.{choose}
use Rattle.rules.specs.Text.{Reading, Bytes, refused}
use Rattle.rules.specs.ProgramFile.{Listing}
use Rattle.rules.specs.SuiteFile.{TestListing}
use Rattle.rules.specs.Job.{Outcome, Request, check_sheet, no_request, of_stage, outcome, output_after, refusal, show_label, write_probes, write_back, write_record, write_sheet}
use Rattle.records.specs.declared.Job.{Job}
use Rattle.records.specs.declared.Node.{Node}
use Rattle.records.specs.Jobs.{fresh, same_job}
use Rattle.lent_job.specs.Held.{Lent, held_new, held_old}
use Rattle.lent_job.specs.ReadOld.{ProgramLeftBy, ReadOld, fresh_due, links_read, old_due, old_job, old_read, past_due, records_read, roomy}
use Rattle.lent_job.specs.ReadNew.{ReadNew, new_due, new_job, new_read, old_held_due}
use Rattle.lent_job.specs.ReadTests.{ReadTests, TestsLeftBy, both_due, names_left, rows_left, tests_due, tests_job, tests_read}
use Rattle.lent_job.specs.Calls.{Called, LentJob, goes_by, held, holding, lent_call}

-- ---- 13

module _ (j : Job) (v v' : Lent) (n l w : ℕ) (text : Bytes) where
  pub stage_old : (j.stage ≡ 0 → ⊥) → old_read j n l w text ≡ refused 13 0
  unfolding old_due past_due of_stage choose
  stage_old h = simp (ne_eqb j.stage 0 h)

  pub stage_new : (j.stage ≡ 1 → ⊥) → new_read j v n l w text ≡ refused 13 0
  unfolding new_due past_due of_stage choose
  stage_new h = simp (ne_eqb j.stage 1 h)

  pub stage_tests : (j.stage ≡ 2 → ⊥) → tests_read j v v' n l w text ≡ refused 13 0
  unfolding tests_due past_due of_stage choose
  stage_tests h = simp (ne_eqb j.stage 2 h)

pub stage_request : (q : Request) (k : LentJob) (input : Bytes) (room : ℕ) → (k.job.stage ≡ 3 → ⊥) → lent_call q k input room ≡ refusal 13 0
unfolding lent_call goes_by of_stage outcome choose
stage_request q k input room h = simp (ne_eqb k.job.stage 3 h)

-- ---- 14, at the right stage

module _ (j : Job) (v v' : Lent) (n l w : ℕ) (text : Bytes) where
  -- Too short.
  pub short_old : j.stage ≡ 0 → roomy 512 6080 n l w ≡ false → old_read j n l w text ≡ refused 14 0
  unfolding old_due past_due of_stage choose
  short_old s h = simp (eq-eqb j.stage 0 s, h)

  pub short_new : j.stage ≡ 1 → roomy 512 6080 n l w ≡ false → new_read j v n l w text ≡ refused 14 0
  unfolding new_due past_due of_stage choose
  short_new s h = simp (eq-eqb j.stage 1 s, h)

  pub short_tests : j.stage ≡ 2 → roomy 400 3200 n l w ≡ false → tests_read j v v' n l w text ≡ refused 14 0
  unfolding tests_due past_due of_stage choose
  short_tests s h = simp (eq-eqb j.stage 2 s, h)

  -- Not what reading leaves.
  pub job_spoilt : j.stage ≡ 0 → same_job j fresh ≡ false → old_read j n l w text ≡ refused 14 0
  unfolding old_due fresh_due past_due of_stage choose
  job_spoilt s h = either (roomy 512 6080 n l w) refl
    where
      either : (u : Bool) → roomy 512 6080 n l w ≡ u → old_read j n l w text ≡ refused 14 0
      either true e = simp (eq-eqb j.stage 0 s, e, h)
      either false e = simp (eq-eqb j.stage 0 s, e)

  pub old_spoilt : j.stage ≡ 1 → held_old j v ≡ none → new_read j v n l w text ≡ refused 14 0
  unfolding new_due old_held_due past_due of_stage choose
  old_spoilt s h = either (roomy 512 6080 n l w) refl
    where
      either : (u : Bool) → roomy 512 6080 n l w ≡ u → new_read j v n l w text ≡ refused 14 0
      either true e = simp (eq-eqb j.stage 1 s, e, h)
      either false e = simp (eq-eqb j.stage 1 s, e)

  pub both_spoilt : j.stage ≡ 2 → held_new j v v' ≡ none → tests_read j v v' n l w text ≡ refused 14 0
  unfolding tests_due both_due past_due of_stage choose
  both_spoilt s h = either (roomy 400 3200 n l w) refl
    where
      either : (u : Bool) → roomy 400 3200 n l w ≡ u → tests_read j v v' n l w text ≡ refused 14 0
      either true e = simp (eq-eqb j.stage 2 s, e, h)
      either false e = simp (eq-eqb j.stage 2 s, e)

pub short_request : (q : Request) (k : LentJob) (input : Bytes) (room : ℕ) → k.job.stage ≡ 3 → k.scratch < 16912 → lent_call q k input room ≡ refusal 14 0
unfolding lent_call goes_by of_stage outcome choose
short_request q k input room s h = simp (eq-eqb k.job.stage 3 s, lt-leb 16912 k.scratch h)

pub tables_spoilt : (q : Request) (k : LentJob) (input : Bytes) (room : ℕ) → k.job.stage ≡ 3 → holding q k ≡ none → lent_call q k input room ≡ refusal 14 0
unfolding lent_call goes_by of_stage outcome choose
tables_spoilt q k input room s h = either (leb 16912 k.scratch) refl
  where
    either : (u : Bool) → leb 16912 k.scratch ≡ u → lent_call q k input room ≡ refusal 14 0
    either true e = simp (eq-eqb k.job.stage 3 s, e, h)
    either false e = simp (eq-eqb k.job.stage 3 s, e)

-- Every request but to write a program back asks that the job and the tables are what reading the lent texts leaves.
pub texts_asked : (q : Request) → ((side : ℕ) → q ≡ write_back side → ⊥) → (k : LentJob) → holding q k ≡ held k
unfolding holding choose
texts_asked write_sheet other k = refl
texts_asked (write_record i) other k = refl
texts_asked check_sheet other k = refl
texts_asked (show_label side n) other k = refl
texts_asked (write_back side) other k = absurd (other side refl)
texts_asked write_probes other k = refl
texts_asked no_request other k = refl

pub texts_spoilt : (q : Request) → ((side : ℕ) → q ≡ write_back side → ⊥) → (k : LentJob) (input : Bytes) (room : ℕ) → k.job.stage ≡ 3 → held k ≡ none → lent_call q k input room ≡ refusal 14 0
texts_spoilt q other k input room s h = tables_spoilt q k input room s (texts_asked q other k ∙ h)

-- ---- what is lent

-- A program is refused: the job, the nodes and the links are as they were.
module _ (after : Reading Listing → Job) (k p : ℕ) (n : List Node) (l w : List ℕ) (r : ℕ) (j' : Job) (n' : List Node) (l' w' : List ℕ) where
  kept_by : (j : Job) → after (refused k p) ≡ j → ProgramLeftBy after (refused k p) n l w r j' n' l' w' → (j' ≡ j) × (n' ≡ n) × (l' ≡ l)
  unfolding records_read links_read
  kept_by j s h = (h.job_is ∙ s, h.nodes_are, h.links_are)

pub old_refused : (j : Job) (text : Bytes) (n : List Node) (l w : List ℕ) (r : ℕ) (j' : Job) (n' : List Node) (l' w' : List ℕ) → ReadOld j text n l w r j' n' l' w'
    → (k p : ℕ) → old_read j (length n) (length l) (length w) text ≡ refused k p → (j' ≡ j) × (n' ≡ n) × (l' ≡ l)
unfolding old_job
old_refused j text n l w r j' n' l' w' h k p e =
    kept_by (old_job j) k p n l w r j' n' l' w' j refl (subst (λ (a : Reading Listing). ProgramLeftBy (old_job j) a n l w r j' n' l' w') e h.left)

pub new_refused : (j : Job) (v : Lent) (text : Bytes) (n : List Node) (l w : List ℕ) (r : ℕ) (j' : Job) (n' : List Node) (l' w' : List ℕ) → ReadNew j v text n l w r j' n' l' w'
    → (k p : ℕ) → new_read j v (length n) (length l) (length w) text ≡ refused k p → (j' ≡ j) × (n' ≡ n) × (l' ≡ l)
unfolding new_job
new_refused j v text n l w r j' n' l' w' h k p e =
    kept_by (new_job j) k p n l w r j' n' l' w' j refl (subst (λ (a : Reading Listing). ProgramLeftBy (new_job j) a n l w r j' n' l' w') e h.left)

-- The tests are refused: the job and the tables are as they were.
pub tests_refused : (j : Job) (v v' : Lent) (text : Bytes) (t w s : List ℕ) (r : ℕ) (j' : Job) (t' w' s' : List ℕ) → ReadTests j v v' text t w s r j' t' w' s'
    → (k p : ℕ) → tests_read j v v' (length t) (length w) (length s) text ≡ refused k p → (j' ≡ j) × (t' ≡ t) × (w' ≡ w)
unfolding tests_job names_left rows_left
tests_refused j v v' text t w s r j' t' w' s' h k p e =
    let b : TestsLeftBy j (refused k p) t w s r j' t' w' s' = subst (λ (a : Reading TestListing). TestsLeftBy j a t w s r j' t' w' s') e h.left in (b.job_is, b.tests_are, b.rows_are)

-- A call of stage 3 leaves the job as it was, whatever it answers, and the output where it refuses.
pub call_refused : (x : Outcome) (r : ℕ) (j j' : Job) (w w' out out' : List ℕ) → Called x r j j' w w' out out' → (k p : ℕ) → x ≡ refusal k p → (j' ≡ j) × (out' ≡ out)
unfolding output_after
call_refused x r j j' w w' out out' h k p e = (h.kept.job_is, h.output_is ∙ ap (λ (y : Outcome). output_after y out) e)
