-- Programs written back from a lent job (document 02, job 1): what 14 asks of the two texts, in the document's words, and that what the tables write back is just that.
use Rattle.std.specs.Prelude.{◌≡◌, ◌↔◌, ℕ, ◌≤◌, ◌<◌, length}
use Rattle.std.proofs.Math.Bool.{true}
use Rattle.std.proofs.Math.Option.{some}
use Rattle.rules.specs.Text.{Bytes}
use Rattle.rules.specs.Job.{Request, answering, refusal, write_back, written}
use Rattle.rules.specs.WriteBack.{other_alone}
use Rattle.lent_job.specs.Held.{AllRead}
use Rattle.lent_job.specs.Calls.{LentJob, held, held_back, lent_call, request_scratch, with_texts}

-- The texts old and new stand for those lent: reading them leaves this job and these tables, which hold h, and each differs from the lent one in other bytes than names, callees, labels
-- and words alone.
pub record StandFor (k : LentJob) (old new : Bytes) (h : AllRead) : Type 0 where
  pub leave : held (with_texts k old new) ≡ some h
  pub old_alone : other_alone k.old.text old h.old ≡ true
  pub new_alone : other_alone k.new.text new h.new ≡ true

-- Where 512 records of nodes are lent their numbers are there.
pub record Whole (k : LentJob) : Type 0 where
  pub old_whole : 512 ≤ k.old.room → 2048 ≤ length k.old.nodes
  pub new_whole : 512 ≤ k.new.room → 2048 ≤ length k.new.nodes

pub record WritesBack (k : LentJob) : Type 0 where
  -- The job and the tables hold h for this request exactly if some texts stand for those lent.
  pub held_exactly : (h : AllRead) → (held_back k ≡ some h) ↔ ((old : Bytes) × (new : Bytes) × StandFor k old new h)
  -- There is at most one such text of each version.
  pub once : (old new old' new' : Bytes) (h h' : AllRead) → StandFor k old new h → StandFor k old' new' h' → (old ≡ old') × (new ≡ new')
  -- It is what is written: of side 0 the old one, of side 1 the new one; 16 where the output is shorter; 6 for another side.
  pub old_written : (old new : Bytes) (h : AllRead) → StandFor k old new h → request_scratch ≤ k.scratch → (input : Bytes) (room : ℕ) → lent_call (write_back 0) k input room ≡ written room old
  pub new_written : (old new : Bytes) (h : AllRead) → StandFor k old new h → request_scratch ≤ k.scratch → (input : Bytes) (room : ℕ) → lent_call (write_back 1) k input room ≡ written room new
  pub no_side : (old new : Bytes) (h : AllRead) → StandFor k old new h → request_scratch ≤ k.scratch → (side : ℕ) → 1 < side → (input : Bytes) (room : ℕ)
      → lent_call (write_back side) k input room ≡ refusal 6 0
  -- Where no texts stand for those lent the answer is 14, for every side.
  pub none_stand : k.job.stage ≡ 3 → ((old new : Bytes) (h : AllRead) → StandFor k old new h → ⊥) → (side : ℕ) (input : Bytes) (room : ℕ) → lent_call (write_back side) k input room ≡ refusal 14 0
  -- Where the job and the tables are what reading the lent texts leaves, as the other requests ask, these stand for themselves: they are written, byte for byte.
  pub themselves : (h : AllRead) → held k ≡ some h → StandFor k k.old.text k.new.text h
  -- There every request is answered as the three texts are.
  pub answered : (h : AllRead) → held k ≡ some h → request_scratch ≤ k.scratch → (q : Request) (input : Bytes) (room : ℕ)
      → lent_call q k input room ≡ answering q k.old.text k.new.text k.tests_text input room
