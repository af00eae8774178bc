-- The whole chain: on a fresh job, with texts that are accepted and lent memory that is long enough, the three calls that read succeed and those of stage 3 answer as the texts do.
use Rattle.std.specs.Prelude.{◌≡◌, [], ℕ, ◌≤◌}
use Rattle.std.proofs.Common.{subst}
use Rattle.rules.specs.Text.{Bytes, accepted}
use Rattle.rules.specs.Job.{Given, Request, answering, read_job, written}
use Rattle.lent_job.specs.Progress.{Chain, Succeeds}
use Rattle.lent_job.proofs.Progress.{chain_succeeds}
use Rattle.lent_job.specs.Calls.{goes_by, held, lent_call, program_call}
use Rattle.lent_job.proofs.DueLaws.{held_goes}
use Rattle.lent_job.specs.Answers.{ByTexts, LabelsByTexts}
use Rattle.lent_job.proofs.Answers.{by_texts, labels_by_texts}
use Rattle.lent_job.specs.ProgramBack.{WritesBack}
use Rattle.lent_job.proofs.ProgramBack.{lent_whole, writes_back}
use Rattle.lent_job.specs.Chain.{left_job}

module _ (old new tests : Bytes) (c : Chain old new tests) (g : Given) (e : read_job old new tests ≡ accepted g) where
  abbrev succeeds : Succeeds old new tests c g
  succeeds = chain_succeeds old new tests c g e

  -- Nothing is due for a call of stage 3 that is lent scratch enough.
  pub chain_goes : (n : ℕ) → 16912 ≤ n → goes_by (left_job old new tests c n) (held (left_job old new tests c n)) ≡ accepted succeeds.all
  chain_goes n room = held_goes (left_job old new tests c n) succeeds.all succeeds.held room

  -- The answers are those of the texts, for every request that goes by them as they are.
  pub chain_by_texts : (n : ℕ) → 16912 ≤ n → ByTexts (left_job old new tests c n) g
  chain_by_texts n room =
      subst (λ (x : Given). ByTexts (left_job old new tests c n) x) succeeds.gives (by_texts (left_job old new tests c n) succeeds.all (chain_goes n room))

  -- So are the labels, and their parts.
  pub chain_labels : (n : ℕ) → 16912 ≤ n → LabelsByTexts (left_job old new tests c n) succeeds.all
  chain_labels n room = labels_by_texts (left_job old new tests c n) succeeds.all (chain_goes n room)

  abbrev back : (n : ℕ) → WritesBack (left_job old new tests c n)
  back n = writes_back (left_job old new tests c n) (lent_whole _ old c.first.nodes c.first.links new c.second.nodes c.second.links tests _ _ n)

  -- Every request is answered as the texts are.
  pub chain_answers : (n : ℕ) → 16912 ≤ n → (q : Request) (input : Bytes) (room : ℕ) → lent_call q (left_job old new tests c n) input room ≡ answering q old new tests input room
  chain_answers n long q input room = (back n).answered succeeds.all succeeds.held long q input room

  -- A program is written back as it was read, byte for byte.
  pub chain_written : (n : ℕ) → 16912 ≤ n → (room : ℕ) → (program_call (left_job old new tests c n) 0 room ≡ written room old) × (program_call (left_job old new tests c n) 1 room ≡ written room new)
  chain_written n long room =
      let s = (back n).themselves succeeds.all succeeds.held in
      ((back n).old_written old new succeeds.all s long [] room, (back n).new_written old new succeeds.all s long [] room)
