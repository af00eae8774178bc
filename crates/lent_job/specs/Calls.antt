-- The calls of stage 3 over lent memory: what is due before them, what they answer, and what they leave.
use Rattle.std.specs.Prelude.{◌≡◌, List, [], Bool, true, false, ℕ, min, leb, length, replicate, take}
use Rattle.std.proofs.Math.Option.{Option, none, some}
use Rattle.laws.specs.Tests.{◌and◌, after, choose}
use Rattle.rules.specs.Text.{Bytes, Reading, refused, accepted, max_bytes, max_edges, max_nodes, max_procs}
use Rattle.rules.specs.ProgramFile.{Listing}
use Rattle.rules.specs.Job.{Given, Outcome, Request, Span, Version, check_sheet, given_of, label_shown, call_request, no_request, nowhere, of_stage, outcome, output_after, packed, packed_span, serving, show_label, span_shown, write_probes, write_back, write_record, write_sheet}
use Rattle.rules.specs.WriteBack.{other_alone}
use Rattle.reader.specs.Result.{Count}
use Rattle.writeback.specs.Back.{back_text}
use Rattle.records.specs.declared.Job.{Job}
use Rattle.lent_job.specs.Held.{AllRead, Lent, held_tests, numbers}

-- ---- what is lent

-- The job, the two versions, the text and the tables of the tests, and how many numbers of scratch there are.
pub record LentJob : Type 0 where
  pub job : Job
  pub old : Lent
  pub new : Lent
  pub tests_text : Bytes
  pub tests : List ℕ
  pub rows : List ℕ
  pub scratch : ℕ

abbrev pub lent_job : Job → Lent → Lent → Bytes → List ℕ → List ℕ → ℕ → LentJob
lent_job j v v' text tests rows n = record { job = j; old = v; new = v'; tests_text = text; tests = tests; rows = rows; scratch = n }

-- ---- 13 and 14

-- How many numbers of scratch a call of stage 3 asks for: the table of 4,096 pairs.
abbrev pub request_scratch : ℕ
request_scratch = 16912

-- What the job and the tables hold, where they are what reading the lent texts leaves.
abbrev pub held : LentJob → Option AllRead
held k = held_tests k.job k.old k.new k.tests_text k.tests k.rows

-- The job with these texts of the two versions in place of those lent.
abbrev pub with_texts : LentJob → Bytes → Bytes → LentJob
with_texts k old new =
    record {
      job = k.job;
      old = numbers k.old.room old k.old.nodes k.old.links;
      new = numbers k.new.room new k.new.nodes k.new.links;
      tests_text = k.tests_text;
      tests = k.tests;
      rows = k.rows;
      scratch = k.scratch;
    }

-- The counts that a job says of a version, each at most its limit.
abbrev pub limited : ℕ → ℕ → ℕ → Count
limited p n e = record { number = 0; place = 0; procs = min p max_procs; nodes = min n max_nodes; edges = min e max_edges }

abbrev pub old_count : Job → Count
old_count j = limited j.old_procs j.old_nodes j.old_edges

abbrev pub new_count : Job → Count
new_count j = limited j.new_procs j.new_nodes j.new_edges

-- The text that the tables of a version write back, with names, labels, callees and words from the lent text; cut to the length of the longest text.
unfoldable pub text_back : Lent → Count → Bytes
text_back v c = take max_bytes (back_text v.text v.nodes v.links c)

abbrev pub old_back : LentJob → Bytes
old_back k = text_back k.old (old_count k.job)

abbrev pub new_back : LentJob → Bytes
new_back k = text_back k.new (new_count k.job)

-- The job with these texts.
unfoldable pub written_back : LentJob → LentJob
written_back k = with_texts k (old_back k) (new_back k)

-- The lent texts differ from these in other bytes than names, callees, labels and words alone, where these are read to h.
unfoldable pub others_alone : LentJob → AllRead → Bool
others_alone k h = other_alone k.old.text (old_back k) h.old and other_alone k.new.text (new_back k) h.new

-- What the job and the tables hold for a program that is written back: what reading these texts leaves, if those lent differ from them in other bytes alone. No other texts can stand
-- for those lent (`WritesBack` in ProgramBack).
unfoldable pub held_back : LentJob → Option AllRead
held_back k = after (held (written_back k)) none (λ h. choose (others_alone k h) (some h) none)

-- The requests that take of the lent texts of the two versions only names, callees, labels and words.
abbrev pub takes_parts : Request → Bool
takes_parts write_sheet = false
takes_parts (write_record i) = false
takes_parts check_sheet = false
takes_parts (show_label side n) = false
takes_parts (write_back side) = true
takes_parts write_probes = false
takes_parts no_request = false

-- What the job and the tables hold for a request.
unfoldable pub holding : Request → LentJob → Option AllRead
holding q k = choose (takes_parts q) (held_back k) (held k)

-- What a call of stage 3 goes by, where the job and the tables hold x: 13 where the job is at another stage; 14 where the scratch is too short, or where they are not what reading
-- leaves; else what they hold.
unfoldable pub goes_by : LentJob → Option AllRead → Reading AllRead
goes_by k x = choose (of_stage call_request k.job.stage) (choose (leb request_scratch k.scratch) (after x (refused 14 0) (λ h. accepted h)) (refused 14 0)) (refused 13 0)

-- What a request that goes by the lent texts as they are goes by.
abbrev pub goes_held : LentJob → Reading AllRead
goes_held k = goes_by k (held k)

-- ---- the answers

-- What the texts give.
abbrev pub given_by : AllRead → Given
given_by h = given_of h.old h.new h.tests

-- What is asked, with the text that the request comes with and an output of `room` bytes.
unfoldable pub lent_call : Request → LentJob → Bytes → ℕ → Outcome
lent_call q k input room = outcome (goes_by k (holding q k)) (λ h. serving q (given_by h) input room)

-- Requests by their own names: write the sheet; write the record line of the test i; check a sheet; show the label of the node n of a side; write the program of a side back.
abbrev pub sheet_call : LentJob → ℕ → Outcome
sheet_call k room = lent_call write_sheet k [] room

abbrev pub record_call : LentJob → ℕ → ℕ → Outcome
record_call k i room = lent_call (write_record i) k [] room

abbrev pub check_call : LentJob → Bytes → Outcome
check_call k sheet = lent_call check_sheet k sheet 0

abbrev pub label_call : LentJob → ℕ → ℕ → Outcome
label_call k side n = lent_call (show_label side n) k [] 0

abbrev pub program_call : LentJob → ℕ → ℕ → Outcome
program_call k side room = lent_call (write_back side) k [] room

-- The part that is shown for a label, and where it stands: empty and nowhere when refused.
abbrev pub version_of : Lent → Listing → Version
version_of v s = record { text = v.text; listing = s }

unfoldable pub shown_by : Reading AllRead → LentJob → ℕ → ℕ → Bytes
shown_by (refused q p) k side n = []
shown_by (accepted h) k side n = label_shown (version_of k.old h.old) (version_of k.new h.new) side n

unfoldable pub label_part_call : LentJob → ℕ → ℕ → Bytes
label_part_call k side n = shown_by (goes_held k) k side n

unfoldable pub span_by : Reading AllRead → LentJob → ℕ → ℕ → Span
span_by (refused q p) k side n = nowhere
span_by (accepted h) k side n = span_shown (version_of k.old h.old) (version_of k.new h.new) side n

unfoldable pub label_span_call : LentJob → ℕ → ℕ → Span
label_span_call k side n = span_by (goes_held k) k side n

-- ---- the contracts

-- The job is as it was, and the scratch is zero.
pub record Kept (j j' : Job) (w w' : List ℕ) : Type 0 where
  pub job_is : j' ≡ j
  pub scratch_is : w' ≡ replicate (length w) 0

-- `ry_job_call`: number and place in one number, and the output.
pub record Called (x : Outcome) (r : ℕ) (j j' : Job) (w w' out out' : List ℕ) : Type 0 where
  pub answer_is : r ≡ packed x
  pub output_is : out' ≡ output_after x out
  pub kept : Kept j j' w w'

-- `ry_job_label`: where the label stands, in one number.
pub record Found (s : Span) (r : ℕ) (j j' : Job) (w w' : List ℕ) : Type 0 where
  pub span_is : r ≡ packed_span s
  pub kept : Kept j j' w w'

-- `label_shown`: the part.
pub record Shown (part r : Bytes) (j j' : Job) (w w' : List ℕ) : Type 0 where
  pub part_is : r ≡ part
  pub kept : Kept j j' w w'
