-- Past 13 and 14 a request is answered as the definitions over the three texts that it goes by do: those lent, or of a program that is written back those that stand for them
-- (ProgramBack). So what is proved of those holds of the lent job, demand 3 entire.
use Rattle.std.specs.Prelude.{◌≡◌, true, false, List, [], ◌∷◌, ◌++◌, ℕ, ◌/◌, ◌%◌, ◌≤◌, ◌<◌, drop, length, take}
use Rattle.laws.specs.Tests.{choose, has}
use Rattle.rules.specs.Text.{Reading, Bytes, accepted, max_bytes, text_of}
use Rattle.rules.specs.Graph.{edge_count, label_at, node_count}
use Rattle.rules.specs.ProgramFile.{read_listing}
use Rattle.rules.specs.SuiteFile.{coverage_at, test_count, test_name}
use Rattle.rules.specs.Closing.{repeated}
use Rattle.rules.specs.Sheet.{crossed, left_off, v_text}
use Rattle.rules.specs.Job.{Given, Request, answering, label_answer, label_shown, packed, packed_span, passed, read_job, read_new_answer, read_old_answer, read_tests_answer, request_by, span_shown, success, wrote}
use Rattle.rules.specs.Promises.{MarksHold, MarksTrue, RunsAlike}
use Rattle.records.specs.declared.Job.{Job}
use Rattle.lent_job.specs.Held.{AllRead}
use Rattle.lent_job.specs.Calls.{Called, LentJob, check_call, label_call, label_part_call, label_span_call, lent_call, record_call, sheet_call, takes_parts, version_of, written_back}

-- The texts of a job.
abbrev pub read_texts : LentJob → Reading Given
read_texts k = read_job k.old.text k.new.text k.tests_text

-- The job whose texts a request goes by: those lent, or those that the tables write back.
unfoldable pub served_by : Request → LentJob → LentJob
served_by q k = choose (takes_parts q) (written_back k) k

-- The answers of the job k, whose texts give g.
pub record ByTexts (k : LentJob) (g : Given) : Type 0 where
  -- The three texts are accepted, and give g.
  pub reads : read_job k.old.text k.new.text k.tests_text ≡ accepted g
  pub reads_old : read_old_answer k.old.text ≡ success
  pub reads_new : read_new_answer k.old.text k.new.text ≡ success
  pub reads_tests : read_tests_answer k.old.text k.new.text k.tests_text ≡ success
  -- Number, place and bytes written are those of the texts, for every request that goes by the lent texts as they are (of the others see ProgramBack).
  pub answer_is : (q : Request) → takes_parts q ≡ false → (input : Bytes) (room : ℕ) → lent_call q k input room ≡ answering q k.old.text k.new.text k.tests_text input room

-- The part of a text that one number leads to: its start times 4,294,967,296, and its length.
abbrev pub part_found : ℕ → Bytes → Bytes
part_found r text = take (r % 4294967296) (drop (r / 4294967296) text)

-- Labels of the job k, whose texts are read to h.
pub record LabelsByTexts (k : LentJob) (h : AllRead) : Type 0 where
  -- The versions are those of the texts.
  pub old_read : read_listing k.old.text ≡ accepted h.old
  pub new_read : read_listing k.new.text ≡ accepted h.new
  -- Number and place; the part that is shown.
  pub answer_is : (side n : ℕ) → label_call k side n ≡ label_answer k.old.text k.new.text k.tests_text side n
  pub part_is : (side n : ℕ) → label_part_call k side n ≡ label_shown (version_of k.old h.old) (version_of k.new h.new) side n
  pub span_is : (side n : ℕ) → label_span_call k side n ≡ span_shown (version_of k.old h.old) (version_of k.new h.new) side n
  -- It is the label that the program of the text has; so is the part that the one number r leads to.
  pub old_label : (n : ℕ) → n < node_count h.old.program → label_part_call k 0 n ≡ label_at h.old.program n
  pub new_label : (n : ℕ) → n < node_count h.new.program → label_part_call k 1 n ≡ label_at h.new.program n
  pub old_found : (n r : ℕ) → n < node_count h.old.program → r ≡ packed_span (label_span_call k 0 n) → part_found r k.old.text ≡ label_at h.old.program n
  pub new_found : (n r : ℕ) → n < node_count h.new.program → r ≡ packed_span (label_span_call k 1 n) → part_found r k.new.text ≡ label_at h.new.program n

module _ {ℓ κ} (St : Type ℓ) (Out : Type κ) where
  -- Demand 3 of the lent job k, as `Demand3` has it of texts.
  pub record LentDemand3 (k : LentJob) : Type (ℓ ⊔ κ) where
    -- A sheet passes the check: every test with no R line on it goes the same.
    pub checker : (sheet : Bytes) → check_call k sheet ≡ passed
        → (g : Given) × (read_texts k ≡ accepted g) × ((i : ℕ) → i < test_count g.suite → left_off sheet (test_name g.suite i) ≡ true → RunsAlike St Out g i)
    -- The sheet that the job writes passes its check, and has at most 65,536 bytes.
    pub passes : (room : ℕ) (sheet : Bytes) → sheet_call k room ≡ wrote sheet → (check_call k sheet ≡ passed) × (length sheet ≤ max_bytes)
    -- A test with no R line on the sheet that the job writes is not repeated.
    pub unlisted : (room : ℕ) (sheet : Bytes) → sheet_call k room ≡ wrote sheet → (g : Given) → read_texts k ≡ accepted g
        → (i : ℕ) → left_off sheet (test_name g.suite i) ≡ true → has (repeated g.old g.new g.suite.coverages) i ≡ false
    -- The record line of a test is its name, how many edges it crossed, and a mark for each new edge; if the test is not repeated, the marks are true, and in any case they may be relied
    -- on where the old run ended.
    pub marked : (i room : ℕ) (line : Bytes) → record_call k i room ≡ wrote line
        → (g : Given) × (read_texts k ≡ accepted g) × (marks : Bytes) × (length marks ≡ edge_count g.new)
        × (line ≡ text_of (v_text (test_name g.suite i) (crossed g.old (coverage_at g.suite i)) marks ∷ []))
        × (has (repeated g.old g.new g.suite.coverages) i ≡ false → MarksTrue St Out g i marks) × MarksHold St Out g i marks

module _ {ℓ κ} (St : Type ℓ) (Out : Type κ) (k : LentJob) where
  -- The same, of the numbers that `ry_job_call` returns and the output that it leaves, by its contract.
  pub record LentExported : Type (ℓ ⊔ κ) where
    -- The request 2 returns 0: every test with no R line on the sheet goes the same.
    pub checker : (a b : ℕ) (sheet : Bytes) (r : ℕ) (j j' : Job) (w w' out out' : List ℕ) → Called (lent_call (request_by 2 a b) k sheet (length out)) r j j' w w' out out' → r ≡ 0
        → (g : Given) × (read_texts k ≡ accepted g) × ((i : ℕ) → i < test_count g.suite → left_off sheet (test_name g.suite i) ≡ true → RunsAlike St Out g i)
    -- The request 0 returns a number below 4,294,967,296: so many bytes of a sheet stand at the front of the output, and the request 2 passes them.
    pub passes : (a b : ℕ) (input : Bytes) (r : ℕ) (j j' : Job) (w w' out out' : List ℕ) → Called (lent_call (request_by 0 a b) k input (length out)) r j j' w w' out out' → r < 4294967296
        → (sheet : Bytes) × (r ≡ length sheet) × (out' ≡ sheet ++ drop r out) × ((c d room : ℕ) → packed (lent_call (request_by 2 c d) k sheet room) ≡ 0)
    -- A test with no R line among these bytes is left off by the selector: it is not repeated.
    pub unlisted : (a b : ℕ) (input : Bytes) (r : ℕ) (j j' : Job) (w w' out out' : List ℕ) → Called (lent_call (request_by 0 a b) k input (length out)) r j j' w w' out out' → r < 4294967296
        → (g : Given) → read_texts k ≡ accepted g → (i : ℕ) → left_off (take r out') (test_name g.suite i) ≡ true → has (repeated g.old g.new g.suite.coverages) i ≡ false
    -- The request 1 for the test i returns one below it: so many bytes of a record line, whose marks are true if the selector leaves the test off, and may be relied on where the
    -- old run ended.
    pub marked : (i b : ℕ) (input : Bytes) (r : ℕ) (j j' : Job) (w w' out out' : List ℕ) → Called (lent_call (request_by 1 i b) k input (length out)) r j j' w w' out out' → r < 4294967296
        → (g : Given) × (read_texts k ≡ accepted g) × (marks : Bytes) × (length marks ≡ edge_count g.new)
        × (out' ≡ text_of (v_text (test_name g.suite i) (crossed g.old (coverage_at g.suite i)) marks ∷ []) ++ drop r out)
        × (has (repeated g.old g.new g.suite.coverages) i ≡ false → MarksTrue St Out g i marks) × MarksHold St Out g i marks
