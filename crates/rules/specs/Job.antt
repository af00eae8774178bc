-- The job: what its calls answer, by number and place, and what they write, over whole texts.
use Rattle.std.specs.Prelude.{Bool, true, [], ◌++◌, ℕ, zero, suc, ◌+◌, ◌*◌, eqb, ltb, length, get_or, take, drop}
use Rattle.std.proofs.Math.Option.{Option, none, some}
use Rattle.laws.specs.Tests.{after, choose}
use Rattle.rules.specs.Text.{Reading, Bytes, accepted, max_pairs, refused, then, too_many}
use Rattle.rules.specs.Graph.{Program, edge_count, label_at, node_count}
use Rattle.rules.specs.ProgramFile.{Listing, read_program}
use Rattle.rules.specs.SuiteFile.{TestListing, Suite, coverage_at, read_suite, test_count, test_name}
use Rattle.rules.specs.Closing.{pairs}
use Rattle.rules.specs.Sheet.{Sheet, probes_text, read_sheet, record_text, selected, sheet_text}
use Rattle.rules.specs.Check.{broken}
use Rattle.rules.specs.Layout.{write_program}

-- ---- stages

-- What is asked of a job that has read its tests: write the sheet; write the record line of the test i; check a sheet; show the label of the node n of a side; write the program of a
-- side back; write the list of probes; no request that there is.
pub data Request : Type 0 where
  write_sheet : Request
  write_record : ℕ → Request
  check_sheet : Request
  show_label : ℕ → ℕ → Request
  write_back : ℕ → Request
  write_probes : Request
  no_request : Request

-- A request as a C program gives it: by its number, with two numbers that it may use.
unfoldable pub request_by : ℕ → ℕ → ℕ → Request
request_by n a b =
    choose (eqb n 0) write_sheet (choose (eqb n 1) (write_record a) (choose (eqb n 2) check_sheet (choose (eqb n 3) (show_label a b) (choose (eqb n 4) (write_back a)
    (choose (eqb n 5) write_probes no_request)))))

-- The calls of a job; every request is made by one.
pub data Call : Type 0 where
  call_reset call_old call_new call_tests call_request : Call

-- A call is of a stage: 0 empty, 1 old read, 2 new read, 3 tests read. One that is not gets 13.
unfoldable pub of_stage : Call → ℕ → Bool
of_stage call_reset stage = true
of_stage call_old stage = eqb stage 0
of_stage call_new stage = eqb stage 1
of_stage call_tests stage = eqb stage 2
of_stage call_request stage = eqb stage 3

-- The stage after a call that succeeded.
unfoldable pub stage_after : Call → ℕ
stage_after call_reset = 0
stage_after call_old = 1
stage_after call_new = 2
stage_after call_tests = 3
stage_after call_request = 3

-- ---- answers

-- What a call answers: it wrote these bytes, or it refuses by number and place and writes nothing.
pub data Outcome : Type 0 where
  wrote : Bytes → Outcome
  refusal : ℕ → ℕ → Outcome

-- The largest number of a refusal.
abbrev pub last_number : ℕ
last_number = 16

-- The answer's number and place: success is 0 and how many bytes were written, or 0.
abbrev pub number_of : Outcome → ℕ
number_of (wrote b) = 0
number_of (refusal k p) = k

abbrev pub place_of : Outcome → ℕ
place_of (wrote b) = length b
place_of (refusal k p) = p

-- The answer of a call in one number.
unfoldable pub packed : Outcome → ℕ
packed o = number_of o * 4294967296 + place_of o

-- The output afterwards: the bytes written, and beyond them what was there; after a refusal, what was there.
unfoldable pub output_after : Outcome → Bytes → Bytes
output_after (wrote b) out = b ++ drop (length b) out
output_after (refusal k p) out = out

-- Success with nothing written; of a check it is to pass.
abbrev pub success : Outcome
success = wrote []

abbrev pub passed : Outcome
passed = success

-- The refusal, or what follows.
unfoldable pub outcome : {A : Type 0} → Reading A → (A → Outcome) → Outcome
outcome (refused k p) f = refusal k p
outcome (accepted a) f = f a

-- ---- reading

-- What the texts of a job give.
pub record Given : Type 0 where
  pub old : Program
  pub new : Program
  pub suite : Suite

-- The same, of what reading the three texts leaves.
abbrev pub given_of : Listing → Listing → TestListing → Given
given_of old new tests = record { old = old.program; new = new.program; suite = tests.suite }

-- Reading the old program, the new one and the tests, in this order; the first refusal is the answer.
unfoldable pub read_job : Bytes → Bytes → Bytes → Reading Given
read_job old new tests =
    then (read_program old) (λ p. then (read_program new) (λ p'. then (read_suite (edge_count p) tests) (λ s. accepted (record { old = p; new = p'; suite = s }))))

-- Reading up to each stage.
unfoldable pub read_old_answer : Bytes → Outcome
read_old_answer old = outcome (read_program old) (λ p. success)

unfoldable pub read_new_answer : Bytes → Bytes → Outcome
read_new_answer old new = outcome (read_program old) (λ p. outcome (read_program new) (λ p'. success))

unfoldable pub read_tests_answer : Bytes → Bytes → Bytes → Outcome
read_tests_answer old new tests = outcome (read_job old new tests) (λ g. success)

-- ---- writing

-- 16: the output, of `room` bytes, is shorter than what must be written.
unfoldable pub written : ℕ → Bytes → Outcome
written room b = choose (ltb room (length b)) (refusal 16 0) (wrote b)

-- `over`: more than `limit` pairs exist; then 16.
unfoldable pub writing : ℕ → ℕ → Given → ℕ → Bytes → Outcome
writing limit over g room b = choose (ltb limit (length (pairs g.old g.new))) (refusal over 0) (written room b)

-- The sheet that the selector writes; the record line of the test i; the list of probes.
unfoldable pub sheet_bytes : Given → Bytes
sheet_bytes g = sheet_text g.suite.names (selected g.old g.new g.suite.coverages)

unfoldable pub record_bytes : Given → ℕ → Bytes
record_bytes g i = record_text g.old g.new (test_name g.suite i) (coverage_at g.suite i)

unfoldable pub probes_bytes : Given → Bytes
probes_bytes g = probes_text g.old g.new

-- Write the record line of the test i: 6 where there is none.
abbrev pub recording : ℕ → ℕ → Given → ℕ → ℕ → Outcome
recording limit over g i room = choose (ltb i (test_count g.suite)) (writing limit over g room (record_bytes g i)) (refusal 6 0)

-- ---- checking

-- What a check answers by the first broken rule, or 0 for none: pass, or 12 with that rule as its place.
abbrev pub verdict : ℕ → Outcome
verdict rule = choose (eqb rule 0) passed (refusal 12 rule)

-- The check of a sheet's claims.
unfoldable pub judged : Given → Sheet → Outcome
judged g s = verdict (broken g.old g.new g.suite.coverages s)

-- Check a sheet of at most `limit` pairs.
abbrev pub checking : ℕ → Given → Bytes → Outcome
checking limit g sheet = outcome (read_sheet limit g.old g.new g.suite sheet) (judged g)

-- ---- showing a label

-- The one of a side: 0 the old one, 1 the new one.
unfoldable pub by_side : {A : Type 0} → A → A → ℕ → Option A
by_side old new zero = some old
by_side old new (suc zero) = some new
by_side old new (suc (suc n)) = none

-- The node n is one of the program.
unfoldable pub has_node : Program → ℕ → Bool
has_node p n = ltb n (node_count p)

-- Show a label, by side and node number: 6 where there is no such side, or no such node of its version.
unfoldable pub labelling : Given → ℕ → ℕ → Outcome
labelling g side n = after (by_side g.old g.new side) (refusal 6 0) (λ p. choose (has_node p n) success (refusal 6 0))

-- A version of the program: its text, and what reading it leaves.
pub record Version : Type 0 where
  pub text : Bytes
  pub listing : Listing

-- Where a part stands in its text.
pub record Span : Type 0 where
  pub start : ℕ
  pub len : ℕ

-- Where the label of the node n stands, and the part of the text that holds it.
abbrev pub label_span : Version → ℕ → Span
label_span v n = record { start = get_or v.listing.places.label_starts n 0; len = length (label_at v.listing.program n) }

unfoldable pub label_part : Version → ℕ → Bytes
label_part v n = take (label_span v n).len (drop (label_span v n).start v.text)

-- The part that is shown: empty when refused.
unfoldable pub label_shown : Version → Version → ℕ → ℕ → Bytes
label_shown old new side n = after (by_side old new side) [] (λ v. choose (has_node v.listing.program n) (label_part v n) [])

-- Where it stands, in the text of its version, and this in one number: 0 and 0 when refused.
abbrev pub nowhere : Span
nowhere = record { start = 0; len = 0 }

unfoldable pub span_shown : Version → Version → ℕ → ℕ → Span
span_shown old new side n = after (by_side old new side) nowhere (λ v. choose (has_node v.listing.program n) (label_span v n) nowhere)

unfoldable pub packed_span : Span → ℕ
packed_span s = s.start * 4294967296 + s.len

-- ---- writing a program back (document 02, job 1)

-- Write the program of a side back, as a file: 6 where there is no such side.
unfoldable pub writing_back : Given → ℕ → ℕ → Outcome
writing_back g side room = after (by_side g.old g.new side) (refusal 6 0) (λ p. written room (write_program p))

-- ---- requests

-- What is asked, of what the texts give, with the text that the request comes with (the sheet to check; the others come with none) and an output of `room` bytes. 6 where nothing is.
unfoldable pub serving : Request → Given → Bytes → ℕ → Outcome
serving write_sheet g input room = writing max_pairs too_many g room (sheet_bytes g)
serving (write_record i) g input room = recording max_pairs too_many g i room
serving check_sheet g input room = checking max_pairs g input
serving (show_label side n) g input room = labelling g side n
serving (write_back side) g input room = writing_back g side room
serving write_probes g input room = writing max_pairs too_many g room (probes_bytes g)
serving no_request g input room = refusal 6 0

-- The same, of the texts of a job.
unfoldable pub answering : Request → Bytes → Bytes → Bytes → Bytes → ℕ → Outcome
answering q old new tests input room = outcome (read_job old new tests) (λ g. serving q g input room)

-- Each request by its own name.
abbrev pub sheet_answer : Bytes → Bytes → Bytes → ℕ → Outcome
sheet_answer old new tests room = answering write_sheet old new tests [] room

abbrev pub record_answer : Bytes → Bytes → Bytes → ℕ → ℕ → Outcome
record_answer old new tests i room = answering (write_record i) old new tests [] room

abbrev pub check_answer : Bytes → Bytes → Bytes → Bytes → Outcome
check_answer old new tests sheet = answering check_sheet old new tests sheet 0

abbrev pub label_answer : Bytes → Bytes → Bytes → ℕ → ℕ → Outcome
label_answer old new tests side n = answering (show_label side n) old new tests [] 0

abbrev pub program_answer : Bytes → Bytes → Bytes → ℕ → ℕ → Outcome
program_answer old new tests side room = answering (write_back side) old new tests [] room

abbrev pub probes_answer : Bytes → Bytes → Bytes → ℕ → Outcome
probes_answer old new tests room = answering write_probes old new tests [] room
