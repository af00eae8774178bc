-- What is promised, as statements; each is proved in proofs/Theorems. Nothing is proved here.
use Rattle.std.specs.Prelude.{◌≡◌, ◌↔◌, ◌⊎◌, Bool, true, false, List, [], ◌∷◌, ◌++◌, map, ℕ, suc, ◌≤◌, ◌<◌, ◌/◌, ◌%◌, length, get_or, take, drop}
use Rattle.std.proofs.Math.Option.{none, some}
use Rattle.laws.specs.Tests.{has, listed, count, plus}
use Rattle.laws.specs.TestLaws.{Ascending}
use Rattle.laws.specs.Lists.{Rising}
use Rattle.rules.specs.Text.{Bytes, accepted, fields_of, is_callees, is_name, join_by, lines_of, max_bytes, max_pairs, refused, same_label, squeezed, text_of, too_many}
use Rattle.rules.specs.Graph.{C, E, Program, WellFormed, X, called, callee_at, callee_count, callee_name, edge_count, edge_taken, entry, exit, its_edge, kind_at, label_at, name_at, node_count, owner_at, proc_count, source_at, star, target_at, word_at}
use Rattle.rules.specs.ProgramFile.{Listing, read_listing, read_program}
use Rattle.rules.specs.SuiteFile.{Suite, TestListing, coverage_at, read_suite, read_tests, test_count, test_name}
use Rattle.rules.specs.Run.{Config, Crosses, Ends, Meaning, ended, run, start, trail}
use Rattle.rules.specs.Closing.{AfterDanger, Counterparts, Coverage, Dangerous, ExitsMet, Pair, Probe, after_dangers, alike, dangers, first_danger, holds, joined, pairs, probes, repeated}
use Rattle.rules.specs.Sheet.{Sheet, SheetLine, crossed, d_line, end_line, head_line, left_off, m_line, no_form, q_text, r_line, r_text, sheet_form, sheet_lines, sheet_text, v_text}
use Rattle.rules.specs.Check.{rule1, rule2, rule3, rule4, rule5}
use Rattle.rules.specs.Job.{Given, Outcome, Request, Version, answering, check_sheet, check_answer, given_of, label_part, label_shown, label_span, last_number, no_request, number_of, output_after, packed, packed_span, passed, place_of, probes_answer, probes_bytes, program_answer, read_job, read_new_answer, read_old_answer, read_tests_answer, record_answer, record_bytes, refusal, request_by, serving, sheet_answer, sheet_bytes, show_label, span_shown, success, write_probes, write_back, write_record, write_sheet, written, wrote}
use Rattle.rules.specs.Layout.{Follows, SheetFollows, SuiteFollows, write_program, write_suite}
use Rattle.rules.specs.Places.{Placed, TestsPlaced}
use Rattle.rules.specs.WriteBack.{SameParts, other_alone}
use Rattle.rules.specs.Former.{former_check_answer}

-- ==== demand 1: what the calls answer, each number for its one reason

-- A call's answer has number 0 only where it succeeds, else one up to the last, and its place fits beside the number.
pub record Plain (o : Outcome) : Type 0 where
  pub zero_succeeds : number_of o ≡ 0 → (b : Bytes) × (o ≡ wrote b)
  pub few_numbers : number_of o ≤ last_number
  pub fits_beside : place_of o < 4294967296

pub record AnswersPlain (old new tests : Bytes) : Type 0 where
  pub of_old : Plain (read_old_answer old)
  pub of_new : Plain (read_new_answer old new)
  pub of_tests : Plain (read_tests_answer old new tests)
  pub of_request : (q : Request) (input : Bytes) (room : ℕ) → Plain (answering q old new tests input room)

-- The one number that an exported call returns for the answer o, and the output that it leaves: below 4,294,967,296 it is how many bytes were written, and they stand at the front of
-- the output; else number and place of the refusal are taken out of it, and the output is as it was.
pub record Returns (o : Outcome) (out : Bytes) : Type 0 where
  pub success_below : packed o < 4294967296 → (b : Bytes) × (o ≡ wrote b) × (packed o ≡ length b) × (output_after o out ≡ b ++ drop (length b) out)
  pub refusal_above : 4294967296 ≤ packed o → (k p : ℕ) × (o ≡ refusal k p) × (packed o / 4294967296 ≡ k) × (packed o % 4294967296 ≡ p) × (output_after o out ≡ out)

abbrev pub Unpacks : Type 0
Unpacks = (o : Outcome) → Plain o → (out : Bytes) → Returns o out

-- The numbers that a request may give once the texts are read; so the check never gives 15 or 16, nor 3, 5 or 6 for a line of a sheet.
abbrev pub request_numbers : Request → List ℕ
request_numbers write_sheet = too_many ∷ 16 ∷ []
request_numbers (write_record i) = 6 ∷ too_many ∷ 16 ∷ []
request_numbers check_sheet = 1 ∷ 2 ∷ 4 ∷ 11 ∷ 12 ∷ []
request_numbers (show_label side n) = 6 ∷ []
request_numbers (write_back side) = 6 ∷ 16 ∷ []
request_numbers write_probes = too_many ∷ 16 ∷ []
request_numbers no_request = 6 ∷ []

-- The numbers that reading a program, reading a test file and a request may give.
pub record NumbersGiven : Type 0 where
  pub of_program : (text : Bytes) (k p : ℕ) → read_program text ≡ refused k p → has (1 ∷ 2 ∷ 3 ∷ 4 ∷ 5 ∷ 6 ∷ 7 ∷ 8 ∷ 9 ∷ []) k ≡ true
  pub of_tests : (m : ℕ) (text : Bytes) (k p : ℕ) → read_suite m text ≡ refused k p → has (1 ∷ 2 ∷ 4 ∷ 5 ∷ 10 ∷ []) k ≡ true
  pub of_request : (q : Request) (old new tests input : Bytes) (room : ℕ) (g : Given) → read_job old new tests ≡ accepted g → (k p : ℕ) → answering q old new tests input room ≡ refusal k p
      → has (request_numbers q) k ≡ true

-- 1: exactly where the text is too long; its place is 0.
pub record TooLong : Type 0 where
  pub of_program : (text : Bytes) (p : ℕ) → (read_program text ≡ refused 1 p) ↔ ((max_bytes < length text) × (p ≡ 0))
  pub of_tests : (m : ℕ) (text : Bytes) (p : ℕ) → (read_suite m text ≡ refused 1 p) ↔ ((max_bytes < length text) × (p ≡ 0))
  pub of_check : (old new tests sheet : Bytes) (g : Given) → read_job old new tests ≡ accepted g → (p : ℕ)
      → (check_answer old new tests sheet ≡ refusal 1 p) ↔ ((max_bytes < length sheet) × (p ≡ 0))

-- The texts are read in the order old, new, tests: the first refusal is the answer, and where there is none reading succeeds.
pub record TextsRead (old new tests : Bytes) : Type 0 where
  pub old_refused : (k p : ℕ) → read_program old ≡ refused k p → (read_old_answer old ≡ refusal k p) × (read_new_answer old new ≡ refusal k p) × (read_job old new tests ≡ refused k p)
  pub new_refused : (a : Program) → read_program old ≡ accepted a → (k p : ℕ) → read_program new ≡ refused k p
      → (read_new_answer old new ≡ refusal k p) × (read_job old new tests ≡ refused k p)
  pub tests_refused : (a b : Program) → read_program old ≡ accepted a → read_program new ≡ accepted b → (k p : ℕ) → read_suite (edge_count a) tests ≡ refused k p
      → read_job old new tests ≡ refused k p
  pub old_read : (a : Program) → read_program old ≡ accepted a → read_old_answer old ≡ success
  pub new_read : (a b : Program) → read_program old ≡ accepted a → read_program new ≡ accepted b → read_new_answer old new ≡ success
  pub all_read : (g : Given) → read_program old ≡ accepted g.old → read_program new ≡ accepted g.new → read_suite (edge_count g.old) tests ≡ accepted g.suite
      → (read_job old new tests ≡ accepted g) × (read_tests_answer old new tests ≡ success)

-- Where reading the texts refuses, every call that is given all of them gives that refusal, whatever else it is given.
pub record TextsFirst (old new tests : Bytes) (k p : ℕ) : Type 0 where
  pub of_tests : read_tests_answer old new tests ≡ refusal k p
  pub of_request : (q : Request) (input : Bytes) (room : ℕ) → answering q old new tests input room ≡ refusal k p

abbrev pub TextsRefused : Type 0
TextsRefused = (old new tests : Bytes) (k p : ℕ) → read_job old new tests ≡ refused k p → TextsFirst old new tests k p

-- The record line of a test that is not there is refused with 6, before 15.
abbrev pub RecordUnnamed : Type 0
RecordUnnamed = (old new tests : Bytes) (g : Given) → read_job old new tests ≡ accepted g → (i room : ℕ) → test_count g.suite ≤ i → record_answer old new tests i room ≡ refusal 6 0

-- The requests by their numbers; one by another number is refused with 6.
pub record RequestsNumbered : Type 0 where
  pub sheet_0 : (a b : ℕ) → request_by 0 a b ≡ write_sheet
  pub record_1 : (a b : ℕ) → request_by 1 a b ≡ write_record a
  pub check_2 : (a b : ℕ) → request_by 2 a b ≡ check_sheet
  pub label_3 : (a b : ℕ) → request_by 3 a b ≡ show_label a b
  pub program_4 : (a b : ℕ) → request_by 4 a b ≡ write_back a
  pub probes_5 : (a b : ℕ) → request_by 5 a b ≡ write_probes
  pub unnamed : (old new tests : Bytes) (g : Given) → read_job old new tests ≡ accepted g → (n a b : ℕ) (input : Bytes) (room : ℕ) → 5 < n
      → answering (request_by n a b) old new tests input room ≡ refusal 6 0

-- Which requests come with a text, and which write. A text that a request does not come with, and an output that it does not write to, are of no matter.
abbrev pub comes_with_text : Request → Bool
comes_with_text write_sheet = false
comes_with_text (write_record i) = false
comes_with_text check_sheet = true
comes_with_text (show_label side n) = false
comes_with_text (write_back side) = false
comes_with_text write_probes = false
comes_with_text no_request = false

abbrev pub writes : Request → Bool
writes write_sheet = true
writes (write_record i) = true
writes check_sheet = false
writes (show_label side n) = false
writes (write_back side) = true
writes write_probes = true
writes no_request = false

pub record UnusedIgnored (q : Request) (old new tests : Bytes) : Type 0 where
  pub no_text : comes_with_text q ≡ false → (input : Bytes) (room : ℕ) → answering q old new tests input room ≡ answering q old new tests [] room
  pub no_output : writes q ≡ false → (input : Bytes) (room : ℕ) → answering q old new tests input room ≡ answering q old new tests input 0

-- A sheet, a list of probes and a record line are written, refused with 15 or refused with 16, each exactly for its reason.

-- The answer o to writing the bytes b into an output of `room` bytes, for the texts that give g, with this limit on pairs and the number for more.
pub record Writes (limit over : ℕ) (g : Given) (room : ℕ) (b : Bytes) (o : Outcome) : Type 0 where
  pub written : (c : Bytes) → (o ≡ wrote c) ↔ ((length (pairs g.old g.new) ≤ limit) × (length b ≤ room) × (b ≡ c))
  -- More pairs exist.
  pub over_limit : (o ≡ refusal over 0) ↔ (limit < length (pairs g.old g.new))
  -- 16: the output is shorter than what must be written.
  pub too_short : (o ≡ refusal 16 0) ↔ ((length (pairs g.old g.new) ≤ limit) × (room < length b))

-- Of the sheet, of the list of probes, and of the record line of a test that is there.
abbrev pub WritesExactly : Type 0
WritesExactly = (old new tests : Bytes) (g : Given) → read_job old new tests ≡ accepted g → (room : ℕ)
    → Writes max_pairs too_many g room (sheet_bytes g) (sheet_answer old new tests room) × Writes max_pairs too_many g room (probes_bytes g) (probes_answer old new tests room)
    × ((i : ℕ) → i < test_count g.suite → Writes max_pairs too_many g room (record_bytes g i) (record_answer old new tests i room))

-- A record line has at most 1,045 bytes, a list of probes at most 7,168.
abbrev pub RecordShort : Type 0
RecordShort = (old new tests : Bytes) (i room : ℕ) (line : Bytes) → record_answer old new tests i room ≡ wrote line → length line ≤ 1045

abbrev pub ProbesShort : Type 0
ProbesShort = (old new tests : Bytes) (room : ℕ) (lines : Bytes) → probes_answer old new tests room ≡ wrote lines → length lines ≤ 7168

-- 12: the texts are accepted, the sheet keeps its layout, and of the five rules p, from 1, is the first that does not hold.
abbrev pub five_rules : Given → Sheet → List Bool
five_rules g c = rule1 g.old g.new c ∷ rule2 g.old g.new c ∷ rule3 g.old g.new c ∷ rule4 g.old g.new c ∷ rule5 g.suite.coverages c ∷ []

pub record Breaks (old new tests sheet : Bytes) (p : ℕ) : Type 0 where
  pub given : Given
  pub reads : read_job old new tests ≡ accepted given
  pub claims : Sheet
  pub order : SheetFollows max_pairs given.old given.new given.suite claims
  pub text : sheet ≡ sheet_text given.suite.names claims
  pub rule : ℕ
  pub place : p ≡ suc rule
  pub broken : get_or (five_rules given claims) rule true ≡ false
  pub kept : (j : ℕ) → j < rule → get_or (five_rules given claims) j true ≡ true

abbrev pub ClaimsFalse : Type 0
ClaimsFalse = (old new tests sheet : Bytes) (p : ℕ) → (check_answer old new tests sheet ≡ refusal 12 p) ↔ Breaks old new tests sheet p

-- A line of a sheet is an M line; how many of the lines are.
unfoldable pub is_m : SheetLine → Bool
is_m head_line = false
is_m (m_line a b) = true
is_m (d_line e) = false
is_m (r_line name) = false
is_m (end_line m d r) = false
is_m no_form = false

unfoldable pub m_count : List Bytes → ℕ
m_count [] = 0
m_count (l ∷ ls) = plus (is_m (sheet_form (fields_of l))) (m_count ls)

-- 4: the M line l that stands after 4,096 M lines is refused with 4, whatever it names and wherever it stands, unless one of the lines before it is refused: then the check of `front`, which
-- is these lines alone, gives the same refusal.
abbrev pub LineAbove : Type 0
LineAbove =
    (old new tests front sheet : Bytes) (g : Given) → read_job old new tests ≡ accepted g → length front ≤ max_bytes → length sheet ≤ max_bytes
    → (ls : List Bytes) (l m : Bytes) (ms : List Bytes) → lines_of front ≡ ls ++ ([] ∷ []) → lines_of sheet ≡ ls ++ (l ∷ m ∷ ms) → m_count ls ≡ max_pairs → is_m (sheet_form (fields_of l)) ≡ true
    → (check_answer old new tests sheet ≡ refusal 4 (suc (length ls)))
    ⊎ ((k p : ℕ) × (check_answer old new tests sheet ≡ refusal k p) × (check_answer old new tests front ≡ refusal k p) × (1 ≤ p) × (p ≤ length ls))

-- 11: of a sheet in order that is cut off before one of its lines, the missing line counts as one past the last.
abbrev pub LineMissing : Type 0
LineMissing =
    (old new tests : Bytes) (g : Given) → read_job old new tests ≡ accepted g → (c : Sheet) → SheetFollows max_pairs g.old g.new g.suite c
    → (ls ms : List Bytes) (m : Bytes) → sheet_lines g.suite.names c ≡ ls ++ (m ∷ ms) → check_answer old new tests (text_of ls) ≡ refusal 11 (suc (length ls))

-- The answer to the request for a label, of two versions that were read and the tests.
abbrev pub label_told : Version → Version → TestListing → Bytes → ℕ → ℕ → ℕ → Outcome
label_told old new tests input room side n = serving (show_label side n) (given_of old.listing new.listing tests) input room

-- A label is shown by side, 0 old and 1 new, and node number; 6 where there is no such side, or no such node of its version, and then nothing is shown, and it stands nowhere.
pub record LabelsAnswered (old new : Version) (tests : TestListing) (input : Bytes) (room : ℕ) : Type 0 where
  pub old_shown : (n : ℕ) → n < node_count old.listing.program → (label_told old new tests input room 0 n ≡ success) × (label_shown old new 0 n ≡ label_part old n) × (span_shown old new 0 n ≡ label_span old n)
  pub new_shown : (n : ℕ) → n < node_count new.listing.program → (label_told old new tests input room 1 n ≡ success) × (label_shown old new 1 n ≡ label_part new n) × (span_shown old new 1 n ≡ label_span new n)
  pub no_old_node : (n : ℕ) → node_count old.listing.program ≤ n → (label_told old new tests input room 0 n ≡ refusal 6 0) × (label_shown old new 0 n ≡ []) × (packed_span (span_shown old new 0 n) ≡ 0)
  pub no_new_node : (n : ℕ) → node_count new.listing.program ≤ n → (label_told old new tests input room 1 n ≡ refusal 6 0) × (label_shown old new 1 n ≡ []) × (packed_span (span_shown old new 1 n) ≡ 0)
  pub no_side : (side n : ℕ) → 1 < side → (label_told old new tests input room side n ≡ refusal 6 0) × (label_shown old new side n ≡ []) × (packed_span (span_shown old new side n) ≡ 0)

-- ==== demand 2: files, pairs, dangerous edges, tests to repeat, records

-- ---- files are accepted exactly when they follow the layouts

-- A program text is accepted exactly if it is the writing of a program that follows the layout and the limits, and that program is what is read.
abbrev pub ProgramLayout : Type 0
ProgramLayout = (text : Bytes) (p : Program) → (read_program text ≡ accepted p) ↔ (Follows p × (text ≡ write_program p))

-- An accepted program text gives a well-formed program.
abbrev pub ProgramWellFormed : Type 0
ProgramWellFormed = (text : Bytes) (p : Program) → read_program text ≡ accepted p → WellFormed p

-- The same of a test file, where the old program has m edges.
abbrev pub SuiteLayout : Type 0
SuiteLayout = (m : ℕ) (text : Bytes) (s : Suite) → (read_suite m text ≡ accepted s) ↔ (SuiteFollows m s × (text ≡ write_suite s))

-- The places that reading leaves lead to the parts of the text.
abbrev pub ProgramPlaced : Type 0
ProgramPlaced = (text : Bytes) (s : Listing) → read_listing text ≡ accepted s → Placed text s

abbrev pub SuitePlaced : Type 0
SuitePlaced = (m : ℕ) (text : Bytes) (l : TestListing) → read_tests m text ≡ accepted l → TestsPlaced text l

-- The part of the text that is shown for a node is its label.
abbrev pub LabelShown : Type 0
LabelShown = (v : Version) → read_listing v.text ≡ accepted v.listing → (n : ℕ) → n < node_count v.listing.program → label_part v n ≡ label_at v.listing.program n

-- ---- what runs and rules look up in a program

-- For the word w the node n takes the edge e (document 02, job 6): it leaves n, and it has that word, or it is `*` and no edge of n has that word.
abbrev pub Takes : Program → ℕ → Bytes → ℕ → Type 0
Takes p n w e =
    (e < edge_count p) × (source_at p e ≡ n) × ((word_at p e ≡ w) ⊎ ((word_at p e ≡ star) × ((f : ℕ) → f < edge_count p → source_at p f ≡ n → word_at p f ≡ w → ⊥)))

-- The entry and the exit of a procedure are its E and its X, the callee i of a C is the procedure of the name i in its callee field, the edge that a node takes for a word is just that of
-- `Takes`, and that of an E or C is the one that it has.
pub record Lookups (p : Program) : Type 0 where
  pub entry_is : (q : ℕ) → q < proc_count p → (entry p q < node_count p) × (owner_at p (entry p q) ≡ q) × (kind_at p (entry p q) ≡ E)
  pub exit_is : (q : ℕ) → q < proc_count p → (exit p q < node_count p) × (owner_at p (exit p q) ≡ q) × (kind_at p (exit p q) ≡ X)
  pub called_is : (n : ℕ) → n < node_count p → kind_at p n ≡ C → (i : ℕ) → i < callee_count p n → (called p n i < proc_count p) × (name_at p (called p n i) ≡ callee_name p n i)
  pub taken_is : (n : ℕ) (w : Bytes) (e : ℕ) → (edge_taken p n w ≡ some e) ↔ Takes p n w e
  pub its_edge_there : (n : ℕ) → n < node_count p → (kind_at p n ≡ E) ⊎ (kind_at p n ≡ C) → (e : ℕ) × (its_edge p n ≡ some e)
  pub its_edge_is : (n : ℕ) → n < node_count p → (kind_at p n ≡ E) ⊎ (kind_at p n ≡ C) → (e : ℕ) → (its_edge p n ≡ some e) ↔ ((e < edge_count p) × (source_at p e ≡ n))

abbrev pub LookupsExact : Type 0
LookupsExact = (text : Bytes) (p : Program) → read_program text ≡ accepted p → Lookups p

-- The callee field of a C (document 02, job 3): from 1 to 4 names, joined by `+`, are the names of its callees in their order; and any such names, joined, are a callee field.
pub record CalleesExact : Type 0 where
  pub named : (text : Bytes) (p : Program) → read_program text ≡ accepted p → (n : ℕ) → n < node_count p → kind_at p n ≡ C
      → (names : List Bytes) × (callee_at p n ≡ join_by 43 names) × (length names ≡ callee_count p n) × (1 ≤ length names) × (length names ≤ 4)
      × ((i : ℕ) → i < length names → (is_name (get_or names i []) ≡ true) × (get_or names i [] ≡ callee_name p n i))
  pub taken : (names : List Bytes) → 1 ≤ length names → length names ≤ 4 → ((i : ℕ) → i < length names → is_name (get_or names i []) ≡ true) → is_callees (join_by 43 names) ≡ true

-- ---- blanks in labels (document 02, job 2)

-- No spare blanks: none at the front, none at the back, no two in a row.
pub record NoSpareBlanks (s : Bytes) : Type 0 where
  pub front : (t : Bytes) → s ≡ 32 ∷ t → ⊥
  pub back : (t : Bytes) → s ≡ t ++ (32 ∷ []) → ⊥
  pub run : (t u : Bytes) → s ≡ t ++ (32 ∷ 32 ∷ u) → ⊥

-- What is left of a label: a blank at the front, one at the back, and one more in a row are dropped, and bytes without spare blanks stay as they are.
pub record SqueezedExact (s t : Bytes) : Type 0 where
  pub front : squeezed (32 ∷ t) ≡ squeezed t
  pub back : squeezed (s ++ (32 ∷ [])) ≡ squeezed s
  pub run : squeezed (s ++ (32 ∷ 32 ∷ t)) ≡ squeezed (s ++ (32 ∷ t))
  pub plain : NoSpareBlanks s → squeezed s ≡ s

-- Two labels match exactly if the same is left of both; so labels of blanks only match.
abbrev pub LabelsMatch : Type 0
LabelsMatch = (l l' : Bytes) → (same_label l l' ≡ true) ↔ (squeezed l ≡ squeezed l')

-- Two nodes are alike exactly if kind and callee field have equal bytes and the labels match.
abbrev pub AlikeExact : Program → Program → Type 0
AlikeExact old new =
    (n n' : ℕ) → (alike old new n n' ≡ true) ↔ ((kind_at old n ≡ kind_at new n') × (squeezed (label_at old n) ≡ squeezed (label_at new n')) × (callee_at old n ≡ callee_at new n'))

-- ---- pairs, dangerous edges, counterparts and repeated tests are exactly those of the closing rules

pub record Exact (old new : Program) : Type 1 where
  -- The computed list has a pair of nodes exactly if the rules give it, once each, ascending by old, then new.
  pub pairs_are : (n n' : ℕ) → (listed (pairs old new) n n' ≡ true) ↔ Pair old new n n'
  pub pairs_ascend : Ascending (pairs old new)
  -- The pairs are the smallest set: what has the three rules has every pair.
  pub smallest : (P : ℕ → ℕ → Type 0) → P (entry old 0) (entry new 0)
      → ((n n' : ℕ) → P n n' → kind_at old n ≡ C → kind_at new n' ≡ C → (i : ℕ) → i < callee_count old n → ExitsMet old new P n n' i
      → P (entry old (called old n i)) (entry new (called new n' i)))
      → ((n n' e e' : ℕ) → P n n' → (kind_at old n ≡ C → ExitsMet old new P n n' (callee_count old n))
      → (w : Bytes) → edge_taken old n w ≡ some e → edge_taken new n' w ≡ some e' → alike old new (target_at old e) (target_at new e') ≡ true → P (target_at old e) (target_at new e'))
      → {n n' : ℕ} → Pair old new n n' → P n n'
  pub dangers_are : (e : ℕ) → (has (dangers old new) e ≡ true) ↔ Dangerous old new e
  pub dangers_rise : Rising (dangers old new)
  -- The computed probes are the new edges that need one, ascending; the computed old edges after a danger are these.
  pub probes_are : (e' : ℕ) → (has (probes old new) e' ≡ true) ↔ Probe old new e'
  pub probes_rise : Rising (probes old new)
  pub after_are : (e : ℕ) → (has (after_dangers old new) e ≡ true) ↔ AfterDanger old new e
  pub counterparts_are : (e e' : ℕ) → e < edge_count old → e' < edge_count new → (joined old new (pairs old new) e e' ≡ true) ↔ Counterparts old new e e'
  -- A test is repeated exactly if its coverage holds a dangerous edge.
  pub repeated_are : (suite : List Coverage) (i : ℕ)
      → (has (repeated old new suite) i ≡ true) ↔ ((i < length suite) × (e : ℕ) × Dangerous old new e × (holds (get_or suite i []) e ≡ true))

-- Of the programs that texts give.
abbrev pub ClosingRulesExact : Type 1
ClosingRulesExact = (old new : Bytes) (p p' : Program) → read_program old ≡ accepted p → read_program new ≡ accepted p' → Exact p p'

-- ---- the sheet and the record lines that are written are exactly those of the closing rules

-- A test is repeated: its coverage holds a dangerous edge.
abbrev pub Repeated : Program → Program → Coverage → Type 0
Repeated old new coverage = (e : ℕ) × Dangerous old new e × (holds coverage e ≡ true)

-- The sheet is the writing of claims, in order, that are exactly those of the closing rules.
pub record SheetExact (g : Given) (sheet : Bytes) : Type 0 where
  pub claims : Sheet
  pub text : sheet ≡ sheet_text g.suite.names claims
  pub order : SheetFollows max_pairs g.old g.new g.suite claims
  pub pairs_are : (n n' : ℕ) → (listed claims.M n n' ≡ true) ↔ Pair g.old g.new n n'
  pub dangers_are : (e : ℕ) → (has claims.D e ≡ true) ↔ Dangerous g.old g.new e
  pub repeated_are : (i : ℕ) → (has claims.R i ≡ true) ↔ ((i < test_count g.suite) × Repeated g.old g.new (coverage_at g.suite i))

-- The mark of the new edge x is an open one, `?`: the test is repeated, and x has a probe or a crossed old counterpart of it lies after a danger.
abbrev pub LeftOpen : Program → Program → Coverage → ℕ → Type 0
LeftOpen old new coverage x =
    Repeated old new coverage × (Probe old new x ⊎ ((e : ℕ) × Counterparts old new e x × (holds coverage e ≡ true) × AfterDanger old new e))

-- The record line of a test: the number of old edges that it crossed, and a mark for each new edge, `?` (63) where it is an open one, and else `0` (48) exactly if no old counterpart
-- was crossed, `1` (49) exactly if some crossed one has it as only counterpart; no other byte stands there.
pub record LineExact (old new : Program) (name : Bytes) (coverage : Coverage) (line : Bytes) : Type 0 where
  pub marks : Bytes
  pub text : line ≡ text_of (v_text name (count (edge_count old) (holds coverage)) marks ∷ [])
  pub long : length marks ≡ edge_count new
  pub unsaid : (x : ℕ) → x < edge_count new → LeftOpen old new coverage x → get_or marks x 0 ≡ 63
  pub zero : (x : ℕ) → x < edge_count new → (LeftOpen old new coverage x → ⊥) → (get_or marks x 0 ≡ 48) ↔ ((e : ℕ) → Counterparts old new e x → holds coverage e ≡ true → ⊥)
  pub one : (x : ℕ) → x < edge_count new → (LeftOpen old new coverage x → ⊥)
      → (get_or marks x 0 ≡ 49) ↔ ((e : ℕ) × Counterparts old new e x × (holds coverage e ≡ true) × ((f : ℕ) → Counterparts old new e f → f ≡ x))
  pub three : (x : ℕ) → x < edge_count new → (get_or marks x 0 ≡ 48) ⊎ ((get_or marks x 0 ≡ 49) ⊎ (get_or marks x 0 ≡ 63))

-- The list of probes has a line for each new edge that needs one, ascending, and no other line.
pub record ProbesExact (g : Given) (lines : Bytes) : Type 0 where
  pub edges : List ℕ
  pub text : lines ≡ text_of (map q_text edges)
  pub rise : Rising edges
  pub probes_are : (e' : ℕ) → (has edges e' ≡ true) ↔ Probe g.old g.new e'

-- Demand 2, of the bytes that are written.
pub record Demand2 (old new tests : Bytes) : Type 0 where
  pub sheet_exact : (room : ℕ) (sheet : Bytes) → sheet_answer old new tests room ≡ wrote sheet → (g : Given) × (read_job old new tests ≡ accepted g) × SheetExact g sheet
  pub probes_exact : (room : ℕ) (lines : Bytes) → probes_answer old new tests room ≡ wrote lines → (g : Given) × (read_job old new tests ≡ accepted g) × ProbesExact g lines
  pub line_exact : (i room : ℕ) (line : Bytes) → record_answer old new tests i room ≡ wrote line
      → (g : Given) × (read_job old new tests ≡ accepted g) × (i < test_count g.suite) × LineExact g.old g.new (test_name g.suite i) (coverage_at g.suite i) line

-- ---- the search for a dangerous edge in a row (document 02, job 4)

-- An edge is answered exactly if it is the lowest dangerous one that the coverage holds, and none exactly if the test is not repeated.
pub record SearchExact (old new : Program) (coverage : Coverage) : Type 0 where
  pub found_is : (e : ℕ) → (first_danger (edge_count old) (dangers old new) coverage ≡ some e)
      ↔ (Dangerous old new e × (holds coverage e ≡ true) × ((f : ℕ) → f < e → Dangerous old new f → holds coverage f ≡ true → ⊥))
  pub none_is : (first_danger (edge_count old) (dangers old new) coverage ≡ none) ↔ (Repeated old new coverage → ⊥)

-- Of the programs that texts give.
abbrev pub SearchesExact : Type 0
SearchesExact = (old new : Bytes) (p p' : Program) → read_program old ≡ accepted p → read_program new ≡ accepted p' → (coverage : Coverage) → SearchExact p p' coverage

-- ---- programs written back (document 02, job 1)

-- Every accepted file read and written is unchanged byte for byte.
abbrev pub WrittenUnchanged : Type 0
WrittenUnchanged = (text : Bytes) (p : Program) → read_program text ≡ accepted p → write_program p ≡ text

-- The call writes the text of its side, 0 the old one and 1 the new one, or refuses with 16; of another side it refuses with 6.
pub record ProgramsBack (old new tests : Bytes) (room : ℕ) : Type 0 where
  pub old_back : program_answer old new tests 0 room ≡ written room old
  pub new_back : program_answer old new tests 1 room ≡ written room new
  pub no_side : (side : ℕ) → 1 < side → program_answer old new tests side room ≡ refusal 6 0

abbrev pub BackExactly : Type 0
BackExactly = (old new tests : Bytes) (g : Given) → read_job old new tests ≡ accepted g → (room : ℕ) → ProgramsBack old new tests room

-- A text differs from one that is read in other bytes than names, callees, labels and words alone exactly if it is as long and has these at their places.
abbrev pub OtherBytesAlone : Type 0
OtherBytesAlone = (text t : Bytes) (s : Listing) → read_listing t ≡ accepted s → (other_alone text t s ≡ true) ↔ SameParts text t s

-- ==== demand 3: a test that is left off goes the same

-- ---- the check passes exactly the sheets whose limits, layout and rules hold

pub record Passes (old new tests sheet : Bytes) : Type 0 where
  -- The texts of the job are accepted.
  pub given : Given
  pub reads : read_job old new tests ≡ accepted given
  -- The sheet keeps its limits and its layout: it is the writing of claims in order, with numbers and names that the files have.
  pub claims : Sheet
  pub order : SheetFollows max_pairs given.old given.new given.suite claims
  pub text : sheet ≡ sheet_text given.suite.names claims
  pub short : length sheet ≤ max_bytes
  -- The five rules.
  pub holds1 : rule1 given.old given.new claims ≡ true
  pub holds2 : rule2 given.old given.new claims ≡ true
  pub holds3 : rule3 given.old given.new claims ≡ true
  pub holds4 : rule4 given.old given.new claims ≡ true
  pub holds5 : rule5 given.suite.coverages claims ≡ true

abbrev pub PassesExactly : Type 0
PassesExactly = (old new tests sheet : Bytes) → (check_answer old new tests sheet ≡ passed) ↔ Passes old new tests sheet

-- The check with labels that match by their bytes, as they did (document 02, job 2), all else being as now, passes exactly the sheets that pass and list no pair whose labels differ in
-- their bytes; so a stored sheet that passed still passes, as far as labels are concerned. Sheets from before job 6 of document 02 are made again.
pub record PassedFormerly (old new tests sheet : Bytes) : Type 0 where
  pub passes : Passes old new tests sheet
  pub labels : (n n' : ℕ) → listed passes.claims.M n n' ≡ true → label_at passes.given.old n ≡ label_at passes.given.new n'

abbrev pub FormerExact : Type 0
FormerExact = (old new tests sheet : Bytes) → (former_check_answer old new tests sheet ≡ passed) ↔ PassedFormerly old new tests sheet

abbrev pub StoredSheetsPass : Type 0
StoredSheetsPass = (old new tests sheet : Bytes) → former_check_answer old new tests sheet ≡ passed → check_answer old new tests sheet ≡ passed

-- The sheet lists the pair.
abbrev pub Listed : Sheet → ℕ → ℕ → Type 0
Listed c n n' = listed c.M n n' ≡ true

-- The five rules, in words. Rule 4 is over all words: the edge that the old node takes is listed under D, or the new node takes one for that word and the ends are listed.
pub record RulesExact (old new : Program) (suite : List Coverage) (c : Sheet) : Type 0 where
  pub first_listed : (rule1 old new c ≡ true) ↔ Listed c (entry old 0) (entry new 0)
  pub pairs_alike : (rule2 old new c ≡ true) ↔ ((n n' : ℕ) → Listed c n n' → alike old new n n' ≡ true)
  pub callees_listed : (rule3 old new c ≡ true)
      ↔ ((n n' : ℕ) → Listed c n n' → kind_at old n ≡ C → kind_at new n' ≡ C → (i : ℕ) → i < callee_count old n → ExitsMet old new (Listed c) n n' i
      → Listed c (entry old (called old n i)) (entry new (called new n' i)))
  pub edges_kept : (rule4 old new c ≡ true)
      ↔ ((n n' : ℕ) → Listed c n n' → (kind_at old n ≡ C → ExitsMet old new (Listed c) n n' (callee_count old n))
      → (w : Bytes) (e : ℕ) → edge_taken old n w ≡ some e
      → (has c.D e ≡ true) ⊎ ((e' : ℕ) × (edge_taken new n' w ≡ some e') × Listed c (target_at old e) (target_at new e')))
  pub tests_listed : (rule5 suite c ≡ true) ↔ ((i : ℕ) → i < length suite → (e : ℕ) → has c.D e ≡ true → holds (get_or suite i []) e ≡ true → has c.R i ≡ true)

-- Of the programs that texts give.
abbrev pub CheckRulesExact : Type 0
CheckRulesExact =
    (old new : Bytes) (p p' : Program) → read_program old ≡ accepted p → read_program new ≡ accepted p' → (suite : List Coverage) (c : Sheet) → RulesExact p p' suite c

-- A test is left off a sheet exactly if no line of the sheet is its R line.
abbrev pub LeftOffExact : Type 0
LeftOffExact = (sheet name : Bytes) → (left_off sheet name ≡ true) ↔ ((ls ms : List Bytes) → lines_of sheet ≡ ls ++ (r_text name ∷ ms) → ⊥)

-- ---- tests that are left off, by whole runs

-- A new run stands where the old one does: on a node alike, with the same word chosen, as many open calls, equal states and equal outputs, and it has ended just if the old one has.
pub record Alongside {ℓ κ} {St : Type ℓ} {Out : Type κ} (old new : Program) (c c' : Config St Out) : Type (ℓ ⊔ κ) where
  pub nodes : alike old new c.node c'.node ≡ true
  pub words : c.word ≡ c'.word
  pub depths : length c.calls ≡ length c'.calls
  pub states : c.state ≡ c'.state
  pub outputs : c.outs ≡ c'.outs
  pub ends : ended old c ≡ ended new c'

-- A coverage is exact for a program's run with this meaning and starting state: it holds just the edges that the run crosses.
abbrev pub ExactFor {ℓ κ} : {St : Type ℓ} {Out : Type κ} → Program → Meaning St Out → St → Coverage → Type 0
ExactFor p m s coverage = (e : ℕ) → e < edge_count p → (holds coverage e ≡ true) ↔ Crosses p m s e

module _ {ℓ κ} (St : Type ℓ) (Out : Type κ) where
  -- A meaning is held to nothing else than that labels that match have equal actions: for any actions by what is left of a label and the state there is a meaning that has them.
  abbrev pub MeaningsFree : Type (ℓ ⊔ κ)
  MeaningsFree =
      (next : Bytes → St → St) (out : Bytes → St → Out) (word : Bytes → St → Bytes)
      → (m : Meaning St Out) × ((l : Bytes) (s : St) → (m.next l s ≡ next (squeezed l) s) × (m.out l s ≡ out (squeezed l) s) × (m.word l s ≡ word (squeezed l) s))

  -- The test i goes the same in both programs: for every meaning, starting state and number of steps k, where the old run takes k steps, and the test's coverage holds each edge
  -- that they cross, the new run takes k steps too, and stands where the old one does.
  abbrev pub RunsAlike : Given → ℕ → Type (ℓ ⊔ κ)
  RunsAlike g i =
      (m : Meaning St Out) (s : St) (k : ℕ) (c : Config St Out) → run g.old m k (start g.old s) ≡ some c
      → ((e : ℕ) → has (trail g.old m k (start g.old s)) e ≡ true → holds (coverage_at g.suite i) e ≡ true)
      → (c' : Config St Out) × (run g.new m k (start g.new s) ≡ some c') × Alongside g.old g.new c c'

  -- The marks of the test i are true: for every meaning, starting state and k, where the old run takes k steps, and the coverage holds just the edges that they cross, the new run takes
  -- k steps too, and stands where the old one does; in them it has crossed each new edge marked `1` and none marked `0`; and where the old run has ended, it never crosses one marked `0`.
  abbrev pub MarksTrue : Given → ℕ → Bytes → Type (ℓ ⊔ κ)
  MarksTrue g i marks =
      (m : Meaning St Out) (s : St) (k : ℕ) (c : Config St Out) → run g.old m k (start g.old s) ≡ some c
      → ((e : ℕ) → e < edge_count g.old → holds (coverage_at g.suite i) e ≡ has (trail g.old m k (start g.old s)) e)
      → (c' : Config St Out) × (run g.new m k (start g.new s) ≡ some c') × Alongside g.old g.new c c'
      × ((e' : ℕ) → e' < edge_count g.new → get_or marks e' 0 ≡ 49 → has (trail g.new m k (start g.new s)) e' ≡ true)
      × ((e' : ℕ) → e' < edge_count g.new → get_or marks e' 0 ≡ 48 → has (trail g.new m k (start g.new s)) e' ≡ false)
      × (ended g.old c ≡ true → (e' : ℕ) → e' < edge_count g.new → get_or marks e' 0 ≡ 48 → (j : ℕ) → has (trail g.new m j (start g.new s)) e' ≡ false)

  -- The marks of the test i may be relied on, whether it is repeated or not: for every meaning and starting state with which the old run ends, and for which the coverage is exact, the
  -- new run crosses each new edge marked `1` and never one marked `0`.
  abbrev pub MarksHold : Given → ℕ → Bytes → Type (ℓ ⊔ κ)
  MarksHold g i marks =
      (m : Meaning St Out) (s : St) → Ends g.old m s → ExactFor g.old m s (coverage_at g.suite i)
      → ((e' : ℕ) → e' < edge_count g.new → get_or marks e' 0 ≡ 49 → Crosses g.new m s e')
      × ((e' : ℕ) → e' < edge_count g.new → get_or marks e' 0 ≡ 48 → Crosses g.new m s e' → ⊥)

  -- Where a run has ended after k steps, it ends, and a coverage is exact for it just if it holds the edges that these steps cross and no other.
  abbrev pub EndedRuns : Type (ℓ ⊔ κ)
  EndedRuns =
      (p : Program) (m : Meaning St Out) (s : St) (k : ℕ) (c : Config St Out) → run p m k (start p s) ≡ some c → ended p c ≡ true
      → Ends p m s × ((coverage : Coverage) → ExactFor p m s coverage ↔ ((e : ℕ) → e < edge_count p → holds coverage e ≡ has (trail p m k (start p s)) e))

  -- Demand 3, entire, of the texts of a job.
  pub record Demand3 (old new tests : Bytes) : Type (ℓ ⊔ κ) where
    -- A sheet passes the check: every test with no R line on it goes the same.
    pub checker : (sheet : Bytes) → check_answer old new tests sheet ≡ passed
        → (g : Given) × (read_job old new tests ≡ accepted g) × ((i : ℕ) → i < test_count g.suite → left_off sheet (test_name g.suite i) ≡ true → RunsAlike g i)
    -- The sheet that the selector writes passes the check, and has at most 65,536 bytes.
    pub passes : (room : ℕ) (sheet : Bytes) → sheet_answer old new tests room ≡ wrote sheet → (check_answer old new tests sheet ≡ passed) × (length sheet ≤ max_bytes)
    -- A test with no R line on the selector's sheet is left off by the selector: it is not repeated.
    pub unlisted : (room : ℕ) (sheet : Bytes) → sheet_answer old new tests room ≡ wrote sheet → (g : Given) → read_job old new tests ≡ accepted g
        → (i : ℕ) → left_off sheet (test_name g.suite i) ≡ true → has (repeated g.old g.new g.suite.coverages) i ≡ false
    -- The record line of a test is its name, how many edges it crossed, and a mark for each new edge; if the selector leaves the test off, the marks are true, and in any case they may
    -- be relied on where the old run ended.
    pub marked : (i room : ℕ) (line : Bytes) → record_answer old new tests i room ≡ wrote line
        → (g : Given) × (read_job old new tests ≡ accepted g) × (marks : Bytes) × (length marks ≡ edge_count g.new)
        × (line ≡ text_of (v_text (test_name g.suite i) (crossed g.old (coverage_at g.suite i)) marks ∷ []))
        × (has (repeated g.old g.new g.suite.coverages) i ≡ false → MarksTrue g i marks) × MarksHold g i marks

  -- Demand 3, of the one number that an exported call returns and of the output that it leaves.
  pub record ExportedDemand3 (old new tests : Bytes) : Type (ℓ ⊔ κ) where
    -- `ry_check` returns 0: every test with no R line on the sheet goes the same.
    pub checker : (sheet : Bytes) (r : ℕ) → r ≡ packed (check_answer old new tests sheet) → r ≡ 0
        → (g : Given) × (read_job old new tests ≡ accepted g) × ((i : ℕ) → i < test_count g.suite → left_off sheet (test_name g.suite i) ≡ true → RunsAlike g i)
    -- `ry_sheet` returns a number below 4,294,967,296: it is how many bytes of a sheet stand at the front of the output, and for these `ry_check` returns 0.
    pub passes : (out out' : Bytes) (r : ℕ) → r ≡ packed (sheet_answer old new tests (length out)) → out' ≡ output_after (sheet_answer old new tests (length out)) out → r < 4294967296
        → (sheet : Bytes) × (sheet_answer old new tests (length out) ≡ wrote sheet) × (r ≡ length sheet) × (out' ≡ sheet ++ drop r out) × (packed (check_answer old new tests sheet) ≡ 0)
    -- A test with no R line among these bytes is left off by the selector: it is not repeated.
    pub unlisted : (out out' : Bytes) (r : ℕ) → r ≡ packed (sheet_answer old new tests (length out)) → out' ≡ output_after (sheet_answer old new tests (length out)) out → r < 4294967296
        → (g : Given) → read_job old new tests ≡ accepted g → (i : ℕ) → left_off (take r out') (test_name g.suite i) ≡ true → has (repeated g.old g.new g.suite.coverages) i ≡ false
    -- `ry_record` returns one below it: so many bytes of a record line, whose marks are true if the selector leaves the test off, and may be relied on where the old run ended.
    pub marked : (i : ℕ) (out out' : Bytes) (r : ℕ) → r ≡ packed (record_answer old new tests i (length out)) → out' ≡ output_after (record_answer old new tests i (length out)) out → r < 4294967296
        → (g : Given) × (read_job old new tests ≡ accepted g) × (marks : Bytes) × (length marks ≡ edge_count g.new)
        × (r ≡ length (text_of (v_text (test_name g.suite i) (crossed g.old (coverage_at g.suite i)) marks ∷ [])))
        × (out' ≡ text_of (v_text (test_name g.suite i) (crossed g.old (coverage_at g.suite i)) marks ∷ []) ++ drop r out)
        × (has (repeated g.old g.new g.suite.coverages) i ≡ false → MarksTrue g i marks) × MarksHold g i marks
