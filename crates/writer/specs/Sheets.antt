-- The sheet, the probes and the record lines: what they are written from, and what the writers answer and leave.
use Rattle.std.specs.Prelude.{◌≡◌, List, [], ◌∷◌, ℕ, ◌≤◌, ◌<◌, length, take}
use Rattle.std.proofs.Common.{le-ltb}
use Rattle.laws.specs.Tests.{has}
use Rattle.laws.specs.Lists.{choose_no}
use Rattle.laws.specs.Bits.{bit_in}
use Rattle.rules.specs.Text.{Bytes, accepted, max_bytes, text_of}
use Rattle.rules.specs.Graph.{Program, edge_count, node_count}
use Rattle.rules.specs.Closing.{dangers, pairs}
use Rattle.rules.specs.SuiteFile.{TestListing, coverage_at, read_tests, test_count, test_name}
use Rattle.rules.specs.Sheet.{marks_of, record_text, selected, sheet_text, v_text}
use Rattle.rules.specs.Job.{Given, writing, written}
use Rattle.answer.specs.Refusals.{Answer}
use Rattle.answer.specs.Outcomes.{Told}
use Rattle.text.specs.Puts.{Puts}
use Rattle.coverage.specs.Rows.{row_ones}
use Rattle.suite.specs.Tables.{Holds}
use Rattle.versions.specs.PairsHeld.{PairsHeld}
use Rattle.writer.specs.Texts.{edge_text, short_name}

-- ---- answers

-- Where the pairs are not too many, 16 alone is judged.
pub writing_written : (limit over : ℕ) (g : Given) (room : ℕ) (b : Bytes) → length (pairs g.old g.new) ≤ limit → writing limit over g room b ≡ written room b
unfolding writing
writing_written limit over g room b h = choose_no _ _ (le-ltb limit (length (pairs g.old g.new)) h)

-- `write_text`: the text written, or refused and nothing changed.
pub record TextWritten (text o : Bytes) (r : Answer) (o' : Bytes) : Type 0 where
  pub told : Told (written (length o) text) r o o'
  pub size : length o' ≡ length o

-- ---- the sheet

-- A selection in memory: the table of the pairs and their number; the numbers of old nodes, new nodes and old edges; the set of the dangerous edges; the tests' text and
-- tables, and their number.
pub record Selection : Type 0 where
  pub table : List ℕ
  pub pair_count : ℕ
  pub olds : ℕ
  pub news : ℕ
  pub set : List ℕ
  pub edges : ℕ
  pub text : Bytes
  pub tests : List ℕ
  pub rows : List ℕ
  pub tested : ℕ

abbrev pub selection : List ℕ → ℕ → ℕ → ℕ → List ℕ → ℕ → Bytes → List ℕ → List ℕ → ℕ → Selection
selection w c a b d e t i r n = record { table = w; pair_count = c; olds = a; news = b; set = d; edges = e; text = t; tests = i; rows = r; tested = n }

-- The selector's sheet of two programs and the tests that were read.
abbrev pub sheet_of : Program → Program → TestListing → Bytes
sheet_of old new l = sheet_text l.suite.names (selected old new l.suite.coverages)

-- The selection is that of two programs and the tests that were read, whose sheet is within the limit on bytes.
pub record Selects (old new : Program) (l : TestListing) (s : Selection) : Type 0 where
  pub old_nodes : s.olds ≡ node_count old
  pub new_nodes : s.news ≡ node_count new
  pub old_edges : s.edges ≡ edge_count old
  pub held : PairsHeld old new s.table s.pair_count
  pub dangerous : (e : ℕ) → e < 1024 → bit_in s.set e ≡ has (dangers old new) e
  pub suite_read : read_tests s.edges s.text ≡ accepted l
  pub suite_held : Holds s.edges s.tests s.rows s.tested l
  pub short : length (sheet_of old new l) ≤ max_bytes

-- `put_sheet`: the bytes of the sheet, from the front on. For what is no selection of two programs the bytes are left open.
unfoldable pub SheetPuts : Selection → List ℕ → ℕ → List ℕ → Type 0
SheetPuts s o r o' = (old new : Program) (l : TestListing) → Selects old new l s → Puts o 0 (sheet_of old new l) r o'

pub record SheetPut (s : Selection) (o : List ℕ) (r : ℕ) (o' : List ℕ) : Type 0 where
  pub puts : SheetPuts s o r o'
  pub size : length o' ≡ length o

-- `write_sheet`: the sheet written, or refused and nothing changed. For what is no selection answer and bytes are left open.
unfoldable pub SheetWrites : Selection → List ℕ → Answer → List ℕ → Type 0
SheetWrites s o r o' = (old new : Program) (l : TestListing) → Selects old new l s → Told (written (length o) (sheet_of old new l)) r o o'

pub record SheetWritten (s : Selection) (o : List ℕ) (r : Answer) (o' : List ℕ) : Type 0 where
  pub writes : SheetWrites s o r o'
  pub size : length o' ≡ length o

-- ---- probes

-- `write_probes`: the Q lines of the edges that the set has, written, or refused and nothing changed.
abbrev pub ProbesWritten : List ℕ → ℕ → List ℕ → Answer → List ℕ → Type 0
ProbesWritten set edges = TextWritten (edge_text 81 set edges)

-- ---- record lines

-- The line that the tables give for the test i, with marks for `edges` new edges.
unfoldable pub record_line : Bytes → List ℕ → List ℕ → ℕ → Bytes → ℕ → Bytes
record_line text tests rows i marks edges = text_of (v_text (short_name text tests i) (row_ones rows i) (take edges marks) ∷ [])

-- The tables hold the tests that were read, i is one of them, and the marks are its marks.
pub record Marked (old new : Program) (l : TestListing) (text : Bytes) (tests rows : List ℕ) (i : ℕ) (marks : Bytes) (edges : ℕ) : Type 0 where
  pub few : edge_count old ≤ 1024
  pub new_edges : edges ≡ edge_count new
  pub suite_read : read_tests (edge_count old) text ≡ accepted l
  pub suite_held : Holds (edge_count old) tests rows (test_count l.suite) l
  pub is_test : i < test_count l.suite
  pub marked : take edges marks ≡ marks_of old new (coverage_at l.suite i) (edge_count new)

-- The record line of the test i, of two programs and the tests that were read.
abbrev pub record_of : Program → Program → TestListing → ℕ → Bytes
record_of old new l i = record_text old new (test_name l.suite i) (coverage_at l.suite i)

-- `write_record`: the record line written, or refused and nothing changed. For tables that hold no such test and marks answer and bytes are left open.
unfoldable pub RecordWrites : Bytes → List ℕ → List ℕ → ℕ → Bytes → ℕ → List ℕ → Answer → List ℕ → Type 0
RecordWrites text tests rows i marks edges o r o' =
    (old new : Program) (l : TestListing) → Marked old new l text tests rows i marks edges → Told (written (length o) (record_of old new l i)) r o o'

pub record RecordWritten (text : Bytes) (tests rows : List ℕ) (i : ℕ) (marks : Bytes) (edges : ℕ) (o : List ℕ) (r : Answer) (o' : List ℕ) : Type 0 where
  pub writes : RecordWrites text tests rows i marks edges o r o'
  pub size : length o' ≡ length o
