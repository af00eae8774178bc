-- What the reader of sheets keeps while it reads, and what its inner functions claim.
use Rattle.std.specs.Prelude.{◌≡◌, Bool, true, false, List, ◌∷◌, ℕ, ◌+◌, ◌*◌, ◌≤◌, ◌<◌, eqb, leb, ltb, length, min, Result, Ok, Err, IfOk}
use Rattle.laws.specs.Tests.{◌and◌, first, found, isnt}
use Rattle.laws.specs.Bits.{bit_in}
use Rattle.rules.specs.Text.{Reading, Bytes, accepted, bytes, is_number, lines_of, read_lines, refused, same, value}
use Rattle.rules.specs.Graph.{Program, edge_count, node_count}
use Rattle.rules.specs.SuiteFile.{Suite}
use Rattle.rules.specs.Sheet.{SheetRead, all_below, finish_sheet, head_line, no_sheet, pairs_before, sheet_form, step_sheet, take_sheet_line}
use Rattle.pairset.specs.Store.{Store}
use Rattle.suite.specs.Reading.{name_at}
use Rattle.suite.specs.Tables.{Tests}
use Rattle.sheet_reader.specs.declared.Bounds.{Bounds}
use Rattle.answer.specs.declared.Fault.TheVariants.{LineMalformed, SheetWrong, TooManyLines}
use Rattle.answer.specs.declared.Refusal.{Refusal}
use Rattle.answer.specs.Refusals.{number_in, place_in}
use Rattle.sheet_reader.specs.declared.Stage.{Stage}
use Rattle.sheet_reader.specs.declared.Stage.TheVariants.{Before, Listing, Ended}
use Rattle.sheet_reader.specs.declared.State.{State}
use Rattle.sheet_reader.specs.Claims.{ClaimsHeld, For, Told}

-- ---- refusals of the line n

abbrev pub malformed : ℕ → Refusal
malformed n = record { fault = LineMalformed; place = n }

abbrev pub wrong : ℕ → Refusal
wrong n = record { fault = SheetWrong; place = n }

abbrev pub too_many : ℕ → Refusal
too_many n = record { fault = TooManyLines; place = n }

-- ---- what was read so far

-- Whether the first line was read, and whether the last was.
abbrev pub opened : Stage → Bool
opened Before = false
opened Listing = true
opened Ended = true

abbrev pub shut : Stage → Bool
shut Before = false
shut Listing = false
shut Ended = true

-- k is the least number that stands behind the whole list; the same of pairs, where (a, b) counts as 512 a + b.
unfoldable pub UpTo : List ℕ → ℕ → Type 0
UpTo l k = (v : ℕ) → all_below l v ≡ leb k v

unfoldable pub PairsUpTo : List (ℕ × ℕ) → ℕ → Type 0
PairsUpTo l k = (a b : ℕ) → b < 512 → pairs_before l a b ≡ leb k (512 * a + b)

-- What a sheet may list is within what the tables have room for.
pub record Bounded (b : Bounds) : Type 0 where
  pub few_pairs : b.limit ≤ 4096
  pub few_olds : b.olds ≤ 512
  pub few_news : b.news ≤ 512
  pub few_edges : b.edges ≤ 1024

-- The numbers are within their limits.
pub record Small (c : State) : Type 0 where
  pub few_pairs : c.pairs ≤ 4096
  pub low_pair : c.pair ≤ 262144
  pub few_edges : c.edges ≤ c.edge
  pub low_edge : c.edge ≤ 1024
  pub few_tests : c.tests ≤ c.test
  pub low_test : c.test ≤ 200

-- The state and the tables hold what was read.
pub record Holds (w sets : List ℕ) (c : State) (s : SheetRead) : Type 0 where
  pub opened_is : opened c.stage ≡ s.opened
  pub shut_is : shut c.stage ≡ s.shut
  pub pairs_n : c.pairs ≡ length s.claims.M
  pub edges_n : c.edges ≡ length s.claims.D
  pub tests_n : c.tests ≡ length s.claims.R
  pub pair_next : PairsUpTo s.claims.M c.pair
  pub edge_next : UpTo s.claims.D c.edge
  pub test_next : UpTo s.claims.R c.test
  pub held : ClaimsHeld w sets c.pairs s.claims

-- An answer, the state or a refusal, against the definition's. What the tables hold after a refusal is left open.
abbrev pub After : Reading SheetRead → Result State Refusal → List ℕ → List ℕ → Type 0
After (refused k p) r w sets = (number_in r ≡ k) × (place_in r ≡ p) × (0 < k)
After (accepted s) (Ok c) w sets = Holds w sets c s
After (accepted s) (Err e) w sets = ⊥

-- `nothing_read`
abbrev pub nothing_read : State
nothing_read = record { stage = Before; pairs = 0; edges = 0; tests = 0; pair = 0; edge = 0; test = 0 }

-- ---- names

-- `test_from`: 1 + the first of n tests, from the test k on, that has the name, or 0.
unfoldable pub test_from : Bytes → List ℕ → ℕ → ℕ → Bytes → ℕ
test_from tt table k n name = found (first n (λ i. leb k i and same (name_at tt table i) name))

-- ---- a line may stand here

-- The first line was read, and the last was not.
unfoldable pub underway : State → Bool
underway c = opened c.stage and isnt (shut c.stage)

unfoldable pub pair_fits : ℕ → ℕ → ℕ → ℕ → State → Bool
pair_fits olds news a b c = underway c and eqb c.edges 0 and eqb c.tests 0 and ltb a olds and ltb b news and leb c.pair (512 * a + b)

unfoldable pub edge_fits : ℕ → ℕ → State → Bool
edge_fits edges e c = underway c and eqb c.tests 0 and ltb e edges and leb c.edge e

unfoldable pub end_fits : ℕ → ℕ → ℕ → State → Bool
end_fits a b d c = underway c and eqb a c.pairs and eqb b c.edges and eqb d c.tests

-- ---- a line: whatever was read before it, the answer is the definition's

-- A number as it is kept: one above 65,536 counts as 65,536.
abbrev pub kept : Bytes → ℕ
kept ds = min (value ds) 65536

-- `field`: a number, or the line n is malformed.
abbrev pub Field : ℕ → Bytes → Result ℕ Refusal → Type 0
Field n s (Ok i) = (is_number s ≡ true) × (i ≡ kept s)
Field n s (Err e) = (is_number s ≡ false) × (e ≡ malformed n)

-- `open`
unfoldable pub Opens : ℕ → State → Result State Refusal → Type 0
Opens n c r = (limit : ℕ) (old new : Program) (suite : Suite) (s : SheetRead) (w sets : List ℕ) → Holds w sets c s → After (take_sheet_line limit old new suite n s head_line) r w sets

pub record Opened (n : ℕ) (c : State) (r : Result State Refusal) : Type 0 where
  pub opens : Opens n c r
  pub small : IfOk r Small

-- `pair_line` and `add_pair`; here and below ps are the fields behind the first.
unfoldable pub AddsPair : ℕ → ℕ → ℕ → ℕ → List Bytes → State → List ℕ → Result State Refusal → List ℕ → Type 0
AddsPair limit olds news n ps c w r w' =
    (old new : Program) (suite : Suite) (s : SheetRead) (sets : List ℕ) → olds ≡ node_count old → news ≡ node_count new → Holds w sets c s
    → After (take_sheet_line limit old new suite n s (sheet_form (bytes "M" ∷ ps))) r w' sets

pub record AddedPair (b : Bounds) (n : ℕ) (ps : List Bytes) (c : State) (w : List ℕ) (r : Result State Refusal) (w' : List ℕ) : Type 0 where
  pub adds : AddsPair b.limit b.olds b.news n ps c w r w'
  pub small : IfOk r Small

-- `add_edge`
unfoldable pub AddsEdge : ℕ → ℕ → List Bytes → State → List ℕ → Result State Refusal → List ℕ → Type 0
AddsEdge edges n ps c sets r sets' =
    (limit : ℕ) (old new : Program) (suite : Suite) (s : SheetRead) (w : List ℕ) → edges ≡ edge_count old → Holds w sets c s
    → After (take_sheet_line limit old new suite n s (sheet_form (bytes "D" ∷ ps))) r w sets'

pub record AddedEdge (edges n : ℕ) (ps : List Bytes) (c : State) (sets : List ℕ) (r : Result State Refusal) (sets' : List ℕ) : Type 0 where
  pub adds : AddsEdge edges n ps c sets r sets'
  pub small : IfOk r Small

-- `add_test`
unfoldable pub AddsTest : Bytes → List ℕ → ℕ → ℕ → List Bytes → State → List ℕ → Result State Refusal → List ℕ → Type 0
AddsTest tt table count n ps c sets r sets' =
    (limit olds news edges : ℕ) (old new : Program) (suite : Suite) (s : SheetRead) (w : List ℕ) → For olds news edges tt table count old new suite → Holds w sets c s
    → After (take_sheet_line limit old new suite n s (sheet_form (bytes "R" ∷ ps))) r w sets'

pub record AddedTest (tt : Bytes) (table : List ℕ) (count n : ℕ) (ps : List Bytes) (c : State) (sets : List ℕ) (r : Result State Refusal) (sets' : List ℕ) : Type 0 where
  pub adds : AddsTest tt table count n ps c sets r sets'
  pub small : IfOk r Small

-- `end_line` and `end`
unfoldable pub Ends : ℕ → List Bytes → State → Result State Refusal → Type 0
Ends n ps c r =
    (limit : ℕ) (old new : Program) (suite : Suite) (s : SheetRead) (w sets : List ℕ) → Holds w sets c s → After (take_sheet_line limit old new suite n s (sheet_form (bytes "end" ∷ ps))) r w sets

pub record AddedEnd (n : ℕ) (ps : List Bytes) (c : State) (r : Result State Refusal) : Type 0 where
  pub ends : Ends n ps c r
  pub small : IfOk r Small

-- `step`
unfoldable pub Steps : Bounds → Tests → ℕ → Bytes → State → List ℕ → List ℕ → Result State Refusal → List ℕ → List ℕ → Type 0
Steps b ts n line c w sets r w' sets' =
    (old new : Program) (suite : Suite) (s : SheetRead) (at : ℕ) → For b.olds b.news b.edges ts.text ts.names ts.count old new suite → Holds w sets c s
    → After (step_sheet b.limit old new suite n at s line) r w' sets'

pub record Stepped (b : Bounds) (ts : Tests) (n : ℕ) (line : Bytes) (c : State) (w sets : List ℕ) (r : Result State Refusal) (w' sets' : List ℕ) : Type 0 where
  pub steps : Steps b ts n line c w sets r w' sets'
  pub small : IfOk r Small

-- ---- all lines

-- `finish`: the last line was read, or one is missing.
unfoldable pub Finishes : ℕ → State → Result ℕ Refusal → Type 0
Finishes n c r = (s : SheetRead) (w sets : List ℕ) → Holds w sets c s → Told (finish_sheet n s) r w sets

-- The tables before the first line: no pair, and no bit set.
pub record Fresh (w sets : List ℕ) : Type 0 where
  pub store : Store w 0
  pub clear : (e : ℕ) → bit_in sets e ≡ false

-- `read_lines`
unfoldable pub Lines : Bounds → Tests → Bytes → List ℕ → List ℕ → Result ℕ Refusal → List ℕ → List ℕ → Type 0
Lines b ts sheet w sets r w' sets' =
    (old new : Program) (suite : Suite) → For b.olds b.news b.edges ts.text ts.names ts.count old new suite → Fresh w sets
    → Told (read_lines (step_sheet b.limit old new suite) finish_sheet 1 0 no_sheet (lines_of sheet)) r w' sets'
