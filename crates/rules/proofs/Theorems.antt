-- The promises, proved, in the order of Promises.
use Rattle.rules.specs.Text.{Bytes}
use Rattle.std.specs.Prelude.{ℕ}
use Rattle.std.proofs.Common.{sym, ◌∙◌}
use Rattle.laws.specs.TestLaws.{same_test}
use Rattle.rules.specs.Run.{start}
use Rattle.rules.specs.Graph.{Program}
use Rattle.rules.specs.SuiteFile.{TestListing}
use Rattle.rules.specs.Job.{Request, Version}
use Rattle.rules.specs.Promises.{
  AlikeExact,
  AnswersPlain,
  BackExactly,
  CalleesExact,
  CheckRulesExact,
  ClaimsFalse,
  ClosingRulesExact,
  Demand2,
  Demand3,
  EndedRuns,
  ExportedDemand3,
  FormerExact,
  LabelShown,
  LabelsAnswered,
  LabelsMatch,
  LeftOffExact,
  LineAbove,
  LineMissing,
  LookupsExact,
  MeaningsFree,
  NumbersGiven,
  OtherBytesAlone,
  PassesExactly,
  ProgramLayout,
  ProgramPlaced,
  ProgramWellFormed,
  RecordShort,
  ProbesShort,
  RecordUnnamed,
  RequestsNumbered,
  SearchesExact,
  SqueezedExact,
  StoredSheetsPass,
  SuiteLayout,
  SuitePlaced,
  TextsRead,
  TextsRefused,
  TooLong,
  Unpacks,
  UnusedIgnored,
  WritesExactly,
  WrittenUnchanged,
}
use Rattle.rules.proofs.Ends.{ended_crosses}
use Rattle.rules.proofs.Answers as Answers
use Rattle.rules.proofs.BackLaws.{alone_by_parts, back_unchanged, programs_back}
use Rattle.rules.proofs.Checked as Checked
use Rattle.rules.proofs.ClosingLaws.{same_label_of, same_label_true}
use Rattle.rules.proofs.Closure.{exact}
use Rattle.rules.proofs.Exported.{exported, returned}
use Rattle.rules.proofs.JobLaws.{checked_texts, marked_texts, unlisted_texts}
use Rattle.rules.proofs.LabelLaws as LabelLaws
use Rattle.rules.proofs.Places.{listing_placed, label_part_lem, tests_placed}
use Rattle.rules.proofs.ProgramLaws.{read_well_formed}
use Rattle.rules.proofs.ReadBack.{written_passes}
use Rattle.rules.proofs.Refused as Refused
use Rattle.rules.proofs.Search.{search_exact}
use Rattle.rules.proofs.Selection.{selection_exact}
use Rattle.rules.proofs.SheetLayout.{check_exact}
use Rattle.rules.proofs.StoredSheets.{former_is}
use Rattle.rules.proofs.Words as Words
use Rattle.rules.proofs.WriteProgram.{reads_layout}
use Rattle.rules.proofs.WriteSuite.{reads_suite_layout}
use Rattle.rules.proofs.Written.{written_exactly}

-- ---- demand 1

pub answers_plain : (old new tests : Bytes) → AnswersPlain old new tests
answers_plain = Answers.plain_answers

pub unpacks : Unpacks
unpacks = returned

pub numbers_given : NumbersGiven
numbers_given = Answers.numbers_given

pub too_long : TooLong
too_long = Answers.too_long

pub texts_read : (old new tests : Bytes) → TextsRead old new tests
texts_read = Refused.texts_in_order

pub texts_refused : TextsRefused
texts_refused = Refused.texts_first

pub record_unnamed : RecordUnnamed
record_unnamed = Refused.no_test

pub requests_numbered : RequestsNumbered
requests_numbered = Refused.numbered

pub unused_ignored : (q : Request) (old new tests : Bytes) → UnusedIgnored q old new tests
unused_ignored = Refused.unused

pub writes_exactly : WritesExactly
writes_exactly = written_exactly

pub record_short : RecordShort
record_short = Answers.record_short

pub probes_short : ProbesShort
probes_short = Answers.probes_short

pub claims_false : ClaimsFalse
claims_false = Checked.claims_false

pub line_above : LineAbove
line_above = Checked.line_above

pub line_missing : LineMissing
line_missing = Checked.line_missing

pub labels_answered : (old new : Version) (tests : TestListing) (input : Bytes) (room : ℕ) → LabelsAnswered old new tests input room
labels_answered = Refused.labels_answered

-- ---- demand 2

pub program_layout : ProgramLayout
program_layout = reads_layout

pub program_well_formed : ProgramWellFormed
program_well_formed = read_well_formed

pub suite_layout : SuiteLayout
suite_layout = reads_suite_layout

pub program_placed : ProgramPlaced
program_placed = listing_placed

pub suite_placed : SuitePlaced
suite_placed = tests_placed

pub label_shown_lem : LabelShown
label_shown_lem = label_part_lem

pub lookups_exact : LookupsExact
lookups_exact text p e = Words.lookups p (read_well_formed text p e)

pub callees_exact : CalleesExact
callees_exact = Words.callees_exact

pub squeezed_exact : (s t : Bytes) → SqueezedExact s t
squeezed_exact = LabelLaws.squeezed_exact

pub labels_match : LabelsMatch
labels_match l l' = (same_label_true l l', same_label_of l l')

pub alike_exact : (old new : Program) → AlikeExact old new
alike_exact = Words.alike_exact

pub closing_rules_exact : ClosingRulesExact
closing_rules_exact old new p p' e e' = exact p p' (read_well_formed old p e) (read_well_formed new p' e')

pub demand2 : (old new tests : Bytes) → Demand2 old new tests
demand2 = selection_exact

pub searches_exact : SearchesExact
searches_exact old new p p' e e' = search_exact p p' (closing_rules_exact old new p p' e e')

pub written_unchanged : WrittenUnchanged
written_unchanged = back_unchanged

pub back_exactly : BackExactly
back_exactly = programs_back

pub other_bytes_alone : OtherBytesAlone
other_bytes_alone = alone_by_parts

-- ---- demand 3

pub passes_exactly : PassesExactly
passes_exactly = check_exact

pub former_exact : FormerExact
former_exact = former_is

pub stored_sheets_pass : StoredSheetsPass
stored_sheets_pass old new tests sheet e = (check_exact old new tests sheet).1 ((former_is old new tests sheet).0 e).passes

pub rules_exact : CheckRulesExact
rules_exact old new p p' e e' = Words.rules_exact p p' (read_well_formed old p e) (read_well_formed new p' e')

pub left_off_exact : LeftOffExact
left_off_exact = Words.left_off_exact

pub meanings_free {ℓ κ} : (St : Type ℓ) (Out : Type κ) → MeaningsFree St Out
meanings_free = Words.meanings_free

pub demand3 {ℓ κ} : (St : Type ℓ) (Out : Type κ) (old new tests : Bytes) → Demand3 St Out old new tests
demand3 St Out old new tests =
    record {
      checker = λ sheet e. checked_texts old new tests sheet e;
      passes = λ room sheet e. written_passes old new tests room sheet e;
      unlisted = λ room sheet e g r i l. unlisted_texts old new tests room sheet e g r i l;
      marked = λ i room line e. marked_texts old new tests i room line e;
    }

pub ended_runs {ℓ κ} : (St : Type ℓ) (Out : Type κ) → EndedRuns St Out
ended_runs St Out p m s k c r t = (
  (k, c, r, t),
  λ coverage. (
    λ x e h. same_test _ _ (λ u. let v = (x e h).0 u in ended_crosses p m k v.0 (start p s) c r t e v.1) (λ u. (x e h).1 (k, u)),
    λ x e h. (λ u. (k, sym (x e h) ∙ u), λ v. x e h ∙ ended_crosses p m k v.0 (start p s) c r t e v.1),
  ),
)

pub exported_demand3 {ℓ κ} : (St : Type ℓ) (Out : Type κ) (old new tests : Bytes) → ExportedDemand3 St Out old new tests
exported_demand3 St Out old new tests = exported St Out old new tests (demand3 St Out old new tests) (answers_plain old new tests)
