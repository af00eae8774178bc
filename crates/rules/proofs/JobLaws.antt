-- Demand 3 over the texts of a job: of any sheet that passes the check, and of the sheet and the marks that the selector writes.
use Rattle.std.specs.Prelude.{◌≡◌, Bool, ℕ, zero, suc, ◌≤◌, ◌<◌, length, get_or}
use Rattle.std.proofs.Math.Path.{refl, sym, ap, subst}
use Rattle.std.proofs.Common.{◌∙◌, ⊎_elim, true≢false, arith, eqb-true, eq-eqb, ltb-true, ltb-false}
use Rattle.std.proofs.Math.Bool.{true, false}
use Rattle.std.proofs.Math.Option.{Option, none, some}
use mathlib.Core.List.{List, [], ◌∷◌, ◌++◌}
use Rattle.laws.specs.Tests.{◌and◌, isnt, has, after, choose}
use Rattle.laws.specs.TestLaws.{none_has, one_has, and_left, isnt_true, both_ways, fails, first_at, has_append, below_suc}
use Rattle.laws.specs.Lists.{choose_yes, snoc_length, snoc_old, snoc_new}
use Rattle.rules.specs.Text.{Bytes, same, bytes, max_pairs, lines_of, fields_of, commas, text_of, is_name, is_number, Reading, refused, accepted, unless}
use Rattle.rules.specs.Graph.{Program, WellFormed, edge_count}
use Rattle.rules.specs.ProgramFile.{read_program}
use Rattle.rules.specs.SuiteFile.{Suite, test_count, test_name, coverage_at, read_suite}
use Rattle.rules.specs.Closing.{pairs, repeated, Coverage, Mark, mark_0, mark_1, mark_?, mark}
use Rattle.rules.specs.Sheet.{Sheet, selected, r_text, sheet_text, mark_byte, marks_of, crossed, v_text, record_text, among, left_off, SheetLine, head_line, m_line, d_line, r_line, end_line, no_form, sheet_form, SheetRead, no_sheet, all_below, test_of, going, add_r, take_sheet_line, step_sheet, finish_sheet, read_sheet}
use Rattle.rules.specs.Check.{broken}
use Rattle.rules.specs.Job.{Given, read_job, Outcome, wrote, refusal, passed, outcome, writing, written, sheet_bytes, record_bytes, sheet_answer, record_answer, judged, check_answer, serving, answering}
use Rattle.rules.specs.Promises.{MarksHold, MarksTrue, RunsAlike}
use Rattle.rules.proofs.Lockstep.{checked}
use Rattle.rules.proofs.Marks.{marks_hold, marks_true}
use Rattle.rules.specs.Kept.{Sound}
use Rattle.rules.proofs.ProgramLaws.{read_sound, read_well_formed}
use Rattle.rules.proofs.SheetLaws.{among_append, among_later, among_here, sheet_lines_lem, r_written}
use Rattle.rules.specs.Kept.{SoundSuite}
use Rattle.rules.proofs.SuiteLaws.{suite_sound}
use Rattle.rules.proofs.TextLaws.{same_true, unless_accepted, accepted_same, then_accepted, join_split, text_holds}

-- ---- what a job's texts give

-- The parts of a job that was read, with what is known of them.
pub record Known (old new tests : Bytes) (g : Given) : Type 0 where
  pub reads_old : read_program old ≡ accepted g.old
  pub reads_new : read_program new ≡ accepted g.new
  pub reads_tests : read_suite (edge_count g.old) tests ≡ accepted g.suite
  pub old_formed : WellFormed g.old
  pub new_formed : WellFormed g.new
  pub old_sound : Sound g.old
  pub new_sound : Sound g.new
  pub suite_sound : SoundSuite (edge_count g.old) g.suite

pub known : (old new tests : Bytes) (g : Given) → read_job old new tests ≡ accepted g → Known old new tests g
unfolding read_job
known old new tests g e =
    let u = then_accepted _ _ _ e in
    let v = then_accepted _ _ _ u.2 in
    let w = then_accepted _ _ _ v.2 in
    subst (λ (g : Given). Known old new tests g) (accepted_same w.2)
    (record {
      reads_old = u.1;
      reads_new = v.1;
      reads_tests = w.1;
      old_formed = read_well_formed old u.0 u.1;
      new_formed = read_well_formed new v.0 v.1;
      old_sound = (read_sound old u.0 u.1).0;
      new_sound = (read_sound new v.0 v.1).0;
      suite_sound = suite_sound (edge_count u.0) tests w.0 w.1;
    })

-- Bytes that were written behind a reading.
pub outcome_wrote : {A : Type 0} (a : Reading A) (f : A → Outcome) (b : Bytes) → outcome a f ≡ wrote b → (x : A) × (a ≡ accepted x) × (f x ≡ wrote b)
unfolding outcome
outcome_wrote (refused k p) f b e = absurd (true≢false (let z : true ≡ false = cc in z))
outcome_wrote (accepted x) f b e = (x, refl, e)

-- A choice between a refusal and something written.
choose_wrote : (t : Bool) (k p : ℕ) (o : Outcome) (b : Bytes) → choose t (refusal k p) o ≡ wrote b → (t ≡ false) × (o ≡ wrote b)
unfolding choose
choose_wrote true k p o b e = absurd (true≢false (let z : true ≡ false = cc in z))
choose_wrote false k p o b e = (refl, e)

pub wrote_choose : (t : Bool) (k p : ℕ) (o : Outcome) (b : Bytes) → choose t o (refusal k p) ≡ wrote b → (t ≡ true) × (o ≡ wrote b)
unfolding choose
wrote_choose true k p o b e = (refl, e)
wrote_choose false k p o b e = absurd (true≢false (let z : true ≡ false = cc in z))

pub wrote_same : {b c : Bytes} → wrote b ≡ wrote c → b ≡ c
wrote_same e = cc

-- What is written is no refusal.
pub never_wrote : {b : Bytes} {k p : ℕ} → wrote b ≡ refusal k p → ⊥
never_wrote e = true≢false (let z : true ≡ false = cc in z)

-- Something was written: not too many pairs, room enough, and these are the bytes.
pub written_wrote : (room : ℕ) (b c : Bytes) → written room b ≡ wrote c → (length b ≤ room) × (b ≡ c)
unfolding written
written_wrote room b c e = let v = choose_wrote _ _ _ _ _ e in (ltb-false _ _ v.0, wrote_same v.1)

pub writing_wrote : (limit over : ℕ) (g : Given) (room : ℕ) (b c : Bytes) → writing limit over g room b ≡ wrote c → (length (pairs g.old g.new) ≤ limit) × (length b ≤ room) × (b ≡ c)
unfolding writing
writing_wrote limit over g room b c e =
    let u = choose_wrote _ _ _ _ _ e in
    let v = written_wrote room b c u.1 in
    (ltb-false _ _ u.0, v.0, v.1)

-- ---- R lines of a sheet that was read

-- The fields of an R line.
r_two : (f a name : Bytes) (t u v : Bool) → (same f (bytes "R") and is_name a) ≡ v → choose t head_line (choose u (d_line a) (choose v (r_line a) no_form)) ≡ r_line name
    → f ∷ a ∷ [] ≡ bytes "R" ∷ name ∷ []
unfolding choose
r_two f a name true u v h e = absurd (true≢false (let z : true ≡ false = cc in z))
r_two f a name false true v h e = absurd (true≢false (let z : true ≡ false = cc in z))
r_two f a name false false true h e =
    let p : f ≡ bytes "R" = same_true f (bytes "R") (and_left _ _ h) in
    let q : a ≡ name = cc in
    cc
r_two f a name false false false h e = absurd (true≢false (let z : true ≡ false = cc in z))

not_r : (t : Bool) (x : SheetLine) (name : Bytes) → (x ≡ r_line name → ⊥) → choose t x no_form ≡ r_line name → ⊥
unfolding choose
not_r true x name h e = h e
not_r false x name h e = true≢false (let z : true ≡ false = cc in z)

r_form : (fs : List Bytes) (name : Bytes) → sheet_form fs ≡ r_line name → fs ≡ bytes "R" ∷ name ∷ []
unfolding sheet_form
r_form [] name e = absurd (true≢false (let z : true ≡ false = cc in z))
r_form (f ∷ []) name e = absurd (true≢false (let z : true ≡ false = cc in z))
r_form (f ∷ a ∷ []) name e =
    r_two f a name (same f (bytes "sheet") and same a (bytes "1")) (same f (bytes "D") and is_number a) (same f (bytes "R") and is_name a) refl e
r_form (f ∷ a ∷ b ∷ []) name e = absurd (not_r _ _ name (λ k. true≢false (let z : true ≡ false = cc in z)) e)
r_form (f ∷ a ∷ b ∷ c ∷ []) name e = absurd (not_r _ _ name (λ k. true≢false (let z : true ≡ false = cc in z)) e)
r_form (f ∷ a ∷ b ∷ c ∷ d ∷ ds) name e = absurd (true≢false (let z : true ≡ false = cc in z))

module _ (limit : ℕ) (old new : Program) (suite : Suite) where
  -- Each test that was read as listed has its R line among the lines.
  abbrev Lines : List Bytes → SheetRead → Type 0
  Lines ls s = (i : ℕ) → has s.claims.R i ≡ true → among ls (r_text (test_name suite i)) ≡ true

  found_name : (name : Bytes) (i : ℕ) → test_of suite name ≡ some i → test_name suite i ≡ name
  unfolding test_of
  found_name name i e = same_true _ _ (first_at (λ i. same (test_name suite i) name) (test_count suite) i e).1

  lines_r : (n : ℕ) (ls : List Bytes) (s : SheetRead) (l name : Bytes) (t : SheetRead) (o : Option ℕ) → l ≡ r_text name → test_of suite name ≡ o → Lines ls s
      → after o (refused 11 n) (λ i. unless (isnt (going s and all_below s.claims.R i)) 11 n (accepted (add_r i s))) ≡ accepted t → Lines (ls ++ (l ∷ [])) t
  lines_r n ls s l name t none f q h e = absurd (true≢false (let z : true ≡ false = cc in z))
  lines_r n ls s l name t (some j) f q h e =
      let u = unless_accepted _ _ _ _ _ e in
      subst (λ (t : SheetRead). Lines (ls ++ (l ∷ [])) t) (accepted_same u.1)
      (λ i k.
      ⊎_elim (λ p. among_append ls (l ∷ []) _ (h i p)) (λ p.
      let a : j ≡ i = one_has j i p in
      let b : l ≡ r_text (test_name suite i) = f ∙ ap r_text (sym (found_name name j q) ∙ ap (test_name suite) a) in
      among_later ls (l ∷ []) _ (subst (λ (m : Bytes). among (m ∷ []) (r_text (test_name suite i)) ≡ true) (sym b) (among_here (r_text (test_name suite i)) [])))
      (has_append s.claims.R (j ∷ []) i k))

  lines_step : (n : ℕ) (ls : List Bytes) (s : SheetRead) (l : Bytes) (x : SheetLine) (t : SheetRead) → ((name : Bytes) → x ≡ r_line name → l ≡ r_text name)
      → Lines ls s → take_sheet_line limit old new suite n s x ≡ accepted t → Lines (ls ++ (l ∷ [])) t
  unfolding take_sheet_line
  lines_step n ls s l head_line t f h e =
      let u = unless_accepted _ _ _ _ _ e in
      subst (λ (t : SheetRead). Lines (ls ++ (l ∷ [])) t) (accepted_same u.1) (λ i k. among_append ls (l ∷ []) _ (h i k))
  lines_step n ls s l (m_line a b) t f h e =
      let u = unless_accepted _ _ _ _ _ e in
      let v = unless_accepted _ _ _ _ _ u.1 in
      subst (λ (t : SheetRead). Lines (ls ++ (l ∷ [])) t) (accepted_same v.1) (λ i k. among_append ls (l ∷ []) _ (h i k))
  lines_step n ls s l (d_line a) t f h e =
      let u = unless_accepted _ _ _ _ _ e in
      subst (λ (t : SheetRead). Lines (ls ++ (l ∷ [])) t) (accepted_same u.1) (λ i k. among_append ls (l ∷ []) _ (h i k))
  lines_step n ls s l (r_line name) t f h e = lines_r n ls s l name t (test_of suite name) (f name refl) refl h e
  lines_step n ls s l (end_line a b c) t f h e =
      let u = unless_accepted _ _ _ _ _ e in
      subst (λ (t : SheetRead). Lines (ls ++ (l ∷ [])) t) (accepted_same u.1) (λ i k. among_append ls (l ∷ []) _ (h i k))
  lines_step n ls s l no_form t f h e = absurd (true≢false (let z : true ≡ false = cc in z))

  lines_kept : (n at : ℕ) (ls : List Bytes) (s : SheetRead) (l : Bytes) (t : SheetRead) → Lines ls s → step_sheet limit old new suite n at s l ≡ accepted t → Lines (ls ++ (l ∷ [])) t
  unfolding step_sheet r_text
  lines_kept n at ls s l t h e = lines_step n ls s l (sheet_form (fields_of l)) t (λ name k. sym (join_split 44 l) ∙ ap commas (r_form (fields_of l) name k)) h e

  -- A test that a sheet's reading lists has an R line in its text.
  pub r_lines : (text : Bytes) (s : Sheet) → read_sheet limit old new suite text ≡ accepted s → (i : ℕ) → has s.R i ≡ true → among (lines_of text) (r_text (test_name suite i)) ≡ true
  unfolding read_sheet finish_sheet
  r_lines text s e i h =
      let r = text_holds (step_sheet limit old new suite) finish_sheet Lines lines_kept text no_sheet s (λ i k. absurd (none_has i k)) e in
      let u = unless_accepted _ _ _ _ _ r.finishes in
      subst (λ (ps : List Bytes). among ps (r_text (test_name suite i)) ≡ true) (sym r.taken)
      (among_append r.lines ([] ∷ []) _ (r.holds i (subst (λ (c : Sheet). has c.R i ≡ true) (sym (accepted_same u.1)) h)))

-- ---- demand 3, the checker's half

-- What a passed check says: the texts give programs and tests, the sheet's text gives claims, and these break no rule.
pub record Passed (old new tests sheet : Bytes) : Type 0 where
  pub given : Given
  pub reads : read_job old new tests ≡ accepted given
  pub claims : Sheet
  pub reads_sheet : read_sheet max_pairs given.old given.new given.suite sheet ≡ accepted claims
  pub unbroken : broken given.old given.new given.suite.coverages claims ≡ 0

pub check_passed : (old new tests sheet : Bytes) → check_answer old new tests sheet ≡ passed → Passed old new tests sheet
unfolding answering serving judged
check_passed old new tests sheet e =
    let u = outcome_wrote _ _ _ e in
    let v = outcome_wrote _ _ _ u.2 in
    record { given = u.0; reads = u.1; claims = v.0; reads_sheet = v.1; unbroken = eqb-true _ _ (wrote_choose _ _ _ _ _ v.2).0 }

pub passed_check : (old new tests sheet : Bytes) (g : Given) (s : Sheet) → read_job old new tests ≡ accepted g → read_sheet max_pairs g.old g.new g.suite sheet ≡ accepted s
    → broken g.old g.new g.suite.coverages s ≡ 0 → check_answer old new tests sheet ≡ passed
unfolding answering serving judged outcome
passed_check old new tests sheet g s a b c = rw (a, b) (choose_yes _ _ (eq-eqb _ _ c))

-- The check of a sheet passes. Then the texts give programs and tests, and every test with no R line on the sheet runs the same in both.
pub checked_texts {ℓ κ} : {St : Type ℓ} {Out : Type κ} (old new tests sheet : Bytes) → check_answer old new tests sheet ≡ passed
    → (g : Given) × (read_job old new tests ≡ accepted g) × ((i : ℕ) → i < test_count g.suite → left_off sheet (test_name g.suite i) ≡ true → RunsAlike St Out g i)
unfolding left_off
checked_texts old new tests sheet e =
    let p = check_passed old new tests sheet e in
    let g = p.given in
    let n = known old new tests g p.reads in (
      g,
      p.reads,
      λ i h l m s k c ran crossed.
          checked g.old g.new n.old_formed n.new_formed g.suite.coverages p.claims p.unbroken i (omega (arith, n.suite_sound.paired))
          (fails _ (λ t. both_ways (r_lines max_pairs g.old g.new g.suite sheet p.claims p.reads_sheet i t) (isnt_true _ l))) m s k c ran crossed,
    )

-- ---- demand 3, the selector's half

-- The marks written are the marks.
pub marks_length : (old new : Program) (c : Coverage) (n : ℕ) → length (marks_of old new c n) ≡ n
unfolding marks_of
marks_length old new c zero = refl
marks_length old new c (suc n) = snoc_length 0 (marks_of old new c n) (mark_byte (mark old new c n)) ∙ ap suc (marks_length old new c n)

pub marks_at : (old new : Program) (c : Coverage) (n e : ℕ) → e < n → get_or (marks_of old new c n) e 0 ≡ mark_byte (mark old new c e)
unfolding marks_of
marks_at old new c zero e h = absurd (let z : ⊥ = omega arith in z)
marks_at old new c (suc n) e h =
    let l = marks_length old new c n in
    ⊎_elim (λ k. snoc_old 0 (marks_of old new c n) _ e (omega arith) ∙ marks_at old new c n e k)
    (λ (k : e ≡ n).
    let q : e ≡ length (marks_of old new c n) = k ∙ sym l in
    subst (λ (i : ℕ). get_or (marks_of old new c n ++ (mark_byte (mark old new c n) ∷ [])) i 0 ≡ mark_byte (mark old new c n)) (sym q) (snoc_new 0 (marks_of old new c n) _)
    ∙ ap (λ (i : ℕ). mark_byte (mark old new c i)) (sym k))
    (below_suc e n h)

byte_one : (x : Mark) → mark_byte x ≡ 49 → x ≡ mark_1
unfolding mark_byte
byte_one mark_0 e = absurd (let z : ⊥ = omega arith in z)
byte_one mark_1 e = refl
byte_one mark_? e = absurd (let z : ⊥ = omega arith in z)

byte_zero : (x : Mark) → mark_byte x ≡ 48 → x ≡ mark_0
unfolding mark_byte
byte_zero mark_0 e = refl
byte_zero mark_1 e = absurd (let z : ⊥ = omega arith in z)
byte_zero mark_? e = absurd (let z : ⊥ = omega arith in z)

-- What a written sheet and a written record line are.
pub sheet_wrote : (old new tests : Bytes) (room : ℕ) (b : Bytes) → sheet_answer old new tests room ≡ wrote b
    → (g : Given) × (read_job old new tests ≡ accepted g) × (length (pairs g.old g.new) ≤ max_pairs) × (length b ≤ room) × (sheet_bytes g ≡ b)
unfolding answering serving
sheet_wrote old new tests room b e =
    let u = outcome_wrote _ _ _ e in
    let v = writing_wrote _ _ _ _ _ _ u.2 in
    (u.0, u.1, v.0, subst (λ (c : Bytes). length c ≤ room) v.2 v.1, v.2)

pub record_wrote : (old new tests : Bytes) (i room : ℕ) (b : Bytes) → record_answer old new tests i room ≡ wrote b
    → (g : Given) × (read_job old new tests ≡ accepted g) × (i < test_count g.suite) × (record_bytes g i ≡ b)
unfolding answering serving
record_wrote old new tests i room b e =
    let u = outcome_wrote _ _ _ e in
    let w = wrote_choose _ _ _ _ _ u.2 in
    let v = writing_wrote _ _ _ _ _ _ w.1 in
    (u.0, u.1, ltb-true _ _ w.0, v.2)

-- A test with no R line on the selector's sheet is not repeated.
not_repeated : (g : Given) → SoundSuite (edge_count g.old) g.suite → (i : ℕ) → left_off (sheet_bytes g) (test_name g.suite i) ≡ true
    → has (repeated g.old g.new g.suite.coverages) i ≡ false
unfolding left_off sheet_bytes sheet_text selected
not_repeated g h i l =
    fails _ (λ t.
    both_ways
    (subst (λ (ps : List Bytes). among ps (r_text (test_name g.suite i)) ≡ true) (sym (sheet_lines_lem _ g.suite h (selected g.old g.new g.suite.coverages)))
    (among_append _ ([] ∷ []) _ (r_written g.suite.names (selected g.old g.new g.suite.coverages) i t))) (isnt_true _ l))

-- The selector writes a sheet, and a test has no R line on it: then it is not repeated.
pub unlisted_texts : (old new tests : Bytes) (room : ℕ) (sheet : Bytes) → sheet_answer old new tests room ≡ wrote sheet → (g : Given) → read_job old new tests ≡ accepted g
    → (i : ℕ) → left_off sheet (test_name g.suite i) ≡ true → has (repeated g.old g.new g.suite.coverages) i ≡ false
unlisted_texts old new tests room sheet a g e i l =
    let u = sheet_wrote old new tests room sheet a in
    let written : sheet ≡ sheet_bytes g = sym u.4 ∙ ap sheet_bytes (accepted_same (sym u.1 ∙ e)) in
    not_repeated g (known old new tests g e).suite_sound i (subst (λ (b : Bytes). left_off b (test_name g.suite i) ≡ true) written l)

-- The record line of a test is written. Then the texts give programs and tests, and the line is the test's name, how many edges it crossed, and a mark for each new edge; if the test is
-- not repeated, the marks are true, and in any case they may be relied on where the old run ended.
pub marked_texts {ℓ κ} : {St : Type ℓ} {Out : Type κ} (old new tests : Bytes) (i room : ℕ) (line : Bytes) → record_answer old new tests i room ≡ wrote line
    → (g : Given) × (read_job old new tests ≡ accepted g) × (marks : Bytes) × (length marks ≡ edge_count g.new)
    × (line ≡ text_of (v_text (test_name g.suite i) (crossed g.old (coverage_at g.suite i)) marks ∷ []))
    × (has (repeated g.old g.new g.suite.coverages) i ≡ false → MarksTrue St Out g i marks) × MarksHold St Out g i marks
unfolding record_bytes record_text
marked_texts old new tests i room line b =
    let v = record_wrote old new tests i room line b in
    let g = v.0 in
    let n = known old new tests g v.1 in
    let marks : Bytes = marks_of g.old g.new (coverage_at g.suite i) (edge_count g.new) in (
      g,
      v.1,
      marks,
      marks_length g.old g.new (coverage_at g.suite i) (edge_count g.new),
      sym v.3,
      λ left m s k c ran crossed.
          let t = marks_true g.old g.new n.old_formed n.new_formed g.suite.coverages i (omega (arith, n.suite_sound.paired, v.2)) left m s k c ran crossed in (
            t.0,
            t.1,
            t.2,
            λ e' h o. t.3 e' (byte_one _ (sym (marks_at g.old g.new (coverage_at g.suite i) (edge_count g.new) e' h) ∙ o)),
            λ e' h o. t.4 e' (byte_zero _ (sym (marks_at g.old g.new (coverage_at g.suite i) (edge_count g.new) e' h) ∙ o)),
            λ f e' h o. t.5 f e' (byte_zero _ (sym (marks_at g.old g.new (coverage_at g.suite i) (edge_count g.new) e' h) ∙ o)),
          ),
      λ m s ends exact.
          let t = marks_hold g.old g.new n.old_formed n.new_formed (coverage_at g.suite i) m s ends exact in (
            λ e' h o. t.0 e' (byte_one _ (sym (marks_at g.old g.new (coverage_at g.suite i) (edge_count g.new) e' h) ∙ o)),
            λ e' h o. t.1 e' (byte_zero _ (sym (marks_at g.old g.new (coverage_at g.suite i) (edge_count g.new) e' h) ∙ o)),
          ),
    )
