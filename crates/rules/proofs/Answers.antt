-- Answers: which numbers each call gives; that number 0 is success, a number is at most the last, and a place and the bytes written are below 4,294,967,296, so that one number holds both.
use Rattle.std.specs.Prelude.{◌≡◌, refl, ◌↔◌, Bool, true, false, List, [], ◌∷◌, ◌++◌, map, ℕ, zero, suc, ◌+◌, ◌*◌, ◌≤◌, ◌<◌, eqb, length}
use Rattle.std.proofs.Common.{sym, ap, ◌∙◌, subst, true≢false, arith, length-append, leb-true}
use Rattle.laws.specs.Tests.{◌and◌, ◌or◌, choose, count, first_failed, has}
use Rattle.laws.specs.TestLaws.{and_left, and_right}
use Rattle.laws.specs.Counting.{count_few}
use Rattle.rules.specs.Text.{Reading, Bytes, accepted, between, bytes, decimal, join_by, max_pairs, refused, text_of, too_many}
use Rattle.rules.specs.Graph.{Program, edge_count}
use Rattle.rules.specs.ProgramFile.{read_program}
use Rattle.rules.specs.SuiteFile.{coverage_at, read_suite, test_name}
use Rattle.rules.specs.Closing.{Coverage, holds, probes}
use Rattle.rules.specs.Sheet.{Sheet, crossed, marks_of, probes_text, q_text, read_sheet, record_text, v_text}
use Rattle.rules.specs.Check.{broken, rule1, rule2, rule3, rule4, rule5}
use Rattle.rules.specs.Job.{Given, Outcome, Request, answering, by_side, check_sheet, check_answer, checking, judged, labelling, last_number, no_request, outcome, passed, probes_answer, probes_bytes, read_job, read_new_answer, read_old_answer, read_tests_answer, record_answer, record_bytes, refusal, serving, sheet_bytes, show_label, success, write_probes, write_back, write_record, write_sheet, writing, writing_back, written, wrote}
use Rattle.rules.specs.Layout.{write_program}
use Rattle.rules.specs.Promises.{AnswersPlain, NumbersGiven, Plain, TooLong, request_numbers}
use Rattle.rules.proofs.BackLaws.{back_short}
use Rattle.rules.proofs.Closure.{probes_few, probes_inside}
use Rattle.rules.proofs.JobLaws.{known, marks_length, outcome_wrote, record_wrote, writing_wrote, wrote_choose, wrote_same}
use Rattle.rules.proofs.Numbers.{Any, Good, Refusal, all_of, big, good_number, job_good, job_numbers, passes_of, program_good, program_long, program_numbers, sheet_good, sheet_long, sheet_numbers, suite_good, suite_long, suite_numbers}
use Rattle.rules.proofs.ReadBack.{ended_q, name_short, written_passes}
use Rattle.rules.proofs.TextLaws.{decimal_most}

-- ---- outcomes

-- A refusal with a number of ks, or something written.
abbrev Told : List ℕ → Outcome → Type 0
Told ks (wrote b) = Unit {0}
Told ks (refusal k p) = Refusal ks k p

-- What follows a reading, whose numbers are among those of the call.
outcome_told : {A : Type 0} (ks js : List ℕ) (a : Reading A) (f : A → Outcome) → all_of (has js) ks ≡ true → Good ks Any a → ((x : A) → Told js (f x)) → Told js (outcome a f)
unfolding outcome
outcome_told ks js (refused k p) f s h n = (passes_of (has js) ks k s h.0, h.1)
outcome_told ks js (accepted x) f s h n = n x

choose_told : (ks : List ℕ) (b : Bool) (x y : Outcome) → Told ks x → Told ks y → Told ks (choose b x y)
unfolding choose
choose_told ks true x y h k = h
choose_told ks false x y h k = k

told_number : (ks : List ℕ) (o : Outcome) (k p : ℕ) → Told ks o → o ≡ refusal k p → has ks k ≡ true
told_number ks (wrote b) k p t e = absurd (true≢false (let z : true ≡ false = cc in z))
told_number ks (refusal j q) k p t e = subst (λ (i : ℕ). has ks i ≡ true) (let z : j ≡ k = cc in z) t.0

written_told : (ks : List ℕ) (room : ℕ) (b : Bytes) → has ks 16 ≡ true → Told ks (written room b)
unfolding written
written_told ks room b k = choose_told ks _ _ _ (k, let z : 0 < big = omega arith in z) tt

writing_told : (ks : List ℕ) (limit over : ℕ) (g : Given) (room : ℕ) (b : Bytes) → has ks over ≡ true → has ks 16 ≡ true → Told ks (writing limit over g room b)
unfolding writing
writing_told ks limit over g room b h k = choose_told ks _ _ _ (h, let z : 0 < big = omega arith in z) (written_told ks room b k)

-- The place of a broken rule is at most 5.
failed_few : (k : ℕ) (l : List Bool) → first_failed k l ≤ k + length l
unfolding first_failed
failed_few k [] = omega arith
failed_few k (true ∷ l) = omega (arith, failed_few (suc k) l)
failed_few k (false ∷ l) = omega arith

broken_few : (old new : Program) (suite : List Coverage) (s : Sheet) → broken old new suite s < big
unfolding broken
broken_few old new suite s = omega (arith, failed_few 1 (rule1 old new s ∷ rule2 old new s ∷ rule3 old new s ∷ rule4 old new s ∷ rule5 suite s ∷ []))

checking_told : (limit : ℕ) (g : Given) (sheet : Bytes) → Told (request_numbers check_sheet) (checking limit g sheet)
unfolding judged all_of has ◌or◌ ◌and◌
checking_told limit g sheet =
    outcome_told (1 ∷ sheet_numbers) (request_numbers check_sheet) _ _ refl (sheet_good limit g.old g.new g.suite sheet)
    (λ s. choose_told (request_numbers check_sheet) _ _ _ tt (refl, broken_few g.old g.new g.suite.coverages s))

more_told : (ks js : List ℕ) (o : Outcome) → all_of (has js) ks ≡ true → Told ks o → Told js o
more_told ks js (wrote b) s t = tt
more_told ks js (refusal k p) s t = (passes_of (has js) ks k s t.0, t.1)

-- Every number of a call that is lent no job.
abbrev all_numbers : List ℕ
all_numbers = 1 ∷ 2 ∷ 3 ∷ 4 ∷ 5 ∷ 6 ∷ 7 ∷ 8 ∷ 9 ∷ 10 ∷ 11 ∷ 12 ∷ too_many ∷ 16 ∷ []

-- ---- the promises

numbers_plain : all_of (between 1 last_number) all_numbers ≡ true
unfolding all_of between ◌and◌
numbers_plain = refl

-- What is told is plain, if what was written is short.
plain : (o : Outcome) → Told all_numbers o → ((b : Bytes) → o ≡ wrote b → length b < big) → Plain o
unfolding between
plain (wrote b) t h = record { zero_succeeds = λ e. (b, refl); few_numbers = omega arith; fits_beside = h b refl }
plain (refusal k p) t h =
    let r = passes_of (between 1 last_number) all_numbers k numbers_plain t.0 in
    let l : 1 ≤ k = leb-true 1 k (and_left _ _ r) in
    record { zero_succeeds = λ e. absurd (let z : ⊥ = omega (arith, l) in z); few_numbers = leb-true k last_number (and_right _ _ r); fits_beside = t.1 }

-- Where nothing is written, nothing long is.
unwritten : (o : Outcome) → ((b : Bytes) → o ≡ wrote b → b ≡ []) → (b : Bytes) → o ≡ wrote b → length b < big
unwritten o h b e = omega (arith, ap length (h b e))

success_only : {A : Type 0} (a : Reading A) (f : A → Outcome) → ((x : A) (b : Bytes) → f x ≡ wrote b → b ≡ []) → (b : Bytes) → outcome a f ≡ wrote b → b ≡ []
success_only a f h b e = let u = outcome_wrote a f b e in h u.0 b u.2

nothing_wrote : (b : Bytes) → success ≡ wrote b → b ≡ []
nothing_wrote b e = sym (wrote_same e)

judged_wrote : (g : Given) (s : Sheet) (b : Bytes) → judged g s ≡ wrote b → b ≡ []
unfolding judged
judged_wrote g s b e = nothing_wrote b (wrote_choose _ _ _ _ _ e).1

-- A record line has at most 1,045 bytes.
pub record_short : (old new tests : Bytes) (i room : ℕ) (b : Bytes) → record_answer old new tests i room ≡ wrote b → length b ≤ 1045
unfolding record_bytes record_text text_of v_text join_by crossed
record_short old new tests i room b e =
    let v = record_wrote old new tests i room b e in
    let g = v.0 in
    let n = known old new tests g v.1 in
    let name = test_name g.suite i in
    let d = decimal (count (edge_count g.old) (holds (coverage_at g.suite i))) in
    let marks = marks_of g.old g.new (coverage_at g.suite i) (edge_count g.new) in
    let few : count (edge_count g.old) (holds (coverage_at g.suite i)) ≤ edge_count g.old = count_few _ _ in
    let digits : length d ≤ 4 = decimal_most 3 _ (omega (arith, n.old_sound.few_edges)) in
    let short : length name ≤ 12 = name_short _ g.suite n.suite_sound i in
    let new_few : length marks ≤ 1024 = omega (arith, marks_length g.old g.new (coverage_at g.suite i) (edge_count g.new), n.new_sound.few_edges) in
    omega (
      arith,
      ap length v.3,
      length-append (bytes "V," ++ (name ++ (44 ∷ (d ++ (44 ∷ marks))))) (10 ∷ []),
      length-append name (44 ∷ (d ++ (44 ∷ marks))),
      length-append d (44 ∷ marks),
    )

-- A list of probes has at most 7,168 bytes.
pub probes_short : (old new tests : Bytes) (room : ℕ) (b : Bytes) → probes_answer old new tests room ≡ wrote b → length b ≤ 7168
unfolding answering serving probes_bytes probes_text
probes_short old new tests room b e =
    let u = outcome_wrote _ _ _ e in
    let g = u.0 in
    let n = known old new tests g u.1 in
    let q : length (text_of (map q_text (probes g.old g.new))) ≤ 7 * length (probes g.old g.new)
    = ended_q _ (λ e (t : has (probes g.old g.new) e ≡ true). omega (arith, probes_inside g.old g.new e t, n.new_sound.few_edges)) in
    omega (arith, ap length (writing_wrote _ _ _ _ _ _ u.2).2, probes_few g.old g.new, n.new_sound.few_edges)

-- ---- requests

-- Each request is refused only with its numbers.
serving_told : (q : Request) (g : Given) (input : Bytes) (room : ℕ) → Told (request_numbers q) (serving q g input room)
unfolding serving labelling writing_back by_side has ◌or◌
serving_told write_sheet g input room = writing_told (request_numbers write_sheet) max_pairs too_many g room (sheet_bytes g) refl refl
serving_told (write_record i) g input room =
    choose_told (request_numbers (write_record i)) _ _ _ (writing_told (request_numbers (write_record i)) max_pairs too_many g room (record_bytes g i) refl refl) (refl, let z : 0 < big = omega arith in z)
serving_told check_sheet g input room = checking_told max_pairs g input
serving_told (show_label zero n) g input room = choose_told (request_numbers (show_label zero n)) _ _ _ tt (refl, let z : 0 < big = omega arith in z)
serving_told (show_label (suc zero) n) g input room = choose_told (request_numbers (show_label (suc zero) n)) _ _ _ tt (refl, let z : 0 < big = omega arith in z)
serving_told (show_label (suc (suc side)) n) g input room = (refl, let z : 0 < big = omega arith in z)
serving_told (write_back zero) g input room = written_told (request_numbers (write_back zero)) room (write_program g.old) refl
serving_told (write_back (suc zero)) g input room = written_told (request_numbers (write_back (suc zero))) room (write_program g.new) refl
serving_told (write_back (suc (suc side))) g input room = (refl, let z : 0 < big = omega arith in z)
serving_told write_probes g input room = writing_told (request_numbers write_probes) max_pairs too_many g room (probes_bytes g) refl refl
serving_told no_request g input room = (refl, let z : 0 < big = omega arith in z)

-- They are some of all.
numbers_few : (q : Request) → all_of (has all_numbers) (request_numbers q) ≡ true
unfolding all_of has ◌or◌ ◌and◌
numbers_few write_sheet = refl
numbers_few (write_record i) = refl
numbers_few check_sheet = refl
numbers_few (show_label side n) = refl
numbers_few (write_back side) = refl
numbers_few write_probes = refl
numbers_few no_request = refl

-- To show a label writes nothing.
labelling_wrote : (g : Given) (side n : ℕ) (b : Bytes) → labelling g side n ≡ wrote b → b ≡ []
unfolding labelling by_side
labelling_wrote g zero n b e = nothing_wrote b (wrote_choose _ _ _ _ _ e).1
labelling_wrote g (suc zero) n b e = nothing_wrote b (wrote_choose _ _ _ _ _ e).1
labelling_wrote g (suc (suc side)) n b e = absurd (true≢false (let z : true ≡ false = cc in z))

-- What a request writes is short.
answering_short : (q : Request) (old new tests input : Bytes) (room : ℕ) (b : Bytes) → answering q old new tests input room ≡ wrote b → length b < big
unfolding answering serving
answering_short write_sheet old new tests input room b e = omega (arith, (written_passes old new tests room b e).1)
answering_short (write_record i) old new tests input room b e = omega (arith, record_short old new tests i room b e)
answering_short check_sheet old new tests input room b e = unwritten _ (success_only _ _ (λ g. success_only _ _ (judged_wrote g))) b e
answering_short (show_label side n) old new tests input room b e = unwritten _ (success_only _ _ (λ g. labelling_wrote g side n)) b e
answering_short (write_back side) old new tests input room b e = omega (arith, back_short old new tests side room b e)
answering_short write_probes old new tests input room b e = omega (arith, probes_short old new tests room b e)
answering_short no_request old new tests input room b e = unwritten _ (success_only _ _ (λ g c f. absurd (true≢false (let z : true ≡ false = cc in z)))) b e

pub plain_answers : (old new tests : Bytes) → AnswersPlain old new tests
unfolding read_old_answer read_new_answer read_tests_answer answering all_of has ◌or◌ ◌and◌
plain_answers old new tests =
    record {
      of_old = plain _ (outcome_told (1 ∷ program_numbers) all_numbers _ _ refl (program_good old) (λ p. tt)) (unwritten _ (success_only _ _ (λ p. nothing_wrote)));
      of_new = plain _ (outcome_told (1 ∷ program_numbers) all_numbers _ _ refl (program_good old) (λ p. outcome_told (1 ∷ program_numbers) all_numbers _ _ refl (program_good new) (λ r. tt)))
          (unwritten _ (success_only _ _ (λ p. success_only _ _ (λ r. nothing_wrote))));
      of_tests = plain _ (outcome_told job_numbers all_numbers _ _ refl (job_good old new tests) (λ g. tt)) (unwritten _ (success_only _ _ (λ g. nothing_wrote)));
      of_request = λ q input room.
          plain _
          (outcome_told job_numbers all_numbers _ _ refl (job_good old new tests) (λ g. more_told (request_numbers q) all_numbers (serving q g input room) (numbers_few q) (serving_told q g input room)))
          (λ b e. answering_short q old new tests input room b e);
    }

-- A request, where the texts are accepted.
pub answered : (q : Request) (old new tests input : Bytes) (room : ℕ) (g : Given) → read_job old new tests ≡ accepted g → answering q old new tests input room ≡ serving q g input room
unfolding answering outcome
answered q old new tests input room g e = ap (λ (a : Reading Given). outcome a (λ x. serving q x input room)) e

-- The check, where the texts are accepted.
pub checked : (old new tests sheet : Bytes) (g : Given) → read_job old new tests ≡ accepted g → check_answer old new tests sheet ≡ checking max_pairs g sheet
unfolding serving
checked old new tests sheet g e = answered check_sheet old new tests sheet 0 g e

pub numbers_given : NumbersGiven
numbers_given =
    record {
      of_program = λ text k p e. good_number Any (1 ∷ program_numbers) (read_program text) k p (program_good text) e;
      of_tests = λ m text k p e. good_number Any (1 ∷ suite_numbers) (read_suite m text) k p (suite_good m text) e;
      of_request = λ q old new tests input room g r k p e.
          told_number (request_numbers q) (serving q g input room) k p (serving_told q g input room) (sym (answered q old new tests input room g r) ∙ e);
    }

-- A refusal with 1 is that of reading the sheet.
one_read : (limit : ℕ) (g : Given) (sheet : Bytes) (p : ℕ) → (checking limit g sheet ≡ refusal 1 p) ↔ (read_sheet limit g.old g.new g.suite sheet ≡ refused 1 p)
unfolding outcome judged choose
one_read limit g sheet p = go (read_sheet limit g.old g.new g.suite sheet)
  where
    never : (b : Bool) (q : ℕ) → choose b passed (refusal 12 q) ≡ refusal 1 p → ⊥
    never true q e = true≢false (let z : true ≡ false = cc in z)
    never false q e = let z : ◌≡◌ {A = ℕ} 12 1 = cc in let y : ⊥ = omega (arith, z) in y

    go : (a : Reading Sheet) → (outcome a (judged g) ≡ refusal 1 p) ↔ (a ≡ refused 1 p)
    go (refused j q) = (λ e. cc, λ e. cc)
    go (accepted c) = (λ e. absurd (never (eqb (broken g.old g.new g.suite.coverages c) 0) (broken g.old g.new g.suite.coverages c) e), λ e. absurd (true≢false (let z : true ≡ false = cc in z)))

pub too_long : TooLong
too_long =
    record {
      of_program = program_long;
      of_tests = suite_long;
      of_check = λ old new tests sheet g r p.
          let l = sheet_long max_pairs g.old g.new g.suite sheet p in
          let o = one_read max_pairs g sheet p in
          (λ e. l.0 (o.0 (sym (checked old new tests sheet g r) ∙ e)), λ h. checked old new tests sheet g r ∙ o.1 (l.1 h));
    }
