-- What Answers in specs/ states: past 13 and 14 a request is answered as the definitions over the three texts that it goes by do.
use Rattle.std.specs.Prelude.{◌≡◌, refl, Bool, true, false, List, [], ◌++◌, ℕ, zero, suc, ◌+◌, ◌*◌, ◌/◌, ◌%◌, ◌≤◌, ◌<◌, eqb, drop, length, take}
use Rattle.std.proofs.Common.{sym, ap, ap₂, ◌∙◌, subst, true≢false, arith, length-append, eq-eqb, eqb-true, lt-ltb, ltb-true}
use Rattle.std.proofs.Math.Option.{Option, none, some}
use Rattle.std.proofs.Math.Seq.{take-append_seam}
use Rattle.laws.specs.Tests.{after, choose}
use Rattle.laws.specs.Lists.{choose_no, choose_yes}
use Rattle.laws.specs.Slices.{below_or}
use Rattle.rules.specs.Text.{Reading, Bytes, accepted, max_bytes, refused}
use Rattle.rules.specs.Graph.{Program, label_at, node_count}
use Rattle.rules.specs.ProgramFile.{Listing, read_listing}
use Rattle.rules.specs.SuiteFile.{read_tests, test_name}
use Rattle.rules.specs.Sheet.{left_off}
use Rattle.rules.specs.Job.{Given, Request, Span, Version, answering, by_side, check_sheet, has_node, label_part, label_shown, label_span, labelling, nowhere, outcome, packed, packed_span, read_new_answer, read_old_answer, read_tests_answer, refusal, request_by, serving, show_label, span_shown, success, write_record, write_sheet, wrote}
use Rattle.rules.specs.Promises.{Plain, comes_with_text, writes}
use Rattle.rules.proofs.Theorems.{answers_plain, demand3, label_shown_lem, program_placed, too_long}
use Rattle.rules.proofs.Exported.{written, zero_passed}
use Rattle.rules.proofs.JobLaws.{known, outcome_wrote}
use Rattle.rules.proofs.Refused.{outcome_same, room_unused, text_unused}
use Rattle.records.specs.declared.Job.{Job}
use Rattle.lent_job.specs.Held.{AllRead, Lent, held_new, held_old}
use Rattle.lent_job.proofs.HeldLaws.{after_some, chosen_some, held_new_parts, held_tests_parts, texts_accepted, version_read}
use Rattle.lent_job.specs.ReadOld.{fresh_due, old_due, old_read, past_due, read_answer}
use Rattle.lent_job.proofs.ReadLaws.{answer_old}
use Rattle.lent_job.specs.ReadNew.{new_due, new_read, old_held_due}
use Rattle.lent_job.specs.ReadTests.{both_due, tests_due, tests_read}
use Rattle.lent_job.proofs.Stages.{answer_tests, edges_new}
use Rattle.lent_job.proofs.Progress.{both_were_held, program_of}
use Rattle.lent_job.specs.Calls.{Called, LentJob, check_call, given_by, goes_by, held, held_back, holding, label_call, label_part_call, label_span_call, lent_call, others_alone, shown_by, span_by, takes_parts, version_of, written_back}
use Rattle.lent_job.proofs.DueLaws.{due_cases, goes_held_lem}
use Rattle.lent_job.specs.Answers.{ByTexts, LabelsByTexts, LentDemand3, LentExported, part_found, read_texts, served_by}

-- ---- the answers are those of the texts

-- What is held is what the three texts give: they are accepted.
pub texts_given : (k : LentJob) (h : AllRead) → held k ≡ some h → read_texts k ≡ accepted (given_by h)
texts_given k h e = texts_accepted k.job k.old k.new k.tests_text k.tests k.rows h e

pub served_held : (q : Request) (k : LentJob) (h : AllRead) → goes_by k (holding q k) ≡ accepted h → held (served_by q k) ≡ some h
unfolding holding served_by held_back choose
served_held q k h e = go (takes_parts q) (goes_held_lem k (holding q k) h e)
  where
    go : (u : Bool) → choose u (held_back k) (held k) ≡ some h → held (choose u (written_back k) k) ≡ some h
    go true d =
        let p = after_some (held (written_back k)) (λ g. choose (others_alone k g) (some g) none) h d in
        p.1 ∙ ap some (chosen_some (others_alone k p.0) p.0 h p.2).1
    go false d = d

-- A request that goes on is answered as those texts are, and they are accepted.
pub served_answer : (q : Request) (k : LentJob) (h : AllRead) → goes_by k (holding q k) ≡ accepted h → (input : Bytes) (room : ℕ)
    → lent_call q k input room ≡ answering q (served_by q k).old.text (served_by q k).new.text (served_by q k).tests_text input room
unfolding lent_call answering outcome
served_answer q k h e input room =
    ap (λ (x : Reading AllRead). outcome x (λ y. serving q (given_by y) input room)) e
    ∙ sym (ap (λ (x : Reading Given). outcome x (λ g. serving q g input room)) (texts_given (served_by q k) h (served_held q k h e)))

-- Where a call goes by what job and tables hold, the answers are those of the texts.
pub by_texts : (k : LentJob) (h : AllRead) → goes_by k (held k) ≡ accepted h → ByTexts k (given_by h)
unfolding lent_call answering holding read_old_answer read_new_answer read_tests_answer outcome
by_texts k h e =
    let r = texts_given k h (goes_held_lem k (held k) h e) in
    let n = known k.old.text k.new.text k.tests_text (given_by h) r in
    record {
      reads = r;
      reads_old = ap (λ (x : Reading Program). outcome x (λ p. success)) n.reads_old;
      reads_new = ap₂ (λ (x y : Reading Program). outcome x (λ p. outcome y (λ q. success))) n.reads_old n.reads_new;
      reads_tests = ap (λ (x : Reading Given). outcome x (λ g. success)) r;
      answer_is = λ q t input room.
          ap (λ (x : Reading AllRead). outcome x (λ y. serving q (given_by y) input room)) (ap (goes_by k) (choose_no _ _ t) ∙ e)
          ∙ sym (ap (λ (x : Reading Given). outcome x (λ g. serving q g input room)) r);
    }

-- ---- labels

-- The label of a node that the version has.
part_label : (v : Version) → read_listing v.text ≡ accepted v.listing → (n : ℕ) → n < node_count v.listing.program
    → choose (has_node v.listing.program n) (label_part v n) [] ≡ label_at v.listing.program n
unfolding has_node
part_label v e n b = choose_yes _ _ (lt-ltb _ _ b) ∙ label_shown_lem v e n b

-- A label stands within its text, which is short.
pub text_short : (text : Bytes) (s : Listing) → read_listing text ≡ accepted s → length text ≤ max_bytes
text_short text s e =
    below_or max_bytes (length text)
    (λ b. absurd (true≢false (let c : refused 1 0 ≡ accepted s.program = sym ((too_long.of_program text 0).1 (b, refl)) ∙ program_of text s e in let z : true ≡ false = cc in z)))
    (λ b. b)

span_inside : (v : Version) → read_listing v.text ≡ accepted v.listing → (n : ℕ) → n < node_count v.listing.program → (label_span v n).start + (label_span v n).len ≤ length v.text
span_inside v e n b =
    let p = (program_placed v.text v.listing e).labels.parts n b in
    omega (arith, ap length p.text_is, length-append p.front (label_at v.listing.program n ++ p.back), length-append (label_at v.listing.program n) p.back, p.offset)

-- Start and length of a label that the version has, or of none.
span_few : (v : Version) → read_listing v.text ≡ accepted v.listing → (n : ℕ) (u : Bool) → has_node v.listing.program n ≡ u
    → ((choose u (label_span v n) nowhere).start < 4294967296) × ((choose u (label_span v n) nowhere).len < 4294967296)
unfolding choose has_node
span_few v e n true t =
    let i = span_inside v e n (ltb-true _ _ t) in
    let s = text_short v.text v.listing e in
    (omega (arith, i, s), omega (arith, i, s))
span_few v e n false t = (omega arith, omega arith)

part_at : (v : Version) → read_listing v.text ≡ accepted v.listing → (n r : ℕ) → n < node_count v.listing.program
    → r ≡ packed_span (choose (has_node v.listing.program n) (label_span v n) nowhere) → part_found r v.text ≡ label_at v.listing.program n
unfolding packed_span has_node label_part
part_at v e n r b er =
    let i = span_inside v e n b in
    let s = text_short v.text v.listing e in
    let q : r ≡ (label_span v n).start * 4294967296 + (label_span v n).len = er ∙ ap packed_span (choose_yes (label_span v n) nowhere (lt-ltb _ _ b)) in
    let a : r % 4294967296 ≡ (label_span v n).len = omega (arith, q, i, s) in
    let c : r / 4294967296 ≡ (label_span v n).start = omega (arith, q, i, s) in
    ap₂ (λ (x y : ℕ). take x (drop y v.text)) a c ∙ label_shown_lem v e n b

pub labels_by_texts : (k : LentJob) (h : AllRead) → goes_by k (held k) ≡ accepted h → LabelsByTexts k h
unfolding label_part_call label_span_call shown_by span_by label_shown span_shown by_side
labels_by_texts k h e =
    let p = held_tests_parts k.job k.old k.new k.tests_text k.tests k.rows h (goes_held_lem k (held k) h e) in
    let o = version_read k.old h.old p.0 in
    let q = version_read k.new h.new p.1 in
    record {
      old_read = o;
      new_read = q;
      answer_is = λ side n. (by_texts k h e).answer_is (show_label side n) refl [] 0;
      part_is = λ side n. ap (λ (x : Reading AllRead). shown_by x k side n) e;
      span_is = λ side n. ap (λ (x : Reading AllRead). span_by x k side n) e;
      old_label = λ n b. ap (λ (x : Reading AllRead). shown_by x k 0 n) e ∙ part_label (version_of k.old h.old) o n b;
      new_label = λ n b. ap (λ (x : Reading AllRead). shown_by x k 1 n) e ∙ part_label (version_of k.new h.new) q n b;
      old_found = λ n r b er. part_at (version_of k.old h.old) o n r b (er ∙ ap (λ (x : Reading AllRead). packed_span (span_by x k 0 n)) e);
      new_found = λ n r b er. part_at (version_of k.new h.new) q n r b (er ∙ ap (λ (x : Reading AllRead). packed_span (span_by x k 1 n)) e);
    }

-- Start and length of what is found fit in one number.
pub labels_few : (k : LentJob) (side n : ℕ) → ((label_span_call k side n).start < 4294967296) × ((label_span_call k side n).len < 4294967296)
unfolding label_span_call span_by span_shown by_side
labels_few k side n =
    due_cases k (held k) (λ m a b e. few _ (ap (λ (x : Reading AllRead). span_by x k side n) e) (omega arith, omega arith))
    (λ h e room had.
    let p = held_tests_parts k.job k.old k.new k.tests_text k.tests k.rows h had in
    few _ (ap (λ (x : Reading AllRead). span_by x k side n) e) (by side h (version_read k.old h.old p.0) (version_read k.new h.new p.1)))
  where
    few : (s : Span) → label_span_call k side n ≡ s → (s.start < 4294967296) × (s.len < 4294967296) → ((label_span_call k side n).start < 4294967296) × ((label_span_call k side n).len < 4294967296)
    few s e f = (omega (arith, f.0, ap (λ (x : Span). x.start) e), omega (arith, f.1, ap (λ (x : Span). x.len) e))

    by : (m : ℕ) (h : AllRead) → read_listing k.old.text ≡ accepted h.old → read_listing k.new.text ≡ accepted h.new
        → ((span_shown (version_of k.old h.old) (version_of k.new h.new) m n).start < 4294967296) × ((span_shown (version_of k.old h.old) (version_of k.new h.new) m n).len < 4294967296)
    by zero h o q = span_few (version_of k.old h.old) o n _ refl
    by (suc zero) h o q = span_few (version_of k.new h.new) q n _ refl
    by (suc (suc m)) h o q = (omega arith, omega arith)

-- Where the request for a label is refused, it stands nowhere: `ry_job_label` returns 0.
pub nowhere_refused : (k : LentJob) (side n q p : ℕ) → label_call k side n ≡ refusal q p → packed_span (label_span_call k side n) ≡ 0
unfolding lent_call holding label_span_call span_by serving labelling span_shown by_side packed_span outcome choose
nowhere_refused k side n q p e = go (goes_by k (held k)) e
  where
    chosen : (u : Bool) (s : Span) → choose u success (refusal 6 0) ≡ refusal q p → packed_span (choose u s nowhere) ≡ 0
    chosen true s f = absurd (true≢false (let z : true ≡ false = cc in z))
    chosen false s f = refl

    by : (m : ℕ) (h : AllRead) → labelling (given_by h) m n ≡ refusal q p → packed_span (span_shown (version_of k.old h.old) (version_of k.new h.new) m n) ≡ 0
    by zero h f = chosen (has_node h.old.program n) (label_span (version_of k.old h.old) n) f
    by (suc zero) h f = chosen (has_node h.new.program n) (label_span (version_of k.new h.new) n) f
    by (suc (suc m)) h f = refl

    go : (x : Reading AllRead) → outcome x (λ h. labelling (given_by h) side n) ≡ refusal q p → packed_span (span_by x k side n) ≡ 0
    go (refused a b) f = refl
    go (accepted h) f = by side h f

-- ---- number 0 is success, the others are few, and a place fits beside them

due_plain : (n : ℕ) → (n ≡ 0 → ⊥) → n ≤ 14 → Plain (refusal n 0)
due_plain n a b = record { zero_succeeds = λ z. absurd (a z); few_numbers = omega arith; fits_beside = omega arith }

-- For every request.
pub lent_plain : (q : Request) (k : LentJob) (input : Bytes) (room : ℕ) → Plain (lent_call q k input room)
unfolding lent_call outcome
lent_plain q k input room =
    due_cases k (holding q k)
    (λ n a b e. subst Plain (sym (ap (λ (x : Reading AllRead). outcome x (λ h. serving q (given_by h) input room)) e)) (due_plain n (λ z. let y : ⊥ = omega arith in y) b))
    (λ h e long had.
    subst Plain (sym (served_answer q k h e input room)) ((answers_plain (served_by q k).old.text (served_by q k).new.text (served_by q k).tests_text).of_request q input room))

-- Of the calls that read.
past_plain : {A : Type 0} (due : ℕ) (a : Reading A) → due ≤ 14 → (due ≡ 0 → Plain (read_answer a)) → Plain (read_answer (past_due due a))
unfolding past_due outcome choose
past_plain due a few h = go (eqb due 0) refl
  where
    go : (u : Bool) → eqb due 0 ≡ u → Plain (read_answer (choose u a (refused due 0)))
    go true e = h (eqb-true due 0 e)
    go false e = due_plain due (λ z. true≢false (sym (eq-eqb due 0 z) ∙ e)) few

due_few : (t u : Bool) (d : ℕ) → d ≤ 14 → choose t (choose u d 14) 13 ≤ 14
unfolding choose
due_few true true d h = h
due_few true false d h = omega arith
due_few false u d h = omega arith

after_few : {A : Type 0} (x : Option A) → after x 14 (λ a. 0) ≤ 14
after_few none = omega arith
after_few (some a) = omega arith

choose_few : (u : Bool) → choose u 0 14 ≤ 14
unfolding choose
choose_few true = omega arith
choose_few false = omega arith

program_plain : (text : Bytes) → Plain (read_answer (read_listing text))
program_plain text = subst Plain (sym (answer_old text)) (answers_plain text [] []).of_old

pub old_plain : (j : Job) (n l w : ℕ) (text : Bytes) → Plain (read_answer (old_read j n l w text))
unfolding old_due fresh_due
old_plain j n l w text = past_plain (old_due j n l w) (read_listing text) (due_few _ _ _ (choose_few _)) (λ z. program_plain text)

pub new_plain : (j : Job) (v : Lent) (n l w : ℕ) (text : Bytes) → Plain (read_answer (new_read j v n l w text))
unfolding new_due old_held_due
new_plain j v n l w text = past_plain (new_due j v n l w) (read_listing text) (due_few _ _ _ (after_few (held_old j v))) (λ z. program_plain text)

pub tests_plain : (j : Job) (v v' : Lent) (t r w : ℕ) (text : Bytes) → Plain (read_answer (tests_read j v v' t r w text))
unfolding tests_due both_due
tests_plain j v v' t r w text =
    past_plain (tests_due j v v' t r w) (read_tests j.old_edges text) (due_few _ _ _ (after_few (held_new j v v'))) (λ z.
    let k = both_were_held j v v' t r w z in
    let p = held_new_parts j v v' k.0 k.1 in
    subst Plain
    (sym (ap (λ (m : ℕ). read_answer (read_tests m text)) (edges_new j k.0.old k.0.new p.2)
    ∙ answer_tests v.text v'.text text k.0.old k.0.new (version_read v _ p.0) (version_read v' _ p.1)))
    (answers_plain v.text v'.text text).of_tests)

-- ---- demand 3

-- A request that wrote went by what job and tables hold.
call_wrote : (q : Request) → takes_parts q ≡ false → (k : LentJob) (input : Bytes) (room : ℕ) (b : Bytes) → lent_call q k input room ≡ wrote b → (h : AllRead) × (goes_by k (held k) ≡ accepted h)
unfolding lent_call holding
call_wrote q t k input room b e = let u = outcome_wrote _ _ _ e in (u.0, sym (ap (goes_by k) (choose_no _ _ t)) ∙ u.1)

call_texts : (q : Request) → takes_parts q ≡ false → (k : LentJob) (input : Bytes) (room : ℕ) (b : Bytes) → lent_call q k input room ≡ wrote b
    → answering q k.old.text k.new.text k.tests_text input room ≡ wrote b
call_texts q t k input room b e = let u = call_wrote q t k input room b e in sym ((by_texts k u.0 u.1).answer_is q t input room) ∙ e

pub lent_demand3 {ℓ κ} : (St : Type ℓ) (Out : Type κ) (k : LentJob) → LentDemand3 St Out k
lent_demand3 St Out k =
    let d = demand3 St Out k.old.text k.new.text k.tests_text in
    record {
      checker = λ sheet e. d.checker sheet (call_texts check_sheet refl k sheet 0 [] e);
      passes = λ room sheet e.
          let u = call_wrote write_sheet refl k [] room sheet e in
          let p = d.passes room sheet (call_texts write_sheet refl k [] room sheet e) in
          ((by_texts k u.0 u.1).answer_is check_sheet refl sheet 0 ∙ p.0, p.1);
      unlisted = λ room sheet e g r i l. d.unlisted room sheet (call_texts write_sheet refl k [] room sheet e) g r i l;
      marked = λ i room line e. d.marked i room line (call_texts (write_record i) refl k [] room line e);
    }

-- What a call returned below 4,294,967,296, and left in its output.
pub call_written : (q : Request) (k : LentJob) (input : Bytes) (r : ℕ) (j j' : Job) (w w' out out' : List ℕ) → Called (lent_call q k input (length out)) r j j' w w' out out' → r < 4294967296
    → (b : Bytes) × (lent_call q k input (length out) ≡ wrote b) × (r ≡ length b) × (out' ≡ b ++ drop r out)
call_written q k input r j j' w w' out out' c l = written _ (lent_plain q k input (length out)) out out' r c.answer_is c.output_is l

-- An input that a request does not come with, and an output that it does not write to, are of no matter.
input_any : (q : Request) (k : LentJob) (input : Bytes) (room : ℕ) → comes_with_text q ≡ false → lent_call q k input room ≡ lent_call q k [] room
unfolding lent_call
input_any q k input room e = outcome_same (goes_by k (holding q k)) _ _ (λ h. text_unused q e (given_by h) input room)

output_any : (q : Request) (k : LentJob) (input : Bytes) (room : ℕ) → writes q ≡ false → lent_call q k input room ≡ lent_call q k input 0
unfolding lent_call
output_any q k input room e = outcome_same (goes_by k (holding q k)) _ _ (λ h. room_unused q e (given_by h) input room)

pub lent_exported {ℓ κ} : (St : Type ℓ) (Out : Type κ) (k : LentJob) → LentExported St Out k
unfolding request_by choose packed
lent_exported St Out k =
    let d = lent_demand3 St Out k in
    record {
      checker = λ a b sheet r j j' w w' out out' c z.
          d.checker sheet (zero_passed (check_call k sheet) (lent_plain check_sheet k sheet 0) (sym (c.answer_is ∙ ap packed (output_any check_sheet k sheet (length out) refl)) ∙ z));
      passes = λ a b input r j j' w w' out out' c l.
          let u = call_written write_sheet k input r j j' w w' out out' c l in
          let p = d.passes (length out) u.0 (sym (input_any write_sheet k input (length out) refl) ∙ u.1) in
          (u.0, u.2, u.3, λ e f room. ap packed (output_any check_sheet k u.0 room refl ∙ p.0));
      unlisted = λ a b input r j j' w w' out out' c l g e i h.
          let u = call_written write_sheet k input r j j' w w' out out' c l in
          let f : take r out' ≡ u.0 = ap₂ (λ (n : ℕ) (x : Bytes). take n x) u.2 u.3 ∙ take-append_seam u.0 (drop r out) in
          d.unlisted (length out) u.0 (sym (input_any write_sheet k input (length out) refl) ∙ u.1) g e i (subst (λ (x : Bytes). left_off x (test_name g.suite i) ≡ true) f h);
      marked = λ i b input r j j' w w' out out' c l.
          let u = call_written (write_record i) k input r j j' w w' out out' c l in
          let m = d.marked i (length out) u.0 (sym (input_any (write_record i) k input (length out) refl) ∙ u.1) in
          (m.0, m.1, m.2, m.3, u.3 ∙ ap (λ (x : Bytes). x ++ drop r out) m.4, m.5, m.6);
    }
