-- Refusals of texts and of a call's own numbers, each for its reason.
use Rattle.std.specs.Prelude.{◌≡◌, refl, false, [], ℕ, zero, suc, ◌<◌}
use Rattle.std.proofs.Common.{ap, ◌∙◌, true≢false, arith, le-ltb, lt-ltb, ne_eqb}
use Rattle.laws.specs.Tests.{choose}
use Rattle.laws.specs.Lists.{choose_yes, choose_no}
use Rattle.rules.specs.Text.{Reading, Bytes, accepted, max_pairs, refused, then, too_many}
use Rattle.rules.specs.Graph.{Program, node_count}
use Rattle.rules.specs.ProgramFile.{read_program}
use Rattle.rules.specs.SuiteFile.{TestListing, test_count}
use Rattle.rules.specs.Job.{Given, Outcome, Request, Version, answering, by_side, check_sheet, has_node, label_shown, label_span, labelling, no_request, nowhere, outcome, packed_span, read_job, read_new_answer, read_old_answer, read_tests_answer, recording, refusal, request_by, serving, show_label, span_shown, success, write_probes, write_back, write_record, write_sheet}
use Rattle.rules.specs.Promises.{LabelsAnswered, RecordUnnamed, RequestsNumbered, TextsRead, TextsRefused, UnusedIgnored, comes_with_text, label_told, writes}

-- ---- texts

pub texts_in_order : (old new tests : Bytes) → TextsRead old new tests
unfolding read_old_answer read_new_answer read_tests_answer read_job outcome then
texts_in_order old new tests =
    record {
      old_refused = λ k p e. (ap (λ (a : Reading Program). outcome a (λ x. success)) e, ap (λ (a : Reading Program). outcome a (λ x. outcome (read_program new) (λ y. success))) e, simp e);
      new_refused = λ a e k p f. (simp (e, f), simp (e, f));
      tests_refused = λ a b e f k p h. simp (e, f, h);
      old_read = λ a e. simp e;
      new_read = λ a b e f. simp (e, f);
      all_read = λ g e f h. (simp (e, f, h), simp (e, f, h));
    }

-- Where reading the texts refuses, that is the answer.
pub texts_first : TextsRefused
unfolding read_tests_answer answering outcome
texts_first old new tests k p e =
    let at : (f : Given → Outcome) → outcome (read_job old new tests) f ≡ refusal k p = λ f. ap (λ (a : Reading Given). outcome a f) e in
    record { of_tests = at _; of_request = λ q input room. at _ }

-- ---- a call's own numbers

pub no_test : RecordUnnamed
unfolding answering serving outcome
no_test old new tests g e i room l = ap (λ (x : Reading Given). outcome x (λ h. recording max_pairs too_many h i room)) e ∙ choose_no _ _ (le-ltb i (test_count g.suite) l)

no_number : (n a b : ℕ) → 5 < n → request_by n a b ≡ no_request
unfolding request_by
no_number n a b l =
    choose_no _ _ (ne_eqb n 0 (λ e. let z : ⊥ = omega arith in z))
    ∙ choose_no _ _ (ne_eqb n 1 (λ e. let z : ⊥ = omega arith in z))
    ∙ choose_no _ _ (ne_eqb n 2 (λ e. let z : ⊥ = omega arith in z))
    ∙ choose_no _ _ (ne_eqb n 3 (λ e. let z : ⊥ = omega arith in z))
    ∙ choose_no _ _ (ne_eqb n 4 (λ e. let z : ⊥ = omega arith in z))
    ∙ choose_no _ _ (ne_eqb n 5 (λ e. let z : ⊥ = omega arith in z))

pub numbered : RequestsNumbered
unfolding answering serving outcome request_by choose
numbered =
    record {
      sheet_0 = λ a b. refl;
      record_1 = λ a b. refl;
      check_2 = λ a b. refl;
      label_3 = λ a b. refl;
      program_4 = λ a b. refl;
      probes_5 = λ a b. refl;
      unnamed = λ old new tests g e n a b input room l.
          ap (λ (q : Request). answering q old new tests input room) (no_number n a b l) ∙ ap (λ (x : Reading Given). outcome x (λ h. refusal 6 0)) e;
    }

-- What a request does not use.
pub text_unused : (q : Request) → comes_with_text q ≡ false → (g : Given) (input : Bytes) (room : ℕ) → serving q g input room ≡ serving q g [] room
unfolding serving
text_unused write_sheet e g input room = refl
text_unused (write_record i) e g input room = refl
text_unused check_sheet e g input room = absurd (true≢false e)
text_unused (show_label side n) e g input room = refl
text_unused (write_back side) e g input room = refl
text_unused write_probes e g input room = refl
text_unused no_request e g input room = refl

pub room_unused : (q : Request) → writes q ≡ false → (g : Given) (input : Bytes) (room : ℕ) → serving q g input room ≡ serving q g input 0
unfolding serving
room_unused write_sheet e g input room = absurd (true≢false e)
room_unused (write_record i) e g input room = absurd (true≢false e)
room_unused check_sheet e g input room = refl
room_unused (show_label side n) e g input room = refl
room_unused (write_back side) e g input room = absurd (true≢false e)
room_unused write_probes e g input room = absurd (true≢false e)
room_unused no_request e g input room = refl

-- Two continuations that agree.
pub outcome_same : {A : Type 0} (a : Reading A) (f h : A → Outcome) → ((x : A) → f x ≡ h x) → outcome a f ≡ outcome a h
unfolding outcome
outcome_same (refused k p) f h e = refl
outcome_same (accepted x) f h e = e x

pub unused : (q : Request) (old new tests : Bytes) → UnusedIgnored q old new tests
unfolding answering
unused q old new tests =
    record {
      no_text = λ e input room. outcome_same (read_job old new tests) _ _ (λ g. text_unused q e g input room);
      no_output = λ e input room. outcome_same (read_job old new tests) _ _ (λ g. room_unused q e g input room);
    }

pub labels_answered : (old new : Version) (tests : TestListing) (input : Bytes) (room : ℕ) → LabelsAnswered old new tests input room
unfolding serving labelling label_shown span_shown packed_span by_side has_node
labels_answered old new tests input room =
    record {
      old_shown = λ n h. let t = lt-ltb n (node_count old.listing.program) h in (choose_yes _ _ t, choose_yes _ _ t, choose_yes _ _ t);
      new_shown = λ n h. let t = lt-ltb n (node_count new.listing.program) h in (choose_yes _ _ t, choose_yes _ _ t, choose_yes _ _ t);
      no_old_node = λ n h. let t = le-ltb n (node_count old.listing.program) h in (choose_no _ _ t, choose_no _ _ t, ap packed_span (choose_no (label_span old n) nowhere t));
      no_new_node = λ n h. let t = le-ltb n (node_count new.listing.program) h in (choose_no _ _ t, choose_no _ _ t, ap packed_span (choose_no (label_span new n) nowhere t));
      no_side = other_side;
    }
  where
    other_side : (side n : ℕ) → 1 < side → (label_told old new tests input room side n ≡ refusal 6 0) × (label_shown old new side n ≡ []) × (packed_span (span_shown old new side n) ≡ 0)
    other_side zero n h = absurd (let z : ⊥ = omega arith in z)
    other_side (suc zero) n h = absurd (let z : ⊥ = omega arith in z)
    other_side (suc (suc s)) n h = (refl, refl, refl)
