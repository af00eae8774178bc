-- Where a call that reads returned 0, neither 13 nor 14 is due for the next one on the job and the tables that it left, if what that is lent is long enough; and what Progress in specs/ states of the three calls.
use Rattle.std.specs.Prelude.{◌≡◌, refl, Bool, true, false, List, [], ℕ, ◌≤◌, eqb, length}
use Rattle.std.proofs.Common.{sym, ◌∙◌, true≢false, arith, eq-eqb, eqb-true, le-leb}
use Rattle.std.proofs.Math.Path.{ap}
use Rattle.std.proofs.Math.Option.{Option, none, some}
use Rattle.laws.specs.Tests.{◌and◌, after, choose}
use Rattle.rules.specs.Text.{Bytes, Reading, refused, accepted}
use Rattle.rules.specs.Graph.{Program, edge_count}
use Rattle.rules.specs.ProgramFile.{Listing, read_listing, read_program}
use Rattle.rules.specs.SuiteFile.{TestListing, read_tests, read_suite}
use Rattle.rules.specs.Job.{Given, number_of, of_stage, outcome, packed, call_new, call_tests, read_job, read_old_answer, read_tests_answer, stage_after}
use Rattle.rules.proofs.Theorems.{answers_plain}
use Rattle.rules.proofs.TextLaws.{accepted_same, then_accepted, then_passes}
use Rattle.rules.proofs.JobLaws.{known, outcome_wrote}
use Rattle.records.specs.declared.Job.{Job}
use Rattle.records.specs.declared.Node.{Node}
use Rattle.records.specs.Jobs.{fresh}
use Rattle.lent_job.specs.Held.{AllRead, Lent, Versions, lent, job_old, job_new, held_old, held_new, held_tests}
use Rattle.lent_job.proofs.HeldLaws.{held_old_parts, held_new_parts, texts_accepted, version_read}
use Rattle.lent_job.specs.ReadOld.{roomy, program_read, old_read, past_due, read_answer, ReadOld}
use Rattle.lent_job.proofs.ReadLaws.{answer_old, none_due, read_fresh}
use Rattle.lent_job.specs.ReadNew.{old_held_due, new_due, new_read, ReadNew}
use Rattle.lent_job.specs.ReadTests.{both_due, tests_due, tests_read, ReadTests}
use Rattle.lent_job.proofs.Stages.{due_none, old_held, edges_new, new_held, tests_held, answer_tests}
use Rattle.lent_job.specs.Progress.{Chain, NewCall, OldCall, Succeeds, TestsCall}

-- ---- a call that returned 0 went by a text that is accepted

zero_due : {A : Type 0} (due : ℕ) (a : Reading A) → packed (read_answer (past_due due a)) ≡ 0 → (due ≡ 0) × (number_of (read_answer a) ≡ 0)
unfolding past_due outcome packed choose
zero_due due a z = go (eqb due 0) refl z
  where
    go : (u : Bool) → eqb due 0 ≡ u → packed (read_answer (choose u a (refused due 0))) ≡ 0 → (due ≡ 0) × (number_of (read_answer a) ≡ 0)
    go true e q = (eqb-true due 0 e, omega (arith, q))
    go false e q = absurd (true≢false (sym (eq-eqb due 0 (omega (arith, q))) ∙ e))

past_zero : {A : Type 0} (due : ℕ) (a : Reading A) → due ≡ 0 → past_due due a ≡ a
unfolding past_due choose
past_zero due a e = simp (eq-eqb due 0 e)

program_zero : (due : ℕ) (text : Bytes) → packed (read_answer (program_read due text)) ≡ 0 → (s : Listing) × (program_read due text ≡ accepted s)
unfolding read_old_answer read_program
program_zero due text z =
    let d = zero_due due (read_listing text) z in
    let o = (answers_plain text [] []).of_old.zero_succeeds (sym (ap number_of (answer_old text)) ∙ d.1) in
    let s = then_accepted _ _ _ (outcome_wrote _ _ _ o.1).1 in
    (s.0, past_zero due _ d.0 ∙ s.1)

pub program_of : (text : Bytes) (s : Listing) → read_listing text ≡ accepted s → read_program text ≡ accepted s.program
unfolding read_program
program_of text s e = then_passes _ e

tests_zero : (old new text : Bytes) (o p : Listing) → read_listing old ≡ accepted o → read_listing new ≡ accepted p → number_of (read_answer (read_tests (edge_count o.program) text)) ≡ 0
    → (l : TestListing) × (read_tests (edge_count o.program) text ≡ accepted l)
unfolding read_tests_answer read_suite
tests_zero old new text o p e q z =
    let t = (answers_plain old new text).of_tests.zero_succeeds (sym (ap number_of (answer_tests old new text o p e q)) ∙ z) in
    let g = outcome_wrote _ _ _ t.1 in
    let n = known old new text g.0 g.1 in
    let l = then_accepted _ _ _ n.reads_tests in
    let same_old : g.0.old ≡ o.program = accepted_same (sym n.reads_old ∙ program_of old o e) in
    (l.0, ap (λ (x : Program). read_tests (edge_count x) text) (sym same_old) ∙ l.1)

-- Where 14 is not due for what is held, something is.
due_held : {A : Type 0} (x : Option A) → ◌≡◌ {A = ℕ} (after x 14 (λ a. 0)) 0 → (a : A) × (x ≡ some a)
due_held none e = absurd (let z : ⊥ = omega (arith, e) in z)
due_held (some a) e = (a, refl)

-- Where nothing is due for `ry_job_read_tests` both versions are held.
pub both_were_held : (j : Job) (v v' : Lent) (t u w : ℕ) → tests_due j v v' t u w ≡ 0 → (k : Versions) × (held_new j v v' ≡ some k)
unfolding tests_due both_due
both_were_held j v v' t u w z = due_held (held_new j v v') (none_due (of_stage call_tests j.stage) (roomy 400 3200 t u w) (both_due j v v') z).2

-- ---- where the job and the tables are held and what is lent is long enough nothing is due

new_goes : (j : Job) (v : Lent) (o : Listing) → held_old j v ≡ some o → (n l w : ℕ) (new : Bytes) → 512 ≤ n → 6080 ≤ l → 8128 ≤ w → new_read j v n l w new ≡ read_listing new
unfolding past_due new_due old_held_due roomy of_stage stage_after job_old ◌and◌ choose
new_goes j v o held n l w new hn hl hw =
    let stage_is : j.stage ≡ 1 = ap (λ (k : Job). k.stage) (held_old_parts j v o held).1 in
    simp (eq-eqb j.stage 1 stage_is, le-leb 512 n hn, le-leb 6080 l hl, le-leb 8128 w hw, held)

tests_goes : (j : Job) (v v' : Lent) (k : Versions) → held_new j v v' ≡ some k → (t r w : ℕ) (tests : Bytes) → 400 ≤ t → 3200 ≤ r → 8128 ≤ w → tests_read j v v' t r w tests ≡ read_tests (edge_count k.old.program) tests
unfolding past_due tests_due both_due roomy of_stage stage_after job_new ◌and◌ choose
tests_goes j v v' k held t r w tests ht hr hw =
    let job_is = (held_new_parts j v v' k held).2 in
    let stage_is : j.stage ≡ 2 = ap (λ (x : Job). x.stage) job_is in
    simp (eq-eqb j.stage 2 stage_is, le-leb 400 t ht, le-leb 3200 r hr, le-leb 8128 w hw, held, edges_new j k.old k.new job_is)

-- ---- after `ry_job_read_old`

module _ (j : Job) (old : Bytes) (n : List Node) (l w : List ℕ) (r : ℕ) (j' : Job) (n' : List Node) (l' w' : List ℕ) (h : ReadOld j old n l w r j' n' l' w') (z : r ≡ 0) where
  old_accepted : (o : Listing) × (old_read j (length n) (length l) (length w) old ≡ accepted o)
  old_accepted = program_zero _ old (sym h.left.answer_is ∙ z)

  -- Where `ry_job_read_old` returned 0 nothing is due for `ry_job_read_new`, whatever its text.
  pub read_new_goes : (m k x : ℕ) (new : Bytes) → 512 ≤ m → 6080 ≤ k → 8128 ≤ x → new_read j' (lent old n' l') m k x new ≡ read_listing new
  read_new_goes m k x new hm hk hx =
      let o = old_accepted in
      new_goes j' (lent old n' l') o.0 (old_held j old n l w r j' n' l' w' h o.0 o.1) m k x new hm hk hx

-- ---- after `ry_job_read_new`

module _ (j : Job) (v : Lent) (new : Bytes) (n : List Node) (l w : List ℕ) (r : ℕ) (j' : Job) (n' : List Node) (l' w' : List ℕ) (h : ReadNew j v new n l w r j' n' l' w') (z : r ≡ 0) where
  new_accepted : (p : Listing) × (new_read j v (length n) (length l) (length w) new ≡ accepted p)
  new_accepted = program_zero _ new (sym h.left.answer_is ∙ z)

  old_was_held : (o : Listing) × (held_old j v ≡ some o)
  unfolding new_due old_held_due
  old_was_held =
      due_held (held_old j v)
      (none_due (of_stage call_new j.stage) (roomy 512 6080 (length n) (length l) (length w)) (old_held_due j v) (due_none _ _ new_accepted.0 new_accepted.1).0).2

  -- Where `ry_job_read_new` returned 0 nothing is due for `ry_job_read_tests`, whatever its text: it is read for as many edges as the old program has.
  pub read_tests_goes : (o : Listing) → read_listing v.text ≡ accepted o → (t u x : ℕ) (tests : Bytes) → 400 ≤ t → 3200 ≤ u → 8128 ≤ x
      → tests_read j' v (lent new n' l') t u x tests ≡ read_tests (edge_count o.program) tests
  read_tests_goes o e t u x tests ht hu hx =
      let p = new_accepted in
      let q = old_was_held in
      let same_old : q.0 ≡ o = accepted_same (sym (version_read v q.0 (held_old_parts j v q.0 q.1).0) ∙ e) in
      tests_goes j' v (lent new n' l') (record { old = q.0; new = p.0 }) (new_held j v new n l w r j' n' l' w' h p.0 p.1 q.0 q.1) t u x tests ht hu hx
      ∙ ap (λ (s : Listing). read_tests (edge_count s.program) tests) same_old

-- ---- after `ry_job_read_tests`

module _ (j : Job) (v v' : Lent) (tests : Bytes) (t u w : List ℕ) (r : ℕ) (j' : Job) (t' u' w' : List ℕ) (h : ReadTests j v v' tests t u w r j' t' u' w') (z : r ≡ 0) where
  nothing_due : (tests_due j v v' (length t) (length u) (length w) ≡ 0) × (number_of (read_answer (read_tests j.old_edges tests)) ≡ 0)
  nothing_due = zero_due _ _ (sym h.left.answer_is ∙ z)

  -- Where `ry_job_read_tests` returned 0 the job and all tables are held, as stage 3 asks.
  pub all_held : (h : AllRead) × (held_tests j' v v' tests t' u' ≡ some h)
  all_held =
      let k = both_were_held j v v' (length t) (length u) (length w) nothing_due.0 in
      let p = held_new_parts j v v' k.0 k.1 in
      let edges_are : j.old_edges ≡ edge_count k.0.old.program = edges_new j k.0.old k.0.new p.2 in
      let l = tests_zero v.text v'.text tests k.0.old k.0.new (version_read v _ p.0) (version_read v' _ p.1) (ap (λ (m : ℕ). number_of (read_answer (read_tests m tests))) (sym edges_are) ∙ nothing_due.1) in
      (_, tests_held j v v' tests t u w r j' t' u' w' h l.0 (past_zero _ _ nothing_due.0 ∙ ap (λ (m : ℕ). read_tests m tests) edges_are ∙ l.1) k.0 k.1)

-- ---- the three calls, one after the other

listing_of : (text : Bytes) (p : Program) → read_program text ≡ accepted p → (s : Listing) × (read_listing text ≡ accepted s) × (s.program ≡ p)
unfolding read_program
listing_of text p e = let s = then_accepted _ _ _ e in (s.0, s.1, accepted_same s.2)

module _ (old new tests : Bytes) (c : Chain old new tests) (g : Given) (e : read_job old new tests ≡ accepted g) where
  abbrev a : OldCall fresh old
  a = c.first

  abbrev b : NewCall a.job (lent old a.nodes a.links) new
  b = c.second

  abbrev d : TestsCall b.job (lent old a.nodes a.links) (lent new b.nodes b.links) tests
  d = c.third

  old_listing : (o : Listing) × (read_listing old ≡ accepted o) × (o.program ≡ g.old)
  old_listing = listing_of old g.old (known old new tests g e).reads_old

  new_listing : (p : Listing) × (read_listing new ≡ accepted p) × (p.program ≡ g.new)
  new_listing = listing_of new g.new (known old new tests g e).reads_new

  tests_listing : (l : TestListing) × (read_tests (edge_count old_listing.0.program) tests ≡ accepted l)
  unfolding read_suite
  tests_listing =
      let l = then_accepted _ _ _ (known old new tests g e).reads_tests in (l.0, ap (λ (p : Program). read_tests (edge_count p) tests) old_listing.2 ∙ l.1)

  first_done : a.answer ≡ 0
  unfolding outcome packed
  first_done = a.reads.left.answer_is ∙ ap (λ (x : Reading Listing). packed (read_answer x)) (read_fresh _ _ _ old a.many_nodes a.many_links a.room ∙ old_listing.1)

  second_done : b.answer ≡ 0
  unfolding outcome packed
  second_done =
      let goes = read_new_goes _ old a.n a.l a.w a.answer a.job a.nodes a.links a.scratch a.reads first_done in
      b.reads.left.answer_is ∙ ap (λ (x : Reading Listing). packed (read_answer x)) (goes _ _ _ new b.many_nodes b.many_links b.room ∙ new_listing.1)

  third_done : d.answer ≡ 0
  unfolding outcome packed
  third_done =
      let goes = read_tests_goes _ _ new b.n b.l b.w b.answer b.job b.nodes b.links b.scratch b.reads second_done in
      d.reads.left.answer_is ∙ ap (λ (x : Reading TestListing). packed (read_answer x)) (goes old_listing.0 old_listing.1 _ _ _ tests d.many_names d.many_rows d.room ∙ tests_listing.1)

  -- Where the three texts are accepted, the three calls on a fresh job succeed.
  pub chain_succeeds : Succeeds old new tests c g
  chain_succeeds =
      let h = all_held _ _ _ tests d.t d.u d.w d.answer d.job d.names d.rows d.scratch d.reads third_done in
      record {
        old_succeeds = first_done;
        new_succeeds = second_done;
        tests_succeed = third_done;
        all = h.0;
        held = h.1;
        gives = accepted_same (sym (texts_accepted _ _ _ tests _ _ h.0 h.1) ∙ e);
      }
