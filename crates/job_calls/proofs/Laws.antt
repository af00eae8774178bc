-- The returns of the functions on values, and what the calls make of them.
use mathlib.Core.Path.{◌≡◌, refl, sym, ap, ap₂, ◌∙◌, subst}
use mathlib.Core.Bool.{Bool, true, false}
use mathlib.Core.List.{List, [], ◌++◌, append-nil}
use mathlib.Core.Option.{Option, none, some}
use Prim.Native.Nat.{ℕ, zero, suc, ◌+◌, ◌*◌, ◌≤◌, ◌<◌}
use native.Mathlib.Omega.{arith}
use lib.Dec.{eqb, leb, ltb}
use lib.ListN.{length, get_or, take, drop, replicate, length-replicate, take-append-drop, get_or-append}
use lib.Seq.{sets, length-sets, length-take-le}
use borrow.Author.Tests.{eq-eqb, ne_eqb, le-leb, lt-leb, le-ltb, lt-ltb, ltb-true}
use Rattle.laws.specs.Tests.{◌and◌, after, choose}
use Rattle.laws.specs.Lists.{choose_no, choose_yes}
use Rattle.laws.specs.Slices.{below_or, same_or, sets_front, part_sets, part_sets_before, drop_end}
use Rattle.rules.specs.Text.{Bytes, Reading, refused, accepted, max_bytes}
use Rattle.rules.specs.Graph.{node_count, edge_count}
use Rattle.rules.specs.ProgramFile.{Listing, read_listing}
use Rattle.rules.specs.WriteBack.{other_alone}
use Rattle.rules.specs.SuiteFile.{TestListing, test_count}
use Rattle.rules.specs.Job.{Outcome, Request as Asked, Span, Version, by_side, has_node, label_part, label_shown, label_span, call_request, nowhere, of_stage, outcome, packed_span, call_tests, refusal, serving, span_shown, stage_after}
use Rattle.rules.specs.Kept.{Sound}
use Rattle.std.specs.Prelude.{None, Some, Ok, Err}
use Rattle.std.proofs.lemmas.Option.{none-some, same_Some}
use Rattle.answer.specs.declared.Refusal.{Refusal}
use Rattle.answer.specs.Refusals.{Answer, fault_number, fault_some, told}
use Rattle.reader.specs.declared.Counts.{Counts as Program}
use Rattle.answer.specs.Outcomes.{Told, packing, packing_fits, packs, refusal_told, told_as}
use Rattle.reader.specs.Result.{Count, Small}
use Rattle.writeback.proofs.BackLaws.{back_agrees}
use Rattle.suite.specs.Tables.{Tests, tests}
use Rattle.versions.specs.Memory.{InMemory, Memory, memory}
use Rattle.intake.specs.declared.Counts.{Counts}
use Rattle.intake.specs.Ready.{Few, Ready}
use Rattle.work.specs.Work.{Done}
use Rattle.requests.specs.Requests.{Served}
use Rattle.records.specs.declared.Job.{Job}
use Rattle.records.specs.declared.Node.{Node}
use Rattle.records.specs.Jobs.{same_job}
use Rattle.records.specs.Nodes.{flat}
use Rattle.records.specs.NodeLaws.{flat_append, flat_length}
use Rattle.lent_job.specs.Held.{AllRead, Lent, counted, held_tests, job_at, job_tests, left_by, lent, long_enough, numbers, suite_left, version_left}
use Rattle.held.specs.Left.{count_small, count_left, read_left}
use Rattle.lent_job.proofs.HeldLaws.{front_left, held_tests_parts, suite_accepted, suite_few, suite_holds, version_memory, version_sound}
use Rattle.records.specs.Shown.{part_shown}
use Rattle.job_calls.specs.declared.Label.{Label}
use Rattle.job_calls.specs.declared.Held.{Held}
use Rattle.lent_job.specs.Calls.{Called, Found, Kept, LentJob, Shown, given_by, goes_by, goes_held, held, held_back, holding, label_part_call, label_span_call, lent_call, lent_job, limited, new_count, old_count, others_alone, request_scratch, shown_by, span_by, takes_parts, text_back, version_of, written_back}
use Rattle.job_calls.specs.Loaded.{BackAnswer, CalledOn, Due, HeldAnswer, SpanIs, counts_by, due_of, refused_due, lent_in, due_counts, label_by_side, label_of_node, loaded_job, no_label, suite_counts, unloaded}
use Rattle.lent_job.proofs.DueLaws.{due_cases}
use Rattle.lent_job.proofs.Answers.{labels_few, lent_plain}

-- ---- `suite_due`

module _ (j : Job) (o p : Program) where
  pub suite_stop : (x : Option TestListing) → None ≡ read_left x → refused_due 14 0 ≡ suite_counts j o p x
  unfolding read_left suite_counts
  suite_stop none e = refl
  suite_stop (some l) e = absurd (none-some (test_count l.suite) e)

  module _ (n : ℕ) (u : Bool)
      (d : u ≡ same_job j (record { stage = 3; old_procs = o.procs; old_nodes = o.nodes; old_edges = o.edges; new_procs = p.procs; new_nodes = p.nodes; new_edges = p.edges; tests = n })) where
    same_is : (l : TestListing) → Some n ≡ read_left (some l) → u ≡ same_job j (job_at (stage_after call_tests) o p (test_count l.suite))
    unfolding read_left stage_after
    same_is l e =
        d
        ∙ ap (λ (m : ℕ). same_job j (record { stage = 3; old_procs = o.procs; old_nodes = o.nodes; old_edges = o.edges; new_procs = p.procs; new_nodes = p.nodes; new_edges = p.edges; tests = m }))
        (same_Some n (test_count l.suite) e)

    pub suite_goes : (x : Option TestListing) → Some n ≡ read_left x → u ≡ true
        → record { number = 0; place = 0; counts = record { old_nodes = o.nodes; old_edges = o.edges; new_nodes = p.nodes; new_edges = p.edges; tests = n } } ≡ suite_counts j o p x
    unfolding read_left suite_counts choose counts_by
    suite_goes none e y = absurd (none-some n (sym e))
    suite_goes (some l) e y =
        ap (counts_by o p) (same_Some n (test_count l.suite) e) ∙ ap (λ (b : Bool). choose b (counts_by o p (test_count l.suite)) (refused_due 14 0)) (sym y ∙ same_is l e)

    pub suite_other : (x : Option TestListing) → Some n ≡ read_left x → u ≡ false → refused_due 14 0 ≡ suite_counts j o p x
    unfolding read_left suite_counts choose
    suite_other none e y = refl
    suite_other (some l) e y = ap (λ (b : Bool). choose b (counts_by o p (test_count l.suite)) (refused_due 14 0)) (sym y ∙ same_is l e)

-- ---- `due`

due_last : (s s' : Listing) (l : TestListing) (u : Bool) → choose u (counts_by (counted s) (counted s') (test_count l.suite)) (refused_due 14 0)
    ≡ due_counts (after (choose u (some (record { old = s; new = s'; tests = l })) none) (refused 14 0) (λ h. accepted h))
unfolding choose counts_by due_counts
due_last s s' l true = refl
due_last s s' l false = refl

due_by : (j : Job) (s s' : Listing) (x : Option TestListing) → suite_counts j (counted s) (counted s') x
    ≡ due_counts (after (after x none (λ l. choose (same_job j (job_tests s s' l)) (some (record { old = s; new = s'; tests = l })) none)) (refused 14 0) (λ a. accepted a))
unfolding suite_counts due_counts job_tests
due_by j s s' none = refl
due_by j s s' (some l) = due_last s s' l (same_job j (job_tests s s' l))

-- A version that is not left, and one that is, as its counts.
none_left : (x : Option Listing) → None ≡ count_left x → x ≡ none
unfolding count_left
none_left none e = refl
none_left (some s) e = absurd (none-some (counted s) e)

some_left : (x : Option Listing) (c : Program) → Some c ≡ count_left x → (s : Listing) × (x ≡ some s) × (c ≡ counted s)
unfolding count_left
some_left none c e = absurd (none-some c (sym e))
some_left (some s) c e = (s, refl, same_Some c (counted s) e)

module _ (h : Held) (n : ℕ) where
  abbrev this_job : LentJob
  this_job = lent_in h n

  abbrev old_lent : Lent
  old_lent = numbers h.old.room h.old.text.now h.old.nodes.now h.old.links.now

  abbrev new_lent : Lent
  new_lent = numbers h.new.room h.new.text.now h.new.nodes.now h.new.links.now

  abbrev tests_lent : (edges : ℕ) → Option TestListing
  tests_lent edges = suite_left edges h.tests.text.now h.tests.names.now h.tests.rows.now

  pub due_stage : (h.job.stage ≡ 3 → ⊥) → refused_due 13 0 ≡ due_counts (goes_held this_job)
  unfolding goes_by of_stage choose due_counts
  due_stage z = simp (ne_eqb _ _ z)

  module _ (st : h.job.stage ≡ 3) where
    pub due_short : n < request_scratch → refused_due 14 0 ≡ due_counts (goes_held this_job)
    unfolding goes_by of_stage choose due_counts
    due_short l = simp (eq-eqb _ _ st, lt-leb request_scratch n l)

    module _ (room : request_scratch ≤ n) where
      goes_held_lem : (x : Option AllRead) → held_tests h.job old_lent new_lent h.tests.text.now h.tests.names.now h.tests.rows.now ≡ x → goes_held this_job ≡ after x (refused 14 0) (λ a. accepted a)
      unfolding goes_by of_stage choose
      goes_held_lem x e = simp (eq-eqb _ _ st, le-leb request_scratch n room, e)

      held_none : held_tests h.job old_lent new_lent h.tests.text.now h.tests.names.now h.tests.rows.now ≡ none → refused_due 14 0 ≡ due_counts (goes_held this_job)
      unfolding due_counts
      held_none e = sym (ap due_counts (goes_held_lem none e))

      pub due_old : (v : Memory) → v ≡ memory h.old.text.now h.old.nodes.now h.old.links.now → None ≡ count_left (version_left (numbers h.old.room v.text v.nodes v.links))
          → refused_due 14 0 ≡ due_counts (goes_held this_job)
      unfolding held_tests
      due_old v q e =
          held_none (simp (none_left (version_left old_lent) (subst (λ (m : Memory). None ≡ count_left (version_left (numbers h.old.room m.text m.nodes m.links))) q e)))

      module _ (v : Memory) (q : v ≡ memory h.old.text.now h.old.nodes.now h.old.links.now) (o : Program) (e : Some o ≡ count_left (version_left (numbers h.old.room v.text v.nodes v.links))) where
        old_is : (s : Listing) × (version_left old_lent ≡ some s) × (o ≡ counted s)
        old_is = some_left (version_left old_lent) o (subst (λ (m : Memory). Some o ≡ count_left (version_left (numbers h.old.room m.text m.nodes m.links))) q e)

        pub due_new : (v' : Memory) → v' ≡ memory h.new.text.now h.new.nodes.now h.new.links.now → None ≡ count_left (version_left (numbers h.new.room v'.text v'.nodes v'.links))
            → refused_due 14 0 ≡ due_counts (goes_held this_job)
        unfolding held_tests
        due_new v' q' e' =
            held_none
            (simp (old_is.1, none_left (version_left new_lent) (subst (λ (m : Memory). None ≡ count_left (version_left (numbers h.new.room m.text m.nodes m.links))) q' e')))

        pub due_edges : o.edges ≤ 1024
        due_edges = (count_small (numbers h.old.room v.text v.nodes v.links) o e).few_edges

        pub due_done : (v' : Memory) → v' ≡ memory h.new.text.now h.new.nodes.now h.new.links.now
            → (p : Program) → Some p ≡ count_left (version_left (numbers h.new.room v'.text v'.nodes v'.links))
            → (r : Due) → r ≡ suite_counts h.job o p (tests_lent o.edges) → r ≡ due_counts (goes_held this_job)
        unfolding held_tests
        due_done v' q' p e' r er =
            let a = old_is in
            let b = some_left (version_left new_lent) p (subst (λ (m : Memory). Some p ≡ count_left (version_left (numbers h.new.room m.text m.nodes m.links))) q' e') in
            er ∙ ap₂ (λ (x y : Program). suite_counts h.job x y (tests_lent x.edges)) a.2 b.2
            ∙ due_by h.job a.0 b.0 (tests_lent (edge_count a.0.program))
            ∙ sym (ap due_counts (goes_held_lem (after (tests_lent (edge_count a.0.program)) none (λ l. choose (same_job h.job (job_tests a.0 b.0 l)) (some (record { old = a.0; new = b.0; tests = l })) none)) (simp (a.1, b.1))))

pub ruleset dues = (suite_stop, suite_goes, suite_other, due_stage, due_short, due_old, due_new, due_edges, due_done)

-- ---- what is held

-- The memories of what is held are ready, and its counts are within their limits.
module _ (k : LentJob) (h : AllRead) (had : held k ≡ some h) where
  parts : (version_left k.old ≡ some h.old) × (version_left k.new ≡ some h.new) × (suite_left (edge_count h.old.program) k.tests_text k.tests k.rows ≡ some h.tests)
  parts = let p = held_tests_parts k.job k.old k.new k.tests_text k.tests k.rows h had in (p.0, p.1, p.2)

  old_few : Sound h.old.program
  old_few = version_sound k.old h.old parts.0

  new_few : Sound h.new.program
  new_few = version_sound k.new h.new parts.1

  pub held_few : Few (due_counts (accepted h)).counts
  unfolding due_counts
  held_few =
      record {
        few_old_nodes = old_few.few_nodes;
        few_old_edges = old_few.few_edges;
        few_new_nodes = new_few.few_nodes;
        few_new_edges = new_few.few_edges;
        few_tests = suite_few (edge_count h.old.program) k.tests_text k.tests k.rows h.tests parts.2;
      }

  pub held_ready : 2048 ≤ length k.old.nodes → 2048 ≤ length k.new.nodes
      → Ready (memory k.old.text k.old.nodes k.old.links) (memory k.new.text k.new.nodes k.new.links) k.tests_text k.tests k.rows (due_counts (accepted h)).counts (given_by h)
  unfolding due_counts
  held_ready a b =
      let l = suite_accepted (edge_count h.old.program) k.tests_text k.tests k.rows h.tests parts.2 in
      record {
        o = h.old;
        p = h.new;
        l = h.tests;
        old_in = version_memory k.old h.old parts.0 a;
        new_in = version_memory k.new h.new parts.1 b;
        tests_read = l;
        tests_in = suite_holds (edge_count h.old.program) k.tests_text k.tests k.rows h.tests parts.2 old_few.few_edges;
        given_is = refl;
        old_nodes_n = refl;
        old_edges_n = refl;
        new_nodes_n = refl;
        new_edges_n = refl;
      }

refused_due_lem : (q p : ℕ) → due_counts (refused q p) ≡ refused_due q p
unfolding due_counts
refused_due_lem q p = refl

accepted_number : (h : AllRead) → (due_counts (accepted h)).number ≡ 0
unfolding due_counts
accepted_number h = refl

few_none : (n q : ℕ) → Few (refused_due n q).counts
few_none n q = record { few_old_nodes = omega arith; few_old_edges = omega arith; few_new_nodes = omega arith; few_new_edges = omega arith; few_tests = omega arith }

module _ (k : LentJob) (had : Due) (eh : had ≡ due_counts (goes_held k)) where
  pub due_few : Few had.counts
  due_few =
      due_cases k (held k) (λ n b c e. subst (λ (t : Due). Few t.counts) (sym (eh ∙ ap due_counts e ∙ refused_due_lem n 0)) (few_none n 0)) (λ h e room x. subst (λ (t : Due). Few t.counts) (sym (eh ∙ ap due_counts e)) (held_few k h x))

  due_room : had.number ≡ 0 → request_scratch ≤ k.scratch
  due_room z =
      due_cases k (held k)
      (λ n c d e. absurd (let v : ⊥ = omega (arith, z, c, ap (λ (t : Due). t.number) (eh ∙ ap due_counts e ∙ refused_due_lem n 0)) in v))
      (λ h e room x. room)

  pub due_asks : had.number ≡ 0 → (had.counts.old_nodes ≤ 512) × (had.counts.new_nodes ≤ 512) × (had.counts.old_edges ≤ 1024) × (had.counts.tests ≤ 200) × (request_scratch ≤ k.scratch)
  due_asks z = (due_few.few_old_nodes, due_few.few_new_nodes, due_few.few_old_edges, due_few.few_tests, due_room z)

  -- A refusal is the answer, whatever follows.
  due_stops : (f : AllRead → Outcome) → (had.number ≡ 0 → ⊥) → outcome (goes_held k) f ≡ refusal had.number had.place
  unfolding outcome
  due_stops f z =
      due_cases k (held k)
      (λ n b c e. ap (λ (x : Reading AllRead). outcome x f) e ∙ sym (ap (λ (t : Due). refusal t.number t.place) (eh ∙ ap due_counts e ∙ refused_due_lem n 0)))
      (λ h e room x. absurd (z (ap (λ (t : Due). t.number) (eh ∙ ap due_counts e) ∙ accepted_number h)))

  -- Else what follows is the answer.
  due_goes : (f : AllRead → Outcome) (P : Outcome → Type 0) → had.number ≡ 0 → 2048 ≤ length k.old.nodes → 2048 ≤ length k.new.nodes
      → ((h : AllRead) → request_scratch ≤ k.scratch → Ready (memory k.old.text k.old.nodes k.old.links) (memory k.new.text k.new.nodes k.new.links) k.tests_text k.tests k.rows had.counts (given_by h) → P (f h))
      → P (outcome (goes_held k) f)
  unfolding outcome
  due_goes f P z a b go =
      due_cases k (held k)
      (λ n c d e. absurd (let v : ⊥ = omega (arith, z, c, ap (λ (t : Due). t.number) (eh ∙ ap due_counts e ∙ refused_due_lem n 0)) in v))
      (λ h e room x.
      let r = subst (λ (t : Due). Ready (memory k.old.text k.old.nodes k.old.links) (memory k.new.text k.new.nodes k.new.links) k.tests_text k.tests k.rows t.counts (given_by h)) (sym (eh ∙ ap due_counts e)) (held_ready k h x a b) in
      subst P (sym (ap (λ (x : Reading AllRead). outcome x f) e)) (go h room r))

-- The counts of a suite in memory beside those of the programs.
pub few_with : (c : Counts) (t : Tests) (text : Bytes) (names rows : List ℕ) → t ≡ tests text names rows c.tests → Few c
    → Few (record { old_nodes = c.old_nodes; old_edges = c.old_edges; new_nodes = c.new_nodes; new_edges = c.new_edges; tests = t.count })
few_with c t text names rows q f =
    subst (λ (m : Tests). Few (record { old_nodes = c.old_nodes; old_edges = c.old_edges; new_nodes = c.new_nodes; new_edges = c.new_edges; tests = m.count })) (sym q) f

-- A slice of the same length is as wide.
pub wide : (asked n m : ℕ) → asked ≤ n → m ≡ n → asked ≤ m
wide asked n m h e = omega arith

-- ---- the numbers of the nodes, out of the scratch

pub unloads : (w z r d : List ℕ) (k : ℕ) → z ≡ replicate 2048 0 → r ≡ take 2048 (drop k w) → d ≡ sets z 0 r → d ≡ unloaded k w
unfolding unloaded
unloads w z r d k ez er ed = ed ∙ ap₂ (λ (a b : List ℕ). sets a 0 b) ez er

unloaded_wide : (k : ℕ) (w l : List ℕ) → l ≡ unloaded k w → 2048 ≤ length l
unfolding unloaded
unloaded_wide k w l e = omega (arith, ap length e, length-sets (replicate 2048 0) 0 (take 2048 (drop k w)), length-replicate {A = ℕ} 2048 0)

module _ (j : Job) (olds : ℕ) (ot on ol : List ℕ) (news : ℕ) (nt nn nl tt tests rows w : List ℕ) (eo : on ≡ unloaded 0 w) (en : nn ≡ unloaded 2048 w) where
  abbrev the_job : LentJob
  the_job = lent_job j (numbers olds ot on ol) (numbers news nt nn nl) tt tests rows (length w)

  is_loaded : the_job ≡ loaded_job j olds ot ol news nt nl tt tests rows w
  is_loaded = ap₂ (λ (a b : List ℕ). lent_job j (numbers olds ot a ol) (numbers news nt b nl) tt tests rows (length w)) eo en

  wide_old : 2048 ≤ length on
  wide_old = unloaded_wide 0 w on eo

  wide_new : 2048 ≤ length nn
  wide_new = unloaded_wide 2048 w nn en

-- ---- `call_held`

module _ (q : Asked) (k : LentJob) (input : Bytes) where
  pub held_stop : (out : Bytes) (e : Refusal) → due_of (Err e) ≡ due_counts (goes_held k) → HeldAnswer q k input out (told (Err e)) out
  unfolding HeldAnswer
  held_stop out e eh =
      told_as (due_stops k (due_of (Err e)) eh _ (λ z. let y : ⊥ = omega (arith, z, fault_some e.fault) in y)) (refusal_told (fault_number e.fault) e.place out)

  pub held_goes : (c : Counts) → due_of (Ok c) ≡ due_counts (goes_held k) → 2048 ≤ length k.old.nodes → 2048 ≤ length k.new.nodes
      → (v v' : Memory) → v ≡ memory k.old.text k.old.nodes k.old.links → v' ≡ memory k.new.text k.new.nodes k.new.links → (t : Tests) → t ≡ tests k.tests_text k.tests k.rows c.tests
      → (w w' out out' : List ℕ) (r : Answer)
      → Done w w' out out' (Served q v v' t.text t.names t.rows (record { old_nodes = c.old_nodes; old_edges = c.old_edges; new_nodes = c.new_nodes; new_edges = c.new_edges; tests = t.count }) input out r out')
      → HeldAnswer q k input out r out'
  unfolding HeldAnswer Served
  held_goes c eh a b v v' qv qv' t qt w w' out out' r d =
      due_goes k (due_of (Ok c)) eh _ (λ x. Told x r out out') refl a b (λ h room y. d.claim (given_by h)
      (subst (λ (m : Memory). Ready m v' t.text t.names t.rows (record { old_nodes = c.old_nodes; old_edges = c.old_edges; new_nodes = c.new_nodes; new_edges = c.new_edges; tests = t.count }) (given_by h)) (sym qv)
      (subst (λ (m : Memory). Ready (memory k.old.text k.old.nodes k.old.links) m t.text t.names t.rows (record { old_nodes = c.old_nodes; old_edges = c.old_edges; new_nodes = c.new_nodes; new_edges = c.new_edges; tests = t.count }) (given_by h)) (sym qv')
      (subst (λ (m : Tests). Ready (memory k.old.text k.old.nodes k.old.links) (memory k.new.text k.new.nodes k.new.links) m.text m.names m.rows (record { old_nodes = c.old_nodes; old_edges = c.old_edges; new_nodes = c.new_nodes; new_edges = c.new_edges; tests = m.count }) (given_by h)) (sym qt) y))))

-- ---- `call_in`

-- The answer of the job with its scratch loaded.
module _ (j : Job) (olds : ℕ) (ot on ol : List ℕ) (news : ℕ) (nt nn nl tt tests rows w : List ℕ) (eo : on ≡ unloaded 0 w) (en : nn ≡ unloaded 2048 w) (q : Asked) (input out out' : Bytes) (r : Answer) where
  abbrev call_job : LentJob
  call_job = the_job j olds ot on ol news nt nn nl tt tests rows w eo en

  loaded_told : Told (lent_call q call_job input (length out)) r out out' → Told (lent_call q (loaded_job j olds ot ol news nt nl tt tests rows w) input (length out)) r out out'
  loaded_told t = subst (λ (k : LentJob). Told (lent_call q k input (length out)) r out out') (is_loaded j olds ot on ol news nt nn nl tt tests rows w eo en) t

  pub call_back : takes_parts q ≡ true → BackAnswer q call_job input out r out' → Told (lent_call q (loaded_job j olds ot ol news nt nl tt tests rows w) input (length out)) r out out'
  unfolding lent_call holding BackAnswer
  call_back e t = loaded_told (told_as (ap (λ (x : Option AllRead). outcome (goes_by call_job x) (λ h. serving q (given_by h) input (length out))) (choose_yes _ _ e)) t)

  pub call_held : takes_parts q ≡ false → HeldAnswer q call_job input out r out' → Told (lent_call q (loaded_job j olds ot ol news nt nl tt tests rows w) input (length out)) r out out'
  unfolding lent_call holding HeldAnswer
  call_held e t = loaded_told (told_as (ap (λ (x : Option AllRead). outcome (goes_by call_job x) (λ h. serving q (given_by h) input (length out))) (choose_no _ _ e)) t)

-- ---- `label_at`, `label_of`

pub label_none : (count n : ℕ) (nodes : List ℕ) → count ≤ n → record { start = 0; len = 0 } ≡ label_of_node count nodes n
unfolding label_of_node choose
label_none count n nodes h = simp (le-ltb n count h)

pub label_found : (count n : ℕ) (nodes : List ℕ) (a b : ℕ) → n < count → a ≡ get_or nodes (4 * n + 1) 0 → b ≡ get_or nodes (4 * n + 2) 0 → record { start = a; len = b } ≡ label_of_node count nodes n
unfolding label_of_node choose
label_found count n nodes a b h ea eb = rw (ea, eb) (simp (lt-ltb n count h))

module _ (side olds : ℕ) (on : List ℕ) (news : ℕ) (nn : List ℕ) (n : ℕ) where
  pub side_old : (r : Label) → side ≡ 0 → r ≡ label_of_node olds on n → r ≡ label_by_side side olds on news nn n
  unfolding label_by_side choose
  side_old r e q = q ∙ simp (eq-eqb _ _ e)

  pub side_new : (r : Label) → (side ≡ 0 → ⊥) → side ≡ 1 → r ≡ label_of_node news nn n → r ≡ label_by_side side olds on news nn n
  unfolding label_by_side choose
  side_new r z e q = q ∙ simp (ne_eqb _ _ z, eq-eqb _ _ e)

  pub side_none : (side ≡ 0 → ⊥) → (side ≡ 1 → ⊥) → record { start = 0; len = 0 } ≡ label_by_side side olds on news nn n
  unfolding label_by_side choose
  side_none z e = simp (ne_eqb _ _ z, ne_eqb _ _ e)

-- ---- `label_on`

abbrev span_of : Label → Span
span_of r = record { start = r.start; len = r.len }

-- The label of a node of a version in memory.
module _ (t nodes links : List ℕ) (s : Listing) (h : InMemory (memory t nodes links) s) (n : ℕ) where
  abbrev found : Label
  found = record { start = get_or nodes (4 * n + 1) 0; len = get_or nodes (4 * n + 2) 0 }

  span_fits : (u : Bool) → ltb n (node_count s.program) ≡ u → span_of (choose u found no_label) ≡ choose u (label_span (record { text = t; listing = s }) n) nowhere
  unfolding choose
  span_fits true e =
      let b : n < node_count s.program = ltb-true _ _ e in
      ap₂ (λ (x y : ℕ). record { start = y; len = x }) (h.nodes n b 2 (omega arith)) (h.nodes n b 1 (omega arith))
  span_fits false e = refl

  version_span : span_of (label_of_node (node_count s.program) nodes n) ≡ choose (has_node s.program n) (label_span (record { text = t; listing = s }) n) nowhere
  unfolding label_of_node has_node
  version_span = span_fits (ltb n (node_count s.program)) refl

module _ (t nodes links t' nodes' links' : List ℕ) (s s' : Listing) (h : InMemory (memory t nodes links) s) (h' : InMemory (memory t' nodes' links') s') (n : ℕ) where
  span_side : (side : ℕ) → span_of (label_by_side side (node_count s.program) nodes (node_count s'.program) nodes' n) ≡ span_shown (record { text = t; listing = s }) (record { text = t'; listing = s' }) side n
  unfolding label_by_side span_shown by_side choose
  span_side zero = version_span t nodes links s h n
  span_side (suc zero) = version_span t' nodes' links' s' h' n
  span_side (suc (suc m)) =
      let a : eqb (suc (suc m)) 0 ≡ false = ne_eqb (suc (suc m)) 0 (λ e. let z : ⊥ = omega arith in z) in
      let b : eqb (suc (suc m)) 1 ≡ false = ne_eqb (suc (suc m)) 1 (λ e. let z : ⊥ = omega arith in z) in
      simp (a, b)

module _ (j : Job) (olds : ℕ) (ot on ol : List ℕ) (news : ℕ) (nt nn nl tt tests rows w : List ℕ) (eo : on ≡ unloaded 0 w) (en : nn ≡ unloaded 2048 w) (side n : ℕ) (had : Due)
    (eh : had ≡ due_counts (goes_held (the_job j olds ot on ol news nt nn nl tt tests rows w eo en))) where
  abbrev label_job : LentJob
  label_job = the_job j olds ot on ol news nt nn nl tt tests rows w eo en

  -- The same, of the job with its scratch loaded.
  span_loaded : (r : Label) → span_of r ≡ span_by (goes_held label_job) label_job side n → SpanIs (label_span_call (loaded_job j olds ot ol news nt nl tt tests rows w) side n) r
  unfolding label_span_call
  span_loaded r e =
      let z = e ∙ ap (λ (k : LentJob). span_by (goes_held k) k side n) (is_loaded j olds ot on ol news nt nn nl tt tests rows w eo en) in
      record { start_is = ap (λ (x : Span). x.start) z; len_is = ap (λ (x : Span). x.len) z }

  pub label_stop : (had.number ≡ 0 → ⊥) → SpanIs (label_span_call (loaded_job j olds ot ol news nt nl tt tests rows w) side n) (record { start = 0; len = 0 })
  unfolding span_by
  label_stop z =
      span_loaded _ (due_cases label_job (held label_job)
      (λ m b c e. sym (ap (λ (x : Reading AllRead). span_by x label_job side n) e))
      (λ h e room x. absurd (z (ap (λ (t : Due). t.number) (eh ∙ ap due_counts e) ∙ accepted_number h))))

  counts_at : (h : AllRead) → ((due_counts (accepted h)).counts.old_nodes ≡ node_count h.old.program) × ((due_counts (accepted h)).counts.new_nodes ≡ node_count h.new.program)
  unfolding due_counts
  counts_at h = (refl, refl)

  pub label_goes : (r : Label) → had.number ≡ 0 → r ≡ label_by_side side had.counts.old_nodes on had.counts.new_nodes nn n → SpanIs (label_span_call (loaded_job j olds ot ol news nt nl tt tests rows w) side n) r
  unfolding span_by
  label_goes r z er =
      span_loaded r (due_cases label_job (held label_job)
      (λ m c d e. absurd (let v : ⊥ = omega (arith, z, c, ap (λ (t : Due). t.number) (eh ∙ ap due_counts e ∙ refused_due_lem m 0)) in v))
      (λ h e room x.
      let p = parts label_job h x in
      let a : had.counts.old_nodes ≡ node_count h.old.program = ap (λ (t : Due). t.counts.old_nodes) (eh ∙ ap due_counts e) ∙ (counts_at h).0 in
      let b : had.counts.new_nodes ≡ node_count h.new.program = ap (λ (t : Due). t.counts.new_nodes) (eh ∙ ap due_counts e) ∙ (counts_at h).1 in
      ap span_of (er ∙ ap₂ (λ (x y : ℕ). label_by_side side x on y nn n) a b)
      ∙ span_side ot on ol nt nn nl h.old h.new (version_memory label_job.old h.old p.0 (wide_old j olds ot on ol news nt nn nl tt tests rows w eo en))
      (version_memory label_job.new h.new p.1 (wide_new j olds ot on ol news nt nn nl tt tests rows w eo en)) n side
      ∙ sym (ap (λ (x : Reading AllRead). span_by x label_job side n) e)))

-- ---- the part that stands there

module _ (k : LentJob) (side n : ℕ) where
  part_nowhere : part_shown k.old.text k.new.text side 0 0 ≡ []
  unfolding part_shown choose
  part_nowhere = same_or side 0 (λ e. simp (eq-eqb _ _ e)) (λ z. same_or side 1 (λ e. simp (ne_eqb _ _ z, eq-eqb _ _ e)) (λ e. simp (ne_eqb _ _ z, ne_eqb _ _ e)))

  abbrev part_at : Span → Bytes
  part_at s = part_shown k.old.text k.new.text side s.start s.len

  chosen : (v : Version) (u : Bool) → take (choose u (label_span v n) nowhere).len (drop (choose u (label_span v n) nowhere).start v.text) ≡ choose u (label_part v n) []
  unfolding choose label_part
  chosen v true = refl
  chosen v false = refl

  part_old : side ≡ 0 → (s : Span) → part_at s ≡ take s.len (drop s.start k.old.text)
  unfolding part_shown choose
  part_old e s = simp (eq-eqb side 0 e)

  part_new : side ≡ 1 → (s : Span) → part_at s ≡ take s.len (drop s.start k.new.text)
  unfolding part_shown choose
  part_new e s = simp (ne_eqb side 0 (λ z. let y : ⊥ = omega arith in y), eq-eqb side 1 e)

  part_shown_lem : (o p : Listing) (m : ℕ) → side ≡ m → part_at (span_shown (version_of k.old o) (version_of k.new p) m n) ≡ label_shown (version_of k.old o) (version_of k.new p) m n
  unfolding span_shown label_shown by_side
  part_shown_lem o p zero e = part_old e (choose (has_node o.program n) (label_span (version_of k.old o) n) nowhere) ∙ chosen (version_of k.old o) (has_node o.program n)
  part_shown_lem o p (suc zero) e = part_new e (choose (has_node p.program n) (label_span (version_of k.new p) n) nowhere) ∙ chosen (version_of k.new p) (has_node p.program n)
  part_shown_lem o p (suc (suc m)) e = part_nowhere

  part_by : (x : Reading AllRead) → part_at (span_by x k side n) ≡ shown_by x k side n
  unfolding span_by shown_by
  part_by (refused q p) = part_nowhere
  part_by (accepted h) = part_shown_lem h.old h.new side refl

  part_found_lem : (r : Label) (part : Bytes) → SpanIs (label_span_call k side n) r → part ≡ part_shown k.old.text k.new.text side r.start r.len → part ≡ label_part_call k side n
  unfolding label_span_call label_part_call
  part_found_lem r part e ep = ep ∙ ap₂ (λ (a b : ℕ). part_shown k.old.text k.new.text side a b) e.start_is e.len_is ∙ part_by (goes_held k)

-- ---- the outer functions: the scratch is zero

pub on_zero : (n m : ℕ) (w₂ : List ℕ) → m ≡ n → w₂ ≡ replicate m 0 → w₂ ≡ replicate n 0
on_zero n m w₂ e q = q ∙ ap (λ (k : ℕ). replicate k 0) e

pub on_called : (q p : Asked) (k : LentJob) (input : Bytes) (a : Answer) (w : List ℕ) (m : ℕ) (w₂ out out' : List ℕ) → q ≡ p → Told (lent_call q k input (length out)) a out out' → m ≡ length w → w₂ ≡ replicate m 0
    → CalledOn (lent_call p k input (length out)) a w w₂ out out'
on_called q p k input a w m w₂ out out' eq t e z =
    record { told = subst (λ (x : Asked). Told (lent_call x k input (length out)) a out out') eq t; scratch_is = on_zero (length w) m w₂ e z }

pub ruleset labels = (label_none, label_found, side_old, side_new, side_none, label_stop, label_goes)

-- ---- the calls: what is lent is what the scratch was loaded with

-- Numbers that fill their table are the table.
pub fill : (t l : List ℕ) → length l ≡ length t → sets t 0 l ≡ l
fill t l e = sets_front t l (omega (arith, e)) ∙ ap (λ (x : List ℕ). l ++ x) (drop_end t (length l) (omega (arith, e))) ∙ append-nil l

-- Numbers that were stored at the place k are those unloaded from there.
unloads_stored : (l w : List ℕ) (k : ℕ) → length l ≡ 2048 → k + 2048 ≤ length w → unloaded k (sets w k l) ≡ l
unfolding unloaded
unloads_stored l w k e h =
    let t : take 2048 (drop k (sets w k l)) ≡ l = ap (λ (n : ℕ). take n (drop k (sets w k l))) (sym e) ∙ part_sets l w k (omega (arith, e, h)) in
    ap (λ (x : List ℕ). sets (replicate 2048 0) 0 x) t ∙ fill (replicate 2048 0) l (e ∙ sym (length-replicate {A = ℕ} 2048 0))

module _ (on nn : List Node) (w w₁ : List ℕ) (loaded : w₁ ≡ sets (sets w 0 (flat (take 512 on))) 2048 (flat (take 512 nn))) (long : 4096 ≤ length w) where
  flat_front : (n : List Node) → 512 ≤ length n → length (flat (take 512 n)) ≡ 2048
  flat_front n h = omega (arith, flat_length (take 512 n), length-take-le 512 n h)

  abbrev w₀ : List ℕ
  w₀ = sets w 0 (flat (take 512 on))

  old_unloaded : 512 ≤ length on → unloaded 0 w₁ ≡ flat (take 512 on)
  unfolding unloaded
  old_unloaded h =
      ap (unloaded 0) loaded
      ∙ ap (λ (x : List ℕ). sets (replicate 2048 0) 0 x) (part_sets_before (flat (take 512 nn)) w₀ 2048 0 2048 (omega arith))
      ∙ unloads_stored (flat (take 512 on)) w 0 (flat_front on h) (omega arith)

  new_unloaded : 512 ≤ length nn → unloaded 2048 w₁ ≡ flat (take 512 nn)
  new_unloaded h =
      ap (unloaded 2048) loaded ∙ unloads_stored (flat (take 512 nn)) w₀ 2048 (flat_front nn h) (omega (arith, length-sets w 0 (flat (take 512 on))))

  old_held : (t : Bytes) (l : List ℕ) → version_left (numbers (length on) t (unloaded 0 w₁) l) ≡ version_left (lent t on l)
  old_held t l = front_left t on l (unloaded 0 w₁) old_unloaded

  new_held : (t : Bytes) (l : List ℕ) → version_left (numbers (length nn) t (unloaded 2048 w₁) l) ≡ version_left (lent t nn l)
  new_held t l = front_left t nn l (unloaded 2048 w₁) new_unloaded

-- Numbers that were loaded agree with those of the records.
loaded_agree : (n : List Node) (l : List ℕ) → 512 ≤ length n → l ≡ flat (take 512 n) → (i : ℕ) → i < 2048 → get_or l i 0 ≡ get_or (flat n) i 0
loaded_agree n l h e i b =
    let f : flat n ≡ flat (take 512 n) ++ flat (drop 512 n) = ap flat (sym (take-append-drop 512 n)) ∙ flat_append (take 512 n) (drop 512 n) in
    ap (λ (x : List ℕ). get_or x i 0) e
    ∙ sym (ap (λ (x : List ℕ). get_or x i 0) f ∙ get_or-append (flat (take 512 n)) (flat (drop 512 n)) 0 i (omega (arith, b, flat_length (take 512 n), length-take-le 512 n h)))

limited_small : (p n e : ℕ) → Small (limited p n e)
limited_small p n e = record { few_procs = omega arith; few_nodes = omega arith; few_edges = omega arith }

pub limit_small : (c : Count) (p n e : ℕ) → c ≡ limited p n e → Small c
limit_small c p n e d = subst Small (sym d) (limited_small p n e)

-- Where fewer than 512 records are lent of a version nothing is held, whatever the texts.
short_left : (v : Lent) → v.room < 512 → version_left v ≡ none
unfolding version_left left_by long_enough ◌and◌ choose
short_left v h = go (read_listing v.text)
  where
    go : (x : Reading Listing) → left_by x v ≡ none
    go (refused k p) = refl
    go (accepted s) = simp (lt-leb 512 v.room h)

module _ (j : Job) (v v' : Lent) (text t w : List ℕ) where
  short_old : v.room < 512 → held_tests j v v' text t w ≡ none
  unfolding held_tests
  short_old h = simp (short_left v h)

  short_new : v'.room < 512 → held_tests j v v' text t w ≡ none
  unfolding held_tests
  short_new h = go (version_left v)
    where
      go : (x : Option Listing) → after {B = Option AllRead} x none (λ o. after (version_left v') none (λ p. after (suite_left (edge_count o.program) text t w) none
          (λ l. choose (same_job j (job_tests o p l)) (some (record { old = o; new = p; tests = l })) none))) ≡ none
      go none = refl
      go (some o) = simp (short_left v' h)

none_held : (k : LentJob) → held (written_back k) ≡ none → held_back k ≡ none
unfolding held_back
none_held k e = ap (λ (x : Option AllRead). after x none (λ h. choose (others_alone k h) (some h) none)) e

module _ (j : Job) (ot : Bytes) (on : List Node) (ol nt : List ℕ) (nn : List Node) (nl tt tests rows w w₁ : List ℕ) (loaded : w₁ ≡ sets (sets w 0 (flat (take 512 on))) 2048 (flat (take 512 nn))) where
  abbrev job_loaded : LentJob
  job_loaded = loaded_job j (length on) ot ol (length nn) nt nl tt tests rows w₁

  abbrev job_lent : LentJob
  job_lent = lent_job j (lent ot on ol) (lent nt nn nl) tt tests rows (length w)

  long_same : length w₁ ≡ length w
  long_same = ap length loaded ∙ length-sets (sets w 0 (flat (take 512 on))) 2048 (flat (take 512 nn)) ∙ length-sets w 0 (flat (take 512 on))

  -- What is held is the same, by any texts.
  held_texts : (a b : Bytes) → 4096 ≤ length w
      → held_tests j (numbers (length on) a (unloaded 0 w₁) ol) (numbers (length nn) b (unloaded 2048 w₁) nl) tt tests rows ≡ held_tests j (lent a on ol) (lent b nn nl) tt tests rows
  unfolding held_tests
  held_texts a b h =
      ap₂ (λ (x y : Option Listing). after x none (λ o. after y none (λ p. after (suite_left (edge_count o.program) tt tests rows) none (λ l. choose (same_job j (job_tests o p l)) (some (record { old = o; new = p; tests = l })) none))))
      (old_held on nn w w₁ loaded h a ol) (new_held on nn w w₁ loaded h b nl)

  held_same : 4096 ≤ length w → held job_loaded ≡ held job_lent
  held_same = held_texts ot nt

  -- So are the texts that the tables write back, and what they hold.
  module _ (few_on : 512 ≤ length on) (few_nn : 512 ≤ length nn) (long : 4096 ≤ length w) where
    old_text : text_back job_loaded.old (old_count j) ≡ text_back job_lent.old (old_count j)
    unfolding text_back
    old_text = ap (take max_bytes) (back_agrees ot (unloaded 0 w₁) (flat on) ol (loaded_agree on (unloaded 0 w₁) few_on (old_unloaded on nn w w₁ loaded long few_on)) (old_count j) (limited_small _ _ _))

    new_text : text_back job_loaded.new (new_count j) ≡ text_back job_lent.new (new_count j)
    unfolding text_back
    new_text = ap (take max_bytes) (back_agrees nt (unloaded 2048 w₁) (flat nn) nl (loaded_agree nn (unloaded 2048 w₁) few_nn (new_unloaded on nn w w₁ loaded long few_nn)) (new_count j) (limited_small _ _ _))

    texts_same : held_back job_loaded ≡ held_back job_lent
    unfolding held_back written_back others_alone
    texts_same =
        ap₂ (λ (a b : Bytes). after (held_tests j (numbers (length on) a (unloaded 0 w₁) ol) (numbers (length nn) b (unloaded 2048 w₁) nl) tt tests rows) none
        (λ h. choose (other_alone ot a h.old and other_alone nt b h.new) (some h) none)) old_text new_text
        ∙ ap (λ (x : Option AllRead). after x none (λ h. choose (others_alone job_lent h) (some h) none)) (held_texts (text_back job_lent.old (old_count j)) (text_back job_lent.new (new_count j)) long)

  back_same : 4096 ≤ length w → held_back job_loaded ≡ held_back job_lent
  unfolding held_back written_back
  back_same long =
      below_or (length on) 512
      (λ b. none_held job_loaded (short_old _ _ _ _ _ _ b) ∙ sym (none_held job_lent (short_old _ _ _ _ _ _ b)))
      (λ b.
      below_or (length nn) 512
      (λ d. none_held job_loaded (short_new _ _ _ _ _ _ d) ∙ sym (none_held job_lent (short_new _ _ _ _ _ _ d)))
      (λ d. texts_same b d long))

  holding_same : (q : Asked) → 4096 ≤ length w → holding q job_loaded ≡ holding q job_lent
  unfolding holding
  holding_same q long = ap₂ (λ (x y : Option AllRead). choose (takes_parts q) x y) (back_same long) (held_same long)

  goes_same : (x y : Option AllRead) → (4096 ≤ length w → x ≡ y) → goes_by job_loaded x ≡ goes_by job_lent y
  unfolding goes_by choose
  goes_same x y same =
      below_or (length w) request_scratch
      (λ b. let b₁ : length w₁ < request_scratch = omega (arith, long_same) in simp (lt-leb request_scratch (length w) b, lt-leb request_scratch (length w₁) b₁))
      (λ b. ap₂ (λ (n : ℕ) (z : Option AllRead). choose (of_stage call_request j.stage) (choose (leb request_scratch n) (after z (refused 14 0) (λ g. accepted g)) (refused 14 0)) (refused 13 0)) long_same (same (omega (arith, b))))

  kept : (w₂ : List ℕ) → w₂ ≡ replicate (length w₁) 0 → Kept j j w w₂
  kept w₂ e = record { job_is = refl; scratch_is = e ∙ ap (λ (k : ℕ). replicate k 0) long_same }

  call_same : (q : Asked) (input : Bytes) (room : ℕ) → lent_call q job_loaded input room ≡ lent_call q job_lent input room
  unfolding lent_call
  call_same q input room = ap (λ (x : Reading AllRead). outcome x (λ h. serving q (given_by h) input room)) (goes_same (holding q job_loaded) (holding q job_lent) (holding_same q))

  -- `ry_job_call`
  pub call_is : (q : Asked) (input : Bytes) (a : Answer) (r : ℕ) (w₂ out out' : List ℕ) → CalledOn (lent_call q job_loaded input (length out)) a w₁ w₂ out out' → r ≡ packing a.number a.place
      → Called (lent_call q job_lent input (length out)) r j j w w₂ out out'
  call_is q input a r w₂ out out' h er =
      let e = call_same q input (length out) in
      let t : Told (lent_call q job_lent input (length out)) a out out' = subst (λ (x : Outcome). Told x a out out') e h.told in
      record { answer_is = er ∙ packs _ a (lent_plain q job_lent input (length out)) t.answered; output_is = t.output_is; kept = kept w₂ h.scratch_is }

  span_same : (side n : ℕ) → label_span_call job_loaded side n ≡ label_span_call job_lent side n
  unfolding label_span_call span_by
  span_same side n = go (goes_held job_loaded) ∙ ap (λ (x : Reading AllRead). span_by x job_lent side n) (goes_same (held job_loaded) (held job_lent) held_same)
    where
      go : (x : Reading AllRead) → span_by x job_loaded side n ≡ span_by x job_lent side n
      go (refused q p) = refl
      go (accepted h) = refl

  -- `ry_job_label`
  pub label_is : (side n : ℕ) (a : Label) (r : ℕ) (w₂ : List ℕ) → SpanIs (label_span_call job_loaded side n) a → w₂ ≡ replicate (length w₁) 0 → r ≡ packing a.start a.len
      → Found (label_span_call job_lent side n) r j j w w₂
  unfolding packed_span
  label_is side n a r w₂ h ew er =
      let z = labels_few job_lent side n in
      let e = span_same side n in
      let es : a.start ≡ (label_span_call job_lent side n).start = h.start_is ∙ ap (λ (x : Span). x.start) e in
      let el : a.len ≡ (label_span_call job_lent side n).len = h.len_is ∙ ap (λ (x : Span). x.len) e in
      record { span_is = er ∙ packing_fits a.start a.len (omega (arith, z.0, es)) (omega (arith, z.1, el)) ∙ ap₂ (λ (x y : ℕ). x * 4294967296 + y) es el; kept = kept w₂ ew }

  part_same : (side n : ℕ) → label_part_call job_loaded side n ≡ label_part_call job_lent side n
  unfolding label_part_call shown_by
  part_same side n = go (goes_held job_loaded) ∙ ap (λ (x : Reading AllRead). shown_by x job_lent side n) (goes_same (held job_loaded) (held job_lent) held_same)
    where
      go : (x : Reading AllRead) → shown_by x job_loaded side n ≡ shown_by x job_lent side n
      go (refused q p) = refl
      go (accepted h) = refl

  -- `label_shown`
  pub shown_is : (side n : ℕ) (a : Label) (r w₂ : List ℕ) → SpanIs (label_span_call job_loaded side n) a → w₂ ≡ replicate (length w₁) 0 → r ≡ part_shown ot nt side a.start a.len
      → Shown (label_part_call job_lent side n) r j j w w₂
  shown_is side n a r w₂ h ew er = record { part_is = part_found_lem job_loaded side n a r h er ∙ part_same side n; kept = kept w₂ ew }

pub ruleset calls = (limit_small, unloads, due_few, held_stop, held_goes, call_back, call_held, on_called)

pub ruleset all = (dues, labels, calls)
