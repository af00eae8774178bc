-- Reading the tests: the returns of the functions on values, and what is lent in records.
use mathlib.Core.Path.{◌≡◌, refl, sym, ap, ap₂, ◌∙◌, subst}
use mathlib.Core.Bool.{Bool, true, false}
use mathlib.Core.List.{List}
use mathlib.Core.Option.{Option, none, some}
use Prim.Native.Nat.{ℕ, ◌*◌, ◌≤◌}
use native.Mathlib.Omega.{arith}
use lib.ListN.{length, replicate, take, drop}
use lib.Seq.{sets, length-sets, length-take-le}
use borrow.Author.Tests.{eq-eqb, ne_eqb}
use Rattle.laws.specs.Tests.{after, choose}
use Rattle.laws.specs.Slices.{part_sets, part_sets_before}
use Rattle.rules.specs.Text.{Bytes, Reading, refused, accepted}
use Rattle.rules.specs.Graph.{edge_count}
use Rattle.rules.specs.ProgramFile.{Listing}
use Rattle.rules.specs.SuiteFile.{TestListing, read_tests}
use Rattle.rules.specs.Job.{of_stage, outcome, call_tests}
use Rattle.answer.specs.Outcomes.{packing, packs}
use Rattle.answer.specs.Refusals.{fault_number}
use Rattle.answer.specs.declared.Fault.{Fault}
use Rattle.answer.specs.declared.Refusal.{Refusal}
use Rattle.std.specs.Prelude.{Ok, Err, None, Some}
use Rattle.std.proofs.lemmas.Option.{same_Some}
use Rattle.reader.specs.declared.Counts.{Counts}
use Rattle.suite.specs.Reads.{read_of}
use Rattle.lent_tests.specs.Lent.{Leaves, ReadLent}
use Rattle.records.specs.declared.Job.{Job}
use Rattle.records.specs.declared.Node.{Node}
use Rattle.records.specs.Jobs.{same_job, job_same}
use Rattle.records.specs.Nodes.{flat}
use Rattle.records.specs.NodeLaws.{flat_length}
use Rattle.lent_job.specs.Held.{Lent, Versions, counted, numbers, lent, version_left, job_new, held_new}
use Rattle.held.specs.Left.{count_left}
use Rattle.lent_job.proofs.HeldLaws.{front_left, version_sound}
use Rattle.lent_job.specs.ReadOld.{past_due, roomy}
use Rattle.job.specs.Taken.{Moved, moved, with_old, old_part, new_part, MovedBy, TestsTaken}
use Rattle.lent_job.proofs.Answers.{tests_plain}
use Rattle.lent_job.proofs.ReadLaws.{none_due, roomy_parts}
use Rattle.lent_job.specs.ReadNew.{with_new}
use Rattle.lent_job.specs.ReadTests.{both_due, tests_due, suite_read, with_tests, tests_job, names_left, rows_left, ReadTests}
use Rattle.job.proofs.Laws.{due_chosen, fault_not}
use Rattle.job.proofs.NewLaws.{front_flat}

-- ---- `both_due`

fourteen : ◌≡◌ {A = ℕ} (choose false 0 14) 0 → ⊥
unfolding choose
fourteen z = let y : ⊥ = omega (arith, z) in y

few_edges : (o p : Listing) → edge_count o.program ≤ 1024 → (job_new o p).old_edges ≤ 1024
unfolding job_new
few_edges o p h = h

-- What is due by what is left of the two versions.
module _ (j : Job) where
  abbrev held_by : Option Listing → Option Listing → Option Versions
  held_by x y =
      after x none (λ (o : Listing). after y none (λ (p : Listing). choose (same_job j (job_new o p)) (some (record { old = o; new = p })) none))

  abbrev due_of : Option Listing → Option Listing → ℕ
  due_of x y = after (held_by x y) 14 (λ (h : Versions). 0)

  gone_old : (x y : Option Listing) → None ≡ count_left x → 14 ≡ due_of x y
  unfolding count_left
  gone_old none y e = refl
  gone_old (some o) y e = cc

  gone_new : (x y : Option Listing) → None ≡ count_left y → 14 ≡ due_of x y
  unfolding count_left
  gone_new none y e = refl
  gone_new (some o) none e = refl
  gone_new (some o) (some p) e = cc

  there : (x y : Option Listing) (c d : Counts) → Some c ≡ count_left x → Some d ≡ count_left y → choose (same_job j (with_new (with_old c) d)) 0 14 ≡ due_of x y
  unfolding count_left with_new with_old job_new
  there none y c d e q = cc
  there (some o) none c d e q = cc
  there (some o) (some p) c d e q =
      ap₂ (λ (a b : Counts). choose (same_job j (with_new (with_old a) b)) 0 14) (same_Some c (counted o) e) (same_Some d (counted p) q)
      ∙ due_chosen (record { old = o; new = p }) (same_job j (job_new o p))

  -- Where nothing is due the old program has as many edges as the job says.
  edges_of : (v : Lent) (x y : Option Listing) → version_left v ≡ x → due_of x y ≡ 0 → j.old_edges ≤ 1024
  edges_of v none y e h = absurd (let z : ⊥ = omega (arith, h) in z)
  edges_of v (some o) none e h = absurd (let z : ⊥ = omega (arith, h) in z)
  edges_of v (some o) (some p) e h = go (same_job j (job_new o p)) refl (due_chosen (record { old = o; new = p }) (same_job j (job_new o p)) ∙ h)
    where
      go : (u : Bool) → same_job j (job_new o p) ≡ u → ◌≡◌ {A = ℕ} (choose u 0 14) 0 → j.old_edges ≤ 1024
      go true q z = subst (λ (k : Job). k.old_edges ≤ 1024) (sym (job_same j (job_new o p) q)) (few_edges o p (version_sound v o e).few_edges)
      go false q z = absurd (fourteen z)

module _ (j : Job) (m : ℕ) (old : Bytes) (joins : List ℕ) (s : ℕ) (new : Bytes) (links y y' : List ℕ) where
  abbrev Old' : Lent
  Old' = numbers m old y joins

  abbrev New' : Lent
  New' = numbers s new y' links

  module _ (x : List ℕ) (ex : x ≡ y) where
    left_old : version_left (numbers m old x joins) ≡ version_left Old'
    left_old = ap (λ (a : List ℕ). version_left (numbers m old a joins)) ex

    pub old_gone : None ≡ count_left (version_left (numbers m old x joins)) → 14 ≡ both_due j Old' New'
    unfolding both_due held_new
    old_gone e = gone_old j (version_left Old') (version_left New') (e ∙ ap count_left left_old)

    module _ (c : Counts) (ec : Some c ≡ count_left (version_left (numbers m old x joins))) (x' : List ℕ) (ex' : x' ≡ y') where
      left_new : version_left (numbers s new x' links) ≡ version_left New'
      left_new = ap (λ (a : List ℕ). version_left (numbers s new a links)) ex'

      pub new_version_gone : None ≡ count_left (version_left (numbers s new x' links)) → 14 ≡ both_due j Old' New'
      unfolding both_due held_new
      new_version_gone e = gone_new j (version_left Old') (version_left New') (e ∙ ap count_left left_new)

      module _ (d : Counts) (ed : Some d ≡ count_left (version_left (numbers s new x' links))) (o : Job) (eo : o ≡ with_old c) (p : Job) (ep : p ≡ with_new o d) (b : Bool) (eb : b ≡ same_job j p) where
        settled : choose b 0 14 ≡ both_due j Old' New'
        unfolding both_due held_new
        settled =
            ap (λ (y : Bool). choose y 0 14) (eb ∙ ap (same_job j) (ep ∙ ap (λ (k : Job). with_new k d) eo))
            ∙ there j (version_left Old') (version_left New') c d (ec ∙ ap count_left left_old) (ed ∙ ap count_left left_new)

        pub both_none : b ≡ true → 0 ≡ both_due j Old' New'
        unfolding choose
        both_none q = ap (λ (v : Bool). choose v 0 14) (sym q) ∙ settled

        pub both_job : b ≡ false → 14 ≡ both_due j Old' New'
        unfolding choose
        both_job q = ap (λ (v : Bool). choose v 0 14) (sym q) ∙ settled

-- ---- `tests_due`

module _ (j : Job) (v v' : Lent) (n l w : ℕ) where
  pub tests_stage : (j.stage ≡ 2 → ⊥) → 13 ≡ tests_due j v v' n l w
  unfolding tests_due of_stage choose
  tests_stage h = simp (ne_eqb _ _ h)

  module _ (st : j.stage ≡ 2) (u : Bool) (e : u ≡ roomy 400 3200 n l w) where
    pub tests_long : (d : ℕ) → u ≡ true → d ≡ both_due j v v' → d ≡ tests_due j v v' n l w
    unfolding tests_due of_stage choose
    tests_long d t q = simp (eq-eqb _ _ st, ← e, t, q)

    pub tests_short : u ≡ false → 14 ≡ tests_due j v v' n l w
    unfolding tests_due of_stage choose
    tests_short t = simp (eq-eqb _ _ st, ← e, t)

  pub tests_edges : (due : ℕ) → due ≡ tests_due j v v' n l w → due ≡ 0 → j.old_edges ≤ 1024
  unfolding tests_due both_due held_new
  tests_edges due e z =
      edges_of j v (version_left v) (version_left v') refl (none_due (of_stage call_tests j.stage) (roomy 400 3200 n l w) (both_due j v v') (sym e ∙ z)).2

-- ---- `take_tests`

module _ (j : Job) (t w : List ℕ) where
  stopped : (e : Refusal) (a : Reading TestListing) → a ≡ refused (fault_number e.fault) e.place → MovedBy j a (moved j (Err e)) t t w w
  unfolding tests_job outcome names_left rows_left
  stopped e a q = subst (λ (x : Reading TestListing). MovedBy j x (moved j (Err e)) t t w w) (sym q) (record { moved = refl; tests_are = refl; rows_are = refl })

  read_by : (a : Reading TestListing) (n : ℕ) (t' w' : List ℕ) → Leaves a (read_of (Ok n)) t t' w w' → MovedBy j a (moved j (Ok (with_tests j n))) t t' w w'
  unfolding tests_job outcome names_left rows_left
  read_by (refused k p) n t' w' h = absurd (let y : ⊥ = omega (arith, h.0, h.3) in y)
  read_by (accepted l) n t' w' h = record { moved = simp (h.2); tests_are = h.3; rows_are = h.4 }

  read_stop : (a : Reading TestListing) (e : Refusal) (t' w' : List ℕ) → Leaves a (read_of (Err e)) t t' w w' → MovedBy j a (moved j (Err e)) t t' w w'
  unfolding tests_job outcome names_left rows_left
  read_stop (refused k p) e t' w' h = record { moved = simp (h.0, h.1); tests_are = h.4; rows_are = h.5 }
  read_stop (accepted l) e t' w' h = absurd (fault_not e.fault h.0)

module _ (j : Job) (v v' : Lent) (text : Bytes) (t w : List ℕ) (work : ℕ) where
  by_due : (due : ℕ) (r : Moved) (t' w' : List ℕ) → due ≡ tests_due j v v' (length t) (length w) work → MovedBy j (suite_read due j.old_edges text) r t t' w w' → TestsTaken j v v' text r t t' w w' work
  by_due due r t' w' ed m = record { by = subst (λ (k : ℕ). MovedBy j (suite_read k j.old_edges text) r t t' w w') ed m }

  pub tests_refused : (f : Fault) → fault_number f ≡ tests_due j v v' (length t) (length w) work → TestsTaken j v v' text (moved j (Err (record { fault = f; place = 0 }))) t t w w work
  unfolding past_due choose
  tests_refused f ed =
      by_due (fault_number f) _ t w ed (stopped j t w (record { fault = f; place = 0 }) (suite_read (fault_number f) j.old_edges text) (simp (ne_eqb (fault_number f) 0 (λ z. fault_not f z))))

  module _ (ed : 0 ≡ tests_due j v v' (length t) (length w) work) (t' w' : List ℕ) where
    reads : (r : Moved) → MovedBy j (read_tests j.old_edges text) r t t' w w' → TestsTaken j v v' text r t t' w w' work
    unfolding past_due choose
    reads r h = by_due 0 r t' w' ed h

    pub tests_taken : (n : ℕ) (k : Job) → ReadLent j.old_edges text (read_of (Ok n)) t t' w w' → k ≡ with_tests j n → TestsTaken j v v' text (moved j (Ok k)) t t' w w' work
    tests_taken n k h e =
        subst (λ (x : Job). TestsTaken j v v' text (moved j (Ok x)) t t' w w' work) (sym e) (reads _ (read_by j t w (read_tests j.old_edges text) n t' w' h.leaves))

    pub tests_stop : (e : Refusal) → ReadLent j.old_edges text (read_of (Err e)) t t' w w' → TestsTaken j v v' text (moved j (Err e)) t t' w w' work
    tests_stop e h = reads _ (read_stop j t w (read_tests j.old_edges text) e t' w' h.leaves)

pub ruleset tests_all = (old_gone, new_version_gone, both_none, both_job, tests_stage, tests_long, tests_short, tests_edges, tests_refused, tests_taken, tests_stop)

-- ---- `ry_job_read_tests`

module _ (j : Job) (old : Bytes) (ns : List Node) (ol : List ℕ) (new : Bytes) (ms : List Node) (nl w : List ℕ) (a b : ℕ) where
  abbrev both : List ℕ
  both = sets (sets w 0 (flat (take 512 ns))) 2048 (flat (take 512 ms))

  first_flat : 8128 ≤ length w → 512 ≤ length ns → old_part both ≡ flat (take 512 ns)
  first_flat h k = part_sets_before (flat (take 512 ms)) (sets w 0 (flat (take 512 ns))) 2048 0 2048 (omega arith) ∙ front_flat ns w (omega (arith, h)) k

  second_flat : 8128 ≤ length w → 512 ≤ length ms → new_part both ≡ flat (take 512 ms)
  second_flat h k =
      let e : length (flat (take 512 ms)) ≡ 2048 = flat_length (take 512 ms) ∙ ap (λ (m : ℕ). 4 * m) (length-take-le 512 ms k) in
      ap (λ (m : ℕ). take m (drop 2048 both)) (sym e)
      ∙ part_sets (flat (take 512 ms)) (sets w 0 (flat (take 512 ns))) 2048 (omega (arith, e, h, length-sets w 0 (flat (take 512 ns))))

  abbrev front : Lent
  front = numbers (length ns) old (old_part both) ol

  abbrev front' : Lent
  front' = numbers (length ms) new (new_part both) nl

  same_due : tests_due j front front' a b (length w) ≡ tests_due j (lent old ns ol) (lent new ms nl) a b (length w)
  unfolding tests_due both_due held_new choose
  same_due = go (roomy 400 3200 a b (length w)) refl
    where
      go : (u : Bool) → roomy 400 3200 a b (length w) ≡ u
          → choose (of_stage call_tests j.stage) (choose u (due_of j (version_left front) (version_left front')) 14) 13
          ≡ choose (of_stage call_tests j.stage) (choose u (due_of j (version_left (lent old ns ol)) (version_left (lent new ms nl))) 14) 13
      go true e =
          let h : 8128 ≤ length w = (roomy_parts 400 3200 a b (length w) e).2 in
          ap₂ (λ (x y : Option Listing). choose (of_stage call_tests j.stage) (due_of j x y) 13)
          (front_left old ns ol (old_part both) (first_flat h)) (front_left new ms nl (new_part both) (second_flat h))
      go false e = refl

-- `ry_job_read_tests`
pub read_tests_is : (j : Job) (old : Bytes) (ns : List Node) (ol : List ℕ) (new : Bytes) (ms : List Node) (nl : List ℕ) (text : Bytes) (t t' w w' s s₁ s' : List ℕ) (r : Moved) (x : ℕ)
    → s₁ ≡ sets (sets s 0 (flat (take 512 ns))) 2048 (flat (take 512 ms)) → length s₁ ≡ length s
    → TestsTaken j (numbers (length ns) old (old_part s₁) ol) (numbers (length ms) new (new_part s₁) nl) text r t t' w w' (length s₁) → s' ≡ replicate (length s₁) 0
    → x ≡ packing r.number r.place → ReadTests j (lent old ns ol) (lent new ms nl) text t w s x r.job t' w' s'
read_tests_is j old ns ol new ms nl text t t' w w' s s₁ s' r x e₁ q h es ex =
    let d : tests_due j (numbers (length ns) old (old_part s₁) ol) (numbers (length ms) new (new_part s₁) nl) (length t) (length w) (length s₁) ≡ tests_due j (lent old ns ol) (lent new ms nl) (length t) (length w) (length s)
    = ap₂ (λ (x : List ℕ) (k : ℕ). tests_due j (numbers (length ns) old (old_part x) ol) (numbers (length ms) new (new_part x) nl) (length t) (length w) k) e₁ q ∙ same_due j old ns ol new ms nl s (length t) (length w) in
    let b : MovedBy j (suite_read (tests_due j (lent old ns ol) (lent new ms nl) (length t) (length w) (length s)) j.old_edges text) r t t' w w'
    = subst (λ (k : ℕ). MovedBy j (suite_read k j.old_edges text) r t t' w w') d h.by in
    record {
      left = record {
        answer_is = ex
            ∙ packs _ (record { number = r.number; place = r.place }) (tests_plain j (lent old ns ol) (lent new ms nl) (length t) (length w) (length s) text)
            (record { number_is = ap (λ (x : Moved). x.number) b.moved; place_is = ap (λ (x : Moved). x.place) b.moved });
        job_is = ap (λ (x : Moved). x.job) b.moved;
        tests_are = b.tests_are;
        rows_are = b.rows_are;
        scratch_is = es ∙ ap (λ (k : ℕ). replicate k 0) q;
      };
    }
