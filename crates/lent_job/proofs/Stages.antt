-- What a call that reads leaves is what the next call holds: after the three calls the job and the tables are held, with what the three texts read to.
use Rattle.std.specs.Prelude.{◌≡◌, refl, Bool, true, false, ℕ, suc, ◌+◌, ◌*◌, ◌≤◌, ◌<◌, eqb, length, get_or, set}
use Rattle.std.proofs.Math.Path.{sym, ap, ap₂, subst}
use Rattle.std.proofs.Common.{◌∙◌, true≢false, add-zero, arith, le-leb, eqb-true}
use mathlib.Core.List.{List, [], ◌∷◌}
use Rattle.std.proofs.Math.Option.{Option, none, some}
use Rattle.std.proofs.Math.Seq.{sets, length-sets}
use Rattle.std.proofs.lemmas.List.{set-get_or}
use Rattle.laws.specs.Tests.{after, choose}
use Rattle.laws.specs.TestLaws.{and_both}
use Rattle.laws.specs.Slices.{sets_again, get_d_sets_before, get_d_sets_in}
use Rattle.laws.specs.Tables.{rows, rows_length}
use Rattle.rules.specs.Text.{Bytes, Reading, refused, accepted, then}
use Rattle.rules.specs.Graph.{proc_count, node_count, edge_count}
use Rattle.rules.specs.ProgramFile.{Listing, read_listing, read_program}
use Rattle.rules.specs.SuiteFile.{TestListing, read_tests, read_suite, test_count}
use Rattle.rules.specs.Job.{Given, of_stage, outcome, call_new, call_old, call_tests, read_job, read_new_answer, read_tests_answer, success}
use Rattle.rules.proofs.TextLaws.{same_of}
use Rattle.rules.specs.Kept.{Sound}
use Rattle.graph.specs.Table.{node_row, proc_row, edge_row, nodes_after, links_after}
use Rattle.program.specs.Lent.{is_left}
use Rattle.lent_tests.specs.Lent.{test_row, coverage_row, tests_after, rows_after}
use Rattle.lent_tests.specs.LeftLaws.{after_left}
use Rattle.records.specs.declared.Job.{Job}
use Rattle.records.specs.declared.Node.{Node}
use Rattle.records.specs.Jobs.{same_job, job_self}
use Rattle.records.specs.Nodes.{flat}
use Rattle.lent_job.specs.Held.{Lent, Versions, lent, long_enough, left_by, version_left, tests_long, tests_by as suite_by, suite_left, job_old, job_new, job_tests, held_old, held_new, held_tests}
use Rattle.lent_job.proofs.HeldLaws.{procs_of, edges_of, heads_of, sound_of, held_old_parts, held_new_parts}
use Rattle.lent_job.specs.ReadOld.{roomy, fresh_due, old_due, old_read, read_answer, node_records, records_read, links_read, old_job, ProgramLeftBy, ReadOld, past_due}
use Rattle.lent_job.proofs.ReadLaws.{none_due, records_after, roomy_parts}
use Rattle.lent_job.specs.ReadNew.{old_held_due, new_due, new_read, new_job, with_new, ReadNew}
use Rattle.lent_job.specs.ReadTests.{both_due, tests_due, tests_read, with_tests, tests_job, names_left, rows_left, TestsLeftBy, ReadTests}

-- ---- stores that change nothing

-- A run that stands there already.
sets_there : {A : Type 0} (vs l : List A) (i : ℕ) (d : A) → ((k : ℕ) → k < length vs → get_or l (i + k) d ≡ get_or vs k d) → sets l i vs ≡ l
sets_there [] l i d h = refl
sets_there {A = A} (v ∷ vs) l i d h =
    let kept : set l i v ≡ l = ap (set l i) (sym (ap (λ (k : ℕ). get_or l k d) (sym (add-zero i)) ∙ h 0 (omega arith))) ∙ set-get_or l i d in
    ap (λ (x : List A). sets x (suc i) vs) kept
    ∙ sets_there vs l (suc i) d (λ k b. let e : suc i + k ≡ i + suc k = omega arith in ap (λ (m : ℕ). get_or l m d) e ∙ h (suc k) (omega arith))

module _ (s : Listing) (t : List ℕ) (sound : Sound s.program) (long : 6080 ≤ length t) where
  abbrev stored : List ℕ
  stored = sets (sets (sets t 0 (procs_of s)) 448 (edges_of s)) 5568 (heads_of s)

  length_p : length (procs_of s) ≡ 7 * proc_count s.program
  length_p = rows_length 7 (proc_row s) (λ i. refl) (proc_count s.program)

  length_e : length (edges_of s) ≡ 5 * edge_count s.program
  length_e = rows_length 5 (edge_row s) (λ i. refl) (edge_count s.program)

  procs_there : sets stored 0 (procs_of s) ≡ stored
  procs_there =
      sets_there (procs_of s) stored 0 0 (λ k b.
      get_d_sets_before (heads_of s) (sets (sets t 0 (procs_of s)) 448 (edges_of s)) 5568 (0 + k) 0 (omega (arith, b, length_p, sound.few_procs))
      ∙ get_d_sets_before (edges_of s) (sets t 0 (procs_of s)) 448 (0 + k) 0 (omega (arith, b, length_p, sound.few_procs))
      ∙ get_d_sets_in (procs_of s) t 0 k 0 (omega (arith, length_p, sound.few_procs, long)) b)

  edges_there : sets stored 448 (edges_of s) ≡ stored
  edges_there =
      sets_there (edges_of s) stored 448 0 (λ k b.
      get_d_sets_before (heads_of s) (sets (sets t 0 (procs_of s)) 448 (edges_of s)) 5568 (448 + k) 0 (omega (arith, b, length_e, sound.few_edges))
      ∙ get_d_sets_in (edges_of s) (sets t 0 (procs_of s)) 448 k 0 (omega (arith, length_e, sound.few_edges, long, length-sets t 0 (procs_of s))) b)

  links_again : links_after s (links_after s t) ≡ links_after s t
  unfolding links_after
  links_again =
      ap (λ (x : List ℕ). sets (sets x 448 (edges_of s)) 5568 (heads_of s)) procs_there ∙ ap (λ (x : List ℕ). sets x 5568 (heads_of s)) edges_there ∙ sets_again (heads_of s) (sets (sets t 0 (procs_of s)) 448 (edges_of s)) 5568

links_long : (s : Listing) (t : List ℕ) → length (links_after s t) ≡ length t
unfolding links_after
links_long s t =
    let a : List ℕ = sets t 0 (procs_of s) in
    let b : List ℕ = sets a 448 (edges_of s) in
    length-sets b 5568 (heads_of s) ∙ length-sets a 448 (edges_of s) ∙ length-sets t 0 (procs_of s)

-- ---- a version that was read

module _ (text : Bytes) (s : Listing) (e : read_listing text ≡ accepted s) (n : List Node) (l : List ℕ) (hn : 512 ≤ length n) (hl : 6080 ≤ length l) where
  abbrev left : Lent
  left = lent text (sets n 0 (node_records s (node_count s.program))) (links_after s l)

  long_left : long_enough left ≡ true
  unfolding long_enough
  long_left =
      and_both (le-leb 512 _ (subst (λ (k : ℕ). 512 ≤ k) (sym (length-sets n 0 (node_records s (node_count s.program)))) hn)) (le-leb 6080 _ (subst (λ (k : ℕ). 6080 ≤ k) (sym (links_long s l)) hl))

  nodes_again : nodes_after s (nodes_after s (flat n)) ≡ nodes_after s (flat n)
  unfolding nodes_after
  nodes_again = sets_again (rows (node_row s) (node_count s.program)) (flat n) 0

  is_left_lem : is_left s left.nodes left.links ≡ true
  unfolding is_left
  is_left_lem =
      and_both (same_of (ap (nodes_after s) (records_after s n) ∙ nodes_again ∙ sym (records_after s n))) (same_of (links_again s l (sound_of text s e) hl))

  -- The tables that reading leaves are found to be left.
  pub version_again : version_left left ≡ some s
  unfolding version_left left_by choose
  version_again = ap (λ (x : Reading Listing). left_by x left) e ∙ ap (λ (u : Bool). choose u (some s) none) (and_both long_left is_left_lem)

-- ---- what is due, and what was read

refused_accepted : {A : Type 0} (k p : ℕ) (a : A) → refused k p ≡ accepted a → ⊥
refused_accepted k p a e = true≢false (let z : true ≡ false = cc in z)

-- Where a call goes by an accepted text nothing was due.
pub due_none : {A : Type 0} (due : ℕ) (a : Reading A) (s : A) → past_due due a ≡ accepted s → (due ≡ 0) × (a ≡ accepted s)
unfolding past_due choose
due_none {A} due a s h = go (eqb due 0) refl h
  where
    go : (u : Bool) → eqb due 0 ≡ u → choose u a (refused due 0) ≡ accepted s → (due ≡ 0) × (a ≡ accepted s)
    go true e q = (eqb-true due 0 e, q)
    go false e q = absurd (refused_accepted due 0 s q)

-- ---- after `ry_job_read_old`

job_old_lem : (j : Job) (s : Listing) → old_job j (accepted s) ≡ job_old s
unfolding old_job
job_old_lem j s = refl

module _ (j : Job) (text : Bytes) (n : List Node) (l w : List ℕ) (r : ℕ) (j' : Job) (n' : List Node) (l' w' : List ℕ) (h : ReadOld j text n l w r j' n' l' w')
    (s : Listing) (e : old_read j (length n) (length l) (length w) text ≡ accepted s) where
  read_old_due : (512 ≤ length n) × (6080 ≤ length l)
  unfolding old_due
  read_old_due =
      let r = roomy_parts 512 6080 _ _ (length w) (none_due (of_stage call_old j.stage) (roomy 512 6080 (length n) (length l) (length w)) (fresh_due j) (due_none _ _ s e).0).1 in (r.0, r.1)

  held_by : (v : Lent) → version_left v ≡ some s → held_old (job_old s) v ≡ some s
  unfolding held_old choose
  held_by v q =
      ap (λ (x : Option Listing). after x none (λ (o : Listing). choose (same_job (job_old s) (job_old o)) (some o) none)) q ∙ ap (λ (u : Bool). choose u (some s) none) (job_self (job_old s))

  -- The job and the tables that `ry_job_read_old` leaves are held, with what the text reads to.
  pub old_held : held_old j' (lent text n' l') ≡ some s
  unfolding records_read links_read
  old_held =
      let b : ProgramLeftBy (old_job j) (accepted s) n l w r j' n' l' w' = subst (λ (a : Reading Listing). ProgramLeftBy (old_job j) a n l w r j' n' l' w') e h.left in
      ap (λ (k : Job). held_old k (lent text n' l')) (b.job_is ∙ job_old_lem j s)
      ∙ ap₂ (λ (x : List Node) (y : List ℕ). held_old (job_old s) (lent text x y)) b.nodes_are b.links_are
      ∙ held_by _ (version_again text s (due_none _ _ s e).1 n l read_old_due.0 read_old_due.1)

-- ---- after `ry_job_read_new`

job_new_lem : (j : Job) (o p : Listing) → j ≡ job_old o → new_job j (accepted p) ≡ job_new o p
unfolding new_job with_new job_new job_old
job_new_lem j o p e = ap (λ (k : Job). new_job k (accepted p)) e

held_both : (v v' : Lent) (o p : Listing) → version_left v ≡ some o → version_left v' ≡ some p → held_new (job_new o p) v v' ≡ some (record { old = o; new = p })
unfolding held_new choose
held_both v v' o p e q =
    ap₂ (λ (x y : Option Listing). after x none (λ (a : Listing). after y none (λ (b : Listing). choose (same_job (job_new o p) (job_new a b)) (some (record { old = a; new = b })) none))) e q
    ∙ ap (λ (u : Bool). choose u (some (record { old = o; new = p })) none) (job_self (job_new o p))

module _ (j : Job) (v : Lent) (text : Bytes) (n : List Node) (l w : List ℕ) (r : ℕ) (j' : Job) (n' : List Node) (l' w' : List ℕ) (h : ReadNew j v text n l w r j' n' l' w')
    (p : Listing) (e : new_read j v (length n) (length l) (length w) text ≡ accepted p) (o : Listing) (held : held_old j v ≡ some o) where
  read_new_due : (512 ≤ length n) × (6080 ≤ length l)
  unfolding new_due
  read_new_due =
      let r = roomy_parts 512 6080 _ _ (length w) (none_due (of_stage call_new j.stage) (roomy 512 6080 (length n) (length l) (length w)) (old_held_due j v) (due_none _ _ p e).0).1 in (r.0, r.1)

  -- The job and the tables of both versions are held after `ry_job_read_new`.
  pub new_held : held_new j' v (lent text n' l') ≡ some (record { old = o; new = p })
  unfolding records_read links_read
  new_held =
      let b : ProgramLeftBy (new_job j) (accepted p) n l w r j' n' l' w' = subst (λ (a : Reading Listing). ProgramLeftBy (new_job j) a n l w r j' n' l' w') e h.left in
      let parts : (version_left v ≡ some o) × (j ≡ job_old o) = held_old_parts j v o held in
      ap (λ (k : Job). held_new k v (lent text n' l')) (b.job_is ∙ job_new_lem j o p parts.1)
      ∙ ap₂ (λ (x : List Node) (y : List ℕ). held_new (job_new o p) v (lent text x y)) b.nodes_are b.links_are
      ∙ held_both v _ o p parts.0 (version_again text p (due_none _ _ p e).1 n l read_new_due.0 read_new_due.1)

-- ---- after `ry_job_read_tests`

-- The tables that reading the tests leaves are found to be left.
module _ (m : ℕ) (text : Bytes) (l : TestListing) (e : read_tests m text ≡ accepted l) (t w : List ℕ) (ht : 400 ≤ length t) (hw : 3200 ≤ length w) where
  tests_long_lem : tests_long (tests_after l t) (rows_after l w) ≡ true
  unfolding tests_long tests_after rows_after
  tests_long_lem =
      and_both (le-leb 400 _ (subst (λ (k : ℕ). 400 ≤ k) (sym (length-sets t 0 (rows (test_row l) (test_count l.suite)))) ht)) (le-leb 3200 _ (subst (λ (k : ℕ). 3200 ≤ k) (sym (length-sets w 0 (rows (coverage_row l) (test_count l.suite)))) hw))

  pub suite_again : suite_left m text (tests_after l t) (rows_after l w) ≡ some l
  unfolding suite_left suite_by choose
  suite_again = ap (λ (x : Reading TestListing). suite_by x (tests_after l t) (rows_after l w)) e ∙ ap (λ (u : Bool). choose u (some l) none) (and_both tests_long_lem (after_left l t w))

job_tests_lem : (j : Job) (o p : Listing) (l : TestListing) → j ≡ job_new o p → tests_job j (accepted l) ≡ job_tests o p l
unfolding tests_job with_tests job_tests job_new
job_tests_lem j o p l e = ap (λ (k : Job). tests_job k (accepted l)) e

pub edges_new : (j : Job) (o p : Listing) → j ≡ job_new o p → j.old_edges ≡ edge_count o.program
unfolding job_new
edges_new j o p e = ap (λ (k : Job). k.old_edges) e

held_all : (v v' : Lent) (text : Bytes) (t w : List ℕ) (o p : Listing) (l : TestListing) → version_left v ≡ some o → version_left v' ≡ some p → suite_left (edge_count o.program) text t w ≡ some l
    → held_tests (job_tests o p l) v v' text t w ≡ some (record { old = o; new = p; tests = l })
unfolding held_tests choose
held_all v v' text t w o p l e e' q =
    ap₂ (λ (x y : Option Listing). after x none (λ (a : Listing). after y none (λ (b : Listing). after (suite_left (edge_count a.program) text t w) none
    (λ (c : TestListing). choose (same_job (job_tests o p l) (job_tests a b c)) (some (record { old = a; new = b; tests = c })) none)))) e e'
    ∙ ap (λ (z : Option TestListing). after z none (λ (c : TestListing). choose (same_job (job_tests o p l) (job_tests o p c)) (some (record { old = o; new = p; tests = c })) none)) q
    ∙ ap (λ (u : Bool). choose u (some (record { old = o; new = p; tests = l })) none) (job_self (job_tests o p l))

module _ (j : Job) (v v' : Lent) (text : Bytes) (t w s : List ℕ) (r : ℕ) (j' : Job) (t' w' s' : List ℕ) (h : ReadTests j v v' text t w s r j' t' w' s')
    (l : TestListing) (e : tests_read j v v' (length t) (length w) (length s) text ≡ accepted l) (k : Versions) (held : held_new j v v' ≡ some k) where
  read_tests_due : (400 ≤ length t) × (3200 ≤ length w)
  unfolding tests_due
  read_tests_due =
      let r = roomy_parts 400 3200 _ _ (length s) (none_due (of_stage call_tests j.stage) (roomy 400 3200 (length t) (length w) (length s)) (both_due j v v') (due_none _ _ l e).0).1 in (r.0, r.1)

  -- The rows were read for as many edges as the old program has.
  pub edges_read : read_tests (edge_count k.old.program) text ≡ accepted l
  edges_read = ap (λ (m : ℕ). read_tests m text) (sym (edges_new j k.old k.new (held_new_parts j v v' k held).2)) ∙ (due_none _ _ l e).1

  -- The job and all tables are held after `ry_job_read_tests`, with what the three texts read to.
  pub tests_held : held_tests j' v v' text t' w' ≡ some (record { old = k.old; new = k.new; tests = l })
  unfolding names_left rows_left
  tests_held =
      let b : TestsLeftBy j (accepted l) t w s r j' t' w' s' = subst (λ (a : Reading TestListing). TestsLeftBy j a t w s r j' t' w' s') e h.left in
      let parts = held_new_parts j v v' k held in
      ap (λ (x : Job). held_tests x v v' text t' w') (b.job_is ∙ job_tests_lem j k.old k.new l parts.2)
      ∙ ap₂ (λ (x y : List ℕ). held_tests (job_tests k.old k.new l) v v' text x y) b.tests_are b.rows_are
      ∙ held_all v v' text _ _ k.old k.new l parts.0 parts.1 (suite_again (edge_count k.old.program) text l edges_read t w read_tests_due.0 read_tests_due.1)

-- ---- the answers, by the definitions over whole texts

-- Where the old text is accepted, the answer of reading the new one is `read_new_answer`.
pub answer_new : (old new : Bytes) (o : Listing) → read_listing old ≡ accepted o → read_answer (read_listing new) ≡ read_new_answer old new
unfolding read_new_answer read_program outcome then
answer_new old new o e =
    by_case (read_listing new)
    ∙ ap (λ (y : Reading Listing). outcome (then y (λ s. accepted s.program)) (λ p. outcome (then (read_listing new) (λ s. accepted s.program)) (λ p'. success))) (sym e)
  where
    by_case : (x : Reading Listing) → read_answer x ≡ outcome (then x (λ s. accepted s.program)) (λ p'. success)
    by_case (refused k p) = refl
    by_case (accepted s) = refl

-- Where both programs are accepted, that of reading the tests is `read_tests_answer`.
pub answer_tests : (old new text : Bytes) (o p : Listing) → read_listing old ≡ accepted o → read_listing new ≡ accepted p
    → read_answer (read_tests (edge_count o.program) text) ≡ read_tests_answer old new text
unfolding read_tests_answer read_job read_program read_suite outcome then
answer_tests old new text o p e q =
    by_case (read_tests (edge_count o.program) text)
    ∙ ap₂ (λ (x y : Reading Listing). outcome {A = Given} (then (then x (λ s. accepted s.program)) (λ a. then (then y (λ s. accepted s.program))
    (λ b. then (then (read_tests (edge_count a) text) (λ l. accepted l.suite)) (λ t. accepted (record { old = a; new = b; suite = t }))))) (λ g. success)) (sym e) (sym q)
  where
    by_case : (x : Reading TestListing) → read_answer x ≡ outcome {A = Given} (then (then x (λ l. accepted l.suite)) (λ t. accepted (record { old = o.program; new = p.program; suite = t }))) (λ (g : Given). success)
    by_case (refused k p) = refl
    by_case (accepted s) = refl
