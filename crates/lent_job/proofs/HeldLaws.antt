-- Tables that are what reading leaves: the numbers of the first 512 records are enough to tell; they are memory that holds the listings.
use Rattle.std.specs.Prelude.{◌≡◌, Bool, true, false, ℕ, zero, suc, ◌+◌, ◌*◌, ◌≤◌, ◌<◌, length, take, drop, set}
use Rattle.std.proofs.Math.Path.{refl, ap}
use Rattle.std.proofs.Common.{sym, ◌∙◌, subst, true≢false, take-append-drop, length-set, length-take-le, take_at, leb-true}
use mathlib.Core.List.{List, [], ◌∷◌, ◌++◌}
use Rattle.std.proofs.Math.Option.{Option, none, some}
use native.Mathlib.Omega.{arith}
use Rattle.std.proofs.Math.ListN.{get_or}
use Rattle.std.proofs.lemmas.List.Edits.{sets}
use Rattle.std.proofs.Math.Seq.{length-sets}
use Rattle.std.proofs.lemmas.Bool.{lt-leb}
use Rattle.laws.specs.Tests.{◌and◌, after, choose}
use Rattle.laws.specs.TestLaws.{and_left, and_right, same_test}
use Rattle.laws.specs.Slices.{below_or, get_d_sets_before}
use Rattle.laws.specs.Tables.{rows, rows_length, rows_stored}
use Rattle.rules.specs.Text.{Bytes, same, Reading, refused, accepted}
use Rattle.rules.proofs.TextLaws.{same_true, same_of, then_passes}
use Rattle.rules.specs.Kept.{Sound}
use Rattle.rules.proofs.ProgramLaws.{read_sound}
use Rattle.rules.specs.Graph.{proc_count, node_count, edge_count}
use Rattle.rules.specs.ProgramFile.{Listing, read_listing, read_program}
use Rattle.rules.specs.SuiteFile.{TestListing, read_suite, read_tests, test_count}
use Rattle.rules.specs.Job.{read_job, given_of}
use Rattle.graph.specs.Table.{At, node_base, proc_base, edge_base, head_base, node_row, proc_row, edge_row, head_of, nodes_after, links_after}
use Rattle.graph.specs.Lookups.{in_table}
use Rattle.suite.specs.Tables.{Holds}
use Rattle.suite.specs.TableLaws.{suite_read}
use Rattle.versions.specs.Memory.{InMemory, memory}
use Rattle.program.specs.Lent.{is_left}
use Rattle.lent_tests.specs.Lent.{is_left as tests_left}
use Rattle.lent_tests.specs.LeftLaws.{after_holds}
use Rattle.records.specs.declared.Job.{Job}
use Rattle.records.specs.declared.Node.{Node}
use Rattle.records.specs.Jobs.{job_same}
use Rattle.records.specs.Nodes.{flat}
use Rattle.records.specs.NodeLaws.{flat_append, flat_length}
use Rattle.lent_job.specs.Held.{AllRead, Lent, Versions, numbers, lent, long_enough, left_by, version_left, tests_long, tests_by, suite_left, job_old, job_new, job_tests, held_old, held_new, held_tests}

-- ---- a listing that was read

pub sound_of : (text : Bytes) (s : Listing) → read_listing text ≡ accepted s → Sound s.program
unfolding read_program
sound_of text s e = (read_sound text s.program (then_passes (λ (x : Listing). accepted x.program) e)).0

-- What is left of a version, taken apart.
left_parts : (x : Reading Listing) (v : Lent) (s : Listing) → left_by x v ≡ some s → (x ≡ accepted s) × (long_enough v ≡ true) × (is_left s v.nodes v.links ≡ true)
unfolding left_by choose
left_parts (refused k p) v s e = absurd (true≢false (let z : true ≡ false = cc in z))
left_parts (accepted t) v s e = go (long_enough v and is_left t v.nodes v.links) refl e
  where
    go : (u : Bool) → (long_enough v and is_left t v.nodes v.links) ≡ u → choose u (some t) none ≡ some s → (accepted t ≡ accepted s) × (long_enough v ≡ true) × (is_left s v.nodes v.links ≡ true)
    go true q h =
        let same_listing : t ≡ s = cc in
        (ap accepted same_listing, and_left _ _ q, subst (λ (z : Listing). is_left z v.nodes v.links ≡ true) same_listing (and_right _ _ q))
    go false q h = absurd (true≢false (let z : true ≡ false = cc in z))

pub version_read : (v : Lent) (s : Listing) → version_left v ≡ some s → read_listing v.text ≡ accepted s
unfolding version_left
version_read v s e = (left_parts (read_listing v.text) v s e).0

pub version_sound : (v : Lent) (s : Listing) → version_left v ≡ some s → Sound s.program
version_sound v s e = sound_of v.text s (version_read v s e)

pub version_long : (v : Lent) (s : Listing) → version_left v ≡ some s → (512 ≤ v.room) × (6080 ≤ length v.links)
unfolding version_left long_enough
version_long v s e = let l = (left_parts (read_listing v.text) v s e).1 in (leb-true 512 v.room (and_left _ _ l), leb-true 6080 (length v.links) (and_right _ _ l))

-- ---- the first 512 records are enough to tell

set_left : {A : Type 0} (a b : List A) (i : ℕ) (v : A) → i < length a → set (a ++ b) i v ≡ set a i v ++ b
set_left [] b i v h = absurd (let z : ⊥ = omega arith in z)
set_left (x ∷ a) b zero v h = refl
set_left (x ∷ a) b (suc i) v h = ap (λ (l : List _). x ∷ l) (set_left a b i v (omega arith))

sets_left : {A : Type 0} (a b : List A) (i : ℕ) (vs : List A) → i + length vs ≤ length a → sets (a ++ b) i vs ≡ sets a i vs ++ b
sets_left a b i [] h = refl
sets_left a b i (v ∷ vs) h =
    ap (λ (l : List _). sets l (suc i) vs) (set_left a b i v (omega arith)) ∙ sets_left (set a i v) b (suc i) vs (omega (arith, length-set a i v))

-- A store that ends within a front is of that front alone.
pub same_front : (a b vs : List ℕ) → length vs ≤ length a → same (sets (a ++ b) 0 vs) (a ++ b) ≡ same (sets a 0 vs) a
same_front a b vs h =
    let e : sets (a ++ b) 0 vs ≡ sets a 0 vs ++ b = sets_left a b 0 vs (omega arith) in
    same_test _ _
    (λ y. same_of (sym (take_at (sets a 0 vs) b (length a) (length-sets a 0 vs)) ∙ ap (take (length a)) (sym e ∙ same_true _ _ y) ∙ take_at a b (length a) refl))
    (λ y. same_of (e ∙ ap (λ (l : List ℕ). l ++ b) (same_true _ _ y)))

front_is : (s : Listing) (n : List Node) (l : List ℕ) → Sound s.program → 512 ≤ length n → is_left s (flat (take 512 n)) l ≡ is_left s (flat n) l
unfolding is_left nodes_after
front_is s n l h k =
    let e : flat n ≡ flat (take 512 n) ++ flat (drop 512 n) = ap flat (sym (take-append-drop 512 n)) ∙ flat_append (take 512 n) (drop 512 n) in
    let r : length (rows (node_row s) (node_count s.program)) ≤ length (flat (take 512 n))
    = omega (arith, rows_length 4 (node_row s) (λ i. refl) (node_count s.program), flat_length (take 512 n), length-take-le 512 n k, h.few_nodes) in
    ap (λ (b : Bool). b and same (links_after s l) l)
    (sym (same_front (flat (take 512 n)) (flat (drop 512 n)) (rows (node_row s) (node_count s.program)) r)
    ∙ ap (λ (m : List ℕ). same (sets m 0 (rows (node_row s) (node_count s.program))) m) (sym e))

module _ (t : Bytes) (n : List Node) (l w : List ℕ) (h : 512 ≤ length n → w ≡ flat (take 512 n)) where
  front_by : (x : Reading Listing) → read_listing t ≡ x → left_by x (numbers (length n) t w l) ≡ left_by x (lent t n l)
  unfolding left_by long_enough ◌and◌ choose
  front_by (refused k p) e = refl
  front_by (accepted s) e =
      below_or (length n) 512
      (λ b. simp (lt-leb 512 (length n) b))
      (λ b. ap (λ (u : Bool). choose (long_enough (lent t n l) and u) (some s) none) (ap (λ (m : List ℕ). is_left s m l) (h b) ∙ front_is s n l (sound_of t s e) b))

  pub front_left : version_left (numbers (length n) t w l) ≡ version_left (lent t n l)
  unfolding version_left
  front_left = front_by (read_listing t) refl

-- ---- memory

-- What the links of a version hold: a row for each procedure, for each edge, and the head of each node's edges.
abbrev pub procs_of : Listing → List ℕ
procs_of s = rows (proc_row s) (proc_count s.program)

abbrev pub edges_of : Listing → List ℕ
edges_of s = rows (edge_row s) (edge_count s.program)

abbrev pub heads_of : Listing → List ℕ
heads_of s = rows (λ n. head_of s n ∷ []) (node_count s.program)

module _ (v : Lent) (s : Listing) (e : version_left v ≡ some s) (wide : 2048 ≤ length v.nodes) where
  parts : (read_listing v.text ≡ accepted s) × (long_enough v ≡ true) × (is_left s v.nodes v.links ≡ true)
  unfolding version_left
  parts = left_parts (read_listing v.text) v s e

  sound_v : Sound s.program
  sound_v = version_sound v s e

  nodes_kept : nodes_after s v.nodes ≡ v.nodes
  unfolding is_left
  nodes_kept = same_true _ _ (and_left _ _ parts.2)

  links_kept : links_after s v.links ≡ v.links
  unfolding is_left
  links_kept = same_true _ _ (and_right _ _ parts.2)

  node_in_lem : (n : ℕ) → n < node_count s.program → At (in_table v.nodes) (node_base n) (node_row s n)
  unfolding nodes_after
  node_in_lem n h k b =
      ap (λ (i : ℕ). get_or v.nodes i 0) (let z : 4 * n + k ≡ 0 + (4 * n + k) = omega arith in z)
      ∙ ap (λ (x : List ℕ). get_or x (0 + (4 * n + k)) 0) (sym nodes_kept)
      ∙ rows_stored 4 (node_row s) (λ i. refl) v.nodes 0 (node_count s.program) n k (omega (arith, sound_v.few_nodes)) h b

  long_l : 6080 ≤ length v.links
  long_l = (version_long v s e).1

  links_at : (i : ℕ) → get_or v.links i 0 ≡ get_or (sets (sets (sets v.links 0 (procs_of s)) 448 (edges_of s)) 5568 (heads_of s)) i 0
  unfolding links_after
  links_at i = ap (λ (x : List ℕ). get_or x i 0) (sym links_kept)

  proc_in : (q : ℕ) → q < proc_count s.program → At (in_table v.links) (proc_base q) (proc_row s q)
  proc_in q h k b =
      links_at (7 * q + k)
      ∙ get_d_sets_before (heads_of s) (sets (sets v.links 0 (procs_of s)) 448 (edges_of s)) 5568 (7 * q + k) 0 (omega (arith, sound_v.few_procs))
      ∙ get_d_sets_before (edges_of s) (sets v.links 0 (procs_of s)) 448 (7 * q + k) 0 (omega (arith, sound_v.few_procs))
      ∙ ap (λ (i : ℕ). get_or (sets v.links 0 (procs_of s)) i 0) (let z : 7 * q + k ≡ 0 + (7 * q + k) = omega arith in z)
      ∙ rows_stored 7 (proc_row s) (λ i. refl) v.links 0 (proc_count s.program) q k (omega (arith, sound_v.few_procs, long_l)) h b

  edge_in_lem : (i : ℕ) → i < edge_count s.program → At (in_table v.links) (edge_base i) (edge_row s i)
  edge_in_lem i h k b =
      links_at (448 + 5 * i + k)
      ∙ get_d_sets_before (heads_of s) (sets (sets v.links 0 (procs_of s)) 448 (edges_of s)) 5568 (448 + 5 * i + k) 0 (omega (arith, sound_v.few_edges))
      ∙ ap (λ (j : ℕ). get_or (sets (sets v.links 0 (procs_of s)) 448 (edges_of s)) j 0) (let z : 448 + 5 * i + k ≡ 448 + (5 * i + k) = omega arith in z)
      ∙ rows_stored 5 (edge_row s) (λ j. refl) (sets v.links 0 (procs_of s)) 448 (edge_count s.program) i k (omega (arith, sound_v.few_edges, long_l, length-sets v.links 0 (procs_of s))) h b

  head_in : (n : ℕ) → n < node_count s.program → in_table v.links (head_base n) ≡ head_of s n
  head_in n h =
      links_at (5568 + n)
      ∙ ap (λ (j : ℕ). get_or (sets (sets (sets v.links 0 (procs_of s)) 448 (edges_of s)) 5568 (heads_of s)) j 0) (let z : 5568 + n ≡ 5568 + (1 * n + 0) = omega arith in z)
      ∙ rows_stored 1 (λ m. head_of s m ∷ []) (λ j. refl) (sets (sets v.links 0 (procs_of s)) 448 (edges_of s)) 5568 (node_count s.program) n 0
      (omega (arith, sound_v.few_nodes, long_l, length-sets v.links 0 (procs_of s), length-sets (sets v.links 0 (procs_of s)) 448 (edges_of s))) h (omega arith)

  -- The memory of a version that is left holds its listing.
  pub version_memory : InMemory (memory v.text v.nodes v.links) s
  version_memory = record { read = parts.0; nodes = node_in_lem; procs = proc_in; edges = edge_in_lem; heads = head_in }

-- ---- the tests

suite_parts : (x : Reading TestListing) (t w : List ℕ) (l : TestListing) → tests_by x t w ≡ some l → (x ≡ accepted l) × (tests_long t w ≡ true) × (tests_left l t w ≡ true)
unfolding tests_by choose
suite_parts (refused k p) t w l e = absurd (true≢false (let z : true ≡ false = cc in z))
suite_parts (accepted m) t w l e = go (tests_long t w and tests_left m t w) refl e
  where
    go : (u : Bool) → (tests_long t w and tests_left m t w) ≡ u → choose u (some m) none ≡ some l → (accepted m ≡ accepted l) × (tests_long t w ≡ true) × (tests_left l t w ≡ true)
    go true q h =
        let same_listing : m ≡ l = cc in
        (ap accepted same_listing, and_left _ _ q, subst (λ (z : TestListing). tests_left z t w ≡ true) same_listing (and_right _ _ q))
    go false q h = absurd (true≢false (let z : true ≡ false = cc in z))

module _ (m : ℕ) (text : Bytes) (t w : List ℕ) (l : TestListing) (e : suite_left m text t w ≡ some l) where
  parts_t : (read_tests m text ≡ accepted l) × (tests_long t w ≡ true) × (tests_left l t w ≡ true)
  unfolding suite_left
  parts_t = suite_parts (read_tests m text) t w l e

  pub suite_accepted : read_tests m text ≡ accepted l
  suite_accepted = parts_t.0

  pub suite_few : test_count l.suite ≤ 200
  suite_few = (suite_read m text l suite_accepted).few

  -- The tables of tests that are left hold the suite.
  pub suite_holds : m ≤ 1024 → Holds m t w (test_count l.suite) l
  unfolding tests_long tests_left
  suite_holds h =
      after_holds m text l h suite_accepted t w t w (leb-true 400 (length t) (and_left _ _ parts_t.1)) (leb-true 3200 (length w) (and_right _ _ parts_t.1))
      (sym (same_true _ _ (and_left _ _ parts_t.2))) (sym (same_true _ _ (and_right _ _ parts_t.2)))

-- ---- what is held, taken apart

pub after_some : {A B : Type 0} (x : Option A) (f : A → Option B) (b : B) → after x none f ≡ some b → (a : A) × (x ≡ some a) × (f a ≡ some b)
after_some none f b e = absurd (true≢false (let z : true ≡ false = cc in z))
after_some (some a) f b e = (a, refl, e)

pub chosen_some : {A : Type 0} (u : Bool) (a b : A) → choose u (some a) none ≡ some b → (u ≡ true) × (a ≡ b)
unfolding choose
chosen_some true a b e = (refl, let z : a ≡ b = cc in z)
chosen_some false a b e = absurd (true≢false (let z : true ≡ false = cc in z))

-- At stage 1.
pub held_old_parts : (j : Job) (v : Lent) (o : Listing) → held_old j v ≡ some o → (version_left v ≡ some o) × (j ≡ job_old o)
unfolding held_old
held_old_parts j v o e =
    let p = after_some _ _ _ e in
    let q = chosen_some _ _ _ p.2 in
    (p.1 ∙ ap some q.1, job_same j (job_old p.0) q.0 ∙ ap job_old q.1)

-- At stage 2.
pub held_new_parts : (j : Job) (v v' : Lent) (h : Versions) → held_new j v v' ≡ some h → (version_left v ≡ some h.old) × (version_left v' ≡ some h.new) × (j ≡ job_new h.old h.new)
unfolding held_new
held_new_parts j v v' h e =
    let p = after_some _ _ _ e in
    let q = after_some _ _ _ p.2 in
    let r = chosen_some _ _ _ q.2 in
    (p.1 ∙ ap (λ (x : Versions). some x.old) r.1, q.1 ∙ ap (λ (x : Versions). some x.new) r.1, job_same j (job_new p.0 q.0) r.0 ∙ ap (λ (x : Versions). job_new x.old x.new) r.1)

-- At stage 3.
pub held_tests_parts : (j : Job) (v v' : Lent) (text t w : List ℕ) (h : AllRead) → held_tests j v v' text t w ≡ some h
    → (version_left v ≡ some h.old) × (version_left v' ≡ some h.new) × (suite_left (edge_count h.old.program) text t w ≡ some h.tests) × (j ≡ job_tests h.old h.new h.tests)
unfolding held_tests
held_tests_parts j v v' text t w h e =
    let p = after_some _ _ _ e in
    let q = after_some _ _ _ p.2 in
    let r = after_some _ _ _ q.2 in
    let s = chosen_some _ _ _ r.2 in (
      p.1 ∙ ap (λ (x : AllRead). some x.old) s.1,
      q.1 ∙ ap (λ (x : AllRead). some x.new) s.1,
      subst (λ (x : AllRead). suite_left (edge_count x.old.program) text t w ≡ some x.tests) s.1 r.1,
      job_same j (job_tests p.0 q.0 r.0) s.0 ∙ ap (λ (x : AllRead). job_tests x.old x.new x.tests) s.1,
    )

-- Where job and tables are held at stage 3 the three texts are accepted, and give what is held.
pub texts_accepted : (j : Job) (v v' : Lent) (text t w : List ℕ) (h : AllRead) → held_tests j v v' text t w ≡ some h
    → read_job v.text v'.text text ≡ accepted (given_of h.old h.new h.tests)
unfolding read_job read_program read_suite
texts_accepted j v v' text t w h e =
    let p = held_tests_parts j v v' text t w h e in
    then_passes _ (then_passes _ (version_read v h.old p.0))
    ∙ then_passes _ (then_passes _ (version_read v' h.new p.1))
    ∙ then_passes _ (then_passes _ (suite_accepted (edge_count h.old.program) text t w h.tests p.2))
