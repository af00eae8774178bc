-- What is written back from the tables that reading a text leaves is that text.
use Rattle.std.specs.Prelude.{◌≡◌, Bool, true, false, List, [], ◌∷◌, ◌++◌, map, ltb, length, get_or, take, drop}
use Rattle.std.proofs.Math.Path.{refl, sym, ap, ap₂}
use Rattle.std.proofs.Common.{◌∙◌, add-one, zero-add, arith, length-drop, get_or-drop, take-suc, le-ltb, lt-ltb}
use Rattle.std.proofs.lemmas.List.{map-append}
use Prim.Native.Nat.{ℕ, zero, suc, ◌+◌, ◌-◌, ◌≤◌, ◌<◌, min}
use Rattle.laws.specs.Tests.{choose}
use Rattle.laws.specs.Counting.{count_few}
use Rattle.laws.specs.Lists.{choose_no, choose_yes}
use Rattle.laws.specs.Slices.{below_or}
use Rattle.rules.specs.Text.{Bytes, bytes, commas, decimal, text_of}
use Rattle.rules.specs.Graph.{C, E, Kind, S, X, edge_at, edge_count, kind_at, kind_number, name_at, no_edge, no_node, node_at, node_count, proc_count, word_at}
use Rattle.rules.specs.ProgramFile.{Listing}
use Rattle.rules.specs.Layout.{Follows, line_of_edge, kind_field, line_of_node, line_of_proc, proc_lines, program_lines, write_program}
use Rattle.rules.specs.WriteBack.{SameParts}
use Rattle.rules.proofs.WriteProgram.{accepted_follows}
use Rattle.graph.specs.Table.{edge_base, first_edge, first_node, node_base, proc_base}
use Rattle.graph.specs.Reads.{part_at}
use Rattle.reader.specs.Result.{Count, Small}
use Rattle.program.specs.Lent.{Counted}
use Rattle.versions.specs.Memory.{InMemory, memory}
use Rattle.versions.specs.MemoryLaws.{kind_is, program_read, source_is, target_is}
use Rattle.writer.specs.Laws.{text_append, text_more}
use Rattle.writeback.specs.Parts.{behind_label, callee_in, label_in}
use Rattle.writeback.specs.Back.{back_text, begins, edge_in, edge_text, edges_text, kind_from, node_in, node_text, nodes_text, proc_text, procedure_text, run_from}
use Rattle.writeback.proofs.PartLaws.{callee_cut, label_cut, name_cut, word_cut}
use Rattle.writeback.proofs.Ranges.{first_past, proc_lines_are}

-- ---- runs, and where procedures begin

-- A run of the lines of a list.
run_lines : {A : Type 0} (d : A) (line : A → Bytes) (xs : List A) (f : ℕ → Bytes) (a n : ℕ) → a + n ≤ length xs → ((i : ℕ) → i < length xs → f i ≡ text_of (line (get_or xs i d) ∷ []))
    → run_from f a n ≡ text_of (map line (take n (drop a xs)))
unfolding run_from text_of
run_lines d line xs f a zero h e = refl
run_lines d line xs f a (suc n) h e =
    ap₂ (λ (x y : Bytes). x ++ y) (run_lines d line xs f a n (omega arith) e)
    (e (a + n) (omega arith) ∙ sym (ap (λ (x : _). text_of (line x ∷ [])) (get_or-drop a xs n d)))
    ∙ sym (text_append (map line (take n (drop a xs))) (map line (get_or (drop a xs) n d ∷ [])))
    ∙ sym (ap text_of (ap (map line) (take-suc (drop a xs) n d (omega (arith, length-drop a xs))) ∙ map-append line (take n (drop a xs)) (get_or (drop a xs) n d ∷ [])))

run_agrees : (f g : ℕ → Bytes) (a n : ℕ) → ((i : ℕ) → a ≤ i → i < a + n → f i ≡ g i) → run_from f a n ≡ run_from g a n
unfolding run_from
run_agrees f g a zero h = refl
run_agrees f g a (suc n) h = ap₂ (λ (x y : Bytes). x ++ y) (run_agrees f g a n (λ i b c. h i b (omega arith))) (h (a + n) (omega arith) (omega arith))

pub begins_few : (l : List ℕ) (k procs count q : ℕ) → begins l k procs count q ≤ count
unfolding begins choose
begins_few l k procs count q = go (ltb q procs)
  where
    go : (b : Bool) → choose b (min (get_or l (proc_base q + k) 0) count) count ≤ count
    go true = omega arith
    go false = omega arith

-- They begin where the table says, if it says so rightly.
begins_are : (l : List ℕ) (k procs count : ℕ) (g : ℕ → ℕ) → ((q : ℕ) → q < procs → get_or l (proc_base q + k) 0 ≡ g q) → ((q : ℕ) → g q ≤ count) → g procs ≡ count
    → (q : ℕ) → q ≤ procs → begins l k procs count q ≡ g q
unfolding begins
begins_are l k procs count g e few last q h =
    below_or q procs
    (λ b. choose_yes _ _ (lt-ltb q procs b) ∙ (let z : min (get_or l (proc_base q + k) 0) count ≡ g q = omega (arith, e q b, few q) in z))
    (λ b. choose_no _ _ (le-ltb q procs b) ∙ sym (ap g (let z : q ≡ procs = omega arith in z) ∙ last))

kind_back : (k : Kind) → kind_from (kind_number k) ≡ k
unfolding kind_from
kind_back E = refl
kind_back S = refl
kind_back C = refl
kind_back X = refl

-- ---- the text that was read

module _ (t n l : List ℕ) (s : Listing) (h : InMemory (memory t n l) s) (had : Count) (c : Counted had s) (lent : Bytes) (p : SameParts lent t s) where
  follows : Follows s.program
  follows = (accepted_follows t s.program (program_read _ s h)).0

  -- The lines.
  proc_is : (q : ℕ) → q < proc_count s.program → proc_text lent l q ≡ text_of (line_of_proc (name_at s.program q) ∷ [])
  unfolding proc_text
  proc_is q b = ap (λ (x : Bytes). text_of (line_of_proc x ∷ [])) (name_cut t n l s h lent q b ∙ p.names q b)

  node_is : (m : ℕ) → m < node_count s.program → node_text lent n l m ≡ text_of (line_of_node (node_at s.program m) ∷ [])
  unfolding node_text node_in line_of_node
  node_is m b =
      ap (λ (k : Kind). text_of (commas (bytes "N" ∷ kind_field k ∷ label_in lent n m ∷ callee_in lent n l m ∷ []) ∷ [])) (ap kind_from (kind_is _ s h m b) ∙ kind_back (kind_at s.program m))
      ∙ ap₂ (λ (x y : Bytes). text_of (commas (bytes "N" ∷ kind_field (kind_at s.program m) ∷ x ∷ y ∷ []) ∷ [])) (label_cut t n l s h lent m b ∙ p.labels m b)
      (callee_cut t n l s h lent m b ∙ p.callees m b)

  edge_is : (e : ℕ) → e < edge_count s.program → edge_text lent l e ≡ text_of (line_of_edge (edge_at s.program e) ∷ [])
  unfolding edge_text edge_in line_of_edge
  edge_is e b =
      ap (λ (x : Bytes). text_of (commas (bytes "B" ∷ decimal (get_or l (edge_base e) 0) ∷ x ∷ decimal (get_or l (edge_base e + 3) 0) ∷ []) ∷ [])) (word_cut t n l s h lent e b ∙ p.words e b)
      ∙ ap₂ (λ (i j : ℕ). text_of (commas (bytes "B" ∷ decimal i ∷ word_at s.program e ∷ decimal j ∷ []) ∷ [])) (source_is _ s h e b) (target_is _ s h e b)

  -- Where procedures begin.
  first_few : (q : ℕ) → (first_node s.program q ≤ node_count s.program) × (first_edge s.program q ≤ edge_count s.program)
  unfolding first_node first_edge
  first_few q = (count_few _ (node_count s.program), count_few _ (edge_count s.program))

  nodes_begin : (q : ℕ) → q ≤ proc_count s.program → begins l 3 had.procs had.nodes q ≡ first_node s.program q
  nodes_begin q b =
      ap₂ (λ (i j : ℕ). begins l 3 i j q) c.procs_n c.nodes_n
      ∙ begins_are l 3 (proc_count s.program) (node_count s.program) (first_node s.program) (λ r d. h.procs r d 3 (omega arith)) (λ r. (first_few r).0) (first_past s.program follows).0 q b

  edges_begin : (q : ℕ) → q ≤ proc_count s.program → begins l 4 had.procs had.edges q ≡ first_edge s.program q
  edges_begin q b =
      ap₂ (λ (i j : ℕ). begins l 4 i j q) c.procs_n c.edges_n
      ∙ begins_are l 4 (proc_count s.program) (edge_count s.program) (first_edge s.program) (λ r d. h.procs r d 4 (omega arith)) (λ r. (first_few r).1) (first_past s.program follows).1 q b

  -- A procedure.
  module _ (q : ℕ) (b : q < proc_count s.program) where
    nodes_are : nodes_text lent n l had q ≡ text_of (map line_of_node (take (first_node s.program (suc q) - first_node s.program q) (drop (first_node s.program q) s.program.nodes)))
    unfolding nodes_text
    nodes_are =
        ap₂ (λ (i j : ℕ). run_from (node_text lent n l) i (j - i)) (nodes_begin q (omega arith)) (ap (begins l 3 had.procs had.nodes) (add-one q) ∙ nodes_begin (suc q) (omega arith))
        ∙ run_lines no_node line_of_node s.program.nodes (node_text lent n l) (first_node s.program q) (first_node s.program (suc q) - first_node s.program q)
        (omega (arith, (first_few q).0, (first_few (suc q)).0)) node_is

    edges_are : edges_text lent l had q ≡ text_of (map line_of_edge (take (first_edge s.program (suc q) - first_edge s.program q) (drop (first_edge s.program q) s.program.edges)))
    unfolding edges_text
    edges_are =
        ap₂ (λ (i j : ℕ). run_from (edge_text lent l) i (j - i)) (edges_begin q (omega arith)) (ap (begins l 4 had.procs had.edges) (add-one q) ∙ edges_begin (suc q) (omega arith))
        ∙ run_lines no_edge line_of_edge s.program.edges (edge_text lent l) (first_edge s.program q) (first_edge s.program (suc q) - first_edge s.program q)
        (omega (arith, (first_few q).1, (first_few (suc q)).1)) edge_is

    procedure_is : procedure_text lent n l had q ≡ text_of (proc_lines s.program q)
    unfolding procedure_text
    procedure_is =
        ap₂ (λ (x y : Bytes). x ++ y) (proc_is q b) (ap₂ (λ (x y : Bytes). x ++ y) nodes_are edges_are ∙ sym (text_append _ _)) ∙ sym (text_more _ _)
        ∙ sym (ap text_of (proc_lines_are s.program follows q))

  procedures_are : (q : ℕ) → q ≤ proc_count s.program → run_from (procedure_text lent n l had) 0 q ≡ text_of (program_lines s.program q)
  unfolding run_from program_lines text_of
  procedures_are zero b = refl
  procedures_are (suc q) b =
      ap₂ (λ (x y : Bytes). x ++ y) (procedures_are q (omega arith)) (ap (procedure_text lent n l had) (zero-add q) ∙ procedure_is q (omega arith))
      ∙ sym (text_append (program_lines s.program q) (proc_lines s.program q))

  -- Where the tables hold what reading t leaves and the lent text has the same parts, t is what is written back.
  pub back_text_is : back_text lent n l had ≡ t
  unfolding back_text write_program
  back_text_is =
      ap (run_from (procedure_text lent n l had) 0) c.procs_n ∙ procedures_are (proc_count s.program) (omega arith)
      ∙ sym (accepted_follows t s.program (program_read _ s h)).1

-- ---- only the first 2,048 numbers of the nodes are looked at

module _ (t n n' l : List ℕ) (same : (i : ℕ) → i < 2048 → get_or n i 0 ≡ get_or n' i 0) where
  node_agrees : (m : ℕ) → m < 512 → node_text t n l m ≡ node_text t n' l m
  unfolding node_text node_in label_in part_at callee_in behind_label
  node_agrees m h =
      let a = same (node_base m) (omega arith) in
      let b = same (node_base m + 1) (omega arith) in
      let d = same (node_base m + 2) (omega arith) in
      let e = same (node_base m + 1 + 1) (omega arith) in
      let f = same (node_base m + 3) (omega arith) in
      simp (a, b, d, e, f)

  pub back_agrees : (had : Count) → Small had → back_text t n l had ≡ back_text t n' l had
  unfolding back_text procedure_text nodes_text
  back_agrees had s =
      run_agrees (procedure_text t n l had) (procedure_text t n' l had) 0 had.procs
      (λ q b d.
      ap (λ (x : Bytes). proc_text t l q ++ (x ++ edges_text t l had q))
      (run_agrees (node_text t n l) (node_text t n' l) (begins l 3 had.procs had.nodes q) (begins l 3 had.procs had.nodes (q + 1) - begins l 3 had.procs had.nodes q)
      (λ m i j. node_agrees m (omega (arith, s.few_nodes, begins_few l 3 had.procs had.nodes (q + 1))))))
