-- The work table after a line: it holds what was read with the line more.
use mathlib.Core.Path.{◌≡◌, refl, sym, ap, ◌∙◌, subst}
use mathlib.Core.Logic.{◌⊎◌, inl, inr, ⊎_elim}
use mathlib.Core.Bool.{true, false}
use mathlib.Core.List.{List, [], ◌∷◌, ◌++◌}
use Prim.Native.Nat.{ℕ, suc, ◌+◌, ◌-◌, ◌*◌, ◌≤◌, ◌<◌}
use native.Mathlib.Omega.{arith}
use lib.Dec.{eqb}
use lib.ListN.{length, get_or, set, length-set, length-drop}
use lib.Seq.{sets, length-sets, get_or-set_same, get_or-set_other, get_or-drop}
use borrow.Author.Tests.{eqb-true, eq-eqb, ne_eqb}
use Rattle.laws.specs.Tests.{◌and◌, first, count, choose}
use Rattle.laws.specs.TestLaws.{and_left, and_right, and_both, fails, both_ways, passes?}
use Rattle.rules.proofs.GraphLaws.{same_kind_true}
use Rattle.laws.specs.Lists.{snoc_length, snoc_cases, snoc_old, snoc_new}
use Rattle.laws.specs.Counting.{count_zero}
use Rattle.laws.specs.Slices.{same_or, drop_sets_after, drop_sets_add, get_d_sets_before, get_d_sets_after, get_d_sets_in}
use Rattle.laws.specs.Chain.{latest, latest_hit, latest_miss, latest_agree, latest_none}
use Rattle.rules.specs.Text.{Bytes, value}
use Rattle.rules.specs.Graph.{Kind, E, S, C, X, Node, Edge, no_node, no_edge, owner_at, source_at, proc_count, node_count, edge_count, kind_number, same_kind, or_zero, is_of, entry, exit}
use Rattle.rules.specs.ProgramFile.{Listing, add_node, current, with_proc, with_node, with_edge}
use Rattle.graph.specs.Table.{At, proc_head, edge_row, head_of, first_node, first_edge}
use Rattle.graph.specs.Keys.{word_key}
use Rattle.graph.specs.Lookups.{in_table}
use Rattle.lines.specs.Known.{Known}
use Rattle.reader.specs.Result.{Count, links_of}
use Rattle.reader.specs.Reading.{reading_row, InProgress, Holds, stored_proc, marked, stored_node, stored_edge, counts}
use Rattle.reader.proofs.Programs.{new_first_node, new_first_edge, node_first_node, node_first_edge, other_count, other_first, own_first, edge_source_old, edge_source_new, edge_first_edge}

-- ---- rows and stores

-- A row that was stored.
at_same : (l : List ℕ) (i : ℕ) (row : List ℕ) → i + length row ≤ length l → At (in_table (sets l i row)) i row
at_same l i row h k b = get_d_sets_in row l i k 0 h b

-- A row elsewhere.
at_other : (l vs row : List ℕ) (i j : ℕ) → (j + length row ≤ i) ⊎ (i + length vs ≤ j) → At (in_table l) j row → At (in_table (sets l i vs)) j row
at_other l vs row i j (inl h) a k b = get_d_sets_before vs l i (j + k) 0 (omega arith) ∙ a k b
at_other l vs row i j (inr h) a k b = get_d_sets_after vs l i (j + k) 0 (omega arith) ∙ a k b

five : {a b c d e a' b' c' d' e' : ℕ} → a ≡ a' → b ≡ b' → c ≡ c' → d ≡ d' → e ≡ e' → a ∷ b ∷ c ∷ d ∷ e ∷ [] ≡ a' ∷ b' ∷ c' ∷ d' ∷ e' ∷ []
five p q r s t = cc

four : {a b c d a' b' c' d' : ℕ} → a ≡ a' → b ≡ b' → c ≡ c' → d ≡ d' → a ∷ b ∷ c ∷ d ∷ [] ≡ a' ∷ b' ∷ c' ∷ d' ∷ []
four p q r s = cc

-- The last of a list with one more, by its length.
last_is : {A : Type 0} (d : A) (l : List A) (x : A) (n : ℕ) → length l ≡ n → get_or (l ++ (x ∷ [])) n d ≡ x
last_is d l x n e = subst (λ (m : ℕ). get_or (l ++ (x ∷ [])) m d ≡ x) e (snoc_new d l x)

-- ---- a procedure more

module _ (text w : List ℕ) (c : Count) (s : Listing) (k : Known text s) (h : Holds w c s) (room : 8128 ≤ length w) (few : c.procs < 64) (name : Bytes) (n at : ℕ) where
  -- The program with it.
  more : Listing
  more = with_proc n at name s

  row : List ℕ
  row = (at + 2) ∷ length name ∷ n ∷ c.nodes ∷ c.edges ∷ []

  links : links_of (stored_proc w c.procs (at + 2) (length name) n c.nodes c.edges) ≡ sets (links_of w) (7 * c.procs) row
  unfolding stored_proc row
  links = drop_sets_add row w (7 * c.procs) 2048

  long : length (links_of w) ≡ length w - 2048
  long = length-drop 2048 w

  head_old : (q : ℕ) → q < proc_count s.program → proc_head more q ≡ proc_head s q
  unfolding more first_node first_edge
  head_old q l =
      five (snoc_old 0 s.places.name_starts (at + 2) q (omega (arith, k.name_starts))) (ap length (snoc_old [] s.program.procs name q l))
      (snoc_old 0 s.places.proc_lines n q (omega (arith, k.proc_lines))) refl refl

  head_new : proc_head more (proc_count s.program) ≡ row
  unfolding more row
  head_new =
      five (last_is 0 s.places.name_starts (at + 2) (proc_count s.program) k.name_starts) (ap length (snoc_new [] s.program.procs name))
      (last_is 0 s.places.proc_lines n (proc_count s.program) k.proc_lines) (new_first_node s.program k.sound name ∙ sym h.nodes_n)
      (new_first_edge s.program k.sound name ∙ sym h.edges_n)

  -- The new procedure has no node yet.
  none_of : (kind : Kind) → count (node_count more.program) (is_of more.program (proc_count s.program) kind) ≡ 0
  unfolding more is_of ◌and◌
  none_of kind = count_zero _ (node_count s.program) (λ i l.
      let z : eqb (owner_at s.program i) (proc_count s.program) ≡ false = ne_eqb _ _ (λ (e : owner_at s.program i ≡ proc_count s.program). let z : ⊥ = omega (arith, k.sound.owners i l) in z) in
      rw z)

  -- What stands elsewhere in the links.
  link_other : (i : ℕ) → (i < 7 * c.procs) ⊎ (7 * c.procs + 5 ≤ i) → get_or (sets (links_of w) (7 * c.procs) row) i 0 ≡ get_or (links_of w) i 0
  unfolding row
  link_other i (inl l) = get_d_sets_before row (links_of w) (7 * c.procs) i 0 l
  link_other i (inr l) = get_d_sets_after row (links_of w) (7 * c.procs) i 0 l

  proc_at : (q : ℕ) → (q < proc_count s.program) ⊎ (q ≡ proc_count s.program) → At (in_table (sets (links_of w) (7 * c.procs) row)) (7 * q) (proc_head more q)
  unfolding row
  proc_at q (inl l) =
      subst (λ (r : List ℕ). At (in_table (sets (links_of w) (7 * c.procs) row)) (7 * q) r) (sym (head_old q l))
      (at_other (links_of w) row (proc_head s q) (7 * c.procs) (7 * q) (inl (omega (arith, h.procs_n))) (h.reading.procs q l))
  proc_at q (inr l) =
      let e : c.procs ≡ q = h.procs_n ∙ sym l in
      subst (λ (r : List ℕ). At (in_table (sets (links_of w) (7 * c.procs) row)) (7 * q) r) (sym (ap (proc_head more) l ∙ head_new))
      (subst (λ (m : ℕ). At (in_table (sets (links_of w) (7 * c.procs) row)) (7 * m) row) e (at_same (links_of w) (7 * c.procs) row (omega (arith, long))))

  entry_at : (q : ℕ) → (q < proc_count s.program) ⊎ (q ≡ proc_count s.program) → count (node_count more.program) (is_of more.program q E) ≡ 1
      → get_or (sets (links_of w) (7 * c.procs) row) (7 * q + 5) 0 ≡ entry more.program q
  unfolding more is_of entry
  entry_at q (inl l) one = link_other (7 * q + 5) (inl (omega (arith, h.procs_n))) ∙ h.reading.entries q l one
  entry_at q (inr l) one = absurd (let z : ⊥ = omega (arith, sym one ∙ ap (λ (m : ℕ). count (node_count more.program) (is_of more.program m E)) l ∙ none_of E) in z)

  exit_at : (q : ℕ) → (q < proc_count s.program) ⊎ (q ≡ proc_count s.program) → count (node_count more.program) (is_of more.program q X) ≡ 1
      → get_or (sets (links_of w) (7 * c.procs) row) (7 * q + 6) 0 ≡ exit more.program q
  unfolding more is_of exit
  exit_at q (inl l) one = link_other (7 * q + 6) (inl (omega (arith, h.procs_n))) ∙ h.reading.exits q l one
  exit_at q (inr l) one = absurd (let z : ⊥ = omega (arith, sym one ∙ ap (λ (m : ℕ). count (node_count more.program) (is_of more.program m X)) l ∙ none_of X) in z)

  pub push_proc : Holds (stored_proc w c.procs (at + 2) (length name) n c.nodes c.edges) (counts (c.procs + 1) c.nodes c.edges) (with_proc n at name s)
  unfolding more row stored_proc
  push_proc =
      let cases : (q : ℕ) → q < proc_count more.program → (q < proc_count s.program) ⊎ (q ≡ proc_count s.program) = λ q l. snoc_cases [] s.program.procs name q l in
      record {
        procs_n = omega (arith, h.procs_n, snoc_length [] s.program.procs name);
        nodes_n = h.nodes_n;
        edges_n = h.edges_n;
        reading =
            subst (λ (l : List ℕ). InProgress (in_table (sets w (2048 + 7 * c.procs) row)) (in_table l) more) (sym links)
            (record {
              nodes = λ i l. at_other w row (reading_row s i) (2048 + 7 * c.procs) (4 * i) (inl (omega (arith, k.sound.few_nodes))) (h.reading.nodes i l);
              procs = λ q l. proc_at q (cases q l);
              entries = λ q l. entry_at q (cases q l);
              exits = λ q l. exit_at q (cases q l);
              edges = λ e l. at_other (links_of w) row (edge_row s e) (7 * c.procs) (448 + 5 * e) (inr (omega arith)) (h.reading.edges e l);
              heads = λ i l. link_other (5568 + i) (inr (omega arith)) ∙ h.reading.heads i l;
            });
      }

-- ---- a node more

-- What the mark of an entry or exit does to the links.
abbrev marked_links : Kind → ℕ → ℕ → List ℕ → List ℕ
marked_links E q c m = set m (7 * q + 5) c
marked_links S q c m = m
marked_links C q c m = m
marked_links X q c m = set m (7 * q + 6) c

-- A store in the links, and one in the nodes.
links_set : (w : List ℕ) (i j v : ℕ) → i ≡ 2048 + j → links_of (set w i v) ≡ set (links_of w) j v
links_set w i j v e = subst (λ (m : ℕ). links_of (set w m v) ≡ set (links_of w) j v) (sym e) (drop_sets_add (v ∷ []) w j 2048)

links_marked : (k : Kind) (q c : ℕ) (w : List ℕ) → links_of (marked (kind_number k) q c w) ≡ marked_links k q c (links_of w)
unfolding marked choose
links_marked E q c w = links_set w (2048 + 7 * q + 5) (7 * q + 5) c (omega arith)
links_marked S q c w = refl
links_marked C q c w = refl
links_marked X q c w = links_set w (2048 + 7 * q + 6) (7 * q + 6) c (omega arith)

node_marked : (k : Kind) (q c : ℕ) (w : List ℕ) (i : ℕ) → i < 2048 → get_or (marked (kind_number k) q c w) i 0 ≡ get_or w i 0
unfolding marked choose
node_marked E q c w i h = get_or-set_other w (2048 + 7 * q + 5) i c 0 (omega arith)
node_marked S q c w i h = refl
node_marked C q c w i h = refl
node_marked X q c w i h = get_or-set_other w (2048 + 7 * q + 6) i c 0 (omega arith)

-- What stands in the links then: elsewhere what stood there, and at the two places of the procedure the node, if it is of that kind.
mark_other : (k : Kind) (q c : ℕ) (m : List ℕ) (i : ℕ) → (i ≡ 7 * q + 5 → ⊥) → (i ≡ 7 * q + 6 → ⊥) → get_or (marked_links k q c m) i 0 ≡ get_or m i 0
mark_other E q c m i a b = get_or-set_other m (7 * q + 5) i c 0 a
mark_other S q c m i a b = refl
mark_other C q c m i a b = refl
mark_other X q c m i a b = get_or-set_other m (7 * q + 6) i c 0 b

mark_entry : (q c : ℕ) (m : List ℕ) → 7 * q + 5 < length m → get_or (marked_links E q c m) (7 * q + 5) 0 ≡ c
mark_entry q c m h = get_or-set_same m (7 * q + 5) c 0 h

mark_exit : (q c : ℕ) (m : List ℕ) → 7 * q + 6 < length m → get_or (marked_links X q c m) (7 * q + 6) 0 ≡ c
mark_exit q c m h = get_or-set_same m (7 * q + 6) c 0 h

no_entry : (k : Kind) (q c : ℕ) (m : List ℕ) → same_kind k E ≡ false → get_or (marked_links k q c m) (7 * q + 5) 0 ≡ get_or m (7 * q + 5) 0
unfolding same_kind
no_entry E q c m e = absurd (both_ways refl e)
no_entry S q c m e = refl
no_entry C q c m e = refl
no_entry X q c m e = get_or-set_other m (7 * q + 6) (7 * q + 5) c 0 (omega arith)

no_exit : (k : Kind) (q c : ℕ) (m : List ℕ) → same_kind k X ≡ false → get_or (marked_links k q c m) (7 * q + 6) 0 ≡ get_or m (7 * q + 6) 0
unfolding same_kind
no_exit E q c m e = get_or-set_other m (7 * q + 5) (7 * q + 6) c 0 (omega arith)
no_exit S q c m e = refl
no_exit C q c m e = refl
no_exit X q c m e = absurd (both_ways refl e)

module _ (text w : List ℕ) (c : Count) (s : Listing) (k : Known text s) (h : Holds w c s) (room : 8128 ≤ length w) (begun : 0 < c.procs) (few : c.nodes < 512)
    (kind : Kind) (label callee : Bytes) (n at : ℕ) where
  abbrev q : ℕ
  q = c.procs - 1

  abbrev x : Node
  x = record { owner = current s.program; kind = kind; label = label; callee = callee }

  listing_with_node : Listing
  listing_with_node = with_node n at kind label callee s

  node_row : List ℕ
  node_row = kind_number kind ∷ (at + 4) ∷ length label ∷ (n * 64 + length callee) ∷ []

  after_rows : List ℕ
  unfolding node_row
  after_rows = set (sets w (4 * c.nodes) node_row) (7616 + c.nodes) 0

  m₀ : List ℕ
  m₀ = set (links_of w) (5568 + c.nodes) 0

  links_rows : links_of after_rows ≡ m₀
  unfolding after_rows m₀ node_row
  links_rows =
      links_set (sets w (4 * c.nodes) node_row) (7616 + c.nodes) (5568 + c.nodes) 0 (omega arith)
      ∙ ap (λ (l : List ℕ). set l (5568 + c.nodes) 0) (drop_sets_after node_row w (4 * c.nodes) 2048 (omega arith))

  long_links : length m₀ ≡ length w - 2048
  unfolding m₀
  long_links = length-set (links_of w) (5568 + c.nodes) 0 ∙ length-drop 2048 w

  keep : (i : ℕ) → (i ≡ 5568 + c.nodes → ⊥) → (i ≡ 7 * q + 5 → ⊥) → (i ≡ 7 * q + 6 → ⊥) → get_or (marked_links kind q c.nodes m₀) i 0 ≡ get_or (links_of w) i 0
  unfolding m₀
  keep i a b d = mark_other kind q c.nodes m₀ i b d ∙ get_or-set_other (links_of w) (5568 + c.nodes) i 0 0 a

  place : (i : ℕ) → i < 5568 → get_or m₀ i 0 ≡ get_or (links_of w) i 0
  unfolding m₀
  place i l = get_or-set_other (links_of w) (5568 + c.nodes) i 0 0 (omega arith)

  node_at : (i : ℕ) → (i < node_count s.program) ⊎ (i ≡ node_count s.program) → At (in_table (marked (kind_number kind) q c.nodes after_rows)) (4 * i) (reading_row listing_with_node i)
  unfolding listing_with_node after_rows node_row
  node_at i (inl l) j b =
      node_marked kind q c.nodes after_rows (4 * i + j) (omega (arith, h.nodes_n))
      ∙ get_or-set_other (sets w (4 * c.nodes) node_row) (7616 + c.nodes) (4 * i + j) 0 0 (omega (arith, h.nodes_n))
      ∙ get_d_sets_before node_row w (4 * c.nodes) (4 * i + j) 0 (omega (arith, h.nodes_n)) ∙ h.reading.nodes i l j b ∙ ap (λ (r : List ℕ). get_or r j 0) (sym old)
    where
      v : get_or (s.program.nodes ++ (x ∷ [])) i no_node ≡ get_or s.program.nodes i no_node
      v = snoc_old no_node s.program.nodes x i l

      old : reading_row listing_with_node i ≡ reading_row s i
      old = four (ap (λ (v : Node). kind_number v.kind) v) (snoc_old 0 s.places.label_starts (at + 4) i (omega (arith, k.label_starts))) (ap (λ (v : Node). length v.label) v)
          (let p : get_or (s.places.node_lines ++ (n ∷ [])) i 0 ≡ get_or s.places.node_lines i 0 = snoc_old 0 s.places.node_lines n i (omega (arith, k.node_lines)) in
          let u : length (get_or (s.program.nodes ++ (x ∷ [])) i no_node).callee ≡ length (get_or s.program.nodes i no_node).callee = ap (λ (v : Node). length v.callee) v in
          omega arith)
  node_at i (inr l) j b =
      node_marked kind q c.nodes after_rows (4 * i + j) (omega (arith, h.nodes_n))
      ∙ get_or-set_other (sets w (4 * c.nodes) node_row) (7616 + c.nodes) (4 * i + j) 0 0 (omega (arith, h.nodes_n))
      ∙ ap (λ (m : ℕ). get_or (sets w (4 * c.nodes) node_row) (4 * m + j) 0) (l ∙ sym h.nodes_n) ∙ get_d_sets_in node_row w (4 * c.nodes) j 0 (omega arith) b ∙ ap (λ (r : List ℕ). get_or r j 0) (sym new)
    where
      new : reading_row listing_with_node i ≡ node_row
      new = ap (reading_row listing_with_node) l ∙ four (ap (λ (v : Node). kind_number v.kind) (snoc_new no_node s.program.nodes x)) (last_is 0 s.places.label_starts (at + 4) (node_count s.program) k.label_starts) (ap (λ (v : Node). length v.label) (snoc_new no_node s.program.nodes x))
          (let p : get_or (s.places.node_lines ++ (n ∷ [])) (node_count s.program) 0 ≡ n = last_is 0 s.places.node_lines n (node_count s.program) k.node_lines in
          let u : length (get_or (s.program.nodes ++ (x ∷ [])) (node_count s.program) no_node).callee ≡ length callee = ap (λ (v : Node). length v.callee) (snoc_new no_node s.program.nodes x) in
          omega arith)

  is_last : c.procs ≡ suc (current s.program)
  is_last = omega (arith, h.procs_n)

  head_kept : (i : ℕ) → i < proc_count s.program → proc_head listing_with_node i ≡ proc_head s i
  unfolding listing_with_node
  head_kept i l =
      five refl refl refl (node_first_node s.program x i (omega (arith, is_last, h.procs_n))) (node_first_edge s.program x k.sound.sources i)

  proc_kept : (i : ℕ) → i < proc_count s.program → At (in_table (marked_links kind q c.nodes m₀)) (7 * i) (proc_head listing_with_node i)
  proc_kept i l =
      subst (λ (r : List ℕ). At (in_table (marked_links kind q c.nodes m₀)) (7 * i) r) (sym (head_kept i l))
      (λ j b. keep (7 * i + j) (omega (arith, k.sound.few_procs)) (omega arith) (omega arith) ∙ h.reading.procs i l j b)

  -- Not of the procedure i, or not of the kind.
  apart : (i : ℕ) (t : Kind) → (eqb x.owner i and same_kind kind t) ≡ false → (i ≡ current s.program) → same_kind kind t ≡ false
  apart i t e o = fails _ (λ y. both_ways (and_both (eq-eqb _ _ (sym o)) y) e)

  -- The first node of the kind t in each procedure that has one, where it is noted d numbers into the procedure's row: an entry, or an exit.
  module _ (t : Kind) (d : ℕ) (five_up : 5 ≤ d) (six_most : d ≤ 6) (noted : get_or (marked_links t q c.nodes m₀) (7 * q + d) 0 ≡ c.nodes)
      (unnoted : same_kind kind t ≡ false → get_or (marked_links kind q c.nodes m₀) (7 * q + d) 0 ≡ get_or m₀ (7 * q + d) 0) where
    one_kept : (i : ℕ) → i < proc_count s.program
        → (count (node_count s.program) (is_of s.program i t) ≡ 1 → get_or (links_of w) (7 * i + d) 0 ≡ or_zero (first (node_count s.program) (is_of s.program i t)))
        → count (node_count (add_node x s.program)) (is_of (add_node x s.program) i t) ≡ 1
        → get_or (marked_links kind q c.nodes m₀) (7 * i + d) 0 ≡ or_zero (first (node_count (add_node x s.program)) (is_of (add_node x s.program) i t))
    unfolding or_zero
    one_kept i l before one = ⊎_elim own other (passes? (eqb x.owner i and same_kind kind t))
      where
        own : (eqb x.owner i and same_kind kind t) ≡ true → get_or (marked_links kind q c.nodes m₀) (7 * i + d) 0 ≡ or_zero (first (node_count (add_node x s.program)) (is_of (add_node x s.program) i t))
        own y =
            let o : i ≡ q = sym (eqb-true _ _ (and_left _ _ y)) ∙ (let z : current s.program ≡ c.procs - 1 = omega (arith, is_last) in z) in
            subst (λ (k : Kind). get_or (marked_links k q c.nodes m₀) (7 * i + d) 0 ≡ c.nodes) (sym (same_kind_true _ _ (and_right _ _ y)))
            (subst (λ (j : ℕ). get_or (marked_links t q c.nodes m₀) (7 * j + d) 0 ≡ c.nodes) (sym o) noted)
            ∙ h.nodes_n ∙ ap or_zero (sym (own_first s.program x i t y one))

        other : (eqb x.owner i and same_kind kind t) ≡ false → get_or (marked_links kind q c.nodes m₀) (7 * i + d) 0 ≡ or_zero (first (node_count (add_node x s.program)) (is_of (add_node x s.program) i t))
        other y =
            same_or i q
            (λ o. ap (λ (j : ℕ). get_or (marked_links kind q c.nodes m₀) (7 * j + d) 0) o ∙ unnoted (apart i t y (let z : i ≡ current s.program = omega (arith, is_last, o) in z))
            ∙ ap (λ (j : ℕ). get_or m₀ (7 * j + d) 0) (sym o) ∙ place (7 * i + d) (omega (arith, k.sound.few_procs)))
            (λ o. keep (7 * i + d) (omega (arith, k.sound.few_procs)) (λ (e : 7 * i + d ≡ 7 * q + 5). o (omega arith)) (λ (e : 7 * i + d ≡ 7 * q + 6). o (omega arith)))
            ∙ before (sym (other_count s.program x i t y) ∙ one) ∙ ap or_zero (sym (other_first s.program x i t y))

  head_at : (i : ℕ) → (i < node_count s.program) ⊎ (i ≡ node_count s.program) → get_or (marked_links kind q c.nodes m₀) (5568 + i) 0 ≡ head_of listing_with_node i
  unfolding listing_with_node m₀
  head_at i (inl l) = keep (5568 + i) (omega (arith, h.nodes_n)) (omega (arith, k.sound.few_procs, is_last, h.procs_n)) (omega (arith, k.sound.few_procs, is_last, h.procs_n)) ∙ h.reading.heads i l
  head_at i (inr l) =
      let e : i ≡ c.nodes = l ∙ sym h.nodes_n in
      mark_other kind q c.nodes m₀ (5568 + i) (omega (arith, k.sound.few_procs, is_last, h.procs_n)) (omega (arith, k.sound.few_procs, is_last, h.procs_n))
      ∙ ap (λ (j : ℕ). get_or m₀ (5568 + j) 0) e ∙ get_or-set_same (links_of w) (5568 + c.nodes) 0 0 (omega (arith, length-drop 2048 w))
      ∙ sym (latest_none (source_at s.program) i (edge_count s.program) (λ j b (y : source_at s.program j ≡ i). let z : ⊥ = omega (arith, k.sound.sources j b) in z))

  pub push_node : Holds (stored_node w (c.procs - 1) c.nodes (kind_number kind) (at + 4) (length label) (n * 64 + length callee))
      (counts c.procs (c.nodes + 1) c.edges) (with_node n at kind label callee s)
  unfolding stored_node after_rows node_row listing_with_node entry exit
  push_node =
      let most_procs : c.procs ≤ 64 = omega (arith, k.sound.few_procs, h.procs_n) in
      record {
        procs_n = h.procs_n;
        nodes_n = omega (arith, h.nodes_n, snoc_length no_node s.program.nodes x);
        edges_n = h.edges_n;
        reading =
            subst (λ (l : List ℕ). InProgress (in_table (marked (kind_number kind) q c.nodes after_rows)) (in_table l) listing_with_node)
            (sym (links_marked kind q c.nodes after_rows ∙ ap (marked_links kind q c.nodes) links_rows))
            (record {
              nodes = λ i l. node_at i (snoc_cases no_node s.program.nodes x i l);
              procs = proc_kept;
              entries = λ i l. one_kept E 5 (omega arith) (omega arith) (mark_entry q c.nodes m₀ (omega (arith, long_links))) (no_entry kind q c.nodes m₀) i l (h.reading.entries i l);
              exits = λ i l. one_kept X 6 (omega arith) (omega arith) (mark_exit q c.nodes m₀ (omega (arith, long_links))) (no_exit kind q c.nodes m₀) i l (h.reading.exits i l);
              edges = λ e l j b. keep (448 + 5 * e + j) (omega (arith, k.sound.few_edges)) (omega arith) (omega arith) ∙ h.reading.edges e l j b;
              heads = λ i l. head_at i (snoc_cases no_node s.program.nodes x i l);
            });
      }

-- ---- an edge more

module _ (text w : List ℕ) (c : Count) (s : Listing) (k : Known text s) (h : Holds w c s) (room : 8128 ≤ length w) (few : c.edges < 1024)
    (from word to : Bytes) (at : ℕ) (mine : owner_at s.program (value from) ≡ current s.program) (there : value from < node_count s.program) where
  abbrev y : Edge
  y = record { source = value from; word = word; target = value to }

  abbrev listing_with_edge : Listing
  listing_with_edge = with_edge at from word to s

  abbrev row_of_edge : List ℕ
  row_of_edge = value from ∷ (at + length from + 3) ∷ word_key word ∷ value to ∷ get_or w (7616 + value from) 0 ∷ []

  m₁ : List ℕ
  m₁ = set (sets (links_of w) (448 + 5 * c.edges) row_of_edge) (5568 + value from) (c.edges + 1)

  links_edge : links_of (set (sets w (2496 + 5 * c.edges) row_of_edge) (7616 + value from) (c.edges + 1)) ≡ m₁
  unfolding m₁
  links_edge =
      links_set (sets w (2496 + 5 * c.edges) row_of_edge) (7616 + value from) (5568 + value from) (c.edges + 1) (omega arith)
      ∙ ap (λ (l : List ℕ). set l (5568 + value from) (c.edges + 1))
      (subst (λ (i : ℕ). links_of (sets w i row_of_edge) ≡ sets (links_of w) (448 + 5 * c.edges) row_of_edge) (let z : 2048 + (448 + 5 * c.edges) ≡ 2496 + 5 * c.edges = omega arith in z) (drop_sets_add row_of_edge w (448 + 5 * c.edges) 2048))

  kept_before : (i : ℕ) → i < 448 + 5 * c.edges → get_or m₁ i 0 ≡ get_or (links_of w) i 0
  unfolding m₁
  kept_before i l =
      get_or-set_other (sets (links_of w) (448 + 5 * c.edges) row_of_edge) (5568 + value from) i (c.edges + 1) 0 (omega arith) ∙ get_d_sets_before row_of_edge (links_of w) (448 + 5 * c.edges) i 0 l

  sources_agree : (i : ℕ) → i < edge_count s.program → source_at listing_with_edge.program i ≡ source_at s.program i
  sources_agree i l = edge_source_old s.program y i l

  -- The head of the chain before it.
  head_before : (e : ℕ) → e ≡ edge_count s.program → get_or w (7616 + value from) 0 ≡ latest (source_at listing_with_edge.program) (source_at listing_with_edge.program e) e
  head_before e l =
      ap (λ (i : ℕ). get_or w i 0) (let z : 7616 + value from ≡ 2048 + (5568 + value from) = omega arith in z) ∙ sym (get_or-drop 2048 w (5568 + value from) 0) ∙ h.reading.heads (value from) there
      ∙ sym (latest_agree (source_at listing_with_edge.program) (source_at s.program) (value from) (edge_count s.program) sources_agree)
      ∙ ap (λ (a : ℕ). latest (source_at listing_with_edge.program) a (edge_count s.program)) (sym (edge_source_new s.program y))
      ∙ ap (λ (m : ℕ). latest (source_at listing_with_edge.program) (source_at listing_with_edge.program m) m) (sym l)

  row_old : (e : ℕ) → e < edge_count s.program → edge_row listing_with_edge e ≡ edge_row s e
  row_old e l =
      let v = snoc_old no_edge s.program.edges y e l in
      five (ap (λ (v : Edge). v.source) v) (snoc_old 0 s.places.word_starts (at + length from + 3) e (omega (arith, k.word_starts))) (ap (λ (v : Edge). word_key v.word) v) (ap (λ (v : Edge). v.target) v)
      (latest_agree (source_at listing_with_edge.program) (source_at s.program) (source_at listing_with_edge.program e) e (λ i b. sources_agree i (omega arith))
      ∙ ap (λ (a : ℕ). latest (source_at s.program) a e) (sources_agree e l))

  row_new : (e : ℕ) → e ≡ edge_count s.program → row_of_edge ≡ edge_row listing_with_edge e
  row_new e l =
      let v : get_or (s.program.edges ++ (y ∷ [])) e no_edge ≡ y = last_is no_edge s.program.edges y e (sym l) in
      five (sym (ap (λ (v : Edge). v.source) v)) (sym (last_is 0 s.places.word_starts (at + length from + 3) e (k.word_starts ∙ sym l))) (sym (ap (λ (v : Edge). word_key v.word) v)) (sym (ap (λ (v : Edge). v.target) v))
      (head_before e l)

  edge_at : (e : ℕ) → (e < edge_count s.program) ⊎ (e ≡ edge_count s.program) → At (in_table m₁) (448 + 5 * e) (edge_row listing_with_edge e)
  unfolding m₁
  edge_at e (inl l) j b = kept_before (448 + 5 * e + j) (omega (arith, h.edges_n)) ∙ h.reading.edges e l j b ∙ ap (λ (r : List ℕ). get_or r j 0) (sym (row_old e l))
  edge_at e (inr l) j b =
      get_or-set_other (sets (links_of w) (448 + 5 * c.edges) row_of_edge) (5568 + value from) (448 + 5 * e + j) (c.edges + 1) 0 (omega (arith, h.edges_n))
      ∙ ap (λ (m : ℕ). get_or (sets (links_of w) (448 + 5 * c.edges) row_of_edge) (448 + 5 * m + j) 0) (l ∙ sym h.edges_n)
      ∙ get_d_sets_in row_of_edge (links_of w) (448 + 5 * c.edges) j 0 (omega (arith, length-drop 2048 w)) b ∙ ap (λ (r : List ℕ). get_or r j 0) (row_new e l)

  head_edge : (i : ℕ) → i < node_count s.program → get_or m₁ (5568 + i) 0 ≡ head_of listing_with_edge i
  unfolding m₁
  head_edge i l =
      same_or i (value from)
      (λ e. ap (λ (j : ℕ). get_or m₁ (5568 + j) 0) e
      ∙ get_or-set_same (sets (links_of w) (448 + 5 * c.edges) row_of_edge) (5568 + value from) (c.edges + 1) 0 (omega (arith, length-sets (links_of w) (448 + 5 * c.edges) row_of_edge, length-drop 2048 w, k.sound.few_nodes))
      ∙ (let z : c.edges + 1 ≡ suc (edge_count s.program) = omega (arith, h.edges_n) in z)
      ∙ sym (latest_hit (source_at listing_with_edge.program) i (edge_count s.program) (edge_source_new s.program y ∙ sym e)) ∙ ap (latest (source_at listing_with_edge.program) i) (sym many_edges))
      (λ e. get_or-set_other (sets (links_of w) (448 + 5 * c.edges) row_of_edge) (5568 + value from) (5568 + i) (c.edges + 1) 0 (λ (a : 5568 + i ≡ 5568 + value from). e (omega arith))
      ∙ get_d_sets_after row_of_edge (links_of w) (448 + 5 * c.edges) (5568 + i) 0 (omega arith) ∙ h.reading.heads i l
      ∙ sym (latest_agree (source_at listing_with_edge.program) (source_at s.program) i (edge_count s.program) sources_agree)
      ∙ sym (latest_miss (source_at listing_with_edge.program) i (edge_count s.program) (λ (a : source_at listing_with_edge.program (edge_count s.program) ≡ i). e (sym a ∙ edge_source_new s.program y)))
      ∙ ap (latest (source_at listing_with_edge.program) i) (sym many_edges))
    where
      many_edges : edge_count listing_with_edge.program ≡ suc (edge_count s.program)
      many_edges = snoc_length no_edge s.program.edges y

  proc_edge : (i : ℕ) → i < proc_count s.program → At (in_table m₁) (7 * i) (proc_head listing_with_edge i)
  unfolding first_node
  proc_edge i l =
      subst (λ (r : List ℕ). At (in_table m₁) (7 * i) r)
      (five refl refl refl refl (sym (edge_first_edge s.program y i (let z : i ≤ owner_at s.program (value from) = omega (arith, mine) in z))))
      (λ j b. kept_before (7 * i + j) (omega (arith, k.sound.few_procs)) ∙ h.reading.procs i l j b)

  pub push_edge : Holds (stored_edge w c.edges (value from) (at + length from + 3) (word_key word) (value to))
      (counts c.procs c.nodes (c.edges + 1)) (with_edge at from word to s)
  unfolding stored_edge entry exit is_of
  push_edge =
      record {
        procs_n = h.procs_n;
        nodes_n = h.nodes_n;
        edges_n = omega (arith, h.edges_n, snoc_length no_edge s.program.edges y);
        reading =
            subst (λ (l : List ℕ). InProgress (in_table (set (sets w (2496 + 5 * c.edges) row_of_edge) (7616 + value from) (c.edges + 1))) (in_table l) listing_with_edge) (sym links_edge)
            (record {
              nodes = λ i l j b.
                  get_or-set_other (sets w (2496 + 5 * c.edges) row_of_edge) (7616 + value from) (4 * i + j) (c.edges + 1) 0 (omega (arith, k.sound.few_nodes))
                  ∙ get_d_sets_before row_of_edge w (2496 + 5 * c.edges) (4 * i + j) 0 (omega (arith, k.sound.few_nodes)) ∙ h.reading.nodes i l j b;
              procs = proc_edge;
              entries = λ i l one. kept_before (7 * i + 5) (omega (arith, k.sound.few_procs)) ∙ h.reading.entries i l one;
              exits = λ i l one. kept_before (7 * i + 6) (omega (arith, k.sound.few_procs)) ∙ h.reading.exits i l one;
              edges = λ e l. edge_at e (snoc_cases no_edge s.program.edges y e l);
              heads = head_edge;
            });
      }
