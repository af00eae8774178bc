-- The functions that take a line: what the definition's step is at each return.
use mathlib.Core.Path.{◌≡◌, refl, sym, ap, ◌∙◌, subst}
use mathlib.Core.Bool.{Bool, true, false}
use mathlib.Core.Option.{none, some}
use mathlib.Core.Option as Maybe
use Rattle.std.specs.Prelude.{Option, is_some}
use Rattle.laws.specs.Places.{place}
use mathlib.Core.List.{List, [], ◌∷◌}
use Prim.Native.Nat.{ℕ, ◌+◌, ◌-◌, ◌*◌, ◌≤◌, ◌<◌, min}
use native.Mathlib.Omega.{arith}
use lib.Dec.{leb, ltb}
use lib.ListN.{length, get_or, take}
use lib.Seq.{sets}
use borrow.Author.Tests.{eqb-true, ltb-true, lt-ltb, le-ltb, leb-true, le-leb, lt-leb}
use Rattle.laws.specs.Tests.{◌and◌, ◌or◌, isnt, any, first, found}
use Rattle.laws.specs.TestLaws.{and_left, and_right, and_both, or_left, or_right, fails, both_ways, true_isnt, false_isnt, same_test, any_of_lem, any_at, first_at, first_none, found_some}
use Rattle.laws.specs.Lists.{choose_yes, choose_no}
use Rattle.rules.specs.Text.{Bytes, same, is_word, value, max_procs, max_edges, Reading, refused}
use Rattle.rules.specs.Graph.{Kind, kind_number, name_at, owner_at, proc_count, node_count, edge_count, leaves, edge_with}
use Rattle.rules.specs.ProgramFile.{proc_line, node_line, Listing, current, begun, named, has_edge, has_word, is_node_of, with_proc, with_node, with_edge, take_line}
use Rattle.rules.proofs.TextLaws.{unless_passes, unless_refuses}
use Rattle.graph.specs.Table.{first_node, first_edge}
use Rattle.graph.specs.Keys.{word_key, word_short}
use Rattle.graph.specs.Lookups.{in_table, Procs, Edges, ProcNamed, EdgeWith}
use Rattle.lines.specs.Known.{Known}
use Rattle.reader.specs.Result.{Count, links_of, Small}
use Rattle.reader.specs.Reading.{Holds, After, Stepped, Took, Refused, OpenedProc, Added, AddedEdge, LinkedEdge, in_procedure, of_current, Completes, stored_proc, stored_node, stored_edge, counts}
use Rattle.reader.proofs.Leaves.{place_some, place_none}
use Rattle.reader.proofs.Programs.{has_edge_lem, node_of}
use Rattle.reader.proofs.Stores.{push_proc, push_node, push_edge}
use Rattle.reader.proofs.Completeness.{edges_of, procs_of, some_procs, current_row}

-- ---- answers

-- An answer that refuses.
after_refused : (x : Reading Listing) (k p : ℕ) (r : Count) (w : List ℕ) → x ≡ refused k p → 0 < k → Refused k p r → After x r w
after_refused x k p r w e h q = subst (λ (y : Reading Listing). After y r w) (sym e) (q.number_is, q.place_is, h)

after_same : (x y : Reading Listing) (r : Count) (w : List ℕ) → x ≡ y → After y r w → After x r w
after_same x y r w e a = subst (λ (z : Reading Listing). After z r w) (sym e) a

-- ---- what a look-up found

pub found_none : (o : Maybe.Option ℕ) → found o ≤ 0 → o ≡ none
found_none none h = refl
found_none (some i) h = absurd (let z : ⊥ = omega arith in z)

pub none_any : (f : ℕ → Bool) (n : ℕ) → first n f ≡ none → any n f ≡ false
none_any f n e = fails _ (λ t. let u = any_at f n t in first_none f n e u.0 u.1 u.2)

-- ---- counts that stay within their limits

small_proc : (c : Count) → Small c → c.procs < 64 → Small (counts (c.procs + 1) c.nodes c.edges)
small_proc c s h = record { few_procs = omega arith; few_nodes = s.few_nodes; few_edges = s.few_edges }

small_node : (c : Count) → Small c → c.nodes < 512 → Small (counts c.procs (c.nodes + 1) c.edges)
small_node c s h = record { few_procs = s.few_procs; few_nodes = omega arith; few_edges = s.few_edges }

small_edge : (c : Count) → Small c → c.edges < 1024 → Small (counts c.procs c.nodes (c.edges + 1))
small_edge c s h = record { few_procs = s.few_procs; few_nodes = s.few_nodes; few_edges = omega arith }

-- ---- a P line

module _ (text w : List ℕ) (n at : ℕ) (name : Bytes) (c : Count) where
  pub proc_full : (r : Count) (w' : List ℕ) → 64 ≤ c.procs → Refused 4 n r → OpenedProc text n at name c w r w'
  proc_full r w' h a =
      record {
        opened = λ s k hs.
            after_refused _ 4 n r w' (unless_refuses _ _ _ _ (le-leb 64 (proc_count s.program) (omega (arith, hs.procs_n)))) (omega arith) a;
        small = a.small;
      }

  module _ (few : c.procs < 64) (l : List ℕ) (el : l ≡ links_of w) (f : Option ℕ) (q : ProcNamed text l c.procs name (place f)) (t : Bool) (et : t ≡ is_some f) where
    room_procs : (s : Listing) → Holds w c s → leb max_procs (proc_count s.program) ≡ false
    room_procs s h = lt-leb 64 (proc_count s.program) (omega (arith, h.procs_n))

    named_is : (s : Listing) → Known text s → Holds w c s → place f ≡ found (first (proc_count s.program) (λ q. same (name_at s.program q) name))
    unfolding ProcNamed
    named_is s k h = q s (subst (λ (x : List ℕ). Procs text (in_table x) s) (sym el) (procs_of text w c s k h)) h.procs_n

    pub proc_twice : (r : Count) (w' : List ℕ) → t ≡ true → Refused 5 n r → OpenedProc text n at name c w r w'
    unfolding named
    proc_twice r w' z a =
        record {
          opened = λ s k h.
              let o = found_some _ (subst (λ (m : ℕ). 0 < m) (named_is s k h) (place_some f (sym et ∙ z))) in
              let y = first_at (λ q. same (name_at s.program q) name) (proc_count s.program) o.0 o.1 in
              after_refused _ 5 n r w' (unless_passes _ _ _ _ (room_procs s h) ∙ unless_refuses _ _ _ _ (any_of_lem (λ q. same (name_at s.program q) name) (proc_count s.program) o.0 y.0 y.1)) (omega arith) a;
          small = a.small;
        }

    pub proc_new : (r : Count) (w' : List ℕ) → Small c → t ≡ false → 8128 ≤ length w → w' ≡ sets w (2048 + 7 * c.procs) ((at + 2) ∷ length name ∷ n ∷ c.nodes ∷ c.edges ∷ [])
        → r ≡ counts (c.procs + 1) c.nodes c.edges → OpenedProc text n at name c w r w'
    unfolding named stored_proc
    proc_new r w' sm z room ew er =
        rw er (record {
          opened = λ s k h.
              let o = found_none _ (subst (λ (m : ℕ). m ≤ 0) (named_is s k h) (place_none f (sym et ∙ z))) in
              let fresh : any (proc_count s.program) (λ q. same (name_at s.program q) name) ≡ false
              = none_any (λ q. same (name_at s.program q) name) (proc_count s.program) o in
              after_same _ _ _ _ (unless_passes _ _ _ _ (room_procs s h) ∙ unless_passes _ _ _ _ fresh) (
                refl,
                subst (λ (v : List ℕ). Holds v (counts (c.procs + 1) c.nodes c.edges) (with_proc n at name s)) (sym ew) (push_proc text w c s k h room few name n at),
              );
          small = small_proc c sm few;
        })

  pub first_proc : (r : Count) (w' : List ℕ) → c.procs ≡ 0 → OpenedProc text n at name c w r w' → Took text n at (proc_line name) c w r w'
  unfolding Stepped take_line
  first_proc r w' z o =
      record {
        stepped = λ s k h.
            after_same _ _ r w' (choose_no _ _ (le-ltb 0 (proc_count s.program) (omega (arith, h.procs_n)))) (o.opened s k h);
        small = o.small;
      }

  module _ (some_proc : c.procs ≡ 0 → ⊥) (u : Bool) (q : Completes w c u) where
    some_of : (s : Listing) → Holds w c s → 0 < proc_count s.program
    some_of s h = some_procs w c s h some_proc

    pub next_proc : (r : Count) (w' : List ℕ) → u ≡ true → OpenedProc text n at name c w r w' → Took text n at (proc_line name) c w r w'
    unfolding Stepped take_line Completes
    next_proc r w' t o =
        record {
          stepped = λ s k h.
              let b = some_of s h in
              after_same _ _ r w' (choose_yes _ _ (lt-ltb 0 (proc_count s.program) b) ∙ unless_passes _ _ _ _ (false_isnt (sym (q s k.sound h b) ∙ t))) (o.opened s k h);
          small = o.small;
        }

    pub open_proc : (r : Count) (w' : List ℕ) (p : ℕ) → u ≡ false → p ≡ of_current w c.procs 2 → Refused 8 p r → Took text n at (proc_line name) c w r w'
    unfolding Stepped take_line Completes
    open_proc r w' p t e a =
        record {
          stepped = λ s k h.
              let b = some_of s h in
              after_refused _ 8 (get_or s.places.proc_lines (current s.program) 0) r w'
              (choose_yes _ _ (lt-ltb 0 (proc_count s.program) b) ∙ unless_refuses _ _ _ _ (true_isnt (sym (q s k.sound h b) ∙ t))) (omega arith)
              (subst (λ (m : ℕ). Refused 8 m r) (e ∙ current_row w c s h b 2 (omega arith)) a);
          small = a.small;
        }

pub ruleset proc_line_rules = (proc_full, proc_twice, proc_new, first_proc, next_proc, open_proc)

-- ---- an N line

module _ (w : List ℕ) (n at : ℕ) (k : Kind) (label callee : Bytes) (c : Count) where
  begun_of : (s : Listing) → Holds w c s → (c.procs ≡ 0 → ⊥) → 0 < proc_count s.program
  begun_of s h z = some_procs w c s h z

  pub node_first : (r : Count) (w' : List ℕ) → c.procs ≡ 0 → Refused 3 n r → Added n at (node_line k label callee) c w r w'
  unfolding Stepped take_line
  node_first r w' z a =
      record {
        stepped = λ text s ks h.
            after_refused _ 3 n r w' (unless_refuses _ _ _ _ (or_left _ (true_isnt (le-ltb 0 (proc_count s.program) (omega (arith, h.procs_n)))))) (omega arith) a;
        small = a.small;
      }

  module _ (some_proc : c.procs ≡ 0 → ⊥) (f : ℕ) (ef : f ≡ of_current w c.procs 4) where
    first_edge_is : (s : Listing) → Holds w c s → f ≡ first_edge s.program (current s.program)
    first_edge_is s h = ef ∙ current_row w c s h (begun_of s h some_proc) 4 (omega arith)

    has_edge_is : (text : Bytes) (s : Listing) → Known text s → Holds w c s → has_edge s.program (current s.program) ≡ ltb f c.edges
    has_edge_is text s k h =
        has_edge_lem s.program k.sound (begun_of s h some_proc) ∙ ap (λ (m : ℕ). ltb m (edge_count s.program)) (sym (first_edge_is s h)) ∙ ap (ltb f) (sym h.edges_n)

    pub node_late : (r : Count) (w' : List ℕ) → f < c.edges → Refused 3 n r → Added n at (node_line k label callee) c w r w'
    unfolding Stepped take_line
    node_late r w' l a =
        record {
          stepped = λ text s ks h.
              after_refused _ 3 n r w' (unless_refuses _ _ _ _ (or_right _ (has_edge_is text s ks h ∙ lt-ltb f c.edges l))) (omega arith) a;
          small = a.small;
        }

    module _ (early : c.edges ≤ f) where
      in_place : (text : Bytes) (s : Listing) → Known text s → Holds w c s → (isnt (begun s.program) or has_edge s.program (current s.program)) ≡ false
      unfolding ◌or◌
      in_place text s k h =
          let a : isnt (begun s.program) ≡ false = false_isnt (lt-ltb 0 (proc_count s.program) (begun_of s h some_proc)) in
          let b : has_edge s.program (current s.program) ≡ false = has_edge_is text s k h ∙ le-ltb f c.edges early in
          rw a b

      pub node_full : (r : Count) (w' : List ℕ) → 512 ≤ c.nodes → Refused 4 n r → Added n at (node_line k label callee) c w r w'
      unfolding Stepped take_line
      node_full r w' l a =
          record {
            stepped = λ text s ks h.
                after_refused _ 4 n r w' (unless_passes _ _ _ _ (in_place text s ks h) ∙ unless_refuses _ _ _ _ (le-leb 512 (node_count s.program) (omega (arith, h.nodes_n)))) (omega arith) a;
            small = a.small;
          }

      pub node_new : (r : Count) (w' : List ℕ) → Small c → c.nodes < 512 → 8128 ≤ length w → w' ≡ stored_node w (c.procs - 1) c.nodes (kind_number k) (at + 4) (length label) (n * 64 + length callee)
          → r ≡ counts c.procs (c.nodes + 1) c.edges → Added n at (node_line k label callee) c w r w'
      unfolding Stepped take_line
      node_new r w' sm few room ew er =
          rw er (record {
            stepped = λ text s ks h.
                after_same _ _ _ _ (unless_passes _ _ _ _ (in_place text s ks h) ∙ unless_passes _ _ _ _ (lt-leb 512 (node_count s.program) (omega (arith, h.nodes_n)))) (
                  refl,
                  subst (λ (v : List ℕ). Holds v (counts c.procs (c.nodes + 1) c.edges) (with_node n at k label callee s))
                      (sym ew)
                      (push_node text w c s ks h room (omega (arith, begun_of s h some_proc, h.procs_n)) few k label callee n at),
                );
            small = small_node c sm few;
          })

pub ruleset node_line_rules = (node_first, node_late, node_full, node_new)

-- ---- a B line

-- `in_procedure`
pub in_not : (first nodes n : ℕ) → n < first → false ≡ in_procedure first nodes n
unfolding in_procedure ◌and◌
in_not first nodes n h = let z : leb first n ≡ false = lt-leb first n h in rw z

pub in_rest : (first nodes n : ℕ) → first ≤ n → ltb n nodes ≡ in_procedure first nodes n
unfolding in_procedure ◌and◌
in_rest first nodes n h = let z : leb first n ≡ true = le-leb first n h in rw z

module _ (w : List ℕ) (n f start : ℕ) (word : Bytes) (t : ℕ) (c : Count) (i : ℕ) (ei : i ≡ word_key (take 8 word)) (l : List ℕ) (el : l ≡ links_of w) (y : Option ℕ) (q : EdgeWith l f i (place y)) (b : Bool) (eb : b ≡ is_some y) where
  key_is : is_word word ≡ true → i ≡ word_key word
  key_is v = ei ∙ ap word_key (word_short word v)

  with_is : (text : Bytes) (s : Listing) → Known text s → Holds w c s → is_word word ≡ true → f < node_count s.program → place y ≡ found (edge_with s.program f word)
  unfolding EdgeWith
  with_is text s k h v m = q s word (subst (λ (x : List ℕ). Edges (in_table x) s) (sym el) (edges_of w c s k.sound h)) m v (key_is v)

  pub edge_twice : (r : Count) (w' : List ℕ) → b ≡ true → Refused 7 n r → LinkedEdge n f start word t c w r w'
  unfolding has_word edge_with
  edge_twice r w' z a =
      record {
        linked = λ text s at from to k h ef et es v m o.
            let g = found_some _ (subst (λ (m : ℕ). 0 < m) (with_is text s k h v m) (place_some y (sym eb ∙ z))) in
            let u = first_at (leaves s.program f word) (edge_count s.program) g.0 g.1 in
            after_refused _ 7 n r w' (unless_refuses _ _ _ _ (ap (λ (i : ℕ). any (edge_count s.program) (leaves s.program i word)) (sym ef) ∙ any_of_lem (leaves s.program f word) (edge_count s.program) g.0 u.0 u.1)) (omega arith) a;
        small = a.small;
      }

  pub edge_new : (r : Count) (w' : List ℕ) → Small c → b ≡ false → c.edges < 1024 → 8128 ≤ length w → w' ≡ stored_edge w c.edges f start i t
      → r ≡ counts c.procs c.nodes (c.edges + 1) → LinkedEdge n f start word t c w r w'
  unfolding has_word edge_with
  edge_new r w' sm z few room ew er =
      rw er (record {
        linked = λ text s at from to k h ef et es v m o.
            let g = found_none _ (subst (λ (m : ℕ). m ≤ 0) (with_is text s k h v m) (place_none y (sym eb ∙ z))) in
            let fresh : any (edge_count s.program) (leaves s.program (value from) word) ≡ false
            = ap (λ (i : ℕ). any (edge_count s.program) (leaves s.program i word)) (sym ef)
            ∙ none_any (leaves s.program f word) (edge_count s.program) g in
            after_same _ _ _ _ (unless_passes _ _ _ _ fresh) (
              refl,
              subst (λ (v : List ℕ). Holds v (counts c.procs c.nodes (c.edges + 1)) (with_edge at from word to s))
                  (sym (ew ∙ ap (λ (x : ℕ). stored_edge w c.edges x start i t) ef ∙ ap (λ (x : ℕ). stored_edge w c.edges (value from) x i t) es ∙ ap (λ (x : ℕ). stored_edge w c.edges (value from) (at + length from + 3) x t) (key_is v)
                  ∙ ap (stored_edge w c.edges (value from) (at + length from + 3) (word_key word)) et))
                  (push_edge text w c s k h room few from word to at (subst (λ (i : ℕ). owner_at s.program i ≡ current s.program) ef o) (subst (λ (i : ℕ). i < node_count s.program) ef m)),
            );
        small = small_edge c sm few;
      })

pub ruleset links_lines = (edge_twice, edge_new)

module _ (w : List ℕ) (n source start : ℕ) (word : Bytes) (target : ℕ) (c : Count) where
  pub edge_first : (r : Count) (w' : List ℕ) → c.procs ≡ 0 → Refused 3 n r → AddedEdge n source start word target c w r w'
  unfolding Stepped take_line
  edge_first r w' z a =
      record {
        stepped = λ text at from to ef et es v s k h.
            after_refused _ 3 n r w' (unless_refuses _ _ _ _ (true_isnt (le-ltb 0 (proc_count s.program) (omega (arith, h.procs_n))))) (omega arith) a;
        small = a.small;
      }

  module _ (some_proc : c.procs ≡ 0 → ⊥) where
    some_of_edge : (s : Listing) → Holds w c s → 0 < proc_count s.program
    some_of_edge s h = some_procs w c s h some_proc

    has_begun : (s : Listing) → Holds w c s → isnt (begun s.program) ≡ false
    has_begun s h = false_isnt (lt-ltb 0 (proc_count s.program) (some_of_edge s h))

    pub edge_full : (r : Count) (w' : List ℕ) → 1024 ≤ c.edges → Refused 4 n r → AddedEdge n source start word target c w r w'
    unfolding Stepped take_line
    edge_full r w' l a =
        record {
          stepped = λ text at from to ef et es v s k h.
              after_refused _ 4 n r w' (unless_passes _ _ _ _ (has_begun s h) ∙ unless_refuses _ _ _ _ (le-leb 1024 (edge_count s.program) (omega (arith, h.edges_n)))) (omega arith) a;
          small = a.small;
        }

    module _ (few : c.edges < 1024) (small : Small c) (g : ℕ) (eg : g ≡ of_current w c.procs 3) where
      room_edges : (s : Listing) → Holds w c s → leb max_edges (edge_count s.program) ≡ false
      room_edges s h = lt-leb 1024 (edge_count s.program) (omega (arith, h.edges_n))

      -- A number names a node of the procedure exactly if its capped value is one from the first on.
      node_is : (text : Bytes) (s : Listing) (v m : ℕ) → Known text s → Holds w c s → m ≡ min v 65536 → is_node_of s.program (current s.program) v ≡ in_procedure g c.nodes m
      unfolding in_procedure
      node_is text s v m k h e =
          let eg' : g ≡ first_node s.program (current s.program) = eg ∙ current_row w c s h (some_of_edge s h) 3 (omega arith) in
          node_of s.program k.sound (some_of_edge s h) v
          ∙ same_test _ _
          (λ t.
          let a : first_node s.program (current s.program) ≤ v = leb-true _ _ (and_left _ _ t) in
          let b : v < node_count s.program = ltb-true _ _ (and_right _ _ t) in
          let z : m ≡ v = omega (arith, k.sound.few_nodes) in
          and_both (le-leb g m (omega arith)) (lt-ltb m c.nodes (omega (arith, h.nodes_n))))
          (λ t.
          let a : g ≤ m = leb-true _ _ (and_left _ _ t) in
          let b : m < c.nodes = ltb-true _ _ (and_right _ _ t) in
          let z : m ≡ v = omega (arith, small.few_nodes) in
          and_both (le-leb _ _ (let y : first_node s.program (current s.program) ≤ v = omega arith in y)) (lt-ltb _ _ (let y : v < node_count s.program = omega (arith, h.nodes_n) in y)))

      pub edge_from : (r : Count) (w' : List ℕ) (u : Bool) → u ≡ in_procedure g c.nodes source → u ≡ false → Refused 6 n r
          → AddedEdge n source start word target c w r w'
      unfolding Stepped take_line
      edge_from r w' u eu z a =
          record {
            stepped = λ text at from to ef et es v s k h.
                after_refused _ 6 n r w' (unless_passes _ _ _ _ (has_begun s h) ∙ unless_passes _ _ _ _ (room_edges s h)
                ∙ unless_refuses _ _ _ _ (true_isnt (fails _ (λ y. both_ways (sym (node_is text s (value from) source k h ef) ∙ and_left _ _ y) (sym eu ∙ z))))) (omega arith) a;
            small = a.small;
          }

      pub edge_to : (r : Count) (w' : List ℕ) (u : Bool) → u ≡ in_procedure g c.nodes target → u ≡ false → Refused 6 n r
          → AddedEdge n source start word target c w r w'
      unfolding Stepped take_line
      edge_to r w' u eu z a =
          record {
            stepped = λ text at from to ef et es v s k h.
                after_refused _ 6 n r w' (unless_passes _ _ _ _ (has_begun s h) ∙ unless_passes _ _ _ _ (room_edges s h)
                ∙ unless_refuses _ _ _ _ (true_isnt (fails _ (λ y. both_ways (sym (node_is text s (value to) target k h et) ∙ and_right _ _ y) (sym eu ∙ z))))) (omega arith) a;
            small = a.small;
          }

      pub edge_linked : (r : Count) (w' : List ℕ) (u u' : Bool) → u ≡ in_procedure g c.nodes source → u ≡ true → u' ≡ in_procedure g c.nodes target → u' ≡ true → LinkedEdge n source start word target c w r w'
          → AddedEdge n source start word target c w r w'
      unfolding Stepped take_line in_procedure is_node_of
      edge_linked r w' u u' eu z eu' z' q =
          record {
            stepped = λ text at from to ef et es v s k h.
                let a : is_node_of s.program (current s.program) (value from) ≡ true = node_is text s (value from) source k h ef ∙ sym eu ∙ z in
                let b : is_node_of s.program (current s.program) (value to) ≡ true = node_is text s (value to) target k h et ∙ sym eu' ∙ z' in
                let fl : source < c.nodes = ltb-true _ _ (and_right _ _ (sym eu ∙ z)) in
                let tl : target < c.nodes = ltb-true _ _ (and_right _ _ (sym eu' ∙ z')) in
                let fv : source ≡ value from = omega (arith, small.few_nodes) in
                let tv : target ≡ value to = omega (arith, small.few_nodes) in
                after_same _ _ r w' (unless_passes _ _ _ _ (has_begun s h) ∙ unless_passes _ _ _ _ (room_edges s h) ∙ unless_passes _ _ _ _ (false_isnt (and_both a b)))
                (q.linked text s at from to k h fv tv es v (subst (λ (m : ℕ). source < m) h.nodes_n fl) (subst (λ (m : ℕ). owner_at s.program m ≡ current s.program) (sym fv) (eqb-true _ _ (and_right _ _ a))));
            small = q.small;
          }

pub ruleset edge_lines = (in_not, in_rest, edge_first, edge_full, edge_from, edge_to, edge_linked)

pub in_few : (first nodes n : ℕ) (u : Bool) → u ≡ in_procedure first nodes n → u ≡ true → nodes ≤ 512 → n < 512
unfolding in_procedure
in_few first nodes n u e t s = let z : n < nodes = ltb-true _ _ (and_right _ _ (sym e ∙ t)) in omega arith
