-- What is copied from a work table is what reading leaves; and the returns of the functions.
use mathlib.Core.Path.{◌≡◌, refl, sym, ap, ap₂, ◌∙◌, subst}
use mathlib.Core.Bool.{Bool, true, false}
use mathlib.Core.List.{List, [], ◌∷◌}
use Prim.Native.Nat.{ℕ, zero, suc, ◌+◌, ◌-◌, ◌*◌, ◌≤◌, ◌<◌}
use native.Mathlib.Omega.{arith}
use lib.ListN.{length, get_or, take, drop, length-drop}
use lib.Pointwise.{pointwise}
use Rattle.std.specs.Prelude.{nat_eq}
use Rattle.text.specs.Runs.{numbers_same}
use lib.Seq.{sets, ext_get_or, length-sets}
use Rattle.laws.specs.Tests.{◌and◌, choose}
use Rattle.laws.specs.TestLaws.{both_ways, fails}
use Rattle.laws.specs.Tables.{rows, rows_window}
use Rattle.laws.specs.Slices.{below_or, part_short, get_d_sets_before, get_d_sets_after}
use Rattle.rules.specs.Text.{same, Reading, refused, accepted}
use Rattle.rules.proofs.TextLaws.{same_true, same_of, accepted_same}
use Rattle.rules.specs.Graph.{node_count, edge_count, proc_count}
use Rattle.rules.specs.ProgramFile.{Listing, read_listing}
use Rattle.graph.specs.Table.{At, node_row, proc_row, edge_row, head_of, nodes_after, links_after}
use Rattle.graph.specs.Lookups.{in_table}
use Rattle.reader.specs.Result.{Count, links_of, InTable, Told, Small, ReadInto}
use Rattle.program.specs.Lent.{copied_nodes, copied_links, Counted, is_left, left_number, TablesLeft}

-- ---- what is copied

module _ (w : List ℕ) (c : Count) (s : Listing) (h : InTable w c s) (sm : Small c) (room : 8128 ≤ length w) where
  long : length (links_of w) ≡ length w - 2048
  long = length-drop 2048 w

  pub nodes_copied : (t : List ℕ) → copied_nodes w c.nodes t ≡ nodes_after s t
  unfolding copied_nodes nodes_after
  nodes_copied t =
      ap (sets t 0)
      (rows_window 4 (node_row s) (λ i. refl) w 0 c.nodes (omega (arith, sm.few_nodes)) (λ i l. subst (λ (j : ℕ). At (in_table w) j (node_row s i)) (let z : 4 * i ≡ 0 + 4 * i = omega arith in z) (h.nodes i (omega (arith, h.nodes_n))))
      ∙ ap (rows (node_row s)) h.nodes_n)

  head_at : (i : ℕ) → i < c.nodes → At (in_table (links_of w)) (5568 + 1 * i) (head_of s i ∷ [])
  head_at i l zero b = ap (λ (j : ℕ). get_or (links_of w) j 0) (let z : 5568 + 1 * i + 0 ≡ 5568 + i = omega arith in z) ∙ h.heads i (omega (arith, h.nodes_n))
  head_at i l (suc k) b = absurd (let z : ⊥ = omega arith in z)

  pub links_copied : (t : List ℕ) → copied_links w c t ≡ links_after s t
  unfolding copied_links links_after
  links_copied t =
      let a : take (7 * c.procs) (drop 0 (links_of w)) ≡ rows (proc_row s) (proc_count s.program)
      = rows_window 7 (proc_row s) (λ i. refl) (links_of w) 0 c.procs (omega (arith, sm.few_procs, long))
      (λ i l. subst (λ (j : ℕ). At (in_table (links_of w)) j (proc_row s i)) (let z : 7 * i ≡ 0 + 7 * i = omega arith in z) (h.procs i (omega (arith, h.procs_n)))) ∙ ap (rows (proc_row s)) h.procs_n in
      let b : take (5 * c.edges) (drop 448 (links_of w)) ≡ rows (edge_row s) (edge_count s.program)
      = rows_window 5 (edge_row s) (λ i. refl) (links_of w) 448 c.edges (omega (arith, sm.few_edges, long)) (λ i l. h.edges i (omega (arith, h.edges_n))) ∙ ap (rows (edge_row s)) h.edges_n in
      let d : take c.nodes (drop 5568 (links_of w)) ≡ rows (λ n. head_of s n ∷ []) (node_count s.program)
      = ap (λ (n : ℕ). take n (drop 5568 (links_of w))) (let z : c.nodes ≡ 1 * c.nodes = omega arith in z)
      ∙ rows_window 1 (λ n. head_of s n ∷ []) (λ i. refl) (links_of w) 5568 c.nodes (omega (arith, sm.few_nodes, long)) head_at ∙ ap (rows (λ n. head_of s n ∷ [])) h.nodes_n in
      rw (a, b, d)

-- ---- the returns

pub links_copy : (w m a b d t t₁ t₂ t₃ : List ℕ) (c : Count) → m ≡ links_of w → a ≡ take (7 * c.procs) (drop 0 m) → t₁ ≡ sets t 0 a → b ≡ take (5 * c.edges) (drop 448 m) → t₂ ≡ sets t₁ 448 b
    → d ≡ take c.nodes (drop 5568 m) → t₃ ≡ sets t₂ 5568 d → t₃ ≡ copied_links w c t
unfolding copied_links
links_copy w m a b d t t₁ t₂ t₃ c em ea e₁ eb e₂ ed e₃ =
    e₃ ∙ ap₂ (λ (x y : List ℕ). sets x 5568 y) (e₂ ∙ ap₂ (λ (x y : List ℕ). sets x 448 y) (e₁ ∙ ap (sets t 0) (ea ∙ ap (λ (l : List ℕ). take (7 * c.procs) (drop 0 l)) em))
    (eb ∙ ap (λ (l : List ℕ). take (5 * c.edges) (drop 448 l)) em)) (ed ∙ ap (λ (l : List ℕ). take c.nodes (drop 5568 l)) em)

pub ruleset copies = (links_copy)

-- ---- `same_nodes`, `same_links`

pub nodes_same : (w v t : List ℕ) (n : ℕ) (r : Bool) → v ≡ take (4 * n) (drop 0 w) → r ≡ pointwise nat_eq (sets t 0 v) t → r ≡ same (copied_nodes w n t) t
unfolding copied_nodes
nodes_same w v t n r e q = q ∙ numbers_same (sets t 0 v) t ∙ ap (λ (l : List ℕ). same (sets t 0 l) t) e

-- Where a store from j on gives t, and what stands from j on is t's before it, it was t.
undo : (u vs t : List ℕ) (j : ℕ) → sets u j vs ≡ t → ((k : ℕ) → j ≤ k → get_or u k 0 ≡ get_or t k 0) → u ≡ t
undo u vs t j e h =
    ext_get_or 0 u t (sym (length-sets u j vs) ∙ ap length e) (λ k l. below_or k j (λ b. sym (get_d_sets_before vs u j k 0 b) ∙ ap (λ (x : List ℕ). get_or x k 0) e) (λ b. h k b))

module _ (w m a b d t : List ℕ) (c : Count) (sm : Small c) (em : m ≡ links_of w) (ea : a ≡ take (7 * c.procs) (drop 0 m)) where
  abbrev A : List ℕ
  A = take (7 * c.procs) (drop 0 (links_of w))

  abbrev B : List ℕ
  B = take (5 * c.edges) (drop 448 (links_of w))

  abbrev D : List ℕ
  D = take c.nodes (drop 5568 (links_of w))

  short_a : length A ≤ 448
  short_a = omega (arith, part_short (links_of w) 0 (7 * c.procs), sm.few_procs)

  short_b : length B ≤ 5120
  short_b = omega (arith, part_short (links_of w) 448 (5 * c.edges), sm.few_edges)

  is_a : a ≡ A
  is_a = ea ∙ ap (λ (l : List ℕ). take (7 * c.procs) (drop 0 l)) em

  second : sets (sets (sets t 0 A) 448 B) 5568 D ≡ t → sets (sets t 0 A) 448 B ≡ t
  second e = undo (sets (sets t 0 A) 448 B) D t 5568 e (λ k l. get_d_sets_after B (sets t 0 A) 448 k 0 (omega (arith, short_b)) ∙ get_d_sets_after A t 0 k 0 (omega (arith, short_a)))

  first_of : sets (sets (sets t 0 A) 448 B) 5568 D ≡ t → sets t 0 A ≡ t
  first_of e = undo (sets t 0 A) B t 448 (second e) (λ k l. get_d_sets_after A t 0 k 0 (omega (arith, short_a)))

  pub links_not : (r : Bool) → r ≡ pointwise nat_eq (sets t 0 a) t → r ≡ false → false ≡ same (copied_links w c t) t
  unfolding copied_links
  links_not r q z = sym (fails _ (λ y. both_ways (ap (λ (l : List ℕ). same (sets t 0 l) t) is_a ∙ same_of (first_of (same_true _ t y))) (sym (numbers_same (sets t 0 a) t) ∙ sym q ∙ z)))

  module _ (r : Bool) (q : r ≡ pointwise nat_eq (sets t 0 a) t) (z : r ≡ true) (eb : b ≡ take (5 * c.edges) (drop 448 m)) where
    kept_a : sets t 0 A ≡ t
    kept_a = ap (sets t 0) (sym is_a) ∙ same_true _ t (sym (numbers_same (sets t 0 a) t) ∙ sym q ∙ z)

    is_b : b ≡ B
    is_b = eb ∙ ap (λ (l : List ℕ). take (5 * c.edges) (drop 448 l)) em

    pub links_not_edges : (r' : Bool) → r' ≡ pointwise nat_eq (sets t 448 b) t → r' ≡ false → false ≡ same (copied_links w c t) t
    unfolding copied_links
    links_not_edges r' q' z' =
        sym (fails _ (λ y. both_ways (ap (λ (l : List ℕ). same (sets t 448 l) t) is_b ∙ same_of (ap (λ (l : List ℕ). sets l 448 B) (sym kept_a) ∙ second (same_true _ t y))) (sym (numbers_same (sets t 448 b) t) ∙ sym q' ∙ z')))

    pub links_same : (r' r'' : Bool) → r' ≡ pointwise nat_eq (sets t 448 b) t → r' ≡ true → d ≡ take c.nodes (drop 5568 m) → r'' ≡ pointwise nat_eq (sets t 5568 d) t → r'' ≡ same (copied_links w c t) t
    unfolding copied_links
    links_same r' r'' q' z' ed q'' =
        let kept_b : sets t 448 B ≡ t = ap (sets t 448) (sym is_b) ∙ same_true _ t (sym (numbers_same (sets t 448 b) t) ∙ sym q' ∙ z') in
        q'' ∙ numbers_same (sets t 5568 d) t ∙ ap (λ (l : List ℕ). same (sets t 5568 l) t) (ed ∙ ap (λ (l : List ℕ). take c.nodes (drop 5568 l)) em)
        ∙ ap (λ (l : List ℕ). same (sets l 5568 D) t) (sym (ap (λ (l : List ℕ). sets l 448 B) kept_a ∙ kept_b))

-- ---- `tables_left`

module _ (text w n l : List ℕ) (c : Count) (h : ReadInto text c w) where
  refused_left : (x : Reading Listing) → read_listing text ≡ x → Told x c w → (c.number ≡ 0 → ⊥) → (r : Count) → r.number ≡ 14 → r.place ≡ 0 → TablesLeft text n l r
  unfolding left_number
  refused_left (refused k p) e t z r a b = record { number_is = a ∙ sym (ap (λ (x : Reading Listing). left_number x n l) e); place_is = b; counted = λ s q y. absurd (let v : ⊥ = omega arith in v) }
  refused_left (accepted s) e t z r a b = absurd (z t.0)

  pub left_refused : (c.number ≡ 0 → ⊥) → TablesLeft text n l (record { number = 14; place = 0; procs = 0; nodes = 0; edges = 0 })
  left_refused z = refused_left (read_listing text) refl h.told z _ refl refl

  module _ (room : 8128 ≤ length w) (z : c.number ≡ 0) where
    left_is : (x : Reading Listing) → read_listing text ≡ x → Told x c w → (u : Bool) → u ≡ (same (copied_nodes w c.nodes n) n and same (copied_links w c l) l)
        → (r : Count) → r.number ≡ choose u 0 14 → r.place ≡ 0 → (r.number ≡ 0 → (r.procs ≡ c.procs) × (r.nodes ≡ c.nodes) × (r.edges ≡ c.edges)) → TablesLeft text n l r
    unfolding left_number is_left
    left_is (refused k p) e t u q r a b d = absurd (let y : ⊥ = omega (arith, t.0, t.2) in y)
    left_is (accepted s) e t u q r a b d =
        record {
          number_is = a ∙ ap (λ (v : Bool). choose v 0 14) (q ∙ ap₂ (λ (x y : List ℕ). same x n and same y l) (nodes_copied w c s t.2 h.small room n) (links_copied w c s t.2 h.small room l))
              ∙ sym (ap (λ (x : Reading Listing). left_number x n l) e);
          place_is = b;
          counted = λ s' e' y.
              let same_listing : s ≡ s' = accepted_same (sym e ∙ e') in
              let g = d y in
              subst (λ (v : Listing). Counted r v) same_listing (record { procs_n = g.0 ∙ t.2.procs_n; nodes_n = g.1 ∙ t.2.nodes_n; edges_n = g.2 ∙ t.2.edges_n });
        }

    pub left_nodes : (u : Bool) → u ≡ same (copied_nodes w c.nodes n) n → u ≡ false → TablesLeft text n l (record { number = 14; place = 0; procs = 0; nodes = 0; edges = 0 })
    unfolding ◌and◌ choose
    left_nodes u q y =
        left_is (read_listing text) refl h.told false (let e : same (copied_nodes w c.nodes n) n ≡ false = sym q ∙ y in sym (ap (λ (v : Bool). v and same (copied_links w c l) l) e)) _ refl refl (λ v. absurd (let o : ⊥ = omega arith in o))

    module _ (u : Bool) (q : u ≡ same (copied_nodes w c.nodes n) n) (y : u ≡ true) where
      pub left_links : (v : Bool) → v ≡ same (copied_links w c l) l → v ≡ false → TablesLeft text n l (record { number = 14; place = 0; procs = 0; nodes = 0; edges = 0 })
      unfolding ◌and◌ choose
      left_links v q' y' =
          left_is (read_listing text) refl h.told false (sym (ap₂ (λ (a b : Bool). a and b) (sym q ∙ y) (sym q' ∙ y'))) _ refl refl (λ x. absurd (let o : ⊥ = omega arith in o))

      pub left_done : (v : Bool) → v ≡ same (copied_links w c l) l → v ≡ true → TablesLeft text n l c
      unfolding ◌and◌ choose
      left_done v q' y' =
          left_is (read_listing text) refl h.told true (sym (ap₂ (λ (a b : Bool). a and b) (sym q ∙ y) (sym q' ∙ y'))) c z (told_place (read_listing text) h.told) (λ x. (refl, refl, refl))
        where
          told_place : (x : Reading Listing) → Told x c w → c.place ≡ 0
          told_place (refused k p) t = absurd (let o : ⊥ = omega (arith, t.0, t.2) in o)
          told_place (accepted s) t = t.1

pub ruleset runs = (nodes_same, links_not, links_not_edges, links_same, left_refused, left_nodes, left_links, left_done)

pub ruleset all = (copies, runs)
