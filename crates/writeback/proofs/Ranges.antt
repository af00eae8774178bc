-- The nodes and the edges of a procedure stand one after another: from its first one to that of the next procedure.
use Rattle.std.specs.Prelude.{◌≡◌, Bool, true, false, List, [], ◌∷◌, ◌++◌, map, ℕ, zero, suc, ◌-◌, ◌≤◌, ◌<◌, eqb, leb, ltb, length, get_or, take, drop}
use Rattle.std.proofs.Common.{sym, ap, ap₂, ◌∙◌, arith, eq-eqb, ne_eqb, le-leb, leb-true, lt-ltb, ltb-true, ltb-false, le-ltb}
use Rattle.std.proofs.Math.Seq.{drop-nil, take-nil}
use Rattle.laws.specs.Tests.{count}
use Rattle.laws.specs.TestLaws.{same_test}
use Rattle.laws.specs.Lists.{choose_yes, choose_no}
use Rattle.laws.specs.Counting.{count_all, count_few, count_prefix}
use Rattle.laws.specs.Slices.{below_or}
use Rattle.rules.specs.Text.{Bytes}
use Rattle.rules.specs.Graph.{Program, edge_count, name_at, no_edge, no_node, node_count, owner_at, proc_count, source_at}
use Rattle.rules.specs.Layout.{Follows, line_of_edge, lines_of_those, line_of_node, line_of_proc, proc_lines}
use Rattle.graph.specs.Table.{first_edge, first_node}

-- ---- numbers that never fall

module _ (g : ℕ → ℕ) (n : ℕ) (rises : (i j : ℕ) → i ≤ j → j < n → g i ≤ g j) where
  -- How many are below q: where those begin that are not.
  abbrev pub below : ℕ → ℕ
  below q = count n (λ m. ltb (g m) q)

  pub below_at : (q i : ℕ) → i < n → leb (below q) i ≡ leb q (g i)
  below_at q i b =
      let c : ltb (g i) q ≡ ltb i (below q) = count_prefix (λ m. ltb (g m) q) n (λ i j u w x. lt-ltb (g i) q (omega (arith, rises i j u w, ltb-true (g j) q x))) i b in
      same_test (leb (below q) i) (leb q (g i))
      (λ x. le-leb q (g i) (ltb-false (g i) q (c ∙ le-ltb i (below q) (leb-true (below q) i x))))
      (λ x. le-leb (below q) i (ltb-false i (below q) (sym c ∙ le-ltb (g i) q (leb-true q (g i) x))))

  reaches : (q i : ℕ) → i < n → below q ≤ i → q ≤ g i
  reaches q i b h = leb-true q (g i) (sym (below_at q i b) ∙ le-leb (below q) i h)

  falls : (q i : ℕ) → i < n → i < below q → g i < q
  falls q i b h =
      below_or (g i) q (λ l. l)
      (λ l. absurd (let z : below q ≤ i = leb-true (below q) i (below_at q i b ∙ le-leb q (g i) l) in let y : ⊥ = omega arith in y))

  -- The numbers that are q: from where they begin to where the next ones do.
  pub below_few : (q : ℕ) → below q ≤ n
  below_few q = count_few (λ m. ltb (g m) q) n

  pub below_next : (q : ℕ) → below q ≤ below (suc q)
  below_next q =
      below_or (below (suc q)) (below q)
      (λ l.
      let b : below (suc q) < n = omega (arith, below_few q) in
      absurd (let z : ⊥ = omega (arith, falls q (below (suc q)) b l, reaches (suc q) (below (suc q)) b (omega arith)) in z))
      (λ l. l)

  before_none : (q i : ℕ) → i < n → i < below q → eqb (g i) q ≡ false
  before_none q i b h = ne_eqb (g i) q (λ e. let z : ⊥ = omega (arith, falls q i b h) in z)

  between_all : (q i : ℕ) → i < n → below q ≤ i → i < below (suc q) → eqb (g i) q ≡ true
  between_all q i b h k = eq-eqb (g i) q (omega (arith, reaches q i b h, falls (suc q) i b k))

  after_none : (q i : ℕ) → i < n → below (suc q) ≤ i → eqb (g i) q ≡ false
  after_none q i b h = ne_eqb (g i) q (λ e. let z : ⊥ = omega (arith, reaches (suc q) i b h) in z)

-- ---- those of a list between two numbers

those_range : {A : Type 0} (d : A) (f : A → Bool) (line : A → Bytes) (l : List A) (a b : ℕ) → a ≤ b → b ≤ length l
    → ((i : ℕ) → i < length l → i < a → f (get_or l i d) ≡ false)
    → ((i : ℕ) → i < length l → a ≤ i → i < b → f (get_or l i d) ≡ true)
    → ((i : ℕ) → i < length l → b ≤ i → f (get_or l i d) ≡ false)
    → lines_of_those f line l ≡ map line (take (b - a) (drop a l))
unfolding lines_of_those
those_range d f line [] a b h k x y z = sym (ap (λ (r : List _). map line (take (b - a) r)) (drop-nil a) ∙ ap (map line) (take-nil (b - a)))
those_range d f line (v ∷ l) zero zero h k x y z =
    choose_no _ _ (z 0 (omega arith) (omega arith))
    ∙ those_range d f line l 0 0 (omega arith) (omega arith) (λ i c m. x (suc i) (omega arith) (omega arith)) (λ i c m o. absurd (let w : ⊥ = omega arith in w)) (λ i c m. z (suc i) (omega arith) (omega arith))
those_range d f line (v ∷ l) zero (suc b) h k x y z =
    choose_yes _ _ (y 0 (omega arith) (omega arith) (omega arith))
    ∙ ap (λ (r : List Bytes). line v ∷ r)
    (those_range d f line l 0 b (omega arith) (omega arith) (λ i c m. absurd (let w : ⊥ = omega arith in w)) (λ i c m o. y (suc i) (omega arith) (omega arith) (omega arith)) (λ i c m. z (suc i) (omega arith) (omega arith)))
    ∙ ap (λ (n : ℕ). map line (take n (v ∷ l))) (let w : suc (b - 0) ≡ suc b - 0 = omega arith in w)
those_range d f line (v ∷ l) (suc a) zero h k x y z = absurd (let w : ⊥ = omega arith in w)
those_range d f line (v ∷ l) (suc a) (suc b) h k x y z =
    choose_no _ _ (x 0 (omega arith) (omega arith))
    ∙ those_range d f line l a b (omega arith) (omega arith) (λ i c m. x (suc i) (omega arith) (omega arith)) (λ i c m o. y (suc i) (omega arith) (omega arith) (omega arith)) (λ i c m. z (suc i) (omega arith) (omega arith))
    ∙ ap (λ (n : ℕ). map line (take n (drop a l))) (let w : b - a ≡ suc b - suc a = omega arith in w)

-- ---- the lines of a procedure

-- The procedure q is its P line, the nodes from its first one to that of the next procedure, and the edges likewise.
pub proc_lines_are : (p : Program) → Follows p → (q : ℕ)
    → proc_lines p q ≡ line_of_proc (name_at p q) ∷ (map line_of_node (take (first_node p (suc q) - first_node p q) (drop (first_node p q) p.nodes))
    ++ map line_of_edge (take (first_edge p (suc q) - first_edge p q) (drop (first_edge p q) p.edges)))
unfolding proc_lines first_node first_edge
proc_lines_are p F q =
    let g : (ℕ → ℕ) = owner_at p in
    let k : (ℕ → ℕ) = λ e. owner_at p (source_at p e) in
    let N = node_count p in
    let M = edge_count p in
    ap₂ (λ (a b : List Bytes). line_of_proc (name_at p q) ∷ (a ++ b))
    (those_range no_node (λ v. eqb v.owner q) line_of_node p.nodes (below g N F.node_order q) (below g N F.node_order (suc q)) (below_next g N F.node_order q) (below_few g N F.node_order (suc q))
    (before_none g N F.node_order q) (between_all g N F.node_order q) (after_none g N F.node_order q))
    (those_range no_edge (λ x. eqb (owner_at p x.source) q) line_of_edge p.edges (below k M F.edge_order q) (below k M F.edge_order (suc q)) (below_next k M F.edge_order q) (below_few k M F.edge_order (suc q))
    (before_none k M F.edge_order q) (between_all k M F.edge_order q) (after_none k M F.edge_order q))

-- Behind the last procedure there are none more.
pub first_past : (p : Program) → Follows p → (first_node p (proc_count p) ≡ node_count p) × (first_edge p (proc_count p) ≡ edge_count p)
unfolding first_node first_edge
first_past p F = (
  count_all (λ n. ltb (owner_at p n) (proc_count p)) (node_count p) (λ n h. lt-ltb _ _ (F.structure.owners n h)),
  count_all (λ e. ltb (owner_at p (source_at p e)) (proc_count p)) (edge_count p) (λ e h. lt-ltb _ _ (F.structure.owners _ (F.structure.sources e h))),
)
