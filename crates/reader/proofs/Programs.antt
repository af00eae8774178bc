-- What a line adds to a program, as the rows see it: where procedures begin, entries and exits, and which nodes and edges are of the procedure that is being read.
use mathlib.Core.Path.{◌≡◌, sym, ap, ◌∙◌}
use mathlib.Core.Logic.{⊎_elim}
use mathlib.Core.Bool.{true, false}
use mathlib.Core.Option.{some}
use Prim.Native.Nat.{ℕ, suc, ◌≤◌, ◌<◌}
use native.Mathlib.Omega.{arith}
use lib.Dec.{eqb, leb, ltb}
use borrow.Author.Tests.{eqb-true, eq-eqb, ltb-true, ltb-false, lt-ltb, le-ltb, leb-true, le-leb}
use Rattle.laws.specs.Tests.{◌and◌, any, first, count}
use Rattle.laws.specs.TestLaws.{and_left, and_right, and_both, passes?, same_test, both_ways, any_at, any_of_lem, count_skip, first_skip}
use Rattle.laws.specs.Lists.{snoc_length, snoc_old, snoc_new, count_agree}
use Rattle.laws.specs.Counting.{count_all, count_missing, count_prefix, first_agree, first_last}
use Rattle.rules.specs.Text.{Bytes}
use Rattle.rules.specs.Graph.{Kind, Node, Edge, Program, no_node, no_edge, owner_at, source_at, proc_count, node_count, edge_count, same_kind, is_of}
use Rattle.rules.specs.ProgramFile.{add_proc, add_node, add_edge, current, has_edge, is_node_of}
use Rattle.rules.specs.Kept.{Sound}
use Rattle.graph.specs.Table.{first_node, first_edge}

-- ---- the procedure that is being read

module _ (p : Program) (s : Sound p) where
  -- Nodes before a procedure's first node are of earlier procedures, and no others.
  before_node : (q n : ℕ) → n < node_count p → ltb (owner_at p n) q ≡ ltb n (first_node p q)
  unfolding first_node
  before_node q n h = count_prefix (λ n. ltb (owner_at p n) q) (node_count p) (λ i j a b t. lt-ltb (owner_at p i) q (omega (arith, s.node_order i j a b, ltb-true (owner_at p j) q t))) n h

  module _ (some_proc : 0 < proc_count p) where
    owner_last : (n : ℕ) → n < node_count p → owner_at p n ≤ current p
    owner_last n h = omega (arith, s.owners n h)

    -- A node is of the procedure being read exactly if it is its first node or later.
    pub is_current : (n : ℕ) → n < node_count p → eqb (owner_at p n) (current p) ≡ leb (first_node p (current p)) n
    is_current n h =
        same_test _ _
        (λ t.
        let a : ltb n (first_node p (current p)) ≡ false = sym (before_node (current p) n h) ∙ le-ltb (owner_at p n) (current p) (omega (arith, eqb-true (owner_at p n) (current p) t)) in
        le-leb _ _ (ltb-false n (first_node p (current p)) a))
        (λ t.
        let a : ltb (owner_at p n) (current p) ≡ false = before_node (current p) n h ∙ le-ltb n (first_node p (current p)) (leb-true (first_node p (current p)) n t) in
        eq-eqb (owner_at p n) (current p) (omega (arith, ltb-false (owner_at p n) (current p) a, owner_last n h)))

    pub node_of : (n : ℕ) → is_node_of p (current p) n ≡ (leb (first_node p (current p)) n and ltb n (node_count p))
    unfolding is_node_of
    node_of n =
        same_test _ _
        (λ t. let l = ltb-true n (node_count p) (and_left _ _ t) in and_both (sym (is_current n l) ∙ and_right _ _ t) (and_left _ _ t))
        (λ t. let l = ltb-true n (node_count p) (and_right _ _ t) in and_both (and_right _ _ t) (is_current n l ∙ and_left _ _ t))

    -- It has a B line exactly if there is an edge from its first on.
    pub has_edge_lem : has_edge p (current p) ≡ ltb (first_edge p (current p)) (edge_count p)
    unfolding has_edge first_edge
    has_edge_lem =
        same_test _ _
        (λ t.
        let r = any_at (λ e. eqb (owner_at p (source_at p e)) (current p)) (edge_count p) t in
        lt-ltb _ _ (count_missing (λ e. ltb (owner_at p (source_at p e)) (current p)) (edge_count p) r.0 r.1 (le-ltb (owner_at p (source_at p r.0)) (current p) (omega (arith, eqb-true (owner_at p (source_at p r.0)) (current p) r.2)))))
        (λ t. ⊎_elim (λ a. a) (λ a. absurd (full (ltb-true _ _ t) a)) (passes? (any (edge_count p) (λ e. eqb (owner_at p (source_at p e)) (current p)))))
      where
        full : count (edge_count p) (λ e. ltb (owner_at p (source_at p e)) (current p)) < edge_count p → any (edge_count p) (λ e. eqb (owner_at p (source_at p e)) (current p)) ≡ false → ⊥
        full l a =
            let all : count (edge_count p) (λ e. ltb (owner_at p (source_at p e)) (current p)) ≡ edge_count p
            = count_all _ (edge_count p) (λ e h.
            ⊎_elim (λ t. t)
            (λ t. absurd (both_ways (any_of_lem (λ e. eqb (owner_at p (source_at p e)) (current p)) (edge_count p) e h
            (eq-eqb (owner_at p (source_at p e)) (current p) (omega (arith, ltb-false (owner_at p (source_at p e)) (current p) t, owner_last (source_at p e) (s.sources e h))))) a))
            (passes? (ltb (owner_at p (source_at p e)) (current p)))) in
            omega arith

  -- A new procedure begins behind all nodes and edges.
  pub new_first_node : (name : Bytes) → first_node (add_proc name p) (proc_count p) ≡ node_count p
  unfolding first_node
  new_first_node name = count_all _ (node_count p) (λ n h. lt-ltb _ _ (s.owners n h))

  pub new_first_edge : (name : Bytes) → first_edge (add_proc name p) (proc_count p) ≡ edge_count p
  unfolding first_edge
  new_first_edge name = count_all _ (edge_count p) (λ e h. lt-ltb _ _ (s.owners (source_at p e) (s.sources e h)))

-- ---- a node more

module _ (p : Program) (x : Node) where
  many : node_count (add_node x p) ≡ suc (node_count p)
  many = snoc_length no_node p.nodes x

  owner_old : (n : ℕ) → n < node_count p → owner_at (add_node x p) n ≡ owner_at p n
  owner_old n h = ap (λ (v : Node). v.owner) (snoc_old no_node p.nodes x n h)

  owner_new : owner_at (add_node x p) (node_count p) ≡ x.owner
  owner_new = ap (λ (v : Node). v.owner) (snoc_new no_node p.nodes x)

  -- Procedures up to its own begin where they did.
  pub node_first_node : (q : ℕ) → q ≤ x.owner → first_node (add_node x p) q ≡ first_node p q
  unfolding first_node
  node_first_node q h =
      ap (λ (m : ℕ). count m (λ n. ltb (owner_at (add_node x p) n) q)) many
      ∙ count_skip (λ n. ltb (owner_at (add_node x p) n) q) (node_count p) (le-ltb (owner_at (add_node x p) (node_count p)) q (omega (arith, owner_new)))
      ∙ count_agree _ _ (node_count p) (λ n l. ap (λ (m : ℕ). ltb m q) (owner_old n l))

  pub node_first_edge : ((e : ℕ) → e < edge_count p → source_at p e < node_count p) → (q : ℕ) → first_edge (add_node x p) q ≡ first_edge p q
  unfolding first_edge
  node_first_edge sources q = count_agree _ _ (edge_count p) (λ e h. ap (λ (m : ℕ). ltb m q) (owner_old (source_at p e) (sources e h)))

  -- Its kind in a procedure: as it was before it, and its own.
  is_old : (q : ℕ) (k : Kind) (n : ℕ) → n < node_count p → is_of (add_node x p) q k n ≡ is_of p q k n
  unfolding is_of
  is_old q k n h = ap (λ (v : Node). eqb v.owner q and same_kind v.kind k) (snoc_old no_node p.nodes x n h)

  is_new : (q : ℕ) (k : Kind) → is_of (add_node x p) q k (node_count p) ≡ (eqb x.owner q and same_kind x.kind k)
  unfolding is_of
  is_new q k = ap (λ (v : Node). eqb v.owner q and same_kind v.kind k) (snoc_new no_node p.nodes x)

  module _ (q : ℕ) (k : Kind) where
    -- Where it is not of the procedure and the kind, their count and the first of them stay.
    pub other_count : (eqb x.owner q and same_kind x.kind k) ≡ false → count (node_count (add_node x p)) (is_of (add_node x p) q k) ≡ count (node_count p) (is_of p q k)
    other_count e =
        ap (λ (m : ℕ). count m (is_of (add_node x p) q k)) many ∙ count_skip (is_of (add_node x p) q k) (node_count p) (is_new q k ∙ e)
        ∙ count_agree _ _ (node_count p) (is_old q k)

    pub other_first : (eqb x.owner q and same_kind x.kind k) ≡ false → first (node_count (add_node x p)) (is_of (add_node x p) q k) ≡ first (node_count p) (is_of p q k)
    other_first e =
        ap (λ (m : ℕ). first m (is_of (add_node x p) q k)) many ∙ first_skip (is_of (add_node x p) q k) (node_count p) (is_new q k ∙ e)
        ∙ first_agree _ _ (node_count p) (is_old q k)

    -- Where it is, and there is one, it is that one.
    pub own_first : (eqb x.owner q and same_kind x.kind k) ≡ true → count (node_count (add_node x p)) (is_of (add_node x p) q k) ≡ 1
        → first (node_count (add_node x p)) (is_of (add_node x p) q k) ≡ some (node_count p)
    own_first e c =
        ap (λ (m : ℕ). first m (is_of (add_node x p) q k)) many
        ∙ first_last (is_of (add_node x p) q k) (node_count p) (sym (ap (λ (m : ℕ). count m (is_of (add_node x p) q k)) many) ∙ c) (is_new q k ∙ e)

-- ---- an edge more

module _ (p : Program) (x : Edge) where
  pub edge_source_old : (e : ℕ) → e < edge_count p → source_at (add_edge x p) e ≡ source_at p e
  edge_source_old e h = ap (λ (v : Edge). v.source) (snoc_old no_edge p.edges x e h)

  pub edge_source_new : source_at (add_edge x p) (edge_count p) ≡ x.source
  edge_source_new = ap (λ (v : Edge). v.source) (snoc_new no_edge p.edges x)

  pub edge_first_edge : (q : ℕ) → q ≤ owner_at p x.source → first_edge (add_edge x p) q ≡ first_edge p q
  unfolding first_edge
  edge_first_edge q h =
      ap (λ (m : ℕ). count m (λ e. ltb (owner_at p (source_at (add_edge x p) e)) q)) (snoc_length no_edge p.edges x)
      ∙ count_skip (λ e. ltb (owner_at p (source_at (add_edge x p) e)) q) (edge_count p) (le-ltb (owner_at p (source_at (add_edge x p) (edge_count p))) q (omega (arith, ap (owner_at p) edge_source_new)))
      ∙ count_agree _ _ (edge_count p) (λ e l. ap (λ (n : ℕ). ltb (owner_at p n) q) (edge_source_old e l))
