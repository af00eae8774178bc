-- What reading a program file keeps, and L1: an accepted text gives a well-formed program.
use Rattle.std.specs.Prelude.{◌≡◌, refl, ◌⊎◌, Bool, false, List, [], ◌∷◌, ℕ, suc, ◌≤◌, ◌<◌, leb, length, get_or}
use Rattle.std.proofs.Math.Path.{sym, ap, subst}
use Rattle.std.proofs.Common.{◌∙◌, inl, inr, true≢false, arith}
use Rattle.std.proofs.Math.Logic.{⊎_elim}
use Rattle.std.proofs.Math.Bool.{true}
use Rattle.std.proofs.Math.Option.{Option, none, some}
use Rattle.std.proofs.Math.Decide.{dec_lt}
use Rattle.std.proofs.Math.Dec.{eqb}
use borrow.Author.Tests.{eqb-true, eq-eqb, ne_eqb, ltb-true, ltb-false, leb-true, leb-false}
use Rattle.laws.specs.Tests.{◌and◌, ◌or◌, isnt, any, first, plus, count, after, choose}
use Rattle.laws.specs.TestLaws.{and_left, and_right, and_both, implied, isnt_false, true_isnt, both_ways, passes?, fails, every_at, any_at, any_of_lem, any_none, first_none, none_below}
use Rattle.laws.specs.Lists.{snoc_length, snoc_cases, snoc_old, snoc_new, snoc_all, count_agree}
use Rattle.rules.specs.Text.{Bytes, same, empty, bytes, max_procs, max_nodes, max_edges, between, is_name, is_callees, name_count, name_in, split, is_label, is_word, value, fields_of, Reading, refused, accepted}
use Rattle.rules.specs.Graph.{Kind, E, S, C, X, Node, Edge, Program, WellFormed, no_node, no_edge, node_at, edge_at, name_at, owner_at, kind_at, callee_count, callee_name, source_at, word_at, proc_count, node_count, edge_count, same_kind, is_of, leaves, degree, fewest, most, filled, worded}
use Rattle.rules.specs.ProgramFile.{Line, proc_line, node_line, edge_line, malformed, kind_of, is_node, is_edge, form_of, Listing, nothing_read, add_proc, add_node, add_edge, current, begun, has_edge, named, is_node_of, has_word, degree_fine, complete, lost, closing, take_proc, take_line, step_program, finish_program, read_listing, read_program}
use Rattle.rules.specs.Layout.{kind_field}
use Rattle.rules.proofs.GraphLaws.{same_kind_of, leaves_of}
use Rattle.rules.proofs.TextLaws.{same_true, same_of, unless_accepted, accepted_same, then_accepted, text_holds}
use Rattle.rules.specs.Kept.{Complete, Formed, Sound}

-- ---- a complete procedure, as facts

pub complete_says : (p : Program) (q : ℕ) → complete p q ≡ true → Complete p q
unfolding complete degree_fine
complete_says p q w =
    let d : (n : ℕ) → n < node_count p → owner_at p n ≡ q → (leb (fewest (kind_at p n)) (degree p n) and leb (degree p n) (most (kind_at p n))) ≡ true
    = λ n h o. implied _ _ (every_at _ _ (and_left _ _ (and_right _ _ (and_right _ _ w))) n h) (eq-eqb _ _ o) in
    record {
      one_entry = eqb-true _ _ (and_left _ _ w);
      one_exit = eqb-true _ _ (and_left _ _ (and_right _ _ w));
      least = λ n h o. leb-true _ _ (and_left _ _ (d n h o));
      greatest = λ n h o. leb-true _ _ (and_right _ _ (d n h o));
      dashed = λ e h o. implied _ _ (every_at _ _ (and_right _ _ (and_right _ _ (and_right _ _ w))) e h) (eq-eqb _ _ o);
    }

-- ---- nothing read

pub sound_none : Sound nothing_read.program
sound_none =
    record {
      few_procs = omega arith;
      few_nodes = omega arith;
      few_edges = omega arith;
      name_forms = λ q h. none_below q h;
      names = λ q r h i e. none_below q h;
      node_forms = λ n h. none_below n h;
      owners = λ n h. none_below n h;
      node_order = λ m n l h. none_below n h;
      word_forms = λ e h. none_below e h;
      sources = λ e h. none_below e h;
      targets = λ e h. none_below e h;
      stays = λ e h. none_below e h;
      edge_order = λ e f l h. none_below f h;
      words = λ e f h i a b. none_below e h;
      closed = λ q h. none_below (suc q) h;
    }

-- ---- a P line

module _ (p : Program) (s : Sound p) (name : Bytes) (form : is_name name ≡ true) (room : proc_count p < max_procs) (fresh : named p name ≡ false)
    (whole : 0 < proc_count p → Complete p (current p)) where
  unnamed : (q : ℕ) → q < proc_count p → name_at p q ≡ name → ⊥
  unfolding named
  unnamed q h e = any_none (λ q. same (name_at p q) name) (proc_count p) fresh q h (same_of e)

  names_proc : (q r : ℕ) → q < proc_count (add_proc name p) → r < proc_count (add_proc name p) → name_at (add_proc name p) r ≡ name_at (add_proc name p) q → r ≡ q
  names_proc q r h i e = go (snoc_cases [] p.procs name q h) (snoc_cases [] p.procs name r i)
    where
      old : (q : ℕ) → q < proc_count p → name_at (add_proc name p) q ≡ name_at p q
      old q l = snoc_old [] p.procs name q l

      new : (q : ℕ) → q ≡ proc_count p → name_at (add_proc name p) q ≡ name
      new q l = rw l (snoc_new [] p.procs name)

      go : (q < proc_count p) ⊎ (q ≡ proc_count p) → (r < proc_count p) ⊎ (r ≡ proc_count p) → r ≡ q
      go (inl a) (inl b) = s.names q r a b (sym (old r b) ∙ e ∙ old q a)
      go (inl a) (inr b) = absurd (unnamed q a (sym (old q a) ∙ sym e ∙ new r b))
      go (inr a) (inl b) = absurd (unnamed r b (sym (old r b) ∙ e ∙ new q a))
      go (inr a) (inr b) = b ∙ sym a

  -- A P line changes nothing of a complete procedure.
  complete_proc : (q : ℕ) → Complete p q → Complete (add_proc name p) q
  unfolding is_of degree
  complete_proc q c = record { one_entry = c.one_entry; one_exit = c.one_exit; least = c.least; greatest = c.greatest; dashed = c.dashed }

  closed_proc : (q : ℕ) → suc q < proc_count (add_proc name p) → Complete (add_proc name p) q
  closed_proc q h = complete_proc q (go (dec_lt (suc q) (proc_count p)))
    where
      l : proc_count (add_proc name p) ≡ suc (proc_count p)
      l = snoc_length [] p.procs name

      go : Dec (suc q < proc_count p) → Complete p q
      go (yes k) = s.closed q k
      go (no k) =
          let e : current p ≡ q = omega (arith, l) in
          subst (λ (q : ℕ). Complete p q) e (whole (omega (arith, l)))

  pub sound_proc : Sound (add_proc name p)
  sound_proc =
      let l : proc_count (add_proc name p) ≡ suc (proc_count p) = snoc_length [] p.procs name in
      record {
        few_procs = omega arith;
        few_nodes = s.few_nodes;
        few_edges = s.few_edges;
        name_forms = snoc_all [] p.procs name (λ (n : Bytes). is_name n ≡ true) s.name_forms form;
        names = names_proc;
        node_forms = s.node_forms;
        owners = λ n h. omega (arith, s.owners n h);
        node_order = s.node_order;
        word_forms = s.word_forms;
        sources = s.sources;
        targets = s.targets;
        stays = s.stays;
        edge_order = s.edge_order;
        words = s.words;
        closed = closed_proc;
      }

-- A test that fails at the last number counts nothing there.
count_less : (f : ℕ → Bool) (n m : ℕ) → m ≡ suc n → f n ≡ false → count m f ≡ count n f
unfolding count plus
count_less f n m e h = rw e (rw h refl)

-- ---- an N line

module _ (p : Program) (s : Sound p) (x : Node) (mine : x.owner ≡ current p) (some_proc : 0 < proc_count p)
    (form : is_node x.kind x.label x.callee ≡ true) (room : node_count p < max_nodes) where
  -- A node that was read stays as it is.
  kept_node : (n : ℕ) → n < node_count p → node_at (add_node x p) n ≡ node_at p n
  kept_node n h = snoc_old no_node p.nodes x n h

  owner_kept : (n : ℕ) → n < node_count p → owner_at (add_node x p) n ≡ owner_at p n
  owner_kept n h = ap (λ (v : Node). v.owner) (kept_node n h)

  owner_new : owner_at (add_node x p) (node_count p) ≡ x.owner
  owner_new = ap (λ (v : Node). v.owner) (snoc_new no_node p.nodes x)

  order_node : (m n : ℕ) → m ≤ n → n < node_count (add_node x p) → owner_at (add_node x p) m ≤ owner_at (add_node x p) n
  order_node m n l h = go (snoc_cases no_node p.nodes x n h)
    where
      under : (m : ℕ) → (m < node_count p) ⊎ (m ≡ node_count p) → owner_at (add_node x p) m ≤ current p
      under m (inl k) = omega (arith, s.owners m k, owner_kept m k)
      under m (inr k) = rw k (omega (arith, owner_new))

      go : (n < node_count p) ⊎ (n ≡ node_count p) → owner_at (add_node x p) m ≤ owner_at (add_node x p) n
      go (inl k) = omega (arith, owner_kept m (omega arith), owner_kept n k, s.node_order m n l k)
      go (inr k) = rw k (omega (arith, owner_new, under m (snoc_cases no_node p.nodes x m (omega arith))))

  module _ (q : ℕ) (other : x.owner ≡ q → ⊥) (c : Complete p q) where
    is_of_kept : (k : Kind) (n : ℕ) → n < node_count p → is_of (add_node x p) q k n ≡ is_of p q k n
    unfolding is_of
    is_of_kept k n h = ap (λ (v : Node). eqb v.owner q and same_kind v.kind k) (kept_node n h)

    is_of_last : (k : Kind) → is_of (add_node x p) q k (node_count p) ≡ false
    unfolding is_of
    is_of_last k = fails _ (λ t. other (sym owner_new ∙ eqb-true _ _ (and_left _ _ t)))

    count_node : (k : Kind) → count (node_count (add_node x p)) (is_of (add_node x p) q k) ≡ count (node_count p) (is_of p q k)
    count_node k =
        count_less (is_of (add_node x p) q k) (node_count p) (node_count (add_node x p)) (snoc_length no_node p.nodes x) (is_of_last k)
        ∙ count_agree (is_of (add_node x p) q k) (is_of p q k) (node_count p) (is_of_kept k)

    -- What holds of the nodes of q still does.
    each : (P : ℕ → Node → Type 0) → ((n : ℕ) → n < node_count p → owner_at p n ≡ q → P n (node_at p n))
        → (n : ℕ) → n < node_count (add_node x p) → owner_at (add_node x p) n ≡ q → P n (node_at (add_node x p) n)
    each P f n h o =
        ⊎_elim (λ k. subst (λ (v : Node). P n v) (sym (kept_node n k)) (f n k (sym (owner_kept n k) ∙ o)))
        (λ (k : n ≡ node_count p). absurd (other (sym owner_new ∙ ap (owner_at (add_node x p)) (sym k) ∙ o)))
        (snoc_cases no_node p.nodes x n h)

    complete_node : Complete (add_node x p) q
    unfolding degree
    complete_node =
        record {
          one_entry = count_node E ∙ c.one_entry;
          one_exit = count_node X ∙ c.one_exit;
          least = each (λ (n : ℕ) (v : Node). fewest v.kind ≤ degree p n) c.least;
          greatest = each (λ (n : ℕ) (v : Node). degree p n ≤ most v.kind) c.greatest;
          dashed = λ e h o.
              let k = kept_node (source_at p e) (s.sources e h) in
              subst (λ (v : Node). worded v.kind (word_at p e) ≡ true) (sym k) (c.dashed e h (sym (ap (λ (v : Node). v.owner) k) ∙ o));
        }

  pub sound_node : Sound (add_node x p)
  sound_node =
      let l : node_count (add_node x p) ≡ suc (node_count p) = snoc_length no_node p.nodes x in
      record {
        few_procs = s.few_procs;
        few_nodes = omega arith;
        few_edges = s.few_edges;
        name_forms = s.name_forms;
        names = s.names;
        node_forms = snoc_all no_node p.nodes x (λ (v : Node). is_node v.kind v.label v.callee ≡ true) s.node_forms form;
        owners = snoc_all no_node p.nodes x (λ (v : Node). v.owner < proc_count p) s.owners (omega arith);
        node_order = order_node;
        word_forms = s.word_forms;
        sources = λ e h. omega (arith, s.sources e h);
        targets = λ e h. omega (arith, s.targets e h);
        stays = λ e h. owner_kept _ (s.sources e h) ∙ s.stays e h ∙ sym (owner_kept _ (s.targets e h));
        edge_order = λ e f i h. omega (arith, owner_kept (source_at p e) (s.sources e (omega arith)), owner_kept (source_at p f) (s.sources f h), s.edge_order e f i h);
        words = s.words;
        closed = λ q h. complete_node q (λ (o : x.owner ≡ q). let z : ⊥ = omega arith in z) (s.closed q h);
      }

-- ---- a B line

module _ (p : Program) (s : Sound p) (x : Edge) (some_proc : 0 < proc_count p) (room : edge_count p < max_edges) (form : is_word x.word ≡ true)
    (from : is_node_of p (current p) x.source ≡ true) (to : is_node_of p (current p) x.target ≡ true) (fresh : has_word p x.source x.word ≡ false) where
  node_of : (n : ℕ) → is_node_of p (current p) n ≡ true → (n < node_count p) × (owner_at p n ≡ current p)
  unfolding is_node_of
  node_of n h = (ltb-true _ _ (and_left _ _ h), eqb-true _ _ (and_right _ _ h))

  kept_edge : (e : ℕ) → e < edge_count p → edge_at (add_edge x p) e ≡ edge_at p e
  kept_edge e h = snoc_old no_edge p.edges x e h

  new_edge : edge_at (add_edge x p) (edge_count p) ≡ x
  new_edge = snoc_new no_edge p.edges x

  order_edge : (e f : ℕ) → e ≤ f → f < edge_count (add_edge x p) → owner_at p (source_at (add_edge x p) e) ≤ owner_at p (source_at (add_edge x p) f)
  order_edge e f l h = go (snoc_cases no_edge p.edges x f h)
    where
      old : (e : ℕ) → e < edge_count p → owner_at p (source_at (add_edge x p) e) ≡ owner_at p (source_at p e)
      old e k = ap (λ (v : Edge). owner_at p v.source) (kept_edge e k)

      new : owner_at p (source_at (add_edge x p) (edge_count p)) ≡ current p
      new = ap (λ (v : Edge). owner_at p v.source) new_edge ∙ (node_of x.source from).1

      under : (e : ℕ) → (e < edge_count p) ⊎ (e ≡ edge_count p) → owner_at p (source_at (add_edge x p) e) ≤ current p
      under e (inl k) = omega (arith, old e k, s.owners (source_at p e) (s.sources e k))
      under e (inr k) = rw k (omega (arith, new))

      go : (f < edge_count p) ⊎ (f ≡ edge_count p) → owner_at p (source_at (add_edge x p) e) ≤ owner_at p (source_at (add_edge x p) f)
      go (inl k) = omega (arith, old e (omega arith), old f k, s.edge_order e f l k)
      go (inr k) = rw k (omega (arith, new, under e (snoc_cases no_edge p.edges x e (omega arith))))

  unworded : (e : ℕ) → e < edge_count p → source_at p e ≡ x.source → word_at p e ≡ x.word → ⊥
  unfolding has_word
  unworded e h a b = any_none (leaves p x.source x.word) (edge_count p) fresh e h (leaves_of p _ _ e a b)

  words_edge : (e f : ℕ) → e < edge_count (add_edge x p) → f < edge_count (add_edge x p) → source_at (add_edge x p) f ≡ source_at (add_edge x p) e
      → word_at (add_edge x p) f ≡ word_at (add_edge x p) e → f ≡ e
  words_edge e f h i a b = go (snoc_cases no_edge p.edges x e h) (snoc_cases no_edge p.edges x f i)
    where
      new : (e : ℕ) → e ≡ edge_count p → edge_at (add_edge x p) e ≡ x
      new e k = rw k new_edge

      src : {v w : Edge} → v ≡ w → v.source ≡ w.source
      src k = ap (λ (v : Edge). v.source) k

      wrd : {v w : Edge} → v ≡ w → v.word ≡ w.word
      wrd k = ap (λ (v : Edge). v.word) k

      go : (e < edge_count p) ⊎ (e ≡ edge_count p) → (f < edge_count p) ⊎ (f ≡ edge_count p) → f ≡ e
      go (inl k) (inl m) = s.words e f k m (sym (src (kept_edge f m)) ∙ a ∙ src (kept_edge e k)) (sym (wrd (kept_edge f m)) ∙ b ∙ wrd (kept_edge e k))
      go (inl k) (inr m) = absurd (unworded e k (sym (src (kept_edge e k)) ∙ sym a ∙ src (new f m)) (sym (wrd (kept_edge e k)) ∙ sym b ∙ wrd (new f m)))
      go (inr k) (inl m) = absurd (unworded f m (sym (src (kept_edge f m)) ∙ a ∙ src (new e k)) (sym (wrd (kept_edge f m)) ∙ b ∙ wrd (new e k)))
      go (inr k) (inr m) = m ∙ sym k

  module _ (q : ℕ) (other : current p ≡ q → ⊥) (c : Complete p q) where
    -- The new edge leaves no node of q.
    degree_edge : (n : ℕ) → owner_at p n ≡ q → degree (add_edge x p) n ≡ degree p n
    unfolding degree
    degree_edge n o =
        count_less (λ e. eqb (source_at (add_edge x p) e) n) (edge_count p) (edge_count (add_edge x p)) (snoc_length no_edge p.edges x)
        (ne_eqb _ _ (λ t. other (sym (node_of x.source from).1 ∙ ap (owner_at p) (sym (ap (λ (v : Edge). v.source) new_edge) ∙ t) ∙ o)))
        ∙ count_agree (λ e. eqb (source_at (add_edge x p) e) n) (λ e. eqb (source_at p e) n) (edge_count p) (λ e h. ap (λ (v : Edge). eqb v.source n) (kept_edge e h))

    complete_edge : Complete (add_edge x p) q
    unfolding is_of
    complete_edge =
        record {
          one_entry = c.one_entry;
          one_exit = c.one_exit;
          least = λ n h o. omega (arith, degree_edge n o, c.least n h o);
          greatest = λ n h o. omega (arith, degree_edge n o, c.greatest n h o);
          dashed = λ e h o.
              ⊎_elim
              (λ k. subst (λ (v : Edge). worded (kind_at p v.source) v.word ≡ true) (sym (kept_edge e k)) (c.dashed e k (sym (ap (λ (v : Edge). owner_at p v.source) (kept_edge e k)) ∙ o)))
              (λ (k : e ≡ edge_count p).
              let t : edge_at (add_edge x p) e ≡ x = rw k new_edge in
              absurd (other (sym (node_of x.source from).1 ∙ sym (ap (λ (v : Edge). owner_at p v.source) t) ∙ o)))
              (snoc_cases no_edge p.edges x e h);
        }

  pub sound_edge : Sound (add_edge x p)
  sound_edge =
      let l : edge_count (add_edge x p) ≡ suc (edge_count p) = snoc_length no_edge p.edges x in
      record {
        few_procs = s.few_procs;
        few_nodes = s.few_nodes;
        few_edges = omega arith;
        name_forms = s.name_forms;
        names = s.names;
        node_forms = s.node_forms;
        owners = s.owners;
        node_order = s.node_order;
        word_forms = snoc_all no_edge p.edges x (λ (v : Edge). is_word v.word ≡ true) s.word_forms form;
        sources = snoc_all no_edge p.edges x (λ (v : Edge). v.source < node_count p) s.sources (node_of x.source from).0;
        targets = snoc_all no_edge p.edges x (λ (v : Edge). v.target < node_count p) s.targets (node_of x.target to).0;
        stays = snoc_all no_edge p.edges x (λ (v : Edge). owner_at p v.source ≡ owner_at p v.target) s.stays ((node_of x.source from).1 ∙ sym (node_of x.target to).1);
        edge_order = order_edge;
        words = words_edge;
        closed = λ q h. complete_edge q (λ (o : current p ≡ q). let z : ⊥ = omega arith in z) (s.closed q h);
      }

-- ---- the forms of lines

-- The kind that was found is that of the field.
kind_field_lem : (f : Bytes) (k : Kind) → kind_of f ≡ some k → f ≡ kind_field k
unfolding kind_of choose
kind_field_lem f k e = go (same f (bytes "E")) refl (same f (bytes "S")) refl (same f (bytes "C")) refl (same f (bytes "X")) refl e
  where
    is : {j : Kind} → some j ≡ some k → f ≡ kind_field j → f ≡ kind_field k
    is {j} p q = subst (λ (i : Kind). f ≡ kind_field i) (let z : j ≡ k = cc in z) q

    go : (a : Bool) → same f (bytes "E") ≡ a → (b : Bool) → same f (bytes "S") ≡ b → (c : Bool) → same f (bytes "C") ≡ c → (d : Bool) → same f (bytes "X") ≡ d
        → choose a (some E) (choose b (some S) (choose c (some C) (choose d (some X) none))) ≡ some k → f ≡ kind_field k
    go true pa b pb c pc d pd e = is e (same_true f (bytes "E") pa)
    go false pa true pb c pc d pd e = is e (same_true f (bytes "S") pb)
    go false pa false pb true pc d pd e = is e (same_true f (bytes "C") pc)
    go false pa false pb false pc true pd e = is e (same_true f (bytes "X") pd)
    go false pa false pb false pc false pd e = absurd (true≢false (let z : true ≡ false = cc in z))

formed_proc : (f a : Bytes) (t : Bool) → (same f (bytes "P") and is_name a) ≡ t → Formed (f ∷ a ∷ []) (choose t (proc_line a) malformed)
unfolding choose
formed_proc f a true e = (ap (λ (g : Bytes). g ∷ a ∷ []) (same_true f (bytes "P") (and_left _ _ e)), and_right _ _ e)
formed_proc f a false e = tt

formed_edge : (f a b c : Bytes) (t : Bool) → (same f (bytes "B") and is_edge a b c) ≡ t → Formed (f ∷ a ∷ b ∷ c ∷ []) (choose t (edge_line a b c) malformed)
unfolding choose
formed_edge f a b c true e = (ap (λ (g : Bytes). g ∷ a ∷ b ∷ c ∷ []) (same_true f (bytes "B") (and_left _ _ e)), and_right _ _ e)
formed_edge f a b c false e = tt

formed_node : (f a b c : Bytes) (o : Option Kind) → same f (bytes "N") ≡ true → kind_of a ≡ o
    → Formed (f ∷ a ∷ b ∷ c ∷ []) (after o malformed (λ k. choose (is_node k b c) (node_line k b c) malformed))
unfolding choose
formed_node f a b c none e k = tt
formed_node f a b c (some j) e k = go (is_node j b c) refl
  where
    go : (t : Bool) → is_node j b c ≡ t → Formed (f ∷ a ∷ b ∷ c ∷ []) (choose t (node_line j b c) malformed)
    go true h =
        let p : f ≡ bytes "N" = same_true f (bytes "N") e in
        let q : a ≡ kind_field j = kind_field_lem a j k in
        (cc, h)
    go false h = tt

formed_four : (f a b c : Bytes) (t : Bool) → same f (bytes "N") ≡ t
    → Formed (f ∷ a ∷ b ∷ c ∷ [])
    (choose t (after (kind_of a) malformed (λ k. choose (is_node k b c) (node_line k b c) malformed)) (choose (same f (bytes "B") and is_edge a b c) (edge_line a b c) malformed))
unfolding choose
formed_four f a b c true e = formed_node f a b c (kind_of a) e refl
formed_four f a b c false e = formed_edge f a b c (same f (bytes "B") and is_edge a b c) refl

pub formed : (fs : List Bytes) → Formed fs (form_of fs)
unfolding form_of
formed [] = tt
formed (f ∷ []) = tt
formed (f ∷ a ∷ []) = formed_proc f a (same f (bytes "P") and is_name a) refl
formed (f ∷ a ∷ b ∷ []) = tt
formed (f ∷ a ∷ b ∷ c ∷ []) = formed_four f a b c (same f (bytes "N")) refl
formed (f ∷ a ∷ b ∷ c ∷ d ∷ ds) = tt

-- ---- one line

-- What is said of a procedure that is being closed.
closing_accepted : {A : Type 0} (s : Listing) (a : Reading A) (t : A) → closing s a ≡ accepted t → Complete s.program (current s.program) × (a ≡ accepted t)
closing_accepted s a t e =
    let u = unless_accepted _ _ _ _ _ e in
    (complete_says _ _ (isnt_false _ u.0), u.1)

-- An accepted line gives the program that its form says.
abbrev pub Taken : Listing → Line → Listing → Type 0
Taken s (proc_line name) t =
    (proc_count s.program < max_procs) × (named s.program name ≡ false) × (0 < proc_count s.program → Complete s.program (current s.program))
    × (t.program ≡ add_proc name s.program)
Taken s (node_line kind label callee) t =
    (0 < proc_count s.program) × (has_edge s.program (current s.program) ≡ false) × (node_count s.program < max_nodes)
    × (t.program ≡ add_node (record { owner = current s.program; kind = kind; label = label; callee = callee }) s.program)
Taken s (edge_line from word to) t =
    (0 < proc_count s.program) × (edge_count s.program < max_edges)
    × (is_node_of s.program (current s.program) (value from) ≡ true) × (is_node_of s.program (current s.program) (value to) ≡ true)
    × (has_word s.program (value from) word ≡ false) × (t.program ≡ add_edge (record { source = value from; word = word; target = value to }) s.program)
Taken s malformed t = ⊥

or_false : (a b : Bool) → (a or b) ≡ false → (a ≡ false) × (b ≡ false)
unfolding ◌or◌
or_false true b e = absurd (true≢false e)
or_false false b e = (refl, e)

pub closing_begun : {A : Type 0} (s : Listing) (b : Bool) (a : Reading A) (t : A) → begun s.program ≡ b → choose b (closing s a) a ≡ accepted t
    → (0 < proc_count s.program → Complete s.program (current s.program)) × (a ≡ accepted t)
unfolding choose
closing_begun s true a t h e =
    let u = closing_accepted s a t e in
    (λ l. u.0, u.1)
closing_begun s false a t h e = (λ l. absurd (let z : ⊥ = omega (arith, ltb-false 0 (proc_count s.program) h) in z), e)

program_of : {s t : Listing} → accepted s ≡ accepted t → t.program ≡ s.program
program_of e = ap (λ (u : Listing). u.program) (sym (accepted_same e))

pub taken : (n at : ℕ) (s : Listing) (l : Line) (t : Listing) → take_line n at s l ≡ accepted t → Taken s l t
unfolding take_line
taken n at s (proc_line name) t e =
    let u = closing_begun s (begun s.program) (take_proc n at name s) t refl e in
    let v = unless_accepted _ _ _ _ _ u.1 in
    let w = unless_accepted _ _ _ _ _ v.1 in
    (leb-false _ _ v.0, w.0, u.0, program_of w.1)
taken n at s (node_line kind label callee) t e =
    let u = unless_accepted _ _ _ _ _ e in
    let v = unless_accepted _ _ _ _ _ u.1 in
    let o = or_false _ _ u.0 in
    (ltb-true _ _ (isnt_false _ o.0), o.1, leb-false _ _ v.0, program_of v.1)
taken n at s (edge_line from word to) t e =
    let u = unless_accepted _ _ _ _ _ e in
    let v = unless_accepted _ _ _ _ _ u.1 in
    let w = unless_accepted _ _ _ _ _ v.1 in
    let x = unless_accepted _ _ _ _ _ w.1 in
    let y = isnt_false _ w.0 in
    (ltb-true _ _ (isnt_false _ u.0), leb-false _ _ v.0, and_left _ _ y, and_right _ _ y, x.0, program_of x.1)
taken n at s malformed t e = true≢false (let z : true ≡ false = cc in z)

-- What was read stays sound.
sound_line : (fs : List Bytes) (s : Listing) (l : Line) (t : Listing) → Formed fs l → Sound s.program → Taken s l t → Sound t.program
unfolding is_edge
sound_line fs s (proc_line name) t f h k = subst Sound (sym k.3) (sound_proc s.program h name f.1 k.0 k.1 k.2)
sound_line fs s (node_line kind label callee) t f h k =
    subst Sound (sym k.3)
    (sound_node s.program h (record { owner = current s.program; kind = kind; label = label; callee = callee }) refl k.0 f.1 k.2)
sound_line fs s (edge_line from word to) t f h k =
    subst Sound (sym k.5)
    (sound_edge s.program h (record { source = value from; word = word; target = value to }) k.0 k.1 (and_left _ _ (and_right _ _ f.1)) k.2 k.3 k.4)
sound_line fs s malformed t f h k = absurd k

pub sound_step : (n at : ℕ) (s : Listing) (line : Bytes) (t : Listing) → Sound s.program → step_program n at s line ≡ accepted t → Sound t.program
unfolding step_program
sound_step n at s line t h e =
    sound_line (fields_of line) s (form_of (fields_of line)) t (formed (fields_of line)) h (taken n at s (form_of (fields_of line)) t e)

-- ---- the end of the text

-- What the end asks of the program besides: it is not empty, its last procedure is complete, and every callee is known.
pub record Ended (p : Program) : Type 0 where
  pub begins : 0 < proc_count p
  pub whole : Complete p (current p)
  pub known : (n : ℕ) → n < node_count p → lost p n ≡ false

finished_none : (p : Program) (s t : Listing) (o : Option ℕ) (f : ℕ → Reading Listing) → ((m : ℕ) → f m ≡ accepted t → ⊥) → after o (accepted s) f ≡ accepted t → (o ≡ none) × (s ≡ t)
finished_none p s t none f h e = (refl, accepted_same e)
finished_none p s t (some m) f h e = absurd (h m e)

pub finished : (n : ℕ) (s t : Listing) → finish_program n s ≡ accepted t → Ended s.program × (s ≡ t)
unfolding finish_program
finished n s t e =
    let u = unless_accepted _ _ _ _ _ e in
    let v = closing_accepted s _ t u.1 in
    let w = finished_none s.program s t (first (node_count s.program) (lost s.program)) (λ m. refused 9 (get_or s.places.node_lines m 0)) (λ m k. true≢false (let z : true ≡ false = cc in z)) v.1 in (
      record {
        begins = ltb-true _ _ (isnt_false _ u.0);
        whole = v.0;
        known = λ m h. fails _ (λ l. first_none (lost s.program) (node_count s.program) w.0 m h l);
      },
      w.1,
    )

-- A name, label or word is not empty.
not_empty : (k : ℕ) (s : Bytes) → between 1 k (length s) ≡ true → empty s ≡ false
unfolding between empty
not_empty k [] e = absurd (let z : ⊥ = omega (arith, leb-true 1 0 (and_left _ _ e)) in z)
not_empty k (x ∷ s) e = refl

-- A callee field is not empty: its first name is not.
callees_some : (c : Bytes) → is_callees c ≡ true → empty c ≡ false
unfolding is_callees name_count name_in is_name split empty
callees_some [] e = absurd (true≢false (not_empty 12 [] (and_left _ _ (every_at (λ i. is_name (name_in [] i)) 1 (and_right _ _ e) 0 (omega arith)))))
callees_some (x ∷ c) e = refl

node_filled : (k : Kind) (l c : Bytes) → is_node k l c ≡ true → filled k l c ≡ true
unfolding is_node filled is_label
node_filled E l c e = e
node_filled S l c e = and_both (true_isnt (not_empty 60 l (and_left _ _ (and_left _ _ e)))) (and_right _ _ e)
node_filled C l c e = and_both (true_isnt (not_empty 60 l (and_left _ _ (and_left _ _ e)))) (true_isnt (callees_some c (and_right _ _ e)))
node_filled X l c e = e

-- The facts together are a well-formed program.
module _ (p : Program) (s : Sound p) (f : Ended p) where
  pub each_whole : (q : ℕ) → q < proc_count p → Complete p q
  each_whole q h = go (dec_lt (suc q) (proc_count p))
    where
      go : Dec (suc q < proc_count p) → Complete p q
      go (yes k) = s.closed q k
      go (no k) =
          let e : current p ≡ q = omega arith in
          subst (λ (q : ℕ). Complete p q) e f.whole

  callees_known : (n : ℕ) → n < node_count p → kind_at p n ≡ C → (i : ℕ) → i < callee_count p n → (q : ℕ) × (q < proc_count p) × (name_at p q ≡ callee_name p n i)
  unfolding lost named
  callees_known n h k i l =
      let t : any (proc_count p) (λ q. same (name_at p q) (callee_name p n i)) ≡ true
      = ⊎_elim (λ y. y) (λ z. absurd (both_ways (and_both (same_kind_of k) (any_of_lem (λ i. isnt (named p (callee_name p n i))) (callee_count p n) i l (true_isnt z))) (f.known n h))) (passes? (any (proc_count p) (λ q. same (name_at p q) (callee_name p n i)))) in
      let r = any_at (λ q. same (name_at p q) (callee_name p n i)) (proc_count p) t in
      (r.0, r.1, same_true _ _ r.2)

  pub well_formed : WellFormed p
  well_formed =
      record {
        begins = f.begins;
        entries = λ q h. (each_whole q h).one_entry;
        exits = λ q h. (each_whole q h).one_exit;
        names = s.names;
        owners = s.owners;
        fields = λ n h. node_filled _ _ _ (s.node_forms n h);
        fewest_leave = λ n h. (each_whole (owner_at p n) (s.owners n h)).least n h refl;
        most_leave = λ n h. (each_whole (owner_at p n) (s.owners n h)).greatest n h refl;
        callees = callees_known;
        sources = s.sources;
        targets = s.targets;
        stays = s.stays;
        dashes = λ e h. (each_whole (owner_at p (source_at p e)) (s.owners _ (s.sources e h))).dashed e h refl;
        words = s.words;
      }

-- What is known of an accepted text's program.
pub read_sound : (text : Bytes) (p : Program) → read_program text ≡ accepted p → Sound p × Ended p
unfolding read_program read_listing
read_sound text p e =
    let u = then_accepted _ _ _ e in
    let r = text_holds step_program finish_program (λ (ls : List Bytes) (s : Listing). Sound s.program) (λ n at ls st l s h k. sound_step n at st l s h k) text nothing_read u.0 sound_none u.1 in
    let f = finished r.number r.last u.0 r.finishes in
    let q : r.last.program ≡ p = ap (λ (s : Listing). s.program) f.1 ∙ accepted_same u.2 in
    (subst Sound q r.holds, subst Ended q f.0)

-- L1. An accepted program text gives a well-formed program.
pub read_well_formed : (text : Bytes) (p : Program) → read_program text ≡ accepted p → WellFormed p
read_well_formed text p e =
    let r = read_sound text p e in
    well_formed p r.0 r.1
