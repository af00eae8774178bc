-- The functions that test whether the procedure that is being read is complete: what each return and each turn of a loop shows.
use mathlib.Core.Path.{◌≡◌, refl, sym, ap, ◌∙◌, subst}
use mathlib.Core.Logic.{◌⊎◌, ⊎_elim}
use mathlib.Core.Bool.{Bool, true, false}
use mathlib.Core.List.{List}
use Prim.Native.Nat.{ℕ, zero, suc, ◌+◌, ◌-◌, ◌*◌, ◌≤◌, ◌<◌}
use native.Mathlib.Omega.{arith}
use lib.Dec.{eqb, leb}
use lib.ListN.{get_or}
use lib.Seq.{get_or-drop}
use borrow.Author.Tests.{eqb-true, eq-eqb, ne_eqb, leb-true, le-leb, lt-leb}
use Rattle.laws.specs.Tests.{◌and◌, ◌⇒◌, every, count}
use Rattle.laws.specs.TestLaws.{and_left, and_right, and_both, implied, implies, same_test, fails, both_ways, every_at, every_of, count_skip, count_more, below_suc}
use Rattle.laws.specs.Slices.{below_or}
use Rattle.laws.specs.Lists.{choose_no, count_agree}
use Rattle.laws.specs.Counting.{count_zero, every_agree}
use Rattle.rules.specs.Text.{Bytes, same}
use Rattle.rules.specs.Graph.{Kind, E, S, C, X, Program, degrees, fewest, most, owner_at, kind_at, source_at, word_at, proc_count, node_count, edge_count, kind_number, same_kind, is_of, degree, dash, worded}
use Rattle.rules.specs.ProgramFile.{Listing, current, degree_fine, complete}
use Rattle.rules.specs.Kept.{Sound}
use Rattle.graph.specs.Table.{proc_head, first_node}
use Rattle.graph.specs.Lookups.{in_table, Edges, Procs, Degree, Dashed}
use Rattle.lines.specs.declared.Kind.{Kind as Code}
use Rattle.lines.specs.declared.Kind.TheVariants.{Entry, Step, Call, Exit}
use Rattle.lines.specs.Kinds.{kind_code, kind_meant}
use Rattle.lines.specs.Known.{Known}
use Rattle.rules.proofs.GraphLaws.{same_kind_true}
use Rattle.reader.specs.declared.Degrees.{Degrees}
use Rattle.reader.specs.Result.{Count, links_of, DegreesOf}
use Rattle.reader.specs.Reading.{Holds, of_current, kind_count, node_fine, NodeFine, AllFine, FineTo, Completes}
use Rattle.reader.proofs.Programs.{is_current}

-- ---- what the table holds

pub edges_of : (w : List ℕ) (c : Count) (s : Listing) → Sound s.program → Holds w c s → Edges (in_table (links_of w)) s
edges_of w c s k h = record { sources = k.sources; rows = h.reading.edges; heads = h.reading.heads; words = k.word_forms; once = k.words }

pub procs_of : (text w : List ℕ) (c : Count) (s : Listing) → Known text s → Holds w c s → Procs text (in_table (links_of w)) s
procs_of text w c s k h = record { heads = h.reading.procs; names = k.names }

kind_at_lem : (w : List ℕ) (c : Count) (s : Listing) → Holds w c s → (n : ℕ) → n < node_count s.program → get_or w (4 * n) 0 ≡ kind_number (kind_at s.program n)
kind_at_lem w c s h n l = ap (λ (i : ℕ). get_or w i 0) (let z : 4 * n ≡ 4 * n + 0 = omega arith in z) ∙ h.reading.nodes n l 0 (omega arith)

-- There is a procedure where the count says so.
pub some_procs : (w : List ℕ) (c : Count) (s : Listing) → Holds w c s → (c.procs ≡ 0 → ⊥) → 0 < proc_count s.program
some_procs w c s h z = go (proc_count s.program) h.procs_n
  where
    go : (m : ℕ) → c.procs ≡ m → 0 < m
    go zero e = absurd (z e)
    go (suc m) e = omega arith

-- The row of the procedure that is being read.
pub current_row : (w : List ℕ) (c : Count) (s : Listing) → Holds w c s → 0 < proc_count s.program → (k : ℕ) → k < 5 → of_current w c.procs k ≡ get_or (proc_head s (current s.program)) k 0
unfolding of_current
current_row w c s h some k l =
    choose_no _ _ (ne_eqb c.procs 0 (λ (e : c.procs ≡ 0). let z : ⊥ = omega (arith, h.procs_n) in z))
    ∙ ap (λ (i : ℕ). get_or w i 0) (let z : 2048 + 7 * (c.procs - 1) + k ≡ 2048 + (7 * current s.program + k) = omega (arith, h.procs_n) in z)
    ∙ sym (get_or-drop 2048 w (7 * current s.program + k) 0) ∙ h.reading.procs (current s.program) (omega arith) k l

-- ---- `count_kind`

module _ (w : List ℕ) (first k : ℕ) where
  kind_none : (nodes : ℕ) → nodes ≤ first → 0 ≡ kind_count w first nodes k
  unfolding kind_count ◌and◌
  kind_none nodes h = sym (count_zero _ nodes (λ i l. let z : leb first i ≡ false = lt-leb first i (omega arith) in rw z))

  pub kind_start : 0 ≡ kind_count w first first k
  unfolding kind_count ◌and◌
  kind_start = sym (count_zero _ first (λ i l. let z : leb first i ≡ false = lt-leb first i (omega arith) in rw z))

  pub kind_hit : (n i r : ℕ) → n ≡ kind_count w first i k → first ≤ i → r ≡ get_or w (4 * i) 0 → r ≡ k → n + 1 ≡ kind_count w first (i + 1) k
  unfolding kind_count
  kind_hit n i r e h p q =
      let z : i + 1 ≡ suc i = omega arith in
      let y : n + 1 ≡ suc n = omega arith in
      y ∙ ap suc e ∙ sym (count_more (λ n. leb first n and eqb (get_or w (4 * n) 0) k) i (and_both (le-leb first i h) (eq-eqb (get_or w (4 * i) 0) k (sym p ∙ q))))
      ∙ ap (λ (m : ℕ). count m (λ n. leb first n and eqb (get_or w (4 * n) 0) k)) (sym z)

  pub kind_miss : (n i r : ℕ) → n ≡ kind_count w first i k → r ≡ get_or w (4 * i) 0 → (r ≡ k → ⊥) → n ≡ kind_count w first (i + 1) k
  unfolding kind_count
  kind_miss n i r e p q =
      let z : i + 1 ≡ suc i = omega arith in
      e ∙ sym (count_skip (λ n. leb first n and eqb (get_or w (4 * n) 0) k) i (fails _ (λ t. q (p ∙ eqb-true (get_or w (4 * i) 0) k (and_right _ _ t)))))
      ∙ ap (λ (m : ℕ). count m (λ n. leb first n and eqb (get_or w (4 * n) 0) k)) (sym z)

  -- The end of the loop, which does not run where no node stands from `first` on.
  pub kind_end : (n i nodes : ℕ) → (nodes ≤ first → n ≡ 0) → n ≡ kind_count w first i k → (first ≤ nodes → i ≤ nodes) → nodes ≤ i → n ≡ kind_count w first nodes k
  kind_end n i nodes z e a b =
      below_or first nodes (λ h. let y : i ≡ nodes = omega (arith, a (omega arith)) in e ∙ ap (λ (m : ℕ). kind_count w first m k) y) (λ h. z h ∙ kind_none nodes h)

pub ruleset kinds = (kind_start, kind_hit, kind_miss, kind_end)

-- ---- `node_fine`

pub number_kind : (k : Kind) → (kind_number k ≡ 0 → k ≡ E) × (kind_number k ≡ 2 → k ≡ C)
number_kind E = (λ e. refl, λ e. absurd (let z : ⊥ = omega arith in z))
number_kind S = (λ e. absurd (let z : ⊥ = omega arith in z), λ e. absurd (let z : ⊥ = omega arith in z))
number_kind C = (λ e. absurd (let z : ⊥ = omega arith in z), λ e. refl)
number_kind X = (λ e. absurd (let z : ⊥ = omega arith in z), λ e. absurd (let z : ⊥ = omega arith in z))

few_kinds : (k : Kind) → kind_number k ≤ 3
few_kinds E = omega arith
few_kinds S = omega arith
few_kinds C = omega arith
few_kinds X = omega arith

-- The table has kinds alone.
pub fine_no_kind : (w : List ℕ) (n m : ℕ) → m ≡ get_or w (4 * n) 0 → 3 < m → NodeFine w n false
unfolding NodeFine
fine_no_kind w n m e h s c k hs l = absurd (let z : ⊥ = omega (arith, e ∙ kind_at_lem w c s hs n l, few_kinds (kind_at s.program n)) in z)

module _ (w l : List ℕ) (n m d : ℕ) (kind : Code) (b : Degrees) (em : m ≡ get_or w (4 * n) 0) (ek : kind_code kind ≡ m) (ed : DegreesOf m b) (el : l ≡ links_of w) (dd : Degree l n d) where
  eb : DegreesOf (kind_code kind) b
  eb = subst (λ (x : ℕ). DegreesOf x b) (sym ek) ed

  module _ (s : Listing) (c : Count) (k : Sound s.program) (h : Holds w c s) (a : n < node_count s.program) where
    kind_is : kind_meant kind ≡ kind_at s.program n
    unfolding same_kind
    kind_is = same_kind_true _ _ (eq-eqb _ _ (ek ∙ em ∙ kind_at_lem w c s h n a))

    fewest_is : b.fewest ≡ fewest (kind_at s.program n)
    fewest_is = eb.fewest_is ∙ ap (λ (t : Kind). (get_or degrees (kind_number t) (0, 0)).0) kind_is

    most_is : b.most ≡ most (kind_at s.program n)
    most_is = eb.most_is ∙ ap (λ (t : Kind). (get_or degrees (kind_number t) (0, 0)).1) kind_is

    degree_is : d ≡ degree s.program n
    unfolding Degree
    degree_is = dd s (subst (λ (x : List ℕ). Edges (in_table x) s) (sym el) (edges_of w c s k h)) a

    fine : b.fewest ≤ d → d ≤ b.most → degree_fine s.program n ≡ true
    unfolding degree_fine
    fine a e = and_both (le-leb _ _ (subst (λ (x : ℕ). x ≤ degree s.program n) fewest_is (subst (λ (x : ℕ). b.fewest ≤ x) degree_is a))) (le-leb _ _ (subst (λ (x : ℕ). degree s.program n ≤ x) most_is (subst (λ (x : ℕ). x ≤ b.most) degree_is e)))

  pub fine_few : d < b.fewest → NodeFine w n false
  unfolding NodeFine node_fine degree_fine
  fine_few a s c k h m = sym (fails _ (λ t. let z : fewest (kind_at s.program n) ≤ degree s.program n = leb-true _ _ (and_left _ _ (and_left _ _ t)) in let y : ⊥ = omega (arith, fewest_is s c k h m, degree_is s c k h m) in y))

  pub fine_many : b.most < d → NodeFine w n false
  unfolding NodeFine node_fine degree_fine
  fine_many a s c k h m = sym (fails _ (λ t. let z : degree s.program n ≤ most (kind_at s.program n) = leb-true _ _ (and_right _ _ (and_left _ _ t)) in let y : ⊥ = omega (arith, most_is s c k h m, degree_is s c k h m) in y))

  module _ (a : b.fewest ≤ d) (e : d ≤ b.most) where
    -- An E or a C: its edges are `-`.
    pub fine_dashed : (l' : List ℕ) → l' ≡ links_of w → ◌⊎◌ (kind ≡ Entry) (kind ≡ Call) → (r : Bool) → Dashed l' n r → NodeFine w n r
    unfolding NodeFine node_fine Dashed ◌and◌ worded
    fine_dashed l' el' z r q s c k h m =
        let same_words : (u : Bytes) → worded (kind_at s.program n) u ≡ same u dash
        = λ u. ⊎_elim (λ y. ap (λ (t : Kind). worded t u) (sym (kind_is s c k h m) ∙ ap kind_meant y)) (λ y. ap (λ (t : Kind). worded t u) (sym (kind_is s c k h m) ∙ ap kind_meant y)) z in
        let f : degree_fine s.program n ≡ true = fine s c k h m a e in
        q s (subst (λ (x : List ℕ). Edges (in_table x) s) (sym el') (edges_of w c s k h)) m
        ∙ every_agree _ _ (edge_count s.program) (λ i b. ap (λ (t : Bool). eqb (source_at s.program i) n ⇒ t) (sym (same_words (word_at s.program i))))
        ∙ ap (λ (t : Bool). t and every (edge_count s.program) (λ e. eqb (source_at s.program e) n ⇒ worded (kind_at s.program n) (word_at s.program e))) (sym f)

    -- An S or an X asks nothing of its edges' words.
    pub fine_free : ◌⊎◌ (kind ≡ Step) (kind ≡ Exit) → NodeFine w n true
    unfolding NodeFine node_fine worded
    fine_free z s c k h m =
        sym (and_both (fine s c k h m a e) (every_of _ (edge_count s.program) (λ i b. implies _ _ (λ t.
        ⊎_elim (λ y. ap (λ (t : Kind). worded t (word_at s.program i)) (sym (kind_is s c k h m) ∙ ap kind_meant y)) (λ y. ap (λ (t : Kind). worded t (word_at s.program i)) (sym (kind_is s c k h m) ∙ ap kind_meant y)) z))))

pub ruleset fines = (fine_no_kind, fine_few, fine_many, fine_dashed, fine_free)

-- ---- `all_fine`

module _ (w : List ℕ) (first nodes : ℕ) where
  below_first : (s : Listing) (i : ℕ) → i < first → (leb first i ⇒ node_fine s.program i) ≡ true
  below_first s i l = implies _ _ (λ t. absurd (both_ways t (lt-leb first i (omega arith))))

  fine_none : nodes ≤ first → AllFine w first nodes true
  unfolding AllFine
  fine_none h s c k hs e = sym (every_of _ nodes (λ i l. below_first s i (omega arith)))

  pub fine_start : FineTo w first nodes first
  unfolding FineTo
  fine_start s c k h e = every_of _ first (λ i l. below_first s i l)

  pub fine_on : (n : ℕ) → FineTo w first nodes n → n < nodes → NodeFine w n true → FineTo w first nodes (n + 1)
  unfolding FineTo NodeFine
  fine_on n f l q s c k h e =
      every_of _ (n + 1) (λ i b.
      ⊎_elim (λ m. every_at (λ i. leb first i ⇒ node_fine s.program i) n (f s c k h e) i m)
      (λ (m : i ≡ n). implies _ _ (λ t. subst (λ (j : ℕ). node_fine s.program j ≡ true) (sym m) (sym (q s c k h (omega arith))))) (below_suc i n (omega arith)))

  pub fine_not : (n : ℕ) → first ≤ n → n < nodes → NodeFine w n false → AllFine w first nodes false
  unfolding AllFine NodeFine
  fine_not n a l q s c k h e =
      sym (fails _ (λ t. both_ways (implied _ _ (every_at (λ i. leb first i ⇒ node_fine s.program i) nodes t n l) (le-leb first n a)) (sym (q s c k h (omega arith)))))

  pub fine_end : (n : ℕ) → FineTo w first nodes n → (first ≤ nodes → n ≤ nodes) → nodes ≤ n → AllFine w first nodes true
  unfolding FineTo AllFine
  fine_end n f a b =
      below_or first nodes (λ h s c k hs e. let z : nodes ≡ n = omega (arith, a (omega arith)) in sym (ap (λ (m : ℕ). every m (λ i. leb first i ⇒ node_fine s.program i)) z ∙ f s c k hs e)) (λ h. fine_none h)

pub ruleset all_fines = (fine_start, fine_on, fine_not, fine_end)

-- A node test that passes.
pub fine_yes : (w : List ℕ) (n : ℕ) (r : Bool) → NodeFine w n r → r ≡ true → NodeFine w n true
fine_yes w n r q e = subst (NodeFine w n) e q

pub fine_no : (w : List ℕ) (n : ℕ) (r : Bool) → NodeFine w n r → r ≡ false → NodeFine w n false
fine_no w n r q e = subst (NodeFine w n) e q

-- ---- `complete`

module _ (w : List ℕ) (c : Count) (s : Listing) (k : Sound s.program) (h : Holds w c s) (some : 0 < proc_count s.program) where
  abbrev p : Program
  p = s.program

  first_is : of_current w c.procs 3 ≡ first_node p (current p)
  first_is = current_row w c s h some 3 (omega arith)

  -- Nodes of a kind in the procedure being read.
  kinds_counted : (t : Kind) → kind_count w (of_current w c.procs 3) c.nodes (kind_number t) ≡ count (node_count p) (is_of p (current p) t)
  unfolding kind_count is_of same_kind
  kinds_counted t =
      ap (λ (m : ℕ). count m (λ n. leb (of_current w c.procs 3) n and eqb (get_or w (4 * n) 0) (kind_number t))) h.nodes_n
      ∙ count_agree _ _ (node_count p) (λ n l.
      ap (λ (f : ℕ). leb f n and eqb (get_or w (4 * n) 0) (kind_number t)) first_is
      ∙ ap (λ (b : Bool). b and eqb (get_or w (4 * n) 0) (kind_number t)) (sym (is_current p k some n l))
      ∙ ap (λ (m : ℕ). eqb (owner_at p n) (current p) and eqb m (kind_number t)) (kind_at_lem w c s h n l))

  -- Its nodes' tests are those of its nodes and of its edges.
  fine_is : every c.nodes (λ i. leb (of_current w c.procs 3) i ⇒ node_fine p i)
      ≡ (every (node_count p) (λ n. eqb (owner_at p n) (current p) ⇒ degree_fine p n) and every (edge_count p) (λ e. eqb (owner_at p (source_at p e)) (current p) ⇒ worded (kind_at p (source_at p e)) (word_at p e)))
  unfolding node_fine
  fine_is =
      ap (λ (m : ℕ). every m (λ i. leb (of_current w c.procs 3) i ⇒ node_fine p i)) h.nodes_n
      ∙ every_agree _ _ (node_count p) (λ n l. ap (λ (f : ℕ). leb f n ⇒ node_fine p n) first_is ∙ ap (λ (b : Bool). b ⇒ node_fine p n) (sym (is_current p k some n l)))
      ∙ same_test _ _ (λ t. and_both (nodes_of t) (edges_are t)) there
    where
      nodes_of : every (node_count p) (λ n. eqb (owner_at p n) (current p) ⇒ node_fine p n) ≡ true → every (node_count p) (λ n. eqb (owner_at p n) (current p) ⇒ degree_fine p n) ≡ true
      nodes_of t = every_of _ (node_count p) (λ n l. implies _ _ (λ o. and_left _ _ (implied _ _ (every_at (λ n. eqb (owner_at p n) (current p) ⇒ node_fine p n) (node_count p) t n l) o)))

      edges_are : every (node_count p) (λ n. eqb (owner_at p n) (current p) ⇒ node_fine p n) ≡ true
          → every (edge_count p) (λ e. eqb (owner_at p (source_at p e)) (current p) ⇒ worded (kind_at p (source_at p e)) (word_at p e)) ≡ true
      edges_are t =
          every_of _ (edge_count p) (λ e l. implies _ _ (λ o.
          let a = and_right _ _ (implied _ _ (every_at (λ n. eqb (owner_at p n) (current p) ⇒ node_fine p n) (node_count p) t (source_at p e) (k.sources e l)) o) in
          implied _ _ (every_at (λ i. eqb (source_at p i) (source_at p e) ⇒ worded (kind_at p (source_at p e)) (word_at p i)) (edge_count p) a e l) (eq-eqb (source_at p e) (source_at p e) refl)))

      there : (every (node_count p) (λ n. eqb (owner_at p n) (current p) ⇒ degree_fine p n) and every (edge_count p) (λ e. eqb (owner_at p (source_at p e)) (current p) ⇒ worded (kind_at p (source_at p e)) (word_at p e))) ≡ true
          → every (node_count p) (λ n. eqb (owner_at p n) (current p) ⇒ node_fine p n) ≡ true
      there t =
          every_of _ (node_count p) (λ n l. implies _ _ (λ o.
          and_both (implied _ _ (every_at (λ n. eqb (owner_at p n) (current p) ⇒ degree_fine p n) (node_count p) (and_left _ _ t) n l) o)
          (every_of _ (edge_count p) (λ e b. implies _ _ (λ (q : eqb (source_at p e) n ≡ true).
          let z : source_at p e ≡ n = eqb-true _ _ q in
          subst (λ (m : ℕ). worded (kind_at p m) (word_at p e) ≡ true) z
          (implied _ _ (every_at (λ e. eqb (owner_at p (source_at p e)) (current p) ⇒ worded (kind_at p (source_at p e)) (word_at p e)) (edge_count p) (and_right _ _ t) e b)
          (subst (λ (m : ℕ). eqb (owner_at p m) (current p) ≡ true) (sym z) o)))))))

module _ (w : List ℕ) (c : Count) where
  pub entries_not : (current_3 n : ℕ) → current_3 ≡ of_current w c.procs 3 → n ≡ kind_count w current_3 c.nodes 0 → (n ≡ 1 → ⊥) → Completes w c false
  unfolding Completes complete
  entries_not f n ef en z s k h some =
      sym (fails _ (λ t. z (en ∙ ap (λ (f : ℕ). kind_count w f c.nodes 0) ef ∙ kinds_counted w c s k h some E ∙ eqb-true _ _ (and_left _ _ t))))

  pub exits_not : (f n : ℕ) → f ≡ of_current w c.procs 3 → n ≡ kind_count w f c.nodes 3 → (n ≡ 1 → ⊥) → Completes w c false
  unfolding Completes complete
  exits_not f n ef en z s k h some =
      sym (fails _ (λ t. z (en ∙ ap (λ (f : ℕ). kind_count w f c.nodes 3) ef ∙ kinds_counted w c s k h some X ∙ eqb-true _ _ (and_left _ _ (and_right _ _ t)))))

  pub complete_rest : (f n m : ℕ) (r : Bool) → f ≡ of_current w c.procs 3 → n ≡ kind_count w f c.nodes 0 → n ≡ 1 → m ≡ kind_count w f c.nodes 3 → m ≡ 1 → AllFine w f c.nodes r → Completes w c r
  unfolding Completes complete AllFine ◌and◌
  complete_rest f n m r ef en one em one' q s k h some =
      let a : eqb (count (node_count s.program) (is_of s.program (current s.program) E)) 1 ≡ true
      = eq-eqb _ _ (sym (kinds_counted w c s k h some E) ∙ ap (λ (f : ℕ). kind_count w f c.nodes 0) (sym ef) ∙ sym en ∙ one) in
      let b : eqb (count (node_count s.program) (is_of s.program (current s.program) X)) 1 ≡ true
      = eq-eqb _ _ (sym (kinds_counted w c s k h some X) ∙ ap (λ (f : ℕ). kind_count w f c.nodes 3) (sym ef) ∙ sym em ∙ one') in
      q s c k h h.nodes_n ∙ ap (λ (f : ℕ). every c.nodes (λ i. leb f i ⇒ node_fine s.program i)) ef ∙ fine_is w c s k h some ∙ rw (a, b)

pub ruleset completes = (entries_not, exits_not, complete_rest)
