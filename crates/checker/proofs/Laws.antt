-- The turns and the returns of the functions of the five rules, as `search` finds them: the premises are what the code holds there.
use mathlib.Core.Path.{◌≡◌, refl, sym, ap, ap₂, ◌∙◌, subst}
use mathlib.Core.Logic.{⊎_elim}
use mathlib.Core.Bool.{Bool, true, false, not}
use mathlib.Core.List.{List, []}
use Prim.Native.Nat.{ℕ, suc, ◌+◌, ◌-◌, ◌≤◌, ◌<◌}
use native.Mathlib.Numerals.{add-one}
use native.Mathlib.Omega.{arith}
use lib.ListN.{get_or, length}
use borrow.Author.Tests.{eq-eqb, eqb-true}
use Rattle.laws.specs.Tests.{◌and◌, ◌or◌, ◌⇒◌, all_pairs, every, has, isnt, listed, some?}
use Rattle.laws.specs.TestLaws.{and_both, and_left, and_right, both_ways, every_at, every_of, every_skip, fails, implied, implies, isnt_false, isnt_true, or_left, yes_and, passes?}
use Rattle.laws.specs.Chain.{Walk, latest, walk_end, walk_start, walk_step}
use Rattle.laws.specs.Bits.{bit_in}
use Rattle.std.specs.Prelude.{Option, Some, None}
use Rattle.std.specs.Fn.{FnReturns, Shared}
use Rattle.laws.specs.Places.{place}
use Rattle.rules.specs.Graph.{Program, callee_count, edge_count, edge_taken, node_count, source_at, target_at, word_at}
use Rattle.rules.specs.ProgramFile.{Listing}
use Rattle.rules.specs.Closing.{Coverage, alike, both_call, goes_on, kept_by, meets}
use Rattle.rules.specs.Sheet.{Sheet}
use Rattle.rules.specs.Check.{edge_kept, edges_kept, entered, entered_at, rule1, rule2, rule3, rule4, rule5}
use Rattle.graph.specs.Table.{edge_base, head_base, proc_base}
use Rattle.graph.specs.Reads.{up_to, up_to_le}
use Rattle.pairset.specs.Store.{Has, new_at, old_at}
use Rattle.pairset.specs.StoreLaws.{all_pairs_lem, listed_of}
use Rattle.coverage.specs.Rows.{row_meets}
use Rattle.coverage.specs.RowLaws.{meets_are}
use Rattle.versions.specs.Memory.{Memory}
use Rattle.versions.specs.MemoryLaws.{edges_chained, entry_is, sound, target_is, well_formed}
use Rattle.versions.specs.Claims.{Alike, Entered, GoesOn}
use Rattle.versions.specs.Opposite.{FindsBefore, LastOpposite, OppositeBefore, SoleOpposite, WordLost, opposite_at, opposite_below, opposites, side_at, side_of_lem, side_of}
use Rattle.checker.specs.Rules.{AllKept, AllPairs, Claimed, Covered, EdgeKept, EdgesKept, EndsListed, OppositesListed, PairKeeps, Rule1, Rule2, Rule3, Rule4, Rule5, TestKept, edge_allowed, opposites_listed}

-- ---- `rule1`

-- What the table of pairs answers, of the sheet's pairs.
listed_is : (v v' : Memory) (w sets : List ℕ) (m : ℕ) (o p : Listing) (s : Sheet) → Claimed v v' w sets m o p s → (a b : ℕ) (r : Bool) → Has w a b r → r ≡ listed s.M a b
unfolding Has
listed_is v v' w sets m o p s c a b r h = h m c.held.store ∙ ap (λ (l : List (ℕ × ℕ)). listed l a b) c.held.pairs_are

pub rule1_is : (v v' : Memory) (w : List ℕ) (a b : ℕ) (r : Bool) → a ≡ get_or v.links (proc_base 0 + 5) 0 → b ≡ get_or v'.links (proc_base 0 + 5) 0 → Has w a b r → Rule1 v v' w r
unfolding Rule1 rule1
rule1_is v v' w a b r ea eb h sets m o p s c =
    listed_is _ _ w sets m o p s c a b r h
    ∙ ap₂ (λ (x y : ℕ). listed s.M x y)
    (ea ∙ entry_is v o c.old_in 0 (well_formed v o c.old_in).begins)
    (eb ∙ entry_is v' p c.new_in 0 (well_formed v' p c.new_in).begins)

-- ---- `ends_listed`

pub ends_are : (v v' : Memory) (w : List ℕ) (e f a b : ℕ) (r : Bool) → a ≡ get_or v.links (edge_base e + 3) 0 → b ≡ get_or v'.links (edge_base f + 3) 0 → Has w a b r → EndsListed v v' w e f r
unfolding EndsListed
ends_are v v' w e f a b r ea eb h sets m o p s c i j =
    listed_is _ _ w sets m o p s c a b r h
    ∙ ap₂ (λ (x y : ℕ). listed s.M x y) (ea ∙ target_is v o c.old_in e i) (eb ∙ target_is v' p c.new_in f j)

-- ---- `opposites_listed`

-- The ends are listed for the opposite edges from the place on.
unfoldable pub ListedFrom : Memory → Memory → List ℕ → ℕ → ℕ → ℕ → Type 0
ListedFrom v v' w e last place =
    (sets : List ℕ) (m : ℕ) (o p : Listing) (s : Sheet) → Claimed v v' w sets m o p s → e < edge_count o.program
    → (k : ℕ) → last ≡ opposite_below o.program p.program e k (edge_count p.program)
    → Walk (λ f. listed s.M (target_at o.program e) (target_at p.program f) ≡ true) (side_of o.program p.program e k) 0 (edge_count p.program) place

module _ (v v' : Memory) (w : List ℕ) (e last : ℕ) where
  pub opposites_first : ListedFrom v v' w e last last
  unfolding ListedFrom
  opposites_first sets m o p s c i k h =
      subst (λ (x : ℕ). Walk (λ f. listed s.M (target_at o.program e) (target_at p.program f) ≡ true) (side_of o.program p.program e k) 0 (edge_count p.program) x) (sym h)
      (walk_start (opposites o.program p.program e k) 0 (omega arith))

  module _ (at : Option ℕ) (inv : ListedFrom v v' w e last (place at)) where
    pub opposites_last : at ≡ None → OppositesListed v v' w e last true
    unfolding OppositesListed ListedFrom opposites_listed opposite_at
    opposites_last z sets m o p s c i k h =
        sym (every_of (λ f. opposite_at o.program p.program e k f ⇒ listed s.M (target_at o.program e) (target_at p.program f)) (edge_count p.program)
        (λ f l.
        implies _ _ (λ q.
        walk_end (inv sets m o p s c i k h) (omega (arith, ap place z)) f l (side_of_lem o.program p.program e k f (eqb-true _ _ (and_left _ _ q)) (and_right _ _ q)))))

    module _ (f : ℕ) (t : Bool) (ea : at ≡ Some f) (et : EndsListed v v' w e f t) where
      pos : 0 < place at
      pos = omega (arith, ap place ea)

      ef : f ≡ place at - 1
      ef = omega (arith, ap place ea)

      -- The edge at the place is opposite, and the test says whether the ends are listed.
      opposite_place : (sets : List ℕ) (m : ℕ) (o p : Listing) (s : Sheet) → Claimed v v' w sets m o p s → e < edge_count o.program
          → (k : ℕ) → last ≡ opposite_below o.program p.program e k (edge_count p.program)
          → (f < edge_count p.program) × (side_of o.program p.program e k f ≡ 0) × (t ≡ listed s.M (target_at o.program e) (target_at p.program f))
      unfolding ListedFrom EndsListed
      opposite_place sets m o p s c i k h =
          let x = inv sets m o p s c i k h in
          let l : f < edge_count p.program = omega (arith, x.within, ef, pos) in
          (l, ap (side_of o.program p.program e k) ef ∙ x.owner pos, et sets m o p s c i l)

      pub opposites_broken : t ≡ false → OppositesListed v v' w e last false
      unfolding OppositesListed opposites_listed opposite_at
      opposites_broken z sets m o p s c i k h =
          let x = opposite_place sets m o p s c i k h in
          let y = side_at o.program p.program e k f x.1 in
          sym (fails _ (λ a.
          both_ways
          (x.2
          ∙ implied _ _
          (every_at (λ g. opposite_at o.program p.program e k g ⇒ listed s.M (target_at o.program e) (target_at p.program g)) (edge_count p.program) a f x.0)
          (and_both (eq-eqb _ _ y.0) y.1))
          z))

      pub opposites_on : (next : ℕ) → t ≡ true → OppositeBefore v.links v'.links e f next → ListedFrom v v' w e last next
      unfolding ListedFrom FindsBefore
      opposites_on next y en sets m o p s c i k h =
          let x = opposite_place sets m o p s c i k h in
          let key : ℕ → ℕ = side_of o.program p.program e k in
          let P : ℕ → Type 0 = λ g. listed s.M (target_at o.program e) (target_at p.program g) ≡ true in
          subst (λ (u : ℕ). Walk P key 0 (edge_count p.program) u)
          (ap (λ (u : ℕ). latest key (key u) u) (sym ef)
          ∙ ap (λ (u : ℕ). latest key u f) x.1
          ∙ sym (en.finds v.text v.nodes v'.text v'.nodes o p c.old_in c.new_in i x.0 k x.1))
          (walk_step (opposites o.program p.program e k) {P = P} {Q = P} (inv sets m o p s c i k h) pos (λ u q. q) (subst P ef (sym x.2 ∙ y)))

-- The walk leads down.
pub opposites_down : (v v' : Memory) (at : Option ℕ) (e f next : ℕ) → at ≡ Some f → OppositeBefore v.links v'.links e f next → next < place at
opposites_down v v' at e f next ea h = omega (arith, ap place ea, h.below)

pub ruleset listings = (ends_are, opposites_first, opposites_last, opposites_broken, opposites_on, opposites_down)

-- ---- `edge_kept`

module _ (v v' : Memory) (w sets : List ℕ) (e k : ℕ) (t : Bool) (et : t ≡ bit_in sets e) where
  -- The bit of the edge says whether it is listed under D.
  bit_listed : (m : ℕ) (o p : Listing) (s : Sheet) → Claimed v v' w sets m o p s → e < edge_count o.program → has s.D e ≡ t
  bit_listed m o p s c i = sym (et ∙ c.held.edges_are e (omega (arith, (sound v o c.old_in).few_edges)))

  pub kept_listed : t ≡ true → EdgeKept v v' w sets e k true
  unfolding EdgeKept edge_allowed
  kept_listed y m o p s c i j = sym (or_left _ (bit_listed m o p s c i ∙ y))

  module _ (n : t ≡ false) (last : ℕ) (el : LastOpposite v.links v'.links e k last) (x : Bool) (ex : WordLost v.links v'.links e k last x) where
    -- The two terms that are left: the new node takes an edge for the word, and the ends are listed for each opposite edge.
    allowed_is : (m : ℕ) (o p : Listing) (s : Sheet) → Claimed v v' w sets m o p s → e < edge_count o.program
        → edge_allowed o.program p.program s k e ≡ (some? (edge_taken p.program k (word_at o.program e)) and opposites_listed o.program p.program s k e)
    unfolding edge_allowed kept_by opposites_listed opposite_at ◌or◌
    allowed_is m o p s c i = ap (λ (b : Bool). b or kept_by o.program p.program (listed s.M) e k) (bit_listed m o p s c i ∙ n)

    lost_is : (m : ℕ) (o p : Listing) (s : Sheet) → Claimed v v' w sets m o p s → e < edge_count o.program → k < node_count p.program
        → isnt (some? (edge_taken p.program k (word_at o.program e))) ≡ x
    unfolding LastOpposite WordLost
    lost_is m o p s c i j = sym (ex v.text v.nodes v'.text v'.nodes o p c.old_in c.new_in i j (el v.text v.nodes v'.text v'.nodes o p c.old_in c.new_in i j))

    -- The new node takes no edge for the word.
    pub kept_lost : x ≡ true → EdgeKept v v' w sets e k false
    unfolding EdgeKept ◌and◌
    kept_lost y m o p s c i j =
        sym (allowed_is m o p s c i
        ∙ ap (λ (b : Bool). b and opposites_listed o.program p.program s k e) (isnt_true _ (lost_is m o p s c i j ∙ y)))

    -- It takes one: the ends decide.
    pub kept_ends : (r : Bool) → x ≡ false → OppositesListed v v' w e last r → EdgeKept v v' w sets e k r
    unfolding EdgeKept OppositesListed LastOpposite
    kept_ends r y h m o p s c i j =
        h sets m o p s c i k (el v.text v.nodes v'.text v'.nodes o p c.old_in c.new_in i j)
        ∙ sym (allowed_is m o p s c i ∙ yes_and _ (isnt_false _ (lost_is m o p s c i j ∙ y)))

  -- The only opposite edge decides alone.
  pub kept_sole : (f : ℕ) (r : Bool) → t ≡ false → SoleOpposite v.links v'.links e k (suc f) → EndsListed v v' w e f r → EdgeKept v v' w sets e k r
  unfolding SoleOpposite
  kept_sole f r n so h =
      let s = so (omega arith) in
      let q : f ≡ suc f - 1 = omega arith in
      let b : OppositeBefore v.links v'.links e f 0 = rw q s.before in
      let all : OppositesListed v v' w e (suc f) r
      = ⊎_elim
      (λ y. subst (OppositesListed v v' w e (suc f)) (sym y) (opposites_last v v' w e (suc f) None (opposites_on v v' w e (suc f) (Some f) (opposites_first v v' w e (suc f)) f r refl h 0 y b) refl))
      (λ y. subst (OppositesListed v v' w e (suc f)) (sym y) (opposites_broken v v' w e (suc f) (Some f) (opposites_first v v' w e (suc f)) f r refl h y)) (passes? r) in
      kept_ends n (suc f) s.last false s.kept r refl all

pub ruleset kept = (kept_listed, kept_lost, kept_ends, kept_sole)

-- ---- `all_kept`

-- The edges of the old node n from the place on are kept at the new node k.
unfoldable pub KeptFrom : Memory → Memory → List ℕ → List ℕ → ℕ → ℕ → ℕ → Type 0
KeptFrom v v' w sets n k place =
    (m : ℕ) (o p : Listing) (s : Sheet) → Claimed v v' w sets m o p s → n < node_count o.program → k < node_count p.program
    → Walk (λ e. edge_allowed o.program p.program s k e ≡ true) (source_at o.program) n (edge_count o.program) place

module _ (v v' : Memory) (w sets : List ℕ) (n k : ℕ) where
  pub walk_first : (first : ℕ) → first ≡ get_or v.links (head_base n) 0 → KeptFrom v v' w sets n k first
  unfolding KeptFrom
  walk_first first h m o p s c i j =
      subst (λ (x : ℕ). Walk (λ e. edge_allowed o.program p.program s k e ≡ true) (source_at o.program) n (edge_count o.program) x) (sym h)
      (walk_start (edges_chained v o c.old_in) n i)

  module _ (at : Option ℕ) (inv : KeptFrom v v' w sets n k (place at)) where
    pub walk_last : at ≡ None → AllKept v v' w sets n k true
    unfolding AllKept KeptFrom edge_kept edge_allowed
    walk_last z m o p s c i j =
        sym (every_of (edge_kept o.program p.program s n k) (edge_count o.program)
        (λ e l. implies _ _ (λ q. walk_end (inv m o p s c i j) (omega (arith, ap place z)) e l (eqb-true _ _ q))))

    module _ (e : ℕ) (t : Bool) (ea : at ≡ Some e) (et : EdgeKept v v' w sets e k t) where
      some_edge : 0 < place at
      some_edge = omega (arith, ap place ea)

      ee : e ≡ place at - 1
      ee = omega (arith, ap place ea)

      -- The edge at the place is one of the node, and the test says whether it is kept.
      at_place : (m : ℕ) (o p : Listing) (s : Sheet) → Claimed v v' w sets m o p s → n < node_count o.program → k < node_count p.program
          → (e < edge_count o.program) × (source_at o.program e ≡ n) × (t ≡ edge_allowed o.program p.program s k e)
      unfolding KeptFrom EdgeKept
      at_place m o p s c i j =
          let x = inv m o p s c i j in
          let l : e < edge_count o.program = omega (arith, x.within, ee, some_edge) in
          (l, ap (source_at o.program) ee ∙ x.owner some_edge, et m o p s c l j)

      pub walk_broken : t ≡ false → AllKept v v' w sets n k false
      unfolding AllKept edge_kept edge_allowed
      walk_broken f m o p s c i j =
          let x = at_place m o p s c i j in
          sym (fails _ (λ a.
          let y : edge_kept o.program p.program s n k e ≡ true = every_at (edge_kept o.program p.program s n k) (edge_count o.program) a e x.0 in
          both_ways (x.2 ∙ implied _ _ y (eq-eqb _ _ x.1)) f))

      pub walk_on : (next : ℕ) → t ≡ true → next ≡ up_to e (get_or v.links (edge_base e + 4) 0) → KeptFrom v v' w sets n k next
      unfolding KeptFrom
      walk_on next y en m o p s c i j =
          let x = at_place m o p s c i j in
          let P : ℕ → Type 0 = λ e. edge_allowed o.program p.program s k e ≡ true in
          subst (λ (u : ℕ). Walk P (source_at o.program) n (edge_count o.program) u)
          (sym (en ∙ ap (λ (u : ℕ). up_to u (get_or v.links (edge_base u + 4) 0)) ee))
          (walk_step (edges_chained v o c.old_in) {P = P} {Q = P} (inv m o p s c i j) some_edge (λ u q. q) (subst P ee (sym x.2 ∙ y)))

-- The walk leads down.
pub walk_down : (at : Option ℕ) (e next x : ℕ) → at ≡ Some e → next ≡ up_to e x → next < place at
walk_down at e next x ea en = omega (arith, ap place ea, en, up_to_le e x)

pub ruleset walks = (walk_first, walk_last, walk_broken, walk_on, walk_down)

-- ---- `edges_kept`

module _ (v v' : Memory) (w sets : List ℕ) (n k : ℕ) (t : Bool) (et : GoesOn v.nodes v.links v'.nodes v'.links w n k t) where
  goes_is : (m : ℕ) (o p : Listing) (s : Sheet) → Claimed v v' w sets m o p s → n < node_count o.program → k < node_count p.program
      → goes_on o.program p.program s.M n k ≡ t
  unfolding GoesOn
  goes_is m o p s c i j =
      sym (et v.text v'.text o p m c.old_in c.new_in c.held.store i j ∙ ap (λ (l : List (ℕ × ℕ)). goes_on o.program p.program l n k) c.held.pairs_are)

  pub edges_stop : t ≡ false → EdgesKept v v' w sets n k (not t)
  unfolding EdgesKept edges_kept ◌⇒◌
  edges_stop f m o p s c i j = ap not f ∙ sym (ap (λ (b : Bool). b ⇒ every (edge_count o.program) (edge_kept o.program p.program s n k)) (goes_is m o p s c i j ∙ f))

  pub edges_all : (r : Bool) → t ≡ true → AllKept v v' w sets n k r → EdgesKept v v' w sets n k r
  unfolding EdgesKept edges_kept AllKept ◌⇒◌
  edges_all r y h m o p s c i j =
      h m o p s c i j
      ∙ sym (ap (λ (b : Bool). b ⇒ every (edge_count o.program) (edge_kept o.program p.program s n k)) (goes_is m o p s c i j ∙ y))

pub ruleset edges = (edges_stop, edges_all)

-- ---- `rule2`, `rule3`, `rule4`

-- A rule of pairs, where the test f says of each pair whether it keeps it.
module _ {F : Type 0} (g : Shared F (ℕ × (ℕ × Unit {0})) Bool) (f : F) (w : List ℕ) (m : ℕ) (r : Bool) (kept : AllPairs g f w m r) (v v' : Memory) (sets : List ℕ) (R : Program → Program → Sheet → ℕ → ℕ → Bool)
    (says : (n k : ℕ) (t : Bool) → g.post f (n, (k, tt)) t → PairKeeps R v v' w sets n k t) where
  -- The test of the pair at i says what the rule says of it.
  here : (i : ℕ) (t : Bool) → i < m → FnReturns g f (old_at w i, (new_at w i, tt)) t → (o p : Listing) (s : Sheet) → Claimed v v' w sets m o p s → R o.program p.program s (old_at w i) (new_at w i) ≡ t
  unfolding PairKeeps
  here i t l a o p s c =
      let q = c.nodes (old_at w i) (new_at w i) (subst (λ (x : List (ℕ × ℕ)). listed x (old_at w i) (new_at w i) ≡ true) c.held.pairs_are (listed_of w (old_at w i) (new_at w i) m i l refl refl)) in
      sym (says (old_at w i) (new_at w i) t a.met m o p s c q.0 q.1)

  pub pairs_keep : (o p : Listing) (s : Sheet) → Claimed v v' w sets m o p s → r ≡ all_pairs (R o.program p.program s) s.M
  pairs_keep o p s c = go r kept ∙ sym by_index
    where
      -- The pairs of the sheet are those of the table.
      by_index : all_pairs (R o.program p.program s) s.M ≡ every m (λ j. R o.program p.program s (old_at w j) (new_at w j))
      by_index = ap (all_pairs (R o.program p.program s)) (sym c.held.pairs_are) ∙ all_pairs_lem w (R o.program p.program s) m

      go : (b : Bool) → AllPairs g f w m b → b ≡ every m (λ j. R o.program p.program s (old_at w j) (new_at w j))
      go true h = sym (every_of (λ j. R o.program p.program s (old_at w j) (new_at w j)) m (λ i l. here i true l (h i l) o p s c))
      go false h = sym (fails _ (λ a. both_ways (every_at (λ j. R o.program p.program s (old_at w j) (new_at w j)) m a h.0 h.1) (here h.0 false h.1 h.2 o p s c)))

module _ (v v' : Memory) (w sets : List ℕ) (n k : ℕ) (r : Bool) where
  pub pair_alike : Alike v v' n k r → PairKeeps (λ old new s. alike old new) v v' w sets n k r
  unfolding PairKeeps Alike
  pair_alike h m o p s c i j = h o p c.old_in c.new_in i j

  pub pair_entered : Entered v.nodes v.links v'.nodes v'.links w n k r → PairKeeps entered v v' w sets n k r
  unfolding PairKeeps Entered entered
  pair_entered h m o p s c i j =
      h v.text v'.text o p m c.old_in c.new_in c.held.store i j
      ∙ ap (λ (l : List (ℕ × ℕ)). both_call o.program p.program n k ⇒ every (callee_count o.program n) (entered_at o.program p.program l n k)) c.held.pairs_are

  pub pair_edges : EdgesKept v v' w sets n k r → PairKeeps edges_kept v v' w sets n k r
  unfolding PairKeeps EdgesKept
  pair_edges h m o p s c i j = h m o p s c i j

module _ {F : Type 0} (g : Shared F (ℕ × (ℕ × Unit {0})) Bool) (f : F) (w : List ℕ) (m : ℕ) (r : Bool) (kept : AllPairs g f w m r) (v v' : Memory) where
  pub all_alike : ((n k : ℕ) (t : Bool) → g.post f (n, (k, tt)) t → Alike v v' n k t) → Rule2 v v' w m r
  unfolding Rule2 rule2
  all_alike h sets o p s c = pairs_keep g f w m r kept v v' sets (λ old new s. alike old new) (λ n k t a. pair_alike v v' w sets n k t (h n k t a)) o p s c

  pub all_entered : ((n k : ℕ) (t : Bool) → g.post f (n, (k, tt)) t → Entered v.nodes v.links v'.nodes v'.links w n k t) → Rule3 v v' w m r
  unfolding Rule3 rule3
  all_entered h sets o p s c = pairs_keep g f w m r kept v v' sets entered (λ n k t a. pair_entered v v' w sets n k t (h n k t a)) o p s c

  pub all_edges : (sets : List ℕ) → ((n k : ℕ) (t : Bool) → g.post f (n, (k, tt)) t → EdgesKept v v' w sets n k t) → Rule4 v v' w m sets r
  unfolding Rule4 rule4
  all_edges sets h o p s c = pairs_keep g f w m r kept v v' sets edges_kept (λ n k t a. pair_edges v v' w sets n k t (h n k t a)) o p s c

-- ---- `test_kept`, `rule5`

module _ (rows sets : List ℕ) (i : ℕ) (x : Bool) (ex : x ≡ row_meets rows sets i) where
  -- The row meets the set just where the coverage holds a D edge.
  meets_is : (v v' : Memory) (w : List ℕ) (m count : ℕ) (o p : Listing) (s : Sheet) (coverages : List Coverage) → Claimed v v' w sets m o p s → Covered rows (edge_count o.program) count coverages → i < count
      → meets s.D (get_or coverages i []) ≡ x
  meets_is v v' w m count o p s coverages c d l =
      let few : edge_count o.program ≤ 1024 = (sound v o c.old_in).few_edges in
      sym (ex
      ∙ meets_are (edge_count o.program) rows i (get_or coverages i []) few (d.row i l) sets s.D (λ e h. c.held.edges_are e (omega arith)) c.edges)

  pub test_free : x ≡ false → TestKept rows sets i (not x)
  unfolding TestKept ◌⇒◌
  test_free z v v' w m count o p s coverages c d l =
      ap not z ∙ sym (ap (λ (b : Bool). b ⇒ has s.R i) (meets_is v v' w m count o p s coverages c d l ∙ z))

  pub test_listed : (r : Bool) → x ≡ true → i < 200 → r ≡ bit_in sets (1024 + i) → TestKept rows sets i r
  unfolding TestKept ◌⇒◌
  test_listed r h few e v v' w m count o p s coverages c d l =
      e ∙ c.held.tests_are i few
      ∙ sym (ap (λ (b : Bool). b ⇒ has s.R i) (meets_is v v' w m count o p s coverages c d l ∙ h))

-- The first i tests keep rule 5.
unfoldable pub TestsTo : List ℕ → ℕ → List ℕ → ℕ → Type 0
TestsTo rows count sets i =
    (v v' : Memory) (w : List ℕ) (m : ℕ) (o p : Listing) (s : Sheet) (coverages : List Coverage) → Claimed v v' w sets m o p s → Covered rows (edge_count o.program) count coverages
    → every i (λ j. meets s.D (get_or coverages j []) ⇒ has s.R j) ≡ true

module _ (rows : List ℕ) (count : ℕ) (sets : List ℕ) where
  pub tests_start : TestsTo rows count sets 0
  unfolding TestsTo every
  tests_start v v' w m o p s coverages c d = refl

  module _ (i : ℕ) (r : Bool) (l : i < count) (h : TestKept rows sets i r) where
    pub tests_broken : r ≡ false → Rule5 rows count sets false
    unfolding Rule5 TestKept rule5
    tests_broken f v v' w m o p s coverages c d =
        sym (fails _ (λ a.
        both_ways (every_at (λ j. meets s.D (get_or coverages j []) ⇒ has s.R j) (length coverages) a i (omega (arith, d.counted))) (sym (h v v' w m count o p s coverages c d l) ∙ f)))

    pub tests_on : TestsTo rows count sets i → r ≡ true → TestsTo rows count sets (i + 1)
    unfolding TestsTo TestKept
    tests_on inv y v v' w m o p s coverages c d =
        ap (λ (x : ℕ). every x (λ j. meets s.D (get_or coverages j []) ⇒ has s.R j)) (add-one i)
        ∙ every_skip (λ j. meets s.D (get_or coverages j []) ⇒ has s.R j) i (sym (h v v' w m count o p s coverages c d l) ∙ y)
        ∙ inv v v' w m o p s coverages c d

  pub tests_all : (i : ℕ) → TestsTo rows count sets i → i ≤ count → count ≤ i → Rule5 rows count sets true
  unfolding TestsTo Rule5 rule5
  tests_all i inv a b v v' w m o p s coverages c d =
      let q : i ≡ length coverages = omega (arith, d.counted) in
      sym (ap (λ (x : ℕ). every x (λ j. meets s.D (get_or coverages j []) ⇒ has s.R j)) (sym q) ∙ inv v v' w m o p s coverages c d)

pub ruleset tests = (test_free, test_listed, tests_start, tests_broken, tests_on, tests_all)
