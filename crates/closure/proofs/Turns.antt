-- The turns of the loops, and the returns of the functions over them, as `search` finds them: the premises are what the code holds there.
use mathlib.Core.Path.{◌≡◌, refl, sym, ap, ap₂, ◌∙◌, subst, subst₂}
use mathlib.Core.Logic.{⊎_elim}
use mathlib.Core.Bool.{Bool, true, false, false≢true}
use mathlib.Core.List.{List}
use Prim.Native.Nat.{ℕ, suc, ◌+◌, ◌-◌, ◌*◌, ◌/◌, ◌%◌, ◌≤◌, ◌<◌}
use native.Mathlib.Omega.{arith}
use borrow.Author.Tests.{eq-eqb, eqb-true, le-leb, lt-leb}
use lib.Dec.{eqb}
use lib.ListN.{length, get_or, replicate}
use Rattle.laws.specs.Tests.{listed}
use Rattle.laws.specs.TestLaws.{below_suc, both_ways, fails}
use Rattle.laws.specs.Lists.{choose_yes, choose_no}
use Rattle.laws.specs.Slices.{below_or, same_or}
use Rattle.laws.specs.Chain.{Walk, latest, walk_start, walk_step, walk_end}
use Rattle.rules.specs.Graph.{C, Program, called, edge_count, entry, exit, kind_at, kind_number, same_kind, source_at}
use Rattle.rules.specs.Closing.{MayGoOn, Pair, callee_entries, first_entries, pairs}
use Rattle.rules.specs.ProgramFile.{Listing}
use Rattle.rules.proofs.ClosingLaws.{alike_kind}
use Rattle.rules.proofs.Closure.{goes_on_at, goes_on_of, pair_alike}
use Rattle.rules.proofs.GraphLaws.{called_below, same_kind_true}
use Rattle.graph.specs.Table.{edge_base, head_base, node_base}
use Rattle.graph.specs.Reads.{up_to, up_to_le}
use Rattle.pairset.specs.Store.{Emptied, Empties, danger_in, new_at, old_at, pairs_in}
use Rattle.pairset.specs.StoreLaws.{listed_at, listed_of}
use Rattle.versions.specs.Memory.{InMemory, Memory}
use Rattle.versions.specs.MemoryLaws.{callees_are, edges_chained, kind_is}
use Rattle.versions.specs.Called.{CalleesAt, at_end, at_here, at_next, callee_is, fewer_callees}
use Rattle.versions.specs.Opposite.{FindsBefore, LastOpposite, OppositeBefore, SoleOpposite, opposites, side_at, side_of_lem, side_of}
use Rattle.versions.specs.Groups.{Groups, InGroups, Regrouped, grouped_none}
use Rattle.closure.specs.State.{AllDone, AllEntered, CallDone, CalleeDone, Claim, EachDone, EdgeDone, EdgesDone, EndsDone, Entered, Lasts, MetAt, MetTo, OnDone, PairDone, PairFollowed, State, Step, Turn}
use Rattle.closure.specs.Step.{done_lasts, edge_lasts, ends_lasts, entered_done, entered_lasts, entries_lasts, followed_lasts, lost_lasts, met_lasts, pair_inside, state_none, step_lasts, step_map, step_none, step_past, step_same, step_shows, step_then}
use Rattle.closure.specs.Full.{all_counted, all_dangers, all_same}
use Rattle.closure.specs.Claims.{AddsEntries, Closes, Enters, EntersCallee, EntersCallees, Finds, Follows, MarksLost, Passes, Sized, TriesEdge, TriesEnds, Visits}
use Rattle.closure.proofs.Laws.{edge_done, formed_in, lost_none}

-- ---- `try_edge`

-- At the place: the edges of m from it on that are opposite to e were tried.
pub record TriedTo (old new : Program) (limit : ℕ) (w₀ : List ℕ) (c₀ e m : ℕ) (w : List ℕ) (c place : ℕ) : Type 0 where
  pub step : Step old new limit w₀ c₀ (λ M _. M ≡ M) w c
  pub walk : Walk (λ f. c ≤ limit → EndsDone old new e f (pairs_in w c) (danger_in w)) (side_of old new e m) 0 (edge_count new) place

unfoldable pub Trying : Memory → Memory → List ℕ → ℕ → List ℕ → ℕ → ℕ → ℕ → List ℕ → ℕ → ℕ → Type 0
Trying a b t limit w₀ c₀ e m w c place =
    (o p : Listing) → InMemory a o → InGroups b t p → State o.program p.program limit w₀ c₀ → e < edge_count o.program
    → Pair o.program p.program (source_at o.program e) m → MayGoOn o.program p.program (source_at o.program e) m
    → TriedTo o.program p.program limit w₀ c₀ e m w c place

-- The walk goes down.
pub try_less : (ol nl : List ℕ) (e f r : ℕ) → OppositeBefore ol nl e f r → r ≤ f
try_less ol nl e f r q = q.below

module _ (mo mn : Memory) (groups : List ℕ) (limit : ℕ) (w₀ : List ℕ) (c₀ e m : ℕ) where
  pub try_start : (last : ℕ) → LastOpposite mo.links mn.links e m last → Sized w₀ w₀ (Trying mo mn groups limit w₀ c₀ e m w₀ c₀ last)
  unfolding Trying LastOpposite
  try_start last q =
      record {
        size = refl;
        claim = λ o p h g s i y z.
            let j = pair_inside (formed_in _ _ o p h g.memory) y in
            record {
              step = step_none s (λ _. refl);
              walk = rw (q mo.text mo.nodes mn.text mn.nodes o p h g.memory i j.1) (walk_start (opposites o.program p.program e m) 0 (omega arith));
            };
      }

  module _ (w : List ℕ) (c f : ℕ) (inv : Sized w₀ w (Trying mo mn groups limit w₀ c₀ e m w c (suc f))) (v : List ℕ) where
    -- The edge at the place leaves m and is opposite.
    own_side : (o p : Listing) → TriedTo o.program p.program limit w₀ c₀ e m w c (suc f) → side_of o.program p.program e m f ≡ 0
    own_side o p k = ap (side_of o.program p.program e m) (let d : f ≡ suc f - 1 = omega arith in d) ∙ k.walk.owner (omega arith)

    -- Rule 3 for it.
    tried_one : (r : ℕ) → Sized w v (TriesEnds mo mn groups limit w c e f v r) → (o p : Listing) → InMemory mo o → InGroups mn groups p → e < edge_count o.program
        → Pair o.program p.program (source_at o.program e) m → MayGoOn o.program p.program (source_at o.program e) m
        → TriedTo o.program p.program limit w₀ c₀ e m w c (suc f) → Step o.program p.program limit w c (EndsDone o.program p.program e f) v r
    unfolding TriesEnds
    tried_one r t o p h g i y z k =
        let side = side_at o.program p.program e m f (own_side o p k) in
        t.claim o p h g k.step.state i (omega (arith, k.walk.within)) side.1 (rw side.0 y) (rw side.0 z)

    pub try_on : (r x : ℕ) → Sized w v (TriesEnds mo mn groups limit w c e f v r) → OppositeBefore mo.links mn.links e f x
        → Sized w₀ v (Trying mo mn groups limit w₀ c₀ e m v r x)
    unfolding Trying Lasts FindsBefore
    try_on r x t q =
        record {
          size = t.size ∙ inv.size;
          claim = λ o p h g s i y z.
              let k = inv.claim o p h g s i y z in
              let own = own_side o p k in
              let d : f ≡ suc f - 1 = omega arith in
              let j = tried_one r t o p h g i y z k in
              let next : x ≡ latest (side_of o.program p.program e m) (side_of o.program p.program e m (suc f - 1)) (suc f - 1)
              = q.finds mo.text mo.nodes mn.text mn.nodes o p h g.memory i (omega (arith, k.walk.within)) m own
              ∙ ap₂ (latest (side_of o.program p.program e m)) (sym (k.walk.owner (omega arith))) d in
              record {
                step = step_then (λ M S N T _ _. refl) k.step j (λ _ _. refl);
                walk = rw next
                    (walk_step (opposites o.program p.program e m) {Q = λ f. r ≤ limit → EndsDone o.program p.program e f (pairs_in v r) (danger_in v)} k.walk (omega arith)
                    (λ f u b. step_lasts j _ (ends_lasts o.program p.program e f) b (u (omega (arith, j.more))))
                    (rw (← d) j.done));
              };
        }

    -- There are more pairs than the limit.
    tried_past : Sized w v (TriesEnds mo mn groups limit w c e f v (suc limit)) → (o p : Listing) → InMemory mo o → InGroups mn groups p → State o.program p.program limit w₀ c₀
        → e < edge_count o.program → Pair o.program p.program (source_at o.program e) m → MayGoOn o.program p.program (source_at o.program e) m
        → Step o.program p.program limit w₀ c₀ (λ M _. M ≡ M) v (suc limit)
    unfolding Trying Lasts
    tried_past t o p h g s i y z =
        let k = inv.claim o p h g s i y z in
        step_then (λ M S N T _ _. refl) k.step (tried_one (suc limit) t o p h g i y z k) (λ _ _. refl)

  pub try_end : (u w : List ℕ) (c last : ℕ) → LastOpposite mo.links mn.links e m last → Sized w₀ u (MarksLost mo mn w₀ e m last u)
      → Sized u w (Trying mo mn groups limit u c₀ e m w c 0) → Sized w₀ w (TriesEdge mo mn groups limit w₀ c₀ e m w c)
  unfolding Trying TriesEdge MarksLost LastOpposite
  try_end u w c last q lost inv =
      record {
        size = inv.size ∙ lost.size;
        claim = λ o p h g s i y x.
            let j = pair_inside (formed_in _ _ o p h g.memory) y in
            let a = lost.claim o p h g.memory limit c₀ s i y x (q mo.text mo.nodes mn.text mn.nodes o p h g.memory i j.1) in
            let b = inv.claim o p h g a.state i y x in
            step_then (lost_lasts o.program p.program e m) a
            (step_shows b.step {E = λ M S. (f : ℕ) → f < edge_count p.program → side_of o.program p.program e m f ≡ 0 → EndsDone o.program p.program e f M S}
            (λ few f l own. walk_end b.walk (omega arith) f l own few))
            (λ t each. edge_done o.program p.program e m _ _ t (λ f l own k. each f l (side_of_lem o.program p.program e m f own k)));
      }

-- The same in the middle of the walk.
module _ (mo mn : Memory) (groups : List ℕ) (limit : ℕ) (w₀ : List ℕ) (c₀ e m : ℕ) where
  pub try_past : (u w : List ℕ) (c last f : ℕ) (v : List ℕ) → LastOpposite mo.links mn.links e m last → Sized w₀ u (MarksLost mo mn w₀ e m last u)
      → Sized u w (Trying mo mn groups limit u c₀ e m w c (suc f)) → Sized w v (TriesEnds mo mn groups limit w c e f v (suc limit))
      → Sized w₀ v (TriesEdge mo mn groups limit w₀ c₀ e m v (suc limit))
  unfolding TriesEdge MarksLost LastOpposite
  try_past u w c last f v q lost inv t =
      record {
        size = t.size ∙ inv.size ∙ lost.size;
        claim = λ o p h g s i y x.
            let j = pair_inside (formed_in _ _ o p h g.memory) y in
            let a = lost.claim o p h g.memory limit c₀ s i y x (q mo.text mo.nodes mn.text mn.nodes o p h g.memory i j.1) in
            step_past (step_then {F = λ M _. M ≡ M} (lost_lasts o.program p.program e m) a (tried_past mo mn groups limit u c₀ e m w c f inv v t o p h g a.state i y x) (λ _ _. refl));
      }

  -- The only opposite edge is one turn of such a walk.
  pub try_sole : (f : ℕ) (v : List ℕ) (r : ℕ) → SoleOpposite mo.links mn.links e m (suc f)
      → Sized w₀ v (TriesEnds mo mn groups limit w₀ c₀ e f v r) → Sized w₀ v (TriesEdge mo mn groups limit w₀ c₀ e m v r)
  unfolding SoleOpposite
  try_sole f v r so t =
      let s = so (omega arith) in
      let d : suc f - 1 ≡ f = omega arith in
      let b : OppositeBefore mo.links mn.links e f 0 = subst (λ (f : ℕ). OppositeBefore mo.links mn.links e f 0) d s.before in
      try_end mo mn groups limit w₀ c₀ e m w₀ v r (suc f) s.last (lost_none mo mn w₀ e m (suc f) s.kept)
      (try_on mo mn groups limit w₀ c₀ e m w₀ c₀ f (try_start mo mn groups limit w₀ c₀ e m (suc f) s.last) v r 0 t b)

pub ruleset tries = (try_less, try_start, try_on, try_past, try_end)

pub ruleset soles = (try_sole)

-- ---- `follow`

-- At the place: the edges of n from it on were tried.
pub record FollowedTo (old new : Program) (limit : ℕ) (w₀ : List ℕ) (c₀ n m : ℕ) (w : List ℕ) (c place : ℕ) : Type 0 where
  pub step : Step old new limit w₀ c₀ (λ M _. M ≡ M) w c
  pub walk : Walk (λ e. c ≤ limit → EdgeDone old new e m (pairs_in w c) (danger_in w)) (source_at old) n (edge_count old) place

unfoldable pub Following : Memory → Memory → List ℕ → ℕ → List ℕ → ℕ → ℕ → ℕ → List ℕ → ℕ → ℕ → Type 0
Following a b t limit w₀ c₀ n m w c place =
    (o p : Listing) → InMemory a o → InGroups b t p → State o.program p.program limit w₀ c₀ → Pair o.program p.program n m → MayGoOn o.program p.program n m
    → FollowedTo o.program p.program limit w₀ c₀ n m w c place

module _ (mo mn : Memory) (groups : List ℕ) (limit : ℕ) (w₀ : List ℕ) (c₀ n m : ℕ) where
  pub follow_start : Sized w₀ w₀ (Following mo mn groups limit w₀ c₀ n m w₀ c₀ (get_or mo.links (head_base n) 0))
  unfolding Following
  follow_start =
      record {
        size = refl;
        claim = λ o p h g s y z.
            let i = pair_inside (formed_in _ _ o p h g.memory) y in
            record { step = step_none s (λ _. refl); walk = walk_start (edges_chained mo o h) n i.0 };
      }

  module _ (w : List ℕ) (c e : ℕ) (inv : Sized w₀ w (Following mo mn groups limit w₀ c₀ n m w c (suc e))) (v : List ℕ) where
    -- Rule 3 for the edge at the place.
    followed_one : (r : ℕ) → Sized w v (TriesEdge mo mn groups limit w c e m v r) → (o p : Listing) → InMemory mo o → InGroups mn groups p → Pair o.program p.program n m
        → MayGoOn o.program p.program n m → FollowedTo o.program p.program limit w₀ c₀ n m w c (suc e) → Step o.program p.program limit w c (EdgeDone o.program p.program e m) v r
    unfolding TriesEdge
    followed_one r t o p h g y z i =
        let own : source_at o.program e ≡ n = ap (source_at o.program) (let d : e ≡ suc e - 1 = omega arith in d) ∙ i.walk.owner (omega arith) in
        t.claim o p h g i.step.state (omega (arith, i.walk.within)) (rw own y) (rw own z)

    pub follow_on : (r : ℕ) → Sized w v (TriesEdge mo mn groups limit w c e m v r)
        → Sized w₀ v (Following mo mn groups limit w₀ c₀ n m v r (up_to e (get_or mo.links (edge_base e + 4) 0)))
    unfolding Following Lasts
    follow_on r t =
        record {
          size = t.size ∙ inv.size;
          claim = λ o p h g s y z.
              let i = inv.claim o p h g s y z in
              let d : e ≡ suc e - 1 = omega arith in
              let j = followed_one r t o p h g y z i in
              record {
                step = step_then (λ M S N T _ _. refl) i.step j (λ _ _. refl);
                walk = rw d
                    (walk_step (edges_chained mo o h) {Q = λ f. r ≤ limit → EdgeDone o.program p.program f m (pairs_in v r) (danger_in v)} i.walk (omega arith)
                    (λ f u b. step_lasts j _ (edge_lasts o.program p.program f m) b (u (omega (arith, j.more))))
                    (rw (← d) j.done));
              };
        }

    -- There are more pairs than the limit.
    pub follow_past : Sized w v (TriesEdge mo mn groups limit w c e m v (suc limit)) → Sized w₀ v (Follows mo mn groups limit w₀ c₀ n m v (suc limit))
    unfolding Following Follows Lasts
    follow_past t =
        record {
          size = t.size ∙ inv.size;
          claim = λ o p h g s y z.
              let i = inv.claim o p h g s y z in
              step_past (step_then {F = λ M _. M ≡ M} (λ M S N T _ _. refl) i.step (followed_one (suc limit) t o p h g y z i) (λ _ _. refl));
        }

  pub follow_end : (w : List ℕ) (c : ℕ) → Sized w₀ w (Following mo mn groups limit w₀ c₀ n m w c 0) → Sized w₀ w (Follows mo mn groups limit w₀ c₀ n m w c)
  unfolding Following Follows EdgesDone
  follow_end w c inv =
      record {
        size = inv.size;
        claim = λ o p h g s y z.
            let i = inv.claim o p h g s y z in
            step_shows i.step (λ b e k own. walk_end i.walk (omega arith) e k own b);
      }

pub ruleset follows = (up_to_le, follow_start, follow_on, follow_past, follow_end)

-- ---- `enter_callees`, `enter`

-- The first i callees of the pair (n, m) were entered and their exits are pairs; a and b have those left.
pub record EnteredTo (o p : Listing) (limit : ℕ) (w₀ : List ℕ) (c₀ n m : ℕ) (w : List ℕ) (c a b : ℕ) : Type 0 where
  pub first : ℕ
  pub left : CalleesAt o p n m first a b
  pub step : Step o.program p.program limit w₀ c₀ (MetTo o.program p.program n m first) w c

unfoldable pub Entering : Memory → Memory → ℕ → List ℕ → ℕ → ℕ → ℕ → List ℕ → ℕ → ℕ → ℕ → Type 0
Entering mo mn limit w₀ c₀ k l w c a b =
    (o p : Listing) → InMemory mo o → InMemory mn p → State o.program p.program limit w₀ c₀
    → (n m : ℕ) → Pair o.program p.program n m → CalleesAt o p n m 0 k l → EnteredTo o p limit w₀ c₀ n m w c a b

module _ (mo mn : Memory) (limit : ℕ) (w₀ : List ℕ) (c₀ k l : ℕ) where
  pub enter_start : Sized w₀ w₀ (Entering mo mn limit w₀ c₀ k l w₀ c₀ k l)
  unfolding Entering MetTo
  enter_start =
      record {
        size = refl;
        claim = λ o p h g s n m y at. record { first = 0; left = at; step = step_none s (λ _ j i. absurd (let z : ⊥ = omega arith in z)) };
      }

  module _ (w : List ℕ) (c a b : ℕ) (inv : Sized w₀ w (Entering mo mn limit w₀ c₀ k l w c a b)) where
    -- All callees were entered, and all exits are pairs.
    pub enter_all : a ≤ 0 → Sized w₀ w (EntersCallees mo mn limit w₀ c₀ k l w c true)
    unfolding Entering EntersCallees MetTo CallDone AllEntered
    enter_all z =
        record {
          size = inv.size;
          claim = λ o p h g s n m y at.
              let e = inv.claim o p h g s n m y at in
              let all = at_end h g e.left z in
              step_map
              (λ t.
              let met = subst (λ (i : ℕ). MetTo o.program p.program n m i (pairs_in w c) (danger_in w)) all t in
              record {
                call = λ _ _ i u _. (met i u).0;
                goes = goes_on_of o.program p.program (pairs_in w c) n m (λ _ j u. (met j u).1);
                all = λ _ _ i u. (met i u).0;
              })
              e.step;
        }

    module _ (v : List ℕ) (r : ℕ) (t : Bool) (pos : 0 < a) (one : Sized w v (EntersCallee mo mn limit w c (a % 256 - 1) (b % 256 - 1) v r t)) where
      -- The callees at the place: their entries are a pair, as the exits of those before are.
      entered_one : (o p : Listing) → InMemory mo o → InMemory mn p → (n m : ℕ) → Pair o.program p.program n m
          → (e : EnteredTo o p limit w₀ c₀ n m w c a b)
          → Step o.program p.program limit w c (CalleeDone o.program p.program (called o.program n e.first) (called p.program m e.first) t) v r
      unfolding EntersCallee MetTo
      entered_one o p h g n m y e =
          let f = formed_in _ _ o p h g in
          let d : a % 256 - 1 ≡ called o.program n e.first = callee_is mo.text mo.nodes mo.links o h n e.first a e.left.old_from (a % 256 - 1) refl in
          let d' : b % 256 - 1 ≡ called p.program m e.first = callee_is mn.text mn.nodes mn.links p g m e.first b e.left.new_from (b % 256 - 1) refl in
          let km : kind_at p.program m ≡ C = alike_kind o.program p.program n m (pair_alike o.program p.program f.old_formed f.new_formed y) ∙ e.left.call in
          subst₂ (λ (i j : ℕ). Step o.program p.program limit w c (CalleeDone o.program p.program i j t) v r) d d'
          (one.claim o p h g e.step.state
          (rw d (called_below o.program f.old_formed n e.first))
          (rw d' (called_below p.program f.new_formed m e.first))
          (λ few. rw (d, d') (callee_entries y e.left.call km e.first (at_here h g e.left pos) (λ j u. (e.step.state.kept few).sound _ _ (e.step.done few j u).1))))

      pub enter_on : t ≡ true → Sized w₀ v (Entering mo mn limit w₀ c₀ k l v r (a / 256) (b / 256))
      unfolding Entering MetTo CalleeDone
      enter_on z =
          record {
            size = one.size ∙ inv.size;
            claim = λ o p h g s n m y at.
                let e = inv.claim o p h g s n m y at in
                record {
                  first = suc e.first;
                  left = at_next h g e.left pos;
                  step = step_then (met_lasts o.program p.program n m e.first) e.step (entered_one o p h g n m y e)
                      (λ met new j u.
                      ⊎_elim (λ (i : j < e.first). met j i)
                      (λ (i : j ≡ e.first). subst (MetAt o.program p.program n m (pairs_in v r)) (sym i) (new.0, sym new.1 ∙ z))
                      (below_suc j e.first u));
                };
          }

      -- The exits are no pair: no callee behind them comes in, and the pair does not go on.
      pub enter_stop : t ≡ false → Sized w₀ v (EntersCallees mo mn limit w₀ c₀ k l v r false)
      unfolding Entering EntersCallees MetTo CalleeDone CallDone
      enter_stop z =
          record {
            size = one.size ∙ inv.size;
            claim = λ o p h g s n m y at.
                let e = inv.claim o p h g s n m y at in
                step_then (met_lasts o.program p.program n m e.first) e.step (entered_one o p h g n m y e)
                (λ met new.
                let off : listed (pairs_in v r) (exit o.program (called o.program n e.first)) (exit p.program (called p.program m e.first)) ≡ false
                = sym new.1 ∙ z in
                record {
                  call = λ _ _ i u x.
                      below_or i e.first (λ d. (met i d).0)
                      (λ d.
                      below_or e.first i (λ f. absurd (both_ways (x e.first f) off))
                      (λ f.
                      let same : e.first ≡ i = omega arith in
                      subst (λ (i : ℕ). listed (pairs_in v r) (entry o.program (called o.program n i)) (entry p.program (called p.program m i)) ≡ true) same new.0));
                  goes = fails _ (λ f. both_ways (goes_on_at o.program p.program (pairs_in v r) n m f e.left.call e.first (at_here h g e.left pos)) off);
                  all = λ f. absurd (false≢true f);
                });
          }

      -- There are more pairs than the limit.
      pub enter_past : r ≡ suc limit → Sized w₀ v (EntersCallees mo mn limit w₀ c₀ k l v (suc limit) true)
      unfolding Entering EntersCallees Lasts
      enter_past z =
          record {
            size = one.size ∙ inv.size;
            claim = λ o p h g s n m y at.
                let e = inv.claim o p h g s n m y at in
                step_past (rw z at (step_then {F = λ M _. M ≡ M} (met_lasts o.program p.program n m e.first) e.step (entered_one o p h g n m y e) (λ _ _. refl)));
          }

module _ (mo mn : Memory) (limit : ℕ) (w : List ℕ) (c n m : ℕ) where
  -- No call: it goes on.
  pub enter_none : eqb (get_or mo.nodes (node_base n) 0) 2 ≡ false → Sized w w (Enters mo mn limit w c n m w c true)
  unfolding Enters CallDone AllEntered
  enter_none d =
      record {
        size = refl;
        claim = λ o p h g s y.
            let i = pair_inside (formed_in _ _ o p h g) y in
            let no_call : kind_at o.program n ≡ C → ⊥ = λ e. both_ways (eq-eqb _ _ (kind_is _ o h n i.0 ∙ ap kind_number e)) d in
            step_none s (λ _. record {
              call = λ e. absurd (no_call e);
              goes = goes_on_of o.program p.program (pairs_in w c) n m (λ e. absurd (no_call e));
              all = λ _ e. absurd (no_call e);
            });
      }

  pub enter_call : (v : List ℕ) (r : ℕ) (z : Bool) → eqb (get_or mo.nodes (node_base n) 0) 2 ≡ true
      → Sized w v (EntersCallees mo mn limit w c (get_or mo.nodes (node_base n + 3) 0) (get_or mn.nodes (node_base m + 3) 0) v r z) → Sized w v (Enters mo mn limit w c n m v r z)
  unfolding Enters EntersCallees same_kind
  enter_call v r z d x =
      record {
        size = x.size;
        claim = λ o p h g s y.
            let i = pair_inside (formed_in _ _ o p h g) y in
            x.claim o p h g s n m y
            (record {
              old_node = i.0;
              call = same_kind_true (kind_at o.program n) C (eq-eqb _ _ (sym (kind_is _ o h n i.0) ∙ eqb-true _ _ d));
              within = omega arith;
              old_from = callees_are _ o h n i.0;
              new_from = callees_are _ p g m i.1;
            });
      }

pub ruleset enters = (fewer_callees, enter_start, enter_all, enter_on, enter_stop, enter_past)

pub ruleset calls = (enter_none, enter_call)

-- ---- `visit`

module _ (mo mn : Memory) (groups : List ℕ) (limit : ℕ) (w : List ℕ) (c x : ℕ) (u : List ℕ) (k : ℕ) (t : Bool) (entered : Sized w u (Enters mo mn limit w c (old_at w x) (new_at w x) u k t)) where
  -- Rule 2, then what is shown from there.
  visit_turn : (v : List ℕ) (r : ℕ) (z : Bool) → length v ≡ length u
      → ((o p : Listing) → InMemory mo o → InGroups mn groups p → Pair o.program p.program (old_at w x) (new_at w x)
      → Step o.program p.program limit w c (Entered o.program p.program (old_at w x) (new_at w x) t) u k
      → Turn o.program p.program limit w c (PairFollowed o.program p.program (old_at w x) (new_at w x)) (PairDone o.program p.program (old_at w x) (new_at w x)) v r z)
      → Sized w v (Visits mo mn groups limit w c x v r z)
  unfolding Enters Visits
  visit_turn v r z size turn =
      record {
        size = size ∙ entered.size;
        claim = λ o p h g s few l.
            let pair : Pair o.program p.program (old_at w x) (new_at w x) = (s.kept few).sound _ _ (listed_of w (old_at w x) (new_at w x) c x l refl refl) in
            turn o p h g pair (entered.claim o p h g.memory s pair);
      }

  pub visit_past : k ≡ suc limit → Sized w u (Visits mo mn groups limit w c x u (suc limit) true)
  visit_past e =
      visit_turn u (suc limit) true refl
      (λ o p h g y i. record { step = step_past (rw e at i); still = λ _ b. absurd (let z : ⊥ = omega arith in z) })

  pub visit_wait : t ≡ false → Sized w u (Visits mo mn groups limit w c x u k t)
  unfolding OnDone
  visit_wait f =
      visit_turn u k t refl
      (λ o p h g y i. record {
        step = step_map (λ _ z. absurd (both_ways z f)) i;
        still = λ _ b. record { call = (i.done b).call; on = λ z. absurd (both_ways z ((i.done b).goes ∙ f)) };
      })

  pub visit_on : (v : List ℕ) (r : ℕ) → t ≡ true → k ≤ limit → Sized u v (Follows mo mn groups limit u k (old_at w x) (new_at w x) v r)
      → Sized w v (Visits mo mn groups limit w c x v r true)
  unfolding Follows OnDone
  visit_on v r f few q =
      visit_turn v r true q.size
      (λ o p h g y i.
      let met = i.done few in
      let n = old_at w x in
      let m = new_at w x in
      let a = q.claim o p h g i.state y (λ z j b. (i.state.kept few).sound _ _ (goes_on_at o.program p.program (pairs_in u k) n m (met.goes ∙ f) z j b)) in
      let all : Step o.program p.program limit w c (PairFollowed o.program p.program n m) v r
      = step_then (entered_lasts o.program p.program n m) (step_map (λ z. z.all f) i) a (λ b z. record { call = b; edges = z }) in
      record {
        step = step_map (λ z _. z) all;
        still = λ _ b. let z = all.done b in record { call = entered_done o.program p.program n m _ _ z.call; on = λ _. z.edges };
      })

pub ruleset visits = (visit_past, visit_wait, visit_on)

-- ---- `pass`

-- Rules 2 and 3 for each pair of the table.
unfoldable VisitsAll : Memory → Memory → List ℕ → ℕ → List ℕ → ℕ → List ℕ → ℕ → Bool → Type 0
VisitsAll a b t limit w c v r settled =
    (o p : Listing) → InMemory a o → InGroups b t p → State o.program p.program limit w c
    → Turn o.program p.program limit w c (EachDone o.program p.program) (EachDone o.program p.program) v r settled

-- The pairs before x have P.
unfoldable pub Seen : (ℕ → ℕ → Claim) → List ℕ → ℕ → ℕ → Type 0
Seen P w c x = (k : ℕ) → k < x → k < c → P (old_at w k) (new_at w k) (pairs_in w c) (danger_in w)

-- The pairs before x were visited.
pub record VisitedTo (old new : Program) (limit : ℕ) (w₀ : List ℕ) (c₀ : ℕ) (w : List ℕ) (c : ℕ) (z : Bool) (x : ℕ) : Type 0 where
  pub step : Step old new limit w₀ c₀ (λ M _. M ≡ M) w c
  pub followed : z ≡ true → c ≤ limit → Seen (PairFollowed old new) w c x
  pub still : c ≡ c₀ → c ≤ limit → Seen (PairDone old new) w c x

unfoldable pub Visiting : Memory → Memory → List ℕ → ℕ → List ℕ → ℕ → List ℕ → ℕ → Bool → ℕ → Type 0
Visiting a b t limit w₀ c₀ w c z x =
    (o p : Listing) → InMemory a o → InGroups b t p → State o.program p.program limit w₀ c₀ → VisitedTo o.program p.program limit w₀ c₀ w c z x

-- One pair more, where P of a pair passes on to list and set then.
seen_more : (P : ℕ → ℕ → Claim) (w v : List ℕ) (c r x : ℕ) → x < c → ((k : ℕ) → k < c → (old_at v k ≡ old_at w k) × (new_at v k ≡ new_at w k))
    → ((a b : ℕ) → P a b (pairs_in w c) (danger_in w) → P a b (pairs_in v r) (danger_in v)) → Seen P w c x → P (old_at w x) (new_at w x) (pairs_in v r) (danger_in v) → Seen P v r (x + 1)
unfolding Seen
seen_more P w v c r x l keeps f d t k kx kr =
    let q = keeps k (omega arith) in
    let i = keeps x l in
    same_or k x
    (λ e. subst (λ (j : ℕ). P (old_at v j) (new_at v j) (pairs_in v r) (danger_in v)) (sym e) (rw (i.0, i.1) t))
    (λ e. rw (q.0, q.1) (f _ _ (d k (omega arith) (omega arith))))

-- All pairs.
seen_all : (old new : Program) (w : List ℕ) (c x : ℕ) → c ≤ x → Seen (PairDone old new) w c x → EachDone old new (pairs_in w c) (danger_in w)
unfolding Seen EachDone
seen_all old new w c x l d n m t =
    let k = listed_at w n m c t in
    subst₂ (λ (a b : ℕ). PairDone old new a b (pairs_in w c) (danger_in w)) k.2 k.3 (d k.0 (omega (arith, k.1)) k.1)

followed_done : (old new : Program) (w : List ℕ) (c x : ℕ) → Seen (PairFollowed old new) w c x → Seen (PairDone old new) w c x
unfolding Seen OnDone
followed_done old new w c x d k kx kc = record { call = entered_done old new _ _ _ _ (d k kx kc).call; on = λ _. (d k kx kc).edges }

module _ (a b : Memory) (t : List ℕ) (limit : ℕ) (w₀ : List ℕ) (c₀ : ℕ) where
  pub all_start : Sized w₀ w₀ (Visiting a b t limit w₀ c₀ w₀ c₀ true 0)
  unfolding Visiting Seen
  all_start =
      record {
        size = refl;
        claim = λ o p h g s.
            record {
              step = step_none s (λ _. refl);
              followed = λ _ _ k l. absurd (let z : ⊥ = omega arith in z);
              still = λ _ _ k l. absurd (let z : ⊥ = omega arith in z);
            };
      }

  module _ (w : List ℕ) (c : ℕ) (z : Bool) (x : ℕ) (inv : Sized w₀ w (Visiting a b t limit w₀ c₀ w c z x)) where
    -- One pair more. It is settled only if it was, and the pair did not wait.
    all_next : (v : List ℕ) (r : ℕ) (z' all : Bool) → (all ≡ true → (z ≡ true) × (z' ≡ true)) → x < c → c ≤ limit → Sized w v (Visits a b t limit w c x v r z')
        → Sized w₀ v (Visiting a b t limit w₀ c₀ v r all (x + 1))
    unfolding Visiting Visits Lasts
    all_next v r z' all both l few y =
        record {
          size = y.size ∙ inv.size;
          claim = λ o p h g s.
              let i = inv.claim o p h g s in
              let j = y.claim o p h g i.step.state few l in
              record {
                step = step_then (λ M S N T _ _. refl) i.step j.step (λ _ _. refl);
                followed = λ e k.
                    seen_more (PairFollowed o.program p.program) w v c r x l (j.step.keeps k)
                    (λ n m. step_lasts j.step _ (followed_lasts o.program p.program n m) k)
                    (i.followed (both e).0 few) (j.step.done k (both e).1);
                still = λ e k.
                    let rc : r ≡ c = omega (arith, i.step.more, j.step.more) in
                    seen_more (PairDone o.program p.program) w v c r x l (j.step.keeps k)
                    (λ n m d.
                    subst (λ (M : List (ℕ × ℕ)). PairDone o.program p.program n m M (danger_in v)) (step_same j.step k rc)
                    (done_lasts o.program p.program n m (pairs_in w c) (danger_in w) (danger_in v) (j.step.stays k) d))
                    (i.still (omega arith) few) (j.still rc k);
              };
        }

    pub all_on : (v : List ℕ) (r : ℕ) (z' : Bool) → z' ≡ true → x < c → c ≤ limit → Sized w v (Visits a b t limit w c x v r z') → Sized w₀ v (Visiting a b t limit w₀ c₀ v r z (x + 1))
    all_on v r z' n l few y = all_next v r z' z (λ e. (e, n)) l few y

    pub all_wait : (v : List ℕ) (r : ℕ) (z' : Bool) → x < c → c ≤ limit → Sized w v (Visits a b t limit w c x v r z') → Sized w₀ v (Visiting a b t limit w₀ c₀ v r false (x + 1))
    all_wait v r z' l few y = all_next v r z' false (λ e. absurd (false≢true e)) l few y

    -- There are more pairs than the limit.
    all_past : (v : List ℕ) (z' : Bool) → x < c → c ≤ limit → Sized w v (Visits a b t limit w c x v (suc limit) z') → Sized w₀ v (VisitsAll a b t limit w₀ c₀ v (suc limit) true)
    unfolding Visiting VisitsAll Visits Lasts
    all_past v z' l few y =
        record {
          size = y.size ∙ inv.size;
          claim = λ o p h g s.
              let i = inv.claim o p h g s in
              let j = y.claim o p h g i.step.state few l in
              record {
                step = step_past (step_then {F = λ M _. M ≡ M} (λ M S N T _ _. refl) i.step j.step (λ _ _. refl));
                still = λ _ few. absurd (let z : ⊥ = omega arith in z);
              };
        }

    all_end : c ≤ x → Sized w₀ w (VisitsAll a b t limit w₀ c₀ w c z)
    unfolding Visiting VisitsAll
    all_end l =
        record {
          size = inv.size;
          claim = λ o p h g s.
              let i = inv.claim o p h g s in
              record {
                step = step_shows i.step (λ few e. seen_all o.program p.program w c x l (followed_done o.program p.program w c x (i.followed e few)));
                still = λ e few. seen_all o.program p.program w c x l (i.still e few);
              };
        }

pass_done : (mo mn : Memory) (groups : List ℕ) (limit : ℕ) (w u v : List ℕ) (c k r : ℕ) (z : Bool) → Sized w u (AddsEntries mo mn limit w c 0 0 u k)
    → Sized u v (VisitsAll mo mn groups limit u k v r z) → Sized w v (Passes mo mn groups limit w c v r z)
unfolding AddsEntries VisitsAll Passes
pass_done mo mn groups limit w u v c k r z x y =
    record {
      size = y.size ∙ x.size;
      claim = λ o p h g s.
          let f = formed_in _ _ o p h g.memory in
          let i = x.claim o p h g.memory s f.old_formed.begins f.new_formed.begins (λ _. first_entries) in
          let j = y.claim o p h g i.state in
          let lasts = entries_lasts o.program p.program 0 0 in
          record {
            step = step_then lasts i j.step (λ d t e. record { start = d; each = t e });
            still = λ e l. record {
              start = step_lasts j.step _ lasts l (i.done (omega (arith, j.step.more)));
              each = j.still (omega (arith, i.more, j.step.more)) l;
            };
          };
    }

module _ (mo mn : Memory) (groups : List ℕ) (limit : ℕ) (w : List ℕ) (c : ℕ) (u : List ℕ) where
  -- The entries of the first procedures are one pair too many.
  pub pass_full : Sized w u (AddsEntries mo mn limit w c 0 0 u (suc limit)) → Sized w u (Passes mo mn groups limit w c u (suc limit) true)
  unfolding AddsEntries Passes
  pass_full x =
      record {
        size = x.size;
        claim = λ o p h g s.
            let f = formed_in _ _ o p h g.memory in
            record {
              step = step_past (x.claim o p h g.memory s f.old_formed.begins f.new_formed.begins (λ _. first_entries));
              still = λ _ few. absurd (let z : ⊥ = omega arith in z);
            };
      }

  module _ (k : ℕ) (start : Sized w u (AddsEntries mo mn limit w c 0 0 u k)) (v : List ℕ) (r : ℕ) (z : Bool) (x : ℕ) (inv : Sized u v (Visiting mo mn groups limit u k v r z x)) where
    pub pass_past : (v' : List ℕ) (z' : Bool) → x < r → r ≤ limit → Sized v v' (Visits mo mn groups limit v r x v' (suc limit) z') → Sized w v' (Passes mo mn groups limit w c v' (suc limit) true)
    pass_past v' z' l few y = pass_done mo mn groups limit w u v' c k (suc limit) true start (all_past _ _ groups limit u k v r z x inv v' z' l few y)

    pub pass_end : r ≤ x → Sized w v (Passes mo mn groups limit w c v r z)
    pass_end l = pass_done mo mn groups limit w u v c k r z start (all_end _ _ groups limit u k v r z x inv l)

pub ruleset passes = (all_start, all_on, all_wait, pass_full, pass_past, pass_end)

-- ---- `repeat`, `close`

-- The table is in a state of the search.
unfoldable pub Repeating : Memory → Memory → List ℕ → ℕ → List ℕ → List ℕ → ℕ → Type 0
Repeating a b t limit w₀ w c =
    (o p : Listing) → InMemory a o → InGroups b t p → State o.program p.program limit w₀ 0 → State o.program p.program limit w c

pub repeat_start : (a b : Memory) (t : List ℕ) (limit : ℕ) (w : List ℕ) → Sized w w (Repeating a b t limit w w 0)
unfolding Repeating
repeat_start a b t limit w = record { size = refl; claim = λ o p h g s. s }

module _ (a b : Memory) (t : List ℕ) (limit : ℕ) (w₀ w : List ℕ) (c : ℕ) (v : List ℕ) (r : ℕ) (z : Bool) (inv : Sized w₀ w (Repeating a b t limit w₀ w c)) (x : Sized w v (Passes a b t limit w c v r z)) where
  pub repeat_on : Sized w₀ v (Repeating a b t limit w₀ v r)
  unfolding Repeating Passes
  repeat_on = record { size = x.size ∙ inv.size; claim = λ o p h g s. (x.claim o p h g (inv.claim o p h g s)).step.state }

  pub repeat_past : r ≡ suc limit → Sized w₀ v (Finds a b t limit w₀ v (suc limit))
  unfolding Repeating Passes Finds
  repeat_past e =
      record {
        size = x.size ∙ inv.size;
        claim = λ o p h g s.
            let i = x.claim o p h g (inv.claim o p h g s) in
            record {
              answer = sym (choose_no _ _ (lt-leb (length (pairs o.program p.program)) limit (i.step.state.over (omega arith))));
              held = λ k. absurd (let z : ⊥ = omega arith in z);
              marked = λ k. absurd (let z : ⊥ = omega arith in z);
            };
      }

  -- Where the list has the three rules, the search is at its end.
  ended : r ≤ limit
      → ((o p : Listing) → Turn o.program p.program limit w c (AllDone o.program p.program) (AllDone o.program p.program) v r z
      → AllDone o.program p.program (pairs_in v r) (danger_in v))
      → Sized w₀ v (Finds a b t limit w₀ v r)
  unfolding Repeating Passes Finds
  ended l all =
      record {
        size = x.size ∙ inv.size;
        claim = λ o p h g s.
            let f = formed_in a b o p h g.memory in
            let j = x.claim o p h g (inv.claim o p h g s) in
            let k = j.step.state.kept l in
            let d = all o p j in
            let n : r ≡ length (pairs o.program p.program) = all_counted f k d in
            record {
              answer = n ∙ sym (choose_yes _ _ (le-leb (length (pairs o.program p.program)) limit (omega arith)));
              held = λ _. record { store = k.store; counted = n; same = all_same f k d };
              marked = λ _. all_dangers f k d;
            };
      }

  pub repeat_still : r ≤ limit → r ≤ c → Sized w₀ v (Finds a b t limit w₀ v r)
  repeat_still l e = ended l (λ o p t. t.still (omega (arith, t.step.more)) l)

  pub repeat_settled : r ≤ limit → z ≡ true → Sized w₀ v (Finds a b t limit w₀ v r)
  repeat_settled l e = ended l (λ o p t. t.step.done l e)

pub close_done : (a b : Memory) (limit : ℕ) (w u v t : List ℕ) (r : ℕ) → Emptied w u → Regrouped b (replicate 1024 0) t → Sized u v (Finds a b t limit u v r)
    → Sized w v (Closes a b limit w v r)
unfolding Finds Closes Empties Groups
close_done a b limit w u v t r e q x =
    record {
      size = x.size ∙ e.size;
      claim = λ o p h g l.
          let y = e.empties (omega arith) in
          x.claim o p h (record { memory = g; groups = q.groups p g (grouped_none p.program 1024) })
          (state_none o.program p.program limit u (omega (arith, e.size)) y.0 y.1);
    }

-- A table without room for as many pairs as the limit says.
pub close_short : (a b : Memory) (limit : ℕ) (w : List ℕ) (r : ℕ) → length w < 4624 + 3 * limit → Sized w w (Closes a b limit w w r)
unfolding Closes
close_short a b limit w r s = record { size = refl; claim = λ o p h g l. absurd (let z : ⊥ = omega arith in z) }

pub ruleset closes = (close_done, close_short)

pub ruleset repeats = (repeat_start, repeat_on, repeat_past, repeat_still, repeat_settled)
