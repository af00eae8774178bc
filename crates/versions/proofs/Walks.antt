-- Walks over the callees of an old and a new node, by the numbers of these: the turns and the returns, as `search` finds them. A walk keeps that what is answered for the callees left is
-- the answer for all.
use mathlib.Core.Path.{◌≡◌, sym, ap₂, ◌∙◌, subst, subst₂}
use Rattle.std.specs.Prelude.{Option, Some, None}
use Rattle.std.specs.Option.{is_some, unwrap_or}
use mathlib.Core.Bool.{Bool, true, false, false≢true, not}
use mathlib.Core.List.{List}
use Prim.Native.Nat.{ℕ, suc, ◌+◌, ◌≤◌, ◌<◌}
use native.Mathlib.Omega.{arith}
use lib.Dec.{ltb}
use lib.ListN.{get_or}
use borrow.Author.Tests.{eq-eqb, eqb-true, le-ltb, lt-ltb}
use Rattle.laws.specs.Tests.{every, listed}
use Rattle.laws.specs.TestLaws.{and_both, and_left, and_right, both_ways, every_at, every_of, fails, implied, implies}
use Rattle.laws.specs.Slices.{below_or}
use Rattle.rules.specs.Text.{same}
use Rattle.rules.specs.Graph.{C, callee_count, callee_name, called, entry, kind_at, node_count}
use Rattle.rules.specs.Closing.{exits_met, same_callee}
use Rattle.rules.specs.Check.{entered_at}
use Rattle.rules.specs.ProgramFile.{Listing}
use Rattle.rules.proofs.ClosingLaws.{same_callee_is, same_callee_names}
use Rattle.graph.specs.Table.{proc_base}
use Rattle.graph.specs.Reads.{part_at}
use Rattle.pairset.specs.Store.{Has, pairs_in}
use Rattle.versions.specs.Memory.{InMemory, memory}
use Rattle.versions.specs.Callees.{NextCallee, next_or}
use Rattle.versions.specs.Called.{CalleesAt, at_end, at_here, at_next, callee_there, callees_end, entries_told, exits_told, its_name}
use Rattle.versions.specs.Claims.{CalleesEntered, ExitsMet, SameCallees}

-- ---- `same_callees`

module _ (ot ol nt nl : List ℕ) (k l : ℕ) where
  unfoldable pub SameLeft : ℕ → ℕ → Type 0
  SameLeft a b = (r : Bool) → SameCallees ot ol nt nl a b r → SameCallees ot ol nt nl k l r

  pub same_start : SameLeft k l
  unfolding SameLeft
  same_start r x = x

  module _ (a b : ℕ) (inv : SameLeft a b) where
    -- As many names are left of both: none.
    ended : a ≤ 0 → SameCallees ot ol nt nl k l (ltb b 1)
    unfolding SameLeft SameCallees
    ended z =
        inv (ltb b 1) (λ on nn o p h g n m i at d c few names.
        let e = at_end h g at z in
        below_or b 1
        (λ u.
        let f = callees_end nt nn nl p g m i b at.new_from d c (omega arith) in
        let count : callee_count o.program n ≡ callee_count p.program m = omega (arith, few) in
        lt-ltb b 1 u ∙ sym (same_callee_names _ _ ∙ and_both (eq-eqb _ _ count) (subst (λ (j : ℕ). every j (λ j. same (callee_name o.program n j) (callee_name p.program m j)) ≡ true) e names)))
        (λ u.
        let f = callee_there nt nn nl p g m i b at.new_from (omega arith) in
        le-ltb b 1 u ∙ sym (same_callee_names _ _ ∙ fails _ (λ t. let y : ⊥ = omega (arith, e, f, eqb-true (callee_count o.program n) (callee_count p.program m) (and_left _ _ t)) in y))))

    pub same_end : (a' b' : ℕ) (r : Option ℕ) (t : Bool) → NextCallee a None a' → NextCallee b r b' → is_some r ≡ not t → SameCallees ot ol nt nl k l t
    same_end a' b' None true (e, e') (f, f') n = subst (SameCallees ot ol nt nl k l) (lt-ltb b 1 (omega (arith, f))) (ended (omega (arith, e)))
    same_end a' b' None false (e, e') (f, f') n = absurd (false≢true n)
    same_end a' b' (Some q) true (e, e') (pos, f, f') n = absurd (false≢true (sym n))
    same_end a' b' (Some q) false (e, e') (pos, f, f') n = subst (SameCallees ot ol nt nl k l) (le-ltb b 1 (omega (arith, pos))) (ended (omega (arith, e)))

    -- Fewer are left of the new one.
    pub same_fewer : 0 < a → b ≡ 0 → SameCallees ot ol nt nl k l false
    unfolding SameLeft SameCallees
    same_fewer pos z =
        inv false (λ on nn o p h g n m i at d c few names.
        let e = at_here h g at pos in
        let f = callees_end nt nn nl p g m i b at.new_from d c (omega arith) in
        sym (same_callee_names _ _ ∙ fails _ (λ t. let y : ⊥ = omega (arith, e, f, eqb-true (callee_count o.program n) (callee_count p.program m) (and_left _ _ t)) in y)))

    module _ (q a' q' b' : ℕ) (t : Bool) (next : NextCallee a (Some q) a') (next' : NextCallee b (Some q') b') (et : t ≡ same_callee (part_at ot ol (proc_base q)) (part_at nt nl (proc_base q'))) where
      names_here : (on nn : List ℕ) (o p : Listing) → InMemory (memory ot on ol) o → InMemory (memory nt nn nl) p → (n m i : ℕ) → CalleesAt o p n m i a b → m < node_count p.program
          → kind_at p.program m ≡ C → t ≡ same (callee_name o.program n i) (callee_name p.program m i)
      names_here on nn o p h g n m i at d c =
          et ∙ same_callee_is _ _
          ∙ ap₂ same (its_name ot on ol o h n i a at.old_from q next.1 at.old_node at.call (at_here h g at next.0))
          (its_name nt nn nl p g m i b at.new_from q' next'.1 d c (callee_there nt nn nl p g m i b at.new_from next'.0))

      pub same_on : t ≡ true → SameLeft a' b'
      unfolding SameLeft SameCallees every
      same_on y r z =
          inv r (λ on nn o p h g n m i at d c few names.
          subst₂ (λ (x x' : ℕ). SameCallees ot ol nt nl x x' r) next.2 next'.2 z on nn o p h g n m (suc i) (at_next h g at next.0) d c (callee_there nt nn nl p g m i b at.new_from next'.0)
          (and_both names (sym (names_here on nn o p h g n m i at d c) ∙ y)))

      pub same_not : t ≡ false → SameCallees ot ol nt nl k l false
      unfolding SameLeft SameCallees
      same_not y =
          inv false (λ on nn o p h g n m i at d c few names.
          sym (same_callee_names _ _ ∙ fails _ (λ s.
          both_ways (every_at (λ j. same (callee_name o.program n j) (callee_name p.program m j)) (callee_count o.program n) (and_right _ _ s) i (at_here h g at next.0))
          (sym (names_here on nn o p h g n m i at d c) ∙ y))))

pub ruleset callees = (same_start, same_end, same_fewer, same_on, same_not)

-- ---- `exits_met`

module _ (ol nl w : List ℕ) (k l : ℕ) where
  unfoldable pub ExitsLeft : ℕ → ℕ → Type 0
  ExitsLeft a b = (r : Bool) → ExitsMet ol nl w a b r → ExitsMet ol nl w k l r

  pub exits_start : ExitsLeft k l
  unfolding ExitsLeft
  exits_start r x = x

  module _ (a b : ℕ) (inv : ExitsLeft a b) where
    pub exits_end : a ≡ 0 → ExitsMet ol nl w k l true
    unfolding ExitsLeft ExitsMet
    exits_end z =
        inv true (λ ot on nt nn o p c h g st n m i at met.
        sym (subst (λ (j : ℕ). exits_met o.program p.program (pairs_in w c) n m j ≡ true) (at_end h g at (omega arith)) met))

    module _ (q a' b' : ℕ) (r : Option ℕ) (t : Bool) (next : NextCallee a (Some q) a') (next' : NextCallee b r b') (has : Has w (get_or ol (proc_base q + 6) 0) (get_or nl (proc_base (unwrap_or r 0) + 6) 0) t) where
      pub exits_on : t ≡ true → ExitsLeft a' b'
      unfolding ExitsLeft ExitsMet exits_met every
      exits_on u x z =
          inv x (λ ot on nt nn o p c h g st n m i at met.
          subst₂ (λ (y y' : ℕ). ExitsMet ol nl w y y' x) next.2 (next_or b r b' next').1 z ot on nt nn o p c h g st n m (suc i) (at_next h g at next.0) (and_both met (sym (exits_told h g at w c q (unwrap_or r 0) t st next.1 (next_or b r b' next').0 has) ∙ u)))

      pub exits_not : t ≡ false → ExitsMet ol nl w k l false
      unfolding ExitsLeft ExitsMet exits_met
      exits_not u =
          inv false (λ ot on nt nn o p c h g st n m i at met.
          sym (fails _ (λ all. both_ways (every_at _ (callee_count o.program n) all i (at_here h g at next.0)) (sym (exits_told h g at w c q (unwrap_or r 0) t st next.1 (next_or b r b' next').0 has) ∙ u))))

pub ruleset exits = (exits_start, exits_end, exits_on, exits_not)

-- ---- `callees_entered`

module _ (ol nl w : List ℕ) (k l : ℕ) where
  unfoldable pub EntriesLeft : ℕ → ℕ → Type 0
  EntriesLeft a b = (r : Bool) → CalleesEntered ol nl w a b r → CalleesEntered ol nl w k l r

  pub entries_start : EntriesLeft k l
  unfolding EntriesLeft
  entries_start r x = x

  module _ (a b : ℕ) (inv : EntriesLeft a b) where
    pub entries_end : a ≡ 0 → CalleesEntered ol nl w k l true
    unfolding EntriesLeft CalleesEntered
    entries_end z =
        inv true (λ ot on nt nn o p c h g st n m i at met came.
        sym (subst (λ (j : ℕ). every j (entered_at o.program p.program (pairs_in w c) n m) ≡ true) (at_end h g at (omega arith)) came))

    module _ (q a' b' : ℕ) (r : Option ℕ) (t : Bool) (next : NextCallee a (Some q) a') (next' : NextCallee b r b') (has : Has w (get_or ol (proc_base q + 5) 0) (get_or nl (proc_base (unwrap_or r 0) + 5) 0) t) where
      -- The entries are no pair, though the exits of the callees before are.
      pub entries_not : t ≡ false → CalleesEntered ol nl w k l false
      unfolding EntriesLeft CalleesEntered
      entries_not u =
          inv false (λ ot on nt nn o p c h g st n m i at met came.
          sym (fails _ (λ all.
          both_ways (implied _ _ (every_at (entered_at o.program p.program (pairs_in w c) n m) (callee_count o.program n) all i (at_here h g at next.0)) met)
          (sym (entries_told h g at w c q (unwrap_or r 0) t st next.1 (next_or b r b' next').0 has) ∙ u))))

      module _ (t' : Bool) (u : t ≡ true) (has' : Has w (get_or ol (proc_base q + 6) 0) (get_or nl (proc_base (unwrap_or r 0) + 6) 0) t') where
        -- The exits are no pair: the callees behind need not come in.
        pub entries_stop : t' ≡ false → CalleesEntered ol nl w k l true
        unfolding EntriesLeft CalleesEntered exits_met
        entries_stop u' =
            inv true (λ ot on nt nn o p c h g st n m i at met came.
            sym (every_of (entered_at o.program p.program (pairs_in w c) n m) (callee_count o.program n) (λ j d.
            below_or j i (λ e. every_at (entered_at o.program p.program (pairs_in w c) n m) i came j e)
            (λ e.
            below_or i j
            (λ f. implies _ _ (λ all. absurd (both_ways (every_at _ j all i f) (sym (exits_told h g at w c q (unwrap_or r 0) t' st next.1 (next_or b r b' next').0 has') ∙ u'))))
            (λ f.
            let same : i ≡ j = omega arith in
            implies _ _ (λ _. subst (λ (j : ℕ). listed (pairs_in w c) (entry o.program (called o.program n j)) (entry p.program (called p.program m j)) ≡ true) same
            (sym (entries_told h g at w c q (unwrap_or r 0) t st next.1 (next_or b r b' next').0 has) ∙ u)))))))

        pub entries_on : t' ≡ true → EntriesLeft a' b'
        unfolding EntriesLeft CalleesEntered exits_met every
        entries_on u' x z =
            inv x (λ ot on nt nn o p c h g st n m i at met came.
            subst₂ (λ (y y' : ℕ). CalleesEntered ol nl w y y' x) next.2 (next_or b r b' next').1 z ot on nt nn o p c h g st n m (suc i) (at_next h g at next.0)
            (and_both met (sym (exits_told h g at w c q (unwrap_or r 0) t' st next.1 (next_or b r b' next').0 has') ∙ u'))
            (and_both came (implies _ _ (λ _. sym (entries_told h g at w c q (unwrap_or r 0) t st next.1 (next_or b r b' next').0 has) ∙ u))))

pub ruleset entries = (entries_start, entries_end, entries_not, entries_stop, entries_on)
