-- The computed pairs are the smallest set with the closing rules (T4), and what the selector writes passes the check (T2).
use Rattle.std.specs.Prelude.{◌≡◌, ◌⊎◌, ◌↔◌, Bool, get_or}
use Rattle.std.proofs.Math.Path.{refl, sym, subst₂}
use Rattle.std.proofs.Common.{ap, ◌∙◌, subst, inl, inr}
use Rattle.std.proofs.Math.Logic.{⊎_elim}
use Rattle.std.proofs.Math.Option.{some, some-injective}
use Rattle.std.proofs.Math.Bool.{true, false}
use Rattle.std.proofs.lemmas.Bool.{false≢true}
use mathlib.Core.List.{List, [], ◌∷◌}
use Prim.Native.Nat.{ℕ, zero, suc, ◌+◌, ◌≤◌, ◌<◌}
use native.Mathlib.Omega.{arith}
use Rattle.std.proofs.Math.Dec.{eqb}
use Rattle.std.proofs.Math.ListN.{length}
use borrow.Author.Tests.{eqb-true, eqb-false, eq-eqb}
use Rattle.laws.specs.Tests.{◌and◌, ◌or◌, any, has, listed, any_pair, pick, grid}
use Rattle.laws.specs.TestLaws.{and_left, and_right, and_both, implied, implies, or_cases, or_left, or_right, both_ways, fails, passes?, true_isnt, isnt_true, eqb_self, every_at, every_of, any_at, any_of_lem, those_of, any_pair_at, any_pair_of, all_pairs_of, pick_of, pick_at, pick_more, pick_same, pick_all, grid_of, grid_at, Ascending, grid_ascends, pick_ascends, none_left, none_failed, those_at, any_of_at, any_of_of}
use Rattle.laws.specs.Lists.{Rising, those_rise}
use Rattle.laws.specs.Reach.{reached_below, reached_few, reached_rise}
use Rattle.rules.specs.Text.{Bytes}
use Rattle.rules.specs.Graph.{E, C, Program, WellFormed, proc_count, node_count, edge_count, kind_at, label_at, callee_at, source_at, target_at, entry, callee_count, called, edge_taken, filled}
use Rattle.rules.specs.After.{edges_after}
use Rattle.rules.specs.Closing.{ExitsMet, MayGoOn, alike, fits, kept_by, Pair, first_entries, callee_entries, edge_ends, Counterparts, Dangerous, both_call, fitted, exits_met, goes_on, joined, by_start, by_call, by_edge, follows, grown, dangerous_at, dangerous, closed, pairs, dangers, Coverage, meets, repeated, holds, AfterDanger, Parting, Probe, after_dangers, parting, parted, probes}
use Rattle.rules.specs.Sheet.{selected}
use Rattle.rules.specs.Check.{entered, edge_kept, edges_kept, rule1, rule2, rule3, rule4, rule5, broken}
use Rattle.rules.specs.Promises.{Exact}
use Rattle.rules.proofs.ClosingLaws.{alike_bare, danger_old, fits_ends, fits_of, fits_word, kept_at, kept_of, opposite_at, unkept_at, opposite_of}
use Rattle.rules.proofs.GraphLaws.{same_kind_true, same_kind_of, entry_is, called_below, taken_at}
use Rattle.rules.proofs.AfterLaws.{after_iff}
use Rattle.rules.proofs.TextLaws.{empty_true}

pick_none : (l : List (ℕ × ℕ)) → pick (λ n k. false) l ≡ []
unfolding pick
pick_none [] = refl
pick_none (x ∷ l) = pick_none l

-- ---- the list grows until the rules give nothing new

module _ (old new : Program) where
  -- All pairs of an old node and a new one.
  abbrev all : List (ℕ × ℕ)
  all = grid (node_count old) (node_count new)

  -- The rules give nothing new from the list.
  Stable : List (ℕ × ℕ) → Type 0
  Stable M = (a b : ℕ) → listed all a b ≡ true → follows old new M a b ≡ true → listed M a b ≡ true

  -- The test that picks the grown list, where p picks the list.
  abbrev wider : (ℕ → ℕ → Bool) → ℕ → ℕ → Bool
  wider p a b = listed (pick p all) a b or follows old new (pick p all) a b

  wider_of : (p : ℕ → ℕ → Bool) (a b : ℕ) → listed all a b ≡ true → p a b ≡ true → wider p a b ≡ true
  wider_of p a b l e = or_left _ (pick_of p all a b l e)

  -- One round of growing a picked list: it ends here, or edge-ends on.
  round : (P : List (ℕ × ℕ) → Type 0) (k : ℕ) (p : ℕ → ℕ → Bool)
      → (length (pick (wider p) all) ≡ length (pick p all) → P (pick p all))
      → ((length (pick (wider p) all) ≡ length (pick p all) → ⊥) → P (closed old new k (pick (wider p) all)))
      → P (closed old new (suc k) (pick p all))
  unfolding closed grown
  round P k p stays on = go (eqb (length (pick (wider p) all)) (length (pick p all))) refl
    where
      go : (t : Bool) → eqb (length (pick (wider p) all)) (length (pick p all)) ≡ t
          → P (elim t as (λ _. List (ℕ × ℕ)) [ true ↦ pick p all | false ↦ closed old new k (pick (wider p) all) ])
      go true e = stays (eqb-true _ _ e)
      go false e = on (eqb-false _ _ e)

  -- Growing ends in a list from which the rules give nothing new: each round that is not the last adds a pair, and there are no more than all.
  closed_stable : (k : ℕ) (p : ℕ → ℕ → Bool) → length all ≤ k + length (pick p all) → Stable (closed old new k (pick p all))
  unfolding closed Stable
  closed_stable zero p h = λ a b l f. pick_of p all a b l (pick_all p all (omega arith) a b l)
  closed_stable (suc k) p h =
      round Stable k p
      (λ (n : length (pick (wider p) all) ≡ length (pick p all)) a b l f. pick_of p all a b l (pick_same p (wider p) all (wider_of p) (omega arith) a b l (or_right _ f)))
      (λ (n : length (pick (wider p) all) ≡ length (pick p all) → ⊥). closed_stable k (wider p) (grows n (pick_more p (wider p) all (wider_of p)) h))
    where
      grows : (length (pick (wider p) all) ≡ length (pick p all) → ⊥) → length (pick p all) ≤ length (pick (wider p) all) → length all ≤ suc k + length (pick p all)
          → length all ≤ k + length (pick (wider p) all)
      grows n m h = omega arith

  -- The list is picked of all.
  closed_picked : (k : ℕ) (p : ℕ → ℕ → Bool) → (q : ℕ → ℕ → Bool) × (closed old new k (pick p all) ≡ pick q all)
  unfolding closed
  closed_picked zero p = (p, refl)
  closed_picked (suc k) p = round (λ M. (q : ℕ → ℕ → Bool) × (M ≡ pick q all)) k p (λ n. (p, refl)) (λ n. closed_picked k (wider p))

  pairs_pick : pairs old new ≡ closed old new (length all) (pick (λ a b. false) all)
  unfolding pairs
  pairs_pick = rw pick_none

  pairs_stable : Stable (pairs old new)
  pairs_stable = rw pairs_pick (closed_stable (length all) (λ a b. false) (omega arith))

  pairs_picked : (q : ℕ → ℕ → Bool) × (pairs old new ≡ pick q all)
  pairs_picked = let r = closed_picked (length all) (λ a b. false) in (r.0, pairs_pick ∙ r.1)

  -- The pairs are ascending, and numbers of an old node and a new one.
  pub pairs_ascend : Ascending (pairs old new)
  pairs_ascend = rw pairs_picked.1 (pick_ascends pairs_picked.0 (grid_ascends (node_count old) (node_count new)))

  pub dangers_rise : Rising (dangers old new)
  unfolding dangers
  dangers_rise = those_rise _ _

  pub probes_rise : Rising (probes old new)
  unfolding probes edges_after
  probes_rise = reached_rise _ _ _

  pub probes_few : length (probes old new) ≤ edge_count new
  unfolding probes edges_after
  probes_few = reached_few _ _ _

  pub probes_inside : (e : ℕ) → has (probes old new) e ≡ true → e < edge_count new
  unfolding probes edges_after
  probes_inside e t = reached_below _ _ _ e t

  -- A dangerous edge is an old edge.
  pub dangers_inside : (e : ℕ) → has (dangers old new) e ≡ true → e < edge_count old
  unfolding dangers
  dangers_inside e t = (those_at _ _ e t).0

  pub pairs_inside : (a b : ℕ) → listed (pairs old new) a b ≡ true → (a < node_count old) × (b < node_count new)
  pairs_inside a b l = grid_at _ _ a b (pick_at pairs_picked.0 all a b (rw pairs_picked.1 at l)).0

  -- ---- what a list says of its pairs

  Sound : List (ℕ × ℕ) → Type 0
  Sound M = (a b : ℕ) → listed M a b ≡ true → Pair old new a b

  module _ (M : List (ℕ × ℕ)) where
    pub exits_met_at : (n n' i : ℕ) → exits_met old new M n n' i ≡ true → ExitsMet old new (λ a b. listed M a b ≡ true) n n' i
    unfolding exits_met
    exits_met_at n n' i h = every_at _ i h

    pub exits_met_of : (n n' i : ℕ) → ExitsMet old new (λ a b. listed M a b ≡ true) n n' i → exits_met old new M n n' i ≡ true
    unfolding exits_met
    exits_met_of n n' i h = every_of _ i h

    pub goes_on_at : (n n' : ℕ) → goes_on old new M n n' ≡ true → kind_at old n ≡ C → ExitsMet old new (λ a b. listed M a b ≡ true) n n' (callee_count old n)
    unfolding goes_on
    goes_on_at n n' g k = exits_met_at n n' (callee_count old n) (implied _ _ g (same_kind_of k))

    pub goes_on_of : (n n' : ℕ) → (kind_at old n ≡ C → ExitsMet old new (λ a b. listed M a b ≡ true) n n' (callee_count old n)) → goes_on old new M n n' ≡ true
    unfolding goes_on
    goes_on_of n n' h = implies _ _ (λ k. exits_met_of n n' (callee_count old n) (h (same_kind_true _ _ k)))

    pub joined_of : (e e' : ℕ) → listed M (source_at old e) (source_at new e') ≡ true → goes_on old new M (source_at old e) (source_at new e') ≡ true → fits old new e e' ≡ true
        → joined old new M e e' ≡ true
    unfolding joined
    joined_of e e' l g f = and_both l (and_both g f)

    -- ---- what the rules give from a list

    follows_start : follows old new M (entry old 0) (entry new 0) ≡ true
    unfolding follows by_start
    follows_start = or_left _ (and_both (eqb_self (entry old 0)) (eqb_self (entry new 0)))

    follows_call : (n n' : ℕ) → listed M n n' ≡ true → kind_at old n ≡ C → kind_at new n' ≡ C → (i : ℕ) → i < callee_count old n → exits_met old new M n n' i ≡ true
        → follows old new M (entry old (called old n i)) (entry new (called new n' i)) ≡ true
    unfolding follows by_call both_call
    follows_call n n' l k k' i h x =
        let a = entry old (called old n i) in
        let b = entry new (called new n' i) in
        or_right _ (or_left _ (any_pair_of (by_call old new M a b) M n n' l
        (and_both (and_both (same_kind_of k) (same_kind_of k'))
        (any_of_lem (λ i. exits_met old new M n n' i and eqb (entry old (called old n i)) a and eqb (entry new (called new n' i)) b) (callee_count old n) i h
        (and_both x (and_both (eqb_self a) (eqb_self b)))))))

    follows_edge : (e e' : ℕ) → e < edge_count old → e' < edge_count new → joined old new M e e' ≡ true → follows old new M (target_at old e) (target_at new e') ≡ true
    unfolding follows by_edge
    follows_edge e e' h h' j =
        let a = target_at old e in
        let b = target_at new e' in
        or_right _ (or_right _ (any_of_lem (λ e. any (edge_count new) (by_edge old new M a b e)) (edge_count old) e h
        (any_of_lem (by_edge old new M a b e) (edge_count new) e' h' (and_both (eqb_self a) (and_both (eqb_self b) j)))))

-- The smallest: any relation with the three rules holds of every pair.
pub least : (old new : Program) (P : ℕ → ℕ → Type 0) → P (entry old 0) (entry new 0)
    → ((n n' : ℕ) → P n n' → kind_at old n ≡ C → kind_at new n' ≡ C → (i : ℕ) → i < callee_count old n → ExitsMet old new P n n' i
    → P (entry old (called old n i)) (entry new (called new n' i)))
    → ((n n' e e' : ℕ) → P n n' → (kind_at old n ≡ C → ExitsMet old new P n n' (callee_count old n))
    → (w : Bytes) → edge_taken old n w ≡ some e → edge_taken new n' w ≡ some e' → alike old new (target_at old e) (target_at new e') ≡ true → P (target_at old e) (target_at new e'))
    → {a b : ℕ} → Pair old new a b → P a b
least old new P r1 r2 r3 first_entries = r1
least old new P r1 r2 r3 (callee_entries p k k' i h x) = r2 _ _ (least old new P r1 r2 r3 p) k k' i h (λ j l. least old new P r1 r2 r3 (x j l))
least old new P r1 r2 r3 (edge_ends p x w t t' f) = r3 _ _ _ _ (least old new P r1 r2 r3 p) (λ k j l. least old new P r1 r2 r3 (x k j l)) w t t' f

module _ (old new : Program) (wo : WellFormed old) (wn : WellFormed new) where
  -- ---- every listed pair is a pair

  module _ (M : List (ℕ × ℕ)) where
    -- What rule 3 joins by a list of pairs are counterparts.
    joined_sound : Sound old new M → (e e' : ℕ) → e < edge_count old → e' < edge_count new → joined old new M e e' ≡ true → Counterparts old new e e'
    unfolding Sound joined
    joined_sound s e e' h h' j =
        let f = and_right _ _ (and_right _ _ j) in
        let w = opposite_at old new wo wn e e' h h' (fits_word old new e e' f) in
        record {
          pair = s _ _ (and_left _ _ j);
          may_go_on = λ k i l. s _ _ (goes_on_at old new M _ _ (and_left _ _ (and_right _ _ j)) k i l);
          word = w.0;
          old_takes = w.1;
          new_takes = w.2;
          alike_ends = fits_ends old new e e' f;
        }

    by_call_sound : Sound old new M → (a b : ℕ) → any_pair (by_call old new M a b) M ≡ true → Pair old new a b
    unfolding Sound by_call both_call
    by_call_sound s a b t =
        let r = any_pair_at (by_call old new M a b) M t in
        let k = and_left _ _ r.3 in
        let i = any_at _ (callee_count old r.0) (and_right _ _ r.3) in
        let v = and_right _ _ i.2 in
        subst₂ (Pair old new) (eqb-true _ _ (and_left _ _ v)) (eqb-true _ _ (and_right _ _ v))
        (callee_entries (s _ _ r.2) (same_kind_true _ _ (and_left _ _ k)) (same_kind_true _ _ (and_right _ _ k)) i.0 i.1
        (λ j l. s _ _ (exits_met_at old new M r.0 r.1 i.0 (and_left _ _ i.2) j l)))

    by_edge_sound : Sound old new M → (a b : ℕ) → any (edge_count old) (λ e. any (edge_count new) (by_edge old new M a b e)) ≡ true → Pair old new a b
    unfolding by_edge
    by_edge_sound s a b t =
        let r = any_at (λ e. any (edge_count new) (by_edge old new M a b e)) (edge_count old) t in
        let r' = any_at (by_edge old new M a b r.0) (edge_count new) r.2 in
        let v = and_right _ _ r'.2 in
        let c = joined_sound s r.0 r'.0 r.1 r'.1 (and_right _ _ v) in
        subst₂ (Pair old new) (eqb-true _ _ (and_left _ _ r'.2)) (eqb-true _ _ (and_left _ _ v)) (edge_ends c.pair c.may_go_on c.word c.old_takes c.new_takes c.alike_ends)

    grown_sound : Sound old new M → Sound old new (grown old new M)
    unfolding Sound grown follows by_start
    grown_sound s a b l =
        ⊎_elim (s a b)
        (λ f. ⊎_elim (λ t. subst₂ (Pair old new) (eqb-true _ _ (and_left _ _ t)) (eqb-true _ _ (and_right _ _ t)) first_entries)
        (λ t. ⊎_elim (by_call_sound s a b) (by_edge_sound s a b) (or_cases _ _ t)) (or_cases _ _ f))
        (or_cases _ _ (pick_at _ (all old new) a b l).1)

  closed_sound : (k : ℕ) (M : List (ℕ × ℕ)) → Sound old new M → Sound old new (closed old new k M)
  unfolding closed
  closed_sound zero M s = s
  closed_sound (suc k) M s = go (eqb (length (grown old new M)) (length M)) (closed_sound k (grown old new M) (grown_sound M s))
    where
      go : (t : Bool) → Sound old new (closed old new k (grown old new M)) → Sound old new (elim t as (λ _. List (ℕ × ℕ)) [ true ↦ M | false ↦ closed old new k (grown old new M) ])
      go true ih = s
      go false ih = ih

  -- The listed pairs are pairs.
  pub pairs_sound : (a b : ℕ) → listed (pairs old new) a b ≡ true → Pair old new a b
  unfolding pairs Sound listed
  pairs_sound = closed_sound (length (all old new)) [] (λ a b l. absurd (false≢true l))

  -- ---- every pair is listed

  -- Rule 3 joins fitting edges of a listed pair that may go on.
  joined_at : (n n' e e' : ℕ) → source_at old e ≡ n → source_at new e' ≡ n' → listed (pairs old new) n n' ≡ true → goes_on old new (pairs old new) n n' ≡ true
      → fits old new e e' ≡ true → joined old new (pairs old new) e e' ≡ true
  joined_at n n' e e' a a' l g f = joined_of old new (pairs old new) e e' (rw (a, a') l) (rw (a, a') g) f

  -- The pairs are listed.
  pub pairs_complete : {a b : ℕ} → Pair old new a b → listed (pairs old new) a b ≡ true
  unfolding Stable
  pairs_complete first_entries =
      pairs_stable old new _ _ (grid_of _ _ _ _ (entry_is old wo 0 wo.begins).0 (entry_is new wn 0 wn.begins).0) (follows_start old new (pairs old new))
  pairs_complete (callee_entries {n = n} {n' = n'} p k k' i h x) =
      let e = entry_is old wo (called old n i) (called_below old wo n i) in
      let e' = entry_is new wn (called new n' i) (called_below new wn n' i) in
      pairs_stable old new _ _ (grid_of _ _ _ _ e.0 e'.0)
      (follows_call old new (pairs old new) n n' (pairs_complete p) k k' i h (exits_met_of old new (pairs old new) n n' i (λ j l. pairs_complete (x j l))))
  pairs_complete (edge_ends {n = n} {n' = n'} {e = e} {e' = e'} p x w t t' f) =
      let u = taken_at old n w e t in
      let u' = taken_at new n' w e' t' in
      pairs_stable old new _ _ (grid_of _ _ _ _ (wo.targets e u.0) (wn.targets e' u'.0))
      (follows_edge old new (pairs old new) e e' u.0 u'.0
      (joined_at n n' e e' u.1 u'.1 (pairs_complete p) (goes_on_of old new (pairs old new) n n' (λ k j l. pairs_complete (x k j l)))
      (fits_of old new e e' (opposite_of old new wo wn n n' e e' w t t') f)))

  -- The computed list holds just the pairs.
  pub smallest : (a b : ℕ) → (listed (pairs old new) a b ≡ true) ↔ Pair old new a b
  smallest a b = (pairs_sound a b, pairs_complete)

  -- Rule 3 joins by the list of pairs just the counterparts.
  pub joined_iff : (e e' : ℕ) → e < edge_count old → e' < edge_count new → (joined old new (pairs old new) e e' ≡ true) ↔ Counterparts old new e e'
  unfolding Sound
  joined_iff e e' h h' = (
    joined_sound (pairs old new) pairs_sound e e' h h',
    λ c. joined_at _ _ e e' refl refl (pairs_complete c.pair) (goes_on_of old new (pairs old new) _ _ (λ k j l. pairs_complete (c.may_go_on k j l)))
        (fits_of old new e e' (opposite_of old new wo wn _ _ e e' c.word c.old_takes c.new_takes) c.alike_ends),
  )

  -- An edge is dangerous, by edges: for some pair that may go on it is not fitted. Then it is an old edge.
  pub danger_of : (e n' : ℕ) → e < edge_count old → Pair old new (source_at old e) n' → MayGoOn old new (source_at old e) n' → fitted old new e n' ≡ false → Dangerous old new e
  unfolding fitted
  danger_of e n' h p g u =
      let w = unkept_at old new wo wn (alike old new) e n' h u in
      record { partner = n'; pair = p; may_go_on = g; word = w.0; old_takes = w.1; unfit = w.2 }

  pub danger_unfitted : {e : ℕ} (d : Dangerous old new e) → fitted old new e d.partner ≡ false
  unfolding fitted
  danger_unfitted {e} d = fails _ (λ t. let u = kept_at old new wo wn (alike old new) e d.partner t d.word d.old_takes in d.unfit u.0 u.1 u.2)

  -- The test of a dangerous edge passes just the dangerous ones.
  pub dangerous_iff : (e : ℕ) → e < edge_count old → (dangerous old new (pairs old new) e ≡ true) ↔ Dangerous old new e
  unfolding dangerous dangerous_at
  dangerous_iff e h = (there, back)
    where
      there : dangerous old new (pairs old new) e ≡ true → Dangerous old new e
      there d =
          let r = any_pair_at (dangerous_at old new (pairs old new) e) (pairs old new) d in
          let t = and_right _ _ r.3 in
          let s : source_at old e ≡ r.0 = eqb-true _ _ (and_left _ _ r.3) in
          danger_of e r.1 h (pairs_sound _ _ (ap (λ (n : ℕ). listed (pairs old new) n r.1) s ∙ r.2))
          (λ k j i. pairs_sound _ _ (goes_on_at old new (pairs old new) _ _ (ap (λ (n : ℕ). goes_on old new (pairs old new) n r.1) s ∙ and_left _ _ t) k j i))
          (isnt_true _ (and_right _ _ t))

      back : Dangerous old new e → dangerous old new (pairs old new) e ≡ true
      back d =
          any_pair_of (dangerous_at old new (pairs old new) e) (pairs old new) (source_at old e) d.partner (pairs_complete d.pair)
          (and_both (eqb_self (source_at old e))
          (and_both (goes_on_of old new (pairs old new) _ _ (λ k j l. pairs_complete (d.may_go_on k j l))) (true_isnt (danger_unfitted d))))

  -- The test of an edge at which the runs may part passes just these; the old edge is dangerous there, for a word for which the new one is taken.
  pub parted_danger : (e e' : ℕ) → e < edge_count old → e' < edge_count new → parted old new (pairs old new) e e' ≡ true
      → (d : Dangerous old new e) × (edge_taken new d.partner d.word ≡ some e')
  unfolding parted
  parted_danger e e' h h' t =
      let g = and_right _ _ t in
      let w = and_right _ _ g in
      let u = opposite_at old new wo wn e e' h h' (and_left _ _ w) in (
        record {
          partner = source_at new e';
          pair = pairs_sound _ _ (and_left _ _ t);
          may_go_on = λ k j i. pairs_sound _ _ (goes_on_at old new (pairs old new) _ _ (and_left _ _ g) k j i);
          word = u.0;
          old_takes = u.1;
          unfit = λ f q a.
              both_ways (subst (λ (y : ℕ). alike old new (target_at old e) (target_at new y) ≡ true) (some-injective f e' (sym q ∙ u.2)) a) (isnt_true _ (and_right _ _ w));
        },
        u.2,
      )

  parting_true : (e e' : ℕ) → e < edge_count old → e' < edge_count new → parted old new (pairs old new) e e' ≡ true → Parting old new e'
  parting_true e e' h h' t = let d = parted_danger e e' h h' t in record { cause = e; danger = d.0; taken = d.1 }

  parting_of : (e' : ℕ) (p : Parting old new e') → parted old new (pairs old new) p.cause e' ≡ true
  unfolding parted
  parting_of e' p =
      let d = p.danger in
      let f = taken_at new d.partner d.word e' p.taken in
      rw f.1
      (and_both (pairs_complete d.pair) (and_both (goes_on_of old new (pairs old new) _ _ (λ k j l. pairs_complete (d.may_go_on k j l)))
      (and_both (opposite_of old new wo wn _ _ p.cause e' d.word d.old_takes p.taken) (true_isnt (fails _ (λ a. d.unfit e' p.taken a))))))

  pub parting_new : {e' : ℕ} → Parting old new e' → e' < edge_count new
  parting_new {e'} p = (taken_at new _ _ e' p.taken).0

  parting_iff : (e' : ℕ) → e' < edge_count new → (parting old new (pairs old new) e' ≡ true) ↔ Parting old new e'
  unfolding parting
  parting_iff e' h = (
    λ t. let r = any_at (λ e. parted old new (pairs old new) e e') (edge_count old) t in parting_true r.0 e' r.1 h r.2,
    λ p. any_of_lem (λ e. parted old new (pairs old new) e e') (edge_count old) p.cause (danger_old old new p.danger) (parting_of e' p),
  )

  -- The computed probes are just the edges that need one; the computed old edges after a danger are just these.
  pub probes_iff : (e' : ℕ) → (has (probes old new) e' ≡ true) ↔ Probe old new e'
  unfolding probes
  probes_iff = after_iff new wn (parting old new (pairs old new)) (Parting old new) (λ e h. (parting_iff e h).0) (λ e p. (parting_new p, (parting_iff e (parting_new p)).1 p))

  pub after_dangers_iff : (e : ℕ) → (has (after_dangers old new) e ≡ true) ↔ AfterDanger old new e
  unfolding after_dangers
  after_dangers_iff = after_iff old wo (dangerous old new (pairs old new)) (Dangerous old new) (λ e h. (dangerous_iff e h).0) (λ e d. (danger_old old new d, (dangerous_iff e (danger_old old new d)).1 d))

  -- The listed dangers are just the dangerous edges.
  pub dangers_iff : (e : ℕ) → (has (dangers old new) e ≡ true) ↔ Dangerous old new e
  unfolding dangers
  dangers_iff e = (
    λ t. let r = those_at _ _ e t in (dangerous_iff e r.0).0 r.1,
    λ d. those_of _ _ e (danger_old old new d) ((dangerous_iff e (danger_old old new d)).1 d),
  )

  -- The repeated tests are just those whose coverage holds a dangerous edge.
  pub repeated_iff : (suite : List Coverage) (i : ℕ)
      → (has (repeated old new suite) i ≡ true) ↔ ((i < length suite) × (e : ℕ) × Dangerous old new e × (holds (get_or suite i []) e ≡ true))
  unfolding repeated meets
  repeated_iff suite i = (
    λ t. let r = those_at _ _ i t in let a = any_of_at _ _ r.1 in (r.0, a.0, (dangers_iff a.0).0 a.1, a.2),
    λ w. those_of _ _ i w.0 (any_of_of _ _ w.1 ((dangers_iff w.1).1 w.2) w.3),
  )

  -- ---- what the selector writes passes the check

  -- Entries are alike.
  entries_alike : (q q' : ℕ) → q < proc_count old → q' < proc_count new → alike old new (entry old q) (entry new q') ≡ true
  unfolding filled
  entries_alike q q' h h' =
      let i = entry_is old wo q h in
      let i' = entry_is new wn q' h' in
      let f : filled E (label_at old (entry old q)) (callee_at old (entry old q)) ≡ true = rw i.2 at (wo.fields _ i.0) in
      let f' : filled E (label_at new (entry new q')) (callee_at new (entry new q')) ≡ true = rw i'.2 at (wn.fields _ i'.0) in
      alike_bare old new _ _ (i.2 ∙ sym i'.2) (empty_true _ (and_left _ _ f)) (empty_true _ (and_left _ _ f')) (empty_true _ (and_right _ _ f)) (empty_true _ (and_right _ _ f'))

  pub pair_alike : {a b : ℕ} → Pair old new a b → alike old new a b ≡ true
  pair_alike first_entries = entries_alike 0 0 wo.begins wn.begins
  pair_alike (callee_entries {n = n} {n' = n'} p k k' i h x) = entries_alike _ _ (called_below old wo n i) (called_below new wn n' i)
  pair_alike (edge_ends p x w t t' f) = f

  -- For an old edge that is not dangerous, the new node of a pair that may go on has an edge that fits.
  safe_fitted : (n n' : ℕ) → listed (pairs old new) n n' ≡ true → goes_on old new (pairs old new) n n' ≡ true → (e : ℕ) → source_at old e ≡ n
      → dangerous old new (pairs old new) e ≡ false → fitted old new e n' ≡ true
  unfolding dangerous dangerous_at
  safe_fitted n n' l g e s u =
      ⊎_elim (λ t. t)
      (λ f. absurd (both_ways (any_pair_of (dangerous_at old new (pairs old new) e) (pairs old new) n n' l (and_both (eq-eqb _ _ s) (and_both g (true_isnt f)))) u))
      (passes? (fitted old new e n'))

  module _ (suite : List Coverage) where
    passes1 : rule1 old new (selected old new suite) ≡ true
    unfolding rule1 selected
    passes1 = pairs_complete first_entries

    passes2 : rule2 old new (selected old new suite) ≡ true
    unfolding rule2 selected
    passes2 = all_pairs_of (alike old new) (pairs old new) (λ n n' l. pair_alike (pairs_sound n n' l))

    passes3 : rule3 old new (selected old new suite) ≡ true
    unfolding rule3 entered both_call selected
    passes3 =
        all_pairs_of (entered old new (selected old new suite)) (pairs old new) (λ n n' l. implies _ _ (λ k.
        every_of _ (callee_count old n) (λ i h. implies _ _ (λ x.
        pairs_complete (callee_entries (pairs_sound n n' l) (same_kind_true _ _ (and_left _ _ k)) (same_kind_true _ _ (and_right _ _ k)) i h
        (λ j g. pairs_sound _ _ (exits_met_at old new (pairs old new) n n' i x j g)))))))

    -- Where every word for which an old edge is taken gives alike ends, these are pairs.
    edge_kept_lem : (n n' : ℕ) → listed (pairs old new) n n' ≡ true → goes_on old new (pairs old new) n n' ≡ true → (e : ℕ) → e < edge_count old → source_at old e ≡ n
        → (dangerous old new (pairs old new) e ≡ true) ⊎ (dangerous old new (pairs old new) e ≡ false)
        → (has (dangers old new) e or kept_by old new (listed (pairs old new)) e n') ≡ true
    unfolding dangers fitted
    edge_kept_lem n n' l g e h s (inl d) = or_left _ (those_of _ _ e h d)
    edge_kept_lem n n' l g e h s (inr d) =
        or_right _ (kept_of old new wo wn (listed (pairs old new)) e n' h (λ w t.
        let r = kept_at old new wo wn (alike old new) e n' (safe_fitted n n' l g e s d) w t in (
          r.0,
          r.1,
          pairs_complete (edge_ends (pairs_sound n n' l) (λ k j i. pairs_sound _ _ (goes_on_at old new (pairs old new) n n' g k j i)) w
              (ap (λ (m : ℕ). edge_taken old m w) (sym s) ∙ t) r.1 r.2),
        )))

    passes4 : rule4 old new (selected old new suite) ≡ true
    unfolding rule4 edges_kept edge_kept selected
    passes4 =
        all_pairs_of (edges_kept old new (selected old new suite)) (pairs old new) (λ n n' l. implies _ _ (λ g.
        every_of (edge_kept old new (selected old new suite) n n') (edge_count old) (λ e h. implies _ _ (λ s.
        edge_kept_lem n n' l g e h (eqb-true _ _ s) (passes? (dangerous old new (pairs old new) e))))))

    passes5 : rule5 suite (selected old new suite) ≡ true
    unfolding rule5 selected repeated
    passes5 = every_of _ (length suite) (λ i h. implies _ _ (λ t. those_of (λ i. meets (dangers old new) (get_or suite i [])) (length suite) i h t))

    -- T2. What the selector writes passes the check.
    pub selected_passes : broken old new suite (selected old new suite) ≡ 0
    unfolding broken
    selected_passes =
        none_failed 1 _ passes1 (none_failed 2 _ passes2 (none_failed 3 _ passes3 (none_failed 4 _ passes4 (none_failed 5 _ passes5 (none_left 6)))))

-- ---- exactly the closing rules

pub exact : (old new : Program) → WellFormed old → WellFormed new → Exact old new
exact old new wo wn =
    record {
      pairs_are = smallest old new wo wn;
      pairs_ascend = pairs_ascend old new;
      smallest = λ P r1 r2 r3 {n} {n'} p. least old new P r1 r2 r3 p;
      dangers_are = dangers_iff old new wo wn;
      dangers_rise = dangers_rise old new;
      probes_are = probes_iff old new wo wn;
      probes_rise = probes_rise old new;
      after_are = after_dangers_iff old new wo wn;
      counterparts_are = joined_iff old new wo wn;
      repeated_are = repeated_iff old new wo wn;
    }
