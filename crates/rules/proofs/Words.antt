-- Definitions by computation in the document's words: look-ups, meanings, alike, the five rules of the check, left off.
use Rattle.std.specs.Prelude.{◌≡◌, refl, Bool, true, List, [], ◌∷◌, ◌++◌, ℕ, ◌≤◌, ◌<◌, length, get_or}
use Rattle.std.proofs.Common.{sym, ap, ◌∙◌, subst, inl, inr, ⊎_elim, true≢false, arith, eqb-true, eq-eqb, le-leb}
use Rattle.std.proofs.Math.Option.{Option, none, some, none-ne-some, some-injective}
use Rattle.laws.specs.Tests.{◌and◌, every, has, listed}
use Rattle.laws.specs.TestLaws.{and_left, and_right, and_both, implied, implies, or_cases, or_left, or_right, every_at, every_of, passes?, any_of_of, any_of_at, all_pairs_at, all_pairs_of, both_ways, fails, isnt_true, true_isnt}
use Rattle.rules.specs.Text.{Bytes, between, is_callees, is_name, join_by, lines_of, name_count, name_in, names_in, squeezed}
use Rattle.rules.specs.Graph.{Program, WellFormed, X, callee_at, callee_count, called, edge_count, edge_taken, edge_with, exit, is_of, kind_at, node_count, or_zero, owner_at, proc_count, star}
use Rattle.rules.specs.ProgramFile.{is_node}
use Rattle.rules.specs.Run.{Meaning}
use Rattle.rules.specs.Closing.{Coverage, both_call, exits_met, goes_on, holds, meets}
use Rattle.rules.specs.Sheet.{Sheet, among, left_off, r_text}
use Rattle.rules.specs.Check.{entered, entered_at, edge_kept, edges_kept, rule1, rule2, rule3, rule4, rule5}
use Rattle.rules.specs.Promises.{AlikeExact, CalleesExact, LeftOffExact, Lookups, MeaningsFree, RulesExact, Takes}
use Rattle.rules.proofs.ClosingLaws.{alike_is, kept_at, kept_of, same_label_true}
use Rattle.rules.proofs.GraphLaws.{called_below, called_name, edge_is, entry_is, first_found, is_of_true, its_edge, same_kind_of, same_kind_true, taken_at, taken_else, taken_with, with_at, with_is}
use Rattle.rules.proofs.SheetLaws.{among_here, among_later}
use Rattle.rules.proofs.TextLaws.{between_at, join_split, names_free, same_true, split_join}
use Rattle.rules.proofs.WriteProgram.{reads_layout}

-- ---- look-ups

exit_found : (p : Program) → WellFormed p → (q : ℕ) → q < proc_count p → (exit p q < node_count p) × (owner_at p (exit p q) ≡ q) × (kind_at p (exit p q) ≡ X)
unfolding exit or_zero
exit_found p wf q h =
    let r = first_found (node_count p) (is_of p q X) (wf.exits q h) in
    let s = is_of_true p q X r.0 r.2 in
    rw r.4 (r.1, s.0, s.1)

module _ (p : Program) (wf : WellFormed p) (n : ℕ) (w : Bytes) (e : ℕ) where
  takes_at : edge_taken p n w ≡ some e → Takes p n w e
  takes_at h = go (edge_with p n w) refl
    where
      go : (o : Option ℕ) → edge_with p n w ≡ o → Takes p n w e
      go (some f) q =
          let r = with_at p n w f q in
          let t : Takes p n w f = (r.0, r.1, inl r.2) in
          subst (Takes p n w) (some-injective _ _ (sym (taken_with p n w f q) ∙ h)) t
      go none q =
          let r = with_at p n star e (sym (taken_else p n w q) ∙ h) in
          (r.0, r.1, inr (r.2, λ f l a b. none-ne-some f (sym q ∙ with_is p wf f n w l a b)))

  takes_of : Takes p n w e → edge_taken p n w ≡ some e
  takes_of (l, a, inl b) = edge_is p wf e n w l a b
  takes_of (l, a, inr (b, x)) = go (edge_with p n w) refl
    where
      go : (o : Option ℕ) → edge_with p n w ≡ o → edge_taken p n w ≡ some e
      go none q = taken_else p n w q ∙ with_is p wf e n star l a b
      go (some f) q = let r = with_at p n w f q in absurd (x f r.0 r.1 r.2)

pub lookups : (p : Program) → WellFormed p → Lookups p
lookups p wf =
    record {
      entry_is = entry_is p wf;
      exit_is = exit_found p wf;
      called_is = λ n h k i l. (called_below p wf n i, called_name p wf n i h k l);
      taken_is = λ n w e. (takes_at p wf n w e, takes_of p wf n w e);
      its_edge_there = λ n h k. let i = its_edge p wf n h k in (i.0, i.1);
      its_edge_is = λ n h k e.
          let i = its_edge p wf n h k in
          (λ t. let u = taken_at p n _ e t in (u.0, u.1), λ t. i.1 ∙ ap some (sym (i.2 e t.0 t.1)));
    }

callees_taken : (names : List Bytes) → 1 ≤ length names → length names ≤ 4 → ((i : ℕ) → i < length names → is_name (get_or names i []) ≡ true) → is_callees (join_by 43 names) ≡ true
unfolding is_callees name_count name_in between
callees_taken [] a b h = absurd (let z : ⊥ = omega arith in z)
callees_taken (p ∷ ps) a b h =
    subst (λ (ns : List Bytes). (between 1 4 (length ns) and every (length ns) (λ i. is_name (get_or ns i []))) ≡ true) (sym (split_join 43 p ps (names_free 43 (p ∷ ps) (omega arith) h)))
    (and_both (and_both (le-leb 1 _ a) (le-leb _ 4 b)) (every_of (λ i. is_name (get_or (p ∷ ps) i [])) (length (p ∷ ps)) h))

pub callees_exact : CalleesExact
unfolding is_callees name_count name_in is_node
callees_exact =
    record {
      named = λ text p e n h k.
          let c : is_callees (callee_at p n) ≡ true = and_right _ _ (rw k at (((reads_layout text p).0 e).0.node_forms n h)) in
          let s = between_at 1 4 _ (and_left _ _ c) in (
            names_in (callee_at p n),
            sym (join_split 43 (callee_at p n)),
            refl,
            s.0,
            s.1,
            λ i l. (every_at (λ i. is_name (name_in (callee_at p n) i)) (name_count (callee_at p n)) (and_right _ _ c) i l, refl),
          );
      taken = callees_taken;
    }

-- ---- meanings

-- The meaning of these actions, each taken of what is left of the label.
abbrev pub meaning_by {ℓ κ} : {St : Type ℓ} {Out : Type κ} → (Bytes → St → St) → (Bytes → St → Out) → (Bytes → St → Bytes) → Meaning St Out
meaning_by next out word =
    record {
      next = λ l s. next (squeezed l) s;
      out = λ l s. out (squeezed l) s;
      word = λ l s. word (squeezed l) s;
      matching = λ l l' h s.
          let e = same_label_true l l' h in
          (ap (λ (t : Bytes). next t s) e, ap (λ (t : Bytes). out t s) e, ap (λ (t : Bytes). word t s) e);
    }

pub meanings_free {ℓ κ} : (St : Type ℓ) (Out : Type κ) → MeaningsFree St Out
meanings_free St Out next out word = (meaning_by next out word, λ l s. (refl, refl, refl))

-- ---- alike, and the rules of the check

pub alike_exact : (old new : Program) → AlikeExact old new
alike_exact = alike_is

-- The exits of the callees j are listed.
abbrev exits_at : Program → Program → Sheet → ℕ → ℕ → ℕ → Bool
exits_at old new c n n' j = listed c.M (exit old (called old n j)) (exit new (called new n' j))

pub rules_exact : (old new : Program) → WellFormed old → WellFormed new → (suite : List Coverage) (c : Sheet) → RulesExact old new suite c
unfolding rule1 rule2 rule3 rule4 rule5 entered exits_met both_call edges_kept edge_kept goes_on meets
rules_exact old new wo wn suite c =
    record {
      first_listed = (λ h. h, λ h. h);
      pairs_alike = (λ h. all_pairs_at _ c.M h, λ h. all_pairs_of _ c.M h);
      callees_listed = (
        λ h n n' l k k' i b m. implied _ _ (every_at (entered_at old new c.M n n') (callee_count old n) (implied _ _ (all_pairs_at (entered old new c) c.M h n n' l) (and_both (same_kind_of k) (same_kind_of k'))) i b) (every_of (exits_at old new c n n') i m),
        λ h. all_pairs_of (entered old new c) c.M (λ n n' l. implies _ _ (λ b.
            every_of (entered_at old new c.M n n') (callee_count old n) (λ i u. implies _ _ (λ m. h n n' l (same_kind_true _ _ (and_left _ _ b)) (same_kind_true _ _ (and_right _ _ b)) i u (every_at (exits_at old new c n n') i m))))),
      );
      edges_kept = (
        λ h n n' l g w e t.
            let r = taken_at old n w e t in
            let k = every_at (edge_kept old new c n n') (edge_count old) (implied _ _ (all_pairs_at (edges_kept old new c) c.M h n n' l) (implies _ _ (λ k. every_of (exits_at old new c n n') (callee_count old n) (g (same_kind_true _ _ k))))) e r.0 in
            ⊎_elim (λ d. inl d)
            (λ a. inr (kept_at old new wo wn (listed c.M) e n' a w (ap (λ (i : ℕ). edge_taken old i w) r.1 ∙ t)))
            (or_cases _ _ (implied _ _ k (eq-eqb _ _ r.1))),
        λ h. all_pairs_of (edges_kept old new c) c.M (λ n n' l. implies _ _ (λ g.
            every_of (edge_kept old new c n n') (edge_count old) (λ e b. implies _ _ (λ s.
            ⊎_elim (λ d. or_left _ d)
            (λ d.
            or_right _ (kept_of old new wo wn (listed c.M) e n' b (λ w t.
            ⊎_elim (λ x. absurd (both_ways x d)) (λ x. x)
            (h n n' l (λ k. every_at (exits_at old new c n n') (callee_count old n) (implied _ _ g (same_kind_of k))) w e (ap (λ (i : ℕ). edge_taken old i w) (sym (eqb-true _ _ s)) ∙ t)))))
            (passes? (has c.D e)))))),
      );
      tests_listed = (
        λ h i b e d p. implied _ _ (every_at _ _ h i b) (any_of_of (holds (get_or suite i [])) c.D e d p),
        λ h. every_of _ (length suite) (λ i b. implies _ _ (λ m. let r = any_of_at (holds (get_or suite i [])) c.D m in h i b r.0 r.1 r.2)),
      );
    }

-- ---- left off

among_at : (ls : List Bytes) (l : Bytes) → among ls l ≡ true → (a b : List Bytes) × (ls ≡ a ++ (l ∷ b))
unfolding among
among_at [] l e = absurd (true≢false (sym e))
among_at (m ∷ ls) l e =
    ⊎_elim (λ p. ([], ls, ap (λ (x : Bytes). x ∷ ls) (same_true m l p))) (λ p. let u = among_at ls l p in (m ∷ u.0, u.1, ap (λ (x : List Bytes). m ∷ x) u.2)) (or_cases _ _ e)

pub left_off_exact : LeftOffExact
unfolding left_off
left_off_exact sheet name = (
  λ h ls ms e. both_ways (subst (λ (x : List Bytes). among x (r_text name) ≡ true) (sym e) (among_later ls _ _ (among_here (r_text name) ms))) (isnt_true _ h),
  λ h. true_isnt (fails _ (λ t. let u = among_at (lines_of sheet) (r_text name) t in h u.0 u.1 u.2)),
)
