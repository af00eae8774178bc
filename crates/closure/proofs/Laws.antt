-- The returns of the functions that add a pair, as `search` finds them: the premises are what the code holds there.
use mathlib.Core.Path.{◌≡◌, refl, sym, ap₂, ◌∙◌}
use mathlib.Core.Logic.{⊎_elim}
use mathlib.Core.Bool.{Bool, true, false}
use mathlib.Core.List.{List}
use Prim.Native.Nat.{ℕ, suc, ◌+◌, ◌≤◌, ◌<◌}
use native.Mathlib.Omega.{arith}
use borrow.Author.Tests.{eqb-true, eq-eqb}
use lib.Dec.{eqb}
use lib.ListN.{get_or}
use Rattle.laws.specs.Tests.{◌and◌, ◌⇒◌, listed, some?}
use Rattle.laws.specs.TestLaws.{and_both, and_fails, and_left, and_right, both_ways, every_at, every_not, fails, implied, isnt_false, isnt_true, unimplied}
use Rattle.rules.specs.Graph.{Program, edge_count, edge_taken, entry, node_count, source_at, target_at, word_at}
use Rattle.rules.specs.Closing.{Pair, alike, edge_ends, fitted, kept_by, opposite}
use Rattle.rules.specs.ProgramFile.{Listing}
use Rattle.rules.proofs.Closure.{danger_of, pair_alike}
use Rattle.rules.proofs.ClosingLaws.{fits_ends, fits_word, opposite_at}
use Rattle.graph.specs.Table.{edge_base, proc_base}
use Rattle.pairset.specs.Store.{Appended, DangerMarked, Has, pairs_in}
use Rattle.versions.specs.Memory.{InMemory, Memory}
use Rattle.versions.specs.MemoryLaws.{entry_is, exit_is, sound, target_is, well_formed}
use Rattle.versions.specs.Claims.{Alike}
use Rattle.versions.specs.Opposite.{WordLost}
use Rattle.versions.specs.Groups.{InGroups, Known}
use Rattle.closure.specs.State.{CalleeDone, EdgeDone, EndsDone, EntriesDone, Formed, LostDone, State, Step}
use Rattle.closure.specs.Step.{pair_inside, step_map, step_mark, step_more, step_none, step_over, step_past, step_shows}
use Rattle.closure.specs.Claims.{AddsEntries, EntersCallee, Grows, MarksLost, Sized, TriesEnds}

-- Programs in memory are well-formed, and their nodes and edges have heads and bits.
pub formed_in : (a b : Memory) (o p : Listing) → InMemory a o → InMemory b p → Formed o.program p.program
formed_in a b o p h g = record { old_formed = well_formed a o h; new_formed = well_formed b p g; few = (sound a o h).few_nodes; few_new = (sound b p g).few_nodes; few_edges = (sound a o h).few_edges }

-- ---- `grow`

module _ (limit : ℕ) (w : List ℕ) (c a b : ℕ) where
  pub grow_full : limit ≤ c → Sized w w (Grows limit w c a b w (suc limit))
  unfolding Grows
  grow_full h = record { size = refl; claim = λ old new f s p n. step_over f s p n h }

  pub grow_more : (v : List ℕ) → c < limit → Appended w c a b v → Sized w v (Grows limit w c a b v (c + 1))
  unfolding Grows
  grow_more v h x = record { size = x.size; claim = λ old new f s p n. step_more f s p n h x }

pub ruleset grows = (grow_full, grow_more)

-- ---- `add_entries`, `enter_callee`

module _ (mo mn : Memory) (limit : ℕ) (w : List ℕ) (c q k : ℕ) where
  abbrev entry_old : ℕ
  entry_old = get_or mo.links (proc_base q + 5) 0

  abbrev entry_new : ℕ
  entry_new = get_or mn.links (proc_base k + 5) 0

  -- The entries are a pair, by whatever step.
  entries_listed : (v : List ℕ) (r : ℕ)
      → ((old new : Program) → Formed old new → State old new limit w c → (c ≤ limit → Pair old new entry_old entry_new) → Step old new limit w c (λ M _. listed M entry_old entry_new ≡ true) v r)
      → AddsEntries mo mn limit w c q k v r
  unfolding AddsEntries EntriesDone
  entries_listed v r x o p h g s i j y =
      let m : entry_old ≡ entry o.program q = entry_is mo o h q i in
      let n : entry_new ≡ entry p.program k = entry_is mn p g k j in
      step_map (λ t. rw (← m, ← n) t) (x o.program p.program (formed_in _ _ o p h g) s (λ few. rw (m, n) (y few)))

  pub entries_there : Has w (get_or mo.links (proc_base q + 5) 0) (get_or mn.links (proc_base k + 5) 0) true → Sized w w (AddsEntries mo mn limit w c q k w c)
  unfolding Has
  entries_there is = record { size = refl; claim = entries_listed w c (λ old new f s p. step_none s (λ h. sym (is c (s.kept h).store))) }

  pub entries_more : (v : List ℕ) (r : ℕ) → Has w (get_or mo.links (proc_base q + 5) 0) (get_or mn.links (proc_base k + 5) 0) false
      → Sized w v (Grows limit w c (get_or mo.links (proc_base q + 5) 0) (get_or mn.links (proc_base k + 5) 0) v r) → Sized w v (AddsEntries mo mn limit w c q k v r)
  unfolding Has Grows
  entries_more v r is x =
      record { size = x.size; claim = entries_listed v r (λ old new f s p. x.claim old new f s p (λ h. sym (is c (s.kept h).store))) }

  pub callee_done : (v : List ℕ) (r : ℕ) (z : Bool) → Sized w v (AddsEntries mo mn limit w c q k v r)
      → Has v (get_or mo.links (proc_base q + 6) 0) (get_or mn.links (proc_base k + 6) 0) z → Sized w v (EntersCallee mo mn limit w c q k v r z)
  unfolding AddsEntries EntersCallee EntriesDone CalleeDone Has
  callee_done v r z x is =
      record {
        size = x.size;
        claim = λ o p h g s i j y.
            let a = x.claim o p h g s i j y in
            step_shows a (λ l. (a.done l, is r (a.state.kept l).store ∙ ap₂ (listed (pairs_in v r)) (exit_is mo o h q i) (exit_is mn p g k j)));
      }

  -- There are more pairs than the limit.
  pub callee_past : (v : List ℕ) → Sized w v (AddsEntries mo mn limit w c q k v (suc limit)) → Sized w v (EntersCallee mo mn limit w c q k v (suc limit) true)
  unfolding AddsEntries EntersCallee
  callee_past v x = record { size = x.size; claim = λ o p h g s i j y. step_past (x.claim o p h g s i j y) }

pub ruleset entries = (entries_there, entries_more)

pub ruleset callees = (callee_done, callee_past)

-- ---- an old edge e and a new node m

module _ (old new : Program) (e m : ℕ) where
  -- It is done if it is for the word of e and for each opposite edge.
  pub edge_done : (M : List (ℕ × ℕ)) (S : ℕ → Bool) → LostDone old new e m M S
      → ((f : ℕ) → f < edge_count new → source_at new f ≡ m → opposite old new e f ≡ true → EndsDone old new e f M S) → EdgeDone old new e m M S
  unfolding LostDone fitted kept_by
  edge_done M S lost each =
      record {
        ends = λ f l s t. (each f l s (fits_word old new e f t)).ends (fits_ends old new e f t);
        danger = λ u.
            ⊎_elim lost
            (λ t.
            let r = every_not (λ f. eqb (source_at new f) m and opposite old new e f ⇒ alike old new (target_at old e) (target_at new f)) (edge_count new) t in
            let x = unimplied _ _ r.2 in
            (each r.0 r.1 (eqb-true _ _ (and_left _ _ x.0)) (and_right _ _ x.0)).danger x.1)
            (and_fails _ _ u);
      }

  -- What makes it dangerous: no edge is taken for its word, or an opposite edge has an end that is not alike.
  lost_unfitted : some? (edge_taken new m (word_at old e)) ≡ false → fitted old new e m ≡ false
  unfolding fitted kept_by
  lost_unfitted u = fails _ (λ t. both_ways (and_left _ _ t) u)

  ends_unfitted : (f : ℕ) → f < edge_count new → source_at new f ≡ m → opposite old new e f ≡ true → alike old new (target_at old e) (target_at new f) ≡ false → fitted old new e m ≡ false
  unfolding fitted kept_by
  ends_unfitted f l s x u =
      fails _ (λ t.
      both_ways
      (implied _ _ (every_at (λ f. eqb (source_at new f) m and opposite old new e f ⇒ alike old new (target_at old e) (target_at new f)) (edge_count new) (and_right _ _ t) f l)
      (and_both (eq-eqb _ _ s) x)) u)

-- ---- `mark_lost`

module _ (mo mn : Memory) (w : List ℕ) (e m last : ℕ) where
  pub lost_marked : (v : List ℕ) → WordLost mo.links mn.links e m last true → DangerMarked w e v → Sized w v (MarksLost mo mn w e m last v)
  unfolding MarksLost WordLost LostDone
  lost_marked v is k =
      record {
        size = k.size;
        claim = λ o p h g limit c s i z x q.
            let f = formed_in _ _ o p h g in
            let u = isnt_true _ (sym (is mo.text mo.nodes mn.text mn.nodes o p h g i (pair_inside f z).1 q)) in
            step_mark f s (danger_of o.program p.program f.old_formed f.new_formed e m i z x (lost_unfitted o.program p.program e m u)) k (λ _ d _. d);
      }

  pub lost_none : WordLost mo.links mn.links e m last false → Sized w w (MarksLost mo mn w e m last w)
  unfolding MarksLost WordLost LostDone
  lost_none is =
      record {
        size = refl;
        claim = λ o p h g limit c s i z x q.
            let f = formed_in _ _ o p h g in
            step_none s (λ _ u. absurd (both_ways (isnt_false _ (sym (is mo.text mo.nodes mn.text mn.nodes o p h g i (pair_inside f z).1 q))) u));
      }

pub ruleset losts = (lost_marked, lost_none)

-- ---- `try_ends`

module _ (mo mn : Memory) (groups : List ℕ) (limit : ℕ) (w : List ℕ) (c e f : ℕ) where
  abbrev old_end : ℕ
  old_end = get_or mo.links (edge_base e + 3) 0

  abbrev new_end : ℕ
  new_end = get_or mn.links (edge_base f + 3) 0

  pub ends_there : Has w (get_or mo.links (edge_base e + 3) 0) (get_or mn.links (edge_base f + 3) 0) true → Sized w w (TriesEnds mo mn groups limit w c e f w c)
  unfolding TriesEnds Has
  ends_there has =
      record {
        size = refl;
        claim = λ o p h g s i j k z x.
            let fm = formed_in _ _ o p h g.memory in
            let m : old_end ≡ target_at o.program e = target_is mo o h e i in
            let n : new_end ≡ target_at p.program f = target_is mn p g.memory f j in
            step_none s (λ l.
            let there : listed (pairs_in w c) (target_at o.program e) (target_at p.program f) ≡ true = rw (← m, ← n) (sym (has c (s.kept l).store)) in
            record {
              ends = λ _. there;
              danger = λ u. absurd (both_ways (pair_alike o.program p.program fm.old_formed fm.new_formed ((s.kept l).sound _ _ there)) u);
            });
      }

  -- The ends, which are no pair yet and alike, become one.
  ends_grown : (v : List ℕ) (r : ℕ) → Has w old_end new_end false
      → ((o p : Listing) → InMemory mo o → InGroups mn groups p → State o.program p.program limit w c → old_end < node_count o.program → new_end < node_count p.program
      → c ≤ limit → alike o.program p.program old_end new_end ≡ true)
      → Sized w v (Grows limit w c old_end new_end v r) → Sized w v (TriesEnds mo mn groups limit w c e f v r)
  unfolding TriesEnds Grows Has
  ends_grown v r has like q =
      record {
        size = q.size;
        claim = λ o p h g s i j k z x.
            let fm = formed_in _ _ o p h g.memory in
            let m : old_end ≡ target_at o.program e = target_is mo o h e i in
            let n : new_end ≡ target_at p.program f = target_is mn p g.memory f j in
            let word = opposite_at o.program p.program fm.old_formed fm.new_formed e f i j k in
            let alike_ends : c ≤ limit → alike o.program p.program (target_at o.program e) (target_at p.program f) ≡ true
            = λ l. rw (← m, ← n) (like o p h g s (rw m (fm.old_formed.targets e i)) (rw n (fm.new_formed.targets f j)) l) in
            let grown = q.claim o.program p.program fm s (λ l. rw (m, n) (edge_ends {e = e} {e' = f} z x word.0 word.1 word.2 (alike_ends l)))
            (λ l. sym (has c (s.kept l).store)) in
            step_shows grown (λ l. record { ends = λ _. rw (← m, ← n) (grown.done l); danger = λ u. absurd (both_ways (alike_ends (omega (arith, grown.more))) u) });
      }

  module _ (v : List ℕ) where
    pub ends_unlike : Alike mo mn (get_or mo.links (edge_base e + 3) 0) (get_or mn.links (edge_base f + 3) 0) false → DangerMarked w e v
        → Sized w v (TriesEnds mo mn groups limit w c e f v c)
    unfolding TriesEnds Alike
    ends_unlike like q =
        record {
          size = q.size;
          claim = λ o p h g s i j k z x.
              let fm = formed_in _ _ o p h g.memory in
              let m : old_end ≡ target_at o.program e = target_is mo o h e i in
              let n : new_end ≡ target_at p.program f = target_is mn p g.memory f j in
              let unlike : alike o.program p.program (target_at o.program e) (target_at p.program f) ≡ false
              = rw (← m, ← n) (sym (like o p h g.memory (rw m (fm.old_formed.targets e i)) (rw n (fm.new_formed.targets f j)))) in
              step_mark fm s
              (danger_of o.program p.program fm.old_formed fm.new_formed e _ i z x (ends_unfitted o.program p.program e _ f j refl k unlike)) q
              (λ _ t. record { ends = λ v. absurd (both_ways v unlike); danger = λ _. t });
        }

    module _ (r : ℕ) (has : Has w (get_or mo.links (edge_base e + 3) 0) (get_or mn.links (edge_base f + 3) 0) false)
        (q : Sized w v (Grows limit w c (get_or mo.links (edge_base e + 3) 0) (get_or mn.links (edge_base f + 3) 0) v r)) where
      pub ends_new : Alike mo mn (get_or mo.links (edge_base e + 3) 0) (get_or mn.links (edge_base f + 3) 0) true → Sized w v (TriesEnds mo mn groups limit w c e f v r)
      unfolding Alike
      ends_new like = ends_grown v r has (λ o p h g s i j l. sym (like o p h g.memory i j)) q

      pub ends_known : Known w groups (get_or mo.links (edge_base e + 3) 0) (get_or mn.links (edge_base f + 3) 0) true → Sized w v (TriesEnds mo mn groups limit w c e f v r)
      unfolding Known
      ends_known known =
          ends_grown v r has
          (λ o p h g s i j l.
          let fm = formed_in _ _ o p h g.memory in
          known o.program p.program c (s.kept l).store g.groups
          (λ x z k. let pair = (s.kept l).sound x z k in (pair_alike o.program p.program fm.old_formed fm.new_formed pair, (pair_inside fm pair).1)) j refl) q

pub ruleset ends = (ends_there, ends_known, ends_unlike, ends_new)
