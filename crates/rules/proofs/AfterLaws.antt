-- What lies after an edge: the computed edges are just those of the definition, and a run that is to cross such an edge crosses none but such edges from then on.
use Rattle.std.specs.Prelude.{◌≡◌, ◌↔◌}
use Rattle.std.proofs.Math.Path.{refl, subst}
use Rattle.std.proofs.Common.{sym, ap, ◌∙◌, ⊎_elim, arith}
use Rattle.std.proofs.Math.Bool.{Bool, true, false}
use Rattle.std.proofs.Math.Option.{Option, none, some, none-ne-some}
use mathlib.Core.List.{List, [], ◌∷◌, ◌++◌}
use Prim.Native.Nat.{ℕ, zero, suc, ◌≤◌, ◌<◌}
use Rattle.std.proofs.Math.Dec.{eqb}
use borrow.Author.Tests.{eqb-true, eq-eqb, ltb-true}
use Rattle.laws.specs.Tests.{◌and◌, after, any, choose, has}
use Rattle.laws.specs.TestLaws.{and_left, and_right, and_both, both_ways, has_append, none_has, one_has, count_none, any_at, any_of_lem, fails}
use Rattle.laws.specs.Lists.{choose_no, choose_yes}
use Rattle.laws.specs.Reach.{reached_iff}
use Rattle.rules.specs.Text.{Bytes}
use Rattle.rules.specs.Graph.{Kind, E, S, C, X, Program, WellFormed, called, callee_at, callee_count, dash, degree, edge_count, edge_taken, entry, its_edge, kind_at, label_at, node_count, owner_at, same_kind, source_at, target_at}
use Rattle.rules.specs.Run.{Config, Meaning, OpenCall, across, another, calling, crossing, edge_ahead, list_of, step, step_at, trail}
use Rattle.rules.specs.After.{After, Leads, leaves_end, enters_callee, leaves_callee, edges_after, resumes_at, goes_on_from, leads}
use Rattle.rules.proofs.GraphLaws.{same_kind_of, same_kind_true, some_name, taken_at, entry_is, called_below}

-- ---- by computation

not_call : {k : Kind} → same_kind k C ≡ false → k ≡ C → ⊥
not_call f e = both_ways (same_kind_of e) f

module _ (p : Program) where
  leads_true : (e f : ℕ) → f < edge_count p → leads p e f ≡ true → Leads p e f
  unfolding leads goes_on_from same_kind
  leads_true e f h t = go (kind_at p (target_at p e)) refl t
    where
      called_at : ℕ → ℕ → Bool
      called_at k i = eqb (called p k i) (owner_at p (target_at p e)) and eqb (source_at p f) (resumes_at p k i)

      go : (k : Kind) → kind_at p (target_at p e) ≡ k → goes_on_from p k (target_at p e) (source_at p f) ≡ true → Leads p e f
      go E k t = leaves_end h (λ c. not_call {k = E} refl (sym k ∙ c)) (eqb-true _ _ t)
      go S k t = leaves_end h (λ c. not_call {k = S} refl (sym k ∙ c)) (eqb-true _ _ t)
      go C k t = enters_callee h k (eqb-true _ _ t)
      go X k t =
          let r = any_at (λ k. same_kind (kind_at p k) C and any (callee_count p k) (called_at k)) (node_count p) t in
          let u = any_at (called_at r.0) (callee_count p r.0) (and_right _ _ r.2) in
          leaves_callee h k r.0 u.0 r.1 (same_kind_true _ _ (and_left _ _ r.2)) u.1 (eqb-true _ _ (and_left _ _ u.2)) (eqb-true _ _ (and_right _ _ u.2))

  leads_of : (e f : ℕ) → (kind_at p (target_at p e) ≡ X → source_at p f ≡ target_at p e → ⊥) → Leads p e f → leads p e f ≡ true
  unfolding leads goes_on_from
  leads_of e f x (leaves_end h c s) = go (kind_at p (target_at p e)) refl
    where
      go : (k : Kind) → kind_at p (target_at p e) ≡ k → goes_on_from p k (target_at p e) (source_at p f) ≡ true
      go E k = eq-eqb _ _ s
      go S k = eq-eqb _ _ s
      go C k = absurd (c k)
      go X k = absurd (x k s)
  leads_of e f x (enters_callee h k s) = rw k (eq-eqb _ _ s)
  leads_of e f x (leaves_callee h t k i l c b q s) =
      rw t
      (any_of_lem (λ k. same_kind (kind_at p k) C and any (callee_count p k) (λ i. eqb (called p k i) (owner_at p (target_at p e)) and eqb (source_at p f) (resumes_at p k i))) (node_count p) k l
      (and_both (same_kind_of c) (any_of_lem (λ i. eqb (called p k i) (owner_at p (target_at p e)) and eqb (source_at p f) (resumes_at p k i)) (callee_count p k) i b (and_both (eq-eqb _ _ q) (eq-eqb _ _ s)))))

module _ (p : Program) (wf : WellFormed p) where
  -- No edge leaves an exit.
  exit_bare : (n f : ℕ) → n < node_count p → kind_at p n ≡ X → f < edge_count p → source_at p f ≡ n → ⊥
  unfolding degree
  exit_bare n f h k l s =
      let z : degree p n ≤ 0 = rw k at (wf.most_leave n h) in
      count_none (λ e. eqb (source_at p e) n) (edge_count p) (omega arith) f l (eq-eqb _ _ s)

  leads_below : (e f : ℕ) → Leads p e f → f < edge_count p
  leads_below e f (leaves_end h c s) = h
  leads_below e f (enters_callee h k s) = h
  leads_below e f (leaves_callee h t k i l c b q s) = h

  -- The computed edges after those that pass a test are just the edges after them.
  pub after_iff : (first : ℕ → Bool) (First : ℕ → Type 0) → ((e : ℕ) → e < edge_count p → first e ≡ true → First e) → ((e : ℕ) → First e → (e < edge_count p) × (first e ≡ true))
      → (e : ℕ) → (has (edges_after p first) e ≡ true) ↔ After p First e
  unfolding edges_after
  after_iff first First f f' e =
      reached_iff (edge_count p) (leads p) first First (Leads p) f f' (λ a b h h' t. leads_true p a b h' t)
      (λ a b h l. let i = leads_below a b l in (i, leads_of p a b (λ x s. exit_bare (target_at p a) b (wf.targets a h) x i s) l)) e

-- ---- runs

-- The open calls of a run inside the procedure q: C nodes, the newest running q as its callee.
pub data Calls (p : Program) : ℕ → List OpenCall → Type 0 where
  no_call : {q : ℕ} → Calls p q []
  one_call : {q k i : ℕ} {ks : List OpenCall} → k < node_count p → kind_at p k ≡ C → i < callee_count p k → q ≡ called p k i → Calls p (owner_at p k) ks → Calls p q ((k, i) ∷ ks)

-- The step crosses an edge, or takes none.
abbrev pub Crossing : Program → Kind → Option Bytes → List OpenCall → Type 0
Crossing p E w ks = Unit {0}
Crossing p S none ks = ⊥
Crossing p S (some w) ks = Unit {0}
Crossing p C w ks = ⊥
Crossing p X w [] = Unit {0}
Crossing p X w (k ∷ ks) = another p k ≡ false

pub crossing_ahead : (p : Program) (k : Kind) (w : Option Bytes) (ks : List OpenCall) (n e : ℕ) → edge_ahead p k w ks n ≡ some e → Crossing p k w ks
unfolding edge_ahead
crossing_ahead p E w ks n e h = tt
crossing_ahead p S none ks n e h = absurd (none-ne-some e h)
crossing_ahead p S (some w) ks n e h = tt
crossing_ahead p C w ks n e h = absurd (none-ne-some e h)
crossing_ahead p X w [] n e h = tt
crossing_ahead p X w (k ∷ ks) n e h = fails _ (λ t. none-ne-some e (sym (choose_yes none (its_edge p k.0) t) ∙ h))

list_of_only : (x : Option ℕ) (e : ℕ) → has (list_of x) e ≡ true → x ≡ some e
unfolding list_of
list_of_only none e h = absurd (none_has e h)
list_of_only (some f) e h = ap {B = Option ℕ} some (one_has f e h)

-- A set of edges that goes on: with an edge it has those to which it leads.
module _ (p : Program) (wf : WellFormed p) (A : ℕ → Type 0) (onward : (e f : ℕ) → A e → Leads p e f → A f) where
  -- The next edge that a run crosses is in the set, whichever it is.
  abbrev pub Led : Kind → Option Bytes → List OpenCall → ℕ → Type 0
  Led E w ks n = (f : ℕ) → its_edge p n ≡ some f → A f
  Led S none ks n = (w : Bytes) (f : ℕ) → edge_taken p n w ≡ some f → A f
  Led S (some w) ks n = (f : ℕ) → edge_taken p n w ≡ some f → A f
  Led C w ks n = (f : ℕ) → its_edge p (entry p (called p n 0)) ≡ some f → A f
  Led X w [] n = Unit {0}
  Led X w (k ∷ ks) n = (f : ℕ) → its_edge p (resumes_at p k.0 k.1) ≡ some f → A f

  -- So it is where the step crosses only such an edge; and where the run has come to the end of one.
  led_ahead : (k : Kind) (w : Option Bytes) (ks : List OpenCall) (n : ℕ) → Crossing p k w ks → ((f : ℕ) → edge_ahead p k w ks n ≡ some f → A f) → Led k w ks n
  unfolding edge_ahead resumes_at choose
  led_ahead E w ks n c h = h
  led_ahead S none ks n c h = absurd c
  led_ahead S (some w) ks n c h = h
  led_ahead C w ks n c h = absurd c
  led_ahead X w [] n c h = tt
  led_ahead X w (k ∷ ks) n c h = λ f q. h f (choose_no none (its_edge p k.0) c ∙ subst (λ (j : ℕ). its_edge p j ≡ some f) (choose_no (entry p (called p k.0 (suc k.1))) k.0 c) q)

  led_end : (k : Kind) (ks : List OpenCall) (e : ℕ) → kind_at p (target_at p e) ≡ k → A e → Calls p (owner_at p (target_at p e)) ks → Led k none ks (target_at p e)
  unfolding same_kind
  led_end E ks e k a o = λ f h. let r = taken_at p _ dash f h in onward e f a (leaves_end r.0 (λ c. not_call {k = E} refl (sym k ∙ c)) r.1)
  led_end S ks e k a o = λ w f h. let r = taken_at p _ w f h in onward e f a (leaves_end r.0 (λ c. not_call {k = S} refl (sym k ∙ c)) r.1)
  led_end C ks e k a o = λ f h. let r = taken_at p _ dash f h in onward e f a (enters_callee r.0 k r.1)
  led_end X [] e k a o = tt
  led_end X (j ∷ ks) e k a (one_call {k = n} {i = i} l c b q o) = λ f h. let r = taken_at p _ dash f h in onward e f a (leaves_callee r.0 k n i l c b (sym q) r.1)

  module _ {ℓ κ} {St : Type ℓ} {Out : Type κ} (m : Meaning St Out) where
    -- A run from here crosses only edges of the set.
    pub record Within (c : Config St Out) : Type 0 where
      pub here : c.node < node_count p
      pub calls : Calls p (owner_at p c.node) c.calls
      pub led : Led (kind_at p c.node) c.word c.calls c.node

    -- One step: what it crosses is in the set, and so is what follows.
    abbrev Keeps : Option ℕ → Option (Config St Out) → Type 0
    Keeps x none = Unit {0}
    Keeps x (some d) = ((e : ℕ) → x ≡ some e → A e) × Within d

    keeps_across : (c : Config St Out) (n : ℕ) (ks : List OpenCall) (w : Bytes) → Calls p (owner_at p n) ks → ((f : ℕ) → edge_taken p n w ≡ some f → A f)
        → Keeps (edge_taken p n w) (across p ks c (edge_taken p n w))
    keeps_across c n ks w o a = go (edge_taken p n w) refl
      where
        go : (x : Option ℕ) → edge_taken p n w ≡ x → Keeps x (across p ks c x)
        go none h = tt
        go (some e) h =
            let r = taken_at p n w e h in
            let o' : Calls p (owner_at p (target_at p e)) ks = subst (λ (q : ℕ). Calls p q ks) (sym (ap (owner_at p) r.1) ∙ wf.stays e r.0) o in
            (λ f q. a f (h ∙ q), record { here = wf.targets e r.0; calls = o'; led = led_end (kind_at p (target_at p e)) ks e refl (a e h) o' })

    -- To the entry of the callee i of a call.
    keeps_calling : (k i : ℕ) (ks : List OpenCall) (c : Config St Out) → k < node_count p → kind_at p k ≡ C → i < callee_count p k → Calls p (owner_at p k) ks
        → ((f : ℕ) → its_edge p (entry p (called p k i)) ≡ some f → A f) → Keeps none (some (calling p k i ks c))
    keeps_calling k i ks c h b v o l =
        let e = entry_is p wf (called p k i) (called_below p wf k i) in (
          λ e q. absurd (none-ne-some e q),
          record { here = e.0; calls = one_call h b v e.1 o; led = subst (λ (j : Kind). Led j none ((k, i) ∷ ks) (entry p (called p k i))) (sym e.2) l },
        )

    -- From the exit of the callee i: to the next one, or across the call's edge.
    keeps_exit : (k i : ℕ) (ks : List OpenCall) (c : Config St Out) → k < node_count p → kind_at p k ≡ C → Calls p (owner_at p k) ks → (t : Bool) → another p (k, i) ≡ t
        → ((f : ℕ) → its_edge p (choose t (entry p (called p k (suc i))) k) ≡ some f → A f)
        → Keeps (choose t none (its_edge p k)) (choose t (some (calling p k (suc i) ks c)) (across p ks c (its_edge p k)))
    unfolding choose another
    keeps_exit k i ks c h b o true q l = keeps_calling k (suc i) ks c h b (ltb-true _ _ q) o l
    keeps_exit k i ks c h b o false q l = keeps_across c k ks dash o l

    keeps : (k : Kind) (w : Option Bytes) (ks : List OpenCall) (c : Config St Out) → kind_at p c.node ≡ k → c.node < node_count p → Calls p (owner_at p c.node) c.calls
        → Calls p (owner_at p c.node) ks → Led k w ks c.node → Keeps (edge_ahead p k w ks c.node) (step_at p m k w ks c)
    unfolding edge_ahead step_at resumes_at
    keeps E w ks c k h o₀ o l = keeps_across c c.node ks dash o l
    keeps S none ks c k h o₀ o l = (
      λ e q. absurd (none-ne-some e q),
      let w : Bytes = m.word (label_at p c.node) c.state in
          record { here = h; calls = o₀; led = subst (λ (k : Kind). Led k (some w) c.calls c.node) (sym k) (l w) },
    )
    keeps S (some w) ks c k h o₀ o l = keeps_across c c.node ks w o l
    keeps C none ks c k h o₀ o l = (
      λ e q. absurd (none-ne-some e q),
      record { here = h; calls = o₀; led = subst (λ (k : Kind). Led k (some (m.word (label_at p c.node) c.state)) c.calls c.node) (sym k) l },
    )
    keeps C (some w) ks c k h o₀ o l = keeps_calling c.node 0 ks c h k (some_name (callee_at p c.node)) o l
    keeps X w [] c k h o₀ o l = tt
    keeps X w (j ∷ ks) c k h o₀ (one_call {k = n} {i = i} b d v q o) l = keeps_exit n i ks c b d o (another p (n, i)) refl l

    keeps_step : (c : Config St Out) → Within c → Keeps (crossing p c) (step p m c)
    unfolding crossing step
    keeps_step c w = keeps (kind_at p c.node) c.word c.calls c refl w.here w.calls w.calls w.led

    -- All steps.
    pub within_trail : (k : ℕ) (c : Config St Out) → Within c → (e : ℕ) → has (trail p m k c) e ≡ true → A e
    unfolding trail
    within_trail zero c w e h = absurd (none_has e h)
    within_trail (suc k) c w e h = go (step p m c) keep h (λ d w h. within_trail k d w e h)
      where
        keep : Keeps (crossing p c) (step p m c)
        keep = keeps_step c w

        go : (o : Option (Config St Out)) → Keeps (crossing p c) o → has (after o [] (λ d. list_of (crossing p c) ++ trail p m k d)) e ≡ true
            → ((d : Config St Out) → Within d → has (trail p m k d) e ≡ true → A e) → A e
        go none g h ih = absurd (none_has e h)
        go (some d) g h ih = ⊎_elim (λ t. g.0 e (list_of_only (crossing p c) e t)) (λ t. ih d g.1 t) (has_append (list_of (crossing p c)) (trail p m k d) e h)

    -- A run that is to cross an edge of the set, if any, crosses only edges of the set.
    pub crosses_within : (c : Config St Out) → c.node < node_count p → Calls p (owner_at p c.node) c.calls → Crossing p (kind_at p c.node) c.word c.calls
        → ((e : ℕ) → crossing p c ≡ some e → A e) → (k e : ℕ) → has (trail p m k c) e ≡ true → A e
    unfolding crossing
    crosses_within c h o x a k e t =
        within_trail k c (record { here = h; calls = o; led = led_ahead (kind_at p c.node) c.word c.calls c.node x a }) e t
