-- The old and the new program run in step until they part, which is where the old one crosses an edge listed under D: what the five rules of the check give, and the first half of
-- demand 3 of programs.
use Rattle.std.specs.Prelude.{◌≡◌, ◌⊎◌, Bool, length, get_or}
use Rattle.std.proofs.Math.Path.{refl, ap, subst}
use Rattle.std.proofs.Common.{sym, ◌∙◌, arith}
use Rattle.std.proofs.Math.Logic.{inl, inr, ⊎_elim}
use Rattle.std.proofs.Math.Bool.{true, false}
use Rattle.std.proofs.Math.Option.{Option, none, some, some-injective, none-ne-some}
use mathlib.Core.List.{List, [], ◌∷◌, ◌++◌}
use Prim.Native.Nat.{ℕ, zero, suc, ◌<◌}
use Rattle.std.proofs.Math.Dec.{ltb}
use borrow.Author.Tests.{eq-eqb, ltb-true, ltb-false}
use Rattle.laws.specs.Tests.{choose, every, has, listed, after}
use Rattle.laws.specs.TestLaws.{and_both, implied, implies, or_cases, both_ways, fails, every_at, any_of_of, all_pairs_at, has_append_left, has_append_right, has_here, failed_none}
use Rattle.rules.specs.Text.{Bytes, name_count, same_label}
use Rattle.rules.specs.Graph.{Kind, E, S, C, X, Program, WellFormed, node_count, edge_count, owner_at, kind_at, label_at, source_at, target_at, dash, entry, exit, callee_at, callee_count, called, edge_taken, its_edge, same_kind}
use Rattle.rules.specs.Run.{Meaning, Config, OpenCall, another, calling, list_of, acted, across, start, step_at, step, edge_ahead, crossing, run, trail, ended_at, ended}
use Rattle.rules.specs.Closing.{alike, both_call, exits_met, goes_on, joined, Coverage, holds, meets}
use Rattle.rules.specs.Sheet.{Sheet}
use Rattle.rules.specs.Check.{entered, edge_kept, edges_kept, rule1, rule2, rule3, rule4, rule5, broken}
use Rattle.rules.specs.Promises.{Alongside}
use Rattle.rules.proofs.ClosingLaws.{alike_callee, alike_kind, alike_label, fits_of, kept_at, opposite_of}
use Rattle.rules.proofs.GraphLaws.{same_kind_of, taken_at, entry_is, exit_only, called_below, some_name}
use Rattle.rules.proofs.AfterLaws.{Calls, Crossing, no_call, one_call}

-- ---- the rules as facts

-- Rules 1 to 4 of a list of pairs. Where the old node of a listed pair that may go on takes the edge e for a word, the new node takes one for it, and the ends are listed; or there the
-- runs may part, `Part e x`, where x is the edge that the new node takes, if any.
pub record Rules (old new : Program) (M : List (ℕ × ℕ)) (Part : ℕ → Option ℕ → Type 0) : Type 0 where
  pub first : listed M (entry old 0) (entry new 0) ≡ true
  pub likes : (n n' : ℕ) → listed M n n' ≡ true → alike old new n n' ≡ true
  pub opens : (n n' : ℕ) → listed M n n' ≡ true → kind_at old n ≡ C → kind_at new n' ≡ C → (i : ℕ) → i < callee_count old n → exits_met old new M n n' i ≡ true
      → listed M (entry old (called old n i)) (entry new (called new n' i)) ≡ true
  pub goes : (n n' : ℕ) → listed M n n' ≡ true → goes_on old new M n n' ≡ true → (w : Bytes) (e : ℕ) → edge_taken old n w ≡ some e
      → ((e' : ℕ) × (edge_taken new n' w ≡ some e') × (listed M (target_at old e) (target_at new e') ≡ true)) ⊎ Part e (edge_taken new n' w)

-- By the check the runs part only where the old one crosses an edge listed under D.
abbrev pub Listed : List ℕ → ℕ → Option ℕ → Type 0
Listed D e x = has D e ≡ true

-- An answer of 0 is all five rules.
module _ (old new : Program) (suite : List Coverage) (s : Sheet) (pass : broken old new suite s ≡ 0) where
  pub five_rules : (rule1 old new s ≡ true) × (rule2 old new s ≡ true) × (rule3 old new s ≡ true) × (rule4 old new s ≡ true) × (rule5 suite s ≡ true)
  unfolding broken
  five_rules =
      let a = failed_none _ _ _ pass in
      let b = failed_none _ _ _ a.1 in
      let c = failed_none _ _ _ b.1 in
      let d = failed_none _ _ _ c.1 in
      let f = failed_none _ _ _ d.1 in
      (a.0, b.0, c.0, d.0, f.0)

  pass3 : (n n' : ℕ) → listed s.M n n' ≡ true → kind_at old n ≡ C → kind_at new n' ≡ C → (i : ℕ) → i < callee_count old n → exits_met old new s.M n n' i ≡ true
      → listed s.M (entry old (called old n i)) (entry new (called new n' i)) ≡ true
  unfolding rule3 entered both_call
  pass3 n n' l k k' i h =
      implied _ _ (every_at _ (callee_count old n) (implied _ _ (all_pairs_at (entered old new s) s.M five_rules.2 n n' l) (and_both (same_kind_of k) (same_kind_of k'))) i h)

  module _ (wo : WellFormed old) (wn : WellFormed new) where
    pass4 : (n n' : ℕ) → listed s.M n n' ≡ true → goes_on old new s.M n n' ≡ true → (w : Bytes) (e : ℕ) → edge_taken old n w ≡ some e
        → ((e' : ℕ) × (edge_taken new n' w ≡ some e') × (listed s.M (target_at old e) (target_at new e') ≡ true)) ⊎ Listed s.D e (edge_taken new n' w)
    unfolding rule4 edges_kept edge_kept
    pass4 n n' l g w e t =
        let r = taken_at old n w e t in
        let k = implied _ _ (every_at (edge_kept old new s n n') (edge_count old) (implied _ _ (all_pairs_at (edges_kept old new s) s.M five_rules.3 n n' l) g) e r.0) (eq-eqb _ _ r.1) in
        ⊎_elim (λ d. inr d) (λ d. inl (kept_at old new wo wn (listed s.M) e n' d w (ap (λ (m : ℕ). edge_taken old m w) r.1 ∙ t))) (or_cases _ _ k)

    pub rules : Rules old new s.M (Listed s.D)
    unfolding rule1 rule2
    rules = record { first = five_rules.0; likes = all_pairs_at (alike old new) s.M five_rules.1; opens = pass3; goes = pass4 }

  -- A test that is not listed holds no edge listed under D.
  pub unlisted : (i : ℕ) → i < length suite → has s.R i ≡ false → (e : ℕ) → holds (get_or suite i []) e ≡ true → has s.D e ≡ false
  unfolding rule5 meets
  unlisted i h u e p =
      fails _ (λ d. both_ways (implied _ _ (every_at _ _ five_rules.4 i h) (any_of_of (holds (get_or suite i [])) s.D e d p)) u)

-- ---- the two runs in step

-- The same with another node and other open calls: what the new run keeps where the old one keeps c.
abbrev pub moved {ℓ κ} : {St : Type ℓ} {Out : Type κ} → Config St Out → ℕ → List OpenCall → Config St Out
moved c n calls = record { node = n; word = c.word; calls = calls; state = c.state; outs = c.outs }

module _ (old new : Program) (M : List (ℕ × ℕ)) where
  -- The C nodes k and k' are listed, and their callees up to i were met: the exits of those before i are listed.
  pub record Calling (k k' i : ℕ) : Type 0 where
    pub here : k < node_count old
    pub there : k' < node_count new
    pub old_calls : kind_at old k ≡ C
    pub new_calls : kind_at new k' ≡ C
    pub pair : listed M k k' ≡ true
    pub within : i < callee_count old k
    pub met : exits_met old new M k k' i ≡ true

  -- The open calls of the two runs, inside the procedures q and q': pair by pair listed C nodes that run their callees of one number, the newest calling q and q'.
  pub data Open : ℕ → ℕ → List OpenCall → List OpenCall → Type 0 where
    bottom : {q q' : ℕ} → Open q q' [] []
    inner : {q q' k k' i : ℕ} {ks ks' : List OpenCall} → Calling k k' i → q ≡ called old k i → q' ≡ called new k' i → Open (owner_at old k) (owner_at new k') ks ks'
        → Open q q' ((k, i) ∷ ks) ((k', i) ∷ ks')

  -- The runs stand on a listed pair, inside the procedures called by their newest open calls.
  pub record Together (n n' : ℕ) (ks ks' : List OpenCall) : Type 0 where
    pub here : n < node_count old
    pub there : n' < node_count new
    pub pair : listed M n n' ≡ true
    pub calls : Open (owner_at old n) (owner_at new n') ks ks'

  -- An old edge and a new one, that the list joins.
  pub record Joined (e e' : ℕ) : Type 0 where
    pub is_old : e < edge_count old
    pub is_new : e' < edge_count new
    pub join : joined old new M e e' ≡ true

  -- Both cross, and what they cross is joined; or neither crosses.
  abbrev pub Both : Option ℕ → Option ℕ → Type 0
  Both none none = Unit {0}
  Both none (some e') = ⊥
  Both (some e) none = ⊥
  Both (some e) (some e') = Joined e e'

  -- The edges crossed by the two runs, one by one.
  pub data Matched : List ℕ → List ℕ → Type 0 where
    done : Matched [] []
    more : {e e' : ℕ} {l l' : List ℕ} → Joined e e' → Matched l l' → Matched (e ∷ l) (e' ∷ l')

  -- As many calls are open, and both runs have ended or neither has.
  open_length : {q q' : ℕ} {ks ks' : List OpenCall} → Open q q' ks ks' → length ks ≡ length ks'
  open_length bottom = refl
  open_length (inner b s s' o) = ap suc (open_length o)

  open_ended : (k : Kind) {q q' : ℕ} {ks ks' : List OpenCall} → Open q q' ks ks' → ended_at k ks ≡ ended_at k ks'
  unfolding ended_at
  open_ended E o = refl
  open_ended S o = refl
  open_ended C o = refl
  open_ended X bottom = refl
  open_ended X (inner b s s' o) = refl

  -- The open calls of either run.
  pub open_old : {q q' : ℕ} {ks ks' : List OpenCall} → Open q q' ks ks' → Calls old q ks
  open_old bottom = no_call
  open_old (inner b s s' o) = one_call b.here b.old_calls b.within s (open_old o)

  matched_one : (x x' : Option ℕ) (l l' : List ℕ) → Both x x' → Matched l l' → Matched (list_of x ++ l) (list_of x' ++ l')
  unfolding list_of
  matched_one none none l l' b k = k
  matched_one none (some e') l l' b k = absurd b
  matched_one (some e) none l l' b k = absurd b
  matched_one (some e) (some e') l l' b k = more b k

-- Labels that match have one action.
acted_same {ℓ κ} : {St : Type ℓ} {Out : Type κ} (m : Meaning St Out) (l l' : Bytes) → same_label l l' ≡ true → (c : Config St Out)
    → some (acted m l' c) ≡ some (acted m l c)
acted_same m l l' h c =
    let e = m.matching l l' h c.state in
    let a = e.0 in
    let b = e.1 in
    let w = e.2 in
    cc

list_of_has : (x : Option ℕ) (e : ℕ) → x ≡ some e → has (list_of x) e ≡ true
unfolding list_of
list_of_has x e p = rw p (has_here e)

module _ (old new : Program) (wo : WellFormed old) (wn : WellFormed new) (M : List (ℕ × ℕ)) (Part : ℕ → Option ℕ → Type 0) (r : Rules old new M Part) where
  -- Listed nodes have equal kinds, and labels that match.
  like_kind : (n n' : ℕ) → listed M n n' ≡ true → kind_at new n' ≡ kind_at old n
  like_kind n n' l = alike_kind old new n n' (r.likes n n' l)

  like_label : (n n' : ℕ) → listed M n n' ≡ true → same_label (label_at old n) (label_at new n') ≡ true
  like_label n n' l = alike_label old new n n' (r.likes n n' l)

  -- A pair that is no C may go on, and a C pair where the exits of all its callees are listed.
  on_kind : (n n' : ℕ) (k : Kind) → same_kind k C ≡ false → kind_at old n ≡ k → goes_on old new M n n' ≡ true
  unfolding goes_on
  on_kind n n' k f e = implies _ _ (λ t. absurd (both_ways (rw e at t) f))

  on_exits : (n n' : ℕ) → exits_met old new M n n' (callee_count old n) ≡ true → goes_on old new M n n' ≡ true
  unfolding goes_on
  on_exits n n' l = implies _ _ (λ t. l)

  -- As many callees: the callee fields of listed nodes are equal.
  like_calls : (n n' i : ℕ) → listed M n n' ≡ true → another new (n', i) ≡ another old (n, i)
  unfolding another
  like_calls n n' i l = ap (λ (c : Bytes). ltb (suc i) (name_count c)) (alike_callee old new n n' (r.likes n n' l))

  pub open_new : {q q' : ℕ} {ks ks' : List OpenCall} → Open old new M q q' ks ks' → Calls new q' ks'
  open_new bottom = no_call
  open_new (inner {k = k} {k' = k'} {i = i} b s s' o) =
      one_call b.there b.new_calls (subst (λ (c : Bytes). i < name_count c) (sym (alike_callee old new k k' (r.likes k k' b.pair))) b.within) s' (open_new o)

  -- Where the old run is to cross an edge, so is the new one.
  pub open_crossing : (k : Kind) (w : Option Bytes) {q q' : ℕ} {ks ks' : List OpenCall} → Open old new M q q' ks ks' → Crossing old k w ks → Crossing new k w ks'
  open_crossing E w o c = tt
  open_crossing S none o c = absurd c
  open_crossing S (some w) o c = tt
  open_crossing C w o c = absurd c
  open_crossing X w bottom c = tt
  open_crossing X w (inner {k = k} {k' = k'} {i = i} b s s' o) c = like_calls k k' i b.pair ∙ c

  -- Where the old node takes an edge for a word, and the new one takes one with listed ends, they are joined.
  cross : (n n' : ℕ) → listed M n n' ≡ true → goes_on old new M n n' ≡ true → (w : Bytes) (e e' : ℕ) → edge_taken old n w ≡ some e → edge_taken new n' w ≡ some e'
      → listed M (target_at old e) (target_at new e') ≡ true → Joined old new M e e' × (source_at old e ≡ n) × (source_at new e' ≡ n')
  unfolding joined
  cross n n' l g w e e' h h' t =
      let f = taken_at old n w e h in
      let f' = taken_at new n' w e' h' in
      let s : joined old new M e e' ≡ true
      = rw (f.1, f'.1) (and_both l (and_both g (fits_of old new e e' (opposite_of old new wo wn n n' e e' w h h') (r.likes _ _ t)))) in
      (record { is_old = f.0; is_new = f'.0; join = s }, f.1, f'.1)

  -- The ends of joined edges, inside the same procedures.
  landed : (n n' e e' : ℕ) (ks ks' : List OpenCall) → e < edge_count old → e' < edge_count new → source_at old e ≡ n → source_at new e' ≡ n'
      → listed M (target_at old e) (target_at new e') ≡ true → Open old new M (owner_at old n) (owner_at new n') ks ks'
      → Together old new M (target_at old e) (target_at new e') ks ks'
  landed n n' e e' ks ks' h h' a a' l o =
      record {
        here = wo.targets e h;
        there = wn.targets e' h';
        pair = l;
        calls = subst (λ (q : ℕ). Open old new M q (owner_at new (target_at new e')) ks ks') (sym (ap (owner_at old) a) ∙ wo.stays e h)
            (subst (λ (q : ℕ). Open old new M (owner_at old n) q ks ks') (sym (ap (owner_at new) a') ∙ wn.stays e' h') o);
      }

  module _ {ℓ κ} {St : Type ℓ} {Out : Type κ} (m : Meaning St Out) where
    -- Where the old run takes a step, the new one takes one too, and they are still in step; or there they part.
    pub InStep : Option ℕ → Option ℕ → Option (Config St Out) → Option (Config St Out) → Type (ℓ ⊔ κ)
    InStep x x' none o = Unit {ℓ ⊔ κ}
    InStep x x' (some d) o =
        ((n : ℕ) × (ks : List OpenCall) × (o ≡ some (moved d n ks)) × Together old new M d.node n d.calls ks × Both old new M x x') ⊎ ((e : ℕ) × (x ≡ some e) × Part e x')

    step_across : (c : Config St Out) (n n' n₀ : ℕ) (ks ks' cs' : List OpenCall) (w : Bytes) → listed M n n' ≡ true → goes_on old new M n n' ≡ true
        → Open old new M (owner_at old n) (owner_at new n') ks ks'
        → InStep (edge_taken old n w) (edge_taken new n' w) (across old ks c (edge_taken old n w)) (across new ks' (moved c n₀ cs') (edge_taken new n' w))
    unfolding InStep
    step_across c n n' n₀ ks ks' cs' w l g o = go (edge_taken old n w) refl
      where
        go : (x : Option ℕ) → edge_taken old n w ≡ x
            → InStep x (edge_taken new n' w) (across old ks c x) (across new ks' (moved c n₀ cs') (edge_taken new n' w))
        go none e = tt
        go (some e) h =
            ⊎_elim
            (λ t.
            let j = cross n n' l g w e t.0 h t.1 t.2 in
            inl (rw t.1 (target_at new t.0, ks', refl, landed n n' e t.0 ks ks' j.0.is_old j.0.is_new j.1 j.2 t.2 o, j.0)))
            (λ p. inr (e, refl, p))
            (r.goes n n' l g w e h)

    -- To the entries of the callees i of C nodes.
    calls_next : (c : Config St Out) (k k' i n₀ : ℕ) (ks ks' cs' : List OpenCall) → Calling old new M k k' i → Open old new M (owner_at old k) (owner_at new k') ks ks'
        → InStep none none (some (calling old k i ks c)) (some (calling new k' i ks' (moved c n₀ cs')))
    unfolding InStep
    calls_next c k k' i n₀ ks ks' cs' b o =
        let e = entry_is old wo (called old k i) (called_below old wo k i) in
        let e' = entry_is new wn (called new k' i) (called_below new wn k' i) in
        inl (
          entry new (called new k' i),
          (k', i) ∷ ks',
          refl,
          record { here = e.0; there = e'.0; pair = r.opens k k' b.pair b.old_calls b.new_calls i b.within b.met; calls = inner b e.1 e'.1 o },
          tt,
        )

    -- From the exits of the callees i: to the next ones, or across the edges of the C nodes.
    exit_next : (c : Config St Out) (k k' i n₀ : ℕ) (ks ks' cs' : List OpenCall) → Calling old new M k k' i → exits_met old new M k k' (suc i) ≡ true
        → Open old new M (owner_at old k) (owner_at new k') ks ks' → (t : Bool) → another old (k, i) ≡ t
        → InStep (choose t none (its_edge old k)) (choose t none (its_edge new k'))
        (choose t (some (calling old k (suc i) ks c)) (across old ks c (its_edge old k)))
        (choose t (some (calling new k' (suc i) ks' (moved c n₀ cs'))) (across new ks' (moved c n₀ cs') (its_edge new k')))
    unfolding choose another
    exit_next c k k' i n₀ ks ks' cs' b e o true q =
        calls_next c k k' (suc i) n₀ ks ks' cs'
        (record { here = b.here; there = b.there; old_calls = b.old_calls; new_calls = b.new_calls; pair = b.pair; within = ltb-true _ _ q; met = e }) o
    exit_next c k k' i n₀ ks ks' cs' b e o false q =
        let all : suc i ≡ callee_count old k = omega (arith, b.within, ltb-false (suc i) (callee_count old k) q) in
        step_across c k k' n₀ ks ks' cs' dash b.pair (on_exits k k' (rw all at e)) o

    -- One step, by the five rules.
    step_together : (k : Kind) (w : Option Bytes) (c : Config St Out) (n' : ℕ) (ks ks' : List OpenCall) → kind_at old c.node ≡ k → kind_at new n' ≡ k
        → Together old new M c.node n' c.calls ks' → Open old new M (owner_at old c.node) (owner_at new n') ks ks'
        → InStep (edge_ahead old k w ks c.node) (edge_ahead new k w ks' n') (step_at old m k w ks c) (step_at new m k w ks' (moved c n' ks'))
    unfolding InStep edge_ahead step_at same_kind exits_met every
    step_together E w c n' ks ks' a a' t o = step_across c c.node n' n' ks ks' ks' dash t.pair (on_kind _ n' E refl a) o
    step_together S none c n' ks ks' a a' t o =
        inl (n', ks', acted_same m _ _ (like_label _ n' t.pair) (moved c n' ks'), t, tt)
    step_together S (some w) c n' ks ks' a a' t o = step_across c c.node n' n' ks ks' ks' w t.pair (on_kind _ n' S refl a) o
    step_together C none c n' ks ks' a a' t o =
        inl (n', ks', acted_same m _ _ (like_label _ n' t.pair) (moved c n' ks'), t, tt)
    step_together C (some w) c n' ks ks' a a' t o =
        calls_next c c.node n' 0 n' ks ks' ks'
        (record { here = t.here; there = t.there; old_calls = a; new_calls = a'; pair = t.pair; within = some_name (callee_at old c.node); met = refl }) o
    step_together X w c n' [] [] a a' t bottom = tt
    step_together X w c n' [] (k' ∷ ks') a a' t o = elim o [ ]
    step_together X w c n' (k ∷ ks) [] a a' t o = elim o [ ]
    step_together X w c n' (k ∷ ks) (k' ∷ ks') a a' t (inner {k = j} {k' = j'} {i = i} b s s' o) =
        let x : c.node ≡ exit old (called old j i) = exit_only old wo (called old j i) c.node (called_below old wo j i) t.here s a in
        let x' : n' ≡ exit new (called new j' i) = exit_only new wn (called new j' i) n' (called_below new wn j' i) t.there s' a' in
        rw (like_calls j j' i b.pair)
        (exit_next c j j' i n' ks ks' ((j', i) ∷ ks') b (and_both b.met (rw (← x, ← x') t.pair)) o (another old (j, i)) refl)

    one_step : (c : Config St Out) (n' : ℕ) (ks' : List OpenCall) → Together old new M c.node n' c.calls ks'
        → InStep (crossing old c) (crossing new (moved c n' ks')) (step old m c) (step new m (moved c n' ks'))
    unfolding crossing step
    one_step c n' ks' t =
        let a = like_kind c.node n' t.pair in
        subst (λ (k : Kind). InStep (crossing old c) (edge_ahead new k c.word ks' n') (step old m c) (step_at new m k c.word ks' (moved c n' ks'))) (sym a)
        (step_together (kind_at old c.node) c.word c n' c.calls ks' refl a t t.calls)

    -- After k steps, from c and c', the new run is in step with the old one, which is at d: it keeps the same but for node and open calls, and the edges that the two have crossed
    -- are joined one by one.
    pub record Abreast (k : ℕ) (c c' d : Config St Out) : Type (ℓ ⊔ κ) where
      pub node : ℕ
      pub calls : List OpenCall
      pub takes : run new m k c' ≡ some (moved d node calls)
      pub together : Together old new M d.node node d.calls calls
      pub crossed : Matched old new M (trail old m k c) (trail new m k c')

    -- The runs part within k steps: they are in step for some, and then the old one crosses an edge where they may part.
    pub record Apart (k : ℕ) (c c' : Config St Out) : Type (ℓ ⊔ κ) where
      pub before : ℕ
      pub here : Config St Out
      pub reaches : run old m before c ≡ some here
      pub abreast : Abreast before c c' here
      pub edge : ℕ
      pub crosses : crossing old here ≡ some edge
      pub within : has (trail old m k c) edge ≡ true
      pub part : Part edge (crossing new (moved here abreast.node abreast.calls))

    -- One step more, before those that the runs are in step, or part.
    abreast_more : (k n n' : ℕ) (ks ks' : List OpenCall) (c c₁ d : Config St Out) → step old m c ≡ some c₁ → step new m (moved c n ks) ≡ some (moved c₁ n' ks')
        → Both old new M (crossing old c) (crossing new (moved c n ks)) → Abreast k c₁ (moved c₁ n' ks') d → Abreast (suc k) c (moved c n ks) d
    unfolding run trail
    abreast_more k n n' ks ks' c c₁ d s s' b a =
        record {
          node = a.node;
          calls = a.calls;
          takes = rw s' a.takes;
          together = a.together;
          crossed = rw (s, s') (matched_one old new M (crossing old c) (crossing new (moved c n ks)) _ _ b a.crossed);
        }

    apart_more : (k n n' : ℕ) (ks ks' : List OpenCall) (c c₁ : Config St Out) → step old m c ≡ some c₁ → step new m (moved c n ks) ≡ some (moved c₁ n' ks')
        → Both old new M (crossing old c) (crossing new (moved c n ks)) → Apart k c₁ (moved c₁ n' ks') → Apart (suc k) c (moved c n ks)
    unfolding run trail abreast_more
    apart_more k n n' ks ks' c c₁ s s' b a =
        record {
          before = suc a.before;
          here = a.here;
          reaches = rw s a.reaches;
          abreast = abreast_more a.before n n' ks ks' c c₁ a.here s s' b a.abreast;
          edge = a.edge;
          crosses = a.crosses;
          within = rw s (has_append_right (list_of (crossing old c)) (trail old m k c₁) a.edge a.within);
          part = a.part;
        }

    abreast_none : (c : Config St Out) (n : ℕ) (ks : List OpenCall) → Together old new M c.node n c.calls ks → Abreast zero c (moved c n ks) c
    unfolding run trail
    abreast_none c n ks t = record { node = n; calls = ks; takes = refl; together = t; crossed = done }

    -- k steps.
    steps : (k : ℕ) (c : Config St Out) (n' : ℕ) (ks' : List OpenCall) → Together old new M c.node n' c.calls ks' → (d : Config St Out) → run old m k c ≡ some d
        → Abreast k c (moved c n' ks') d ⊎ Apart k c (moved c n' ks')
    unfolding run trail InStep abreast_none
    steps zero c n' ks' t d e = inl (subst (λ (d : Config St Out). Abreast zero c (moved c n' ks') d) (some-injective c d e) (abreast_none c n' ks' t))
    steps (suc k) c n' ks' t d e = go (step old m c) refl (one_step c n' ks' t) e (λ c₁ n ks t. steps k c₁ n ks t d)
      where
        go : (o : Option (Config St Out)) → step old m c ≡ o → InStep (crossing old c) (crossing new (moved c n' ks')) o (step new m (moved c n' ks'))
            → after o none (run old m k) ≡ some d
            → ((c₁ : Config St Out) (n : ℕ) (ks : List OpenCall) → Together old new M c₁.node n c₁.calls ks → run old m k c₁ ≡ some d
            → Abreast k c₁ (moved c₁ n ks) d ⊎ Apart k c₁ (moved c₁ n ks))
            → Abreast (suc k) c (moved c n' ks') d ⊎ Apart (suc k) c (moved c n' ks')
        go none s g e ih = absurd (none-ne-some d e)
        go (some c₁) s (inl g) e ih =
            ⊎_elim (λ a. inl (abreast_more k n' g.0 ks' g.1 c c₁ d s g.2 g.4 a)) (λ a. inr (apart_more k n' g.0 ks' g.1 c c₁ s g.2 g.4 a))
            (ih c₁ g.0 g.1 g.3 e)
        go (some c₁) s (inr g) e ih =
            inr
            (record {
              before = zero;
              here = c;
              reaches = refl;
              abreast = abreast_none c n' ks' t;
              edge = g.0;
              crosses = g.1;
              within = rw s (has_append_left (list_of (crossing old c)) (trail old m k c₁) g.0 (list_of_has (crossing old c) g.0 g.1));
              part = g.2;
            })

    -- From the start: the runs are in step for all k steps, or part within them.
    pub from_start : (k : ℕ) (s : St) (c : Config St Out) → run old m k (start old s) ≡ some c → Abreast k (start old s) (start new s) c ⊎ Apart k (start old s) (start new s)
    unfolding start
    from_start k s c e =
        let i = entry_is old wo 0 wo.begins in
        let i' = entry_is new wn 0 wn.begins in
        steps k (start old s) (entry new 0) [] (record { here = i.0; there = i'.0; pair = r.first; calls = bottom }) c e

    -- Runs that are in step stand alongside.
    pub alongside : (k : ℕ) (c c' d : Config St Out) (a : Abreast k c c' d) → Alongside old new d (moved d a.node a.calls)
    unfolding ended
    alongside k c c' d a =
        let t = a.together in
        record {
          nodes = r.likes _ _ t.pair;
          words = refl;
          depths = open_length old new M t.calls;
          states = refl;
          outputs = refl;
          ends = open_ended old new M (kind_at old d.node) t.calls ∙ ap (λ (k : Kind). ended_at k a.calls) (sym (like_kind d.node a.node t.pair));
        }

-- ---- demand 3, the checker's half

-- A sheet passes the check, and the test i is not listed on it. Where the old run takes k steps, and the test's coverage holds each edge that they cross, the new run
-- takes k steps too, and stands where the old one does.
pub checked {ℓ κ} : {St : Type ℓ} {Out : Type κ} (old new : Program) → WellFormed old → WellFormed new
    → (suite : List Coverage) (sheet : Sheet) → broken old new suite sheet ≡ 0
    → (i : ℕ) → i < length suite → has sheet.R i ≡ false
    → (m : Meaning St Out) (s : St) (k : ℕ) (c : Config St Out) → run old m k (start old s) ≡ some c
    → ((e : ℕ) → has (trail old m k (start old s)) e ≡ true → holds (get_or suite i []) e ≡ true)
    → (c' : Config St Out) × (run new m k (start new s) ≡ some c') × Alongside old new c c'
checked old new wo wn suite sheet pass i h u m s k c e crossed =
    let r = rules old new suite sheet pass wo wn in
    ⊎_elim
    (λ a. (moved c a.node a.calls, a.takes, alongside old new wo wn sheet.M (Listed sheet.D) r m k (start old s) (start new s) c a))
    (λ a. absurd (both_ways a.part (unlisted old new suite sheet pass i h u a.edge (crossed a.edge a.within))))
    (from_start old new wo wn sheet.M (Listed sheet.D) r m k s c e)
