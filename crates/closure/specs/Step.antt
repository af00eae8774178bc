-- Laws of steps: what lasts, none, one after another, a pair more, one pair too many, and a dangerous edge.
use Rattle.std.specs.Prelude.{◌≡◌, refl, Bool, false, true, List, [], ◌∷◌, ◌++◌, ℕ, zero, suc, ◌+◌, ◌*◌, ◌≤◌, ◌<◌, eqb, length, get_or}
use Rattle.std.proofs.Common.{sym, ◌∙◌, subst, not-suc-le-zero, eq-eqb, eqb-true}
use Rattle.std.proofs.Math.Path.{ap, subst₂}
use Rattle.std.proofs.Math.Logic.{⊎_elim}
use native.Mathlib.Omega.{arith}
use Rattle.laws.specs.Tests.{◌or◌, listed}
use Rattle.laws.specs.TestLaws.{and_both, both_ways, eqb_self, listed_append, listed_one, or_cases, or_left, or_right}
use Rattle.laws.specs.Lists.{none_listed, snoc_length, snoc_new, snoc_old}
use Rattle.laws.specs.Slices.{below_or, same_or}
use Rattle.rules.specs.Graph.{Program, node_count}
use Rattle.rules.specs.Closing.{Dangerous, Pair, pairs}
use Rattle.rules.proofs.Closure.{pairs_complete, pairs_inside}
use Rattle.rules.proofs.ClosingLaws.{danger_old}
use Rattle.pairset.specs.Store.{Appended, Appends, DangerMarked, MarksDanger, Store, danger_in, new_at, old_at, pair_base, pairs_in}
use Rattle.pairset.specs.StoreLaws.{listed_at, listed_of, listed_snoc, no_pairs, pairs_agree, pairs_count}
use Rattle.closure.specs.Once.{once_none, once_snoc, pigeonhole}
use Rattle.closure.specs.State.{AllEntered, CallDone, Claim, EdgeDone, EdgesDone, EndsDone, EntriesDone, Formed, Kept, Lasts, LostDone, MetTo, OnDone, PairDone, PairFollowed, State, Step, Within}

-- ---- nothing found yet

pub state_none : (old new : Program) (limit : ℕ) (w : List ℕ) → pair_base + 3 * limit ≤ length w → Store w 0 → ((e : ℕ) → danger_in w e ≡ false) → State old new limit w 0
state_none old new limit w h s d =
    record {
      wide = h;
      few = omega arith;
      kept = λ _. record {
        store = s;
        sound = λ a b t. absurd (none_listed a b (rw (no_pairs w) at t));
        once = rw (no_pairs w) once_none;
        dangerous = λ e t. absurd (both_ways t (d e));
      };
      over = λ l. absurd (let z : ⊥ = omega arith in z);
    }

-- ---- the numbers of a pair

pub pair_inside : {old new : Program} {a b : ℕ} → Formed old new → Pair old new a b → (a < node_count old) × (b < node_count new)
pair_inside {old} {new} {a} {b} f p = pairs_inside old new a b (pairs_complete old new f.old_formed f.new_formed p)

-- ---- what lasts as list and set grow

module _ (old new : Program) where
  pub ends_lasts : (e f : ℕ) → Lasts (EndsDone old new e f)
  unfolding Lasts
  ends_lasts e f M S N T h d = record { ends = λ t. h.list _ _ (d.ends t); danger = λ u. h.set e (d.danger u) }

  pub lost_lasts : (e m : ℕ) → Lasts (LostDone old new e m)
  unfolding Lasts LostDone
  lost_lasts e m M S N T h d u = h.set e (d u)

  pub edge_lasts : (e m : ℕ) → Lasts (EdgeDone old new e m)
  unfolding Lasts
  edge_lasts e m M S N T h d = record { ends = λ f l s t. h.list _ _ (d.ends f l s t); danger = λ u. h.set e (d.danger u) }

  pub edges_lasts : (n m : ℕ) → Lasts (EdgesDone old new n m)
  unfolding Lasts EdgesDone
  edges_lasts n m M S N T h d e l s = edge_lasts e m M S N T h (d e l s)

  pub entered_lasts : (n m : ℕ) → Lasts (AllEntered old new n m)
  unfolding Lasts AllEntered
  entered_lasts n m M S N T h d k i l = h.list _ _ (d k i l)

  pub met_lasts : (n m i : ℕ) → Lasts (MetTo old new n m i)
  unfolding Lasts MetTo
  met_lasts n m i M S N T h d j l = let q = d j l in (h.list _ _ q.0, h.list _ _ q.1)

  pub entries_lasts : (q k : ℕ) → Lasts (EntriesDone old new q k)
  unfolding Lasts EntriesDone
  entries_lasts q k M S N T h d = h.list _ _ d

  pub followed_lasts : (n m : ℕ) → Lasts (PairFollowed old new n m)
  unfolding Lasts
  followed_lasts n m M S N T h d = record { call = entered_lasts n m M S N T h d.call; edges = edges_lasts n m M S N T h d.edges }

  -- What asks whether exits are listed lasts as long as the list stays.
  pub done_lasts : (n m : ℕ) (M : List (ℕ × ℕ)) (S T : ℕ → Bool) → ((e : ℕ) → S e ≡ true → T e ≡ true) → PairDone old new n m M S → PairDone old new n m M T
  unfolding Lasts CallDone OnDone
  done_lasts n m M S T h d =
      let i : Within M S M T = record { list = λ a b t. t; set = h } in
      record { call = d.call; on = λ g. edges_lasts n m M S M T i (d.on g) }

  -- Where the entries of all callees are listed, rule 2 holds.
  pub entered_done : (n m : ℕ) (M : List (ℕ × ℕ)) (S : ℕ → Bool) → AllEntered old new n m M S → CallDone old new n m M S
  unfolding AllEntered CallDone
  entered_done n m M S d k k' i l x = d k i l

-- ---- the pairs of a list by index

pair_at : (w : List ℕ) (c k : ℕ) → k < c → get_or (pairs_in w c) k (0, 0) ≡ (old_at w k, new_at w k)
unfolding pairs_in
pair_at w zero k h = absurd (not-suc-le-zero h)
pair_at w (suc c) k h =
    same_or k c
    (λ e. rw e (subst (λ (n : ℕ). get_or (pairs_in w c ++ ((old_at w c, new_at w c) ∷ [])) n (0, 0) ≡ (old_at w c, new_at w c)) (pairs_count w c) (snoc_new (0, 0) (pairs_in w c) _)))
    (λ e. snoc_old (0, 0) (pairs_in w c) _ k (omega (arith, pairs_count w c)) ∙ pair_at w c k (omega arith))

-- A list with one pair more has the pairs before it where they were.
same_before : (w v : List ℕ) (c k : ℕ) (x : ℕ × ℕ) → pairs_in v (c + 1) ≡ pairs_in w c ++ (x ∷ []) → k < c → (old_at v k ≡ old_at w k) × (new_at v k ≡ new_at w k)
same_before w v c k x e h =
    let q : ◌≡◌ {A = ℕ × ℕ} (old_at v k, new_at v k) (old_at w k, new_at w k)
    = sym (pair_at v (c + 1) k (omega arith))
    ∙ ap (λ (l : List (ℕ × ℕ)). get_or l k (0, 0)) e
    ∙ snoc_old (0, 0) (pairs_in w c) x k (omega (arith, pairs_count w c))
    ∙ pair_at w c k h in
    (ap (λ (p : ℕ × ℕ). p.0) q, ap (λ (p : ℕ × ℕ). p.1) q)

module _ {old new : Program} {limit : ℕ} where
  -- ---- steps

  -- None added.
  pub step_none : {w : List ℕ} {c : ℕ} {D : Claim} → State old new limit w c → (c ≤ limit → D (pairs_in w c) (danger_in w)) → Step old new limit w c D w c
  step_none s d = record { state = s; more = omega arith; keeps = λ _ k _. (refl, refl); stays = λ _ e t. t; done = d }

  module _ {w v : List ℕ} {c r : ℕ} {D : Claim} (x : Step old new limit w c D v r) where
    -- Where none was added, the list is the same.
    pub step_same : r ≤ limit → r ≡ c → pairs_in w c ≡ pairs_in v r
    step_same h e = pairs_agree w v c (λ k l. sym (x.keeps h k l).0) (λ k l. sym (x.keeps h k l).1) ∙ ap (pairs_in v) (sym e)

    -- What was there is there, and what lasts lasts.
    step_within : r ≤ limit → Within (pairs_in w c) (danger_in w) (pairs_in v r) (danger_in v)
    step_within h =
        record {
          list = λ a b t.
              let k = listed_at w a b c t in
              let e = x.keeps h k.0 k.1 in
              listed_of v a b r k.0 (omega (arith, k.1, x.more)) (e.0 ∙ k.2) (e.1 ∙ k.3);
          set = x.stays h;
        }

    pub step_lasts : (E : Claim) → Lasts E → r ≤ limit → E (pairs_in w c) (danger_in w) → E (pairs_in v r) (danger_in v)
    unfolding Lasts
    step_lasts E l h d = l _ _ _ _ (step_within h) d

    -- The same step, with another claim.
    pub step_shows : {E : Claim} → (r ≤ limit → E (pairs_in v r) (danger_in v)) → Step old new limit w c E v r
    step_shows f = record { state = x.state; more = x.more; keeps = x.keeps; stays = x.stays; done = f }

  -- Where there are more pairs than the limit, every claim is kept.
  pub step_past : {w v : List ℕ} {c : ℕ} {D E : Claim} → Step old new limit w c D v (suc limit) → Step old new limit w c E v (suc limit)
  step_past x = step_shows x (λ l. absurd (let z : ⊥ = omega arith in z))

  -- One step after another.
  pub step_then : {w v u : List ℕ} {c r q : ℕ} {D E F : Claim} → Lasts D → Step old new limit w c D v r → Step old new limit v r E u q
      → (D (pairs_in u q) (danger_in u) → E (pairs_in u q) (danger_in u) → F (pairs_in u q) (danger_in u)) → Step old new limit w c F u q
  step_then {w} {v} {u} {c} {r} {q} {D} {E} {F} last x y f =
      record {
        state = y.state;
        more = omega (arith, x.more, y.more);
        keeps = λ h k l.
            let i = x.keeps (omega (arith, y.more)) k l in
            let j = y.keeps h k (omega (arith, x.more)) in
            (j.0 ∙ i.0, j.1 ∙ i.1);
        stays = λ h e t. y.stays h e (x.stays (omega (arith, y.more)) e t);
        done = λ h. f (step_lasts y D last h (x.done (omega (arith, y.more)))) (y.done h);
      }

  pub step_map : {w v : List ℕ} {c r : ℕ} {D E : Claim} → (D (pairs_in v r) (danger_in v) → E (pairs_in v r) (danger_in v)) → Step old new limit w c D v r
      → Step old new limit w c E v r
  step_map f x = step_shows x (λ h. f (x.done h))

  -- ---- a pair that is not there

  module _ {w : List ℕ} {c a b : ℕ} (fm : Formed old new) (s : State old new limit w c) (p : c ≤ limit → Pair old new a b)
      (new_one : c ≤ limit → listed (pairs_in w c) a b ≡ false) where
    -- One more than the limit is found, or was found before.
    pub step_over : limit ≤ c → Step old new limit w c (λ M _. listed M a b ≡ true) w (suc limit)
    step_over h =
        record {
          state = record { wide = s.wide; few = omega arith; kept = λ l. absurd (let z : ⊥ = omega arith in z); over = λ _. over };
          more = omega (arith, s.few);
          keeps = λ _ k _. (refl, refl);
          stays = λ _ e t. t;
          done = λ l. absurd (let z : ⊥ = omega arith in z);
        }
      where
        over : limit < length (pairs old new)
        over =
            below_or limit c (λ l. s.over l)
            (λ l.
            let k = s.kept l in
            let o = once_snoc a b k.once (new_one l) in
            let g = pigeonhole (pairs old new) o
            (λ x y t. pairs_complete old new fm.old_formed fm.new_formed
            (⊎_elim (k.sound x y) (λ u. let e = listed_one a b x y u in subst₂ (Pair old new) e.0 e.1 (p l)) (listed_append (pairs_in w c) _ x y t))) in
            omega (arith, snoc_length (0, 0) (pairs_in w c) (a, b), pairs_count w c))

    -- There is room for it.
    pub step_more : {v : List ℕ} → c < limit → Appended w c a b v → Step old new limit w c (λ M _. listed M a b ≡ true) v (c + 1)
    unfolding Appends
    step_more {v} h ap =
        let k = s.kept (omega arith) in
        let q = p (omega arith) in
        let x = ap.appends k.store (omega (arith, (pair_inside fm q).0, fm.few)) (omega (arith, (pair_inside fm q).1, fm.few_new)) (omega (arith, s.wide)) in
        record {
          state = record {
            wide = omega (arith, s.wide, ap.size);
            few = omega arith;
            kept = λ _. record {
              store = x.0;
              sound = λ y z t.
                  ⊎_elim (k.sound y z) (λ u. let e = listed_one a b y z u in subst₂ (Pair old new) e.0 e.1 q) (listed_append (pairs_in w c) _ y z (rw x.1 at t));
              once = rw x.1 (once_snoc a b k.once (new_one (omega arith)));
              dangerous = λ e t. k.dangerous e (sym (x.2 e) ∙ t);
            };
            over = λ l. absurd (let z : ⊥ = omega arith in z);
          };
          more = omega arith;
          keeps = λ _ k l. same_before w v c k (a, b) x.1 l;
          stays = λ _ e t. x.2 e ∙ t;
          done = λ _. rw x.1 (listed_snoc (a, b) (pairs_in w c) a b ∙ or_right _ (and_both (eq-eqb a a refl) (eq-eqb b b refl)));
        }

  -- ---- a dangerous edge

  pub step_mark : {w v : List ℕ} {c e : ℕ} {D : Claim} → Formed old new → State old new limit w c → Dangerous old new e → DangerMarked w e v
      → (c ≤ limit → danger_in v e ≡ true → D (pairs_in v c) (danger_in v)) → Step old new limit w c D v c
  unfolding MarksDanger
  step_mark {w} {v} {c} {e} fm s d x f =
      record {
        state = record { wide = omega (arith, s.wide, x.size); few = s.few; kept = kept; over = s.over };
        more = omega arith;
        keeps = λ l k _. (marks l).1 k;
        stays = λ l i t. (marks l).2 i ∙ or_right _ t;
        done = λ l. f l ((marks l).2 e ∙ or_left _ (eqb_self e));
      }
    where
      marks : c ≤ limit → Store v c × ((k : ℕ) → (old_at v k ≡ old_at w k) × (new_at v k ≡ new_at w k)) × ((i : ℕ) → danger_in v i ≡ (eqb e i or danger_in w i))
      marks l = x.marks c (s.kept l).store (omega (arith, danger_old old new d, fm.few_edges))

      kept : c ≤ limit → Kept old new v c
      kept l =
          let k = s.kept l in
          let m = marks l in
          let same : pairs_in v c ≡ pairs_in w c = pairs_agree v w c (λ i _. (m.1 i).0) (λ i _. (m.1 i).1) in
          record {
            store = m.0;
            sound = λ a b t. k.sound a b (rw same at t);
            once = rw same k.once;
            dangerous = λ i t. ⊎_elim (λ u. subst (Dangerous old new) (eqb-true _ _ u) d) (k.dangerous i) (or_cases _ _ (sym (m.2 i) ∙ t));
          }
