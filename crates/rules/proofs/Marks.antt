-- The second half of demand 3, of programs: a test that the selector leaves off goes the same in the new program, and its marks are true of that run; and the marks of any test whose
-- old run ended may be relied on.
use Rattle.std.specs.Prelude.{◌≡◌, refl, ◌⊎◌, Bool, List, [], ℕ, ◌<◌, length, get_or}
use Rattle.std.proofs.Common.{sym, ◌∙◌, inl, inr, true≢false}
use Rattle.std.proofs.Math.Path.{subst}
use Rattle.std.proofs.Math.Logic.{⊎_elim}
use Rattle.std.proofs.Math.Bool.{true, false}
use Rattle.std.proofs.lemmas.Bool.{false≢true}
use Rattle.std.proofs.Math.Option.{Option, none, some, some-injective, none-ne-some}
use borrow.Author.Tests.{eqb-true}
use Rattle.laws.specs.Tests.{◌and◌, ◌or◌, any, choose, has, isnt, listed}
use Rattle.laws.specs.Reach.{among_first, led_to}
use Rattle.laws.specs.TestLaws.{and_left, and_right, and_both, implied, or_cases, or_left, or_right, both_ways, fails, isnt_true, eqb_self, every_at, any_at, any_of_lem, any_of_of, those_of, passes?}
use Rattle.rules.specs.Text.{Bytes}
use Rattle.rules.specs.Graph.{Kind, Program, WellFormed, edge_count, edge_taken, kind_at, target_at}
use Rattle.rules.specs.Run.{Config, Crosses, Ends, Meaning, crossing, ended, run, start, trail}
use Rattle.rules.specs.Closing.{AfterDanger, Coverage, Parting, Probe, after_dangers, callee_entries, carried_mark, carries, carries_only, dangers, endangered, first_entries, holds, mark, mark_0, mark_1, mark_?, meets, pairs, probes, repeated, Dangerous, MayGoOn, Pair, alike, edge_ends}
use Rattle.rules.specs.Promises.{Alongside, ExactFor}
use Rattle.rules.proofs.AfterLaws.{Crossing, crosses_within, crossing_ahead}
use Rattle.rules.proofs.Closure.{after_dangers_iff, dangers_iff, dangers_inside, exits_met_at, goes_on_at, pair_alike, pairs_complete, pairs_sound, probes_iff}
use Rattle.rules.proofs.ClosingLaws.{alike_kind}
use Rattle.rules.proofs.Ends.{ended_crosses, later}
use Rattle.rules.proofs.GraphLaws.{taken_at}
use Rattle.rules.proofs.Lockstep.{Abreast, Apart, Joined, Matched, Rules, alongside, done, from_start, more, moved, open_crossing, open_new, open_old}

module _ (old new : Program) (M : List (ℕ × ℕ)) where
  -- Each edge that one run crosses has a joined one that the other crosses.
  matched_old : {l l' : List ℕ} → Matched old new M l l' → (e : ℕ) → has l e ≡ true → (e' : ℕ) × (has l' e' ≡ true) × Joined old new M e e'
  unfolding has
  matched_old done e h = absurd (false≢true h)
  matched_old (more {e = a} {e' = b} j k) e h =
      ⊎_elim (λ p. (b, or_left _ (eqb_self b), subst (λ (x : ℕ). Joined old new M x b) (eqb-true a e p) j))
      (λ p. let r = matched_old k e p in (r.0, or_right _ r.1, r.2)) (or_cases _ _ h)

  matched_new : {l l' : List ℕ} → Matched old new M l l' → (e' : ℕ) → has l' e' ≡ true → (e : ℕ) × (has l e ≡ true) × Joined old new M e e'
  unfolding has
  matched_new done e' h = absurd (false≢true h)
  matched_new (more {e = a} {e' = b} j k) e' h =
      ⊎_elim (λ p. (a, or_left _ (eqb_self a), subst (λ (x : ℕ). Joined old new M a x) (eqb-true b e' p) j))
      (λ p. let r = matched_new k e' p in (r.0, or_right _ r.1, r.2)) (or_cases _ _ h)

module _ (old new : Program) (coverage : Coverage) where
  -- What a mark says.
  mark_one : (e' : ℕ) → mark old new coverage e' ≡ mark_1
      → ((meets (dangers old new) coverage and (has (probes old new) e' or endangered old new coverage e')) ≡ false) × (any (edge_count old) (carries_only old new coverage e') ≡ true)
  unfolding mark carried_mark choose
  mark_one e' e = go (meets (dangers old new) coverage and (has (probes old new) e' or endangered old new coverage e')) (isnt (any (edge_count old) (carries old new coverage e'))) (any (edge_count old) (carries_only old new coverage e')) e
    where
      go : (a b c : Bool) → choose a mark_? (choose b mark_0 (choose c mark_1 mark_?)) ≡ mark_1 → (a ≡ false) × (c ≡ true)
      go true b c e = absurd (true≢false (let z : true ≡ false = cc in z))
      go false true c e = absurd (true≢false (let z : true ≡ false = cc in z))
      go false false true e = (refl, refl)
      go false false false e = absurd (true≢false (let z : true ≡ false = cc in z))

  mark_zero : (e' : ℕ) → mark old new coverage e' ≡ mark_0
      → ((meets (dangers old new) coverage and (has (probes old new) e' or endangered old new coverage e')) ≡ false) × (any (edge_count old) (carries old new coverage e') ≡ false)
  unfolding mark carried_mark choose
  mark_zero e' e =
      let r = go (meets (dangers old new) coverage and (has (probes old new) e' or endangered old new coverage e')) (isnt (any (edge_count old) (carries old new coverage e'))) (any (edge_count old) (carries_only old new coverage e')) e in
      (r.0, isnt_true _ r.1)
    where
      go : (a b c : Bool) → choose a mark_? (choose b mark_0 (choose c mark_1 mark_?)) ≡ mark_0 → (a ≡ false) × (b ≡ true)
      go true b c e = absurd (true≢false (let z : true ≡ false = cc in z))
      go false true c e = (refl, refl)
      go false false true e = absurd (true≢false (let z : true ≡ false = cc in z))
      go false false false e = absurd (true≢false (let z : true ≡ false = cc in z))

-- A test that the selector leaves off holds no dangerous edge.
unmet : (old new : Program) (suite : List Coverage) (i : ℕ) → i < length suite → has (repeated old new suite) i ≡ false → meets (dangers old new) (get_or suite i []) ≡ false
unfolding repeated
unmet old new suite i h u = fails _ (λ t. both_ways (those_of (λ i. meets (dangers old new) (get_or suite i [])) (length suite) i h t) u)

-- ---- the two runs, by the closing rules

-- The runs part only where the old one crosses a dangerous edge, and there the new one takes no edge, or one at which they may part.
abbrev Strays : Program → Program → ℕ → Option ℕ → Type 0
Strays old new e x = (has (dangers old new) e ≡ true) × ((f : ℕ) → x ≡ some f → Parting old new f)

module _ (old new : Program) (wo : WellFormed old) (wn : WellFormed new) where
  -- At a pair that may go on the new node takes an edge with an end alike for the word for which the old one takes one, or there the runs part.
  takes_or_strays : (n n' : ℕ) → Pair old new n n' → MayGoOn old new n n' → (w : Bytes) (e : ℕ) → edge_taken old n w ≡ some e → (x : Option ℕ) → edge_taken new n' w ≡ x
      → ((e' : ℕ) × (x ≡ some e') × (listed (pairs old new) (target_at old e) (target_at new e') ≡ true)) ⊎ Strays old new e x
  takes_or_strays n n' p g w e h none h' =
      let s = (taken_at old n w e h).1 in
      let d : Dangerous old new e
      = record { partner = n'; pair = rw s p; may_go_on = rw s g; word = w; old_takes = rw s h; unfit = λ f q a. none-ne-some f (sym h' ∙ q) } in
      inr ((dangers_iff old new wo wn e).1 d, λ f q. absurd (none-ne-some f q))
  takes_or_strays n n' p g w e h (some e') h' = go (passes? (alike old new (target_at old e) (target_at new e')))
    where
      go : (alike old new (target_at old e) (target_at new e') ≡ true) ⊎ (alike old new (target_at old e) (target_at new e') ≡ false)
          → ((f : ℕ) × (◌≡◌ {A = Option ℕ} (some e') (some f)) × (listed (pairs old new) (target_at old e) (target_at new f) ≡ true)) ⊎ Strays old new e (some e')
      go (inl a) = inl (e', refl, pairs_complete old new wo wn (edge_ends p g w h h' a))
      go (inr u) =
          let s = (taken_at old n w e h).1 in
          let d : Dangerous old new e
          = record {
            partner = n';
            pair = rw s p;
            may_go_on = rw s g;
            word = w;
            old_takes = rw s h;
            unfit = λ f q a. both_ways (subst (λ (y : ℕ). alike old new (target_at old e) (target_at new y) ≡ true) (some-injective f e' (sym q ∙ h')) a) u;
          } in
          inr ((dangers_iff old new wo wn e).1 d, λ f q. record { cause = e; danger = d; taken = h' ∙ q })

  closing_rules : Rules old new (pairs old new) (Strays old new)
  closing_rules =
      record {
        first = pairs_complete old new wo wn first_entries;
        likes = λ n n' l. pair_alike old new wo wn (pairs_sound old new wo wn n n' l);
        opens = λ n n' l k k' i h x.
            pairs_complete old new wo wn (callee_entries (pairs_sound old new wo wn n n' l) k k' i h (λ j b. pairs_sound old new wo wn _ _ (exits_met_at old new (pairs old new) n n' i x j b)));
        goes = λ n n' l g w e h.
            takes_or_strays n n' (pairs_sound old new wo wn n n' l) (λ k j i. pairs_sound old new wo wn _ _ (goes_on_at old new (pairs old new) _ _ g k j i)) w e h (edge_taken new n' w) refl;
      }

  module _ {ℓ κ} {St : Type ℓ} {Out : Type κ} (m : Meaning St Out) (s : St) where
    -- From the start, in k steps of the old run.
    abbrev InTime : ℕ → Config St Out → Type (ℓ ⊔ κ)
    InTime k c = Abreast old new wo wn (pairs old new) (Strays old new) closing_rules m k (start old s) (start new s) c

    abbrev Parted : ℕ → Type (ℓ ⊔ κ)
    Parted k = Apart old new wo wn (pairs old new) (Strays old new) closing_rules m k (start old s) (start new s)

    in_time : (k : ℕ) (c : Config St Out) → run old m k (start old s) ≡ some c → InTime k c ⊎ Parted k
    in_time k c e = from_start old new wo wn (pairs old new) (Strays old new) closing_rules m k s c e

    -- Where they have parted, the old run crosses only edges after a danger, and the new one only edges that need a probe.
    old_after : (k : ℕ) (a : Parted k) (i e : ℕ) → has (trail old m i a.here) e ≡ true → AfterDanger old new e
    unfolding crossing
    old_after k a i e t =
        let g = a.abreast.together in
        crosses_within old wo (AfterDanger old new) (λ e f x l. led_to x l) m a.here g.here (open_old old new (pairs old new) g.calls)
        (crossing_ahead old _ _ _ _ a.edge a.crosses)
        (λ f q. among_first ((dangers_iff old new wo wn f).0 (subst (λ (x : ℕ). has (dangers old new) x ≡ true) (some-injective a.edge f (sym a.crosses ∙ q)) a.part.0))) i e t

    new_after : (k : ℕ) (a : Parted k) (i e : ℕ) → has (trail new m i (moved a.here a.abreast.node a.abreast.calls)) e ≡ true → Probe old new e
    unfolding crossing
    new_after k a i e t =
        let g = a.abreast.together in
        crosses_within new wn (Probe old new) (λ e f x l. led_to x l) m (moved a.here a.abreast.node a.abreast.calls) g.there
        (open_new old new wo wn (pairs old new) (Strays old new) closing_rules g.calls)
        (subst (λ (k : Kind). Crossing new k a.here.word a.abreast.calls) (sym (alike_kind old new _ _ (pair_alike old new wo wn (pairs_sound old new wo wn _ _ g.pair))))
        (open_crossing old new wo wn (pairs old new) (Strays old new) closing_rules (kind_at old a.here.node) a.here.word g.calls (crossing_ahead old _ _ _ _ a.edge a.crosses)))
        (λ f q. among_first (a.part.1 f q)) i e t

    module _ (coverage : Coverage) where
      -- An edge marked `1` by an old edge that was crossed in step was crossed in step.
      one_crossed : (k : ℕ) (c : Config St Out) → InTime k c → (e e' : ℕ) → carries_only old new coverage e' e ≡ true → has (trail old m k (start old s)) e ≡ true
          → has (trail new m k (start new s)) e' ≡ true
      unfolding carries_only
      one_crossed k c a e e' o t =
          let r = matched_old old new (pairs old new) a.crossed e t in
          let only : r.0 ≡ e' = eqb-true _ _ (implied _ _ (every_at _ (edge_count new) (and_right _ _ o) r.0 r.2.is_new) r.2.join) in
          rw only at r.1

      -- An edge that was crossed in step is not marked `0`.
      zero_crossed : (k : ℕ) (c : Config St Out) → InTime k c → ((e : ℕ) → e < edge_count old → has (trail old m k (start old s)) e ≡ true → holds coverage e ≡ true)
          → (e' : ℕ) → any (edge_count old) (carries old new coverage e') ≡ false → has (trail new m k (start new s)) e' ≡ true → ⊥
      unfolding carries
      zero_crossed k c a h e' z t =
          let r = matched_new old new (pairs old new) a.crossed e' t in
          both_ways (any_of_lem (carries old new coverage e') (edge_count old) r.0 r.2.is_old (and_both (h r.0 r.2.is_old r.1) r.2.join)) z

-- ---- a test that is left off

module _ {ℓ κ} {St : Type ℓ} {Out : Type κ} (old new : Program) (wo : WellFormed old) (wn : WellFormed new) (suite : List Coverage) (i : ℕ) (h : i < length suite)
    (left : has (repeated old new suite) i ≡ false) (m : Meaning St Out) (s : St) (k : ℕ) (c : Config St Out) (ran : run old m k (start old s) ≡ some c)
    (crossed : (e : ℕ) → e < edge_count old → holds (get_or suite i []) e ≡ has (trail old m k (start old s)) e) where
  -- The runs do not part: the test's coverage would hold a dangerous edge.
  left_in_time : InTime old new wo wn m s k c
  unfolding meets
  left_in_time =
      ⊎_elim (λ a. a)
      (λ a. absurd (both_ways (any_of_of (holds (get_or suite i [])) (dangers old new) a.edge a.part.0
      (crossed a.edge (dangers_inside old new a.edge a.part.0) ∙ a.within)) (unmet old new suite i h left)))
      (in_time old new wo wn m s k c ran)

  left_zeros : (e' : ℕ) → mark old new (get_or suite i []) e' ≡ mark_0 → has (trail new m k (start new s)) e' ≡ true → ⊥
  left_zeros e' o t =
      zero_crossed old new wo wn m s (get_or suite i []) k c left_in_time (λ e l u. crossed e l ∙ u) e' (mark_zero old new (get_or suite i []) e' o).1 t

  -- The test's coverage holds just the edges that the k steps of the old run cross. Then the new run takes them too; it has crossed each new edge that is marked `1` and none
  -- that is marked `0`, and where the old run has ended it never crosses one.
  pub marks_true : (c' : Config St Out) × (run new m k (start new s) ≡ some c') × Alongside old new c c'
      × ((e' : ℕ) → mark old new (get_or suite i []) e' ≡ mark_1 → has (trail new m k (start new s)) e' ≡ true)
      × ((e' : ℕ) → mark old new (get_or suite i []) e' ≡ mark_0 → has (trail new m k (start new s)) e' ≡ false)
      × (ended old c ≡ true → (e' : ℕ) → mark old new (get_or suite i []) e' ≡ mark_0 → (j : ℕ) → has (trail new m j (start new s)) e' ≡ false)
  unfolding carries_only carries
  marks_true =
      let a = left_in_time in
      let g = alongside old new wo wn (pairs old new) (Strays old new) (closing_rules old new wo wn) m k (start old s) (start new s) c a in (
        moved c a.node a.calls,
        a.takes,
        g,
        λ e' o.
            let r = any_at (carries_only old new (get_or suite i []) e') (edge_count old) (mark_one old new (get_or suite i []) e' o).1 in
            one_crossed old new wo wn m s (get_or suite i []) k c a r.0 e' r.2 (sym (crossed r.0 r.1) ∙ and_left _ _ (and_left _ _ r.2)),
        λ e' o. fails _ (left_zeros e' o),
        λ f e' o j. fails _ (λ t. left_zeros e' o (ended_crosses new m k j (start new s) _ a.takes (sym g.ends ∙ f) e' t)),
      )

-- ---- any test whose old run ended

module _ {ℓ κ} {St : Type ℓ} {Out : Type κ} (old new : Program) (wo : WellFormed old) (wn : WellFormed new) (coverage : Coverage) (m : Meaning St Out) (s : St)
    (ends : Ends old m s) (exact : ExactFor old m s coverage) where
  -- The edges that the coverage holds were crossed before the old run ended.
  held : (e : ℕ) → e < edge_count old → holds coverage e ≡ true → has (trail old m ends.0 (start old s)) e ≡ true
  held e l t = let r = (exact e l).0 t in ended_crosses old m ends.0 r.0 (start old s) ends.1 ends.2 ends.3 e r.1

  holds_crossed : (k e : ℕ) → e < edge_count old → has (trail old m k (start old s)) e ≡ true → holds coverage e ≡ true
  holds_crossed k e l t = (exact e l).1 (k, t)

  -- The runs are in step until the old one has ended, and the new one ends there too.
  module _ (a : InTime old new wo wn m s ends.0 ends.1) where
    time_ones : (e' : ℕ) → any (edge_count old) (carries_only old new coverage e') ≡ true → Crosses new m s e'
    unfolding carries_only carries
    time_ones e' o =
        let r = any_at (carries_only old new coverage e') (edge_count old) o in
        (ends.0, one_crossed old new wo wn m s coverage ends.0 ends.1 a r.0 e' r.2 (held r.0 r.1 (and_left _ _ (and_left _ _ r.2))))

    time_zeros : (e' : ℕ) → any (edge_count old) (carries old new coverage e') ≡ false → Crosses new m s e' → ⊥
    time_zeros e' o x =
        let g = alongside old new wo wn (pairs old new) (Strays old new) (closing_rules old new wo wn) m ends.0 (start old s) (start new s) ends.1 a in
        zero_crossed old new wo wn m s coverage ends.0 ends.1 a (holds_crossed ends.0) e' o
        (ended_crosses new m ends.0 x.0 (start new s) _ a.takes (sym g.ends ∙ ends.3) e' x.1)

  -- The runs part: then the test is repeated, and an edge marked `0` or `1` has no probe and no crossed counterpart after a danger.
  module _ (a : Parted old new wo wn m s ends.0) (e' : ℕ) (sure : (meets (dangers old new) coverage and (has (probes old new) e' or endangered old new coverage e')) ≡ false) where
    is_repeated : meets (dangers old new) coverage ≡ true
    unfolding meets
    is_repeated =
        any_of_of (holds coverage) (dangers old new) a.edge a.part.0 (holds_crossed ends.0 a.edge (dangers_inside old new a.edge a.part.0) a.within)

    no_probe : Probe old new e' → ⊥
    no_probe p = both_ways (and_both is_repeated (or_left _ ((probes_iff old new wo wn e').1 p))) sure

    no_danger : (e : ℕ) → e < edge_count old → carries old new coverage e' e ≡ true → AfterDanger old new e → ⊥
    unfolding endangered
    no_danger e l t d =
        both_ways (and_both is_repeated (or_right _ (any_of_lem (λ e. carries old new coverage e' e and has (after_dangers old new) e) (edge_count old) e l (and_both t ((after_dangers_iff old new wo wn e).1 d))))) sure

    part_ones : any (edge_count old) (carries_only old new coverage e') ≡ true → Crosses new m s e'
    unfolding carries_only carries
    part_ones o =
        let r = any_at (carries_only old new coverage e') (edge_count old) o in
        let t = held r.0 r.1 (and_left _ _ (and_left _ _ r.2)) in (
          a.before,
          one_crossed old new wo wn m s coverage a.before a.here a.abreast r.0 e' r.2
              (⊎_elim (λ u. u) (λ u. absurd (no_danger r.0 r.1 (and_left _ _ r.2) (old_after old new wo wn m s ends.0 a u.0 r.0 u.1)))
              (later old m a.before ends.0 (start old s) a.here a.reaches r.0 t)),
        )

    part_zeros : any (edge_count old) (carries old new coverage e') ≡ false → Crosses new m s e' → ⊥
    part_zeros o x =
        ⊎_elim (zero_crossed old new wo wn m s coverage a.before a.here a.abreast (holds_crossed a.before) e' o)
        (λ u. no_probe (new_after old new wo wn m s ends.0 a u.0 e' u.1))
        (later new m a.before x.0 (start new s) _ a.abreast.takes e' x.1)

  -- The old run ended, and the test's coverage is exact. Then the new run crosses each new edge marked `1`, and never one marked `0`.
  pub marks_hold : ((e' : ℕ) → mark old new coverage e' ≡ mark_1 → Crosses new m s e') × ((e' : ℕ) → mark old new coverage e' ≡ mark_0 → Crosses new m s e' → ⊥)
  marks_hold =
      ⊎_elim
      (λ a. (λ e' o. time_ones a e' (mark_one old new coverage e' o).1, λ e' o. time_zeros a e' (mark_zero old new coverage e' o).1))
      (λ a. (
        λ e' o. let r = mark_one old new coverage e' o in part_ones a e' r.0 r.1,
        λ e' o. let r = mark_zero old new coverage e' o in part_zeros a e' r.0 r.1,
      ))
      (in_time old new wo wn m s ends.0 ends.1 ends.2)
