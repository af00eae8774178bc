-- What `alike`, `opposite` and `fits` give: the only proofs that look behind these names.
use Rattle.std.specs.Prelude.{◌≡◌, ◌↔◌, ◌⊎◌, Bool, [], ℕ, ◌<◌}
use Rattle.std.proofs.Math.Path.{refl, sym, ap}
use Rattle.std.proofs.Common.{◌∙◌, ext_get_or, eqb-true, eq-eqb}
use Rattle.std.proofs.Math.Logic.{inl, inr, ⊎_elim}
use Rattle.std.proofs.Math.Bool.{true, false}
use Rattle.std.proofs.lemmas.Bool.{false≢true}
use Rattle.std.proofs.Math.Option.{Option, none, some, some-injective}
use Rattle.std.proofs.Math.Dec.{eqb}
use Rattle.laws.specs.Tests.{◌and◌, every, ◌or◌, ◌⇒◌, after, some?}
use Rattle.laws.specs.TestLaws.{and_both, and_left, and_right, eqb_self, every_at, every_of, same_test, and_fails, both_ways, every_not, implied, or_cases, or_left, or_right, passes?, some_at, some_of, unimplied}
use Rattle.rules.specs.Text.{Bytes, join_by, name_count, name_in, same, same_label, split, squeezed}
use Rattle.rules.specs.Graph.{Program, callee_at, edge_count, edge_taken, kind_at, label_at, same_kind, source_at, target_at, word_at, WellFormed, star}
use Rattle.rules.specs.Closing.{alike, fits, same_callee, opposite, kept_by, takes, Counterparts, Dangerous}
use Rattle.rules.proofs.GraphLaws.{edge_is, same_kind_of, same_kind_true, star_takes, taken_at}
use Rattle.rules.proofs.TextLaws.{join_split, same_of, same_self, same_true}

-- Labels match by what is left of them.
pub same_label_is : (l l' : Bytes) → same_label l l' ≡ same (squeezed l) (squeezed l')
unfolding same_label
same_label_is l l' = refl

pub same_label_true : (l l' : Bytes) → same_label l l' ≡ true → squeezed l ≡ squeezed l'
unfolding same_label
same_label_true l l' e = same_true _ _ e

pub same_label_of : (l l' : Bytes) → squeezed l ≡ squeezed l' → same_label l l' ≡ true
unfolding same_label
same_label_of l l' e = same_of e

-- Callee fields count as equal by their bytes; that is, if they have as many names and these have equal bytes, one by one.
pub same_callee_names : (c c' : Bytes) → same_callee c c' ≡ (eqb (name_count c) (name_count c') and every (name_count c) (λ i. same (name_in c i) (name_in c' i)))
unfolding same_callee name_count name_in
same_callee_names c c' =
    same_test _ _
    (λ t. let e = same_true c c' t in rw e (and_both (eqb_self (name_count c')) (every_of _ (name_count c') (λ i h. same_self (name_in c' i)))))
    (λ t.
    let e : split 43 c ≡ split 43 c'
    = ext_get_or [] (split 43 c) (split 43 c') (eqb-true _ _ (and_left _ _ t)) (λ i h. same_true _ _ (every_at _ (name_count c) (and_right _ _ t) i h)) in
    same_of (sym (join_split 43 c) ∙ ap (join_by 43) e ∙ join_split 43 c'))

pub same_callee_is : (c c' : Bytes) → same_callee c c' ≡ same c c'
unfolding same_callee
same_callee_is c c' = refl

module _ (old new : Program) (n n' : ℕ) where
  -- Nodes are alike by their kinds, labels and callees. Two callee fields of no bytes count as equal.
  pub alike_parts : alike old new n n' ≡ (same_kind (kind_at old n) (kind_at new n') and same_label (label_at old n) (label_at new n') and same_callee (callee_at old n) (callee_at new n'))
  unfolding alike
  alike_parts = refl

  pub alike_is : (alike old new n n' ≡ true) ↔ ((kind_at old n ≡ kind_at new n') × (squeezed (label_at old n) ≡ squeezed (label_at new n')) × (callee_at old n ≡ callee_at new n'))
  unfolding alike same_callee
  alike_is = (
    λ h. (same_kind_true _ _ (and_left _ _ h), same_label_true _ _ (and_left _ _ (and_right _ _ h)), same_true _ _ (and_right _ _ (and_right _ _ h))),
    λ h. and_both (same_kind_of h.0) (and_both (same_label_of _ _ h.1) (same_of h.2)),
  )

  pub bare_callees : callee_at old n ≡ [] → callee_at new n' ≡ [] → same_callee (callee_at old n) (callee_at new n') ≡ true
  unfolding same_callee
  bare_callees c c' = same_of (c ∙ sym c')

  -- Alike nodes have equal kinds and callee fields, and labels that match.
  pub alike_kind : alike old new n n' ≡ true → kind_at new n' ≡ kind_at old n
  alike_kind h = sym (alike_is.0 h).0

  pub alike_label : alike old new n n' ≡ true → same_label (label_at old n) (label_at new n') ≡ true
  unfolding alike
  alike_label h = and_left _ _ (and_right _ _ h)

  pub alike_callee : alike old new n n' ≡ true → callee_at new n' ≡ callee_at old n
  unfolding alike same_callee
  alike_callee h = sym (same_true _ _ (and_right _ _ (and_right _ _ h)))

  -- Two nodes of one kind with no label and no callee are alike.
  pub alike_bare : kind_at old n ≡ kind_at new n' → label_at old n ≡ [] → label_at new n' ≡ [] → callee_at old n ≡ [] → callee_at new n' ≡ [] → alike old new n n' ≡ true
  alike_bare k l l' c c' = alike_is.1 (k, ap squeezed (l ∙ sym l'), c ∙ sym c')

-- Alike nodes, of any programs: a node and itself, either way round, and through a third.
pub alike_self : (p : Program) (n : ℕ) → alike p p n n ≡ true
alike_self p n = (alike_is p p n n).1 (refl, refl, refl)

pub alike_back : (p q : Program) (a b : ℕ) → alike p q a b ≡ true → alike q p b a ≡ true
alike_back p q a b h =
    let x = (alike_is p q a b).0 h in
    (alike_is q p b a).1 (sym x.0, sym x.1, sym x.2)

pub alike_then : (p q r : Program) (a b c : ℕ) → alike p q a b ≡ true → alike q r b c ≡ true → alike p r a c ≡ true
alike_then p q r a b c h k =
    let x = (alike_is p q a b).0 h in
    let y = (alike_is q r b c).0 k in
    (alike_is p r a c).1 (x.0 ∙ y.0, x.1 ∙ y.1, x.2 ∙ y.2)

-- ---- the edges taken for a word

module _ (p : Program) (w : Bytes) (e : ℕ) where
  pub takes_at : takes p w e ≡ true → edge_taken p (source_at p e) w ≡ some e
  unfolding takes
  takes_at h = go (edge_taken p (source_at p e) w) h
    where
      go : (o : Option ℕ) → after o false (λ f. eqb f e) ≡ true → o ≡ some e
      go none h = absurd (false≢true h)
      go (some f) h = ap {B = Option ℕ} some (eqb-true f e h)

  pub takes_of : edge_taken p (source_at p e) w ≡ some e → takes p w e ≡ true
  unfolding takes
  takes_of h = rw h (eqb_self e)

module _ (old new : Program) (wo : WellFormed old) (wn : WellFormed new) where
  -- Edges that pass `opposite` are taken for one word; and those that are taken for one word pass it.
  pub opposite_at : (e e' : ℕ) → e < edge_count old → e' < edge_count new → opposite old new e e' ≡ true
      → (w : Bytes) × (edge_taken old (source_at old e) w ≡ some e) × (edge_taken new (source_at new e') w ≡ some e')
  unfolding opposite
  opposite_at e e' h h' t =
      ⊎_elim (λ u. (word_at old e, edge_is old wo e _ _ h refl refl, takes_at new (word_at old e) e' u))
      (λ u. (word_at new e', takes_at old (word_at new e') e u, edge_is new wn e' _ _ h' refl refl)) (or_cases _ _ t)

  pub opposite_of : (n n' e e' : ℕ) (w : Bytes) → edge_taken old n w ≡ some e → edge_taken new n' w ≡ some e' → opposite old new e e' ≡ true
  unfolding opposite
  opposite_of n n' e e' w t t' = go (taken_at old n w e t) (taken_at new n' w e' t')
    where
      go : (e < edge_count old) × (source_at old e ≡ n) × ((word_at old e ≡ w) ⊎ (word_at old e ≡ star))
          → (e' < edge_count new) × (source_at new e' ≡ n') × ((word_at new e' ≡ w) ⊎ (word_at new e' ≡ star))
          → (takes new (word_at old e) e' or takes old (word_at new e') e) ≡ true
      go (h, a, inl b) (h', a', b') = or_left _ (takes_of new (word_at old e) e' (rw (a', b) t'))
      go (h, a, inr b) (h', a', inl b') = or_right _ (takes_of old (word_at new e') e (rw (a, b') t))
      go (h, a, inr b) (h', a', inr b') = or_left _ (takes_of new (word_at old e) e' (edge_is new wn e' _ _ h' refl (b' ∙ sym b)))

  -- By edges. An edge with another word than `*` is opposite to the edge that the new node takes for that word; `*` to each new edge for whose word the old node takes it.
  pub named_opposite : (e e' : ℕ) → (word_at old e ≡ star → ⊥) → e < edge_count old → e' < edge_count new → opposite old new e e' ≡ true
      → edge_taken new (source_at new e') (word_at old e) ≡ some e'
  unfolding opposite
  named_opposite e e' x h h' t =
      ⊎_elim (λ u. takes_at new (word_at old e) e' u)
      (λ u. ⊎_elim (λ q. edge_is new wn e' _ _ h' refl (sym q)) (λ q. absurd (x q)) (taken_at old _ (word_at new e') e (takes_at old (word_at new e') e u)).2)
      (or_cases _ _ t)

  pub taken_opposite : (e e' : ℕ) → edge_taken new (source_at new e') (word_at old e) ≡ some e' → opposite old new e e' ≡ true
  unfolding opposite
  taken_opposite e e' t = or_left _ (takes_of new (word_at old e) e' t)

  pub star_opposite : (e e' : ℕ) → word_at old e ≡ star → e < edge_count old → opposite old new e e' ≡ takes old (word_at new e') e
  unfolding opposite
  star_opposite e e' s h =
      same_test _ _
      (λ t.
      ⊎_elim
      (λ u.
      let r = (taken_at new _ (word_at old e) e' (takes_at new (word_at old e) e' u)).2 in
      takes_of old (word_at new e') e (edge_is old wo e _ _ h refl (⊎_elim sym (λ q. s ∙ sym q) r)))
      (λ u. u) (or_cases _ _ t))
      (λ t. or_right _ t)

  module _ (f : ℕ → ℕ → Bool) (e n' : ℕ) where
    -- What `kept_by` says of every word; where it fails, a word that shows it; and that it passes where there is none.
    pub kept_at : kept_by old new f e n' ≡ true → (w : Bytes) → edge_taken old (source_at old e) w ≡ some e
        → (e' : ℕ) × (edge_taken new n' w ≡ some e') × (f (target_at old e) (target_at new e') ≡ true)
    unfolding kept_by
    kept_at h w t = go (taken_at old _ w e t).2
      where
        own : (e' : ℕ) × (edge_taken new n' (word_at old e) ≡ some e')
        own = some_at _ (and_left _ _ h)

        found : (e' : ℕ) → edge_taken new n' w ≡ some e' → (e' : ℕ) × (edge_taken new n' w ≡ some e') × (f (target_at old e) (target_at new e') ≡ true)
        found e' t' =
            let r = taken_at new n' w e' t' in (
              e',
              t',
              implied _ _ (every_at _ (edge_count new) (and_right _ _ h) e' r.0) (and_both (eq-eqb _ _ r.1) (opposite_of _ n' e e' w t t')),
            )

        go : (word_at old e ≡ w) ⊎ (word_at old e ≡ star) → (e' : ℕ) × (edge_taken new n' w ≡ some e') × (f (target_at old e) (target_at new e') ≡ true)
        go (inl b) = found own.0 (ap (edge_taken new n') (sym b) ∙ own.1)
        go (inr b) = let s = star_takes new n' w own.0 (ap (edge_taken new n') (sym b) ∙ own.1) in found s.0 s.1

    pub unkept_at : e < edge_count old → kept_by old new f e n' ≡ false
        → (w : Bytes) × (edge_taken old (source_at old e) w ≡ some e) × ((e' : ℕ) → edge_taken new n' w ≡ some e' → f (target_at old e) (target_at new e') ≡ true → ⊥)
    unfolding kept_by
    unkept_at h k = ⊎_elim none_taken some_ends (and_fails _ _ k)
      where
        none_taken : some? (edge_taken new n' (word_at old e)) ≡ false
            → (w : Bytes) × (edge_taken old (source_at old e) w ≡ some e) × ((e' : ℕ) → edge_taken new n' w ≡ some e' → f (target_at old e) (target_at new e') ≡ true → ⊥)
        none_taken u = (word_at old e, edge_is old wo e _ _ h refl refl, λ e' t g. both_ways (some_of t) u)

        some_ends : every (edge_count new) (λ e'. eqb (source_at new e') n' and opposite old new e e' ⇒ f (target_at old e) (target_at new e')) ≡ false
            → (w : Bytes) × (edge_taken old (source_at old e) w ≡ some e) × ((e' : ℕ) → edge_taken new n' w ≡ some e' → f (target_at old e) (target_at new e') ≡ true → ⊥)
        some_ends u =
            let r = every_not (λ e'. eqb (source_at new e') n' and opposite old new e e' ⇒ f (target_at old e) (target_at new e')) (edge_count new) u in
            let v = unimplied _ _ r.2 in
            let s : source_at new r.0 ≡ n' = eqb-true _ _ (and_left _ _ v.0) in
            let w = opposite_at e r.0 h r.1 (and_right _ _ v.0) in (
              w.0,
              w.1,
              λ e' t g.
                  let q : e' ≡ r.0 = some-injective _ _ (sym t ∙ ap (λ (n : ℕ). edge_taken new n w.0) (sym s) ∙ w.2) in
                  both_ways (sym (ap (λ (i : ℕ). f (target_at old e) (target_at new i)) q) ∙ g) v.1,
            )

    pub kept_of : e < edge_count old → ((w : Bytes) → edge_taken old (source_at old e) w ≡ some e → (e' : ℕ) × (edge_taken new n' w ≡ some e') × (f (target_at old e) (target_at new e') ≡ true))
        → kept_by old new f e n' ≡ true
    kept_of h k = ⊎_elim (λ t. t) (λ u. let r = unkept_at h u in let t = k r.0 r.1 in absurd (r.2 t.0 t.1 t.2)) (passes? (kept_by old new f e n'))

module _ (old new : Program) (e e' : ℕ) where
  pub fits_word : fits old new e e' ≡ true → opposite old new e e' ≡ true
  unfolding fits
  fits_word h = and_left _ _ h

  pub fits_ends : fits old new e e' ≡ true → alike old new (target_at old e) (target_at new e') ≡ true
  unfolding fits
  fits_ends h = and_right _ _ h

  pub fits_of : opposite old new e e' ≡ true → alike old new (target_at old e) (target_at new e') ≡ true → fits old new e e' ≡ true
  unfolding fits
  fits_of w a = and_both w a

-- Counterparts are an old edge and a new one.
module _ (old new : Program) {e e' : ℕ} (c : Counterparts old new e e') where
  pub counterpart_old : e < edge_count old
  counterpart_old = (taken_at old _ c.word e c.old_takes).0

  pub counterpart_new : e' < edge_count new
  counterpart_new = (taken_at new _ c.word e' c.new_takes).0

-- A dangerous edge is an old one.
pub danger_old : (old new : Program) {e : ℕ} → Dangerous old new e → e < edge_count old
danger_old old new {e} d = (taken_at old _ d.word e d.old_takes).0
