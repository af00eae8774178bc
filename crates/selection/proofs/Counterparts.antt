-- The turns and the returns of the functions that find the counterparts of an old edge.
use mathlib.Core.Path.{◌≡◌, refl, sym, ap, ◌∙◌, subst}
use mathlib.Core.Bool.{Bool, true, false}
use mathlib.Core.Logic.{◌⊎◌, inl, inr, ⊎_elim}
use mathlib.Core.List.{List}
use Prim.Native.Nat.{ℕ, suc, ◌<◌}
use native.Mathlib.Omega.{arith}
use lib.Dec.{eqb}
use lib.ListN.{get_or}
use borrow.Author.Tests.{eqb-true, eq-eqb, ne_eqb, lt-ltb, ltb-true}
use Rattle.laws.specs.Tests.{◌and◌, choose, first, found, listed}
use Rattle.laws.specs.TestLaws.{and_both, and_left, and_right, any_at, any_of_lem, both_ways, every_at, every_of, first_only, implied, implies, passes?}
use Rattle.laws.specs.Lists.{choose_yes, choose_no}
use Rattle.laws.specs.Slices.{same_or}
use Rattle.laws.specs.Chain.{latest_none}
use Rattle.laws.specs.Fold.{Folded, fold, fold_end, fold_keeps, fold_start, passing, passing_at, passing_chain, passing_of}
use Rattle.rules.specs.Graph.{Program, edge_count, source_at}
use Rattle.rules.specs.Closing.{goes_on, joined, pairs}
use Rattle.rules.specs.ProgramFile.{Listing}
use Rattle.graph.specs.Table.{edge_base}
use Rattle.pairset.specs.Store.{last_pair, new_at, old_at, pair_before, pairs_in}
use Rattle.pairset.specs.StoreLaws.{walked}
use Rattle.versions.specs.Found.{none_found}
use Rattle.versions.specs.Claims.{GoesOn}
use Rattle.versions.specs.Opposite.{FindsBefore, IsStar, LastOpposite, OppositeBefore}
use Rattle.selection.specs.declared.Seen.{Seen}
use Rattle.selection.specs.declared.Seen.TheVariants.{Nothing, One, Several}
use Rattle.selection.specs.Compared.{Compared, Fits, Fitting, Joins, JoinsBefore, JoinsDown, LastFitting, hit_at, hits_any, met_joined, partner_below}
use Rattle.selection.specs.Marks.{Only, Sees, seen_at, sole, united}
use Rattle.selection.proofs.Dangers.{fit_end, fit_start, goes_is, hit_at_lem, source_of}
use Rattle.selection.proofs.Hits.{hit_next, joins_le, owner_at, pair_at, step_at}

-- ---- `joins`, `joins_before`

module _ (on ol nn nl w : List ℕ) (e n m : ℕ) (g met : Bool) (go : GoesOn on ol nn nl w n m g) where
  goes_on_lem : (o p : Listing) (c : ℕ) → Compared on ol nn nl w c o p → e < edge_count o.program → n ≡ source_at o.program e → listed (pairs_in w c) n m ≡ true
      → goes_on o.program p.program (pairs_in w c) (source_at o.program e) m ≡ g
  goes_on_lem o p c h i en j = ap (λ (x : ℕ). goes_on o.program p.program (pairs_in w c) x m) (sym en) ∙ sym (goes_is on ol nn nl w e n m g go o p c h i en j)

  pub joins_stays : g ≡ false → Joins on ol nn nl w e n m met 0
  unfolding Joins
  joins_stays z o p c h i en j =
      sym (latest_none _ 0 (edge_count p.program) (λ f l q.
      both_ways (hit_at_lem o.program p.program (pairs_in w c) met e m f (passing_at _ f q)).1 (goes_on_lem o p c h i en j ∙ z)))

  pub joins_goes : (r : ℕ) → g ≡ true → LastFitting ol nl w e m met r → Joins on ol nn nl w e n m met r
  unfolding Joins Fits LastOpposite
  joins_goes r z f o p c h i en j =
      f.fitting.fits on nn o p c h i m (edge_count p.program) (rw (← en) j) (goes_on_lem o p c h i en j ∙ z) (omega arith)
      (f.is_last h.old_text on h.new_text nn o p h.old_in h.new_in i (partner_below h n m j))

pub joins_down : (ol nl w : List ℕ) (e f : ℕ) (met : Bool) (before r : ℕ) → OppositeBefore ol nl e f before → Fitting ol nl w e before met r → JoinsBefore ol nl w e f met r
unfolding JoinsDown Fits FindsBefore
joins_down ol nl w e f met before r q t =
    record {
      joins = λ on nn o p c h i m l x.
          let u = hit_at_lem o.program p.program (pairs_in w c) met e m f x in
          t.fits on nn o p c h i m f l u.1 (omega (arith, u.0)) (q.finds h.old_text on h.new_text nn o p h.old_in h.new_in i u.0 m u.2);
      below = omega (arith, t.below, q.below);
    }

pub joins_last : (ol nl w : List ℕ) (e f : ℕ) (met t : Bool) → t ≡ false → IsStar ol e t → JoinsBefore ol nl w e f met 0
unfolding IsStar
joins_last ol nl w e f met t y q = joins_down ol nl w e f met 0 0 (q y nl f) (fit_end ol nl w e 0 met (fit_start ol nl w e 0 met))

-- ---- `unite`

pub unite_none : (f : ℕ) → One f ≡ united Nothing f
unfolding united
unite_none f = refl

pub unite_same : (g f : ℕ) → g ≡ f → One g ≡ united (One g) f
unfolding united
unite_same g f e = sym (choose_yes (One g) Several (eq-eqb g f e))

pub unite_other : (g f : ℕ) → (g ≡ f → ⊥) → Several ≡ united (One g) f
unfolding united
unite_other g f d = sym (choose_no (One g) Several (ne_eqb g f d))

pub unite_several : (f : ℕ) → Several ≡ united Several f
unfolding united
unite_several f = refl

-- ---- `see`

-- With what is seen, the edges below the place lead to what is seen at the end.
unfoldable pub SeesFrom : List ℕ → List ℕ → List ℕ → List ℕ → List ℕ → ℕ → ℕ → ℕ → Seen → Seen → ℕ → Type 0
SeesFrom on ol nn nl w e n m before seen place =
    (o p : Listing) (c : ℕ) → Compared on ol nn nl w c o p → e < edge_count o.program → n ≡ source_at o.program e → listed (pairs_in w c) n m ≡ true
    → Folded (passing (hit_at o.program p.program (pairs_in w c) true e m)) 0 (edge_count p.program) (seen_at o.program p.program (pairs_in w c) e m) before seen place

module _ (old new : Program) (M : List (ℕ × ℕ)) (e m : ℕ) where
  see_others : (f : ℕ) (seen : Seen) → (passing (hit_at old new M true e m) f ≡ 0 → ⊥) → seen_at old new M e m f seen ≡ seen
  unfolding seen_at
  see_others f seen d = ⊎_elim (λ t. absurd (d (passing_of _ f t))) (λ t. choose_no _ seen t) (passes? (hit_at old new M true e m f))

module _ (on ol nn nl w : List ℕ) (e n m : ℕ) (before : Seen) where
  pub see_start : (place : ℕ) → Joins on ol nn nl w e n m true place → SeesFrom on ol nn nl w e n m before before place
  unfolding SeesFrom Joins
  see_start place j o p c h i en l = fold_start _ (see_others o.program p.program (pairs_in w c) e m) (passing_chain _ _) (omega arith) before place (j o p c h i en l)

  pub see_end : (seen : Seen) → SeesFrom on ol nn nl w e n m before seen 0 → Sees on ol nn nl w e n m before seen
  unfolding SeesFrom Sees
  see_end seen inv o p c h i en l = fold_end _ (see_others o.program p.program (pairs_in w c) e m) (edge_count p.program) before seen 0 (inv o p c h i en l) (omega arith)

  pub see_on : (seen : Seen) (f : ℕ) (seen' : Seen) (next : ℕ) → SeesFrom on ol nn nl w e n m before seen (suc f) → seen' ≡ united seen f → JoinsBefore ol nl w e f true next
      → SeesFrom on ol nn nl w e n m before seen' next
  unfolding SeesFrom seen_at
  see_on seen f seen' next inv es j o p c h i en l =
      let r = inv o p c h i en l in
      let own = owner_at f r in
      step_at _ (see_others o.program p.program (pairs_in w c) e m) (passing_chain _ _) (omega arith) before seen seen' f next r
      (es ∙ sym (choose_yes _ seen (passing_at _ f own))) (hit_next h e true m f next i (rw (← en) l) own j)

-- ---- what is seen of all

-- The numbers of P, as what is seen of them.
pub record Sums (P : ℕ → Type 0) (seen : Seen) : Type 0 where
  pub none : seen ≡ Nothing → (x : ℕ) → P x → ⊥
  pub one : (f : ℕ) → seen ≡ One f → P f × ((x : ℕ) → P x → x ≡ f)
  pub two : seen ≡ Several → (x y : ℕ) × P x × P y × (x ≡ y → ⊥)

sums_agree : (P P' : ℕ → Type 0) (seen : Seen) → ((x : ℕ) → P x → P' x) → ((x : ℕ) → P' x → P x) → Sums P seen → Sums P' seen
sums_agree P P' seen there back s =
    record {
      none = λ z x q. s.none z x (back x q);
      one = λ f z. let r = s.one f z in (there _ r.0, λ x q. r.1 x (back x q));
      two = λ z. let r = s.two z in (r.0, r.1, there _ r.2, there _ r.3, r.4);
    }

sums_none : Sums (λ x. ⊥) Nothing
sums_none = record { none = λ z x q. q; one = λ f z. absurd (let y : ⊥ = cc in y); two = λ z. absurd (let y : ⊥ = cc in y) }

sums_one_of : (P : ℕ → Type 0) (f : ℕ) → P f → ((x : ℕ) → P x → x ≡ f) → Sums P (One f)
sums_one_of P f here only =
    record {
      none = λ z. absurd (let y : ⊥ = cc in y);
      one = λ g z. let e : f ≡ g = cc in (subst P e here, λ x q. only x q ∙ e);
      two = λ z. absurd (let y : ⊥ = cc in y);
    }

sums_two_of : (P : ℕ → Type 0) (x y : ℕ) → P x → P y → (x ≡ y → ⊥) → Sums P Several
sums_two_of P x y here there d = record { none = λ z. absurd (let v : ⊥ = cc in v); one = λ g z. absurd (let v : ⊥ = cc in v); two = λ z. (x, y, here, there, d) }

sums_more : (P : ℕ → Type 0) (seen : Seen) (f : ℕ) → Sums P seen → Sums (λ x. P x ⊎ (x ≡ f)) (united seen f)
sums_more P Nothing f s =
    subst (Sums (λ x. P x ⊎ (x ≡ f))) (unite_none f) (sums_one_of _ f (inr refl) (λ x q. ⊎_elim (λ u. absurd (s.none refl x u)) (λ u. u) q))
sums_more P (One g) f s =
    let r = s.one g refl in
    same_or g f
    (λ e. subst (Sums (λ x. P x ⊎ (x ≡ f))) (unite_same g f e) (sums_one_of _ g (inl r.0) (λ x q. ⊎_elim (r.1 x) (λ u. u ∙ sym e) q)))
    (λ d. subst (Sums (λ x. P x ⊎ (x ≡ f))) (unite_other g f d) (sums_two_of _ g f (inl r.0) (inr refl) d))
sums_more P Several f s =
    let r = s.two refl in
    subst (Sums (λ x. P x ⊎ (x ≡ f))) (unite_several f) (sums_two_of _ r.0 r.1 (inl r.2) (inl r.3) r.4)

-- What is left when all are seen: the only one, if it is one.
module _ (n : ℕ) (J : ℕ → Bool) (seen : Seen) (s : Sums (λ x. (x < n) × (J x ≡ true)) seen) where
  sums_several : seen ≡ Several → 0 ≡ found (first n (sole n J))
  unfolding sole
  sums_several a =
      let r = s.two a in
      sym (none_found (sole n J) n (λ m l u.
      let only : (x : ℕ) → (x < n) × (J x ≡ true) → x ≡ m = λ x q. eqb-true _ _ (implied _ _ (every_at _ n (and_right _ _ u) x q.0) q.1) in
      r.4 (only r.0 r.2 ∙ sym (only r.1 r.3))))

  sums_nothing : seen ≡ Nothing → 0 ≡ found (first n (sole n J))
  unfolding sole
  sums_nothing z = sym (none_found (sole n J) n (λ f l t. s.none z f (l, and_left _ _ t)))

  sums_one : (f : ℕ) → seen ≡ One f → suc f ≡ found (first n (sole n J))
  unfolding sole
  sums_one f z =
      let r = s.one f z in
      let o = first_only (sole n J) n f r.0.0 (and_both r.0.1 (every_of _ n (λ g l. implies _ _ (λ t. eq-eqb _ _ (r.1 g (l, t))))))
      (λ g l t. r.1 g (l, and_left _ _ t)) in
      sym (ap found o)

-- ---- `only_counterpart`

-- What is seen with the counterparts at the pair k.
abbrev pair_seen : Program → Program → List ℕ → ℕ → ℕ → ℕ → Seen → Seen
pair_seen old new w c e k seen = choose (eqb (old_at w k) (source_at old e)) (fold (seen_at old new (pairs_in w c) e (new_at w k)) (edge_count new) seen) seen

-- With what is seen, the pairs below the place lead to what is seen at the end.
unfoldable pub SeenTo : List ℕ → List ℕ → List ℕ → List ℕ → List ℕ → ℕ → ℕ → Seen → ℕ → Type 0
SeenTo on ol nn nl w e n seen place =
    (o p : Listing) (c : ℕ) → Compared on ol nn nl w c o p → e < edge_count o.program
    → (n ≡ source_at o.program e) × Folded (old_at w) (source_at o.program e) c (pair_seen o.program p.program w c e) Nothing seen place

pair_others : (old new : Program) (w : List ℕ) (c e k : ℕ) (seen : Seen) → (old_at w k ≡ source_at old e → ⊥) → pair_seen old new w c e k seen ≡ seen
pair_others old new w c e k seen d = choose_no _ seen (ne_eqb _ _ d)

module _ {on ol nn nl w : List ℕ} {c : ℕ} {o p : Listing} (h : Compared on ol nn nl w c o p) (e : ℕ) where
  abbrev old : Program
  old = o.program

  abbrev new : Program
  new = p.program

  abbrev hit : ℕ → ℕ → Bool
  hit m x = hit_at old new (pairs_in w c) true e m x

  -- One edge, those of a partner, and those of all partners.
  edge_kept_lem : (m f : ℕ) (P : ℕ → Type 0) (seen : Seen) → Sums P seen → Sums (λ x. P x ⊎ ((hit m f ≡ true) × (x ≡ f))) (seen_at old new (pairs_in w c) e m f seen)
  unfolding seen_at
  edge_kept_lem m f P seen s =
      ⊎_elim
      (λ t.
      rw (choose_yes (united seen f) seen t)
      (sums_agree _ _ _ (λ x q. ⊎_elim inl (λ u. inr (t, u)) q) (λ x q. ⊎_elim inl (λ u. inr u.1) q) (sums_more P seen f s)))
      (λ t. rw (choose_no (united seen f) seen t) (sums_agree _ _ _ (λ x q. inl q) (λ x q. ⊎_elim (λ u. u) (λ u. absurd (both_ways u.0 t)) q) s))
      (passes? (hit m f))

  partner_kept : (m : ℕ) (P : ℕ → Type 0) (seen : Seen) → Sums P seen → Sums (λ x. P x ⊎ (hit m x ≡ true)) (fold (seen_at old new (pairs_in w c) e m) (edge_count new) seen)
  partner_kept m P seen s =
      sums_agree _ _ _ (λ x q. ⊎_elim inl (λ u. inr (ap (hit m) u.2.1 ∙ u.2.0)) q) (λ x q. ⊎_elim inl (λ u. inr (x, (hit_at_lem old new (pairs_in w c) true e m x u).0, (u, refl))) q)
      (fold_keeps (seen_at old new (pairs_in w c) e m) Sums (λ f x. (hit m f ≡ true) × (x ≡ f)) (edge_kept_lem m) sums_agree (edge_count new) P seen s)

  pair_kept : (k : ℕ) (P : ℕ → Type 0) (seen : Seen) → Sums P seen → Sums (λ x. P x ⊎ ((old_at w k ≡ source_at old e) × (hit (new_at w k) x ≡ true))) (pair_seen old new w c e k seen)
  pair_kept k P seen s =
      same_or (old_at w k) (source_at old e)
      (λ a.
      rw (choose_yes (fold (seen_at old new (pairs_in w c) e (new_at w k)) (edge_count new) seen) seen (eq-eqb _ _ a))
      (sums_agree _ _ _ (λ x q. ⊎_elim inl (λ u. inr (a, u)) q) (λ x q. ⊎_elim inl (λ u. inr u.1) q) (partner_kept (new_at w k) P seen s)))
      (λ d. rw (pair_others old new w c e k seen d) (sums_agree _ _ _ (λ x q. inl q) (λ x q. ⊎_elim (λ u. u) (λ u. absurd (d u.0)) q) s))

  all_seen : Sums (λ x. (x < edge_count new) × (joined old new (pairs old new) e x ≡ true)) (fold (pair_seen old new w c e) c Nothing)
  all_seen =
      sums_agree _ _ _
      (λ x q. ⊎_elim (λ u. absurd u)
      (λ u.
      let t = sym (hits_any h e true x) ∙ any_of_lem (λ k. eqb (old_at w k) (source_at old e) and hit (new_at w k) x) c u.0 u.1 (and_both (eq-eqb _ _ u.2.0) u.2.1) in
      (ltb-true _ _ (and_left _ _ t), sym (met_joined old new (pairs old new) e x) ∙ and_right _ _ t)) q)
      (λ x q.
      let t = hits_any h e true x ∙ and_both (lt-ltb _ _ q.0) (met_joined old new (pairs old new) e x ∙ q.1) in
      let r = any_at (λ k. eqb (old_at w k) (source_at old e) and hit (new_at w k) x) c t in
      inr (r.0, r.1, (eqb-true _ _ (and_left _ _ r.2), and_right _ _ r.2)))
      (fold_keeps (pair_seen old new w c e) Sums (λ k x. (old_at w k ≡ source_at old e) × (hit (new_at w k) x ≡ true)) pair_kept sums_agree c (λ x. ⊥) Nothing sums_none)

pub only_start : (on ol nn nl w : List ℕ) (e n place : ℕ) → n ≡ get_or ol (edge_base e) 0 → place ≡ last_pair w n → SeenTo on ol nn nl w e n Nothing place
unfolding SeenTo
only_start on ol nn nl w e n place en ep o p c h i =
    let s : n ≡ source_at o.program e = source_of e n h i en in
    let a : ℕ = source_at o.program e in
    (s, fold_start _ (pair_others o.program p.program w c e) (walked h.held.store (suc a)) (omega arith) Nothing place (ep ∙ ap (last_pair w) s))

module _ (on ol nn nl w : List ℕ) (e n : ℕ) (seen : Seen) where
  module _ (inv : SeenTo on ol nn nl w e n seen 0) where
    seen_all : (o p : Listing) (c : ℕ) → Compared on ol nn nl w c o p → e < edge_count o.program
        → Sums (λ x. (x < edge_count p.program) × (joined o.program p.program (pairs o.program p.program) e x ≡ true)) seen
    unfolding SeenTo
    seen_all o p c h i =
        subst (Sums (λ x. (x < edge_count p.program) × (joined o.program p.program (pairs o.program p.program) e x ≡ true)))
        (sym (fold_end _ (pair_others o.program p.program w c e) c Nothing seen 0 (inv o p c h i).1 (omega arith))) (all_seen h e)

    pub only_nothing : seen ≡ Nothing → Only on ol nn nl w e 0
    unfolding Only
    only_nothing z o p c h i = sums_nothing (edge_count p.program) _ seen (seen_all o p c h i) z

    pub only_several : seen ≡ Several → Only on ol nn nl w e 0
    unfolding Only
    only_several z o p c h i = sums_several (edge_count p.program) _ seen (seen_all o p c h i) z

    pub only_one : (f : ℕ) → seen ≡ One f → Only on ol nn nl w e (suc f)
    unfolding Only
    only_one f z o p c h i = sums_one (edge_count p.program) _ seen (seen_all o p c h i) f z

  pub only_on : (k m : ℕ) (seen' : Seen) (next : ℕ) → SeenTo on ol nn nl w e n seen (suc k) → m ≡ new_at w k → Sees on ol nn nl w e n m seen seen' → next ≡ pair_before w k
      → SeenTo on ol nn nl w e n seen' next
  unfolding SeenTo Sees
  only_on k m seen' next inv em j en o p c h i =
      let r = inv o p c h i in
      let own = owner_at k r.1 in
      let there = pair_at h n m k (omega (arith, r.1.within)) (r.0 ∙ sym own) em in (
        r.0,
        step_at _ (pair_others o.program p.program w c e) (walked h.held.store (suc (source_at o.program e))) (omega arith) Nothing seen seen' k next r.1
            (j o p c h i r.0 there ∙ ap (λ (v : ℕ). fold (seen_at o.program p.program (pairs_in w c) e v) (edge_count p.program) seen) em ∙ sym (choose_yes _ seen (eq-eqb _ _ own))) en,
      )

pub ruleset counterparts = (joins_stays, joins_goes, joins_down, joins_last, joins_le, unite_none, unite_same, unite_other, unite_several, see_start, see_end, see_on, only_start, only_nothing, only_several, only_one, only_on)
