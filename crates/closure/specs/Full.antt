-- A list of pairs that has the three rules lists all pairs; its set of edges then has all dangerous edges.
use Rattle.std.specs.Prelude.{◌≡◌, Bool, true, List, ℕ, ◌≤◌, length}
use Rattle.std.proofs.Math.Path.{refl}
use Rattle.std.proofs.Common.{subst, le_antisymm}
use Rattle.laws.specs.Tests.{has, listed}
use Rattle.laws.specs.TestLaws.{same_test}
use Rattle.rules.specs.Graph.{Program, source_at}
use Rattle.rules.specs.Closing.{Dangerous, Pair, dangers, pairs}
use Rattle.rules.proofs.Closure.{danger_unfitted, dangers_iff, goes_on_of, least, pairs_ascend, pairs_complete, pairs_sound}
use Rattle.rules.proofs.ClosingLaws.{danger_old, fits_of, opposite_of}
use Rattle.rules.proofs.GraphLaws.{taken_at}
use Rattle.pairset.specs.Store.{danger_in, pairs_in}
use Rattle.pairset.specs.StoreLaws.{pairs_count}
use Rattle.closure.specs.Once.{once_ascending, pigeonhole}
use Rattle.closure.specs.State.{AllDone, CallDone, EachDone, EdgesDone, EntriesDone, Formed, Kept, OnDone}

module _ {old new : Program} (fm : Formed old new) where
  pub all_listed : {M : List (ℕ × ℕ)} {S : ℕ → Bool} → AllDone old new M S → {a b : ℕ} → Pair old new a b → listed M a b ≡ true
  unfolding EntriesDone EachDone CallDone OnDone EdgesDone
  all_listed {M} {S} d =
      least old new (λ a b. listed M a b ≡ true) d.start
      (λ n m l k k' i b x. (d.each n m l).call k k' i b x)
      (λ n m e f l x w t t' a.
      let u = taken_at old n w e t in
      let u' = taken_at new m w f t' in
      ((d.each n m l).on (goes_on_of old new M n m x) e u.0 u.1).ends f u'.0 u'.1
      (fits_of old new e f (opposite_of old new fm.old_formed fm.new_formed n m e f w t t') a))

  all_marked : {M : List (ℕ × ℕ)} {S : ℕ → Bool} → AllDone old new M S → {e : ℕ} → Dangerous old new e → S e ≡ true
  unfolding EachDone OnDone EdgesDone
  all_marked {M} {S} d {e} x =
      ((d.each (source_at old e) x.partner (all_listed d x.pair)).on (goes_on_of old new M _ _ (λ k i l. all_listed d (x.may_go_on k i l))) e (danger_old old new x) refl
      ).danger (danger_unfitted old new fm.old_formed fm.new_formed x)

  module _ {w : List ℕ} {c : ℕ} (k : Kept old new w c) (d : AllDone old new (pairs_in w c) (danger_in w)) where
    -- As many pairs, and the same.
    pub all_counted : c ≡ length (pairs old new)
    all_counted =
        le_antisymm
        (subst (λ (n : ℕ). n ≤ length (pairs old new)) (pairs_count w c)
        (pigeonhole (pairs old new) k.once (λ a b t. pairs_complete old new fm.old_formed fm.new_formed (k.sound a b t))))
        (subst (λ (n : ℕ). length (pairs old new) ≤ n) (pairs_count w c)
        (pigeonhole (pairs_in w c) (once_ascending (pairs_ascend old new)) (λ a b t. all_listed d (pairs_sound old new fm.old_formed fm.new_formed a b t))))

    pub all_same : (a b : ℕ) → listed (pairs_in w c) a b ≡ listed (pairs old new) a b
    all_same a b =
        same_test _ _ (λ t. pairs_complete old new fm.old_formed fm.new_formed (k.sound a b t)) (λ t. all_listed d (pairs_sound old new fm.old_formed fm.new_formed a b t))

    pub all_dangers : (e : ℕ) → danger_in w e ≡ has (dangers old new) e
    all_dangers e =
        let iff = dangers_iff old new fm.old_formed fm.new_formed e in
        same_test _ _ (λ t. iff.1 (k.dangerous e t)) (λ t. all_marked d (iff.0 t))
