-- The search for a dangerous edge in a row (document 02, job 4): what it finds, and that the tests to repeat are those where it finds one.
use Rattle.std.specs.Prelude.{◌≡◌, ◌↔◌, Bool, List, ℕ, ◌<◌}
use Rattle.std.proofs.Math.Path.{refl, sym}
use Rattle.std.proofs.Math.Bool.{true, false}
use Rattle.std.proofs.Common.{true≢false}
use Rattle.std.proofs.Math.Option.{Option, none, some}
use Rattle.laws.specs.Tests.{◌and◌, after, first, has}
use Rattle.laws.specs.TestLaws.{and_left, and_right, and_both, any_of_at, any_of_of, first_at, first_least, first_low, first_none, same_test}
use Rattle.rules.specs.Graph.{Program, edge_count}
use Rattle.rules.specs.Closing.{Coverage, dangers, first_danger, holds, meets}
use Rattle.rules.specs.Promises.{Exact, SearchExact}
use Rattle.rules.proofs.ClosingLaws.{danger_old}

module _ (D : List ℕ) (coverage : Coverage) where
  -- The coverage holds the edge e, and the list has it.
  abbrev both : ℕ → Bool
  both e = holds coverage e and has D e

  -- None is found exactly if the coverage holds no edge of the list below m.
  pub search_none : (m : ℕ) → (first_danger m D coverage ≡ none) ↔ ((e : ℕ) → e < m → has D e ≡ true → holds coverage e ≡ true → ⊥)
  unfolding first_danger
  search_none m = (λ q e l d h. first_none both m q e l (and_both h d), λ h. go h (first m both) refl)
    where
      go : ((e : ℕ) → e < m → has D e ≡ true → holds coverage e ≡ true → ⊥) → (o : Option ℕ) → first m both ≡ o → first m both ≡ none
      go h none q = q
      go h (some e) q = let a = first_at both m e q in absurd (h e a.0 (and_right _ _ a.1) (and_left _ _ a.1))

  -- An edge is found exactly if it is the lowest edge of the list that the coverage holds, and below m.
  pub search_some : (m e : ℕ) → (first_danger m D coverage ≡ some e)
      ↔ ((e < m) × (has D e ≡ true) × (holds coverage e ≡ true) × ((f : ℕ) → f < e → has D f ≡ true → holds coverage f ≡ true → ⊥))
  unfolding first_danger
  search_some m e = (
    λ q. let a = first_at both m e q in (a.0, and_right _ _ a.1, and_left _ _ a.1, λ f l d h. first_low both m e q f l (and_both h d)),
    λ w. first_least both m e w.0 (and_both w.2 w.1) ((search_none e).1 w.3),
  )

  -- Where every edge of the list is below m, one is found exactly if the coverage holds an edge of the list.
  pub search_meets : (m : ℕ) → ((e : ℕ) → has D e ≡ true → e < m) → after (first_danger m D coverage) false (λ e. true) ≡ meets D coverage
  unfolding meets
  search_meets m inside = go (first_danger m D coverage) refl
    where
      go : (o : Option ℕ) → first_danger m D coverage ≡ o → after o false (λ e. true) ≡ meets D coverage
      go none q =
          same_test _ _ (λ t. absurd (true≢false (sym t)))
          (λ t. let a = any_of_at (holds coverage) D t in absurd ((search_none m).0 q a.0 (inside a.0 a.1) a.1 a.2))
      go (some e) q = let a = (search_some m e).0 q in sym (any_of_of (holds coverage) D e a.1 a.2)

-- The search over the dangerous edges is the one of the promise.
pub search_exact : (old new : Program) → Exact old new → (coverage : Coverage) → SearchExact old new coverage
search_exact old new x coverage =
    record {
      found_is = λ e. (
        λ q.
            let a = (search_some (dangers old new) coverage (edge_count old) e).0 q in
            ((x.dangers_are e).0 a.1, a.2, λ f l d h. a.3 f l ((x.dangers_are f).1 d) h),
        λ w.
            (search_some (dangers old new) coverage (edge_count old) e).1
            (danger_old old new w.0, (x.dangers_are e).1 w.0, w.1, λ f l d h. w.2 f l ((x.dangers_are f).0 d) h),
      );
      none_is = (
        λ q r. (search_none (dangers old new) coverage (edge_count old)).0 q r.0 (danger_old old new r.1) ((x.dangers_are r.0).1 r.1) r.2,
        λ h. (search_none (dangers old new) coverage (edge_count old)).1 (λ e l d c. h (e, (x.dangers_are e).0 d, c)),
      );
    }
