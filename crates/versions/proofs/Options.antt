-- The same of an `Option` of the code, as the code compares it.
use Rattle.std.specs.Prelude.{◌≡◌, refl, Option, Some, None, Bool, true, false, List, ℕ, suc, ◌+◌, ◌-◌, eqb, get_or}
use Rattle.std.specs.Option.{is_some, option_eq}
use Rattle.std.proofs.Common.{subst, sym, not, ne_eqb, arith}
use Rattle.std.proofs.lemmas.Bool.{false≢true}
use Rattle.laws.specs.Places.{place}
use Rattle.graph.specs.Table.{edge_base}
use Rattle.graph.specs.Lookups.{EdgeTaken, EdgeWith}
use Rattle.versions.specs.Opposite.{Takes, WordLost}
use Rattle.versions.proofs.Opposites.{lost_named, lost_star, takes_none, takes_one}

pub takes_is : (ol nl : List ℕ) (e n f key : ℕ) (q : Option ℕ) → key ≡ get_or nl (edge_base f + 2) 0 → EdgeTaken ol n key (place q) → Takes ol nl e n f (option_eq eqb q (Some e))
takes_is ol nl e n f key None ek t = takes_none ol nl e n f key 0 ek t refl
takes_is ol nl e n f key (Some x) ek t =
    let q : suc x - 1 ≡ x = omega arith in
    subst (λ (y : ℕ). Takes ol nl e n f (eqb y e)) q (takes_one ol nl e n f key (suc x) ek t (λ z. let y : ⊥ = omega arith in y))

none_is : (q : Option ℕ) (t : Bool) → is_some q ≡ not t → eqb (place q) 0 ≡ t
none_is None true e = refl
none_is None false e = absurd (false≢true e)
none_is (Some x) true e = absurd (false≢true (sym e))
none_is (Some x) false e = ne_eqb (suc x) 0 (λ y. let z : ⊥ = omega arith in z)

module _ (ol nl : List ℕ) (e m key : ℕ) (ek : key ≡ get_or ol (edge_base e + 2) 0) where
  pub star_lost : (last : ℕ) (q : Option ℕ) (t : Bool) → key ≡ 42 → EdgeWith nl m 42 (place q) → is_some q ≡ not t → WordLost ol nl e m last t
  star_lost last q t z w n = subst (WordLost ol nl e m last) (none_is q t n) (lost_star ol nl e m key ek last (place q) z w)

  pub named_lost : (last : Option ℕ) (t : Bool) → (key ≡ 42 → ⊥) → is_some last ≡ not t → WordLost ol nl e m (place last) t
  named_lost last t d n = subst (WordLost ol nl e m (place last)) (none_is last t n) (lost_named ol nl e m key ek (place last) d)

pub ruleset all = (takes_is, star_lost, named_lost)
