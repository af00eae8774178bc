-- What a run crosses after some steps: where it has ended nothing more, and else what a run from there crosses.
use Rattle.std.specs.Prelude.{◌≡◌, ◌⊎◌}
use Rattle.std.proofs.Math.Path.{refl, subst}
use Rattle.std.proofs.Common.{sym}
use Rattle.std.proofs.Math.Logic.{inl, inr, ⊎_elim}
use Rattle.std.proofs.Math.Bool.{true, false}
use Rattle.std.proofs.lemmas.Bool.{false≢true}
use Rattle.std.proofs.Math.Option.{Option, none, some, some-injective, none-ne-some}
use mathlib.Core.List.{List, [], ◌∷◌, ◌++◌}
use Prim.Native.Nat.{ℕ, zero, suc}
use Rattle.laws.specs.Tests.{has, after}
use Rattle.laws.specs.TestLaws.{has_append, has_append_left, has_append_right}
use Rattle.rules.specs.Graph.{Kind, E, S, C, X, Program, kind_at}
use Rattle.rules.specs.Run.{Meaning, Config, OpenCall, list_of, step_at, step, crossing, run, trail, ended_at, ended}

module _ {ℓ κ} {St : Type ℓ} {Out : Type κ} (p : Program) (m : Meaning St Out) where
  -- A run that has ended takes no step.
  pub ended_stops : (c : Config St Out) → ended p c ≡ true → step p m c ≡ none
  unfolding ended ended_at step step_at
  ended_stops c e = go (kind_at p c.node) c.calls e
    where
      go : (k : Kind) (calls : List OpenCall) → ended_at k calls ≡ true → step_at p m k c.word calls c ≡ none
      go E calls e = absurd (false≢true e)
      go S calls e = absurd (false≢true e)
      go C calls e = absurd (false≢true e)
      go X [] e = refl
      go X (k ∷ calls) e = absurd (false≢true e)

  -- Where a run has ended after k steps, it crosses no edge that it has not crossed in them.
  pub ended_crosses : (k j : ℕ) (c d : Config St Out) → run p m k c ≡ some d → ended p d ≡ true
      → (e : ℕ) → has (trail p m j c) e ≡ true → has (trail p m k c) e ≡ true
  unfolding run trail has
  ended_crosses k zero c d r t e h = absurd (false≢true h)
  ended_crosses zero (suc j) c d r t e h =
      go (step p m c) (ended_stops c (subst (λ (x : Config St Out). ended p x ≡ true) (sym (some-injective c d r)) t)) h
    where
      go : (o : Option (Config St Out)) → o ≡ none → has (after o [] (λ d. list_of (crossing p c) ++ trail p m j d)) e ≡ true → false ≡ true
      go none q h = h
      go (some x) q h = absurd (none-ne-some x (sym q))
  ended_crosses (suc k) (suc j) c d r t e h = go (step p m c) r h (λ x r. ended_crosses k j x d r t e)
    where
      go : (o : Option (Config St Out)) → after o none (run p m k) ≡ some d
          → has (after o [] (λ d. list_of (crossing p c) ++ trail p m j d)) e ≡ true
          → ((x : Config St Out) → run p m k x ≡ some d → has (trail p m j x) e ≡ true → has (trail p m k x) e ≡ true)
          → has (after o [] (λ d. list_of (crossing p c) ++ trail p m k d)) e ≡ true
      go none r h ih = absurd (none-ne-some d r)
      go (some x) r h ih =
          ⊎_elim (λ q. has_append_left (list_of (crossing p c)) (trail p m k x) e q) (λ q. has_append_right (list_of (crossing p c)) (trail p m k x) e (ih x r q))
          (has_append (list_of (crossing p c)) (trail p m j x) e h)

  -- What a run crosses, it crosses in the first j steps, or from where they lead.
  pub later : (j k : ℕ) (c d : Config St Out) → run p m j c ≡ some d → (e : ℕ) → has (trail p m k c) e ≡ true → (has (trail p m j c) e ≡ true) ⊎ ((i : ℕ) × (has (trail p m i d) e ≡ true))
  unfolding run trail has
  later j zero c d r e h = absurd (false≢true h)
  later zero (suc k) c d r e h = inr (suc k, subst (λ (x : Config St Out). has (trail p m (suc k) x) e ≡ true) (some-injective c d r) h)
  later (suc j) (suc k) c d r e h = go (step p m c) r h (λ x r. later j k x d r e)
    where
      go : (o : Option (Config St Out)) → after o none (run p m j) ≡ some d
          → has (after o [] (λ d. list_of (crossing p c) ++ trail p m k d)) e ≡ true
          → ((x : Config St Out) → run p m j x ≡ some d → has (trail p m k x) e ≡ true → (has (trail p m j x) e ≡ true) ⊎ ((i : ℕ) × (has (trail p m i d) e ≡ true)))
          → (has (after o [] (λ d. list_of (crossing p c) ++ trail p m j d)) e ≡ true) ⊎ ((i : ℕ) × (has (trail p m i d) e ≡ true))
      go none r h ih = absurd (none-ne-some d r)
      go (some x) r h ih =
          ⊎_elim (λ q. inl (has_append_left (list_of (crossing p c)) (trail p m j x) e q))
          (λ q. ⊎_elim (λ t. inl (has_append_right (list_of (crossing p c)) (trail p m j x) e t)) (λ t. inr t) (ih x r q))
          (has_append (list_of (crossing p c)) (trail p m k x) e h)
