-- Which edges lie after others in one version: where a run may go on that has crossed an edge. (The `after` of Tests, which opens an option, is another thing.)
use Rattle.std.specs.Prelude.{◌≡◌, Bool, List, ℕ, suc, ◌<◌, eqb}
use Rattle.laws.specs.Tests.{◌and◌, any, choose}
use Rattle.laws.specs.Reach.{Reached, reached}
use Rattle.rules.specs.Graph.{Kind, E, S, C, X, Program, called, callee_count, edge_count, entry, kind_at, node_count, owner_at, same_kind, source_at, target_at}
use Rattle.rules.specs.Run.{another}

-- The node whose edge a run crosses next that has come to the exit of the callee i of the call k: the next callee's entry, or after the last the call.
unfoldable pub resumes_at : Program → ℕ → ℕ → ℕ
resumes_at p k i = choose (another p (k, i)) (entry p (called p k (suc i))) k

-- The edge e leads to the edge f: f leaves the end of e; where that is a call, f is its first callee's entry edge instead; where it is an exit, f is, at a call of that procedure, the
-- next callee's entry edge or after the last the call's edge.
pub data Leads (p : Program) (e f : ℕ) : Type 0 where
  leaves_end : f < edge_count p → (kind_at p (target_at p e) ≡ C → ⊥) → source_at p f ≡ target_at p e → Leads p e f
  enters_callee : f < edge_count p → kind_at p (target_at p e) ≡ C → source_at p f ≡ entry p (called p (target_at p e) 0) → Leads p e f
  leaves_callee : f < edge_count p → kind_at p (target_at p e) ≡ X → (k i : ℕ) → k < node_count p → kind_at p k ≡ C → i < callee_count p k → called p k i ≡ owner_at p (target_at p e)
      → source_at p f ≡ resumes_at p k i → Leads p e f

-- The edges after some first ones, these included: the smallest set that has them and goes on.
abbrev pub After : Program → (ℕ → Type 0) → ℕ → Type 0
After p First e = Reached First (Leads p) e

-- The same by computation. A run that has come to the node n goes on by an edge that leaves the node j: n itself, its first callee's entry, or what follows a call of n's procedure.
unfoldable pub goes_on_from : Program → Kind → ℕ → ℕ → Bool
goes_on_from p E n j = eqb j n
goes_on_from p S n j = eqb j n
goes_on_from p C n j = eqb j (entry p (called p n 0))
goes_on_from p X n j =
    any (node_count p) (λ k. same_kind (kind_at p k) C and any (callee_count p k) (λ i. eqb (called p k i) (owner_at p n) and eqb j (resumes_at p k i)))

unfoldable pub leads : Program → ℕ → ℕ → Bool
leads p e f = goes_on_from p (kind_at p (target_at p e)) (target_at p e) (source_at p f)

-- The edges after those that pass `first`, ascending.
unfoldable pub edges_after : Program → (ℕ → Bool) → List ℕ
edges_after p first = reached (edge_count p) (leads p) first
