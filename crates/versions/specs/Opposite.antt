-- The edges of a new node that are opposite to an old edge: taken with it for one word. What the functions that walk along them answer, and the laws of such a walk.
use Rattle.std.specs.Prelude.{◌≡◌, Bool, true, false, List, ℕ, ◌-◌, ◌≤◌, ◌<◌, eqb}
use Rattle.std.proofs.Common.{eqb-true, eq-eqb}
use Rattle.laws.specs.Tests.{◌and◌, isnt, some?}
use Rattle.laws.specs.TestLaws.{and_both, and_left, and_right}
use Rattle.laws.specs.Chain.{Chained, latest}
use Rattle.laws.specs.Fold.{passing, passing_at, passing_chain, passing_of}
use Rattle.rules.specs.Graph.{Program, edge_count, edge_taken, node_count, source_at, star, word_at}
use Rattle.rules.specs.Closing.{opposite, takes}
use Rattle.rules.specs.ProgramFile.{Listing}
use Rattle.versions.specs.Memory.{InMemory, memory}

module _ (old new : Program) (e m : ℕ) where
  -- The new edge f leaves the node m and is opposite to the old edge e.
  unfoldable pub opposite_at : ℕ → Bool
  opposite_at f = eqb (source_at new f) m and opposite old new e f

  -- The key of their chain, 0 for these; 1 + the last of them below k, or 0.
  abbrev pub side_of : ℕ → ℕ
  side_of = passing opposite_at

  abbrev pub opposite_below : ℕ → ℕ
  opposite_below k = latest side_of 0 k

  pub side_at : (f : ℕ) → side_of f ≡ 0 → (source_at new f ≡ m) × (opposite old new e f ≡ true)
  unfolding opposite_at
  side_at f h = let t = passing_at opposite_at f h in (eqb-true _ _ (and_left _ _ t), and_right _ _ t)

  pub side_of_lem : (f : ℕ) → source_at new f ≡ m → opposite old new e f ≡ true → side_of f ≡ 0
  unfolding opposite_at
  side_of_lem f a b = passing_of opposite_at f (and_both (eq-eqb _ _ a) b)

  -- Their chain, for `walk_start`, `walk_step`, `left_start` and `left_step`.
  pub opposites : Chained side_of 1 (edge_count new) (λ a. latest side_of a (edge_count new)) (λ f. latest side_of (side_of f) f)
  opposites = passing_chain opposite_at (edge_count new)

-- ---- what the functions answer

-- `takes`: for the word of the new edge f the old node n, which the edge e leaves, takes e.
unfoldable pub Takes : List ℕ → List ℕ → ℕ → ℕ → ℕ → Bool → Type 0
Takes ol nl e n f r =
    (ot on nt nn : List ℕ) (o p : Listing) → InMemory (memory ot on ol) o → InMemory (memory nt nn nl) p → e < edge_count o.program → n ≡ source_at o.program e
    → f < edge_count p.program → r ≡ takes o.program (word_at p.program f) e

-- `opposite_from`: 1 + the last edge below k of the new node m that is opposite to the old edge e, which is `*`, or 0, where the place is that of the last edge of m below k.
unfoldable pub FindsFrom : List ℕ → List ℕ → ℕ → ℕ → ℕ → ℕ → Type 0
FindsFrom ol nl e n from r =
    (ot on nt nn : List ℕ) (o p : Listing) → InMemory (memory ot on ol) o → InMemory (memory nt nn nl) p → e < edge_count o.program → n ≡ source_at o.program e
    → word_at o.program e ≡ star → (m k : ℕ) → k ≤ edge_count p.program → from ≡ latest (source_at p.program) m k → r ≡ opposite_below o.program p.program e m k

pub record OppositeFrom (ol nl : List ℕ) (e n from r : ℕ) : Type 0 where
  pub finds : FindsFrom ol nl e n from r
  pub below : r ≤ from

-- `last_opposite`: 1 + the last edge of the new node m that is opposite to the old edge e, or 0.
unfoldable pub LastOpposite : List ℕ → List ℕ → ℕ → ℕ → ℕ → Type 0
LastOpposite ol nl e m r =
    (ot on nt nn : List ℕ) (o p : Listing) → InMemory (memory ot on ol) o → InMemory (memory nt nn nl) p → e < edge_count o.program → m < node_count p.program
    → r ≡ opposite_below o.program p.program e m (edge_count p.program)

-- `opposite_before`: 1 + the one before f, which is opposite to e, or 0.
unfoldable pub FindsBefore : List ℕ → List ℕ → ℕ → ℕ → ℕ → Type 0
FindsBefore ol nl e f r =
    (ot on nt nn : List ℕ) (o p : Listing) → InMemory (memory ot on ol) o → InMemory (memory nt nn nl) p → e < edge_count o.program → f < edge_count p.program
    → (m : ℕ) → side_of o.program p.program e m f ≡ 0 → r ≡ opposite_below o.program p.program e m f

pub record OppositeBefore (ol nl : List ℕ) (e f r : ℕ) : Type 0 where
  pub finds : FindsBefore ol nl e f r
  pub below : r ≤ f

-- `is_star`: if the word of the old edge e is not `*`, nothing is before an edge that is opposite to it; `*` leaves this open.
unfoldable pub IsStar : List ℕ → ℕ → Bool → Type 0
IsStar ol e r = r ≡ false → (nl : List ℕ) (f : ℕ) → OppositeBefore ol nl e f 0

-- `word_lost`: the new node m takes no edge for the word of the old edge e, where `last` is what `last_opposite` answers.
unfoldable pub WordLost : List ℕ → List ℕ → ℕ → ℕ → ℕ → Bool → Type 0
WordLost ol nl e m last r =
    (ot on nt nn : List ℕ) (o p : Listing) → InMemory (memory ot on ol) o → InMemory (memory nt nn nl) p → e < edge_count o.program → m < node_count p.program
    → last ≡ opposite_below o.program p.program e m (edge_count p.program) → r ≡ isnt (some? (edge_taken p.program m (word_at o.program e)))

-- `sole_opposite`: if it is one, r is what the three answer of an edge that is the only opposite one; 0 leaves all open.
pub record Sole (ol nl : List ℕ) (e m r : ℕ) : Type 0 where
  pub last : LastOpposite ol nl e m r
  pub before : OppositeBefore ol nl e (r - 1) 0
  pub kept : WordLost ol nl e m r false

unfoldable pub SoleOpposite : List ℕ → List ℕ → ℕ → ℕ → ℕ → Type 0
SoleOpposite ol nl e m r = 0 < r → Sole ol nl e m r
