-- What the functions of the five rules claim: whatever programs, suite and sheet the memory holds, the rules' answers.
use Rattle.std.specs.Prelude.{◌≡◌, Bool, true, false, List, [], ℕ, ◌<◌, get_or, length, Result, Ok, Err}
use Rattle.std.specs.Fn.{FnReturns, Shared}
use Rattle.laws.specs.Tests.{◌or◌, ◌⇒◌, every, has, listed}
use Rattle.rules.specs.Graph.{Program, edge_count, node_count, target_at}
use Rattle.rules.specs.ProgramFile.{Listing}
use Rattle.rules.specs.Closing.{Coverage, kept_by, meets}
use Rattle.rules.specs.Sheet.{Sheet}
use Rattle.rules.specs.Check.{broken, edge_kept, edges_kept, rule1, rule2, rule3, rule4, rule5}
use Rattle.coverage.specs.Rows.{Row}
use Rattle.pairset.specs.Store.{new_at, old_at}
use Rattle.versions.specs.Memory.{InMemory, Memory}
use Rattle.versions.specs.Opposite.{opposite_at, opposite_below}
use Rattle.sheet_reader.specs.Claims.{ClaimsHeld}
use Rattle.checker.specs.declared.Rule.{Rule}
use Rattle.checker.specs.declared.Rule.TheVariants.{Start, Alike, Entered, Kept, Listed}

-- Two programs in memory, and the claims of a sheet in its tables, whose pairs and edges are theirs.
pub record Claimed (v v' : Memory) (w sets : List ℕ) (m : ℕ) (o p : Listing) (s : Sheet) : Type 0 where
  pub old_in : InMemory v o
  pub new_in : InMemory v' p
  pub held : ClaimsHeld w sets m s
  pub nodes : (n k : ℕ) → listed s.M n k ≡ true → (n < node_count o.program) × (k < node_count p.program)
  pub edges : (e : ℕ) → has s.D e ≡ true → e < edge_count o.program

-- The coverages of a suite, each in its row.
pub record Covered (rows : List ℕ) (m count : ℕ) (coverages : List Coverage) : Type 0 where
  pub counted : count ≡ length coverages
  pub row : (i : ℕ) → i < count → Row m rows i (get_or coverages i [])

-- ---- the rules

-- The number of a rule.
abbrev pub rule_number : Rule → ℕ
rule_number Start = 1
rule_number Alike = 2
rule_number Entered = 3
rule_number Kept = 4
rule_number Listed = 5

-- The number of the first broken rule, or 0.
abbrev pub first_broken : {T : Type 0} → Result T Rule → ℕ
first_broken (Ok x) = 0
first_broken (Err rule) = rule_number rule

-- `rule1`
unfoldable pub Rule1 : Memory → Memory → List ℕ → Bool → Type 0
Rule1 v v' w r = (sets : List ℕ) (m : ℕ) (o p : Listing) (s : Sheet) → Claimed v v' w sets m o p s → r ≡ rule1 o.program p.program s

-- `ends_listed`: the ends of the old edge e and the new edge f are listed.
unfoldable pub EndsListed : Memory → Memory → List ℕ → ℕ → ℕ → Bool → Type 0
EndsListed v v' w e f r =
    (sets : List ℕ) (m : ℕ) (o p : Listing) (s : Sheet) → Claimed v v' w sets m o p s → e < edge_count o.program → f < edge_count p.program
    → r ≡ listed s.M (target_at o.program e) (target_at p.program f)

-- `opposites_listed`: they are for each edge of the new node k that is opposite to the old edge e, where `last` is what `last_opposite` answers for them.
unfoldable pub opposites_listed : Program → Program → Sheet → ℕ → ℕ → Bool
opposites_listed old new s k e = every (edge_count new) (λ f. opposite_at old new e k f ⇒ listed s.M (target_at old e) (target_at new f))

unfoldable pub OppositesListed : Memory → Memory → List ℕ → ℕ → ℕ → Bool → Type 0
OppositesListed v v' w e last r =
    (sets : List ℕ) (m : ℕ) (o p : Listing) (s : Sheet) → Claimed v v' w sets m o p s → e < edge_count o.program
    → (k : ℕ) → last ≡ opposite_below o.program p.program e k (edge_count p.program) → r ≡ opposites_listed o.program p.program s k e

-- `edge_kept`: the old edge e is listed under D, or, for every word for which it is taken, the new node k takes an edge and the ends are listed.
unfoldable pub edge_allowed : Program → Program → Sheet → ℕ → ℕ → Bool
edge_allowed old new s k e = has s.D e or kept_by old new (listed s.M) e k

unfoldable pub EdgeKept : Memory → Memory → List ℕ → List ℕ → ℕ → ℕ → Bool → Type 0
EdgeKept v v' w sets e k r =
    (m : ℕ) (o p : Listing) (s : Sheet) → Claimed v v' w sets m o p s → e < edge_count o.program → k < node_count p.program
    → r ≡ edge_allowed o.program p.program s k e

-- `all_kept`: each edge of the old node n is.
unfoldable pub AllKept : Memory → Memory → List ℕ → List ℕ → ℕ → ℕ → Bool → Type 0
AllKept v v' w sets n k r =
    (m : ℕ) (o p : Listing) (s : Sheet) → Claimed v v' w sets m o p s → n < node_count o.program → k < node_count p.program
    → r ≡ every (edge_count o.program) (edge_kept o.program p.program s n k)

-- `edges_kept`: rule 4 of the pair (n, k).
unfoldable pub EdgesKept : Memory → Memory → List ℕ → List ℕ → ℕ → ℕ → Bool → Type 0
EdgesKept v v' w sets n k r =
    (m : ℕ) (o p : Listing) (s : Sheet) → Claimed v v' w sets m o p s → n < node_count o.program → k < node_count p.program
    → r ≡ edges_kept o.program p.program s n k

-- `all_pairs`: the test f passes each of the m pairs, or there is one that it does not.
abbrev pub AllPairs : {F : Type 0} → Shared F (ℕ × (ℕ × Unit {0})) Bool → F → List ℕ → ℕ → Bool → Type 0
AllPairs g f w m true = (i : ℕ) → i < m → FnReturns g f (old_at w i, (new_at w i, tt)) true
AllPairs g f w m false = (i : ℕ) × (i < m) × FnReturns g f (old_at w i, (new_at w i, tt)) false

-- What a test says of the pair (n, k) is what the rule R says of it.
unfoldable pub PairKeeps : (Program → Program → Sheet → ℕ → ℕ → Bool) → Memory → Memory → List ℕ → List ℕ → ℕ → ℕ → Bool → Type 0
PairKeeps R v v' w sets n k r =
    (m : ℕ) (o p : Listing) (s : Sheet) → Claimed v v' w sets m o p s → n < node_count o.program → k < node_count p.program
    → r ≡ R o.program p.program s n k

-- `rule2`, `rule3`, `rule4`
unfoldable pub Rule2 : Memory → Memory → List ℕ → ℕ → Bool → Type 0
Rule2 v v' w m r = (sets : List ℕ) (o p : Listing) (s : Sheet) → Claimed v v' w sets m o p s → r ≡ rule2 o.program p.program s

unfoldable pub Rule3 : Memory → Memory → List ℕ → ℕ → Bool → Type 0
Rule3 v v' w m r = (sets : List ℕ) (o p : Listing) (s : Sheet) → Claimed v v' w sets m o p s → r ≡ rule3 o.program p.program s

unfoldable pub Rule4 : Memory → Memory → List ℕ → ℕ → List ℕ → Bool → Type 0
Rule4 v v' w m sets r = (o p : Listing) (s : Sheet) → Claimed v v' w sets m o p s → r ≡ rule4 o.program p.program s

-- `test_kept`: rule 5 of the test i; `rule5`.
unfoldable pub TestKept : List ℕ → List ℕ → ℕ → Bool → Type 0
TestKept rows sets i r =
    (v v' : Memory) (w : List ℕ) (m count : ℕ) (o p : Listing) (s : Sheet) (coverages : List Coverage) → Claimed v v' w sets m o p s → Covered rows (edge_count o.program) count coverages → i < count
    → r ≡ (meets s.D (get_or coverages i []) ⇒ has s.R i)

unfoldable pub Rule5 : List ℕ → ℕ → List ℕ → Bool → Type 0
Rule5 rows count sets r =
    (v v' : Memory) (w : List ℕ) (m : ℕ) (o p : Listing) (s : Sheet) (coverages : List Coverage) → Claimed v v' w sets m o p s → Covered rows (edge_count o.program) count coverages
    → r ≡ rule5 coverages s

-- `judge`: the first broken rule, or 0.
unfoldable pub Judges : Memory → Memory → List ℕ → ℕ → List ℕ → ℕ → List ℕ → ℕ → Type 0
Judges v v' w m rows count sets r =
    (o p : Listing) (s : Sheet) (coverages : List Coverage) → Claimed v v' w sets m o p s → Covered rows (edge_count o.program) count coverages
    → r ≡ broken o.program p.program coverages s
