-- What the functions over two versions in memory answer: whatever programs the memories hold, the definitions' answers, for numbers that name their nodes and edges.
use Rattle.std.specs.Prelude.{◌≡◌, Bool, true, List, ℕ, ◌≤◌, ◌<◌}
use Rattle.laws.specs.Tests.{◌⇒◌, every}
use Rattle.rules.specs.Text.{Bytes, same}
use Rattle.rules.specs.Graph.{C, callee_at, callee_count, callee_name, kind_at, node_count}
use Rattle.rules.specs.Closing.{alike, both_call, exits_met, goes_on, same_callee}
use Rattle.rules.specs.Check.{entered_at}
use Rattle.rules.specs.ProgramFile.{Listing}
use Rattle.pairset.specs.Store.{Store, pairs_in}
use Rattle.versions.specs.Memory.{InMemory, Memory, memory}
use Rattle.versions.specs.Called.{CalleesAt}

-- `alike`: the old node n and the new node m are alike.
unfoldable pub Alike : Memory → Memory → ℕ → ℕ → Bool → Type 0
Alike v v' n m r =
    (o p : Listing) → InMemory v o → InMemory v' p → n < node_count o.program → m < node_count p.program → r ≡ alike o.program p.program n m

-- `both_call`: both nodes are calls.
unfoldable pub BothCall : List ℕ → List ℕ → ℕ → ℕ → Bool → Type 0
BothCall on nn n m r =
    (ot nt : Bytes) (ol nl : List ℕ) (o p : Listing) → InMemory (memory ot on ol) o → InMemory (memory nt nn nl) p → n < node_count o.program → m < node_count p.program
    → r ≡ both_call o.program p.program n m

-- `same_callees`: the callee fields of two calls count as equal, where k and l have their callees as digits; from i on, where the names before are the same.
unfoldable pub SameCallees : List ℕ → List ℕ → List ℕ → List ℕ → ℕ → ℕ → Bool → Type 0
SameCallees ot ol nt nl k l r =
    (on nn : List ℕ) (o p : Listing) → InMemory (memory ot on ol) o → InMemory (memory nt nn nl) p → (n m i : ℕ) → CalleesAt o p n m i k l → m < node_count p.program
    → kind_at p.program m ≡ C → i ≤ callee_count p.program m → every i (λ j. same (callee_name o.program n j) (callee_name p.program m j)) ≡ true
    → r ≡ same_callee (callee_at o.program n) (callee_at p.program m)

-- `exits_met`: the exits of all callees of the call n, with those of the node m, are pairs of the table; from i on, where those before are.
unfoldable pub ExitsMet : List ℕ → List ℕ → List ℕ → ℕ → ℕ → Bool → Type 0
ExitsMet ol nl w k l r =
    (ot on nt nn : List ℕ) (o p : Listing) (c : ℕ) → InMemory (memory ot on ol) o → InMemory (memory nt nn nl) p → Store w c → (n m i : ℕ) → CalleesAt o p n m i k l
    → exits_met o.program p.program (pairs_in w c) n m i ≡ true → r ≡ exits_met o.program p.program (pairs_in w c) n m (callee_count o.program n)

-- `goes_on`: the pair (n, m) may go on by the pairs that the table holds.
unfoldable pub GoesOn : List ℕ → List ℕ → List ℕ → List ℕ → List ℕ → ℕ → ℕ → Bool → Type 0
GoesOn on ol nn nl w n m r =
    (ot nt : Bytes) (o p : Listing) (c : ℕ) → InMemory (memory ot on ol) o → InMemory (memory nt nn nl) p → Store w c → n < node_count o.program → m < node_count p.program
    → r ≡ goes_on o.program p.program (pairs_in w c) n m

-- `callees_entered`: the entries of the callees of the call n, with those of the node m, are pairs of the table as rule 3 of the check asks; from i on, where those before are, and their exits.
unfoldable pub CalleesEntered : List ℕ → List ℕ → List ℕ → ℕ → ℕ → Bool → Type 0
CalleesEntered ol nl w k l r =
    (ot on nt nn : List ℕ) (o p : Listing) (c : ℕ) → InMemory (memory ot on ol) o → InMemory (memory nt nn nl) p → Store w c → (n m i : ℕ) → CalleesAt o p n m i k l
    → exits_met o.program p.program (pairs_in w c) n m i ≡ true → every i (entered_at o.program p.program (pairs_in w c) n m) ≡ true
    → r ≡ every (callee_count o.program n) (entered_at o.program p.program (pairs_in w c) n m)

-- `entered`: the same of two nodes, where both are calls.
unfoldable pub Entered : List ℕ → List ℕ → List ℕ → List ℕ → List ℕ → ℕ → ℕ → Bool → Type 0
Entered on ol nn nl w n m r =
    (ot nt : Bytes) (o p : Listing) (c : ℕ) → InMemory (memory ot on ol) o → InMemory (memory nt nn nl) p → Store w c → n < node_count o.program → m < node_count p.program
    → r ≡ (both_call o.program p.program n m ⇒ every (callee_count o.program n) (entered_at o.program p.program (pairs_in w c) n m))
