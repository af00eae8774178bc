-- What the functions of the search promise: whatever programs the memories hold, for a table in a state of the search. Each adds pairs of the rules only, and
-- the rules that it looks at then hold within the list; those of pairs that have to wait do where it adds none.
use Rattle.std.specs.Prelude.{◌≡◌, Bool, false, true, List, Option, Some, None, ℕ, suc, ◌+◌, ◌*◌, ◌≤◌, ◌<◌, leb, length}
use Rattle.laws.specs.Tests.{choose, has, listed}
use Rattle.rules.specs.Graph.{Program, edge_count, entry, proc_count, source_at}
use Rattle.rules.specs.Closing.{MayGoOn, Pair, dangers, pairs, opposite}
use Rattle.rules.specs.ProgramFile.{Listing}
use Rattle.pairset.specs.Store.{danger_in, new_at, old_at, pair_base, pairs_in}
use Rattle.versions.specs.Memory.{InMemory, Memory}
use Rattle.versions.specs.Called.{CalleesAt}
use Rattle.versions.specs.Opposite.{opposite_below}
use Rattle.versions.specs.PairsHeld.{PairsHeld}
use Rattle.versions.specs.Groups.{InGroups}
use Rattle.closure.specs.declared.Growth.{Growth}
use Rattle.closure.specs.State.{AllDone, CalleeDone, EdgeDone, EdgesDone, EndsDone, Entered, EntriesDone, Formed, LostDone, PairDone, PairFollowed, State, Step, Turn}

-- The count of an answer: one more than the limit for None, by which there are more pairs than the limit; the same of a growth, and whether it is settled.
abbrev pub counted : ℕ → Option ℕ → ℕ
counted limit None = suc limit
counted limit (Some c) = c

abbrev pub grown : ℕ → Option Growth → ℕ
grown limit None = suc limit
grown limit (Some g) = g.count

abbrev pub is_settled : Option Growth → Bool
is_settled None = true
is_settled (Some g) = g.settled

-- A claim, and the table as long as it was.
pub record Sized (w v : List ℕ) (X : Type 0) : Type 0 where
  pub size : length v ≡ length w
  pub claim : X

-- `grow`: a pair that is not there.
unfoldable pub Grows : ℕ → List ℕ → ℕ → ℕ → ℕ → List ℕ → ℕ → Type 0
Grows limit w c a b v r =
    (old new : Program) → Formed old new → State old new limit w c → (c ≤ limit → Pair old new a b) → (c ≤ limit → listed (pairs_in w c) a b ≡ false)
    → Step old new limit w c (λ M _. listed M a b ≡ true) v r

module _ (a b : Memory) (limit : ℕ) (w : List ℕ) (c : ℕ) where
  -- `add_entries`: the entries of the old procedure q and the new procedure k.
  unfoldable pub AddsEntries : ℕ → ℕ → List ℕ → ℕ → Type 0
  AddsEntries q k v r =
      (o p : Listing) → InMemory a o → InMemory b p → State o.program p.program limit w c → q < proc_count o.program → k < proc_count p.program
      → (c ≤ limit → Pair o.program p.program (entry o.program q) (entry p.program k)) → Step o.program p.program limit w c (EntriesDone o.program p.program q k) v r

  -- `enter_callee`: the same, and whether their exits are a pair.
  unfoldable pub EntersCallee : ℕ → ℕ → List ℕ → ℕ → Bool → Type 0
  EntersCallee q k v r settled =
      (o p : Listing) → InMemory a o → InMemory b p → State o.program p.program limit w c → q < proc_count o.program → k < proc_count p.program
      → (c ≤ limit → Pair o.program p.program (entry o.program q) (entry p.program k)) → Step o.program p.program limit w c (CalleeDone o.program p.program q k settled) v r

  -- `enter_callees`: rule 2 for the pair (n, m) of calls, whose callees are the digits of k and l.
  unfoldable pub EntersCallees : ℕ → ℕ → List ℕ → ℕ → Bool → Type 0
  EntersCallees k l v r settled =
      (o p : Listing) → InMemory a o → InMemory b p → State o.program p.program limit w c → (n m : ℕ) → Pair o.program p.program n m → CalleesAt o p n m 0 k l
      → Step o.program p.program limit w c (Entered o.program p.program n m settled) v r

  -- `enter`: rule 2 for the pair (n, m).
  unfoldable pub Enters : ℕ → ℕ → List ℕ → ℕ → Bool → Type 0
  Enters n m v r settled =
      (o p : Listing) → InMemory a o → InMemory b p → State o.program p.program limit w c → Pair o.program p.program n m
      → Step o.program p.program limit w c (Entered o.program p.program n m settled) v r

-- `mark_lost`: the old edge e is marked if the new node m takes no edge for its word, where their pair may go on and `last` is what `last_opposite` answers.
unfoldable pub MarksLost : Memory → Memory → List ℕ → ℕ → ℕ → ℕ → List ℕ → Type 0
MarksLost a b w e m last v =
    (o p : Listing) → InMemory a o → InMemory b p → (limit c : ℕ) → State o.program p.program limit w c
    → e < edge_count o.program → Pair o.program p.program (source_at o.program e) m → MayGoOn o.program p.program (source_at o.program e) m
    → last ≡ opposite_below o.program p.program e m (edge_count p.program) → Step o.program p.program limit w c (LostDone o.program p.program e m) v c

module _ (a b : Memory) (t : List ℕ) (limit : ℕ) (w : List ℕ) where
  -- `try_ends`: rule 3 for the old edge e and the new edge f, which are opposite and leave a pair that may go on.
  unfoldable pub TriesEnds : ℕ → ℕ → ℕ → List ℕ → ℕ → Type 0
  TriesEnds c e f v r =
      (o p : Listing) → InMemory a o → InGroups b t p → State o.program p.program limit w c → e < edge_count o.program → f < edge_count p.program
      → opposite o.program p.program e f ≡ true → Pair o.program p.program (source_at o.program e) (source_at p.program f)
      → MayGoOn o.program p.program (source_at o.program e) (source_at p.program f)
      → Step o.program p.program limit w c (EndsDone o.program p.program e f) v r

  -- `try_edge`, `try_opposites`: rule 3 for the old edge e and the new node m, where their pair may go on.
  unfoldable pub TriesEdge : ℕ → ℕ → ℕ → List ℕ → ℕ → Type 0
  TriesEdge c e m v r =
      (o p : Listing) → InMemory a o → InGroups b t p → State o.program p.program limit w c → e < edge_count o.program
      → Pair o.program p.program (source_at o.program e) m → MayGoOn o.program p.program (source_at o.program e) m
      → Step o.program p.program limit w c (EdgeDone o.program p.program e m) v r

  -- `follow`: rule 3 for the pair (n, m), which may go on.
  unfoldable pub Follows : ℕ → ℕ → ℕ → List ℕ → ℕ → Type 0
  Follows c n m v r =
      (o p : Listing) → InMemory a o → InGroups b t p → State o.program p.program limit w c → Pair o.program p.program n m → MayGoOn o.program p.program n m
      → Step o.program p.program limit w c (EdgesDone o.program p.program n m) v r

  -- `visit`: rules 2 and 3 for the pair x of the table.
  unfoldable pub Visits : ℕ → ℕ → List ℕ → ℕ → Bool → Type 0
  Visits c x v r settled =
      (o p : Listing) → InMemory a o → InGroups b t p → State o.program p.program limit w c → c ≤ limit → x < c
      → Turn o.program p.program limit w c (PairFollowed o.program p.program (old_at w x) (new_at w x)) (PairDone o.program p.program (old_at w x) (new_at w x)) v r settled

  -- `pass`: the three rules.
  unfoldable pub Passes : ℕ → List ℕ → ℕ → Bool → Type 0
  Passes c v r settled =
      (o p : Listing) → InMemory a o → InGroups b t p → State o.program p.program limit w c
      → Turn o.program p.program limit w c (AllDone o.program p.program) (AllDone o.program p.program) v r settled

-- The number of pairs, or one more than the limit where there are more; within the limit, the table holds them and the dangerous edges. What it holds behind them is left
-- open, and all that it holds where there are more.
pub record Found (old new : Program) (limit : ℕ) (w : List ℕ) (r : ℕ) : Type 0 where
  pub answer : r ≡ choose (leb (length (pairs old new)) limit) (length (pairs old new)) (suc limit)
  pub held : r ≤ limit → PairsHeld old new w r
  pub marked : r ≤ limit → (e : ℕ) → danger_in w e ≡ has (dangers old new) e

-- `repeat`: from a state of the search.
unfoldable pub Finds : Memory → Memory → List ℕ → ℕ → List ℕ → List ℕ → ℕ → Type 0
Finds a b t limit w v r =
    (o p : Listing) → InMemory a o → InGroups b t p → State o.program p.program limit w 0 → Found o.program p.program limit v r

-- `close`: from a table that has room for as many pairs as the limit says; for a shorter one the answer is left open, and what the table holds afterwards.
unfoldable pub Closes : Memory → Memory → ℕ → List ℕ → List ℕ → ℕ → Type 0
Closes a b limit w v r =
    (o p : Listing) → InMemory a o → InMemory b p → pair_base + 3 * limit ≤ length w → Found o.program p.program limit v r
