-- What the search for the pairs keeps: the pairs and the dangerous edges found so far, a step that adds some, a turn of a pass, and when a list and a set have the
-- three rules.
use Rattle.std.specs.Prelude.{◌≡◌, Bool, false, true, List, ℕ, ◌+◌, ◌*◌, ◌≤◌, ◌<◌, length}
use Rattle.laws.specs.Tests.{listed, some?}
use Rattle.rules.specs.Graph.{C, Program, WellFormed, callee_count, called, edge_count, edge_taken, entry, exit, kind_at, node_count, source_at, target_at, word_at}
use Rattle.rules.specs.Closing.{Dangerous, ExitsMet, Pair, alike, fits, fitted, goes_on, pairs}
use Rattle.pairset.specs.Store.{Store, danger_in, new_at, old_at, pair_base, pairs_in}
use Rattle.closure.specs.Once.{Once}

-- A claim of a list of pairs and a set of old edges.
abbrev pub Claim : Type 1
Claim = List (ℕ × ℕ) → (ℕ → Bool) → Type 0

-- All that M lists, N lists, and all edges of S are in T; a claim that lasts as list and set grow.
pub record Within (M : List (ℕ × ℕ)) (S : ℕ → Bool) (N : List (ℕ × ℕ)) (T : ℕ → Bool) : Type 0 where
  pub list : (a b : ℕ) → listed M a b ≡ true → listed N a b ≡ true
  pub set : (e : ℕ) → S e ≡ true → T e ≡ true

unfoldable pub Lasts : Claim → Type 0
Lasts D = (M : List (ℕ × ℕ)) (S : ℕ → Bool) (N : List (ℕ × ℕ)) (T : ℕ → Bool) → Within M S N T → D M S → D N T

module _ (old new : Program) where
  -- Two well-formed programs, whose nodes have heads and bits in the table, and the old edges bits.
  pub record Formed : Type 0 where
    pub old_formed : WellFormed old
    pub new_formed : WellFormed new
    pub few : node_count old ≤ 512
    pub few_new : node_count new ≤ 512
    pub few_edges : edge_count old ≤ 1024

  -- The table holds c pairs of the rules, none twice, and dangerous edges.
  pub record Kept (w : List ℕ) (c : ℕ) : Type 0 where
    pub store : Store w c
    pub sound : (a b : ℕ) → listed (pairs_in w c) a b ≡ true → Pair old new a b
    pub once : Once (pairs_in w c)
    pub dangerous : (e : ℕ) → danger_in w e ≡ true → Dangerous old new e

  -- There is room for as many pairs as the limit says, and c of them were found; a count above the limit says that there are more than the limit, and what the table then
  -- holds is left open.
  pub record State (limit : ℕ) (w : List ℕ) (c : ℕ) : Type 0 where
    pub wide : pair_base + 3 * limit ≤ length w
    pub few : c ≤ limit + 1
    pub kept : c ≤ limit → Kept w c
    pub over : limit < c → limit < length (pairs old new)

  -- From the table w with c pairs to v with r: the pairs that were there stay where they were, the dangerous edges stay, and the list of the pairs and the set of the
  -- dangerous edges then have D.
  pub record Step (limit : ℕ) (w : List ℕ) (c : ℕ) (D : Claim) (v : List ℕ) (r : ℕ) : Type 0 where
    pub state : State limit v r
    pub more : c ≤ r
    pub keeps : r ≤ limit → (k : ℕ) → k < c → (old_at v k ≡ old_at w k) × (new_at v k ≡ new_at w k)
    pub stays : r ≤ limit → (e : ℕ) → danger_in w e ≡ true → danger_in v e ≡ true
    pub done : r ≤ limit → D (pairs_in v r) (danger_in v)

  -- A step of a pass, where `settled` says that no pair had to wait in it: if none had to, list and set then have D; if it added no pair, they have E.
  pub record Turn (limit : ℕ) (w : List ℕ) (c : ℕ) (D E : Claim) (v : List ℕ) (r : ℕ) (settled : Bool) : Type 0 where
    pub step : Step limit w c (λ M S. settled ≡ true → D M S) v r
    pub still : r ≡ c → r ≤ limit → E (pairs_in v r) (danger_in v)

  -- ---- the rules within a list M, and the dangerous edges within a set S

  -- The old edge e and the new edge f, where they are opposite: if the ends are alike, they are listed, and if not, e is in the set.
  pub record EndsDone (e f : ℕ) (M : List (ℕ × ℕ)) (S : ℕ → Bool) : Type 0 where
    pub ends : alike old new (target_at old e) (target_at new f) ≡ true → listed M (target_at old e) (target_at new f) ≡ true
    pub danger : alike old new (target_at old e) (target_at new f) ≡ false → S e ≡ true

  -- If the new node m takes no edge for the word of the old edge e, e is in the set.
  unfoldable pub LostDone : ℕ → ℕ → Claim
  LostDone e m M S = some? (edge_taken new m (word_at old e)) ≡ false → S e ≡ true

  -- The old edge e and the new node m: for each edge of m that fits e the ends are listed, and if e is not fitted, it is in the set; for the edges of the old node n.
  pub record EdgeDone (e m : ℕ) (M : List (ℕ × ℕ)) (S : ℕ → Bool) : Type 0 where
    pub ends : (f : ℕ) → f < edge_count new → source_at new f ≡ m → fits old new e f ≡ true → listed M (target_at old e) (target_at new f) ≡ true
    pub danger : fitted old new e m ≡ false → S e ≡ true

  unfoldable pub EdgesDone : ℕ → ℕ → Claim
  EdgesDone n m M S = (e : ℕ) → e < edge_count old → source_at old e ≡ n → EdgeDone e m M S

  -- Rule 3 for the pair (n, m), where it goes on by the list.
  unfoldable pub OnDone : ℕ → ℕ → Claim
  OnDone n m M S = goes_on old new M n m ≡ true → EdgesDone n m M S

  -- Rule 2 for the pair (n, m): the entries of a callee are listed, if the exits of all callees before it are.
  unfoldable pub CallDone : ℕ → ℕ → Claim
  CallDone n m M S =
      kind_at old n ≡ C → kind_at new m ≡ C → (i : ℕ) → i < callee_count old n → ExitsMet old new (λ a b. listed M a b ≡ true) n m i
      → listed M (entry old (called old n i)) (entry new (called new m i)) ≡ true

  -- The entries of all callees are listed. This lasts as the list grows.
  unfoldable pub AllEntered : ℕ → ℕ → Claim
  AllEntered n m M S = kind_at old n ≡ C → (i : ℕ) → i < callee_count old n → listed M (entry old (called old n i)) (entry new (called new m i)) ≡ true

  -- Rule 2 for the pair (n, m), of which `settled` says whether it goes on by the list.
  pub record Entered (n m : ℕ) (settled : Bool) (M : List (ℕ × ℕ)) (S : ℕ → Bool) : Type 0 where
    pub call : CallDone n m M S
    pub goes : goes_on old new M n m ≡ settled
    pub all : settled ≡ true → AllEntered n m M S

  -- All that rules 2 and 3 could ask for the pair (n, m), which lasts as the list grows; what they ask by the list.
  pub record PairFollowed (n m : ℕ) (M : List (ℕ × ℕ)) (S : ℕ → Bool) : Type 0 where
    pub call : AllEntered n m M S
    pub edges : EdgesDone n m M S

  pub record PairDone (n m : ℕ) (M : List (ℕ × ℕ)) (S : ℕ → Bool) : Type 0 where
    pub call : CallDone n m M S
    pub on : OnDone n m M S

  -- The entries of the procedures q and k; with whether their exits are listed.
  unfoldable pub EntriesDone : ℕ → ℕ → Claim
  EntriesDone q k M S = listed M (entry old q) (entry new k) ≡ true

  unfoldable pub CalleeDone : ℕ → ℕ → Bool → Claim
  CalleeDone q k settled M S = (listed M (entry old q) (entry new k) ≡ true) × (settled ≡ listed M (exit old q) (exit new k))

  -- Entries and exits of the callees i of the pair (n, m); of its first i callees.
  abbrev pub MetAt : ℕ → ℕ → List (ℕ × ℕ) → ℕ → Type 0
  MetAt n m M i = (listed M (entry old (called old n i)) (entry new (called new m i)) ≡ true) × (listed M (exit old (called old n i)) (exit new (called new m i)) ≡ true)

  unfoldable pub MetTo : ℕ → ℕ → ℕ → Claim
  MetTo n m i M S = (j : ℕ) → j < i → MetAt n m M j

  -- Rules 2 and 3 for each listed pair.
  unfoldable pub EachDone : Claim
  EachDone M S = (n m : ℕ) → listed M n m ≡ true → PairDone n m M S

  -- The list has the three rules, and the set the edges that are dangerous by them.
  pub record AllDone (M : List (ℕ × ℕ)) (S : ℕ → Bool) : Type 0 where
    pub start : EntriesDone 0 0 M S
    pub each : EachDone M S
