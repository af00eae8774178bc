-- The closing rules: which nodes are alike and which are pairs, which old edges are dangerous, which tests are repeated, which edges are counterparts, which need a probe, and a test's marks.
use Rattle.std.specs.Prelude.{◌≡◌, Bool, true, false, List, [], ℕ, zero, suc, ◌<◌, eqb, length, get_or}
use Rattle.std.proofs.Math.Option.{Option, some}
use Rattle.laws.specs.Tests.{◌and◌, ◌or◌, ◌⇒◌, after, choose, isnt, every, any, first, some?, those, has, any_of, listed, any_pair, pick, grid}
use Rattle.rules.specs.Text.{same, same_label, Bytes}
use Rattle.rules.specs.Graph.{C, Program, node_count, edge_count, kind_at, label_at, callee_at, source_at, word_at, target_at, entry, exit, callee_count, called, edge_taken, same_kind}
use Rattle.rules.specs.After.{After, edges_after}

-- Two callee fields that count as equal: those of equal bytes.
unfoldable pub same_callee : Bytes → Bytes → Bool
same_callee c c' = same c c'

-- The edge e is taken for the word w, at its node.
unfoldable pub takes : Program → Bytes → ℕ → Bool
takes p w e = after (edge_taken p (source_at p e) w) false (λ f. eqb f e)

module _ (old new : Program) where
  -- An old node and a new one are alike: kind and callee field have equal bytes, and the labels match.
  unfoldable pub alike : ℕ → ℕ → Bool
  alike n n' = same_kind (kind_at old n) (kind_at new n') and same_label (label_at old n) (label_at new n') and same_callee (callee_at old n) (callee_at new n')

  -- An old edge and a new one are opposite: some word is taken by both, each at its node. It is enough to try the word of each (`opposite_at`, `opposite_of` in proofs/ClosingLaws): a word
  -- that neither node names goes `*` against `*`, and there `*` itself is such a word.
  unfoldable pub opposite : ℕ → ℕ → Bool
  opposite e e' = takes new (word_at old e) e' or takes old (word_at new e') e

  -- An old edge and a new one are opposite, and their ends are alike.
  unfoldable pub fits : ℕ → ℕ → Bool
  fits e e' = opposite e e' and alike (target_at old e) (target_at new e')

  -- The exits of the first i callees of the C nodes n and n' are, callee by callee, in the relation R.
  abbrev pub ExitsMet : (ℕ → ℕ → Type 0) → ℕ → ℕ → ℕ → Type 0
  ExitsMet R n n' i = (j : ℕ) → j < i → R (exit old (called old n j)) (exit new (called new n' j))

  -- The pairs, as the smallest relation with rules 1, 2 and 3. Of a C pair the first callee's entries are a pair, each later one's only if the exits of every callee before it are; and
  -- it may go on only if the exits of all its callees are pairs. (`ExitsMet` of the relation itself is written out.) For each word, the edge that the old node takes is set against the
  -- edge that the new node takes.
  pub data Pair : ℕ → ℕ → Type 0 where
    first_entries : Pair (entry old 0) (entry new 0)
    callee_entries : {n n' : ℕ} → Pair n n' → kind_at old n ≡ C → kind_at new n' ≡ C → (i : ℕ) → i < callee_count old n
        → ((j : ℕ) → j < i → Pair (exit old (called old n j)) (exit new (called new n' j)))
        → Pair (entry old (called old n i)) (entry new (called new n' i))
    edge_ends : {n n' e e' : ℕ} → Pair n n'
        → (kind_at old n ≡ C → (j : ℕ) → j < callee_count old n → Pair (exit old (called old n j)) (exit new (called new n' j)))
        → (w : Bytes) → edge_taken old n w ≡ some e → edge_taken new n' w ≡ some e' → alike (target_at old e) (target_at new e') ≡ true
        → Pair (target_at old e) (target_at new e')

  -- A pair may go on.
  abbrev pub MayGoOn : ℕ → ℕ → Type 0
  MayGoOn n n' = kind_at old n ≡ C → ExitsMet Pair n n' (callee_count old n)

  -- Rule 3 joins an old edge and a new one for some pair and some word: they are counterparts.
  pub record Counterparts (e e' : ℕ) : Type 0 where
    pub pair : Pair (source_at old e) (source_at new e')
    pub may_go_on : MayGoOn (source_at old e) (source_at new e')
    pub word : Bytes
    pub old_takes : edge_taken old (source_at old e) word ≡ some e
    pub new_takes : edge_taken new (source_at new e') word ≡ some e'
    pub alike_ends : alike (target_at old e) (target_at new e') ≡ true

  -- An old edge is dangerous: for some pair that may go on, and some word for which the old node takes it, the new node takes no edge, or one whose end is not alike.
  pub record Dangerous (e : ℕ) : Type 0 where
    pub partner : ℕ
    pub pair : Pair (source_at old e) partner
    pub may_go_on : MayGoOn (source_at old e) partner
    pub word : Bytes
    pub old_takes : edge_taken old (source_at old e) word ≡ some e
    pub unfit : (e' : ℕ) → edge_taken new partner word ≡ some e' → alike (target_at old e) (target_at new e') ≡ true → ⊥

  -- A new edge at which a new run may part from the old one: it is taken for a word that makes a danger, at the pair that makes it.
  pub record Parting (e' : ℕ) : Type 0 where
    pub cause : ℕ
    pub danger : Dangerous cause
    pub taken : edge_taken new danger.partner danger.word ≡ some e'

  -- A new edge needs a probe: it lies after such an edge. An old edge lies after a danger.
  abbrev pub Probe : ℕ → Type 0
  Probe = After new Parting

  abbrev pub AfterDanger : ℕ → Type 0
  AfterDanger = After old Dangerous

  -- Both nodes are calls.
  unfoldable pub both_call : ℕ → ℕ → Bool
  both_call n n' = same_kind (kind_at old n) C and same_kind (kind_at new n') C

  -- For every word for which the old edge e is taken, the new node n' takes an edge, and the ends pass f. It is enough that it takes one for the word of e, and that the ends pass for
  -- each edge of n' that is opposite to e (`kept_at`, `kept_of` in proofs/ClosingLaws).
  unfoldable pub kept_by : (ℕ → ℕ → Bool) → ℕ → ℕ → Bool
  kept_by f e n' =
      some? (edge_taken new n' (word_at old e))
      and every (edge_count new) (λ e'. eqb (source_at new e') n' and opposite e e' ⇒ f (target_at old e) (target_at new e'))

  -- For every word for which the old edge e is taken, the new node n' takes an edge whose end is alike.
  unfoldable pub fitted : ℕ → ℕ → Bool
  fitted e n' = kept_by alike e n'

  -- The pair (a, b) is given by rule 1.
  unfoldable pub by_start : ℕ → ℕ → Bool
  by_start a b = eqb (entry old 0) a and eqb (entry new 0) b

  -- The same by computation, from a list of pairs.
  module _ (M : List (ℕ × ℕ)) where
    -- The exits of the first i callees of the C nodes n and n' are listed.
    unfoldable pub exits_met : ℕ → ℕ → ℕ → Bool
    exits_met n n' i = every i (λ j. listed M (exit old (called old n j)) (exit new (called new n' j)))

    -- The listed pair (n, n') may go on by the list.
    unfoldable pub goes_on : ℕ → ℕ → Bool
    goes_on n n' = same_kind (kind_at old n) C ⇒ exits_met n n' (callee_count old n)

    -- Rule 3 joins an old edge and a new one by the list.
    unfoldable pub joined : ℕ → ℕ → Bool
    joined e e' = listed M (source_at old e) (source_at new e') and goes_on (source_at old e) (source_at new e') and fits e e'

    -- The pair (a, b) is given by rule 2 for the pair (n, n'), from the list; by rule 3 for the edges e and e'; by a rule.
    unfoldable pub by_call : ℕ → ℕ → ℕ → ℕ → Bool
    by_call a b n n' =
        both_call n n' and any (callee_count old n) (λ i. exits_met n n' i and eqb (entry old (called old n i)) a and eqb (entry new (called new n' i)) b)

    unfoldable pub by_edge : ℕ → ℕ → ℕ → ℕ → Bool
    by_edge a b e e' = eqb (target_at old e) a and eqb (target_at new e') b and joined e e'

    unfoldable pub follows : ℕ → ℕ → Bool
    follows a b = by_start a b or any_pair (by_call a b) M or any (edge_count old) (λ e. any (edge_count new) (by_edge a b e))

    -- The list with what the rules give from it, ascending.
    unfoldable pub grown : List (ℕ × ℕ)
    grown = pick (λ a b. listed M a b or follows a b) (grid (node_count old) (node_count new))

    -- The old edge e is dangerous for the listed pair (n, n'); for some listed pair.
    unfoldable pub dangerous_at : ℕ → ℕ → ℕ → Bool
    dangerous_at e n n' = eqb (source_at old e) n and goes_on n n' and isnt (fitted e n')

    unfoldable pub dangerous : ℕ → Bool
    dangerous e = any_pair (dangerous_at e) M

    -- An old edge and a new one part by the list: they leave a listed pair that may go on, are opposite, and their ends are not alike. Some old edge parts from the new edge e'.
    unfoldable pub parted : ℕ → ℕ → Bool
    parted e e' = listed M (source_at old e) (source_at new e') and goes_on (source_at old e) (source_at new e') and opposite e e' and isnt (alike (target_at old e) (target_at new e'))

    unfoldable pub parting : ℕ → Bool
    parting e' = any (edge_count old) (λ e. parted e e')

  -- The list grown until a round adds nothing, at most k times.
  unfoldable pub closed : ℕ → List (ℕ × ℕ) → List (ℕ × ℕ)
  closed zero M = M
  closed (suc k) M = elim (eqb (length (grown M)) (length M)) [ true ↦ M | false ↦ closed k (grown M) ]

  -- The pairs, ascending by old, then new.
  unfoldable pub pairs : List (ℕ × ℕ)
  pairs = closed (length (grid (node_count old) (node_count new))) []

  -- The dangerous old edges, ascending.
  unfoldable pub dangers : List ℕ
  dangers = those (edge_count old) (dangerous pairs)

  -- The new edges that need a probe, ascending; the old edges after a dangerous one, itself included.
  unfoldable pub probes : List ℕ
  probes = edges_after new (parting pairs)

  unfoldable pub after_dangers : List ℕ
  after_dangers = edges_after old (dangerous pairs)

-- A test's coverage ("row" of a "lift"): for each old edge, was it crossed? The coverage holds the edge e.
abbrev pub Coverage : Type 0
Coverage = List Bool

abbrev pub holds : Coverage → ℕ → Bool
holds coverage e = get_or coverage e false

-- The coverage holds an edge of the list.
unfoldable pub meets : List ℕ → Coverage → Bool
meets D coverage = any_of (holds coverage) D

-- The search for a dangerous edge in a row (document 02, job 4): the lowest edge below m that the coverage holds and the list has, or none.
unfoldable pub first_danger : ℕ → List ℕ → Coverage → Option ℕ
first_danger m D coverage = first m (λ e. holds coverage e and has D e)

-- The repeated tests ("repeated lifts"), ascending: those whose coverage holds a dangerous edge.
unfoldable pub repeated : Program → Program → List Coverage → List ℕ
repeated old new suite = those (length suite) (λ i. meets (dangers old new) (get_or suite i []))

-- A mark: `0`, `1` or `?`.
pub data Mark : Type 0 where
  mark_0 mark_1 mark_? : Mark

module _ (old new : Program) (coverage : Coverage) where
  -- The old edge e was crossed and has the new edge e' as a counterpart; as its only one.
  unfoldable pub carries : ℕ → ℕ → Bool
  carries e' e = holds coverage e and joined old new (pairs old new) e e'

  unfoldable pub carries_only : ℕ → ℕ → Bool
  carries_only e' e = carries e' e and every (edge_count new) (λ f. joined old new (pairs old new) e f ⇒ eqb f e')

  -- The mark of the new edge e' by its counterparts: `0` if no old one was crossed, `1` if some crossed one has it as only counterpart, else `?`.
  unfoldable pub carried_mark : ℕ → Mark
  carried_mark e' = choose (isnt (any (edge_count old) (carries e'))) mark_0 (choose (any (edge_count old) (carries_only e')) mark_1 mark_?)

  -- A crossed old counterpart of the new edge e' lies after a danger.
  unfoldable pub endangered : ℕ → Bool
  endangered e' = any (edge_count old) (λ e. carries e' e and has (after_dangers old new) e)

  -- The mark of the new edge e': `?` for a repeated test where the edge has a probe or is endangered; else by its counterparts.
  unfoldable pub mark : ℕ → Mark
  mark e' = choose (meets (dangers old new) coverage and (has (probes old new) e' or endangered e')) mark_? (carried_mark e')
