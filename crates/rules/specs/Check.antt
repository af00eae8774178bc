-- The five rules of a sheet's check (refusal 12).
use Rattle.std.specs.Prelude.{Bool, List, [], ◌∷◌, ℕ, eqb, length, get_or}
use Rattle.laws.specs.Tests.{◌or◌, ◌⇒◌, every, has, listed, all_pairs, first_failed}
use Rattle.rules.specs.Graph.{Program, edge_count, source_at, entry, callee_count, called}
use Rattle.rules.specs.Closing.{alike, both_call, exits_met, goes_on, kept_by, Coverage, meets}
use Rattle.rules.specs.Sheet.{Sheet}

-- The entries of the callees i of the C nodes n and n' are listed, if the exits of every callee before them are.
abbrev pub entered_at : Program → Program → List (ℕ × ℕ) → ℕ → ℕ → ℕ → Bool
entered_at old new M n n' i = exits_met old new M n n' i ⇒ listed M (entry old (called old n i)) (entry new (called new n' i))

module _ (old new : Program) (s : Sheet) where
  -- 1: the first entries are listed.
  unfoldable pub rule1 : Bool
  rule1 = listed s.M (entry old 0) (entry new 0)

  -- 2: listed pairs are alike.
  unfoldable pub rule2 : Bool
  rule2 = all_pairs (alike old new) s.M

  -- 3: for a listed pair of C nodes, the first callee's entries are listed, and each later one's, if the exits of every callee before it are.
  unfoldable pub entered : ℕ → ℕ → Bool
  entered n n' = both_call old new n n' ⇒ every (callee_count old n) (entered_at old new s.M n n')

  unfoldable pub rule3 : Bool
  rule3 = all_pairs entered s.M

  -- 4: for each listed pair that may go on by the list, each old edge is listed under D, or, for every word for which it is taken, the new node takes an edge and the ends are listed.
  unfoldable pub edge_kept : ℕ → ℕ → ℕ → Bool
  edge_kept n n' e = eqb (source_at old e) n ⇒ has s.D e or kept_by old new (listed s.M) e n'

  unfoldable pub edges_kept : ℕ → ℕ → Bool
  edges_kept n n' = goes_on old new s.M n n' ⇒ every (edge_count old) (edge_kept n n')

  unfoldable pub rule4 : Bool
  rule4 = all_pairs edges_kept s.M

-- 5: every test whose coverage holds a D edge is listed.
unfoldable pub rule5 : List Coverage → Sheet → Bool
rule5 suite s = every (length suite) (λ i. meets s.D (get_or suite i []) ⇒ has s.R i)

-- The first broken rule, or 0.
unfoldable pub broken : Program → Program → List Coverage → Sheet → ℕ
broken old new suite s = first_failed 1 (rule1 old new s ∷ rule2 old new s ∷ rule3 old new s ∷ rule4 old new s ∷ rule5 suite s ∷ [])
