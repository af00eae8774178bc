-- What a set of dangerous edges says: the lowest one that a test covers, and whether the test is to be repeated.
use Rattle.std.specs.Prelude.{◌≡◌, ◌↔◌, true, List, ℕ, ◌≤◌, ◌<◌, Option, Some, None}
use Rattle.std.proofs.Common.{sym, ◌∙◌, arith}
use Rattle.laws.specs.Tests.{has}
use Rattle.laws.specs.Bits.{bit_in}
use Rattle.rules.specs.Graph.{Program, edge_count}
use Rattle.rules.specs.Closing.{Coverage, Dangerous, dangers, first_danger, holds, meets}
use Rattle.rules.specs.Promises.{Exact, Repeated}
use Rattle.rules.proofs.Closure.{dangers_inside}
use Rattle.rules.proofs.Search.{search_exact}
use Rattle.coverage.specs.Rows.{Row, edge_found, first_common, row_meets, row_words}
use Rattle.coverage.specs.RowLaws.{first_is, meets_are, none_is, some_is}
use Rattle.selection.specs.Dangers.{DangerSet}

module _ (old new : Program) (set : List ℕ) (few : edge_count old ≤ 1024) (h : DangerSet old new set) (rows : List ℕ) (i : ℕ) (coverage : Coverage) (row : Row (edge_count old) rows i coverage) where
  bits : (e : ℕ) → e < edge_count old → bit_in set e ≡ has (dangers old new) e
  bits e l = h.bits e (omega arith)

  -- The search in the row finds the lowest dangerous edge that the coverage holds.
  pub row_first : first_common (row_words rows i) set ≡ first_danger (edge_count old) (dangers old new) coverage
  row_first = first_is (edge_count old) rows i coverage few row set (dangers old new) bits

  -- What `first_danger` answers of the row, by its cases: an edge exactly if it is the lowest dangerous one that the coverage holds, and nothing exactly if the test is not repeated.
  module _ (x : Exact old new) (f : Option ℕ) (answered : edge_found f ≡ first_common (row_words rows i) set) where
    pub row_at : (e : ℕ) → (f ≡ Some e) ↔ (Dangerous old new e × (holds coverage e ≡ true) × ((d : ℕ) → d < e → Dangerous old new d → holds coverage d ≡ true → ⊥))
    row_at e =
        let s = (search_exact old new x coverage).found_is e in
        (λ p. s.0 (sym row_first ∙ sym answered ∙ (some_is f e).0 p), λ w. (some_is f e).1 (answered ∙ row_first ∙ s.1 w))

    pub row_nothing : (f ≡ None) ↔ (Repeated old new coverage → ⊥)
    row_nothing =
        let s = (search_exact old new x coverage).none_is in
        (λ p. s.0 (sym row_first ∙ sym answered ∙ (none_is f).0 p), λ w. (none_is f).1 (answered ∙ row_first ∙ s.1 w))

  -- A row that has an edge of the set is that of a test to repeat.
  pub row_meets_lem : row_meets rows set i ≡ meets (dangers old new) coverage
  row_meets_lem = meets_are (edge_count old) rows i coverage few row set (dangers old new) bits (dangers_inside old new)
