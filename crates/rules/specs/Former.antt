-- The check with labels that match by their bytes, as they did before job 2 of document 02, all else being as now; so of sheets that were made since job 6.
use Rattle.std.specs.Prelude.{Bool, List, [], ◌∷◌, ℕ}
use Rattle.laws.specs.Tests.{◌and◌, all_pairs, first_failed}
use Rattle.rules.specs.Text.{Bytes, max_pairs, same}
use Rattle.rules.specs.Graph.{Program, callee_at, kind_at, label_at, same_kind}
use Rattle.rules.specs.Closing.{Coverage, same_callee}
use Rattle.rules.specs.Sheet.{Sheet, read_sheet}
use Rattle.rules.specs.Check.{rule1, rule3, rule4, rule5}
use Rattle.rules.specs.Job.{Outcome, outcome, read_job, verdict}

-- Alike, with labels of equal bytes; rule 2, of these.
unfoldable pub former_alike : Program → Program → ℕ → ℕ → Bool
former_alike old new n n' = same_kind (kind_at old n) (kind_at new n') and same (label_at old n) (label_at new n') and same_callee (callee_at old n) (callee_at new n')

unfoldable pub former_rule2 : Program → Program → Sheet → Bool
former_rule2 old new s = all_pairs (former_alike old new) s.M

-- The first broken rule, or 0, and the check of a sheet; all else is as in Check and Job.
unfoldable pub former_broken : Program → Program → List Coverage → Sheet → ℕ
former_broken old new suite s = first_failed 1 (rule1 old new s ∷ former_rule2 old new s ∷ rule3 old new s ∷ rule4 old new s ∷ rule5 suite s ∷ [])

unfoldable pub former_check_answer : Bytes → Bytes → Bytes → Bytes → Outcome
former_check_answer old new tests sheet =
    outcome (read_job old new tests) (λ g. outcome (read_sheet max_pairs g.old g.new g.suite sheet) (λ s. verdict (former_broken g.old g.new g.suite.coverages s)))
