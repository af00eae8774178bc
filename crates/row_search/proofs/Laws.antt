-- The return of the exported search, as `grind` finds it.
use Rattle.std.specs.Prelude.{◌≡◌, refl, List, ℕ, unwrap_or, Option, Some, None}
use Rattle.std.proofs.Common.{ap, ◌∙◌}
use Rattle.coverage.specs.Rows.{edge_found, first_common}
use Rattle.row_search.specs.Numbers.{edge_number}

pub told : (o : Option ℕ) (row set : List ℕ) → edge_found o ≡ first_common row set → unwrap_or o 1024 ≡ edge_number (first_common row set)
unfolding edge_number
told o row set searched = as_number o ∙ ap edge_number searched
  where
    as_number : (o : Option ℕ) → unwrap_or o 1024 ≡ edge_number (edge_found o)
    as_number (Some e) = refl
    as_number None = refl
