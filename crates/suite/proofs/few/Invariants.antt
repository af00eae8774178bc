use mathlib.Core.Path.{◌≡◌}
use lib.ListN.{drop}
use Rattle.rules.specs.SuiteFile.{hex_value}
use Rattle.laws.specs.Digits.{number}
use Rattle.suite.proofs.few.Given as goal

abbrev pub invariant-loop-i : goal.invariant-loop-i
invariant-loop-i l = l.w ≡ number 16 hex_value (drop l.i l.s)
