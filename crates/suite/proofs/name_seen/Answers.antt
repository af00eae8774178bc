use Rattle.std.proofs.Common.{ℕ, refl, arith, rules, tests}
use Rattle.std.proofs.lemmas.Iterator.{YieldsList-from_range}
use Rattle.std.proofs.lemmas.Iterator.Search.{any_from_yields_List}
use Rattle.rules.specs.Text.{same}
use Rattle.suite.specs.Reading.{name_at}
use Rattle.suite.proofs.Forms.{names_any}
use Rattle.suite.proofs.name_seen.Goals as goal

pub returns : goal.returns
returns c =
    names_any c.args.text.now c.args.tests.now c.args.count c.args.name.now _
    (any_from_yields_List (λ (i : ℕ). same (name_at c.args.text.now c.args.tests.now i) c.args.name.now) _ _ _ c.any.ensures.ran (YieldsList-from_range 0 c.args.count c.args.count refl (omega arith)) (λ x b q k. search (rules, tests)))
