use borrow.Author.Rules.{rules}
use mathlib.Core.Path.{refl}
use Rattle.std.proofs.lemmas.Result.{err_from_is_err_and}
use Rattle.answer.specs.Refusals.{fault_some}
use Rattle.reader.proofs.All.{all}
use Rattle.reader.proofs.Ends.{finish_lost, finish_done}
use Rattle.reader.proofs.finish.Goals as goal

pub returns-then-had-eq0 : goal.returns-then-had-eq0
returns-then-had-eq0 c = search (all, rules)

pub returns-then-not-complete : goal.returns-then-not-complete
returns-then-not-complete c = search (all, rules)

pub returns-in_err-resolve : goal.returns-in_err-resolve
returns-in_err-resolve c =
    let p = err_from_is_err_and c.from_residual.result c.from_residual.ensures.1 in
    rw (p.1, p.2) (finish_lost _ _ _ c.requires.small c.if-had-eq0.false _ c.complete.ensures (search rules) _ _ _ c.in_err-resolve.ensures (fault_some _))

pub returns : goal.returns
returns c = finish_done _ _ _ c.requires.small c.if-had-eq0.false _ c.complete.ensures (search rules) _ _ _ c.in_ok-resolve.ensures refl
