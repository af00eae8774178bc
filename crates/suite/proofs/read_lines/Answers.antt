use borrow.Author.Rules.{rules}
use native.Mathlib.Omega.{arith}
use mathlib.Core.Path.{refl}
use Rattle.suite.proofs.All.{all}
use Rattle.suite.proofs.Turns.{head_on, no_line}
use Rattle.std.proofs.lemmas.Result.{err_from_is_err_and}
use Rattle.suite.proofs.read_lines.Goals as goal

pub returns-then-rest-len : goal.returns-then-rest-len
returns-then-rest-len c = search (all, rules)

pub returns-in_err-count : goal.returns-in_err-count
returns-in_err-count c =
    let p = err_from_is_err_and c.from_residual.result c.from_residual.ensures.1 in
    rw (p.1, p.2) (record {
      lines = no_line _ _ _ _ _ _ _ _ _ _ _ c.loop-at.invariant _ c.after-rest.ensures _ c.find-len.ensures (omega arith) _ c.front-line.ensures _ _ _ _ c.in_err-count.ensures _ refl;
      few = omega arith;
    })

pub loop-at-preserved : goal.loop-at-preserved
loop-at-preserved c =
    head_on _ _ _ _ _ _ _ _ _ _ _ c.loop-at.invariant _ c.after-rest.ensures _ c.find-len.ensures (omega arith) _ c.front-line.ensures _ _ _ _ c.in_ok-count.ensures _ refl (search rules) (search rules) (search rules)

pub returns : goal.returns
returns c = search (all, rules)
