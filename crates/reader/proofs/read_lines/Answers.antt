use borrow.Author.Rules.{rules}
use native.Mathlib.Omega.{arith}
use Rattle.std.proofs.lemmas.Result.{err_from_is_err_and}
use Rattle.answer.specs.Refusals.{fault_some}
use Rattle.reader.proofs.All.{all}
use Rattle.reader.proofs.Turns.{head_on, lines_stop}
use Rattle.reader.proofs.read_lines.Goals as goal

pub returns-then-rest-len : goal.returns-then-rest-len
returns-then-rest-len c = search (all, rules)

pub returns-in_err-had : goal.returns-in_err-had
returns-in_err-had c =
    let p = err_from_is_err_and c.from_residual.result c.from_residual.ensures.1 in
    rw (p.1, p.2) (let h = c.in_err-had.ensures in lines_stop _ _ _ _ _ _ c.loop-at.invariant _ c.after-rest.ensures _ c.find-len.ensures (search rules) _ c.front.ensures _ _ h.stepped (λ z. let x = fault_some c.in_err-had.field-0.0.fault in let y : ⊥ = omega arith in y) h.small)

pub loop-at-preserved : goal.loop-at-preserved
loop-at-preserved c =
    let h = c.in_ok-had.ensures in head_on _ _ _ _ _ _ c.loop-at.invariant _ c.after-rest.ensures _ c.find-len.ensures (search rules) _ c.front.ensures _ _ h.stepped (search rules) h.small (search rules)

pub returns : goal.returns
returns c = search (all, rules)
