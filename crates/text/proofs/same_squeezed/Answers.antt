use Rattle.text.proofs.Labels.{match_end, match_more}
use Rattle.text.proofs.same_squeezed.Goals as goal

pub returns-then-is_empty : goal.returns-then-is_empty
returns-then-is_empty c =
    match_end _ _ _ _ _ _ _ _ _ c.loop-x.invariant c.common-n.ensures c.after-p.ensures c.after-q.ensures c.past_blanks-x-in-loop-x.ensures c.past_blanks-y-in-loop-x.ensures
    c.then-x-p.either _ c.is_empty.ensures _ c.if-is_empty.true c.is_empty-then-is_empty.ensures

pub returns-else-is_empty : goal.returns-else-is_empty
returns-else-is_empty c =
    match_more _ _ _ _ _ _ _ _ _ c.loop-x.invariant c.common-n.ensures c.after-p.ensures c.after-q.ensures c.past_blanks-x-in-loop-x.ensures c.past_blanks-y-in-loop-x.ensures
    c.then-x-p.either _ c.is_empty.ensures c.if-is_empty.false
