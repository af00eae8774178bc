use Rattle.std.proofs.Common.{◌<◌, ◌≤◌, length, arith, rules}
use Rattle.text.proofs.Laws.{left_last, left_not, left_short}
use Rattle.text.proofs.all_in.Goals as goal

pub returns-then-not-block_in : goal.returns-then-not-block_in
returns-then-not-block_in c =
    left_not _ _ _ c.loop-block.invariant _ _ _ c.in-Some.ensures.cases.0 c.in-Some.ensures.cases.1 c.block_in.ensures c.if-not-block_in.true

pub returns-in-Some-split_last_chunk : goal.returns-in-Some-split_last_chunk
returns-in-Some-split_last_chunk c =
    let short : length c.loop-block.rest.now < 16 = search rules in
    let long : 16 ≤ length c.args.s.now = omega (arith, c.in-Some-split_last_chunk.ensures.cases.2) in
    left_last _ _ _ c.loop-block.invariant _ _ short long c.in-Some-split_last_chunk.ensures.cases.1 c.block_in-in-Some-split_last_chunk.ensures

pub returns-in-None : goal.returns-in-None
returns-in-None c = left_short _ _ _ c.loop-block.invariant _ c.all_short.ensures
