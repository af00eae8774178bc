use Rattle.std.proofs.Common.{arith, refl, rules}
use Rattle.writeback.proofs.Lines.{put_done, put_on, put_room, put_start}
use Rattle.writeback.proofs.put_run.Goals as goal

pub loop-i-init : goal.loop-i-init
loop-i-init g c = (omega arith, put_start g.F.Fn c.args.put c.args.out.now c.args.at c.args.from)

pub put-k-requires : goal.put-k-requires
put-k-requires g c =
    let room = put_room g.F.Fn c.args.put c.args.out.now c.args.at c.args.from c.args.to _ _ _ c.loop-i.invariant.1 c.requires.2 c.loop-i-test.true c.requires.1 c.requires.0 in
    search (c.requires.2.may, room, rules)

pub loop-i-preserved : goal.loop-i-preserved
loop-i-preserved g c = (omega arith, put_on g.F.Fn c.args.put c.args.out.now c.args.at c.args.from c.args.to _ _ _ c.loop-i.invariant.1 _ _ _ refl c.loop-i.auto.i c.put-k.ensures)

pub returns : goal.returns
returns g c = put_done g.F.Fn c.args.put c.args.out.now c.args.at c.args.from c.args.to _ _ _ c.loop-i.invariant.1 c.loop-i.invariant.0 c.loop-i-test.false
