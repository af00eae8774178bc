use Rattle.std.proofs.Common.{◌+◌, arith, ap, length, length-drop}
use Rattle.files.proofs.Laws.{field_on, field_this}
use Rattle.files.proofs.field.Goals as goal

pub loop-i-preserved : goal.loop-i-preserved
loop-i-preserved c = (
  omega (arith, ap length c.after-rest.ensures, length-drop (c.find-n.result + 1) c.loop-i.rest.now),
  field_on _ _ _ _ _ c.loop-i.invariant.1 _ c.find-n.ensures c.loop-i-test.true _ c.if-rest-n.false c.after-rest.ensures,
)

pub returns : goal.returns
returns c = field_this _ _ _ _ _ c.loop-i.invariant.1 _ c.loop-i-test.false c.first.ensures
