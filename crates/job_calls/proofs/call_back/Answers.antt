use Rattle.std.proofs.Common.{refl}
use Rattle.job_calls.proofs.Back.{back_goes, back_no_new, back_no_old, parts_of, text_put_of}
use Rattle.job_calls.proofs.call_back.Goals as goal

pub returns-then-not-same_parts : goal.returns-then-not-same_parts
returns-then-not-same_parts c = back_no_old _ _ _ _ _ _ _ _ _ _ _ _ _ _ c.requires.0 c.requires.1 _ _ (text_put_of _ _ c.program.ensures _ _ _ _ _ _ _ c.limit-o.ensures refl c.write_program-a.ensures c.front-oback.ensures) (text_put_of _ _ c.program-2.ensures _ _ _ _ _ _ _ c.limit-p.ensures refl c.write_program-b.ensures c.front-nback.ensures) _ _ _ c.limit-o.ensures c.limit-p.ensures (parts_of _ _ _ _ _ _ _ c.program-3.ensures c.same_parts.ensures) _ _ _ c.if-not-same_parts.true c.not_held.ensures

pub returns-then-not-same_parts-2 : goal.returns-then-not-same_parts-2
returns-then-not-same_parts-2 c = back_no_new _ _ _ _ _ _ _ _ _ _ _ _ _ _ c.requires.0 c.requires.1 _ _ (text_put_of _ _ c.program.ensures _ _ _ _ _ _ _ c.limit-o.ensures refl c.write_program-a.ensures c.front-oback.ensures) (text_put_of _ _ c.program-2.ensures _ _ _ _ _ _ _ c.limit-p.ensures refl c.write_program-b.ensures c.front-nback.ensures) _ _ _ c.limit-o.ensures c.limit-p.ensures (parts_of _ _ _ _ _ _ _ c.program-3.ensures c.same_parts.ensures) _ _ _ _ (parts_of _ _ _ _ _ _ _ c.program-4.ensures c.same_parts-2.ensures) c.if-not-same_parts.false c.if-not-same_parts-2.true c.not_held-then-not-same_parts-2.ensures

pub returns : goal.returns
returns c = back_goes _ _ _ _ _ _ _ _ _ _ _ _ _ _ c.requires.0 c.requires.1 _ _ (text_put_of _ _ c.program.ensures _ _ _ _ _ _ _ c.limit-o.ensures refl c.write_program-a.ensures c.front-oback.ensures) (text_put_of _ _ c.program-2.ensures _ _ _ _ _ _ _ c.limit-p.ensures refl c.write_program-b.ensures c.front-nback.ensures) _ _ _ c.limit-o.ensures c.limit-p.ensures (parts_of _ _ _ _ _ _ _ c.program-3.ensures c.same_parts.ensures) _ _ _ _ _ (parts_of _ _ _ _ _ _ _ c.program-4.ensures c.same_parts-2.ensures) c.if-not-same_parts.false c.if-not-same_parts-2.false c.call_held.ensures
