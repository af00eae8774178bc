use Rattle.reader.proofs.Completeness.{fine_few, fine_many, fine_dashed, fine_free}
use Rattle.reader.proofs.node_fine.Goals as goal
use Rattle.reader.proofs.node_fine.Goals.{then-d-bounds-via-then-d-bounds, then-d-bounds-via-else-d-bounds+then-bounds-d}

pub returns-then-d-bounds : goal.returns-then-d-bounds
returns-then-d-bounds c =
    elim c.then-d-bounds.branch [
      | then-d-bounds-via-then-d-bounds w ↦ fine_few _ _ _ _ _ _ _ c.get-number.ensures c.in-Ok.ensures c.degrees_of-bounds.ensures c.links.ensures c.degree-d.ensures w.if-d-bounds.true
      | then-d-bounds-via-else-d-bounds+then-bounds-d w ↦ fine_many _ _ _ _ _ _ _ c.get-number.ensures c.in-Ok.ensures c.degrees_of-bounds.ensures c.links.ensures c.degree-d.ensures w.if-bounds-d.true
    ]

pub returns-in-Entry : goal.returns-in-Entry
returns-in-Entry c = fine_dashed _ _ _ _ _ _ _ c.get-number.ensures c.in-Ok.ensures c.degrees_of-bounds.ensures c.links.ensures c.degree-d.ensures c.if-d-bounds.false c.if-bounds-d.false _ c.links-in-Entry.ensures c.in-Entry.is _ c.dashed.ensures

pub returns-in-Step : goal.returns-in-Step
returns-in-Step c = fine_free _ _ _ _ _ _ _ c.get-number.ensures c.in-Ok.ensures c.degrees_of-bounds.ensures c.links.ensures c.degree-d.ensures c.if-d-bounds.false c.if-bounds-d.false c.in-Step.is
