use Rattle.reader.proofs.Forms.{edge_added}
use Rattle.reader.proofs.edge_line.Goals as goal

pub returns : goal.returns
returns c =
    edge_added _ _ _ _ _ _ _ _ c.first_short-from.ensures _ _ c.if-rest-from.false c.after-more.ensures c.first_short-word.ensures _ c.if-more-word.false c.after-to.ensures _ c.in-Some.ensures _ c.in-Some-number.ensures
    _ c.is_word.ensures c.if-not-is_word.false c.add_edge.ensures
