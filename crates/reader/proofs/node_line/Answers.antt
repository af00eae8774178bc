use Rattle.reader.proofs.Forms.{node_added}
use Rattle.reader.proofs.node_line.Goals as goal

pub returns : goal.returns
returns c =
    node_added _ _ _ _ _ _ _ _ c.first_short-kind.ensures _ _ c.if-rest-kind.false c.after-more.ensures c.first-label.ensures _ c.if-more-label.false c.after-callee.ensures _ c.in-Some.ensures c.add_node.ensures
