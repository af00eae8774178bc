-- The returns and turns of every function, as one set.
use Rattle.reader.proofs.Leaves.{leaves}
use Rattle.reader.proofs.Completeness.{kinds, fines, all_fines, fine_yes, fine_no, completes}
use Rattle.reader.proofs.Steps.{proc_line_rules, node_line_rules, links_lines, edge_lines}
use Rattle.reader.proofs.Forms.{splits}
use Rattle.reader.proofs.Turns.{turns}
use Rattle.reader.proofs.Callees.{callees}
use Rattle.reader.proofs.Ends.{resolves, resolve_turns, finishes, intos}

pub ruleset all = (leaves, kinds, fines, all_fines, fine_yes, fine_no, completes, proc_line_rules, node_line_rules, links_lines, edge_lines, splits, turns, callees, resolves, resolve_turns, finishes, intos)
