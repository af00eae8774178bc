use Rattle.std.proofs.Common.{arith, rules, ◌+◌}
use Rattle.reader.specs.Result.{counts_of}
use Rattle.writeback.specs.Back.{edge_text}
use Rattle.writeback.specs.Runs.{PutsLines}
use Rattle.writeback.proofs.BackLaws.{begins_few}
use Rattle.writeback.proofs.Lines.{its_edges}
use Rattle.writeback.proofs.put_its_edges.Goals as goal

pub put_run-requires : goal.put_run-requires
unfolding PutsLines
put_run-requires c = (
  omega (arith, c.requires.0),
  omega (arith, c.begin-to.ensures, begins_few c.args.version.now.links 4 c.args.had.procs c.args.had.edges (c.args.q + 1), c.requires.1.few_edges),
  record { may = λ p k i h. search rules; line = edge_text c.args.version.now.text c.args.version.now.links; puts = λ p q k i r h. search rules },
)

pub returns : goal.returns
unfolding PutsLines
returns c = its_edges _ _ _ _ (counts_of c.args.had) c.args.q _ _ _ _ _ _ c.put_run.ensures c.requires.1 (λ p q k i r h. search rules) c.begin-from.ensures c.begin-to.ensures
