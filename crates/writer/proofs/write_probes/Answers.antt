use Rattle.std.proofs.Common.{rules, ◌*◌}
use Rattle.writer.proofs.Sheets.{text_measured}
use Rattle.writer.proofs.write_probes.Goals as goal

pub returns : goal.returns
returns c = text_measured _ _ _ (23 * c.args.edges) (λ p q r k. search rules) _ _ _ c.measured.ensures
