use Rattle.std.proofs.Common.{rules}
use Rattle.writer.proofs.Sheets.{record_told, text_measured}
use Rattle.writer.proofs.write_record.Goals as goal

pub returns : goal.returns
returns c = record_told _ _ _ _ _ _ _ c.test_name-name.ensures c.ones-crossed.ensures c.front-line.ensures _ _ _ (text_measured _ _ _ 1061 (λ p q r k. search rules) _ _ _ c.measured.ensures)
