use Rattle.std.proofs.Common.{rules}
use Rattle.writer.proofs.Sheets.{sheet_measured}
use Rattle.writer.proofs.write_sheet.Goals as goal

pub returns : goal.returns
returns c = sheet_measured _ _ _ (λ p q r k. search rules) _ _ _ c.measured.ensures
