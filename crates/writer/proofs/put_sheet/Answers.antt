use Rattle.writer.proofs.Sheets.{sheet_puts}
use Rattle.writer.proofs.put_sheet.Goals as goal

pub returns : goal.returns
returns c = sheet_puts _ _ _ c.requires.2 c.count_dangers-dangers.ensures c.count_repeats-repeats.ensures c.put_head-a.ensures c.put_pairs-b.ensures c.put_edges-c.ensures c.put_repeats-d.ensures c.put_end.ensures
