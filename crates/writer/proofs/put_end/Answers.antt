use Rattle.writer.proofs.Lines.{end_puts}
use Rattle.writer.proofs.put_end.Goals as goal

pub returns : goal.returns
returns c = end_puts _ _ _ c.put_bytes-a.ensures c.put_field-b.ensures c.put_field-c.ensures c.put_field-e.ensures c.put_byte.ensures
