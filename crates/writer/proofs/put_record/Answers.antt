use borrow.Author.Rules.{rules}
use Rattle.writer.proofs.Lines.{record_puts}
use Rattle.writer.proofs.put_record.Goals as goal

pub returns : goal.returns
returns c = record_puts _ (search rules) c.put_named-a.ensures c.put_field-b.ensures c.put_byte-c.ensures c.put_bytes-d.ensures c.put_byte.ensures
