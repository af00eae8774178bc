use borrow.Author.Rules.{rules}
use Rattle.writer.proofs.All.{all}
use Rattle.writer.proofs.put_field.Goals as goal

pub put_decimal-requires : goal.put_decimal-requires
put_decimal-requires c = search (all, rules)

pub returns : goal.returns
returns c = search (all, rules)
