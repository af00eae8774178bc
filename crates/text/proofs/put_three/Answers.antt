use borrow.Author.Rules.{rules}
use Rattle.text.proofs.Laws.{writes}
use Rattle.text.proofs.put_three.Goals as goal

pub put_two-next-requires : goal.put_two-next-requires
put_two-next-requires c = search (writes, rules)

pub put_byte-requires : goal.put_byte-requires
put_byte-requires c = search (writes, rules)

pub returns : goal.returns
returns c = search (writes, rules)
