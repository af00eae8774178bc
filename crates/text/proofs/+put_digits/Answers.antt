use borrow.Author.Rules.{rules}
use Rattle.text.proofs.Laws.{decimal_on, room_before, room_last}
use Rattle.text.proofs.+put_digits.Goals as goal

pub put_digits-next-requires : goal.put_digits-next-requires
put_digits-next-requires t c = search (room_before, rules)

pub put_byte-requires : goal.put_byte-requires
put_byte-requires t c = search (room_last, rules)

pub returns : goal.returns
returns t c = search decimal_on
