use borrow.Author.Rules.{rules}
use Rattle.suite.proofs.Digits.{eight_is}
use Rattle.suite.proofs.eight.Goals as goal

pub returns : goal.returns
returns c = eight_is c.args.digits c.from_le_bytes-x.result (search rules) c.requires c.from_le_bytes-x.ensures
