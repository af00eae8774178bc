use borrow.Author.Rules.{rules}
use Rattle.std.proofs.Common.{arith}
use Rattle.sheet_reader.proofs.Steps.{pair_added}
use Rattle.sheet_reader.proofs.add_pair.Goals as goal

pub returns : goal.returns
returns c = pair_added _ _ _ _ _ _ c.in_ok-i.ensures.0 c.in_ok-j.ensures.0 _ c.in_ok-i.ensures.1 _ c.in_ok-j.ensures.1 _ c.pair_fits.ensures (search rules) _ c.append.ensures c.requires.small c.requires.bounded (omega arith) c.requires.limit_in_bounds
