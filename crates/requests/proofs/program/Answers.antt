use borrow.Author.Rules.{rules}
use Rattle.requests.proofs.Laws.{program_new, program_none, program_old}
use Rattle.requests.proofs.program.Goals as goal

pub returns-in-0 : goal.returns-in-0
returns-in-0 c = program_old _ _ _ _ _ _ _ c.write_text.ensures c.in-0.is c.text.ensures

pub returns-in-1 : goal.returns-in-1
returns-in-1 c = program_new _ _ _ _ _ _ _ c.write_text-in-1.ensures c.in-1.is c.text-in-1.ensures

pub returns-in_default : goal.returns-in_default
returns-in_default c = let h = c.in_default in search (program_none, rules)
