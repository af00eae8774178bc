use borrow.Author.Rules.{rules}
use Rattle.writer.proofs.Sheets.{texts}
use Rattle.writer.proofs.write_text.Goals as goal

pub returns-then-out-text : goal.returns-then-out-text
returns-then-out-text c = search (texts, rules)

pub returns : goal.returns
returns c = search (texts, rules)
