use Rattle.std.proofs.Common.{rules, ◌≡◌, replicate, length, take}
use Rattle.selection.proofs.Marks.{fill_told}
use Rattle.selection.proofs.fill.Goals as goal

pub returns : goal.returns
returns c = let e : c.fill.new.self ≡ replicate (length (take c.min-end.result c.args.marks.now)) c.args.b = search rules in fill_told _ _ _ _ _ c.min-end.ensures e
