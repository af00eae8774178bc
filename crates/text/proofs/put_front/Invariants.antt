use Rattle.std.proofs.Common.{◌≡◌, length, drop}
use Rattle.std.proofs.lemmas.List.Edits.{sets}
use Rattle.text.proofs.put_front.Given as goal

abbrev pub invariant-loop-i : goal.invariant-loop-i
invariant-loop-i g l = (length l.d ≡ length l.initial.d) × (sets l.initial.d 0 l.s ≡ sets l.d l.i (drop l.i l.s))
