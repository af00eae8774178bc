use Prim.Native.Nat.{◌≤◌}
use mathlib.Core.Path.{◌≡◌}
use Rattle.lines.specs.Kinds.{kind_code}
use Rattle.reader.specs.Reading.{kind_count}
use Rattle.reader.proofs.count_kind.Given as goal

abbrev pub invariant-loop-i : goal.invariant-loop-i
invariant-loop-i l = (l.n ≤ l.i) × (l.nodes ≤ l.first → l.n ≡ 0) × (l.n ≡ kind_count l.work l.first l.i (kind_code l.kind))
