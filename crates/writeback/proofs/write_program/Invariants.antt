use Prim.Native.Nat.{◌*◌}
use Rattle.reader.specs.Result.{counts_of}
use Rattle.writer.specs.Writes.{Writes}
use Rattle.writeback.specs.Back.{procedure_text, run_from}
use Rattle.writeback.proofs.write_program.Given as goal

abbrev pub invariant-loop-q : goal.invariant-loop-q
invariant-loop-q l = Writes l.initial.out 0 (run_from (procedure_text l.version.text l.version.nodes l.version.links (counts_of l.had)) 0 l.q) (262144 * l.q) l.k l.out
