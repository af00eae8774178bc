use Rattle.std.proofs.Common.{refl, arith}
use Rattle.std.specs.Prelude.{Err}
use Rattle.answer.specs.Refusals.{fault_some}
use Rattle.job_calls.specs.Loaded.{due_of}
use Rattle.job_calls.proofs.Laws.{due_asks, label_goes, label_stop, on_zero, unloads}
use Rattle.job_calls.proofs.label_on.Goals as goal

pub label_of-requires : goal.label_of-requires
label_of-requires c = let a = due_asks _ _ c.in-Ok.ensures refl in (a.0, a.1)

pub returns-in-Ok : goal.returns-in-Ok
returns-in-Ok c = (label_goes _ _ _ _ _ _ _ _ _ _ _ _ _ (unloads _ _ _ _ 0 refl c.part.ensures c.copy.ensures) (unloads _ _ _ _ 2048 refl c.part-2.ensures c.copy-2.ensures) _ _ _ c.in-Ok.ensures _ refl c.label_of.ensures, on_zero _ _ _ c.due-due.auto.w c.clear.ensures)

pub returns-in-Err : goal.returns-in-Err
returns-in-Err c = (label_stop _ _ _ _ _ _ _ _ _ _ _ _ _ (unloads _ _ _ _ 0 refl c.part.ensures c.copy.ensures) (unloads _ _ _ _ 2048 refl c.part-2.ensures c.copy-2.ensures) _ _ (due_of (Err c.in-Err.field-0)) c.in-Err.ensures (λ z. let y : ⊥ = omega (arith, z, fault_some c.in-Err.field-0.fault) in y), on_zero _ _ _ c.due-due.auto.w c.clear.ensures)
