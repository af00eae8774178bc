use Rattle.std.proofs.Common.{refl, sym, ◌∙◌}
use Rattle.job_calls.proofs.Laws.{call_back, call_held, unloads}
use Rattle.job_calls.proofs.call_in.Goals as goal

pub returns-then-out-lt65536 : goal.returns-then-out-lt65536
returns-then-out-lt65536 c = call_back _ _ _ _ _ _ _ _ _ _ _ _ _ (unloads _ _ _ _ 0 refl c.part.ensures c.copy.ensures) (unloads _ _ _ _ 2048 refl c.part-2.ensures c.copy-2.ensures) _ _ _ _ _ (sym c.takes_parts.ensures ∙ c.if-takes_parts.true) c.call_back.ensures

pub returns-then-takes_parts : goal.returns-then-takes_parts
returns-then-takes_parts c = call_back _ _ _ _ _ _ _ _ _ _ _ _ _ (unloads _ _ _ _ 0 refl c.part.ensures c.copy.ensures) (unloads _ _ _ _ 2048 refl c.part-2.ensures c.copy-2.ensures) _ _ _ _ _ (sym c.takes_parts.ensures ∙ c.if-takes_parts.true) c.call_back-then-takes_parts.ensures

pub returns : goal.returns
returns c = call_held _ _ _ _ _ _ _ _ _ _ _ _ _ (unloads _ _ _ _ 0 refl c.part.ensures c.copy.ensures) (unloads _ _ _ _ 2048 refl c.part-2.ensures c.copy-2.ensures) _ _ _ _ _ (sym c.takes_parts.ensures ∙ c.if-takes_parts.false) c.call_held.ensures
