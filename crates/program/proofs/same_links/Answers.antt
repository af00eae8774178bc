use mathlib.Core.Path.{sym, ◌∙◌}
use mathlib.Core.List.{[]}
use Rattle.laws.specs.TestLaws.{both_ways}
use Rattle.program.proofs.Laws.{links_not, links_not_edges, links_same}
use Rattle.program.proofs.same_links.Goals as goal
use Rattle.program.proofs.same_links.Goals.{then-same_run, else-same_run}

pub returns-then-same_run-2 : goal.returns-then-same_run-2
returns-then-same_run-2 c =
    elim c.if-same_run.branch [
      | then-same_run w ↦
          links_same _ _ _ _ _ _ _ c.requires c.links-from.ensures c.part.ensures _ c.same_run.ensures w.if-same_run.true w.part-then-same_run.ensures _ _ w.same_run-then-same_run.ensures
          (sym w.value-is ∙ c.if-same_run-2.true) c.part-then-same_run-2.ensures c.same_run-then-same_run-2.ensures
      | else-same_run w ↦ absurd (both_ways c.if-same_run-2.true (w.value-is ∙ w.if-same_run.false))
    ]

pub returns-else-same_run-2 : goal.returns-else-same_run-2
returns-else-same_run-2 c =
    c.if-same_run-2.false
    ∙ elim c.if-same_run.branch [
      | then-same_run w ↦
          links_not_edges _ _ _ _ [] _ _ c.requires c.links-from.ensures c.part.ensures _ c.same_run.ensures w.if-same_run.true w.part-then-same_run.ensures _ w.same_run-then-same_run.ensures
          (sym w.value-is ∙ c.if-same_run-2.false)
      | else-same_run w ↦ links_not _ _ _ [] [] _ _ c.requires c.links-from.ensures c.part.ensures _ c.same_run.ensures w.if-same_run.false
    ]
