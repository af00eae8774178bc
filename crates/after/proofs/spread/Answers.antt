use mathlib.Core.Path.{refl, subst}
use mathlib.Core.List.{List}
use Prim.Native.Nat.{ℕ}
use Rattle.versions.specs.Memory.{Memory}
use Rattle.after.specs.Claims.{Spread}
use Rattle.after.proofs.Search.{spread_done}
use Rattle.after.proofs.spread.Goals as goal

-- The copy has the same tables.
pub returns : goal.returns
returns c =
    subst (λ (t : List ℕ). Spread t c.args.program.now.links c.args.count c.args.set.now c.run.new.set) c.nodes.ensures
    (subst (λ (t : List ℕ). Spread c.nodes.result.now t c.args.count c.args.set.now c.run.new.set) c.links.ensures
    (subst (λ (m : Memory). Spread m.nodes m.links c.args.count c.args.set.now c.run.new.set) c.new.ensures
    (spread_done _ _ _ _ _ _ _ _ _ _ _ _ refl c.find_owners.ensures refl c.note_all.ensures refl c.run.ensures)))
