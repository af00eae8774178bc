-- What the covered functions do at each return.
use mathlib.Core.Path.{◌≡◌, refl, sym, ap, ◌∙◌}
use mathlib.Core.Bool.{Bool, true, false, ◌&&◌}
use lib.Dec.{eqb}
use Rattle.text.specs.Runs.{numbers_same}
use mathlib.Core.List.{List, [], ◌∷◌}
use Prim.Native.Nat.{ℕ, zero, suc, ◌+◌, ◌-◌, ◌*◌, ◌/◌, ◌≤◌, ◌<◌}
use native.Mathlib.Omega.{arith}
use lib.ListN.{length, get_or, take, drop}
use lib.Seq.{sets}
use borrow.Author.Tests.{eq-eqb, ne_eqb}
use Rattle.laws.specs.Tests.{choose}
use Rattle.laws.specs.Slices.{sets_out}
use Rattle.rules.specs.Text.{Bytes}
use Rattle.records.specs.declared.Job.{Job}
use Rattle.records.specs.declared.Node.{Node}
use Rattle.records.specs.Nodes.{row, node_at}
use Rattle.records.specs.NodeLaws.{flat_none, loaded_more, loaded_all, saved_none, saved_more, saved_end}
use Rattle.records.specs.Jobs.{numbers_of, same_job}
use Rattle.records.specs.Shown.{part_shown}

-- ---- `put_row`

pub row_before : (l : List ℕ) (at i : ℕ) (v : Node) → length l < at → l ≡ sets l (at + 4 * i) (row v)
row_before l at i v h = sym (sets_out (row v) l (at + 4 * i) (omega arith))

pub row_beyond : (l : List ℕ) (at i : ℕ) (v : Node) → at ≤ length l → (length l - at) / 4 < i → l ≡ sets l (at + 4 * i) (row v)
row_beyond l at i v a h = sym (sets_out (row v) l (at + 4 * i) (omega arith))

-- ---- `node_at`

get_d_end : (l : List ℕ) (i : ℕ) → length l ≤ i → get_or l i 0 ≡ 0
get_d_end [] i h = refl
get_d_end (x ∷ l) zero h = absurd (let z : ⊥ = omega arith in z)
get_d_end (x ∷ l) (suc i) h = get_d_end l i (omega arith)

pub node_beyond : (l : List ℕ) (i : ℕ) → length l / 4 < i → record { kind = 0; start = 0; len = 0; callees = 0 } ≡ node_at l i
node_beyond l i h = rw (get_d_end l (4 * i) (omega arith), get_d_end l (4 * i + 1) (omega arith), get_d_end l (4 * i + 2) (omega arith), get_d_end l (4 * i + 3) (omega arith))

pub node_is : (l : List ℕ) (i a b c d : ℕ) → a ≡ get_or l (4 * i) 0 → b ≡ get_or l (4 * i + 1) 0 → c ≡ get_or l (4 * i + 2) 0 → d ≡ get_or l (4 * i + 3) 0
    → record { kind = a; start = b; len = c; callees = d } ≡ node_at l i
node_is l i a b c d ea eb ec ed = rw (ea, eb, ec, ed)

pub ruleset rows = (row_before, row_beyond, node_beyond, node_is)

-- ---- `shown_part`

module _ (old new : Bytes) (side start len : ℕ) where
  pub shown_old : (r : Bytes) → side ≡ 0 → r ≡ take len (drop start old) → r ≡ part_shown old new side start len
  unfolding part_shown choose
  shown_old r h e = simp (eq-eqb _ _ h) e

  pub shown_new : (r : Bytes) → (side ≡ 0 → ⊥) → side ≡ 1 → r ≡ take len (drop start new) → r ≡ part_shown old new side start len
  unfolding part_shown choose
  shown_new r z h e = simp (ne_eqb _ _ z, eq-eqb _ _ h) e

  pub shown_none : (r : Bytes) → (side ≡ 0 → ⊥) → (side ≡ 1 → ⊥) → r ≡ take 0 (drop 0 new) → r ≡ part_shown old new side start len
  unfolding part_shown choose
  shown_none r z h e = simp (ne_eqb _ _ z, ne_eqb _ _ h) e

pub ruleset shown = (shown_old, shown_new, shown_none)

-- ---- `same_job`

also_true : (t : Bool) → t ≡ (t && true)
also_true true = refl
also_true false = refl

-- The comparison of all fields is that of the numbers.
pub jobs_same : (a b : Job) (t : Bool)
    → t ≡ (eqb a.stage b.stage && (eqb a.old_procs b.old_procs && (eqb a.old_nodes b.old_nodes && (eqb a.old_edges b.old_edges
    && (eqb a.new_procs b.new_procs && (eqb a.new_nodes b.new_nodes && (eqb a.new_edges b.new_edges && eqb a.tests b.tests)))))))
    → t ≡ same_job a b
unfolding same_job
jobs_same a b t e =
    e
    ∙ ap (λ (u : Bool). eqb a.stage b.stage && (eqb a.old_procs b.old_procs && (eqb a.old_nodes b.old_nodes && (eqb a.old_edges b.old_edges
    && (eqb a.new_procs b.new_procs && (eqb a.new_nodes b.new_nodes && (eqb a.new_edges b.new_edges && u))))))) (also_true (eqb a.tests b.tests))
    ∙ numbers_same (numbers_of a) (numbers_of b)

pub ruleset loads = (flat_none, loaded_more, loaded_all)

pub ruleset saves = (saved_none, saved_more, saved_end)
