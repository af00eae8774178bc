-- The callees of an old and a new node in memory, one after another: the number that has those from i on as digits has the callee i as its lowest, and the others behind it.
use Rattle.std.specs.Prelude.{◌≡◌, Bool, List, ℕ, suc, ◌+◌, ◌-◌, ◌/◌, ◌%◌, ◌≤◌, ◌<◌, get_or}
use Rattle.std.proofs.Common.{ap, ◌∙◌, arith}
use Rattle.std.proofs.Math.Path.{ap₂}
use Rattle.laws.specs.Slices.{below_or}
use Rattle.laws.specs.Tests.{listed}
use Rattle.rules.specs.Graph.{C, callee_count, callee_name, called, entry, exit, kind_at, node_count}
use Rattle.rules.specs.ProgramFile.{Listing}
use Rattle.rules.proofs.GraphLaws.{called_below, called_name}
use Rattle.graph.specs.Table.{callees_from, proc_base}
use Rattle.graph.specs.Callees.{first_callee, none_from, other_callees, some_from}
use Rattle.graph.specs.Reads.{part_at}
use Rattle.pairset.specs.Store.{Has, Store, pairs_in}
use Rattle.versions.specs.Memory.{InMemory, memory}
use Rattle.versions.specs.MemoryLaws.{entry_is, exit_is, name_is, sound, well_formed}

-- Fewer are left behind the first.
pub fewer_callees : (k : ℕ) → 0 < k → k / 256 < k
fewer_callees k h = omega arith

-- ---- of one node

module _ (t nodes links : List ℕ) (s : Listing) (h : InMemory (memory t nodes links) s) (n i k : ℕ) (e : k ≡ callees_from s.program n i) where
  -- The callees behind the first.
  pub callees_on : k / 256 ≡ callees_from s.program n (suc i)
  callees_on = ap (λ (x : ℕ). x / 256) e ∙ other_callees s.program (sound _ s h).few_procs n i

  -- There is a callee i exactly where the number is not 0, if the node is a call.
  pub callee_there : 0 < k → i < callee_count s.program n
  callee_there pos = below_or i (callee_count s.program n) (λ l. l) (λ l. absurd (let z : ⊥ = omega (arith, none_from s.program n i l) in z))

  pub callees_end : n < node_count s.program → kind_at s.program n ≡ C → k ≤ 0 → callee_count s.program n ≤ i
  callees_end b c z = below_or i (callee_count s.program n) (λ l. absurd (let y : ⊥ = omega (arith, some_from s.program (well_formed _ s h) n i b c l) in y)) (λ l. l)

  -- The procedure q that `callee` answers is the callee i: its entry, its exit and its name.
  module _ (q : ℕ) (eq : q ≡ k % 256 - 1) where
    pub callee_is : q ≡ called s.program n i
    callee_is = eq ∙ ap (λ (x : ℕ). x % 256 - 1) e ∙ first_callee s.program (sound _ s h).few_procs n i (sound _ s h).name_forms

    pub its_entry : get_or links (proc_base q + 5) 0 ≡ entry s.program (called s.program n i)
    its_entry = ap (λ (x : ℕ). get_or links (proc_base x + 5) 0) callee_is ∙ entry_is _ s h _ (called_below s.program (well_formed _ s h) n i)

    pub its_exit : get_or links (proc_base q + 6) 0 ≡ exit s.program (called s.program n i)
    its_exit = ap (λ (x : ℕ). get_or links (proc_base x + 6) 0) callee_is ∙ exit_is _ s h _ (called_below s.program (well_formed _ s h) n i)

    pub its_name : n < node_count s.program → kind_at s.program n ≡ C → i < callee_count s.program n → part_at t links (proc_base q) ≡ callee_name s.program n i
    its_name b c l =
        ap (λ (x : ℕ). part_at t links (proc_base x)) callee_is ∙ name_is _ s h _ (called_below s.program (well_formed _ s h) n i) ∙ called_name s.program (well_formed _ s h) n i b c l

-- ---- of an old and a new node

-- The number k has the callees of the old node n from i on as digits, and l those of the new node m; n is a call.
pub record CalleesAt (o p : Listing) (n m i k l : ℕ) : Type 0 where
  pub old_node : n < node_count o.program
  pub call : kind_at o.program n ≡ C
  pub within : i ≤ callee_count o.program n
  pub old_from : k ≡ callees_from o.program n i
  pub new_from : l ≡ callees_from p.program m i

module _ {ot on ol nt nn nl : List ℕ} {o p : Listing} (h : InMemory (memory ot on ol) o) (g : InMemory (memory nt nn nl) p) {n m i k l : ℕ} (c : CalleesAt o p n m i k l) where
  pub at_here : 0 < k → i < callee_count o.program n
  at_here pos = callee_there ot on ol o h n i k c.old_from pos

  pub at_next : 0 < k → CalleesAt o p n m (suc i) (k / 256) (l / 256)
  at_next pos =
      record {
        old_node = c.old_node;
        call = c.call;
        within = at_here pos;
        old_from = callees_on ot on ol o h n i k c.old_from;
        new_from = callees_on nt nn nl p g m i l c.new_from;
      }

  pub at_end : k ≤ 0 → i ≡ callee_count o.program n
  at_end z = omega (arith, callees_end ot on ol o h n i k c.old_from c.old_node c.call z, c.within)

  -- Whether the table holds the entries, and the exits, of the callees i.
  module _ (w : List ℕ) (count q q' : ℕ) (t : Bool) (st : Store w count) (eq : q ≡ k % 256 - 1) (eq' : q' ≡ l % 256 - 1) where
    pub entries_told : Has w (get_or ol (proc_base q + 5) 0) (get_or nl (proc_base q' + 5) 0) t
        → t ≡ listed (pairs_in w count) (entry o.program (called o.program n i)) (entry p.program (called p.program m i))
    unfolding Has
    entries_told has = has count st ∙ ap₂ (listed (pairs_in w count)) (its_entry ot on ol o h n i k c.old_from q eq) (its_entry nt nn nl p g m i l c.new_from q' eq')

    pub exits_told : Has w (get_or ol (proc_base q + 6) 0) (get_or nl (proc_base q' + 6) 0) t
        → t ≡ listed (pairs_in w count) (exit o.program (called o.program n i)) (exit p.program (called p.program m i))
    unfolding Has
    exits_told has = has count st ∙ ap₂ (listed (pairs_in w count)) (its_exit ot on ol o h n i k c.old_from q eq) (its_exit nt nn nl p g m i l c.new_from q' eq')
