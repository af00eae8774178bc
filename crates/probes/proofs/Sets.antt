-- What the sets hold at the end.
use mathlib.Core.Path.{◌≡◌, sym, ap, ◌∙◌}
use mathlib.Core.Bool.{Bool, false}
use mathlib.Core.List.{List}
use Prim.Native.Nat.{ℕ, ◌+◌, ◌/◌, ◌%◌, ◌<◌}
use native.Mathlib.Omega.{arith}
use lib.ListN.{get_or, length}
use lib.Seq.{sets, length-sets}
use borrow.Author.Tests.{le-ltb, lt-ltb}
use Rattle.laws.specs.Tests.{◌or◌, any, has}
use Rattle.laws.specs.TestLaws.{and_left, any_at, both_ways, fails, yes_and}
use Rattle.laws.specs.Slices.{get_d_sets_in}
use Rattle.laws.specs.Counting.{any_agree}
use Rattle.laws.specs.Bits.{bit_at, bit_in}
use Rattle.laws.specs.Those.{those_has}
use Rattle.laws.specs.Reach.{reached_agree}
use Rattle.rules.specs.Graph.{Program, edge_count}
use Rattle.rules.specs.After.{edges_after, leads}
use Rattle.rules.specs.Closing.{after_dangers, dangerous, dangers, pairs, parted, parting, probes}
use Rattle.rules.proofs.Closure.{dangers_inside}
use Rattle.versions.specs.MemoryLaws.{sound}
use Rattle.after.specs.Claims.{Spread, Spreads}
use Rattle.probes.specs.Starts.{AddsAll, AllStart, parts_to}
use Rattle.probes.specs.Sets.{AfterFound, FindsAfter, FindsProbes, OpenFound, ProbesFound}

after_agree : (p : Program) (f g : ℕ → Bool) → ((e : ℕ) → e < edge_count p → f e ≡ g e) → edges_after p f ≡ edges_after p g
unfolding edges_after
after_agree p f g h = reached_agree (edge_count p) (leads p) f g h

-- ---- `find_probes`

pub probes_found : (on ol nn nl w dangers : List ℕ) (edges nodes : ℕ) (set set₁ set₂ : List ℕ) → AllStart on ol nn nl w dangers edges edges set set₁ → Spread nn nl nodes set₁ set₂
    → ProbesFound on ol nn nl w dangers edges nodes set set₂
unfolding FindsProbes AddsAll Spreads probes parting ◌or◌
probes_found on ol nn nl w dangers edges nodes set set₁ set₂ a b =
    record {
      finds = λ o p c h s eo en room none.
          let old : Program = o.program in
          let new : Program = p.program in
          let at : (x : ℕ) → bit_in set₁ x ≡ any (edge_count old) (parts_to old new x)
          = λ x. a.adds o p c h s eo room x ∙ ap (λ (t : Bool). t or any edges (parts_to old new x)) (none x) ∙ ap (λ (k : ℕ). any k (parts_to old new x)) eo in
          let here : (x : ℕ) → x < edge_count new → bit_in set₁ x ≡ any (edge_count old) (λ e. parted old new (pairs old new) e x)
          = λ x l. at x ∙ any_agree _ _ (edge_count old) (λ e _. yes_and _ (lt-ltb x (edge_count new) l)) in
          λ e l.
          b.spreads h.new_text p h.new_in en (omega (arith, a.size))
          (λ x _ m. at x ∙ fails _ (λ t. let u = any_at (parts_to old new x) (edge_count old) t in both_ways (and_left _ _ u.2) (le-ltb x (edge_count new) m)))
          e l
          ∙ ap (λ (q : List ℕ). has q e) (after_agree new _ _ here);
      size = b.size ∙ a.size;
    }

-- ---- `find_after`

pub after_found : (on ol dangers : List ℕ) (nodes : ℕ) (set set₁ set₂ : List ℕ) → set₁ ≡ sets set 0 dangers → Spread on ol nodes set₁ set₂ → AfterFound on ol dangers nodes set set₂
unfolding FindsAfter Spreads after_dangers dangers bit_in
after_found on ol words nodes set set₁ set₂ e b =
    let long : length set₁ ≡ length set = ap length e ∙ length-sets set 0 words in
    record {
      finds = λ t o p h s en many room.
          let old : Program = o.program in
          let new : Program = p.program in
          let copied : (x : ℕ) → x < 1024 → bit_in set₁ x ≡ has (dangers old new) x
          = λ x l.
          let q : 0 + x / 64 ≡ x / 64 = omega arith in
          ap (λ (m : List ℕ). bit_at (get_or m (x / 64) 0) (x % 64)) e
          ∙ ap (λ (n : ℕ). bit_at n (x % 64)) (ap (λ (k : ℕ). get_or (sets set 0 words) k 0) (sym q) ∙ get_d_sets_in words set 0 (x / 64) 0 (omega arith) (omega arith)) ∙ s.bits x l in
          λ x l.
          b.spreads t o h en (omega arith)
          (λ y m k. copied y m ∙ fails _ (λ u. let z : ⊥ = omega (arith, dangers_inside old new y u) in z))
          x l
          ∙ ap (λ (q : List ℕ). has q x) (after_agree old _ _ (λ y k.
          copied y (omega (arith, (sound _ o h).few_edges))
          ∙ those_has (dangerous old new (pairs old new)) (edge_count old) y k));
      size = b.size ∙ long;
    }

-- ---- `find_open`

pub open_found : (again : Bool) (P A : Type 0) → P → A → OpenFound again P A
open_found again P A p a = record { probed = λ e. p; after = λ e. a }

pub open_none : (again : Bool) (P A : Type 0) → again ≡ false → OpenFound again P A
open_none again P A n = record { probed = λ e. absurd (both_ways e n); after = λ e. absurd (both_ways e n) }

pub ruleset found = (probes_found, after_found, open_found, open_none)
