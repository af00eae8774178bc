-- The turns and the returns of the functions that find where the runs may part: the premises are what the code holds there.
use mathlib.Core.Path.{◌≡◌, refl, sym, ap, ◌∙◌}
use mathlib.Core.Bool.{Bool, true, false}
use mathlib.Core.List.{List}
use Prim.Native.Nat.{ℕ, suc, ◌+◌, ◌≤◌, ◌<◌}
use native.Mathlib.Numerals.{add-one}
use native.Mathlib.Omega.{arith}
use lib.Dec.{eqb, ltb}
use lib.ListN.{get_or, length}
use borrow.Author.Tests.{ltb-true}
use Rattle.laws.specs.Tests.{◌and◌, ◌or◌, any, listed}
use Rattle.laws.specs.TestLaws.{and_left, and_right, both_ways, fails, or_assoc, or_none, or_swap}
use Rattle.laws.specs.Fold.{Adding}
use Rattle.laws.specs.Bits.{bit_in}
use Rattle.laws.specs.BitSets.{bit_with, with_size, with_bit}
use Rattle.laws.specs.Those.{any_more}
use Rattle.rules.specs.Graph.{edge_count, source_at}
use Rattle.rules.specs.ProgramFile.{Listing}
use Rattle.rules.proofs.Closure.{dangers_iff, parted_danger}
use Rattle.graph.specs.Table.{edge_base}
use Rattle.pairset.specs.Store.{last_pair, new_at, pair_before, pairs_in}
use Rattle.pairset.specs.StoreLaws.{before_le}
use Rattle.versions.specs.MemoryLaws.{sound, well_formed}
use Rattle.selection.specs.Compared.{Compared, Joins, JoinsBefore, met_parted}
use Rattle.selection.proofs.Dangers.{source_of}
use Rattle.selection.proofs.Hits.{EdgesLeft, PairsLeft, edges_end, edges_on, edges_start, joins_le, owner_at, pair_at, pairs_end, pairs_on, pairs_start}
use Rattle.probes.specs.Starts.{AddsAll, AddsAt, AddsParted, AddsStart, AllStart, Parts, PartsAt, Starts, parts_to}

pub adding : Adding ◌or◌
adding = record { none = λ b. or_none b refl; more = λ a b d. sym (or_assoc a b d) }

-- ---- `part_at`

-- With the set, the edges below the place lead to the one at the end.
unfoldable pub AddsFrom : List ℕ → List ℕ → List ℕ → List ℕ → List ℕ → ℕ → ℕ → ℕ → List ℕ → List ℕ → ℕ → Type 0
AddsFrom on ol nn nl w e n m set set' place =
    (o p : Listing) (c : ℕ) (h : Compared on ol nn nl w c o p) → e < edge_count o.program → n ≡ source_at o.program e → listed (pairs_in w c) n m ≡ true → 16 ≤ length set
    → (x : ℕ) → EdgesLeft h e false ◌or◌ adding x m (bit_in set x) (bit_in set' x) place

pub record PartsFrom (on ol nn nl w : List ℕ) (e n m : ℕ) (set set' : List ℕ) (place : ℕ) : Type 0 where
  pub from : AddsFrom on ol nn nl w e n m set set' place
  pub size : length set' ≡ length set

module _ (on ol nn nl w : List ℕ) (e n m : ℕ) (set : List ℕ) where
  pub at_start : (place : ℕ) → Joins on ol nn nl w e n m false place → PartsFrom on ol nn nl w e n m set set place
  unfolding AddsFrom Joins
  at_start place j = record { from = λ o p c h i en l room x. edges_start h e false ◌or◌ adding x m _ place (j o p c h i en l); size = refl }

  pub at_end : (set₁ : List ℕ) → PartsFrom on ol nn nl w e n m set set₁ 0 → PartsAt on ol nn nl w e n m set set₁
  unfolding AddsFrom AddsAt
  at_end set₁ inv = record { adds = λ o p c h i en l room x. edges_end h e false ◌or◌ adding x m _ _ (inv.from o p c h i en l room x); size = inv.size }

  pub at_on : (set₁ : List ℕ) (f next : ℕ) (set₂ : List ℕ) → PartsFrom on ol nn nl w e n m set set₁ (suc f) → set₂ ≡ with_bit set₁ f → JoinsBefore ol nl w e f false next
      → PartsFrom on ol nn nl w e n m set set₂ next
  unfolding AddsFrom
  at_on set₁ f next set₂ inv er j =
      record {
        from = λ o p c h i en l room x.
            let r = inv.from o p c h i en l room x in
            edges_on h e false ◌or◌ adding x m _ _ _ f next r i (rw (← en) l)
            (ap (λ (v : List ℕ). bit_in v x) er ∙ bit_with set₁ f x (omega (arith, r.within, (sound _ p h.new_in).few_edges, inv.size)) ∙ or_swap (eqb f x) (bit_in set₁ x)) j;
        size = ap length er ∙ with_size set₁ f ∙ inv.size;
      }

-- ---- `part`

-- With the set, the pairs below the place lead to the one at the end.
unfoldable pub AddsTo : List ℕ → List ℕ → List ℕ → List ℕ → List ℕ → ℕ → ℕ → List ℕ → List ℕ → ℕ → Type 0
AddsTo on ol nn nl w e n set set' place =
    (o p : Listing) (c : ℕ) (h : Compared on ol nn nl w c o p) → e < edge_count o.program → 16 ≤ length set
    → (n ≡ source_at o.program e) × ((x : ℕ) → PairsLeft h e false ◌or◌ adding x (bit_in set x) (bit_in set' x) place)

pub record PartsTo (on ol nn nl w : List ℕ) (e n : ℕ) (set set' : List ℕ) (place : ℕ) : Type 0 where
  pub to : AddsTo on ol nn nl w e n set set' place
  pub size : length set' ≡ length set

pub part_start : (on ol nn nl w : List ℕ) (e n place : ℕ) (set : List ℕ) → n ≡ get_or ol (edge_base e) 0 → place ≡ last_pair w n → PartsTo on ol nn nl w e n set set place
unfolding AddsTo
part_start on ol nn nl w e n place set en ep =
    record {
      to = λ o p c h i room. let s : n ≡ source_at o.program e = source_of e n h i en in (s, λ x. pairs_start h e false ◌or◌ adding x _ n place s ep);
      size = refl;
    }

module _ (on ol nn nl w : List ℕ) (e n : ℕ) (set set₁ : List ℕ) where
  pub part_end : PartsTo on ol nn nl w e n set set₁ 0 → Parts on ol nn nl w e set set₁
  unfolding AddsTo AddsParted
  part_end inv =
      record {
        adds = λ o p c h i room x.
            pairs_end h e false ◌or◌ adding x _ _ ((inv.to o p c h i room).1 x)
            ∙ ap (λ (t : Bool). bit_in set x or (ltb x (edge_count p.program) and t)) (met_parted o.program p.program _ e x);
        size = inv.size;
      }

  pub part_on : (k m next : ℕ) (set₂ : List ℕ) → PartsTo on ol nn nl w e n set set₁ (suc k) → m ≡ new_at w k → PartsAt on ol nn nl w e n m set₁ set₂ → next ≡ pair_before w k
      → PartsTo on ol nn nl w e n set set₂ next
  unfolding AddsTo AddsAt
  part_on k m next set₂ inv em a en =
      record {
        to = λ o p c h i room.
            let r = inv.to o p c h i room in (
              r.0,
              λ x.
                  let y = r.1 x in
                  let there = pair_at h n m k (omega (arith, y.within)) (r.0 ∙ sym (owner_at k y)) em in
                  pairs_on h e false ◌or◌ adding x _ _ _ k m next y em (a.adds o p c h i r.0 there (omega (arith, inv.size)) x) en,
            );
        size = a.size ∙ inv.size;
      }

-- ---- `start`, `start_all`

module _ (on ol nn nl w dangers : List ℕ) (e : ℕ) (set : List ℕ) (t : Bool) (et : t ≡ bit_in dangers e) where
  pub start_on : (set' : List ℕ) → t ≡ true → Parts on ol nn nl w e set set' → Starts on ol nn nl w dangers e set set'
  unfolding AddsStart AddsParted
  start_on set' y a = record { adds = λ o p c h s i room x. a.adds o p c h i room x; size = a.size }

  pub start_past : t ≡ false → Starts on ol nn nl w dangers e set set
  unfolding AddsStart
  start_past y =
      record {
        adds = λ o p c h s i room x.
            let wo = well_formed _ o h.old_in in
            let wn = well_formed _ p h.new_in in
            sym (or_none (bit_in set x) (fails _ (λ u.
            both_ways ((dangers_iff o.program p.program wo wn e).1 (parted_danger o.program p.program wo wn e x i (ltb-true _ _ (and_left _ _ u)) (and_right _ _ u)).0)
            (sym (s.bits e (omega (arith, (sound _ o h.old_in).few_edges))) ∙ sym et ∙ y))));
        size = refl;
      }

module _ (on ol nn nl w dangers : List ℕ) (edges : ℕ) (set : List ℕ) where
  pub all_none : AllStart on ol nn nl w dangers edges 0 set set
  unfolding AddsAll any
  all_none = record { adds = λ o p c h s q room x. sym (or_none (bit_in set x) refl); size = refl }

  module _ (e : ℕ) (set₁ : List ℕ) (inv : AllStart on ol nn nl w dangers edges e set set₁) where
    pub all_on : (set₂ : List ℕ) → e < edges → Starts on ol nn nl w dangers e set₁ set₂ → AllStart on ol nn nl w dangers edges (e + 1) set set₂
    unfolding AddsAll AddsStart
    all_on set₂ l a =
        record {
          adds = λ o p c h s q room x.
              let T : ℕ → Bool = parts_to o.program p.program x in
              a.adds o p c h s (omega arith) (omega (arith, inv.size)) x ∙ ap (λ (b : Bool). b or T e) (inv.adds o p c h s q room x)
              ∙ sym (or_assoc (bit_in set x) (any e T) (T e))
              ∙ sym (ap (λ (k : ℕ). bit_in set x or any k T) (add-one e) ∙ ap (λ (b : Bool). bit_in set x or b) (any_more T e));
          size = a.size ∙ inv.size;
        }

    pub all_end : e ≤ edges → edges ≤ e → AllStart on ol nn nl w dangers edges edges set set₁
    all_end a b = let q : e ≡ edges = omega arith in rw q at inv

pub ruleset starts = (before_le, joins_le, at_start, at_end, at_on, part_start, part_end, part_on, start_on, start_past, all_none, all_on, all_end)
