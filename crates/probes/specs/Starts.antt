-- What the functions leave that find the new edges at which a new run may part from the old one. Each claim is for tables that hold two programs, their pairs and their dangerous edges; the
-- sets for others are left open, their length excepted.
use Rattle.std.specs.Prelude.{◌≡◌, Bool, false, true, List, ℕ, ◌≤◌, ◌<◌, ltb, length}
use Rattle.laws.specs.Tests.{◌and◌, ◌or◌, any, listed}
use Rattle.laws.specs.Bits.{bit_in}
use Rattle.rules.specs.Graph.{Program, edge_count, source_at}
use Rattle.rules.specs.Closing.{pairs, parted}
use Rattle.rules.specs.ProgramFile.{Listing}
use Rattle.pairset.specs.Store.{pairs_in}
use Rattle.selection.specs.Compared.{Compared, hit_at}
use Rattle.selection.specs.Dangers.{DangerSet}

-- The new edge x parts from the old edge e at some pair.
abbrev pub parts_to : Program → Program → ℕ → ℕ → Bool
parts_to old new x e = ltb x (edge_count new) and parted old new (pairs old new) e x

-- `part_at`: the edges of the new node m that part from the old edge e are added.
unfoldable pub AddsAt : List ℕ → List ℕ → List ℕ → List ℕ → List ℕ → ℕ → ℕ → ℕ → List ℕ → List ℕ → Type 0
AddsAt on ol nn nl w e n m set set' =
    (o p : Listing) (c : ℕ) → Compared on ol nn nl w c o p → e < edge_count o.program → n ≡ source_at o.program e → listed (pairs_in w c) n m ≡ true → 16 ≤ length set
    → (x : ℕ) → bit_in set' x ≡ (bit_in set x or hit_at o.program p.program (pairs_in w c) false e m x)

pub record PartsAt (on ol nn nl w : List ℕ) (e n m : ℕ) (set set' : List ℕ) : Type 0 where
  pub adds : AddsAt on ol nn nl w e n m set set'
  pub size : length set' ≡ length set

-- `part`: the new edges that part from the old edge e are added.
unfoldable pub AddsParted : List ℕ → List ℕ → List ℕ → List ℕ → List ℕ → ℕ → List ℕ → List ℕ → Type 0
AddsParted on ol nn nl w e set set' =
    (o p : Listing) (c : ℕ) → Compared on ol nn nl w c o p → e < edge_count o.program → 16 ≤ length set → (x : ℕ) → bit_in set' x ≡ (bit_in set x or parts_to o.program p.program x e)

pub record Parts (on ol nn nl w : List ℕ) (e : ℕ) (set set' : List ℕ) : Type 0 where
  pub adds : AddsParted on ol nn nl w e set set'
  pub size : length set' ≡ length set

-- `start`: the same; an edge that is not dangerous has none.
unfoldable pub AddsStart : List ℕ → List ℕ → List ℕ → List ℕ → List ℕ → List ℕ → ℕ → List ℕ → List ℕ → Type 0
AddsStart on ol nn nl w dangers e set set' =
    (o p : Listing) (c : ℕ) → Compared on ol nn nl w c o p → DangerSet o.program p.program dangers → e < edge_count o.program → 16 ≤ length set
    → (x : ℕ) → bit_in set' x ≡ (bit_in set x or parts_to o.program p.program x e)

pub record Starts (on ol nn nl w dangers : List ℕ) (e : ℕ) (set set' : List ℕ) : Type 0 where
  pub adds : AddsStart on ol nn nl w dangers e set set'
  pub size : length set' ≡ length set

-- `start_all`: those that part from one of the first k old edges are added.
unfoldable pub AddsAll : List ℕ → List ℕ → List ℕ → List ℕ → List ℕ → List ℕ → ℕ → ℕ → List ℕ → List ℕ → Type 0
AddsAll on ol nn nl w dangers edges k set set' =
    (o p : Listing) (c : ℕ) → Compared on ol nn nl w c o p → DangerSet o.program p.program dangers → edges ≡ edge_count o.program → 16 ≤ length set
    → (x : ℕ) → bit_in set' x ≡ (bit_in set x or any k (parts_to o.program p.program x))

pub record AllStart (on ol nn nl w dangers : List ℕ) (edges k : ℕ) (set set' : List ℕ) : Type 0 where
  pub adds : AddsAll on ol nn nl w dangers edges k set set'
  pub size : length set' ≡ length set
