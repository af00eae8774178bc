-- What a table says of the coverage that it holds: the edges that a test covers, counted, and searched for one of a list.
use Rattle.std.specs.Prelude.{◌≡◌, refl, ◌↔◌, true, List, Option as CodeOption, Some, None}
use Rattle.std.proofs.Common.{sym, ◌∙◌, true≢false, arith}
use Rattle.std.proofs.Math.Path.{ap, ap₂}
use Rattle.std.proofs.Math.Bool.{Bool, false}
use Rattle.std.proofs.Math.Option.{Option, none, some}
use Prim.Native.Nat.{ℕ, ◌+◌, ◌-◌, ◌*◌, ◌/◌, ◌%◌, ◌≤◌, ◌<◌}
use Rattle.laws.specs.Tests.{◌and◌, after, count, first, has}
use Rattle.laws.specs.Lists.{count_agree}
use Rattle.laws.specs.Counting.{first_agree}
use Rattle.laws.specs.Slices.{get_d_part}
use Rattle.laws.specs.Bits.{bit_at, bit_in, count_within, first_within}
use Rattle.rules.specs.Closing.{Coverage, first_danger, holds, meets}
use Rattle.rules.proofs.Search.{search_meets}
use Rattle.coverage.specs.Rows.{Row, edge_bit, edge_found, first_common, row_meets, row_ones, row_words}

-- An answer of a search by its case: it is at an edge exactly if that edge is found, and nothing exactly if none is.
pub some_is : (f : CodeOption ℕ) (e : ℕ) → (f ≡ Some e) ↔ (edge_found f ≡ some e)
some_is (Some x) e = (λ p. ap edge_found p, λ q. let t : x ≡ e = cc in ap Some t)
some_is None e = (λ p. ap edge_found p, λ q. absurd (true≢false (let z : true ≡ false = cc in z)))

pub none_is : (f : CodeOption ℕ) → (f ≡ None) ↔ (edge_found f ≡ none)
none_is (Some x) = (λ p. ap edge_found p, λ q. absurd (true≢false (let z : true ≡ false = cc in z)))
none_is None = (λ p. refl, λ q. refl)

-- The bit of an edge among the words of a row.
row_bit : (rows : List ℕ) (i e : ℕ) → e < 1024 → bit_in (row_words rows i) e ≡ edge_bit rows i e
unfolding bit_in edge_bit
row_bit rows i e h = ap (λ (w : ℕ). bit_at w (e % 64)) (get_d_part rows (16 * i) 16 (e / 64) 0 (omega arith))

module _ (m : ℕ) (rows : List ℕ) (i : ℕ) (coverage : Coverage) (few : m ≤ 1024) (row : Row m rows i coverage) where
  all : m + (1024 - m) ≡ 1024
  all = omega arith

  -- The ones are the edges that the coverage holds.
  pub ones_are : row_ones rows i ≡ count m (holds coverage)
  unfolding row_ones
  ones_are =
      ap (λ (n : ℕ). count n (edge_bit rows i)) (sym all)
      ∙ count_within (edge_bit rows i) m (1024 - m) (λ e a b. row.spare e a (omega arith))
      ∙ count_agree (edge_bit rows i) (holds coverage) m row.edges

  module _ (set D : List ℕ) (is : (e : ℕ) → e < m → bit_in set e ≡ has D e) where
    -- What is found is the lowest edge of the list that the coverage holds, where the set has the edges of the list.
    pub first_is : first_common (row_words rows i) set ≡ first_danger m D coverage
    unfolding first_common first_danger ◌and◌
    first_is =
        let f : ℕ → Bool = λ e. bit_in (row_words rows i) e and bit_in set e in
        ap (λ (n : ℕ). first n f) (sym all)
        ∙ first_within f m (1024 - m) (λ e a b. ap (λ (t : Bool). t and bit_in set e) (row_bit rows i e (omega arith) ∙ row.spare e a (omega arith)))
        ∙ first_agree f (λ e. holds coverage e and has D e) m (λ e h. ap₂ (λ (t u : Bool). t and u) (row_bit rows i e (omega arith) ∙ row.edges e h) (is e h))

    -- One is found exactly if the coverage holds an edge of the list.
    pub meets_are : ((e : ℕ) → has D e ≡ true → e < m) → row_meets rows set i ≡ meets D coverage
    unfolding row_meets
    meets_are inside = ap (λ (o : Option ℕ). after o false (λ e. true)) first_is ∙ search_meets D coverage m inside
