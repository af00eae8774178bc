-- How a table holds coverage: 16 words of 64 bits a test, its row. What the functions answer of it.
use Rattle.std.specs.Prelude.{◌≡◌, Bool, true, false, List, ℕ, ◌+◌, ◌*◌, ◌/◌, ◌%◌, ◌≤◌, ◌<◌, get_or, take, drop, Option as CodeOption, Some, None}
use Rattle.std.proofs.Math.Option.{Option, none, some}
use Rattle.laws.specs.Tests.{◌and◌, after, count, first}
use Rattle.laws.specs.Bits.{bit_at, bit_in, words_of}
use Rattle.rules.specs.Closing.{Coverage, holds}

-- The bit of the edge e in the row of the test i: bit e mod 64 of word 16 i + e / 64, lowest bit first.
unfoldable pub edge_bit : List ℕ → ℕ → ℕ → Bool
edge_bit rows i e = bit_at (get_or rows (16 * i + e / 64) 0) (e % 64)

-- The row of the test i holds the coverage of m edges, and its other bits are 0; so its 16 words are those of the coverage.
pub record Row (m : ℕ) (rows : List ℕ) (i : ℕ) (coverage : Coverage) : Type 0 where
  pub edges : (e : ℕ) → e < m → edge_bit rows i e ≡ holds coverage e
  pub spare : (e : ℕ) → m ≤ e → e < 1024 → edge_bit rows i e ≡ false
  pub words : (k : ℕ) → k < 16 → get_or rows (16 * i + k) 0 ≡ get_or (words_of 16 coverage) k 0

-- ---- what the functions answer

-- `ones`: how many bits of the row of the test i are 1.
unfoldable pub row_ones : List ℕ → ℕ → ℕ
row_ones rows i = count 1024 (edge_bit rows i)

-- The words of the row of the test i, as far as the table has them.
abbrev pub row_words : List ℕ → ℕ → List ℕ
row_words rows i = take 16 (drop (16 * i) rows)

-- An answer of a search: the edge that it found, or none.
abbrev pub edge_found : CodeOption ℕ → Option ℕ
edge_found (Some e) = some e
edge_found None = none

-- `first_danger`: the lowest of the 1,024 edges that a row and a set both have, or none.
unfoldable pub first_common : List ℕ → List ℕ → Option ℕ
first_common row set = first 1024 (λ e. bit_in row e and bit_in set e)

-- `row_meets`: one is found in the row of the test i.
unfoldable pub row_meets : List ℕ → List ℕ → ℕ → Bool
row_meets rows set i = after (first_common (row_words rows i) set) false (λ e. true)
