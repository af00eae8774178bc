-- What is written of a table of pairs, of a set of edges and of the tables of the tests.
use Rattle.std.specs.Prelude.{List, [], ◌∷◌, map, ℕ, take}
use Rattle.laws.specs.Tests.{grid, grid_row, listed, pick, those}
use Rattle.laws.specs.Bits.{bit_in}
use Rattle.rules.specs.Text.{Bytes, commas, decimal, text_of}
use Rattle.rules.specs.Sheet.{m_text, r_text}
use Rattle.pairset.specs.Store.{pairs_in}
use Rattle.coverage.specs.Rows.{row_meets}
use Rattle.suite.specs.Reading.{name_at}

-- The M lines of pairs.
unfoldable pub pair_text : List (ℕ × ℕ) → Bytes
pair_text M = text_of (map (λ x. m_text x.0 x.1) M)

-- The M lines of the old node a, with the new nodes below n that the table pairs with it, where it holds c pairs; of all old nodes below a, with the new nodes below n.
unfoldable pub partners_text : List ℕ → ℕ → ℕ → ℕ → Bytes
partners_text w c a n = pair_text (pick (listed (pairs_in w c)) (grid_row a n))

unfoldable pub table_text : List ℕ → ℕ → ℕ → ℕ → Bytes
table_text w c a n = pair_text (pick (listed (pairs_in w c)) (grid a n))

-- The line of an edge, by its first byte: a D line has 68, a Q line 81.
unfoldable pub edge_line : ℕ → ℕ → Bytes
edge_line b e = commas ((b ∷ []) ∷ decimal e ∷ [])

-- The lines of the edges below n that the set has.
unfoldable pub edge_text : ℕ → List ℕ → ℕ → Bytes
edge_text b set n = text_of (map (edge_line b) (those n (bit_in set)))

-- The name that the tables give for the test i, cut to the 12 bytes that a name has at most.
unfoldable pub short_name : Bytes → List ℕ → ℕ → Bytes
short_name text tests i = take 12 (name_at text tests i)

-- The R lines of the tests below n whose rows have an edge of the set.
unfoldable pub repeat_text : Bytes → List ℕ → List ℕ → List ℕ → ℕ → Bytes
repeat_text text tests rows set n = text_of (map (λ i. r_text (short_name text tests i)) (those n (row_meets rows set)))
