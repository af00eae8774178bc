-- A set of pairs of nodes and a set of old edges in one table: 512 heads, one for each old node; then 512 rows of 8 words of 64 bits, whose bits say which new
-- nodes are paired with the old node; then 16 words, whose bits say which old edges were found dangerous; then three numbers a pair: the old node, the new node,
-- and 1 + the pair before it of the same old node, or 0. How many pairs there are stands outside the table.
use Rattle.std.specs.Prelude.{◌≡◌, Bool, false, List, [], ◌∷◌, ◌++◌, ℕ, zero, suc, ◌+◌, ◌*◌, ◌≤◌, ◌<◌, eqb, ltb, leb, length, get_or}
use Rattle.laws.specs.Tests.{◌and◌, ◌or◌, choose, first, found, listed}
use Rattle.laws.specs.Bits.{bit_at, bit_in}
use Rattle.laws.specs.Chain.{Chained}

-- Where the pairs begin.
abbrev pub pair_base : ℕ
pair_base = 4624

-- The bit of (a, b): bit b of the row of a, whose words begin at 512 + 8 a, the lowest bit of a word first.
abbrev pub pair_bit : ℕ → ℕ → ℕ
pair_bit a b = 64 * (512 + 8 * a) + b

-- The bit of the old edge e among the dangerous edges; whether it is set, for the 1,024 edges that have one.
abbrev pub danger_bit : ℕ → ℕ
danger_bit e = 64 * 4608 + e

unfoldable pub danger_in : List ℕ → ℕ → Bool
danger_in w e = ltb e 1024 and bit_in w (danger_bit e)

-- The word k of the 16 words of these bits.
abbrev pub danger_word : List ℕ → ℕ → ℕ
danger_word w k = get_or w (4608 + k) 0

-- The head of the old node a; the two nodes and the link of the pair k.
abbrev pub head_at : List ℕ → ℕ → ℕ
head_at w a = get_or w a 0

abbrev pub old_at : List ℕ → ℕ → ℕ
old_at w k = get_or w (pair_base + 3 * k) 0

abbrev pub new_at : List ℕ → ℕ → ℕ
new_at w k = get_or w (pair_base + 1 + 3 * k) 0

abbrev pub link_at : List ℕ → ℕ → ℕ
link_at w k = get_or w (pair_base + 2 + 3 * k) 0

-- The first c pairs, in the order in which they were added.
unfoldable pub pairs_in : List ℕ → ℕ → List (ℕ × ℕ)
pairs_in w zero = []
pairs_in w (suc c) = pairs_in w c ++ ((old_at w c, new_at w c) ∷ [])

-- The table holds c pairs: there is room for them, their nodes have heads and bits, the heads and links are the chains of their old nodes, and the bits are
-- set that are of a pair.
pub record Store (w : List ℕ) (c : ℕ) : Type 0 where
  pub room : pair_base + 3 * c ≤ length w
  pub inside : (k : ℕ) → k < c → old_at w k < 512
  pub new_inside : (k : ℕ) → k < c → new_at w k < 512
  pub chains : Chained (old_at w) 512 c (head_at w) (link_at w)
  pub bits : (a b : ℕ) → a < 512 → b < 512 → bit_in w (pair_bit a b) ≡ listed (pairs_in w c) a b

-- 1 + the latest pair of the old node a, or 0; 1 + the pair before the pair k of the same old node, or 0, and 0 too where the link leads past k.
unfoldable pub last_pair : List ℕ → ℕ → ℕ
last_pair w a = choose (ltb a 512) (head_at w a) 0

unfoldable pub pair_before : List ℕ → ℕ → ℕ
pair_before w k = choose (leb (link_at w k) k) (link_at w k) 0

-- `has`: whether (a, b) is one of the pairs, however many there are.
unfoldable pub Has : List ℕ → ℕ → ℕ → Bool → Type 0
Has w a b r = (c : ℕ) → Store w c → r ≡ listed (pairs_in w c) a b

-- `empty`: no pairs and no dangerous edges, where there is room for them; the table stays as long as it was.
unfoldable pub Empties : List ℕ → List ℕ → Type 0
Empties w v = pair_base ≤ length w → Store v 0 × ((e : ℕ) → danger_in v e ≡ false)

pub record Emptied (w v : List ℕ) : Type 0 where
  pub empties : Empties w v
  pub size : length v ≡ length w

-- `append`: one pair more, where there is room for it, and the dangerous edges stay; the table stays as long as it was.
unfoldable pub Appends : List ℕ → ℕ → ℕ → ℕ → List ℕ → Type 0
Appends w c a b v =
    Store w c → a < 512 → b < 512 → pair_base + 3 * (c + 1) ≤ length w
    → Store v (c + 1) × (pairs_in v (c + 1) ≡ pairs_in w c ++ ((a, b) ∷ [])) × ((e : ℕ) → danger_in v e ≡ danger_in w e)

pub record Appended (w : List ℕ) (c a b : ℕ) (v : List ℕ) : Type 0 where
  pub appends : Appends w c a b v
  pub size : length v ≡ length w

-- `mark_danger`: the old edge e is one of the dangerous edges, and the others and the pairs stay; the table stays as long as it was.
unfoldable pub MarksDanger : List ℕ → ℕ → List ℕ → Type 0
MarksDanger w e v =
    (c : ℕ) → Store w c → e < 1024
    → Store v c × ((k : ℕ) → (old_at v k ≡ old_at w k) × (new_at v k ≡ new_at w k)) × ((i : ℕ) → danger_in v i ≡ (eqb e i or danger_in w i))

pub record DangerMarked (w : List ℕ) (e : ℕ) (v : List ℕ) : Type 0 where
  pub marks : MarksDanger w e v
  pub size : length v ≡ length w

-- `next_partner`: 1 + the lowest new node from `from` on that is paired with a, or 0, where the new nodes are below n.
unfoldable pub NextPartner : List ℕ → ℕ → ℕ → ℕ → Type 0
NextPartner w a from r =
    (c n : ℕ) → Store w c → n ≤ 512 → ((k : ℕ) → k < c → new_at w k < n) → r ≡ found (first n (λ b. leb from b and listed (pairs_in w c) a b))

-- `row_from`: the word k of the row of a, with the bits from `from` on only.
unfoldable pub RowFrom : List ℕ → ℕ → ℕ → ℕ → ℕ → Type 0
RowFrom w a k from r = (j : ℕ) → j < 64 → bit_at r j ≡ (leb from (64 * k + j) and bit_in w (pair_bit a (64 * k + j)))
