-- What the writers claim of a table that holds pairs; for another one the bytes are left open. An M line has at most 44 bytes, and those of an old node at most 22,528.
use Rattle.std.specs.Prelude.{◌≡◌, List, ℕ, ◌+◌, ◌*◌, ◌≤◌, ◌<◌, length}
use Rattle.text.specs.Puts.{Puts}
use Rattle.pairset.specs.Store.{Store, new_at}
use Rattle.writer.specs.Texts.{partners_text, table_text}

-- The new nodes of the first c pairs are below b.
unfoldable pub NewBelow : List ℕ → ℕ → ℕ → Type 0
NewBelow w c b = (k : ℕ) → k < c → new_at w k < b

-- `put_partners`: the M lines of the old node a with the new nodes below n, where all new nodes are below b.
unfoldable pub Partners : List ℕ → ℕ → List ℕ → ℕ → ℕ → ℕ → ℕ → List ℕ → Type 0
Partners o at w a b n r o' = (c : ℕ) → Store w c → NewBelow w c b → Puts o at (partners_text w c a n) r o'

pub record PartnersPut (o : List ℕ) (at : ℕ) (w : List ℕ) (a b n r : ℕ) (o' : List ℕ) : Type 0 where
  pub puts : Partners o at w a b n r o'
  pub within : r ≤ at + 44 * n
  pub size : length o' ≡ length o

-- `put_pairs`: the M lines of the old nodes below a.
unfoldable pub Pairs : List ℕ → ℕ → List ℕ → ℕ → ℕ → ℕ → List ℕ → Type 0
Pairs o at w a b r o' = (c : ℕ) → Store w c → NewBelow w c b → Puts o at (table_text w c a b) r o'

pub record PairsPut (o : List ℕ) (at : ℕ) (w : List ℕ) (a b r : ℕ) (o' : List ℕ) : Type 0 where
  pub puts : Pairs o at w a b r o'
  pub within : r ≤ at + 22528 * a
  pub size : length o' ≡ length o
