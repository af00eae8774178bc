-- The parts of a text that the tables of a program lead to: names, labels, callees and words. Each is cut to the length that such a part has at most, so that the definitions hold for
-- tables of any numbers.
use Rattle.std.specs.Prelude.{◌≡◌, Bool, true, false, ◌<◌, List, [], ℕ, zero, suc, ◌+◌, ◌-◌, ◌/◌, ◌%◌, min, eqb, length, get_or, take, drop}
use Rattle.laws.specs.Tests.{◌and◌, choose, every}
use Rattle.rules.specs.Text.{Bytes, same}
use Rattle.graph.specs.Table.{edge_base, node_base, proc_base}
use Rattle.graph.specs.Reads.{part_at}
use Rattle.reader.specs.Result.{Count}

-- The name of the procedure q, at most 12 bytes, and the label of the node m, at most 60.
unfoldable pub name_in : Bytes → List ℕ → ℕ → Bytes
name_in t l q = take 12 (part_at t l (proc_base q))

unfoldable pub label_in : Bytes → List ℕ → ℕ → Bytes
label_in t n m = take 60 (part_at t n (node_base m + 1))

-- What stands behind the label of the node m.
unfoldable pub behind_label : Bytes → List ℕ → ℕ → Bytes
behind_label t n m = drop (get_or n (node_base m + 2) 0) (drop (get_or n (node_base m + 1) 0) t)

-- How long the name of the procedure q is, at most 12 bytes.
unfoldable pub name_long : List ℕ → ℕ → ℕ
name_long l q = min 12 (get_or l (proc_base q + 1) 0)

-- How many bytes the names take of the procedures that are the digits of v, at most k of them, each with the byte before it.
unfoldable pub names_long : ℕ → List ℕ → ℕ → ℕ
names_long zero l v = 0
names_long (suc k) l v = choose (eqb v 0) 0 (name_long l (v % 256 - 1) + 1 + names_long k l (v / 256))

-- The callee field of the node m: of a C, whose number is 2, a comma and the names of its callees, at most four, with `+` between them, stand behind its label; of other kinds it is empty.
unfoldable pub callee_in : Bytes → List ℕ → List ℕ → ℕ → Bytes
callee_in t n l m = choose (eqb (get_or n (node_base m) 0) 2) (drop 1 (take (names_long 4 l (get_or n (node_base m + 3) 0)) (behind_label t n m))) []

-- How many digits to the base 256 the number has, at most k.
unfoldable pub digits_of : ℕ → ℕ → ℕ
digits_of zero v = 0
digits_of (suc k) v = choose (eqb v 0) 0 (suc (digits_of k (v / 256)))

-- The word of the edge e: it is as long as its key has digits, at most 8 bytes.
unfoldable pub word_in : Bytes → List ℕ → ℕ → Bytes
word_in t l e = take (digits_of 8 (get_or l (edge_base e + 2) 0)) (drop (get_or l (edge_base e + 1) 0) t)

-- ---- the same parts in the texts a and b

unfoldable pub name_same : Bytes → Bytes → List ℕ → ℕ → Bool
name_same a b l q = same (name_in a l q) (name_in b l q)

unfoldable pub node_same : Bytes → Bytes → List ℕ → List ℕ → ℕ → Bool
node_same a b n l m = same (label_in a n m) (label_in b n m) and same (callee_in a n l m) (callee_in b n l m)

unfoldable pub word_same : Bytes → Bytes → List ℕ → ℕ → Bool
word_same a b l e = same (word_in a l e) (word_in b l e)

-- The texts are of one length, and have the same names, labels, callees and words.
unfoldable pub parts_same : Bytes → Bytes → List ℕ → List ℕ → Count → Bool
parts_same a b n l had =
    eqb (length a) (length b) and every had.procs (name_same a b l) and every had.nodes (node_same a b n l) and every had.edges (word_same a b l)

-- ---- a test of every number below n

-- What it answers, where `post i t` says that it answers t of i: true where it passes of all, false where it fails of one.
pub record AllBelow (post : ℕ → Bool → Type 0) (n : ℕ) (r : Bool) : Type 0 where
  pub passes : r ≡ true → (i : ℕ) → i < n → post i true
  pub stops : r ≡ false → (i : ℕ) × (i < n) × post i false
