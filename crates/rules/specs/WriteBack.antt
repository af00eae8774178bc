-- Programs written back (document 02, job 1): what of a text is a name, callee, label or word, and which texts differ in other bytes alone.
use Rattle.std.specs.Prelude.{◌≡◌, Bool, ℕ, ◌+◌, ◌<◌, eqb, leb, ltb, length, get_or, take, drop}
use Rattle.laws.specs.Tests.{◌and◌, ◌or◌, ◌⇒◌, any, every}
use Rattle.rules.specs.Text.{Bytes}
use Rattle.rules.specs.Graph.{callee_at, edge_count, label_at, name_at, node_count, proc_count, word_at}
use Rattle.rules.specs.ProgramFile.{Listing}

-- ---- the bytes of names, callees, labels and words

-- The offset i is one of the bytes w that stand from `start` on.
unfoldable pub in_part : ℕ → Bytes → ℕ → Bool
in_part start w i = leb start i and ltb i (start + length w)

-- Where the name of a procedure, the label and the callee of a node, and the word of an edge stand, in the text that was read. A callee field stands behind its label and a comma.
abbrev pub name_start : Listing → ℕ → ℕ
name_start s q = get_or s.places.name_starts q 0

abbrev pub label_start : Listing → ℕ → ℕ
label_start s n = get_or s.places.label_starts n 0

abbrev pub callee_start : Listing → ℕ → ℕ
callee_start s n = label_start s n + length (label_at s.program n) + 1

abbrev pub word_start : Listing → ℕ → ℕ
word_start s e = get_or s.places.word_starts e 0

-- The byte at the offset i is one of a name, callee, label or word of what was read.
unfoldable pub of_parts : Listing → ℕ → Bool
of_parts s i =
    any (proc_count s.program) (λ q. in_part (name_start s q) (name_at s.program q) i)
    or any (node_count s.program) (λ n. in_part (label_start s n) (label_at s.program n) i or in_part (callee_start s n) (callee_at s.program n) i)
    or any (edge_count s.program) (λ e. in_part (word_start s e) (word_at s.program e) i)

-- The text t, which is read to s, differs from `text` in other bytes alone: it is as long, and has the same bytes in names, callees, labels and words.
unfoldable pub other_alone : Bytes → Bytes → Listing → Bool
other_alone text t s = eqb (length t) (length text) and every (length t) (λ i. of_parts s i ⇒ eqb (get_or text i 0) (get_or t i 0))

-- The same by parts, for code: the text is as long, and has the names, labels, callees and words of s at their places.
pub record SameParts (text t : Bytes) (s : Listing) : Type 0 where
  pub long : length t ≡ length text
  pub names : (q : ℕ) → q < proc_count s.program → take (length (name_at s.program q)) (drop (name_start s q) text) ≡ name_at s.program q
  pub labels : (n : ℕ) → n < node_count s.program → take (length (label_at s.program n)) (drop (label_start s n) text) ≡ label_at s.program n
  pub callees : (n : ℕ) → n < node_count s.program → take (length (callee_at s.program n)) (drop (callee_start s n) text) ≡ callee_at s.program n
  pub words : (e : ℕ) → e < edge_count s.program → take (length (word_at s.program e)) (drop (word_start s e) text) ≡ word_at s.program e
