-- Texts: bytes, the limits, lines and fields, names, labels, words and numbers, and reading a text line by line.
use Rattle.std.specs.Prelude.{Bool, true, false, List, [], ◌∷◌, ◌++◌, ℕ, zero, suc, ◌+◌, ◌-◌, ◌*◌, ◌/◌, ◌%◌, eqb, leb, ltb, length, get_or}
use Prim.Native.Char.{code}
use Prim.Native.String.{String}
use Prim.Native.String as Quoted
use Rattle.laws.specs.Tests.{◌and◌, ◌or◌, isnt, choose, every}

-- Bytes: a text, or a part of one. The definitions ask nothing of a byte; in a call each is below 256.
abbrev pub Bytes : Type 0
Bytes = List ℕ

-- Equal bytes.
unfoldable pub same : Bytes → Bytes → Bool
same [] [] = true
same [] (b ∷ t) = false
same (a ∷ s) [] = false
same (a ∷ s) (b ∷ t) = eqb a b and same s t

-- The bytes are none.
unfoldable pub empty : Bytes → Bool
empty [] = true
empty (a ∷ s) = false

-- The bytes of a quoted text.
abbrev pub bytes : String → Bytes
bytes Quoted.[] = []
bytes (Quoted.◌∷◌ c s) = code c ∷ bytes s

-- ---- the limits: bytes of a text; procedures, nodes and edges of a program; tests of a suite; pairs, and M lines of a sheet

abbrev pub max_bytes : ℕ
max_bytes = 65536

abbrev pub max_procs : ℕ
max_procs = 64

abbrev pub max_nodes : ℕ
max_nodes = 512

abbrev pub max_edges : ℕ
max_edges = 1024

abbrev pub max_tests : ℕ
max_tests = 200

abbrev pub max_pairs : ℕ
max_pairs = 4096

-- The number of the refusal where more pairs exist.
abbrev pub too_many : ℕ
too_many = 15

-- ---- lines and fields

-- One more byte x before the pieces: a separator begins a new piece.
unfoldable pub onto : Bool → ℕ → List Bytes → List Bytes
onto true x ps = [] ∷ ps
onto false x [] = (x ∷ []) ∷ []
onto false x (p ∷ ps) = (x ∷ p) ∷ ps

-- The pieces between the bytes b: one more than there are b.
unfoldable pub split : ℕ → Bytes → List Bytes
split b [] = [] ∷ []
split b (x ∷ s) = onto (eqb x b) x (split b s)

-- The lines of a text, each ended by byte 10, and last the rest after the last byte 10.
abbrev pub lines_of : Bytes → List Bytes
lines_of text = split 10 text

-- The fields of a line: its parts between commas.
abbrev pub fields_of : Bytes → List Bytes
fields_of line = split 44 line

-- The pieces with the byte b between them; the line of these fields.
unfoldable pub join_by : ℕ → List Bytes → Bytes
join_by b [] = []
join_by b (p ∷ []) = p
join_by b (p ∷ q ∷ ps) = p ++ (b ∷ join_by b (q ∷ ps))

abbrev pub commas : List Bytes → Bytes
commas fs = join_by 44 fs

-- The text of these lines, each ended by byte 10.
unfoldable pub text_of : List Bytes → Bytes
text_of [] = []
text_of (l ∷ ls) = l ++ (10 ∷ text_of ls)

-- ---- names, labels, words, numbers

-- The number x is from a to b.
unfoldable pub between : ℕ → ℕ → ℕ → Bool
between a b x = leb a x and leb x b

-- Every byte passes f.
unfoldable pub all_bytes : (ℕ → Bool) → Bytes → Bool
all_bytes f [] = true
all_bytes f (x ∷ s) = f x and all_bytes f s

-- A byte of a name: A-Z a-z 0-9 `_`.
unfoldable pub name_byte : ℕ → Bool
name_byte x = between 65 90 x or between 97 122 x or between 48 57 x or eqb x 95

-- A byte of a label: 32 to 126, no comma.
unfoldable pub label_byte : ℕ → Bool
label_byte x = between 32 126 x and isnt (eqb x 44)

-- A byte of a word: 33 to 126, no comma.
unfoldable pub word_byte : ℕ → Bool
word_byte x = between 33 126 x and isnt (eqb x 44)

-- A decimal digit.
unfoldable pub digit_byte : ℕ → Bool
digit_byte x = between 48 57 x

-- A name: 1 to 12 bytes.
unfoldable pub is_name : Bytes → Bool
is_name s = between 1 12 (length s) and all_bytes name_byte s

-- The names that a callee field joins by `+`; how many they are; the name i.
abbrev pub names_in : Bytes → List Bytes
names_in field = split 43 field

unfoldable pub name_count : Bytes → ℕ
name_count field = length (names_in field)

unfoldable pub name_in : Bytes → ℕ → Bytes
name_in field i = get_or (names_in field) i []

-- A callee field: 1 to 4 names joined by `+`.
unfoldable pub is_callees : Bytes → Bool
is_callees field = between 1 4 (name_count field) and every (name_count field) (λ i. is_name (name_in field i))

-- A label: 1 to 60 bytes.
unfoldable pub is_label : Bytes → Bool
is_label s = between 1 60 (length s) and all_bytes label_byte s

-- The pieces that are not empty.
unfoldable pub non_empty : List Bytes → List Bytes
non_empty [] = []
non_empty (p ∷ ps) = choose (empty p) (non_empty ps) (p ∷ non_empty ps)

-- A label without the blanks (byte 32) at both ends, and with one blank for each inner run: its pieces between blanks that are not empty, joined by one blank.
unfoldable pub squeezed : Bytes → Bytes
squeezed label = join_by 32 (non_empty (split 32 label))

-- Two labels match: they are equal after dropping blanks at both ends and taking each inner run as one.
unfoldable pub same_label : Bytes → Bytes → Bool
same_label l l' = same (squeezed l) (squeezed l')

-- A word: 1 to 8 bytes.
unfoldable pub is_word : Bytes → Bool
is_word s = between 1 8 (length s) and all_bytes word_byte s

-- A number: decimal, of any length, without leading zeros.
unfoldable pub is_number : Bytes → Bool
is_number [] = false
is_number (d ∷ []) = digit_byte d
is_number (d ∷ e ∷ ds) = between 49 57 d and all_bytes digit_byte (e ∷ ds)

-- The value of digits, after a number that stands before them; the value of a number.
unfoldable pub value_from : ℕ → Bytes → ℕ
value_from v [] = v
value_from v (d ∷ ds) = value_from (v * 10 + (d - 48)) ds

abbrev pub value : Bytes → ℕ
value ds = value_from 0 ds

-- The digits of n, where k bounds how many stand before the last; n in decimal.
unfoldable pub digits : ℕ → ℕ → Bytes
digits zero n = (48 + n % 10) ∷ []
digits (suc k) n = elim (ltb n 10) [ true ↦ (48 + n % 10) ∷ [] | false ↦ digits k (n / 10) ++ ((48 + n % 10) ∷ []) ]

unfoldable pub decimal : ℕ → Bytes
decimal n = digits n n

-- ---- answers, and reading line by line

-- A refusal, by number and place; or what was read.
pub data Reading (A : Type 0) : Type 0 where
  refused : ℕ → ℕ → Reading A
  accepted : A → Reading A

-- What follows, if nothing was refused.
unfoldable pub then : {A B : Type 0} → Reading A → (A → Reading B) → Reading B
then (refused k p) f = refused k p
then (accepted a) f = f a

-- The refusal k at the place p where the test passes, else what follows. The order of refusals is the order of these.
unfoldable pub unless : {A : Type 0} → Bool → ℕ → ℕ → Reading A → Reading A
unless true k p a = refused k p
unless false k p a = a

-- Reading: `step` takes the number of a line, from 1, the offset at which it begins, what was read before it, and the line; `finish` the number one past the last line.
module _ {S A : Type 0} (step : ℕ → ℕ → S → Bytes → Reading S) (finish : ℕ → S → Reading A) where
  -- The pieces of a text from the line n on, which begins at the offset `at`. A last line without byte 10 is malformed.
  unfoldable pub read_lines : ℕ → ℕ → S → List Bytes → Reading A
  read_lines n at st [] = refused 2 n
  read_lines n at st (rest ∷ []) = unless (isnt (empty rest)) 2 n (finish n st)
  read_lines n at st (l ∷ m ∷ ls) = then (step n at st l) (λ s. read_lines (suc n) (at + length l + 1) s (m ∷ ls))

  -- A text: 1 where it is too long, then line by line.
  unfoldable pub read_text : S → Bytes → Reading A
  read_text st text = unless (ltb max_bytes (length text)) 1 0 (read_lines 1 0 st (lines_of text))
