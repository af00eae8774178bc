-- What the reader of program files keeps while it reads, and what its inner functions claim.
use Rattle.std.specs.Prelude.{◌≡◌, Bool, true, List, [], ◌∷◌, ℕ, ◌+◌, ◌-◌, ◌*◌, ◌≤◌, ◌<◌, min, eqb, leb, ltb, length, get_or, take, drop, set, Option, Some, None}
use Rattle.std.proofs.Math.Option.{none, some}
use Rattle.std.proofs.lemmas.List.Edits.{sets}
use Rattle.laws.specs.Digits.{number}
use Rattle.laws.specs.Tests.{◌and◌, ◌⇒◌, every, first, count, choose}
use Rattle.rules.specs.Text.{Bytes, is_word, name_count, names_in, value, Reading, refused, accepted, unless, read_lines, lines_of as lines_of_text}
use Rattle.rules.specs.Graph.{Program, E, X, kind_at, label_at, callee_at, source_at, node_count, edge_count, proc_count, kind_number, is_of, entry, exit, worded, word_at, owner_at}
use Rattle.rules.specs.ProgramFile.{Line, edge_line, Listing, current, complete, take_proc, take_line, step_program, finish_program, nothing_read, has_word, with_edge, degree_fine, lost}
use Rattle.rules.specs.Kept.{Sound}
use Rattle.graph.specs.Table.{At, node_base, proc_base, edge_base, head_base, proc_head, edge_row, head_of, node_row, proc_digit}
use Rattle.graph.specs.Lookups.{in_table, Procs}
use Rattle.lines.specs.Known.{Known}
use Rattle.reader.specs.Result.{Count, links_of, Small, Told}

-- ---- what the work table holds of a listing that is being read

-- A node's row: until its callees are known, the fourth number is 64 times its line and the length of its callee field.
abbrev pub reading_row : Listing → ℕ → List ℕ
reading_row s n =
    kind_number (kind_at s.program n) ∷ get_or s.places.label_starts n 0 ∷ length (label_at s.program n)
    ∷ (get_or s.places.node_lines n 0 * 64 + length (callee_at s.program n)) ∷ []

-- The tables hold the listing. An entry and an exit stand in a procedure's row where it has one of each.
pub record InProgress (node link : ℕ → ℕ) (s : Listing) : Type 0 where
  pub nodes : (n : ℕ) → n < node_count s.program → At node (node_base n) (reading_row s n)
  pub procs : (q : ℕ) → q < proc_count s.program → At link (proc_base q) (proc_head s q)
  pub entries : (q : ℕ) → q < proc_count s.program → count (node_count s.program) (is_of s.program q E) ≡ 1 → link (proc_base q + 5) ≡ entry s.program q
  pub exits : (q : ℕ) → q < proc_count s.program → count (node_count s.program) (is_of s.program q X) ≡ 1 → link (proc_base q + 6) ≡ exit s.program q
  pub edges : (e : ℕ) → e < edge_count s.program → At link (edge_base e) (edge_row s e)
  pub heads : (n : ℕ) → n < node_count s.program → link (head_base n) ≡ head_of s n

-- The counts are those of the listing, and the work table holds it.
pub record Holds (w : List ℕ) (c : Count) (s : Listing) : Type 0 where
  pub procs_n : c.procs ≡ proc_count s.program
  pub nodes_n : c.nodes ≡ node_count s.program
  pub edges_n : c.edges ≡ edge_count s.program
  pub reading : InProgress (in_table w) (in_table (links_of w)) s

-- ---- a line

-- An answer against the definition's. After a refusal nothing is said of the work table.
abbrev pub After : Reading Listing → Count → List ℕ → Type 0
After (refused k p) r w = (r.number ≡ k) × (r.place ≡ p) × (0 < k)
After (accepted t) r w = (r.number ≡ 0) × Holds w r t

-- `refused`: the number and the place, and counts within their limits.
pub record Refused (number place : ℕ) (r : Count) : Type 0 where
  pub number_is : r.number ≡ number
  pub place_is : r.place ≡ place
  pub small : Small r

-- `counted`: no refusal, and the numbers of procedures, nodes and edges.
abbrev pub counts : ℕ → ℕ → ℕ → Count
counts p n e = record { number = 0; place = 0; procs = p; nodes = n; edges = e }

-- Whatever listing the work table holds, the answer to the line, numbered n, that begins at the offset `at` and says x is the definition's.
unfoldable pub Stepped : Bytes → ℕ → ℕ → Line → Count → List ℕ → Count → List ℕ → Type 0
Stepped text n at x c w r w' = (s : Listing) → Known text s → Holds w c s → After (take_line n at s x) r w'

pub record Took (text : Bytes) (n at : ℕ) (x : Line) (c : Count) (w : List ℕ) (r : Count) (w' : List ℕ) : Type 0 where
  pub stepped : Stepped text n at x c w r w'
  pub small : Small r

-- The same of an N or B line: the text is not asked for.
pub record Added (n at : ℕ) (x : Line) (c : Count) (w : List ℕ) (r : Count) (w' : List ℕ) : Type 0 where
  pub stepped : (text : Bytes) → Stepped text n at x c w r w'
  pub small : Small r

-- The same of a P line behind a procedure that is complete.
pub record OpenedProc (text : Bytes) (n at : ℕ) (name : Bytes) (c : Count) (w : List ℕ) (r : Count) (w' : List ℕ) : Type 0 where
  pub opened : (s : Listing) → Known text s → Holds w c s → After (take_proc n at name s) r w'
  pub small : Small r

-- `in_procedure`: n is a node from `first` on.
unfoldable pub in_procedure : ℕ → ℕ → ℕ → Bool
in_procedure first nodes n = leb first n and ltb n nodes

-- The same of a B line, by the numbers of its ends, of which one above 65,536 counts as 65,536; its word begins at `start`.
pub record AddedEdge (n source start : ℕ) (word : Bytes) (target : ℕ) (c : Count) (w : List ℕ) (r : Count) (w' : List ℕ) : Type 0 where
  pub stepped : (text : Bytes) (at : ℕ) (from to : Bytes) → source ≡ min (value from) 65536 → target ≡ min (value to) 65536 → start ≡ at + length from + 3 → is_word word ≡ true
      → Stepped text n at (edge_line from word to) c w r w'
  pub small : Small r

-- The same of a B line whose ends are nodes of its procedure.
pub record LinkedEdge (n source start : ℕ) (word : Bytes) (target : ℕ) (c : Count) (w : List ℕ) (r : Count) (w' : List ℕ) : Type 0 where
  pub linked : (text : Bytes) (s : Listing) (at : ℕ) (from to : Bytes) → Known text s → Holds w c s → source ≡ value from → target ≡ value to → start ≡ at + length from + 3 → is_word word ≡ true
      → source < node_count s.program → owner_at s.program source ≡ current s.program
      → After (unless (has_word s.program (value from) word) 7 n (accepted (with_edge at from word to s))) r w'
  pub small : Small r

-- ---- a procedure that is complete (8)

-- `of_current`: the number k of the last procedure's row.
unfoldable pub of_current : List ℕ → ℕ → ℕ → ℕ
of_current w procs k = choose (eqb procs 0) 0 (get_or w (2048 + 7 * (procs - 1) + k) 0)

-- `count_kind`: how many nodes from `first` on have the kind.
unfoldable pub kind_count : List ℕ → ℕ → ℕ → ℕ → ℕ
kind_count w first nodes k = count nodes (λ n. leb first n and eqb (get_or w (4 * n) 0) k)

-- `node_fine`: the node has as many edges as the table says, and its edges are `-` if it is an E or C.
unfoldable pub node_fine : Program → ℕ → Bool
node_fine p n = degree_fine p n and every (edge_count p) (λ e. eqb (source_at p e) n ⇒ worded (kind_at p n) (word_at p e))

unfoldable pub NodeFine : List ℕ → ℕ → Bool → Type 0
NodeFine w n r = (s : Listing) (c : Count) → Sound s.program → Holds w c s → n < node_count s.program → r ≡ node_fine s.program n

-- `all_fine`: every node from `first` on is.
unfoldable pub AllFine : List ℕ → ℕ → ℕ → Bool → Type 0
AllFine w first nodes r = (s : Listing) (c : Count) → Sound s.program → Holds w c s → nodes ≡ node_count s.program → r ≡ every nodes (λ n. leb first n ⇒ node_fine s.program n)

-- The nodes from `first` up to n are.
unfoldable pub FineTo : List ℕ → ℕ → ℕ → ℕ → Type 0
FineTo w first nodes n =
    (s : Listing) (c : Count) → Sound s.program → Holds w c s → nodes ≡ node_count s.program → every n (λ i. leb first i ⇒ node_fine s.program i) ≡ true

-- `complete`: the procedure that is being read is.
unfoldable pub Completes : List ℕ → Count → Bool → Type 0
Completes w c r = (s : Listing) → Sound s.program → Holds w c s → 0 < proc_count s.program → r ≡ complete s.program (current s.program)

-- ---- what the stores leave in the work table

-- The first five numbers of the row of the procedure c.
unfoldable pub stored_proc : List ℕ → ℕ → ℕ → ℕ → ℕ → ℕ → ℕ → List ℕ
stored_proc w c start len line nodes edges = sets w (2048 + 7 * c) (start ∷ len ∷ line ∷ nodes ∷ edges ∷ [])

-- An E or X is noted as the entry or exit of the procedure q.
unfoldable pub marked : ℕ → ℕ → ℕ → List ℕ → List ℕ
marked kind q c w = choose (eqb kind 0) (set w (2048 + 7 * q + 5) c) (choose (eqb kind 3) (set w (2048 + 7 * q + 6) c) w)

-- The row of the node c, with the head of its chain.
unfoldable pub stored_node : List ℕ → ℕ → ℕ → ℕ → ℕ → ℕ → ℕ → List ℕ
stored_node w q c kind start len last = marked kind q c (set (sets w (4 * c) (kind ∷ start ∷ len ∷ last ∷ [])) (7616 + c) 0)

-- The row of the edge c, at the head of its node's chain.
unfoldable pub stored_edge : List ℕ → ℕ → ℕ → ℕ → ℕ → ℕ → List ℕ
stored_edge w c from start key to = set (sets w (2496 + 5 * c) (from ∷ start ∷ key ∷ to ∷ get_or w (7616 + from) 0 ∷ [])) (7616 + from) (c + 1)

-- ---- all lines

-- What reading the lines of a text comes to.
unfoldable pub whole_text : Bytes → Reading Listing
whole_text text = read_lines step_program finish_program 1 0 nothing_read (lines_of_text text)

-- The lines were read: the rest is the end of the text.
pub record LinesDone (text : Bytes) (r : Count) (w : List ℕ) : Type 0 where
  pub listing : Listing
  pub known : Known text listing
  pub holds : Holds w r listing
  pub number : ℕ
  pub goes : whole_text text ≡ finish_program number listing

-- `read_lines`: after a refusal nothing is said of the work table.
pub record LinesRead (text : Bytes) (r : Count) (w : List ℕ) : Type 0 where
  pub done : r.number ≡ 0 → LinesDone text r w
  pub stopped : (r.number ≡ 0 → ⊥) → whole_text text ≡ refused r.number r.place
  pub small : Small r

-- ---- callees (9), and the whole text

-- The rows of the nodes below i have their callees, and none of these is unknown; the rest is as it was in the work table w₀.
pub record Partly (w₀ w : List ℕ) (s : Listing) (i : ℕ) : Type 0 where
  pub same_links : links_of w ≡ links_of w₀
  pub done : (n : ℕ) → n < node_count s.program → n < i → At (in_table w) (node_base n) (node_row s n)
  pub todo : (n : ℕ) → n < node_count s.program → i ≤ n → At (in_table w) (node_base n) (reading_row s n)
  pub none_lost : first i (lost s.program) ≡ none

-- `callees_in`: of these names the number whose digits are theirs, or none where one of their digits is 0.
abbrev pub NumberOf : (Bytes → ℕ) → List Bytes → Option ℕ → Type 0
NumberOf digit names None = (i : ℕ) × (i < length names) × (digit (get_or names i []) ≡ 0)
NumberOf digit names (Some r) = (r ≡ number 256 digit names) × ((i : ℕ) → i < length names → 0 < digit (get_or names i []))

unfoldable pub CalleesIn : Bytes → List ℕ → ℕ → Bytes → ℕ → Option ℕ → Type 0
CalleesIn text links procs field most r =
    (s : Listing) → Procs text (in_table links) s → procs ≡ proc_count s.program → proc_count s.program ≤ 64 → name_count field ≤ most
    → NumberOf (proc_digit s.program) (names_in field) r

-- `resolve_node`: 0 where every callee of the node n is known, else the refusal at its line, and then nothing is said of the work table.
unfoldable pub ResolvedNode : Bytes → List ℕ → ℕ → ℕ → ℕ → ℕ → List ℕ → Type 0
ResolvedNode text w procs n k p w' =
    (s : Listing) (c : Count) (w₀ : List ℕ) → Known text s → Holds w₀ c s → procs ≡ proc_count s.program → n < node_count s.program → Partly w₀ w s n
    → (k ≡ 0 → Partly w₀ w' s (n + 1)) × ((k ≡ 0 → ⊥) → (lost s.program n ≡ true) × (k ≡ 9) × (p ≡ get_or s.places.node_lines n 0))

-- The same of every node below n.
unfoldable pub ResolvedTo : Bytes → List ℕ → ℕ → ℕ → ℕ → List ℕ → Type 0
ResolvedTo text w₀ procs nodes n w = (s : Listing) (c : Count) → Known text s → Holds w₀ c s → procs ≡ proc_count s.program → nodes ≡ node_count s.program → Partly w₀ w s n

-- `resolve`: 0 where all callees are known, else the refusal at the line of the first node with an unknown one, and then nothing is said of the work table.
unfoldable pub Resolved : Bytes → List ℕ → ℕ → ℕ → ℕ → ℕ → List ℕ → Type 0
Resolved text w₀ procs nodes k p w =
    (s : Listing) (c : Count) → Known text s → Holds w₀ c s → procs ≡ proc_count s.program → nodes ≡ node_count s.program
    → (k ≡ 0 → Partly w₀ w s (node_count s.program))
    × ((k ≡ 0 → ⊥) → (m : ℕ) × (first (node_count s.program) (lost s.program) ≡ some m) × (k ≡ 9) × (p ≡ get_or s.places.node_lines m 0))

-- `callee_of`: the callee field, behind a label.
unfoldable pub callee_bytes : Bytes → ℕ → ℕ → ℕ → Bytes
callee_bytes text start len size = take size (drop 1 (drop len (drop start text)))

-- `finish`: as `read_into`, of the end of the text.
pub record Finished (text : Bytes) (c : Count) (w : List ℕ) (r : Count) (w' : List ℕ) : Type 0 where
  pub told : (s : Listing) (n : ℕ) → Known text s → Holds w c s → Told (finish_program n s) r w'
  pub small : Small r
