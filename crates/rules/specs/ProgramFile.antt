-- Program files: the forms of their lines, and what reading one answers (refusals 1 to 9).
use Rattle.std.specs.Prelude.{Bool, List, [], ◌∷◌, ◌++◌, ℕ, ◌+◌, ◌-◌, eqb, leb, ltb, length, get_or}
use Rattle.std.proofs.Math.Option.{Option, none, some}
use Rattle.laws.specs.Tests.{◌and◌, ◌or◌, ◌⇒◌, isnt, every, any, first, count, after, choose}
use Rattle.rules.specs.Text.{Bytes, same, empty, bytes, max_procs, max_nodes, max_edges, fields_of, is_name, is_callees, is_label, is_word, is_number, value, Reading, refused, accepted, then, unless, read_text}
use Rattle.rules.specs.Graph.{Kind, E, S, C, X, Node, Edge, Program, name_at, owner_at, kind_at, callee_count, callee_name, source_at, word_at, proc_count, node_count, edge_count, same_kind, is_of, leaves, degree, fewest, most, worded}

-- What a line says. Of numbers the bytes are kept.
pub data Line : Type 0 where
  proc_line : Bytes → Line
  node_line : Kind → Bytes → Bytes → Line
  edge_line : Bytes → Bytes → Bytes → Line
  malformed : Line

-- The kind that a field names.
unfoldable pub kind_of : Bytes → Option Kind
kind_of f =
    choose (same f (bytes "E")) (some E)
    (choose (same f (bytes "S")) (some S)
    (choose (same f (bytes "C")) (some C)
    (choose (same f (bytes "X")) (some X) none)))

-- Label and callee of a node: E and X leave both empty, S leaves the callee empty, C fills both, the callee with 1 to 4 names.
unfoldable pub is_node : Kind → Bytes → Bytes → Bool
is_node E label callee = empty label and empty callee
is_node S label callee = is_label label and empty callee
is_node C label callee = is_label label and is_callees callee
is_node X label callee = empty label and empty callee

-- The fields of `B,from,word,to`.
unfoldable pub is_edge : Bytes → Bytes → Bytes → Bool
is_edge from word to = is_number from and is_word word and is_number to

-- What the fields of a line say: `P,name`, `N,kind,label,callee`, `B,from,word,to`, or none of these.
unfoldable pub form_of : List Bytes → Line
form_of [] = malformed
form_of (f ∷ []) = malformed
form_of (f ∷ a ∷ []) = choose (same f (bytes "P") and is_name a) (proc_line a) malformed
form_of (f ∷ a ∷ b ∷ []) = malformed
form_of (f ∷ a ∷ b ∷ c ∷ []) =
    choose (same f (bytes "N")) (after (kind_of a) malformed (λ k. choose (is_node k b c) (node_line k b c) malformed))
    (choose (same f (bytes "B") and is_edge a b c) (edge_line a b c) malformed)
form_of (f ∷ a ∷ b ∷ c ∷ d ∷ ds) = malformed

-- Where things stand in the text: the offset of each procedure's name and the number of its line; of each node's label, and the number of its line; of each edge's word.
pub record Places : Type 0 where
  pub name_starts : List ℕ
  pub proc_lines : List ℕ
  pub label_starts : List ℕ
  pub node_lines : List ℕ
  pub word_starts : List ℕ

-- What was read: the program, and where its parts stand.
pub record Listing : Type 0 where
  pub program : Program
  pub places : Places

abbrev pub nothing_read : Listing
nothing_read =
    record {
      program = record { procs = []; nodes = []; edges = [] };
      places = record { name_starts = []; proc_lines = []; label_starts = []; node_lines = []; word_starts = [] };
    }

-- A procedure, a node or an edge more.
abbrev pub add_proc : Bytes → Program → Program
add_proc name p = record { procs = p.procs ++ (name ∷ []); nodes = p.nodes; edges = p.edges }

abbrev pub add_node : Node → Program → Program
add_node n p = record { procs = p.procs; nodes = p.nodes ++ (n ∷ []); edges = p.edges }

abbrev pub add_edge : Edge → Program → Program
add_edge e p = record { procs = p.procs; nodes = p.nodes; edges = p.edges ++ (e ∷ []) }

-- The procedure whose lines are being read: the last one.
abbrev pub current : Program → ℕ
current p = proc_count p - 1

-- A P line was read.
abbrev pub begun : Program → Bool
begun p = ltb 0 (proc_count p)

-- The procedure q has a B line.
unfoldable pub has_edge : Program → ℕ → Bool
has_edge p q = any (edge_count p) (λ e. eqb (owner_at p (source_at p e)) q)

-- A procedure has this name.
unfoldable pub named : Program → Bytes → Bool
named p name = any (proc_count p) (λ q. same (name_at p q) name)

-- The number names a node of the procedure q.
unfoldable pub is_node_of : Program → ℕ → ℕ → Bool
is_node_of p q n = ltb n (node_count p) and eqb (owner_at p n) q

-- An edge leaves the node n with this word.
unfoldable pub has_word : Program → ℕ → Bytes → Bool
has_word p n word = any (edge_count p) (leaves p n word)

-- 8: the procedure q has one E and one X, its nodes have as many edges as the table says, and the edge of an E or C has the word `-`.
unfoldable pub degree_fine : Program → ℕ → Bool
degree_fine p n = leb (fewest (kind_at p n)) (degree p n) and leb (degree p n) (most (kind_at p n))

unfoldable pub complete : Program → ℕ → Bool
complete p q =
    eqb (count (node_count p) (is_of p q E)) 1 and eqb (count (node_count p) (is_of p q X)) 1
    and every (node_count p) (λ n. eqb (owner_at p n) q ⇒ degree_fine p n)
    and every (edge_count p) (λ e. eqb (owner_at p (source_at p e)) q ⇒ worded (kind_at p (source_at p e)) (word_at p e))

-- 9: the node n is a C, and some name in its callee field no procedure has.
unfoldable pub lost : Program → ℕ → Bool
lost p n = same_kind (kind_at p n) C and any (callee_count p n) (λ i. isnt (named p (callee_name p n i)))

-- The refusal 8 of the procedure that was being read, at its P line, else what follows.
abbrev pub closing : {A : Type 0} → Listing → Reading A → Reading A
closing s a = unless (isnt (complete s.program (current s.program))) 8 (get_or s.places.proc_lines (current s.program) 0) a

-- What was read, with a P line, an N line, a B line more: the line n, which begins at the offset `at`.
abbrev pub with_proc : ℕ → ℕ → Bytes → Listing → Listing
with_proc n at name s =
    record {
      program = add_proc name s.program;
      places = record {
        name_starts = s.places.name_starts ++ ((at + 2) ∷ []);
        proc_lines = s.places.proc_lines ++ (n ∷ []);
        label_starts = s.places.label_starts;
        node_lines = s.places.node_lines;
        word_starts = s.places.word_starts;
      };
    }

abbrev pub with_node : ℕ → ℕ → Kind → Bytes → Bytes → Listing → Listing
with_node n at kind label callee s =
    record {
      program = add_node (record { owner = current s.program; kind = kind; label = label; callee = callee }) s.program;
      places = record {
        name_starts = s.places.name_starts;
        proc_lines = s.places.proc_lines;
        label_starts = s.places.label_starts ++ ((at + 4) ∷ []);
        node_lines = s.places.node_lines ++ (n ∷ []);
        word_starts = s.places.word_starts;
      };
    }

abbrev pub with_edge : ℕ → Bytes → Bytes → Bytes → Listing → Listing
with_edge at from word to s =
    record {
      program = add_edge (record { source = value from; word = word; target = value to }) s.program;
      places = record {
        name_starts = s.places.name_starts;
        proc_lines = s.places.proc_lines;
        label_starts = s.places.label_starts;
        node_lines = s.places.node_lines;
        word_starts = s.places.word_starts ++ ((at + length from + 3) ∷ []);
      };
    }

-- A P line's own refusals.
abbrev pub take_proc : ℕ → ℕ → Bytes → Listing → Reading Listing
take_proc n at name s =
    unless (leb max_procs (proc_count s.program)) 4 n
    (unless (named s.program name) 5 n
    (accepted (with_proc n at name s)))

-- One line, numbered n, beginning at the offset `at`. At a P line the procedure before it is closed first.
unfoldable pub take_line : ℕ → ℕ → Listing → Line → Reading Listing
take_line n at s (proc_line name) = choose (begun s.program) (closing s (take_proc n at name s)) (take_proc n at name s)
take_line n at s (node_line kind label callee) =
    unless (isnt (begun s.program) or has_edge s.program (current s.program)) 3 n
    (unless (leb max_nodes (node_count s.program)) 4 n
    (accepted (with_node n at kind label callee s)))
take_line n at s (edge_line from word to) =
    unless (isnt (begun s.program)) 3 n
    (unless (leb max_edges (edge_count s.program)) 4 n
    (unless (isnt (is_node_of s.program (current s.program) (value from) and is_node_of s.program (current s.program) (value to))) 6 n
    (unless (has_word s.program (value from) word) 7 n
    (accepted (with_edge at from word to s)))))
take_line n at s malformed = refused 2 n

unfoldable pub step_program : ℕ → ℕ → Listing → Bytes → Reading Listing
step_program n at s line = take_line n at s (form_of (fields_of line))

-- The end of the text: an empty program is malformed in line 1; then 8 of the last procedure; then 9, at the first N line with an unknown callee.
unfoldable pub finish_program : ℕ → Listing → Reading Listing
finish_program n s =
    unless (isnt (begun s.program)) 2 1
    (closing s (after (first (node_count s.program) (lost s.program)) (accepted s) (λ m. refused 9 (get_or s.places.node_lines m 0))))

-- Reading a program file: with the places, and the program alone.
unfoldable pub read_listing : Bytes → Reading Listing
read_listing text = read_text step_program finish_program nothing_read text

unfoldable pub read_program : Bytes → Reading Program
read_program text = then (read_listing text) (λ s. accepted s.program)
