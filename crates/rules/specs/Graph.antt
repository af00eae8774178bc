-- Programs as control-flow graphs: procedures, nodes, edges, and what an accepted program file guarantees of them.
use Rattle.std.specs.Prelude.{◌≡◌, Bool, true, List, [], ◌∷◌, ℕ, ◌≤◌, ◌<◌, eqb, length, get_or}
use Rattle.std.proofs.Math.Option.{Option, none, some}
use Rattle.laws.specs.Tests.{◌and◌, isnt, first, count, or_else}
use Rattle.rules.specs.Text.{Bytes, empty, name_count, name_in, same}

-- The kinds of node: entry, step, call, exit.
pub data Kind : Type 0 where
  E S C X : Kind

-- A node: the number of the procedure whose lines it stands in, its kind, its label, and its callee field: the names of the procedures that it calls, joined by `+`.
pub record Node : Type 0 where
  pub owner : ℕ
  pub kind : Kind
  pub label : Bytes
  pub callee : Bytes

-- An edge: the node that it leaves, its word, the node that it ends on.
pub record Edge : Type 0 where
  pub source : ℕ
  pub word : Bytes
  pub target : ℕ

-- A program: the names of its procedures, its nodes and its edges, each numbered from 0 through the file.
pub record Program : Type 0 where
  pub procs : List Bytes
  pub nodes : List Node
  pub edges : List Edge

-- What stands at a number that names no node, and no edge. No accepted program leads there.
abbrev pub no_node : Node
no_node = record { owner = 0; kind = X; label = []; callee = [] }

abbrev pub no_edge : Edge
no_edge = record { source = 0; word = []; target = 0 }

-- The node n, the edge e and the name of the procedure q of a program.
abbrev pub node_at : Program → ℕ → Node
node_at p n = get_or p.nodes n no_node

abbrev pub edge_at : Program → ℕ → Edge
edge_at p e = get_or p.edges e no_edge

abbrev pub name_at : Program → ℕ → Bytes
name_at p q = get_or p.procs q []

-- Their fields.
abbrev pub owner_at : Program → ℕ → ℕ
owner_at p n = (node_at p n).owner

abbrev pub kind_at : Program → ℕ → Kind
kind_at p n = (node_at p n).kind

abbrev pub label_at : Program → ℕ → Bytes
label_at p n = (node_at p n).label

abbrev pub callee_at : Program → ℕ → Bytes
callee_at p n = (node_at p n).callee

abbrev pub source_at : Program → ℕ → ℕ
source_at p e = (edge_at p e).source

abbrev pub word_at : Program → ℕ → Bytes
word_at p e = (edge_at p e).word

abbrev pub target_at : Program → ℕ → ℕ
target_at p e = (edge_at p e).target

-- How many procedures, nodes and edges there are.
abbrev pub proc_count : Program → ℕ
proc_count p = length p.procs

abbrev pub node_count : Program → ℕ
node_count p = length p.nodes

abbrev pub edge_count : Program → ℕ
edge_count p = length p.edges

-- The word of the edge of an E or C.
abbrev pub dash : Bytes
dash = 45 ∷ []

-- The word of the edge for anything else.
abbrev pub star : Bytes
star = 42 ∷ []

-- A kind's number: its place in the table of degrees, too.
abbrev pub kind_number : Kind → ℕ
kind_number E = 0
kind_number S = 1
kind_number C = 2
kind_number X = 3

-- Equal kinds.
unfoldable pub same_kind : Kind → Kind → Bool
same_kind j k = eqb (kind_number j) (kind_number k)

-- The number found, or 0.
unfoldable pub or_zero : Option ℕ → ℕ
or_zero none = 0
or_zero (some n) = n

-- The node n is of procedure q and of kind k.
unfoldable pub is_of : Program → ℕ → Kind → ℕ → Bool
is_of p q k n = eqb (owner_at p n) q and same_kind (kind_at p n) k

-- The entry and the exit of procedure q: its node of kind E, of kind X.
unfoldable pub entry : Program → ℕ → ℕ
entry p q = or_zero (first (node_count p) (is_of p q E))

unfoldable pub exit : Program → ℕ → ℕ
exit p q = or_zero (first (node_count p) (is_of p q X))

-- How many callees the C node n has, numbered from 0 in the order in which they are called; the name of its callee i.
abbrev pub callee_count : Program → ℕ → ℕ
callee_count p n = name_count (callee_at p n)

abbrev pub callee_name : Program → ℕ → ℕ → Bytes
callee_name p n i = name_in (callee_at p n) i

-- The procedure of a name; the callee i of the C node n, as a procedure.
unfoldable pub proc_of : Program → Bytes → ℕ
proc_of p name = or_zero (first (proc_count p) (λ q. same (name_at p q) name))

unfoldable pub called : Program → ℕ → ℕ → ℕ
called p n i = proc_of p (callee_name p n i)

-- The edge e leaves the node n with the word w; the edge of the node n with the word w.
unfoldable pub leaves : Program → ℕ → Bytes → ℕ → Bool
leaves p n w e = eqb (source_at p e) n and same (word_at p e) w

unfoldable pub edge_with : Program → ℕ → Bytes → Option ℕ
edge_with p n w = first (edge_count p) (leaves p n w)

-- The edge that the node n takes for the word w: the one with that word, or else the one with the word `*`.
unfoldable pub edge_taken : Program → ℕ → Bytes → Option ℕ
edge_taken p n w = or_else (edge_with p n w) (edge_with p n star)

-- The edge of an E or C: the one that it has, whose word is `-` (`its_edge` in proofs/GraphLaws).
abbrev pub its_edge : Program → ℕ → Option ℕ
its_edge p n = edge_taken p n dash

-- How many edges leave the node n.
unfoldable pub degree : Program → ℕ → ℕ
degree p n = count (edge_count p) (λ e. eqb (source_at p e) n)

-- ---- what an accepted program file guarantees

-- The constant table of the fewest and the most edges leaving a node, by kind: E, S, C, X.
abbrev pub degrees : List (ℕ × ℕ)
degrees = (1, 1) ∷ (1, 8) ∷ (1, 1) ∷ (0, 0) ∷ []

abbrev pub fewest : Kind → ℕ
fewest k = (get_or degrees (kind_number k) (0, 0)).0

abbrev pub most : Kind → ℕ
most k = (get_or degrees (kind_number k) (0, 0)).1

-- Label and callee field are filled as the kind asks.
unfoldable pub filled : Kind → Bytes → Bytes → Bool
filled E l c = empty l and empty c
filled S l c = isnt (empty l) and empty c
filled C l c = isnt (empty l) and isnt (empty c)
filled X l c = empty l and empty c

-- The edge of an E or C has the word `-`.
unfoldable pub worded : Kind → Bytes → Bool
worded E w = same w dash
worded S w = true
worded C w = same w dash
worded X w = true

-- A program of the kind that a program file gives: it has a procedure; each procedure has one E, one X and a name of its own; each node has a procedure, its fields filled, as many
-- edges as the table says and, if it is a C, callees that exist; each edge leads from a node to one of the same procedure, with a word that suits the node and that no other edge of
-- the node has.
pub record WellFormed (p : Program) : Type 0 where
  pub begins : 0 < proc_count p
  pub entries : (q : ℕ) → q < proc_count p → count (node_count p) (is_of p q E) ≡ 1
  pub exits : (q : ℕ) → q < proc_count p → count (node_count p) (is_of p q X) ≡ 1
  pub names : (q r : ℕ) → q < proc_count p → r < proc_count p → name_at p r ≡ name_at p q → r ≡ q
  pub owners : (n : ℕ) → n < node_count p → owner_at p n < proc_count p
  pub fields : (n : ℕ) → n < node_count p → filled (kind_at p n) (label_at p n) (callee_at p n) ≡ true
  pub fewest_leave : (n : ℕ) → n < node_count p → fewest (kind_at p n) ≤ degree p n
  pub most_leave : (n : ℕ) → n < node_count p → degree p n ≤ most (kind_at p n)
  pub callees : (n : ℕ) → n < node_count p → kind_at p n ≡ C → (i : ℕ) → i < callee_count p n → (q : ℕ) × (q < proc_count p) × (name_at p q ≡ callee_name p n i)
  pub sources : (e : ℕ) → e < edge_count p → source_at p e < node_count p
  pub targets : (e : ℕ) → e < edge_count p → target_at p e < node_count p
  pub stays : (e : ℕ) → e < edge_count p → owner_at p (source_at p e) ≡ owner_at p (target_at p e)
  pub dashes : (e : ℕ) → e < edge_count p → worded (kind_at p (source_at p e)) (word_at p e) ≡ true
  pub words : (e f : ℕ) → e < edge_count p → f < edge_count p → source_at p f ≡ source_at p e → word_at p f ≡ word_at p e → f ≡ e
