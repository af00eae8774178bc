-- Nodes as records, and as numbers, four to a record.
use Rattle.std.specs.Prelude.{List, [], ◌∷◌, ◌++◌, ℕ, zero, suc, ◌+◌, ◌*◌, get_or}
use Rattle.records.specs.declared.Node.{Node}

-- A record of zeros: what a list of records has past its end.
abbrev pub blank : Node
blank = record { kind = 0; start = 0; len = 0; callees = 0 }

-- The four numbers of a record.
abbrev pub row : Node → List ℕ
row v = v.kind ∷ v.start ∷ v.len ∷ v.callees ∷ []

-- The numbers of records, one record after another.
unfoldable pub flat : List Node → List ℕ
flat [] = []
flat (v ∷ vs) = row v ++ flat vs

-- The record i of the numbers; a number past the end is 0.
abbrev pub node_at : List ℕ → ℕ → Node
node_at w i = record { kind = get_or w (4 * i) 0; start = get_or w (4 * i + 1) 0; len = get_or w (4 * i + 2) 0; callees = get_or w (4 * i + 3) 0 }

-- The first n records of the numbers.
unfoldable pub nodes_of : List ℕ → ℕ → List Node
nodes_of w zero = []
nodes_of w (suc n) = nodes_of w n ++ (node_at w n ∷ [])
