-- What a memory says of the program that it holds: the numbers and the parts of the text that the functions read, by the definitions.
use Rattle.std.specs.Prelude.{◌≡◌, ℕ, ◌+◌, ◌<◌, drop}
use Rattle.std.proofs.Common.{sym, ap, ◌∙◌, add_assoc, add-zero, arith, le-leb}
use Rattle.std.proofs.Math.Path.{ap₂}
use Rattle.std.proofs.Math.ListN.{get_or, take}
use Rattle.laws.specs.Lists.{choose_yes}
use Rattle.laws.specs.Chain.{Chained, link_le}
use Rattle.rules.specs.Text.{accepted}
use Rattle.rules.specs.Graph.{WellFormed, edge_count, entry, exit, kind_at, kind_number, label_at, name_at, node_count, proc_count, source_at, target_at, word_at}
use Rattle.rules.specs.ProgramFile.{Listing, read_program}
use Rattle.rules.specs.Places.{Placed}
use Rattle.rules.proofs.Places.{listing_placed, part_is}
use Rattle.rules.specs.Kept.{Sound}
use Rattle.rules.proofs.ProgramLaws.{read_sound, read_well_formed}
use Rattle.rules.proofs.TextLaws.{then_passes}
use Rattle.graph.specs.Table.{callees_from, edge_base, head_base, node_base, proc_base}
use Rattle.graph.specs.Keys.{word_key}
use Rattle.graph.specs.Lookups.{Edges, in_table}
use Rattle.graph.specs.Reads.{part_at, up_to}
use Rattle.versions.specs.Memory.{InMemory, Memory}

module _ (m : Memory) (s : Listing) (h : InMemory m s) where
  -- ---- the program is well-formed and within its limits, and its parts stand in the text

  pub program_read : read_program m.text ≡ accepted s.program
  unfolding read_program
  program_read = then_passes (λ (x : Listing). accepted x.program) h.read

  pub sound : Sound s.program
  sound = (read_sound m.text s.program program_read).0

  pub well_formed : WellFormed s.program
  well_formed = read_well_formed m.text s.program program_read

  pub placed : Placed m.text s
  placed = listing_placed m.text s h.read

  -- ---- a node

  module _ (n : ℕ) (l : n < node_count s.program) where
    pub kind_is : get_or m.nodes (node_base n) 0 ≡ kind_number (kind_at s.program n)
    kind_is = ap (λ (k : ℕ). get_or m.nodes k 0) (sym (add-zero (node_base n))) ∙ h.nodes n l 0 (omega arith)

    pub label_is : part_at m.text m.nodes (node_base n + 1) ≡ label_at s.program n
    unfolding part_at
    label_is =
        ap₂ (λ (a b : ℕ). take a (drop b m.text)) (ap (λ (k : ℕ). get_or m.nodes k 0) (add_assoc (node_base n) 1 1) ∙ h.nodes n l 2 (omega arith)) (h.nodes n l 1 (omega arith))
        ∙ part_is m.text _ _ (placed.labels.parts n l)

    pub callees_are : get_or m.nodes (node_base n + 3) 0 ≡ callees_from s.program n 0
    callees_are = h.nodes n l 3 (omega arith)

  -- ---- a procedure

  module _ (q : ℕ) (l : q < proc_count s.program) where
    pub name_is : part_at m.text m.links (proc_base q) ≡ name_at s.program q
    unfolding part_at
    name_is =
        ap₂ (λ (a b : ℕ). take a (drop b m.text)) (h.procs q l 1 (omega arith)) (ap (λ (k : ℕ). get_or m.links k 0) (sym (add-zero (proc_base q))) ∙ h.procs q l 0 (omega arith))
        ∙ part_is m.text _ _ (placed.names.parts q l)

    pub entry_is : get_or m.links (proc_base q + 5) 0 ≡ entry s.program q
    entry_is = h.procs q l 5 (omega arith)

    pub exit_is : get_or m.links (proc_base q + 6) 0 ≡ exit s.program q
    exit_is = h.procs q l 6 (omega arith)

  -- ---- an edge

  module _ (e : ℕ) (l : e < edge_count s.program) where
    pub source_is : get_or m.links (edge_base e) 0 ≡ source_at s.program e
    source_is = ap (λ (k : ℕ). get_or m.links k 0) (sym (add-zero (edge_base e))) ∙ h.edges e l 0 (omega arith)

    pub key_is : get_or m.links (edge_base e + 2) 0 ≡ word_key (word_at s.program e)
    key_is = h.edges e l 2 (omega arith)

    pub target_is : get_or m.links (edge_base e + 3) 0 ≡ target_at s.program e
    target_is = h.edges e l 3 (omega arith)

  -- ---- the edges of a node

  -- Their chains: the head of the node n is `last_edge`, and the link of the edge e is `edge_before`.
  pub edges_chained : Chained (source_at s.program) (node_count s.program) (edge_count s.program) (λ n. get_or m.links (head_base n) 0) (λ e. up_to e (get_or m.links (edge_base e + 4) 0))
  unfolding up_to
  edges_chained =
      let raw : Chained (source_at s.program) (node_count s.program) (edge_count s.program) (λ n. get_or m.links (head_base n) 0) (λ e. get_or m.links (edge_base e + 4) 0)
      = record { top = h.heads; link = λ e l. h.edges e l 4 (omega arith) } in
      record { top = h.heads; link = λ e l. choose_yes _ 0 (le-leb _ e (link_le raw e l)) ∙ h.edges e l 4 (omega arith) }

  -- What the look-ups of edges by a word ask.
  pub edges_in : Edges (in_table m.links) s
  edges_in =
      record {
        sources = well_formed.sources;
        rows = h.edges;
        heads = h.heads;
        words = sound.word_forms;
        once = well_formed.words;
      }
