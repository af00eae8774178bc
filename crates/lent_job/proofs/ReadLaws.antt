-- Laws of reading a program: its records are the rows of its nodes; for a fresh job and long enough tables the answer is that of `read_old_answer`.
use Rattle.std.specs.Prelude.{◌≡◌, Bool, true, false, get_or}
use Rattle.std.proofs.Math.Path.{refl, ap₂}
use Rattle.std.proofs.Common.{sym, ap, ◌∙◌, add-zero, arith, le-leb, leb-true}
use mathlib.Core.List.{List, [], ◌∷◌, ◌++◌}
use Prim.Native.Nat.{ℕ, zero, suc, ◌+◌, ◌*◌, ◌≤◌, ◌<◌}
use Rattle.std.proofs.lemmas.List.Edits.{sets}
use Rattle.laws.specs.Tables.{rows}
use Rattle.laws.specs.Tests.{◌and◌, choose}
use Rattle.laws.specs.TestLaws.{and_left, and_right}
use Rattle.rules.specs.Text.{Bytes, Reading, refused, accepted, then}
use Rattle.rules.specs.Graph.{node_count}
use Rattle.rules.specs.ProgramFile.{Listing, read_listing, read_program}
use Rattle.rules.specs.Job.{of_stage, outcome, read_old_answer, success}
use Rattle.graph.specs.Table.{node_row, nodes_after}
use Rattle.reader.specs.Result.{Count, InTable}
use Rattle.records.specs.declared.Node.{Node}
use Rattle.records.specs.Jobs.{fresh, job_self}
use Rattle.records.specs.Nodes.{flat, node_at, nodes_of}
use Rattle.records.specs.NodeLaws.{flat_append, flat_sets}
use Rattle.lent_job.specs.ReadOld.{roomy, fresh_due, old_due, node_record, node_records, old_read, past_due, read_answer}

-- ---- the records

-- The numbers of the records are the rows of the nodes.
pub flat_records : (s : Listing) (k : ℕ) → flat (node_records s k) ≡ rows (node_row s) k
unfolding flat node_records rows
flat_records s zero = refl
flat_records s (suc k) = flat_append (node_records s k) (node_record s k ∷ []) ∙ ap (λ (l : List ℕ). l ++ node_row s k) (flat_records s k)

-- Records stored into lent ones are, in numbers, what reading leaves.
pub records_after : (s : Listing) (ns : List Node) → flat (sets ns 0 (node_records s (node_count s.program))) ≡ nodes_after s (flat ns)
unfolding nodes_after
records_after s ns = flat_sets (node_records s (node_count s.program)) ns 0 ∙ ap (sets (flat ns) 0) (flat_records s (node_count s.program))

-- The records that stand in a work table.
module _ (w : List ℕ) (c : Count) (s : Listing) (h : InTable w c s) where
  record_is : (i : ℕ) → i < node_count s.program → node_at w i ≡ node_record s i
  record_is i l =
      let at : (k : ℕ) → k < 4 → get_or w (4 * i + k) 0 ≡ get_or (node_row s i) k 0 = h.nodes i l in
      let z : 4 * i + 0 ≡ 4 * i = add-zero (4 * i) in
      rw (ap (λ (k : ℕ). get_or w k 0) (sym z) ∙ at 0 (omega arith), at 1 (omega arith), at 2 (omega arith), at 3 (omega arith))

  pub records_are : (k : ℕ) → k ≤ node_count s.program → nodes_of w k ≡ node_records s k
  unfolding nodes_of node_records
  records_are zero l = refl
  records_are (suc k) l = ap₂ (λ (x : List Node) (y : Node). x ++ (y ∷ [])) (records_are k (omega arith)) (record_is k l)

-- ---- what is due before a call: 13 by the stage, 14 by the lengths, then d

-- Where nothing is due the stage is right, the lengths are enough, and d is 0.
pub none_due : (t u : Bool) (d : ℕ) → choose t (choose u d 14) 13 ≡ 0 → (t ≡ true) × (u ≡ true) × (d ≡ 0)
unfolding choose
none_due true true d h = (refl, refl, h)
none_due true false d h = absurd (let z : ⊥ = omega (arith, h) in z)
none_due false u d h = absurd (let z : ⊥ = omega (arith, h) in z)

pub roomy_parts : (a b n l w : ℕ) → roomy a b n l w ≡ true → (a ≤ n) × (b ≤ l) × (8128 ≤ w)
unfolding roomy
roomy_parts a b n l w h =
    let r = and_right _ _ h in (leb-true a n (and_left _ _ h), leb-true b l (and_left _ _ r), leb-true 8128 w (and_right _ _ r))

-- ---- the answer

-- The answer of reading is that of the definition of the call.
pub answer_old : (text : Bytes) → read_answer (read_listing text) ≡ read_old_answer text
unfolding read_old_answer read_program outcome then
answer_old text = by_case (read_listing text)
  where
    by_case : (x : Reading Listing) → read_answer x ≡ outcome (then x (λ s. accepted s.program)) (λ p. success)
    by_case (refused k p) = refl
    by_case (accepted s) = refl

-- For a fresh job and tables that are long enough nothing is due before reading.
pub read_fresh : (n l w : ℕ) (text : Bytes) → 512 ≤ n → 6080 ≤ l → 8128 ≤ w → old_read fresh n l w text ≡ read_listing text
unfolding past_due old_due fresh_due roomy of_stage ◌and◌ choose
read_fresh n l w text hn hl hw = simp (le-leb 512 n hn, le-leb 6080 l hl, le-leb 8128 w hw, job_self fresh)
