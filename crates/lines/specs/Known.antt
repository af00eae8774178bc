-- What is known of a listing while a text is read: its program is sound, and its parts stand in the text.
use Rattle.std.specs.Prelude.{◌≡◌, refl, List, [], ◌∷◌, ◌++◌, ℕ, suc, ◌+◌, ◌<◌, length, get_or}
use Rattle.std.proofs.Common.{sym, ap, ◌∙◌, subst, ⊎_elim, arith}
use Rattle.laws.specs.Lists.{snoc_length, snoc_cases, snoc_old, snoc_new}
use Rattle.laws.specs.TestLaws.{none_below}
use Rattle.rules.specs.Text.{Bytes, fields_of, value, accepted}
use Rattle.rules.specs.Graph.{Node, Edge, no_node, no_edge, name_at, label_at, callee_at, proc_count, node_count, edge_count}
use Rattle.rules.specs.ProgramFile.{Line, proc_line, node_line, edge_line, malformed, form_of, Listing, nothing_read, current, take_line, step_program}
use Rattle.rules.specs.Places.{Part}
use Rattle.rules.specs.Kept.{Sound}
use Rattle.rules.proofs.ProgramLaws.{sound_none, sound_step}
use Rattle.rules.specs.Kept.{after_line}
use Rattle.rules.proofs.Places.{line_taken}
use Rattle.lines.specs.Stands.{Stands}

pub record Known (text : Bytes) (s : Listing) : Type 0 where
  pub sound : Sound s.program
  -- each name, label and callee field stands in the text
  pub names : (q : ℕ) → q < proc_count s.program → Part text (get_or s.places.name_starts q 0) (name_at s.program q)
  pub labels : (n : ℕ) → n < node_count s.program → Part text (get_or s.places.label_starts n 0) (label_at s.program n)
  pub callees : (n : ℕ) → n < node_count s.program
      → Part text (get_or s.places.label_starts n 0 + length (label_at s.program n) + 1) (callee_at s.program n)
  -- each list of places has one for each procedure, node or edge
  pub name_starts : length s.places.name_starts ≡ proc_count s.program
  pub proc_lines : length s.places.proc_lines ≡ proc_count s.program
  pub label_starts : length s.places.label_starts ≡ node_count s.program
  pub node_lines : length s.places.node_lines ≡ node_count s.program
  pub word_starts : length s.places.word_starts ≡ edge_count s.program

-- ---- nothing read

pub known_none : (text : Bytes) → Known text nothing_read
known_none text =
    record {
      sound = sound_none;
      names = λ q h. none_below q h;
      labels = λ n h. none_below n h;
      callees = λ n h. none_below n h;
      name_starts = refl;
      proc_lines = refl;
      label_starts = refl;
      node_lines = refl;
      word_starts = refl;
    }

-- ---- one value more, with its number

module _ {A : Type 0} (d : A) (vs : List A) (v : A) (ns : List ℕ) (i : ℕ) (counted : length ns ≡ length vs) where
  -- There is still a number for each.
  pub counted_snoc : length (ns ++ (i ∷ [])) ≡ length (vs ++ (v ∷ []))
  counted_snoc = snoc_length 0 ns i ∙ ap suc counted ∙ sym (snoc_length d vs v)

  -- What holds of each number and its value, and of one more, holds of each of the longer lists.
  pub both_snoc : (P : ℕ → A → Type 0) → ((n : ℕ) → n < length vs → P (get_or ns n 0) (get_or vs n d)) → P i v
      → (n : ℕ) → n < length (vs ++ (v ∷ [])) → P (get_or (ns ++ (i ∷ [])) n 0) (get_or (vs ++ (v ∷ [])) n d)
  both_snoc P h p n l =
      ⊎_elim
      (λ k. rw (snoc_old 0 ns i n (omega (arith, counted)), snoc_old d vs v n k) (h n k))
      (λ (k : n ≡ length vs).
      let a : get_or (ns ++ (i ∷ [])) n 0 ≡ i = rw (k ∙ sym counted) (snoc_new 0 ns i) in
      let b : get_or (vs ++ (v ∷ [])) n d ≡ v = rw k (snoc_new d vs v) in
      rw (a, b) p) (snoc_cases d vs v n l)

-- ---- a line

known_after : (text : Bytes) (n at : ℕ) (s : Listing) (l : Line) → Known text s → Sound (after_line n at s l).program → Stands text at l → Known text (after_line n at s l)
known_after text n at s (proc_line name) k h p =
    record {
      sound = h;
      names = both_snoc [] s.program.procs name s.places.name_starts (at + 2) k.name_starts (λ (i : ℕ) (w : Bytes). Part text i w) k.names p;
      labels = k.labels;
      callees = k.callees;
      name_starts = counted_snoc [] s.program.procs name s.places.name_starts (at + 2) k.name_starts;
      proc_lines = counted_snoc [] s.program.procs name s.places.proc_lines n k.proc_lines;
      label_starts = k.label_starts;
      node_lines = k.node_lines;
      word_starts = k.word_starts;
    }
known_after text n at s (node_line kind label callee) k h p =
    let v : Node = record { owner = current s.program; kind = kind; label = label; callee = callee } in
    record {
      sound = h;
      names = k.names;
      labels = both_snoc no_node s.program.nodes v s.places.label_starts (at + 4) k.label_starts (λ (i : ℕ) (v : Node). Part text i v.label) k.labels p.0;
      callees = both_snoc no_node s.program.nodes v s.places.label_starts (at + 4) k.label_starts
          (λ (i : ℕ) (v : Node). Part text (i + length v.label + 1) v.callee) k.callees p.1;
      name_starts = k.name_starts;
      proc_lines = k.proc_lines;
      label_starts = counted_snoc no_node s.program.nodes v s.places.label_starts (at + 4) k.label_starts;
      node_lines = counted_snoc no_node s.program.nodes v s.places.node_lines n k.node_lines;
      word_starts = k.word_starts;
    }
known_after text n at s (edge_line from word to) k h p =
    let x : Edge = record { source = value from; word = word; target = value to } in
    record {
      sound = h;
      names = k.names;
      labels = k.labels;
      callees = k.callees;
      name_starts = k.name_starts;
      proc_lines = k.proc_lines;
      label_starts = k.label_starts;
      node_lines = k.node_lines;
      word_starts = counted_snoc no_edge s.program.edges x s.places.word_starts (at + length from + 3) k.word_starts;
    }
known_after text n at s malformed k h p = k

-- A line that stands in the text and is accepted keeps it.
pub known_line : (text l : Bytes) (n at : ℕ) (s t : Listing) → Known text s → Stands text at (form_of (fields_of l)) → take_line n at s (form_of (fields_of l)) ≡ accepted t → Known text t
unfolding step_program
known_line text l n at s t k p e =
    let q : after_line n at s (form_of (fields_of l)) ≡ t = sym (line_taken n at s (form_of (fields_of l)) t e) in
    let h : Sound t.program = sound_step n at s l t k.sound e in
    subst (λ (x : Listing). Known text x) q
    (known_after text n at s (form_of (fields_of l)) k (subst (λ (x : Listing). Sound x.program) (sym q) h) p)
