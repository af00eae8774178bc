-- Where the parts of a line of a program file stand in the text.
use Rattle.std.specs.Prelude.{◌≡◌, ℕ, ◌+◌, ◌≤◌, take, drop}
use Rattle.std.proofs.Math.Path.{refl, sym, ap}
use Rattle.std.proofs.Common.{◌∙◌, arith, take-append-drop, length-take-le}
use mathlib.Core.List.{[], ◌∷◌, ◌++◌, append_assoc, append-nil}
use Rattle.std.proofs.Math.ListN.{length, length-append}
use Rattle.rules.specs.Text.{Bytes, bytes, fields_of, commas, join_by}
use Rattle.rules.specs.ProgramFile.{Line, proc_line, node_line, edge_line, malformed, form_of}
use Rattle.rules.specs.Layout.{kind_field}
use Rattle.rules.specs.Places.{Part}
use Rattle.rules.proofs.Places.{kind_long}
use Rattle.rules.specs.Kept.{Formed}
use Rattle.rules.proofs.ProgramLaws.{formed}
use Rattle.rules.proofs.TextLaws.{join_split}

-- The parts of a line that begins at the offset `at` stand in the text. Of a B line none is sought there again.
abbrev pub Stands : Bytes → ℕ → Line → Type 0
Stands text at (proc_line name) = Part text (at + 2) name
Stands text at (node_line kind label callee) = Part text (at + 4) label × Part text (at + 4 + length label + 1) callee
Stands text at (edge_line from word to) = Unit {0}
Stands text at malformed = Unit {0}

-- The line l stands in the text at the offset `at`.
module _ (text l : Bytes) (at : ℕ) (inside : at + length l ≤ length text) (here : take (length l) (drop at text) ≡ l) where
  -- So does each part of it, as far behind.
  pub part_stands : (a w b : Bytes) (i : ℕ) → l ≡ a ++ (w ++ b) → i ≡ at + length a → Part text i w
  part_stands a w b i e k =
      let rest : Bytes = drop (length l) (drop at text) in
      let split : text ≡ take at text ++ (l ++ rest) =
      sym (take-append-drop at text)
      ∙ ap (λ (r : Bytes). take at text ++ r) (sym (take-append-drop (length l) (drop at text)) ∙ ap (λ (r : Bytes). r ++ rest) here) in
      record {
        front = take at text ++ a;
        back = b ++ rest;
        text_is = split
            ∙ ap (λ (r : Bytes). take at text ++ (r ++ rest)) e
            ∙ ap (λ (r : Bytes). take at text ++ r) (append_assoc a (w ++ b) rest ∙ ap (λ (r : Bytes). a ++ r) (append_assoc w b rest))
            ∙ sym (append_assoc (take at text) a (w ++ (b ++ rest)));
        offset = omega (arith, length-append (take at text) a, length-take-le at text (omega arith));
      }

  formed_stands : (x : Line) → Formed (fields_of l) x → Stands text at x
  unfolding join_by
  formed_stands (proc_line name) f =
      let is : l ≡ bytes "P," ++ (name ++ []) = sym (join_split 44 l) ∙ ap commas f.0 ∙ ap (λ (r : Bytes). bytes "P," ++ r) (sym (append-nil name)) in
      part_stands (bytes "P,") name [] _ is refl
  formed_stands (node_line kind label callee) f =
      let a : Bytes = bytes "N," ++ (kind_field kind ++ (44 ∷ [])) in
      let is : l ≡ a ++ (label ++ (44 ∷ callee)) =
      sym (join_split 44 l) ∙ ap commas f.0 ∙ ap (λ (r : Bytes). bytes "N," ++ r) (sym (append_assoc (kind_field kind) (44 ∷ []) (label ++ (44 ∷ callee)))) in
      let long : length a ≡ 4 = omega (arith, kind_long kind, length-append (kind_field kind) (44 ∷ [])) in
      let b : Bytes = a ++ (label ++ (44 ∷ [])) in
      let ends : l ≡ b ++ (callee ++ []) =
      is
      ∙ ap (λ (r : Bytes). a ++ r) (sym (append_assoc label (44 ∷ []) callee))
      ∙ sym (append_assoc a (label ++ (44 ∷ [])) callee)
      ∙ ap (λ (r : Bytes). b ++ r) (sym (append-nil callee)) in
      let longer : length b ≡ 4 + (length label + 1) = omega (arith, length-append a (label ++ (44 ∷ [])), length-append label (44 ∷ [])) in
      (part_stands a label (44 ∷ callee) _ is (omega arith), part_stands b callee [] _ ends (omega arith))
  formed_stands (edge_line from word to) f = tt
  formed_stands malformed f = tt

-- Where a line stands in the text, its parts do.
pub line_stands : (text l : Bytes) (at : ℕ) → at + length l ≤ length text → take (length l) (drop at text) ≡ l → Stands text at (form_of (fields_of l))
line_stands text l at h e = formed_stands text l at h e (form_of (fields_of l)) (formed (fields_of l))
