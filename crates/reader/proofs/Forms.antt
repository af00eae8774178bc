-- The functions that split a line: what they take is what the definition finds in it.
use mathlib.Core.Path.{◌≡◌, refl, sym, ap, ◌∙◌, subst}
use mathlib.Core.Bool.{Bool, true}
use mathlib.Core.List.{List, [], ◌∷◌}
use Prim.Native.Nat.{ℕ, ◌+◌, ◌≤◌, ◌<◌}
use native.Mathlib.Omega.{arith}
use lib.ListN.{length, take, drop, length-drop}
use Rattle.std.specs.Prelude.{Some}
use Rattle.rules.specs.Text.{Bytes, is_name, is_word, same, split}
use Rattle.rules.specs.ProgramFile.{Line, proc_line, node_line, malformed, form_of, take_line}
use Rattle.text.specs.NumberLaws.{number_read, number_kept}
use Rattle.text.specs.Scans.{span}
use Rattle.lines.specs.declared.Kind.{Kind}
use Rattle.lines.specs.Kinds.{kind_meant, node_kind}
use Rattle.lines.specs.Forms.{edge_is, node_is, proc_is, says_edge, says_node, says_proc, unsaid}
use Rattle.reader.specs.Result.{Count}
use Rattle.reader.specs.Reading.{Stepped, Took, Added, AddedEdge, Refused}

-- What stands behind the first bytes is no longer than all of them.
pub rest_room : (s r : Bytes) (n : ℕ) → r ≡ drop n s → length s ≤ 65536 → length r ≤ 65536
rest_room s r n e h = omega (arith, ap length e, length-drop n s)

-- ---- a line that says nothing

module _ (n at : ℕ) (x : Line) (c : Count) (w : List ℕ) (r : Count) (w' : List ℕ) (e : x ≡ malformed) (q : Refused 2 n r) where
  refusal : (text : Bytes) → Stepped text n at x c w r w'
  unfolding Stepped take_line
  refusal text s k h = rw e (q.number_is, q.place_is, omega arith)

  pub none_added : Added n at x c w r w'
  none_added = record { stepped = refusal; small = q.small }

  pub none_took : (text : Bytes) → Took text n at x c w r w'
  none_took text = record { stepped = refusal text; small = q.small }

-- ---- `proc_line`, `node_line`, `edge_line`

module _ (n at : ℕ) (c : Count) (w : List ℕ) (r : Count) (w' : List ℕ) where
  as_took : (text : Bytes) (x y : Line) → x ≡ y → Took text n at y c w r w' → Took text n at x c w r w'
  as_took text x y e q = subst (λ (z : Line). Took text n at z c w r w') (sym e) q

  as_added : (x y : Line) → x ≡ y → Added n at y c w r w' → Added n at x c w r w'
  as_added x y e q = subst (λ (z : Line). Added n at z c w r w') (sym e) q

  pub proc_took : (text s : Bytes) (t : Bool) → t ≡ is_name s → t ≡ true → Took text n at (proc_line s) c w r w' → Took text n at (form_of ((80 ∷ []) ∷ split 44 s)) c w r w'
  proc_took text s t e y q = as_took text _ _ (proc_is s t e y) q

  module _ (s a : Bytes) (ea : a ≡ take (span 44 s) s) (rest b : Bytes) (h : length a < length s) (er : rest ≡ drop (length a + 1) s) (eb : b ≡ take (span 44 rest) rest)
      (d : Bytes) (k : length b < length rest) (ed : d ≡ drop (length b + 1) rest) where
    pub node_added : (i : Kind) → Some i ≡ node_kind a b d → Added n at (node_line (kind_meant i) b d) c w r w' → Added n at (form_of ((78 ∷ []) ∷ split 44 s)) c w r w'
    node_added i e q = as_added _ _ (node_is s a ea rest b h er eb d k ed i e) q

    pub edge_added : (i : ℕ) → Some i ≡ number_read a → (j : ℕ) → Some j ≡ number_read d → (t : Bool) → t ≡ is_word b → t ≡ true
        → AddedEdge n i (at + length a + 3) b j c w r w' → Added n at (form_of ((66 ∷ []) ∷ split 44 s)) c w r w'
    edge_added i ei j ej t et y q =
        as_added _ _ (edge_is s a ea rest b h er eb d k ed i ei j ej t et y) (record {
          stepped = λ text. q.stepped text at a d (number_kept a i ei) (number_kept d j ej) refl (sym et ∙ y);
          small = q.small;
        })

-- ---- `step`

module _ (text : Bytes) (n at : ℕ) (l f rest : Bytes) (ef : f ≡ take 2 l) (er : rest ≡ drop 2 l) (c : Count) (w : List ℕ) (r : Count) (w' : List ℕ) (t : Bool) where
  pub took_node : t ≡ same f (78 ∷ 44 ∷ []) → t ≡ true → Added n at (form_of ((78 ∷ []) ∷ split 44 rest)) c w r w' → Took text n at (form_of (split 44 l)) c w r w'
  took_node e y q = as_took n at c w r w' text _ _ (says_node l f rest ef er t e y) (record { stepped = q.stepped text; small = q.small })

  pub took_edge : t ≡ same f (66 ∷ 44 ∷ []) → t ≡ true → Added n at (form_of ((66 ∷ []) ∷ split 44 rest)) c w r w' → Took text n at (form_of (split 44 l)) c w r w'
  took_edge e y q = as_took n at c w r w' text _ _ (says_edge l f rest ef er t e y) (record { stepped = q.stepped text; small = q.small })

  pub took_proc : t ≡ same f (80 ∷ 44 ∷ []) → t ≡ true → Took text n at (form_of ((80 ∷ []) ∷ split 44 rest)) c w r w' → Took text n at (form_of (split 44 l)) c w r w'
  took_proc e y q = as_took n at c w r w' text _ _ (says_proc l f rest ef er t e y) q

pub ruleset splits = (rest_room, none_added, none_took, unsaid, proc_took, node_added, edge_added, took_node, took_edge, took_proc)
