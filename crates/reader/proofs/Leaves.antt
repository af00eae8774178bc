-- The stores and the small look-ups: what each return shows.
use mathlib.Core.Path.{◌≡◌, sym, ap, ◌∙◌}
use mathlib.Core.Bool.{true, false, false≢true}
use mathlib.Core.List.{List, [], ◌∷◌}
use Rattle.std.specs.Prelude.{Option, Some, None, is_some}
use Rattle.laws.specs.Places.{place}
use Prim.Native.Nat.{ℕ, ◌+◌, ◌-◌, ◌*◌, ◌≤◌, ◌<◌}
use native.Mathlib.Omega.{arith}
use lib.ListN.{get_or, set}
use lib.Seq.{sets}
use borrow.Author.Tests.{eq-eqb, ne_eqb}
use Rattle.laws.specs.Lists.{choose_yes, choose_no}
use Rattle.reader.specs.Reading.{of_current, marked, stored_node, stored_edge}

-- `of_current`
pub of_none : (w : List ℕ) (procs k : ℕ) → procs ≡ 0 → 0 ≡ of_current w procs k
unfolding of_current
of_none w procs k e = sym (choose_yes _ _ (eq-eqb procs 0 e))

pub of_some : (w : List ℕ) (procs k r : ℕ) → (procs ≡ 0 → ⊥) → r ≡ get_or w (2048 + 7 * (procs - 1) + k) 0 → r ≡ of_current w procs k
unfolding of_current
of_some w procs k r e q = q ∙ sym (choose_no _ _ (ne_eqb procs 0 e))

-- `mark`
module _ (w w' : List ℕ) (kind q n : ℕ) where
  pub mark_entry : kind ≡ 0 → w' ≡ set w (2048 + 7 * q + 5) n → w' ≡ marked kind q n w
  unfolding marked
  mark_entry e p = p ∙ sym (choose_yes _ _ (eq-eqb kind 0 e))

  pub mark_exit : (kind ≡ 0 → ⊥) → kind ≡ 3 → w' ≡ set w (2048 + 7 * q + 6) n → w' ≡ marked kind q n w
  unfolding marked
  mark_exit z e p = p ∙ sym (choose_no _ _ (ne_eqb kind 0 z) ∙ choose_yes _ _ (eq-eqb kind 3 e))

pub mark_none : (w : List ℕ) (kind q n : ℕ) → (kind ≡ 0 → ⊥) → (kind ≡ 3 → ⊥) → w ≡ marked kind q n w
unfolding marked
mark_none w kind q n z e = sym (choose_no _ _ (ne_eqb kind 0 z) ∙ choose_no _ _ (ne_eqb kind 3 e))

-- `store_node`, `store_edge`
pub stored_node_lem : (w w₁ w₂ w₃ : List ℕ) (q c kind start len last : ℕ) → w₁ ≡ sets w (4 * c) (kind ∷ start ∷ len ∷ last ∷ []) → w₂ ≡ set w₁ (7616 + c) 0 → w₃ ≡ marked kind q c w₂
    → w₃ ≡ stored_node w q c kind start len last
unfolding stored_node
stored_node_lem w w₁ w₂ w₃ q c kind start len last a b d = d ∙ ap (marked kind q c) (b ∙ ap (λ (l : List ℕ). set l (7616 + c) 0) a)

pub stored_edge_lem : (w w₁ w₂ : List ℕ) (c from start key to head : ℕ) → head ≡ get_or w (7616 + from) 0 → w₁ ≡ sets w (2496 + 5 * c) (from ∷ start ∷ key ∷ to ∷ head ∷ []) → w₂ ≡ set w₁ (7616 + from) (c + 1)
    → w₂ ≡ stored_edge w c from start key to
unfolding stored_edge
stored_edge_lem w w₁ w₂ c from start key to head e a b =
    b ∙ ap (λ (l : List ℕ). set l (7616 + from) (c + 1)) (a ∙ ap (λ (h : ℕ). sets w (2496 + 5 * c) (from ∷ start ∷ key ∷ to ∷ h ∷ [])) e)

-- What was found is a place that is not 0.
pub place_some : (o : Option ℕ) → is_some o ≡ true → 0 < place o
place_some None e = absurd (false≢true e)
place_some (Some q) e = omega arith

pub place_none : (o : Option ℕ) → is_some o ≡ false → place o ≤ 0
place_none None e = omega arith
place_none (Some q) e = absurd (false≢true (sym e))

pub ruleset leaves = (of_none, of_some, mark_entry, mark_exit, mark_none, stored_node_lem, stored_edge_lem)
