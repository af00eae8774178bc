-- The lines, from the runs that the code writes.
use mathlib.Core.List.{List, [], ◌∷◌}
use Prim.Native.Nat.{ℕ, ◌+◌, ◌^◌, ◌≤◌, ◌<◌}
use native.Mathlib.Omega.{arith}
use lib.ListN.{length}
use Rattle.rules.specs.Text.{Bytes, decimal, join_by, text_of}
use Rattle.rules.proofs.TextLaws.{decimal_most}
use Rattle.rules.specs.Sheet.{end_text, head_text, m_text, r_text, v_text}
use Rattle.text.specs.Puts.{Puts, puts_then, puts_length}
use Rattle.writer.specs.Texts.{edge_line}
use Rattle.writer.specs.Writes.{Writes, writes_byte, writes_of, writes_then, writes_length}

-- A number has at most 20 digits.
decimal_fits : (x : ℕ) → x < 2 ^ 64 → length (decimal x) ≤ 20
decimal_fits x h = decimal_most 19 x (omega arith)

pub decimal_room : {o o₁ : List ℕ} {at b r : ℕ} (x : ℕ) → Puts o at (b ∷ []) r o₁ → at ≤ 2 ^ 33 → x < 2 ^ 64 → r + length (decimal x) < 2 ^ 64
decimal_room x p h k = omega (arith, decimal_fits x k, p.next)

-- ---- two runs

module _ {o o₁ o₂ : List ℕ} {at r₁ r₂ : ℕ} where
  pub field_puts : (x : ℕ) → x < 2 ^ 64 → Puts o at (44 ∷ []) r₁ o₁ → Puts o₁ r₁ (decimal x) r₂ o₂ → Writes o at (44 ∷ decimal x) 21 r₂ o₂
  field_puts x h p q = writes_of 21 (puts_then p q) (omega (arith, decimal_fits x h))

  pub head_puts : Puts o at head_text r₁ o₁ → Puts o₁ r₁ (10 ∷ []) r₂ o₂ → Writes o at (text_of (head_text ∷ [])) 8 r₂ o₂
  unfolding text_of
  head_puts p q = writes_of 8 (puts_then p q) (omega arith)

  pub repeat_puts : {name : Bytes} → Writes o at (82 ∷ 44 ∷ name) 14 r₁ o₁ → Puts o₁ r₁ (10 ∷ []) r₂ o₂ → Writes o at (text_of (r_text name ∷ [])) 15 r₂ o₂
  unfolding text_of r_text join_by
  repeat_puts p q = writes_byte p q

-- ---- three runs and more

module _ {o o₁ o₂ o₃ : List ℕ} {at r₁ r₂ r₃ : ℕ} where
  pub named_puts : {b : ℕ} {name : Bytes} → length name ≤ 12 → Puts o at (b ∷ []) r₁ o₁ → Puts o₁ r₁ (44 ∷ []) r₂ o₂ → Puts o₂ r₂ name r₃ o₃ → Writes o at (b ∷ 44 ∷ name) 14 r₃ o₃
  named_puts h p q n = writes_of 14 (puts_then p (puts_then q n)) (omega arith)

  pub edge_puts : (b e : ℕ) → Puts o at (b ∷ []) r₁ o₁ → Writes o₁ r₁ (44 ∷ decimal e) 21 r₂ o₂ → Puts o₂ r₂ (10 ∷ []) r₃ o₃ → Writes o at (text_of (edge_line b e ∷ [])) 23 r₃ o₃
  unfolding text_of edge_line join_by
  edge_puts b e p q n = writes_byte (writes_then (writes_of 1 p (omega arith)) q) n

module _ {o o₁ o₂ o₃ o₄ : List ℕ} {at r₁ r₂ r₃ r₄ : ℕ} where
  pub pair_puts : (n k : ℕ) → Puts o at (77 ∷ []) r₁ o₁ → Writes o₁ r₁ (44 ∷ decimal n) 21 r₂ o₂ → Writes o₂ r₂ (44 ∷ decimal k) 21 r₃ o₃ → Puts o₃ r₃ (10 ∷ []) r₄ o₄
      → Writes o at (text_of (m_text n k ∷ [])) 44 r₄ o₄
  unfolding text_of m_text join_by
  pair_puts n k p q s z = writes_byte (writes_then (writes_then (writes_of 1 p (omega arith)) q) s) z

  module _ {o₅ : List ℕ} {r₅ : ℕ} where
    pub end_puts : (m d r : ℕ) → Puts o at (101 ∷ 110 ∷ 100 ∷ []) r₁ o₁ → Writes o₁ r₁ (44 ∷ decimal m) 21 r₂ o₂ → Writes o₂ r₂ (44 ∷ decimal d) 21 r₃ o₃
        → Writes o₃ r₃ (44 ∷ decimal r) 21 r₄ o₄ → Puts o₄ r₄ (10 ∷ []) r₅ o₅ → Writes o at (text_of (end_text m d r ∷ [])) 67 r₅ o₅
    unfolding text_of end_text join_by
    end_puts m d r p q s t n =
        writes_byte (writes_then (writes_of 3 p (omega arith)) (writes_then q (writes_then s t))) n

    pub record_puts : {name marks : Bytes} (n : ℕ) → length marks ≤ 1024 → Writes o at (86 ∷ 44 ∷ name) 14 r₁ o₁ → Writes o₁ r₁ (44 ∷ decimal n) 21 r₂ o₂
        → Puts o₂ r₂ (44 ∷ []) r₃ o₃ → Puts o₃ r₃ marks r₄ o₄ → Puts o₄ r₄ (10 ∷ []) r₅ o₅ → Writes o at (text_of (v_text name n marks ∷ [])) 1061 r₅ o₅
    unfolding text_of v_text join_by
    record_puts {name} {marks} n h p q s t z =
        writes_byte (writes_then p (writes_then q (writes_of 1025 (puts_then s t) (omega arith)))) z

pub ruleset lines = (decimal_room, field_puts, head_puts, repeat_puts, named_puts, edge_puts, pair_puts, end_puts, record_puts, writes_length, puts_length)
