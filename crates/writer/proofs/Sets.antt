-- The turns and the returns of the loops over edges and over tests.
use mathlib.Core.Path.{◌≡◌, sym, ap, ◌∙◌}
use mathlib.Core.Bool.{Bool, true, false}
use mathlib.Core.List.{List, [], ◌∷◌, ◌++◌, map, map-append}
use Prim.Native.Nat.{ℕ, ◌+◌, ◌*◌, ◌^◌, ◌≤◌, ◌<◌}
use native.Mathlib.Omega.{arith}
use lib.ListN.{length, take, length-take}
use Rattle.laws.specs.Tests.{those}
use Rattle.laws.specs.Bits.{bit_in}
use Rattle.rules.specs.Text.{Bytes, text_of}
use Rattle.rules.specs.Sheet.{r_text}
use Rattle.coverage.specs.Rows.{row_meets}
use Rattle.suite.specs.Reading.{name_at}
use Rattle.writer.specs.Writes.{Writes, writes_none, writes_then}
use Rattle.writer.specs.Laws.{text_append, those_more, those_skip}
use Rattle.writer.specs.Texts.{edge_line, edge_text, short_name, repeat_text}

-- ---- the lines of the numbers below n that pass, one more

module _ (g : ℕ → Bool) (n : ℕ) (f : ℕ → Bytes) where
  lines_more : g n ≡ true → text_of (map f (those (n + 1) g)) ≡ text_of (map f (those n g)) ++ text_of (f n ∷ [])
  lines_more e =
      ap (λ (l : List ℕ). text_of (map f l)) (those_more g n e) ∙ ap text_of (map-append f (those n g) (n ∷ [])) ∙ text_append (map f (those n g)) (f n ∷ [])

  lines_skip : g n ≡ false → text_of (map f (those (n + 1) g)) ≡ text_of (map f (those n g))
  lines_skip e = ap (λ (l : List ℕ). text_of (map f l)) (those_skip g n e)

  module _ {o o₁ : List ℕ} {at k : ℕ} (m : ℕ) (inv : Writes o at (text_of (map f (those n g))) (m * n) k o₁) where
    turn_on : {o₂ : List ℕ} {r : ℕ} → g n ≡ true → Writes o₁ k (text_of (f n ∷ [])) m r o₂ → Writes o at (text_of (map f (those (n + 1) g))) (m * (n + 1)) r o₂
    turn_on e p = let q : m * (n + 1) ≡ m * n + m = omega arith in rw (lines_more e, q) (writes_then inv p)

    turn_skip : g n ≡ false → Writes o at (text_of (map f (those (n + 1) g))) (m * (n + 1)) k o₁
    turn_skip e = rw (lines_skip e) (record { puts = inv.puts; within = omega (arith, inv.within) })

-- ---- edges

module _ (b : ℕ) (set : List ℕ) (e : ℕ) (t : Bool) (is : t ≡ bit_in set e) {o o₁ : List ℕ} {at k : ℕ} (inv : Writes o at (edge_text b set e) (23 * e) k o₁) where
  pub edges_on : {o₂ : List ℕ} {r : ℕ} → t ≡ true → Writes o₁ k (text_of (edge_line b e ∷ [])) 23 r o₂ → Writes o at (edge_text b set (e + 1)) (23 * (e + 1)) r o₂
  unfolding edge_text
  edges_on y p = turn_on (bit_in set) e (edge_line b) 23 inv (sym is ∙ y) p

  pub edges_skip : t ≡ false → Writes o at (edge_text b set (e + 1)) (23 * (e + 1)) k o₁
  unfolding edge_text
  edges_skip y = turn_skip (bit_in set) e (edge_line b) 23 inv (sym is ∙ y)

module _ (o : List ℕ) (b : ℕ) (set : List ℕ) (at : ℕ) where
  pub edges_none : Writes o at (edge_text b set 0) 0 at o
  unfolding edge_text those text_of
  edges_none = writes_none o at

pub edges_room : {o o₁ vs : List ℕ} {at k e : ℕ} (edges : ℕ) → Writes o at vs (23 * e) k o₁ → e < edges → edges ≤ 1024 → at ≤ 2 ^ 31 → k ≤ 2 ^ 32
edges_room edges p h l s = omega (arith, p.within)

pub edges_done : (b : ℕ) (set : List ℕ) (e edges : ℕ) {o o₁ : List ℕ} {at k : ℕ} → Writes o at (edge_text b set e) (23 * e) k o₁ → e ≤ edges → edges ≤ e
    → Writes o at (edge_text b set edges) (23 * edges) k o₁
edges_done b set e edges p h l = let q : e ≡ edges = omega arith in rw q at p

pub ruleset edges = (edges_on, edges_skip, edges_none, edges_room, edges_done)

-- ---- tests

pub name_is : (text tests s r : List ℕ) (i : ℕ) → s ≡ name_at text tests i → r ≡ take 12 s → r ≡ short_name text tests i
unfolding short_name
name_is text tests s r i e f = f ∙ ap (take 12) e

pub name_short : (text tests r : List ℕ) (i : ℕ) → r ≡ short_name text tests i → length r ≤ 12
unfolding short_name
name_short text tests r i e = rw e (omega (arith, length-take 12 (name_at text tests i)))

module _ (text tests rows set : List ℕ) (i : ℕ) (t : Bool) (is : t ≡ row_meets rows set i) {o o₁ : List ℕ} {at k : ℕ} (inv : Writes o at (repeat_text text tests rows set i) (15 * i) k o₁) where
  pub repeats_on : {o₂ name : List ℕ} {r : ℕ} → t ≡ true → name ≡ short_name text tests i → Writes o₁ k (text_of (r_text name ∷ [])) 15 r o₂
      → Writes o at (repeat_text text tests rows set (i + 1)) (15 * (i + 1)) r o₂
  unfolding repeat_text
  repeats_on y e p = turn_on (row_meets rows set) i (λ i. r_text (short_name text tests i)) 15 inv (sym is ∙ y) (rw e at p)

  pub repeats_skip : t ≡ false → Writes o at (repeat_text text tests rows set (i + 1)) (15 * (i + 1)) k o₁
  unfolding repeat_text
  repeats_skip y = turn_skip (row_meets rows set) i (λ i. r_text (short_name text tests i)) 15 inv (sym is ∙ y)

module _ (o text tests rows set : List ℕ) (at : ℕ) where
  pub repeats_none : Writes o at (repeat_text text tests rows set 0) 0 at o
  unfolding repeat_text those text_of
  repeats_none = writes_none o at

pub repeats_room : {o o₁ vs : List ℕ} {at k i : ℕ} (n : ℕ) → Writes o at vs (15 * i) k o₁ → i < n → n ≤ 200 → at ≤ 2 ^ 31 → k ≤ 2 ^ 32
repeats_room n p h l s = omega (arith, p.within)

pub repeats_done : (text tests rows set : List ℕ) (i n : ℕ) {o o₁ : List ℕ} {at k : ℕ} → Writes o at (repeat_text text tests rows set i) (15 * i) k o₁ → i ≤ n → n ≤ i
    → Writes o at (repeat_text text tests rows set n) (15 * n) k o₁
repeats_done text tests rows set i n p h l = let q : i ≡ n = omega arith in rw q at p

pub ruleset tests = (name_is, name_short, repeats_on, repeats_skip, repeats_none, repeats_room, repeats_done)
