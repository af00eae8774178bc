-- The turns and the returns of the loops over a table of pairs.
use mathlib.Core.Path.{◌≡◌, refl, ap, ◌∙◌}
use mathlib.Core.Bool.{Bool}
use mathlib.Core.List.{List, [], ◌∷◌, ◌++◌, map, map-append}
use Prim.Native.Nat.{ℕ, suc, ◌+◌, ◌-◌, ◌^◌, ◌≤◌, ◌<◌}
use native.Mathlib.Numerals.{add-one}
use native.Mathlib.Omega.{arith}
use lib.Dec.{leb}
use lib.ListN.{length}
use Rattle.laws.specs.Tests.{◌and◌, first, found, grid, grid_row, listed, pick}
use Rattle.laws.specs.Slices.{below_or}
use Rattle.rules.specs.Text.{Bytes, text_of}
use Rattle.rules.specs.Sheet.{m_text}
use Rattle.text.specs.Puts.{puts_none, puts_then}
use Rattle.pairset.specs.Store.{NextPartner, Store, pairs_in}
use Rattle.writer.specs.Writes.{Writes, writes_length}
use Rattle.writer.specs.Texts.{pair_text, partners_text, table_text}
use Rattle.writer.specs.Laws.{next_between, next_from, next_in, next_none, next_passes, pick_append, row_one, row_skip, text_append}
use Rattle.writer.specs.Claims.{NewBelow, Pairs, PairsPut, Partners, PartnersPut}

-- ---- the lines of a row

pair_append : (l k : List (ℕ × ℕ)) → pair_text (l ++ k) ≡ pair_text l ++ pair_text k
unfolding pair_text
pair_append l k = ap text_of (map-append (λ (x : ℕ × ℕ). m_text x.0 x.1) l k) ∙ text_append (map (λ (x : ℕ × ℕ). m_text x.0 x.1) l) _

pair_one : (a n : ℕ) → pair_text ((a, n) ∷ []) ≡ text_of (m_text a n ∷ [])
unfolding pair_text
pair_one a n = refl

-- The lines of a row up to the next partner, and where there is none.
module _ (w : List ℕ) (c a b from m : ℕ) (e : m ≡ found (first b (λ j. leb from j and listed (pairs_in w c) a j))) where
  partners_more : 0 < m → partners_text w c a m ≡ partners_text w c a from ++ text_of (m_text a (m - 1) ∷ [])
  unfolding partners_text
  partners_more h =
      let f : ℕ → ℕ → Bool = listed (pairs_in w c) in
      let q : m ≡ suc (m - 1) = omega arith in
      let l : from < m = next_from (f a) b from m e h in
      ap (λ (n : ℕ). pair_text (pick f (grid_row a n))) q
      ∙ ap pair_text (row_one f a (m - 1) (next_passes (f a) b from m e h))
      ∙ pair_append (pick f (grid_row a (m - 1))) ((a, m - 1) ∷ [])
      ∙ ap (λ (l : List (ℕ × ℕ)). pair_text l ++ pair_text ((a, m - 1) ∷ [])) (row_skip f a from (m - 1) (omega arith) (next_between (f a) b from m e h))
      ∙ ap (λ (t : Bytes). pair_text (pick f (grid_row a from)) ++ t) (pair_one a (m - 1))

  partners_end : m ≤ from → from ≤ b → partners_text w c a b ≡ partners_text w c a from
  unfolding partners_text
  partners_end h k =
      let f : ℕ → ℕ → Bool = listed (pairs_in w c) in
      below_or 0 m (λ p. absurd (let z : ⊥ = omega (arith, next_from (f a) b from m e p) in z))
      (λ p. ap pair_text (row_skip f a from b k (next_none (f a) b from m e (omega arith))))

-- ---- `put_partners`

pub partners_none : (o w : List ℕ) (at a b : ℕ) → PartnersPut o at w a b 0 at o
unfolding Partners partners_text pair_text grid_row pick text_of
partners_none o w at a b = record { puts = λ c s n. puts_none o at; within = omega arith; size = refl }

module _ {o o₁ w : List ℕ} {at a b from k : ℕ} (inv : PartnersPut o at w a b from k o₁) where
  pub partners_room : from < b → b ≤ 512 → at ≤ 2 ^ 31 → k ≤ 2 ^ 32
  partners_room h l s = omega (arith, inv.within)

  module _ (m : ℕ) (next : NextPartner w a from m) (few : b ≤ 512) where
    -- What is found, for a table that holds c pairs.
    found_is : (c : ℕ) → Store w c → NewBelow w c b → m ≡ found (first b (λ j. leb from j and listed (pairs_in w c) a j))
    unfolding NextPartner NewBelow
    found_is c s n = next c b s few n

    pub partners_on : {o₂ : List ℕ} {r : ℕ} → from < m → m ≤ b → Writes o₁ k (text_of (m_text a (m - 1) ∷ [])) 44 r o₂ → PartnersPut o at w a b m r o₂
    unfolding Partners
    partners_on h l p =
        record {
          puts = λ c s n. rw (partners_more w c a b from m (found_is c s n) (omega arith)) (puts_then (inv.puts c s n) p.puts);
          within = omega (arith, inv.within, p.within);
          size = writes_length p ∙ inv.size;
        }

    pub partners_out : from ≤ b → m ≤ from → PartnersPut o at w a b b k o₁
    unfolding Partners
    partners_out h l =
        record {
          puts = λ c s n. rw (partners_end w c a b from m (found_is c s n) l h) (inv.puts c s n);
          within = omega (arith, inv.within);
          size = inv.size;
        }

    -- A partner past the new nodes is none of a table of pairs.
    pub partners_over : from ≤ b → b < m → PartnersPut o at w a b b k o₁
    unfolding Partners
    partners_over h l =
        record {
          puts = λ c s n. absurd (let z : ⊥ = omega (arith, next_in (listed (pairs_in w c) a) b from m (found_is c s n) (omega arith)) in z);
          within = omega (arith, inv.within);
          size = inv.size;
        }

pub partners_size : {o o₁ w : List ℕ} {at a b n k : ℕ} → PartnersPut o at w a b n k o₁ → length o₁ ≡ length o
partners_size p = p.size

pub ruleset partners = (partners_none, partners_room, partners_on, partners_out, partners_over, partners_size)

-- ---- `put_pairs`

table_more : (w : List ℕ) (c a b : ℕ) → table_text w c (a + 1) b ≡ table_text w c a b ++ partners_text w c a b
unfolding table_text partners_text grid
table_more w c a b =
    let f : ℕ → ℕ → Bool = listed (pairs_in w c) in
    ap (λ (n : ℕ). pair_text (pick f (grid n b))) (add-one a) ∙ ap pair_text (pick_append f (grid a b) (grid_row a b)) ∙ pair_append (pick f (grid a b)) (pick f (grid_row a b))

pub pairs_none : (o w : List ℕ) (at b : ℕ) → PairsPut o at w 0 b at o
unfolding Pairs table_text pair_text grid pick text_of
pairs_none o w at b = record { puts = λ c s n. puts_none o at; within = omega arith; size = refl }

module _ {o o₁ w : List ℕ} {at a b k : ℕ} (inv : PairsPut o at w a b k o₁) where
  pub pairs_room : (n : ℕ) → a < n → n ≤ 512 → at ≤ 2 ^ 30 → k ≤ 2 ^ 31
  pairs_room n h l s = omega (arith, inv.within)

  pub pairs_on : {o₂ : List ℕ} {r : ℕ} → b ≤ 512 → PartnersPut o₁ k w a b b r o₂ → PairsPut o at w (a + 1) b r o₂
  unfolding Partners Pairs
  pairs_on h p =
      record {
        puts = λ c s n. rw (table_more w c a b) (puts_then (inv.puts c s n) (p.puts c s n));
        within = omega (arith, inv.within, p.within);
        size = p.size ∙ inv.size;
      }

  pub pairs_done : (n : ℕ) → a ≤ n → n ≤ a → PairsPut o at w n b k o₁
  pairs_done n h l = let q : a ≡ n = omega arith in rw q at inv

pub pairs_size : {o o₁ w : List ℕ} {at a b k : ℕ} → PairsPut o at w a b k o₁ → length o₁ ≡ length o
pairs_size p = p.size

pub ruleset pairs = (pairs_none, pairs_room, pairs_on, pairs_done, pairs_size)
