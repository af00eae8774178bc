-- Laws over any lists and numbers: the numbers that pass, ascending, one more; the first that passes; what is picked of a row; ascending lists; lines of text; the lines of a set of
-- edges.
use Rattle.std.specs.Prelude.{◌≡◌, refl, ◌⊎◌, Bool, true, false, leb}
use Rattle.std.proofs.Common.{sym, ◌∙◌, subst, inl, inr, ⊎_elim, true≢false, add-zero, add-suc, arith, eqb-true, le-leb, leb-true}
use Rattle.std.proofs.Math.Path.{ap, ap₂}
use Rattle.std.proofs.Math.Option.{Option, none, some}
use mathlib.Core.List.{List, [], ◌∷◌, ◌++◌, map, append_assoc, append-nil, map-append}
use Prim.Native.Nat.{ℕ, zero, suc, ◌+◌, ◌-◌, ◌≤◌, ◌<◌}
use Rattle.std.proofs.Math.Numerals.{add-one}
use Rattle.laws.specs.Tests.{◌and◌, first, found, grid_row, has, if_true, keep, listed, or_else, pick, those}
use Rattle.laws.specs.TestLaws.{Ascending, Before, and_both, and_left, and_right, asc_more, asc_none, both_ways, eqb_self, fails, first_at, first_none, or_cases, or_left, same_test}
use Rattle.laws.specs.Lists.{none_listed, listed_rest}
use Rattle.laws.specs.Those.{those_agree, those_has}
use Rattle.laws.specs.Reach.{reached_first, reached_found, reached_onward}
use Rattle.laws.specs.Bits.{bit_in}
use Rattle.rules.specs.Text.{Bytes, text_of}
use Rattle.rules.specs.Graph.{Program, edge_count}
use Rattle.rules.specs.After.{edges_after}
use Rattle.rules.specs.Closing.{probes}
use Rattle.rules.specs.Sheet.{d_text, probes_text, q_text}
use Rattle.writer.specs.Texts.{edge_line, edge_text}

-- ---- lines

pub text_append : (ls ms : List Bytes) → text_of (ls ++ ms) ≡ text_of ls ++ text_of ms
unfolding text_of
text_append [] ms = refl
text_append (l ∷ ls) ms = ap (λ (t : Bytes). l ++ (10 ∷ t)) (text_append ls ms) ∙ sym (append_assoc l (10 ∷ text_of ls) (text_of ms))

pub text_more : (l : Bytes) (ls : List Bytes) → text_of (l ∷ ls) ≡ text_of (l ∷ []) ++ text_of ls
text_more l ls = text_append (l ∷ []) ls

-- ---- the numbers below n that pass

module _ (g : ℕ → Bool) (n : ℕ) where
  pub those_more : g n ≡ true → those (n + 1) g ≡ those n g ++ (n ∷ [])
  unfolding those
  those_more e = rw add-one (rw (e, those))

  pub those_skip : g n ≡ false → those (n + 1) g ≡ those n g
  unfolding those
  those_skip e = rw add-one (rw (e, those))

-- The numbers that a list of such numbers has are the list.
pub those_self : (f : ℕ → Bool) (n : ℕ) → those n (has (those n f)) ≡ those n f
those_self f n = those_agree (has (those n f)) f n (those_has f n)

-- What is made of them agrees where it agrees below n.
pub those_map : (f g : ℕ → Bytes) (p : ℕ → Bool) (n : ℕ) → ((i : ℕ) → i < n → f i ≡ g i) → map f (those n p) ≡ map g (those n p)
unfolding those
those_map f g p zero h = refl
those_map f g p (suc n) h = go (p n) (those_map f g p n (λ i l. h i (omega arith)))
  where
    go : (b : Bool) → map f (those n p) ≡ map g (those n p)
        → map f (elim b [ true ↦ those n p ++ (n ∷ []) | false ↦ those n p ]) ≡ map g (elim b [ true ↦ those n p ++ (n ∷ []) | false ↦ those n p ])
    go true q =
        map-append f (those n p) (n ∷ [])
        ∙ ap₂ (λ (l : List Bytes) (x : Bytes). l ++ (x ∷ [])) q (h n (omega arith))
        ∙ sym (map-append g (those n p) (n ∷ []))
    go false q = q

-- ---- the lines of a set of edges

-- D lines and Q lines, by their first byte.
pub d_lines : edge_line 68 ≡ d_text
unfolding edge_line d_text
d_lines = refl

pub q_lines : edge_line 81 ≡ q_text
unfolding edge_line q_text
q_lines = refl

-- Of a set that has just the edges that need a probe they are the list of probes.
module _ (old new : Program) where
  probes_self : those (edge_count new) (has (probes old new)) ≡ probes old new
  unfolding probes edges_after
  probes_self = reached_found _ _ _ _ (reached_first _ _ _) (λ a b h t. reached_onward _ _ _ a b t) (λ i h t. t)

  pub probes_text_lem : (set : List ℕ) (edges : ℕ) → edges ≡ edge_count new → ((e : ℕ) → e < edge_count new → bit_in set e ≡ has (probes old new) e)
      → edge_text 81 set edges ≡ probes_text old new
  unfolding edge_text probes_text
  probes_text_lem set edges n h =
      let q : those edges (bit_in set) ≡ probes old new = ap (λ (m : ℕ). those m (bit_in set)) n ∙ those_agree (bit_in set) (has (probes old new)) (edge_count new) h ∙ probes_self in
      ap₂ (λ (f : ℕ → Bytes) (l : List ℕ). text_of (map f l)) q_lines q

-- ---- the next number that passes

-- Below the first number that passes none does.
pub first_below : (f : ℕ → Bool) (n i : ℕ) → first n f ≡ some i → (j : ℕ) → j < i → f j ≡ false
unfolding first or_else if_true
first_below f zero i e j h = absurd (true≢false (let z : true ≡ false = cc in z))
first_below f (suc n) i e j h = go (first n f) refl (λ q. first_below f n i q j h) (f n) refl e
  where
    go : (o : Option ℕ) → first n f ≡ o → (first n f ≡ some i → f j ≡ false) → (b : Bool) → f n ≡ b → or_else o (if_true b n) ≡ some i → f j ≡ false
    go none q k true p r = let t : n ≡ i = cc in fails _ (first_none f n q j (omega arith))
    go none q k false p r = absurd (true≢false (let z : true ≡ false = cc in z))
    go (some x) q k b p r = k (q ∙ r)

-- What is found of the numbers from `from` on: the lowest that passes, or none.
module _ (g : ℕ → Bool) (b from m : ℕ) (e : m ≡ found (first b (λ j. leb from j and g j))) where
  abbrev later : ℕ → Bool
  later j = leb from j and g j

  passing : 0 < m → first b later ≡ some (m - 1)
  passing h = go (first b later) e
    where
      go : (o : Option ℕ) → m ≡ found o → o ≡ some (m - 1)
      go none q = absurd (let z : ⊥ = omega arith in z)
      go (some i) q = let t : i ≡ m - 1 = omega arith in ap {B = Option ℕ} some t

  missing : m ≡ 0 → first b later ≡ none
  missing h = go (first b later) e
    where
      go : (o : Option ℕ) → m ≡ found o → o ≡ none
      go none q = refl
      go (some i) q = absurd (let z : ⊥ = omega arith in z)

  -- It is from `from` on, below b, and passes; between none does.
  pub next_from : 0 < m → from < m
  next_from h = omega (arith, leb-true from (m - 1) (and_left _ _ (first_at later b (m - 1) (passing h)).1))

  pub next_in : 0 < m → m ≤ b
  next_in h = omega (arith, (first_at later b (m - 1) (passing h)).0)

  pub next_passes : 0 < m → g (m - 1) ≡ true
  next_passes h = and_right _ _ (first_at later b (m - 1) (passing h)).1

  pub next_between : 0 < m → (j : ℕ) → from ≤ j → j < m - 1 → g j ≡ false
  next_between h j k l = fails _ (λ t. both_ways (and_both (le-leb from j k) t) (first_below later b (m - 1) (passing h) j l))

  pub next_none : m ≡ 0 → (j : ℕ) → from ≤ j → j < b → g j ≡ false
  next_none h j k l = fails _ (λ t. first_none later b (missing h) j l (and_both (le-leb from j k) t))

-- ---- what is picked of a row, one partner more

pub pick_append : (f : ℕ → ℕ → Bool) (l k : List (ℕ × ℕ)) → pick f (l ++ k) ≡ pick f l ++ pick f k
unfolding pick
pick_append f [] k = refl
pick_append f (x ∷ l) k = ap (keep (f x.0 x.1) x) (pick_append f l k) ∙ out (f x.0 x.1)
  where
    out : (b : Bool) → keep b x (pick f l ++ pick f k) ≡ keep b x (pick f l) ++ pick f k
    out true = refl
    out false = refl

module _ (f : ℕ → ℕ → Bool) (a : ℕ) where
  pub row_one : (n : ℕ) → f a n ≡ true → pick f (grid_row a (suc n)) ≡ pick f (grid_row a n) ++ ((a, n) ∷ [])
  unfolding grid_row pick
  row_one n e = pick_append f (grid_row a n) ((a, n) ∷ []) ∙ ap (λ (b : Bool). pick f (grid_row a n) ++ keep b (a, n) []) e

  pub row_none : (n : ℕ) → f a n ≡ false → pick f (grid_row a (suc n)) ≡ pick f (grid_row a n)
  unfolding grid_row pick
  row_none n e = pick_append f (grid_row a n) ((a, n) ∷ []) ∙ ap (λ (b : Bool). pick f (grid_row a n) ++ keep b (a, n) []) e ∙ append-nil (pick f (grid_row a n))

  row_skips : (from d : ℕ) → ((j : ℕ) → from ≤ j → j < from + d → f a j ≡ false) → pick f (grid_row a (from + d)) ≡ pick f (grid_row a from)
  row_skips from zero h = ap (λ (n : ℕ). pick f (grid_row a n)) (add-zero from)
  row_skips from (suc d) h =
      ap (λ (n : ℕ). pick f (grid_row a n)) (add-suc from d)
      ∙ row_none (from + d) (h (from + d) (omega arith) (omega arith))
      ∙ row_skips from d (λ j k l. h j k (omega arith))

  pub row_skip : (from n : ℕ) → from ≤ n → ((j : ℕ) → from ≤ j → j < n → f a j ≡ false) → pick f (grid_row a n) ≡ pick f (grid_row a from)
  row_skip from n k h =
      let q : from + (n - from) ≡ n = omega arith in
      ap (λ (n : ℕ). pick f (grid_row a n)) (sym q) ∙ row_skips from (n - from) (λ j u v. h j u (omega arith))

-- ---- ascending lists of pairs

head_listed : (x : ℕ × ℕ) (l : List (ℕ × ℕ)) → listed (x ∷ l) x.0 x.1 ≡ true
unfolding listed
head_listed x l = or_left _ (and_both (eqb_self x.0) (eqb_self x.1))

-- The first pair, or one of the others.
listed_cases : (x : ℕ × ℕ) (l : List (ℕ × ℕ)) (n k : ℕ) → listed (x ∷ l) n k ≡ true → ((x.0 ≡ n) × (x.1 ≡ k)) ⊎ (listed l n k ≡ true)
unfolding listed
listed_cases x l n k t = ⊎_elim (λ u. inl (eqb-true _ _ (and_left _ _ u), eqb-true _ _ (and_right _ _ u))) (λ u. inr u) (or_cases _ _ t)

-- No pair stands before itself, and of two only one before the other.
before_once : (a b n k : ℕ) → Before (a, b) (n, k) → Before (n, k) (a, b) → ⊥
before_once a b n k p q = ⊎_elim (λ u. ⊎_elim (λ v. let z : ⊥ = omega arith in z) (λ v. let z : ⊥ = omega (arith, v.0) in z) q) (λ u. ⊎_elim (λ v. let z : ⊥ = omega (arith, u.0) in z) (λ v. let z : ⊥ = omega (arith, u.1, v.1) in z) q) p

before_self : (a b : ℕ) → Before (a, b) (a, b) → ⊥
before_self a b p = before_once a b a b p p

-- Ascending lists that list the same pairs are one list.
pub asc_same : {l m : List (ℕ × ℕ)} → Ascending l → Ascending m → ((n k : ℕ) → listed l n k ≡ listed m n k) → l ≡ m
asc_same asc_none asc_none h = refl
asc_same asc_none (asc_more {x = y} {l = m} g q) h = absurd (none_listed y.0 y.1 (h y.0 y.1 ∙ head_listed y m))
asc_same (asc_more {x = x} {l = l} f p) asc_none h = absurd (none_listed x.0 x.1 (sym (h x.0 x.1) ∙ head_listed x l))
asc_same (asc_more {x = x} {l = l} f p) (asc_more {x = y} {l = m} g q) h =
    ap₂ (λ (z : ℕ × ℕ) (r : List (ℕ × ℕ)). z ∷ r) (ap₂ (λ (a b : ℕ). (a, b)) first_same.0 first_same.1) (asc_same p q rest_same)
  where
    first_same : (x.0 ≡ y.0) × (x.1 ≡ y.1)
    first_same =
        ⊎_elim (λ u. (sym u.0, sym u.1))
        (λ u. ⊎_elim (λ v. v) (λ v. absurd (before_once x.0 x.1 y.0 y.1 (f y.0 y.1 v) (g x.0 x.1 u))) (listed_cases x l y.0 y.1 (h y.0 y.1 ∙ head_listed y m)))
        (listed_cases y m x.0 x.1 (sym (h x.0 x.1) ∙ head_listed x l))

    -- A later pair is not the first one.
    later : (n k : ℕ) → Before x (n, k) → (y.0 ≡ n) × (y.1 ≡ k) → ⊥
    later n k b e =
        before_self n k
        (subst (λ (z : ℕ). Before (z, k) (n, k)) (first_same.0 ∙ e.0) (subst (λ (z : ℕ). Before (x.0, z) (n, k)) (first_same.1 ∙ e.1) b))

    later_back : (n k : ℕ) → Before y (n, k) → (x.0 ≡ n) × (x.1 ≡ k) → ⊥
    later_back n k b e =
        before_self n k
        (subst (λ (z : ℕ). Before (z, k) (n, k)) (sym first_same.0 ∙ e.0) (subst (λ (z : ℕ). Before (y.0, z) (n, k)) (sym first_same.1 ∙ e.1) b))

    rest_same : (n k : ℕ) → listed l n k ≡ listed m n k
    rest_same n k =
        same_test _ _
        (λ t. ⊎_elim (λ u. absurd (later n k (f n k t) u)) (λ u. u) (listed_cases y m n k (sym (h n k) ∙ listed_rest x l n k t)))
        (λ t. ⊎_elim (λ u. absurd (later_back n k (g n k t) u)) (λ u. u) (listed_cases x l n k (h n k ∙ listed_rest y m n k t)))
