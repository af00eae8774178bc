-- The turns and the returns of the functions that compare two labels, from one run of blanks to the next.
use mathlib.Core.Path.{◌≡◌, refl, sym, ap, ap₂, ◌∙◌}
use mathlib.Core.Logic.{◌⊎◌, inl, inr, ⊎_elim}
use mathlib.Core.Bool.{Bool, true, false, false≢true, not, ◌&&◌}
use mathlib.Core.List.{[], ◌∷◌}
use Prim.Native.Nat.{ℕ, suc, ◌+◌, ◌-◌, ◌≤◌, ◌<◌, min}
use native.Mathlib.Omega.{arith}
use lib.Dec.{eqb, ltb}
use lib.ListN.{length, get_or, drop, length-drop}
use borrow.Author.Tests.{eq-eqb, eqb-false, eqb-true, le-ltb, lt-ltb, ne_eqb}
use Rattle.laws.specs.Tests.{◌and◌, choose, isnt}
use Rattle.laws.specs.TestLaws.{and_assoc, and_both, and_left, and_not, and_right, eqb_self, fails, isnt_true, passes?, true_isnt}
use Rattle.laws.specs.Slices.{below_or, drop_at, drop_end}
use Rattle.rules.specs.Text.{Bytes, empty, same, same_label, squeezed}
use Rattle.rules.proofs.ClosingLaws.{same_label_is, same_label_of, same_label_true}
use Rattle.rules.proofs.LabelLaws.{behind, behind_bare, behind_left, behind_right, behind_same, behind_spaced, blank_first, spaced, squeezed_blank, squeezed_byte, squeezed_none}
use Rattle.rules.proofs.TextLaws.{same_true}
use Rattle.std.specs.List.{position, position_or_len, slice_get}
use Rattle.std.specs.Option.{unwrap_or}
use Rattle.std.specs.Prelude.{Option, cond}
use Rattle.text.proofs.Laws.{also, not_is, place_or_end}
use Rattle.text.specs.Scans.{blanks, ends_differ, in_common, last_byte}

-- ---- `past_blanks`

blanks_most : (s : Bytes) → blanks s ≤ length s
unfolding blanks choose
blanks_most [] = omega arith
blanks_most (x ∷ s) = go (eqb x 32) (blanks_most s)
  where
    go : (t : Bool) → blanks s ≤ length s → choose t (suc (blanks s)) 0 ≤ suc (length s)
    go true h = omega arith
    go false h = omega arith

-- Behind the blanks at the front no blank comes first, and what is left is the same.
front_past : (s : Bytes) → (blank_first (drop (blanks s) s) ≡ false) × (squeezed (drop (blanks s) s) ≡ squeezed s)
unfolding blanks choose blank_first
front_past [] = (refl, refl)
front_past (x ∷ s) = go (passes? (eqb x 32)) (front_past s)
  where
    go : (eqb x 32 ≡ true) ⊎ (eqb x 32 ≡ false) → (blank_first (drop (blanks s) s) ≡ false) × (squeezed (drop (blanks s) s) ≡ squeezed s)
        → (blank_first (drop (choose (eqb x 32) (suc (blanks s)) 0) (x ∷ s)) ≡ false) × (squeezed (drop (choose (eqb x 32) (suc (blanks s)) 0) (x ∷ s)) ≡ squeezed (x ∷ s))
    go (inl e) h = rw e (h.0, h.1 ∙ sym (squeezed_blank s) ∙ ap (λ (z : ℕ). squeezed (z ∷ s)) (sym (eqb-true x 32 e)))
    go (inr e) h = rw e (e, refl)

-- There are blanks at the front just if the first byte is one; p and k are the places before and behind them.
first_blank : (s : Bytes) (p k : ℕ) → k ≡ p + blanks s → blank_first s ≡ ltb p k
unfolding blanks choose blank_first
first_blank [] p k h = sym (le-ltb p k (omega arith))
first_blank (x ∷ s) p k h = go (eqb x 32) h
  where
    go : (t : Bool) → k ≡ p + choose t (suc (blanks s)) 0 → t ≡ ltb p k
    go true e = sym (lt-ltb p k (omega arith))
    go false e = sym (le-ltb p k (omega arith))

bare_place : (s : Bytes) → position_or_len (λ x. not (eqb x 32)) s ≡ blanks s
unfolding blanks choose
bare_place [] = refl
bare_place (x ∷ s) = by_cases (eqb x 32) (bare_place s)
  where
    by_cases : (t : Bool) → position_or_len (λ x. not (eqb x 32)) s ≡ blanks s → cond (not (not t)) (1 + position_or_len (λ x. not (eqb x 32)) s) 0 ≡ choose t (suc (blanks s)) 0
    by_cases true e = omega arith
    by_cases false e = refl

pub bare_behind : (s r : Bytes) (o : Option ℕ) (n : ℕ) → o ≡ position (λ x. not (eqb x 32)) s → n ≡ unwrap_or o (length s) → r ≡ drop n s → r ≡ drop (blanks s) s
bare_behind s r o n e q d = d ∙ ap (λ (k : ℕ). drop k s) (q ∙ place_or_end _ s o (blanks s) e (bare_place s) (blanks_most s))

-- What is left of s behind the blanks, r.
module _ (s r : Bytes) (h : r ≡ drop (blanks s) s) where
  past_less : length r ≤ length s
  past_less = omega (arith, ap length h, length-drop (blanks s) s)

  past_byte : blank_first r ≡ false
  past_byte = ap blank_first h ∙ (front_past s).0

  past_rest : squeezed r ≡ squeezed s
  past_rest = ap squeezed h ∙ (front_past s).1

  past_behind : behind r ≡ squeezed s
  past_behind = behind_bare r past_byte ∙ past_rest

  -- There were blanks just if it is shorter.
  past_none : length r ≡ length s → blank_first s ≡ false
  past_none e = first_blank s 0 (blanks s) (omega arith) ∙ le-ltb 0 (blanks s) (omega (arith, ap length h, length-drop (blanks s) s, blanks_most s))

  past_some : (length r ≡ length s → ⊥) → blank_first s ≡ true
  past_some n = first_blank s 0 (blanks s) (omega arith) ∙ lt-ltb 0 (blanks s) (omega (arith, ap length h, length-drop (blanks s) s, blanks_most s))

-- Nothing is left just where no byte is.
nothing_left : (s : Bytes) → blank_first s ≡ false → empty (squeezed s) ≡ eqb (length s) 0
unfolding empty blank_first
nothing_left [] b = ap empty squeezed_none
nothing_left (x ∷ s) b = ap empty (squeezed_byte x s b) ∙ sym (ne_eqb (length (x ∷ s)) 0 (λ e. let z : ⊥ = omega arith in z))

-- ---- `common`

module _ (a b : Bytes) (i : ℕ) (inv : in_common a b ≡ i + in_common (drop i a) (drop i b)) where
  module _ (h : i < length a) (k : i < length b) where
    here : in_common (drop i a) (drop i b) ≡ choose (eqb (get_or a i 0) (get_or b i 0) and isnt (eqb (get_or a i 0) 32)) (suc (in_common (drop (i + 1) a) (drop (i + 1) b))) 0
    unfolding in_common
    here = ap₂ in_common (drop_at a i 0 h) (drop_at b i 0 k)

    pub common_stop : (get_or a i 0 ≡ get_or b i 0 → ⊥) ⊎ (get_or a i 0 ≡ 32) → i ≡ in_common a b
    unfolding ◌and◌ isnt choose
    common_stop (inl e) = let q = here ∙ ap (λ (t : Bool). choose (t and isnt (eqb (get_or a i 0) 32)) (suc (in_common (drop (i + 1) a) (drop (i + 1) b))) 0) (ne_eqb _ _ e) in omega arith
    common_stop (inr e) =
        let n : (eqb (get_or a i 0) (get_or b i 0) and isnt (eqb (get_or a i 0) 32)) ≡ false = ap (λ (t : Bool). eqb (get_or a i 0) (get_or b i 0) and isnt t) (eq-eqb _ _ e) ∙ and_not _ in
        let q = here ∙ ap (λ (t : Bool). choose t (suc (in_common (drop (i + 1) a) (drop (i + 1) b))) 0) n in omega arith

    pub common_on : get_or a i 0 ≡ get_or b i 0 → (get_or a i 0 ≡ 32 → ⊥) → in_common a b ≡ i + 1 + in_common (drop (i + 1) a) (drop (i + 1) b)
    unfolding ◌and◌ isnt choose
    common_on e z =
        let n : (eqb (get_or a i 0) (get_or b i 0) and isnt (eqb (get_or a i 0) 32)) ≡ true = ap₂ (λ (t u : Bool). t and isnt u) (eq-eqb _ _ e) (ne_eqb _ _ z) in
        let q = here ∙ ap (λ (t : Bool). choose t (suc (in_common (drop (i + 1) a) (drop (i + 1) b))) 0) n in omega arith

  pub common_end : min (length a) (length b) ≤ i → i ≡ in_common a b
  unfolding in_common
  common_end h =
      let q : in_common (drop i a) (drop i b) ≡ 0 =
      below_or i (length a)
      (λ l. ap₂ in_common (drop_at a i 0 l) (drop_end b i (omega arith)))
      (λ l. ap (λ (s : Bytes). in_common s (drop i b)) (drop_end a i l)) in
      omega arith

pub ruleset commons = (common_stop, common_on, common_end)

-- ---- `same_squeezed`

-- Behind bytes that are the same and no blanks, what is left is compared.
behind_common : (s t : Bytes) → same (behind s) (behind t) ≡ same (behind (drop (in_common s t) s)) (behind (drop (in_common s t) t))
unfolding in_common same blank_first choose ◌and◌
behind_common [] t = refl
behind_common (x ∷ s) [] = refl
behind_common (x ∷ s) (y ∷ t) = go (passes? (eqb x y and isnt (eqb x 32))) (behind_common s t)
  where
    go : ((eqb x y and isnt (eqb x 32)) ≡ true) ⊎ ((eqb x y and isnt (eqb x 32)) ≡ false)
        → same (behind s) (behind t) ≡ same (behind (drop (in_common s t) s)) (behind (drop (in_common s t) t))
        → same (behind (x ∷ s)) (behind (y ∷ t))
        ≡ same (behind (drop (choose (eqb x y and isnt (eqb x 32)) (suc (in_common s t)) 0) (x ∷ s))) (behind (drop (choose (eqb x y and isnt (eqb x 32)) (suc (in_common s t)) 0) (y ∷ t)))
    go (inl e) h =
        let q : eqb x y ≡ true = and_left (eqb x y) (isnt (eqb x 32)) e in
        let n : eqb x 32 ≡ false = isnt_true (eqb x 32) (and_right (eqb x y) (isnt (eqb x 32)) e) in
        let n' : eqb y 32 ≡ false = ap (λ (z : ℕ). eqb z 32) (sym (eqb-true x y q)) ∙ n in
        rw e
        (ap₂ same (behind_bare (x ∷ s) n ∙ squeezed_byte x s n) (behind_bare (y ∷ t) n' ∙ squeezed_byte y t n')
        ∙ ap (λ (c : Bool). c and same (behind s) (behind t)) q ∙ h)
    go (inr e) h = rw e refl

-- They are all: none is the same and no blank behind them.
common_ends : (s t : Bytes) → in_common (drop (in_common s t) s) (drop (in_common s t) t) ≡ 0
unfolding in_common choose
common_ends [] t = refl
common_ends (x ∷ s) [] = refl
common_ends (x ∷ s) (y ∷ t) = go (passes? (eqb x y and isnt (eqb x 32))) (common_ends s t)
  where
    go : ((eqb x y and isnt (eqb x 32)) ≡ true) ⊎ ((eqb x y and isnt (eqb x 32)) ≡ false) → in_common (drop (in_common s t) s) (drop (in_common s t) t) ≡ 0
        → in_common (drop (choose (eqb x y and isnt (eqb x 32)) (suc (in_common s t)) 0) (x ∷ s)) (drop (choose (eqb x y and isnt (eqb x 32)) (suc (in_common s t)) 0) (y ∷ t)) ≡ 0
    go (inl e) h = rw e h
    go (inr e) h = rw e (ap (λ (u : Bool). choose u (suc (in_common s t)) 0) e)

-- Where these bytes end and blanks do not follow in both, nothing may be left of either.
parted : (s t : Bytes) → in_common s t ≡ 0 → blank_first s ≡ false → blank_first t ≡ false → same (behind s) (behind t) ≡ (empty (squeezed s) and empty (squeezed t))
unfolding in_common same empty ◌and◌ blank_first choose
parted [] [] e h k = rw (behind_bare [] refl, squeezed_none) refl
parted [] (y ∷ t) e h k = rw (behind_bare [] refl, squeezed_none, behind_bare (y ∷ t) k, squeezed_byte y t k) refl
parted (x ∷ s) [] e h k = rw (behind_bare [] refl, squeezed_none, behind_bare (x ∷ s) h, squeezed_byte x s h) refl
parted (x ∷ s) (y ∷ t) e h k =
    rw (behind_bare (x ∷ s) h, squeezed_byte x s h, behind_bare (y ∷ t) k, squeezed_byte y t k)
    (ap (λ (c : Bool). c and same (behind s) (behind t)) (fails (eqb x y) (λ q. differ (and_both q (true_isnt h)))))
  where
    differ : (eqb x y and isnt (eqb x 32)) ≡ true → ⊥
    differ q = let z : suc (in_common s t) ≡ 0 = sym (ap (λ (u : Bool). choose u (suc (in_common s t)) 0) q) ∙ e in omega arith

one_blank : (s t : Bytes) → in_common s t ≡ 0 → (blank_first s ≡ false) ⊎ (blank_first t ≡ false) → same (behind s) (behind t) ≡ (empty (squeezed s) and empty (squeezed t))
one_blank s t e (inl h) = ⊎_elim (λ k. behind_right s t h k) (λ k. parted s t e h k) (passes? (blank_first t))
one_blank s t e (inr k) = ⊎_elim (λ h. behind_left s t h k) (λ h. parted s t e h k) (passes? (blank_first s))

-- What is left of two labels, s and t: the labels match just if the same is left of both, behind a byte.
pub record Matching (a b s t : Bytes) : Type 0 where
  pub rest : same_label a b ≡ same (behind s) (behind t)

pub match_start : (a b s t : Bytes) → s ≡ drop (blanks a) a → t ≡ drop (blanks b) b → Matching a b s t
match_start a b s t h k = record { rest = same_label_is a b ∙ sym (ap₂ same (past_behind a s h) (past_behind b t k)) }

-- At their fronts n bytes are the same and no blanks; p and q stand behind them, and x and y behind the blanks that follow.
module _ (a b s t p q x y : Bytes) (n : ℕ) (m : Matching a b s t) (en : n ≡ in_common s t) (ep : p ≡ drop n s) (eq : q ≡ drop n t) (ex : x ≡ drop (blanks p) p) (ey : y ≡ drop (blanks q) q) where
  left_there : p ≡ drop (in_common s t) s
  left_there = ep ∙ ap (λ (k : ℕ). drop k s) en

  right_there : q ≡ drop (in_common s t) t
  right_there = eq ∙ ap (λ (k : ℕ). drop k t) en

  there : same_label a b ≡ same (behind p) (behind q)
  there = m.rest ∙ behind_common s t ∙ sym (ap₂ (λ (s t : Bytes). same (behind s) (behind t)) left_there right_there)

  pub match_less : (length x ≡ length p → ⊥) → length x < length s
  match_less h = omega (arith, past_less p x ex, ap length ep, length-drop n s)

  pub match_on : (length x ≡ length p → ⊥) → (length y ≡ length q → ⊥) → Matching a b x y
  match_on h k =
      record { rest = there ∙ behind_same p q true (past_some p x ex h) (past_some q y ey k) ∙ sym (ap₂ same (past_behind p x ex) (past_behind q y ey)) }

  nothing_more : (length x ≡ length p) ⊎ ((length x ≡ length p → ⊥) × (length y ≡ length q)) → (eqb (length x) 0 and eqb (length y) 0) ≡ same_label a b
  nothing_more u =
      sym (there
      ∙ one_blank p q (ap₂ in_common left_there right_there ∙ common_ends s t) (⊎_elim (λ e. inl (past_none p x ex e)) (λ e. inr (past_none q y ey e.1)) u)
      ∙ ap₂ (λ (s t : Bytes). empty s and empty t) (sym (past_rest p x ex)) (sym (past_rest q y ey))
      ∙ ap₂ (λ (s t : Bool). s and t) (nothing_left x (past_byte p x ex)) (nothing_left y (past_byte q y ey)))

  module _ (u : (length x ≡ length p) ⊎ ((length x ≡ length p → ⊥) × (length y ≡ length q))) (r : Bool) (e : r ≡ eqb (length x) 0) where
    pub match_end : (t : Bool) → r ≡ true → t ≡ eqb (length y) 0 → t ≡ same_label a b
    unfolding ◌and◌
    match_end t h f = f ∙ ap (λ (u : Bool). u and eqb (length y) 0) (sym h ∙ e) ∙ nothing_more u

    pub match_more : r ≡ false → r ≡ same_label a b
    unfolding ◌and◌
    match_more h = h ∙ ap (λ (u : Bool). u and eqb (length y) 0) (sym h ∙ e) ∙ nothing_more u

pub ruleset matches = (match_start, match_less, match_on)

-- ---- `last_byte`, `ends_differ`

last_item : (s : Bytes) → unwrap_or (slice_get s (length s - 1)) 32 ≡ last_byte s
unfolding last_byte
last_item [] = refl
last_item (x ∷ []) = refl
last_item (x ∷ y ∷ s) = let e : suc (suc (length s)) - 1 ≡ suc (suc (length s) - 1) = omega arith in ap (λ (n : ℕ). unwrap_or (slice_get (x ∷ y ∷ s) n) 32) e ∙ last_item (y ∷ s)

pub last_is : (s : Bytes) (r : ℕ) (o : Option ℕ) → o ≡ slice_get s (length s - 1) → r ≡ unwrap_or o 32 → r ≡ last_byte s
last_is s r o e q = q ∙ ap (λ (o : Option ℕ). unwrap_or o 32) e ∙ last_item s

pub ends_are : (a b : Bytes) (x y : ℕ) → x ≡ last_byte a → y ≡ last_byte b → (not (eqb x 32) && not (eqb y 32) && not (eqb x y)) ≡ ends_differ a b
unfolding ends_differ
ends_are a b x y ex ey =
    also (not (eqb x 32) && not (eqb y 32)) (not (eqb x y))
    ∙ ap₂ (λ (t u : Bool). t and u) (also (not (eqb x 32)) (not (eqb y 32)) ∙ ap₂ (λ (t u : Bool). t and u) (not_is (eqb x 32)) (not_is (eqb y 32))) (not_is (eqb x y))
    ∙ sym (and_assoc (isnt (eqb x 32)) (isnt (eqb y 32)) (isnt (eqb x y)))
    ∙ ap₂ (λ (x y : ℕ). isnt (eqb x 32) and isnt (eqb y 32) and isnt (eqb x y)) ex ey

pub ruleset ends = (last_is, ends_are)

-- A last byte that is no blank is the last of what is left, also behind a byte.
last_behind : (x : ℕ) (s : Bytes) → eqb (last_byte s) 32 ≡ false → last_byte (x ∷ s) ≡ last_byte s
unfolding last_byte
last_behind x [] e = absurd (false≢true (sym e ∙ eqb_self 32))
last_behind x (y ∷ s) e = refl

last_spaced : (s : Bytes) → last_byte (spaced s) ≡ last_byte s
unfolding last_byte spaced
last_spaced [] = refl
last_spaced (x ∷ s) = refl

last_kept : (s : Bytes) → eqb (last_byte s) 32 ≡ false → (last_byte (squeezed s) ≡ last_byte s) × (last_byte (behind s) ≡ last_byte s)
unfolding last_byte blank_first
last_kept [] e = absurd (false≢true (sym e ∙ eqb_self 32))
last_kept (x ∷ []) e =
    let one : last_byte (squeezed (x ∷ [])) ≡ x = ap last_byte (squeezed_byte x [] e ∙ ap (λ (t : Bytes). x ∷ t) (behind_bare [] refl ∙ squeezed_none)) in
    (one, ap last_byte (behind_bare (x ∷ []) e) ∙ one)
last_kept (x ∷ y ∷ s) e = go (passes? (eqb x 32)) (last_kept (y ∷ s) e)
  where
    go : (eqb x 32 ≡ true) ⊎ (eqb x 32 ≡ false) → (last_byte (squeezed (y ∷ s)) ≡ last_byte (y ∷ s)) × (last_byte (behind (y ∷ s)) ≡ last_byte (y ∷ s))
        → (last_byte (squeezed (x ∷ y ∷ s)) ≡ last_byte (y ∷ s)) × (last_byte (behind (x ∷ y ∷ s)) ≡ last_byte (y ∷ s))
    go (inl b) k =
        let whole = ap last_byte (ap (λ (z : ℕ). squeezed (z ∷ y ∷ s)) (eqb-true x 32 b) ∙ squeezed_blank (y ∷ s)) ∙ k.0 in
        (whole, ap last_byte (behind_spaced (x ∷ y ∷ s) b) ∙ last_spaced (squeezed (x ∷ y ∷ s)) ∙ whole)
    go (inr b) k =
        let whole = ap last_byte (squeezed_byte x (y ∷ s) b) ∙ last_behind x (behind (y ∷ s)) (ap (λ (z : ℕ). eqb z 32) k.1 ∙ e) ∙ k.1 in
        (whole, ap last_byte (behind_bare (x ∷ y ∷ s) b) ∙ whole)

-- ---- `same_label`

pub label_differs : (a b : Bytes) (r : Bool) → r ≡ ends_differ a b → r ≡ true → false ≡ same_label a b
unfolding ends_differ
label_differs a b r d y =
    let t : ends_differ a b ≡ true = sym d ∙ y in
    let u = and_right _ _ t in
    sym (fails _ (λ h.
    let e : last_byte a ≡ last_byte b = sym (last_kept a (isnt_true _ (and_left _ _ t))).0 ∙ ap last_byte (same_label_true a b h) ∙ (last_kept b (isnt_true _ (and_left _ _ u))).0 in
    eqb-false _ _ (isnt_true _ (and_right _ _ u)) e))

pub label_bytes : (a b : Bytes) (r : Bool) → r ≡ same a b → r ≡ true → true ≡ same_label a b
label_bytes a b r e y = sym (same_label_of a b (ap squeezed (same_true a b (sym e ∙ y))))

pub ruleset labels = (label_differs, label_bytes)
