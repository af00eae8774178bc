-- Lists as slices: cases on numbers, what stands at a place, parts, one store and a run of stores.
use Rattle.std.specs.Prelude.{◌≡◌, refl, List, [], ◌∷◌, ◌++◌, ℕ, zero, suc, ◌+◌, ◌-◌, ◌≤◌, ◌<◌, length, get_or, take, drop, set}
use Rattle.std.proofs.Common.{sym, ap, ◌∙◌, add-one, zero-add, add-zero, add-suc, suc-add, add_assoc, arith, length-append, length-drop, length-set, length-take, drop_of_length-le, drop-cons, drop-drop, take-suc, take_at, length-take-le, get_or-take, get_or-drop, get_or-set_same, get_or-set_other, take-take, drop-set-lt}
use Rattle.std.proofs.Math.Nat.{sub-zero}
use Rattle.std.proofs.Math.Decide.{dec_lt, ℕ_discrete}
use Rattle.std.proofs.lemmas.List.Edits.{sets, sets-eq}
use Rattle.std.proofs.Math.Seq.{set_out, take-nil, length-sets}
use Rattle.std.proofs.lemmas.List.{take-set-le, drop-set-add, set-get_or}

-- ---- cases on numbers, each with its fact

pub below_or {ℓ} : {X : Type ℓ} (a b : ℕ) → (a < b → X) → (b ≤ a → X) → X
below_or {X = X} a b f g = go (dec_lt a b)
  where
    go : Dec (a < b) → X
    go (yes h) = f h
    go (no h) = g (omega arith)

pub same_or {ℓ} : {X : Type ℓ} (a b : ℕ) → (a ≡ b → X) → ((a ≡ b → ⊥) → X) → X
same_or {X = X} a b f g = go (ℕ_discrete a b)
  where
    go : Dec (a ≡ b) → X
    go (yes h) = f h
    go (no h) = g h

module _ {A : Type 0} where
  -- ---- what stands at a place, and the rest, with the code's `i + 1`

  pub drop_at : (s : List A) (i : ℕ) (d : A) → i < length s → drop i s ≡ get_or s i d ∷ drop (i + 1) s
  drop_at s i d h = drop-cons s i d h ∙ ap (λ (n : ℕ). get_or s i d ∷ drop n s) (sym (add-one i))

  pub drop_end : (s : List A) (i : ℕ) → length s ≤ i → drop i s ≡ []
  drop_end s i h = drop_of_length-le s h

  -- What stands after n more and the one behind them.
  pub drop_next : (s rest : List A) (at n : ℕ) → rest ≡ drop at s → drop (n + 1) rest ≡ drop (at + n + 1) s
  drop_next s rest at n e = ap (λ (r : List A). drop (n + 1) r) e ∙ drop-drop (n + 1) at s ∙ ap (λ (m : ℕ). drop m s) (sym (add_assoc at n 1))

  pub take_more : (s : List A) (i : ℕ) (d : A) → i < length s → take (i + 1) s ≡ take i s ++ (get_or s i d ∷ [])
  take_more s i d h = ap (λ (n : ℕ). take n s) (add-one i) ∙ take-suc s i d h

  -- Two, three and four places, as a row has them.
  pub drop_two : (s : List A) (i : ℕ) (d : A) → 2 ≤ length s - i → drop i s ≡ get_or s i d ∷ get_or s (i + 1) d ∷ drop (i + 2) s
  drop_two s i d h =
      drop_at s i d (omega arith)
      ∙ ap (λ (r : List A). get_or s i d ∷ r) (drop_at s (i + 1) d (omega arith) ∙ ap (λ (n : ℕ). get_or s (i + 1) d ∷ drop n s) (add_assoc i 1 1))

  pub drop_three : (s : List A) (i : ℕ) (d : A) → 3 ≤ length s - i → drop i s ≡ get_or s i d ∷ get_or s (i + 1) d ∷ get_or s (i + 2) d ∷ drop (i + 3) s
  drop_three s i d h =
      drop_two s i d (omega arith)
      ∙ ap (λ (r : List A). get_or s i d ∷ get_or s (i + 1) d ∷ r) (drop_at s (i + 2) d (omega arith) ∙ ap (λ (n : ℕ). get_or s (i + 2) d ∷ drop n s) (add_assoc i 2 1))

  pub drop_four : (s : List A) (i : ℕ) (d : A) → 4 ≤ length s - i
      → drop i s ≡ get_or s i d ∷ get_or s (i + 1) d ∷ get_or s (i + 2) d ∷ get_or s (i + 3) d ∷ drop (i + 4) s
  drop_four s i d h =
      drop_three s i d (omega arith)
      ∙ ap (λ (r : List A). get_or s i d ∷ get_or s (i + 1) d ∷ get_or s (i + 2) d ∷ r)
      (drop_at s (i + 3) d (omega arith) ∙ ap (λ (n : ℕ). get_or s (i + 3) d ∷ drop n s) (add_assoc i 3 1))

  -- ---- parts

  pub drop_take : (m n : ℕ) (l : List A) → drop m (take n l) ≡ take (n - m) (drop m l)
  drop_take zero n l = ap (λ (k : ℕ). take k l) (sym (sub-zero n))
  drop_take (suc m) zero l = let e : 0 ≡ 0 - suc m = omega arith in ap (λ (k : ℕ). take k (drop (suc m) l)) e
  drop_take (suc m) (suc n) [] = sym (take-nil (suc n - suc m))
  drop_take (suc m) (suc n) (a ∷ l) = let e : n - m ≡ suc n - suc m = omega arith in drop_take m n l ∙ ap (λ (k : ℕ). take k (drop m l)) e

  module _ (l : List A) (start len : ℕ) where
    pub length_part : start + len ≤ length l → length (take len (drop start l)) ≡ len
    length_part h = length-take-le len (drop start l) (omega (arith, length-drop start l))

    -- A part is no longer than it is asked to be, and ends within the list.
    pub part_short : length (take len (drop start l)) ≤ len
    part_short = omega (arith, length-take len (drop start l))

    pub get_d_part : (i : ℕ) (d : A) → i < len → get_or (take len (drop start l)) i d ≡ get_or l (start + i) d
    get_d_part i d h = get_or-take len (drop start l) i d h ∙ get_or-drop start l i d

    -- A part of a part is a part.
    pub part_part : (at n : ℕ) → at + n ≤ len → take n (drop at (take len (drop start l))) ≡ take n (drop (start + at) l)
    part_part at n h =
        ap (λ (r : List A). take n r) (drop_take at len (drop start l))
        ∙ take-take n (len - at) (drop at (drop start l)) (omega arith)
        ∙ ap (λ (r : List A). take n r) (drop-drop at start l)

  -- ---- a run of stores

  -- Past the end, and into nothing.
  pub sets_out : (vs l : List A) (i : ℕ) → length l ≤ i → sets l i vs ≡ l
  sets_out [] l i h = refl
  sets_out (a ∷ vs) l i h = ap (λ (m : List A). sets m (suc i) vs) (set_out l i a h) ∙ sets_out vs l (suc i) (omega arith)

  pub sets_nil : (i : ℕ) (vs : List A) → sets [] i vs ≡ []
  sets_nil i vs = sets_out vs [] i (omega arith)

  -- The first store, then the others.
  pub sets_more : (l : List A) (i : ℕ) (a : A) (vs : List A) → sets l i (a ∷ vs) ≡ sets (set l i a) (i + 1) vs
  sets_more l i a vs = ap (λ (k : ℕ). sets (set l i a) k vs) (sym (add-one i))

  -- Two runs in a row are one; one store more.
  pub sets_append : (l : List A) (i : ℕ) (xs ys : List A) → sets (sets l i xs) (i + length xs) ys ≡ sets l i (xs ++ ys)
  sets_append l i [] ys = rw add-zero
  sets_append l i (x ∷ xs) ys =
      ap (λ (k : ℕ). sets (sets (set l i x) (suc i) xs) k ys) (add-suc i (length xs) ∙ sym (suc-add i (length xs))) ∙ sets_append (set l i x) (suc i) xs ys

  pub sets_snoc : (l : List A) (i : ℕ) (xs : List A) (a : A) → set (sets l i xs) (i + length xs) a ≡ sets l i (xs ++ (a ∷ []))
  sets_snoc l i xs a = sets_append l i xs (a ∷ [])

  -- Two, three and four stores in a row.
  module _ (s s₁ s₂ : List A) (i : ℕ) (a b : A) (e : s₁ ≡ set s i a) (f : s₂ ≡ set s₁ (i + 1) b) where
    pub sets_two : s₂ ≡ sets s i (a ∷ b ∷ [])
    sets_two = f ∙ ap (λ (l : List A). set l (i + 1) b) e ∙ sym (sets_more s i a (b ∷ []))

    module _ (s₃ : List A) (c : A) (g : s₃ ≡ set s₂ (i + 2) c) where
      pub sets_three : s₃ ≡ sets s i (a ∷ b ∷ c ∷ [])
      sets_three = g ∙ ap (λ (l : List A). set l (i + 2) c) sets_two ∙ sets_snoc s i (a ∷ b ∷ []) c

      pub sets_four : (s₄ : List A) (d : A) → s₄ ≡ set s₃ (i + 3) d → s₄ ≡ sets s i (a ∷ b ∷ c ∷ d ∷ [])
      sets_four s₄ d h = h ∙ ap (λ (l : List A). set l (i + 3) d) sets_three ∙ sets_snoc s i (a ∷ b ∷ c ∷ []) d

  -- From the front, where there is room: the run, and what was behind it.
  pub sets_front : (l vs : List A) → length vs ≤ length l → sets l 0 vs ≡ vs ++ drop (length vs) l
  sets_front l vs h = sets-eq vs l 0 (rw zero-add h) ∙ rw zero-add

  -- What stands before the run, up to its end, and after it.
  pub take_sets_before : (vs l : List A) (i n : ℕ) → n ≤ i → take n (sets l i vs) ≡ take n l
  take_sets_before [] l i n h = refl
  take_sets_before (a ∷ vs) l i n h = take_sets_before vs (set l i a) (suc i) n (omega arith) ∙ take-set-le n l i a h

  pub take_sets_end : (vs l : List A) (i : ℕ) → i + length vs ≤ length l → take (i + length vs) (sets l i vs) ≡ take i l ++ vs
  take_sets_end vs l i h =
      ap (λ (m : List A). take (i + length vs) m) (sets-eq vs l i h)
      ∙ take_at (take i l ++ vs) (drop (i + length vs) l) (i + length vs) (omega (arith, length-append (take i l) vs, length-take-le i l (omega arith)))

  pub drop_sets_after : (vs l : List A) (i n : ℕ) → i + length vs ≤ n → drop n (sets l i vs) ≡ drop n l
  drop_sets_after [] l i n h = refl
  drop_sets_after (a ∷ vs) l i n h = drop_sets_after vs (set l i a) (suc i) n (omega arith) ∙ drop-set-lt n l i a (omega arith)

  -- In the rest, the run stands as far from its front.
  pub drop_sets_add : (vs l : List A) (i n : ℕ) → drop n (sets l (n + i) vs) ≡ sets (drop n l) i vs
  drop_sets_add [] l i n = refl
  drop_sets_add (a ∷ vs) l i n =
      ap (λ (k : ℕ). drop n (sets (set l (n + i) a) k vs)) (sym (add-suc n i))
      ∙ drop_sets_add vs (set l (n + i) a) (suc i) n
      ∙ ap (λ (m : List A). sets m (suc i) vs) (drop-set-add n l i a)

  -- A part of what a run was stored into: the run itself, a part before it, a part after it.
  pub part_sets : (vs l : List A) (i : ℕ) → i + length vs ≤ length l → take (length vs) (drop i (sets l i vs)) ≡ vs
  part_sets vs l i h =
      ap (λ (k : ℕ). take (length vs) (drop i (sets l k vs))) (sym (add-zero i))
      ∙ ap (λ (r : List A). take (length vs) r) (drop_sets_add vs l 0 i ∙ sets_front (drop i l) vs (omega (arith, length-drop i l)))
      ∙ take_at vs (drop (length vs) (drop i l)) (length vs) refl

  pub part_sets_before : (vs l : List A) (i start len : ℕ) → start + len ≤ i → take len (drop start (sets l i vs)) ≡ take len (drop start l)
  part_sets_before vs l i start len h =
      let e : start + (i - start) ≡ i = omega arith in
      ap (λ (k : ℕ). take len (drop start (sets l k vs))) (sym e)
      ∙ ap (λ (r : List A). take len r) (drop_sets_add vs l (i - start) start)
      ∙ take_sets_before vs (drop start l) (i - start) len (omega arith)

  -- The element k: of the run, before it, after it.
  pub get_d_sets_before : (vs l : List A) (i k : ℕ) (d : A) → k < i → get_or (sets l i vs) k d ≡ get_or l k d
  get_d_sets_before [] l i k d h = refl
  get_d_sets_before (a ∷ vs) l i k d h = get_d_sets_before vs (set l i a) (suc i) k d (omega arith) ∙ get_or-set_other l i k a d (λ e. let z : ⊥ = omega arith in z)

  pub get_d_sets_after : (vs l : List A) (i k : ℕ) (d : A) → i + length vs ≤ k → get_or (sets l i vs) k d ≡ get_or l k d
  get_d_sets_after [] l i k d h = refl
  get_d_sets_after (a ∷ vs) l i k d h =
      get_d_sets_after vs (set l i a) (suc i) k d (omega arith) ∙ get_or-set_other l i k a d (λ e. let z : ⊥ = omega arith in z)

  pub get_d_sets_in : (vs l : List A) (i k : ℕ) (d : A) → i + length vs ≤ length l → k < length vs → get_or (sets l i vs) (i + k) d ≡ get_or vs k d
  get_d_sets_in vs l i k d h n =
      sym (get_d_part (sets l i vs) i (length vs) k d n) ∙ ap (λ (r : List A). get_or r k d) (part_sets vs l i h)

  -- The same run stored again changes nothing.
  pub sets_again : (vs l : List A) (i : ℕ) → sets (sets l i vs) i vs ≡ sets l i vs
  sets_again [] l i = refl
  sets_again (a ∷ vs) l i =
      let s : List A = sets (set l i a) (suc i) vs in
      let kept : set s i a ≡ s
      = below_or i (length l)
      (λ h. ap (λ (x : A). set s i x) (sym (get_d_sets_before vs (set l i a) (suc i) i a (omega arith) ∙ get_or-set_same l i a a h)) ∙ set-get_or s i a)
      (λ h. set_out s i a (omega (arith, length-sets (set l i a) (suc i) vs, length-set l i a))) in
      ap (λ (x : List A). sets x (suc i) vs) kept ∙ sets_again vs (set l i a) (suc i)
