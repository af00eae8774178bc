-- Laws of `span` and `split`: the place of the first separator, the first piece and the rest, and the pieces by the first bytes.
use Rattle.std.specs.Prelude.{◌≡◌, refl, Bool, true, false, List, [], ◌∷◌, ◌++◌, ℕ, suc, ◌+◌, ◌≤◌, ◌<◌, eqb, length, get_or, take, drop}
use Rattle.std.proofs.Common.{sym, ap, ◌∙◌, add-one, arith, take-append-drop, length-take-le}
use borrow.Author.Tests.{eq-eqb, ne_eqb}
use Rattle.laws.specs.Tests.{choose}
use Rattle.laws.specs.Slices.{drop_at, drop_end, drop_next, below_or}
use Rattle.rules.specs.Text.{Bytes, onto, same, split}
use Rattle.rules.proofs.TextLaws.{same_true, split_cons}
use Rattle.text.specs.Scans.{span}

-- ---- the place of the first b, by what stands at i

module _ (b : ℕ) (s : Bytes) (i : ℕ) where
  pub span_hit : i < length s → get_or s i 0 ≡ b → span b (drop i s) ≡ 0
  unfolding span choose
  span_hit h e = simp (drop_at s i 0 h, eq-eqb _ _ e)

  pub span_miss : i < length s → (get_or s i 0 ≡ b → ⊥) → span b (drop i s) ≡ suc (span b (drop (i + 1) s))
  unfolding span choose
  span_miss h e = simp (drop_at s i 0 h, ne_eqb _ _ e)

  pub span_end : length s ≤ i → span b (drop i s) ≡ 0
  unfolding span
  span_end h = simp (drop_end s i h)

within_step : (t : Bool) (n m : ℕ) → n ≤ m → choose t 0 (suc n) ≤ suc m
unfolding choose
within_step true n m h = omega arith
within_step false n m h = omega arith

pub span_within : (b : ℕ) (s : Bytes) → span b s ≤ length s
unfolding span
span_within b [] = omega arith
span_within b (x ∷ s) = within_step (eqb x b) (span b s) (length s) (span_within b s)

-- ---- the first piece and the rest

last_step : (t : Bool) (x : ℕ) (s : Bytes) (n : ℕ) (ps : List Bytes) → suc (length s) ≤ choose t 0 (suc n) → (length s ≤ n → ps ≡ s ∷ []) → onto t x ps ≡ (x ∷ s) ∷ []
unfolding onto choose
last_step true x s n ps h ih = absurd (let z : ⊥ = omega arith in z)
last_step false x s n ps h ih = ap (onto false x) (ih (omega arith))

-- No separator: one piece.
split_last : (b : ℕ) (s : Bytes) → length s ≤ span b s → split b s ≡ s ∷ []
unfolding split span
split_last b [] h = refl
split_last b (x ∷ s) h = last_step (eqb x b) x s (span b s) (split b s) h (split_last b s)

more_step : (t : Bool) (b x : ℕ) (s : Bytes) (n : ℕ) → choose t 0 (suc n) < suc (length s) → (n < length s → split b s ≡ take n s ∷ split b (drop (suc n) s))
    → onto t x (split b s) ≡ take (choose t 0 (suc n)) (x ∷ s) ∷ split b (drop (suc (choose t 0 (suc n))) (x ∷ s))
unfolding onto choose
more_step true b x s n h ih = refl
more_step false b x s n h ih = ap (onto false x) (ih (omega arith))

-- The piece before the first separator, and the pieces after it.
split_more : (b : ℕ) (s : Bytes) → span b s < length s → split b s ≡ take (span b s) s ∷ split b (drop (suc (span b s)) s)
unfolding split span
split_more b [] h = absurd (let z : ⊥ = omega arith in z)
split_more b (x ∷ s) h = more_step (eqb x b) b x s (span b s) h (split_more b s)

-- The same by what the code holds: i is where the first separator stands, f what stands before it, r what stands after it.
pub uncut : (b : ℕ) (s : Bytes) (i : ℕ) → i ≡ span b s → length s ≤ i → split b s ≡ s ∷ []
uncut b s i e h = split_last b s (omega arith)

pub cut : (b : ℕ) (s f r : Bytes) (i : ℕ) → i ≡ span b s → i < length s → f ≡ take i s → r ≡ drop (i + 1) s → split b s ≡ f ∷ split b r
cut b s f r i e h ef er = simp (ef, er, add-one, e) (split_more b s (omega arith))

-- The same by the first piece f: it is all there is, or a separator and the other pieces follow it.
module _ (b : ℕ) (s f : Bytes) (ef : f ≡ take (span b s) s) where
  first_long : length f ≡ span b s
  first_long = ap length ef ∙ length-take-le (span b s) s (span_within b s)

  pub first_last : length s ≤ length f → split b s ≡ s ∷ []
  first_last h = split_last b s (omega (arith, first_long))

  pub first_more : (r : Bytes) → length f < length s → r ≡ drop (length f + 1) s → split b s ≡ f ∷ split b r
  first_more r h er = cut b s f r (length f) first_long h (ef ∙ ap (λ (n : ℕ). take n s) (sym first_long)) er

-- The same of what stands from the place `at` on.
module _ (b : ℕ) (s rest : Bytes) (at n : ℕ) (er : rest ≡ drop at s) (e : n ≡ span b rest) where
  pub uncut_at : length rest ≤ n → split b (drop at s) ≡ rest ∷ []
  uncut_at h = ap (split b) (sym er) ∙ uncut b rest n e h

  pub cut_at : (f : Bytes) → n < length rest → f ≡ take n rest → split b (drop at s) ≡ f ∷ split b (drop (at + n + 1) s)
  cut_at f h ef =
      ap (split b) (sym er) ∙ cut b rest f (drop (n + 1) rest) n e h ef refl ∙ ap (λ (r : Bytes). f ∷ split b r) (drop_next s rest at n er)

-- The bytes s have no separator, or one at least.
pub pieces : {A : Type 0} (b : ℕ) (s : Bytes) → (split b s ≡ s ∷ [] → A) → ((p q : Bytes) (qs : List Bytes) → split b s ≡ p ∷ q ∷ qs → A) → A
pieces b s f g =
    below_or (span b s) (length s)
    (λ h.
    let r = drop (span b s + 1) s in
    let c = split_cons b r in
    g (take (span b s) s) c.0 c.1 (cut b s (take (span b s) s) r (span b s) refl h refl refl ∙ ap (λ (ps : List Bytes). take (span b s) s ∷ ps) c.2))
    (λ h. f (uncut b s (span b s) refl h))

-- ---- the pieces by the first bytes

-- The bytes s by the first n of them, p, and by what stands behind these.
pub begins : (n : ℕ) (s f p rest : Bytes) → f ≡ take n s → same f p ≡ true → rest ≡ drop n s → s ≡ p ++ rest
begins n s f p rest ef e er =
    sym (take-append-drop n s) ∙ ap (λ (x : Bytes). x ++ drop n s) (sym ef ∙ same_true f p e) ∙ ap (λ (x : Bytes). p ++ x) (sym er)

-- A letter and a separator: the letter is the first piece.
pub letter : (b x : ℕ) (s f rest : Bytes) → f ≡ take 2 s → rest ≡ drop 2 s → eqb x b ≡ false → same f (x ∷ b ∷ []) ≡ true → split b s ≡ (x ∷ []) ∷ split b rest
unfolding split onto
letter b x s f rest ef er n e =
    ap (split b) (begins 2 s f (x ∷ b ∷ []) rest ef e er)
    ∙ ap (λ (t : Bool). onto t x (onto (eqb b b) b (split b rest))) n
    ∙ ap (λ (t : Bool). onto false x (onto t b (split b rest))) (eq-eqb b b refl)
