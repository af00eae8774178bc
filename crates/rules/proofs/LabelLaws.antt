-- Labels that match: byte by byte, for code that compares two labels, and what is left of a label, for a reader.
use Rattle.std.specs.Prelude.{◌≡◌, refl, ◌⊎◌, Bool, true, false, List, [], ◌∷◌, ◌++◌, ℕ, eqb, drop, get_or}
use Rattle.std.proofs.Common.{sym, ap, ◌∙◌, inl, inr, append-nil, eqb-true, ne_eqb}
use Rattle.std.proofs.lemmas.Bool.{eqb-false}
use Rattle.laws.specs.Tests.{◌and◌, choose}
use Rattle.laws.specs.TestLaws.{eqb_self, passes?}
use Rattle.laws.specs.Lists.{choose_no, choose_yes}
use Rattle.rules.specs.Text.{Bytes, empty, join_by, non_empty, onto, same, split, squeezed}
use Rattle.rules.specs.Promises.{NoSpareBlanks, SqueezedExact}
use Rattle.rules.proofs.TextLaws.{split_cons}

-- ---- the pieces of two parts with a separator between them

onto_append : (t : Bool) (x : ℕ) (p : Bytes) (ps qs : List Bytes) → onto t x ((p ∷ ps) ++ qs) ≡ onto t x (p ∷ ps) ++ qs
unfolding onto
onto_append true x p ps qs = refl
onto_append false x p ps qs = refl

split_append : (b : ℕ) (s t : Bytes) → split b (s ++ (b ∷ t)) ≡ split b s ++ split b t
unfolding split onto
split_append b [] t = ap (λ (c : Bool). onto c b (split b t)) (eqb_self b)
split_append b (x ∷ s) t =
    let c = split_cons b s in
    ap (onto (eqb x b) x) (split_append b s t ∙ ap (λ (ps : List Bytes). ps ++ split b t) c.2)
    ∙ onto_append (eqb x b) x c.0 c.1 (split b t)
    ∙ ap (λ (ps : List Bytes). onto (eqb x b) x ps ++ split b t) (sym c.2)

non_empty_append : (l m : List Bytes) → non_empty (l ++ m) ≡ non_empty l ++ non_empty m
unfolding non_empty choose
non_empty_append [] m = refl
non_empty_append (p ∷ l) m = go (empty p) (non_empty_append l m)
  where
    go : (t : Bool) → non_empty (l ++ m) ≡ non_empty l ++ non_empty m → choose t (non_empty (l ++ m)) (p ∷ non_empty (l ++ m)) ≡ choose t (non_empty l) (p ∷ non_empty l) ++ non_empty m
    go true e = e
    go false e = ap (λ (r : List Bytes). p ∷ r) e

-- The pieces between blanks that are not empty.
abbrev pieces : Bytes → List Bytes
pieces s = non_empty (split 32 s)

pieces_append : (s t : Bytes) → pieces (s ++ (32 ∷ t)) ≡ pieces s ++ pieces t
pieces_append s t = ap non_empty (split_append 32 s t) ∙ non_empty_append (split 32 s) (split 32 t)

pieces_none : pieces [] ≡ []
unfolding non_empty split empty choose
pieces_none = refl

pieces_blank : (t : Bytes) → pieces (32 ∷ t) ≡ pieces t
pieces_blank t = pieces_append [] t ∙ ap (λ (l : List Bytes). l ++ pieces t) pieces_none

-- ---- byte by byte

-- The bytes begin with a blank; a blank before bytes, if there are any.
unfoldable pub blank_first : Bytes → Bool
blank_first [] = false
blank_first (x ∷ s) = eqb x 32

unfoldable pub spaced : Bytes → Bytes
spaced [] = []
spaced (x ∷ s) = 32 ∷ x ∷ s

-- What is left of the bytes behind one that is no blank.
unfoldable pub behind : Bytes → Bytes
behind s = choose (blank_first s) (spaced (squeezed s)) (squeezed s)

pub behind_spaced : (s : Bytes) → blank_first s ≡ true → behind s ≡ spaced (squeezed s)
unfolding behind
behind_spaced s e = choose_yes _ _ e

pub behind_bare : (s : Bytes) → blank_first s ≡ false → behind s ≡ squeezed s
unfolding behind
behind_bare s e = choose_no _ _ e

-- A piece before others that are not empty.
join_first : (x : ℕ) (p : Bytes) (ps : List Bytes) → join_by 32 ((x ∷ p) ∷ ps) ≡ x ∷ join_by 32 (p ∷ ps)
unfolding join_by
join_first x p [] = refl
join_first x p (q ∷ ps) = refl

join_spaced : (l : List Bytes) → join_by 32 ([] ∷ non_empty l) ≡ spaced (join_by 32 (non_empty l))
unfolding join_by non_empty choose spaced empty
join_spaced [] = refl
join_spaced ([] ∷ l) = join_spaced l
join_spaced ((x ∷ p) ∷ l) = go (non_empty l)
  where
    go : (m : List Bytes) → join_by 32 ([] ∷ (x ∷ p) ∷ m) ≡ spaced (join_by 32 ((x ∷ p) ∷ m))
    go [] = refl
    go (q ∷ m) = refl

-- The first byte: a blank is passed over, another stands before what is left behind it.
pub squeezed_none : squeezed [] ≡ []
unfolding squeezed non_empty split empty choose join_by
squeezed_none = refl

pub squeezed_blank : (s : Bytes) → squeezed (32 ∷ s) ≡ squeezed s
unfolding squeezed
squeezed_blank s = ap (join_by 32) (pieces_blank s)

-- What is left behind a byte, by the first piece behind it.
behind_is : (s : Bytes) → join_by 32 (get_or (split 32 s) 0 [] ∷ non_empty (drop 1 (split 32 s))) ≡ behind s
unfolding behind blank_first squeezed split onto choose non_empty empty join_by
behind_is [] = refl
behind_is (y ∷ t) = go (eqb y 32) refl
  where
    go : (b : Bool) → eqb y 32 ≡ b
        → join_by 32 (get_or (onto b y (split 32 t)) 0 [] ∷ non_empty (drop 1 (onto b y (split 32 t))))
        ≡ choose b (spaced (join_by 32 (non_empty (onto b y (split 32 t))))) (join_by 32 (non_empty (onto b y (split 32 t))))
    go true e = join_spaced (split 32 t)
    go false e = let c = split_cons 32 t in rw c.2 refl

pub squeezed_byte : (x : ℕ) (s : Bytes) → eqb x 32 ≡ false → squeezed (x ∷ s) ≡ x ∷ behind s
unfolding squeezed split onto non_empty choose empty
squeezed_byte x s n =
    let c = split_cons 32 s in
    ap (λ (t : Bool). join_by 32 (non_empty (onto t x (split 32 s)))) n
    ∙ ap (λ (l : List Bytes). join_by 32 (non_empty (onto false x l))) c.2
    ∙ join_first x c.0 (non_empty c.1)
    ∙ ap (λ (l : List Bytes). x ∷ join_by 32 (get_or l 0 [] ∷ non_empty (drop 1 l))) (sym c.2)
    ∙ ap (λ (b : Bytes). x ∷ b) (behind_is s)

-- What is left begins with no blank.
squeezed_first : (s : Bytes) → blank_first (squeezed s) ≡ false
unfolding blank_first
squeezed_first [] = ap blank_first squeezed_none
squeezed_first (x ∷ s) = go (passes? (eqb x 32)) (squeezed_first s)
  where
    go : (eqb x 32 ≡ true) ⊎ (eqb x 32 ≡ false) → blank_first (squeezed s) ≡ false → blank_first (squeezed (x ∷ s)) ≡ false
    go (inl e) r = let q : x ≡ 32 = eqb-true x 32 e in rw q (ap blank_first (squeezed_blank s) ∙ r)
    go (inr e) r = ap blank_first (squeezed_byte x s e) ∙ e

-- Behind equal bytes: where both sides begin with a blank or neither does, what is left of them is compared; else nothing may be left of either.
pub behind_same : (s t : Bytes) (b : Bool) → blank_first s ≡ b → blank_first t ≡ b → same (behind s) (behind t) ≡ same (squeezed s) (squeezed t)
unfolding behind choose spaced same ◌and◌
behind_same s t false h k = rw (h, k) refl
behind_same s t true h k = rw (h, k) (go (squeezed s) (squeezed t))
  where
    go : (u v : Bytes) → same (spaced u) (spaced v) ≡ same u v
    go [] [] = refl
    go [] (y ∷ v) = refl
    go (x ∷ u) [] = refl
    go (x ∷ u) (y ∷ v) = ap (λ (t : Bool). t and same (x ∷ u) (y ∷ v)) (eqb_self 32)

pub behind_left : (s t : Bytes) → blank_first s ≡ true → blank_first t ≡ false → same (behind s) (behind t) ≡ (empty (squeezed s) and empty (squeezed t))
unfolding behind choose spaced same empty ◌and◌ blank_first
behind_left s t h k = rw (h, k) (go (squeezed s) (squeezed t) (squeezed_first t))
  where
    go : (u v : Bytes) → blank_first v ≡ false → same (spaced u) v ≡ (empty u and empty v)
    go [] [] e = refl
    go [] (y ∷ v) e = refl
    go (x ∷ u) [] e = refl
    go (x ∷ u) (y ∷ v) e = ap (λ (t : Bool). t and same (x ∷ u) v) (ne_eqb 32 y (λ (q : 32 ≡ y). eqb-false y 32 e (sym q)))

pub behind_right : (s t : Bytes) → blank_first s ≡ false → blank_first t ≡ true → same (behind s) (behind t) ≡ (empty (squeezed s) and empty (squeezed t))
unfolding behind choose spaced same empty ◌and◌ blank_first
behind_right s t h k = rw (h, k) (go (squeezed s) (squeezed t) (squeezed_first s))
  where
    go : (u v : Bytes) → blank_first u ≡ false → same u (spaced v) ≡ (empty u and empty v)
    go [] [] e = refl
    go [] (y ∷ v) e = refl
    go (x ∷ u) [] e = refl
    go (x ∷ u) (y ∷ v) e = ap (λ (t : Bool). t and same u (y ∷ v)) e

-- ---- what is left of a label

-- Bytes without a blank at the back and two in a row stay as they are behind a byte, and behind a blank.
abbrev NoBack : Bytes → Type 0
NoBack s = (t : Bytes) → s ≡ t ++ (32 ∷ []) → ⊥

abbrev NoRun : Bytes → Type 0
NoRun s = (t u : Bytes) → s ≡ t ++ (32 ∷ 32 ∷ u) → ⊥

plain_blank : (s : Bytes) → NoBack (32 ∷ s) → NoRun (32 ∷ s) → behind s ≡ s → spaced (squeezed s) ≡ 32 ∷ s
unfolding spaced blank_first
plain_blank [] b r k = absurd (b [] refl)
plain_blank (y ∷ t) b r k = go (passes? (eqb y 32))
  where
    go : (eqb y 32 ≡ true) ⊎ (eqb y 32 ≡ false) → spaced (squeezed (y ∷ t)) ≡ 32 ∷ y ∷ t
    go (inl e) = absurd (r [] t (ap (λ (z : ℕ). 32 ∷ z ∷ t) (eqb-true y 32 e)))
    go (inr e) = ap spaced (sym (behind_bare (y ∷ t) e) ∙ k)

plain_behind : (s : Bytes) → NoBack s → NoRun s → behind s ≡ s
unfolding behind blank_first choose
plain_behind [] b r = squeezed_none
plain_behind (x ∷ s) b r = go (passes? (eqb x 32)) (plain_behind s (λ t e. b (x ∷ t) (ap (λ (l : Bytes). x ∷ l) e)) (λ t u e. r (x ∷ t) u (ap (λ (l : Bytes). x ∷ l) e)))
  where
    go : (eqb x 32 ≡ true) ⊎ (eqb x 32 ≡ false) → behind s ≡ s → choose (eqb x 32) (spaced (squeezed (x ∷ s))) (squeezed (x ∷ s)) ≡ x ∷ s
    go (inl e) k =
        let q : 32 ≡ x = sym (eqb-true x 32 e) in
        rw (← q) (ap spaced (squeezed_blank s) ∙ plain_blank s (λ t h. b t (sym (ap (λ (z : ℕ). z ∷ s) q) ∙ h)) (λ t u h. r t u (sym (ap (λ (z : ℕ). z ∷ s) q) ∙ h)) k)
    go (inr e) k = rw e (squeezed_byte x s e ∙ ap (λ (l : Bytes). x ∷ l) k)

plain_stays : (s : Bytes) → NoSpareBlanks s → squeezed s ≡ s
unfolding blank_first
plain_stays [] h = squeezed_none
plain_stays (x ∷ s) h = go (passes? (eqb x 32))
  where
    go : (eqb x 32 ≡ true) ⊎ (eqb x 32 ≡ false) → squeezed (x ∷ s) ≡ x ∷ s
    go (inl e) = absurd (h.front s (ap (λ (z : ℕ). z ∷ s) (eqb-true x 32 e)))
    go (inr e) = sym (behind_bare (x ∷ s) e) ∙ plain_behind (x ∷ s) h.back h.run

pub squeezed_exact : (s t : Bytes) → SqueezedExact s t
unfolding squeezed
squeezed_exact s t =
    record {
      front = squeezed_blank t;
      back = ap (join_by 32) (pieces_append s [] ∙ ap (λ (l : List Bytes). pieces s ++ l) pieces_none ∙ append-nil (pieces s));
      run = ap (join_by 32) (pieces_append s (32 ∷ t) ∙ ap (λ (l : List Bytes). pieces s ++ l) (pieces_blank t) ∙ sym (pieces_append s t));
      plain = plain_stays s;
    }
