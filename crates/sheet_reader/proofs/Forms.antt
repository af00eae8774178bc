-- The form of a line, by its fields and by its first bytes.
use mathlib.Core.Path.{◌≡◌, refl, sym, ap, ◌∙◌}
use mathlib.Core.Logic.{⊎_elim}
use mathlib.Core.Bool.{Bool, true, false}
use mathlib.Core.List.{List, [], ◌∷◌}
use native.Mathlib.Omega.{arith}
use lib.ListN.{take, drop}
use Rattle.laws.specs.Tests.{◌and◌, choose}
use Rattle.laws.specs.TestLaws.{and_not, both_ways, passes?}
use Rattle.rules.specs.Text.{Bytes, bytes, is_name, is_number, join_by, onto, same, split}
use Rattle.rules.specs.Sheet.{SheetLine, d_line, end_line, head_line, head_text, m_line, no_form, r_line, sheet_form}
use Rattle.rules.proofs.SheetLayout.{SheetFormed, sheet_formed}
use Rattle.rules.proofs.TextLaws.{join_split, name_free, number_free, same_of, split_free}
use Rattle.text.specs.SplitLaws.{begins, pieces}

-- ---- the fields of each form

module _ (a b : Bytes) where
  pub m_is : is_number a ≡ true → is_number b ≡ true → sheet_form (bytes "M" ∷ a ∷ b ∷ []) ≡ m_line a b
  unfolding sheet_form choose same ◌and◌
  m_is p q = simp (p, q)

  pub m_none : (is_number a and is_number b) ≡ false → sheet_form (bytes "M" ∷ a ∷ b ∷ []) ≡ no_form
  unfolding sheet_form choose same ◌and◌
  m_none n = simp n

  m_more : (c : Bytes) (cs : List Bytes) → sheet_form (bytes "M" ∷ a ∷ b ∷ c ∷ cs) ≡ no_form
  unfolding sheet_form choose same ◌and◌
  m_more c [] = refl
  m_more c (d ∷ ds) = refl

module _ (a : Bytes) where
  pub m_one : sheet_form (bytes "M" ∷ a ∷ []) ≡ no_form
  unfolding sheet_form choose same ◌and◌
  m_one = refl

  pub d_is : is_number a ≡ true → sheet_form (bytes "D" ∷ a ∷ []) ≡ d_line a
  unfolding sheet_form choose same ◌and◌
  d_is p = simp p

  pub d_none : is_number a ≡ false → sheet_form (bytes "D" ∷ a ∷ []) ≡ no_form
  unfolding sheet_form choose same ◌and◌
  d_none n = simp n

  d_more : (b : Bytes) (bs : List Bytes) → sheet_form (bytes "D" ∷ a ∷ b ∷ bs) ≡ no_form
  unfolding sheet_form choose same ◌and◌
  d_more b [] = refl
  d_more b (c ∷ []) = refl
  d_more b (c ∷ d ∷ ds) = refl

  pub r_is : is_name a ≡ true → sheet_form (bytes "R" ∷ a ∷ []) ≡ r_line a
  unfolding sheet_form choose same ◌and◌
  r_is p = simp p

  pub r_none : is_name a ≡ false → sheet_form (bytes "R" ∷ a ∷ []) ≡ no_form
  unfolding sheet_form choose same ◌and◌
  r_none n = simp n

  r_more : (b : Bytes) (bs : List Bytes) → sheet_form (bytes "R" ∷ a ∷ b ∷ bs) ≡ no_form
  unfolding sheet_form choose same ◌and◌
  r_more b [] = refl
  r_more b (c ∷ []) = refl
  r_more b (c ∷ d ∷ ds) = refl

module _ (a b c : Bytes) where
  pub end_is : is_number a ≡ true → is_number b ≡ true → is_number c ≡ true → sheet_form (bytes "end" ∷ a ∷ b ∷ c ∷ []) ≡ end_line a b c
  unfolding sheet_form choose same ◌and◌
  end_is p q r = simp (p, q, r)

  pub end_none : (is_number a and is_number b and is_number c) ≡ false → sheet_form (bytes "end" ∷ a ∷ b ∷ c ∷ []) ≡ no_form
  unfolding sheet_form choose same ◌and◌
  end_none n = simp n

  end_more : (d : Bytes) (ds : List Bytes) → sheet_form (bytes "end" ∷ a ∷ b ∷ c ∷ d ∷ ds) ≡ no_form
  unfolding sheet_form
  end_more d ds = refl

pub end_one : (a : Bytes) → sheet_form (bytes "end" ∷ a ∷ []) ≡ no_form
unfolding sheet_form choose same ◌and◌
end_one a = refl

pub end_two : (a b : Bytes) → sheet_form (bytes "end" ∷ a ∷ b ∷ []) ≡ no_form
unfolding sheet_form choose same ◌and◌
end_two a b = refl

-- ---- the last field has no comma

-- The last field is all the rest, where F, what the last fields say, is no form if there are two or if the one is not what it must be, and what it must be has no comma.
module _ (F : List Bytes → SheetLine) (must : Bytes → Bool) where
  last_whole : ((s : Bytes) → must s ≡ true → split 44 s ≡ s ∷ []) → ((s : Bytes) → must s ≡ false → F (s ∷ []) ≡ no_form)
      → ((p q : Bytes) (qs : List Bytes) → F (p ∷ q ∷ qs) ≡ no_form) → (s : Bytes) → F (split 44 s) ≡ F (s ∷ [])
  last_whole whole none more s =
      ⊎_elim
      (λ y. ap F (whole s y))
      (λ n. pieces 44 s (λ e. ap F e) (λ p q qs e. ap F e ∙ more p q qs ∙ sym (none s n)))
      (passes? (must s))

number_whole : (s : Bytes) → is_number s ≡ true → split 44 s ≡ s ∷ []
number_whole s y = split_free 44 s (number_free 44 s (omega arith) y)

name_whole : (s : Bytes) → is_name s ≡ true → split 44 s ≡ s ∷ []
name_whole s y = split_free 44 s (name_free 44 s (omega arith) y)

pub m_whole : (a b : Bytes) → sheet_form (bytes "M" ∷ a ∷ split 44 b) ≡ sheet_form (bytes "M" ∷ a ∷ b ∷ [])
m_whole a =
    last_whole (λ ps. sheet_form (bytes "M" ∷ a ∷ ps)) is_number number_whole (λ s n. m_none a s (ap (λ (t : Bool). is_number a and t) n ∙ and_not (is_number a))) (m_more a)

pub d_whole : (e : Bytes) → sheet_form (bytes "D" ∷ split 44 e) ≡ sheet_form (bytes "D" ∷ e ∷ [])
d_whole = last_whole (λ ps. sheet_form (bytes "D" ∷ ps)) is_number number_whole d_none d_more

pub r_whole : (name : Bytes) → sheet_form (bytes "R" ∷ split 44 name) ≡ sheet_form (bytes "R" ∷ name ∷ [])
r_whole = last_whole (λ ps. sheet_form (bytes "R" ∷ ps)) is_name name_whole r_none r_more

pub end_whole : (a b c : Bytes) → sheet_form (bytes "end" ∷ a ∷ b ∷ split 44 c) ≡ sheet_form (bytes "end" ∷ a ∷ b ∷ c ∷ [])
end_whole a b =
    last_whole (λ ps. sheet_form (bytes "end" ∷ a ∷ b ∷ ps)) is_number number_whole
    (λ s n. end_none a b s (ap (λ (t : Bool). is_number a and is_number b and t) n ∙ ap (λ (t : Bool). is_number a and t) (and_not (is_number b)) ∙ and_not (is_number a)))
    (end_more a b)

-- ---- the first bytes

pub head_form : sheet_form (split 44 head_text) ≡ head_line
unfolding split onto sheet_form choose same ◌and◌
head_form = refl

-- The first field of the last line.
module _ (l f rest : Bytes) where
  pub word : f ≡ take 4 l → rest ≡ drop 4 l → same f (bytes "end,") ≡ true → split 44 l ≡ bytes "end" ∷ split 44 rest
  unfolding split onto
  word ef er e = ap (split 44) (begins 4 l f (bytes "end,") rest ef e er)

-- Every form has its first bytes.
pub none_begins : (l f g : Bytes) → f ≡ take 2 l → g ≡ take 4 l → same f (bytes "M,") ≡ false → same f (bytes "D,") ≡ false → same f (bytes "R,") ≡ false → same g (bytes "end,") ≡ false
    → same l head_text ≡ false → sheet_form (split 44 l) ≡ no_form
unfolding join_by
none_begins l f g ef eg m d r u t = go (sheet_form (split 44 l)) (sheet_formed (split 44 l))
  where
    joined : (fs : List Bytes) → split 44 l ≡ fs → l ≡ join_by 44 fs
    joined fs q = sym (join_split 44 l) ∙ ap (join_by 44) q

    go : (x : SheetLine) → SheetFormed (split 44 l) x → x ≡ no_form
    go head_line q = absurd (both_ways (same_of (joined _ q)) t)
    go (m_line a b) q = absurd (both_ways (same_of (ef ∙ ap (take 2) (joined _ q.0))) m)
    go (d_line a) q = absurd (both_ways (same_of (ef ∙ ap (take 2) (joined _ q.0))) d)
    go (r_line a) q = absurd (both_ways (same_of (ef ∙ ap (take 2) (joined _ q))) r)
    go (end_line a b c) q = absurd (both_ways (same_of (eg ∙ ap (take 4) (joined _ q.0))) u)
    go no_form q = refl
