-- What a written sheet is as lines.
use Rattle.std.specs.Prelude.{◌≡◌, refl, true, List, [], ◌∷◌, ◌++◌, map, ℕ, ◌≤◌, ◌<◌, get_or}
use Rattle.std.proofs.Common.{sym, subst, ⊎_elim, arith, eqb-true}
use Rattle.std.proofs.lemmas.Bool.{false≢true}
use Rattle.std.proofs.Math.Decide.{dec_lt}
use Rattle.std.proofs.Math.ListN.{get_or-eq_default}
use Rattle.laws.specs.Tests.{◌and◌, isnt, has}
use Rattle.laws.specs.TestLaws.{or_cases, or_left, or_right}
use Rattle.rules.specs.Text.{Bytes, same, bytes, lines_of, text_of, all_bytes, decimal}
use Rattle.rules.specs.SuiteFile.{Suite, test_count, test_name}
use Rattle.rules.specs.Sheet.{Sheet, head_text, m_text, d_text, r_text, end_text, sheet_lines, among}
use Rattle.rules.specs.Kept.{SoundSuite}
use Rattle.rules.specs.Kept.{other}
use Rattle.rules.proofs.TextLaws.{same_self, decimal_free, Free, AllFree, free_commas, all_free_append, split_ended, name_free}

pub among_append : (ls ms : List Bytes) (l : Bytes) → among ls l ≡ true → among (ls ++ ms) l ≡ true
unfolding among
among_append [] ms l e = absurd (false≢true e)
among_append (m ∷ ls) ms l e = ⊎_elim (λ p. or_left _ p) (λ p. or_right _ (among_append ls ms l p)) (or_cases _ _ e)

pub among_later : (ls ms : List Bytes) (l : Bytes) → among ms l ≡ true → among (ls ++ ms) l ≡ true
unfolding among
among_later [] ms l e = e
among_later (m ∷ ls) ms l e = or_right _ (among_later ls ms l e)

pub among_here : (l : Bytes) (ls : List Bytes) → among (l ∷ ls) l ≡ true
unfolding among
among_here l ls = or_left _ (same_self l)

among_map : (f : ℕ → Bytes) (l : List ℕ) (i : ℕ) → has l i ≡ true → among (map f l) (f i) ≡ true
unfolding among has
among_map f [] i e = e
among_map f (x ∷ l) i e =
    ⊎_elim (λ p. or_left _ (subst (λ (j : ℕ). same (f x) (f j) ≡ true) (eqb-true x i p) (same_self (f x)))) (λ p. or_right _ (among_map f l i p)) (or_cases _ _ e)

-- Each test that a sheet lists has its R line among the sheet's lines.
pub r_written : (names : List Bytes) (s : Sheet) (i : ℕ) → has s.R i ≡ true → among (sheet_lines names s) (r_text (get_or names i [])) ≡ true
unfolding sheet_lines
r_written names s i h =
    among_later (head_text ∷ []) _ _
    (among_later (map (λ x. m_text x.0 x.1) s.M) _ _
    (among_later (map d_text s.D) _ _ (among_append (map (λ i. r_text (get_or names i [])) s.R) _ _ (among_map (λ i. r_text (get_or names i [])) s.R i h))))

-- ---- no line of a sheet has a byte 10

all_map : {A : Type 0} (b : ℕ) (f : A → Bytes) (l : List A) → ((x : A) → Free b (f x)) → AllFree b (map f l)
all_map b f [] h = tt
all_map b f (x ∷ l) h = (h x, all_map b f l h)

m_free : (n k : ℕ) → Free 10 (m_text n k)
unfolding m_text all_bytes other isnt ◌and◌
m_free n k = free_commas (bytes "M" ∷ decimal n ∷ decimal k ∷ []) (refl, (decimal_free 10 n (omega arith), (decimal_free 10 k (omega arith), tt)))

d_free : (e : ℕ) → Free 10 (d_text e)
unfolding d_text all_bytes other isnt ◌and◌
d_free e = free_commas (bytes "D" ∷ decimal e ∷ []) (refl, (decimal_free 10 e (omega arith), tt))

r_free : (name : Bytes) → Free 10 name → Free 10 (r_text name)
unfolding r_text all_bytes other isnt ◌and◌
r_free name h = free_commas (bytes "R" ∷ name ∷ []) (refl, (h, tt))

end_free : (m d r : ℕ) → Free 10 (end_text m d r)
unfolding end_text all_bytes other isnt ◌and◌
end_free m d r =
    free_commas (bytes "end" ∷ decimal m ∷ decimal d ∷ decimal r ∷ [])
    (refl, (decimal_free 10 m (omega arith), (decimal_free 10 d (omega arith), (decimal_free 10 r (omega arith), tt))))

head_free : Free 10 head_text
unfolding all_bytes other isnt ◌and◌
head_free = refl

-- The name of any number is a name or empty.
name_at_free : (m b : ℕ) (s : Suite) → SoundSuite m s → b < 48 → (i : ℕ) → Free b (test_name s i)
unfolding all_bytes
name_at_free m b s h l i = go (dec_lt i (test_count s))
  where
    go : Dec (i < test_count s) → Free b (test_name s i)
    go (yes k) = name_free b (test_name s i) l (h.name_forms i k)
    go (no k) = subst (λ (n : Bytes). Free b n) (sym (get_or-eq_default s.names [] (let z : test_count s ≤ i = omega arith in z))) refl

pub sheet_free : (m : ℕ) (s : Suite) → SoundSuite m s → (c : Sheet) → AllFree 10 (sheet_lines s.names c)
unfolding sheet_lines
sheet_free m s h c = (
  head_free,
  all_free_append 10 (map (λ x. m_text x.0 x.1) c.M) _ (all_map 10 (λ x. m_text x.0 x.1) c.M (λ x. m_free x.0 x.1))
      (all_free_append 10 (map d_text c.D) _ (all_map 10 d_text c.D d_free)
      (all_free_append 10 (map (λ i. r_text (test_name s i)) c.R) _ (all_map 10 (λ i. r_text (test_name s i)) c.R (λ i. r_free (test_name s i) (name_at_free m 10 s h (omega arith) i)))
      (end_free _ _ _, tt))),
)

-- The lines of a written sheet's text are its lines.
pub sheet_lines_lem : (m : ℕ) (s : Suite) → SoundSuite m s → (c : Sheet) → lines_of (text_of (sheet_lines s.names c)) ≡ sheet_lines s.names c ++ ([] ∷ [])
sheet_lines_lem m s h c = split_ended (sheet_lines s.names c) (sheet_free m s h c)
