-- Laws of texts: what a split gives back, what reading a text line by line keeps, and small laws of lists.
use Rattle.std.specs.Prelude.{◌≡◌, refl, Bool, ℕ, zero, suc, ◌+◌, ◌-◌, ◌*◌, ◌/◌, ◌%◌, ◌^◌, ◌≤◌, ◌<◌, eqb, get_or}
use Rattle.std.proofs.Common.{sym, ap₂, ◌∙◌, ⊎_elim, true≢false, arith, length-append}
use Rattle.std.proofs.Math.Path.{ap, subst}
use Rattle.std.proofs.Math.Bool.{true, false}
use Rattle.std.proofs.lemmas.Bool.{false≢true}
use mathlib.Core.List.{List, [], ◌∷◌, ◌++◌, append_assoc, append-nil}
use Rattle.std.proofs.Math.Decide.{dec_lt}
use Rattle.std.proofs.Math.ListN.{length}
use borrow.Author.Tests.{eqb-true, ltb-false, leb-true, ne_eqb, le-leb, lt-ltb, le-ltb}
use Rattle.laws.specs.Tests.{isnt}
use Rattle.laws.specs.TestLaws.{and_left, and_right, and_both, or_cases, isnt_true, isnt_false, true_isnt, eqb_self, every_at}
use Rattle.rules.specs.Text.{Bytes, max_bytes, onto, split, lines_of, join_by, text_of, between, all_bytes, name_byte, label_byte, word_byte, digit_byte, is_name, name_count, name_in, is_callees, is_label, is_word, is_number, value, value_from, digits, decimal, Reading, refused, accepted, then, unless, read_lines, read_text, empty, same}
use Rattle.rules.specs.Kept.{other}

-- ---- equal bytes

pub same_true : (s t : Bytes) → same s t ≡ true → s ≡ t
unfolding same
same_true [] [] e = refl
same_true [] (b ∷ t) e = absurd (false≢true e)
same_true (a ∷ s) [] e = absurd (false≢true e)
same_true (a ∷ s) (b ∷ t) e =
    let p : a ≡ b = eqb-true a b (and_left _ _ e) in
    let q : s ≡ t = same_true s t (and_right _ _ e) in
    cc

pub same_self : (s : Bytes) → same s s ≡ true
unfolding same
same_self [] = refl
same_self (a ∷ s) = and_both (eqb_self a) (same_self s)

pub same_of : {s t : Bytes} → s ≡ t → same s t ≡ true
same_of {s} {t} p = rw p (same_self t)

pub empty_true : (s : Bytes) → empty s ≡ true → s ≡ []
unfolding empty
empty_true [] e = refl
empty_true (a ∷ s) e = absurd (false≢true e)

pub empty_not : (s : Bytes) → 0 < length s → empty s ≡ false
unfolding empty
empty_not [] h = absurd (let z : ⊥ = omega arith in z)
empty_not (x ∷ s) h = refl

-- ---- answers

-- What an accepted answer behind a refusal says.
pub unless_accepted : {A : Type 0} (b : Bool) (k p : ℕ) (a : Reading A) (s : A) → unless b k p a ≡ accepted s → (b ≡ false) × (a ≡ accepted s)
unfolding unless
unless_accepted true k p a s e = absurd (true≢false (let z : true ≡ false = cc in z))
unless_accepted false k p a s e = (refl, e)

-- What passes behind a refusal.
pub unless_passes : {A : Type 0} (b : Bool) (k p : ℕ) (a : Reading A) → b ≡ false → unless b k p a ≡ a
unfolding unless
unless_passes true k p a e = absurd (true≢false e)
unless_passes false k p a e = refl

-- What is refused.
pub unless_refuses : {A : Type 0} (b : Bool) (k p : ℕ) (a : Reading A) → b ≡ true → unless b k p a ≡ refused k p
unfolding unless
unless_refuses true k p a e = refl
unless_refuses false k p a e = absurd (true≢false (sym e))

pub accepted_same : {A : Type 0} {a b : A} → accepted a ≡ accepted b → a ≡ b
accepted_same e = cc

pub then_accepted : {A B : Type 0} (a : Reading A) (f : A → Reading B) (b : B) → then a f ≡ accepted b → (x : A) × (a ≡ accepted x) × (f x ≡ accepted b)
unfolding then
then_accepted (refused k p) f b e = absurd (true≢false (let z : true ≡ false = cc in z))
then_accepted (accepted x) f b e = (x, refl, e)

pub then_passes : {A B : Type 0} {a : Reading A} (f : A → Reading B) {x : A} → a ≡ accepted x → then a f ≡ f x
unfolding then
then_passes f e = rw e

-- A choice by a passed test, and by a failed one.
-- ---- split and join

onto_join : (b : ℕ) (t : Bool) (x : ℕ) (s p : Bytes) (ps : List Bytes) → (t ≡ true → x ≡ b) → join_by b (p ∷ ps) ≡ s → join_by b (onto t x (p ∷ ps)) ≡ x ∷ s
unfolding onto join_by
onto_join b true x s p ps h e =
    let a : x ≡ b = h refl in
    cc
onto_join b false x s p [] h e = ap (λ (r : Bytes). x ∷ r) e
onto_join b false x s p (q ∷ ps) h e = ap (λ (r : Bytes). x ∷ r) e

onto_cons : (t : Bool) (x : ℕ) (ps : List Bytes) → (p : Bytes) × (qs : List Bytes) × (onto t x ps ≡ p ∷ qs)
unfolding onto
onto_cons true x ps = ([], ps, refl)
onto_cons false x [] = (x ∷ [], [], refl)
onto_cons false x (p ∷ ps) = (x ∷ p, ps, refl)

-- There is always a piece.
pub split_cons : (b : ℕ) (s : Bytes) → (p : Bytes) × (qs : List Bytes) × (split b s ≡ p ∷ qs)
unfolding split
split_cons b [] = ([], [], refl)
split_cons b (x ∷ s) = onto_cons (eqb x b) x (split b s)

-- The pieces, joined, are what was split.
pub join_split : (b : ℕ) (s : Bytes) → join_by b (split b s) ≡ s
unfolding split join_by
join_split b [] = refl
join_split b (x ∷ s) =
    let c = split_cons b s in
    subst (λ (ps : List Bytes). join_by b (onto (eqb x b) x ps) ≡ x ∷ s) (sym c.2)
    (onto_join b (eqb x b) x s c.0 c.1 (eqb-true x b) (subst (λ (ps : List Bytes). join_by b ps ≡ s) c.2 (join_split b s)))

join_ended : (ls : List Bytes) → join_by 10 (ls ++ ([] ∷ [])) ≡ text_of ls
unfolding join_by text_of
join_ended [] = refl
join_ended (l ∷ []) = refl
join_ended (l ∷ m ∷ ls) = ap (λ (r : Bytes). l ++ (10 ∷ r)) (join_ended (m ∷ ls))

-- A text whose last piece is empty is its other pieces, each ended.
pub lines_ended : (s : Bytes) (ls : List Bytes) → lines_of s ≡ ls ++ ([] ∷ []) → s ≡ text_of ls
lines_ended s ls e = sym (join_split 10 s) ∙ ap (join_by 10) e ∙ join_ended ls

-- The bytes have no b; the pieces have none.
abbrev pub Free : ℕ → Bytes → Type 0
Free b s = all_bytes (other b) s ≡ true

abbrev pub AllFree : ℕ → List Bytes → Type 0
AllFree b [] = Unit {0}
AllFree b (p ∷ ps) = Free b p × AllFree b ps

pub all_bytes_more : (f g : ℕ → Bool) → ((x : ℕ) → f x ≡ true → g x ≡ true) → (s : Bytes) → all_bytes f s ≡ true → all_bytes g s ≡ true
unfolding all_bytes
all_bytes_more f g h [] e = refl
all_bytes_more f g h (x ∷ s) e = and_both (h x (and_left _ _ e)) (all_bytes_more f g h s (and_right _ _ e))

pub all_bytes_append : (f : ℕ → Bool) (s t : Bytes) → all_bytes f s ≡ true → all_bytes f t ≡ true → all_bytes f (s ++ t) ≡ true
unfolding all_bytes
all_bytes_append f [] t a b = b
all_bytes_append f (x ∷ s) t a b = and_both (and_left _ _ a) (all_bytes_append f s t (and_right _ _ a) b)

other_no : (b x : ℕ) → other b x ≡ true → eqb x b ≡ false
unfolding other
other_no b x h = isnt_true _ h

onto_false : (t : Bool) (x : ℕ) (p : Bytes) (ps qs : List Bytes) → t ≡ false → qs ≡ p ∷ ps → onto t x qs ≡ (x ∷ p) ∷ ps
unfolding onto
onto_false t x p ps qs e f = rw (e, f, onto)

onto_true : (t : Bool) (x : ℕ) (ps : List Bytes) → t ≡ true → onto t x ps ≡ [] ∷ ps
unfolding onto
onto_true t x ps e = rw (e, onto)

-- Bytes with no separator are one piece.
pub split_free : (b : ℕ) (s : Bytes) → Free b s → split b s ≡ s ∷ []
unfolding split all_bytes
split_free b [] h = refl
split_free b (x ∷ s) h = onto_false (eqb x b) x s [] (split b s) (other_no b x (and_left _ _ h)) (split_free b s (and_right _ _ h))

-- Up to the first separator is a piece.
pub split_next : (b : ℕ) (p r : Bytes) → Free b p → split b (p ++ (b ∷ r)) ≡ p ∷ split b r
unfolding split all_bytes
split_next b [] r h = onto_true (eqb b b) b (split b r) (eqb_self b)
split_next b (x ∷ p) r h = onto_false (eqb x b) x p (split b r) (split b (p ++ (b ∷ r))) (other_no b x (and_left _ _ h)) (split_next b p r (and_right _ _ h))

-- Pieces with no separator are what their joining is split into.
pub split_join : (b : ℕ) (p : Bytes) (ps : List Bytes) → AllFree b (p ∷ ps) → split b (join_by b (p ∷ ps)) ≡ p ∷ ps
unfolding join_by
split_join b p [] h = split_free b p h.0
split_join b p (q ∷ ps) h = split_next b p (join_by b (q ∷ ps)) h.0 ∙ ap (λ (r : List Bytes). p ∷ r) (split_join b q ps h.1)

pub split_ended : (ls : List Bytes) → AllFree 10 ls → lines_of (text_of ls) ≡ ls ++ ([] ∷ [])
unfolding text_of split
split_ended [] h = refl
split_ended (l ∷ ls) h = split_next 10 l (text_of ls) h.0 ∙ ap (λ (r : List Bytes). l ∷ r) (split_ended ls h.1)

-- Pieces with no b, joined by another byte, have none; so a line of fields with no byte 10.
pub free_joined : (b c : ℕ) → other b c ≡ true → (fs : List Bytes) → AllFree b fs → Free b (join_by c fs)
unfolding join_by all_bytes
free_joined b c o [] h = refl
free_joined b c o (f ∷ []) h = h.0
free_joined b c o (f ∷ g ∷ fs) h = all_bytes_append (other b) f (c ∷ join_by c (g ∷ fs)) h.0 (and_both o (free_joined b c o (g ∷ fs) h.1))

pub free_commas : (fs : List Bytes) → AllFree 10 fs → Free 10 (join_by 44 fs)
unfolding other isnt
free_commas fs h = free_joined 10 44 refl fs h

pub all_free_append : (b : ℕ) (ls ms : List Bytes) → AllFree b ls → AllFree b ms → AllFree b (ls ++ ms)
all_free_append b [] ms g h = h
all_free_append b (l ∷ ls) ms g h = (g.0, all_free_append b ls ms g.1 h)

-- ---- the classes have no comma and no byte 10

pub between_at : (a b x : ℕ) → between a b x ≡ true → (a ≤ x) × (x ≤ b)
unfolding between
between_at a b x h = (leb-true _ _ (and_left _ _ h), leb-true _ _ (and_right _ _ h))

other_of : (b x : ℕ) → (x ≡ b → ⊥) → other b x ≡ true
unfolding other
other_of b x h = true_isnt (ne_eqb x b h)

pub digit_other : (b x : ℕ) → b < 48 → digit_byte x ≡ true → other b x ≡ true
unfolding digit_byte
digit_other b x l h = other_of b x (λ e. let z : ⊥ = omega (arith, between_at 48 57 x h) in z)

pub name_other : (b x : ℕ) → b < 48 → name_byte x ≡ true → other b x ≡ true
unfolding name_byte
name_other b x l h =
    other_of b x (λ e. ⊎_elim (λ a. let z : ⊥ = omega (arith, between_at 65 90 x a) in z)
    (λ a. ⊎_elim (λ c. let z : ⊥ = omega (arith, between_at 97 122 x c) in z)
    (λ c. ⊎_elim (λ d. let z : ⊥ = omega (arith, between_at 48 57 x d) in z) (λ d. let z : ⊥ = omega (arith, eqb-true x 95 d) in z) (or_cases _ _ c))
    (or_cases _ _ a)) (or_cases _ _ h))

pub label_ten : (x : ℕ) → label_byte x ≡ true → other 10 x ≡ true
unfolding label_byte
label_ten x h = other_of 10 x (λ e. let z : ⊥ = omega (arith, between_at 32 126 x (and_left _ _ h)) in z)

pub label_comma : (x : ℕ) → label_byte x ≡ true → other 44 x ≡ true
unfolding label_byte other
label_comma x h = and_right _ _ h

pub word_ten : (x : ℕ) → word_byte x ≡ true → other 10 x ≡ true
unfolding word_byte
word_ten x h = other_of 10 x (λ e. let z : ⊥ = omega (arith, between_at 33 126 x (and_left _ _ h)) in z)

pub word_comma : (x : ℕ) → word_byte x ≡ true → other 44 x ≡ true
unfolding word_byte other
word_comma x h = and_right _ _ h

pub name_free : (b : ℕ) (s : Bytes) → b < 48 → is_name s ≡ true → Free b s
unfolding is_name
name_free b s l h = all_bytes_more name_byte (other b) (λ x k. name_other b x l k) s (and_right _ _ h)

-- A name has from 1 to 12 bytes.
pub name_sized : (s : Bytes) → is_name s ≡ true → (1 ≤ length s) × (length s ≤ 12)
unfolding is_name
name_sized s h = between_at 1 12 (length s) (and_left _ _ h)

-- A callee field has no byte below 48 but `+`.
pub names_free : (b : ℕ) (ps : List Bytes) → b < 48 → ((i : ℕ) → i < length ps → is_name (get_or ps i []) ≡ true) → AllFree b ps
names_free b [] l h = tt
names_free b (p ∷ ps) l h = (name_free b p l (h 0 (omega arith)), names_free b ps l (λ i k. h (suc i) (omega arith)))

pub callees_free : (b : ℕ) (s : Bytes) → b < 48 → other b 43 ≡ true → is_callees s ≡ true → Free b s
unfolding is_callees name_count name_in
callees_free b s l o h =
    subst (Free b) (join_split 43 s) (free_joined b 43 o (split 43 s) (names_free b (split 43 s) l (every_at (λ i. is_name (name_in s i)) (name_count s) (and_right _ _ h))))

pub label_free_ten : (s : Bytes) → is_label s ≡ true → Free 10 s
unfolding is_label
label_free_ten s h = all_bytes_more label_byte (other 10) label_ten s (and_right _ _ h)

pub label_free_comma : (s : Bytes) → is_label s ≡ true → Free 44 s
unfolding is_label
label_free_comma s h = all_bytes_more label_byte (other 44) label_comma s (and_right _ _ h)

pub word_free_ten : (s : Bytes) → is_word s ≡ true → Free 10 s
unfolding is_word
word_free_ten s h = all_bytes_more word_byte (other 10) word_ten s (and_right _ _ h)

pub word_free_comma : (s : Bytes) → is_word s ≡ true → Free 44 s
unfolding is_word
word_free_comma s h = all_bytes_more word_byte (other 44) word_comma s (and_right _ _ h)

digit_of : (x : ℕ) → 48 ≤ x → x ≤ 57 → digit_byte x ≡ true
unfolding digit_byte between
digit_of x a b = and_both (le-leb 48 x a) (le-leb x 57 b)

number_digits : (s : Bytes) → is_number s ≡ true → all_bytes digit_byte s ≡ true
unfolding is_number all_bytes
number_digits [] h = absurd (false≢true h)
number_digits (d ∷ []) h = and_both h refl
number_digits (d ∷ e ∷ ds) h = and_both (first_digit d (and_left _ _ h)) (and_right _ _ h)
  where
    first_digit : (d : ℕ) → between 49 57 d ≡ true → digit_byte d ≡ true
    first_digit d k = digit_of d (omega (arith, between_at 49 57 d k)) (omega (arith, between_at 49 57 d k))

pub number_free : (b : ℕ) (s : Bytes) → b < 48 → is_number s ≡ true → Free b s
number_free b s l h = all_bytes_more digit_byte (other b) (λ x k. digit_other b x l k) s (number_digits s h)

-- ---- reading line by line

-- What each accepted line keeps, of the lines taken so far and what was read of them, holds at the end of an accepted text.
module _ {S A : Type 0} (step : ℕ → ℕ → S → Bytes → Reading S) (finish : ℕ → S → Reading A) (P : List Bytes → S → Type 0)
    (keeps : (n at : ℕ) (ls : List Bytes) (st : S) (l : Bytes) (s : S) → P ls st → step n at st l ≡ accepted s → P (ls ++ (l ∷ [])) s) where
  pub record Finished (pieces : List Bytes) (a : A) : Type 0 where
    pub lines : List Bytes
    pub last : S
    pub number : ℕ
    pub taken : pieces ≡ lines ++ ([] ∷ [])
    pub holds : P lines last
    pub finishes : finish number last ≡ accepted a

  lines_hold : (ls pieces : List Bytes) (n at : ℕ) (st : S) (a : A) → P ls st → read_lines step finish n at st pieces ≡ accepted a → Finished (ls ++ pieces) a
  unfolding read_lines
  lines_hold ls [] n at st a h e = absurd (true≢false (let z : true ≡ false = cc in z))
  lines_hold ls (rest ∷ []) n at st a h e =
      let u = unless_accepted _ _ _ _ _ e in
      record { lines = ls; last = st; number = n; taken = ap (λ (r : Bytes). ls ++ (r ∷ [])) (empty_true rest (isnt_false _ u.0)); holds = h; finishes = u.1 }
  lines_hold ls (l ∷ m ∷ ms) n at st a h e =
      let t = then_accepted _ _ _ e in
      subst (λ (p : List Bytes). Finished p a) (append_assoc ls (l ∷ []) (m ∷ ms))
      (lines_hold (ls ++ (l ∷ [])) (m ∷ ms) (suc n) (at + length l + 1) t.0 a (keeps n at ls st l t.0 h t.1) t.2)

  pub text_holds : (text : Bytes) (st : S) (a : A) → P [] st → read_text step finish st text ≡ accepted a → Finished (lines_of text) a
  unfolding read_text
  text_holds text st a h e = lines_hold [] (lines_of text) 1 0 st a h (unless_accepted _ _ _ _ _ e).1

  pub text_short : (text : Bytes) (st : S) (a : A) → read_text step finish st text ≡ accepted a → length text ≤ max_bytes
  unfolding read_text
  text_short text st a e = ltb-false max_bytes (length text) (unless_accepted _ _ _ _ _ e).0

-- One line before others.
pub lines_next : {S A : Type 0} (step : ℕ → ℕ → S → Bytes → Reading S) (finish : ℕ → S → Reading A) (n at : ℕ) (st : S) (l m : Bytes) (ls ms : List Bytes)
    → read_lines step finish n at st ((l ∷ ls) ++ (m ∷ ms)) ≡ then (step n at st l) (λ s. read_lines step finish (suc n) (at + length l + 1) s (ls ++ (m ∷ ms)))
unfolding read_lines
lines_next step finish n at st l m [] ms = refl
lines_next step finish n at st l m (k ∷ ls) ms = refl

-- ---- decimal numbers

split_ten : {X : Type 0} (n : ℕ) → (n < 10 → X) → (10 ≤ n → X) → X
split_ten {X = X} n f g = go (dec_lt n 10)
  where
    go : Dec (n < 10) → X
    go (yes h) = f h
    go (no h) = g (omega arith)

digits_small : (k n : ℕ) → n < 10 → digits k n ≡ (48 + n % 10) ∷ []
unfolding digits
digits_small zero n h = refl
digits_small (suc k) n h = rw (lt-ltb n 10 h, digits)

digits_more : (k n : ℕ) → 10 ≤ n → digits (suc k) n ≡ digits k (n / 10) ++ ((48 + n % 10) ∷ [])
unfolding digits
digits_more k n h = rw (le-ltb n 10 h, digits)

-- The bound does not matter, if it is large enough.
digits_any : (j k n : ℕ) → n ≤ j → n ≤ k → digits j n ≡ digits k n
digits_any zero k n hj hk = digits_small zero n (omega arith) ∙ sym (digits_small k n (omega arith))
digits_any (suc j) zero n hj hk = digits_small (suc j) n (omega arith) ∙ sym (digits_small zero n (omega arith))
digits_any (suc j) (suc k) n hj hk =
    split_ten n
    (λ h. digits_small (suc j) n h ∙ sym (digits_small (suc k) n h))
    (λ h. digits_more j n h ∙ ap (λ (l : Bytes). l ++ ((48 + n % 10) ∷ [])) (digits_any j k (n / 10) (omega arith) (omega arith)) ∙ sym (digits_more k n h))

pub decimal_small : (n : ℕ) → n < 10 → decimal n ≡ (48 + n % 10) ∷ []
unfolding decimal
decimal_small n h = digits_small n n h

pub decimal_more : (n : ℕ) → 10 ≤ n → decimal n ≡ decimal (n / 10) ++ ((48 + n % 10) ∷ [])
unfolding decimal
decimal_more zero h = absurd (let z : ⊥ = omega arith in z)
decimal_more (suc n) h =
    digits_more n (suc n) h ∙ ap (λ (l : Bytes). l ++ ((48 + suc n % 10) ∷ [])) (digits_any n (suc n / 10) (suc n / 10) (omega arith) (omega arith))

value_append : (v : ℕ) (xs ys : Bytes) → value_from v (xs ++ ys) ≡ value_from (value_from v xs) ys
unfolding value_from
value_append v [] ys = refl
value_append v (x ∷ xs) ys = value_append (v * 10 + (x - 48)) xs ys

value_digits : (k n : ℕ) → n ≤ k → value_from 0 (digits k n) ≡ n
unfolding value_from digits
value_digits zero n h = omega arith
value_digits (suc k) n h =
    split_ten n
    (λ s. rw (digits_small (suc k) n s) (omega arith))
    (λ m. rw (digits_more k n m, value_append 0 (digits k (n / 10)) ((48 + n % 10) ∷ []), value_digits k (n / 10) (omega arith)) (omega arith))

-- Reading back what was written.
pub value_decimal : (n : ℕ) → value (decimal n) ≡ n
unfolding decimal
value_decimal n = value_digits n n (omega arith)

-- A number in decimal has the form of a number.
lead_of : (x : ℕ) → digit_byte x ≡ true → 0 < 0 * 10 + (x - 48) → between 49 57 x ≡ true
unfolding digit_byte between
lead_of x h l =
    let r = between_at 48 57 x h in
    and_both (le-leb 49 x (omega arith)) (le-leb x 57 r.1)

number_snoc : (s : Bytes) (d : ℕ) → is_number s ≡ true → 0 < value_from 0 s → digit_byte d ≡ true → is_number (s ++ (d ∷ [])) ≡ true
unfolding is_number value_from all_bytes
number_snoc [] d h l k = absurd (false≢true h)
number_snoc (x ∷ []) d h l k = and_both (lead_of x h l) (and_both k refl)
number_snoc (x ∷ y ∷ s) d h l k = and_both (and_left _ _ h) (and_both (and_left _ _ (and_right _ _ h)) (all_bytes_append digit_byte s (d ∷ []) (and_right _ _ (and_right _ _ h)) (and_both k refl)))

number_digits_of : (k n : ℕ) → n ≤ k → is_number (digits k n) ≡ true
unfolding is_number
number_digits_of zero n h = rw (digits_small zero n (omega arith)) (digit_of (48 + n % 10) (omega arith) (omega arith))
number_digits_of (suc k) n h =
    split_ten n
    (λ s. rw (digits_small (suc k) n s) (digit_of (48 + n % 10) (omega arith) (omega arith)))
    (λ m. rw (digits_more k n m)
    (number_snoc (digits k (n / 10)) (48 + n % 10) (number_digits_of k (n / 10) (omega arith)) (rw (value_digits k (n / 10) (omega arith)) (omega arith)) (digit_of (48 + n % 10) (omega arith) (omega arith))))

pub decimal_number : (n : ℕ) → is_number (decimal n) ≡ true
unfolding decimal
decimal_number n = number_digits_of n n (omega arith)

-- Below 10 ^ k it has at most k digits.
pub decimal_most : (k n : ℕ) → n < 10 ^ suc k → length (decimal n) ≤ suc k
decimal_most zero n h = rw (decimal_small n h) (omega arith)
decimal_most (suc k) n h =
    split_ten n
    (λ s. rw (decimal_small n s) (omega arith))
    (λ m. rw (decimal_more n m) (simp length-append (omega (arith, decimal_most k (n / 10) (omega arith)))))

one_digit : (d : ℕ) → 48 ≤ d → d ≤ 57 → decimal (0 * 10 + (d - 48)) ≡ d ∷ []
one_digit d a b =
    let e : 48 + (0 * 10 + (d - 48)) % 10 ≡ d = omega arith in
    decimal_small (0 * 10 + (d - 48)) (omega arith) ∙ ap (λ (x : ℕ). x ∷ []) e

one_more : (v d : ℕ) → 0 < v → 48 ≤ d → d ≤ 57 → decimal (v * 10 + (d - 48)) ≡ decimal v ++ (d ∷ [])
one_more v d h a b =
    let q : (v * 10 + (d - 48)) / 10 ≡ v = omega arith in
    let r : 48 + (v * 10 + (d - 48)) % 10 ≡ d = omega arith in
    decimal_more (v * 10 + (d - 48)) (omega arith) ∙ ap₂ (λ (x : ℕ) (y : ℕ). decimal x ++ (y ∷ [])) q r

-- Writing back what was read: more digits after a number that is not 0; a number.
decimal_after : (ds : Bytes) (v : ℕ) → 0 < v → all_bytes digit_byte ds ≡ true → decimal (value_from v ds) ≡ decimal v ++ ds
unfolding value_from all_bytes digit_byte
decimal_after [] v h k = sym (append-nil (decimal v))
decimal_after (d ∷ ds) v h k =
    let b = between_at 48 57 d (and_left _ _ k) in
    let e : decimal (v * 10 + (d - 48)) ≡ decimal v ++ (d ∷ []) = one_more v d h b.0 b.1 in
    decimal_after ds (v * 10 + (d - 48)) (omega arith) (and_right _ _ k) ∙ ap (λ (l : Bytes). l ++ ds) e ∙ append_assoc (decimal v) (d ∷ []) ds

pub decimal_value : (s : Bytes) → is_number s ≡ true → decimal (value s) ≡ s
unfolding is_number value_from digit_byte
decimal_value [] h = absurd (false≢true h)
decimal_value (d ∷ []) h =
    let b = between_at 48 57 d h in
    one_digit d b.0 b.1
decimal_value (d ∷ e ∷ ds) h =
    let b = between_at 49 57 d (and_left _ _ h) in
    decimal_after (e ∷ ds) (0 * 10 + (d - 48)) (omega arith) (and_right _ _ h) ∙ ap (λ (l : Bytes). l ++ (e ∷ ds)) (one_digit d (omega arith) b.1)

-- A number in decimal, and a letter, have no comma and no byte 10.
pub decimal_free : (b n : ℕ) → b < 48 → Free b (decimal n)
decimal_free b n l = number_free b (decimal n) l (decimal_number n)

pub letter_free : (b x : ℕ) → b < 48 → 48 ≤ x → Free b (x ∷ [])
unfolding all_bytes other
letter_free b x h k = and_both (true_isnt (ne_eqb x b (λ e. let z : ⊥ = omega arith in z))) refl

pub nothing_ended : length (text_of []) ≡ 0
unfolding text_of
nothing_ended = refl
