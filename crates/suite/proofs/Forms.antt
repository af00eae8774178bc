-- The turns and the returns of the functions that look at a line: its form, its name, its row.
use mathlib.Core.Path.{◌≡◌, refl, sym, ap, ap₂, ◌∙◌, subst}
use mathlib.Core.Bool.{Bool, true, false}
use mathlib.Core.List.{List, [], ◌∷◌}
use Prim.Native.Nat.{ℕ, zero, suc, ◌+◌, ◌*◌, ◌/◌, ◌%◌, ◌^◌, ◌≤◌, ◌<◌}
use native.Mathlib.Nat.{add-zero, zero-add}
use native.Mathlib.Omega.{arith}
use Rattle.std.specs.Prelude.{◌||◌}
use Rattle.std.specs.List.{list_any, range_with_len}
use lib.Dec.{eqb, ltb}
use lib.ListN.{length, get_or, take, drop, length-drop}
use lib.Seq.{drop-drop}
use borrow.Author.Tests.{eq-eqb, ne_eqb, eqb-true, lt-ltb, ltb-true}
use Rattle.laws.specs.Tests.{◌and◌, ◌or◌, isnt, any, choose}
use Rattle.laws.specs.TestLaws.{and_both, and_left, and_right, both_ways, fails, true_isnt}
use Rattle.laws.specs.Slices.{below_or, drop_at, drop_end}
use Rattle.laws.specs.Bits.{bit_in, word_of, word_none, word_drop}
use Rattle.laws.specs.BitSets.{with_bit}
use Rattle.rules.specs.Text.{Bytes, same, split, between, is_name, all_bytes}
use Rattle.rules.specs.Kept.{other}
use Rattle.rules.proofs.TextLaws.{all_bytes_more, same_true, split_cons, split_free}
use Rattle.rules.specs.SuiteFile.{bits_of, hex_byte, none_set, no_test, row_fine, test_line, test_form}
use Rattle.text.specs.Scans.{span}
use Rattle.text.specs.SplitLaws.{cut, first_last, first_more}
use Rattle.text.specs.Hash.{hash_of}
use Rattle.suite.specs.Reading.{begins_test, comma_in, first_field, name_at, name_in, name_met}
use Rattle.suite.proofs.Laws.{drop_bits}

-- ---- `begins_test`, and what the line says by it

form_three : (f a b : Bytes) (cs : List Bytes) → (same f (84 ∷ []) and is_name a) ≡ false → test_form (f ∷ a ∷ b ∷ cs) ≡ no_test
unfolding test_form choose
form_three f a b [] h = simp h
form_three f a b (c ∷ cs) h = refl

form_four : (f a b : Bytes) (cs : List Bytes) → 1 ≤ length cs → test_form (f ∷ a ∷ b ∷ cs) ≡ no_test
unfolding test_form
form_four f a b [] h = absurd (let z : ⊥ = omega arith in z)
form_four f a b (c ∷ cs) h = refl

module _ (line f : Bytes) (ef : f ≡ first_field line) where
  -- After `T` and a comma.
  after_letter : f ≡ 84 ∷ [] → drop (length f + 1) line ≡ drop 2 line
  after_letter e = ap (λ (x : Bytes). drop (length x + 1) line) e

  pub begins_not : (t : Bool) → t ≡ same f (84 ∷ []) → t ≡ false → false ≡ begins_test line
  unfolding begins_test ◌and◌
  begins_not t e y = sym (simp (← ef, ← e, y))

  module _ (t : Bool) (et : t ≡ same f (84 ∷ [])) (yt : t ≡ true) (rest name : Bytes) (er : rest ≡ drop 2 line) (en : name ≡ take (span 44 rest) rest) (u : Bool) (eu : u ≡ is_name name) where
    begins_is : begins_test line ≡ (u and ltb (length name) (length rest))
    unfolding begins_test ◌and◌
    begins_is =
        let named : Bytes → Bool = λ x. is_name (first_field x) and ltb (length (first_field x)) (length x) in
        ap (λ (x : Bytes). same x (84 ∷ []) and named (drop 2 line)) (sym ef)
        ∙ ap (λ (b : Bool). b and named (drop 2 line)) (sym et ∙ yt)
        ∙ ap named (sym er)
        ∙ ap (λ (x : Bytes). is_name x and ltb (length x) (length rest)) (sym en)
        ∙ ap (λ (b : Bool). b and ltb (length name) (length rest)) (sym eu)

    pub begins_unnamed : u ≡ false → false ≡ begins_test line
    unfolding ◌and◌
    begins_unnamed y = sym (begins_is ∙ ap (λ (b : Bool). b and ltb (length name) (length rest)) y)

    pub begins_named : u ≡ true → ltb (length name) (length rest) ≡ begins_test line
    unfolding ◌and◌
    begins_named y = sym (begins_is ∙ ap (λ (b : Bool). b and ltb (length name) (length rest)) y)

pub ruleset lines = (begins_not, begins_unnamed, begins_named)

-- A line that begins so has the fields `T`, the name, and those of the rest.
module _ (line rest name row : Bytes) (er : rest ≡ drop 2 line) (en : name ≡ first_field rest) (ew : row ≡ drop (length name + 1) rest) (y : begins_test line ≡ true) where
  named : (is_name name ≡ true) × (length name < length rest)
  unfolding begins_test
  named =
      let q : name ≡ first_field (drop 2 line) = en ∙ ap first_field er in
      let z = and_right _ _ y in
      (ap is_name q ∙ and_left _ _ z, subst (λ (n : ℕ). n < length rest) (ap length (sym q)) (subst (λ (x : Bytes). length (first_field (drop 2 line)) < length x) (sym er) (ltb-true _ _ (and_right _ _ z))))

  lettered : first_field line ≡ 84 ∷ []
  unfolding begins_test
  lettered = same_true _ _ (and_left _ _ y)

  pub begins_fields : split 44 line ≡ (84 ∷ []) ∷ name ∷ split 44 row
  begins_fields =
      let h : length (first_field line) < length line = omega (arith, ap length lettered, named.1, ap length er, length-drop 2 line) in
      first_more 44 line (first_field line) refl rest h (er ∙ sym (after_letter line (first_field line) refl lettered))
      ∙ ap₂ (λ (x : Bytes) (l : List Bytes). x ∷ l) lettered (first_more 44 rest name en row named.1 ew)

  pub begins_form : split 44 row ≡ row ∷ [] → test_form (split 44 line) ≡ test_line name row
  unfolding test_form same choose ◌and◌
  begins_form e = ap test_form (begins_fields ∙ ap (λ (l : List Bytes). (84 ∷ []) ∷ name ∷ l) e) ∙ simp named.0

  pub begins_four : (i : ℕ) → i ≡ span 44 row → i < length row → test_form (split 44 line) ≡ no_test
  begins_four i e h =
      let s = split_cons 44 (drop (i + 1) row) in
      ap test_form (begins_fields ∙ ap (λ (l : List Bytes). (84 ∷ []) ∷ name ∷ l) (cut 44 row (take i row) (drop (i + 1) row) i e h refl refl))
      ∙ form_four (84 ∷ []) name (take i row) (split 44 (drop (i + 1) row)) (omega (arith, ap length s.2))

-- A line that does not says no test.
pub begins_none : (line : Bytes) → begins_test line ≡ false → test_form (split 44 line) ≡ no_test
unfolding test_form begins_test
begins_none line y =
    below_or (length (first_field line)) (length line)
    (λ h. more (drop (length (first_field line) + 1) line) refl h)
    (λ h. ap test_form (first_last 44 line (first_field line) refl h))
  where
    three : (rest : Bytes) → rest ≡ drop (length (first_field line) + 1) line → length (first_field rest) < length rest → (same (first_field line) (84 ∷ []) and is_name (first_field rest)) ≡ false
    three rest er k =
        fails _ (λ z.
        let q : rest ≡ drop 2 line = er ∙ after_letter line (first_field line) refl (same_true _ _ (and_left _ _ z)) in
        both_ways (and_both (and_left _ _ z) (subst (λ (x : Bytes). (is_name (first_field x) and ltb (length (first_field x)) (length x)) ≡ true) q (and_both (and_right _ _ z) (lt-ltb _ _ k)))) y)

    more : (rest : Bytes) → rest ≡ drop (length (first_field line) + 1) line → length (first_field line) < length line → test_form (split 44 line) ≡ no_test
    more rest er h =
        ap test_form (first_more 44 line (first_field line) refl rest h er)
        ∙ below_or (length (first_field rest)) (length rest)
        (λ k.
        let s = split_cons 44 (drop (length (first_field rest) + 1) rest) in
        ap (λ (l : List Bytes). test_form (first_field line ∷ l)) (first_more 44 rest (first_field rest) refl (drop (length (first_field rest) + 1) rest) k refl)
        ∙ ap (λ (l : List Bytes). test_form (first_field line ∷ first_field rest ∷ l)) s.2
        ∙ form_three (first_field line) (first_field rest) s.0 s.1 (three rest er k))
        (λ k. ap (λ (l : List Bytes). test_form (first_field line ∷ l)) (first_last 44 rest (first_field rest) refl k))

-- A fine row has no comma.
hex_other : (x : ℕ) → hex_byte x ≡ true → other 44 x ≡ true
unfolding hex_byte between other ◌and◌ ◌or◌
hex_other x h = true_isnt (fails _ (λ p. both_ways h (ap hex_byte (eqb-true x 44 p))))

pub fine_free : (m : ℕ) (row : Bytes) → row_fine m row ≡ true → split 44 row ≡ row ∷ []
unfolding row_fine
fine_free m row h = split_free 44 row (all_bytes_more hex_byte (other 44) hex_other row (and_left _ _ (and_right _ _ h)))

-- ---- `name_at`, `name_seen`

pub name_is : (text tests r : List ℕ) (i start len : ℕ) → start ≡ get_or tests (2 * i) 0 → len ≡ get_or tests (2 * i + 1) 0 → r ≡ take len (drop start text) → r ≡ name_at text tests i
unfolding name_at
name_is text tests r i start len es el e = e ∙ ap₂ (λ (a b : ℕ). take a (drop b text)) el es

-- `any` of the numbers from a on, one more at the end.
any_more : (f : ℕ → Bool) (a n : ℕ) → list_any f (range_with_len a (suc n)) ≡ (list_any f (range_with_len a n) or f (a + n))
unfolding ◌or◌
any_more f a zero = go (f a) (ap f (add-zero a))
  where
    go : (b : Bool) → f (a + 0) ≡ b → (b || false) ≡ (false or f (a + 0))
    go true e = sym e
    go false e = sym e
any_more f a (suc n) = go (f a) (any_more f (a + 1) n)
  where
    e : a + 1 + n ≡ a + suc n
    e = omega arith

    go : (b : Bool) → list_any f (range_with_len (a + 1) (suc n)) ≡ (list_any f (range_with_len (a + 1) n) or f (a + 1 + n))
        → (b || list_any f (range_with_len (a + 1) (suc n))) ≡ ((b || list_any f (range_with_len (a + 1) n)) or f (a + suc n))
    go true h = refl
    go false h = h ∙ ap (λ (k : ℕ). list_any f (range_with_len (a + 1) n) or f k) e

any_below : (f : ℕ → Bool) (n : ℕ) → list_any f (range_with_len 0 n) ≡ any n f
unfolding any
any_below f zero = refl
any_below f (suc n) = any_more f 0 n ∙ ap₂ (λ (b c : Bool). b or c) (any_below f n) (ap f (zero-add n))

pub names_any : (text tests : List ℕ) (n : ℕ) (name : List ℕ) (r : Bool) → r ≡ list_any (λ i. same (name_at text tests i) name) (range_with_len 0 n) → r ≡ name_in text tests n name
unfolding name_in
names_any text tests n name r e = e ∙ any_below (λ i. same (name_at text tests i) name) n

pub ruleset names = (name_is)

-- ---- `name_met`

module _ (text tests filter name : List ℕ) (n h : ℕ) (b : Bool) (eh : h ≡ hash_of name) (eb : b ≡ bit_in filter h) where
  met_is : name_met text tests n filter name ≡ (b and name_in text tests n name)
  unfolding name_met
  met_is = ap (λ (x : Bool). x and name_in text tests n name) (ap (bit_in filter) (sym eh) ∙ sym eb)

  pub met_maybe : (r : Bool) → b ≡ true → r ≡ name_in text tests n name → r ≡ name_met text tests n filter name
  unfolding ◌and◌
  met_maybe r y e = e ∙ sym (met_is ∙ ap (λ (x : Bool). x and name_in text tests n name) y)

  pub met_not : b ≡ false → false ≡ name_met text tests n filter name
  unfolding ◌and◌
  met_not y = sym (met_is ∙ ap (λ (x : Bool). x and name_in text tests n name) y)

pub met_noted : (filter filter' name : List ℕ) (h : ℕ) → h ≡ hash_of name → filter' ≡ with_bit filter h → filter' ≡ with_bit filter (hash_of name)
met_noted filter filter' name h eh e = e ∙ ap (with_bit filter) eh

pub ruleset mets = (met_maybe, met_not, met_noted)

-- ---- `spare_clear`, `row_fine`

-- No bit is 1 exactly where the number of the bits is 0.
pub none_set_lem : (l : List Bool) → none_set l ≡ eqb (word_of l) 0
unfolding none_set word_of
none_set_lem [] = refl
none_set_lem (b ∷ l) = ap (λ (t : Bool). isnt b and t) (none_set_lem l) ∙ sym (word_none b l)

-- The bits from the edge m on, by the digits from m / 4 on.
past_edges : (m : ℕ) (row : Bytes) → drop m (bits_of row) ≡ drop (m % 4) (bits_of (drop (m / 4) row))
past_edges m row =
    let e : 4 * (m / 4) + m % 4 ≡ m = omega arith in
    ap (λ (n : ℕ). drop n (bits_of row)) (sym e) ∙ sym (drop-drop (m % 4) (4 * (m / 4)) (bits_of row)) ∙ ap (λ (l : List Bool). drop (m % 4) l) (drop_bits (m / 4) row)

pub spare_none : (m : ℕ) (row : Bytes) → length row ≤ m / 4 → true ≡ none_set (drop m (bits_of row))
unfolding none_set bits_of
spare_none m row h = sym (ap none_set (past_edges m row ∙ ap (λ (s : Bytes). drop (m % 4) (bits_of s)) (drop_end row (m / 4) h) ∙ drop_end [] (m % 4) (omega arith)))

pub spare_last : (m : ℕ) (row : Bytes) (d : ℕ) → m / 4 < length row → length row ≤ m / 4 + 1 → d ≡ word_of (bits_of (get_or row (m / 4) 0 ∷ [])) → eqb (d / 2 ^ (m % 4)) 0 ≡ none_set (drop m (bits_of row))
spare_last m row d h k e =
    let last : drop (m / 4) row ≡ get_or row (m / 4) 0 ∷ [] =
    drop_at row (m / 4) 0 h ∙ ap (λ (s : Bytes). get_or row (m / 4) 0 ∷ s) (drop_end row (m / 4 + 1) k) in
    sym (ap none_set (past_edges m row ∙ ap (λ (s : Bytes). drop (m % 4) (bits_of s)) last)
    ∙ none_set_lem (drop (m % 4) (bits_of (get_or row (m / 4) 0 ∷ [])))
    ∙ ap (λ (w : ℕ). eqb w 0) (word_drop (bits_of (get_or row (m / 4) 0 ∷ [])) (m % 4) ∙ ap (λ (w : ℕ). w / 2 ^ (m % 4)) (sym e)))

module _ (m : ℕ) (row : Bytes) where
  pub fine_short : length row < (m + 3) / 4 → false ≡ row_fine m row
  unfolding row_fine ◌and◌
  fine_short h = sym (simp (ne_eqb (length row) ((m + 3) / 4) (λ e. let z : ⊥ = omega arith in z)))

  pub fine_long : (m + 3) / 4 < length row → false ≡ row_fine m row
  unfolding row_fine ◌and◌
  fine_long h = sym (simp (ne_eqb (length row) ((m + 3) / 4) (λ e. let z : ⊥ = omega arith in z)))

  pub fine_room : length row ≤ (m + 3) / 4 → length row ≤ m / 4 + 1
  fine_room h = omega arith

  module _ (a : (m + 3) / 4 ≤ length row) (b : length row ≤ (m + 3) / 4) (t : Bool) (e : t ≡ all_bytes hex_byte row) where
    pub fine_not : t ≡ false → false ≡ row_fine m row
    unfolding row_fine ◌and◌
    fine_not y = let q : length row ≡ (m + 3) / 4 = omega arith in sym (simp (eq-eqb (length row) ((m + 3) / 4) q, ← e, y))

    -- The digits are digits.
    pub fine_digits : t ≡ true → all_bytes hex_byte row ≡ true
    fine_digits y = sym e ∙ y

    pub fine_spare : (u : Bool) → t ≡ true → u ≡ none_set (drop m (bits_of row)) → u ≡ row_fine m row
    unfolding row_fine ◌and◌
    fine_spare u y f = let q : length row ≡ (m + 3) / 4 = omega arith in f ∙ sym (simp (eq-eqb (length row) ((m + 3) / 4) q, ← e, y))

-- ---- `comma_in`

pub comma_fine : (v : Bool) (row : Bytes) → v ≡ true → false ≡ comma_in v row
unfolding comma_in isnt ◌and◌
comma_fine v row y = sym (ap (λ (b : Bool). comma_in b row) y)

pub comma_unfit : (v : Bool) (row : Bytes) (k : ℕ) → v ≡ false → k ≡ span 44 row → ltb k (length row) ≡ comma_in v row
unfolding comma_in isnt ◌and◌
comma_unfit v row k y e = ap (λ (n : ℕ). ltb n (length row)) e ∙ sym (ap (λ (b : Bool). comma_in b row) y)

pub ruleset fines = (comma_fine, comma_unfit, spare_none, spare_last, fine_short, fine_long, fine_room, fine_not, fine_digits, fine_spare)
