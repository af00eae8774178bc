-- L5 for suites: a text is accepted exactly if it is the writing of a suite that follows the rules, and that suite is what is read.
use Rattle.std.specs.Prelude.{◌≡◌, ◌↔◌, ◌⊎◌, Bool, true, false, eqb, leb, ltb, get_or, take, drop}
use Rattle.std.proofs.Math.Path.{refl, ap, ap₂, subst}
use Rattle.std.proofs.Common.{sym, ◌∙◌, inl, inr, ⊎_elim, take-suc, take_all, get_or-take, eqb-true, eq-eqb, ne_eqb, lt-ltb, le-ltb, le-leb, leb-true}
use mathlib.Core.List.{List, [], ◌∷◌, ◌++◌, append_assoc, append-nil}
use Prim.Native.Nat.{ℕ, zero, suc, ◌+◌, ◌-◌, ◌*◌, ◌/◌, ◌%◌, ◌≤◌, ◌<◌}
use native.Mathlib.Omega.{arith}
use Rattle.std.proofs.Math.ListN.{length}
use Rattle.std.proofs.Math.Seq.{length-take-le}
use Rattle.std.proofs.lemmas.Bool.{eqb-false, lt-leb}
use Rattle.laws.specs.Tests.{◌or◌, ◌and◌, isnt, choose}
use Rattle.laws.specs.TestLaws.{false_isnt, and_left, and_right, and_both, or_cases, isnt_true, true_isnt, fails, any_at}
use Rattle.laws.specs.Lists.{choose_yes, choose_no, snoc_length, snoc_old, snoc_new}
use Rattle.rules.specs.Text.{Bytes, same, empty, bytes, max_bytes, max_tests, fields_of, commas, text_of, between, all_bytes, is_name, accepted, read_lines, read_text}
use Rattle.rules.specs.SuiteFile.{Suite, TestListing, no_tests, test_count, test_name, coverage_at, TestLine, test_line, no_test, test_form, hex_byte, hex_value, odd, bits_of, none_set, row_fine, tested, add_test, with_test, take_test, step_suite, finish_suite, read_tests, read_suite}
use Rattle.rules.specs.Closing.{Coverage}
use Rattle.rules.specs.Layout.{bit, hex_digit, hex_of, row_of, line_of_test, suite_lines, write_suite, SuiteFollows}
use Rattle.rules.specs.Kept.{SoundSuite}
use Rattle.rules.proofs.SuiteLaws.{TestFormed, test_formed, TestTaken, test_taken, sound_no_tests, sound_suite_step}
use Rattle.rules.specs.Kept.{other}
use Rattle.rules.proofs.TextLaws.{same_true, same_self, letter_free, unless_passes, accepted_same, then_accepted, then_passes, join_split, lines_ended, Free, AllFree, all_bytes_more, split_join, split_ended, free_commas, all_free_append, name_free, text_holds, text_short}

-- ---- rows and their bits

-- A digit's bits are found again in the digit of those bits.
bit_odd : (n : ℕ) → bit (odd n) ≡ n % 2
bit_odd n = go (odd n) refl
  where
    go : (b : Bool) → odd n ≡ b → bit b ≡ n % 2
    go true e = sym (eqb-true (n % 2) 1 e)
    go false e =
        let z : n % 2 ≡ 1 → ⊥ = eqb-false (n % 2) 1 e in
        omega arith

hex_range : (x : ℕ) → hex_byte x ≡ true → ((48 ≤ x) × (x ≤ 57)) ⊎ ((97 ≤ x) × (x ≤ 102))
unfolding hex_byte between
hex_range x h =
    ⊎_elim (λ a. inl (leb-true _ _ (and_left _ _ a), leb-true _ _ (and_right _ _ a))) (λ a. inr (leb-true _ _ (and_left _ _ a), leb-true _ _ (and_right _ _ a))) (or_cases _ _ h)

small : (x : ℕ) → 48 ≤ x → x ≤ 57 → (choose (leb x 57) (x - 48) (x - 87) < 16)
    × (choose (ltb (choose (leb x 57) (x - 48) (x - 87)) 10) (48 + choose (leb x 57) (x - 48) (x - 87)) (87 + choose (leb x 57) (x - 48) (x - 87)) ≡ x)
small x a b =
    subst (λ (v : ℕ). (v < 16) × (choose (ltb v 10) (48 + v) (87 + v) ≡ x)) (sym (choose_yes (x - 48) (x - 87) (le-leb x 57 b)))
    (omega arith, choose_yes _ _ (lt-ltb (x - 48) 10 (omega arith)) ∙ (let z : 48 + (x - 48) ≡ x = omega arith in z))

large : (x : ℕ) → 97 ≤ x → x ≤ 102 → (choose (leb x 57) (x - 48) (x - 87) < 16)
    × (choose (ltb (choose (leb x 57) (x - 48) (x - 87)) 10) (48 + choose (leb x 57) (x - 48) (x - 87)) (87 + choose (leb x 57) (x - 48) (x - 87)) ≡ x)
large x a b =
    subst (λ (v : ℕ). (v < 16) × (choose (ltb v 10) (48 + v) (87 + v) ≡ x)) (sym (choose_no (x - 48) (x - 87) (lt-leb x 57 (omega arith))))
    (omega arith, choose_no _ _ (le-ltb (x - 87) 10 (omega arith)) ∙ (let z : 87 + (x - 87) ≡ x = omega arith in z))

hex_back : (x : ℕ) → hex_byte x ≡ true → (hex_value x < 16) × (hex_digit (hex_value x) ≡ x)
unfolding hex_value hex_digit
hex_back x h = go (hex_range x h)
  where
    go : ((48 ≤ x) × (x ≤ 57)) ⊎ ((97 ≤ x) × (x ≤ 102)) → (choose (leb x 57) (x - 48) (x - 87) < 16)
        × (choose (ltb (choose (leb x 57) (x - 48) (x - 87)) 10) (48 + choose (leb x 57) (x - 48) (x - 87)) (87 + choose (leb x 57) (x - 48) (x - 87)) ≡ x)
    go (inl r) = small x r.0 r.1
    go (inr r) = large x r.0 r.1

sum_bits : (u w x y a b c d : ℕ) {b' c' d' : ℕ} → a ≡ u → w ≡ 2 * u + b' → b ≡ b' → x ≡ 2 * w + c' → c ≡ c' → y ≡ 2 * x + d' → d ≡ d' → 8 * a + 4 * b + 2 * c + d ≡ y
sum_bits u w x y a b c d p q r s t e f = omega arith

sixteen : (v : ℕ) → v < 16 → 8 * bit (odd (v / 8)) + 4 * bit (odd (v / 4)) + 2 * bit (odd (v / 2)) + bit (odd v) ≡ v
sixteen v h =
    let a : (v / 8) % 2 ≡ v / 8 = omega arith in
    let b : v / 4 ≡ 2 * (v / 8) + (v / 4) % 2 = omega arith in
    let c : v / 2 ≡ 2 * (v / 4) + (v / 2) % 2 = omega arith in
    let d : v ≡ 2 * (v / 2) + v % 2 = omega arith in
    let e : bit (odd (v / 8)) ≡ (v / 8) % 2 = bit_odd (v / 8) in
    let f : bit (odd (v / 4)) ≡ (v / 4) % 2 = bit_odd (v / 4) in
    let g : bit (odd (v / 2)) ≡ (v / 2) % 2 = bit_odd (v / 2) in
    let k : bit (odd v) ≡ v % 2 = bit_odd v in
    sum_bits (v / 8) (v / 4) (v / 2) v _ _ _ _ (e ∙ a) b f c g d k

hex_bits : (x : ℕ) → hex_byte x ≡ true → hex_of (odd (hex_value x / 8)) (odd (hex_value x / 4)) (odd (hex_value x / 2)) (odd (hex_value x)) ≡ x
unfolding hex_of
hex_bits x h =
    let r = hex_back x h in
    let e : 8 * bit (odd (hex_value x / 8)) + 4 * bit (odd (hex_value x / 4)) + 2 * bit (odd (hex_value x / 2)) + bit (odd (hex_value x)) ≡ hex_value x
    = sixteen (hex_value x) r.0 in
    ap hex_digit e ∙ r.1

none_set_lem : (b : Bool) (l : List Bool) → none_set (b ∷ l) ≡ true → (b ≡ false) × (none_set l ≡ true)
unfolding none_set
none_set_lem b l h = (isnt_true _ (and_left _ _ h), and_right _ _ h)

one_row : (x : ℕ) (a b c d b' c' d' : Bool) → b ≡ b' → c ≡ c' → d ≡ d' → hex_of a b' c' d' ≡ x → hex_of a b c d ∷ [] ≡ x ∷ []
one_row x a b c d b' c' d' p q r e = ap (λ (i : ℕ). i ∷ []) (cc)

-- The row of the bits of a row is the row.
row_back : (m : ℕ) (row : Bytes) → length row ≡ (m + 3) / 4 → all_bytes hex_byte row ≡ true → none_set (drop m (bits_of row)) ≡ true → row_of (take m (bits_of row)) ≡ row
unfolding bits_of row_of all_bytes
row_back zero [] e h n = refl
row_back (suc m) [] e h n = absurd (let z : ⊥ = omega arith in z)
row_back zero (x ∷ s) e h n = absurd (let z : ⊥ = omega arith in z)
row_back (suc zero) (x ∷ []) e h n =
    let a = none_set_lem _ _ n in
    let b = none_set_lem _ _ a.1 in
    let c = none_set_lem _ _ b.1 in
    one_row x _ _ _ _ _ _ _ (sym a.0) (sym b.0) (sym c.0) (hex_bits x (and_left _ _ h))
row_back (suc zero) (x ∷ y ∷ s) e h n = absurd (let z : ⊥ = omega arith in z)
row_back (suc (suc zero)) (x ∷ []) e h n =
    let b = none_set_lem _ _ n in
    let c = none_set_lem _ _ b.1 in
    one_row x _ _ _ _ _ _ _ refl (sym b.0) (sym c.0) (hex_bits x (and_left _ _ h))
row_back (suc (suc zero)) (x ∷ y ∷ s) e h n = absurd (let z : ⊥ = omega arith in z)
row_back (suc (suc (suc zero))) (x ∷ []) e h n =
    let c = none_set_lem _ _ n in
    one_row x _ _ _ _ _ _ _ refl refl (sym c.0) (hex_bits x (and_left _ _ h))
row_back (suc (suc (suc zero))) (x ∷ y ∷ s) e h n = absurd (let z : ⊥ = omega arith in z)
row_back (suc (suc (suc (suc m)))) (x ∷ s) e h n =
    ap₂ (λ (a : ℕ) (l : Bytes). a ∷ l) (hex_bits x (and_left _ _ h)) (row_back m s (omega arith) (and_right _ _ h) n)

-- The bits of the digit of four bits.
bits_hex : (a b c d : Bool) (s : Bytes) → bits_of (hex_of a b c d ∷ s) ≡ a ∷ b ∷ c ∷ d ∷ bits_of s
unfolding bits_of hex_of hex_digit hex_value choose
bits_hex true true true true s = refl
bits_hex true true true false s = refl
bits_hex true true false true s = refl
bits_hex true true false false s = refl
bits_hex true false true true s = refl
bits_hex true false true false s = refl
bits_hex true false false true s = refl
bits_hex true false false false s = refl
bits_hex false true true true s = refl
bits_hex false true true false s = refl
bits_hex false true false true s = refl
bits_hex false true false false s = refl
bits_hex false false true true s = refl
bits_hex false false true false s = refl
bits_hex false false false true s = refl
bits_hex false false false false s = refl

digit_hex : (a b c d : Bool) → hex_byte (hex_of a b c d) ≡ true
unfolding hex_of hex_digit hex_byte between choose ◌and◌ ◌or◌
digit_hex true true true true = refl
digit_hex true true true false = refl
digit_hex true true false true = refl
digit_hex true true false false = refl
digit_hex true false true true = refl
digit_hex true false true false = refl
digit_hex true false false true = refl
digit_hex true false false false = refl
digit_hex false true true true = refl
digit_hex false true true false = refl
digit_hex false true false true = refl
digit_hex false true false false = refl
digit_hex false false true true = refl
digit_hex false false true false = refl
digit_hex false false false true = refl
digit_hex false false false false = refl

-- A written row: its length, its digits, its bits.
row_length : (c : Coverage) → length (row_of c) ≡ (length c + 3) / 4
unfolding row_of
row_length [] = refl
row_length (a ∷ []) = refl
row_length (a ∷ b ∷ []) = refl
row_length (a ∷ b ∷ c ∷ []) = refl
row_length (a ∷ b ∷ c ∷ d ∷ l) = omega (arith, row_length l)

row_hex : (c : Coverage) → all_bytes hex_byte (row_of c) ≡ true
unfolding row_of all_bytes
row_hex [] = refl
row_hex (a ∷ []) = and_both (digit_hex a false false false) refl
row_hex (a ∷ b ∷ []) = and_both (digit_hex a b false false) refl
row_hex (a ∷ b ∷ c ∷ []) = and_both (digit_hex a b c false) refl
row_hex (a ∷ b ∷ c ∷ d ∷ l) = and_both (digit_hex a b c d) (row_hex l)

bits_none : none_set (bits_of []) ≡ true
unfolding bits_of none_set
bits_none = refl

row_bits : (c : Coverage) → (take (length c) (bits_of (row_of c)) ≡ c) × (none_set (drop (length c) (bits_of (row_of c))) ≡ true)
unfolding row_of none_set isnt ◌and◌
row_bits [] = (refl, bits_none)
row_bits (a ∷ []) = rw (bits_hex a false false false []) (refl, bits_none)
row_bits (a ∷ b ∷ []) = rw (bits_hex a b false false []) (refl, bits_none)
row_bits (a ∷ b ∷ c ∷ []) = rw (bits_hex a b c false []) (refl, bits_none)
row_bits (a ∷ b ∷ c ∷ d ∷ l) =
    let r = row_bits l in
    rw (bits_hex a b c d (row_of l)) (ap (λ (k : List Bool). a ∷ b ∷ c ∷ d ∷ k) r.0, r.1)

row_fine_lem : (m : ℕ) (c : Coverage) → length c ≡ m → (row_fine m (row_of c) ≡ true) × (take m (bits_of (row_of c)) ≡ c)
unfolding row_fine
row_fine_lem m c e =
    let r = row_bits c in
    subst (λ (n : ℕ). ((eqb (length (row_of c)) ((n + 3) / 4) and all_bytes hex_byte (row_of c) and none_set (drop n (bits_of (row_of c)))) ≡ true) × (take n (bits_of (row_of c)) ≡ c)) e
    (and_both (eq-eqb _ _ (row_length c)) (and_both (row_hex c) r.1), r.0)

hex_other : (b x : ℕ) → b < 48 → hex_byte x ≡ true → other b x ≡ true
unfolding other
hex_other b x l h =
    true_isnt (ne_eqb x b (λ e.
    ⊎_elim (λ (r : (48 ≤ x) × (x ≤ 57)). let z : ⊥ = omega arith in z) (λ (r : (97 ≤ x) × (x ≤ 102)). let z : ⊥ = omega arith in z) (hex_range x h)))

row_free : (b : ℕ) (c : Coverage) → b < 48 → Free b (row_of c)
row_free b c l = all_bytes_more hex_byte (other b) (λ x h. hex_other b x l h) (row_of c) (row_hex c)

-- ---- an accepted text is the writing of what was read

suite_lines_agree : (s t : Suite) (n : ℕ) → ((i : ℕ) → i < n → (test_name t i ≡ test_name s i) × (coverage_at t i ≡ coverage_at s i)) → suite_lines t n ≡ suite_lines s n
unfolding suite_lines
suite_lines_agree s t zero h = refl
suite_lines_agree s t (suc n) h =
    let k = h n (omega arith) in
    ap₂ (λ (a : List Bytes) (b : Bytes). a ++ (b ∷ [])) (suite_lines_agree s t n (λ i l. h i (omega arith))) (ap₂ (λ (a : Bytes) (b : Coverage). line_of_test a b) k.0 k.1)

written_test : (s : Suite) (name : Bytes) (c : Coverage) → length s.coverages ≡ test_count s
    → suite_lines (add_test name c s) (test_count (add_test name c s)) ≡ suite_lines s (test_count s) ++ (line_of_test name c ∷ [])
unfolding suite_lines
written_test s name c e =
    let at_name : test_name (add_test name c s) (test_count s) ≡ name = snoc_new [] s.names name in
    let at_row : coverage_at (add_test name c s) (test_count s) ≡ c = subst (λ (n : ℕ). get_or (s.coverages ++ (c ∷ [])) n [] ≡ c) e (snoc_new [] s.coverages c) in
    ap (suite_lines (add_test name c s)) (snoc_length [] s.names name)
    ∙ ap₂ (λ (a : List Bytes) (b : Bytes). a ++ (b ∷ []))
    (suite_lines_agree s (add_test name c s) (test_count s) (λ i l. (snoc_old [] s.names name i l, snoc_old [] s.coverages c i (omega arith))))
    (ap₂ (λ (a : Bytes) (b : Coverage). line_of_test a b) at_name at_row)

pub record SuiteWritten (m : ℕ) (ls : List Bytes) (l : TestListing) : Type 0 where
  pub sound : SoundSuite m l.suite
  pub lines : ls ≡ suite_lines l.suite (test_count l.suite)

written_test_line : (m : ℕ) (ls : List Bytes) (line : Bytes) (s : TestListing) (x : TestLine) (t : TestListing) → TestFormed (fields_of line) x → SuiteWritten m ls s
    → TestTaken m s.suite x t.suite → ls ++ (line ∷ []) ≡ suite_lines t.suite (test_count t.suite)
unfolding line_of_test row_fine
written_test_line m ls line s (test_line name row) t f w k =
    let r : row_of (take m (bits_of row)) ≡ row
    = row_back m row (eqb-true _ _ (and_left _ _ k.2)) (and_left _ _ (and_right _ _ k.2)) (and_right _ _ (and_right _ _ k.2)) in
    ap₂ (λ (a : List Bytes) (b : Bytes). a ++ (b ∷ [])) w.lines
    (sym (join_split 44 line) ∙ ap commas f.0 ∙ ap (λ (b : Bytes). commas (bytes "T" ∷ name ∷ b ∷ [])) (sym r))
    ∙ sym (written_test s.suite name (take m (bits_of row)) w.sound.paired) ∙ ap (λ (u : Suite). suite_lines u (test_count u)) (sym k.3)
written_test_line m ls line s no_test t f w k = absurd k

suite_written_step : (m n at : ℕ) (ls : List Bytes) (s : TestListing) (l : Bytes) (t : TestListing) → SuiteWritten m ls s → step_suite m n at s l ≡ accepted t → SuiteWritten m (ls ++ (l ∷ [])) t
unfolding step_suite
suite_written_step m n at ls s l t w e =
    record {
      sound = sound_suite_step m n at s l t w.sound e;
      lines = written_test_line m ls l s (test_form (fields_of l)) t (test_formed (fields_of l)) w (test_taken m n at s (test_form (fields_of l)) t e);
    }

suite_follows : (m : ℕ) (s : Suite) → SoundSuite m s → length (write_suite s) ≤ max_bytes → SuiteFollows m s
suite_follows m s h b = record { paired = h.paired; name_forms = h.name_forms; names = h.names; widths = h.widths; few = h.few; few_bytes = b }

pub accepted_suite_follows : (m : ℕ) (text : Bytes) (s : Suite) → read_suite m text ≡ accepted s → SuiteFollows m s × (text ≡ write_suite s)
unfolding read_suite read_tests write_suite suite_lines
accepted_suite_follows m text s e =
    let u = then_accepted _ _ _ e in
    let r = text_holds (step_suite m) finish_suite (SuiteWritten m) (suite_written_step m) text no_tests u.0 (record { sound = sound_no_tests m; lines = refl }) u.1 in
    let q : r.last.suite ≡ s = ap (λ (l : TestListing). l.suite) (accepted_same r.finishes) ∙ accepted_same u.2 in
    let t : text ≡ write_suite s = lines_ended text r.lines r.taken ∙ ap text_of r.holds.lines ∙ ap write_suite q in
    let b : length text ≤ max_bytes = text_short (step_suite m) finish_suite (SuiteWritten m) (suite_written_step m) text no_tests u.0 u.1 in
    (suite_follows m s (subst (λ (x : Suite). SoundSuite m x) q r.holds.sound) (subst (λ (x : Bytes). length x ≤ max_bytes) t b), t)

-- ---- the writing of a suite that follows the rules is accepted

test_line_free : (name : Bytes) (c : Coverage) → is_name name ≡ true → Free 10 (line_of_test name c)
unfolding line_of_test
test_line_free name c h = free_commas (bytes "T" ∷ name ∷ row_of c ∷ []) (letter_free 10 84 (omega arith) (omega arith), (name_free 10 name (omega arith) h, (row_free 10 c (omega arith), tt)))

form_test : (name : Bytes) (c : Coverage) → is_name name ≡ true → test_form (fields_of (line_of_test name c)) ≡ test_line name (row_of c)
unfolding line_of_test test_form
form_test name c h =
    ap test_form (split_join 44 (bytes "T") (name ∷ row_of c ∷ []) (letter_free 44 84 (omega arith) (omega arith), (name_free 44 name (omega arith) h, (row_free 44 c (omega arith), tt))))
    ∙ choose_yes _ _ (and_both (same_self (bytes "T")) h)

module _ (m : ℕ) (s : Suite) (f : SuiteFollows m s) where
  -- The first i tests.
  cut : ℕ → Suite
  cut i = record { names = take i s.names; coverages = take i s.coverages }

  Goes : ℕ → List Bytes → Type 0
  Goes i ls =
      (o : List ℕ) (n at : ℕ) → (t : TestListing) × (read_lines (step_suite m) finish_suite n at (record { suite = cut i; starts = o }) (ls ++ ([] ∷ [])) ≡ accepted t) × (t.suite ≡ s)

  cut_count : (i : ℕ) → i ≤ test_count s → test_count (cut i) ≡ i
  unfolding cut
  cut_count i h = length-take-le i s.names h

  fresh_test : (i : ℕ) → i < test_count s → tested (cut i) (test_name s i) ≡ false
  unfolding tested cut
  fresh_test i h =
      fails _ (λ t.
      let r = any_at (λ j. same (test_name (cut i) j) (test_name s i)) (test_count (cut i)) t in
      let l : r.0 < i = omega (arith, r.1, length-take-le i s.names (let z : i ≤ test_count s = omega arith in z)) in
      let e : r.0 ≡ i = f.names i r.0 h (omega arith) (sym (get_or-take i s.names r.0 [] l) ∙ same_true _ _ r.2) in
      let z : ⊥ = omega arith in
      z)

  next_test : (i : ℕ) → i < test_count s → add_test (test_name s i) (coverage_at s i) (cut i) ≡ cut (suc i)
  unfolding cut
  next_test i h =
      ap₂ (λ (a : List Bytes) (b : List Coverage). record { names = a; coverages = b }) (sym (take-suc s.names i [] h)) (sym (take-suc s.coverages i [] (omega (arith, f.paired))))

  step_test : (o : List ℕ) (n at i : ℕ) → i < test_count s
      → step_suite m n at (record { suite = cut i; starts = o }) (line_of_test (test_name s i) (coverage_at s i)) ≡ accepted (record { suite = cut (suc i); starts = o ++ ((at + 2) ∷ []) })
  unfolding step_suite take_test
  step_test o n at i h =
      let l : TestListing = record { suite = cut i; starts = o } in
      let r = row_fine_lem m (coverage_at s i) (f.widths i h) in
      ap (take_test m n at l) (form_test (test_name s i) (coverage_at s i) (f.name_forms i h))
      ∙ unless_passes _ _ _ _ (lt-leb max_tests (test_count (cut i)) (omega (arith, cut_count i (omega arith), f.few)))
      ∙ unless_passes _ _ _ _ (fresh_test i h)
      ∙ unless_passes _ _ _ _ (false_isnt r.0)
      ∙ ap (λ (c : Coverage). accepted (with_test at (test_name s i) c l)) r.1
      ∙ ap (λ (u : Suite). accepted (record { suite = u; starts = o ++ ((at + 2) ∷ []) })) (next_test i h)

  goes_more : (i : ℕ) (ls : List Bytes) → i < test_count s → Goes (suc i) ls → Goes i (line_of_test (test_name s i) (coverage_at s i) ∷ ls)
  unfolding Goes read_lines
  goes_more i [] h g o n at =
      let t = g (o ++ ((at + 2) ∷ [])) (suc n) (at + length (line_of_test (test_name s i) (coverage_at s i)) + 1) in
      (t.0, then_passes _ (step_test o n at i h) ∙ t.1, t.2)
  goes_more i (l ∷ ls) h g o n at =
      let t = g (o ++ ((at + 2) ∷ [])) (suc n) (at + length (line_of_test (test_name s i) (coverage_at s i)) + 1) in
      (t.0, then_passes _ (step_test o n at i h) ∙ t.1, t.2)

  goes_first : (i : ℕ) → i ≤ test_count s → (ls : List Bytes) → Goes i ls → Goes 0 (suite_lines s i ++ ls)
  unfolding suite_lines
  goes_first zero h ls g = g
  goes_first (suc i) h ls g =
      subst (λ (l : List Bytes). Goes 0 l) (sym (append_assoc (suite_lines s i) (line_of_test (test_name s i) (coverage_at s i) ∷ []) ls))
      (goes_first i (omega arith) (line_of_test (test_name s i) (coverage_at s i) ∷ ls) (goes_more i ls (omega arith) g))

  goes_end : Goes (test_count s) []
  unfolding Goes read_lines cut empty isnt
  goes_end o n at = (
    record { suite = cut (test_count s); starts = o },
    unless_passes _ _ _ _ refl,
    ap₂ (λ (a : List Bytes) (b : List Coverage). record { names = a; coverages = b }) (take_all (test_count s) s.names (omega arith)) (take_all (test_count s) s.coverages (omega (arith, f.paired))),
  )

  suite_lines_free : (i : ℕ) → i ≤ test_count s → AllFree 10 (suite_lines s i)
  unfolding suite_lines
  suite_lines_free zero h = tt
  suite_lines_free (suc i) h =
      all_free_append 10 (suite_lines s i) _ (suite_lines_free i (omega arith)) (test_line_free (test_name s i) (coverage_at s i) (f.name_forms i (omega arith)), tt)

  read_tests_lem : (t : TestListing) × (read_tests m (write_suite s) ≡ accepted t) × (t.suite ≡ s)
  unfolding read_tests read_text write_suite Goes cut
  read_tests_lem =
      let g = goes_first (test_count s) (omega arith) [] goes_end [] 1 0 in (
        g.0,
        unless_passes _ _ _ _ (le-ltb _ _ f.few_bytes)
            ∙ ap (read_lines (step_suite m) finish_suite 1 0 no_tests)
            (split_ended (suite_lines s (test_count s)) (suite_lines_free (test_count s) (omega arith)) ∙ ap (λ (l : List Bytes). l ++ ([] ∷ [])) (sym (append-nil (suite_lines s (test_count s)))))
            ∙ g.1,
        g.2,
      )

  pub suite_follows_accepted : read_suite m (write_suite s) ≡ accepted s
  unfolding read_suite
  suite_follows_accepted =
      let g = read_tests_lem in
      then_passes _ g.1 ∙ ap (λ (r : Suite). accepted r) g.2

-- L5 for suites. A text is accepted, and gives s, exactly if s follows the rules and the text is how s is written.
pub reads_suite_layout : (m : ℕ) (text : Bytes) (s : Suite) → (read_suite m text ≡ accepted s) ↔ (SuiteFollows m s × (text ≡ write_suite s))
reads_suite_layout m text s =
    (accepted_suite_follows m text s, λ h. subst (λ (t : Bytes). read_suite m t ≡ accepted s) (sym h.1) (suite_follows_accepted m s h.0))
