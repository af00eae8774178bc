-- What reading a test file keeps.
use Rattle.std.specs.Prelude.{◌≡◌, refl, ◌⊎◌, Bool, true, false, List, [], ◌∷◌, ◌++◌, ℕ, suc, ◌+◌, ◌*◌, ◌/◌, ◌<◌, length, get_or, take}
use Rattle.std.proofs.Common.{sym, ap, ◌∙◌, subst, inl, inr, true≢false, arith, length-take-le, eqb-true, leb-false}
use Rattle.laws.specs.Tests.{◌and◌, choose}
use Rattle.laws.specs.TestLaws.{and_left, and_right, isnt_false, any_none}
use Rattle.laws.specs.Lists.{snoc_length, snoc_cases, snoc_old, snoc_new, snoc_all}
use Rattle.rules.specs.Text.{Bytes, same, bytes, max_tests, fields_of, is_name, accepted}
use Rattle.rules.specs.SuiteFile.{Suite, TestListing, no_tests, test_count, test_name, TestLine, test_line, no_test, test_form, bits_of, row_fine, tested, add_test, take_test, step_suite, finish_suite, read_tests, read_suite}
use Rattle.rules.specs.Closing.{Coverage}
use Rattle.rules.proofs.TextLaws.{same_true, same_of, unless_accepted, accepted_same, then_accepted, text_holds}
use Rattle.rules.specs.Kept.{SoundSuite}

-- What the fields of a line are, by what it says.
abbrev pub TestFormed : List Bytes → TestLine → Type 0
TestFormed fs (test_line a b) = (fs ≡ bytes "T" ∷ a ∷ b ∷ []) × (is_name a ≡ true)
TestFormed fs no_test = Unit {0}

formed_test : (f a b : Bytes) (t : Bool) → (same f (bytes "T") and is_name a) ≡ t → TestFormed (f ∷ a ∷ b ∷ []) (choose t (test_line a b) no_test)
unfolding choose
formed_test f a b true e = (ap (λ (g : Bytes). g ∷ a ∷ b ∷ []) (same_true f (bytes "T") (and_left _ _ e)), and_right _ _ e)
formed_test f a b false e = tt

pub test_formed : (fs : List Bytes) → TestFormed fs (test_form fs)
unfolding test_form
test_formed [] = tt
test_formed (f ∷ []) = tt
test_formed (f ∷ a ∷ []) = tt
test_formed (f ∷ a ∷ b ∷ []) = formed_test f a b (same f (bytes "T") and is_name a) refl
test_formed (f ∷ a ∷ b ∷ c ∷ cs) = tt

-- Four bits for each digit.
pub bits_length : (row : Bytes) → length (bits_of row) ≡ 4 * length row
unfolding bits_of
bits_length [] = refl
bits_length (x ∷ s) = omega (arith, bits_length s)

pub row_width : (m : ℕ) (row : Bytes) → row_fine m row ≡ true → length (take m (bits_of row)) ≡ m
unfolding row_fine
row_width m row h =
    let e : length row ≡ (m + 3) / 4 = eqb-true _ _ (and_left _ _ h) in
    length-take-le m (bits_of row) (omega (arith, bits_length row))

module _ (m : ℕ) (s : Suite) (h : SoundSuite m s) (name : Bytes) (coverage : Coverage) (form : is_name name ≡ true) (room : test_count s < max_tests)
    (fresh : tested s name ≡ false) (width : length coverage ≡ m) where
  unnamed : (i : ℕ) → i < test_count s → test_name s i ≡ name → ⊥
  unfolding tested
  unnamed i l e = any_none (λ i. same (test_name s i) name) (test_count s) fresh i l (same_of e)

  names_test : (i j : ℕ) → i < test_count (add_test name coverage s) → j < test_count (add_test name coverage s)
      → test_name (add_test name coverage s) j ≡ test_name (add_test name coverage s) i → j ≡ i
  names_test i j k l e = go (snoc_cases [] s.names name i k) (snoc_cases [] s.names name j l)
    where
      old : (i : ℕ) → i < test_count s → test_name (add_test name coverage s) i ≡ test_name s i
      old i l = snoc_old [] s.names name i l

      new : (i : ℕ) → i ≡ test_count s → test_name (add_test name coverage s) i ≡ name
      new i l = rw l (snoc_new [] s.names name)

      go : (i < test_count s) ⊎ (i ≡ test_count s) → (j < test_count s) ⊎ (j ≡ test_count s) → j ≡ i
      go (inl a) (inl b) = h.names i j a b (sym (old j b) ∙ e ∙ old i a)
      go (inl a) (inr b) = absurd (unnamed i a (sym (old i a) ∙ sym e ∙ new j b))
      go (inr a) (inl b) = absurd (unnamed j b (sym (old j b) ∙ e ∙ new i a))
      go (inr a) (inr b) = b ∙ sym a

  pub sound_test : SoundSuite m (add_test name coverage s)
  sound_test =
      let l : test_count (add_test name coverage s) ≡ suc (test_count s) = snoc_length [] s.names name in
      let k : length (s.coverages ++ (coverage ∷ [])) ≡ suc (length s.coverages) = snoc_length [] s.coverages coverage in
      let w : (i : ℕ) → i < length (s.coverages ++ (coverage ∷ [])) → length (get_or (s.coverages ++ (coverage ∷ [])) i []) ≡ m
      = snoc_all [] s.coverages coverage (λ (c : Coverage). length c ≡ m) (λ i j. h.widths i (omega (arith, h.paired))) width in
      record {
        few = omega arith;
        paired = omega (arith, h.paired);
        name_forms = snoc_all [] s.names name (λ (n : Bytes). is_name n ≡ true) h.name_forms form;
        names = names_test;
        widths = λ i j. w i (omega (arith, h.paired));
      }

pub sound_no_tests : (m : ℕ) → SoundSuite m no_tests.suite
sound_no_tests m =
    record {
      few = omega arith;
      paired = refl;
      name_forms = λ i l. absurd (let z : ⊥ = omega arith in z);
      names = λ i j l k e. absurd (let z : ⊥ = omega arith in z);
      widths = λ i l. absurd (let z : ⊥ = omega arith in z);
    }

-- An accepted line gives the suite that its form says.
abbrev pub TestTaken : ℕ → Suite → TestLine → Suite → Type 0
TestTaken m s (test_line name row) t =
    (test_count s < max_tests) × (tested s name ≡ false) × (row_fine m row ≡ true) × (t ≡ add_test name (take m (bits_of row)) s)
TestTaken m s no_test t = ⊥

pub test_taken : (m n at : ℕ) (s : TestListing) (l : TestLine) (t : TestListing) → take_test m n at s l ≡ accepted t → TestTaken m s.suite l t.suite
unfolding take_test
test_taken m n at s (test_line name row) t e =
    let u = unless_accepted _ _ _ _ _ e in
    let v = unless_accepted _ _ _ _ _ u.1 in
    let w = unless_accepted _ _ _ _ _ v.1 in
    (leb-false _ _ u.0, v.0, isnt_false _ w.0, ap (λ (x : TestListing). x.suite) (sym (accepted_same w.1)))
test_taken m n at s no_test t e = true≢false (let z : true ≡ false = cc in z)

sound_test_line : (m : ℕ) (fs : List Bytes) (s : Suite) (l : TestLine) (t : Suite) → TestFormed fs l → SoundSuite m s → TestTaken m s l t → SoundSuite m t
sound_test_line m fs s (test_line name row) t f h k =
    subst (λ (u : Suite). SoundSuite m u) (sym k.3) (sound_test m s h name (take m (bits_of row)) f.1 k.0 k.1 (row_width m row k.2))
sound_test_line m fs s no_test t f h k = absurd k

pub sound_suite_step : (m n at : ℕ) (s : TestListing) (line : Bytes) (t : TestListing) → SoundSuite m s.suite → step_suite m n at s line ≡ accepted t → SoundSuite m t.suite
unfolding step_suite
sound_suite_step m n at s line t h e =
    sound_test_line m (fields_of line) s.suite (test_form (fields_of line)) t.suite (test_formed (fields_of line)) h (test_taken m n at s (test_form (fields_of line)) t e)

-- What is known of an accepted test file's suite.
pub suite_sound : (m : ℕ) (text : Bytes) (s : Suite) → read_suite m text ≡ accepted s → SoundSuite m s
unfolding read_suite read_tests
suite_sound m text s e =
    let u = then_accepted _ _ _ e in
    let r = text_holds (step_suite m) finish_suite (λ (ls : List Bytes) (l : TestListing). SoundSuite m l.suite) (λ n at ls st l s h k. sound_suite_step m n at st l s h k) text no_tests u.0 (sound_no_tests m) u.1 in
    subst (λ (u : Suite). SoundSuite m u) (ap (λ (l : TestListing). l.suite) (accepted_same r.finishes) ∙ accepted_same u.2) r.holds
