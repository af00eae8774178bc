-- The turns of `read_lines`, and the returns of `read_tests`. `So` is what holds at the head of the loop, in the form of a continuation: what the whole
-- text reads to is what its rest from `at` on reads to after the tests that the tables hold.
use mathlib.Core.Path.{◌≡◌, refl, sym, ap, ap₂, ◌∙◌, subst}
use mathlib.Core.Bool.{true, false, true≢false}
use mathlib.Core.List.{List, [], ◌∷◌, ◌++◌}
use Prim.Native.Nat.{ℕ, suc, ◌+◌, ◌-◌, ◌≤◌, ◌<◌}
use native.Mathlib.Numerals.{add-one}
use native.Mathlib.Omega.{arith}
use lib.ListN.{length, take, drop, length-append, length-drop}
use lib.Seq.{length-take-le, take_at}
use borrow.Author.Tests.{le-ltb, lt-ltb}
use Rattle.laws.specs.Tests.{isnt}
use Rattle.laws.specs.Slices.{drop_end, part_part}
use Rattle.laws.specs.TestLaws.{none_below}
use Rattle.rules.specs.Text.{Reading, Bytes, accepted, empty, join_by, read_lines, read_text, refused, split, then, unless}
use Rattle.rules.specs.SuiteFile.{TestLine, TestListing, finish_suite, no_test, no_tests, read_tests, step_suite, take_test, test_line, test_form}
use Rattle.rules.proofs.TextLaws.{accepted_same, join_split, split_cons, unless_accepted, empty_not}
use Rattle.rules.proofs.SuiteLaws.{TestFormed, test_formed}
use Rattle.std.specs.Prelude.{Result, Ok, Err}
use Rattle.answer.specs.declared.Refusal.{Refusal}
use Rattle.answer.specs.Refusals.{fault_number, fault_some}
use Rattle.text.specs.Scans.{span}
use Rattle.text.specs.SplitLaws.{cut_at, uncut_at}
use Rattle.suite.specs.Reads.{Read, read_of}
use Rattle.suite.specs.Tables.{Holds}
use Rattle.suite.specs.Reading.{After, Known, Lines, Marked, MarkedAfter, Reads, Stepped, Steps, accepted_of, refused_of}
use Rattle.suite.proofs.Stores.{known_more}

-- ---- an accepted line keeps what is known

-- The name of a test stands two places behind the beginning of its line.
name_stands : (text line : Bytes) (at len : ℕ) → line ≡ take len (drop at text) → length line ≡ len → (a b : Bytes) → split 44 line ≡ (84 ∷ []) ∷ a ∷ b ∷ []
    → take (length a) (drop (at + 2) text) ≡ a
unfolding join_by
name_stands text line at len el long a b e =
    let is : line ≡ 84 ∷ 44 ∷ (a ++ (44 ∷ b)) = sym (join_split 44 line) ∙ ap (join_by 44) e in
    let short : 2 + length a ≤ len = omega (arith, ap length is, length-append a (44 ∷ b)) in
    sym (part_part text at len 2 (length a) short)
    ∙ ap (λ (r : Bytes). take (length a) (drop 2 r)) (sym el ∙ is)
    ∙ take_at a (44 ∷ b) (length a) refl

module _ (m : ℕ) (text : Bytes) (n at : ℕ) (l : TestListing) (known : Known text l) (c : ℕ) (t w : List ℕ) (hold : Holds m t w c l) where
  known_test : (line : Bytes) (len : ℕ) → line ≡ take len (drop at text) → length line ≡ len → (x : TestLine) → TestFormed (split 44 line) x
      → (l' : TestListing) → take_test m n at l x ≡ accepted l' → Known text l'
  unfolding take_test
  known_test line len el long (test_line a b) f l' e =
      let u = unless_accepted _ _ _ _ _ e in
      let v = unless_accepted _ _ _ _ _ u.1 in
      let x = unless_accepted _ _ _ _ _ v.1 in
      subst (λ (k : TestListing). Known text k) (accepted_same x.1)
      (known_more m t w c text l known hold at a b (name_stands text line at len el long a b f.0))
  known_test line len el long no_test f l' e = absurd (true≢false (let z : true ≡ false = cc in z))

  known_step : (line : Bytes) (len : ℕ) → line ≡ take len (drop at text) → length line ≡ len → (l' : TestListing) → step_suite m n at l line ≡ accepted l' → Known text l'
  unfolding step_suite
  known_step line len el long l' e = known_test line len el long (test_form (split 44 line)) (test_formed (split 44 line)) l' e

-- ---- the loop

abbrev lines_from : ℕ → ℕ → ℕ → TestListing → List Bytes → Reading TestListing
lines_from m n at l ps = read_lines (step_suite m) finish_suite n at l ps

pub record So (m : ℕ) (text : Bytes) (at n c : ℕ) (f t w : List ℕ) : Type 0 where
  pub l : TestListing
  pub known : Known text l
  pub hold : Holds m t w c l
  pub marked : Marked f l
  pub goes : lines_from m 1 0 no_tests (split 10 text) ≡ lines_from m n at l (split 10 (drop at text))

-- The invariant.
pub record Head (m : ℕ) (text : Bytes) (f₀ t₀ w₀ : List ℕ) (at n c : ℕ) (f t w : List ℕ) : Type 0 where
  pub in_text : at ≤ length text
  pub few : n ≤ at + 1
  pub small : c ≤ 200
  pub some : length f ≡ length f₀
  pub long : length t ≡ length t₀
  pub wide : length w ≡ length w₀
  pub so : So m text at n c f t w

pub head_start : (m : ℕ) (text : Bytes) (f t w : List ℕ) → Head m text f t w 0 1 0 f t w
unfolding Marked
head_start m text f t w =
    record {
      in_text = omega arith;
      few = omega arith;
      small = omega arith;
      some = refl;
      long = refl;
      wide = refl;
      so = record {
        l = no_tests;
        known = record { placed = refl; covered = refl; names = λ i h. none_below i h };
        hold = record { counted = refl; starts = λ i h. none_below i h; lengths = λ i h. none_below i h; row = λ i h. none_below i h };
        marked = λ i h. none_below i h;
        goes = refl;
      };
    }

lines_more : (m n at : ℕ) (l : TestListing) (line : Bytes) (ps : List Bytes) (p : Bytes) (qs : List Bytes) → ps ≡ p ∷ qs
    → lines_from m n at l (line ∷ ps) ≡ then (step_suite m n at l line) (λ s. lines_from m (suc n) (at + length line + 1) s ps)
unfolding read_lines
lines_more m n at l line ps p qs e =
    subst (λ (x : List Bytes). lines_from m n at l (line ∷ x) ≡ then (step_suite m n at l line) (λ s. lines_from m (suc n) (at + length line + 1) s x)) (sym e) refl

module _ (m : ℕ) (text : Bytes) (f₀ t₀ w₀ : List ℕ) (at n c : ℕ) (f t w : List ℕ) (head : Head m text f₀ t₀ w₀ at n c f t w) (rest : Bytes) (er : rest ≡ drop at text) (len : ℕ) (e : len ≡ span 10 rest) where
  -- The last line is not ended.
  pub no_end : at < length text → length rest ≤ len → (r : Read) → r.number ≡ 2 → r.place ≡ n → Lines m text r t w
  unfolding Lines read_lines unless isnt
  no_end h k r en ep =
      let q : length rest ≡ length text - at = ap length er ∙ length-drop at text in
      simp (head.so.goes, uncut_at 10 text rest at len er e k, empty_not rest (omega arith)) (en, ep, omega arith)

  module _ (h : len < length rest) (line : Bytes) (el : line ≡ take len rest) (r : Result ℕ Refusal) (f' t' w' : List ℕ) (step : Stepped text m n at line c f t w (read_of r) f' t' w') where
    line_long : length line ≡ len
    line_long = ap length el ∙ length-take-le len rest (omega arith)

    whole : lines_from m 1 0 no_tests (split 10 text)
        ≡ then (step_suite m n at head.so.l line) (λ s. lines_from m (n + 1) (at + len + 1) s (split 10 (drop (at + len + 1) text)))
    whole =
        let sc = split_cons 10 (drop (at + len + 1) text) in
        head.so.goes
        ∙ ap (λ (x : List Bytes). lines_from m n at head.so.l x) (cut_at 10 text rest at len er e line h el)
        ∙ lines_more m n at head.so.l line (split 10 (drop (at + len + 1) text)) sc.0 sc.1 sc.2
        ∙ ap₂ (λ (k j : ℕ). then (step_suite m n at head.so.l line) (λ s. lines_from m k (at + j + 1) s (split 10 (drop (at + len + 1) text)))) (sym (add-one n)) line_long

    answer : After m (step_suite m n at head.so.l line) (read_of r) t' w' × MarkedAfter f' (step_suite m n at head.so.l line)
    unfolding Steps
    answer = step.steps head.so.l head.so.known head.so.hold head.so.marked

    -- The next line.
    pub head_on : (c' : ℕ) → r ≡ Ok c' → length f' ≡ length f → length t' ≡ length t → length w' ≡ length w → Head m text f₀ t₀ w₀ (at + len + 1) (n + 1) c' f' t' w'
    unfolding then
    head_on c' z lf lt lw =
        let a = accepted_of m (step_suite m n at head.so.l line) (read_of r) t' w' answer.0 (ap (λ (x : Result ℕ Refusal). (read_of x).number) z) in
        let e : (read_of r).count ≡ c' = ap (λ (x : Result ℕ Refusal). (read_of x).count) z in
        record {
          in_text = omega (arith, ap length er, length-drop at text);
          few = omega (arith, head.few);
          small = omega (arith, step.few, e);
          some = lf ∙ head.some;
          long = lt ∙ head.long;
          wide = lw ∙ head.wide;
          so = record {
            l = a.0;
            known = known_step m text n at head.so.l head.so.known c t w head.so.hold line len (el ∙ ap (λ (s : Bytes). take len s) er) line_long a.0 a.1;
            hold = subst (λ (k : ℕ). Holds m t' w' k a.0) e a.2;
            marked = answer.1 a.0 a.1;
            goes = whole ∙ ap (λ (x : Reading TestListing). then x (λ s. lines_from m (n + 1) (at + len + 1) s (split 10 (drop (at + len + 1) text)))) a.1;
          };
        }

    -- A line that is refused.
    pub no_line : (e : Refusal) → r ≡ Err e → Lines m text (read_of (Err e)) t' w'
    unfolding Lines then
    no_line e z =
        let k : (read_of r).number ≡ fault_number e.fault = ap (λ (x : Result ℕ Refusal). (read_of x).number) z in
        let a = refused_of m (step_suite m n at head.so.l line) (read_of r) t' w' answer.0 (λ y. let z : ⊥ = omega (arith, fault_some e.fault, k, y) in z) in
        let q : lines_from m 1 0 no_tests (split 10 text) ≡ refused (fault_number e.fault) e.place =
        whole
        ∙ ap (λ (x : Reading TestListing). then x (λ s. lines_from m (n + 1) (at + len + 1) s (split 10 (drop (at + len + 1) text)))) a.0
        ∙ ap (λ (x : Result ℕ Refusal). refused (read_of x).number (read_of x).place) z in
        simp q (refl, refl, fault_some e.fault)

pub all_read : (m : ℕ) (text : Bytes) (f₀ t₀ w₀ : List ℕ) (at n c : ℕ) (f t w : List ℕ) → Head m text f₀ t₀ w₀ at n c f t w → length text ≤ at
    → Lines m text (record { number = 0; place = 0; count = c }) t w
unfolding Lines read_lines split unless isnt empty
all_read m text f₀ t₀ w₀ at n c f t w head h = simp (head.so.goes, drop_end text at h) (refl, refl, head.so.hold)

pub head_few : (m : ℕ) (text : Bytes) (f₀ t₀ w₀ : List ℕ) (at n c : ℕ) (f t w : List ℕ) → Head m text f₀ t₀ w₀ at n c f t w → c ≤ 200
head_few m text f₀ t₀ w₀ at n c f t w head = head.small

pub ruleset turns = (head_start, no_end, head_on, no_line, all_read, head_few)

-- ---- `read_tests`

pub text_long : (m : ℕ) (text : Bytes) (r : Read) (t w : List ℕ) → 65536 < length text → r.number ≡ 1 → r.place ≡ 0 → Reads m text r t w
unfolding Reads read_tests read_text unless
text_long m text r t w h en ep = simp (lt-ltb 65536 (length text) h) (en, ep, omega arith)

pub text_read : (m : ℕ) (text : Bytes) (r : Read) (t w : List ℕ) → length text ≤ 65536 → Lines m text r t w → Reads m text r t w
unfolding Reads Lines read_tests read_text unless
text_read m text r t w h a = simp (le-ltb 65536 (length text) h) a

pub ruleset texts = (text_long, text_read)
