-- The returns of the functions that take a line: what the definition answers there, and that the tables hold one test more.
use mathlib.Core.Path.{◌≡◌, refl, sym, ap, ap₂, ◌∙◌, subst}
use mathlib.Core.Logic.{⊎_elim}
use mathlib.Core.Bool.{Bool, true, false, true≢false}
use mathlib.Core.List.{List, [], ◌∷◌}
use Prim.Native.Nat.{ℕ, suc, ◌+◌, ◌-◌, ◌*◌, ◌/◌, ◌%◌, ◌≤◌, ◌<◌}
use native.Mathlib.Omega.{arith}
use lib.Dec.{eqb}
use lib.ListN.{length, get_or, take, drop, set, length-set, length-take, get_or-eq_default}
use lib.Seq.{get_or-drop, get_or-set_other, get_or-set_same, get_or-take}
use borrow.Author.Tests.{le-leb, lt-leb, eqb-true, ltb-false, ltb-true}
use Rattle.laws.specs.Tests.{◌and◌, ◌or◌, any, isnt}
use Rattle.laws.specs.TestLaws.{and_both, and_left, and_right, any_at, eqb_self, or_left, or_right, same_test}
use Rattle.laws.specs.Lists.{snoc_cases, snoc_length, snoc_new, snoc_old}
use Rattle.laws.specs.Counting.{any_agree}
use Rattle.laws.specs.Slices.{below_or, get_d_sets_before, get_d_sets_in}
use Rattle.laws.specs.Bits.{bit_at, bit_in, word_of, words_of, bit_none, bit_word, bits_words, words_agree, words_length}
use Rattle.laws.specs.BitSets.{bit_with, with_bit}
use Rattle.rules.specs.Text.{Bytes, accepted, all_bytes, refused, same, split, unless}
use Rattle.rules.proofs.TextLaws.{accepted_same, same_true}
use Rattle.rules.specs.Closing.{Coverage}
use Rattle.rules.specs.SuiteFile.{TestListing, bits_of, hex_byte, row_fine, step_suite, take_test, no_test, test_count, test_form, test_name, tested, with_test}
use Rattle.text.specs.Scans.{span}
use Rattle.text.specs.SplitLaws.{uncut}
use Rattle.text.specs.Hash.{hash_of, hash_small}
use Rattle.suite.specs.Reads.{Read}
use Rattle.coverage.specs.Rows.{Row, edge_bit}
use Rattle.suite.specs.Tables.{Holds, stored_row, stored_test}
use Rattle.suite.specs.Reading.{Adds, Known, Marked, Steps, begins_test, comma_in, name_at, name_in, name_met}
use Rattle.suite.proofs.Forms.{none_set_lem, begins_form, begins_four, begins_none, fine_free}

-- ---- what the stores leave

module _ (t : List ℕ) (c a b : ℕ) where
  start_new : 2 * c < length t → get_or (stored_test t c a b) (2 * c) 0 ≡ a
  unfolding stored_test
  start_new h =
      get_or-set_other (set t (2 * c) a) (2 * c + 1) (2 * c) b 0 (λ e. let z : ⊥ = omega arith in z) ∙ get_or-set_same t (2 * c) a 0 h

  length_new : 2 * c + 1 < length t → get_or (stored_test t c a b) (2 * c + 1) 0 ≡ b
  unfolding stored_test
  length_new h = get_or-set_same (set t (2 * c) a) (2 * c + 1) b 0 (omega (arith, length-set t (2 * c) a))

  test_old : (k : ℕ) → k < 2 * c → get_or (stored_test t c a b) k 0 ≡ get_or t k 0
  unfolding stored_test
  test_old k h =
      get_or-set_other (set t (2 * c) a) (2 * c + 1) k b 0 (λ e. let z : ⊥ = omega arith in z)
      ∙ get_or-set_other t (2 * c) k a 0 (λ e. let z : ⊥ = omega arith in z)

module _ (w : List ℕ) (c : ℕ) (row : Bytes) where
  -- The rows before stay.
  bit_old : (i e : ℕ) → i < c → e < 1024 → edge_bit (stored_row w c row) i e ≡ edge_bit w i e
  unfolding edge_bit stored_row
  bit_old i e h k = ap (λ (x : ℕ). bit_at x (e % 64)) (get_d_sets_before (words_of 16 (bits_of row)) w (16 * c) (16 * i + e / 64) 0 (omega arith))

  -- The row that was stored has the bits of its digits.
  bit_new : (e : ℕ) → 16 * c + 16 ≤ length w → e < 1024 → edge_bit (stored_row w c row) c e ≡ get_or (bits_of row) e false
  unfolding edge_bit stored_row bit_in
  bit_new e h k =
      let l : length (words_of 16 (bits_of row)) ≡ 16 = words_length 16 (bits_of row) in
      ap (λ (x : ℕ). bit_at x (e % 64)) (get_d_sets_in (words_of 16 (bits_of row)) w (16 * c) (e / 64) 0 (omega (arith, l)) (omega (arith, l)))
      ∙ bits_words 16 (bits_of row) e (omega arith)

  -- The same of their words.
  word_old : (i k : ℕ) → i < c → k < 16 → get_or (stored_row w c row) (16 * i + k) 0 ≡ get_or w (16 * i + k) 0
  unfolding stored_row
  word_old i k h l = get_d_sets_before (words_of 16 (bits_of row)) w (16 * c) (16 * i + k) 0 (omega arith)

  word_new : (k : ℕ) → 16 * c + 16 ≤ length w → k < 16 → get_or (stored_row w c row) (16 * c + k) 0 ≡ get_or (words_of 16 (bits_of row)) k 0
  unfolding stored_row
  word_new k h l =
      let e : length (words_of 16 (bits_of row)) ≡ 16 = words_length 16 (bits_of row) in
      get_d_sets_in (words_of 16 (bits_of row)) w (16 * c) k 0 (omega (arith, e)) (omega (arith, e))

-- The bits of a fine row past its edges are 0.
past_none : (m : ℕ) (row : Bytes) → row_fine m row ≡ true → (e : ℕ) → m ≤ e → get_or (bits_of row) e false ≡ false
unfolding row_fine
past_none m row h e k =
    let q : m + (e - m) ≡ e = omega arith in
    let z : word_of (drop m (bits_of row)) ≡ 0 = eqb-true _ _ (sym (none_set_lem (drop m (bits_of row))) ∙ and_right _ _ (and_right _ _ h)) in
    ap (λ (i : ℕ). get_or (bits_of row) i false) (sym q)
    ∙ sym (get_or-drop m (bits_of row) (e - m) false)
    ∙ sym (bit_word (drop m (bits_of row)) (e - m))
    ∙ ap (λ (x : ℕ). bit_at x (e - m)) z
    ∙ bit_none (e - m)

-- So the words of its digits are those of its edges.
fine_words : (m : ℕ) (row : Bytes) → row_fine m row ≡ true → words_of 16 (bits_of row) ≡ words_of 16 (take m (bits_of row))
fine_words m row fine =
    words_agree 16 (bits_of row) (take m (bits_of row))
    (λ j.
    below_or j m
    (λ b. sym (get_or-take m (bits_of row) j false b))
    (λ b. past_none m row fine j b ∙ sym (get_or-eq_default (take m (bits_of row)) false (omega (arith, length-take m (bits_of row))))))

row_old : (m : ℕ) (w : List ℕ) (c : ℕ) (row : Bytes) (i : ℕ) (coverage : Coverage) → m ≤ 1024 → i < c → Row m w i coverage → Row m (stored_row w c row) i coverage
row_old m w c row i coverage few h r =
    record {
      edges = λ e k. bit_old w c row i e h (omega arith) ∙ r.edges e k;
      spare = λ e k l. bit_old w c row i e h l ∙ r.spare e k l;
      words = λ k l. word_old w c row i k h l ∙ r.words k l;
    }

row_new : (m : ℕ) (w : List ℕ) (c : ℕ) (row : Bytes) → m ≤ 1024 → 16 * c + 16 ≤ length w → row_fine m row ≡ true → Row m (stored_row w c row) c (take m (bits_of row))
row_new m w c row few h fine =
    record {
      edges = λ e k. bit_new w c row e h (omega arith) ∙ sym (get_or-take m (bits_of row) e false k);
      spare = λ e k l. bit_new w c row e h l ∙ past_none m row fine e k;
      words = λ k l. word_new w c row k h l ∙ ap (λ (v : List ℕ). get_or v k 0) (fine_words m row fine);
    }

-- ---- one test more

module _ (m : ℕ) (t w : List ℕ) (c : ℕ) (text : Bytes) (l : TestListing) (known : Known text l) (hold : Holds m t w c l) (at : ℕ) (name row : Bytes) where
  abbrev more : TestListing
  more = with_test at name (take m (bits_of row)) l

  each : (P : ℕ → Type 0) → ((i : ℕ) → i < test_count l.suite → P i) → P c → (i : ℕ) → i < test_count more.suite → P i
  each P h p i k =
      ⊎_elim (h i) (λ (q : i ≡ test_count l.suite). subst P (hold.counted ∙ sym q) p) (snoc_cases [] l.suite.names name i k)

  names_old : (i : ℕ) → i < test_count l.suite → test_name more.suite i ≡ test_name l.suite i
  names_old i h = snoc_old [] l.suite.names name i h

  names_new : test_name more.suite c ≡ name
  names_new = ap (λ (i : ℕ). test_name more.suite i) hold.counted ∙ snoc_new [] l.suite.names name

  starts_old : (i : ℕ) → i < test_count l.suite → get_or more.starts i 0 ≡ get_or l.starts i 0
  starts_old i h = snoc_old 0 l.starts (at + 2) i (omega (arith, known.placed))

  starts_new : get_or more.starts c 0 ≡ at + 2
  starts_new = ap (λ (i : ℕ). get_or more.starts i 0) (hold.counted ∙ sym known.placed) ∙ snoc_new 0 l.starts (at + 2)

  cover_old : (i : ℕ) → i < test_count l.suite → get_or more.suite.coverages i [] ≡ get_or l.suite.coverages i []
  cover_old i h = snoc_old [] l.suite.coverages (take m (bits_of row)) i (omega (arith, known.covered))

  cover_new : get_or more.suite.coverages c [] ≡ take m (bits_of row)
  cover_new = ap (λ (i : ℕ). get_or more.suite.coverages i []) (hold.counted ∙ sym known.covered) ∙ snoc_new [] l.suite.coverages (take m (bits_of row))

  -- The tables hold it.
  holds_more : m ≤ 1024 → c < 200 → 400 ≤ length t → 3200 ≤ length w → row_fine m row ≡ true → Holds m (stored_test t c (at + 2) (length name)) (stored_row w c row) (c + 1) more
  holds_more few room long wide fine =
      let t' : List ℕ = stored_test t c (at + 2) (length name) in
      let w' : List ℕ = stored_row w c row in
      record {
        counted = omega (arith, hold.counted, snoc_length [] l.suite.names name);
        starts = each (λ (i : ℕ). get_or t' (2 * i) 0 ≡ get_or more.starts i 0)
            (λ i h. test_old t c (at + 2) (length name) (2 * i) (omega (arith, hold.counted)) ∙ hold.starts i h ∙ sym (starts_old i h))
            (start_new t c (at + 2) (length name) (omega arith) ∙ sym starts_new);
        lengths = each (λ (i : ℕ). get_or t' (2 * i + 1) 0 ≡ length (test_name more.suite i))
            (λ i h. test_old t c (at + 2) (length name) (2 * i + 1) (omega (arith, hold.counted)) ∙ hold.lengths i h ∙ ap length (sym (names_old i h)))
            (length_new t c (at + 2) (length name) (omega arith) ∙ ap length (sym names_new));
        row = each (λ (i : ℕ). Row m w' i (get_or more.suite.coverages i []))
            (λ i h. subst (λ (x : Coverage). Row m w' i x) (sym (cover_old i h)) (row_old m w c row i _ few (omega (arith, hold.counted)) (hold.row i h)))
            (subst (λ (x : Coverage). Row m w' c x) (sym cover_new) (row_new m w c row few (omega arith) fine));
      }

  -- Its name stands in the text.
  pub known_more : take (length name) (drop (at + 2) text) ≡ name → Known text more
  known_more here =
      record {
        placed = snoc_length 0 l.starts (at + 2) ∙ ap suc known.placed ∙ sym (snoc_length [] l.suite.names name);
        covered = snoc_length [] l.suite.coverages (take m (bits_of row)) ∙ ap suc known.covered ∙ sym (snoc_length [] l.suite.names name);
        names = each (λ (i : ℕ). take (length (test_name more.suite i)) (drop (get_or more.starts i 0) text) ≡ test_name more.suite i)
            (λ i h. ap₂ (λ (x : Bytes) (j : ℕ). take (length x) (drop j text)) (names_old i h) (starts_old i h) ∙ known.names i h ∙ sym (names_old i h))
            (ap₂ (λ (x : Bytes) (j : ℕ). take (length x) (drop j text)) names_new starts_new ∙ here ∙ sym names_new);
      }

  -- A name among those of the table is one of the suite's.
  seen_is : (x : Bytes) → name_in text t c x ≡ tested l.suite x
  unfolding name_in tested name_at
  seen_is x =
      ap (λ (n : ℕ). any n (λ i. same (name_at text t i) x)) hold.counted
      ∙ any_agree (λ i. same (name_at text t i) x) (λ i. same (test_name l.suite i) x) (test_count l.suite)
      (λ i h. ap (λ (s : Bytes). same s x) (ap₂ (λ (a b : ℕ). take a (drop b text)) (hold.lengths i h) (hold.starts i h) ∙ known.names i h))

  module _ (f : List ℕ) (marked : Marked f l) where
    -- It is one of the table's exactly where it is met: equal names have one hash.
    met_is : (x : Bytes) → name_met text t c f x ≡ tested l.suite x
    unfolding name_met tested Marked
    met_is x =
        ap (λ (b : Bool). bit_in f (hash_of x) and b) (seen_is x)
        ∙ same_test _ _ (λ y. and_right _ _ y)
        (λ y.
        let a = any_at (λ i. same (test_name l.suite i) x) (test_count l.suite) y in
        and_both (ap (λ (s : Bytes). bit_in f (hash_of s)) (sym (same_true _ _ a.2)) ∙ marked a.0 a.1) y)

    -- The filter with one hash more.
    marked_more : 64 ≤ length f → Marked (with_bit f (hash_of name)) more
    unfolding Marked
    marked_more wide =
        let h : ℕ = hash_of name in
        let is : (j : ℕ) → bit_in (with_bit f h) j ≡ (eqb h j or bit_in f j) = λ j. bit_with f h j (omega (arith, hash_small 0 name (omega arith))) in
        each (λ (i : ℕ). bit_in (with_bit f h) (hash_of (test_name more.suite i)) ≡ true)
        (λ i k. ap (λ (s : Bytes). bit_in (with_bit f h) (hash_of s)) (names_old i k) ∙ is _ ∙ or_right _ (marked i k))
        (ap (λ (s : Bytes). bit_in (with_bit f h) (hash_of s)) names_new ∙ is h ∙ or_left _ (eqb_self h))

-- ---- `put_test`, `add_test`

pub put_is : (t t₁ t₂ : List ℕ) (i start len : ℕ) → t₁ ≡ set t (2 * i) start → t₂ ≡ set t₁ (2 * i + 1) len → t₂ ≡ stored_test t i start len
unfolding stored_test
put_is t t₁ t₂ i start len e f = f ∙ ap (λ (s : List ℕ). set s (2 * i + 1) len) e

pub few_refused : (r : Read) → r.count ≡ 0 → r.count ≤ 200
few_refused r e = omega (arith, e)

pub few_more : (c : ℕ) → c < 200 → c + 1 ≤ 200
few_more c h = omega arith

no_answer : {X : Type 0} (k p : ℕ) (l : TestListing) → refused k p ≡ accepted l → X
no_answer k p l e = absurd (true≢false (let z : true ≡ false = cc in z))

module _ (text : Bytes) (m n at : ℕ) (name row : Bytes) (c : ℕ) (f t w f' t' w' : List ℕ) where
  pub add_full : (r : Read) → 200 ≤ c → r.number ≡ 4 → r.place ≡ n → Adds text m n at name row c f t w r f' t' w'
  unfolding Adds take_test unless
  add_full r h e p l known hold marked =
      simp (le-leb 200 (test_count l.suite) (omega (arith, hold.counted))) ((e, p, omega arith), (λ k q. no_answer 4 n k q))

  module _ (u : Bool) (room : c < 200) (eu : u ≡ name_met text t c f name) where
    pub add_twice : (r : Read) → u ≡ true → r.number ≡ 5 → r.place ≡ n → Adds text m n at name row c f t w r f' t' w'
    unfolding Adds take_test unless
    add_twice r y e p l known hold marked =
        simp (lt-leb 200 (test_count l.suite) (omega (arith, hold.counted)), ← met_is m t w c text l known hold at name row f marked name, ← eu, y)
        ((e, p, omega arith), (λ k q. no_answer 5 n k q))

    module _ (v : Bool) (fresh : u ≡ false) (ev : v ≡ row_fine m row) where
      pub add_unfit : (r : Read) → v ≡ false → r.number ≡ 10 → r.place ≡ n → Adds text m n at name row c f t w r f' t' w'
      unfolding Adds take_test unless isnt
      add_unfit r y e p l known hold marked =
          simp (lt-leb 200 (test_count l.suite) (omega (arith, hold.counted)), ← met_is m t w c text l known hold at name row f marked name, ← eu, fresh, ← ev, y)
          ((e, p, omega arith), (λ k q. no_answer 10 n k q))

      pub add_new : v ≡ true → m ≤ 1024 → 64 ≤ length f → 400 ≤ length t → 3200 ≤ length w → f' ≡ with_bit f (hash_of name) → t' ≡ stored_test t c (at + 2) (length name)
          → w' ≡ stored_row w c row → Adds text m n at name row c f t w (record { number = 0; place = 0; count = c + 1 }) f' t' w'
      unfolding Adds take_test unless isnt
      add_new y few some long wide ef et ew l known hold marked =
          simp
          (lt-leb 200 (test_count l.suite) (omega (arith, hold.counted)), ← met_is m t w c text l known hold at name row f marked name, ← eu, fresh, ← ev, y, ef, et, ew) (
            (refl, refl, holds_more m t w c text l known hold at name row few room long wide (sym ev ∙ y)),
            (λ k q. subst (λ (x : TestListing). Marked (with_bit f (hash_of name)) x) (accepted_same q) (marked_more m t w c text l known hold at name row f marked some)),
          )

-- The digits of a fine row.
pub row_digits : (m : ℕ) (row : Bytes) (v : Bool) → v ≡ row_fine m row → v ≡ true → all_bytes hex_byte row ≡ true
unfolding row_fine
row_digits m row v e y = and_left _ _ (and_right _ _ (sym e ∙ y))

pub ruleset adds = (row_digits, put_is, few_refused, few_more, add_full, add_twice, add_unfit, add_new)

-- ---- `step`

-- The row is all that stands behind the name.
no_comma : (m : ℕ) (row : Bytes) (v : Bool) → v ≡ row_fine m row → comma_in v row ≡ false → split 44 row ≡ row ∷ []
unfolding comma_in isnt ◌and◌
no_comma m row true e z = fine_free m row (sym e)
no_comma m row false e z = uncut 44 row (span 44 row) refl (ltb-false _ _ z)

module _ (text : Bytes) (m n at : ℕ) (line : Bytes) (c : ℕ) (f t w f' t' w' : List ℕ) (r : Read) where
  step_none : test_form (split 44 line) ≡ no_test → r.number ≡ 2 → r.place ≡ n → Steps text m n at line c f t w r f' t' w'
  unfolding Steps step_suite take_test
  step_none e en ep l known hold marked = simp e ((en, ep, omega arith), (λ k q. no_answer 2 n k q))

  module _ (u : Bool) (e : u ≡ begins_test line) where
    pub step_not : u ≡ false → r.number ≡ 2 → r.place ≡ n → Steps text m n at line c f t w r f' t' w'
    step_not y en ep = step_none (begins_none line (sym e ∙ y)) en ep

    module _ (y : u ≡ true) (rest name row : Bytes) (er : rest ≡ drop 2 line) (en : name ≡ take (span 44 rest) rest) (ew : row ≡ drop (length name + 1) rest) where
      step_test : split 44 row ≡ row ∷ [] → Adds text m n at name row c f t w r f' t' w' → Steps text m n at line c f t w r f' t' w'
      unfolding Steps step_suite Adds
      step_test q h l known hold marked = simp (begins_form line rest name row er en ew (sym e ∙ y) q) (h l known hold marked)

      module _ (v b : Bool) (ev : v ≡ row_fine m row) (eb : b ≡ comma_in v row) where
        pub step_added : b ≡ false → Adds text m n at name row c f t w r f' t' w' → Steps text m n at line c f t w r f' t' w'
        step_added z h = step_test (no_comma m row v ev (sym eb ∙ z)) h

        pub step_comma : b ≡ true → r.number ≡ 2 → r.place ≡ n → Steps text m n at line c f t w r f' t' w'
        unfolding comma_in
        step_comma z ne np =
            step_none (begins_four line rest name row er en ew (sym e ∙ y) (span 44 row) refl (ltb-true _ _ (and_right _ _ (sym eb ∙ z)))) ne np

pub ruleset steps = (step_not, step_added, step_comma)
