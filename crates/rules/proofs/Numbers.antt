-- The numbers that reading a program, a test file and a sheet gives, 1 exactly for a text that is too long; every place is below 4,294,967,296.
use Rattle.std.specs.Prelude.{◌≡◌, ◌↔◌, Bool, ℕ, suc, ◌+◌, ◌≤◌, ◌<◌, eqb, get_or}
use Rattle.std.proofs.Math.Path.{refl, ap}
use Rattle.std.proofs.Common.{sym, ◌∙◌, subst, ⊎_elim, true≢false, arith, eqb-true, lt-ltb, ltb-false, ltb-true}
use Rattle.std.proofs.Math.Bool.{true, false}
use Rattle.std.proofs.Math.Option.{Option, none, some}
use mathlib.Core.List.{List, [], ◌∷◌, ◌++◌}
use Rattle.std.proofs.Math.Decide.{dec_lt}
use Rattle.std.proofs.Math.Dec.{ltb}
use Rattle.std.proofs.Math.ListN.{length, get_or-eq_default}
use Rattle.laws.specs.Tests.{◌and◌, ◌or◌, after, choose, first, has}
use Rattle.laws.specs.TestLaws.{and_left, and_right, both_ways, or_cases, or_right}
use Rattle.laws.specs.Lists.{snoc_all, snoc_length}
use Rattle.rules.specs.Text.{Reading, Bytes, accepted, fields_of, lines_of, max_bytes, onto, read_lines, read_text, refused, split, then, unless}
use Rattle.rules.specs.Graph.{Program, edge_count, node_count}
use Rattle.rules.specs.ProgramFile.{Line, Listing, current, edge_line, finish_program, form_of, lost, malformed, node_line, nothing_read, proc_line, read_listing, read_program, step_program, take_line, take_proc}
use Rattle.rules.specs.SuiteFile.{Suite, TestLine, TestListing, finish_suite, no_test, no_tests, read_suite, read_tests, step_suite, take_test, test_line, test_form}
use Rattle.rules.specs.Sheet.{SheetLine, SheetRead, d_line, end_line, finish_sheet, head_line, m_line, no_form, no_sheet, r_line, read_sheet, sheet_form, step_sheet, take_sheet_line, test_of}
use Rattle.rules.specs.Job.{read_job}
use Rattle.rules.proofs.TextLaws.{split_cons, unless_refuses}

-- What is above every place.
abbrev pub big : ℕ
big = 4294967296

-- The numbers that reading the lines of a program, a test file and a sheet gives; reading a text gives 1 too.
abbrev pub program_numbers : List ℕ
program_numbers = 2 ∷ 3 ∷ 4 ∷ 5 ∷ 6 ∷ 7 ∷ 8 ∷ 9 ∷ []

abbrev pub suite_numbers : List ℕ
suite_numbers = 2 ∷ 4 ∷ 5 ∷ 10 ∷ []

abbrev pub sheet_numbers : List ℕ
sheet_numbers = 2 ∷ 4 ∷ 11 ∷ []

-- The numbers that reading all texts of a job gives.
abbrev pub job_numbers : List ℕ
job_numbers = 1 ∷ 2 ∷ 3 ∷ 4 ∷ 5 ∷ 6 ∷ 7 ∷ 8 ∷ 9 ∷ 10 ∷ []

-- Every number of a list passes.
unfoldable pub all_of : (ℕ → Bool) → List ℕ → Bool
all_of f [] = true
all_of f (k ∷ ks) = f k and all_of f ks

pub passes_of : (f : ℕ → Bool) (ks : List ℕ) (k : ℕ) → all_of f ks ≡ true → has ks k ≡ true → f k ≡ true
unfolding all_of has
passes_of f [] k a h = absurd (true≢false (sym h))
passes_of f (j ∷ ks) k a h =
    ⊎_elim (λ e. subst (λ (i : ℕ). f i ≡ true) (eqb-true j k e) (and_left _ _ a)) (λ e. passes_of f ks k (and_right _ _ a) e) (or_cases _ _ h)

-- A refusal with a number of ks, and its place.
abbrev pub Refusal : List ℕ → ℕ → ℕ → Type 0
Refusal ks k p = (has ks k ≡ true) × (p < big)

-- An answer that refuses only so; what it accepts has P.
abbrev pub Good : List ℕ → {A : Type 0} → (A → Type 0) → Reading A → Type 0
Good ks P (refused k p) = Refusal ks k p
Good ks P (accepted a) = P a

-- Nothing is asked of it.
abbrev pub Any : {A : Type 0} → A → Type 0
Any a = Unit {0}

-- With more numbers.
more_good : {A : Type 0} (P : A → Type 0) (ks js : List ℕ) (a : Reading A) → all_of (has js) ks ≡ true → Good ks P a → Good js P a
more_good P ks js (refused k p) s h = (passes_of (has js) ks k s h.0, h.1)
more_good P ks js (accepted a) s h = h

pub good_number : {A : Type 0} (P : A → Type 0) (ks : List ℕ) (a : Reading A) (k p : ℕ) → Good ks P a → a ≡ refused k p → has ks k ≡ true
good_number P ks (refused j q) k p h e = subst (λ (i : ℕ). has ks i ≡ true) (let z : j ≡ k = cc in z) h.0
good_number P ks (accepted a) k p h e = absurd (true≢false (let z : true ≡ false = cc in z))

module _ {A : Type 0} (ks : List ℕ) (P : A → Type 0) where
  unless_good : (b : Bool) (k p : ℕ) (a : Reading A) → has ks k ≡ true → p < big → (b ≡ false → Good ks P a) → Good ks P (unless b k p a)
  unfolding unless
  unless_good true k p a h l n = (h, l)
  unless_good false k p a h l n = n refl

  choose_good : (b : Bool) (x y : Reading A) → Good ks P x → Good ks P y → Good ks P (choose b x y)
  unfolding choose
  choose_good true x y h k = h
  choose_good false x y h k = k

  after_good : (o : Option ℕ) (a : Reading A) (f : ℕ → Reading A) → Good ks P a → ((m : ℕ) → Good ks P (f m)) → Good ks P (after o a f)
  after_good none a f h n = h
  after_good (some m) a f h n = n m

then_good : {A B : Type 0} (ks : List ℕ) (P : A → Type 0) (Q : B → Type 0) (a : Reading A) (f : A → Reading B) → Good ks P a → ((x : A) → P x → Good ks Q (f x)) → Good ks Q (then a f)
unfolding then
then_good ks P Q (refused k p) f h n = h
then_good ks P Q (accepted x) f h n = n x h

-- ---- a text has few lines

onto_length : (t : Bool) (x : ℕ) (p : Bytes) (ps : List Bytes) → length (onto t x (p ∷ ps)) ≤ suc (suc (length ps))
unfolding onto
onto_length true x p ps = omega arith
onto_length false x p ps = omega arith

split_length : (b : ℕ) (s : Bytes) → length (split b s) ≤ suc (length s)
unfolding split
split_length b [] = omega arith
split_length b (x ∷ s) =
    let c = split_cons b s in
    let h : length c.1 ≤ length s = omega (arith, split_length b s, ap length c.2) in
    omega (arith, ap (λ (ps : List Bytes). length (onto (eqb x b) x ps)) c.2, onto_length (eqb x b) x c.0 c.1)

-- ---- reading

module _ {S A : Type 0} (ks : List ℕ) (P : S → Type 0) (Q : A → Type 0) (step : ℕ → ℕ → S → Bytes → Reading S) (finish : ℕ → S → Reading A) (two : has ks 2 ≡ true)
    (steps : (n at : ℕ) (st : S) (l : Bytes) → n < big → P st → Good ks P (step n at st l)) (ends : (n : ℕ) (st : S) → n < big → P st → Good ks Q (finish n st)) where
  lines_good : (ls : List Bytes) (n at : ℕ) (st : S) → n + length ls < big → P st → Good ks Q (read_lines step finish n at st ls)
  unfolding read_lines
  lines_good [] n at st h p = (two, omega arith)
  lines_good (l ∷ []) n at st h p = unless_good ks Q _ _ _ _ two (omega arith) (λ e. ends n st (omega arith) p)
  lines_good (l ∷ m ∷ ls) n at st h p =
      then_good ks P Q _ _ (steps n at st l (omega arith) p) (λ s q. lines_good (m ∷ ls) (suc n) (at + length l + 1) s (omega arith) q)

  -- The lines of a text that is not too long.
  short_good : (st : S) (text : Bytes) → P st → ltb max_bytes (length text) ≡ false → Good ks Q (read_lines step finish 1 0 st (lines_of text))
  short_good st text p e = lines_good (lines_of text) 1 0 st (omega (arith, ltb-false max_bytes (length text) e, split_length 10 text)) p

  text_good : (st : S) (text : Bytes) → P st → Good (1 ∷ ks) Q (read_text step finish st text)
  unfolding read_text has ◌or◌
  text_good st text p = unless_good (1 ∷ ks) Q _ _ _ _ refl (omega arith) (λ e. later (read_lines step finish 1 0 st (lines_of text)) (short_good st text p e))
    where
      later : (a : Reading A) → Good ks Q a → Good (1 ∷ ks) Q a
      later (refused k q) h = (or_right (eqb 1 k) h.0, h.1)
      later (accepted x) h = h

  -- 1 exactly where it is too long.
  text_long : (st : S) (text : Bytes) → P st → has ks 1 ≡ false → (p : ℕ) → (read_text step finish st text ≡ refused 1 p) ↔ ((max_bytes < length text) × (p ≡ 0))
  unfolding read_text unless
  text_long st text h n p = (λ e. there (ltb max_bytes (length text)) refl e, λ l. unless_refuses _ 1 0 _ (lt-ltb _ _ l.0) ∙ ap (refused 1) (sym l.1))
    where
      there : (b : Bool) → ltb max_bytes (length text) ≡ b → unless b 1 0 (read_lines step finish 1 0 st (lines_of text)) ≡ refused 1 p → (max_bytes < length text) × (p ≡ 0)
      there true q e = (ltb-true _ _ q, let z : p ≡ 0 = cc in z)
      there false q e = absurd (both_ways (good_number Q ks _ 1 p (short_good st text h q) e) n)

-- Line numbers that were stored.
abbrev Small : List ℕ → Type 0
Small ns = (i : ℕ) → get_or ns i 0 < big

small_more : (ns : List ℕ) (n : ℕ) → Small ns → n < big → Small (ns ++ (n ∷ []))
small_more ns n h l i = go (dec_lt i (suc (length ns)))
  where
    long : length (ns ++ (n ∷ [])) ≡ suc (length ns)
    long = snoc_length 0 ns n

    go : Dec (i < suc (length ns)) → get_or (ns ++ (n ∷ [])) i 0 < big
    go (yes k) = snoc_all 0 ns n (λ (m : ℕ). m < big) (λ j b. h j) l i (omega (arith, long))
    go (no k) = subst (λ (m : ℕ). m < big) (sym (get_or-eq_default (ns ++ (n ∷ [])) 0 (let z : length (ns ++ (n ∷ [])) ≤ i = omega (arith, long) in z))) (omega arith)

small_none : Small []
small_none i = omega arith

abbrev Kept : Listing → Type 0
Kept s = Small s.places.proc_lines × Small s.places.node_lines

proc_good : (n at : ℕ) (name : Bytes) (s : Listing) → n < big → Kept s → Good program_numbers Kept (take_proc n at name s)
unfolding has ◌or◌
proc_good n at name s h k =
    unless_good program_numbers Kept _ _ _ _ refl h (λ e. unless_good program_numbers Kept _ _ _ _ refl h (λ e. (small_more s.places.proc_lines n k.0 h, k.1)))

line_good : (n at : ℕ) (s : Listing) (l : Line) → n < big → Kept s → Good program_numbers Kept (take_line n at s l)
unfolding take_line has ◌or◌
line_good n at s (proc_line name) h k =
    choose_good program_numbers Kept _ _ _ (unless_good program_numbers Kept _ _ _ _ refl (k.0 (current s.program)) (λ e. proc_good n at name s h k)) (proc_good n at name s h k)
line_good n at s (node_line kind label callee) h k =
    unless_good program_numbers Kept _ _ _ _ refl h (λ e. unless_good program_numbers Kept _ _ _ _ refl h (λ e. (k.0, small_more s.places.node_lines n k.1 h)))
line_good n at s (edge_line from word to) h k =
    unless_good program_numbers Kept _ _ _ _ refl h (λ e.
    unless_good program_numbers Kept _ _ _ _ refl h (λ e. unless_good program_numbers Kept _ _ _ _ refl h (λ e. unless_good program_numbers Kept _ _ _ _ refl h (λ e. k))))
line_good n at s malformed h k = (refl, h)

finish_good : (n : ℕ) (s : Listing) → n < big → Kept s → Good program_numbers Any (finish_program n s)
unfolding finish_program has ◌or◌
finish_good n s h k =
    unless_good program_numbers Any _ _ _ _ refl (omega arith) (λ e.
    unless_good program_numbers Any _ _ _ _ refl (k.0 (current s.program)) (λ e.
    after_good program_numbers Any (first (node_count s.program) (lost s.program)) _ _ tt (λ m. (refl, k.1 m))))

test_good : (m n at : ℕ) (l : TestListing) (x : TestLine) → n < big → Good suite_numbers Any (take_test m n at l x)
unfolding take_test has ◌or◌
test_good m n at l (test_line name row) h =
    unless_good suite_numbers Any _ _ _ _ refl h (λ e. unless_good suite_numbers Any _ _ _ _ refl h (λ e. unless_good suite_numbers Any _ _ _ _ refl h (λ e. tt)))
test_good m n at l no_test h = (refl, h)

sheet_line_good : (limit : ℕ) (old new : Program) (suite : Suite) (n : ℕ) (s : SheetRead) (x : SheetLine) → n < big → Good sheet_numbers Any (take_sheet_line limit old new suite n s x)
unfolding take_sheet_line has ◌or◌
sheet_line_good limit old new suite n s head_line h = unless_good sheet_numbers Any _ _ _ _ refl h (λ e. tt)
sheet_line_good limit old new suite n s (m_line a b) h = unless_good sheet_numbers Any _ _ _ _ refl h (λ e. unless_good sheet_numbers Any _ _ _ _ refl h (λ e. tt))
sheet_line_good limit old new suite n s (d_line e) h = unless_good sheet_numbers Any _ _ _ _ refl h (λ e. tt)
sheet_line_good limit old new suite n s (r_line name) h = after_good sheet_numbers Any (test_of suite name) _ _ (refl, h) (λ i. unless_good sheet_numbers Any _ _ _ _ refl h (λ e. tt))
sheet_line_good limit old new suite n s (end_line m d r) h = unless_good sheet_numbers Any _ _ _ _ refl h (λ e. tt)
sheet_line_good limit old new suite n s no_form h = (refl, h)

-- ---- the texts

-- What reading keeps of a text does not matter to its refusals.
then_refused : {A B : Type 0} (a : Reading A) (f : A → B) (k p : ℕ) → (then a (λ x. accepted (f x)) ≡ refused k p) ↔ (a ≡ refused k p)
unfolding then
then_refused (refused j q) f k p = (λ e. cc, λ e. cc)
then_refused (accepted x) f k p = (λ e. absurd (true≢false (let z : true ≡ false = cc in z)), λ e. absurd (true≢false (let z : true ≡ false = cc in z)))

pub program_good : (text : Bytes) → Good (1 ∷ program_numbers) Any (read_program text)
unfolding read_program read_listing step_program has ◌or◌
program_good text =
    then_good (1 ∷ program_numbers) Any Any _ _
    (text_good program_numbers Kept Any step_program finish_program refl (λ n at s l. line_good n at s (form_of (fields_of l))) finish_good nothing_read text (small_none, small_none)) (λ s k. tt)

pub program_long : (text : Bytes) (p : ℕ) → (read_program text ≡ refused 1 p) ↔ ((max_bytes < length text) × (p ≡ 0))
unfolding read_program read_listing step_program has ◌or◌
program_long text p =
    let r = then_refused (read_listing text) (λ (s : Listing). s.program) 1 p in
    let l = text_long program_numbers Kept Any step_program finish_program refl (λ n at s l. line_good n at s (form_of (fields_of l))) finish_good nothing_read text (small_none, small_none) refl p in
    (λ e. l.0 (r.0 e), λ h. r.1 (l.1 h))

pub suite_good : (m : ℕ) (text : Bytes) → Good (1 ∷ suite_numbers) Any (read_suite m text)
unfolding read_suite read_tests step_suite has ◌or◌
suite_good m text =
    then_good (1 ∷ suite_numbers) Any Any _ _
    (text_good suite_numbers Any Any (step_suite m) finish_suite refl (λ n at s l h k. test_good m n at s (test_form (fields_of l)) h) (λ n s h k. tt) no_tests text tt) (λ s k. tt)

pub suite_long : (m : ℕ) (text : Bytes) (p : ℕ) → (read_suite m text ≡ refused 1 p) ↔ ((max_bytes < length text) × (p ≡ 0))
unfolding read_suite read_tests step_suite has ◌or◌
suite_long m text p =
    let r = then_refused (read_tests m text) (λ (l : TestListing). l.suite) 1 p in
    let l = text_long suite_numbers Any Any (step_suite m) finish_suite refl (λ n at s l h k. test_good m n at s (test_form (fields_of l)) h) (λ n s h k. tt) no_tests text tt refl p in
    (λ e. l.0 (r.0 e), λ h. r.1 (l.1 h))

module _ (limit : ℕ) (old new : Program) (suite : Suite) where
  sheet_end_good : (n : ℕ) (s : SheetRead) → n < big → Good sheet_numbers Any (finish_sheet n s)
  unfolding finish_sheet has ◌or◌
  sheet_end_good n s h = unless_good sheet_numbers Any _ _ _ _ refl h (λ e. tt)

  pub sheet_good : (text : Bytes) → Good (1 ∷ sheet_numbers) Any (read_sheet limit old new suite text)
  unfolding read_sheet step_sheet has ◌or◌
  sheet_good text =
      text_good sheet_numbers Any Any (step_sheet limit old new suite) finish_sheet refl (λ n at s l h k. sheet_line_good limit old new suite n s (sheet_form (fields_of l)) h) (λ n s h k. sheet_end_good n s h) no_sheet text tt

  pub sheet_long : (text : Bytes) (p : ℕ) → (read_sheet limit old new suite text ≡ refused 1 p) ↔ ((max_bytes < length text) × (p ≡ 0))
  unfolding read_sheet step_sheet has ◌or◌
  sheet_long text p =
      text_long sheet_numbers Any Any (step_sheet limit old new suite) finish_sheet refl (λ n at s l h k. sheet_line_good limit old new suite n s (sheet_form (fields_of l)) h) (λ n s h k. sheet_end_good n s h) no_sheet text tt refl p

pub job_good : (old new tests : Bytes) → Good job_numbers Any (read_job old new tests)
unfolding read_job all_of has ◌or◌ ◌and◌
job_good old new tests =
    then_good job_numbers Any Any _ _ (more_good Any (1 ∷ program_numbers) job_numbers (read_program old) refl (program_good old)) (λ p k.
    then_good job_numbers Any Any _ _ (more_good Any (1 ∷ program_numbers) job_numbers (read_program new) refl (program_good new)) (λ r k.
    then_good job_numbers Any Any _ _ (more_good Any (1 ∷ suite_numbers) job_numbers (read_suite (edge_count p) tests) refl (suite_good (edge_count p) tests)) (λ s k. tt)))
