-- When the check of a sheet refuses with 12, with 4, and with 11 for a line that is missing.
use Rattle.std.specs.Prelude.{◌≡◌, ◌⊎◌, Bool, eqb, get_or}
use Rattle.std.proofs.Math.Path.{refl, ap}
use Rattle.std.proofs.Common.{sym, ◌∙◌, subst, true≢false, eq-eqb, le-leb, le-ltb, ne_eqb}
use Rattle.std.proofs.Math.Logic.{inl, inr, ⊎_elim}
use Rattle.std.proofs.Math.Bool.{true, false}
use Rattle.std.proofs.Math.Option.{Option, none, some}
use mathlib.Core.List.{List, [], ◌∷◌, ◌++◌, append_assoc}
use Prim.Native.Nat.{ℕ, zero, suc, ◌+◌, ◌≤◌, ◌<◌}
use native.Mathlib.Omega.{arith}
use Rattle.std.proofs.Math.ListN.{length}
use Rattle.laws.specs.Tests.{◌or◌, after, choose, first_failed, has, plus}
use Rattle.laws.specs.TestLaws.{both_ways}
use Rattle.laws.specs.Lists.{choose_no, snoc_length}
use Rattle.rules.specs.Text.{Reading, Bytes, accepted, fields_of, lines_of, max_bytes, max_pairs, read_lines, read_text, refused, text_of, then, unless}
use Rattle.rules.specs.Graph.{Program}
use Rattle.rules.specs.SuiteFile.{Suite}
use Rattle.rules.specs.Sheet.{Sheet, SheetLine, SheetRead, d_line, end_line, finish_sheet, head_line, m_line, no_form, no_sheet, r_line, read_sheet, sheet_form, sheet_lines, sheet_text, step_sheet, take_sheet_line, test_of}
use Rattle.rules.specs.Check.{broken}
use Rattle.rules.specs.Job.{Given, Outcome, answering, check_answer, checking, judged, number_of, outcome, passed, read_job, refusal, serving}
use Rattle.rules.specs.Promises.{Breaks, ClaimsFalse, LineAbove, LineMissing, five_rules, is_m, m_count}
use Rattle.rules.proofs.Numbers.{Any, Good, job_good, job_numbers, sheet_good, sheet_numbers}
use Rattle.rules.proofs.Answers.{checked}
use Rattle.rules.proofs.JobLaws.{known, never_wrote}
use Rattle.rules.proofs.ReadBack.{Goes, ended_append, goes_all, sheet_short}
use Rattle.rules.proofs.SheetLaws.{sheet_free}
use Rattle.rules.proofs.SheetLayout.{accepted_orderly, cut_sheet, few_of, sheet_layout}
use Rattle.rules.proofs.TextLaws.{AllFree, lines_next, split_ended, unless_passes, unless_refuses}

-- ---- 12

-- The first test of a list that fails, counted from k.
failed_at : (l : List Bool) (k i : ℕ) → get_or l i true ≡ false → ((j : ℕ) → j < i → get_or l j true ≡ true) → first_failed k l ≡ k + i
unfolding first_failed
failed_at [] k i h e = absurd (true≢false h)
failed_at (true ∷ l) k zero h e = absurd (true≢false h)
failed_at (false ∷ l) k zero h e = omega arith
failed_at (true ∷ l) k (suc i) h e = omega (arith, failed_at l (suc k) i h (λ j b. e (suc j) (omega arith)))
failed_at (false ∷ l) k (suc i) h e = absurd (true≢false (sym (e 0 (omega arith))))

failed_is : (l : List Bool) (k : ℕ) → 0 < k → (first_failed k l ≡ 0 → ⊥) → (i : ℕ) × (first_failed k l ≡ k + i) × (get_or l i true ≡ false) × ((j : ℕ) → j < i → get_or l j true ≡ true)
unfolding first_failed
failed_is [] k h n = absurd (n refl)
failed_is (false ∷ l) k h n = (0, let z : k ≡ k + 0 = omega arith in z, refl, λ j b. absurd (let z : ⊥ = omega arith in z))
failed_is (true ∷ l) k h n =
    let u = failed_is l (suc k) (omega arith) n in
    (suc u.0, let z : first_failed (suc k) l ≡ k + suc u.0 = omega (arith, u.1) in z, u.2, below u.0 u.3)
  where
    below : (i : ℕ) → ((j : ℕ) → j < i → get_or l j true ≡ true) → (j : ℕ) → j < suc i → get_or (true ∷ l) j true ≡ true
    below i f zero b = refl
    below i f (suc j) b = f j (omega arith)

-- A refusal with 12 comes behind a reading that was accepted, if reading never gives 12.
read_past : {A : Type 0} (ks : List ℕ) (a : Reading A) (f : A → Outcome) → Good ks Any a → has ks 12 ≡ false → (p : ℕ) → outcome a f ≡ refusal 12 p → (x : A) × (a ≡ accepted x) × (f x ≡ refusal 12 p)
unfolding outcome
read_past ks (refused k q) f h n p e = absurd (both_ways (subst (λ (i : ℕ). has ks i ≡ true) (ap number_of e) h.0) n)
read_past ks (accepted x) f h n p e = (x, refl, e)

refusal_place : {k j p q : ℕ} → refusal k p ≡ refusal j q → p ≡ q
refusal_place e = cc

judged_false : (g : Given) (c : Sheet) (p : ℕ) → judged g c ≡ refusal 12 p → (broken g.old g.new g.suite.coverages c ≡ p) × (p ≡ 0 → ⊥)
unfolding judged choose
judged_false g c p e = go (broken g.old g.new g.suite.coverages c) (eqb (broken g.old g.new g.suite.coverages c) 0) refl e
  where
    go : (b : ℕ) (t : Bool) → eqb b 0 ≡ t → choose t passed (refusal 12 b) ≡ refusal 12 p → (b ≡ p) × (p ≡ 0 → ⊥)
    go b true h q = absurd (never_wrote q)
    go b false h q = (refusal_place q, λ z. both_ways (eq-eqb b 0 (refusal_place q ∙ z)) h)

pub claims_false : ClaimsFalse
unfolding answering serving outcome judged broken has ◌or◌
claims_false old new tests sheet p = (there, back)
  where
    there : check_answer old new tests sheet ≡ refusal 12 p → Breaks old new tests sheet p
    there e =
        let u = read_past job_numbers (read_job old new tests) (λ g. checking max_pairs g sheet) (job_good old new tests) refl p e in
        let g = u.0 in
        let v = read_past (1 ∷ sheet_numbers) (read_sheet max_pairs g.old g.new g.suite sheet) (judged g) (sheet_good max_pairs g.old g.new g.suite sheet) refl p u.2 in
        let o = accepted_orderly max_pairs g.old g.new g.suite sheet v.0 v.1 in
        let b = judged_false g v.0 p v.2 in
        let f = failed_is (five_rules g v.0) 1 (omega arith) (λ z. b.1 (sym b.0 ∙ z)) in
        record { given = g; reads = u.1; claims = v.0; order = o.0; text = o.1; rule = f.0; place = omega (arith, b.0, f.1); broken = f.2; kept = f.3 }

    back : Breaks old new tests sheet p → check_answer old new tests sheet ≡ refusal 12 p
    back h =
        let g = h.given in
        let n = known old new tests g h.reads in
        let r : read_sheet max_pairs g.old g.new g.suite sheet ≡ accepted h.claims = (sheet_layout max_pairs (omega arith) g.old g.new g.suite n.old_sound n.new_sound _ n.suite_sound sheet h.claims).1 (h.order, h.text) in
        let b : first_failed 1 (five_rules g h.claims) ≡ p = omega (arith, failed_at (five_rules g h.claims) 1 h.rule h.broken h.kept, h.place) in
        checked old new tests sheet g h.reads
        ∙ ap (λ (a : Reading Sheet). outcome a (judged g)) r
        ∙ ap (λ (k : ℕ). choose (eqb k 0) passed (refusal 12 k)) b
        ∙ choose_no _ _ (ne_eqb p 0 (λ z. let y : ⊥ = omega (arith, h.place) in y))

-- ---- 4

module _ (limit : ℕ) (old new : Program) (suite : Suite) (n : ℕ) (s : SheetRead) where
  -- A line is refused at its own number, or it is taken, and there is a pair more if it is an M line.
  Counted : SheetLine → Reading SheetRead → Type 0
  Counted x (refused k p) = p ≡ n
  Counted x (accepted t) = length t.claims.M ≡ plus (is_m x) (length s.claims.M)

  unless_counted : (x : SheetLine) (b : Bool) (k : ℕ) (a : Reading SheetRead) → Counted x a → Counted x (unless b k n a)
  unfolding unless Counted
  unless_counted x true k a h = refl
  unless_counted x false k a h = h

  after_counted : (x : SheetLine) (o : Option ℕ) (f : ℕ → Reading SheetRead) → ((i : ℕ) → Counted x (f i)) → Counted x (after o (refused 11 n) f)
  unfolding Counted
  after_counted x none f h = refl
  after_counted x (some i) f h = h i

  line_counted : (x : SheetLine) → Counted x (take_sheet_line limit old new suite n s x)
  unfolding take_sheet_line is_m plus Counted
  line_counted head_line = unless_counted head_line _ 11 _ refl
  line_counted (m_line a b) = unless_counted (m_line a b) _ 4 _ (unless_counted (m_line a b) _ 11 _ (snoc_length (0, 0) s.claims.M _))
  line_counted (d_line e) = unless_counted (d_line e) _ 11 _ refl
  line_counted (r_line name) = after_counted (r_line name) (test_of suite name) _ (λ i. unless_counted (r_line name) _ 11 _ refl)
  line_counted (end_line m d r) = unless_counted (end_line m d r) _ 11 _ refl
  line_counted no_form = refl

  -- An M line after so many.
  above : (x : SheetLine) → is_m x ≡ true → limit ≤ length s.claims.M → take_sheet_line limit old new suite n s x ≡ refused 4 n
  unfolding take_sheet_line is_m
  above (m_line a b) h l = unless_refuses _ 4 n _ (le-leb _ _ l)
  above head_line h l = absurd (true≢false (sym h))
  above (d_line e) h l = absurd (true≢false (sym h))
  above (r_line name) h l = absurd (true≢false (sym h))
  above (end_line m d r) h l = absurd (true≢false (sym h))
  above no_form h l = absurd (true≢false (sym h))

plus_moves : (b : Bool) (i j : ℕ) → plus b i + j ≡ i + plus b j
unfolding plus
plus_moves true i j = omega arith
plus_moves false i j = refl

module _ (limit : ℕ) (old new : Program) (suite : Suite) (l m : Bytes) (ms : List Bytes) (is : is_m (sheet_form (fields_of l)) ≡ true) where
  -- Reading the lines ls from the line n on, and behind them the line l; and the lines ls alone.
  abbrev reads : ℕ → ℕ → SheetRead → List Bytes → Reading Sheet
  reads n at s ls = read_lines (step_sheet limit old new suite) finish_sheet n at s (ls ++ (l ∷ m ∷ ms))

  abbrev alone : ℕ → ℕ → SheetRead → List Bytes → Reading Sheet
  alone n at s ls = read_lines (step_sheet limit old new suite) finish_sheet n at s (ls ++ ([] ∷ []))

  -- The line l is refused with 4, or one of the lines before it is refused, whatever follows.
  abbrev Stops : ℕ → ℕ → SheetRead → List Bytes → Type 0
  Stops n at s ls = (reads n at s ls ≡ refused 4 (n + length ls)) ⊎ ((k p : ℕ) × (reads n at s ls ≡ refused k p) × (alone n at s ls ≡ refused k p) × (n ≤ p) × (p < n + length ls))

  stops_next : (n at : ℕ) (s : SheetRead) (x : Bytes) (ls : List Bytes) (a : Reading SheetRead) → step_sheet limit old new suite n at s x ≡ a → Counted limit old new suite n s (sheet_form (fields_of x)) a
      → length s.claims.M + m_count (x ∷ ls) ≡ limit → ((t : SheetRead) → length t.claims.M + m_count ls ≡ limit → Stops (suc n) (at + length x + 1) t ls) → Stops n at s (x ∷ ls)
  unfolding Counted m_count then
  stops_next n at s x ls (refused k p) e c h f =
      inr (
        k,
        p,
        lines_next (step_sheet limit old new suite) finish_sheet n at s x l ls (m ∷ ms) ∙ ap (λ (a : Reading SheetRead). then a (λ t. reads (suc n) (at + length x + 1) t ls)) e,
        lines_next (step_sheet limit old new suite) finish_sheet n at s x [] ls [] ∙ ap (λ (a : Reading SheetRead). then a (λ t. alone (suc n) (at + length x + 1) t ls)) e,
        let z : n ≤ p = omega (arith, c) in z,
        let z : p < n + suc (length ls) = omega (arith, c) in z,
      )
  stops_next n at s x ls (accepted t) e c h f =
      let on : reads n at s (x ∷ ls) ≡ reads (suc n) (at + length x + 1) t ls
      = lines_next (step_sheet limit old new suite) finish_sheet n at s x l ls (m ∷ ms) ∙ ap (λ (a : Reading SheetRead). then a (λ t. reads (suc n) (at + length x + 1) t ls)) e in
      let by : alone n at s (x ∷ ls) ≡ alone (suc n) (at + length x + 1) t ls
      = lines_next (step_sheet limit old new suite) finish_sheet n at s x [] ls [] ∙ ap (λ (a : Reading SheetRead). then a (λ t. alone (suc n) (at + length x + 1) t ls)) e in
      let q : suc n + length ls ≡ n + suc (length ls) = omega arith in
      ⊎_elim (λ r. inl (on ∙ r ∙ ap (refused 4) q))
      (λ r. inr (r.0, r.1, on ∙ r.2, by ∙ r.3, let z : n ≤ r.1 = omega (arith, r.4) in z, let z : r.1 < n + suc (length ls) = omega (arith, r.5) in z))
      (f t (omega (arith, c, h, plus_moves (is_m (sheet_form (fields_of x))) (length s.claims.M) (m_count ls))))

  stops : (ls : List Bytes) (n at : ℕ) (s : SheetRead) → length s.claims.M + m_count ls ≡ limit → Stops n at s ls
  unfolding read_lines step_sheet m_count then
  stops [] n at s h =
      let e : n ≡ n + 0 = omega arith in
      inl (ap (λ (a : Reading SheetRead). then a (λ t. read_lines (step_sheet limit old new suite) finish_sheet (suc n) (at + length l + 1) t (m ∷ ms))) (above limit old new suite n s (sheet_form (fields_of l)) is (omega (arith, h))) ∙ ap (refused 4) e)
  stops (x ∷ ls) n at s h = stops_next n at s x ls _ refl (line_counted limit old new suite n s (sheet_form (fields_of x))) h (λ t k. stops ls (suc n) (at + length x + 1) t k)

-- The check of a sheet that is not too long, by its lines.
by_lines : (old new tests sheet : Bytes) (g : Given) (ls : List Bytes) → read_job old new tests ≡ accepted g → length sheet ≤ max_bytes → lines_of sheet ≡ ls
    → check_answer old new tests sheet ≡ outcome (read_lines (step_sheet max_pairs g.old g.new g.suite) finish_sheet 1 0 no_sheet ls) (judged g)
unfolding read_sheet read_text
by_lines old new tests sheet g ls e short is_lines =
    checked old new tests sheet g e
    ∙ ap (λ (a : Reading Sheet). outcome a (judged g)) (unless_passes _ _ _ _ (le-ltb _ _ short) ∙ ap (read_lines (step_sheet max_pairs g.old g.new g.suite) finish_sheet 1 0 no_sheet) is_lines)

pub line_above : LineAbove
unfolding outcome
line_above old new tests front sheet g e brief short ls l m ms front_lines is_lines many is =
    let read = by_lines old new tests sheet g (ls ++ (l ∷ m ∷ ms)) e short is_lines in
    let one : 1 + length ls ≡ suc (length ls) = omega arith in
    ⊎_elim (λ r. inl (read ∙ ap (λ (a : Reading Sheet). outcome a (judged g)) (r ∙ ap (refused 4) one)))
    (λ r. inr (
      r.0,
      r.1,
      read ∙ ap (λ (a : Reading Sheet). outcome a (judged g)) r.2,
      by_lines old new tests front g (ls ++ ([] ∷ [])) e brief front_lines ∙ ap (λ (a : Reading Sheet). outcome a (judged g)) r.3,
      r.4,
      let z : r.1 ≤ length ls = omega (arith, r.5) in z,
    ))
    (stops max_pairs g.old g.new g.suite l m ms is ls 1 0 no_sheet (omega (arith, many)))

-- ---- 11, for a line that is missing

free_front : (ls ms : List Bytes) → AllFree 10 (ls ++ ms) → AllFree 10 ls
free_front [] ms h = tt
free_front (l ∷ ls) ms h = (h.0, free_front ls ms h.1)

pub line_missing : LineMissing
unfolding outcome sheet_text Goes
line_missing old new tests g e c o ls ms m is =
    let n = known old new tests g e in
    let h = n.suite_sound in
    let whole : length (text_of (sheet_lines g.suite.names c)) ≤ max_bytes
    = sheet_short max_pairs (omega arith) g.old g.new g.suite n.old_sound n.new_sound _ h c o (few_of max_pairs g.old g.new g.suite n.old_sound _ h c o) in
    let short : length (text_of ls) ≤ max_bytes = omega (arith, whole, ap (λ (x : List Bytes). length (text_of x)) is, ended_append ls (m ∷ ms)) in
    let lines : lines_of (text_of ls) ≡ ls ++ ([] ∷ []) = split_ended ls (free_front ls (m ∷ ms) (subst (λ (x : List Bytes). AllFree 10 x) is (sheet_free _ g.suite h c))) in
    let read : read_lines (step_sheet max_pairs g.old g.new g.suite) finish_sheet 1 0 no_sheet ((ls ++ (m ∷ ms)) ++ ([] ∷ [])) ≡ accepted c
    = subst (λ (x : List Bytes). read_lines (step_sheet max_pairs g.old g.new g.suite) finish_sheet 1 0 no_sheet (x ++ ([] ∷ [])) ≡ accepted c) is (goes_all max_pairs g.old g.new g.suite _ h c o 1 0) in
    let cut : read_lines (step_sheet max_pairs g.old g.new g.suite) finish_sheet 1 0 no_sheet (ls ++ ([] ∷ [])) ≡ refused 11 (suc (length ls)) = go g ls ms m c read in
    by_lines old new tests (text_of ls) g (ls ++ ([] ∷ [])) e short lines ∙ ap (λ (a : Reading Sheet). outcome a (judged g)) cut
  where
    go : (g : Given) (ls ms : List Bytes) (m : Bytes) (c : Sheet) → read_lines (step_sheet max_pairs g.old g.new g.suite) finish_sheet 1 0 no_sheet ((ls ++ (m ∷ ms)) ++ ([] ∷ [])) ≡ accepted c
        → read_lines (step_sheet max_pairs g.old g.new g.suite) finish_sheet 1 0 no_sheet (ls ++ ([] ∷ [])) ≡ refused 11 (suc (length ls))
    go g ls [] m c r =
        cut_sheet max_pairs g.old g.new g.suite ls m [] [] c (ap (read_lines (step_sheet max_pairs g.old g.new g.suite) finish_sheet 1 0 no_sheet) (sym (append_assoc ls (m ∷ []) ([] ∷ []))) ∙ r)
    go g ls (y ∷ ys) m c r =
        cut_sheet max_pairs g.old g.new g.suite ls m y (ys ++ ([] ∷ [])) c (ap (read_lines (step_sheet max_pairs g.old g.new g.suite) finish_sheet 1 0 no_sheet) (sym (append_assoc ls (m ∷ y ∷ ys) ([] ∷ []))) ∙ r)
