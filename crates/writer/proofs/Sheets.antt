-- What is written is the sheet, and the record line.
use mathlib.Core.Path.{◌≡◌, refl, sym, ap, ap₂, ◌∙◌, subst}
use mathlib.Core.Bool.{true}
use mathlib.Core.List.{List, [], ◌∷◌, ◌++◌, map}
use Prim.Native.Nat.{ℕ, ◌*◌, ◌≤◌, ◌<◌}
use native.Mathlib.Omega.{arith}
use lib.ListN.{length, get_or, take, length-take}
use lib.Seq.{take_all}
use borrow.Author.Tests.{le-ltb, leb-true, lt-ltb}
use Rattle.laws.specs.Tests.{count, has, listed, pick, grid, those}
use Rattle.laws.specs.TestLaws.{and_left, and_right, grid_ascends, grid_of, pick_ascends, pick_at, pick_of, same_test}
use Rattle.laws.specs.Lists.{choose_no, choose_yes}
use Rattle.laws.specs.Those.{those_agree, those_count}
use Rattle.laws.specs.Bits.{bit_in}
use Rattle.rules.specs.Text.{Bytes, accepted, between, is_name, text_of}
use Rattle.rules.specs.Graph.{Program, edge_count, node_count}
use Rattle.rules.specs.Closing.{dangers, dangerous, holds, meets, pairs, repeated}
use Rattle.rules.specs.SuiteFile.{TestListing, coverage_at, read_tests, test_count, test_name}
use Rattle.rules.specs.Sheet.{Sheet, crossed, d_text, end_text, head_text, m_text, r_text, record_text, selected, sheet_lines, sheet_text, v_text}
use Rattle.rules.specs.Job.{output_after, refusal, written, wrote}
use Rattle.rules.proofs.Closure.{dangers_inside, pairs_ascend, pairs_inside}
use Rattle.std.specs.Prelude.{Result, Ok, Err}
use Rattle.std.specs.Fn.{Shared}
use Rattle.std.specs.List.{count_by, range_with_len}
use denote.Ref.{MutBor}
use Rattle.answer.specs.Refusals.{Answer}
use Rattle.answer.specs.declared.Fault.TheVariants.{OutputShort}
use Rattle.answer.specs.declared.Refusal.{Refusal}
use Rattle.answer.specs.Outcomes.{Told, refusal_told, told_as}
use Rattle.answer.specs.Refusals.{told}
use Rattle.text.specs.Puts.{Puts, puts_front, puts_length, puts_measure, puts_then}
use Rattle.pairset.specs.Store.{new_at, old_at, pairs_in}
use Rattle.pairset.specs.StoreLaws.{listed_of}
use Rattle.coverage.specs.Rows.{row_meets, row_ones}
use Rattle.suite.specs.Tables.{Holds}
use Rattle.coverage.specs.RowLaws.{meets_are, ones_are}
use Rattle.suite.specs.TableLaws.{name_read, suite_read}
use Rattle.versions.specs.PairsHeld.{PairsHeld}
use Rattle.writer.specs.Laws.{asc_same, d_lines, text_append, text_more, those_map, those_self}
use Rattle.writer.specs.Writes.{Writes, writes_length}
use Rattle.writer.specs.Texts.{edge_text, pair_text, repeat_text, short_name, table_text}
use Rattle.writer.specs.Claims.{NewBelow, Pairs, PairsPut}
use Rattle.writer.proofs.Counts.{counted}
use Rattle.writer.specs.Measured.{Measured, Measures, WritesAt}
use Rattle.writer.specs.Sheets.{Marked, RecordWrites, RecordWritten, Selection, Selects, SheetPut, SheetPuts, SheetWrites, SheetWritten, TextWritten, record_line, record_of, sheet_of}

-- ---- the tests that were read

-- A name has at most 12 bytes.
name_fits : (s : Bytes) → is_name s ≡ true → length s ≤ 12
unfolding is_name between
name_fits s h = leb-true (length s) 12 (and_right _ _ (and_left _ _ h))

module _ (m : ℕ) (text : Bytes) (tests rows : List ℕ) (n : ℕ) (l : TestListing) (e : read_tests m text ≡ accepted l) (hold : Holds m tests rows n l) where
  names_are : (i : ℕ) → i < test_count l.suite → short_name text tests i ≡ test_name l.suite i
  unfolding short_name
  names_are i h =
      ap (take 12) (name_read m text l tests rows n i e hold h) ∙ take_all 12 (test_name l.suite i) (name_fits (test_name l.suite i) ((suite_read m text l e).name_forms i h))

-- ---- the parts of a sheet

module _ (old new : Program) (w : List ℕ) (c : ℕ) (held : PairsHeld old new w c) where
  -- The table holds new nodes.
  below_new : NewBelow w c (node_count new)
  unfolding NewBelow
  below_new k h = (pairs_inside old new (old_at w k) (new_at w k) (sym (held.same (old_at w k) (new_at w k)) ∙ listed_of w (old_at w k) (new_at w k) c k h refl refl)).1

  -- What the table lists, in order, is the pairs.
  table_pairs : pick (listed (pairs_in w c)) (grid (node_count old) (node_count new)) ≡ pairs old new
  table_pairs =
      asc_same (pick_ascends _ (grid_ascends (node_count old) (node_count new))) (pairs_ascend old new)
      (λ a b. same_test _ _
      (λ t. sym (held.same a b) ∙ (pick_at _ _ a b t).1)
      (λ t.
      let i = pairs_inside old new a b t in
      pick_of _ _ a b (grid_of _ _ a b i.0 i.1) (held.same a b ∙ t)))

  table_text_lem : table_text w c (node_count old) (node_count new) ≡ text_of (map (λ x. m_text x.0 x.1) (pairs old new))
  unfolding table_text pair_text
  table_text_lem = ap (λ (M : List (ℕ × ℕ)). text_of (map (λ x. m_text x.0 x.1) M)) table_pairs

module _ (old new : Program) (set : List ℕ) (few : edge_count old ≤ 1024) (is : (e : ℕ) → e < 1024 → bit_in set e ≡ has (dangers old new) e) where
  set_dangers : those (edge_count old) (bit_in set) ≡ dangers old new
  unfolding dangers
  set_dangers =
      those_agree (bit_in set) (has (dangers old new)) (edge_count old) (λ e h. is e (omega arith))
      ∙ those_self (dangerous old new (pairs old new)) (edge_count old)

  danger_text : edge_text 68 set (edge_count old) ≡ text_of (map d_text (dangers old new))
  unfolding edge_text
  danger_text = ap₂ (λ (f : ℕ → Bytes) (l : List ℕ). text_of (map f l)) d_lines set_dangers

  danger_count : count (edge_count old) (bit_in set) ≡ length (dangers old new)
  danger_count = sym (those_count (bit_in set) (edge_count old)) ∙ ap length set_dangers

  module _ (text : Bytes) (tests rows : List ℕ) (n : ℕ) (l : TestListing) (e : read_tests (edge_count old) text ≡ accepted l) (hold : Holds (edge_count old) tests rows n l) where
    abbrev again : List ℕ
    again = repeated old new l.suite.coverages

    rows_repeated : those n (row_meets rows set) ≡ again
    unfolding repeated
    rows_repeated =
        let q : n ≡ length l.suite.coverages = hold.counted ∙ sym (suite_read (edge_count old) text l e).paired in
        those_agree (row_meets rows set) (λ i. meets (dangers old new) (coverage_at l.suite i)) n
        (λ i h.
        meets_are (edge_count old) rows i (coverage_at l.suite i) few (hold.row i (omega (arith, hold.counted))) set (dangers old new)
        (λ e h. is e (omega arith)) (dangers_inside old new))
        ∙ ap (λ (k : ℕ). those k (λ i. meets (dangers old new) (coverage_at l.suite i))) q

    repeat_text_lem : repeat_text text tests rows set n ≡ text_of (map (λ i. r_text (test_name l.suite i)) again)
    unfolding repeat_text
    repeat_text_lem =
        ap text_of
        (those_map (λ i. r_text (short_name text tests i)) (λ i. r_text (test_name l.suite i)) (row_meets rows set) n
        (λ i h. ap r_text (names_are (edge_count old) text tests rows n l e hold i (omega (arith, hold.counted))))
        ∙ ap (λ (r : List ℕ). map (λ i. r_text (test_name l.suite i)) r) rows_repeated)

    repeat_count : count n (row_meets rows set) ≡ length again
    repeat_count = sym (those_count (row_meets rows set) n) ∙ ap length rows_repeated

-- ---- the sheet

-- A sheet's text, part by part.
sheet_parts : (names : List Bytes) (s : Sheet)
    → sheet_text names s
    ≡ text_of (head_text ∷ [])
    ++ (text_of (map (λ x. m_text x.0 x.1) s.M)
    ++ (text_of (map d_text s.D) ++ (text_of (map (λ i. r_text (get_or names i [])) s.R) ++ text_of (end_text (length s.M) (length s.D) (length s.R) ∷ []))))
unfolding sheet_text sheet_lines
sheet_parts names s =
    let a : List Bytes = map (λ x. m_text x.0 x.1) s.M in
    let b : List Bytes = map d_text s.D in
    let c : List Bytes = map (λ i. r_text (get_or names i [])) s.R in
    let z : List Bytes = end_text (length s.M) (length s.D) (length s.R) ∷ [] in
    text_more head_text (a ++ (b ++ (c ++ z)))
    ∙ ap (λ (t : Bytes). text_of (head_text ∷ []) ++ t)
    (text_append a (b ++ (c ++ z)) ∙ ap (λ (t : Bytes). text_of a ++ t) (text_append b (c ++ z) ∙ ap (λ (t : Bytes). text_of b ++ t) (text_append c z)))

module _ (old new : Program) (l : TestListing) (s : Selection) (h : Selects old new l s) (most : s.edges ≤ 1024) (d r : ℕ)
    (ed : d ≡ count s.edges (bit_in s.set)) (er : r ≡ count s.tested (row_meets s.rows s.set)) where
  few : edge_count old ≤ 1024
  few = omega (arith, h.old_edges)

  read : read_tests (edge_count old) s.text ≡ accepted l
  read = subst (λ (m : ℕ). read_tests m s.text ≡ accepted l) h.old_edges h.suite_read

  hold : Holds (edge_count old) s.tests s.rows s.tested l
  hold = subst (λ (m : ℕ). Holds m s.tests s.rows s.tested l) h.old_edges h.suite_held

  counts_are : end_text s.pair_count d r ≡ end_text (length (pairs old new)) (length (dangers old new)) (length (repeated old new l.suite.coverages))
  counts_are =
      let a : s.pair_count ≡ length (pairs old new) = h.held.counted in
      let b : d ≡ length (dangers old new) = ed ∙ ap (λ (m : ℕ). count m (bit_in s.set)) h.old_edges ∙ danger_count old new s.set few h.dangerous in
      let c : r ≡ length (repeated old new l.suite.coverages) = er ∙ repeat_count old new s.set few h.dangerous s.text s.tests s.rows s.tested l read hold in
      cc

  -- The parts that are written are the sheet.
  parts_are : text_of (head_text ∷ [])
      ++ (table_text s.table s.pair_count s.olds s.news
      ++ (edge_text 68 s.set s.edges ++ (repeat_text s.text s.tests s.rows s.set s.tested ++ text_of (end_text s.pair_count d r ∷ []))))
      ≡ sheet_of old new l
  unfolding selected
  parts_are =
      ap (λ (t : Bytes). text_of (head_text ∷ []) ++ t)
      (ap₂ (λ (t u : Bytes). t ++ u) (ap₂ (table_text s.table s.pair_count) h.old_nodes h.new_nodes ∙ table_text_lem old new s.table s.pair_count h.held)
      (ap₂ (λ (t u : Bytes). t ++ u) (ap (edge_text 68 s.set) h.old_edges ∙ danger_text old new s.set few h.dangerous)
      (ap₂ (λ (t u : Bytes). t ++ u) (repeat_text_lem old new s.set few h.dangerous s.text s.tests s.rows s.tested l read hold)
      (ap (λ (t : Bytes). text_of (t ∷ [])) counts_are))))
      ∙ sym (sheet_parts l.suite.names (selected old new l.suite.coverages))

  table_below : NewBelow s.table s.pair_count s.news
  table_below = subst (λ (b : ℕ). NewBelow s.table s.pair_count b) (sym h.new_nodes) (below_new old new s.table s.pair_count h.held)

pub sheet_puts : {o o₁ o₂ o₃ o₄ o₅ : List ℕ} {r₁ r₂ r₃ r₄ r₅ : ℕ} (s : Selection) (d r : ℕ) → s.edges ≤ 1024
    → d ≡ count_by (bit_in s.set) (range_with_len 0 s.edges) → r ≡ count_by (row_meets s.rows s.set) (range_with_len 0 s.tested)
    → Writes o 0 (text_of (head_text ∷ [])) 8 r₁ o₁ → PairsPut o₁ r₁ s.table s.olds s.news r₂ o₂
    → Writes o₂ r₂ (edge_text 68 s.set s.edges) (23 * s.edges) r₃ o₃
    → Writes o₃ r₃ (repeat_text s.text s.tests s.rows s.set s.tested) (15 * s.tested) r₄ o₄
    → Writes o₄ r₄ (text_of (end_text s.pair_count d r ∷ [])) 67 r₅ o₅ → SheetPut s o r₅ o₅
unfolding SheetPuts Pairs
sheet_puts {o = o} {o₅ = o₅} {r₅ = r₅} s d r most nd nr a b c e z =
    let ed : d ≡ count s.edges (bit_in s.set) = counted (bit_in s.set) d s.edges nd in
    let er : r ≡ count s.tested (row_meets s.rows s.set) = counted (row_meets s.rows s.set) r s.tested nr in
    record {
      puts = λ old new l h. subst (λ (vs : Bytes). Puts o 0 vs r₅ o₅) (parts_are old new l s h most d r ed er)
          (puts_then a.puts (puts_then (b.puts s.pair_count h.held.store (table_below old new l s h most d r ed er)) (puts_then c.puts (puts_then e.puts z.puts))));
      size = writes_length z ∙ writes_length e ∙ writes_length c ∙ b.size ∙ writes_length a;
    }

-- ---- measuring, then writing

-- Where there is room, the bytes are written.
told_put : (o : List ℕ) {vs o₂ : List ℕ} {k : ℕ} → length vs ≤ length o → Puts o 0 vs k o₂ → Told (written (length o) vs) (record { number = 0; place = k }) o o₂
unfolding written output_after
told_put o {vs} {o₂} {k} h w =
    let q : written (length o) vs ≡ wrote vs = choose_no _ _ (le-ltb (length o) (length vs) h) in
    told_as q (record { answered = record { number_is = refl; place_is = omega (arith, w.next) }; output_is = puts_front w h })

-- Where there is not, nothing is.
told_none : (o vs : List ℕ) → length o < length vs → Told (written (length o) vs) (record { number = 16; place = 0 }) o o
unfolding written
told_none o vs h =
    let q : written (length o) vs ≡ refusal 16 0 = choose_yes _ _ (lt-ltb (length o) (length vs) h) in
    told_as q (refusal_told 16 0 o)

-- `write_text`
pub text_written : (o : List ℕ) {vs o₂ : List ℕ} {k : ℕ} → length vs ≤ length o → Puts o 0 vs k o₂ → TextWritten vs o (told (Ok k)) o₂
text_written o h w = record { told = told_put o h w; size = puts_length w }

pub text_short : (o vs : List ℕ) → length o < length vs → TextWritten vs o (told (Err (record { fault = OutputShort; place = 0 }))) o
text_short o vs h = record { told = told_none o vs h; size = refl }

-- A writer whose calls write the bytes vs, measured and then called.
module _ {F : Type 0} (g : Shared F (MutBor (List ℕ) × Unit {0}) (ℕ × (MutBor (List ℕ) × Unit {0}))) (f : F) where
  module _ (vs : Bytes) (m : ℕ) (writes : (p q : MutBor (List ℕ)) (r : ℕ) → g.post f (p, tt) (r, (q, tt)) → Writes p.now 0 vs m r q.now) where
    written_at : {o o' : List ℕ} {r : ℕ} → WritesAt g f o r o' → Writes o 0 vs m r o'
    written_at {o} {o'} {r} w = subst (λ (s : List ℕ). Writes s 0 vs m r o') w.shows (subst (λ (s : List ℕ). Writes w.shown.now 0 vs m r s) w.leaves (writes w.shown w.left r w.says))

    -- What it answers of no bytes is how many there are.
    len_is : (n : ℕ) → Measures g f n → n ≡ length vs
    len_is n p = (puts_measure (written_at p.measured).puts).0

    pub text_measured : (o : List ℕ) (r : Result ℕ Refusal) (o' : List ℕ) → Measured g f o r o' → TextWritten vs o (told r) o'
    text_measured o (Ok k) o' p = text_written o (omega (arith, len_is p.len p.measures, p.outcome.0)) (written_at p.outcome.1).puts
    text_measured o (Err e) o' p =
        rw (p.outcome.1, p.outcome.2) (text_short o vs (omega (arith, len_is p.len p.measures, p.outcome.0)))

  -- The same of a sheet, whose bytes are known only for a selection.
  module _ (s : Selection) (writes : (p q : MutBor (List ℕ)) (r : ℕ) → g.post f (p, tt) (r, (q, tt)) → SheetPut s p.now r q.now) where
    sheet_at : {o o' : List ℕ} {r : ℕ} → WritesAt g f o r o' → SheetPut s o r o'
    sheet_at {o} {o'} {r} w = subst (λ (l : List ℕ). SheetPut s l r o') w.shows (subst (λ (l : List ℕ). SheetPut s w.shown.now r l) w.leaves (writes w.shown w.left r w.says))

    sheet_len : (n : ℕ) → Measures g f n → (old new : Program) (l : TestListing) → Selects old new l s → n ≡ length (sheet_of old new l)
    unfolding SheetPuts
    sheet_len n p old new l h = (puts_measure ((sheet_at p.measured).puts old new l h)).0

    pub sheet_measured : (o : List ℕ) (r : Result ℕ Refusal) (o' : List ℕ) → Measured g f o r o' → SheetWritten s o (told r) o'
    unfolding SheetPuts SheetWrites
    sheet_measured o (Ok k) o' p =
        let w : SheetPut s o k o' = sheet_at p.outcome.1 in
        record { writes = λ old new l h. told_put o (omega (arith, sheet_len p.len p.measures old new l h, p.outcome.0)) (w.puts old new l h); size = w.size }
    sheet_measured o (Err e) o' p =
        rw (p.outcome.1, p.outcome.2)
        (record { writes = λ old new l h. told_none o (sheet_of old new l) (omega (arith, sheet_len p.len p.measures old new l h, p.outcome.0)); size = refl })

-- Not measured: it fits in any case.
pub sheet_fits : {s : Selection} {o o₂ : List ℕ} {k : ℕ} → 65536 ≤ length o → SheetPut s o k o₂ → SheetWritten s o (told (Ok k)) o₂
unfolding SheetPuts SheetWrites
sheet_fits {o = o} h w = record { writes = λ old new t g. told_put o (omega (arith, g.short)) (w.puts old new t g); size = w.size }

pub ruleset sheets = (sheet_fits)

-- ---- record lines

-- The line that the tables give is the record line.
record_is : (old new : Program) (l : TestListing) (text : Bytes) (tests rows : List ℕ) (i : ℕ) (marks : Bytes) (edges : ℕ)
    → Marked old new l text tests rows i marks edges → record_line text tests rows i marks edges ≡ record_of old new l i
unfolding record_line record_text crossed
record_is old new l text tests rows i marks edges h =
    let a : short_name text tests i ≡ test_name l.suite i = names_are (edge_count old) text tests rows (test_count l.suite) l h.suite_read h.suite_held i h.is_test in
    let b : row_ones rows i ≡ count (edge_count old) (holds (coverage_at l.suite i)) = ones_are (edge_count old) rows i (coverage_at l.suite i) h.few (h.suite_held.row i h.is_test) in
    ap (λ (v : Bytes). text_of (v ∷ []))
    (ap₂ (λ (x : Bytes) (k : ℕ). v_text x k (take edges marks)) a b
    ∙ ap (λ (x : Bytes). v_text (test_name l.suite i) (count (edge_count old) (holds (coverage_at l.suite i))) x) h.marked)

pub marks_short : (marks line : Bytes) (edges : ℕ) → line ≡ take edges marks → edges ≤ 1024 → length line ≤ 1024
marks_short marks line edges e h = rw e (omega (arith, length-take edges marks))

module _ (text : Bytes) (tests rows : List ℕ) (i : ℕ) (marks : Bytes) (edges : ℕ) {name line : List ℕ} (crossed : ℕ)
    (en : name ≡ short_name text tests i) (ec : crossed ≡ row_ones rows i) (em : line ≡ take edges marks) where
  line_is : text_of (v_text name crossed line ∷ []) ≡ record_line text tests rows i marks edges
  unfolding record_line
  line_is = cc

  -- The line, as a text that was written, is the record line.
  pub record_told : (o : List ℕ) (r : Answer) (o₂ : List ℕ) → TextWritten (text_of (v_text name crossed line ∷ [])) o r o₂ → RecordWritten text tests rows i marks edges o r o₂
  unfolding RecordWrites
  record_told o r o₂ t =
      record {
        writes = λ old new l m. subst (λ (b : Bytes). Told (written (length o) b) r o o₂) (line_is ∙ record_is old new l text tests rows i marks edges m) t.told;
        size = t.size;
      }

pub ruleset records = (marks_short)

pub ruleset texts = (text_written, text_short)
