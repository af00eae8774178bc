-- The returns of `step`, the turns of `read_lines`, and the returns of `read_sheet`. `So` is what holds at the head of the loop, in the form of a continuation: what the
-- whole sheet reads to is what its rest from `at` on reads to after what the state and the tables hold.
use mathlib.Core.Path.{◌≡◌, refl, sym, ap, ap₂, ◌∙◌, subst}
use mathlib.Core.Bool.{Bool, true, false}
use mathlib.Core.List.{List, [], ◌∷◌}
use Prim.Native.Nat.{ℕ, suc, ◌+◌, ◌-◌, ◌*◌, ◌≤◌, ◌<◌}
use native.Mathlib.Numerals.{add-one}
use native.Mathlib.Omega.{arith}
use lib.ListN.{length, take, drop, length-drop, replicate}
use lib.Seq.{length-take-le}
use borrow.Author.Tests.{le-ltb, lt-ltb}
use Rattle.laws.specs.Tests.{has, isnt}
use Rattle.laws.specs.TestLaws.{true_isnt, false_isnt}
use Rattle.laws.specs.Slices.{drop_end}
use Rattle.laws.specs.BitSets.{clear_bits}
use Rattle.rules.specs.Text.{Reading, Bytes, accepted, bytes, empty, read_lines, read_text, refused, same, split, then, unless}
use Rattle.rules.specs.Graph.{Program}
use Rattle.rules.specs.SuiteFile.{Suite}
use Rattle.rules.specs.Sheet.{Sheet, SheetRead, finish_sheet, head_text, no_sheet, read_sheet, sheet_form, step_sheet, take_sheet_line}
use Rattle.rules.proofs.TextLaws.{empty_not, same_true, split_cons}
use Rattle.text.specs.Scans.{span}
use Rattle.text.specs.SplitLaws.{cut_at, letter, uncut_at}
use Rattle.pairset.specs.Store.{Emptied, Empties, pair_base}
use Rattle.pairset.specs.StoreLaws.{no_pairs}
use Rattle.sheet_reader.specs.declared.Bounds.{Bounds}
use Rattle.std.specs.Prelude.{Result, Ok, Err}
use Rattle.answer.specs.declared.Fault.TheVariants.{LineMalformed, SheetWrong, TextTooLong}
use Rattle.answer.specs.declared.Refusal.{Refusal}
use Rattle.answer.specs.Refusals.{fault_number}
use Rattle.suite.specs.Tables.{Tests}
use Rattle.sheet_reader.specs.declared.Stage.{Stage}
use Rattle.sheet_reader.specs.declared.Stage.TheVariants.{Before, Listing, Ended}
use Rattle.sheet_reader.specs.declared.State.{State}
use Rattle.sheet_reader.specs.Claims.{For, Reads, Told}
use Rattle.sheet_reader.specs.Reading.{AddsEdge, AddsPair, AddsTest, After, Ends, Finishes, Fresh, Holds, Lines, Opens, Small, Stepped, Steps, malformed, nothing_read, shut, wrong}
use Rattle.sheet_reader.proofs.Halts.{ended, halt}
use Rattle.sheet_reader.proofs.Forms.{d_whole, head_form, none_begins, r_whole, word}
use Rattle.sheet_reader.proofs.Orders.{pairs_up_none, up_none}

-- ---- `step`

module _ (b : Bounds) (ts : Tests) (n : ℕ) (line : Bytes) (c : State) (w sets : List ℕ) (f : Bytes) where
  module _ (rest : Bytes) (t : Bool) (y : t ≡ true) where
    module _ (ef : f ≡ take 2 line) (er : rest ≡ drop 2 line) where
      pub step_pair : (r : Result State Refusal) (w' : List ℕ) → t ≡ same f (bytes "M,") → AddsPair b.limit b.olds b.news n (split 44 rest) c w r w' → Steps b ts n line c w sets r w' sets
      unfolding Steps step_sheet AddsPair
      step_pair r w' e q old new suite s at for hold =
          rw (letter 44 77 line f rest ef er refl (sym e ∙ y)) (q old new suite s sets for.old_nodes for.new_nodes hold)

      pub step_edge : (r : Result State Refusal) (sets' : List ℕ) → t ≡ same f (bytes "D,") → AddsEdge b.edges n (rest ∷ []) c sets r sets' → Steps b ts n line c w sets r w sets'
      unfolding Steps step_sheet AddsEdge
      step_edge r sets' e q old new suite s at for hold =
          rw (ap sheet_form (letter 44 68 line f rest ef er refl (sym e ∙ y)) ∙ d_whole rest) (q b.limit old new suite s w for.old_edges hold)

      pub step_test : (r : Result State Refusal) (sets' : List ℕ) → t ≡ same f (bytes "R,") → AddsTest ts.text ts.names ts.count n (rest ∷ []) c sets r sets'
          → Steps b ts n line c w sets r w sets'
      unfolding Steps step_sheet AddsTest
      step_test r sets' e q old new suite s at for hold =
          rw (ap sheet_form (letter 44 82 line f rest ef er refl (sym e ∙ y)) ∙ r_whole rest) (q b.limit b.olds b.news b.edges old new suite s w for hold)

    pub step_end : (r : Result State Refusal) → f ≡ take 4 line → rest ≡ drop 4 line → t ≡ same f (bytes "end,") → Ends n (split 44 rest) c r
        → Steps b ts n line c w sets r w sets
    unfolding Steps step_sheet Ends
    step_end r ef er e q old new suite s at for hold = rw (word line f rest ef er (sym e ∙ y)) (q b.limit old new suite s w sets hold)

  module _ (t : Bool) (et : t ≡ same line head_text) where
    pub step_head : (r : Result State Refusal) → t ≡ true → Opens n c r → Steps b ts n line c w sets r w sets
    unfolding Steps step_sheet Opens
    step_head r y q old new suite s at for hold =
        rw (ap (λ (l : Bytes). sheet_form (split 44 l)) (same_true line head_text (sym et ∙ y)) ∙ head_form) (q b.limit old new suite s w sets hold)

    pub step_none : (g : Bytes) (m d e u : Bool) (x : Refusal) → f ≡ take 2 line → g ≡ take 4 line → m ≡ same f (bytes "M,") → m ≡ false → d ≡ same f (bytes "D,") → d ≡ false → e ≡ same f (bytes "R,") → e ≡ false
        → u ≡ same g (bytes "end,") → u ≡ false → t ≡ false → x ≡ malformed n → Steps b ts n line c w sets (Err x) w sets
    unfolding Steps step_sheet take_sheet_line
    step_none g m d e u x ef eg em nm ed nd ee ne eu nu nt q old new suite s at for hold =
        rw (none_begins line f g ef eg (sym em ∙ nm) (sym ed ∙ nd) (sym ee ∙ ne) (sym eu ∙ nu) (sym et ∙ nt)) (halt x w sets LineMalformed n (omega arith) q)

pub ruleset steps = (step_pair, step_edge, step_test, step_end, step_head, step_none)

-- ---- `finish`

module _ (n : ℕ) (c : State) where
  pub finish_shut : c.stage ≡ Ended → Finishes n c (Ok c.pairs)
  unfolding Finishes finish_sheet unless
  finish_shut e s w sets hold = rw (false_isnt (sym hold.shut_is ∙ ap shut e)) hold.held

  shut_not : (g : Stage) → (g ≡ Ended → ⊥) → shut g ≡ false
  shut_not Before h = refl
  shut_not Listing h = refl
  shut_not Ended h = absurd (h refl)

  pub finish_open : (x : Refusal) → (c.stage ≡ Ended → ⊥) → x ≡ wrong n → Finishes n c (Err x)
  unfolding Finishes finish_sheet unless
  finish_open x e q s w sets hold = rw (true_isnt (sym hold.shut_is ∙ shut_not c.stage e)) (ended x w sets SheetWrong n (omega arith) q)

pub ruleset finishes = (finish_shut, finish_open)

-- ---- the loop

-- What the definition answers, by the code's answer.
accepted_of : (x : Reading SheetRead) (c : State) (w sets : List ℕ) → After x (Ok c) w sets → (s : SheetRead) × (x ≡ accepted s) × Holds w sets c s
accepted_of (refused k p) c w sets h = absurd (omega arith)
accepted_of (accepted s) c w sets h = (s, refl, h)

refused_of : (x : Reading SheetRead) (e : Refusal) (w sets : List ℕ) → After x (Err e) w sets → (x ≡ refused (fault_number e.fault) e.place) × (0 < fault_number e.fault)
refused_of (refused k p) e w sets h = (ap₂ refused (sym h.0) (sym h.1), omega arith)
refused_of (accepted s) e w sets h = absurd h

module _ (limit : ℕ) (old new : Program) (suite : Suite) where
  abbrev lines_from : ℕ → ℕ → SheetRead → List Bytes → Reading Sheet
  lines_from n at s ps = read_lines (step_sheet limit old new suite) finish_sheet n at s ps

  lines_more : (n at : ℕ) (s : SheetRead) (line : Bytes) (ps : List Bytes) (p : Bytes) (qs : List Bytes) → ps ≡ p ∷ qs
      → lines_from n at s (line ∷ ps) ≡ then (step_sheet limit old new suite n at s line) (λ s. lines_from (suc n) (at + length line + 1) s ps)
  unfolding read_lines
  lines_more n at s line ps p qs e =
      subst (λ (x : List Bytes). lines_from n at s (line ∷ x) ≡ then (step_sheet limit old new suite n at s line) (λ s. lines_from (suc n) (at + length line + 1) s x)) (sym e) refl

  pub record So (sheet : Bytes) (at n : ℕ) (c : State) (w sets : List ℕ) : Type 0 where
    pub s : SheetRead
    pub hold : Holds w sets c s
    pub goes : lines_from 1 0 no_sheet (split 10 sheet) ≡ lines_from n at s (split 10 (drop at sheet))

unfoldable pub Sos : Bounds → Tests → Bytes → List ℕ → List ℕ → ℕ → ℕ → State → List ℕ → List ℕ → Type 0
Sos b ts sheet w₀ sets₀ at n c w sets =
    (old new : Program) (suite : Suite) → For b.olds b.news b.edges ts.text ts.names ts.count old new suite → Fresh w₀ sets₀ → So b.limit old new suite sheet at n c w sets

-- The invariant.
pub record Head (b : Bounds) (ts : Tests) (sheet : Bytes) (w₀ sets₀ : List ℕ) (at n : ℕ) (c : State) (w sets : List ℕ) : Type 0 where
  pub short : length sheet ≤ 65536
  pub in_text : at ≤ length sheet
  pub few : n ≤ at + 1
  pub small : Small c
  pub long : length w ≡ length w₀
  pub wide : length sets ≡ length sets₀
  pub so : Sos b ts sheet w₀ sets₀ at n c w sets

none_held : (w sets : List ℕ) → Fresh w sets → Holds w sets nothing_read no_sheet
unfolding has
none_held w sets f =
    record {
      opened_is = refl;
      shut_is = refl;
      pairs_n = refl;
      edges_n = refl;
      tests_n = refl;
      pair_next = pairs_up_none;
      edge_next = up_none;
      test_next = up_none;
      held = record { store = f.store; pairs_are = no_pairs w; edges_are = λ e h. f.clear e; tests_are = λ i h. f.clear (1024 + i) };
    }

module _ (b : Bounds) (ts : Tests) (sheet : Bytes) where
  pub head_start : (w sets : List ℕ) (c : State) → length sheet ≤ 65536 → c ≡ nothing_read → Head b ts sheet w sets 0 1 c w sets
  unfolding Sos
  head_start w sets c k e =
      record {
        short = k;
        in_text = omega arith;
        few = omega arith;
        small = subst Small (sym e) (record { few_pairs = omega arith; low_pair = omega arith; few_edges = omega arith; low_edge = omega arith; few_tests = omega arith; low_test = omega arith });
        long = refl;
        wide = refl;
        so = λ old new suite for fresh. record { s = no_sheet; hold = subst (λ (c : State). Holds w sets c no_sheet) (sym e) (none_held w sets fresh); goes = refl };
      }

  module _ (w₀ sets₀ : List ℕ) (at n : ℕ) (c : State) (w sets : List ℕ) (head : Head b ts sheet w₀ sets₀ at n c w sets) (rest : Bytes) (er : rest ≡ drop at sheet) (len : ℕ) (e : len ≡ span 10 rest) where
    -- The last line is not ended.
    pub no_end : at < length sheet → length rest ≤ len → (x : Refusal) → x ≡ malformed n → Lines b ts sheet w₀ sets₀ (Err x) w sets
    unfolding Lines read_lines unless isnt Sos
    no_end h k x en old new suite for fresh =
        let q : length rest ≡ length sheet - at = ap length er ∙ length-drop at sheet in
        let so = head.so old new suite for fresh in
        simp (so.goes, uncut_at 10 sheet rest at len er e k, empty_not rest (omega arith)) (ended x w sets LineMalformed n (omega arith) en)

    -- The next line begins within the sheet.
    pub turn_at : len < length rest → at + len < 18446744073709551616
    turn_at h = omega (arith, head.short, ap length er, length-drop at sheet)

    pub turn_next : len < length rest → at + len + 1 < 18446744073709551616
    turn_next h = omega (arith, head.short, ap length er, length-drop at sheet)

    pub turn_number : len < length rest → n + 1 < 18446744073709551616
    turn_number h = omega (arith, head.short, head.few, head.in_text)

    module _ (h : len < length rest) (line : Bytes) (el : line ≡ take len rest) (w' sets' : List ℕ) where
      line_long : length line ≡ len
      line_long = ap length el ∙ length-take-le len rest (omega arith)

      module _ (old new : Program) (suite : Suite) (for : For b.olds b.news b.edges ts.text ts.names ts.count old new suite) (fresh : Fresh w₀ sets₀) where
        before : So b.limit old new suite sheet at n c w sets
        unfolding Sos
        before = head.so old new suite for fresh

        whole : lines_from b.limit old new suite 1 0 no_sheet (split 10 sheet)
            ≡ then (step_sheet b.limit old new suite n at before.s line) (λ s. lines_from b.limit old new suite (n + 1) (at + len + 1) s (split 10 (drop (at + len + 1) sheet)))
        whole =
            let sc = split_cons 10 (drop (at + len + 1) sheet) in
            before.goes
            ∙ ap (λ (x : List Bytes). lines_from b.limit old new suite n at before.s x) (cut_at 10 sheet rest at len er e line h el)
            ∙ lines_more b.limit old new suite n at before.s line (split 10 (drop (at + len + 1) sheet)) sc.0 sc.1 sc.2
            ∙ ap₂ (λ (k j : ℕ). then (step_sheet b.limit old new suite n at before.s line) (λ s. lines_from b.limit old new suite k (at + j + 1) s (split 10 (drop (at + len + 1) sheet)))) (sym (add-one n)) line_long

        answer : (r : Result State Refusal) → Stepped b ts n line c w sets r w' sets' → After (step_sheet b.limit old new suite n at before.s line) r w' sets'
        unfolding Steps
        answer r step = step.steps old new suite before.s at for before.hold

        so_on : (d : State) → Stepped b ts n line c w sets (Ok d) w' sets' → So b.limit old new suite sheet (at + len + 1) (n + 1) d w' sets'
        unfolding then
        so_on d step =
            let a = accepted_of (step_sheet b.limit old new suite n at before.s line) d w' sets' (answer (Ok d) step) in
            record {
              s = a.0;
              hold = a.2;
              goes = whole ∙ ap (λ (x : Reading SheetRead). then x (λ s. lines_from b.limit old new suite (n + 1) (at + len + 1) s (split 10 (drop (at + len + 1) sheet)))) a.1;
            }

        stopped : (x : Refusal) → Stepped b ts n line c w sets (Err x) w' sets' → Told (lines_from b.limit old new suite 1 0 no_sheet (split 10 sheet)) (Err x) w' sets'
        unfolding then
        stopped x step =
            let a = refused_of (step_sheet b.limit old new suite n at before.s line) x w' sets' (answer (Err x) step) in
            simp (whole ∙ ap (λ (x : Reading SheetRead). then x (λ s. lines_from b.limit old new suite (n + 1) (at + len + 1) s (split 10 (drop (at + len + 1) sheet)))) a.0) (refl, refl, a.1)

      pub head_on : (d : State) → Stepped b ts n line c w sets (Ok d) w' sets' → length w' ≡ length w → length sets' ≡ length sets → Head b ts sheet w₀ sets₀ (at + len + 1) (n + 1) d w' sets'
      unfolding Sos
      head_on d step lw ls =
          record {
            short = head.short;
            in_text = omega (arith, ap length er, length-drop at sheet);
            few = omega (arith, head.few);
            small = step.small;
            long = lw ∙ head.long;
            wide = ls ∙ head.wide;
            so = λ old new suite for fresh. so_on old new suite for fresh d step;
          }

      pub no_line : (x : Refusal) → Stepped b ts n line c w sets (Err x) w' sets' → Lines b ts sheet w₀ sets₀ (Err x) w' sets'
      unfolding Lines
      no_line x step old new suite for fresh = stopped old new suite for fresh x step

  pub all_read : (w₀ sets₀ : List ℕ) (at n : ℕ) (c : State) (w sets : List ℕ) (r : Result ℕ Refusal) → Head b ts sheet w₀ sets₀ at n c w sets → length sheet ≤ at → Finishes n c r
      → Lines b ts sheet w₀ sets₀ r w sets
  unfolding Lines read_lines split unless isnt empty Finishes Sos
  all_read w₀ sets₀ at n c w sets r head h f old new suite for fresh =
      let so = head.so old new suite for fresh in
      simp (so.goes, drop_end sheet at h) (f so.s w sets so.hold)

  pub head_small : (w₀ sets₀ : List ℕ) (at n : ℕ) (c : State) (w sets : List ℕ) → Head b ts sheet w₀ sets₀ at n c w sets → Small c
  head_small w₀ sets₀ at n c w sets head = head.small

pub ruleset turns = (head_start, no_end, turn_at, turn_next, turn_number, head_on, no_line, all_read, head_small)

-- ---- `read_sheet`

module _ (b : Bounds) (ts : Tests) (sheet : Bytes) (w' sets' : List ℕ) where
  pub sheet_long : (x : Refusal) → 65536 < length sheet → x ≡ record { fault = TextTooLong; place = 0 } → Reads b.limit b.olds b.news b.edges ts.text ts.names ts.count sheet (Err x) w' sets'
  unfolding Reads read_sheet read_text unless
  sheet_long x h e old new suite for = simp (lt-ltb 65536 (length sheet) h) (ended x w' sets' TextTooLong 0 (omega arith) e)

  pub sheet_read : (r : Result ℕ Refusal) (w sets w₁ sets₁ : List ℕ) → length sheet ≤ 65536 → pair_base + 3 * b.limit ≤ length w → Emptied w w₁ → sets₁ ≡ replicate (length sets) 0
      → Lines b ts sheet w₁ sets₁ r w' sets' → Reads b.limit b.olds b.news b.edges ts.text ts.names ts.count sheet r w' sets'
  unfolding Reads Lines read_sheet read_text unless Empties
  sheet_read r w sets w₁ sets₁ h k ew es a old new suite for =
      simp (le-ltb 65536 (length sheet) h) (a old new suite for (record { store = (ew.empties (omega arith)).0; clear = clear_bits sets₁ (length sets) es }))

pub ruleset texts = (sheet_long, sheet_read)
