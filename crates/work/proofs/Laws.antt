-- The returns of the functions.
use mathlib.Core.Path.{◌≡◌, refl, sym, ap, ◌∙◌, subst}
use mathlib.Core.Bool.{Bool}
use mathlib.Core.List.{List}
use Prim.Native.Nat.{ℕ, suc, ◌+◌, ◌*◌, ◌≤◌, ◌<◌}
use native.Mathlib.Omega.{arith}
use borrow.Author.Tests.{le-leb, le-ltb, lt-ltb}
use lib.ListN.{length, length-replicate, replicate, take}
use Rattle.laws.specs.Lists.{choose_no, choose_yes}
use Rattle.laws.specs.Slices.{below_or}
use Rattle.laws.specs.BitSets.{clear_bits}
use Rattle.rules.specs.Text.{Bytes}
use Rattle.rules.specs.Graph.{Program, edge_count}
use Rattle.rules.specs.ProgramFile.{Listing}
use Rattle.rules.specs.SuiteFile.{coverage_at, read_tests, test_count}
use Rattle.rules.specs.Closing.{pairs}
use Rattle.rules.specs.Job.{Given, probes_bytes, record_bytes, recording, refusal, sheet_bytes, writing, written}
use Rattle.rules.proofs.ReadBack.{selected_short}
use Rattle.std.specs.Prelude.{Option, Some, None, Result}
use Rattle.answer.specs.declared.Refusal.{Refusal}
use Rattle.answer.specs.Refusals.{Answer, told}
use Rattle.answer.specs.Outcomes.{Told, refusal_told, told_as}
use Rattle.pairset.specs.Store.{pair_base}
use Rattle.versions.specs.Memory.{InMemory, Memory, memory}
use Rattle.versions.specs.MemoryLaws.{sound}
use Rattle.closure.specs.Claims.{Closes, Found, Sized}
use Rattle.selection.specs.Compared.{Compared}
use Rattle.selection.specs.Dangers.{Copies, DangersCopied}
use Rattle.selection.specs.DangerLaws.{row_meets_lem}
use Rattle.selection.specs.Marks.{Finds, MarksFound}
use Rattle.selection.specs.MarkLaws.{marks_front}
use Rattle.coverage.specs.Rows.{row_meets}
use Rattle.probes.specs.Sets.{AfterFound, FindsAfter, FindsProbes, OpenFound, ProbesFound}
use Rattle.suite.specs.Tables.{Holds}
use Rattle.suite.specs.TableLaws.{suite_read}
use Rattle.writer.specs.Laws.{probes_text_lem}
use Rattle.writer.specs.Sheets.{ProbesWritten, RecordWrites, RecordWritten, SheetWrites, SheetWritten, selection, writing_written}
use Rattle.intake.specs.declared.Counts.{Counts}
use Rattle.intake.specs.Ready.{Few, Ready}
use Rattle.work.specs.Work.{Chosen, Done, ProbesDone, ProbesOr, RecordDone, RecordFrom, RecordOr, Selected, SelectDone, SheetDone, SheetOr, told_or}

-- ---- `select`

module _ (limit : ℕ) (v v' : Memory) (w w' : List ℕ) (c : ℕ) (h : Sized w w' (Closes v v' limit w w' c)) where
  found : (o p : Listing) → InMemory v o → InMemory v' p → pair_base + 3 * limit ≤ length w → Found o.program p.program limit w' c
  unfolding Closes
  found o p io ip l = h.claim o p io ip l

  pub select_many : (set : List ℕ) → limit < c → Selected limit v v' w w' set set c
  unfolding SelectDone
  select_many set m =
      record {
        selects = λ o p io ip l k. record {
          answer = (found o p io ip l).answer;
          held = λ f. absurd (let z : ⊥ = omega arith in z);
          marked = λ f. absurd (let z : ⊥ = omega arith in z);
        };
        size = h.size;
        set_size = refl;
      }

  pub select_few : (set set' : List ℕ) → c ≤ limit → DangersCopied w' set set' → Selected limit v v' w w' set set' c
  unfolding SelectDone Copies
  select_few set set' m d =
      record {
        selects = λ o p io ip l k.
            let f = found o p io ip l in
            record { answer = f.answer; held = f.held; marked = λ n. d.copies o.program p.program (f.marked m) k };
        size = h.size;
        set_size = d.size;
      }

-- ---- answers

-- More pairs than the limit.
too_many : (limit : ℕ) (old new : Program) (w set : List ℕ) (c : ℕ) → Chosen limit old new w set c → limit < c → limit < length (pairs old new)
too_many limit old new w set c x h =
    below_or limit (length (pairs old new)) (λ b. b)
    (λ b. absurd (let z : ⊥ = omega (arith, x.answer, choose_yes (length (pairs old new)) (suc limit) (le-leb (length (pairs old new)) limit b)) in z))

writing_many : (limit over : ℕ) (g : Given) (room : ℕ) (b : Bytes) → limit < length (pairs g.old g.new) → writing limit over g room b ≡ refusal over 0
unfolding writing
writing_many limit over g room b h = choose_yes _ _ (lt-ltb limit (length (pairs g.old g.new)) h)

recording_yes : (limit over : ℕ) (g : Given) (i room : ℕ) → i < test_count g.suite → recording limit over g i room ≡ writing limit over g room (record_bytes g i)
recording_yes limit over g i room h = choose_yes _ _ (lt-ltb i (test_count g.suite) h)

recording_no : (limit over : ℕ) (g : Given) (i room : ℕ) → test_count g.suite ≤ i → recording limit over g i room ≡ refusal 6 0
recording_no limit over g i room h = choose_no _ _ (le-ltb i (test_count g.suite) h)

module _ (limit over : ℕ) (v v' : Memory) (tt tests rows : List ℕ) (had : Counts) (w : List ℕ) (out : Bytes) where
  -- What the job gives, by its parts.
  abbrev giving : (g : Given) → Ready v v' tt tests rows had g → Given
  giving g y = record { old = y.o.program; new = y.p.program; suite = y.l.suite }

  chosen : (w' set set' : List ℕ) (c : ℕ) → Selected limit v v' w w' set set' c → length set ≡ 16 → (g : Given) (y : Ready v v' tt tests rows had g) → pair_base + 3 * limit ≤ length w
      → Chosen limit y.o.program y.p.program w' set' c
  unfolding SelectDone
  chosen w' set set' c s k g y l = s.selects y.o y.p y.old_in y.new_in l (omega arith)

  held_few : (g : Given) (y : Ready v v' tt tests rows had g) (w' set' : List ℕ) (c : ℕ) → Chosen limit y.o.program y.p.program w' set' c → c ≤ limit
      → length (pairs y.o.program y.p.program) ≤ limit
  held_few g y w' set' c x h = omega (arith, (x.held h).counted)

  -- Whatever is to be written: refused where there are more pairs than the limit, and else as it is written.
  module _ (b : Given → Bytes) (w' set' : List ℕ) (c : ℕ) (g : Given) (y : Ready v v' tt tests rows had g) (x : Chosen limit y.o.program y.p.program w' set' c) where
    told_many : limit < c → Told (writing limit over g (length out) (b g)) (record { number = over; place = 0 }) out out
    told_many m =
        subst (λ (g : Given). Told (writing limit over g (length out) (b g)) (record { number = over; place = 0 }) out out) (sym y.given_is)
        (told_as (writing_many limit over (giving g y) (length out) (b (giving g y)) (too_many limit y.o.program y.p.program w' set' c x m)) (refusal_told over 0 out))

    told_few : c ≤ limit → (r : Answer) (out' : Bytes) → Told (written (length out) (b (giving g y))) r out out' → Told (writing limit over g (length out) (b g)) r out out'
    told_few m r out' t =
        subst (λ (g : Given). Told (writing limit over g (length out) (b g)) r out out') (sym y.given_is)
        (told_as (writing_written limit over (giving g y) (length out) (b (giving g y)) (held_few g y w' set' c x m)) t)

  -- ---- `write_sheet`

  pub sheet_many : (w' set set' : List ℕ) (c : ℕ) → Selected limit v v' w w' set set' c → length set ≡ 16 → limit < c
      → Done w w' out out (SheetDone limit over v v' tt tests rows had w out (record { number = over; place = 0 }) out)
  unfolding SheetDone
  sheet_many w' set set' c s k m =
      record {
        claim = λ g y l. told_many sheet_bytes w' set' c g y (chosen w' set set' c s k g y l) m;
        size = s.size;
        room = refl;
      }

  pub sheet_few : limit ≤ 4096 → (w' set set' : List ℕ) (c : ℕ) → Selected limit v v' w w' set set' c → length set ≡ 16 → c ≤ limit → (r : Answer) (out' : Bytes)
      → SheetWritten (selection w' c had.old_nodes had.new_nodes set' had.old_edges tt tests rows had.tests) out r out'
      → Done w w' out out' (SheetDone limit over v v' tt tests rows had w out r out')
  unfolding SheetDone SheetWrites sheet_bytes
  sheet_few most w' set set' c s k m r out' h =
      record {
        claim = λ g y l.
            let x = chosen w' set set' c s k g y l in
            let t = h.writes y.o.program y.p.program y.l
            (record {
              old_nodes = y.old_nodes_n;
              new_nodes = y.new_nodes_n;
              old_edges = y.old_edges_n;
              held = x.held m;
              dangerous = (x.marked m).bits;
              suite_read = ap (λ (n : ℕ). read_tests n tt) y.old_edges_n ∙ y.tests_read;
              suite_held = subst (λ (n : ℕ). Holds n tests rows had.tests y.l) (sym y.old_edges_n) y.tests_in;
              short = selected_short limit (giving g y) (edge_count y.o.program) (suite_read (edge_count y.o.program) tt y.l y.tests_read) (held_few g y w' set' c x m) most
                  (sound v y.o y.old_in) (sound v' y.p y.new_in);
            }) in
            told_few sheet_bytes w' set' c g y x m r out' t;
        size = s.size;
        room = h.size;
      }

  -- ---- `write_record`

  pub record_none : (i : ℕ) → had.tests ≤ i → Done w w out out (RecordDone limit over v v' tt tests rows had i w out (record { number = 6; place = 0 }) out)
  unfolding RecordDone
  record_none i h =
      record {
        claim = λ g y l.
            subst (λ (g : Given). Told (recording limit over g i (length out)) (record { number = 6; place = 0 }) out out) (sym y.given_is)
            (told_as (recording_no limit over (giving g y) i (length out) (omega (arith, y.tests_in.counted))) (refusal_told 6 0 out));
        size = refl;
        room = refl;
      }

  pub record_many : (w' set set' : List ℕ) (c i : ℕ) → i < had.tests → Selected limit v v' w w' set set' c → length set ≡ 16 → limit < c
      → Done w w' out out (RecordDone limit over v v' tt tests rows had i w out (record { number = over; place = 0 }) out)
  unfolding RecordDone
  record_many w' set set' c i below s k m =
      record {
        claim = λ g y l.
            let x = chosen w' set set' c s k g y l in
            subst (λ (g : Given). Told (recording limit over g i (length out)) (record { number = over; place = 0 }) out out) (sym y.given_is)
            (told_as
            (recording_yes limit over (giving g y) i (length out) (omega (arith, y.tests_in.counted))
            ∙ writing_many limit over (giving g y) (length out) (record_bytes (giving g y) i) (too_many limit y.o.program y.p.program w' set' c x m))
            (refusal_told over 0 out));
        size = s.size;
        room = refl;
      }

  pub record_few : (w' set set' : List ℕ) (c i : ℕ) → i < had.tests → Selected limit v v' w w' set set' c → length set ≡ 16 → c ≤ limit → (r : Answer) (out' : Bytes)
      → Done w' w' out out' (RecordFrom v.nodes v.links v'.nodes v'.links tt tests rows had i w' set' out r out') → Done w w' out out' (RecordDone limit over v v' tt tests rows had i w out r out')
  unfolding RecordDone RecordFrom
  record_few w' set set' c i below s k m r out' h =
      record {
        claim = λ g y l. h.claim limit over v.text v'.text g c y (chosen w' set set' c s k g y l) (s.set_size ∙ k) m below;
        size = s.size;
        room = h.room;
      }

-- ---- `write_probes`

module _ (limit over : ℕ) (v v' : Memory) (had : Counts) (w : List ℕ) (out : Bytes) (w' dangers dangers' : List ℕ) (c : ℕ)
    (s : Selected limit v v' w w' dangers dangers' c) (k : length dangers ≡ 16) where
  pub probes_many : limit < c → Done w w' out out (ProbesDone limit over v v' had w out (record { number = over; place = 0 }) out)
  unfolding ProbesDone
  probes_many m =
      record {
        claim = λ tt tests rows g y l.
            told_many limit over v v' tt tests rows had w out probes_bytes w' dangers' c g y (chosen limit over v v' tt tests rows had w out w' dangers dangers' c s k g y l) m;
        size = s.size;
        room = refl;
      }

  pub probes_few : c ≤ limit → (set set' : List ℕ) → set ≡ replicate 16 0 → ProbesFound v.nodes v.links v'.nodes v'.links w' dangers' had.old_edges had.new_nodes set set'
      → (r : Answer) (out' : Bytes) → ProbesWritten set' had.new_edges out r out' → Done w w' out out' (ProbesDone limit over v v' had w out r out')
  unfolding ProbesDone FindsProbes probes_bytes
  probes_few m set set' zero f r out' h =
      let long : 16 ≤ length set = omega (arith, ap length zero, length-replicate {A = ℕ} 16 0) in
      record {
        claim = λ tt tests rows g y l.
            let x = chosen limit over v v' tt tests rows had w out w' dangers dangers' c s k g y l in
            let found = f.finds y.o y.p c (record { old_text = v.text; new_text = v'.text; old_in = y.old_in; new_in = y.new_in; held = x.held m }) (x.marked m) y.old_edges_n
            y.new_nodes_n long (clear_bits set 16 zero) in
            let is = probes_text_lem y.o.program y.p.program set' had.new_edges y.new_edges_n found in
            told_few limit over v v' tt tests rows had w out probes_bytes w' dangers' c g y x m r out' (told_as (ap (written (length out)) (sym is)) h.told);
        size = s.size;
        room = h.size;
      }

-- ---- the same for whatever number the caller has for more pairs

for_all : (w w' out out' : List ℕ) (X : ℕ → Type 0) → ((over : ℕ) → Done w w' out out' (X over)) → Done w w' out out' ((over : ℕ) → X over)
for_all w w' out out' X f = record { claim = λ over. (f over).claim; size = (f 0).size; room = (f 0).room }

-- What a caller has of it with the number `over`.
pub at_number : (w w' out out' : List ℕ) (X : ℕ → Answer → Type 0) (over : ℕ) (a : Option (Result ℕ Refusal)) (r : Answer) → r ≡ told_or over a
    → Done w w' out out' ((n : ℕ) → X n (told_or n a)) → Done w w' out out' (X over r)
at_number w w' out out' X over a r e d = record { claim = subst (X over) (sym e) (d.claim over); size = d.size; room = d.room }

module _ (limit : ℕ) (v v' : Memory) (tt tests rows : List ℕ) (had : Counts) (w : List ℕ) (out : Bytes) where
  pub sheet_or_many : (w' set set' : List ℕ) (c : ℕ) → Selected limit v v' w w' set set' c → length set ≡ 16 → limit < c
      → Done w w' out out (SheetOr limit v v' tt tests rows had w out None out)
  unfolding SheetOr
  sheet_or_many w' set set' c s k m = for_all _ _ _ _ _ (λ over. sheet_many limit over v v' tt tests rows had w out w' set set' c s k m)

  pub sheet_or_few : limit ≤ 4096 → (w' set set' : List ℕ) (c : ℕ) → Selected limit v v' w w' set set' c → length set ≡ 16 → c ≤ limit → (r : Result ℕ Refusal) (out' : Bytes)
      → SheetWritten (selection w' c had.old_nodes had.new_nodes set' had.old_edges tt tests rows had.tests) out (told r) out'
      → Done w w' out out' (SheetOr limit v v' tt tests rows had w out (Some r) out')
  unfolding SheetOr
  sheet_or_few most w' set set' c s k m r out' h = for_all _ _ _ _ _ (λ over. sheet_few limit over v v' tt tests rows had w out most w' set set' c s k m (told r) out' h)

  pub record_or_none : (i : ℕ) (r : Result ℕ Refusal) → had.tests ≤ i → told r ≡ record { number = 6; place = 0 } → Done w w out out (RecordOr limit v v' tt tests rows had i w out (Some r) out)
  unfolding RecordOr
  record_or_none i r h e =
      for_all _ _ _ _ _
      (λ over. subst (λ (a : Answer). Done w w out out (RecordDone limit over v v' tt tests rows had i w out a out)) (sym e) (record_none limit over v v' tt tests rows had w out i h))

  pub record_or_many : (w' set set' : List ℕ) (c i : ℕ) → i < had.tests → Selected limit v v' w w' set set' c → length set ≡ 16 → limit < c
      → Done w w' out out (RecordOr limit v v' tt tests rows had i w out None out)
  unfolding RecordOr
  record_or_many w' set set' c i below s k m = for_all _ _ _ _ _ (λ over. record_many limit over v v' tt tests rows had w out w' set set' c i below s k m)

  pub record_or_few : (w' set set' : List ℕ) (c i : ℕ) → i < had.tests → Selected limit v v' w w' set set' c → length set ≡ 16 → c ≤ limit → (r : Result ℕ Refusal) (out' : Bytes)
      → Done w' w' out out' (RecordFrom v.nodes v.links v'.nodes v'.links tt tests rows had i w' set' out (told r) out')
      → Done w w' out out' (RecordOr limit v v' tt tests rows had i w out (Some r) out')
  unfolding RecordOr
  record_or_few w' set set' c i below s k m r out' h = for_all _ _ _ _ _ (λ over. record_few limit over v v' tt tests rows had w out w' set set' c i below s k m (told r) out' h)

module _ (limit : ℕ) (v v' : Memory) (had : Counts) (w : List ℕ) (out : Bytes) (w' dangers dangers' : List ℕ) (c : ℕ)
    (s : Selected limit v v' w w' dangers dangers' c) (k : length dangers ≡ 16) where
  pub probes_or_many : limit < c → Done w w' out out (ProbesOr limit v v' had w out None out)
  unfolding ProbesOr
  probes_or_many m = for_all _ _ _ _ _ (λ over. probes_many limit over v v' had w out w' dangers dangers' c s k m)

  pub probes_or_few : c ≤ limit → (set set' : List ℕ) → set ≡ replicate 16 0 → ProbesFound v.nodes v.links v'.nodes v'.links w' dangers' had.old_edges had.new_nodes set set'
      → (r : Result ℕ Refusal) (out' : Bytes) → ProbesWritten set' had.new_edges out (told r) out' → Done w w' out out' (ProbesOr limit v v' had w out (Some r) out')
  unfolding ProbesOr
  probes_or_few m set set' zero f r out' h = for_all _ _ _ _ _ (λ over. probes_few limit over v v' had w out w' dangers dangers' c s k m set set' zero f (told r) out' h)

-- ---- `record_from`

pub record_put : (on ol nn nl tt tests rows : List ℕ) (had : Counts) (w : List ℕ) (out : Bytes) (set none probed none' after marks marks' : List ℕ) (i : ℕ) (again : Bool) (r : Answer) (out' : Bytes)
    → Few had → again ≡ row_meets rows set i → none ≡ replicate 16 0 → none' ≡ replicate 16 0
    → OpenFound again (ProbesFound on ol nn nl w set had.old_edges had.new_nodes none probed) (AfterFound on ol set had.old_nodes none' after)
    → length marks ≡ 1024 → MarksFound on ol nn nl w rows i had.old_edges had.new_edges again probed after marks marks'
    → RecordWritten tt tests rows i marks' had.new_edges out r out' → Done w w out out' (RecordFrom on ol nn nl tt tests rows had i w set out r out')
unfolding RecordFrom Finds FindsProbes FindsAfter RecordWrites record_bytes
record_put on ol nn nl tt tests rows had w out set none probed none' after marks marks' i again r out' few rep zero zero' op long f h =
    record {
      claim = λ limit over ot nt g c y x size m is.
          let v = memory ot on ol in
          let v' = memory nt nn nl in
          let old = y.o.program in
          let new = y.p.program in
          let coverage = coverage_at y.l.suite i in
          let below : i < test_count y.l.suite = omega (arith, y.tests_in.counted) in
          let few_old : edge_count old ≤ 1024 = omega (arith, y.old_edges_n, few.few_old_edges) in
          let few_new : edge_count new ≤ 1024 = omega (arith, y.new_edges_n, few.few_new_edges) in
          let row = y.tests_in.row i below in
          let meets_is = rep ∙ row_meets_lem old new set few_old (x.marked m) rows i coverage row in
          let held : Compared on ol nn nl w c y.o y.p = record { old_text = ot; new_text = nt; old_in = y.old_in; new_in = y.new_in; held = x.held m } in
          let long₁ : 16 ≤ length none = omega (arith, ap length zero, length-replicate {A = ℕ} 16 0) in
          let long₂ : 16 ≤ length none' = omega (arith, ap length zero', length-replicate {A = ℕ} 16 0) in
          let found = f.finds y.o y.p c coverage held row y.old_edges_n y.new_edges_n meets_is
          (λ t. (
            (op.probed t).finds y.o y.p c held (x.marked m) y.old_edges_n y.new_nodes_n long₁ (clear_bits none 16 zero),
            (op.after t).finds ot y.o y.p y.old_in (x.marked m) y.old_nodes_n size long₂,
          )) (omega arith) in
          let t = h.writes old new y.l
          (record {
            few = few_old;
            new_edges = y.new_edges_n;
            suite_read = y.tests_read;
            suite_held = subst (λ (n : ℕ). Holds (edge_count old) tests rows n y.l) y.tests_in.counted y.tests_in;
            is_test = below;
            marked = ap (λ (n : ℕ). take n marks') y.new_edges_n ∙ marks_front old new coverage marks marks' (omega arith) found;
          }) in
          let job = giving limit over v v' tt tests rows had w out g y in
          subst (λ (g : Given). Told (recording limit over g i (length out)) r out out') (sym y.given_is)
          (told_as (recording_yes limit over job i (length out) below ∙ writing_written limit over job (length out) (record_bytes job i) (held_few limit over v v' tt tests rows had w out g y w set c x m)) t);
      size = refl;
      room = h.size;
    }

pub ruleset all = (select_many, select_few, sheet_or_many, sheet_or_few, probes_or_many, probes_or_few, record_put, record_or_none, record_or_many, record_or_few)
