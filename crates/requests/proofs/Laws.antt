-- The returns of the functions.
use mathlib.Core.Path.{◌≡◌, refl, sym, ap, ◌∙◌, subst}
use mathlib.Core.Bool.{Bool, true, false}
use mathlib.Core.List.{List}
use Prim.Native.Nat.{ℕ, zero, suc, ◌≤◌, ◌<◌}
use native.Mathlib.Omega.{arith}
use lib.Dec.{eqb, ltb}
use lib.ListN.{length}
use borrow.Author.Tests.{eq-eqb, ne_eqb, le-ltb, lt-ltb}
use Rattle.laws.specs.Tests.{choose}
use Rattle.laws.specs.Lists.{choose_no, choose_yes}
use Rattle.rules.specs.Text.{Reading, Bytes, accepted, max_pairs, refused, too_many}
use Rattle.rules.specs.Graph.{node_count}
use Rattle.rules.specs.Sheet.{Sheet as Claims, read_sheet}
use Rattle.rules.specs.Check.{broken}
use Rattle.rules.specs.Layout.{write_program}
use Rattle.rules.proofs.Theorems.{written_unchanged}
use Rattle.rules.specs.Job.{Given, Outcome, by_side, checking, has_node, judged, labelling, outcome, output_after, refusal, request_by, serving, success, writing_back, written}
use Rattle.std.specs.Prelude.{Option, Result}
use Rattle.answer.specs.declared.Refusal.{Refusal}
use Rattle.answer.specs.Refusals.{Answer}
use Rattle.answer.specs.Outcomes.{Answered, Told, answered_as, refusal_told, told_as}
use Rattle.versions.specs.Memory.{Memory}
use Rattle.versions.specs.MemoryLaws.{program_read}
use Rattle.writer.specs.Sheets.{TextWritten}
use Rattle.intake.specs.declared.Counts.{Counts}
use Rattle.intake.specs.Ready.{Ready}
use Rattle.checker.specs.Checking.{Checks}
use Rattle.work.proofs.Laws.{at_number}
use Rattle.work.specs.Work.{Done, ProbesDone, ProbesOr, RecordDone, RecordOr, SheetDone, SheetOr, told_or}
use Rattle.requests.specs.declared.Request.{Request}
use Rattle.requests.specs.declared.Request.TheVariants.{Check, Label, Probes, Program, Record, Sheet, Unknown}
use Rattle.requests.specs.Requests.{LabelTold, ProgramTold, Served, asked, nodes_on, text_on}

-- ---- `by_number`

module _ (n a b : ℕ) where
  pub by_0 : n ≡ 0 → asked Sheet ≡ request_by n a b
  unfolding request_by asked choose
  by_0 e = simp (eq-eqb _ _ e)

  pub by_1 : (n ≡ 0 → ⊥) → n ≡ 1 → asked (Record a) ≡ request_by n a b
  unfolding request_by asked choose
  by_1 z e = simp (ne_eqb _ _ z, eq-eqb _ _ e)

  pub by_2 : (n ≡ 0 → ⊥) → (n ≡ 1 → ⊥) → n ≡ 2 → asked Check ≡ request_by n a b
  unfolding request_by asked choose
  by_2 z y e = simp (ne_eqb _ _ z, ne_eqb _ _ y, eq-eqb _ _ e)

  pub by_3 : (n ≡ 0 → ⊥) → (n ≡ 1 → ⊥) → (n ≡ 2 → ⊥) → n ≡ 3 → asked (Label a b) ≡ request_by n a b
  unfolding request_by asked choose
  by_3 z y x e = simp (ne_eqb _ _ z, ne_eqb _ _ y, ne_eqb _ _ x, eq-eqb _ _ e)

  pub by_4 : (n ≡ 0 → ⊥) → (n ≡ 1 → ⊥) → (n ≡ 2 → ⊥) → (n ≡ 3 → ⊥) → n ≡ 4 → asked (Program a) ≡ request_by n a b
  unfolding request_by asked choose
  by_4 z y x w e = simp (ne_eqb _ _ z, ne_eqb _ _ y, ne_eqb _ _ x, ne_eqb _ _ w, eq-eqb _ _ e)

  pub by_5 : (n ≡ 0 → ⊥) → (n ≡ 1 → ⊥) → (n ≡ 2 → ⊥) → (n ≡ 3 → ⊥) → (n ≡ 4 → ⊥) → n ≡ 5 → asked Probes ≡ request_by n a b
  unfolding request_by asked choose
  by_5 z y x w v e = simp (ne_eqb _ _ z, ne_eqb _ _ y, ne_eqb _ _ x, ne_eqb _ _ w, ne_eqb _ _ v, eq-eqb _ _ e)

  pub by_none : (n ≡ 0 → ⊥) → (n ≡ 1 → ⊥) → (n ≡ 2 → ⊥) → (n ≡ 3 → ⊥) → (n ≡ 4 → ⊥) → (n ≡ 5 → ⊥) → asked Unknown ≡ request_by n a b
  unfolding request_by asked choose
  by_none z y x w v u = simp (ne_eqb _ _ z, ne_eqb _ _ y, ne_eqb _ _ x, ne_eqb _ _ w, ne_eqb _ _ v, ne_eqb _ _ u)

-- ---- `nodes_on`, `label`

module _ (had : Counts) (side : ℕ) where
  pub on_old : side ≡ 0 → had.old_nodes ≡ nodes_on had side
  unfolding nodes_on choose
  on_old e = simp (eq-eqb _ _ e)

  pub on_new : (side ≡ 0 → ⊥) → side ≡ 1 → had.new_nodes ≡ nodes_on had side
  unfolding nodes_on choose
  on_new z e = simp (ne_eqb _ _ z, eq-eqb _ _ e)

  pub on_none : (side ≡ 0 → ⊥) → (side ≡ 1 → ⊥) → 0 ≡ nodes_on had side
  unfolding nodes_on choose
  on_none z e = simp (ne_eqb _ _ z, ne_eqb _ _ e)

-- A label is shown exactly if the version of its side has the node.
module _ (v v' : Memory) (tt : Bytes) (tests rows : List ℕ) (had : Counts) (g : Given) (y : Ready v v' tt tests rows had g) (n : ℕ) where
  labelled : (side : ℕ) → labelling g side n ≡ choose (ltb n (nodes_on had side)) success (refusal 6 0)
  unfolding labelling by_side has_node nodes_on choose
  labelled zero =
      ap (λ (x : Given). choose (ltb n (node_count x.old)) success (refusal 6 0)) y.given_is ∙ ap (λ (k : ℕ). choose (ltb n k) success (refusal 6 0)) (sym y.old_nodes_n)
  labelled (suc zero) =
      ap (λ (x : Given). choose (ltb n (node_count x.new)) success (refusal 6 0)) y.given_is ∙ ap (λ (k : ℕ). choose (ltb n k) success (refusal 6 0)) (sym y.new_nodes_n)
  labelled (suc (suc side)) =
      let a : eqb (suc (suc side)) 0 ≡ false = ne_eqb (suc (suc side)) 0 (λ e. let z : ⊥ = omega arith in z) in
      let b : eqb (suc (suc side)) 1 ≡ false = ne_eqb (suc (suc side)) 1 (λ e. let z : ⊥ = omega arith in z) in
      let c : ltb n 0 ≡ false = le-ltb n 0 (omega arith) in
      simp (a, b, c)

module _ (had : Counts) (side n k : ℕ) (e : k ≡ nodes_on had side) where
  pub label_there : n < k → LabelTold had side n (record { number = 0; place = 0 })
  unfolding LabelTold
  label_there h v v' tt tests rows g y =
      answered_as (labelled v v' tt tests rows had g y n side ∙ choose_yes _ _ (lt-ltb n (nodes_on had side) (omega (arith, e)))) (record { number_is = refl; place_is = refl })

  pub label_not : k ≤ n → LabelTold had side n (record { number = 6; place = 0 })
  unfolding LabelTold
  label_not h v v' tt tests rows g y =
      answered_as (labelled v v' tt tests rows had g y n side ∙ choose_no _ _ (le-ltb n (nodes_on had side) (omega (arith, e)))) (record { number_is = refl; place_is = refl })

-- ---- `program`

module _ (old new : Bytes) (side : ℕ) (out out' text : Bytes) (r : Answer) (t : TextWritten text out r out') where
  pub program_old : side ≡ 0 → text ≡ old → ProgramTold old new side out r out'
  unfolding text_on by_side
  program_old e q =
      record { told = subst (λ (s : ℕ). Told (text_on old new s (length out)) r out out') (sym e) (subst (λ (x : Bytes). Told (written (length out) x) r out out') q t.told); size = t.size }

  pub program_new : side ≡ 1 → text ≡ new → ProgramTold old new side out r out'
  unfolding text_on by_side
  program_new e q =
      record { told = subst (λ (s : ℕ). Told (text_on old new s (length out)) r out out') (sym e) (subst (λ (x : Bytes). Told (written (length out) x) r out out') q t.told); size = t.size }

pub program_none : (old new : Bytes) (side : ℕ) (out : Bytes) (r : Answer) → (side ≡ 0 → ⊥) → (side ≡ 1 → ⊥) → r ≡ record { number = 6; place = 0 } → ProgramTold old new side out r out
unfolding text_on by_side
program_none old new zero out r z e q = absurd (z refl)
program_none old new (suc zero) out r z e q = absurd (e refl)
program_none old new (suc (suc side)) out r z e q = record { told = subst (λ (x : Answer). Told (refusal 6 0) x out out) (sym q) (refusal_told 6 0 out); size = refl }

-- The text of a side is its program, written back.
module _ (v v' : Memory) (tt : Bytes) (tests rows : List ℕ) (had : Counts) (g : Given) (y : Ready v v' tt tests rows had g) (room : ℕ) where
  old_text : write_program g.old ≡ v.text
  old_text = ap (λ (x : Given). write_program x.old) y.given_is ∙ written_unchanged v.text y.o.program (program_read v y.o y.old_in)

  new_text : write_program g.new ≡ v'.text
  new_text = ap (λ (x : Given). write_program x.new) y.given_is ∙ written_unchanged v'.text y.p.program (program_read v' y.p y.new_in)

  text_back : (side : ℕ) → writing_back g side room ≡ text_on v.text v'.text side room
  unfolding writing_back text_on by_side
  text_back zero = ap (written room) old_text
  text_back (suc zero) = ap (written room) new_text
  text_back (suc (suc side)) = refl

-- ---- `serve`

-- A check writes nothing, and neither does it to show a label.
choice_still : (t : Bool) (k q : ℕ) (out : Bytes) → output_after (choose t success (refusal k q)) out ≡ out
unfolding output_after choose
choice_still true k q out = refl
choice_still false k q out = refl

checks_still : (limit : ℕ) (g : Given) (sheet out : Bytes) → output_after (checking limit g sheet) out ≡ out
unfolding outcome judged output_after
checks_still limit g sheet out = read (read_sheet limit g.old g.new g.suite sheet)
  where
    read : (x : Reading Claims) → output_after (outcome x (judged g)) out ≡ out
    read (refused k p) = refl
    read (accepted s) = choice_still (eqb (broken g.old g.new g.suite.coverages s) 0) _ _ out

labels_still : (g : Given) (side n : ℕ) (out : Bytes) → output_after (labelling g side n) out ≡ out
unfolding labelling by_side output_after
labels_still g zero n out = choice_still (has_node g.old n) 6 0 out
labels_still g (suc zero) n out = choice_still (has_node g.new n) 6 0 out
labels_still g (suc (suc side)) n out = refl

told_still : (x : Outcome) (r : Answer) (out out' : Bytes) → output_after x out ≡ out → out' ≡ out → Answered x r → Told x r out out'
told_still x r out out' s e a = record { answered = a; output_is = e ∙ sym s }

module _ (v v' : Memory) (tt tests rows : List ℕ) (had : Counts) (input w w' out out' : List ℕ) (r : Answer) where
  abbrev Does : Request → Type 0
  Does q = Done w w' out out' (Served (asked q) v v' tt tests rows had input out r out')

  sheet_served : 16912 ≤ length w → Done w w' out out' (SheetDone max_pairs too_many v v' tt tests rows had w out r out') → Does Sheet
  unfolding SheetDone Served serving asked
  sheet_served room d = record { claim = λ g y. d.claim g y room; size = d.size; room = d.room }

  record_served : (i : ℕ) → 16912 ≤ length w → Done w w' out out' (RecordDone max_pairs too_many v v' tt tests rows had i w out r out') → Does (Record i)
  unfolding RecordDone Served serving asked
  record_served i room d = record { claim = λ g y. d.claim g y room; size = d.size; room = d.room }

  check_served : length w' ≡ length w → out' ≡ out → Checks max_pairs v v' had.old_nodes had.new_nodes had.old_edges tt tests rows had.tests input r → Does Check
  unfolding Checks Served serving asked
  check_served e eo d =
      record {
        claim = λ g y. subst (λ (x : Given). Told (checking max_pairs x input) r out out') (sym y.given_is)
            (told_still _ r out out' (checks_still max_pairs _ input out) eo
            (d y.o y.p y.l y.old_in y.new_in y.tests_read y.tests_in y.old_nodes_n y.new_nodes_n y.old_edges_n));
        size = e;
        room = ap length eo;
      }

  label_served : (side n : ℕ) → w' ≡ w → out' ≡ out → LabelTold had side n r → Does (Label side n)
  unfolding LabelTold Served serving asked
  label_served side n e eo d =
      record { claim = λ g y. told_still _ r out out' (labels_still g side n out) eo (d v v' tt tests rows g y); size = ap length e; room = ap length eo }

  program_served : (side : ℕ) → w' ≡ w → ProgramTold v.text v'.text side out r out' → Does (Program side)
  unfolding Served serving asked
  program_served side e d = record { claim = λ g y. told_as (text_back v v' tt tests rows had g y (length out) side) d.told; size = ap length e; room = d.size }

  probes_served : 16912 ≤ length w → Done w w' out out' (ProbesDone max_pairs too_many v v' had w out r out') → Does Probes
  unfolding ProbesDone Served serving asked
  probes_served room d = record { claim = λ g y. d.claim tt tests rows g y room; size = d.size; room = d.room }

  unknown_served : w' ≡ w → out' ≡ out → r ≡ record { number = 6; place = 0 } → Does Unknown
  unfolding Served serving asked
  unknown_served e eo er =
      record { claim = λ g y. subst (λ (x : Answer). Told (refusal 6 0) x out out') (sym er) (subst (λ (o : Bytes). Told (refusal 6 0) (record { number = 6; place = 0 }) out o) (sym eo) (refusal_told 6 0 out)); size = ap length e; room = ap length eo }

  module _ (q : Request) where
    pub sheet_asked : q ≡ Sheet → 16912 ≤ length w → Done w w' out out' (SheetDone max_pairs too_many v v' tt tests rows had w out r out') → Does q
    sheet_asked e room d = subst Does (sym e) (sheet_served room d)

    pub record_asked : (i : ℕ) → q ≡ Record i → 16912 ≤ length w → Done w w' out out' (RecordDone max_pairs too_many v v' tt tests rows had i w out r out') → Does q
    record_asked i e room d = subst Does (sym e) (record_served i room d)

    pub check_asked : q ≡ Check → length w' ≡ length w → out' ≡ out → Checks max_pairs v v' had.old_nodes had.new_nodes had.old_edges tt tests rows had.tests input r → Does q
    check_asked e a b d = subst Does (sym e) (check_served a b d)

    pub label_asked : (side n : ℕ) → q ≡ Label side n → w' ≡ w → out' ≡ out → LabelTold had side n r → Does q
    label_asked side n e a b d = subst Does (sym e) (label_served side n a b d)

    pub program_asked : (side : ℕ) → q ≡ Program side → w' ≡ w → ProgramTold v.text v'.text side out r out' → Does q
    program_asked side e a d = subst Does (sym e) (program_served side a d)

    pub probes_asked : q ≡ Probes → 16912 ≤ length w → Done w w' out out' (ProbesDone max_pairs too_many v v' had w out r out') → Does q
    probes_asked e room d = subst Does (sym e) (probes_served room d)

    pub unknown_asked : q ≡ Unknown → w' ≡ w → out' ≡ out → r ≡ record { number = 6; place = 0 } → Does q
    unknown_asked e a b d = subst Does (sym e) (unknown_served a b d)

    -- Of what `within` makes of an answer.
    pub sheet_within : (a : Option (Result ℕ Refusal)) → q ≡ Sheet → 16912 ≤ length w → r ≡ told_or too_many a → Done w w' out out' (SheetOr max_pairs v v' tt tests rows had w out a out') → Does q
    unfolding SheetOr
    sheet_within a e room x d = sheet_asked e room (at_number w w' out out' (λ (n : ℕ) (z : Answer). SheetDone max_pairs n v v' tt tests rows had w out z out') too_many a r x d)

    pub record_within : (i : ℕ) (a : Option (Result ℕ Refusal)) → q ≡ Record i → 16912 ≤ length w → r ≡ told_or too_many a → Done w w' out out' (RecordOr max_pairs v v' tt tests rows had i w out a out')
        → Does q
    unfolding RecordOr
    record_within i a e room x d = record_asked i e room (at_number w w' out out' (λ (n : ℕ) (z : Answer). RecordDone max_pairs n v v' tt tests rows had i w out z out') too_many a r x d)

    pub probes_within : (a : Option (Result ℕ Refusal)) → q ≡ Probes → 16912 ≤ length w → r ≡ told_or too_many a → Done w w' out out' (ProbesOr max_pairs v v' had w out a out') → Does q
    unfolding ProbesOr
    probes_within a e room x d = probes_asked e room (at_number w w' out out' (λ (n : ℕ) (z : Answer). ProbesDone max_pairs n v v' had w out z out') too_many a r x d)

pub ruleset all = (by_0, by_1, by_2, by_3, by_4, by_5, by_none, on_old, on_new, on_none, label_there, label_not, program_old, program_new, program_none, sheet_within, record_within, check_asked, label_asked, program_asked, probes_within, unknown_asked)
