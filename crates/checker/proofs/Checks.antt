-- The returns of `judge` and `check_sheet`.
use mathlib.Core.Path.{◌≡◌, refl, subst, sym, ap₂, ◌∙◌}
use mathlib.Core.Bool.{Bool, true, false}
use mathlib.Core.List.{List}
use Prim.Native.Nat.{ℕ, ◌<◌}
use native.Mathlib.Omega.{arith}
use lib.Dec.{eqb}
use borrow.Author.Tests.{eq-eqb, ne_eqb}
use Rattle.laws.specs.Tests.{choose, first_failed}
use Rattle.laws.specs.Lists.{choose_no, choose_yes}
use Rattle.rules.specs.Text.{Reading, Bytes, accepted, refused}
use Rattle.rules.specs.Graph.{edge_count, node_count}
use Rattle.rules.specs.ProgramFile.{Listing}
use Rattle.rules.specs.SuiteFile.{TestListing, read_tests}
use Rattle.rules.specs.Sheet.{Sheet, read_sheet}
use Rattle.rules.specs.Check.{broken}
use Rattle.rules.specs.Job.{judged, outcome, passed, refusal}
use Rattle.rules.proofs.SheetLayout.{accepted_orderly}
use Rattle.answer.specs.Refusals.{Answer}
use Rattle.std.specs.Prelude.{Result, Ok, Err}
use Rattle.answer.specs.declared.Refusal.{Refusal}
use Rattle.answer.specs.Outcomes.{Answered}
use Rattle.answer.specs.Refusals.{fault_number}
use Rattle.suite.specs.Tables.{Holds}
use Rattle.suite.specs.TableLaws.{name_read, suite_read}
use Rattle.versions.specs.Memory.{InMemory, Memory}
use Rattle.sheet_reader.specs.Claims.{ClaimsHeld, Reads, Told}
use Rattle.checker.specs.declared.Rule.{Rule}
use Rattle.checker.specs.declared.Rule.TheVariants.{Start, Alike, Entered, Kept, Listed}
use Rattle.checker.specs.Checking.{Checks}
use Rattle.checker.specs.Rules.{Claimed, Covered, Judges, Rule1, Rule2, Rule3, Rule4, Rule5, rule_number}

-- ---- `judge`

module _ (v v' : Memory) (w : List ℕ) (m : ℕ) (rows : List ℕ) (count : ℕ) (sets : List ℕ) (a : Bool) (ha : Rule1 v v' w a) where
  pub judge_one : a ≡ false → Judges v v' w m rows count sets 1
  unfolding Judges Rule1 broken first_failed
  judge_one e o p s coverages c d = sym (simp (← ha sets m o p s c, e))

  module _ (ea : a ≡ true) (b : Bool) (hb : Rule2 v v' w m b) where
    pub judge_two : b ≡ false → Judges v v' w m rows count sets 2
    unfolding Judges Rule1 Rule2 broken first_failed
    judge_two e o p s coverages c d = sym (simp (← ha sets m o p s c, ea, ← hb sets o p s c, e))

    module _ (eb : b ≡ true) (x : Bool) (hx : Rule3 v v' w m x) where
      pub judge_three : x ≡ false → Judges v v' w m rows count sets 3
      unfolding Judges Rule1 Rule2 Rule3 broken first_failed
      judge_three e o p s coverages c d = sym (simp (← ha sets m o p s c, ea, ← hb sets o p s c, eb, ← hx sets o p s c, e))

      module _ (ex : x ≡ true) (y : Bool) (hy : Rule4 v v' w m sets y) where
        pub judge_four : y ≡ false → Judges v v' w m rows count sets 4
        unfolding Judges Rule1 Rule2 Rule3 Rule4 broken first_failed
        judge_four e o p s coverages c d = sym (simp (← ha sets m o p s c, ea, ← hb sets o p s c, eb, ← hx sets o p s c, ex, ← hy o p s c, e))

        module _ (ey : y ≡ true) (z : Bool) (hz : Rule5 rows count sets z) where
          pub judge_five : z ≡ false → Judges v v' w m rows count sets 5
          unfolding Judges Rule1 Rule2 Rule3 Rule4 Rule5 broken first_failed
          judge_five e o p s coverages c d =
              sym (simp (← ha sets m o p s c, ea, ← hb sets o p s c, eb, ← hx sets o p s c, ex, ← hy o p s c, ey, ← hz _ _ w m o p s coverages c d, e))

          pub judge_none : z ≡ true → Judges v v' w m rows count sets 0
          unfolding Judges Rule1 Rule2 Rule3 Rule4 Rule5 broken first_failed
          judge_none e o p s coverages c d =
              sym (simp (← ha sets m o p s c, ea, ← hb sets o p s c, eb, ← hx sets o p s c, ex, ← hy o p s c, ey, ← hz _ _ w m o p s coverages c d, e))

pub ruleset judges = (judge_one, judge_two, judge_three, judge_four, judge_five, judge_none)

-- ---- `check_sheet`

-- What the definition answers, by the code's answer.
refused_of : (x : Reading Sheet) (e : Refusal) (w sets : List ℕ) → Told x (Err e) w sets → x ≡ refused (fault_number e.fault) e.place
refused_of (refused k p) e w sets h = ap₂ refused (sym h.0) (sym h.1)
refused_of (accepted s) e w sets h = absurd h

accepted_of : (x : Reading Sheet) (m : ℕ) (w sets : List ℕ) → Told x (Ok m) w sets → (s : Sheet) × (x ≡ accepted s) × ClaimsHeld w sets m s
accepted_of (refused k p) m w sets h = absurd (let b : ⊥ = omega arith in b)
accepted_of (accepted s) m w sets h = (s, refl, h)

module _ (limit : ℕ) (v v' : Memory) (olds news edges : ℕ) (tt : Bytes) (tests rows : List ℕ) (count : ℕ) (sheet : Bytes) (w sets : List ℕ) where
  module _ (o p : Listing) (l : TestListing) (old_in : InMemory v o) (new_in : InMemory v' p) (et : read_tests (edge_count o.program) tt ≡ accepted l)
      (hold : Holds (edge_count o.program) tests rows count l) (eo : olds ≡ node_count o.program) (en : news ≡ node_count p.program) (ee : edges ≡ edge_count o.program) where
    told_is : (r : Result ℕ Refusal) → Reads limit olds news edges tt tests count sheet r w sets → Told (read_sheet limit o.program p.program l.suite sheet) r w sets
    unfolding Reads
    told_is r told =
        told o.program p.program l.suite
        (record {
          old_nodes = eo;
          new_nodes = en;
          old_edges = ee;
          counted = hold.counted;
          names = λ i h. name_read (edge_count o.program) tt l tests rows count i et hold h;
          differ = (suite_read (edge_count o.program) tt l et).names;
        })

    -- An accepted sheet: its claims are held, and of the job's files.
    claimed : (m : ℕ) → Reads limit olds news edges tt tests count sheet (Ok m) w sets → (s : Sheet) × (read_sheet limit o.program p.program l.suite sheet ≡ accepted s) × Claimed v v' w sets m o p s
    claimed m told =
        let a = accepted_of (read_sheet limit o.program p.program l.suite sheet) m w sets (told_is (Ok m) told) in
        let f = (accepted_orderly limit o.program p.program l.suite sheet a.0 a.1).0 in
        (a.0, a.1, record { old_in = old_in; new_in = new_in; held = a.2; nodes = f.nodes; edges = f.edges })

    covered : Covered rows (edge_count o.program) count l.suite.coverages
    covered = record { counted = hold.counted ∙ sym (suite_read (edge_count o.program) tt l et).paired; row = λ i h. hold.row i (omega (arith, hold.counted)) }

  pub check_refused : (e : Refusal) → Reads limit olds news edges tt tests count sheet (Err e) w sets → Checks limit v v' olds news edges tt tests rows count sheet (record { number = fault_number e.fault; place = e.place })
  unfolding Checks outcome
  check_refused e told o p l old_in new_in et hold eo en ee =
      rw (refused_of (read_sheet limit o.program p.program l.suite sheet) e w sets (told_is o p l old_in new_in et hold eo en ee (Err e) told)) (record { number_is = refl; place_is = refl })

  module _ (m : ℕ) (told : Reads limit olds news edges tt tests count sheet (Ok m) w sets) where
    judged_by : (q : ℕ) (r : Answer) → Judges v v' w m rows count sets q → Answered (choose (eqb q 0) passed (refusal 12 q)) r → Checks limit v v' olds news edges tt tests rows count sheet r
    unfolding Checks outcome Judges judged
    judged_by q r hq h o p l old_in new_in et hold eo en ee =
        let a = claimed o p l old_in new_in et hold eo en ee m told in
        let b = hq o p a.0 l.suite.coverages a.2 (covered o p l old_in new_in et hold eo en ee) in
        rw a.1 (subst (λ (k : ℕ). Answered (choose (eqb k 0) passed (refusal 12 k)) r) b h)

    pub check_passed : Judges v v' w m rows count sets 0 → Checks limit v v' olds news edges tt tests rows count sheet (record { number = 0; place = 0 })
    check_passed h = judged_by 0 _ h (rw (choose_yes passed (refusal 12 0) (eq-eqb 0 0 refl)) (record { number_is = refl; place_is = refl }))

    pub check_broken : (q : ℕ) → 0 < q → Judges v v' w m rows count sets q → Checks limit v v' olds news edges tt tests rows count sheet (record { number = 12; place = q })
    check_broken q some h = judged_by q _ h (rw (choose_no passed (refusal 12 q) (ne_eqb q 0 (λ e. let z : ⊥ = omega arith in z))) (record { number_is = refl; place_is = refl }))

pub rule_some : (rule : Rule) → 0 < rule_number rule
rule_some Start = omega arith
rule_some Alike = omega arith
rule_some Entered = omega arith
rule_some Kept = omega arith
rule_some Listed = omega arith

pub ruleset checks = (check_refused, check_passed, check_broken, rule_some)
