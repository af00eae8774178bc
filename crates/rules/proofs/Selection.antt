-- Demand 2 of what is written: the selector's sheet and the record lines are those of the closing rules.
use Rattle.std.specs.Prelude.{◌≡◌, ◌↔◌, ◌⊎◌, Bool, ℕ, ◌<◌}
use Rattle.std.proofs.Math.Path.{refl, sym, ap, subst}
use Rattle.std.proofs.Common.{◌∙◌, true≢false, arith}
use Rattle.std.proofs.Math.Logic.{inl, inr, ⊎_elim}
use Rattle.std.proofs.Math.Bool.{true, false}
use Rattle.std.proofs.Math.ListN.{get_or}
use borrow.Author.Tests.{eqb-true, eq-eqb}
use Rattle.laws.specs.Tests.{◌and◌, ◌or◌, any, choose, has, isnt}
use Rattle.laws.specs.TestLaws.{and_left, and_right, and_both, any_at, any_of_lem, any_none, every_at, every_of, any_of_at, any_of_of, implied, implies, or_cases, or_left, or_right, passes?}
use Rattle.rules.specs.Text.{Bytes, accepted, max_pairs}
use Rattle.rules.specs.Graph.{Program, edge_count}
use Rattle.rules.specs.SuiteFile.{coverage_at, test_name}
use Rattle.rules.specs.Closing.{Counterparts, Coverage, carries, carries_only, dangers, holds, joined, mark, mark_0, mark_1, mark_?, meets, pairs, after_dangers, carried_mark, endangered, probes}
use Rattle.rules.specs.Sheet.{crossed, mark_byte, marks_of, record_text, selected, probes_text}
use Rattle.rules.specs.Job.{Given, answering, probes_answer, probes_bytes, read_job, record_bytes, serving, sheet_answer, sheet_bytes, wrote}
use Rattle.rules.specs.Promises.{Demand2, Exact, LineExact, Repeated, SheetExact, LeftOpen, ProbesExact}
use Rattle.rules.proofs.Closure.{exact}
use Rattle.rules.proofs.JobLaws.{known, marks_at, marks_length, record_wrote, sheet_wrote, outcome_wrote, writing_wrote}
use Rattle.rules.proofs.ReadBack.{chosen_orderly}
use Rattle.rules.proofs.ClosingLaws.{counterpart_new, counterpart_old}

-- ---- the sheet

sheet_proof : (old new tests : Bytes) (room : ℕ) (sheet : Bytes) → sheet_answer old new tests room ≡ wrote sheet → (g : Given) × (read_job old new tests ≡ accepted g) × SheetExact g sheet
unfolding sheet_bytes selected
sheet_proof old new tests room sheet e =
    let u = sheet_wrote old new tests room sheet e in
    let g = u.0 in
    let n = known old new tests g u.1 in
    let x = exact g.old g.new n.old_formed n.new_formed in (
      g,
      u.1,
      record {
        claims = selected g.old g.new g.suite.coverages;
        text = sym u.4;
        order = chosen_orderly max_pairs g _ n.suite_sound u.2;
        pairs_are = x.pairs_are;
        dangers_are = x.dangers_are;
        repeated_are = λ i. (
          λ t. let r = (x.repeated_are g.suite.coverages i).0 t in (omega (arith, r.0, n.suite_sound.paired), (r.1, r.2, r.3)),
          λ r. (x.repeated_are g.suite.coverages i).1 (omega (arith, r.0, n.suite_sound.paired), r.1.0, r.1.1, r.1.2),
        );
      },
    )

-- ---- the list of probes

probes_proof : (old new tests : Bytes) (room : ℕ) (lines : Bytes) → probes_answer old new tests room ≡ wrote lines → (g : Given) × (read_job old new tests ≡ accepted g) × ProbesExact g lines
unfolding answering serving probes_bytes probes_text
probes_proof old new tests room lines e =
    let u = outcome_wrote _ _ _ e in
    let g = u.0 in
    let n = known old new tests g u.1 in
    let x = exact g.old g.new n.old_formed n.new_formed in
    (g, u.1, record { edges = probes g.old g.new; text = sym (writing_wrote _ _ _ _ _ _ u.2).2; rise = x.probes_rise; probes_are = x.probes_are })

-- ---- the marks

-- The byte of a mark, by the three tests: left open; a crossed counterpart; a crossed one whose only counterpart it is.
byte_of : Bool → Bool → Bool → ℕ
unfolding choose isnt mark_byte
byte_of m a b = mark_byte (choose m mark_? (choose (isnt a) mark_0 (choose b mark_1 mark_?)))

byte_open : (a b : Bool) → byte_of true a b ≡ 63
unfolding byte_of choose isnt mark_byte
byte_open a b = refl

byte_zero : (a b : Bool) → (byte_of false a b ≡ 48) ↔ (a ≡ false)
unfolding byte_of choose isnt mark_byte
byte_zero false b = (λ e. refl, λ e. refl)
byte_zero true true = (λ e. absurd (let z : ⊥ = omega arith in z), λ e. absurd (true≢false e))
byte_zero true false = (λ e. absurd (let z : ⊥ = omega arith in z), λ e. absurd (true≢false e))

byte_one : (a b : Bool) → (b ≡ true → a ≡ true) → (byte_of false a b ≡ 49) ↔ (b ≡ true)
unfolding byte_of choose isnt mark_byte
byte_one true true h = (λ e. refl, λ e. refl)
byte_one true false h = (λ e. absurd (let z : ⊥ = omega arith in z), λ e. absurd (true≢false (sym e)))
byte_one false true h = (λ e. refl, λ e. absurd (true≢false (sym (h refl))))
byte_one false false h = (λ e. absurd (let z : ⊥ = omega arith in z), λ e. absurd (true≢false (sym e)))

byte_three : (m a b : Bool) → (byte_of m a b ≡ 48) ⊎ ((byte_of m a b ≡ 49) ⊎ (byte_of m a b ≡ 63))
unfolding byte_of choose isnt mark_byte
byte_three true a b = inr (inr refl)
byte_three false false b = inl refl
byte_three false true true = inr (inl refl)
byte_three false true false = inr (inr refl)

module _ (old new : Program) (x : Exact old new) (coverage : Coverage) where
  repeated_of : meets (dangers old new) coverage ≡ true → Repeated old new coverage
  unfolding meets
  repeated_of t = let a = any_of_at (holds coverage) (dangers old new) t in (a.0, (x.dangers_are a.0).0 a.1, a.2)

  meets_of : Repeated old new coverage → meets (dangers old new) coverage ≡ true
  unfolding meets
  meets_of r = any_of_of (holds coverage) (dangers old new) r.0 ((x.dangers_are r.0).1 r.1) r.2

  -- Some old counterpart of the new edge f was crossed; one whose only counterpart it is.
  abbrev some_crossed : ℕ → Bool
  some_crossed f = any (edge_count old) (carries old new coverage f)

  abbrev only_crossed : ℕ → Bool
  only_crossed f = any (edge_count old) (carries_only old new coverage f)

  -- Its mark is left open.
  abbrev left_open : ℕ → Bool
  left_open f = meets (dangers old new) coverage and (has (probes old new) f or endangered old new coverage f)

  -- At the new edge f.
  module _ (f : ℕ) (inside : f < edge_count new) where
    mark_is : mark_byte (mark old new coverage f) ≡ byte_of (left_open f) (some_crossed f) (only_crossed f)
    unfolding mark carried_mark byte_of
    mark_is = refl

    joined_of : (e : ℕ) → Counterparts old new e f → joined old new (pairs old new) e f ≡ true
    joined_of e c = (x.counterparts_are e f (counterpart_old old new c) inside).1 c

    open_of : LeftOpen old new coverage f → left_open f ≡ true
    unfolding endangered carries
    open_of (r, w) =
        and_both (meets_of r)
        (⊎_elim (λ p. or_left _ ((x.probes_are f).1 p))
        (λ c. or_right _ (any_of_lem _ (edge_count old) c.0 (counterpart_old old new c.1) (and_both (and_both c.2 (joined_of c.0 c.1)) ((x.after_are c.0).1 c.3)))) w)

    open_at : left_open f ≡ true → LeftOpen old new coverage f
    unfolding endangered carries
    open_at t = (
      repeated_of (and_left _ _ t),
      ⊎_elim (λ p. inl ((x.probes_are f).0 p))
          (λ c.
          let a = any_at (λ e. carries old new coverage f e and has (after_dangers old new) e) (edge_count old) c in
          let k = and_left _ _ a.2 in
          inr (a.0, (x.counterparts_are a.0 f a.1 inside).0 (and_right _ _ k), and_left _ _ k, (x.after_are a.0).0 (and_right _ _ a.2)))
          (or_cases _ _ (and_right _ _ t)),
    )

    not_open : (LeftOpen old new coverage f → ⊥) → left_open f ≡ false
    not_open h = ⊎_elim (λ t. absurd (h (open_at t))) (λ t. t) (passes? (left_open f))

    none_crossed : (some_crossed f ≡ false) ↔ ((e : ℕ) → Counterparts old new e f → holds coverage e ≡ true → ⊥)
    unfolding carries
    none_crossed = (
      λ t e c h. any_none (carries old new coverage f) (edge_count old) t e (counterpart_old old new c) (and_both h (joined_of e c)),
      λ h. go h (some_crossed f) refl,
    )
      where
        go : ((e : ℕ) → Counterparts old new e f → holds coverage e ≡ true → ⊥) → (t : Bool) → some_crossed f ≡ t → some_crossed f ≡ false
        go h false e = e
        go h true e =
            let a = any_at (carries old new coverage f) (edge_count old) e in
            absurd (h a.0 ((x.counterparts_are a.0 f a.1 inside).0 (and_right _ _ a.2)) (and_left _ _ a.2))

    Only : Type 0
    Only = (e : ℕ) × Counterparts old new e f × (holds coverage e ≡ true) × ((k : ℕ) → Counterparts old new e k → k ≡ f)

    one_crossed : (only_crossed f ≡ true) ↔ Only
    unfolding carries_only carries Only
    one_crossed = (
      λ t.
          let a = any_at (carries_only old new coverage f) (edge_count old) t in
          let c = and_left _ _ a.2 in (
            a.0,
            (x.counterparts_are a.0 f a.1 inside).0 (and_right _ _ c),
            and_left _ _ c,
            λ k p. eqb-true _ _ (implied _ _ (every_at _ (edge_count new) (and_right _ _ a.2) k (counterpart_new old new p)) ((x.counterparts_are a.0 k a.1 (counterpart_new old new p)).1 p)),
          ),
      λ o.
          any_of_lem (carries_only old new coverage f) (edge_count old) o.0 (counterpart_old old new o.1)
          (and_both (and_both o.2 (joined_of o.0 o.1))
          (every_of _ (edge_count new) (λ k l. implies _ _ (λ j. eq-eqb _ _ (o.3 k ((x.counterparts_are o.0 k (counterpart_old old new o.1) l).0 j)))))),
    )

    only_some : only_crossed f ≡ true → some_crossed f ≡ true
    unfolding carries_only
    only_some t = let a = any_at (carries_only old new coverage f) (edge_count old) t in any_of_lem (carries old new coverage f) (edge_count old) a.0 a.1 (and_left _ _ a.2)

  line_of : (name : Bytes) (line : Bytes) → record_text old new name coverage ≡ line → LineExact old new name coverage line
  unfolding record_text crossed Only
  line_of name line e =
      let marks : Bytes = marks_of old new coverage (edge_count new) in
      let at : (f : ℕ) → f < edge_count new → get_or marks f 0 ≡ byte_of (left_open f) (some_crossed f) (only_crossed f)
      = λ f l. marks_at old new coverage (edge_count new) f l ∙ mark_is f l in
      let given : (b : Bool) (f : ℕ) → f < edge_count new → left_open f ≡ b → get_or marks f 0 ≡ byte_of b (some_crossed f) (only_crossed f)
      = λ b f l t. at f l ∙ ap (λ (u : Bool). byte_of u (some_crossed f) (only_crossed f)) t in
      record {
        marks = marks;
        text = sym e;
        long = marks_length old new coverage (edge_count new);
        unsaid = λ f l w. given true f l (open_of f l w) ∙ byte_open (some_crossed f) (only_crossed f);
        zero = λ f l w.
            let left = given false f l (not_open f l w) in (
              λ b. (none_crossed f l).0 ((byte_zero (some_crossed f) (only_crossed f)).0 (sym left ∙ b)),
              λ c. left ∙ (byte_zero (some_crossed f) (only_crossed f)).1 ((none_crossed f l).1 c),
            );
        one = λ f l w.
            let left = given false f l (not_open f l w) in (
              λ b. (one_crossed f l).0 ((byte_one (some_crossed f) (only_crossed f) (only_some f l)).0 (sym left ∙ b)),
              λ c. left ∙ (byte_one (some_crossed f) (only_crossed f) (only_some f l)).1 ((one_crossed f l).1 c),
            );
        three = λ f l. subst (λ (b : ℕ). (b ≡ 48) ⊎ ((b ≡ 49) ⊎ (b ≡ 63))) (sym (at f l)) (byte_three (left_open f) (some_crossed f) (only_crossed f));
      }

pub selection_exact : (old new tests : Bytes) → Demand2 old new tests
unfolding record_bytes
selection_exact old new tests =
    record {
      sheet_exact = sheet_proof old new tests;
      probes_exact = probes_proof old new tests;
      line_exact = λ i room line e.
          let v = record_wrote old new tests i room line e in
          let g = v.0 in
          let n = known old new tests g v.1 in
          (g, v.1, v.2, line_of g.old g.new (exact g.old g.new n.old_formed n.new_formed) (coverage_at g.suite i) (test_name g.suite i) line v.3);
    }
