-- The check with labels that match by their bytes passes exactly the sheets that pass and list no pair whose labels differ in their bytes.
use Rattle.std.specs.Prelude.{◌≡◌, ◌↔◌, List, ℕ}
use Rattle.std.proofs.Math.Path.{sym}
use Rattle.std.proofs.Common.{ap, ◌∙◌, eq-eqb, eqb-true}
use Rattle.std.proofs.Math.Bool.{true}
use Rattle.laws.specs.Tests.{listed}
use Rattle.laws.specs.TestLaws.{all_pairs_at, all_pairs_of, and_both, and_left, and_right, failed_none, none_failed, none_left}
use Rattle.laws.specs.Lists.{choose_yes}
use Rattle.rules.specs.Text.{Bytes, squeezed}
use Rattle.rules.specs.Graph.{Program, label_at}
use Rattle.rules.specs.Closing.{Coverage, alike}
use Rattle.rules.specs.Sheet.{Sheet}
use Rattle.rules.specs.Check.{broken, rule1, rule2, rule3, rule4, rule5}
use Rattle.rules.specs.Job.{outcome, passed}
use Rattle.rules.specs.Former.{former_alike, former_broken, former_check_answer, former_rule2}
use Rattle.rules.specs.Promises.{PassedFormerly}
use Rattle.rules.proofs.ClosingLaws.{alike_parts, same_label_of}
use Rattle.rules.proofs.JobLaws.{Passed, outcome_wrote, wrote_choose}
use Rattle.rules.proofs.SheetLayout.{passes_from, passing_read, unbroken_of}
use Rattle.rules.proofs.TextLaws.{same_of, same_true}

module _ (old new : Program) where
  -- Nodes that were alike are alike, and have labels of equal bytes; and the other way.
  former_alike_lem : (n n' : ℕ) → former_alike old new n n' ≡ true → (alike old new n n' ≡ true) × (label_at old n ≡ label_at new n')
  unfolding former_alike
  former_alike_lem n n' h =
      let t = and_right _ _ h in
      let e = same_true _ _ (and_left _ _ t) in
      (alike_parts old new n n' ∙ and_both (and_left _ _ h) (and_both (same_label_of _ _ (ap squeezed e)) (and_right _ _ t)), e)

  alike_former : (n n' : ℕ) → alike old new n n' ≡ true → label_at old n ≡ label_at new n' → former_alike old new n n' ≡ true
  unfolding former_alike
  alike_former n n' h e =
      let p = sym (alike_parts old new n n') ∙ h in
      and_both (and_left _ _ p) (and_both (same_of e) (and_right _ _ (and_right _ _ p)))

  -- No rule was broken: none is, and the labels of listed pairs have equal bytes; and the other way.
  former_broken_lem : (suite : List Coverage) (s : Sheet) → former_broken old new suite s ≡ 0
      → (broken old new suite s ≡ 0) × ((n n' : ℕ) → listed s.M n n' ≡ true → label_at old n ≡ label_at new n')
  unfolding former_broken former_rule2 rule2
  former_broken_lem suite s e =
      let a = failed_none _ _ _ e in
      let b = failed_none _ _ _ a.1 in
      let c = failed_none _ _ _ b.1 in
      let d = failed_none _ _ _ c.1 in
      let f = failed_none _ _ _ d.1 in
      let was : (n n' : ℕ) → listed s.M n n' ≡ true → (alike old new n n' ≡ true) × (label_at old n ≡ label_at new n')
      = λ n n' l. former_alike_lem n n' (all_pairs_at (former_alike old new) s.M b.0 n n' l) in
      let two : rule2 old new s ≡ true = all_pairs_of (alike old new) s.M (λ n n' l. (was n n' l).0) in (
        unbroken_of old new suite s a.0 two c.0 d.0 f.0,
        λ n n' l. (was n n' l).1,
      )

  broken_former : (suite : List Coverage) (s : Sheet) → rule1 old new s ≡ true → rule2 old new s ≡ true → rule3 old new s ≡ true → rule4 old new s ≡ true → rule5 suite s ≡ true
      → ((n n' : ℕ) → listed s.M n n' ≡ true → label_at old n ≡ label_at new n') → former_broken old new suite s ≡ 0
  unfolding former_broken former_rule2 rule2
  broken_former suite s a b c d f h =
      let two : former_rule2 old new s ≡ true = all_pairs_of (former_alike old new) s.M (λ n n' l. alike_former n n' (all_pairs_at (alike old new) s.M b n n' l) (h n n' l)) in
      none_failed 1 _ a (none_failed 2 _ two (none_failed 3 _ c (none_failed 4 _ d (none_failed 5 _ f (none_left 6)))))

former_passes : (old new tests sheet : Bytes) → former_check_answer old new tests sheet ≡ passed → PassedFormerly old new tests sheet
unfolding former_check_answer
former_passes old new tests sheet e =
    let u = outcome_wrote _ _ _ e in
    let v = outcome_wrote _ _ _ u.2 in
    let g = u.0 in
    let s = v.0 in
    let b = former_broken_lem g.old g.new g.suite.coverages s (eqb-true _ _ (wrote_choose _ _ _ _ _ v.2).0) in
    let p : Passed old new tests sheet = record { given = g; reads = u.1; claims = s; reads_sheet = v.1; unbroken = b.0 } in
    record { passes = passes_from p; labels = b.1 }

passes_former : (old new tests sheet : Bytes) → PassedFormerly old new tests sheet → former_check_answer old new tests sheet ≡ passed
unfolding former_check_answer outcome
passes_former old new tests sheet f =
    let p = f.passes in
    let g = p.given in
    let b = broken_former g.old g.new g.suite.coverages p.claims p.holds1 p.holds2 p.holds3 p.holds4 p.holds5 f.labels in
    rw (p.reads, passing_read p) (choose_yes _ _ (eq-eqb _ _ b))

pub former_is : (old new tests sheet : Bytes) → (former_check_answer old new tests sheet ≡ passed) ↔ PassedFormerly old new tests sheet
former_is old new tests sheet = (former_passes old new tests sheet, passes_former old new tests sheet)
