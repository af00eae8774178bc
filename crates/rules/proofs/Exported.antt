-- What the one number of an exported call says: number and place are taken out of it again, and demand 3 of the numbers that the calls return.
use Rattle.std.specs.Prelude.{◌≡◌, refl, true, false, [], ◌∷◌, ◌++◌, ℕ, ◌+◌, ◌*◌, ◌<◌, ◌/◌, ◌%◌, length, take, drop}
use Rattle.std.proofs.Common.{sym, ap, ap₂, ◌∙◌, subst, true≢false, arith}
use Rattle.std.proofs.Math.Seq.{take-append_seam}
use Rattle.rules.specs.Text.{Bytes}
use Rattle.rules.specs.SuiteFile.{test_name}
use Rattle.rules.specs.Sheet.{left_off}
use Rattle.rules.specs.Job.{Outcome, check_sheet, output_after, packed, passed, refusal, write_record, write_sheet, wrote}
use Rattle.rules.specs.Promises.{AnswersPlain, Demand3, ExportedDemand3, Plain, Unpacks}

-- ---- number and place

-- Number and place are taken out of the one number, and the output is what was written or what it was.
pub returned : Unpacks
unfolding packed output_after
returned (wrote b) h out =
    record {
      success_below = λ l. (b, refl, let z : 0 * 4294967296 + length b ≡ length b = omega arith in z, refl);
      refusal_above = λ l. let s : length b < 4294967296 = h.fits_beside in absurd (let z : ⊥ = omega arith in z);
    }
returned (refusal k p) h out =
    let s : p < 4294967296 = h.fits_beside in
    record {
      success_below = λ l. let z : k ≡ 0 = omega arith in let w = h.zero_succeeds z in absurd (true≢false (let e : refusal k p ≡ wrote w.0 = w.1 in let q : true ≡ false = cc in q));
      refusal_above = λ l. (k, p, refl, let z : (k * 4294967296 + p) / 4294967296 ≡ k = omega arith in z, let z : (k * 4294967296 + p) % 4294967296 ≡ p = omega arith in z, refl);
    }

nothing : (b : Bytes) → length b ≡ 0 → b ≡ []
nothing [] e = refl
nothing (x ∷ b) e = absurd (let z : ⊥ = omega arith in z)

-- 0 is success with nothing written.
pub zero_passed : (o : Outcome) → Plain o → packed o ≡ 0 → o ≡ passed
zero_passed o h e =
    let w = (returned o h []).success_below (omega (arith, e)) in
    w.1 ∙ ap wrote (nothing w.0 (omega (arith, w.2, e)))

-- ---- demand 3

-- What a call returned below 4,294,967,296, and left in its output.
pub written : (o : Outcome) → Plain o → (out out' : Bytes) (r : ℕ) → r ≡ packed o → out' ≡ output_after o out → r < 4294967296 → (b : Bytes) × (o ≡ wrote b) × (r ≡ length b) × (out' ≡ b ++ drop r out)
written o h out out' r e l s =
    let w = (returned o h out).success_below (subst (λ (k : ℕ). k < 4294967296) e s) in
    let n : r ≡ length w.0 = e ∙ w.2 in
    (w.0, w.1, n, l ∙ w.3 ∙ ap (λ (k : ℕ). w.0 ++ drop k out) (sym n))

pub exported {ℓ κ} : (St : Type ℓ) (Out : Type κ) (old new tests : Bytes) → Demand3 St Out old new tests → AnswersPlain old new tests → ExportedDemand3 St Out old new tests
unfolding packed
exported St Out old new tests d a =
    record {
      checker = λ sheet r e z. d.checker sheet (zero_passed _ (a.of_request check_sheet sheet 0) (sym e ∙ z));
      passes = λ out out' r e l s.
          let w = written _ (a.of_request write_sheet [] (length out)) out out' r e l s in
          (w.0, w.1, w.2, w.3, ap packed (d.passes (length out) w.0 w.1).0);
      unlisted = λ out out' r e l s g j i h.
          let w = written _ (a.of_request write_sheet [] (length out)) out out' r e l s in
          let f : take r out' ≡ w.0 = ap₂ (λ (k : ℕ) (x : Bytes). take k x) w.2 w.3 ∙ take-append_seam w.0 (drop r out) in
          d.unlisted (length out) w.0 w.1 g j i (subst (λ (x : Bytes). left_off x (test_name g.suite i) ≡ true) f h);
      marked = λ i out out' r e l s.
          let w = written _ (a.of_request (write_record i) [] (length out)) out out' r e l s in
          let m = d.marked i (length out) w.0 w.1 in
          (m.0, m.1, m.2, m.3, w.2 ∙ ap length m.4, w.3 ∙ ap (λ (x : Bytes). x ++ drop r out) m.4, m.5, m.6);
    }
