-- Answers of calls, as outcomes of the rules.
use Rattle.std.specs.Prelude.{◌≡◌, refl, ℕ, ◌+◌, ◌*◌, ◌<◌, ltb}
use Rattle.std.proofs.Common.{sym, ap₂, ◌∙◌, subst, arith, lt-ltb}
use Rattle.laws.specs.Tests.{choose}
use Rattle.laws.specs.Lists.{choose_yes}
use Rattle.rules.specs.Text.{Bytes}
use Rattle.rules.specs.Job.{Outcome, number_of, output_after, packed, place_of, refusal}
use Rattle.rules.specs.Promises.{Plain}
use Rattle.answer.specs.Refusals.{Answer}

-- The answer is the outcome's number and place.
pub record Answered (x : Outcome) (r : Answer) : Type 0 where
  pub number_is : r.number ≡ number_of x
  pub place_is : r.place ≡ place_of x

-- The same, and the output before and after it.
pub record Told (x : Outcome) (r : Answer) (o o' : Bytes) : Type 0 where
  pub answered : Answered x r
  pub output_is : o' ≡ output_after x o

-- A refusal leaves the output.
pub refusal_told : (k q : ℕ) (o : Bytes) → Told (refusal k q) (record { number = k; place = q }) o o
unfolding output_after
refusal_told k q o = record { answered = record { number_is = refl; place_is = refl }; output_is = refl }

pub answered_as : {x y : Outcome} {r : Answer} → x ≡ y → Answered y r → Answered x r
answered_as {r = r} e a = subst (λ (z : Outcome). Answered z r) (sym e) a

pub told_as : {x y : Outcome} {r : Answer} {o o' : Bytes} → x ≡ y → Told y r o o' → Told x r o o'
told_as {r = r} {o = o} {o' = o'} e t = subst (λ (z : Outcome). Told z r o o') (sym e) t

-- ---- two numbers in one

-- `pack`: both below 4,294,967,296, or 0.
unfoldable pub packing : ℕ → ℕ → ℕ
packing a b = choose (ltb a 4294967296) (choose (ltb b 4294967296) (a * 4294967296 + b) 0) 0

pub packing_fits : (a b : ℕ) → a < 4294967296 → b < 4294967296 → packing a b ≡ a * 4294967296 + b
unfolding packing
packing_fits a b h k = choose_yes _ _ (lt-ltb a _ h) ∙ choose_yes _ _ (lt-ltb b _ k)

-- Number and place of a plain answer fit.
pub packs : (x : Outcome) (r : Answer) → Plain x → Answered x r → packing r.number r.place ≡ packed x
unfolding packed
packs x r p a =
    packing_fits r.number r.place (omega (arith, a.number_is, p.few_numbers)) (omega (arith, a.place_is, p.fits_beside))
    ∙ ap₂ (λ (k q : ℕ). k * 4294967296 + q) a.number_is a.place_is
