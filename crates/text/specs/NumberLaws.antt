-- What the answer of `number` says: none for no number, else the number as it is kept.
use Rattle.std.specs.Prelude.{◌≡◌, true, false, [], ◌∷◌, ℕ, min, Option, Some, None}
use Rattle.std.proofs.Common.{◌∙◌, ⊎_elim, arith}
use Rattle.laws.specs.Tests.{choose}
use Rattle.laws.specs.TestLaws.{fails, passes?}
use Rattle.laws.specs.Lists.{choose_no, choose_yes}
use Rattle.rules.specs.Text.{Bytes, is_number, split, value}
use Rattle.rules.proofs.TextLaws.{number_free, split_free}

-- What `number` answers.
abbrev pub number_read : Bytes → Option ℕ
number_read a = choose (is_number a) (Some (min (value a) 65536)) None

pub no_number : (a : Bytes) → ◌≡◌ {A = Option ℕ} None (number_read a) → is_number a ≡ false
no_number a e = fails _ (λ y. let z : ◌≡◌ {A = Option ℕ} None (Some (min (value a) 65536)) = e ∙ choose_yes _ _ y in cc)

module _ (a : Bytes) (v : ℕ) (e : Some v ≡ number_read a) where
  pub a_number : is_number a ≡ true
  a_number = ⊎_elim (λ y. y) (λ n. absurd (let z : ◌≡◌ {A = Option ℕ} (Some v) None = e ∙ choose_no _ _ n in cc)) (passes? (is_number a))

  pub number_kept : v ≡ min (value a) 65536
  number_kept = let z : ◌≡◌ {A = Option ℕ} (Some v) (Some (min (value a) 65536)) = e ∙ choose_yes _ _ a_number in cc

  -- A number has no comma.
  pub number_whole : split 44 a ≡ a ∷ []
  number_whole = split_free 44 a (number_free 44 a (omega arith) a_number)
