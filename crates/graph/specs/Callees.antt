-- What the callees of a node say as one number: the lowest digit is the first callee, and the others are those behind it.
use Rattle.std.specs.Prelude.{◌≡◌, refl, true, ℕ, suc, ◌+◌, ◌-◌, ◌*◌, ◌/◌, ◌%◌, ◌≤◌, ◌<◌}
use Rattle.std.proofs.Math.Path.{sym, ap}
use Rattle.std.proofs.Common.{◌∙◌, arith, drop_of_length-le, drop-cons}
use Rattle.std.proofs.Math.Option.{Option, none, some}
use mathlib.Core.List.{[]}
use Rattle.laws.specs.Digits.{number}
use Rattle.laws.specs.Slices.{below_or}
use Rattle.laws.specs.Tests.{first, found}
use Rattle.laws.specs.TestLaws.{first_at, first_none}
use Rattle.rules.specs.Text.{Bytes, is_name, name_count, name_in, names_in, same}
use Rattle.rules.specs.Graph.{C, Program, WellFormed, callee_at, callee_count, called, kind_at, name_at, node_count, or_zero, proc_count, proc_of}
use Rattle.rules.proofs.GraphLaws.{called_none}
use Rattle.rules.proofs.TextLaws.{same_of}
use Rattle.graph.specs.Table.{callees_from, proc_digit}

-- ---- a digit

-- Less 1 it is the procedure that is looked up for the name.
digit_proc : (p : Program) (name : Bytes) → proc_digit p name - 1 ≡ proc_of p name
unfolding proc_digit proc_of or_zero
digit_proc p name = go (first (proc_count p) (λ q. same (name_at p q) name))
  where
    go : (o : Option ℕ) → found o - 1 ≡ or_zero o
    go none = refl
    go (some q) = let z : suc q - 1 ≡ q = omega arith in z

pub digit_small : (p : Program) (name : Bytes) → proc_digit p name ≤ proc_count p
unfolding proc_digit
digit_small p name = go (first (proc_count p) (λ q. same (name_at p q) name)) refl
  where
    go : (o : Option ℕ) → first (proc_count p) (λ q. same (name_at p q) name) ≡ o → found o ≤ proc_count p
    go none e = omega arith
    go (some q) e = let r = first_at (λ q. same (name_at p q) name) (proc_count p) q e in omega (arith, r.0)

digit_some : (p : Program) (name : Bytes) (q : ℕ) → q < proc_count p → name_at p q ≡ name → 0 < proc_digit p name
unfolding proc_digit
digit_some p name q l e = go (first (proc_count p) (λ q. same (name_at p q) name)) refl
  where
    go : (o : Option ℕ) → first (proc_count p) (λ q. same (name_at p q) name) ≡ o → 0 < found o
    go none f = absurd (first_none (λ q. same (name_at p q) name) (proc_count p) f q l (same_of e))
    go (some i) f = omega arith

-- ---- the digits of a node

module _ (p : Program) (n i : ℕ) where
  from_cons : i < callee_count p n → callees_from p n i ≡ callees_from p n (suc i) * 256 + proc_digit p (name_in (callee_at p n) i)
  unfolding callees_from name_count name_in number
  from_cons l = ap (number 256 (proc_digit p)) (drop-cons (names_in (callee_at p n)) i [] l)

  -- No callee is behind the last.
  pub none_from : callee_count p n ≤ i → callees_from p n i ≡ 0
  unfolding callees_from name_count number
  none_from l = ap (number 256 (proc_digit p)) (drop_of_length-le (names_in (callee_at p n)) l)

module _ (p : Program) (few : proc_count p ≤ 64) (n i : ℕ) where
  -- The first callee, and those behind it.
  pub first_callee : ((q : ℕ) → q < proc_count p → is_name (name_at p q) ≡ true) → callees_from p n i % 256 - 1 ≡ called p n i
  unfolding called
  first_callee names =
      below_or i (callee_count p n)
      (λ l.
      let d = digit_small p (name_in (callee_at p n) i) in
      let m : callees_from p n i % 256 ≡ proc_digit p (name_in (callee_at p n) i) = omega (arith, from_cons p n i l) in
      ap (λ (x : ℕ). x - 1) m ∙ digit_proc p (name_in (callee_at p n) i))
      (λ l. ap (λ (x : ℕ). x % 256 - 1) (none_from p n i l) ∙ sym (called_none p names n i l))

  pub other_callees : callees_from p n i / 256 ≡ callees_from p n (suc i)
  other_callees =
      below_or i (callee_count p n)
      (λ l. let d = digit_small p (name_in (callee_at p n) i) in let m : callees_from p n i / 256 ≡ callees_from p n (suc i) = omega (arith, from_cons p n i l) in m)
      (λ l. ap (λ (x : ℕ). x / 256) (none_from p n i l) ∙ sym (none_from p n (suc i) (omega arith)))

-- Where its callees exist, the number of those from i on is not 0 if there is one.
pub some_from : (p : Program) → WellFormed p → (n i : ℕ) → n < node_count p → kind_at p n ≡ C → i < callee_count p n → 0 < callees_from p n i
some_from p wf n i h k l = let r = wf.callees n h k i l in let d = digit_some p _ r.0 r.1 r.2 in omega (arith, from_cons p n i l)
