-- What the reads of a table answer, whatever it holds.
use Rattle.std.specs.Prelude.{◌≡◌, List, ℕ, ◌+◌, ◌≤◌, leb, get_or, take, drop, length}
use Rattle.std.proofs.Common.{sym, ap₂, ◌∙◌, arith, le-leb}
use Rattle.std.proofs.Math.ListN.{get_or-eq_default}
use Rattle.std.proofs.lemmas.Bool.{lt-leb}
use Rattle.laws.specs.Tests.{choose}
use Rattle.laws.specs.Lists.{choose_no, choose_yes}
use Rattle.laws.specs.Slices.{below_or}
use Rattle.rules.specs.Text.{Bytes}

-- The part of the text whose start stands at i in the links, and its length behind that.
unfoldable pub part_at : Bytes → List ℕ → ℕ → Bytes
part_at text links i = take (get_or links (i + 1) 0) (drop (get_or links i 0) text)

-- Past the end every number of the links is 0, and every part begins there with none.
pub past : (links : List ℕ) (i k : ℕ) → length links ≤ i → i ≤ k → get_or links k 0 ≡ 0
past links i k h l = get_or-eq_default links 0 (omega arith)

pub part_past : (text : Bytes) (links : List ℕ) (i k : ℕ) → length links ≤ i → i ≤ k → part_at text links i ≡ part_at text links k
unfolding part_at
part_past text links i k h l =
    let x : get_or links i 0 ≡ get_or links k 0 = past links i i h (omega arith) ∙ sym (past links i k h l) in
    let y : get_or links (i + 1) 0 ≡ get_or links (k + 1) 0 = past links i (i + 1) h (omega arith) ∙ sym (past links i (k + 1) h (omega arith)) in
    ap₂ (λ (n : ℕ) (m : ℕ). take n (drop m text)) y x

-- x where it is at most m, else 0.
unfoldable pub up_to : ℕ → ℕ → ℕ
up_to m x = choose (leb x m) x 0

pub up_to_le : (m x : ℕ) → up_to m x ≤ m
unfolding up_to
up_to_le m x = below_or m x (λ l. omega (arith, choose_no x 0 (lt-leb x m l))) (λ l. omega (arith, choose_yes x 0 (le-leb x m l)))
