-- A table that holds exactly the pairs of two programs, and what follows for the rules: lists that list the same pairs give the same answers.
use Rattle.std.specs.Prelude.{◌≡◌, Bool, List, ℕ, length}
use Rattle.std.proofs.Math.Path.{ap}
use Rattle.laws.specs.Tests.{◌⇒◌, listed}
use Rattle.laws.specs.Counting.{every_agree}
use Rattle.rules.specs.Graph.{C, Program, callee_count, called, exit, kind_at, same_kind}
use Rattle.rules.specs.Closing.{exits_met, goes_on, pairs}
use Rattle.pairset.specs.Store.{Store, pairs_in}

pub record PairsHeld (old new : Program) (w : List ℕ) (c : ℕ) : Type 0 where
  pub store : Store w c
  pub counted : c ≡ length (pairs old new)
  pub same : (a b : ℕ) → listed (pairs_in w c) a b ≡ listed (pairs old new) a b

module _ (old new : Program) (M N : List (ℕ × ℕ)) (h : (a b : ℕ) → listed M a b ≡ listed N a b) where
  pub goes_on_agree : (n m : ℕ) → goes_on old new M n m ≡ goes_on old new N n m
  unfolding goes_on exits_met
  goes_on_agree n m =
      ap (λ (t : Bool). same_kind (kind_at old n) C ⇒ t) (every_agree _ _ (callee_count old n) (λ i _. h (exit old (called old n i)) (exit new (called new m i))))
