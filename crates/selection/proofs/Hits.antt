-- Loops along the edges of a new node that `joins` and `joins_before` find, and along the partners of an old node: what they add to a value that tells of one new edge x.
use mathlib.Core.Path.{◌≡◌, sym, ap, ap₂, ◌∙◌}
use mathlib.Core.Bool.{Bool, true}
use mathlib.Core.List.{List}
use Prim.Native.Nat.{ℕ, suc, ◌≤◌, ◌<◌}
use native.Mathlib.Omega.{arith}
use lib.Dec.{eqb, ltb}
use borrow.Author.Tests.{eq-eqb, eqb-true}
use Rattle.laws.specs.Tests.{◌and◌, any, listed}
use Rattle.laws.specs.TestLaws.{and_both, and_left, and_right, any_at, any_of_lem, eqb_self, same_test, yes_and}
use Rattle.laws.specs.Chain.{Chained, Left, latest}
use Rattle.laws.specs.Fold.{Adding, Folded, adds_others, fold_adds, fold_end, fold_start, fold_step, passing, passing_at, passing_chain, passing_of}
use Rattle.rules.specs.Graph.{Program, edge_count, source_at}
use Rattle.rules.specs.Closing.{pairs}
use Rattle.rules.specs.ProgramFile.{Listing}
use Rattle.pairset.specs.Store.{last_pair, new_at, old_at, pair_before, pairs_in}
use Rattle.pairset.specs.StoreLaws.{walked}
use Rattle.selection.specs.Compared.{Compared, JoinsBefore, JoinsDown, hit_at, hit_below, hits_any, met_at, pair_there}
use Rattle.selection.proofs.Dangers.{hit_at_lem, less_one}

-- A pair of the table, by what the code holds of it.
pub pair_at : {on ol nn nl w : List ℕ} {c : ℕ} {o p : Listing} → Compared on ol nn nl w c o p → (n m k : ℕ) → k < c → n ≡ old_at w k → m ≡ new_at w k → listed (pairs_in w c) n m ≡ true
pair_at {w = w} {c = c} h n m k l a b = ap₂ (listed (pairs_in w c)) a b ∙ pair_there w c k l

-- A walk at the place of an item: it has the key; and one step further.
pub owner_at : {X : Type 0} {key : ℕ → ℕ} {a c : ℕ} {total : X} {rest : ℕ → X} (f : ℕ) → Left key a c total rest (suc f) → key f ≡ a
owner_at {key = key} f w = ap key (sym (less_one f)) ∙ w.owner (omega arith)

module _ {X : Type 0} {key : ℕ → ℕ} {a n c : ℕ} {tops links : ℕ → ℕ} (g : ℕ → X → X) (others : (k : ℕ) (x : X) → (key k ≡ a → ⊥) → g k x ≡ x) (ch : Chained key n c tops links) (an : a < n) where
  pub step_at : (start now now' : X) (f next : ℕ) → Folded key a c g start now (suc f) → now' ≡ g f now → next ≡ links f → Folded key a c g start now' next
  step_at start now now' f next w e q =
      fold_step g others ch an start now now' (suc f) next w (omega arith) (e ∙ ap (λ (i : ℕ). g i now) (sym (less_one f))) (q ∙ ap links (sym (less_one f)))

pub joins_le : (ol nl w : List ℕ) (e f next : ℕ) (met : Bool) → JoinsBefore ol nl w e f met next → next ≤ f
joins_le ol nl w e f next met j = j.below

module _ {on ol nn nl w : List ℕ} {c : ℕ} {o p : Listing} (h : Compared on ol nn nl w c o p) (e : ℕ) (met : Bool) where
  abbrev old : Program
  old = o.program

  abbrev new : Program
  new = p.program

  -- The new edge x is such an edge of m.
  abbrev hit : ℕ → ℕ → Bool
  hit m x = hit_at old new (pairs_in w c) met e m x

  -- A walk along such edges, at f: the next one.
  pub hit_next : (m f next : ℕ) → e < edge_count old → listed (pairs_in w c) (source_at old e) m ≡ true → passing (hit m) f ≡ 0 → JoinsBefore ol nl w e f met next
      → next ≡ latest (passing (hit m)) (passing (hit m) f) f
  unfolding JoinsDown
  hit_next m f next i l q j = j.joins on nn o p c h i m l (passing_at (hit m) f q) ∙ ap (λ (a : ℕ). latest (passing (hit m)) a f) (sym q)

  module _ {X : Type 0} (add : X → Bool → X) (ad : Adding add) (x : ℕ) where
    -- ---- along the edges of the new node m

    module _ (m : ℕ) where
      abbrev is : ℕ → Bool
      is f = hit m f and eqb f x

      abbrev pub EdgesLeft : X → X → ℕ → Type 0
      EdgesLeft start now place = Folded (passing (hit m)) 0 (edge_count new) (λ f y. add y (is f)) start now place

      others : (f : ℕ) (y : X) → (passing (hit m) f ≡ 0 → ⊥) → add y (is f) ≡ y
      others = adds_others ad is (passing (hit m)) 0 (λ f t. passing_of (hit m) f (and_left _ _ t))

      pub edges_start : (start : X) (place : ℕ) → place ≡ hit_below old new (pairs_in w c) met e m (edge_count new) → EdgesLeft start start place
      edges_start start place q = fold_start _ others (passing_chain (hit m) (edge_count new)) (omega arith) start place q

      pub edges_on : (start now now' : X) (f next : ℕ) → EdgesLeft start now (suc f) → e < edge_count old → listed (pairs_in w c) (source_at old e) m ≡ true
          → now' ≡ add now (eqb f x) → JoinsBefore ol nl w e f met next → EdgesLeft start now' next
      edges_on start now now' f next r i l q j =
          let own = owner_at f r in
          step_at _ others (passing_chain (hit m) (edge_count new)) (omega arith) start now now' f next r (q ∙ ap (add now) (sym (yes_and _ (passing_at (hit m) f own)))) (hit_next m f next i l own j)

      all_edges : any (edge_count new) is ≡ hit m x
      all_edges =
          same_test _ _
          (λ t. let r = any_at is (edge_count new) t in ap (hit m) (sym (eqb-true _ _ (and_right _ _ r.2))) ∙ and_left _ _ r.2)
          (λ t. any_of_lem is (edge_count new) x (hit_at_lem old new (pairs_in w c) met e m x t).0 (and_both t (eqb_self x)))

      pub edges_end : (start now : X) → EdgesLeft start now 0 → now ≡ add start (hit m x)
      edges_end start now r = fold_end _ others (edge_count new) start now 0 r (omega arith) ∙ fold_adds ad is (edge_count new) start ∙ ap (add start) all_edges

    -- ---- along the partners of the node that e leaves

    abbrev by : ℕ → Bool
    by k = eqb (old_at w k) (source_at old e) and hit (new_at w k) x

    abbrev pub PairsLeft : X → X → ℕ → Type 0
    PairsLeft start now place = Folded (old_at w) (source_at old e) c (λ k y. add y (by k)) start now place

    others_by : (k : ℕ) (y : X) → (old_at w k ≡ source_at old e → ⊥) → add y (by k) ≡ y
    others_by = adds_others ad by (old_at w) (source_at old e) (λ k t. eqb-true _ _ (and_left _ _ t))

    pub pairs_start : (start : X) (n place : ℕ) → n ≡ source_at old e → place ≡ last_pair w n → PairsLeft start start place
    pairs_start start n place s q = fold_start _ others_by (walked h.held.store (suc (source_at old e))) (omega arith) start place (q ∙ ap (last_pair w) s)

    pub pairs_on : (start now now' : X) (k m next : ℕ) → PairsLeft start now (suc k) → m ≡ new_at w k → now' ≡ add now (hit m x) → next ≡ pair_before w k → PairsLeft start now' next
    pairs_on start now now' k m next r em q en =
        step_at _ others_by (walked h.held.store (suc (source_at old e))) (omega arith) start now now' k next r
        (q ∙ ap (add now) (ap (λ (v : ℕ). hit v x) em ∙ sym (yes_and _ (eq-eqb _ _ (owner_at k r))))) en

    pub pairs_end : (start now : X) → PairsLeft start now 0 → now ≡ add start (ltb x (edge_count new) and met_at old new (pairs old new) met e x)
    pairs_end start now r = fold_end _ others_by c start now 0 r (omega arith) ∙ fold_adds ad by c start ∙ ap (add start) (hits_any h e met x)
