-- The turns and the returns of the functions that add edges: the premises are what the code holds there.
use mathlib.Core.Path.{◌≡◌, refl, sym, ap, ◌∙◌}
use mathlib.Core.Logic.{◌⊎◌, inl, inr, ⊎_elim}
use mathlib.Core.Bool.{Bool, true, false}
use mathlib.Core.List.{List}
use Prim.Native.Nat.{ℕ, suc, ◌+◌, ◌-◌, ◌%◌, ◌≤◌, ◌<◌}
use native.Mathlib.Omega.{arith}
use borrow.Author.Tests.{eqb-true, eq-eqb, lt-ltb, le-ltb, ltb-true}
use lib.Dec.{eqb, ltb}
use lib.ListN.{length, get_or}
use Rattle.laws.specs.Tests.{◌and◌, ◌or◌}
use Rattle.laws.specs.TestLaws.{and_both, and_left, and_right, both_ways, eqb_self, fails, or_cases, or_left, or_none, or_right, same_test}
use Rattle.laws.specs.Slices.{below_or}
use Rattle.laws.specs.Chain.{Walk, walk_start, walk_step, walk_end}
use Rattle.laws.specs.Bits.{bit_in}
use Rattle.laws.specs.BitSets.{bit_with, with_size, with_bit}
use Rattle.rules.specs.Graph.{C, E, Kind, Program, S, X, called, edge_count, entry, kind_at, kind_number, node_count, same_kind, source_at}
use Rattle.rules.specs.After.{goes_on_from}
use Rattle.rules.specs.ProgramFile.{Listing}
use Rattle.rules.proofs.GraphLaws.{called_below, entry_is, same_kind_true}
use Rattle.graph.specs.Table.{edge_base, head_base, node_base, proc_base}
use Rattle.graph.specs.Reads.{up_to, up_to_le}
use Rattle.versions.specs.Memory.{InMemory, memory}
use Rattle.versions.specs.MemoryLaws.{callees_are, edges_chained, kind_is, sound, well_formed}
use Rattle.versions.specs.Called.{its_entry}
use Rattle.after.specs.State.{Adds, Sized}
use Rattle.after.specs.Claims.{AddsLeaving, GoesOnAt}

-- ---- adding

module _ (p : Program) where
  -- The same by another test; one after another.
  pub adds_same : (T U : ℕ → Bool) (set set' : List ℕ) → ((f : ℕ) → f < edge_count p → U (source_at p f) ≡ T (source_at p f)) → Adds p T set set' → Adds p U set set'
  unfolding Adds
  adds_same T U set set' h x f =
      below_or f (edge_count p)
      (λ l. x f ∙ sym (ap (λ (t : Bool). bit_in set f or (ltb f (edge_count p) and t)) (h f l)))
      (λ l. x f ∙ past (T (source_at p f)) (le-ltb f (edge_count p) l) ∙ sym (past (U (source_at p f)) (le-ltb f (edge_count p) l)))
    where
      past : (t : Bool) → ltb f (edge_count p) ≡ false → (bit_in set f or (ltb f (edge_count p) and t)) ≡ bit_in set f
      past t z = or_none (bit_in set f) (fails _ (λ b. both_ways (and_left _ _ b) z))

  pub adds_then : (T U W : ℕ → Bool) (set set₁ set₂ : List ℕ) → Adds p T set set₁ → Adds p U set₁ set₂ → ((j : ℕ) → W j ≡ (T j or U j)) → Adds p W set set₂
  unfolding Adds ◌or◌ ◌and◌
  adds_then T U W set set₁ set₂ x y h f =
      y f
      ∙ ap (λ (t : Bool). t or (ltb f (edge_count p) and U (source_at p f))) (x f)
      ∙ both (bit_in set f) (ltb f (edge_count p)) (T (source_at p f)) (U (source_at p f))
      ∙ sym (ap (λ (t : Bool). bit_in set f or (ltb f (edge_count p) and t)) (h (source_at p f)))
    where
      both : (a b t u : Bool) → ((a or (b and t)) or (b and u)) ≡ (a or (b and (t or u)))
      both true b t u = refl
      both false true t u = refl
      both false false t u = refl

-- ---- `add_leaving`

-- At the place: the set has the edges of n from it on, and none but these that it had not.
pub record AddedTo (p : Program) (n : ℕ) (set₀ set : List ℕ) (place : ℕ) : Type 0 where
  pub walk : Walk (λ f. bit_in set f ≡ true) (source_at p) n (edge_count p) place
  pub keeps : (f : ℕ) → bit_in set₀ f ≡ true → bit_in set f ≡ true
  pub only : (f : ℕ) → bit_in set f ≡ true → (bit_in set₀ f ≡ true) ⊎ ((f < edge_count p) × (source_at p f ≡ n))

less_one : (e : ℕ) → suc e - 1 ≡ e
less_one e = omega arith

unfoldable pub Adding : List ℕ → ℕ → List ℕ → List ℕ → ℕ → Type 0
Adding links n set₀ set place =
    (t nodes : List ℕ) (s : Listing) → InMemory (memory t nodes links) s → 16 ≤ length set₀ → n < node_count s.program → AddedTo s.program n set₀ set place

module _ (links : List ℕ) (n : ℕ) (set₀ : List ℕ) where
  pub add_start : (place : ℕ) → place ≡ get_or links (head_base n) 0 → Sized set₀ set₀ (Adding links n set₀ set₀ place)
  unfolding Adding
  add_start place e =
      record {
        size = refl;
        claim = λ t nodes s h room i. record { walk = rw e (walk_start (edges_chained (memory t nodes links) s h) n i); keeps = λ f b. b; only = λ f b. inl b };
      }

  pub add_on : (set : List ℕ) (e x : ℕ) (set' : List ℕ) → Sized set₀ set (Adding links n set₀ set (suc e)) → set' ≡ with_bit set e → x ≡ up_to e (get_or links (edge_base e + 4) 0)
      → Sized set₀ set' (Adding links n set₀ set' x)
  unfolding Adding
  add_on set e x set' inv q r =
      record {
        size = ap length q ∙ with_size set e ∙ inv.size;
        claim = λ t nodes s h room i.
            let a = inv.claim t nodes s h room i in
            let k : e < edge_count s.program = omega (arith, a.walk.within) in
            let own : source_at s.program e ≡ n = ap (source_at s.program) (sym (less_one e)) ∙ a.walk.owner (omega arith) in
            let bit : (f : ℕ) → bit_in set' f ≡ (eqb e f or bit_in set f)
            = λ f. ap (λ (l : List ℕ). bit_in l f) q ∙ bit_with set e f (omega (arith, (sound _ s h).few_edges, inv.size)) in
            let on : (f : ℕ) → bit_in set f ≡ true → bit_in set' f ≡ true = λ f b. bit f ∙ or_right _ b in
            record {
              walk = rw (r, ← less_one e)
                  (walk_step (edges_chained (memory t nodes links) s h) {Q = λ f. bit_in set' f ≡ true} a.walk (omega arith) on (rw (less_one e) (bit e ∙ or_left _ (eqb_self e))));
              keeps = λ f b. on f (a.keeps f b);
              only = λ f b.
                  ⊎_elim (λ y. let z : e ≡ f = eqb-true _ _ y in inr (rw (← z) k, ap (source_at s.program) (sym z) ∙ own)) (a.only f) (or_cases _ _ (sym (bit f) ∙ b));
            };
      }

  pub add_end : (set : List ℕ) → Sized set₀ set (Adding links n set₀ set 0) → Sized set₀ set (AddsLeaving links n set₀ set)
  unfolding Adding AddsLeaving Adds
  add_end set inv =
      record {
        size = inv.size;
        claim = λ t nodes s h room i f.
            let a = inv.claim t nodes s h room i in
            same_test _ _
            (λ b. ⊎_elim (or_left _) (λ y. or_right _ (and_both (lt-ltb _ _ y.0) (eq-eqb _ _ y.1))) (a.only f b))
            (λ b. ⊎_elim (a.keeps f) (λ y. walk_end a.walk (omega arith) f (ltb-true _ _ (and_left _ _ y)) (eqb-true _ _ (and_right _ _ y))) (or_cases _ _ b));
      }

pub ruleset leaving = (up_to_le, add_start, add_on, add_end)

-- ---- `goes_on_at`

-- A kind by its number.
pub numbered : (j k : Kind) → kind_number j ≡ kind_number k → j ≡ k
unfolding same_kind
numbered j k e = same_kind_true j k (eq-eqb _ _ e)

module _ (nodes links : List ℕ) (n : ℕ) (call : Bool) (told : call ≡ eqb (get_or nodes (node_base n) 0) 2) where
  pub on_here : call ≡ false → GoesOnAt nodes links n n
  unfolding GoesOnAt goes_on_from
  on_here d t s h i x = (i, λ j. go j (kind_at s.program n) refl)
    where
      go : (j : ℕ) (c : Kind) → kind_at s.program n ≡ c → goes_on_from s.program c n j ≡ eqb j n
      go j E e = refl
      go j S e = refl
      go j C e = absurd (both_ways (told ∙ eq-eqb _ _ (kind_is _ s h n i ∙ ap kind_number e)) d)
      go j X e = absurd (x e)

  pub on_call : (c q r : ℕ) → call ≡ true → c ≡ get_or nodes (node_base n + 3) 0 → q ≡ c % 256 - 1 → r ≡ get_or links (proc_base q + 5) 0 → GoesOnAt nodes links n r
  unfolding GoesOnAt goes_on_from
  on_call c q r d ec eq er t s h i x =
      let p : Program = s.program in
      let kind : kind_at p n ≡ C = numbered _ C (sym (kind_is _ s h n i) ∙ eqb-true _ _ (sym told ∙ d)) in
      let is : r ≡ entry p (called p n 0) = er ∙ its_entry t nodes links s h n 0 c (ec ∙ callees_are _ s h n i) q eq in
      let wf = well_formed _ s h in
      (rw is (entry_is p wf (called p n 0) (called_below p wf n 0)).0, λ j. rw (kind, is) refl)

pub ruleset ons = (on_here, on_call)
