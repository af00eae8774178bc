-- The turns and the returns of the functions that find owners and note returns: the premises are what the code holds there.
use mathlib.Core.Path.{◌≡◌, refl, sym, ap, ap₂, ◌∙◌, subst}
use mathlib.Core.Bool.{Bool, true, false}
use mathlib.Core.Logic.{◌⊎◌, ⊎_elim}
use mathlib.Core.List.{List}
use Prim.Native.Nat.{ℕ, suc, ◌+◌, ◌-◌, ◌*◌, ◌/◌, ◌%◌, ◌≤◌, ◌<◌}
use native.Mathlib.Numerals.{add-one}
use native.Mathlib.Omega.{arith}
use borrow.Author.Tests.{eqb-true, eq-eqb, lt-ltb, le-ltb}
use lib.Dec.{eqb}
use lib.ListN.{length, get_or, set, length-set}
use lib.Seq.{get_or-set_same, get_or-set_other}
use Rattle.laws.specs.Tests.{◌and◌, ◌or◌, any, choose}
use Rattle.laws.specs.TestLaws.{and_both, and_left, and_right, any_at, both_ways, fails, or_assoc, or_none, or_swap, same_test}
use Rattle.laws.specs.Lists.{choose_yes, choose_no}
use Rattle.laws.specs.Slices.{same_or}
use Rattle.laws.specs.Those.{any_more}
use Rattle.laws.specs.BitSets.{bit_with, with_size, with_bit}
use Rattle.rules.specs.Graph.{C, Program, WellFormed, callee_count, called, entry, exit, kind_at, kind_number, node_count, owner_at, same_kind}
use Rattle.rules.specs.Run.{another}
use Rattle.rules.specs.After.{resumes_at}
use Rattle.rules.specs.ProgramFile.{Listing}
use Rattle.rules.proofs.GraphLaws.{called_below, entry_is, exit_only, exit_owner, same_kind_of, same_kind_true}
use Rattle.graph.specs.Table.{callees_from, node_base, proc_base}
use Rattle.versions.specs.Memory.{InMemory, memory}
use Rattle.versions.specs.MemoryLaws.{callees_are, exit_is, kind_is, sound, well_formed}
use Rattle.versions.specs.Called.{callee_is, callee_there, callees_end, callees_on, fewer_callees, its_entry}
use Rattle.after.specs.State.{IsExit, Owners, Sized, from_call, from_callee, noted, returns_to}
use Rattle.after.specs.Claims.{FindsOwners, IsCall, Notes, NotesAll, NotesCall, NotesCallees, NotesFirst, ResumesAt}
use Rattle.after.proofs.Adding.{numbered}

-- ---- `find_owners`

-- The exits of the procedures from q on have theirs.
unfoldable pub Owning : List ℕ → List ℕ → List ℕ → ℕ → Type 0
Owning links owners₀ owners q =
    (t nodes : List ℕ) (s : Listing) → InMemory (memory t nodes links) s → 512 ≤ length owners₀ → (n : ℕ) → IsExit s.program n → q ≤ owner_at s.program n
    → get_or owners n 0 ≡ owner_at s.program n

module _ (links owners₀ : List ℕ) where
  pub owners_start : Sized owners₀ owners₀ (Owning links owners₀ owners₀ 64)
  unfolding Owning
  owners_start =
      record {
        size = refl;
        claim = λ t nodes s h room n x l. absurd (let z : ⊥ = omega (arith, (sound _ s h).few_procs, (well_formed _ s h).owners n x.below) in z);
      }

  module _ (owners : List ℕ) (above : ℕ) (inv : Sized owners₀ owners (Owning links owners₀ owners above)) where
    pub owners_turn : (n : ℕ) (owners' : List ℕ) → 0 < above → n ≡ get_or links (proc_base (above - 1) + 6) 0 → owners' ≡ set owners n (above - 1)
        → Sized owners₀ owners' (Owning links owners₀ owners' (above - 1))
    unfolding Owning
    owners_turn n owners' pos en d =
        record {
          size = ap length d ∙ length-set owners n (above - 1) ∙ inv.size;
          claim = λ t nodes s h room m x l.
              let p : Program = s.program in
              let q : ℕ = above - 1 in
              let wf = well_formed _ s h in
              let b = wf.owners m x.below in
              let is : n ≡ exit p q = en ∙ exit_is _ s h q (omega arith) in
              ap (λ (o : List ℕ). get_or o m 0) d
              ∙ same_or (owner_at p m) q
              (λ e.
              let k : m ≡ n = exit_only p wf q m (omega arith) x.below e x.kind ∙ sym is in
              ap (λ (i : ℕ). get_or (set owners n q) i 0) k ∙ get_or-set_same owners n q 0 (omega (arith, inv.size, (sound _ s h).few_nodes, x.below)) ∙ sym e)
              (λ e.
              get_or-set_other owners n m q 0 (λ k. e (ap (owner_at p) (k ∙ is) ∙ exit_owner p wf q (omega arith)))
              ∙ inv.claim t nodes s h room m x (omega arith));
        }

    pub owners_end : above ≤ 0 → Sized owners₀ owners (FindsOwners links owners₀ owners)
    unfolding Owning FindsOwners Owners
    owners_end z = record { size = inv.size; claim = λ t nodes s h room n x. inv.claim t nodes s h room n x (omega arith) }

-- ---- noting

module _ (p : Program) where
  -- Nothing; the same by another test; one after another.
  notes_none : (T : ℕ → ℕ → Bool) (returns : List ℕ) → ((q j : ℕ) → T q j ≡ false) → Notes p T returns returns
  unfolding Notes
  notes_none T returns h room q j l m = sym (or_none (noted returns q j) (h q j))

  notes_same : (T U : ℕ → ℕ → Bool) (returns returns' : List ℕ) → ((q j : ℕ) → U q j ≡ T q j) → Notes p T returns returns' → Notes p U returns returns'
  unfolding Notes
  notes_same T U returns returns' h y room q j l m = y room q j l m ∙ sym (ap (λ (t : Bool). noted returns q j or t) (h q j))

  notes_then : (T U W : ℕ → ℕ → Bool) (returns returns₁ returns₂ : List ℕ) → length returns₁ ≡ length returns → Notes p T returns returns₁ → Notes p U returns₁ returns₂
      → ((q j : ℕ) → W q j ≡ (T q j or U q j)) → Notes p W returns returns₂
  unfolding Notes
  notes_then T U W returns returns₁ returns₂ size y z h room q j l m =
      z (omega arith) q j l m
      ∙ ap (λ (t : Bool). t or U q j) (y room q j l m)
      ∙ sym (or_assoc (noted returns q j) (T q j) (U q j))
      ∙ sym (ap (λ (t : Bool). noted returns q j or t) (h q j))

-- A procedure returns to a node of the program.
pub return_below : (p : Program) → WellFormed p → (q j : ℕ) → returns_to p q j ≡ true → j < node_count p
unfolding resumes_at choose
return_below p wf q j b =
    let k = any_at (from_call p q j) (node_count p) b in
    let i = any_at (from_callee p q k.0 j) (callee_count p k.0) (and_right _ _ k.2) in
    let e : j ≡ resumes_at p k.0 i.0 = eqb-true _ _ (and_right _ _ i.2) in
    rw e (chosen_below (another p (k.0, i.0)) (entry_is p wf _ (called_below p wf k.0 (suc i.0))).0 k.1)
  where
    chosen_below : (t : Bool) {a b : ℕ} → a < node_count p → b < node_count p → choose t a b < node_count p
    chosen_below true h l = h
    chosen_below false h l = l

-- ---- `resumes_at`, `note_first`

module _ (links : List ℕ) (k rest : ℕ) where
  pub resumes_call : rest < 1 → ResumesAt links k rest k
  unfolding ResumesAt resumes_at another
  resumes_call d t nodes s h c i e =
      (c.below, sym (choose_no _ k (le-ltb (suc i) (callee_count s.program k) (callees_end t nodes links s h k (suc i) rest e c.below c.kind (omega arith)))))

  pub resumes_next : (q r : ℕ) → 1 ≤ rest → q ≡ rest % 256 - 1 → r ≡ get_or links (proc_base q + 5) 0 → ResumesAt links k rest r
  unfolding ResumesAt resumes_at another
  resumes_next q r d eq er t nodes s h c i e =
      let p : Program = s.program in
      let wf = well_formed _ s h in
      let is : r ≡ entry p (called p k (suc i)) = er ∙ its_entry t nodes links s h k (suc i) rest e q eq in (
        rw is (entry_is p wf (called p k (suc i)) (called_below p wf k (suc i))).0,
        is ∙ sym (choose_yes _ k (lt-ltb (suc i) (callee_count p k) (callee_there t nodes links s h k (suc i) rest e (omega arith)))),
      )

-- Two bits are one exactly if they are in one row and at one place of it.
one_bit : (q j r l : ℕ) → j < 512 → l < 512 → eqb (512 * q + j) (512 * r + l) ≡ (eqb q r and eqb l j)
one_bit q j r l h k =
    same_test _ _
    (λ b. let e : 512 * q + j ≡ 512 * r + l = eqb-true _ _ b in and_both (eq-eqb q r (omega arith)) (eq-eqb l j (omega arith)))
    (λ b. let e : q ≡ r = eqb-true q r (and_left _ _ b) in let d : l ≡ j = eqb-true l j (and_right _ _ b) in eq-eqb (512 * q + j) (512 * r + l) (omega arith))

module _ (links : List ℕ) (k callees : ℕ) (returns : List ℕ) (q j : ℕ) (eq : q ≡ callees % 256 - 1) (at : ResumesAt links k (callees / 256) j) where
  first_far : 64 ≤ q → Sized returns returns (NotesFirst links k callees returns returns)
  unfolding NotesFirst
  first_far far =
      record {
        size = refl;
        claim = λ t nodes s h c i e.
            absurd
            (let z : ⊥ = omega (arith, (sound _ s h).few_procs, callee_is t nodes links s h k i callees e q eq, called_below s.program (well_formed _ s h) k i) in z);
      }

  first_none : 512 ≤ j → Sized returns returns (NotesFirst links k callees returns returns)
  unfolding NotesFirst ResumesAt
  first_none far =
      record {
        size = refl;
        claim = λ t nodes s h c i e.
            absurd (let z : ⊥ = omega (arith, (sound _ s h).few_nodes, (at t nodes s h c i (callees_on t nodes links s h k i callees e)).0) in z);
      }

  pub first_past : (q < 64) × (512 ≤ j) ⊎ (64 ≤ q) → Sized returns returns (NotesFirst links k callees returns returns)
  first_past = ⊎_elim (λ u. first_none u.1) first_far

  pub first_noted : (returns' : List ℕ) → q < 64 → j < 512 → returns' ≡ with_bit returns (512 * q + j) → Sized returns returns' (NotesFirst links k callees returns returns')
  unfolding NotesFirst ResumesAt Notes
  first_noted returns' lq lj d =
      record {
        size = ap length d ∙ with_size returns (512 * q + j);
        claim = λ t nodes s h c i e room r l _ b.
            let on = at t nodes s h c i (callees_on t nodes links s h k i callees e) in
            ap (λ (w : List ℕ). noted w r l) d
            ∙ bit_with returns (512 * q + j) (512 * r + l) (omega arith)
            ∙ or_swap _ _
            ∙ ap (λ (x : Bool). noted returns r l or x)
            (one_bit q j r l lj b ∙ ap₂ (λ (x a : ℕ). eqb x r and eqb l a) (callee_is t nodes links s h k i callees e q eq) on.1);
      }

-- ---- `note_callees`, `note_call`

-- The first callees of the call k were gone through, and a has those left.
pub record NotedTo (p : Program) (k : ℕ) (returns₀ returns : List ℕ) (a : ℕ) : Type 0 where
  pub first : ℕ
  pub within : first ≤ callee_count p k
  pub from : a ≡ callees_from p k first
  pub notes : Notes p (λ q j. any first (from_callee p q k j)) returns₀ returns

unfoldable pub Noting : List ℕ → ℕ → ℕ → List ℕ → List ℕ → ℕ → Type 0
Noting links k callees returns₀ returns a =
    (t nodes : List ℕ) (s : Listing) → InMemory (memory t nodes links) s → IsCall s.program k → callees ≡ callees_from s.program k 0 → NotedTo s.program k returns₀ returns a

module _ (links : List ℕ) (k callees : ℕ) (returns₀ : List ℕ) where
  pub callees_start : Sized returns₀ returns₀ (Noting links k callees returns₀ returns₀ callees)
  unfolding Noting any
  callees_start =
      record {
        size = refl;
        claim = λ t nodes s h c e. record { first = 0; within = omega arith; from = e; notes = notes_none s.program _ returns₀ (λ q j. refl) };
      }

  module _ (returns : List ℕ) (a : ℕ) (inv : Sized returns₀ returns (Noting links k callees returns₀ returns a)) where
    pub callees_turn : (returns' : List ℕ) → 0 < a → Sized returns returns' (NotesFirst links k a returns returns')
        → Sized returns₀ returns' (Noting links k callees returns₀ returns' (a / 256))
    unfolding Noting NotesFirst
    callees_turn returns' pos one =
        record {
          size = one.size ∙ inv.size;
          claim = λ t nodes s h c e.
              let i = inv.claim t nodes s h c e in
              record {
                first = suc i.first;
                within = callee_there t nodes links s h k i.first a i.from pos;
                from = callees_on t nodes links s h k i.first a i.from;
                notes = notes_then s.program _ _ _ returns₀ returns returns' inv.size i.notes (one.claim t nodes s h c i.first i.from)
                    (λ q j. any_more (from_callee s.program q k j) i.first);
              };
        }

    pub callees_done : a ≤ 0 → Sized returns₀ returns (NotesCallees links k callees returns₀ returns)
    unfolding Noting NotesCallees
    callees_done z =
        record {
          size = inv.size;
          claim = λ t nodes s h c e.
              let i = inv.claim t nodes s h c e in
              let all : i.first ≡ callee_count s.program k = omega (arith, i.within, callees_end t nodes links s h k i.first a i.from c.below c.kind z) in
              subst (λ (m : ℕ). Notes s.program (λ q j. any m (from_callee s.program q k j)) returns₀ returns) all i.notes;
        }

module _ (nodes links : List ℕ) (k : ℕ) (returns : List ℕ) (call : Bool) (told : call ≡ eqb (get_or nodes (node_base k) 0) 2) where
  pub call_none : call ≡ false → Sized returns returns (NotesCall nodes links k returns returns)
  unfolding NotesCall ◌and◌
  call_none d =
      record {
        size = refl;
        claim = λ t s h i.
            let no_call : same_kind (kind_at s.program k) C ≡ false = fails _ (λ b. both_ways (told ∙ eq-eqb _ _ (kind_is _ s h k i ∙ ap kind_number (same_kind_true _ _ b))) d) in
            notes_none s.program _ returns (λ q j. ap (λ (b : Bool). b and any (callee_count s.program k) (from_callee s.program q k j)) no_call);
      }

  pub call_callees : (c : ℕ) (returns' : List ℕ) → call ≡ true → c ≡ get_or nodes (node_base k + 3) 0 → Sized returns returns' (NotesCallees links k c returns returns')
      → Sized returns returns' (NotesCall nodes links k returns returns')
  unfolding NotesCall NotesCallees ◌and◌
  call_callees c returns' d ec a =
      record {
        size = a.size;
        claim = λ t s h i.
            let kind : kind_at s.program k ≡ C = numbered _ C (sym (kind_is _ s h k i) ∙ eqb-true _ _ (sym told ∙ d)) in
            notes_same s.program _ _ returns returns'
            (λ q j. ap (λ (b : Bool). b and any (callee_count s.program k) (from_callee s.program q k j)) (same_kind_of kind))
            (a.claim t nodes s h (record { below = i; kind = kind }) (ec ∙ callees_are _ s h k i));
      }

-- ---- `note_all`

-- The nodes before k were gone through.
unfoldable pub NotingAll : List ℕ → List ℕ → ℕ → List ℕ → List ℕ → ℕ → Type 0
NotingAll nodes links count returns₀ returns k =
    (t : List ℕ) (s : Listing) → InMemory (memory t nodes links) s → count ≡ node_count s.program → Notes s.program (λ q j. any k (from_call s.program q j)) returns₀ returns

module _ (nodes links : List ℕ) (count : ℕ) (returns₀ : List ℕ) where
  pub all_start : Sized returns₀ returns₀ (NotingAll nodes links count returns₀ returns₀ 0)
  unfolding NotingAll any
  all_start = record { size = refl; claim = λ t s h e. notes_none s.program _ returns₀ (λ q j. refl) }

  module _ (returns : List ℕ) (k : ℕ) (inv : Sized returns₀ returns (NotingAll nodes links count returns₀ returns k)) where
    pub all_turn : (returns' : List ℕ) → k < count → Sized returns returns' (NotesCall nodes links k returns returns')
        → Sized returns₀ returns' (NotingAll nodes links count returns₀ returns' (k + 1))
    unfolding NotingAll NotesCall
    all_turn returns' l one =
        record {
          size = one.size ∙ inv.size;
          claim = λ t s h e.
              notes_then s.program _ _ _ returns₀ returns returns' inv.size (inv.claim t s h e) (one.claim t s h (omega arith))
              (λ q j. ap (λ (m : ℕ). any m (from_call s.program q j)) (add-one k) ∙ any_more (from_call s.program q j) k);
        }

    pub all_done : k ≤ count → count ≤ k → Sized returns₀ returns (NotesAll nodes links count returns₀ returns)
    unfolding NotingAll NotesAll
    all_done l m =
        record {
          size = inv.size;
          claim = λ t s h e.
              let all : k ≡ node_count s.program = omega arith in
              notes_same s.program (λ q j. any k (from_call s.program q j)) _ returns₀ returns
              (λ q j. ap (λ (m : ℕ). any m (from_call s.program q j)) (sym all))
              (inv.claim t s h e);
        }

pub ruleset noting = (owners_start, owners_turn, owners_end, resumes_call, resumes_next, first_past, first_noted, fewer_callees, callees_start, callees_turn, callees_done, call_none, call_callees, all_start, all_turn, all_done)
