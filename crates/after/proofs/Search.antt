-- The turns and the returns of the functions of the worklist: the premises are what the code holds there.
use mathlib.Core.Path.{◌≡◌, refl, sym, ap, ap₂, ◌∙◌, subst}
use mathlib.Core.Logic.{⊎_elim}
use mathlib.Core.Bool.{Bool, true, false}
use mathlib.Core.Option.{none, some}
use mathlib.Core.List.{List}
use Prim.Native.Nat.{ℕ, ◌+◌, ◌*◌, ◌/◌, ◌%◌, ◌≤◌, ◌<◌}
use native.Mathlib.Omega.{arith}
use borrow.Author.Tests.{eqb-true, eq-eqb, lt-ltb, ltb-true, ne_eqb}
use lib.Dec.{eqb, ltb}
use lib.ListN.{length, get_or, drop, replicate, length-replicate, length-take}
use Rattle.laws.specs.Tests.{◌and◌, ◌or◌, count, has, isnt}
use Rattle.laws.specs.TestLaws.{and_both, and_ends, and_left, and_right, both_ways, fails, first_at, first_none, or_cases, or_left, or_none, or_right, passes?, same_test, true_isnt}
use Rattle.laws.specs.Counting.{count_same}
use Rattle.laws.specs.Slices.{below_or, get_d_part, same_or}
use Rattle.laws.specs.Reach.{reached_below, reached_first, reached_only, reached_onward}
use Rattle.laws.specs.Bits.{bit_at, bit_in}
use Rattle.laws.specs.BitSets.{bit_before, bit_cleared, bit_kept, clear_bits, full_bits, past_bit, without_size, without_bit}
use Rattle.rules.specs.Graph.{Kind, Program, WellFormed, X, edge_count, kind_at, kind_number, node_count, owner_at, proc_count, source_at, target_at}
use Rattle.rules.specs.After.{edges_after, goes_on_from, leads}
use Rattle.rules.specs.ProgramFile.{Listing}
use Rattle.graph.specs.Table.{edge_base, node_base}
use Rattle.coverage.specs.Rows.{first_common}
use Rattle.versions.specs.Memory.{InMemory, Memory, memory}
use Rattle.versions.specs.MemoryLaws.{kind_is, sound, target_is, well_formed}
use Rattle.after.specs.State.{Adds, BothSized, Gone, Has, Owners, Reaches, Sized, State, Worked, noted, on_from, returns_to}
use Rattle.after.specs.Claims.{AddsLeaving, Ends, FindsOwners, GoesOn, GoesOnAt, Leave, Leaves, Notes, NotesAll, Runs, Spares, Spread, Spreads, Taken, Visit, Visits, return_row}
use Rattle.after.proofs.Adding.{adds_same, adds_then, numbered}
use Rattle.after.proofs.Returns.{return_below}

-- An edge leaves one of 512 nodes.
few_sources : (m : Memory) (s : Listing) → InMemory m s → (f : ℕ) → f < edge_count s.program → source_at s.program f < 512
few_sources m s h f l = omega (arith, (sound m s h).few_nodes, (well_formed m s h).sources f l)

-- ---- the next one of a set, and that there are fewer then

-- What a search for a bit that two sets have found: one of both; or that there is none.
common_at : (a b : List ℕ) (i : ℕ) → some i ≡ first_common a b → (i < 1024) × (bit_in a i ≡ true) × (bit_in b i ≡ true)
unfolding first_common
common_at a b i told = let r = first_at (λ j. bit_in a j and bit_in b j) 1024 i (sym told) in (r.0, and_left _ _ r.1, and_right _ _ r.1)

none_common : (a b : List ℕ) → none ≡ first_common a b → (i : ℕ) → i < 1024 → bit_in b i ≡ true → bit_in a i ≡ false
unfolding first_common
none_common a b e i l y = fails _ (λ x. first_none (λ j. bit_in a j and bit_in b j) 1024 (sym e) i l (and_both x y))

-- Fewer pass, where one no longer does and none does that did not.
fewer : (f g : ℕ → Bool) (n i : ℕ) → ((j : ℕ) → f j ≡ true → g j ≡ true) → i < n → g i ≡ true → f i ≡ false → count n f < count n g
fewer f g n i within l was gone = below_or (count n f) (count n g) (λ m. m) (λ m. absurd (both_ways (count_same f g n (λ j _ b. within j b) m i l was) gone))

-- ---- the state

module _ (p : Program) (first : ℕ → Bool) where
  -- Edges after the first are added.
  state_adds : (T : ℕ → Bool) (left returns set set' : List ℕ) → State p first left returns set → length set' ≡ length set → Adds p T set set' → Reaches p first T → State p first left returns set'
  unfolding Adds Reaches
  state_adds T left returns set set' st z x r =
      record {
        room = omega (arith, st.room);
        begun = λ e l b. keep e (st.begun e l b);
        only = λ e l b. ⊎_elim (st.only e l) (λ y. r e (ltb-true _ _ (and_left _ _ y)) (and_right _ _ y)) (or_cases _ _ (sym (x e) ∙ b));
        edges = λ e f l u m b. keep f (st.edges e f l u m b);
        gone_by = λ q f y l b u. keep f (st.gone_by q f y l b u);
        notes = st.notes;
      }
    where
      keep : (f : ℕ) → bit_in set f ≡ true → bit_in set' f ≡ true
      keep f b = x f ∙ or_left _ b

  -- All that follows the node n is added.
  gone_adds : (n : ℕ) (left returns set set' : List ℕ) → State p first left returns set → length set' ≡ length set → Adds p (on_from p n) set set' → Reaches p first (on_from p n)
      → Gone p first n left returns set'
  unfolding Adds Has
  gone_adds n left returns set set' st z x r =
      record { state = state_adds (on_from p n) left returns set set' st z x r; follows = λ f l b. x f ∙ or_right _ (and_both (lt-ltb _ _ l) b) }

  -- The edges of the nodes noted at the procedure of the exit n are added.
  gone_exit : (n : ℕ) (left returns set returns' set' : List ℕ) → State p first left returns set → length set' ≡ length set → ((f : ℕ) → f < edge_count p → source_at p f < 512)
      → kind_at p n ≡ X → owner_at p n < proc_count p → Leave p (owner_at p n) returns set returns' set' → Reaches p first (on_from p n) → Gone p first n left returns' set'
  unfolding Adds Has Reaches goes_on_from isnt ◌and◌
  gone_exit n left returns set returns' set' st z few x own w r =
      record {
        state = record {
          room = added.room;
          begun = added.begun;
          only = added.only;
          edges = added.edges;
          gone_by = λ q f y l b u.
              same_or q o
              (λ e. all f l (subst (λ (i : ℕ). returns_to p i (source_at p f) ≡ true) e b))
              (λ e. added.gone_by q f y l b (sym (kept q (source_at p f) e (few f l)) ∙ u));
          notes = λ q j y l b. st.notes q j y l (and_right (isnt (eqb q o)) (noted returns q j) (sym (w.rest q j l) ∙ b));
        };
        follows = λ f l b. all f l (sym (same f) ∙ b);
      }
    where
      o : ℕ
      o = owner_at p n

      same : (f : ℕ) → on_from p n (source_at p f) ≡ returns_to p o (source_at p f)
      same f = ap (λ (c : Kind). goes_on_from p c n (source_at p f)) x

      added : State p first left returns set'
      added = state_adds (noted returns o) left returns set set' st z w.adds (λ f l b. r f l (same f ∙ (st.notes o (source_at p f) own (few f l) b).1))

      all : (f : ℕ) → f < edge_count p → returns_to p o (source_at p f) ≡ true → bit_in set' f ≡ true
      all f l b = ⊎_elim (λ u. w.adds f ∙ or_right _ (and_both (lt-ltb _ _ l) u)) (λ u. w.adds f ∙ or_left _ (st.gone_by o f own l b u)) (passes? (noted returns o (source_at p f)))

      kept : (q j : ℕ) → (q ≡ o → ⊥) → j < 512 → noted returns' q j ≡ noted returns q j
      kept q j e l = w.rest q j l ∙ ap (λ (t : Bool). isnt t and noted returns q j) (ne_eqb q o e)

  -- An edge that is left no more.
  edge_cleared : (e : ℕ) (left returns set : List ℕ) → Gone p first (target_at p e) left returns set → State p first (without_bit left e) returns set
  unfolding Has leads
  edge_cleared e left returns set g =
      let st = g.state in
      record {
        room = st.room;
        begun = st.begun;
        only = st.only;
        edges = λ d f l u m b.
            same_or d e
            (λ q. g.follows f m (subst (λ (i : ℕ). leads p i f ≡ true) q b))
            (λ q. st.edges d f l (sym (bit_kept left e d (λ r. q (sym r))) ∙ u) m b);
        gone_by = st.gone_by;
        notes = st.notes;
      }

  -- Where all is left to go on from, and all returns are noted.
  state_start : (left returns set : List ℕ) → left ≡ replicate 16 18446744073709551615 → edge_count p ≤ 1024 → ((f : ℕ) → f < edge_count p → source_at p f < 512) → WellFormed p
      → ((q j : ℕ) → q < proc_count p → j < 512 → noted returns q j ≡ returns_to p q j) → 16 ≤ length set
      → ((e : ℕ) → e < edge_count p → first e ≡ true → bit_in set e ≡ true) → ((e : ℕ) → e < 1024 → bit_in set e ≡ true → (e < edge_count p) × (first e ≡ true))
      → State p first left returns set
  unfolding edges_after
  state_start left returns set q few sources wf all room into back =
      record {
        room = room;
        begun = into;
        only = λ e l b. let r = back e l b in reached_first (edge_count p) (leads p) first e r.0 r.1;
        edges = λ e f l u m b. absurd (both_ways (full_bits left 16 q e (omega arith)) u);
        gone_by = λ q f y l b u. absurd (both_ways (all q (source_at p f) y (sources f l) ∙ b) u);
        notes = λ q j y l b. let on = sym (all q j y l) ∙ b in (return_below p wf q j on, on);
      }

  -- Where no edge of the set is left.
  state_end : (left returns set : List ℕ) → State p first left returns set → first_common left set ≡ none → edge_count p ≤ 1024 → (e : ℕ) → e < edge_count p
      → bit_in set e ≡ has (edges_after p first) e
  unfolding edges_after
  state_end left returns set st ended few e l =
      same_test _ _ (st.only e (omega arith))
      (λ b. (reached_only (edge_count p) (leads p) first (λ i. (i < edge_count p) × (bit_in set i ≡ true)) (λ i m t. (m, st.begun i m t))
      (λ d f y m t. (m, st.edges d f y.0 (none_common left set (sym ended) d (omega (arith, y.0)) y.1) m t)) e b).1)

  state_below : (left returns set : List ℕ) → State p first left returns set → (e : ℕ) → e < 1024 → bit_in set e ≡ true → e < edge_count p
  unfolding edges_after
  state_below left returns set st e l b = reached_below (edge_count p) (leads p) first e (st.only e l b)

-- ---- `next_return`, `take_return`, `leave`

-- What a search of a row against itself says of the row: the lowest node noted at q, or that there is none.
module _ (returns : List ℕ) (q : ℕ) where
  row_noted : (j : ℕ) → j < 512 → bit_in (return_row returns q) j ≡ noted returns q j
  unfolding bit_in
  row_noted j l =
      ap (λ (w : ℕ). bit_at w (j % 64)) (get_d_part returns (8 * q) 8 (j / 64) 0 (omega arith))
      ∙ ap₂ (λ (a b : ℕ). bit_at (get_or returns a 0) b) (let z : 8 * q + j / 64 ≡ (512 * q + j) / 64 = omega arith in z) (let z : j % 64 ≡ (512 * q + j) % 64 = omega arith in z)

  at_node : (j : ℕ) → some j ≡ first_common (return_row returns q) (return_row returns q) → (j < 512) × (noted returns q j ≡ true)
  at_node j told =
      let b = (common_at (return_row returns q) (return_row returns q) j told).1 in
      let l : j < 512 = below_or j 512 (λ l. l) (λ l. absurd (both_ways b (past_bit (return_row returns q) j (omega (arith, length-take 8 (drop (8 * q) returns)))))) in
      (l, sym (row_noted j l) ∙ b)

  no_node : none ≡ first_common (return_row returns q) (return_row returns q) → (j : ℕ) → j < 512 → noted returns q j ≡ false
  no_node told j l =
      fails _
      (λ b.
      let u = row_noted j l ∙ b in
      both_ways u (none_common (return_row returns q) (return_row returns q) told j (omega arith) u))

-- The nodes noted at q at first and now no more were gone on from.
pub record LeavingTo (p : Program) (q : ℕ) (returns₀ set₀ returns set : List ℕ) : Type 0 where
  pub adds : Adds p (λ j. noted returns₀ q j and isnt (noted returns q j)) set₀ set
  pub others : (r j : ℕ) → (r ≡ q → ⊥) → j < 512 → noted returns r j ≡ noted returns₀ r j
  pub less : (j : ℕ) → noted returns q j ≡ true → noted returns₀ q j ≡ true

unfoldable pub Leaving : List ℕ → ℕ → List ℕ → List ℕ → List ℕ → List ℕ → Type 0
Leaving links q returns₀ set₀ returns set =
    (t nodes : List ℕ) (s : Listing) → InMemory (memory t nodes links) s → 16 ≤ length set₀ → q < proc_count s.program
    → ((j : ℕ) → j < 512 → noted returns₀ q j ≡ true → j < node_count s.program) → LeavingTo s.program q returns₀ set₀ returns set

-- How many nodes are noted at q.
unfoldable pub noted_at : ℕ → List ℕ → ℕ
noted_at q returns = count 512 (noted returns q)

module _ (links : List ℕ) (q : ℕ) (returns₀ set₀ : List ℕ) where
  pub leave_past : 64 ≤ q → BothSized returns₀ set₀ returns₀ set₀ (Leaves links returns₀ set₀ q returns₀ set₀)
  unfolding Leaves
  leave_past l =
      record {
        returns_size = refl;
        size = refl;
        claim = λ t nodes s h room i v. absurd (let z : ⊥ = omega (arith, (sound _ s h).few_procs) in z);
      }

  pub leave_start : BothSized returns₀ set₀ returns₀ set₀ (Leaving links q returns₀ set₀ returns₀ set₀)
  unfolding Leaving Adds ◌and◌ isnt
  leave_start =
      record {
        returns_size = refl;
        size = refl;
        claim = λ t nodes s h room i v.
            record {
              adds = λ f. sym (or_none (bit_in set₀ f) (and_none (ltb f (edge_count s.program)) (noted returns₀ q (source_at s.program f))));
              others = λ r j d l. refl;
              less = λ j b. b;
            };
      }
    where
      and_none : (a b : Bool) → (a and b and isnt b) ≡ false
      and_none true true = refl
      and_none true false = refl
      and_none false b = refl

  module _ (returns set : List ℕ) where
    module _ (j : ℕ) (told : some j ≡ first_common (return_row returns q) (return_row returns q)) where
      pub node_below : j < 512
      node_below = (at_node returns q j told).0

      pub leave_less : (returns' set' : List ℕ) → Taken links q j returns set returns' set' → noted_at q returns' < noted_at q returns
      unfolding noted_at
      leave_less returns' set' w =
          let d = w.out in
          let r = at_node returns q j told in
          fewer (noted returns' q) (noted returns q) 512 j (λ i b. bit_before returns (512 * q + j) (512 * q + i) (rw d at b)) r.0 r.1
          (ap (λ (w : List ℕ). noted w q j) d ∙ bit_cleared returns (512 * q + j))

      pub leave_on : (returns' set' : List ℕ) → BothSized returns₀ set₀ returns set (Leaving links q returns₀ set₀ returns set) → Taken links q j returns set returns' set'
          → BothSized returns₀ set₀ returns' set' (Leaving links q returns₀ set₀ returns' set')
      unfolding Leaving AddsLeaving
      leave_on returns' set' inv w =
          let a = w.adds in
          let d = w.out in
          let r = at_node returns q j told in
          record {
            returns_size = ap length d ∙ without_size returns (512 * q + j) ∙ inv.returns_size;
            size = a.size ∙ inv.size;
            claim = λ t nodes s h room i v.
                let g = inv.claim t nodes s h room i v in
                let was = g.less j r.1 in
                record {
                  adds = adds_then s.program _ (λ m. eqb m j) _ set₀ set set' g.adds (a.claim t nodes s h (omega (arith, inv.size)) (v j r.0 was))
                      (λ m.
                      same_or m j
                      (λ e.
                      and_both (ap (noted returns₀ q) e ∙ was) (true_isnt (ap₂ (λ (w : List ℕ) (x : ℕ). noted w q x) d e ∙ bit_cleared returns (512 * q + j)))
                      ∙ sym (or_right _ (eq-eqb m j e)))
                      (λ e.
                      ap (λ (b : Bool). noted returns₀ q m and isnt b) (ap (λ (w : List ℕ). noted w q m) d ∙ bit_kept returns (512 * q + j) (512 * q + m) (λ y. e (omega arith)))
                      ∙ sym (or_none _ (ne_eqb m j e))));
                  others = λ o l e b.
                      ap (λ (w : List ℕ). noted w o l) d
                      ∙ bit_kept returns (512 * q + j) (512 * o + l) (λ y. e (let z : o ≡ q = omega (arith, r.0) in z))
                      ∙ g.others o l e b;
                  less = λ l b. g.less l (bit_before returns (512 * q + j) (512 * q + l) (rw d at b));
                };
          }

    pub leave_end : BothSized returns₀ set₀ returns set (Leaving links q returns₀ set₀ returns set) → none ≡ first_common (return_row returns q) (return_row returns q)
        → BothSized returns₀ set₀ returns set (Leaves links returns₀ set₀ q returns set)
    unfolding Leaving Leaves isnt ◌and◌
    leave_end inv told =
        record {
          returns_size = inv.returns_size;
          size = inv.size;
          claim = λ t nodes s h room i v.
              let g = inv.claim t nodes s h room i v in
              let none_noted = no_node returns q told in
              record {
                adds = adds_same s.program _ (noted returns₀ q) set₀ set
                    (λ f l.
                    sym
                    (ap (λ (b : Bool). noted returns₀ q (source_at s.program f) and isnt b) (none_noted (source_at s.program f) (few_sources _ s h f l))
                    ∙ and_ends (noted returns₀ q (source_at s.program f))))
                    g.adds;
                rest = λ r j l.
                    same_or r q
                    (λ e. ap (λ (x : ℕ). noted returns x j) e ∙ none_noted j l ∙ sym (ap (λ (b : Bool). isnt b and noted returns₀ r j) (eq-eqb r q e)))
                    (λ e. g.others r j e l ∙ sym (ap (λ (b : Bool). isnt b and noted returns₀ r j) (ne_eqb r q e)));
              };
        }

-- ---- `go_on`

module _ (nodes links owners returns set : List ℕ) (n : ℕ) (exit : Bool) (told : exit ≡ eqb (get_or nodes (node_base n) 0) 3) where
  pub on_exit : (q : ℕ) (returns' set' : List ℕ) → exit ≡ true → q ≡ get_or owners n 0 → BothSized returns set returns' set' (Leaves links returns set q returns' set')
      → BothSized returns set returns' set' (GoesOn nodes links owners returns set n returns' set')
  unfolding Leaves GoesOn Owners
  on_exit q returns' set' z eq w =
      record {
        returns_size = w.returns_size;
        size = w.size;
        claim = λ t left s first h own st i r.
            let p : Program = s.program in
            let kind : kind_at p n ≡ X = numbered _ X (sym (kind_is _ s h n i) ∙ eqb-true _ _ (sym told ∙ z)) in
            let is : q ≡ owner_at p n = eq ∙ own n (record { below = i; kind = kind }) in
            let b = (well_formed _ s h).owners n i in
            let l : q < proc_count p = rw is b in
            gone_exit p first n left returns set returns' set' st w.size (few_sources _ s h) kind b
            (subst (λ (o : ℕ). Leave p o returns set returns' set') is (w.claim t nodes s h st.room l (λ j k y. (st.notes q j l k y).0))) r;
      }

  pub on_other : (j : ℕ) (set' : List ℕ) → exit ≡ false → GoesOnAt nodes links n j → Sized set set' (AddsLeaving links j set set')
      → BothSized returns set returns set' (GoesOn nodes links owners returns set n returns set')
  unfolding GoesOn GoesOnAt AddsLeaving
  on_other j set' z at a =
      record {
        returns_size = refl;
        size = a.size;
        claim = λ t left s first h own st i r.
            let y = at t s h i (λ x. both_ways (told ∙ eq-eqb _ _ (kind_is _ s h n i ∙ ap kind_number x)) z) in
            gone_adds s.program first n left returns set set' st a.size (adds_same s.program _ _ set set' (λ f l. y.1 (source_at s.program f)) (a.claim t nodes s h st.room y.0)) r;
      }

-- ---- `visit`

pub visit_done : (nodes links owners left returns set : List ℕ) (e n : ℕ) (left₁ left' returns' set' : List ℕ) → n ≡ get_or links (edge_base e + 3) 0
    → BothSized returns set returns' set' (GoesOn nodes links owners returns set n returns' set') → left₁ ≡ left → left' ≡ without_bit left₁ e
    → Worked left returns set left' returns' set' (Visit nodes links owners left returns set e left' returns' set')
unfolding GoesOn Visits Reaches leads edges_after
visit_done nodes links owners left returns set e n left₁ left' returns' set' en w kept cleared =
    let q : left' ≡ without_bit left e = cleared ∙ ap (λ (l : List ℕ). without_bit l e) kept in
    record {
      left_size = ap length q ∙ without_size left e;
      returns_size = w.returns_size;
      size = w.size;
      less = λ i u. bit_before left e i (rw q at u);
      claim = record {
        dropped = ap (λ (l : List ℕ). bit_in l e) q ∙ bit_cleared left e;
        visits = λ t s first h own st l b.
            let p : Program = s.program in
            let i = state_below p first left returns set st e l b in
            let d : n ≡ target_at p e = en ∙ target_is _ s h e i in
            let g = w.claim t left s first h own st (rw d ((well_formed _ s h).targets e i))
            (λ f m y. reached_onward (edge_count p) (leads p) first e f (st.only e l b) m (subst (λ (j : ℕ). on_from p j (source_at p f) ≡ true) d y)) in
            rw q (edge_cleared p first e left returns' set' (subst (λ (j : ℕ). Gone p first j left returns' set') d g));
      };
    }

-- ---- `run`

-- How many edges are left.
unfoldable pub edges_left : List ℕ → ℕ
edges_left left = count 1024 (bit_in left)

module _ (nodes links owners₀ left₀ returns₀ set₀ : List ℕ) where
  -- The state so far: the procedures of the exits are the same, and the run was one.
  pub record RunTo (owners left returns set : List ℕ) : Type 0 where
    pub same : owners ≡ owners₀
    pub work : Worked left₀ returns₀ set₀ left returns set (Runs nodes links owners₀ left₀ returns₀ set₀ left returns set)

  pub run_start : RunTo owners₀ left₀ returns₀ set₀
  unfolding Runs
  run_start = record { same = refl; work = record { left_size = refl; returns_size = refl; size = refl; less = λ i b. b; claim = λ t s first h own st. st } }

  module _ (owners left returns set : List ℕ) where
    module _ (e : ℕ) (told : some e ≡ first_common left set) (left' returns' set' : List ℕ) (w : Worked left returns set left' returns' set' (Visit nodes links owners left returns set e left' returns' set')) where
      pub run_less : edges_left left' < edges_left left
      unfolding edges_left
      run_less =
          let r = common_at left set e told in
          fewer (bit_in left') (bit_in left) 1024 e w.less r.0 r.1 w.claim.dropped

      pub run_on : (owners' : List ℕ) → owners' ≡ owners → RunTo owners left returns set → RunTo owners' left' returns' set'
      unfolding Runs Visits
      run_on owners' kept inv =
          let r = common_at left set e told in
          record {
            same = kept ∙ inv.same;
            work = record {
              left_size = w.left_size ∙ inv.work.left_size;
              returns_size = w.returns_size ∙ inv.work.returns_size;
              size = w.size ∙ inv.work.size;
              less = λ i b. inv.work.less i (w.less i b);
              claim = λ t s first h own st. w.claim.visits t s first h (rw inv.same own) (inv.work.claim t s first h own st) r.0 r.2;
            };
          }

    pub run_end : RunTo owners left returns set → none ≡ first_common left set → Worked left₀ returns₀ set₀ left returns set (Ends nodes links owners₀ left₀ returns₀ set₀ left returns set)
    run_end inv told =
        record {
          left_size = inv.work.left_size;
          returns_size = inv.work.returns_size;
          size = inv.work.size;
          less = inv.work.less;
          claim = record { none_left = sym told; runs = inv.work.claim };
        }

-- ---- `spread`

pub spread_done : (nodes links : List ℕ) (c : ℕ) (owners₀ owners left returns₀ returns set left' returns' set' : List ℕ) → owners₀ ≡ replicate 512 0
    → Sized owners₀ owners (FindsOwners links owners₀ owners) → returns₀ ≡ replicate 512 0 → Sized returns₀ returns (NotesAll nodes links c returns₀ returns)
    → left ≡ replicate 16 18446744073709551615 → Worked left returns set left' returns' set' (Ends nodes links owners left returns set left' returns' set') → Spread nodes links c set set'
unfolding Spreads Spares Runs FindsOwners NotesAll Notes ◌or◌
spread_done nodes links c owners₀ owners left returns₀ returns set left' returns' set' q₁ owned q₀ noting q w =
    record {
      spreads = λ t s h k room out e l. state_end s.program (bit_in set) left' returns' set' (done t s h k room out) w.claim.none_left (sound _ s h).few_edges e l;
      spare = λ t s h k room out e l m. fails _ (λ b. let z : ⊥ = omega (arith, state_below s.program (bit_in set) left' returns' set' (done t s h k room out) e l b) in z);
      size = w.size;
    }
  where
    long : (l : List ℕ) → l ≡ replicate 512 0 → 512 ≤ length l
    long l e = omega (arith, ap length e ∙ length-replicate {A = ℕ} 512 0)

    done : (t : List ℕ) (s : Listing) → InMemory (memory t nodes links) s → c ≡ node_count s.program → 16 ≤ length set
        → ((e : ℕ) → e < 1024 → edge_count s.program ≤ e → bit_in set e ≡ false) → State s.program (bit_in set) left' returns' set'
    done t s h k room out =
        w.claim.runs t s (bit_in set) h (owned.claim t nodes s h (long owners₀ q₁))
        (state_start s.program (bit_in set) left returns set q (sound _ s h).few_edges (few_sources _ s h) (well_formed _ s h)
        (λ r j y l. noting.claim t s h k (long returns₀ q₀) r j y l ∙ ap (λ (b : Bool). b or returns_to s.program r j) (clear_bits returns₀ 512 q₀ (512 * r + j)))
        room (λ e l b. b)
        (λ e l b. below_or e (edge_count s.program) (λ m. (m, b)) (λ m. absurd (both_ways b (out e l m)))))

pub ruleset searching = (leave_past, leave_start, node_below, leave_less, leave_on, leave_end, on_exit, on_other, visit_done, run_start, run_less, run_on, run_end, spread_done)
