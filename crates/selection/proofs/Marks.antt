-- The turns and the returns of the functions that find marks.
use mathlib.Core.Path.{◌≡◌, refl, sym, ap, ap₂, ◌∙◌}
use mathlib.Core.Bool.{Bool, true, false}
use mathlib.Core.Logic.{◌⊎◌, ⊎_elim}
use Rattle.std.specs.Prelude.{min, ◌++◌}
use mathlib.Core.List.{List}
use Prim.Native.Nat.{ℕ, suc, ◌+◌, ◌-◌, ◌≤◌, ◌<◌}
use native.Mathlib.Numerals.{add-one}
use native.Mathlib.Omega.{arith}
use lib.Dec.{eqb, leb, ltb}
use lib.ListN.{get_or, length, set, take, drop, length-take, replicate, length-set, length-replicate, get_or-replicate, get_or-eq_default}
use lib.Seq.{sets, set_out, length-sets, get_or-set_same, get_or-set_other}
use borrow.Author.Tests.{eqb-true, eq-eqb, ne_eqb, le-leb, lt-leb, lt-ltb, le-ltb, ltb-true}
use Rattle.laws.specs.Tests.{◌and◌, ◌⇒◌, any, choose, every, first, found, has, listed}
use Rattle.laws.specs.Bits.{bit_in}
use Rattle.laws.specs.TestLaws.{and_both, and_ends, and_left, and_right, any_at, both_ways, every_at, fails, implied, yes_and}
use Rattle.laws.specs.Lists.{choose_yes, choose_no}
use Rattle.laws.specs.Counting.{any_agree}
use Rattle.std.proofs.lemmas.List.{replicate-append-replicate}
use Rattle.laws.specs.Slices.{below_or, same_or, sets_append, sets_front, sets_out, get_d_sets_after, get_d_sets_in}
use Rattle.laws.specs.Fold.{Adding}
use Rattle.rules.specs.Graph.{Program, edge_count, source_at}
use Rattle.rules.specs.Closing.{Coverage, after_dangers, carries as carries_of, carries_only, dangers, endangered, holds, joined, mark, meets, pairs, probes}
use Rattle.rules.specs.Sheet.{mark_byte}
use Rattle.rules.specs.ProgramFile.{Listing}
use Rattle.graph.specs.Table.{edge_base}
use Rattle.pairset.specs.Store.{last_pair, new_at, old_at, pair_before, pairs_in}
use Rattle.coverage.specs.Rows.{Row, edge_bit}
use Rattle.versions.specs.Found.{found_at, found_none}
use Rattle.laws.specs.Those.{any_more}
use Rattle.selection.specs.Compared.{Compared, Joins, JoinsBefore, met_joined}
use Rattle.selection.specs.Marks.{AllCarried, AllOpened, AllRaised, Carried, Carries, CarriesTo, Finds, MarksFound, Only, Opened, Opens, OpensTo, RaisedAt, Raises, RaisesAt, SetOpened, carried, carries_only_to, carries_to, lifted, opens_to, raised, sole}
use Rattle.selection.specs.MarkLaws.{carried_lifted, carried_more, carried_none, carried_only, lifted_more, lifted_none, mark_left, mark_open, marks_by}
use Rattle.selection.proofs.Dangers.{source_of}
use Rattle.selection.proofs.Hits.{EdgesLeft, PairsLeft, edges_end, edges_on, edges_start, owner_at, pair_at, pairs_end, pairs_on, pairs_start}

-- ---- `raise`, `mark_one`

pub one_past : (marks : List ℕ) (x : ℕ) → length marks ≤ x → marks ≡ set marks x 49
one_past marks x l = sym (set_out marks x 49 l)

module _ (marks : List ℕ) (x most : ℕ) where
  raise_past : length marks ≤ x → marks ≡ raised marks x most
  unfolding raised choose
  raise_past l = go (leb (get_or marks x 0) most)
    where
      go : (b : Bool) → marks ≡ choose b (set marks x 63) marks
      go true = sym (set_out marks x 63 l)
      go false = refl

  raise_other : most < get_or marks x 0 → marks ≡ raised marks x most
  unfolding raised
  raise_other n = sym (choose_no _ _ (lt-leb _ _ n))

  pub raise_not : (x < length marks) × (most < get_or marks x 0) ⊎ (length marks ≤ x) → marks ≡ raised marks x most
  raise_not = ⊎_elim (λ u. raise_other u.1) raise_past

  pub raise_this : get_or marks x 0 ≤ most → set marks x 63 ≡ raised marks x most
  unfolding raised
  raise_this l = sym (choose_yes _ _ (le-leb _ _ l))

  -- The marks by index.
  raised_at : (y : ℕ) → y < length marks → get_or (raised marks x most) y 0 ≡ lifted most (get_or marks y 0) (eqb x y)
  unfolding raised lifted choose ◌and◌
  raised_at y l =
      same_or x y
      (λ e.
      ap (λ (i : ℕ). get_or (choose (leb (get_or marks i 0) most) (set marks i 63) marks) y 0) e ∙ here (leb (get_or marks y 0) most)
      ∙ sym (ap (λ (s : Bool). choose (s and leb (get_or marks y 0) most) 63 (get_or marks y 0)) (eq-eqb _ _ e)))
      (λ d. other d (leb (get_or marks x 0) most) ∙ sym (ap (λ (s : Bool). choose (s and leb (get_or marks y 0) most) 63 (get_or marks y 0)) (ne_eqb _ _ d)))
    where
      here : (b : Bool) → get_or (choose b (set marks y 63) marks) y 0 ≡ choose b 63 (get_or marks y 0)
      here true = get_or-set_same marks y 63 0 l
      here false = refl

      other : (x ≡ y → ⊥) → (b : Bool) → get_or (choose b (set marks x 63) marks) y 0 ≡ get_or marks y 0
      other d true = get_or-set_other marks x y 63 0 (λ e. d (sym e))
      other d false = refl

  raised_size : length (raised marks x most) ≡ length marks
  unfolding raised choose
  raised_size = go (leb (get_or marks x 0) most)
    where
      go : (b : Bool) → length (choose b (set marks x 63) marks) ≡ length marks
      go true = length-set marks x 63
      go false = refl

-- ---- `raise_at`

pub lifting : (most : ℕ) → Adding (lifted most)
lifting most = record { none = lifted_none most; more = lifted_more most }

-- With the marks, the edges below the place lead to those at the end.
unfoldable pub RaisesFrom : List ℕ → List ℕ → List ℕ → List ℕ → List ℕ → ℕ → ℕ → ℕ → ℕ → List ℕ → List ℕ → ℕ → Type 0
RaisesFrom on ol nn nl w e n m most marks marks' place =
    (o p : Listing) (c : ℕ) (h : Compared on ol nn nl w c o p) → e < edge_count o.program → n ≡ source_at o.program e → listed (pairs_in w c) n m ≡ true → (x : ℕ) → x < length marks
    → EdgesLeft h e true (lifted most) (lifting most) x m (get_or marks x 0) (get_or marks' x 0) place

pub record RaisedFrom (on ol nn nl w : List ℕ) (e n m most : ℕ) (marks marks' : List ℕ) (place : ℕ) : Type 0 where
  pub from : RaisesFrom on ol nn nl w e n m most marks marks' place
  pub size : length marks' ≡ length marks

module _ (on ol nn nl w : List ℕ) (e n m most : ℕ) (marks : List ℕ) where
  pub at_start : (place : ℕ) → Joins on ol nn nl w e n m true place → RaisedFrom on ol nn nl w e n m most marks marks place
  unfolding RaisesFrom Joins
  at_start place j = record { from = λ o p c h i en l x b. edges_start h e true (lifted most) (lifting most) x m _ place (j o p c h i en l); size = refl }

  pub at_end : (marks₁ : List ℕ) → RaisedFrom on ol nn nl w e n m most marks marks₁ 0 → RaisedAt on ol nn nl w e n m most marks marks₁
  unfolding RaisesFrom RaisesAt
  at_end marks₁ inv = record { raises = λ o p c h i en l x b. edges_end h e true (lifted most) (lifting most) x m _ _ (inv.from o p c h i en l x b); size = inv.size }

  pub at_on : (marks₁ : List ℕ) (f next : ℕ) (marks₂ : List ℕ) → RaisedFrom on ol nn nl w e n m most marks marks₁ (suc f) → marks₂ ≡ raised marks₁ f most → JoinsBefore ol nl w e f true next
      → RaisedFrom on ol nn nl w e n m most marks marks₂ next
  unfolding RaisesFrom
  at_on marks₁ f next marks₂ inv er j =
      record {
        from = λ o p c h i en l x b.
            edges_on h e true (lifted most) (lifting most) x m _ _ _ f next (inv.from o p c h i en l x b) i (rw (← en) l)
            (ap (λ (v : List ℕ). get_or v x 0) er ∙ raised_at marks₁ f most x (omega (arith, inv.size))) j;
        size = ap length er ∙ raised_size marks₁ f most ∙ inv.size;
      }

-- ---- `raise_all`

-- With the marks, the pairs below the place lead to those at the end.
unfoldable pub RaisesTo : List ℕ → List ℕ → List ℕ → List ℕ → List ℕ → ℕ → ℕ → ℕ → List ℕ → List ℕ → ℕ → Type 0
RaisesTo on ol nn nl w e most n marks marks' place =
    (o p : Listing) (c : ℕ) (h : Compared on ol nn nl w c o p) → e < edge_count o.program
    → (n ≡ source_at o.program e) × ((x : ℕ) → x < length marks → PairsLeft h e true (lifted most) (lifting most) x (get_or marks x 0) (get_or marks' x 0) place)

pub record RaisedTo (on ol nn nl w : List ℕ) (e most n : ℕ) (marks marks' : List ℕ) (place : ℕ) : Type 0 where
  pub to : RaisesTo on ol nn nl w e most n marks marks' place
  pub size : length marks' ≡ length marks

pub all_start : (on ol nn nl w : List ℕ) (e most n place : ℕ) (marks : List ℕ) → n ≡ get_or ol (edge_base e) 0 → place ≡ last_pair w n → RaisedTo on ol nn nl w e most n marks marks place
unfolding RaisesTo
all_start on ol nn nl w e most n place marks en ep =
    record {
      to = λ o p c h i. let s : n ≡ source_at o.program e = source_of e n h i en in (s, λ x l. pairs_start h e true (lifted most) (lifting most) x _ n place s ep);
      size = refl;
    }

module _ (on ol nn nl w : List ℕ) (e most n : ℕ) (marks marks₁ : List ℕ) where
  pub all_end : RaisedTo on ol nn nl w e most n marks marks₁ 0 → AllRaised on ol nn nl w e most marks marks₁
  unfolding RaisesTo Raises
  all_end inv =
      record {
        raises = λ o p c h i x l.
            pairs_end h e true (lifted most) (lifting most) x _ _ ((inv.to o p c h i).1 x l)
            ∙ ap (λ (t : Bool). lifted most (get_or marks x 0) (ltb x (edge_count p.program) and t)) (met_joined o.program p.program _ e x);
        size = inv.size;
      }

  pub all_on : (k m next : ℕ) (marks₂ : List ℕ) → RaisedTo on ol nn nl w e most n marks marks₁ (suc k) → m ≡ new_at w k → RaisedAt on ol nn nl w e n m most marks₁ marks₂ → next ≡ pair_before w k
      → RaisedTo on ol nn nl w e most n marks marks₂ next
  unfolding RaisesTo RaisesAt
  all_on k m next marks₂ inv em a en =
      record {
        to = λ o p c h i.
            let r = inv.to o p c h i in (
              r.0,
              λ x l.
                  let y = r.1 x l in
                  let own : old_at w k ≡ source_at o.program e = owner_at k y in
                  let there = pair_at h n m k (omega (arith, y.within)) (r.0 ∙ sym own) em in
                  pairs_on h e true (lifted most) (lifting most) x _ _ _ k m next y em (a.raises o p c h i r.0 there x (omega (arith, inv.size))) en,
            );
        size = a.size ∙ inv.size;
      }

pub ruleset raises = (raise_not, raise_this, one_past, at_start, at_end, at_on, all_start, all_end, all_on)

-- ---- `carry`

module _ (old new : Program) (coverage : Coverage) (x e : ℕ) where
  -- An old edge that was not crossed carries nothing.
  uncrossed : holds coverage e ≡ false → (carries_to old new coverage x e ≡ false) × (carries_only_to old new coverage x e ≡ false)
  unfolding carries_of carries_only
  uncrossed z = (fails _ (λ t. both_ways (and_left _ _ (and_right _ _ t)) z), fails _ (λ t. both_ways (and_left _ _ (and_left _ _ (and_right _ _ t))) z))

  -- One that was crossed carries to its counterparts, and only to its only one.
  crossed_to : holds coverage e ≡ true → carries_to old new coverage x e ≡ (ltb x (edge_count new) and joined old new (pairs old new) e x)
  unfolding carries_of
  crossed_to z = ap (λ (t : Bool). ltb x (edge_count new) and t) (yes_and _ z)

  crossed_only : holds coverage e ≡ true → carries_only_to old new coverage x e ≡ (ltb x (edge_count new) and sole (edge_count new) (joined old new (pairs old new) e) x)
  unfolding carries_of carries_only sole
  crossed_only z = ap (λ (t : Bool). ltb x (edge_count new) and (t and every (edge_count new) (λ f. joined old new (pairs old new) e f ⇒ eqb f x))) (yes_and _ z)

module _ (on ol nn nl w rows : List ℕ) (i e : ℕ) (marks : List ℕ) (t : Bool) (et : t ≡ edge_bit rows i e) where
  pub carry_not : t ≡ false → Carried on ol nn nl w rows i e marks marks
  unfolding Carries
  carry_not z =
      record {
        carries = λ o p c coverage h r l x b.
            let u = uncrossed o.program p.program coverage x e (sym (r.edges e l) ∙ sym et ∙ z) in
            sym (ap₂ (carried (get_or marks x 0)) u.0 u.1 ∙ carried_none (get_or marks x 0));
        size = refl;
      }

  module _ (y : t ≡ true) where
    pub carry_several : (marks' : List ℕ) → Only on ol nn nl w e 0 → AllRaised on ol nn nl w e 48 marks marks' → Carried on ol nn nl w rows i e marks marks'
    unfolding Carries Only Raises
    carry_several marks' only a =
        record {
          carries = λ o p c coverage h r l x b.
              let k : holds coverage e ≡ true = sym (r.edges e l) ∙ sym et ∙ y in
              let none : carries_only_to o.program p.program coverage x e ≡ false
              = crossed_only o.program p.program coverage x e k
              ∙ fails _ (λ s. found_none _ _ (sym (only o p c h l)) x (ltb-true _ _ (and_left _ _ s)) (and_right _ _ s)) in
              a.raises o p c h l x b ∙ sym (ap₂ (carried (get_or marks x 0)) (crossed_to o.program p.program coverage x e k) none ∙ carried_lifted (get_or marks x 0) _);
          size = a.size;
        }

    pub carry_one : (f : ℕ) (marks' : List ℕ) → Only on ol nn nl w e (suc f) → marks' ≡ set marks f 49 → Carried on ol nn nl w rows i e marks marks'
    unfolding Carries Only sole
    carry_one f marks' only is =
        record {
          carries = λ o p c coverage h r l x b.
              let k : holds coverage e ≡ true = sym (r.edges e l) ∙ sym et ∙ y in
              let J : ℕ → Bool = joined o.program p.program (pairs o.program p.program) e in
              let q : suc f ≡ found (first (edge_count p.program) (sole (edge_count p.program) J)) = only o p c h l in
              let g = found_at (sole (edge_count p.program) J) (edge_count p.program) (omega arith) in
              let s : f ≡ found (first (edge_count p.program) (sole (edge_count p.program) J)) - 1 = omega arith in
              let inside : f < edge_count p.program = rw s g.0 in
              let this : sole (edge_count p.program) J f ≡ true = rw s g.1 in
              same_or x f
              (λ a.
              ap (λ (m : List ℕ). get_or m x 0) is ∙ ap (λ (u : ℕ). get_or (set marks u 49) x 0) (sym a) ∙ get_or-set_same marks x 49 0 b
              ∙ sym (ap (carried (get_or marks x 0) (carries_to o.program p.program coverage x e))
              (crossed_only o.program p.program coverage x e k ∙ and_both (lt-ltb x _ (omega arith)) (ap (sole (edge_count p.program) J) a ∙ this))
              ∙ carried_only (get_or marks x 0) (carries_to o.program p.program coverage x e)))
              (λ a.
              let none : carries_to o.program p.program coverage x e ≡ false
              = crossed_to o.program p.program coverage x e k
              ∙ fails _ (λ u. a (eqb-true _ _ (implied _ _ (every_at _ (edge_count p.program) (and_right _ _ this) x (ltb-true _ _ (and_left _ _ u))) (and_right _ _ u)))) in
              let none_only : carries_only_to o.program p.program coverage x e ≡ false
              = crossed_only o.program p.program coverage x e k
              ∙ fails _ (λ u. a (eqb-true _ _ (implied _ _ (every_at _ (edge_count p.program) (and_right _ _ this) x (ltb-true _ _ (and_left _ _ u))) (and_left _ _ (and_right _ _ u))))) in
              ap (λ (m : List ℕ). get_or m x 0) is ∙ get_or-set_other marks f x 49 0 a
              ∙ sym (ap₂ (carried (get_or marks x 0)) none none_only ∙ carried_none (get_or marks x 0)));
          size = ap length is ∙ length-set marks f 49;
        }

-- ---- `carry_all`

module _ (on ol nn nl w rows : List ℕ) (i edges : ℕ) (marks : List ℕ) where
  pub over_start : AllCarried on ol nn nl w rows i edges 0 marks marks
  unfolding CarriesTo any
  over_start = record { carries = λ o p c coverage h r q x b. sym (carried_none (get_or marks x 0)); size = refl }

  module _ (e : ℕ) (marks₁ : List ℕ) (inv : AllCarried on ol nn nl w rows i edges e marks marks₁) where
    pub over_on : (marks₂ : List ℕ) → e < edges → Carried on ol nn nl w rows i e marks₁ marks₂ → AllCarried on ol nn nl w rows i edges (e + 1) marks marks₂
    unfolding CarriesTo Carries
    over_on marks₂ l a =
        record {
          carries = λ o p c coverage h r q x b.
              let C : ℕ → Bool = carries_to o.program p.program coverage x in
              let U : ℕ → Bool = carries_only_to o.program p.program coverage x in
              a.carries o p c coverage h r (omega arith) x (omega (arith, inv.size))
              ∙ ap (λ (m : ℕ). carried m (C e) (U e)) (inv.carries o p c coverage h r q x b)
              ∙ carried_more (get_or marks x 0) (any e C) (any e U) (C e) (U e)
              ∙ sym (ap (λ (k : ℕ). carried (get_or marks x 0) (any k C) (any k U)) (add-one e) ∙ ap₂ (carried (get_or marks x 0)) (any_more C e) (any_more U e));
          size = a.size ∙ inv.size;
        }

    pub over_end : e ≤ edges → edges ≤ e → AllCarried on ol nn nl w rows i edges edges marks marks₁
    over_end a b = let q : e ≡ edges = omega arith in rw q at inv

pub ruleset carries = (carry_not, carry_several, carry_one, over_start, over_on, over_end)

-- ---- `open_edge`, `open_all`

module _ (on ol nn nl w rows : List ℕ) (i : ℕ) (after : List ℕ) (e : ℕ) (marks : List ℕ) (t : Bool) (et : t ≡ edge_bit rows i e) where
  pub open_not : t ≡ false → Opened on ol nn nl w rows i after e marks marks
  unfolding Opens carries_of
  open_not z =
      record {
        opens = λ o p c coverage h r a l x b.
            sym (ap (lifted 49 (get_or marks x 0)) (fails _ (λ s. both_ways (and_left _ _ (and_left _ _ (and_right _ _ s))) (sym (r.edges e l) ∙ sym et ∙ z))) ∙ lifted_none 49 (get_or marks x 0));
        size = refl;
      }

  module _ (u : Bool) (eu : u ≡ bit_in after e) where
    pub open_far : u ≡ false → Opened on ol nn nl w rows i after e marks marks
    unfolding Opens
    open_far z =
        record {
          opens = λ o p c coverage h r a l x b.
              sym (ap (lifted 49 (get_or marks x 0)) (fails _ (λ s. both_ways (and_right _ _ (and_right _ _ s)) (sym (a e l) ∙ sym eu ∙ z))) ∙ lifted_none 49 (get_or marks x 0));
          size = refl;
        }

    pub open_near : (marks' : List ℕ) → t ≡ true → u ≡ true → AllRaised on ol nn nl w e 49 marks marks' → Opened on ol nn nl w rows i after e marks marks'
    unfolding Opens Raises carries_of
    open_near marks' y v m =
        record {
          opens = λ o p c coverage h r a l x b.
              let J : Bool = joined o.program p.program (pairs o.program p.program) e x in
              let k : holds coverage e ≡ true = sym (r.edges e l) ∙ sym et ∙ y in
              let f : has (after_dangers o.program p.program) e ≡ true = sym (a e l) ∙ sym eu ∙ v in
              m.raises o p c h l x b
              ∙ ap (λ (s : Bool). lifted 49 (get_or marks x 0) (ltb x (edge_count p.program) and s)) (sym (ap₂ (λ (c d : Bool). (c and J) and d) k f ∙ ap (λ (s : Bool). s and true) (yes_and J refl) ∙ and_ends J));
          size = m.size;
        }

module _ (on ol nn nl w rows : List ℕ) (i : ℕ) (after : List ℕ) (edges : ℕ) (marks : List ℕ) where
  pub opens_start : AllOpened on ol nn nl w rows i after edges 0 marks marks
  unfolding OpensTo any
  opens_start = record { opens = λ o p c coverage h r a q x b. sym (lifted_none 49 (get_or marks x 0)); size = refl }

  module _ (e : ℕ) (marks₁ : List ℕ) (inv : AllOpened on ol nn nl w rows i after edges e marks marks₁) where
    pub opens_on : (marks₂ : List ℕ) → e < edges → Opened on ol nn nl w rows i after e marks₁ marks₂ → AllOpened on ol nn nl w rows i after edges (e + 1) marks marks₂
    unfolding OpensTo Opens
    opens_on marks₂ l m =
        record {
          opens = λ o p c coverage h r a q x b.
              let T : ℕ → Bool = opens_to o.program p.program coverage x in
              m.opens o p c coverage h r a (omega arith) x (omega (arith, inv.size))
              ∙ ap (λ (m : ℕ). lifted 49 m (T e)) (inv.opens o p c coverage h r a q x b)
              ∙ lifted_more 49 (get_or marks x 0) (any e T) (T e)
              ∙ sym (ap (λ (k : ℕ). lifted 49 (get_or marks x 0) (any k T)) (add-one e) ∙ ap (lifted 49 (get_or marks x 0)) (any_more T e));
          size = m.size ∙ inv.size;
        }

    pub opens_end : e ≤ edges → edges ≤ e → AllOpened on ol nn nl w rows i after edges edges marks marks₁
    opens_end a b = let q : e ≡ edges = omega arith in rw q at inv

-- ---- `open_set`

module _ (bits : List ℕ) (marks : List ℕ) where
  pub set_start : SetOpened bits 0 marks marks
  unfolding ◌and◌ choose
  set_start = record { opens = λ x l. sym (ap (λ (t : Bool). choose (t and bit_in bits x) 63 (get_or marks x 0)) (le-ltb x 0 (omega arith))); size = refl }

  module _ (k : ℕ) (marks₁ : List ℕ) (inv : SetOpened bits k marks marks₁) where
    -- Below the edge k nothing changes, and at it the set says what does.
    next : (marks₂ : List ℕ) → length marks₂ ≡ length marks₁ → ((x : ℕ) → (x ≡ k → ⊥) → get_or marks₂ x 0 ≡ get_or marks₁ x 0) → (k < length marks → get_or marks₂ k 0 ≡ choose (bit_in bits k) 63 (get_or marks₁ k 0))
        → SetOpened bits (k + 1) marks marks₂
    unfolding ◌and◌ choose
    next marks₂ size others this =
        record {
          opens = λ x l.
              same_or x k
              (λ e.
              let a : get_or marks₁ k 0 ≡ get_or marks k 0 = inv.opens k (omega arith) ∙ ap (λ (t : Bool). choose (t and bit_in bits k) 63 (get_or marks k 0)) (le-ltb k k (omega arith)) in
              ap (λ (i : ℕ). get_or marks₂ i 0) e ∙ this (omega arith) ∙ ap (choose (bit_in bits k) 63) a
              ∙ sym (ap (λ (i : ℕ). choose (ltb i (k + 1) and bit_in bits i) 63 (get_or marks i 0)) e ∙ ap (λ (t : Bool). choose (t and bit_in bits k) 63 (get_or marks k 0)) (lt-ltb k (k + 1) (omega arith))))
              (λ d.
              others x d ∙ inv.opens x l
              ∙ ap (λ (t : Bool). choose (t and bit_in bits x) 63 (get_or marks x 0))
              (below_or x k (λ b. lt-ltb x k b ∙ sym (lt-ltb x (k + 1) (omega arith))) (λ b. le-ltb x k b ∙ sym (le-ltb x (k + 1) (omega arith)))));
          size = size ∙ inv.size;
        }

    module _ (t : Bool) (et : t ≡ bit_in bits k) where
      pub set_this : t ≡ true → SetOpened bits (k + 1) marks (set marks₁ k 63)
      unfolding choose
      set_this y =
          next (set marks₁ k 63) (length-set marks₁ k 63) (λ x d. get_or-set_other marks₁ k x 63 0 d)
          (λ l. get_or-set_same marks₁ k 63 0 (omega (arith, inv.size)) ∙ sym (ap (λ (b : Bool). choose b 63 (get_or marks₁ k 0)) (sym et ∙ y)))

      pub set_other : t ≡ false → SetOpened bits (k + 1) marks marks₁
      unfolding choose
      set_other y = next marks₁ refl (λ x d. refl) (λ l. sym (ap (λ (b : Bool). choose b 63 (get_or marks₁ k 0)) (sym et ∙ y)))

    -- At the end of the marks or at that of the edges.
    pub set_end : (n : ℕ) → k ≤ min n (length marks) → min n (length marks) ≤ k → SetOpened bits n marks marks₁
    set_end n a b =
        record {
          opens = λ x l.
              inv.opens x l
              ∙ ap (λ (t : Bool). choose (t and bit_in bits x) 63 (get_or marks x 0))
              (below_or x k (λ d. lt-ltb x k d ∙ sym (lt-ltb x n (omega arith))) (λ d. le-ltb x k d ∙ sym (le-ltb x n (omega arith))));
          size = inv.size;
        }

pub ruleset opens = (open_not, open_far, open_near, opens_start, opens_on, opens_end, set_start, set_this, set_other, set_end)

-- ---- `fill`

-- What is put over the first numbers, as far as there are any, is put over those.
pub fill_told : (m x : List ℕ) (n b end : ℕ) → end ≡ min n (length m) → x ≡ replicate (length (take end m)) b → x ++ drop end m ≡ sets m 0 (replicate n b)
fill_told m x n b end e is =
    ap (λ (r : List ℕ). r ++ drop end m) (is ∙ ap (λ (k : ℕ). replicate k b) (let z : length (take end m) ≡ end = omega (arith, length-take end m) in z)) ∙ below_or (length m) n many few
  where
    long : (k : ℕ) → length (replicate {A = ℕ} k b) ≡ k
    long k = length-replicate k b

    few : n ≤ length m → replicate end b ++ drop end m ≡ sets m 0 (replicate n b)
    few l =
        let q : end ≡ n = omega arith in
        rw q (sym (sets_front m (replicate n b) (omega (arith, long n)) ∙ ap (λ (k : ℕ). replicate n b ++ drop k m) (long n)))

    many : length m < n → replicate end b ++ drop end m ≡ sets m 0 (replicate n b)
    many l =
        let q : end ≡ length m = omega arith in
        let r : n ≡ length m + (n - length m) = omega arith in
        let size : length (sets m 0 (replicate (length m) b)) ≡ length m = length-sets m 0 (replicate (length m) b) in
        let front : sets m 0 (replicate (length m) b) ≡ replicate (length m) b ++ drop (length m) m
        = sets_front m (replicate (length m) b) (omega (arith, long (length m))) ∙ ap (λ (k : ℕ). replicate (length m) b ++ drop k m) (long (length m)) in
        rw q
        (sym front
        ∙ sym (sets_out (replicate (n - length m) b) (sets m 0 (replicate (length m) b)) (0 + length (replicate (length m) b)) (omega (arith, long (length m), size)))
        ∙ sets_append m 0 (replicate (length m) b) (replicate (n - length m) b)
        ∙ ap (sets m 0) (replicate-append-replicate (length m) (n - length m) b ∙ sym (ap (λ (k : ℕ). replicate k b) r)))

-- ---- `find_marks`

module _ (marks : List ℕ) (n b : ℕ) where
  filled_in : n ≤ length marks → (x : ℕ) → x < n → get_or (sets marks 0 (replicate n b)) x 0 ≡ b
  filled_in room x l =
      let long = length-replicate {A = ℕ} n b in
      let q : 0 + x ≡ x = omega arith in
      ap (λ (k : ℕ). get_or (sets marks 0 (replicate n b)) k 0) (sym q) ∙ get_d_sets_in (replicate n b) marks 0 x 0 (omega arith) (omega arith) ∙ get_or-replicate n x b 0 l

  filled_past : (x : ℕ) → n ≤ x → get_or (sets marks 0 (replicate n b)) x 0 ≡ get_or marks x 0
  filled_past x l = get_d_sets_after (replicate n b) marks 0 x 0 (omega (arith, length-replicate {A = ℕ} n b))

-- Past the new edges no old edge has a counterpart; past the end of the marks nothing stands.
none_past : (new : Program) (x : ℕ) → edge_count new ≤ x → (g : ℕ → Bool) (k : ℕ) → any k (λ e. ltb x (edge_count new) and g e) ≡ false
none_past new x l g k = fails _ (λ t. let u = any_at (λ e. ltb x (edge_count new) and g e) k t in both_ways (and_left _ _ u.2) (le-ltb x (edge_count new) l))

past_end : (marks marks' : List ℕ) → length marks' ≡ length marks → (x : ℕ) → (x < length marks → get_or marks' x 0 ≡ get_or marks x 0) → get_or marks' x 0 ≡ get_or marks x 0
past_end marks marks' size x h = below_or x (length marks) h (λ s. get_or-eq_default marks' 0 (omega arith) ∙ sym (get_or-eq_default marks 0 s))

-- The mark of a repeated test, where `endangered` is said by its old edges.
open_mark : (old new : Program) (coverage : Coverage) (x : ℕ) → meets (dangers old new) coverage ≡ true
    → choose (has (probes old new) x) 63 (lifted 49 (carried 48 (any (edge_count old) (carries_of old new coverage x)) (any (edge_count old) (carries_only old new coverage x)))
    (any (edge_count old) (λ e. carries_of old new coverage x e and has (after_dangers old new) e))) ≡ mark_byte (mark old new coverage x)
unfolding endangered
open_mark = mark_open

module _ (on ol nn nl w rows : List ℕ) (i olds news : ℕ) (marks marks₁ marks₂ : List ℕ) (e : marks₁ ≡ sets marks 0 (replicate news 48)) (a : AllCarried on ol nn nl w rows i olds olds marks₁ marks₂) where
  carried_size : length marks₂ ≡ length marks
  carried_size = a.size ∙ ap length e ∙ length-sets marks 0 (replicate news 48)

  module _ (o p : Listing) (c : ℕ) (coverage : Coverage) (h : Compared on ol nn nl w c o p) (r : Row (edge_count o.program) rows i coverage) (eo : olds ≡ edge_count o.program)
      (en : news ≡ edge_count p.program) (room : edge_count p.program ≤ length marks) where
    abbrev old : Program
    old = o.program

    abbrev new : Program
    new = p.program

    -- The mark of a new edge after all old edges; what stands behind the marks.
    carried_at : (x : ℕ) → x < edge_count new → get_or marks₂ x 0 ≡ carried 48 (any (edge_count old) (carries_of old new coverage x)) (any (edge_count old) (carries_only old new coverage x))
    unfolding CarriesTo
    carried_at x l =
        let b : ltb x (edge_count new) ≡ true = lt-ltb x (edge_count new) l in
        let long : length marks₁ ≡ length marks = ap length e ∙ length-sets marks 0 (replicate news 48) in
        a.carries o p c coverage h r eo x (omega arith)
        ∙ ap (λ (k : ℕ). carried (get_or marks₁ x 0) (any k (carries_to old new coverage x)) (any k (carries_only_to old new coverage x))) eo
        ∙ ap (λ (m : ℕ). carried m (any (edge_count old) (carries_to old new coverage x)) (any (edge_count old) (carries_only_to old new coverage x)))
        (ap (λ (m : List ℕ). get_or m x 0) e ∙ filled_in marks news 48 (omega arith) x (omega arith))
        ∙ ap₂ (carried 48) (any_agree _ (carries_of old new coverage x) (edge_count old) (λ k _. yes_and _ b)) (any_agree _ (carries_only old new coverage x) (edge_count old) (λ k _. yes_and _ b))

    carried_past : (x : ℕ) → edge_count new ≤ x → x < length marks → get_or marks₂ x 0 ≡ get_or marks x 0
    unfolding CarriesTo
    carried_past x l s =
        let long : length marks₁ ≡ length marks = ap length e ∙ length-sets marks 0 (replicate news 48) in
        a.carries o p c coverage h r eo x (omega arith)
        ∙ ap₂ (carried (get_or marks₁ x 0)) (none_past new x l (carries_of old new coverage x) olds) (none_past new x l (carries_only old new coverage x) olds)
        ∙ carried_none (get_or marks₁ x 0) ∙ ap (λ (m : List ℕ). get_or m x 0) e ∙ filled_past marks news 48 x (omega arith)

  module _ (again : Bool) (probed after : List ℕ) where
    pub marks_left : again ≡ false → MarksFound on ol nn nl w rows i olds news again probed after marks marks₂
    unfolding Finds
    marks_left y =
        record {
          finds = λ o p c coverage h r eo en ea sets room.
              marks_by o.program p.program coverage marks marks₂ room carried_size
              (λ x l. carried_at o p c coverage h r eo en room x l ∙ mark_left o.program p.program coverage x (sym ea ∙ y))
              (λ x l. past_end marks marks₂ carried_size x (carried_past o p c coverage h r eo en room x l));
          size = carried_size;
        }

    pub marks_open : (marks₃ marks₄ : List ℕ) → again ≡ true → AllOpened on ol nn nl w rows i after olds olds marks₂ marks₃ → SetOpened probed news marks₃ marks₄
        → MarksFound on ol nn nl w rows i olds news again probed after marks marks₄
    unfolding Finds OpensTo
    marks_open marks₃ marks₄ y m n =
        let size : length marks₄ ≡ length marks = n.size ∙ m.size ∙ carried_size in
        record {
          finds = λ o p c coverage h r eo en ea sets room.
              let two = sets y in
              let at : (x : ℕ) → x < length marks
              → get_or marks₄ x 0 ≡ choose (ltb x (edge_count p.program) and bit_in probed x) 63 (lifted 49 (get_or marks₂ x 0) (any (edge_count o.program) (opens_to o.program p.program coverage x)))
              = λ x s.
              n.opens x (omega (arith, m.size, carried_size))
              ∙ ap₂ (λ (k v : ℕ). choose (ltb x k and bit_in probed x) 63 v) en
              (m.opens o p c coverage h r two.1 eo x (omega (arith, carried_size)) ∙ ap (λ (k : ℕ). lifted 49 (get_or marks₂ x 0) (any k (opens_to o.program p.program coverage x))) eo) in
              marks_by o.program p.program coverage marks marks₄ room size
              (λ x l.
              let b : ltb x (edge_count p.program) ≡ true = lt-ltb x (edge_count p.program) l in
              at x (omega arith)
              ∙ ap₂ (λ (q : Bool) (v : ℕ). choose q 63 v) (yes_and _ b ∙ two.0 x l)
              (ap₂ (lifted 49) (carried_at o p c coverage h r eo en room x l) (any_agree _ _ (edge_count o.program) (λ k _. yes_and _ b)))
              ∙ open_mark o.program p.program coverage x (sym ea ∙ y))
              (λ x l.
              past_end marks marks₄ size x (λ s.
              at x s
              ∙ choose_no _ _ (fails _ (λ t. both_ways (and_left _ _ t) (le-ltb x (edge_count p.program) l)))
              ∙ ap (lifted 49 (get_or marks₂ x 0)) (none_past p.program x l (λ e. carries_of o.program p.program coverage x e and has (after_dangers o.program p.program) e) (edge_count o.program))
              ∙ lifted_none 49 (get_or marks₂ x 0) ∙ carried_past o p c coverage h r eo en room x l s));
          size = size;
        }

pub ruleset marks = (fill_told, marks_left, marks_open)
