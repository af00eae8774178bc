-- The returns of the functions that take a line: the state and the tables hold what was read with the line more.
use mathlib.Core.Path.{◌≡◌, refl, sym, ap, ap₂, ◌∙◌, subst}
use mathlib.Core.Bool.{Bool, true, false}
use mathlib.Core.Option.{Option, none, some}
use mathlib.Core.List.{List, [], ◌∷◌, ◌++◌}
use Prim.Native.Nat.{ℕ, suc, ◌+◌, ◌*◌, ◌≤◌, ◌<◌}
use native.Mathlib.Omega.{arith}
use lib.Dec.{eqb, leb, ltb}
use lib.ListN.{length, take, drop}
use borrow.Author.Tests.{eq-eqb, le-leb, leb-true, lt-leb, ltb-true, ne_eqb}
use Rattle.laws.specs.Tests.{◌and◌, ◌or◌, first, found, has, isnt, none?}
use Rattle.laws.specs.TestLaws.{and_both, and_ends, and_left, and_not, and_right, fails, false_isnt, first_at, first_none, first_only, true_isnt}
use Rattle.laws.specs.Lists.{snoc_length}
use Rattle.laws.specs.Slices.{same_or}
use Rattle.laws.specs.Bits.{bit_in}
use Rattle.laws.specs.BitSets.{bit_with, with_bit}
use Rattle.rules.specs.Text.{Bytes, accepted, bytes, is_name, is_number, same, split, value}
use Rattle.rules.specs.Graph.{Program, edge_count, node_count}
use Rattle.rules.specs.SuiteFile.{Suite, test_count, test_name}
use Rattle.rules.specs.Sheet.{SheetRead, add_d, add_m, add_r, all_below, going, open_sheet, pairs_before, r_line, sheet_form, take_sheet_line, test_of}
use Rattle.rules.proofs.TextLaws.{same_true}
use Rattle.pairset.specs.Store.{Appended, Appends, pair_base}
use Rattle.suite.specs.Reading.{name_at}
use Rattle.text.specs.Scans.{span}
use Rattle.text.specs.SplitLaws.{first_last, first_more}
use Rattle.sheet_reader.specs.declared.Bounds.{Bounds}
use Rattle.std.specs.Prelude.{Result, Ok, Err}
use Rattle.answer.specs.declared.Fault.TheVariants.{LineMalformed, SheetWrong, TooManyLines}
use Rattle.answer.specs.declared.Refusal.{Refusal}
use Rattle.sheet_reader.specs.declared.Stage.{Stage}
use Rattle.sheet_reader.specs.declared.Stage.TheVariants.{Before, Listing, Ended}
use Rattle.sheet_reader.specs.declared.State.{State}
use Rattle.sheet_reader.specs.Claims.{For}
use Rattle.sheet_reader.specs.Reading.{AddedPair, AddsEdge, AddsPair, AddsTest, After, Bounded, Ends, Holds, Opens, PairsUpTo, Small, UpTo, edge_fits, end_fits, kept, malformed, opened, pair_fits, shut, test_from, too_many, underway, wrong}
use Rattle.sheet_reader.proofs.Forms.{d_is, d_none, end_is, end_none, end_one, end_two, end_whole, m_is, m_none, m_one, m_whole, r_is, r_none}
use Rattle.sheet_reader.proofs.Halts.{go_on, halt, stop}
use Rattle.sheet_reader.proofs.Leaves.{sought}
use Rattle.sheet_reader.proofs.Orders.{and_when, has_snoc, kept_below, kept_is, kept_same, none_is, pairs_up_more, up_more}

-- ---- what the state says of what was read

module _ (w sets : List ℕ) (c : State) (s : SheetRead) (hold : Holds w sets c s) where
  way_is : underway c ≡ going s
  unfolding underway
  way_is = ap₂ (λ (x y : Bool). x and isnt y) hold.opened_is hold.shut_is

  no_edges : eqb c.edges 0 ≡ none? s.claims.D
  no_edges = ap (λ (k : ℕ). eqb k 0) hold.edges_n ∙ none_is s.claims.D

  no_tests : eqb c.tests 0 ≡ none? s.claims.R
  no_tests = ap (λ (k : ℕ). eqb k 0) hold.tests_n ∙ none_is s.claims.R

  -- The tests of the code are those of the definition.
  pair_fits_is : (olds news : ℕ) (x y : Bytes) → olds ≤ 512 → news ≤ 512
      → pair_fits olds news (kept x) (kept y) c
      ≡ (going s and none? s.claims.D and none? s.claims.R and ltb (value x) olds and ltb (value y) news and pairs_before s.claims.M (value x) (value y))
  unfolding pair_fits PairsUpTo
  pair_fits_is olds news x y ho hn =
      ap₂ (λ (p q : Bool). p and q) way_is
      (ap₂ (λ (p q : Bool). p and q) no_edges
      (ap₂ (λ (p q : Bool). p and q) no_tests
      (and_when (ltb (kept x) olds) _ _
      (λ a.
      let xs : kept x ≡ value x = kept_is (value x) olds (omega arith) (ltb-true (kept x) olds a) in
      and_when (ltb (kept y) news) _ _
      (λ b.
      let small : kept y < news = ltb-true (kept y) news b in
      let ys : kept y ≡ value y = kept_is (value y) news (omega arith) small in
      sym (hold.pair_next (kept x) (kept y) (omega arith)) ∙ ap₂ (λ (i j : ℕ). pairs_before s.claims.M i j) xs ys)
      ∙ ap (λ (p : Bool). p and pairs_before s.claims.M (value x) (value y)) (kept_below (value y) news (omega arith)))
      ∙ ap (λ (p : Bool). p and (ltb (value y) news and pairs_before s.claims.M (value x) (value y))) (kept_below (value x) olds (omega arith)))))

  edge_fits_is : (edges : ℕ) (x : Bytes) → edges ≤ 1024
      → edge_fits edges (kept x) c ≡ (going s and none? s.claims.R and ltb (value x) edges and all_below s.claims.D (value x))
  unfolding edge_fits UpTo
  edge_fits_is edges x h =
      ap₂ (λ (p q : Bool). p and q) way_is
      (ap₂ (λ (p q : Bool). p and q) no_tests
      (and_when (ltb (kept x) edges) _ _
      (λ a.
      let xs : kept x ≡ value x = kept_is (value x) edges (omega arith) (ltb-true (kept x) edges a) in
      sym (hold.edge_next (kept x)) ∙ ap (all_below s.claims.D) xs)
      ∙ ap (λ (p : Bool). p and all_below s.claims.D (value x)) (kept_below (value x) edges (omega arith))))

  test_fits_is : (i : ℕ) → (underway c and leb c.test i) ≡ (going s and all_below s.claims.R i)
  unfolding UpTo
  test_fits_is i = ap₂ (λ (p q : Bool). p and q) way_is (sym (hold.test_next i))

  end_fits_is : (x y z : Bytes) → Small c
      → end_fits (kept x) (kept y) (kept z) c
      ≡ (going s and eqb (value x) (length s.claims.M) and eqb (value y) (length s.claims.D) and eqb (value z) (length s.claims.R))
  unfolding end_fits
  end_fits_is x y z h =
      let a = h.few_pairs in
      let b = h.few_edges in
      let d = h.low_edge in
      let e = h.few_tests in
      let f = h.low_test in
      ap₂ (λ (p q : Bool). p and q) way_is
      (ap₂ (λ (p q : Bool). p and q) (kept_same (value x) c.pairs (omega arith) ∙ ap (eqb (value x)) hold.pairs_n)
      (ap₂ (λ (p q : Bool). p and q) (kept_same (value y) c.edges (omega arith) ∙ ap (eqb (value y)) hold.edges_n)
      (kept_same (value z) c.tests (omega arith) ∙ ap (eqb (value z)) hold.tests_n)))

-- ---- `open`

module _ (n : ℕ) (c : State) where
  opened_but : (g : Stage) → (g ≡ Before → ⊥) → opened g ≡ true
  opened_but Before h = absurd (h refl)
  opened_but Listing h = refl
  opened_but Ended h = refl

  pub open_twice : (e : Refusal) → (c.stage ≡ Before → ⊥) → e ≡ wrong n → Opens n c (Err e)
  unfolding Opens take_sheet_line
  open_twice e y q limit old new suite s w sets hold =
      stop e w sets SheetWrong n (accepted (open_sheet s)) (sym hold.opened_is ∙ opened_but c.stage y) (omega arith) q

  -- The state with the first line more.
  abbrev with_head : State
  with_head = record c { stage = Listing }

  pub open_first : c.stage ≡ Before → Opens n c (Ok with_head)
  unfolding Opens take_sheet_line
  open_first e limit old new suite s w sets hold =
      go_on (Ok with_head) w sets 11 n (accepted (open_sheet s)) (sym hold.opened_is ∙ ap opened e)
      (record {
        opened_is = refl;
        shut_is = sym (ap shut e) ∙ hold.shut_is;
        pairs_n = hold.pairs_n;
        edges_n = hold.edges_n;
        tests_n = hold.tests_n;
        pair_next = hold.pair_next;
        edge_next = hold.edge_next;
        test_next = hold.test_next;
        held = hold.held;
      })

  pub open_small : Small c → Small with_head
  open_small h =
      record { few_pairs = h.few_pairs; low_pair = h.low_pair; few_edges = h.few_edges; low_edge = h.low_edge; few_tests = h.few_tests; low_test = h.low_test }

pub ruleset opens = (open_twice, open_first, open_small)

-- ---- `pair_line`

module _ (limit olds news n : ℕ) (s a : Bytes) (c : State) (w : List ℕ) (ea : a ≡ take (span 44 s) s) where
  pub pair_short : (e : Refusal) (w' : List ℕ) → length s ≤ length a → e ≡ malformed n → AddsPair limit olds news n (split 44 s) c w (Err e) w'
  unfolding AddsPair take_sheet_line
  pair_short e w' h q old new suite k sets eo en hold =
      rw (ap (λ (ps : List Bytes). sheet_form (bytes "M" ∷ ps)) (first_last 44 s a ea h) ∙ m_one s) (halt e w' sets LineMalformed n (omega arith) q)

  pub pair_fields : (b : Bytes) (r : Result State Refusal) (w' : List ℕ) → length a < length s → b ≡ drop (length a + 1) s → AddsPair limit olds news n (a ∷ b ∷ []) c w r w' → AddsPair limit olds news n (split 44 s) c w r w'
  unfolding AddsPair
  pair_fields b r w' h eb q old new suite k sets eo en hold =
      rw (ap (λ (ps : List Bytes). sheet_form (bytes "M" ∷ ps)) (first_more 44 s a ea b h eb) ∙ m_whole a b) (q old new suite k sets eo en hold)

-- ---- `add_pair`

-- The state with the pair (a, b) more.
abbrev with_pair : ℕ → ℕ → State → State
with_pair a b c = record c { pairs = c.pairs + 1; pair = 512 * a + b + 1 }

-- What the test says of the pair (i, j).
module _ (olds news i j : ℕ) (c : State) (t : Bool) (et : t ≡ pair_fits olds news i j c) (y : t ≡ true) where
  pair_old : i < olds
  unfolding pair_fits
  pair_old = ltb-true i olds (and_left _ _ (and_right _ _ (and_right _ _ (and_right _ _ (sym et ∙ y)))))

  pair_new : j < news
  unfolding pair_fits
  pair_new = ltb-true j news (and_left _ _ (and_right _ _ (and_right _ _ (and_right _ _ (and_right _ _ (sym et ∙ y))))))

  pair_behind : c.pair ≤ 512 * i + j
  unfolding pair_fits
  pair_behind = leb-true c.pair (512 * i + j) (and_right _ _ (and_right _ _ (and_right _ _ (and_right _ _ (and_right _ _ (sym et ∙ y))))))

  module _ (ho : olds ≤ 512) (hn : news ≤ 512) where
    module _ (limit : ℕ) (room : c.pairs < limit) where
      held_pair : (s : SheetRead) (w sets w' : List ℕ) → pair_base + 3 * limit ≤ length w → Appended w c.pairs i j w' → Holds w sets c s → Holds w' sets (with_pair i j c) (add_m i j s)
      unfolding Appends
      held_pair s w sets w' long ap hold =
          let p = ap.appends hold.held.store (omega (arith, pair_old)) (omega (arith, pair_new)) (omega arith) in
          record {
            opened_is = hold.opened_is;
            shut_is = hold.shut_is;
            pairs_n = omega (arith, hold.pairs_n, snoc_length (0, 0) s.claims.M (i, j));
            edges_n = hold.edges_n;
            tests_n = hold.tests_n;
            pair_next = pairs_up_more s.claims.M c.pair i j hold.pair_next (omega (arith, pair_new)) pair_behind;
            edge_next = hold.edge_next;
            test_next = hold.test_next;
            held = record {
              store = p.0;
              pairs_are = p.1 ∙ ap₂ (λ (l k : List (ℕ × ℕ)). l ++ k) hold.held.pairs_are refl;
              edges_are = hold.held.edges_are;
              tests_are = hold.held.tests_are;
            };
          }

      pair_small : limit ≤ 4096 → Small c → Small (with_pair i j c)
      pair_small most h =
          record {
            few_pairs = omega arith;
            low_pair = omega (arith, pair_old, pair_new);
            few_edges = h.few_edges;
            low_edge = h.low_edge;
            few_tests = h.few_tests;
            low_test = h.low_test;
          }

module _ (limit olds news n : ℕ) (a b : Bytes) (c : State) (w : List ℕ) where
  -- A field is no number.
  pair_none : (e : Refusal) (w' : List ℕ) → (is_number a and is_number b) ≡ false → e ≡ malformed n → AddsPair limit olds news n (a ∷ b ∷ []) c w (Err e) w'
  unfolding AddsPair take_sheet_line
  pair_none e w' y q old new suite s sets eo en hold = rw (m_none a b y) (halt e w' sets LineMalformed n (omega arith) q)

  pub pair_first : (e : Refusal) (w' : List ℕ) → is_number a ≡ false → e ≡ malformed n → AddsPair limit olds news n (a ∷ b ∷ []) c w (Err e) w'
  unfolding ◌and◌
  pair_first e w' y q = pair_none e w' (simp y) q

  module _ (na : is_number a ≡ true) where
    pub pair_second : (e : Refusal) (w' : List ℕ) → is_number b ≡ false → e ≡ malformed n → AddsPair limit olds news n (a ∷ b ∷ []) c w (Err e) w'
    unfolding ◌and◌
    pair_second e w' y q = pair_none e w' (simp (na, y)) q

    module _ (nb : is_number b ≡ true) where
      pub pair_full : (e : Refusal) (w' : List ℕ) → limit ≤ c.pairs → e ≡ too_many n → AddsPair limit olds news n (a ∷ b ∷ []) c w (Err e) w'
      unfolding AddsPair take_sheet_line
      pair_full e w' h q old new suite s sets eo en hold =
          rw (m_is a b na nb) (stop e w' sets TooManyLines n _ (le-leb limit (length s.claims.M) (omega (arith, hold.pairs_n))) (omega arith) q)

      module _ (i : ℕ) (ei : i ≡ kept a) (j : ℕ) (ej : j ≡ kept b) where
        module _ (t : Bool) (ho : olds ≤ 512) (hn : news ≤ 512) (room : c.pairs < limit) (et : t ≡ pair_fits olds news i j c) where
          -- The definition's test, by the code's.
          fits_are : (old new : Program) (s : SheetRead) (sets : List ℕ) → olds ≡ node_count old → news ≡ node_count new → Holds w sets c s
              → (going s and none? s.claims.D and none? s.claims.R and ltb (value a) (node_count old) and ltb (value b) (node_count new) and pairs_before s.claims.M (value a) (value b)) ≡ t
          fits_are old new s sets eo en hold =
              ap₂ (λ (k l : ℕ). going s and none? s.claims.D and none? s.claims.R and ltb (value a) k and ltb (value b) l and pairs_before s.claims.M (value a) (value b)) (sym eo) (sym en)
              ∙ sym (pair_fits_is w sets c s hold olds news a b ho hn)
              ∙ ap₂ (λ (k l : ℕ). pair_fits olds news k l c) (sym ei) (sym ej)
              ∙ sym et

          few_are : (s : SheetRead) (sets : List ℕ) → Holds w sets c s → leb limit (length s.claims.M) ≡ false
          few_are s sets hold = lt-leb limit (length s.claims.M) (omega (arith, hold.pairs_n))

          pub pair_unfit : (e : Refusal) (w' : List ℕ) → t ≡ false → e ≡ wrong n → AddsPair limit olds news n (a ∷ b ∷ []) c w (Err e) w'
          unfolding AddsPair take_sheet_line
          pair_unfit e w' y q old new suite s sets eo en hold =
              rw (m_is a b na nb)
              (go_on (Err e) w' sets 4 n _ (few_are s sets hold)
              (stop e w' sets SheetWrong n _ (true_isnt (fits_are old new s sets eo en hold ∙ y)) (omega arith) q))

          pair_more : (w' : List ℕ) (y : t ≡ true) → pair_base + 3 * limit ≤ length w → Appended w c.pairs i j w' → AddsPair limit olds news n (a ∷ b ∷ []) c w (Ok (with_pair i j c)) w'
          unfolding AddsPair take_sheet_line
          pair_more w' y long ap old new suite s sets eo en hold =
              let is : i ≡ value a = omega (arith, ei, pair_old olds news i j c t et y) in
              let js : j ≡ value b = omega (arith, ej, pair_new olds news i j c t et y) in
              rw (m_is a b na nb)
              (go_on (Ok (with_pair i j c)) w' sets 4 n _ (few_are s sets hold)
              (go_on (Ok (with_pair i j c)) w' sets 11 n _ (false_isnt (fits_are old new s sets eo en hold ∙ y))
              (subst (λ (k : SheetRead). Holds w' sets (with_pair i j c) k) (ap₂ (λ (k l : ℕ). add_m k l s) is js) (held_pair olds news i j c t et y ho hn limit room s w sets w' long ap hold))))

pub pair_added : (bounds : Bounds) (n : ℕ) (a b : Bytes) (c : State) (w : List ℕ) → is_number a ≡ true → is_number b ≡ true → (i : ℕ) → i ≡ kept a → (j : ℕ) → j ≡ kept b → (t : Bool)
    → t ≡ pair_fits bounds.olds bounds.news i j c → t ≡ true → (w' : List ℕ) → Appended w c.pairs i j w' → Small c → Bounded bounds → c.pairs < bounds.limit
    → pair_base + 3 * bounds.limit ≤ length w → AddedPair bounds n (a ∷ b ∷ []) c w (Ok (with_pair i j c)) w'
pair_added bounds n a b c w na nb i ei j ej t et y w' ap h k room long =
    record {
      adds = pair_more bounds.limit bounds.olds bounds.news n a b c w na nb i ei j ej t k.few_olds k.few_news room et w' y long ap;
      small = pair_small bounds.olds bounds.news i j c t et y k.few_olds k.few_news bounds.limit room k.few_pairs h;
    }

pub ruleset pairs = (pair_short, pair_fields, pair_first, pair_second, pair_full, pair_unfit, pair_added)

-- ---- a bit more

-- The bits of the edges and those of the tests, with the edge e more, and with the test i more.
module _ (sets : List ℕ) (long : 20 ≤ length sets) (l : List ℕ) where
  bit_edge : (e : ℕ) → e < 1024 → ((j : ℕ) → j < 1024 → bit_in sets j ≡ has l j) → (j : ℕ) → j < 1024 → bit_in (with_bit sets e) j ≡ has (l ++ (e ∷ [])) j
  bit_edge e h is j k = bit_with sets e j (omega arith) ∙ ap (λ (t : Bool). eqb e j or t) (is j k) ∙ sym (has_snoc l e j)

  bit_edge_kept : (i : ℕ) → i < 200 → ((j : ℕ) → j < 1024 → bit_in sets j ≡ has l j) → (j : ℕ) → j < 1024 → bit_in (with_bit sets (1024 + i)) j ≡ has l j
  unfolding ◌or◌
  bit_edge_kept i h is j k =
      bit_with sets (1024 + i) j (omega arith) ∙ ap (λ (t : Bool). t or bit_in sets j) (ne_eqb (1024 + i) j (λ q. let z : ⊥ = omega arith in z)) ∙ is j k

  bit_test : (i : ℕ) → i < 200 → ((j : ℕ) → j < 200 → bit_in sets (1024 + j) ≡ has l j) → (j : ℕ) → j < 200 → bit_in (with_bit sets (1024 + i)) (1024 + j) ≡ has (l ++ (i ∷ [])) j
  bit_test i h is j k =
      let q : eqb (1024 + i) (1024 + j) ≡ eqb i j =
      same_or i j
      (λ e. eq-eqb (1024 + i) (1024 + j) (omega arith) ∙ sym (eq-eqb i j e))
      (λ e. ne_eqb (1024 + i) (1024 + j) (λ d. e (omega arith)) ∙ sym (ne_eqb i j e)) in
      bit_with sets (1024 + i) (1024 + j) (omega arith) ∙ ap₂ (λ (x y : Bool). x or y) q (is j k) ∙ sym (has_snoc l i j)

  bit_test_kept : (e : ℕ) → e < 1024 → ((j : ℕ) → j < 200 → bit_in sets (1024 + j) ≡ has l j) → (j : ℕ) → j < 200 → bit_in (with_bit sets e) (1024 + j) ≡ has l j
  unfolding ◌or◌
  bit_test_kept e h is j k =
      bit_with sets e (1024 + j) (omega arith) ∙ ap (λ (t : Bool). t or bit_in sets (1024 + j)) (ne_eqb e (1024 + j) (λ q. let z : ⊥ = omega arith in z)) ∙ is j k

-- ---- `add_edge`

module _ (edges n : ℕ) (e : Bytes) (c : State) (sets : List ℕ) where
  pub edge_no : (x : Refusal) (sets' : List ℕ) → is_number e ≡ false → x ≡ malformed n → AddsEdge edges n (e ∷ []) c sets (Err x) sets'
  unfolding AddsEdge take_sheet_line
  edge_no x sets' h q limit old new suite s w eo hold = rw (d_none e h) (halt x w sets' LineMalformed n (omega arith) q)

  module _ (ne : is_number e ≡ true) (i : ℕ) (ei : i ≡ kept e) (t : Bool) (few : edges ≤ 1024) (et : t ≡ edge_fits edges i c) where
    -- The definition's test, by the code's.
    edge_are : (old : Program) (s : SheetRead) (w : List ℕ) → edges ≡ edge_count old → Holds w sets c s
        → (going s and none? s.claims.R and ltb (value e) (edge_count old) and all_below s.claims.D (value e)) ≡ t
    edge_are old s w eo hold =
        ap (λ (k : ℕ). going s and none? s.claims.R and ltb (value e) k and all_below s.claims.D (value e)) (sym eo)
        ∙ sym (edge_fits_is w sets c s hold edges e few)
        ∙ ap (λ (k : ℕ). edge_fits edges k c) (sym ei)
        ∙ sym et

    pub edge_unfit : (x : Refusal) (sets' : List ℕ) → t ≡ false → x ≡ wrong n → AddsEdge edges n (e ∷ []) c sets (Err x) sets'
    unfolding AddsEdge take_sheet_line
    edge_unfit x sets' y q limit old new suite s w eo hold = rw (d_is e ne) (stop x w sets' SheetWrong n _ (true_isnt (edge_are old s w eo hold ∙ y)) (omega arith) q)

    module _ (y : t ≡ true) where
      edge_in : i < edges
      unfolding edge_fits
      edge_in = ltb-true i edges (and_left _ _ (and_right _ _ (and_right _ _ (sym et ∙ y))))

      edge_behind : c.edge ≤ i
      unfolding edge_fits
      edge_behind = leb-true c.edge i (and_right _ _ (and_right _ _ (and_right _ _ (sym et ∙ y))))

      pub edge_count_lem : Small c → c.edges + 1 < 18446744073709551616
      edge_count_lem h = omega (arith, h.few_edges, h.low_edge)

      pub edge_next : i + 1 < 18446744073709551616
      edge_next = omega (arith, edge_in)

      -- The state with the edge more.
      abbrev with_edge : State
      with_edge = record c { edges = c.edges + 1; edge = i + 1 }

      held_edge : (s : SheetRead) (w : List ℕ) → 20 ≤ length sets → Holds w sets c s → Holds w (with_bit sets i) with_edge (add_d i s)
      held_edge s w long hold =
          record {
            opened_is = hold.opened_is;
            shut_is = hold.shut_is;
            pairs_n = hold.pairs_n;
            edges_n = omega (arith, hold.edges_n, snoc_length 0 s.claims.D i);
            tests_n = hold.tests_n;
            pair_next = hold.pair_next;
            edge_next = up_more s.claims.D c.edge i hold.edge_next edge_behind;
            test_next = hold.test_next;
            held = record {
              store = hold.held.store;
              pairs_are = hold.held.pairs_are;
              edges_are = bit_edge sets long s.claims.D i (omega (arith, edge_in)) hold.held.edges_are;
              tests_are = bit_test_kept sets long s.claims.R i (omega (arith, edge_in)) hold.held.tests_are;
            };
          }

      pub edge_more : (sets' : List ℕ) → 20 ≤ length sets → sets' ≡ with_bit sets i → AddsEdge edges n (e ∷ []) c sets (Ok with_edge) sets'
      unfolding AddsEdge take_sheet_line
      edge_more sets' long es limit old new suite s w eo hold =
          let is : i ≡ value e = omega (arith, ei, edge_in) in
          rw (d_is e ne)
          (go_on (Ok with_edge) w sets' 11 n _ (false_isnt (edge_are old s w eo hold ∙ y))
          (subst (λ (k : List ℕ). Holds w k with_edge (add_d (value e) s)) (sym es)
          (subst (λ (k : ℕ). Holds w (with_bit sets i) with_edge (add_d k s)) is (held_edge s w long hold))))

      pub edge_small : Small c → Small with_edge
      edge_small h =
          record {
            few_pairs = h.few_pairs;
            low_pair = h.low_pair;
            few_edges = omega (arith, h.few_edges, edge_behind);
            low_edge = omega (arith, edge_in);
            few_tests = h.few_tests;
            low_test = h.low_test;
          }

pub ruleset edges = (edge_no, edge_unfit, edge_count_lem, edge_next, edge_more, edge_small)

-- ---- `add_test`

found_none : (o : Option ℕ) → 0 ≡ found o → o ≡ none
found_none none e = refl
found_none (some i) e = absurd (let z : ⊥ = omega arith in z)

found_some : (o : Option ℕ) (t : ℕ) → suc t ≡ found o → o ≡ some t
found_some none t e = absurd (let z : ⊥ = omega arith in z)
found_some (some i) t e = let q : i ≡ t = omega arith in ap {B = Option ℕ} some q

module _ (tt : Bytes) (table : List ℕ) (count : ℕ) (name : Bytes) (k : ℕ) where
  -- Where none is found, no test from k on has the name.
  none_from : 0 ≡ test_from tt table k count name → (i : ℕ) → i < count → k ≤ i → same (name_at tt table i) name ≡ true → ⊥
  unfolding test_from
  none_from e i l a y =
      first_none (sought tt table k name) count (found_none (first count (sought tt table k name)) e) i l (and_both (le-leb k i a) y)

  module _ (t : ℕ) (et : suc t ≡ test_from tt table k count name) where
    found_at : (t < count) × (sought tt table k name t ≡ true)
    unfolding test_from
    found_at = first_at (sought tt table k name) count t (found_some (first count (sought tt table k name)) t et)

    found_from : k ≤ t
    found_from = leb-true k t (and_left _ _ found_at.1)

    -- The test that is found is the only one of the name.
    found_only : (olds news edges : ℕ) (old new : Program) (suite : Suite) → For olds news edges tt table count old new suite → test_of suite name ≡ some t
    unfolding test_of
    found_only olds news edges old new suite for =
        let low : t < test_count suite = omega (arith, found_at.0, for.counted) in
        let here : same (test_name suite t) name ≡ true = ap (λ (x : Bytes). same x name) (sym (for.names t low)) ∙ and_right _ _ found_at.1 in
        first_only (λ i. same (test_name suite i) name) (test_count suite) t low here
        (λ j l e. for.differ t j low l (same_true (test_name suite j) name e ∙ sym (same_true (test_name suite t) name here)))

    pub test_bit : count ≤ 200 → 1024 + t < 18446744073709551616
    test_bit few = omega (arith, found_at.0)

    pub test_next : count ≤ 200 → t + 1 < 18446744073709551616
    test_next few = omega (arith, found_at.0)

pub test_no : (tt : Bytes) (table : List ℕ) (count n : ℕ) (name : Bytes) (c : State) (sets : List ℕ) (u : Bool) (e : Refusal) (sets' : List ℕ) → u ≡ is_name name → u ≡ false → e ≡ malformed n
    → AddsTest tt table count n (name ∷ []) c sets (Err e) sets'
unfolding AddsTest take_sheet_line
test_no tt table count n name c sets u e sets' eu y q limit olds news edges old new suite s w for hold = rw (r_none name (sym eu ∙ y)) (halt e w sets' LineMalformed n (omega arith) q)

module _ (tt : Bytes) (table : List ℕ) (count n : ℕ) (name : Bytes) (c : State) (sets : List ℕ) (u : Bool) (eu : u ≡ is_name name) (yu : u ≡ true) where
  test_form : sheet_form (bytes "R" ∷ name ∷ []) ≡ r_line name
  test_form = r_is name (sym eu ∙ yu)

  pub test_unknown : (e : Refusal) (sets' : List ℕ) → 0 ≡ test_from tt table c.test count name → e ≡ wrong n → AddsTest tt table count n (name ∷ []) c sets (Err e) sets'
  unfolding AddsTest take_sheet_line test_of UpTo
  test_unknown e sets' h q limit olds news edges old new suite s w for hold = rw test_form (go (test_of suite name) refl)
    where
      go : (o : Option ℕ) → test_of suite name ≡ o → After (take_sheet_line limit old new suite n s (r_line name)) (Err e) w sets'
      go none z = rw z (halt e w sets' SheetWrong n (omega arith) q)
      go (some i) z =
          let f = first_at (λ i. same (test_name suite i) name) (test_count suite) i z in
          let early : leb c.test i ≡ false =
          fails _
          (λ y. none_from tt table count name c.test h i (omega (arith, f.0, for.counted)) (leb-true c.test i y)
          (ap (λ (x : Bytes). same x name) (for.names i f.0) ∙ f.1)) in
          rw z
          (stop e w sets' SheetWrong n _ (true_isnt (ap (λ (b : Bool). going s and b) (hold.test_next i ∙ early) ∙ and_not (going s))) (omega arith) q)

  module _ (t : ℕ) (et : suc t ≡ test_from tt table c.test count name) (f : Bool) (ef : f ≡ underway c) where
    test_behind : c.test ≤ t
    test_behind = found_from tt table count name c.test t et

    -- The definition's test, by the code's.
    test_are : (s : SheetRead) (w : List ℕ) → Holds w sets c s → (going s and all_below s.claims.R t) ≡ f
    test_are s w hold =
        sym (test_fits_is w sets c s hold t)
        ∙ ap (λ (b : Bool). underway c and b) (le-leb c.test t test_behind)
        ∙ and_ends (underway c)
        ∙ sym ef

    pub test_unfit : (e : Refusal) (sets' : List ℕ) → f ≡ false → e ≡ wrong n → AddsTest tt table count n (name ∷ []) c sets (Err e) sets'
    unfolding AddsTest take_sheet_line
    test_unfit e sets' y q limit olds news edges old new suite s w for hold =
        rw (test_form, found_only tt table count name c.test t et olds news edges old new suite for)
        (stop e w sets' SheetWrong n _ (true_isnt (test_are s w hold ∙ y)) (omega arith) q)

    module _ (few : count ≤ 200) where
      test_in : t < 200
      test_in = omega (arith, (found_at tt table count name c.test t et).0)

      -- The state with the test more.
      abbrev with_test : State
      with_test = record c { tests = c.tests + 1; test = t + 1 }

      held_test : (s : SheetRead) (w : List ℕ) → 20 ≤ length sets → Holds w sets c s → Holds w (with_bit sets (1024 + t)) with_test (add_r t s)
      held_test s w long hold =
          record {
            opened_is = hold.opened_is;
            shut_is = hold.shut_is;
            pairs_n = hold.pairs_n;
            edges_n = hold.edges_n;
            tests_n = omega (arith, hold.tests_n, snoc_length 0 s.claims.R t);
            pair_next = hold.pair_next;
            edge_next = hold.edge_next;
            test_next = up_more s.claims.R c.test t hold.test_next test_behind;
            held = record {
              store = hold.held.store;
              pairs_are = hold.held.pairs_are;
              edges_are = bit_edge_kept sets long s.claims.D t test_in hold.held.edges_are;
              tests_are = bit_test sets long s.claims.R t test_in hold.held.tests_are;
            };
          }

      pub test_more : (sets' : List ℕ) → f ≡ true → 20 ≤ length sets → sets' ≡ with_bit sets (1024 + t) → AddsTest tt table count n (name ∷ []) c sets (Ok with_test) sets'
      unfolding AddsTest take_sheet_line
      test_more sets' y long es limit olds news edges old new suite s w for hold =
          rw (test_form, found_only tt table count name c.test t et olds news edges old new suite for)
          (go_on (Ok with_test) w sets' 11 n _ (false_isnt (test_are s w hold ∙ y))
          (subst (λ (k : List ℕ). Holds w k with_test (add_r t s)) (sym es) (held_test s w long hold)))

      pub test_small : Small c → Small with_test
      test_small h =
          record {
            few_pairs = h.few_pairs;
            low_pair = h.low_pair;
            few_edges = h.few_edges;
            low_edge = h.low_edge;
            few_tests = omega (arith, h.few_tests, test_behind);
            low_test = omega (arith, test_in);
          }

pub test_count_lem : (c : State) → Small c → c.tests + 1 < 18446744073709551616
test_count_lem c h = omega (arith, h.few_tests, h.low_test)

pub ruleset tests = (test_no, test_bit, test_next, test_unknown, test_unfit, test_more, test_small, test_count_lem)

-- ---- `end_line`

module _ (n : ℕ) (s a : Bytes) (c : State) (ea : a ≡ take (span 44 s) s) where
  pub end_first : (e : Refusal) → length s ≤ length a → e ≡ malformed n → Ends n (split 44 s) c (Err e)
  unfolding Ends take_sheet_line
  end_first e h q limit old new suite k w sets hold =
      rw (ap (λ (ps : List Bytes). sheet_form (bytes "end" ∷ ps)) (first_last 44 s a ea h) ∙ end_one s) (halt e w sets LineMalformed n (omega arith) q)

  module _ (m b : Bytes) (h : length a < length s) (em : m ≡ drop (length a + 1) s) (eb : b ≡ take (span 44 m) m) where
    pub end_second : (e : Refusal) → length m ≤ length b → e ≡ malformed n → Ends n (split 44 s) c (Err e)
    unfolding Ends take_sheet_line
    end_second e l q limit old new suite k w sets hold =
        rw (ap (λ (ps : List Bytes). sheet_form (bytes "end" ∷ ps)) (first_more 44 s a ea m h em ∙ ap (λ (ps : List Bytes). a ∷ ps) (first_last 44 m b eb l)) ∙ end_two a m)
        (halt e w sets LineMalformed n (omega arith) q)

    pub end_fields : (d : Bytes) (r : Result State Refusal) → length b < length m → d ≡ drop (length b + 1) m → Ends n (a ∷ b ∷ d ∷ []) c r → Ends n (split 44 s) c r
    unfolding Ends
    end_fields d r l ed q limit old new suite k w sets hold =
        rw (ap (λ (ps : List Bytes). sheet_form (bytes "end" ∷ ps)) (first_more 44 s a ea m h em ∙ ap (λ (ps : List Bytes). a ∷ ps) (first_more 44 m b eb d l ed)) ∙ end_whole a b d)
        (q limit old new suite k w sets hold)

-- ---- `end`

module _ (n : ℕ) (a b d : Bytes) (c : State) where
  -- A field is no number.
  end_no : (e : Refusal) → (is_number a and is_number b and is_number d) ≡ false → e ≡ malformed n → Ends n (a ∷ b ∷ d ∷ []) c (Err e)
  unfolding Ends take_sheet_line
  end_no e y q limit old new suite s w sets hold = rw (end_none a b d y) (halt e w sets LineMalformed n (omega arith) q)

  pub end_pairs : (e : Refusal) → is_number a ≡ false → e ≡ malformed n → Ends n (a ∷ b ∷ d ∷ []) c (Err e)
  unfolding ◌and◌
  end_pairs e y q = end_no e (simp y) q

  module _ (na : is_number a ≡ true) where
    pub end_edges : (e : Refusal) → is_number b ≡ false → e ≡ malformed n → Ends n (a ∷ b ∷ d ∷ []) c (Err e)
    unfolding ◌and◌
    end_edges e y q = end_no e (simp (na, y)) q

    module _ (nb : is_number b ≡ true) where
      pub end_tests : (e : Refusal) → is_number d ≡ false → e ≡ malformed n → Ends n (a ∷ b ∷ d ∷ []) c (Err e)
      unfolding ◌and◌
      end_tests e y q = end_no e (simp (na, nb, y)) q

      module _ (nd : is_number d ≡ true) (i : ℕ) (ei : i ≡ kept a) (j : ℕ) (ej : j ≡ kept b) (k : ℕ) (ek : k ≡ kept d) (t : Bool) (small : Small c) (et : t ≡ end_fits i j k c) where
        -- The definition's test, by the code's.
        end_are : (s : SheetRead) (w sets : List ℕ) → Holds w sets c s
            → (going s and eqb (value a) (length s.claims.M) and eqb (value b) (length s.claims.D) and eqb (value d) (length s.claims.R)) ≡ t
        end_are s w sets hold =
            sym (end_fits_is w sets c s hold a b d small)
            ∙ ap₂ (λ (x y : ℕ). end_fits x y (kept d) c) (sym ei) (sym ej)
            ∙ ap (λ (x : ℕ). end_fits i j x c) (sym ek)
            ∙ sym et

        pub end_unfit : (e : Refusal) → t ≡ false → e ≡ wrong n → Ends n (a ∷ b ∷ d ∷ []) c (Err e)
        unfolding Ends take_sheet_line
        end_unfit e y q limit old new suite s w sets hold = rw (end_is a b d na nb nd) (stop e w sets SheetWrong n _ (true_isnt (end_are s w sets hold ∙ y)) (omega arith) q)

        -- The state with the last line more.
        abbrev with_end : State
        with_end = record c { stage = Ended }

        -- The first line was read.
        begun : t ≡ true → opened c.stage ≡ true
        unfolding end_fits underway
        begun y = and_left _ _ (and_left _ _ (sym et ∙ y))

        pub end_last : t ≡ true → Ends n (a ∷ b ∷ d ∷ []) c (Ok with_end)
        unfolding Ends take_sheet_line
        end_last y limit old new suite s w sets hold =
            rw (end_is a b d na nb nd)
            (go_on (Ok with_end) w sets 11 n _ (false_isnt (end_are s w sets hold ∙ y))
            (record {
              opened_is = sym (begun y) ∙ hold.opened_is;
              shut_is = refl;
              pairs_n = hold.pairs_n;
              edges_n = hold.edges_n;
              tests_n = hold.tests_n;
              pair_next = hold.pair_next;
              edge_next = hold.edge_next;
              test_next = hold.test_next;
              held = hold.held;
            }))

        pub end_small : Small with_end
        end_small =
            record {
              few_pairs = small.few_pairs;
              low_pair = small.low_pair;
              few_edges = small.few_edges;
              low_edge = small.low_edge;
              few_tests = small.few_tests;
              low_test = small.low_test;
            }

pub ruleset ends = (end_first, end_second, end_fields, end_pairs, end_edges, end_tests, end_unfit, end_last, end_small)
