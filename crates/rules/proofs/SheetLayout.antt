-- Sheets likewise: a sheet's text is accepted exactly if it is the writing of claims in their order, and these claims are what is read; and what it is to pass the check.
--
use Rattle.std.specs.Prelude.{◌≡◌, ◌↔◌, ◌⊎◌, Bool}
use Rattle.std.proofs.Math.Path.{refl, sym, ap, ap₂, subst}
use Rattle.std.proofs.Common.{◌∙◌, inl, inr, ⊎_elim, length-append}
use Rattle.std.proofs.Math.Bool.{true, false, true≢false}
use Rattle.std.proofs.lemmas.Bool.{false≢true}
use Rattle.std.proofs.Math.Option.{Option, none, some}
use mathlib.Core.List.{List, [], ◌∷◌, ◌++◌, map, append_assoc, append-nil}
use Prim.Native.Nat.{ℕ, suc, ◌+◌, ◌≤◌, ◌<◌}
use native.Mathlib.Omega.{arith}
use Rattle.std.proofs.Math.ListN.{length}
use borrow.Author.Tests.{eqb-true, ltb-true, leb-false}
use Rattle.laws.specs.Tests.{◌and◌, isnt, has, after, choose, none?}
use Rattle.laws.specs.TestLaws.{none_has, one_has, and_left, and_right, or_cases, isnt_false, both_ways, has_append, first_at, all_pairs_at, listed_append, listed_one, Before, asc_none, asc_append, asc_one, none_failed, none_left}
use Rattle.laws.specs.Lists.{Rising, rise_none, rise_more, rise_append, has_first, has_rest, none_listed}
use Rattle.rules.specs.Text.{Bytes, same, bytes, max_pairs, fields_of, commas, join_by, text_of, is_name, is_number, value, decimal, refused, accepted, unless, empty, read_lines, max_bytes}
use Rattle.rules.specs.Graph.{Program, node_count, edge_count}
use Rattle.rules.specs.SuiteFile.{Suite, test_count, test_name}
use Rattle.rules.specs.Closing.{Coverage}
use Rattle.rules.specs.Sheet.{Sheet, head_text, m_text, d_text, r_text, end_text, sheet_lines, sheet_text, SheetLine, head_line, m_line, d_line, r_line, end_line, no_form, sheet_form, SheetRead, no_sheet, before, pairs_before, all_below, test_of, going, open_sheet, add_m, add_d, add_r, shut_sheet, take_sheet_line, step_sheet, finish_sheet, read_sheet}
use Rattle.rules.specs.Check.{broken, rule1, rule2, rule3, rule4, rule5}
use Rattle.rules.specs.Job.{passed, check_answer}
use Rattle.rules.specs.Layout.{SheetFollows}
use Rattle.rules.specs.Promises.{Passes}
use Rattle.rules.proofs.JobLaws.{Passed, known, check_passed, passed_check}
use Rattle.rules.proofs.Lockstep.{five_rules}
use Rattle.rules.specs.Kept.{Sound}
use Rattle.rules.proofs.ReadBack.{Few, read_back, sheet_short}
use Rattle.rules.specs.Kept.{SoundSuite}
use Rattle.rules.proofs.TextLaws.{same_true, unless_accepted, accepted_same, join_split, lines_ended, decimal_value, text_holds, then_accepted, then_passes, unless_passes, unless_refuses, lines_next}

-- ---- the forms of a sheet's lines

-- What the fields of a line are, by the form that they say.
abbrev pub SheetFormed : List Bytes → SheetLine → Type 0
SheetFormed fs head_line = fs ≡ bytes "sheet" ∷ bytes "1" ∷ []
SheetFormed fs (m_line a b) = (fs ≡ bytes "M" ∷ a ∷ b ∷ []) × (is_number a ≡ true) × (is_number b ≡ true)
SheetFormed fs (d_line a) = (fs ≡ bytes "D" ∷ a ∷ []) × (is_number a ≡ true)
SheetFormed fs (r_line a) = fs ≡ bytes "R" ∷ a ∷ []
SheetFormed fs (end_line a b c) = (fs ≡ bytes "end" ∷ a ∷ b ∷ c ∷ []) × (is_number a ≡ true) × (is_number b ≡ true) × (is_number c ≡ true)
SheetFormed fs no_form = Unit {0}

formed_two : (f a : Bytes) (t u v : Bool) → (same f (bytes "sheet") and same a (bytes "1")) ≡ t → (same f (bytes "D") and is_number a) ≡ u → (same f (bytes "R") and is_name a) ≡ v
    → SheetFormed (f ∷ a ∷ []) (choose t head_line (choose u (d_line a) (choose v (r_line a) no_form)))
unfolding choose
formed_two f a true u v p q r = ap₂ (λ (x y : Bytes). x ∷ y ∷ []) (same_true f (bytes "sheet") (and_left _ _ p)) (same_true a (bytes "1") (and_right _ _ p))
formed_two f a false true v p q r = (ap (λ (x : Bytes). x ∷ a ∷ []) (same_true f (bytes "D") (and_left _ _ q)), and_right _ _ q)
formed_two f a false false true p q r = ap (λ (x : Bytes). x ∷ a ∷ []) (same_true f (bytes "R") (and_left _ _ r))
formed_two f a false false false p q r = tt

formed_three : (f a b : Bytes) (t : Bool) → (same f (bytes "M") and is_number a and is_number b) ≡ t → SheetFormed (f ∷ a ∷ b ∷ []) (choose t (m_line a b) no_form)
unfolding choose
formed_three f a b true p =
    (ap (λ (x : Bytes). x ∷ a ∷ b ∷ []) (same_true f (bytes "M") (and_left _ _ p)), and_left _ _ (and_right _ _ p), and_right _ _ (and_right _ _ p))
formed_three f a b false p = tt

formed_four : (f a b c : Bytes) (t : Bool) → (same f (bytes "end") and is_number a and is_number b and is_number c) ≡ t → SheetFormed (f ∷ a ∷ b ∷ c ∷ []) (choose t (end_line a b c) no_form)
unfolding choose
formed_four f a b c true p = (
  ap (λ (x : Bytes). x ∷ a ∷ b ∷ c ∷ []) (same_true f (bytes "end") (and_left _ _ p)),
  and_left _ _ (and_right _ _ p),
  and_left _ _ (and_right _ _ (and_right _ _ p)),
  and_right _ _ (and_right _ _ (and_right _ _ p)),
)
formed_four f a b c false p = tt

pub sheet_formed : (fs : List Bytes) → SheetFormed fs (sheet_form fs)
unfolding sheet_form
sheet_formed [] = tt
sheet_formed (f ∷ []) = tt
sheet_formed (f ∷ a ∷ []) =
    formed_two f a (same f (bytes "sheet") and same a (bytes "1")) (same f (bytes "D") and is_number a) (same f (bytes "R") and is_name a) refl refl refl
sheet_formed (f ∷ a ∷ b ∷ []) = formed_three f a b (same f (bytes "M") and is_number a and is_number b) refl
sheet_formed (f ∷ a ∷ b ∷ c ∷ []) = formed_four f a b c (same f (bytes "end") and is_number a and is_number b and is_number c) refl
sheet_formed (f ∷ a ∷ b ∷ c ∷ d ∷ ds) = tt

-- ---- what the tests of order say

none_true : {A : Type 0} (l : List A) → none? l ≡ true → l ≡ []
unfolding none?
none_true [] e = refl
none_true (x ∷ l) e = absurd (false≢true e)

before_at : (a b n k : ℕ) → before a b n k ≡ true → Before (n, k) (a, b)
unfolding before
before_at a b n k e = ⊎_elim (λ h. inl (ltb-true _ _ h)) (λ h. inr (eqb-true _ _ (and_left _ _ h), ltb-true _ _ (and_right _ _ h))) (or_cases _ _ e)

below_at : (l : List ℕ) (n : ℕ) → all_below l n ≡ true → (x : ℕ) → has l x ≡ true → x < n
unfolding all_below has
below_at [] n e x h = absurd (false≢true h)
below_at (y ∷ l) n e x h =
    ⊎_elim (λ p. subst (λ (z : ℕ). z < n) (eqb-true y x p) (ltb-true _ _ (and_left _ _ e))) (λ p. below_at l n (and_right _ _ e) x p) (or_cases _ _ h)

map_snoc : {A B : Type 0} (f : A → B) (l : List A) (x : A) → map f (l ++ (x ∷ [])) ≡ map f l ++ (f x ∷ [])
map_snoc f [] x = refl
map_snoc f (y ∷ l) x = ap (λ (r : List _). f y ∷ r) (map_snoc f l x)

-- A rising list of numbers below n is no longer than n.
rise_few : {l : List ℕ} → Rising l → (k n : ℕ) → k ≤ n → ((x : ℕ) → has l x ≡ true → k ≤ x) → ((x : ℕ) → has l x ≡ true → x < n) → k + length l ≤ n
rise_few rise_none k n h low high = omega arith
rise_few (rise_more {x = x} {l = l} up r) k n h low high =
    let a : k ≤ x = low x (has_first x l) in
    let b : x < n = high x (has_first x l) in
    omega (arith, rise_few r (suc x) n b (λ y t. up y t) (λ y t. high y (has_rest x l y t)))

-- ---- an accepted sheet is the writing of what was read

module _ (limit : ℕ) (old new : Program) (suite : Suite) where
  -- What an accepted line says.
  abbrev SheetTaken : SheetRead → SheetLine → SheetRead → Type 0
  SheetTaken s head_line t = (s.opened ≡ false) × (t ≡ open_sheet s)
  SheetTaken s (m_line a b) t =
      (length s.claims.M < limit) × (going s ≡ true) × (s.claims.D ≡ []) × (s.claims.R ≡ []) × (value a < node_count old) × (value b < node_count new)
      × (pairs_before s.claims.M (value a) (value b) ≡ true) × (t ≡ add_m (value a) (value b) s)
  SheetTaken s (d_line e) t = (going s ≡ true) × (s.claims.R ≡ []) × (value e < edge_count old) × (all_below s.claims.D (value e) ≡ true) × (t ≡ add_d (value e) s)
  SheetTaken s (r_line name) t = (i : ℕ) × (test_of suite name ≡ some i) × (going s ≡ true) × (all_below s.claims.R i ≡ true) × (t ≡ add_r i s)
  SheetTaken s (end_line m d r) t =
      (going s ≡ true) × (value m ≡ length s.claims.M) × (value d ≡ length s.claims.D) × (value r ≡ length s.claims.R) × (t ≡ shut_sheet s)
  SheetTaken s no_form t = ⊥

  r_taken : (n : ℕ) (s : SheetRead) (name : Bytes) (t : SheetRead) (o : Option ℕ) → test_of suite name ≡ o
      → after o (refused 11 n) (λ i. unless (isnt (going s and all_below s.claims.R i)) 11 n (accepted (add_r i s))) ≡ accepted t → SheetTaken s (r_line name) t
  r_taken n s name t none q e = absurd (true≢false (let z : true ≡ false = cc in z))
  r_taken n s name t (some i) q e =
      let u = unless_accepted _ _ _ _ _ e in
      let k = isnt_false _ u.0 in
      (i, q, and_left _ _ k, and_right _ _ k, sym (accepted_same u.1))

  sheet_taken : (n : ℕ) (s : SheetRead) (x : SheetLine) (t : SheetRead) → take_sheet_line limit old new suite n s x ≡ accepted t → SheetTaken s x t
  unfolding take_sheet_line
  sheet_taken n s head_line t e =
      let u = unless_accepted _ _ _ _ _ e in
      (u.0, sym (accepted_same u.1))
  sheet_taken n s (m_line a b) t e =
      let u = unless_accepted _ _ _ _ _ e in
      let v = unless_accepted _ _ _ _ _ u.1 in
      let k = isnt_false _ v.0 in
      let k1 = and_right _ _ k in
      let k2 = and_right _ _ k1 in
      let k3 = and_right _ _ k2 in
      let k4 = and_right _ _ k3 in (
        leb-false _ _ u.0,
        and_left _ _ k,
        none_true _ (and_left _ _ k1),
        none_true _ (and_left _ _ k2),
        ltb-true _ _ (and_left _ _ k3),
        ltb-true _ _ (and_left _ _ k4),
        and_right _ _ k4,
        sym (accepted_same v.1),
      )
  sheet_taken n s (d_line a) t e =
      let u = unless_accepted _ _ _ _ _ e in
      let k = isnt_false _ u.0 in
      let k1 = and_right _ _ k in
      let k2 = and_right _ _ k1 in
      (and_left _ _ k, none_true _ (and_left _ _ k1), ltb-true _ _ (and_left _ _ k2), and_right _ _ k2, sym (accepted_same u.1))
  sheet_taken n s (r_line name) t e = r_taken n s name t (test_of suite name) refl e
  sheet_taken n s (end_line a b c) t e =
      let u = unless_accepted _ _ _ _ _ e in
      let k = isnt_false _ u.0 in
      let k1 = and_right _ _ k in
      let k2 = and_right _ _ k1 in
      (and_left _ _ k, eqb-true _ _ (and_left _ _ k1), eqb-true _ _ (and_left _ _ k2), eqb-true _ _ (and_right _ _ k2), sym (accepted_same u.1))
  sheet_taken n s no_form t e = true≢false (let z : true ≡ false = cc in z)

  -- The lines of the claims so far.
  abbrev ms : List (ℕ × ℕ) → List Bytes
  ms M = map (λ x. m_text x.0 x.1) M

  abbrev ds : List ℕ → List Bytes
  ds D = map d_text D

  abbrev rs : List ℕ → List Bytes
  rs R = map (λ i. r_text (test_name suite i)) R

  -- Before the first line, inside, and after the last line.
  record Inside (ls : List Bytes) (s : SheetRead) : Type 0 where
    opens : s.opened ≡ true
    ajar : s.shut ≡ false
    order : SheetFollows limit old new suite s.claims
    lines : ls ≡ head_text ∷ (ms s.claims.M ++ (ds s.claims.D ++ rs s.claims.R))

  record Over (ls : List Bytes) (s : SheetRead) : Type 0 where
    opens : s.opened ≡ true
    shuts : s.shut ≡ true
    order : SheetFollows limit old new suite s.claims
    lines : ls ≡ sheet_lines suite.names s.claims

  Stage : List Bytes → SheetRead → Type 0
  Stage ls s = ((s ≡ no_sheet) × (ls ≡ [])) ⊎ (Inside ls s ⊎ Over ls s)

  empty_order : SheetFollows limit old new suite (record { M = []; D = []; R = [] })
  empty_order =
      record {
        few_pairs = omega arith;
        ascends = asc_none;
        nodes = λ n k h. absurd (none_listed n k h);
        rises_d = rise_none;
        edges = λ e h. absurd (none_has e h);
        rises_r = rise_none;
        tests = λ i h. absurd (none_has i h);
      }

  order_m : (c : Sheet) (a b : ℕ) → SheetFollows limit old new suite c → length c.M < limit → a < node_count old → b < node_count new → pairs_before c.M a b ≡ true
      → SheetFollows limit old new suite (record { M = c.M ++ ((a, b) ∷ []); D = c.D; R = c.R })
  order_m c a b o few ha hb late =
      record {
        few_pairs = omega (arith, length-append c.M ((a, b) ∷ []));
        ascends = asc_append o.ascends (asc_one a b) (λ i j n k t u.
            let e = listed_one a b n k u in
            subst (λ (x : ℕ). Before (i, j) (x, k)) e.0 (subst (λ (y : ℕ). Before (i, j) (a, y)) e.1 (before_at a b i j (all_pairs_at (before a b) c.M late i j t))));
        nodes = λ n k t.
            ⊎_elim (o.nodes n k) (λ u.
            let e = listed_one a b n k u in
            (subst (λ (x : ℕ). x < node_count old) e.0 ha, subst (λ (x : ℕ). x < node_count new) e.1 hb)) (listed_append c.M ((a, b) ∷ []) n k t);
        rises_d = o.rises_d;
        edges = o.edges;
        rises_r = o.rises_r;
        tests = o.tests;
      }

  -- A rising list with one more at its end.
  rise_snoc : (l : List ℕ) (x : ℕ) → Rising l → all_below l x ≡ true → Rising (l ++ (x ∷ []))
  rise_snoc l x r h = rise_append r (rise_more (λ n t. absurd (none_has n t)) rise_none) (λ a b t u. subst (λ (y : ℕ). a < y) (one_has x b u) (below_at l x h a t))

  has_snoc : (l : List ℕ) (x n : ℕ) → ((y : ℕ) → has l y ≡ true → y < n) → x < n → (y : ℕ) → has (l ++ (x ∷ [])) y ≡ true → y < n
  has_snoc l x n h k y t = ⊎_elim (h y) (λ u. subst (λ (z : ℕ). z < n) (one_has x y u) k) (has_append l (x ∷ []) y t)

  order_d : (c : Sheet) (e : ℕ) → SheetFollows limit old new suite c → e < edge_count old → all_below c.D e ≡ true → SheetFollows limit old new suite (record { M = c.M; D = c.D ++ (e ∷ []); R = c.R })
  order_d c e o h late =
      record {
        few_pairs = o.few_pairs;
        ascends = o.ascends;
        nodes = o.nodes;
        rises_d = rise_snoc c.D e o.rises_d late;
        edges = has_snoc c.D e (edge_count old) o.edges h;
        rises_r = o.rises_r;
        tests = o.tests;
      }

  order_r : (c : Sheet) (i : ℕ) → SheetFollows limit old new suite c → i < test_count suite → all_below c.R i ≡ true → SheetFollows limit old new suite (record { M = c.M; D = c.D; R = c.R ++ (i ∷ []) })
  order_r c i o h late =
      record {
        few_pairs = o.few_pairs;
        ascends = o.ascends;
        nodes = o.nodes;
        rises_d = o.rises_d;
        edges = o.edges;
        rises_r = rise_snoc c.R i o.rises_r late;
        tests = has_snoc c.R i (test_count suite) o.tests h;
      }

  -- One line more at the end of the claims.
  lines_m : (M : List (ℕ × ℕ)) (D R : List ℕ) (a b : ℕ) → D ≡ [] → R ≡ [] → (ms M ++ (ds D ++ rs R)) ++ (m_text a b ∷ []) ≡ ms (M ++ ((a, b) ∷ [])) ++ (ds D ++ rs R)
  lines_m M D R a b p q =
      subst (λ (d : List ℕ). (ms M ++ (ds d ++ rs R)) ++ (m_text a b ∷ []) ≡ ms (M ++ ((a, b) ∷ [])) ++ (ds d ++ rs R)) (sym p)
      (subst (λ (r : List ℕ). (ms M ++ rs r) ++ (m_text a b ∷ []) ≡ ms (M ++ ((a, b) ∷ [])) ++ rs r) (sym q)
      (ap (λ (l : List Bytes). l ++ (m_text a b ∷ [])) (append-nil (ms M)) ∙ sym (map_snoc (λ x. m_text x.0 x.1) M (a, b)) ∙ sym (append-nil _)))

  lines_d : (M : List (ℕ × ℕ)) (D R : List ℕ) (e : ℕ) → R ≡ [] → (ms M ++ (ds D ++ rs R)) ++ (d_text e ∷ []) ≡ ms M ++ (ds (D ++ (e ∷ [])) ++ rs R)
  lines_d M D R e q =
      subst (λ (r : List ℕ). (ms M ++ (ds D ++ rs r)) ++ (d_text e ∷ []) ≡ ms M ++ (ds (D ++ (e ∷ [])) ++ rs r)) (sym q)
      (append_assoc (ms M) (ds D ++ []) (d_text e ∷ [])
      ∙ ap (λ (l : List Bytes). ms M ++ l) (ap (λ (l : List Bytes). l ++ (d_text e ∷ [])) (append-nil (ds D)) ∙ sym (map_snoc d_text D e) ∙ sym (append-nil _)))

  lines_last : (M : List (ℕ × ℕ)) (D R : List ℕ) (l : Bytes) → (ms M ++ (ds D ++ rs R)) ++ (l ∷ []) ≡ ms M ++ (ds D ++ (rs R ++ (l ∷ [])))
  lines_last M D R l = append_assoc (ms M) (ds D ++ rs R) (l ∷ []) ∙ ap (λ (r : List Bytes). ms M ++ r) (append_assoc (ds D) (rs R) (l ∷ []))

  going_open : (s : SheetRead) → going s ≡ true → (s.opened ≡ true) × (isnt s.shut ≡ true)
  going_open s h = (and_left _ _ h, and_right _ _ h)

  inside_line : (ls : List Bytes) (l : Bytes) (s : SheetRead) (x : SheetLine) (t : SheetRead) → SheetFormed (fields_of l) x → Inside ls s → SheetTaken s x t → Stage (ls ++ (l ∷ [])) t
  unfolding Stage m_text d_text r_text end_text sheet_lines test_of
  inside_line ls l s head_line t f w k = absurd (both_ways w.opens k.0)
  inside_line ls l s (m_line a b) t f w k =
      subst (λ (t : SheetRead). Stage (ls ++ (l ∷ [])) t) (sym k.7)
      (inr (inl (record {
        opens = w.opens;
        ajar = w.ajar;
        order = order_m s.claims (value a) (value b) w.order k.0 k.4 k.5 k.6;
        lines = ap₂ (λ (p : List Bytes) (q : Bytes). p ++ (q ∷ [])) w.lines
            (sym (join_split 44 l) ∙ ap commas f.0 ∙ ap₂ (λ (p q : Bytes). commas (bytes "M" ∷ p ∷ q ∷ [])) (sym (decimal_value a f.1)) (sym (decimal_value b f.2)))
            ∙ ap (λ (r : List Bytes). head_text ∷ r) (lines_m s.claims.M s.claims.D s.claims.R (value a) (value b) k.2 k.3);
      })))
  inside_line ls l s (d_line a) t f w k =
      subst (λ (t : SheetRead). Stage (ls ++ (l ∷ [])) t) (sym k.4)
      (inr (inl (record {
        opens = w.opens;
        ajar = w.ajar;
        order = order_d s.claims (value a) w.order k.2 k.3;
        lines = ap₂ (λ (p : List Bytes) (q : Bytes). p ++ (q ∷ [])) w.lines (sym (join_split 44 l) ∙ ap commas f.0 ∙ ap (λ (p : Bytes). commas (bytes "D" ∷ p ∷ [])) (sym (decimal_value a f.1)))
            ∙ ap (λ (r : List Bytes). head_text ∷ r) (lines_d s.claims.M s.claims.D s.claims.R (value a) k.1);
      })))
  inside_line ls l s (r_line name) t f w k =
      let found = first_at (λ i. same (test_name suite i) name) (test_count suite) k.0 k.1 in
      let named : test_name suite k.0 ≡ name = same_true _ _ found.1 in
      subst (λ (t : SheetRead). Stage (ls ++ (l ∷ [])) t) (sym k.4)
      (inr (inl (record {
        opens = w.opens;
        ajar = w.ajar;
        order = order_r s.claims k.0 w.order found.0 k.3;
        lines = ap₂ (λ (p : List Bytes) (q : Bytes). p ++ (q ∷ [])) w.lines (sym (join_split 44 l) ∙ ap commas f ∙ ap r_text (sym named))
            ∙ ap (λ (r : List Bytes). head_text ∷ r) (lines_last s.claims.M s.claims.D s.claims.R (r_text (test_name suite k.0))
            ∙ ap (λ (r : List Bytes). ms s.claims.M ++ (ds s.claims.D ++ r)) (sym (map_snoc (λ i. r_text (test_name suite i)) s.claims.R k.0)));
      })))
  inside_line ls l s (end_line a b c) t f w k =
      let is : l ≡ end_text (length s.claims.M) (length s.claims.D) (length s.claims.R)
      = sym (join_split 44 l) ∙ ap commas f.0
      ∙ ap (λ (p : Bytes). commas (bytes "end" ∷ p ∷ b ∷ c ∷ [])) (sym (decimal_value a f.1) ∙ ap decimal k.1)
      ∙ ap₂ (λ (p q : Bytes). commas (bytes "end" ∷ decimal (length s.claims.M) ∷ p ∷ q ∷ [])) (sym (decimal_value b f.2) ∙ ap decimal k.2) (sym (decimal_value c f.3) ∙ ap decimal k.3) in
      subst (λ (t : SheetRead). Stage (ls ++ (l ∷ [])) t) (sym k.4)
      (inr (inr (record {
        opens = w.opens;
        shuts = refl;
        order = w.order;
        lines = ap₂ (λ (p : List Bytes) (q : Bytes). p ++ (q ∷ [])) w.lines is
            ∙ ap (λ (r : List Bytes). head_text ∷ r) (lines_last s.claims.M s.claims.D s.claims.R (end_text (length s.claims.M) (length s.claims.D) (length s.claims.R)));
      })))
  inside_line ls l s no_form t f w k = absurd k

  -- Only the first line stands first.
  first_line : (l : Bytes) (s : SheetRead) (x : SheetLine) (t : SheetRead) → SheetFormed (fields_of l) x → s.opened ≡ false → s ≡ no_sheet → SheetTaken s x t → Stage (l ∷ []) t
  unfolding Stage join_by
  first_line l s head_line t f o e k =
      subst (λ (t : SheetRead). Stage (l ∷ []) t) (sym (k.1 ∙ ap open_sheet e))
      (inr (inl (record { opens = refl; ajar = refl; order = empty_order; lines = ap (λ (q : Bytes). q ∷ []) (sym (join_split 44 l) ∙ ap commas f) })))
  first_line l s (m_line a b) t f o e k = absurd (both_ways (going_open s k.1).0 o)
  first_line l s (d_line a) t f o e k = absurd (both_ways (going_open s k.0).0 o)
  first_line l s (r_line a) t f o e k = absurd (both_ways (going_open s k.2).0 o)
  first_line l s (end_line a b c) t f o e k = absurd (both_ways (going_open s k.0).0 o)
  first_line l s no_form t f o e k = absurd k

  -- No line stands after the last.
  shut_not : (s : SheetRead) → s.shut ≡ true → going s ≡ true → ⊥
  unfolding isnt
  shut_not s h g = both_ways (going_open s g).1 (ap isnt h)

  past_line : (s : SheetRead) (x : SheetLine) (t : SheetRead) → s.opened ≡ true → s.shut ≡ true → SheetTaken s x t → ⊥
  past_line s head_line t o h k = both_ways o k.0
  past_line s (m_line a b) t o h k = shut_not s h k.1
  past_line s (d_line a) t o h k = shut_not s h k.0
  past_line s (r_line a) t o h k = shut_not s h k.2
  past_line s (end_line a b c) t o h k = shut_not s h k.0
  past_line s no_form t o h k = k

  stage_step : (n at : ℕ) (ls : List Bytes) (s : SheetRead) (l : Bytes) (t : SheetRead) → Stage ls s → step_sheet limit old new suite n at s l ≡ accepted t → Stage (ls ++ (l ∷ [])) t
  unfolding step_sheet Stage
  stage_step n at ls s l t (inl w) e =
      subst (λ (r : List Bytes). Stage (r ++ (l ∷ [])) t) (sym w.1)
      (first_line l s (sheet_form (fields_of l)) t (sheet_formed (fields_of l)) (ap (λ (x : SheetRead). x.opened) w.0) w.0 (sheet_taken n s (sheet_form (fields_of l)) t e))
  stage_step n at ls s l t (inr (inl w)) e = inside_line ls l s (sheet_form (fields_of l)) t (sheet_formed (fields_of l)) w (sheet_taken n s (sheet_form (fields_of l)) t e)
  stage_step n at ls s l t (inr (inr w)) e = absurd (past_line s (sheet_form (fields_of l)) t w.opens w.shuts (sheet_taken n s (sheet_form (fields_of l)) t e))

  -- At the end the last line was read.
  stage_over : (ls : List Bytes) (s : SheetRead) → s.shut ≡ true → Stage ls s → Over ls s
  unfolding Stage
  stage_over ls s h (inl w) = absurd (false≢true (sym (ap (λ (x : SheetRead). x.shut) w.0) ∙ h))
  stage_over ls s h (inr (inl w)) = absurd (both_ways h w.ajar)
  stage_over ls s h (inr (inr w)) = w

  -- Where a line is taken, the last line was not read before it.
  open_still : (n at : ℕ) (ls : List Bytes) (s : SheetRead) (l : Bytes) (t : SheetRead) → Stage ls s → step_sheet limit old new suite n at s l ≡ accepted t → s.shut ≡ false
  unfolding step_sheet Stage
  open_still n at ls s l t (inl w) e = ap (λ (x : SheetRead). x.shut) w.0
  open_still n at ls s l t (inr (inl w)) e = w.ajar
  open_still n at ls s l t (inr (inr w)) e = absurd (past_line s (sheet_form (fields_of l)) t w.opens w.shuts (sheet_taken n s (sheet_form (fields_of l)) t e))

  -- Lines that are read to the end, cut off before the line m: one is missing.
  cut_short : (ls done : List Bytes) (n at : ℕ) (s : SheetRead) (m y : Bytes) (ys : List Bytes) (c : Sheet) → Stage done s
      → read_lines (step_sheet limit old new suite) finish_sheet n at s (ls ++ (m ∷ y ∷ ys)) ≡ accepted c → read_lines (step_sheet limit old new suite) finish_sheet n at s (ls ++ ([] ∷ [])) ≡ refused 11 (n + length ls)
  unfolding read_lines finish_sheet empty isnt
  cut_short [] done n at s m y ys c w e =
      let t = then_accepted _ _ _ e in
      let o = open_still n at done s m t.0 w t.1 in
      let z : n ≡ n + 0 = omega arith in
      unless_passes _ _ _ _ refl ∙ unless_refuses _ 11 n _ (ap isnt o) ∙ ap (refused 11) z
  cut_short (x ∷ ls) done n at s m y ys c w e =
      let t = then_accepted _ _ _ (sym (lines_next (step_sheet limit old new suite) finish_sheet n at s x m ls (y ∷ ys)) ∙ e) in
      let z : suc n + length ls ≡ n + suc (length ls) = omega arith in
      lines_next (step_sheet limit old new suite) finish_sheet n at s x [] ls [] ∙ then_passes _ t.1
      ∙ cut_short ls (done ++ (x ∷ [])) (suc n) (at + length x + 1) t.0 m y ys c (stage_step n at done s x t.0 w t.1) t.2 ∙ ap (refused 11) z

  pub cut_sheet : (ls : List Bytes) (m y : Bytes) (ys : List Bytes) (c : Sheet)
      → read_lines (step_sheet limit old new suite) finish_sheet 1 0 no_sheet (ls ++ (m ∷ y ∷ ys)) ≡ accepted c → read_lines (step_sheet limit old new suite) finish_sheet 1 0 no_sheet (ls ++ ([] ∷ [])) ≡ refused 11 (suc (length ls))
  unfolding Stage
  cut_sheet ls m y ys c e =
      let z : 1 + length ls ≡ suc (length ls) = omega arith in
      cut_short ls [] 1 0 no_sheet m y ys c (inl (refl, refl)) e ∙ ap (refused 11) z

  pub accepted_orderly : (text : Bytes) (c : Sheet) → read_sheet limit old new suite text ≡ accepted c → SheetFollows limit old new suite c × (text ≡ sheet_text suite.names c)
  unfolding read_sheet finish_sheet sheet_text Stage
  accepted_orderly text c e =
      let r = text_holds (step_sheet limit old new suite) finish_sheet Stage stage_step text no_sheet c (inl (refl, refl)) e in
      let u = unless_accepted _ _ _ _ _ r.finishes in
      let w = stage_over r.lines r.last (isnt_false _ u.0) r.holds in
      let q : r.last.claims ≡ c = accepted_same u.1 in (
        subst (λ (x : Sheet). SheetFollows limit old new suite x) q w.order,
        lines_ended text r.lines r.taken ∙ ap text_of w.lines ∙ ap (λ (x : Sheet). text_of (sheet_lines suite.names x)) q,
      )

  -- Edges and tests in order are not too many.
  pub few_of : Sound old → (w : ℕ) → SoundSuite w suite → (c : Sheet) → SheetFollows limit old new suite c → Few c
  few_of so w h c o =
      record {
        few_d = omega (arith, rise_few o.rises_d 0 (edge_count old) (omega arith) (λ x t. omega arith) o.edges, so.few_edges);
        few_r = omega (arith, rise_few o.rises_r 0 (test_count suite) (omega arith) (λ x t. omega arith) o.tests, h.few);
      }

-- A sheet's text is accepted, and gives the claims c, exactly if these are in order, with numbers and names that the files have, and the text is how they are written.
pub sheet_layout : (limit : ℕ) → limit ≤ max_pairs → (old new : Program) (suite : Suite) → Sound old → Sound new → (w : ℕ) → SoundSuite w suite → (text : Bytes) (c : Sheet)
    → (read_sheet limit old new suite text ≡ accepted c) ↔ (SheetFollows limit old new suite c × (text ≡ sheet_text suite.names c))
sheet_layout limit most old new suite so sn w h text c = (
  accepted_orderly limit old new suite text c,
  λ k. subst (λ (t : Bytes). read_sheet limit old new suite t ≡ accepted c) (sym k.1) (read_back limit most old new suite so sn w h c k.0 (few_of limit old new suite so w h c k.0)),
)

-- No rule is broken exactly if all five hold.
pub unbroken_of : (old new : Program) (suite : List Coverage) (s : Sheet) → rule1 old new s ≡ true → rule2 old new s ≡ true → rule3 old new s ≡ true → rule4 old new s ≡ true → rule5 suite s ≡ true
    → broken old new suite s ≡ 0
unfolding broken
unbroken_of old new suite s a b c d e = none_failed _ _ a (none_failed _ _ b (none_failed _ _ c (none_failed _ _ d (none_failed _ _ e (none_left _)))))

-- A sheet that was read and breaks no rule passes, in the words of the promise, for the same texts and claims.
abbrev pub passes_from : {old new tests sheet : Bytes} → Passed old new tests sheet → Passes old new tests sheet
passes_from {old} {new} {tests} {sheet} p =
    let g = p.given in
    let n = known old new tests g p.reads in
    let k = accepted_orderly max_pairs g.old g.new g.suite sheet p.claims p.reads_sheet in
    let r = five_rules g.old g.new g.suite.coverages p.claims p.unbroken in
    let f = few_of max_pairs g.old g.new g.suite n.old_sound _ n.suite_sound p.claims k.0 in
    record {
      given = g;
      reads = p.reads;
      claims = p.claims;
      order = k.0;
      text = k.1;
      short = subst (λ (b : Bytes). length b ≤ max_bytes) (sym k.1) (sheet_short max_pairs (omega arith) g.old g.new g.suite n.old_sound n.new_sound _ n.suite_sound p.claims k.0 f);
      holds1 = r.0;
      holds2 = r.1;
      holds3 = r.2;
      holds4 = r.3;
      holds5 = r.4;
    }

-- One that passes, in these words, is read.
pub passing_read : {old new tests sheet : Bytes} (p : Passes old new tests sheet) → read_sheet max_pairs p.given.old p.given.new p.given.suite sheet ≡ accepted p.claims
passing_read {old} {new} {tests} {sheet} p =
    let g = p.given in
    let n = known old new tests g p.reads in
    (sheet_layout max_pairs (omega arith) g.old g.new g.suite n.old_sound n.new_sound _ n.suite_sound sheet p.claims).1 (p.order, p.text)

-- The check passes a sheet exactly when its limits, its layout and the five rules hold.
pub check_exact : (old new tests sheet : Bytes) → (check_answer old new tests sheet ≡ passed) ↔ Passes old new tests sheet
check_exact old new tests sheet = (
  λ e. passes_from (check_passed old new tests sheet e),
  λ p.
      let g = p.given in
      passed_check old new tests sheet g p.claims p.reads (passing_read p)
      (unbroken_of g.old g.new g.suite.coverages p.claims p.holds1 p.holds2 p.holds3 p.holds4 p.holds5),
)
