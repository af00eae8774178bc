-- Reading back what was written: the check passes every sheet that the selector writes.
use Rattle.std.specs.Prelude.{◌≡◌, true, false, ℕ, suc, ◌+◌, ◌*◌, ◌≤◌, ◌<◌, get_or}
use Rattle.std.proofs.Math.Path.{refl, ap}
use Rattle.std.proofs.Common.{sym, ◌∙◌, subst, inl, inr, ⊎_elim, arith, length-append, eq-eqb, lt-ltb, le-ltb}
use Rattle.std.proofs.Math.Option.{some}
use mathlib.Core.List.{List, [], ◌∷◌, ◌++◌, map, append_assoc, append-nil}
use Rattle.std.proofs.Math.Decide.{dec_lt}
use Rattle.std.proofs.Math.ListN.{length, get_or-eq_default}
use Rattle.std.proofs.lemmas.Bool.{lt-leb}
use Rattle.laws.specs.Tests.{◌and◌, isnt, has, listed, choose, none?}
use Rattle.laws.specs.TestLaws.{false_isnt, none_has, one_has, and_both, or_left, or_right, eqb_self, first_only, has_append, those_at, listed_here, listed_append, listed_one, all_pairs_of, Before, Ascending, asc_more}
use Rattle.laws.specs.Lists.{choose_yes, choose_no, Rising, has_first, has_rest, listed_rest, none_listed, rise_more, those_few, those_rise}
use Rattle.rules.specs.Text.{Bytes, same, empty, bytes, max_bytes, max_edges, max_tests, max_pairs, all_bytes, onto, split, lines_of, fields_of, join_by, text_of, is_name, value, decimal, accepted, read_lines, read_text}
use Rattle.rules.specs.Graph.{Program, node_count, edge_count}
use Rattle.rules.specs.SuiteFile.{Suite, test_count, test_name}
use Rattle.rules.specs.Closing.{pairs, dangers, dangerous, meets, repeated}
use Rattle.rules.specs.Sheet.{Sheet, selected, head_text, m_text, d_text, q_text, r_text, end_text, sheet_lines, sheet_text, head_line, m_line, d_line, r_line, end_line, sheet_form, SheetRead, no_sheet, before, all_below, test_of, shut_sheet, take_sheet_line, step_sheet, finish_sheet, read_sheet}
use Rattle.rules.specs.Job.{Given, wrote, passed, sheet_bytes, sheet_answer, check_answer}
use Rattle.rules.specs.Layout.{SheetFollows}
use Rattle.rules.proofs.Closure.{pairs_inside, pairs_ascend, selected_passes}
use Rattle.rules.proofs.JobLaws.{known, passed_check, sheet_wrote}
use Rattle.rules.specs.Kept.{Sound}
use Rattle.rules.proofs.SheetLaws.{sheet_lines_lem}
use Rattle.rules.specs.Kept.{SoundSuite}
use Rattle.rules.specs.Kept.{other}
use Rattle.rules.proofs.TextLaws.{same_true, same_self, decimal_free, nothing_ended, unless_passes, then_passes, split_join, name_free, name_sized, value_decimal, decimal_number, decimal_most}

-- ---- the forms of written lines

form_head : sheet_form (fields_of head_text) ≡ head_line
unfolding split onto sheet_form choose same ◌and◌
form_head = refl

form_m : (n k : ℕ) → sheet_form (fields_of (m_text n k)) ≡ m_line (decimal n) (decimal k)
unfolding m_text sheet_form all_bytes other isnt ◌and◌
form_m n k =
    ap sheet_form (split_join 44 (bytes "M") (decimal n ∷ decimal k ∷ []) (refl, (decimal_free 44 n (omega arith), (decimal_free 44 k (omega arith), tt))))
    ∙ choose_yes _ _ (and_both (same_self (bytes "M")) (and_both (decimal_number n) (decimal_number k)))

form_d : (e : ℕ) → sheet_form (fields_of (d_text e)) ≡ d_line (decimal e)
unfolding d_text sheet_form all_bytes other isnt ◌and◌ same
form_d e =
    ap sheet_form (split_join 44 (bytes "D") (decimal e ∷ []) (refl, (decimal_free 44 e (omega arith), tt)))
    ∙ choose_no _ _ refl ∙ choose_yes _ _ (and_both (same_self (bytes "D")) (decimal_number e))

form_r : (name : Bytes) → is_name name ≡ true → sheet_form (fields_of (r_text name)) ≡ r_line name
unfolding r_text sheet_form all_bytes other isnt ◌and◌ same
form_r name h =
    ap sheet_form (split_join 44 (bytes "R") (name ∷ []) (refl, (name_free 44 name (omega arith) h, tt)))
    ∙ choose_no _ _ refl ∙ choose_no _ _ refl ∙ choose_yes _ _ (and_both (same_self (bytes "R")) h)

form_end : (m d r : ℕ) → sheet_form (fields_of (end_text m d r)) ≡ end_line (decimal m) (decimal d) (decimal r)
unfolding end_text sheet_form all_bytes other isnt ◌and◌
form_end m d r =
    ap sheet_form (split_join 44 (bytes "end") (decimal m ∷ decimal d ∷ decimal r ∷ [])
    (refl, (decimal_free 44 m (omega arith), (decimal_free 44 d (omega arith), (decimal_free 44 r (omega arith), tt)))))
    ∙ choose_yes _ _ (and_both (same_self (bytes "end")) (and_both (decimal_number m) (and_both (decimal_number d) (decimal_number r))))

-- ---- one written line, taken

before_of : (a b n k : ℕ) → Before (n, k) (a, b) → before a b n k ≡ true
unfolding before
before_of a b n k (inl h) = or_left _ (lt-ltb n a h)
before_of a b n k (inr h) = or_right _ (and_both (eq-eqb n a h.0) (lt-ltb k b h.1))

below_of : (l : List ℕ) (n : ℕ) → ((x : ℕ) → has l x ≡ true → x < n) → all_below l n ≡ true
unfolding all_below has
below_of [] n h = refl
below_of (x ∷ l) n h = and_both (lt-ltb x n (h x (or_left _ (eqb_self x)))) (below_of l n (λ y t. h y (or_right _ t)))

-- What was read of a sheet that is not yet at its end.
abbrev pub reading : List (ℕ × ℕ) → List ℕ → List ℕ → SheetRead
reading M D R = record { opened = true; claims = record { M = M; D = D; R = R }; shut = false }

module _ (limit : ℕ) (old new : Program) (suite : Suite) where
  step_head : (n at : ℕ) → step_sheet limit old new suite n at no_sheet head_text ≡ accepted (reading [] [] [])
  unfolding step_sheet take_sheet_line
  step_head n at = ap (take_sheet_line limit old new suite n no_sheet) form_head ∙ unless_passes _ _ _ _ refl

  take_m : (n : ℕ) (M : List (ℕ × ℕ)) (x y : Bytes) (a b : ℕ) → value x ≡ a → value y ≡ b → length M < limit → a < node_count old → b < node_count new
      → ((n k : ℕ) → listed M n k ≡ true → Before (n, k) (a, b)) → take_sheet_line limit old new suite n (reading M [] []) (m_line x y) ≡ accepted (reading (M ++ ((a, b) ∷ [])) [] [])
  unfolding take_sheet_line none? ◌and◌ isnt
  take_m n M x y a b p q few h k late =
      rw (p, q)
      (unless_passes _ _ _ _ (lt-leb limit (length M) few)
      ∙ unless_passes _ _ _ _ (false_isnt (and_both (lt-ltb _ _ h) (and_both (lt-ltb _ _ k) (all_pairs_of (before a b) M (λ n k t. before_of a b n k (late n k t)))))))

  step_m : (n at : ℕ) (M : List (ℕ × ℕ)) (a b : ℕ) → length M < limit → a < node_count old → b < node_count new
      → ((n k : ℕ) → listed M n k ≡ true → Before (n, k) (a, b)) → step_sheet limit old new suite n at (reading M [] []) (m_text a b) ≡ accepted (reading (M ++ ((a, b) ∷ [])) [] [])
  unfolding step_sheet
  step_m n at M a b few h k late =
      ap (take_sheet_line limit old new suite n (reading M [] [])) (form_m a b) ∙ take_m n M (decimal a) (decimal b) a b (value_decimal a) (value_decimal b) few h k late

  take_d : (n : ℕ) (M : List (ℕ × ℕ)) (D : List ℕ) (x : Bytes) (e : ℕ) → value x ≡ e → e < edge_count old → ((i : ℕ) → has D i ≡ true → i < e)
      → take_sheet_line limit old new suite n (reading M D []) (d_line x) ≡ accepted (reading M (D ++ (e ∷ [])) [])
  unfolding take_sheet_line none? ◌and◌ isnt
  take_d n M D x e p h late = rw p (unless_passes _ _ _ _ (false_isnt (and_both (lt-ltb _ _ h) (below_of D e late))))

  step_d : (n at : ℕ) (M : List (ℕ × ℕ)) (D : List ℕ) (e : ℕ) → e < edge_count old → ((i : ℕ) → has D i ≡ true → i < e)
      → step_sheet limit old new suite n at (reading M D []) (d_text e) ≡ accepted (reading M (D ++ (e ∷ [])) [])
  unfolding step_sheet
  step_d n at M D e h late = ap (take_sheet_line limit old new suite n (reading M D [])) (form_d e) ∙ take_d n M D (decimal e) e (value_decimal e) h late

  module _ (w : ℕ) (sound : SoundSuite w suite) where
    name_found : (i : ℕ) → i < test_count suite → test_of suite (test_name suite i) ≡ some i
    unfolding test_of
    name_found i h =
        first_only (λ j. same (test_name suite j) (test_name suite i)) (test_count suite) i h (same_self (test_name suite i))
        (λ j k e. sound.names i j h k (same_true _ _ e))

    step_r : (n at : ℕ) (M : List (ℕ × ℕ)) (D R : List ℕ) (i : ℕ) → i < test_count suite → ((j : ℕ) → has R j ≡ true → j < i)
        → step_sheet limit old new suite n at (reading M D R) (r_text (test_name suite i)) ≡ accepted (reading M D (R ++ (i ∷ [])))
    unfolding step_sheet take_sheet_line ◌and◌ isnt
    step_r n at M D R i h late =
        ap (take_sheet_line limit old new suite n (reading M D R)) (form_r (test_name suite i) (sound.name_forms i h))
        ∙ rw (name_found i h) (unless_passes _ _ _ _ (false_isnt (below_of R i late)))

  take_end : (n : ℕ) (M : List (ℕ × ℕ)) (D R : List ℕ) (x y z : Bytes) → value x ≡ length M → value y ≡ length D → value z ≡ length R
      → take_sheet_line limit old new suite n (reading M D R) (end_line x y z) ≡ accepted (shut_sheet (reading M D R))
  unfolding take_sheet_line ◌and◌ isnt
  take_end n M D R x y z p q r = unless_passes _ _ _ _ (false_isnt (and_both (eq-eqb _ _ p) (and_both (eq-eqb _ _ q) (eq-eqb _ _ r))))

  step_end : (n at : ℕ) (M : List (ℕ × ℕ)) (D R : List ℕ)
      → step_sheet limit old new suite n at (reading M D R) (end_text (length M) (length D) (length R)) ≡ accepted (shut_sheet (reading M D R))
  unfolding step_sheet
  step_end n at M D R =
      ap (take_sheet_line limit old new suite n (reading M D R)) (form_end (length M) (length D) (length R))
      ∙ take_end n M D R (decimal (length M)) (decimal (length D)) (decimal (length R)) (value_decimal _) (value_decimal _) (value_decimal _)

  -- ---- all the lines

  -- From what was read so far, the lines are read to the end, and give the sheet c.
  unfoldable pub Goes : Sheet → SheetRead → List Bytes → Type 0
  Goes c s ls = (n at : ℕ) → read_lines (step_sheet limit old new suite) finish_sheet n at s (ls ++ ([] ∷ [])) ≡ accepted c

  goes_more : (c : Sheet) (s t : SheetRead) (l : Bytes) (ls : List Bytes) → ((n at : ℕ) → step_sheet limit old new suite n at s l ≡ accepted t) → Goes c t ls → Goes c s (l ∷ ls)
  unfolding Goes read_lines
  goes_more c s t l [] h g n at = then_passes _ (h n at) ∙ g (suc n) (at + length l + 1)
  goes_more c s t l (m ∷ ls) h g n at = then_passes _ (h n at) ∙ g (suc n) (at + length l + 1)

  goes_shut : (M : List (ℕ × ℕ)) (D R : List ℕ) → Goes (record { M = M; D = D; R = R }) (shut_sheet (reading M D R)) []
  unfolding Goes read_lines finish_sheet empty isnt
  goes_shut M D R n at = unless_passes _ _ _ _ refl ∙ unless_passes _ _ _ _ refl

  goes_end : (M : List (ℕ × ℕ)) (D R : List ℕ) → Goes (record { M = M; D = D; R = R }) (reading M D R) (end_text (length M) (length D) (length R) ∷ [])
  goes_end M D R = goes_more _ (reading M D R) (shut_sheet (reading M D R)) _ [] (λ n at. step_end n at M D R) (goes_shut M D R)

  goes_m : (c : Sheet) (ls : List Bytes) (rest done : List (ℕ × ℕ)) → length done + length rest ≤ limit
      → ((n k : ℕ) → listed rest n k ≡ true → (n < node_count old) × (k < node_count new)) → Ascending rest
      → ((a b n k : ℕ) → listed done a b ≡ true → listed rest n k ≡ true → Before (a, b) (n, k))
      → Goes c (reading (done ++ rest) [] []) ls → Goes c (reading done [] []) (map (λ x. m_text x.0 x.1) rest ++ ls)
  goes_m c ls [] done few inside rises late g = subst (λ (m : List (ℕ × ℕ)). Goes c (reading m [] []) ls) (append-nil done) g
  goes_m c ls (x ∷ rest) done few inside (asc_more up rises) late g =
      let here : listed (x ∷ rest) x.0 x.1 ≡ true = listed_here x.0 x.1 rest in
      goes_more c (reading done [] []) (reading (done ++ ((x.0, x.1) ∷ [])) [] []) _ _
      (λ n at. step_m n at done x.0 x.1 (omega arith) (inside _ _ here).0 (inside _ _ here).1 (λ n k t. late n k x.0 x.1 t here))
      (goes_m c ls rest (done ++ ((x.0, x.1) ∷ [])) (omega (arith, length-append done ((x.0, x.1) ∷ []))) (λ n k t. inside n k (listed_rest x rest n k t)) rises
      (λ a b n k t u.
      ⊎_elim (λ v. late a b n k v (listed_rest x rest n k u)) (λ v.
      let e = listed_one x.0 x.1 a b v in
      subst (λ (i : ℕ). Before (i, b) (n, k)) e.0 (subst (λ (j : ℕ). Before (x.0, j) (n, k)) e.1 (up n k u))) (listed_append done ((x.0, x.1) ∷ []) a b t))
      (subst (λ (m : List (ℕ × ℕ)). Goes c (reading m [] []) ls) (sym (append_assoc done ((x.0, x.1) ∷ []) rest)) g))

  goes_d : (c : Sheet) (ls : List Bytes) (M : List (ℕ × ℕ)) (rest done : List ℕ) → ((e : ℕ) → has rest e ≡ true → e < edge_count old) → Rising rest
      → ((a b : ℕ) → has done a ≡ true → has rest b ≡ true → a < b) → Goes c (reading M (done ++ rest) []) ls → Goes c (reading M done []) (map d_text rest ++ ls)
  goes_d c ls M [] done inside rises late g = subst (λ (d : List ℕ). Goes c (reading M d []) ls) (append-nil done) g
  goes_d c ls M (x ∷ rest) done inside (rise_more up rises) late g =
      goes_more c (reading M done []) (reading M (done ++ (x ∷ [])) []) _ _ (λ n at. step_d n at M done x (inside x (has_first x rest)) (λ i t. late i x t (has_first x rest)))
      (goes_d c ls M rest (done ++ (x ∷ [])) (λ e t. inside e (has_rest x rest e t)) rises
      (λ a b t u. ⊎_elim (λ v. late a b v (has_rest x rest b u)) (λ v. subst (λ (i : ℕ). i < b) (one_has x a v) (up b u)) (has_append done (x ∷ []) a t))
      (subst (λ (d : List ℕ). Goes c (reading M d []) ls) (sym (append_assoc done (x ∷ []) rest)) g))

  goes_r : (w : ℕ) → SoundSuite w suite → (c : Sheet) (ls : List Bytes) (M : List (ℕ × ℕ)) (D rest done : List ℕ) → ((i : ℕ) → has rest i ≡ true → i < test_count suite) → Rising rest
      → ((a b : ℕ) → has done a ≡ true → has rest b ≡ true → a < b) → Goes c (reading M D (done ++ rest)) ls
      → Goes c (reading M D done) (map (λ i. r_text (test_name suite i)) rest ++ ls)
  goes_r w h c ls M D [] done inside rises late g = subst (λ (r : List ℕ). Goes c (reading M D r) ls) (append-nil done) g
  goes_r w h c ls M D (x ∷ rest) done inside (rise_more up rises) late g =
      goes_more c (reading M D done) (reading M D (done ++ (x ∷ []))) _ _ (λ n at. step_r w h n at M D done x (inside x (has_first x rest)) (λ i t. late i x t (has_first x rest)))
      (goes_r w h c ls M D rest (done ++ (x ∷ [])) (λ e t. inside e (has_rest x rest e t)) rises
      (λ a b t u. ⊎_elim (λ v. late a b v (has_rest x rest b u)) (λ v. subst (λ (i : ℕ). i < b) (one_has x a v) (up b u)) (has_append done (x ∷ []) a t))
      (subst (λ (r : List ℕ). Goes c (reading M D r) ls) (sym (append_assoc done (x ∷ []) rest)) g))

  pub goes_all : (w : ℕ) → SoundSuite w suite → (c : Sheet) → SheetFollows limit old new suite c → Goes c no_sheet (sheet_lines suite.names c)
  unfolding sheet_lines
  goes_all w h c o =
      goes_more c no_sheet (reading [] [] []) head_text _ step_head
      (goes_m c _ c.M [] (omega (arith, o.few_pairs)) o.nodes o.ascends (λ a b n k t u. absurd (none_listed a b t))
      (goes_d c _ c.M c.D [] o.edges o.rises_d (λ a b t u. absurd (none_has a t))
      (goes_r w h c _ c.M c.D c.R [] o.tests o.rises_r (λ a b t u. absurd (none_has a t)) (goes_end c.M c.D c.R))))

-- ---- a written sheet is short enough

pub ended_append : (ls ms : List Bytes) → length (text_of (ls ++ ms)) ≡ length (text_of ls) + length (text_of ms)
unfolding text_of
ended_append [] ms = omega arith
ended_append (l ∷ ls) ms =
    omega (arith, length-append l (10 ∷ text_of (ls ++ ms)), length-append l (10 ∷ text_of ls), ended_append ls ms)

-- The text of a line and the lines after it.
ended_cons : (l : Bytes) (ls : List Bytes) → length (text_of (l ∷ ls)) ≡ suc (length l + length (text_of ls))
unfolding text_of
ended_cons l ls = omega (arith, length-append l (10 ∷ text_of ls))

digits_three : (n : ℕ) → n < 1000 → length (decimal n) ≤ 3
digits_three n h = decimal_most 2 n (omega arith)

digits_four : (n : ℕ) → n < 10000 → length (decimal n) ≤ 4
digits_four n h = decimal_most 3 n (omega arith)

m_short : (n k : ℕ) → n < 512 → k < 512 → length (m_text n k) ≤ 9
unfolding m_text join_by
m_short n k h l =
    omega (arith, length-append (decimal n) (44 ∷ decimal k), digits_three n (omega arith), digits_three k (omega arith))

d_short : (e : ℕ) → e < 1024 → length (d_text e) ≤ 6
unfolding d_text join_by
d_short e h = omega (arith, digits_four e (omega arith))

r_short : (name : Bytes) → length name ≤ 12 → length (r_text name) ≤ 14
unfolding r_text join_by
r_short name h = omega arith

end_short : (m d r : ℕ) → m < 10000 → d < 10000 → r < 10000 → length (end_text m d r) ≤ 18
unfolding end_text join_by
end_short m d r h k l =
    omega (arith, length-append (decimal m) (44 ∷ (decimal d ++ (44 ∷ decimal r))), length-append (decimal d) (44 ∷ decimal r), digits_four m h, digits_four d k, digits_four r l)

ended_m : (l : List (ℕ × ℕ)) → ((n k : ℕ) → listed l n k ≡ true → (n < 512) × (k < 512)) → length (text_of (map (λ x. m_text x.0 x.1) l)) ≤ 10 * length l
unfolding text_of
ended_m [] h = omega arith
ended_m (x ∷ l) h =
    let b = h x.0 x.1 (listed_here x.0 x.1 l) in
    omega (arith, length-append (m_text x.0 x.1) (10 ∷ text_of (map (λ x. m_text x.0 x.1) l)), m_short x.0 x.1 b.0 b.1, ended_m l (λ n k t. h n k (listed_rest x l n k t)))

ended_d : (l : List ℕ) → ((e : ℕ) → has l e ≡ true → e < 1024) → length (text_of (map d_text l)) ≤ 7 * length l
unfolding text_of
ended_d [] h = omega arith
ended_d (x ∷ l) h =
    omega (arith, length-append (d_text x) (10 ∷ text_of (map d_text l)), d_short x (h x (has_first x l)), ended_d l (λ e t. h e (has_rest x l e t)))

pub ended_q : (l : List ℕ) → ((e : ℕ) → has l e ≡ true → e < 1024) → length (text_of (map q_text l)) ≤ 7 * length l
unfolding text_of q_text join_by
ended_q [] h = omega arith
ended_q (x ∷ l) h =
    omega (arith, length-append (bytes "Q," ++ decimal x) (10 ∷ text_of (map q_text l)), digits_four x (omega (arith, h x (has_first x l))), ended_q l (λ e t. h e (has_rest x l e t)))

ended_r : (f : ℕ → Bytes) (l : List ℕ) → ((i : ℕ) → length (f i) ≤ 12) → length (text_of (map (λ i. r_text (f i)) l)) ≤ 15 * length l
unfolding text_of
ended_r f [] h = omega arith
ended_r f (x ∷ l) h = omega (arith, length-append (r_text (f x)) (10 ∷ text_of (map (λ i. r_text (f i)) l)), r_short (f x) (h x), ended_r f l h)

pub name_short : (w : ℕ) (s : Suite) → SoundSuite w s → (i : ℕ) → length (test_name s i) ≤ 12
name_short w s h i = go (dec_lt i (test_count s))
  where
    go : Dec (i < test_count s) → length (test_name s i) ≤ 12
    go (yes k) = (name_sized _ (h.name_forms i k)).1
    go (no k) = subst (λ (n : Bytes). length n ≤ 12) (sym (get_or-eq_default s.names [] (let z : test_count s ≤ i = omega arith in z))) (omega arith)

-- How many edges and tests a sheet can list.
pub record Few (c : Sheet) : Type 0 where
  pub few_d : length c.D ≤ max_edges
  pub few_r : length c.R ≤ max_tests

lines_back : (suite : Suite) (w : ℕ) → SoundSuite w suite → (c : Sheet) → lines_of (sheet_text suite.names c) ≡ sheet_lines suite.names c ++ ([] ∷ [])
unfolding sheet_text
lines_back suite w h c = sheet_lines_lem w suite h c

pub sheet_short : (limit : ℕ) → limit ≤ max_pairs → (old new : Program) (suite : Suite) → Sound old → Sound new → (w : ℕ) → SoundSuite w suite → (c : Sheet) → SheetFollows limit old new suite c → Few c
    → length (sheet_text suite.names c) ≤ max_bytes
unfolding sheet_text sheet_lines
sheet_short limit most old new suite so sn w h c o f =
    let ms : List Bytes = map (λ x. m_text x.0 x.1) c.M in
    let ds : List Bytes = map d_text c.D in
    let rs : List Bytes = map (λ i. r_text (test_name suite i)) c.R in
    let es : List Bytes = end_text (length c.M) (length c.D) (length c.R) ∷ [] in
    let a : length (text_of ms) ≤ 10 * length c.M
    = ended_m c.M (λ n k t. (omega (arith, o.nodes n k t, so.few_nodes), omega (arith, o.nodes n k t, sn.few_nodes))) in
    let b : length (text_of ds) ≤ 7 * length c.D = ended_d c.D (λ e t. omega (arith, o.edges e t, so.few_edges)) in
    let d : length (text_of rs) ≤ 15 * length c.R = ended_r (test_name suite) c.R (name_short w suite h) in
    let e : length (text_of es) ≤ 19
    = omega (arith, ended_cons (end_text (length c.M) (length c.D) (length c.R)) [], end_short (length c.M) (length c.D) (length c.R) (omega (arith, most, o.few_pairs)) (omega (arith, f.few_d)) (omega (arith, f.few_r)), nothing_ended) in
    omega (
      arith,
      ended_cons head_text (ms ++ (ds ++ (rs ++ es))),
      ended_append ms (ds ++ (rs ++ es)),
      ended_append ds (rs ++ es),
      ended_append rs es,
      most,
      o.few_pairs,
      f.few_d,
      f.few_r,
    )

-- A sheet that keeps the order is read back from its text.
pub read_back : (limit : ℕ) → limit ≤ max_pairs → (old new : Program) (suite : Suite) → Sound old → Sound new → (w : ℕ) → SoundSuite w suite → (c : Sheet) → SheetFollows limit old new suite c → Few c
    → read_sheet limit old new suite (sheet_text suite.names c) ≡ accepted c
unfolding read_sheet read_text Goes
read_back limit most old new suite so sn w h c o f =
    unless_passes _ _ _ _ (le-ltb _ _ (sheet_short limit most old new suite so sn w h c o f))
    ∙ ap (read_lines (step_sheet limit old new suite) finish_sheet 1 0 no_sheet) (lines_back suite w h c)
    ∙ goes_all limit old new suite w h c o 1 0

-- The selector's sheet keeps the order.
module _ (limit : ℕ) (g : Given) (w : ℕ) (h : SoundSuite w g.suite) (few : length (pairs g.old g.new) ≤ limit) where
  pub chosen_orderly : SheetFollows limit g.old g.new g.suite (selected g.old g.new g.suite.coverages)
  unfolding selected dangers repeated
  chosen_orderly =
      record {
        few_pairs = few;
        ascends = pairs_ascend g.old g.new;
        nodes = pairs_inside g.old g.new;
        rises_d = those_rise _ _;
        edges = λ e t. (those_at _ _ e t).0;
        rises_r = those_rise _ _;
        tests = λ i t. omega (arith, (those_at _ _ i t).0, h.paired);
      }

  chosen_few : Sound g.old → Few (selected g.old g.new g.suite.coverages)
  unfolding selected dangers repeated
  chosen_few so =
      record {
        few_d = omega (arith, those_few (dangerous g.old g.new (pairs g.old g.new)) (edge_count g.old), so.few_edges);
        few_r = omega (arith, those_few (λ i. meets (dangers g.old g.new) (get_or g.suite.coverages i [])) (length g.suite.coverages), h.paired, h.few);
      }

  -- It is within the limit on bytes.
  pub selected_short : limit ≤ max_pairs → Sound g.old → Sound g.new → length (sheet_text g.suite.names (selected g.old g.new g.suite.coverages)) ≤ max_bytes
  selected_short most so sn = sheet_short limit most g.old g.new g.suite so sn w h (selected g.old g.new g.suite.coverages) chosen_orderly (chosen_few so)

-- The checker passes all that the selector writes.
pub written_passes : (old new tests : Bytes) (room : ℕ) (sheet : Bytes) → sheet_answer old new tests room ≡ wrote sheet
    → (check_answer old new tests sheet ≡ passed) × (length sheet ≤ max_bytes)
unfolding sheet_bytes
written_passes old new tests room sheet e =
    let u = sheet_wrote old new tests room sheet e in
    let g = u.0 in
    let n = known old new tests g u.1 in
    let c = selected g.old g.new g.suite.coverages in
    let h = n.suite_sound in
    let o = chosen_orderly max_pairs g _ h u.2 in
    let f = chosen_few max_pairs g _ h u.2 n.old_sound in (
      passed_check old new tests sheet g c u.1
          (subst (λ (b : Bytes). read_sheet max_pairs g.old g.new g.suite b ≡ accepted c) u.4 (read_back max_pairs (omega arith) g.old g.new g.suite n.old_sound n.new_sound _ h c o f))
          (selected_passes g.old g.new n.old_formed n.new_formed g.suite.coverages),
      subst (λ (b : Bytes). length b ≤ max_bytes) u.4 (selected_short max_pairs g _ h u.2 (omega arith) n.old_sound n.new_sound),
    )
