-- Where the tables hold what reading t leaves, the parts that they lead to in any text are those that stand there at the places of the names, labels, callees and words of t.
use Rattle.std.specs.Prelude.{◌≡◌, refl, true}
use Rattle.std.proofs.Math.Path.{sym, ap, ap₂, subst}
use Rattle.std.proofs.Common.{◌∙◌, add_assoc, add-zero, drop_of_length-le, length-append, length-take, drop-cons, take_all, eqb-true, eq-eqb, leb-true, ne_eqb}
use mathlib.Core.List.{List, [], ◌∷◌}
use Prim.Native.Nat.{ℕ, zero, suc, ◌+◌, ◌-◌, ◌*◌, ◌/◌, ◌%◌, ◌≤◌, ◌<◌, min}
use native.Mathlib.Omega.{arith}
use Rattle.std.proofs.Math.ListN.{length, get_or, take, drop}
use Rattle.std.proofs.Math.Seq.{drop-drop, take-nil}
use Rattle.laws.specs.TestLaws.{and_both, and_left, and_right, every_at, every_of, same_test}
use Rattle.laws.specs.Digits.{number}
use Rattle.laws.specs.Lists.{choose_no, choose_yes}
use Rattle.laws.specs.Slices.{below_or, same_or}
use Rattle.rules.specs.Text.{Bytes, all_bytes, between, is_callees, is_label, is_word, join_by, name_count, name_in as name_of, names_in, word_byte}
use Rattle.rules.specs.Graph.{C, E, Kind, S, X, callee_at, callee_count, callee_name, called, edge_count, kind_at, kind_number, label_at, name_at, node_count, proc_count, same_kind, word_at}
use Rattle.rules.specs.ProgramFile.{Listing, is_node}
use Rattle.rules.specs.WriteBack.{SameParts, callee_start, label_start, name_start, other_alone, word_start}
use Rattle.rules.proofs.TextLaws.{empty_true, join_split, name_sized, same_of, same_true, split_cons}
use Rattle.rules.proofs.GraphLaws.{called_below, called_name, same_kind_true}
use Rattle.rules.proofs.BackLaws.{alone_by_parts, other_self}
use Rattle.graph.specs.Keys.{digit_of, word_key}
use Rattle.graph.specs.Callees.{none_from, some_from}
use Rattle.graph.specs.Table.{callees_from, node_base, proc_base}
use Rattle.graph.specs.Reads.{part_at}
use Rattle.reader.specs.Result.{Count}
use Rattle.program.specs.Lent.{Counted}
use Rattle.versions.specs.Memory.{InMemory, memory}
use Rattle.versions.specs.MemoryLaws.{callees_are, key_is, kind_is, sound, well_formed}
use Rattle.versions.specs.Called.{callee_is, callees_on}
use Rattle.writeback.specs.Parts.{behind_label, callee_in, digits_of, label_in, name_in, name_long, name_same, names_long, node_same, parts_same, word_in, word_same}

-- ---- lengths

-- A part that is short enough is not cut.
cut_short : (m n : ℕ) (s : Bytes) → n ≤ m → take m (take n s) ≡ take n s
cut_short m n s h = take_all m (take n s) (omega (arith, length-take n s))

label_short : (s : Bytes) → is_label s ≡ true → length s ≤ 60
unfolding is_label between
label_short s h = leb-true (length s) 60 (and_right _ _ (and_left _ _ h))

none_short : (s : Bytes) (n : ℕ) → s ≡ [] → length s ≤ n
none_short s n e = rw e (omega arith)

its_label_short : (k : Kind) (a c : Bytes) → is_node k a c ≡ true → length a ≤ 60
unfolding is_node
its_label_short E a c h = none_short a 60 (empty_true a (and_left _ _ h))
its_label_short S a c h = label_short a (and_left _ _ h)
its_label_short C a c h = label_short a (and_left _ _ h)
its_label_short X a c h = none_short a 60 (empty_true a (and_left _ _ h))

-- A C has at most four callees.
few_callees : (k : Kind) (a c : Bytes) → k ≡ C → is_node k a c ≡ true → name_count c ≤ 4
unfolding is_node is_callees between
few_callees k a c e h = leb-true (name_count c) 4 (and_right _ _ (and_left _ _ (and_right _ _ (rw e at h))))

-- How long names are, each with the byte before it: as long as they are joined, and one byte.
long : List Bytes → ℕ
long [] = 0
long (p ∷ ps) = length p + 1 + long ps

long_joined : (b : ℕ) (p : Bytes) (ps : List Bytes) → long (p ∷ ps) ≡ length (join_by b (p ∷ ps)) + 1
unfolding long join_by
long_joined b p [] = omega arith
long_joined b p (q ∷ ps) = omega (arith, long_joined b q ps, length-append p (b ∷ join_by b (q ∷ ps)))

long_field : (c : Bytes) → long (names_in c) ≡ length c + 1
long_field c =
    let s = split_cons 43 c in
    ap long s.2 ∙ long_joined 43 s.0 s.1 ∙ ap (λ (ps : List Bytes). length (join_by 43 ps) + 1) (sym s.2) ∙ ap (λ (c : Bytes). length c + 1) (join_split 43 c)

-- A part that begins with one byte, without it.
after_one : (n : ℕ) (s : Bytes) → drop 1 (take (n + 1) s) ≡ take n (drop 1 s)
after_one n s = ap (λ (k : ℕ). drop 1 (take k s)) (let z : n + 1 ≡ suc n = omega arith in z) ∙ go s
  where
    go : (s : Bytes) → drop 1 (take (suc n) s) ≡ take n (drop 1 s)
    go [] = sym (take-nil n)
    go (x ∷ s) = refl

-- Only a C has a callee.
bare : (k : Kind) (a c : Bytes) → (kind_number k ≡ 2 → ⊥) → is_node k a c ≡ true → c ≡ []
unfolding is_node
bare E a c n h = empty_true c (and_right _ _ h)
bare S a c n h = empty_true c (and_right _ _ h)
bare C a c n h = absurd (n refl)
bare X a c n h = empty_true c (and_right _ _ h)

-- The key of a word has as many digits as the word has bytes.
digits_are : (k : ℕ) (w : Bytes) → length w ≤ k → all_bytes word_byte w ≡ true → digits_of k (word_key w) ≡ length w
unfolding digits_of number all_bytes
digits_are zero [] h b = refl
digits_are zero (x ∷ w) h b = absurd (let z : ⊥ = omega arith in z)
digits_are (suc k) [] h b = choose_yes _ _ refl
digits_are (suc k) (x ∷ w) h b =
    let d = digit_of x (and_left _ _ b) in
    let q : (word_key w * 256 + x) / 256 ≡ word_key w = omega (arith, d.0, d.1) in
    choose_no _ _ (ne_eqb (word_key w * 256 + x) 0 (omega (arith, d.0))) ∙ ap suc (ap (digits_of k) q ∙ digits_are k w (omega arith) (and_right _ _ b))

word_long : (w : Bytes) → is_word w ≡ true → digits_of 8 (word_key w) ≡ length w
unfolding is_word between
word_long w h = digits_are 8 w (leb-true (length w) 8 (and_right _ _ (and_left _ _ h))) (and_right _ _ h)

-- ---- the parts

module _ (t n l : List ℕ) (s : Listing) (h : InMemory (memory t n l) s) where
  module _ (x : Bytes) where
    pub name_cut : (q : ℕ) → q < proc_count s.program → name_in x l q ≡ take (length (name_at s.program q)) (drop (name_start s q) x)
    unfolding name_in part_at
    name_cut q b =
        ap (take 12)
        (ap₂ (λ (i j : ℕ). take i (drop j x)) (h.procs q b 1 (omega arith)) (ap (λ (k : ℕ). get_or l k 0) (sym (add-zero (proc_base q))) ∙ h.procs q b 0 (omega arith)))
        ∙ cut_short 12 (length (name_at s.program q)) (drop (name_start s q) x) (name_sized _ ((sound _ s h).name_forms q b)).1

    module _ (m : ℕ) (b : m < node_count s.program) where
      pub label_cut : label_in x n m ≡ take (length (label_at s.program m)) (drop (label_start s m) x)
      unfolding label_in part_at
      label_cut =
          ap (take 60)
          (ap₂ (λ (i j : ℕ). take i (drop j x)) (ap (λ (k : ℕ). get_or n k 0) (add_assoc (node_base m) 1 1) ∙ h.nodes m b 2 (omega arith)) (h.nodes m b 1 (omega arith)))
          ∙ cut_short 60 (length (label_at s.program m)) (drop (label_start s m) x) (its_label_short _ _ _ ((sound _ s h).node_forms m b))

      behind_is : behind_label x n m ≡ drop (label_start s m + length (label_at s.program m)) x
      unfolding behind_label
      behind_is =
          ap₂ (λ (i j : ℕ). drop i (drop j x)) (h.nodes m b 2 (omega arith)) (h.nodes m b 1 (omega arith)) ∙ drop-drop (length (label_at s.program m)) (label_start s m) x

      -- The names of the callees from i on, which the number v has.
      names_long_lem : kind_at s.program m ≡ C → (k i v : ℕ) → v ≡ callees_from s.program m i → callee_count s.program m ≤ i + k
          → names_long k l v ≡ long (drop i (names_in (callee_at s.program m)))
      unfolding names_long name_long name_count name_of long
      names_long_lem e zero i v ev few = ap long (sym (drop_of_length-le (names_in (callee_at s.program m)) {i = i} (omega arith)))
      names_long_lem e (suc k) i v ev few =
          below_or i (callee_count s.program m)
          (λ c.
          let w = well_formed _ s h in
          let pos = some_from s.program w m i b e c in
          let q = called_below s.program w m i in
          let name : get_or l (proc_base (v % 256 - 1) + 1) 0 ≡ length (callee_name s.program m i)
          = ap (λ (q : ℕ). get_or l (proc_base q + 1) 0) (callee_is t n l s h m i v ev (v % 256 - 1) refl) ∙ h.procs (called s.program m i) q 1 (omega arith) ∙ ap length (called_name s.program w m i b e c) in
          let short : length (callee_name s.program m i) ≤ 12
          = subst (λ (c : Bytes). length c ≤ 12) (called_name s.program w m i b e c) (name_sized _ ((sound _ s h).name_forms (called s.program m i) q)).1 in
          let rest = names_long_lem e k (suc i) (v / 256) (callees_on t n l s h m i v ev) (omega arith) in
          let one : min 12 (get_or l (proc_base (v % 256 - 1) + 1) 0) ≡ length (callee_name s.program m i) = omega arith in
          choose_no _ _ (ne_eqb v 0 (omega arith)) ∙ ap₂ (λ (x y : ℕ). x + 1 + y) one rest ∙ sym (ap long (drop-cons (names_in (callee_at s.program m)) i [] c)))
          (λ c.
          let z = none_from s.program m i c in
          choose_yes _ _ (eq-eqb v 0 (omega arith)) ∙ ap long (sym (drop_of_length-le (names_in (callee_at s.program m)) c)))

      callee_long : kind_at s.program m ≡ C → names_long 4 l (get_or n (node_base m + 3) 0) ≡ length (callee_at s.program m) + 1
      callee_long e =
          names_long_lem e 4 0 (get_or n (node_base m + 3) 0) (callees_are _ s h m b) (few_callees _ _ _ e ((sound _ s h).node_forms m b)) ∙ long_field (callee_at s.program m)

      pub callee_cut : callee_in x n l m ≡ take (length (callee_at s.program m)) (drop (callee_start s m) x)
      unfolding callee_in same_kind
      callee_cut =
          same_or (kind_number (kind_at s.program m)) 2
          (λ e.
          choose_yes _ _ (eq-eqb _ _ (kind_is _ s h m b ∙ e))
          ∙ ap₂ (λ (i : ℕ) (r : Bytes). drop 1 (take i r)) (callee_long (same_kind_true (kind_at s.program m) C (eq-eqb _ _ e))) behind_is
          ∙ after_one (length (callee_at s.program m)) (drop (label_start s m + length (label_at s.program m)) x)
          ∙ ap (take (length (callee_at s.program m))) (drop-drop 1 (label_start s m + length (label_at s.program m)) x))
          (λ e.
          choose_no _ _ (ne_eqb _ _ (λ d. e (sym (kind_is _ s h m b) ∙ d)))
          ∙ sym (ap (λ (c : Bytes). take (length c) (drop (callee_start s m) x)) (bare _ _ _ e ((sound _ s h).node_forms m b))))

    pub word_cut : (e : ℕ) → e < edge_count s.program → word_in x l e ≡ take (length (word_at s.program e)) (drop (word_start s e) x)
    unfolding word_in
    word_cut e b = ap₂ (λ (i j : ℕ). take i (drop j x)) (ap (digits_of 8) (key_is _ s h e b) ∙ word_long _ ((sound _ s h).word_forms e b)) (h.edges e b 1 (omega arith))

  -- ---- the same parts

  itself : SameParts t t s
  itself = (alone_by_parts t t s h.read).0 (other_self t s)

  module _ (had : Count) (c : Counted had s) (lent : Bytes) where
    same_parts : SameParts lent t s → parts_same lent t n l had ≡ true
    unfolding parts_same name_same node_same word_same
    same_parts p =
        let o = itself in
        and_both (eq-eqb _ _ (sym p.long))
        (and_both
        (every_of _ _ (λ q b. let d : q < proc_count s.program = omega (arith, c.procs_n) in same_of (name_cut lent q d ∙ p.names q d ∙ sym (name_cut t q d ∙ o.names q d))))
        (and_both
        (every_of _ _
        (λ m b.
        let d : m < node_count s.program = omega (arith, c.nodes_n) in
        and_both (same_of (label_cut lent m d ∙ p.labels m d ∙ sym (label_cut t m d ∙ o.labels m d)))
        (same_of (callee_cut lent m d ∙ p.callees m d ∙ sym (callee_cut t m d ∙ o.callees m d)))))
        (every_of _ _ (λ e b. let d : e < edge_count s.program = omega (arith, c.edges_n) in same_of (word_cut lent e d ∙ p.words e d ∙ sym (word_cut t e d ∙ o.words e d))))))

    parts_said : parts_same lent t n l had ≡ true → SameParts lent t s
    unfolding parts_same name_same node_same word_same
    parts_said y =
        let o = itself in
        let y1 = and_right _ _ y in
        let y2 = and_right _ _ y1 in
        record {
          long = sym (eqb-true _ _ (and_left _ _ y));
          names = λ q b. sym (name_cut lent q b) ∙ same_true _ _ (every_at _ _ (and_left _ _ y1) q (omega (arith, c.procs_n))) ∙ name_cut t q b ∙ o.names q b;
          labels = λ m b. sym (label_cut lent m b) ∙ same_true _ _ (and_left _ _ (every_at _ _ (and_left _ _ y2) m (omega (arith, c.nodes_n)))) ∙ label_cut t m b ∙ o.labels m b;
          callees = λ m b. sym (callee_cut lent m b) ∙ same_true _ _ (and_right _ _ (every_at _ _ (and_left _ _ y2) m (omega (arith, c.nodes_n)))) ∙ callee_cut t m b ∙ o.callees m b;
          words = λ e b. sym (word_cut lent e b) ∙ same_true _ _ (every_at _ _ (and_right _ _ y2) e (omega (arith, c.edges_n))) ∙ word_cut t e b ∙ o.words e b;
        }

    -- The test on the tables is the rules' test.
    pub parts_same_lem : parts_same lent t n l had ≡ other_alone lent t s
    parts_same_lem =
        let both = alone_by_parts lent t s h.read in
        same_test _ _ (λ y. both.1 (parts_said y)) (λ y. same_parts (both.0 y))
