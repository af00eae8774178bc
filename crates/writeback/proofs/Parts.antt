-- The turns and the returns of the functions that read numbers and parts, and that compare these.
use mathlib.Core.Path.{◌≡◌, refl, sym, ap, ap₂, ◌∙◌}
use mathlib.Core.Bool.{Bool, true, false}
use mathlib.Core.List.{List, []}
use Rattle.std.specs.Prelude.{Some, None}
use Prim.Native.Nat.{ℕ, zero, suc, ◌+◌, ◌-◌, ◌*◌, ◌/◌, ◌%◌, ◌^◌, ◌≤◌, ◌<◌, min}
use native.Mathlib.Nat.{zero-add}
use native.Mathlib.Omega.{arith}
use lib.Dec.{eqb}
use lib.ListN.{length, get_or, take, drop, length-drop, length-take}
use borrow.Author.Tests.{eq-eqb, ne_eqb}
use Rattle.laws.specs.Tests.{◌and◌, choose, every}
use Rattle.laws.specs.TestLaws.{both_ways, every_at, every_of, fails}
use Rattle.laws.specs.Lists.{choose_no, choose_yes}
use Rattle.laws.specs.Slices.{below_or}
use Rattle.rules.specs.Text.{same}
use Rattle.graph.specs.Table.{edge_base, node_base, proc_base}
use Rattle.graph.specs.Reads.{part_at}
use Rattle.reader.specs.Result.{Count}
use Rattle.versions.specs.Callees.{NextCallee}
use Rattle.writeback.specs.Parts.{AllBelow, behind_label, callee_in, digits_of, label_in, name_in, name_long, name_same, names_long, node_same, parts_same, word_in, word_same}

-- ---- numbers

digits_zero : (k : ℕ) → digits_of k 0 ≡ 0
unfolding digits_of
digits_zero zero = refl
digits_zero (suc k) = choose_yes _ _ refl

digits_more : (k v : ℕ) → (v ≡ 0 → ⊥) → digits_of (suc k) v ≡ suc (digits_of k (v / 256))
unfolding digits_of
digits_more k v h = choose_no _ _ (ne_eqb v 0 h)

pub digits_start : (v : ℕ) → digits_of 8 v ≡ 0 + digits_of (8 - 0) v
digits_start v = sym (zero-add (digits_of 8 v))

module _ (v n rest : ℕ) (inv : digits_of 8 v ≡ n + digits_of (8 - n) rest) where
  pub digits_end : rest ≡ 0 → n ≡ digits_of 8 v
  digits_end e = let z : digits_of (8 - n) rest ≡ 0 = ap (digits_of (8 - n)) e ∙ digits_zero (8 - n) in omega arith

  pub digits_on : n < 8 → (rest ≡ 0 → ⊥) → digits_of 8 v ≡ n + 1 + digits_of (8 - (n + 1)) (rest / 256)
  digits_on h e =
      let k : 8 - n ≡ suc (8 - (n + 1)) = omega arith in
      let z : digits_of (8 - n) rest ≡ suc (digits_of (8 - (n + 1)) (rest / 256)) = ap (λ (k : ℕ). digits_of k rest) k ∙ digits_more (8 - (n + 1)) rest e in
      omega arith

  pub digits_done : 8 ≤ n → n ≤ 8 → n ≡ digits_of 8 v
  unfolding digits_of
  digits_done h l = let k : 8 - n ≡ 0 = omega arith in let z : digits_of (8 - n) rest ≡ 0 = ap (λ (k : ℕ). digits_of k rest) k in omega arith

pub ruleset numbers = (digits_start, digits_end, digits_on, digits_done)

-- ---- `name_long`, `names_long`

pub long_is : (l : List ℕ) (q len : ℕ) → len ≡ get_or l (proc_base q + 1) 0 → min 12 len ≡ name_long l q
unfolding name_long
long_is l q len e = ap (min 12) e

none_long : (l : List ℕ) (v : ℕ) → names_long 0 l v ≡ 0
unfolding names_long
none_long l v = refl

long_zero : (k : ℕ) (l : List ℕ) → names_long k l 0 ≡ 0
unfolding names_long
long_zero zero l = refl
long_zero (suc k) l = choose_yes _ _ refl

long_more : (k : ℕ) (l : List ℕ) (v : ℕ) → (v ≡ 0 → ⊥) → names_long (suc k) l v ≡ name_long l (v % 256 - 1) + 1 + names_long k l (v / 256)
unfolding names_long
long_more k l v h = choose_no _ _ (ne_eqb v 0 h)

-- The length of the names so far is known; those left are the digits of rest, at most n of them.
pub record LongTo (l : List ℕ) (v rest len n : ℕ) : Type 0 where
  pub few : len + 13 * n ≤ 52
  pub is : names_long 4 l v ≡ len + names_long n l rest

pub long_start : (l : List ℕ) (v : ℕ) → LongTo l v v 0 4
long_start l v = record { few = omega arith; is = sym (zero-add (names_long 4 l v)) }

module _ (l : List ℕ) (v rest len n : ℕ) (inv : LongTo l v rest len n) where
  pub long_end : (rest' : ℕ) → (0 < n → NextCallee rest None rest') → len ≡ names_long 4 l v
  long_end rest' e =
      below_or 0 n (λ h. let z : names_long n l rest ≡ 0 = ap (names_long n l) (e h).0 ∙ long_zero n l in omega (arith, inv.is))
      (λ h. let k : n ≡ 0 = omega arith in let z : names_long n l rest ≡ 0 = ap (λ (k : ℕ). names_long k l rest) k ∙ none_long l rest in omega (arith, inv.is))

  module _ (q one rest' n' : ℕ) (next : NextCallee rest (Some q) rest') (h : n' + 1 ≡ n) (eo : one ≡ name_long l q) (small : one ≤ 12) where
    pub long_room : len + (one + 1) < 2 ^ 64
    long_room = omega (arith, inv.few)

    pub long_on : LongTo l v rest' (len + (one + 1)) n'
    long_on =
        let k : n ≡ suc n' = omega arith in
        let z : names_long n l rest ≡ name_long l (rest % 256 - 1) + 1 + names_long n' l (rest / 256)
        = ap (λ (k : ℕ). names_long k l rest) k ∙ long_more n' l rest (λ e. let y : ⊥ = omega (arith, next.0) in y) in
        let y : name_long l (rest % 256 - 1) ≡ one = sym (eo ∙ ap (name_long l) next.1) in
        let x : names_long n' l rest' ≡ names_long n' l (rest / 256) = ap (names_long n' l) next.2 in
        record { few = omega (arith, inv.few); is = omega (arith, inv.is) }

pub ruleset longs = (long_is, long_start, long_end, long_room, long_on)

-- ---- parts

module _ (t l s r : List ℕ) (i : ℕ) where
  pub name_of : s ≡ part_at t l (proc_base i) → r ≡ take 12 s → r ≡ name_in t l i
  unfolding name_in
  name_of e f = f ∙ ap (take 12) e

  pub label_of : s ≡ part_at t l (node_base i + 1) → r ≡ take 60 s → r ≡ label_in t l i
  unfolding label_in
  label_of e f = f ∙ ap (take 60) e

module _ (t n l : List ℕ) (m k : ℕ) (ek : k ≡ get_or n (node_base m) 0) where
  pub callee_none : (r : List ℕ) → (k ≡ 2 → ⊥) → r ≡ take 0 t → r ≡ callee_in t n l m
  unfolding callee_in
  callee_none r h e = e ∙ sym (choose_no _ _ (ne_eqb _ _ (λ x. h (ek ∙ x))))

  pub callee_of : (a b p r : List ℕ) (v len i j : ℕ) → k ≡ 2 → v ≡ get_or n (node_base m + 3) 0 → len ≡ names_long 4 l v → i ≡ get_or n (node_base m + 1) 0 → a ≡ drop i t
      → j ≡ get_or n (node_base m + 2) 0 → b ≡ drop j a → p ≡ take len b → r ≡ drop 1 p → r ≡ callee_in t n l m
  unfolding callee_in behind_label
  callee_of a b p r v len i j h ev el ei ea ej eb ep er =
      let x : r ≡ drop 1 (take (names_long 4 l (get_or n (node_base m + 3) 0)) (drop (get_or n (node_base m + 2) 0) (drop (get_or n (node_base m + 1) 0) t))) = simp (er, ep, eb, ej, ea, ei, el, ev) in
      x ∙ sym (choose_yes _ _ (eq-eqb _ _ (sym ek ∙ h)))

pub word_of : (t l r : List ℕ) (e key len i : ℕ) → key ≡ get_or l (edge_base e + 2) 0 → len ≡ digits_of 8 key → i ≡ get_or l (edge_base e + 1) 0 → r ≡ take len (drop i t) → r ≡ word_in t l e
unfolding word_in
word_of t l r e key len i ek el ei er = er ∙ ap₂ (λ (a b : ℕ). take a (drop b t)) (el ∙ ap (digits_of 8) ek) ei

-- How long they are at most.
take_short : (n : ℕ) (s : List ℕ) → n ≤ 60 → length (take n s) ≤ 60
take_short n s h = omega (arith, length-take n s)

choose_short : (b : Bool) (s : List ℕ) → length s ≤ 60 → length (choose b s []) ≤ 60
unfolding choose
choose_short true s h = h
choose_short false s h = omega arith

digits_few : (k v : ℕ) → digits_of k v ≤ k
unfolding digits_of choose
digits_few zero v = omega arith
digits_few (suc k) v = go (eqb v 0) (digits_few k (v / 256))
  where
    go : (b : Bool) {n : ℕ} → n ≤ k → choose b 0 (suc n) ≤ suc k
    go true h = omega arith
    go false h = omega arith

pub name_short : (t l r : List ℕ) (q : ℕ) → r ≡ name_in t l q → length r ≤ 60
unfolding name_in
name_short t l r q e = rw e (take_short 12 (part_at t l (proc_base q)) (omega arith))

pub label_short : (t n r : List ℕ) (m : ℕ) → r ≡ label_in t n m → length r ≤ 60
unfolding label_in
label_short t n r m e = rw e (take_short 60 (part_at t n (node_base m + 1)) (omega arith))

names_few : (k : ℕ) (l : List ℕ) (v : ℕ) → names_long k l v ≤ 13 * k
unfolding names_long name_long choose
names_few zero l v = omega arith
names_few (suc k) l v = go (eqb v 0) (names_few k l (v / 256))
  where
    go : (b : Bool) {n : ℕ} → n ≤ 13 * k → choose b 0 (min 12 (get_or l (proc_base (v % 256 - 1) + 1) 0) + 1 + n) ≤ 13 * suc k
    go true h = omega arith
    go false h = omega arith

pub callee_short : (t n l r : List ℕ) (m : ℕ) → r ≡ callee_in t n l m → length r ≤ 60
unfolding callee_in
callee_short t n l r m e =
    rw e (choose_short _ _
    (let c = names_few 4 l (get_or n (node_base m + 3) 0) in
    let s = take (names_long 4 l (get_or n (node_base m + 3) 0)) (behind_label t n m) in
    let a : length s ≤ 60 = take_short (names_long 4 l (get_or n (node_base m + 3) 0)) (behind_label t n m) (omega arith) in
    omega (arith, length-drop 1 s)))

pub word_short : (t l r : List ℕ) (e : ℕ) → r ≡ word_in t l e → length r ≤ 60
unfolding word_in
word_short t l r e w = rw w (take_short (digits_of 8 (get_or l (edge_base e + 2) 0)) (drop (get_or l (edge_base e + 1) 0) t) (omega (arith, digits_few 8 (get_or l (edge_base e + 2) 0))))

pub ruleset parts = (name_of, label_of, callee_none, callee_of, word_of, name_short, label_short, callee_short, word_short)

-- ---- the same parts

module _ (a b l x y : List ℕ) (i : ℕ) (r : Bool) (er : r ≡ same x y) where
  pub name_same_lem : x ≡ name_in a l i → y ≡ name_in b l i → r ≡ name_same a b l i
  unfolding name_same
  name_same_lem ex ey = er ∙ ap₂ same ex ey

  pub word_same_lem : x ≡ word_in a l i → y ≡ word_in b l i → r ≡ word_same a b l i
  unfolding word_same
  word_same_lem ex ey = er ∙ ap₂ same ex ey

module _ (a b n l x y : List ℕ) (m : ℕ) (t : Bool) (ex : x ≡ label_in a n m) (ey : y ≡ label_in b n m) (et : t ≡ same x y) where
  pub node_differs : t ≡ false → false ≡ node_same a b n l m
  unfolding node_same ◌and◌
  node_differs h = let z : same (label_in a n m) (label_in b n m) ≡ false = sym (ap₂ same ex ey) ∙ sym et ∙ h in sym (ap (λ (s : Bool). s and same (callee_in a n l m) (callee_in b n l m)) z)

  pub node_same_lem : (c d : List ℕ) (r : Bool) → t ≡ true → c ≡ callee_in a n l m → d ≡ callee_in b n l m → r ≡ same c d → r ≡ node_same a b n l m
  unfolding node_same ◌and◌
  node_same_lem c d r h ec ed er =
      let z : same (label_in a n m) (label_in b n m) ≡ true = sym (ap₂ same ex ey) ∙ sym et ∙ h in
      er ∙ ap₂ same ec ed ∙ sym (ap (λ (s : Bool). s and same (callee_in a n l m) (callee_in b n l m)) z)

-- Every number below n passes, where the answers are those of f.
pub every_told : (post : ℕ → Bool → Type 0) (f : ℕ → Bool) (n : ℕ) (r : Bool) → ((i : ℕ) (t : Bool) → post i t → t ≡ f i) → AllBelow post n r → r ≡ every n f
every_told post f n true h a = sym (every_of f n (λ i l. sym (h i true (a.passes refl i l))))
every_told post f n false h a = let r = a.stops refl in sym (fails _ (λ b. both_ways (every_at f n b r.0 r.1) (sym (h r.0 false r.2))))

-- The whole test, by the order in which it is made.
module _ (a b n l : List ℕ) (had : Count) where
  pub longer : (length a ≡ length b → ⊥) → false ≡ parts_same a b n l had
  unfolding parts_same ◌and◌
  longer h =
      sym
      (ap (λ (t : Bool). t and every had.procs (name_same a b l) and every had.nodes (node_same a b n l) and every had.edges (word_same a b l)) (ne_eqb _ _ h))

  module _ (h : length a ≡ length b) (t : Bool) (et : t ≡ every had.procs (name_same a b l)) where
    pub names_differ : t ≡ false → false ≡ parts_same a b n l had
    unfolding parts_same ◌and◌
    names_differ y = sym (ap₂ (λ (s u : Bool). s and u and every had.nodes (node_same a b n l) and every had.edges (word_same a b l)) (eq-eqb _ _ h) (sym et ∙ y))

    module _ (u : Bool) (eu : u ≡ every had.nodes (node_same a b n l)) (y : t ≡ true) where
      first_two : parts_same a b n l had ≡ (u and every had.edges (word_same a b l))
      unfolding parts_same ◌and◌
      first_two =
          ap₂ (λ (s v : Bool). s and v and every had.nodes (node_same a b n l) and every had.edges (word_same a b l)) (eq-eqb _ _ h) (sym et ∙ y)
          ∙ ap (λ (v : Bool). v and every had.edges (word_same a b l)) (sym eu)

      pub nodes_differ : u ≡ false → false ≡ parts_same a b n l had
      unfolding ◌and◌
      nodes_differ z = sym (first_two ∙ ap (λ (v : Bool). v and every had.edges (word_same a b l)) z)

      pub words_decide : (r : Bool) → u ≡ true → r ≡ every had.edges (word_same a b l) → r ≡ parts_same a b n l had
      unfolding ◌and◌
      words_decide r z er = er ∙ sym (first_two ∙ ap (λ (v : Bool). v and every had.edges (word_same a b l)) z)

pub ruleset tests = (name_same_lem, word_same_lem, node_differs, node_same_lem, longer, names_differ, nodes_differ, words_decide)
