-- Laws of a set of pairs in a table: the pairs by index, the chains as the code walks them, the bits, the empty table, one pair more, one dangerous edge more.
use Rattle.std.specs.Prelude.{◌≡◌, Bool, true, false, length, get_or, set}
use Rattle.std.proofs.Math.Path.{refl, sym, ap, ap₂}
use Rattle.std.proofs.Common.{◌∙◌, subst, not-suc-le-zero, add-one, get_or-set_same}
use mathlib.Core.List.{List, [], ◌∷◌, ◌++◌}
use Prim.Native.Nat.{ℕ, zero, suc, ◌+◌, ◌*◌, ◌/◌, ◌%◌, ◌≤◌, ◌<◌}
use native.Mathlib.Omega.{arith}
use borrow.Author.Tests.{eqb-true, eq-eqb, ne_eqb, lt-ltb, le-ltb, le-leb, lt-leb}
use Rattle.std.proofs.Math.Dec.{eqb, ltb}
use Rattle.std.proofs.Math.ListN.{length-set}
use Rattle.std.proofs.lemmas.List.Edits.{sets}
use Rattle.std.proofs.Math.Seq.{length-sets, get_or-set_other}
use Rattle.laws.specs.Tests.{◌and◌, ◌or◌, every, any, listed, all_pairs}
use Rattle.laws.specs.TestLaws.{and_assoc, and_both, and_ends, and_left, and_not, and_right, any_at, any_of_lem, fails, or_assoc, or_ends, or_swap}
use Rattle.laws.specs.Lists.{choose_yes, choose_no, snoc_length}
use Rattle.laws.specs.Slices.{below_or, same_or, get_d_sets_before, get_d_sets_in}
use Rattle.laws.specs.Bits.{bit_at, bit_in, bit_none}
use Rattle.laws.specs.BitSets.{bit_with, with_bit, word_bit}
use Rattle.laws.specs.Chain.{latest, latest_agree, latest_none, Chained, chain_none, chain_more, link_le}
use Rattle.pairset.specs.Store.{danger_bit, danger_in, danger_word, pair_base, pair_bit, head_at, old_at, new_at, link_at, pairs_in, Store, last_pair, pair_before}

-- ---- lists of pairs with one more

module _ (x : ℕ × ℕ) where
  pub listed_snoc : (l : List (ℕ × ℕ)) (n k : ℕ) → listed (l ++ (x ∷ [])) n k ≡ (listed l n k or (eqb x.0 n and eqb x.1 k))
  unfolding listed ◌or◌
  listed_snoc [] n k = or_ends (eqb x.0 n and eqb x.1 k)
  listed_snoc (y ∷ l) n k = ap (λ (t : Bool). (eqb y.0 n and eqb y.1 k) or t) (listed_snoc l n k) ∙ or_assoc (eqb y.0 n and eqb y.1 k) (listed l n k) (eqb x.0 n and eqb x.1 k)

  module _ (f : ℕ → ℕ → Bool) where
    pub all_pairs_snoc : (l : List (ℕ × ℕ)) → all_pairs f (l ++ (x ∷ [])) ≡ (all_pairs f l and f x.0 x.1)
    unfolding all_pairs ◌and◌
    all_pairs_snoc [] = and_ends (f x.0 x.1)
    all_pairs_snoc (y ∷ l) = ap (λ (t : Bool). f y.0 y.1 and t) (all_pairs_snoc l) ∙ and_assoc (f y.0 y.1) (all_pairs f l) (f x.0 x.1)

-- ---- the pairs by index

module _ (w : List ℕ) where
  pub pairs_count : (c : ℕ) → length (pairs_in w c) ≡ c
  unfolding pairs_in
  pairs_count zero = refl
  pairs_count (suc c) = snoc_length (0, 0) (pairs_in w c) (old_at w c, new_at w c) ∙ ap suc (pairs_count c)

  -- Every pair passes f.
  pub all_pairs_lem : (f : ℕ → ℕ → Bool) (c : ℕ) → all_pairs f (pairs_in w c) ≡ every c (λ k. f (old_at w k) (new_at w k))
  unfolding pairs_in all_pairs every
  all_pairs_lem f zero = refl
  all_pairs_lem f (suc c) = all_pairs_snoc (old_at w c, new_at w c) f (pairs_in w c) ∙ ap (λ (t : Bool). t and f (old_at w c) (new_at w c)) (all_pairs_lem f c)

  -- (a, b) is one of the pairs, as a test of all of them.
  pub pair_listed : (a b c : ℕ) → listed (pairs_in w c) a b ≡ any c (λ k. eqb (old_at w k) a and eqb (new_at w k) b)
  unfolding pairs_in listed any
  pair_listed a b zero = refl
  pair_listed a b (suc c) =
      listed_snoc (old_at w c, new_at w c) (pairs_in w c) a b ∙ ap (λ (t : Bool). t or (eqb (old_at w c) a and eqb (new_at w c) b)) (pair_listed a b c)

  -- The pair k is listed, and what is listed is a pair k.
  pub listed_of : (a b c k : ℕ) → k < c → old_at w k ≡ a → new_at w k ≡ b → listed (pairs_in w c) a b ≡ true
  listed_of a b c k h p q = pair_listed a b c ∙ any_of_lem (λ k. eqb (old_at w k) a and eqb (new_at w k) b) c k h (and_both (eq-eqb _ _ p) (eq-eqb _ _ q))

  pub listed_at : (a b c : ℕ) → listed (pairs_in w c) a b ≡ true → (k : ℕ) × (k < c) × (old_at w k ≡ a) × (new_at w k ≡ b)
  listed_at a b c e =
      let r = any_at (λ k. eqb (old_at w k) a and eqb (new_at w k) b) c (sym (pair_listed a b c) ∙ e) in
      (r.0, r.1, eqb-true _ _ (and_left _ _ r.2), eqb-true _ _ (and_right _ _ r.2))

  -- Tables that agree on the first c pairs have the same pairs.
  pub pairs_agree : (v : List ℕ) (c : ℕ) → ((k : ℕ) → k < c → old_at w k ≡ old_at v k) → ((k : ℕ) → k < c → new_at w k ≡ new_at v k) → pairs_in w c ≡ pairs_in v c
  unfolding pairs_in
  pairs_agree v zero p q = refl
  pairs_agree v (suc c) p q =
      let r = pairs_agree v c (λ k h. p k (omega arith)) (λ k h. q k (omega arith)) in
      let x = p c (omega arith) in
      let y = q c (omega arith) in
      ap₂ (λ (l : List (ℕ × ℕ)) (z : ℕ × ℕ). l ++ (z ∷ [])) r (λ i. (x i, y i))

-- ---- the chains, as the code walks them

pub before_le : (w : List ℕ) (k : ℕ) → pair_before w k ≤ k
unfolding pair_before
before_le w k =
    below_or k (link_at w k)
    (λ h. omega (arith, choose_no (link_at w k) 0 (lt-leb (link_at w k) k h)))
    (λ h. omega (arith, choose_yes (link_at w k) 0 (le-leb (link_at w k) k h)))

module _ {w : List ℕ} {c : ℕ} (s : Store w c) where
  pub last_is : (a : ℕ) → last_pair w a ≡ latest (old_at w) a c
  unfolding last_pair
  last_is a =
      below_or a 512
      (λ h. choose_yes _ _ (lt-ltb a 512 h) ∙ s.chains.top a h)
      (λ h. choose_no _ _ (le-ltb a 512 h) ∙ sym (latest_none (old_at w) a c (λ i l e. omega (arith, s.inside i l))))

  pub before_is : (k : ℕ) → k < c → pair_before w k ≡ latest (old_at w) (old_at w k) k
  unfolding pair_before
  before_is k h = choose_yes (link_at w k) 0 (le-leb _ k (link_le s.chains k h)) ∙ s.chains.link k h

  -- For whatever old nodes, so that a walk needs no bound.
  pub walked : (n : ℕ) → Chained (old_at w) n c (last_pair w) (pair_before w)
  walked n = record { top = λ a h. last_is a; link = before_is }

-- ---- the bits

-- Only numbers below 512 are listed.
pub listed_inside : {w : List ℕ} {c : ℕ} → Store w c → (a b : ℕ) → listed (pairs_in w c) a b ≡ true → (a < 512) × (b < 512)
listed_inside {w} {c} s a b e =
    let r = listed_at w a b c e in
    (omega (arith, s.inside r.0 r.1, r.2), omega (arith, s.new_inside r.0 r.1, r.3))

-- ---- the empty table

-- A table whose heads and bits are 0.
module _ (w : List ℕ) (h : pair_base ≤ length w) (z : (k : ℕ) → k < pair_base → get_or w k 0 ≡ 0) where
  zero_bit : (e : ℕ) → e < 64 * pair_base → bit_in w e ≡ false
  unfolding bit_in
  zero_bit e l = ap (λ (x : ℕ). bit_at x (e % 64)) (z (e / 64) (omega arith)) ∙ bit_none (e % 64)

  pub store_none : Store w 0
  unfolding pairs_in listed
  store_none =
      record {
        room = omega arith;
        inside = λ k l. absurd (not-suc-le-zero l);
        new_inside = λ k l. absurd (not-suc-le-zero l);
        chains = chain_none _ _ _ _ (λ a l. z a (omega arith));
        bits = λ x y l m. zero_bit (pair_bit x y) (omega arith);
      }

  pub no_dangers : (e : ℕ) → danger_in w e ≡ false
  unfolding danger_in ◌and◌
  no_dangers e =
      below_or e 1024
      (λ l. ap (λ (t : Bool). ltb e 1024 and t) (zero_bit (danger_bit e) (omega arith)) ∙ and_not (ltb e 1024))
      (λ l. ap (λ (t : Bool). t and bit_in w (danger_bit e)) (le-ltb e 1024 l))

pub no_pairs : (w : List ℕ) → pairs_in w 0 ≡ []
unfolding pairs_in
no_pairs w = refl

-- ---- one pair more

module _ (w : List ℕ) (c a b : ℕ) where
  -- The table with the pair (a, b) behind c others: its row, its bit, its head.
  abbrev row : List ℕ
  row = a ∷ b ∷ last_pair w a ∷ []

  abbrev u : List ℕ
  u = sets w (pair_base + 3 * c) row

  abbrev pub more : List ℕ
  more = set (with_bit u (pair_bit a b)) a (c + 1)

  with_length : length (with_bit u (pair_bit a b)) ≡ length w
  unfolding with_bit
  with_length = length-set u (pair_bit a b / 64) _ ∙ length-sets w (pair_base + 3 * c) row

  pub more_length : length more ≡ length w
  more_length = length-set (with_bit u (pair_bit a b)) a (c + 1) ∙ with_length

  module _ (s : Store w c) (an : a < 512) (bn : b < 512) (room : pair_base + 3 * (c + 1) ≤ length w) where
    -- Where nothing but the row can have changed.
    more_at : (i : ℕ) → (i ≡ a → ⊥) → (i ≡ 512 + 8 * a + b / 64 → ⊥) → get_or more i 0 ≡ get_or u i 0
    unfolding with_bit
    more_at i e f =
        get_or-set_other (with_bit u (pair_bit a b)) a i (c + 1) 0 e
        ∙ get_or-set_other u (pair_bit a b / 64) i _ 0 (λ q. f (let z : i ≡ 512 + 8 * a + b / 64 = omega arith in z))

    more_head : head_at more a ≡ c + 1
    more_head = get_or-set_same (with_bit u (pair_bit a b)) a (c + 1) 0 (omega (arith, with_length))

    -- The heads; what stands below the row, and the row.
    other_head : (x : ℕ) → x < 512 → (x ≡ a → ⊥) → head_at more x ≡ head_at w x
    other_head x h e = more_at x e (λ q. let z : ⊥ = omega arith in z) ∙ get_d_sets_before row w (pair_base + 3 * c) x 0 (omega arith)

    under : (i : ℕ) → 4608 ≤ i → i < pair_base + 3 * c → get_or more i 0 ≡ get_or w i 0
    under i l h =
        more_at i (λ q. let z : ⊥ = omega arith in z) (λ q. let z : ⊥ = omega arith in z) ∙ get_d_sets_before row w (pair_base + 3 * c) i 0 h

    inside_row : (i k : ℕ) → k < 3 → i ≡ pair_base + 3 * c + k → get_or more i 0 ≡ get_or row k 0
    inside_row i k h e =
        more_at i (λ q. let z : ⊥ = omega arith in z) (λ q. let z : ⊥ = omega arith in z)
        ∙ ap (λ (j : ℕ). get_or u j 0) e
        ∙ get_d_sets_in row w (pair_base + 3 * c) k 0 (omega arith) h

    old_under : (k : ℕ) → k < c → old_at more k ≡ old_at w k
    old_under k h = under (pair_base + 3 * k) (omega arith) (omega arith)

    new_under : (k : ℕ) → k < c → new_at more k ≡ new_at w k
    new_under k h = under (pair_base + 1 + 3 * k) (omega arith) (omega arith)

    old_more : old_at more c ≡ a
    old_more = inside_row (pair_base + 3 * c) 0 (omega arith) (omega arith)

    new_more : new_at more c ≡ b
    new_more = inside_row (pair_base + 1 + 3 * c) 1 (omega arith) (omega arith)

    link_more : link_at more c ≡ head_at w a
    unfolding last_pair
    link_more = inside_row (pair_base + 2 + 3 * c) 2 (omega arith) (omega arith) ∙ choose_yes _ _ (lt-ltb a 512 an)

    pub pairs_more : pairs_in more (c + 1) ≡ pairs_in w c ++ ((a, b) ∷ [])
    unfolding pairs_in
    pairs_more =
        ap (pairs_in more) (add-one c)
        ∙ ap₂ (λ (l : List (ℕ × ℕ)) (z : ℕ × ℕ). l ++ (z ∷ [])) (pairs_agree more w c old_under new_under) (λ i. (old_more i, new_more i))

    -- The bit of (a, b) is set, and the others are as they were.
    bit_of : (x y : ℕ) → x < 512 → y < 512 → bit_in more (pair_bit x y) ≡ (eqb (pair_bit a b) (pair_bit x y) or bit_in w (pair_bit x y))
    unfolding bit_in ◌or◌
    bit_of x y xn yn =
        ap (λ (n : ℕ). bit_at n (pair_bit x y % 64)) (get_or-set_other (with_bit u (pair_bit a b)) a (pair_bit x y / 64) (c + 1) 0 (λ q. let z : ⊥ = omega arith in z))
        ∙ bit_with u (pair_bit a b) (pair_bit x y) (omega (arith, length-sets w (pair_base + 3 * c) row))
        ∙ ap (λ (n : ℕ). eqb (pair_bit a b) (pair_bit x y) or bit_at n (pair_bit x y % 64)) (get_d_sets_before row w (pair_base + 3 * c) (pair_bit x y / 64) 0 (omega arith))

    -- The bits of two pairs are one bit just where the pairs are one.
    same_bit : (x y : ℕ) → x < 512 → y < 512 → eqb (pair_bit a b) (pair_bit x y) ≡ (eqb a x and eqb b y)
    same_bit x y xn yn =
        same_or (pair_bit a b) (pair_bit x y)
        (λ e. eq-eqb _ _ e ∙ sym (and_both (eq-eqb a x (omega arith)) (eq-eqb b y (omega arith))))
        (λ e.
        ne_eqb _ _ e
        ∙ sym (fails _ (λ t.
        let p : a ≡ x = eqb-true _ _ (and_left _ _ t) in
        let q : b ≡ y = eqb-true _ _ (and_right _ _ t) in
        e (ap₂ pair_bit p q))))

    bits_more : (x y : ℕ) → x < 512 → y < 512 → bit_in more (pair_bit x y) ≡ listed (pairs_in more (c + 1)) x y
    bits_more x y xn yn =
        bit_of x y xn yn
        ∙ ap₂ (λ (t v : Bool). t or v) (same_bit x y xn yn) (s.bits x y xn yn)
        ∙ or_swap (eqb a x and eqb b y) (listed (pairs_in w c) x y)
        ∙ sym (ap (λ (l : List (ℕ × ℕ)). listed l x y) pairs_more ∙ listed_snoc (a, b) (pairs_in w c) x y)

    -- What holds of the nodes of the first c pairs, and of the new one, holds of all.
    all_more : (f : List ℕ → ℕ → ℕ) (n : ℕ) → ((k : ℕ) → k < c → f more k ≡ f w k) → ((k : ℕ) → k < c → f w k < 512) → f more c ≡ n → n < 512
        → (k : ℕ) → k < c + 1 → f more k < 512
    all_more f n same below last h k l =
        same_or k c (λ e. subst (λ (j : ℕ). f more j < 512) (sym e) (omega arith)) (λ e. omega (arith, same k (omega arith), below k (omega arith)))

    pub store_more : Store more (c + 1)
    store_more =
        record {
          room = omega (arith, more_length);
          inside = all_more old_at a old_under s.inside old_more an;
          new_inside = all_more new_at b new_under s.new_inside new_more bn;
          chains =
              chain_more s.chains (λ i h. sym (old_under i h)) old_more an more_head other_head link_more
              (λ i h. under (pair_base + 2 + 3 * i) (omega arith) (omega arith));
          bits = bits_more;
        }

    pub dangers_stay : (e : ℕ) → danger_in more e ≡ danger_in w e
    unfolding danger_in bit_in ◌and◌
    dangers_stay e =
        below_or e 1024
        (λ h. ap (λ (n : ℕ). ltb e 1024 and bit_at n (danger_bit e % 64)) (under (danger_bit e / 64) (omega arith) (omega arith)))
        (λ h. rw (le-ltb e 1024 h) refl)

-- ---- the dangerous edges

pub danger_bit_lem : (w : List ℕ) (e : ℕ) → e < 1024 → bit_at (danger_word w (e / 64)) (e % 64) ≡ danger_in w e
unfolding danger_in ◌and◌
danger_bit_lem w e h =
    let q : 64 * (4608 + e / 64) + e % 64 ≡ danger_bit e = omega arith in
    sym (word_bit w (4608 + e / 64) (e % 64) (omega arith)) ∙ ap (bit_in w) q ∙ sym (ap (λ (t : Bool). t and bit_in w (danger_bit e)) (lt-ltb e 1024 h))

-- ---- one dangerous edge more

module _ (w : List ℕ) (e : ℕ) where
  -- The table with the bit of the old edge e.
  abbrev pub marked : List ℕ
  marked = with_bit w (danger_bit e)

  pub marked_length : length marked ≡ length w
  unfolding with_bit
  marked_length = length-set w (danger_bit e / 64) _

  module _ (c : ℕ) (s : Store w c) (h : e < 1024) where
    -- Where the table stays: outside the 16 words.
    stays : (i : ℕ) → (i ≡ 4608 + e / 64 → ⊥) → get_or marked i 0 ≡ get_or w i 0
    unfolding with_bit
    stays i n = get_or-set_other w (danger_bit e / 64) i _ 0 (λ q. n (let z : i ≡ 4608 + e / 64 = omega arith in z))

    pub old_stays : (k : ℕ) → old_at marked k ≡ old_at w k
    old_stays k = stays (pair_base + 3 * k) (λ q. let z : ⊥ = omega arith in z)

    pub new_stays : (k : ℕ) → new_at marked k ≡ new_at w k
    new_stays k = stays (pair_base + 1 + 3 * k) (λ q. let z : ⊥ = omega arith in z)

    pub store_marked : Store marked c
    unfolding bit_in
    store_marked =
        record {
          room = omega (arith, s.room, marked_length);
          inside = λ k l. omega (arith, old_stays k, s.inside k l);
          new_inside = λ k l. omega (arith, new_stays k, s.new_inside k l);
          chains = record {
            top = λ a l.
                stays a (λ q. let z : ⊥ = omega arith in z) ∙ s.chains.top a l ∙ latest_agree (old_at w) (old_at marked) a c (λ i _. sym (old_stays i));
            link = λ k l.
                stays (pair_base + 2 + 3 * k) (λ q. let z : ⊥ = omega arith in z)
                ∙ s.chains.link k l
                ∙ ap (λ (a : ℕ). latest (old_at w) a k) (sym (old_stays k))
                ∙ latest_agree (old_at w) (old_at marked) (old_at marked k) k (λ i _. sym (old_stays i));
          };
          bits = λ a b l m.
              ap (λ (n : ℕ). bit_at n (pair_bit a b % 64)) (stays (pair_bit a b / 64) (λ q. let z : ⊥ = omega arith in z))
              ∙ s.bits a b l m
              ∙ ap (λ (p : List (ℕ × ℕ)). listed p a b) (pairs_agree w marked c (λ k _. sym (old_stays k)) (λ k _. sym (new_stays k)));
        }

    pub danger_more : (i : ℕ) → danger_in marked i ≡ (eqb e i or danger_in w i)
    unfolding danger_in ◌and◌ ◌or◌
    danger_more i =
        below_or i 1024
        (λ l.
        rw (lt-ltb i 1024 l)
        (bit_with w (danger_bit e) (danger_bit i) (omega (arith, s.room))
        ∙ ap (λ (t : Bool). t or bit_in w (danger_bit i)) (same_or e i
        (λ q. eq-eqb (danger_bit e) (danger_bit i) (omega arith) ∙ sym (eq-eqb e i q))
        (λ q. ne_eqb (danger_bit e) (danger_bit i) (λ y. q (omega arith)) ∙ sym (ne_eqb e i q)))))
        (λ l. rw (le-ltb i 1024 l, ne_eqb e i (λ q. let z : ⊥ = omega arith in z)) refl)
