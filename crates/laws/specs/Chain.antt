-- Chains in a table, over any key. Items 0 .. c - 1 have keys; heads[a] is 1 + the latest item with key a, prev[i] 1 + the latest item before i with i's key, 0 for none.
-- `Chained` says so by equations with one function, `latest`. `Walk` is the invariant of every loop along a chain: what has to be shown of the items passed is any P.
--
use Rattle.std.specs.Prelude.{◌≡◌, refl, true, false, ℕ, zero, suc, ◌+◌, ◌-◌, ◌≤◌, ◌<◌, eqb}
use Rattle.std.proofs.Common.{sym, ap, ◌∙◌, subst, not-suc-le-zero, add-one, arith, eq-eqb, ne_eqb}
use Rattle.laws.specs.Slices.{below_or, same_or}

-- 1 + the latest item below c with key a, or 0
unfoldable pub latest : (ℕ → ℕ) → ℕ → ℕ → ℕ
latest key a zero = 0
latest key a (suc c) = elim (eqb (key c) a) [ true ↦ suc c | false ↦ latest key a c ]

pub latest_hit : (key : ℕ → ℕ) (a c : ℕ) → key c ≡ a → latest key a (suc c) ≡ suc c
unfolding latest
latest_hit key a c e = rw (eq-eqb (key c) a e, latest)

pub latest_miss : (key : ℕ → ℕ) (a c : ℕ) → (key c ≡ a → ⊥) → latest key a (suc c) ≡ latest key a c
unfolding latest
latest_miss key a c e = rw (ne_eqb (key c) a e, latest)

-- it is one, and nothing lies between it and c
pub latest_le : (key : ℕ → ℕ) (a c : ℕ) → latest key a c ≤ c
unfolding latest
latest_le key a zero = omega arith
latest_le key a (suc c) = same_or (key c) a (λ e. omega (arith, latest_hit key a c e)) (λ e. omega (arith, latest_miss key a c e, latest_le key a c))

pub latest_key : (key : ℕ → ℕ) (a c i : ℕ) → latest key a c ≡ suc i → key i ≡ a
unfolding latest
latest_key key a zero i h = absurd (omega arith)
latest_key key a (suc c) i h =
    same_or (key c) a
    (λ e. ap key (let q : i ≡ c = omega (arith, latest_hit key a c e) in q) ∙ e)
    (λ e. latest_key key a c i (sym (latest_miss key a c e) ∙ h))

latest_gap : (key : ℕ → ℕ) (a c k : ℕ) → latest key a c ≤ k → k < c → key k ≡ a → ⊥
latest_gap key a zero k l h e = not-suc-le-zero h
latest_gap key a (suc c) k l h e =
    same_or (key c) a
    (λ q. let x = latest_hit key a c q in omega arith)
    (λ q. same_or k c (λ w. q (ap key (sym w) ∙ e)) (λ w. latest_gap key a c k (let x = latest_miss key a c q in omega arith) (omega arith) e))

pub latest_agree : (key key' : ℕ → ℕ) (a c : ℕ) → ((i : ℕ) → i < c → key i ≡ key' i) → latest key a c ≡ latest key' a c
unfolding latest
latest_agree key key' a zero h = refl
latest_agree key key' a (suc c) h =
    let last = h c (omega arith) in
    let t = latest_agree key key' a c (λ i q. h i (omega arith)) in
    same_or (key c) a
    (λ e. latest_hit key a c e ∙ sym (latest_hit key' a c (sym last ∙ e)))
    (λ e. latest_miss key a c e ∙ t ∙ sym (latest_miss key' a c (λ q. e (last ∙ q))))

-- a key that no item has
pub latest_none : (key : ℕ → ℕ) (a c : ℕ) → ((i : ℕ) → i < c → key i ≡ a → ⊥) → latest key a c ≡ 0
unfolding latest
latest_none key a zero h = refl
latest_none key a (suc c) h = latest_miss key a c (h c (omega arith)) ∙ latest_none key a c (λ i l. h i (omega arith))

-- a key that just one item has
pub latest_only : (key : ℕ → ℕ) (a c i : ℕ) → i < c → key i ≡ a → ((j : ℕ) → j < c → key j ≡ a → j ≡ i) → latest key a c ≡ suc i
latest_only key a zero i l e h = absurd (not-suc-le-zero l)
latest_only key a (suc c) i l e h =
    same_or c i
    (λ q. latest_hit key a c (ap key q ∙ e) ∙ ap suc q)
    (λ q. latest_miss key a c (λ w. q (h c (omega arith) w)) ∙ latest_only key a c i (omega arith) e (λ j b w. h j (omega arith) w))

-- ---- the chains of c items, for keys below n: tops a is what heads[a] holds, links i what prev[i] holds, wherever the code keeps them
pub record Chained (key : ℕ → ℕ) (n c : ℕ) (tops links : ℕ → ℕ) : Type 0 where
  pub top : (a : ℕ) → a < n → tops a ≡ latest key a c
  pub link : (i : ℕ) → i < c → links i ≡ latest key (key i) i

pub chain_none : (key : ℕ → ℕ) (n : ℕ) (tops links : ℕ → ℕ) → ((a : ℕ) → a < n → tops a ≡ 0) → Chained key n 0 tops links
unfolding latest
chain_none key n tops links h = record { top = h; link = λ i q. absurd (not-suc-le-zero q) }

-- one item more, with key a: prev[c] = heads[a], heads[a] = c + 1, and nothing else changes below n and c
pub chain_more : {key key' : ℕ → ℕ} {n c a : ℕ} {tops links tops' links' : ℕ → ℕ} → Chained key n c tops links → ((i : ℕ) → i < c → key i ≡ key' i) → key' c ≡ a → a < n
    → tops' a ≡ c + 1 → ((x : ℕ) → x < n → (x ≡ a → ⊥) → tops' x ≡ tops x) → links' c ≡ tops a → ((i : ℕ) → i < c → links' i ≡ links i) → Chained key' n (c + 1) tops' links'
chain_more {key} {key'} {n} {c} {a} {tops} {links} {tops'} {links'} ch same e an ta to lc lo =
    record {
      top = λ x xn.
          rw add-one
          (same_or x a
          (λ q. rw q (ta ∙ add-one c ∙ sym (latest_hit key' a c e)))
          (λ q. to x xn q ∙ ch.top x xn ∙ latest_agree key key' x c same ∙ sym (latest_miss key' x c (λ w. q (sym w ∙ e)))));
      link = λ i ic.
          same_or i c
          (λ q. rw q (lc ∙ ch.top a an ∙ latest_agree key key' a c same ∙ ap (λ (k : ℕ). latest key' k c) (sym e)))
          (λ q.
          let below : i < c = omega arith in
          lo i below ∙ ch.link i below ∙ ap (λ (k : ℕ). latest key k i) (same i below) ∙ latest_agree key key' (key' i) i (λ j h. same j (omega arith)));
    }

-- ---- a walk along a's chain, at j: the items from j on with key a have P; j is 0, or 1 + an item with key a
pub record Walk (P : ℕ → Type 0) (key : ℕ → ℕ) (a c j : ℕ) : Type 0 where
  pub within : j ≤ c
  pub owner : 0 < j → key (j - 1) ≡ a
  pub seen : (k : ℕ) → j ≤ k → k < c → key k ≡ a → P k

-- from the latest item below m, if those from m on have P
arrive : {P : ℕ → Type 0} {key : ℕ → ℕ} {c : ℕ} (a m j : ℕ) → m ≤ c → j ≡ latest key a m → ((k : ℕ) → m ≤ k → k < c → key k ≡ a → P k) → Walk P key a c j
arrive {P} {key} {c} a m j mc e h =
    record {
      within = omega (arith, latest_le key a m);
      owner = λ pos. latest_key key a m (j - 1) (omega arith);
      seen = λ k jk kc ka. below_or k m (λ b. absurd (latest_gap key a m k (omega arith) b ka)) (λ b. h k b kc ka);
    }

module _ {key : ℕ → ℕ} {n c : ℕ} {tops links : ℕ → ℕ} (ch : Chained key n c tops links) where
  pub walk_start : {P : ℕ → Type 0} (a : ℕ) → a < n → Walk P key a c (tops a)
  walk_start a an = arrive a c (tops a) (omega arith) (ch.top a an) (λ k q r. absurd (omega arith))

  -- P may weaken on the way, as where it speaks of a state that a turn changes
  pub walk_step : {P Q : ℕ → Type 0} {a j : ℕ} → Walk P key a c j → 0 < j → ((k : ℕ) → P k → Q k) → Q (j - 1) → Walk Q key a c (links (j - 1))
  walk_step {P} {Q} {a} {j} w pos f p =
      let jc = w.within in
      arrive a (j - 1) (links (j - 1)) (omega arith)
      (ch.link (j - 1) (omega arith) ∙ ap (λ (x : ℕ). latest key x (j - 1)) (w.owner pos))
      (λ k q r ka. same_or k (j - 1) (λ e. subst Q (sym e) p) (λ e. f k (w.seen k (omega arith) r ka)))

pub walk_end : {P : ℕ → Type 0} {key : ℕ → ℕ} {a c j : ℕ} → Walk P key a c j → j ≤ 0 → (k : ℕ) → k < c → key k ≡ a → P k
walk_end w z k kc ka = w.seen k (omega arith) kc ka

-- ---- a walk along a's chain that looks for something: F j is what the items below j come to, and an item of another key adds nothing to it

unfoldable pub Blind : {X : Type 0} → (ℕ → ℕ) → ℕ → (ℕ → X) → Type 0
Blind key a F = (k : ℕ) → (key k ≡ a → ⊥) → F (suc k) ≡ F k

latest_left : {X : Type 0} (key : ℕ → ℕ) (a : ℕ) (F : ℕ → X) → Blind key a F → (c : ℕ) → F c ≡ F (latest key a c)
unfolding latest Blind
latest_left key a F h zero = refl
latest_left key a F h (suc c) =
    same_or (key c) a
    (λ e. ap F (sym (latest_hit key a c e)))
    (λ e. h c e ∙ latest_left key a F h c ∙ ap F (sym (latest_miss key a c e)))

-- At j: what all c items come to is what those below j come to, with what the walk has gathered.
pub record Left {X : Type 0} (key : ℕ → ℕ) (a c : ℕ) (all : X) (F : ℕ → X) (j : ℕ) : Type 0 where
  pub within : j ≤ c
  pub owner : 0 < j → key (j - 1) ≡ a
  pub rest : all ≡ F j

-- From the latest item below m.
pub left_at : {X : Type 0} {key : ℕ → ℕ} {c : ℕ} {all : X} {F : ℕ → X} (a m j : ℕ) → Blind key a F → m ≤ c → j ≡ latest key a m → all ≡ F m → Left key a c all F j
left_at {key = key} {F = F} a m j b mc e h =
    record {
      within = omega (arith, latest_le key a m);
      owner = λ pos. latest_key key a m (j - 1) (omega arith);
      rest = h ∙ latest_left key a F b m ∙ ap F (sym e);
    }

module _ {key : ℕ → ℕ} {n c : ℕ} {tops links : ℕ → ℕ} (ch : Chained key n c tops links) where
  pub left_start : {X : Type 0} {F : ℕ → X} (a : ℕ) → a < n → Blind key a F → Left key a c (F c) F (tops a)
  left_start a an b = left_at a c (tops a) b (omega arith) (ch.top a an) refl

  -- What the item j - 1 adds is gathered into G.
  pub left_step : {X : Type 0} {all : X} {F G : ℕ → X} {a j : ℕ} → Left key a c all F j → 0 < j → Blind key a G → F j ≡ G (j - 1) → Left key a c all G (links (j - 1))
  left_step {a = a} {j = j} w pos b e =
      let jc = w.within in
      left_at a (j - 1) (links (j - 1)) b (omega arith)
      (ch.link (j - 1) (omega arith) ∙ ap (λ (x : ℕ). latest key x (j - 1)) (w.owner pos))
      (w.rest ∙ e)

  -- A link leads down.
  pub link_le : (i : ℕ) → i < c → links i ≤ i
  link_le i h = omega (arith, ch.link i h, latest_le key (key i) i)
