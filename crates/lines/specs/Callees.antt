-- Callee fields, name by name.
use Rattle.std.specs.Prelude.{◌≡◌, refl, Bool, true, false, List, [], ◌∷◌, ℕ, zero, suc, ◌+◌, ◌*◌, ◌≤◌, ◌<◌, length, get_or}
use Rattle.std.proofs.Common.{sym, ap, ◌∙◌, subst, arith, length-append, le-leb}
use Rattle.std.proofs.lemmas.Bool.{false≢true}
use Rattle.laws.specs.Tests.{◌and◌}
use Rattle.laws.specs.TestLaws.{and_left, and_right, and_both, every_at, every_of, same_test}
use Rattle.rules.specs.Text.{Bytes, between, is_callees, is_name, join_by, name_count, name_in, split}
use Rattle.rules.proofs.GraphLaws.{some_name}
use Rattle.rules.proofs.TextLaws.{between_at, join_split, name_sized, split_cons}

-- The pieces are at most k, and each is a name.
unfoldable pub names_up_to : ℕ → List Bytes → Bool
names_up_to k [] = true
names_up_to zero (p ∷ ps) = false
names_up_to (suc k) (p ∷ ps) = is_name p and names_up_to k ps

-- ---- a callee field is 1 to 4 such pieces

few_names : (k : ℕ) (ps : List Bytes) → names_up_to k ps ≡ true → length ps ≤ k
unfolding names_up_to
few_names k [] h = omega arith
few_names zero (p ∷ ps) h = absurd (false≢true h)
few_names (suc k) (p ∷ ps) h = omega (arith, few_names k ps (and_right _ _ h))

all_names : (k : ℕ) (ps : List Bytes) → names_up_to k ps ≡ true → (i : ℕ) → i < length ps → is_name (get_or ps i []) ≡ true
unfolding names_up_to
all_names k [] h i l = absurd (let z : ⊥ = omega arith in z)
all_names zero (p ∷ ps) h i l = absurd (false≢true h)
all_names (suc k) (p ∷ ps) h zero l = and_left _ _ h
all_names (suc k) (p ∷ ps) h (suc i) l = all_names k ps (and_right _ _ h) i (omega arith)

names_few : (k : ℕ) (ps : List Bytes) → length ps ≤ k → ((i : ℕ) → i < length ps → is_name (get_or ps i []) ≡ true) → names_up_to k ps ≡ true
unfolding names_up_to
names_few k [] l h = refl
names_few zero (p ∷ ps) l h = absurd (let z : ⊥ = omega arith in z)
names_few (suc k) (p ∷ ps) l h = and_both (h 0 (omega arith)) (names_few k ps (omega arith) (λ i m. h (suc i) (omega arith)))

-- A callee field has at most 4 names, and each is a name.
pub callees_few : (s : Bytes) → is_callees s ≡ true → name_count s ≤ 4
unfolding is_callees
callees_few s h = (between_at 1 4 (name_count s) (and_left _ _ h)).1

callees_up_to : (s : Bytes) → is_callees s ≡ true → names_up_to 4 (split 43 s) ≡ true
unfolding is_callees name_count name_in
callees_up_to s h = names_few 4 (split 43 s) (callees_few s h) (every_at (λ i. is_name (name_in s i)) (name_count s) (and_right _ _ h))

pub up_to_four : (s : Bytes) → names_up_to 4 (split 43 s) ≡ is_callees s
unfolding is_callees name_count name_in between
up_to_four s =
    same_test _ _
    (λ h. and_both (and_both (le-leb 1 _ (some_name s)) (le-leb _ 4 (few_names 4 (split 43 s) h))) (every_of (λ i. is_name (name_in s i)) (name_count s) (all_names 4 (split 43 s) h)))
    (callees_up_to s)

-- ---- how long it is

joined_short : (k : ℕ) (p : Bytes) (ps : List Bytes) → names_up_to k (p ∷ ps) ≡ true → length (join_by 43 (p ∷ ps)) + 1 ≤ 13 * k
unfolding names_up_to join_by
joined_short zero p ps h = absurd (false≢true h)
joined_short (suc k) p [] h = omega (arith, (name_sized p (and_left _ _ h)).1)
joined_short (suc k) p (q ∷ ps) h =
    omega (arith, length-append p (43 ∷ join_by 43 (q ∷ ps)), (name_sized p (and_left _ _ h)).1, joined_short k q ps (and_right _ _ h))

-- A callee field has at most 51 bytes: 4 names of 12, and 3 times `+`.
pub callees_short : (s : Bytes) → is_callees s ≡ true → length s ≤ 51
callees_short s h =
    let c = split_cons 43 s in
    let e : join_by 43 (c.0 ∷ c.1) ≡ s = ap (join_by 43) (sym c.2) ∙ join_split 43 s in
    let n : names_up_to 4 (c.0 ∷ c.1) ≡ true = subst (λ (ps : List Bytes). names_up_to 4 ps ≡ true) c.2 (callees_up_to s h) in
    omega (arith, ap length e, joined_short 4 c.0 c.1 n)
