-- Boolean tests over numbers and lists. Nodes, edges, procedures and tests are all numbered from 0, so one set of quantifiers over "the numbers
-- below n" serves them all. The laws are in TestLaws.
use Rattle.std.specs.Prelude.{Bool, true, false, List, [], ◌∷◌, ◌++◌, ℕ, zero, suc, eqb}
use Rattle.std.proofs.Math.Option.{Option, none, some}

infixr 35 ◌and◌
infixr 30 ◌or◌
infixr 25 ◌⇒◌
-- Both tests pass.
unfoldable pub ◌and◌ : Bool → Bool → Bool
true and b = b
false and b = false

-- One of the tests passes.
unfoldable pub ◌or◌ : Bool → Bool → Bool
true or b = true
false or b = b

-- The second test passes, where the first does.
unfoldable pub ◌⇒◌ : Bool → Bool → Bool
true ⇒ b = b
false ⇒ b = true

-- The test does not pass.
unfoldable pub isnt : Bool → Bool
isnt true = false
isnt false = true

-- The first where the test passes, else the second.
unfoldable pub choose {ℓ} : {A : Type ℓ} → Bool → A → A → A
choose true a b = a
choose false a b = b

-- What f makes of the value, if there is one, and else b.
abbrev pub after {ℓ κ} : {A : Type ℓ} {B : Type κ} → Option A → B → (A → B) → B
after none b f = b
after (some a) b f = f a

-- A list is empty.
unfoldable pub none? : {A : Type 0} → List A → Bool
none? [] = true
none? (x ∷ l) = false

-- There is one.
unfoldable pub some? : Option ℕ → Bool
some? none = false
some? (some n) = true

-- A number found, as a number: 1 + it, or 0 for none.
abbrev pub found : Option ℕ → ℕ
found none = 0
found (some n) = suc n

-- ---- the numbers below n

-- Every number below n passes f.
unfoldable pub every : ℕ → (ℕ → Bool) → Bool
every zero f = true
every (suc n) f = every n f and f n

-- Some number below n passes f.
unfoldable pub any : ℕ → (ℕ → Bool) → Bool
any zero f = false
any (suc n) f = any n f or f n

-- The first option that is one.
unfoldable pub or_else : Option ℕ → Option ℕ → Option ℕ
or_else none o = o
or_else (some i) o = some i

-- i where the test passes.
unfoldable pub if_true : Bool → ℕ → Option ℕ
if_true true i = some i
if_true false i = none

-- The first number below n that passes f.
unfoldable pub first : ℕ → (ℕ → Bool) → Option ℕ
first zero f = none
first (suc n) f = or_else (first n f) (if_true (f n) n)

-- One more where the test passes.
unfoldable pub plus : Bool → ℕ → ℕ
plus true k = suc k
plus false k = k

-- How many numbers below n pass f.
unfoldable pub count : ℕ → (ℕ → Bool) → ℕ
count zero f = 0
count (suc n) f = plus (f n) (count n f)

-- The numbers below n that pass f, ascending.
unfoldable pub those : ℕ → (ℕ → Bool) → List ℕ
those zero f = []
those (suc n) f = elim (f n) [ true ↦ those n f ++ (n ∷ []) | false ↦ those n f ]

-- ---- lists of numbers

-- The list has n.
unfoldable pub has : List ℕ → ℕ → Bool
has [] n = false
has (x ∷ l) n = eqb x n or has l n

-- Some number of the list passes f.
unfoldable pub any_of : (ℕ → Bool) → List ℕ → Bool
any_of f [] = false
any_of f (x ∷ l) = f x or any_of f l

-- ---- lists of pairs of numbers

-- The list has the pair of n and k.
unfoldable pub listed : List (ℕ × ℕ) → ℕ → ℕ → Bool
listed [] n k = false
listed (x ∷ l) n k = (eqb x.0 n and eqb x.1 k) or listed l n k

-- Every pair of the list passes f.
unfoldable pub all_pairs : (ℕ → ℕ → Bool) → List (ℕ × ℕ) → Bool
all_pairs f [] = true
all_pairs f (x ∷ l) = f x.0 x.1 and all_pairs f l

-- Some pair of the list passes f.
unfoldable pub any_pair : (ℕ → ℕ → Bool) → List (ℕ × ℕ) → Bool
any_pair f [] = false
any_pair f (x ∷ l) = f x.0 x.1 or any_pair f l

-- x before l, where the test passes.
abbrev pub keep : Bool → ℕ × ℕ → List (ℕ × ℕ) → List (ℕ × ℕ)
keep true x l = x ∷ l
keep false x l = l

-- The pairs of the list that pass f, in the list's order.
unfoldable pub pick : (ℕ → ℕ → Bool) → List (ℕ × ℕ) → List (ℕ × ℕ)
pick f [] = []
pick f (x ∷ l) = keep (f x.0 x.1) x (pick f l)

-- n with each number below b, ascending.
unfoldable pub grid_row : ℕ → ℕ → List (ℕ × ℕ)
grid_row n zero = []
grid_row n (suc b) = grid_row n b ++ ((n, b) ∷ [])

-- Each number below a with each below b, ascending by the first, then the second.
unfoldable pub grid : ℕ → ℕ → List (ℕ × ℕ)
grid zero b = []
grid (suc a) b = grid a b ++ grid_row a b

-- ---- a list of tests

-- The place, counted from k, of the first test that fails, or 0.
unfoldable pub first_failed : ℕ → List Bool → ℕ
first_failed k [] = 0
first_failed k (true ∷ l) = first_failed (suc k) l
first_failed k (false ∷ l) = k
