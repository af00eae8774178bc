-- Laws of nodes as records and as numbers: how long they are, one more of them, as many as fit; the same stores in both.
use Rattle.std.specs.Prelude.{◌≡◌, ℕ, zero, suc, ◌+◌, ◌-◌, ◌*◌, ◌≤◌, ◌<◌, min, take}
use Rattle.std.proofs.Math.Path.{refl, ap}
use Rattle.std.proofs.Common.{sym, ◌∙◌, zero-add, add-zero, add-suc, suc-add, le_refl, add-one, arith, length-append, take_all, length-take-le}
use mathlib.Core.List.{List, [], ◌∷◌, ◌++◌, append_assoc}
use Rattle.std.proofs.Math.Nat.{min-eq_left, min-eq_right}
use Rattle.std.proofs.Math.ListN.{length, get_or, set}
use Rattle.std.proofs.Math.Seq.{sets, length-sets, set_out}
use Rattle.laws.specs.Slices.{below_or, take_more, sets_append, sets_nil, sets_snoc}
use Rattle.records.specs.declared.Node.{Node}
use Rattle.records.specs.Nodes.{blank, row, flat, node_at, nodes_of}

-- ---- lengths

pub flat_length : (vs : List Node) → length (flat vs) ≡ 4 * length vs
unfolding flat
flat_length [] = refl
flat_length (v ∷ vs) = omega (arith, flat_length vs)

pub flat_append : (us vs : List Node) → flat (us ++ vs) ≡ flat us ++ flat vs
unfolding flat
flat_append [] vs = refl
flat_append (u ∷ us) vs = ap (λ (l : List ℕ). row u ++ l) (flat_append us vs) ∙ sym (append_assoc (row u) (flat us) (flat vs))

pub flat_none : flat [] ≡ []
unfolding flat
flat_none = refl

pub nodes_length : (w : List ℕ) (n : ℕ) → length (nodes_of w n) ≡ n
unfolding nodes_of
nodes_length w zero = refl
nodes_length w (suc n) = rw length-append (omega (arith, nodes_length w n))

-- ---- records put into a table of numbers, one more of them

module _ (ns : List Node) (w : List ℕ) (at : ℕ) where
  -- The table once the first i records have been put in.
  abbrev pub loaded : ℕ → List ℕ
  loaded i = sets w at (flat (take i ns))

  pub loaded_none : w ≡ loaded 0
  unfolding flat
  loaded_none = refl

  pub loaded_length : (i : ℕ) → length (loaded i) ≡ length w
  loaded_length i = length-sets w at (flat (take i ns))

  pub loaded_more : (i : ℕ) → i < length ns → sets (loaded i) (at + 4 * i) (row (get_or ns i blank)) ≡ loaded (i + 1)
  unfolding flat
  loaded_more i h =
      let v : Node = get_or ns i blank in
      let f : length (flat (take i ns)) ≡ 4 * i = flat_length (take i ns) ∙ ap (λ (m : ℕ). 4 * m) (length-take-le i ns (omega arith)) in
      ap (λ (k : ℕ). sets (loaded i) (at + k) (row v)) (sym f)
      ∙ sets_append w at (flat (take i ns)) (row v)
      ∙ ap (λ (l : List ℕ). sets w at l) (sym (flat_append (take i ns) (v ∷ [])))
      ∙ ap (λ (l : List Node). sets w at (flat l)) (sym (take_more ns i blank h))

  pub loaded_all : (n : ℕ) → loaded (min n (length ns)) ≡ loaded n
  loaded_all n =
      below_or n (length ns)
      (λ h. let l : n ≤ length ns = omega arith in ap loaded (min-eq_left l))
      (λ h. ap loaded (min-eq_right h) ∙ ap (λ (l : List Node). sets w at (flat l)) (take_all (length ns) ns (le_refl (length ns)) ∙ sym (take_all n ns h)))

-- ---- records of the numbers stored, one more of them

module _ (w : List ℕ) (ns : List Node) where
  -- The records once the first i of the numbers have been stored.
  abbrev pub saved : ℕ → List Node
  saved i = sets ns 0 (nodes_of w i)

  pub saved_none : ns ≡ saved 0
  unfolding nodes_of
  saved_none = refl

  pub saved_length : (i : ℕ) → length (saved i) ≡ length ns
  saved_length i = length-sets ns 0 (nodes_of w i)

  pub saved_more : (i : ℕ) → set (saved i) i (node_at w i) ≡ saved (i + 1)
  unfolding nodes_of
  saved_more i =
      ap (λ (k : ℕ). set (saved i) k (node_at w i)) (sym (zero-add (length (nodes_of w i)) ∙ nodes_length w i))
      ∙ sets_snoc ns 0 (nodes_of w i) (node_at w i)
      ∙ ap (λ (k : ℕ). saved k) (sym (add-one i))

  -- Past the end of the records nothing is stored.
  saved_past : (k : ℕ) → saved (length ns + k) ≡ saved (length ns)
  saved_past zero = ap saved (add-zero (length ns))
  saved_past (suc k) =
      let e : length ns + suc k ≡ length ns + k + 1 = omega arith in
      ap saved e ∙ sym (saved_more (length ns + k)) ∙ set_out (saved (length ns + k)) (length ns + k) _ (omega (arith, saved_length (length ns + k))) ∙ saved_past k

  pub saved_all : (n : ℕ) → saved (min n (length ns)) ≡ saved n
  saved_all n =
      below_or n (length ns)
      (λ h. let l : n ≤ length ns = omega arith in ap saved (min-eq_left l))
      (λ h. let e : length ns + (n - length ns) ≡ n = omega arith in ap saved (min-eq_right h) ∙ sym (saved_past (n - length ns)) ∙ ap saved e)

  pub saved_end : (i n : ℕ) → i ≡ min n (length ns) → saved i ≡ saved n
  saved_end i n e = ap saved e ∙ saved_all n

-- ---- the same stores, in records and in numbers

-- Stores past a front.
set_past : {A : Type 0} (p l : List A) (k : ℕ) (a : A) → set (p ++ l) (length p + k) a ≡ p ++ set l k a
set_past [] l k a = ap (λ (i : ℕ). set l i a) (zero-add k)
set_past (x ∷ p) l k a = ap (λ (i : ℕ). set (x ∷ (p ++ l)) i a) (suc-add (length p) k) ∙ ap (λ (r : List _). x ∷ r) (set_past p l k a)

sets_past : {A : Type 0} (p l : List A) (k : ℕ) (vs : List A) → sets (p ++ l) (length p + k) vs ≡ p ++ sets l k vs
sets_past p l k [] = refl
sets_past p l k (v ∷ vs) =
    ap (λ (m : List _). sets m (suc (length p + k)) vs) (set_past p l k v)
    ∙ ap (λ (i : ℕ). sets (p ++ set l k v) i vs) (sym (add-suc (length p) k))
    ∙ sets_past p (set l k v) (suc k) vs

pub flat_set : (ns : List Node) (i : ℕ) (v : Node) → flat (set ns i v) ≡ sets (flat ns) (4 * i) (row v)
unfolding flat
flat_set [] i v = sym (sets_nil (4 * i) (row v))
flat_set (n ∷ ns) zero v = refl
flat_set (n ∷ ns) (suc i) v =
    let e : 4 * suc i ≡ 4 + 4 * i = omega arith in
    ap (λ (l : List ℕ). row n ++ l) (flat_set ns i v) ∙ sym (sets_past (row n) (flat ns) (4 * i) (row v)) ∙ ap (λ (k : ℕ). sets (row n ++ flat ns) k (row v)) (sym e)

pub flat_sets : (vs ns : List Node) (i : ℕ) → flat (sets ns i vs) ≡ sets (flat ns) (4 * i) (flat vs)
unfolding flat
flat_sets [] ns i = refl
flat_sets (v ∷ vs) ns i =
    let e : 4 * suc i ≡ 4 * i + 4 = omega arith in
    flat_sets vs (set ns i v) (suc i)
    ∙ ap (λ (l : List ℕ). sets l (4 * suc i) (flat vs)) (flat_set ns i v)
    ∙ ap (λ (k : ℕ). sets (sets (flat ns) (4 * i) (row v)) k (flat vs)) e
    ∙ sets_append (flat ns) (4 * i) (row v) (flat vs)
