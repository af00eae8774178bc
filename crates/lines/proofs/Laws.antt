-- The returns of this crate's functions, as `search` finds them: the premises are what the code holds there.
use mathlib.Core.Path.{◌≡◌, refl, sym, ap, ◌∙◌}
use mathlib.Core.Bool.{Bool, true, false}
use mathlib.Core.Option.{none, some}
use Rattle.std.specs.Prelude.{◌⊎◌, Option, Some, None}
use Rattle.std.proofs.Common.{⊎_elim}
use lib.Dec.{eqb}
use Rattle.lines.specs.declared.Kind.{Kind}
use mathlib.Core.List.{List, [], ◌∷◌}
use Prim.Native.Nat.{ℕ, zero, suc, ◌+◌, ◌-◌, ◌≤◌, ◌<◌}
use native.Mathlib.Omega.{arith}
use lib.ListN.{length, take, drop}
use borrow.Author.Tests.{ne_eqb}
use Rattle.laws.specs.Tests.{◌and◌, choose}
use Rattle.laws.specs.TestLaws.{and_ends}
use Rattle.rules.specs.Text.{Bytes, same, split, empty, is_name, is_callees, is_label}
use Rattle.rules.specs.Graph.{E, S, C, X}
use Rattle.rules.specs.Graph as Rules
use Rattle.rules.specs.ProgramFile.{kind_of, is_node}
use Rattle.rules.proofs.TextLaws.{name_free, split_cons, split_free}
use Rattle.text.specs.Scans.{span}
use Rattle.text.specs.SplitLaws.{first_last, first_more}
use Rattle.lines.specs.Callees.{names_up_to, up_to_four}
use Rattle.lines.specs.Kinds.{kind_meant, meant_coded, node_kind}

-- ---- `names_up_to`, `is_callees`

-- There is one piece at least.
pub names_none : (s : Bytes) (n : ℕ) → n ≡ 0 → false ≡ names_up_to n (split 43 s)
unfolding names_up_to
names_none s n z = sym (simp (z, (split_cons 43 s).2))

-- By the first piece.
names_cons : (n : ℕ) (p : Bytes) (ps : List Bytes) → (n ≡ 0 → ⊥) → names_up_to n (p ∷ ps) ≡ (is_name p and names_up_to (n - 1) ps)
unfolding names_up_to
names_cons zero p ps z = absurd (z refl)
names_cons (suc n) p ps z = let e : n ≡ suc n - 1 = omega arith in ap (λ (k : ℕ). is_name p and names_up_to k ps) e

-- One piece.
names_one : (s : Bytes) (n : ℕ) (t : Bool) → (n ≡ 0 → ⊥) → split 43 s ≡ s ∷ [] → t ≡ is_name s → t ≡ names_up_to n (split 43 s)
unfolding names_up_to
names_one s n t z e d = d ∙ sym (ap (names_up_to n) e ∙ names_cons n s [] z ∙ and_ends (is_name s))

pub names_all : (s : Bytes) (n : ℕ) (t : Bool) → (n ≡ 0 → ⊥) → t ≡ is_name s → t ≡ true → true ≡ names_up_to n (split 43 s)
names_all s n t z d y = sym y ∙ names_one s n t z (split_free 43 s (name_free 43 s (omega arith) (sym d ∙ y))) d

module _ (s name : Bytes) (n : ℕ) (z : n ≡ 0 → ⊥) (e : name ≡ take (span 43 s) s) where
  pub names_last : (t : Bool) → length s ≤ length name → t ≡ is_name s → t ≡ false → false ≡ names_up_to n (split 43 s)
  names_last t h d y = sym y ∙ names_one s n t z (first_last 43 s name e h) d

  module _ (h : length name < length s) (t : Bool) (d : t ≡ is_name name) where
    split_is : (rest : Bytes) → rest ≡ drop (length name + 1) s → names_up_to n (split 43 s) ≡ (t and names_up_to (n - 1) (split 43 rest))
    split_is rest er = ap (names_up_to n) (first_more 43 s name e rest h er) ∙ names_cons n name (split 43 rest) z ∙ ap (λ (u : Bool). u and names_up_to (n - 1) (split 43 rest)) (sym d)

    pub names_not : t ≡ false → false ≡ names_up_to n (split 43 s)
    unfolding ◌and◌
    names_not f = sym (split_is (drop (length name + 1) s) refl ∙ ap (λ (u : Bool). u and names_up_to (n - 1) (split 43 (drop (length name + 1) s))) f)

    pub names_on : (rest : Bytes) (u : Bool) → t ≡ true → rest ≡ drop (length name + 1) s → u ≡ names_up_to (n - 1) (split 43 rest) → u ≡ names_up_to n (split 43 s)
    unfolding ◌and◌
    names_on rest u y er eu = eu ∙ sym (split_is rest er ∙ ap (λ (u : Bool). u and names_up_to (n - 1) (split 43 rest)) y)

pub callees_are : (s : Bytes) (t : Bool) → t ≡ names_up_to 4 (split 43 s) → t ≡ is_callees s
callees_are s t e = e ∙ up_to_four s

pub ruleset callees = (names_none, names_all, names_last, names_not, names_on, callees_are)

-- ---- `suits`

empty_is : (s : Bytes) → eqb (length s) 0 ≡ empty s
unfolding empty
empty_is [] = refl
empty_is (x ∷ s) = ne_eqb (length (x ∷ s)) 0 (λ e. let z : ⊥ = omega arith in z)

module _ (k : Kind) (b c : Bytes) where
  module _ (h : (kind_meant k ≡ E) ⊎ (kind_meant k ≡ X)) where
    end_both : is_node (kind_meant k) b c ≡ (empty b and empty c)
    unfolding is_node
    end_both = ⊎_elim (λ (e : kind_meant k ≡ E). ap (λ (j : Rules.Kind). is_node j b c) e) (λ (e : kind_meant k ≡ X). ap (λ (j : Rules.Kind). is_node j b c) e) h

    pub end_not : eqb (length b) 0 ≡ false → false ≡ is_node (kind_meant k) b c
    unfolding ◌and◌
    end_not n = sym (simp (end_both, ← empty_is b, n))

    pub end_is : eqb (length b) 0 ≡ true → eqb (length c) 0 ≡ is_node (kind_meant k) b c
    unfolding ◌and◌
    end_is y = empty_is c ∙ sym (simp (end_both, ← empty_is b, y))

  module _ (t : Bool) (e : t ≡ is_label b) where
    pub step_not : t ≡ false → kind_meant k ≡ S → false ≡ is_node (kind_meant k) b c
    unfolding is_node ◌and◌
    step_not n h = sym (simp (h, ← e, n))

    pub step_is : t ≡ true → kind_meant k ≡ S → eqb (length c) 0 ≡ is_node (kind_meant k) b c
    unfolding is_node ◌and◌
    step_is y h = empty_is c ∙ sym (simp (h, ← e, y))

    pub call_not : t ≡ false → kind_meant k ≡ C → false ≡ is_node (kind_meant k) b c
    unfolding is_node ◌and◌
    call_not n h = sym (simp (h, ← e, n))

    pub call_is : (u : Bool) → t ≡ true → u ≡ is_callees c → kind_meant k ≡ C → u ≡ is_node (kind_meant k) b c
    unfolding is_node ◌and◌
    call_is u y d h = d ∙ sym (simp (h, ← e, y))

pub ruleset suits = (end_not, end_is, step_not, step_is, call_not, call_is)

-- ---- `named`, `kind_of`

module _ (a : Bytes) (t : Bool) (e : t ≡ same a (69 ∷ [])) where
  pub named_entry : t ≡ true → kind_of a ≡ some E
  unfolding kind_of choose
  named_entry y = simp (← e, y)

  module _ (n : t ≡ false) (v : Bool) (f : v ≡ same a (83 ∷ [])) where
    pub named_step : v ≡ true → kind_of a ≡ some S
    unfolding kind_of choose
    named_step y = simp (← e, n, ← f, y)

    module _ (m : v ≡ false) (w : Bool) (g : w ≡ same a (67 ∷ [])) where
      pub named_call : w ≡ true → kind_of a ≡ some C
      unfolding kind_of choose
      named_call y = simp (← e, n, ← f, m, ← g, y)

      module _ (l : w ≡ false) (x : Bool) (h : x ≡ same a (88 ∷ [])) where
        pub named_exit : x ≡ true → kind_of a ≡ some X
        unfolding kind_of choose
        named_exit y = simp (← e, n, ← f, m, ← g, l, ← h, y)

        pub named_none : x ≡ false → kind_of a ≡ none
        unfolding kind_of choose
        named_none y = simp (← e, n, ← f, m, ← g, l, ← h, y)

pub ruleset names = (named_entry, named_step, named_call, named_exit, named_none)

module _ (a b c : Bytes) where
  pub kind_none : kind_of a ≡ none → ◌≡◌ {A = Option Kind} None (node_kind a b c)
  unfolding node_kind
  kind_none e = sym (simp e)

  module _ (k : Kind) (e : kind_of a ≡ some (kind_meant k)) (t : Bool) (f : t ≡ is_node (kind_meant k) b c) where
    pub kind_suits : t ≡ true → Some k ≡ node_kind a b c
    unfolding node_kind choose
    kind_suits y = sym (simp (e, ← f, y, meant_coded k))

    pub kind_not : t ≡ false → ◌≡◌ {A = Option Kind} None (node_kind a b c)
    unfolding node_kind choose
    kind_not n = sym (simp (e, ← f, n))

pub ruleset kinds = (kind_none, kind_suits, kind_not)
