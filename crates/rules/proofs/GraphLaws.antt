-- What the definitions of Graph give, above all of well-formed programs.
use Rattle.std.specs.Prelude.{◌≡◌, ◌⊎◌, Bool, [], ℕ, zero, suc, ◌≤◌, ◌<◌}
use Rattle.std.proofs.Math.Path.{refl, sym}
use Rattle.std.proofs.Common.{ap, ◌∙◌, subst, inl, inr, true≢false, arith}
use Rattle.std.proofs.Math.Bool.{true}
use Rattle.std.proofs.Math.Option.{Option, none, some, none-ne-some}
use Rattle.std.proofs.Math.Dec.{eqb}
use Rattle.std.proofs.Math.ListN.{get_or-eq_default}
use borrow.Author.Tests.{eqb-true, eq-eqb}
use Rattle.laws.specs.Tests.{◌and◌, first, count, or_else}
use Rattle.laws.specs.TestLaws.{and_left, and_right, and_both, eqb_self, first_at, first_only, count_one}
use Rattle.rules.specs.Text.{Bytes, between, is_name, name_count, name_in, names_in, same}
use Rattle.rules.specs.Graph.{Kind, E, S, C, X, Program, WellFormed, name_at, owner_at, kind_at, callee_at, callee_count, callee_name, source_at, word_at, proc_count, node_count, edge_count, dash, kind_number, same_kind, or_zero, is_of, entry, exit, proc_of, called, leaves, edge_taken, degree, worded, edge_with, star}
use Rattle.rules.proofs.TextLaws.{same_of, same_true, split_cons}

kind_of : ℕ → Kind
kind_of zero = E
kind_of (suc zero) = S
kind_of (suc (suc zero)) = C
kind_of (suc (suc (suc n))) = X

kind_of_number : (k : Kind) → kind_of (kind_number k) ≡ k
unfolding kind_of
kind_of_number E = refl
kind_of_number S = refl
kind_of_number C = refl
kind_of_number X = refl

pub same_kind_true : (j k : Kind) → same_kind j k ≡ true → j ≡ k
unfolding same_kind
same_kind_true j k e = sym (kind_of_number j) ∙ ap kind_of (eqb-true _ _ e) ∙ kind_of_number k

pub same_kind_self : (k : Kind) → same_kind k k ≡ true
unfolding same_kind
same_kind_self k = eqb_self (kind_number k)

pub same_kind_of : {j k : Kind} → j ≡ k → same_kind j k ≡ true
same_kind_of {j} {k} p = rw p (same_kind_self k)

pub is_of_true : (p : Program) (q : ℕ) (k : Kind) (n : ℕ) → is_of p q k n ≡ true → (owner_at p n ≡ q) × (kind_at p n ≡ k)
unfolding is_of
is_of_true p q k n e = (eqb-true _ _ (and_left _ _ e), same_kind_true _ _ (and_right _ _ e))

pub is_of_of : (p : Program) (q : ℕ) (k : Kind) (n : ℕ) → owner_at p n ≡ q → kind_at p n ≡ k → is_of p q k n ≡ true
unfolding is_of
is_of_of p q k n a b = and_both (eq-eqb _ _ a) (same_kind_of b)

pub leaves_true : (p : Program) (n : ℕ) (w : Bytes) (e : ℕ) → leaves p n w e ≡ true → (source_at p e ≡ n) × (word_at p e ≡ w)
unfolding leaves
leaves_true p n w e h = (eqb-true _ _ (and_left _ _ h), same_true _ _ (and_right _ _ h))

pub leaves_of : (p : Program) (n : ℕ) (w : Bytes) (e : ℕ) → source_at p e ≡ n → word_at p e ≡ w → leaves p n w e ≡ true
unfolding leaves
leaves_of p n w e a b = and_both (eq-eqb _ _ a) (same_of b)

-- What `edge_with` finds is an edge of that node with that word; what `edge_taken` finds is one with that word or with `*`.
pub with_at : (p : Program) (n : ℕ) (w : Bytes) (e : ℕ) → edge_with p n w ≡ some e → (e < edge_count p) × (source_at p e ≡ n) × (word_at p e ≡ w)
unfolding edge_with
with_at p n w e h =
    let r = first_at (leaves p n w) (edge_count p) e h in
    let s = leaves_true p n w e r.1 in
    (r.0, s.0, s.1)

pub taken_at : (p : Program) (n : ℕ) (w : Bytes) (e : ℕ) → edge_taken p n w ≡ some e → (e < edge_count p) × (source_at p e ≡ n) × ((word_at p e ≡ w) ⊎ (word_at p e ≡ star))
unfolding edge_taken or_else
taken_at p n w e h = go (edge_with p n w) refl h
  where
    go : (o : Option ℕ) → edge_with p n w ≡ o → or_else o (edge_with p n star) ≡ some e → (e < edge_count p) × (source_at p e ≡ n) × ((word_at p e ≡ w) ⊎ (word_at p e ≡ star))
    go none q k = let r = with_at p n star e k in (r.0, r.1, inr r.2)
    go (some f) q k = let r = with_at p n w e (q ∙ k) in (r.0, r.1, inl r.2)

-- A node takes its edge with the word; where it has none, its edge `*`; for the word `*` that edge.
pub taken_with : (p : Program) (n : ℕ) (w : Bytes) (e : ℕ) → edge_with p n w ≡ some e → edge_taken p n w ≡ some e
unfolding edge_taken or_else
taken_with p n w e h = rw h

pub taken_else : (p : Program) (n : ℕ) (w : Bytes) → edge_with p n w ≡ none → edge_taken p n w ≡ edge_with p n star
unfolding edge_taken or_else
taken_else p n w h = rw h

pub taken_star : (p : Program) (n : ℕ) → edge_taken p n star ≡ edge_with p n star
unfolding edge_taken or_else
taken_star p n = go (edge_with p n star)
  where
    go : (o : Option ℕ) → or_else o o ≡ o
    go none = refl
    go (some e) = refl

-- A node that takes an edge for `*` takes one for every word.
pub star_takes : (p : Program) (n : ℕ) (w : Bytes) (e : ℕ) → edge_taken p n star ≡ some e → (f : ℕ) × (edge_taken p n w ≡ some f)
unfolding edge_taken or_else
star_takes p n w e h = go (edge_with p n w) (edge_with p n star) h
  where
    go : (o s : Option ℕ) → or_else s s ≡ some e → (f : ℕ) × (or_else o s ≡ some f)
    go (some f) s k = (f, refl)
    go none (some f) k = (f, refl)
    go none none k = absurd (none-ne-some e k)

-- Where all procedures have names that are names, none is empty; so past the last callee the procedure 0 is taken.
pub nameless : (p : Program) → ((q : ℕ) → q < proc_count p → is_name (name_at p q) ≡ true) → first (proc_count p) (λ q. same (name_at p q) []) ≡ none
unfolding is_name between ◌and◌
nameless p names = go (first (proc_count p) (λ q. same (name_at p q) [])) refl
  where
    unnamed : is_name [] ≡ true → ⊥
    unnamed e = true≢false (sym e)

    go : (o : Option ℕ) → first (proc_count p) (λ q. same (name_at p q) []) ≡ o → o ≡ none
    go none e = refl
    go (some q) e =
        let r = first_at (λ q. same (name_at p q) []) (proc_count p) q e in
        absurd (unnamed (subst (λ (s : Bytes). is_name s ≡ true) (same_true _ [] r.1) (names q r.0)))

pub called_none : (p : Program) → ((q : ℕ) → q < proc_count p → is_name (name_at p q) ≡ true) → (n i : ℕ) → callee_count p n ≤ i → called p n i ≡ 0
unfolding called proc_of or_zero name_count name_in
called_none p names n i h = rw (get_or-eq_default (names_in (callee_at p n)) [] h, nameless p names) refl

-- A callee field has a name.
pub some_name : (field : Bytes) → 0 < name_count field
unfolding name_count
some_name field = let c = split_cons 43 field in rw c.2 (omega arith)

-- The first number that passes, where one passes and no other.
pub first_found : (n : ℕ) (f : ℕ → Bool) → count n f ≡ 1 → (i : ℕ) × (i < n) × (f i ≡ true) × ((j : ℕ) → j < n → f j ≡ true → j ≡ i) × (first n f ≡ some i)
first_found n f e =
    let r = count_one f n e in
    (r.0, r.1, r.2, r.3, first_only f n r.0 r.1 r.2 r.3)

module _ (p : Program) (wf : WellFormed p) where
  -- The entry of a procedure is a node of it, of kind E.
  pub entry_is : (q : ℕ) → q < proc_count p → (entry p q < node_count p) × (owner_at p (entry p q) ≡ q) × (kind_at p (entry p q) ≡ E)
  unfolding entry or_zero
  entry_is q h =
      let r = first_found (node_count p) (is_of p q E) (wf.entries q h) in
      let s = is_of_true p q E r.0 r.2 in
      rw r.4 (r.1, s.0, s.1)

  pub exit_only : (q n : ℕ) → q < proc_count p → n < node_count p → owner_at p n ≡ q → kind_at p n ≡ X → n ≡ exit p q
  unfolding exit or_zero
  exit_only q n h l a b =
      let r = first_found (node_count p) (is_of p q X) (wf.exits q h) in
      rw r.4 (r.3 n l (is_of_of p q X n a b))

  pub exit_owner : (q : ℕ) → q < proc_count p → owner_at p (exit p q) ≡ q
  unfolding exit or_zero
  exit_owner q h =
      let r = first_found (node_count p) (is_of p q X) (wf.exits q h) in
      rw r.4 (is_of_true p q X r.0 r.2).0

  -- The procedure that is looked up for a name exists, also where no procedure has it; that of a callee of a call has the callee's name.
  proc_of_below : (name : Bytes) → proc_of p name < proc_count p
  unfolding proc_of or_zero
  proc_of_below name = go (first (proc_count p) (λ q. same (name_at p q) name)) refl
    where
      go : (o : Option ℕ) → first (proc_count p) (λ q. same (name_at p q) name) ≡ o → or_zero o < proc_count p
      go none e = wf.begins
      go (some q) e = (first_at (λ q. same (name_at p q) name) (proc_count p) q e).0

  pub called_below : (n i : ℕ) → called p n i < proc_count p
  unfolding called
  called_below n i = proc_of_below (callee_name p n i)

  pub called_name : (n i : ℕ) → n < node_count p → kind_at p n ≡ C → i < callee_count p n → name_at p (called p n i) ≡ callee_name p n i
  unfolding called proc_of or_zero
  called_name n i h k l =
      let r = wf.callees n h k i l in
      let only : (j : ℕ) → j < proc_count p → same (name_at p j) (callee_name p n i) ≡ true → j ≡ r.0
      = λ j l s. wf.names r.0 j r.1 l (same_true _ _ s ∙ sym r.2) in
      rw (first_only (λ q. same (name_at p q) (callee_name p n i)) (proc_count p) r.0 r.1 (same_of r.2) only) r.2

  -- An edge is the one of its node and word, and the node takes it for that word.
  pub with_is : (e n : ℕ) (w : Bytes) → e < edge_count p → source_at p e ≡ n → word_at p e ≡ w → edge_with p n w ≡ some e
  unfolding edge_with
  with_is e n w h a b =
      first_only (leaves p n w) (edge_count p) e h (leaves_of p n w e a b)
      (λ f l s. let t = leaves_true p n w f s in wf.words e f h l (t.0 ∙ sym a) (t.1 ∙ sym b))

  pub edge_is : (e n : ℕ) (w : Bytes) → e < edge_count p → source_at p e ≡ n → word_at p e ≡ w → edge_taken p n w ≡ some e
  unfolding edge_taken or_else
  edge_is e n w h a b = rw (with_is e n w h a b)

  -- A kind with one edge, named `-`.
  its_edge_of : (n : ℕ) → n < node_count p → degree p n ≡ 1 → ((w : Bytes) → worded (kind_at p n) w ≡ true → w ≡ dash)
      → (e : ℕ) × (edge_taken p n dash ≡ some e) × ((f : ℕ) → f < edge_count p → source_at p f ≡ n → f ≡ e)
  unfolding degree
  its_edge_of n h d k =
      let r = count_one (λ e. eqb (source_at p e) n) (edge_count p) d in
      let s : source_at p r.0 ≡ n = eqb-true _ _ r.2 in
      (r.0, edge_is r.0 n dash r.1 s (k _ (rw s at (wf.dashes r.0 r.1))), λ f i a. r.3 f i (eq-eqb _ _ a))

  -- An E or C has one edge, and it is the one with the word `-`: "its edge".
  pub its_edge : (n : ℕ) → n < node_count p → (kind_at p n ≡ E) ⊎ (kind_at p n ≡ C)
      → (e : ℕ) × (edge_taken p n dash ≡ some e) × ((f : ℕ) → f < edge_count p → source_at p f ≡ n → f ≡ e)
  unfolding worded
  its_edge n h (inl k) =
      let lo : 1 ≤ degree p n = rw k at (wf.fewest_leave n h) in
      let hi : degree p n ≤ 1 = rw k at (wf.most_leave n h) in
      its_edge_of n h (omega arith) (λ w t. same_true w dash (rw k at t))
  its_edge n h (inr k) =
      let lo : 1 ≤ degree p n = rw k at (wf.fewest_leave n h) in
      let hi : degree p n ≤ 1 = rw k at (wf.most_leave n h) in
      its_edge_of n h (omega arith) (λ w t. same_true w dash (rw k at t))
