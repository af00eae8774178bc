-- What a line of a program file says, by its first two bytes and by the fields behind them.
use Rattle.std.specs.Prelude.{◌≡◌, Bool, ℕ, ◌+◌, ◌≤◌, ◌<◌, min, length, take, drop}
use Rattle.std.proofs.Math.Path.{refl, ap}
use Rattle.std.proofs.Common.{sym, ◌∙◌}
use Rattle.std.proofs.Math.Bool.{true, false}
use Rattle.std.proofs.Math.Option.{Option, none, some}
use Rattle.std.specs.Prelude.{None, Some}
use Rattle.std.specs.Prelude as Prelude
use mathlib.Core.List.{List, [], ◌∷◌}
use native.Mathlib.Omega.{arith}
use Rattle.laws.specs.Tests.{◌and◌, after, choose, isnt}
use Rattle.laws.specs.TestLaws.{and_not, and_right, both_ways}
use Rattle.rules.specs.Text.{Bytes, is_name, is_word, join_by, same, split}
use Rattle.rules.specs.Graph.{Kind, E, S, C, X}
use Rattle.rules.specs.ProgramFile.{Line, proc_line, node_line, edge_line, malformed, kind_of, is_node, is_edge, form_of}
use Rattle.rules.specs.Kept.{Formed}
use Rattle.rules.proofs.ProgramLaws.{formed}
use Rattle.rules.specs.Kept.{other}
use Rattle.rules.proofs.TextLaws.{callees_free, empty_true, join_split, name_free, same_of, split_free}
use Rattle.text.specs.NumberLaws.{a_number, no_number, number_read, number_whole}
use Rattle.text.specs.Scans.{span}
use Rattle.text.specs.SplitLaws.{first_last, first_more, letter, pieces}
use Rattle.lines.specs.declared.Kind.{Kind as Code}
use Rattle.lines.specs.Kinds.{coded_meant, kind_coded, kind_meant, node_kind}

-- ---- the first two bytes

module _ (l f rest : Bytes) (ef : f ≡ take 2 l) (er : rest ≡ drop 2 l) (t : Bool) where
  pub says_proc : t ≡ same f (80 ∷ 44 ∷ []) → t ≡ true → form_of (split 44 l) ≡ form_of ((80 ∷ []) ∷ split 44 rest)
  says_proc e y = ap form_of (letter 44 80 l f rest ef er refl (sym e ∙ y))

  pub says_node : t ≡ same f (78 ∷ 44 ∷ []) → t ≡ true → form_of (split 44 l) ≡ form_of ((78 ∷ []) ∷ split 44 rest)
  says_node e y = ap form_of (letter 44 78 l f rest ef er refl (sym e ∙ y))

  pub says_edge : t ≡ same f (66 ∷ 44 ∷ []) → t ≡ true → form_of (split 44 l) ≡ form_of ((66 ∷ []) ∷ split 44 rest)
  says_edge e y = ap form_of (letter 44 66 l f rest ef er refl (sym e ∙ y))

-- Every form has its two bytes.
pub says_none : (l f : Bytes) (p n b : Bool) → f ≡ take 2 l → p ≡ same f (80 ∷ 44 ∷ []) → p ≡ false → n ≡ same f (78 ∷ 44 ∷ []) → n ≡ false → b ≡ same f (66 ∷ 44 ∷ []) → b ≡ false
    → form_of (split 44 l) ≡ malformed
unfolding join_by
says_none l f p n b ef ep np en nn eb nb = go (form_of (split 44 l)) (formed (split 44 l))
  where
    joined : (fs : List Bytes) → split 44 l ≡ fs → f ≡ take 2 (join_by 44 fs)
    joined fs q = ef ∙ ap (take 2) (sym (join_split 44 l) ∙ ap (join_by 44) q)

    go : (x : Line) → Formed (split 44 l) x → x ≡ malformed
    go (proc_line a) q = absurd (both_ways (same_of (joined _ q.0)) (sym ep ∙ np))
    go (node_line k a c) q = absurd (both_ways (same_of (joined _ q.0)) (sym en ∙ nn))
    go (edge_line a c d) q = absurd (both_ways (same_of (joined _ q.0)) (sym eb ∙ nb))
    go malformed q = refl

-- ---- a P line: a name has no comma

proc_more : (a b : Bytes) (cs : List Bytes) → form_of ((80 ∷ []) ∷ a ∷ b ∷ cs) ≡ malformed
unfolding form_of choose same ◌and◌
proc_more a b [] = refl
proc_more a b (c ∷ []) = refl
proc_more a b (c ∷ d ∷ ds) = refl

module _ (s : Bytes) (t : Bool) (e : t ≡ is_name s) where
  pub proc_none : t ≡ false → form_of ((80 ∷ []) ∷ split 44 s) ≡ malformed
  unfolding form_of choose same ◌and◌
  proc_none n = pieces 44 s (λ q. simp (q, ← e, n)) (λ a b cs q. ap (λ (fs : List Bytes). form_of ((80 ∷ []) ∷ fs)) q ∙ proc_more a b cs)

  pub proc_is : t ≡ true → form_of ((80 ∷ []) ∷ split 44 s) ≡ proc_line s
  unfolding form_of choose same ◌and◌
  proc_is y = simp (split_free 44 s (name_free 44 s (omega arith) (sym e ∙ y)), ← e, y)

-- ---- N and B lines: a and b are the first fields behind the letter, rest and c what stands behind each of them

-- The callee field of a node has no comma.
callee_free : (k : Kind) (b c : Bytes) → is_node k b c ≡ true → split 44 c ≡ c ∷ []
unfolding is_node split other isnt
callee_free E b c y = rw (empty_true c (and_right _ _ y)) refl
callee_free S b c y = rw (empty_true c (and_right _ _ y)) refl
callee_free C b c y = split_free 44 c (callees_free 44 c (omega arith) refl (and_right _ _ y))
callee_free X b c y = rw (empty_true c (and_right _ _ y)) refl

module _ (s a : Bytes) (ea : a ≡ take (span 44 s) s) where
  pub node_one : length s ≤ length a → form_of ((78 ∷ []) ∷ split 44 s) ≡ malformed
  unfolding form_of choose same ◌and◌
  node_one h = simp (first_last 44 s a ea h)

  pub edge_one : length s ≤ length a → form_of ((66 ∷ []) ∷ split 44 s) ≡ malformed
  unfolding form_of choose same ◌and◌
  edge_one h = simp (first_last 44 s a ea h)

  module _ (rest b : Bytes) (h : length a < length s) (er : rest ≡ drop (length a + 1) s) (eb : b ≡ take (span 44 rest) rest) where
    pub node_two : length rest ≤ length b → form_of ((78 ∷ []) ∷ split 44 s) ≡ malformed
    unfolding form_of
    node_two k = simp (first_more 44 s a ea rest h er, first_last 44 rest b eb k)

    pub edge_two : length rest ≤ length b → form_of ((66 ∷ []) ∷ split 44 s) ≡ malformed
    unfolding form_of
    edge_two k = simp (first_more 44 s a ea rest h er, first_last 44 rest b eb k)

    module _ (c : Bytes) (k : length b < length rest) (ec : c ≡ drop (length b + 1) rest) where
      fields : split 44 s ≡ a ∷ b ∷ split 44 c
      fields = first_more 44 s a ea rest h er ∙ ap (λ (ps : List Bytes). a ∷ ps) (first_more 44 rest b eb c k ec)

      -- With a comma in c there are too many fields.
      too_many : (x p q : Bytes) (qs : List Bytes) → split 44 c ≡ p ∷ q ∷ qs → form_of (x ∷ split 44 s) ≡ malformed
      unfolding form_of
      too_many x p q qs e = ap (λ (fs : List Bytes). form_of (x ∷ fs)) (fields ∙ ap (λ (fs : List Bytes). a ∷ b ∷ fs) e)

      -- The three fields of an N line.
      pub node_none : ◌≡◌ {A = Prelude.Option Code} None (node_kind a b c) → form_of ((78 ∷ []) ∷ split 44 s) ≡ malformed
      unfolding form_of choose same ◌and◌ node_kind
      node_none x = pieces 44 c (λ e. simp (fields, e) (go (kind_of a) x)) (too_many (78 ∷ []))
        where
          suits : (j : Kind) (t : Bool) → ◌≡◌ {A = Prelude.Option Code} None (choose t (Some (kind_coded j)) None) → choose t (node_line j b c) malformed ≡ malformed
          suits j true q = absurd (let z : ◌≡◌ {A = Prelude.Option Code} None (Some (kind_coded j)) = q in cc)
          suits j false q = refl

          go : (o : Option Kind) → ◌≡◌ {A = Prelude.Option Code} None (after o None (λ j. choose (is_node j b c) (Some (kind_coded j)) None))
              → after o malformed (λ j. choose (is_node j b c) (node_line j b c) malformed) ≡ malformed
          go none q = refl
          go (some j) q = suits j (is_node j b c) q

      pub node_is : (k : Code) → Some k ≡ node_kind a b c → form_of ((78 ∷ []) ∷ split 44 s) ≡ node_line (kind_meant k) b c
      unfolding form_of choose same ◌and◌ node_kind
      node_is k x = go (kind_of a) refl x
        where
          suits : (j : Kind) (t : Bool) → kind_of a ≡ some j → is_node j b c ≡ t → Some k ≡ choose t (Some (kind_coded j)) None → form_of ((78 ∷ []) ∷ split 44 s) ≡ node_line (kind_meant k) b c
          suits j true e y q =
              let m : k ≡ kind_coded j = let z : ◌≡◌ {A = Prelude.Option Code} (Some k) (Some (kind_coded j)) = q in cc in
              simp (fields, callee_free j b c y, e, y) (ap (λ (j : Kind). node_line j b c) (sym (ap kind_meant m ∙ coded_meant j)))
          suits j false e y q = absurd (let z : ◌≡◌ {A = Prelude.Option Code} (Some k) None = q in cc)

          go : (o : Option Kind) → kind_of a ≡ o → Some k ≡ after o None (λ j. choose (is_node j b c) (Some (kind_coded j)) None) → form_of ((78 ∷ []) ∷ split 44 s) ≡ node_line (kind_meant k) b c
          go none e q = absurd (let z : ◌≡◌ {A = Prelude.Option Code} (Some k) None = q in cc)
          go (some j) e q = suits j (is_node j b c) e refl q

      -- The three fields of a B line.
      edge_none : is_edge a b c ≡ false → form_of ((66 ∷ []) ∷ split 44 s) ≡ malformed
      unfolding form_of choose same ◌and◌
      edge_none n = pieces 44 c (λ e. simp (fields, e, n)) (too_many (66 ∷ []))

      pub edge_from : ◌≡◌ {A = Prelude.Option ℕ} None (number_read a) → form_of ((66 ∷ []) ∷ split 44 s) ≡ malformed
      unfolding is_edge ◌and◌
      edge_from e = edge_none (simp (no_number a e))

      module _ (i : ℕ) (ei : Some i ≡ number_read a) where
        pub edge_to : ◌≡◌ {A = Prelude.Option ℕ} None (number_read c) → form_of ((66 ∷ []) ∷ split 44 s) ≡ malformed
        unfolding is_edge ◌and◌
        edge_to e = edge_none (simp (a_number a i ei, no_number c e) (and_not (is_word b)))

        module _ (j : ℕ) (ej : Some j ≡ number_read c) (t : Bool) (et : t ≡ is_word b) where
          pub edge_word : t ≡ false → form_of ((66 ∷ []) ∷ split 44 s) ≡ malformed
          unfolding is_edge ◌and◌
          edge_word n = edge_none (simp (a_number a i ei, ← et, n))

          pub edge_is : t ≡ true → form_of ((66 ∷ []) ∷ split 44 s) ≡ edge_line a b c
          unfolding form_of choose same is_edge ◌and◌
          edge_is y = simp (fields, number_whole c j ej, a_number a i ei, ← et, y, a_number c j ej)

-- The lines that say nothing.
pub ruleset unsaid = (says_none, proc_none, node_one, node_two, node_none, edge_one, edge_two, edge_from, edge_to, edge_word)
