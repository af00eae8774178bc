-- The callees of a call, name by name, and what the number of all of them says of a node.
use mathlib.Core.Path.{◌≡◌, refl, sym, ap, ◌∙◌, subst}
use mathlib.Core.Bool.{Bool, true, false}
use mathlib.Core.List.{List, [], ◌∷◌}
use Prim.Native.Nat.{ℕ, zero, suc, ◌+◌, ◌-◌, ◌*◌, ◌%◌, ◌^◌, ◌≤◌, ◌<◌}
use native.Mathlib.Omega.{arith}
use lib.ListN.{length, get_or, take, drop, length-take}
use lib.Seq.{take_all}
use Rattle.std.specs.Prelude.{Some, None}
use Rattle.laws.specs.Slices.{below_or}
use Rattle.laws.specs.Digits.{number}
use Rattle.laws.specs.Tests.{isnt, found}
use Rattle.laws.specs.TestLaws.{and_left, and_right, and_both, fails, both_ways, true_isnt, isnt_true, any_of_lem, any_at, first_at, found_some}
use Rattle.rules.specs.Text.{Bytes, same, split, names_in, name_count, name_in, is_callees}
use Rattle.rules.specs.Graph.{Kind, E, S, C, X, Program, name_at, kind_at, label_at, callee_at, callee_count, callee_name, proc_count, node_count, kind_number}
use Rattle.rules.specs.ProgramFile.{Listing, is_node, named, lost}
use Rattle.rules.proofs.TextLaws.{empty_true}
use Rattle.rules.proofs.GraphLaws.{nameless, same_kind_of, same_kind_true, some_name}
use Rattle.text.specs.Scans.{span}
use Rattle.text.specs.SplitLaws.{first_last, first_more}
use Rattle.graph.specs.Table.{proc_digit, callees_from}
use Rattle.graph.specs.Callees.{digit_small}
use Rattle.graph.specs.Lookups.{in_table, Procs, ProcNamed}
use Rattle.lines.specs.Known.{Known}
use Rattle.reader.specs.Reading.{CalleesIn, NumberOf}
use Rattle.reader.proofs.Completeness.{number_kind}
use Rattle.reader.proofs.Steps.{found_none, none_any}

pub positive : (n : ℕ) → (n ≡ 0 → ⊥) → 0 < n
positive zero h = absurd (h refl)
positive (suc n) h = omega arith

-- ---- the number of some names, by their digits

module _ (f : Bytes → ℕ) where
  all_cons : (p : Bytes) (ps : List Bytes) → 0 < f p → ((i : ℕ) → i < length ps → 0 < f (get_or ps i [])) → (i : ℕ) → i < suc (length ps) → 0 < f (get_or (p ∷ ps) i [])
  all_cons p ps h hs zero l = h
  all_cons p ps h hs (suc i) l = hs i (omega arith)

  number_lost : (p : Bytes) (ps : List Bytes) → f p ≡ 0 → NumberOf f (p ∷ ps) None
  number_lost p ps e = (0, omega arith, e)

  number_behind : (p : Bytes) (ps : List Bytes) → NumberOf f ps None → NumberOf f (p ∷ ps) None
  number_behind p ps u = (suc u.0, omega (arith, u.1), u.2)

  module _ (small : (x : Bytes) → f x < 256) (p : Bytes) (q : ℕ) (e : suc q ≡ f p) where
    number_one : NumberOf f (p ∷ []) (Some (q % 255 + 1))
    unfolding number
    number_one = (let z : q % 255 + 1 ≡ 0 * 256 + f p = omega (arith, small p) in z, all_cons p [] (omega arith) (λ i l. absurd (let y : ⊥ = omega arith in y)))

    -- k digits make a number below 256 ^ k.
    number_below : (k : ℕ) (qs : List Bytes) → length qs ≤ k → number 256 f qs < 256 ^ k
    unfolding number
    number_below zero [] l = omega arith
    number_below zero (q ∷ qs) l = absurd (let z : ⊥ = omega arith in z)
    number_below (suc k) [] l = omega (arith, number_below k [] (omega arith))
    number_below (suc k) (q ∷ qs) l = omega (arith, number_below k qs (omega arith), small q)

    number_more : (ps : List Bytes) (r : ℕ) → NumberOf f ps (Some r) → length ps ≤ 3 → NumberOf f (p ∷ ps) (Some (r % 16777216 * 256 + q % 255 + 1))
    unfolding number
    number_more ps r u l =
        let a = number_below 3 ps l in
        let b = small p in
        (let z : r % 16777216 * 256 + q % 255 + 1 ≡ number 256 f ps * 256 + f p = omega (arith, u.0) in z, all_cons p ps (omega arith) u.1)

-- ---- `callees_in`

module _ (text links : List ℕ) (procs : ℕ) (field : Bytes) (most : ℕ) where
  pub callees_none : most ≡ 0 → CalleesIn text links procs field most None
  unfolding CalleesIn name_count
  callees_none e s h ep few l = absurd (let z : ⊥ = omega (arith, some_name field) in z)

  digit_is : (name : Bytes) (q : ℕ) → ProcNamed text links procs name q → (s : Listing) → Procs text (in_table links) s → procs ≡ proc_count s.program → q ≡ proc_digit s.program name
  unfolding ProcNamed proc_digit
  digit_is name q pn s h ep = pn s h ep

  small_digits : (s : Listing) → proc_count s.program ≤ 64 → (x : Bytes) → proc_digit s.program x < 256
  small_digits s few x = let b = digit_small s.program x in omega (arith, few)

  module _ (name : Bytes) (e : name ≡ take (span 43 field) field) where
    last_name : length field ≤ length name → split 43 field ≡ name ∷ []
    last_name h =
        let whole : name ≡ field = e ∙ take_all (span 43 field) field (omega (arith, ap length e, length-take (span 43 field) field)) in
        first_last 43 field name e h ∙ ap (λ (p : Bytes). p ∷ []) (sym whole)

    first_name : (ps : List Bytes) × (split 43 field ≡ name ∷ ps)
    first_name =
        below_or (length name) (length field) (λ h. (split 43 (drop (length name + 1) field), first_more 43 field name e (drop (length name + 1) field) h refl))
        (λ h. ([], last_name h))

    pub callees_unknown : ProcNamed text links procs name 0 → CalleesIn text links procs field most None
    unfolding CalleesIn
    callees_unknown pn s hs ep few l = rw first_name.1 (number_lost (proc_digit s.program) name first_name.0 (sym (digit_is name 0 pn s hs ep)))

    pub callees_one : length field ≤ length name → (q : ℕ) → ProcNamed text links procs name (suc q) → CalleesIn text links procs field most (Some (q % 255 + 1))
    unfolding CalleesIn
    callees_one h q pn s hs ep few l = rw (last_name h) (number_one (proc_digit s.program) (small_digits s few) name q (digit_is name (suc q) pn s hs ep))

    module _ (h : length name < length field) (q : ℕ) (pn : ProcNamed text links procs name (suc q)) (rest : Bytes) (er : rest ≡ drop (length name + 1) field) where
      names_are : split 43 field ≡ name ∷ split 43 rest
      names_are = first_more 43 field name e rest h er

      names_behind : name_count field ≤ most → name_count rest ≤ most - 1
      unfolding name_count
      names_behind l = omega (arith, ap length names_are)

      pub callees_behind : CalleesIn text links procs rest (most - 1) None → CalleesIn text links procs field most None
      unfolding CalleesIn
      callees_behind c s hs ep few l = rw names_are (number_behind (proc_digit s.program) name (split 43 rest) (c s hs ep few (names_behind l)))

      pub callees_more : (r : ℕ) → CalleesIn text links procs rest (most - 1) (Some r) → most ≤ 4 → CalleesIn text links procs field most (Some (r % 16777216 * 256 + q % 255 + 1))
      unfolding CalleesIn name_count
      callees_more r c m s hs ep few l =
          rw names_are
          (number_more (proc_digit s.program) (small_digits s few) name q (digit_is name (suc q) pn s hs ep) (split 43 rest) r (c s hs ep few (names_behind l)) (omega (arith, names_behind l)))

pub ruleset callees = (callees_none, callees_unknown, callees_one, callees_behind, callees_more)

-- ---- the callees of a node

-- Only a C has some.
no_callee : (k : Kind) (label callee : Bytes) → is_node k label callee ≡ true → (kind_number k ≡ 2 → ⊥) → callee ≡ []
unfolding is_node
no_callee E label callee h z = empty_true _ (and_right _ _ h)
no_callee S label callee h z = empty_true _ (and_right _ _ h)
no_callee C label callee h z = absurd (z refl)
no_callee X label callee h z = empty_true _ (and_right _ _ h)

call_field : (k : Kind) (label callee : Bytes) → is_node k label callee ≡ true → k ≡ C → is_callees callee ≡ true
unfolding is_node
call_field k label callee h e = and_right _ _ (subst (λ (t : Kind). is_node t label callee ≡ true) e h)

-- A digit is 0 exactly where no procedure has the name.
unknown_name : (p : Program) (name : Bytes) → proc_digit p name ≡ 0 → named p name ≡ false
unfolding proc_digit named
unknown_name p name e = none_any (λ q. same (name_at p q) name) (proc_count p) (found_none _ (omega (arith, e)))

known_name : (p : Program) (name : Bytes) → 0 < proc_digit p name → named p name ≡ true
unfolding proc_digit named
known_name p name h =
    let f : ℕ → Bool = λ q. same (name_at p q) name in
    let o = found_some _ h in
    let u = first_at f (proc_count p) o.0 o.1 in
    any_of_lem f (proc_count p) o.0 u.0 u.1

module _ (text : Bytes) (s : Listing) (k : Known text s) (n : ℕ) (l : n < node_count s.program) where
  abbrev p : Program
  p = s.program

  form : is_node (kind_at p n) (label_at p n) (callee_at p n) ≡ true
  form = k.sound.node_forms n l

  empty_unknown : proc_digit p [] ≡ 0
  unfolding proc_digit
  empty_unknown = ap found (nameless p k.sound.name_forms)

  -- A node that calls nothing.
  pub calls_nothing : (kind_number (kind_at p n) ≡ 2 → ⊥) → 0 ≡ callees_from p n 0
  unfolding callees_from number split
  calls_nothing z = rw (no_callee (kind_at p n) (label_at p n) (callee_at p n) form z) (omega (arith, empty_unknown))

  pub not_lost : (kind_number (kind_at p n) ≡ 2 → ⊥) → lost p n ≡ false
  unfolding lost
  not_lost z = fails _ (λ t. z (ap kind_number (same_kind_true _ _ (and_left _ _ t))))

  module _ (e : kind_number (kind_at p n) ≡ 2) where
    is_c : kind_at p n ≡ C
    is_c = (number_kind (kind_at p n)).1 e

    pub is_callees_lem : is_callees (callee_at p n) ≡ true
    is_callees_lem = call_field (kind_at p n) (label_at p n) (callee_at p n) form is_c

    pub call_lost : NumberOf (proc_digit p) (names_in (callee_at p n)) None → lost p n ≡ true
    unfolding lost name_count name_in
    call_lost u =
        and_both (same_kind_of is_c) (any_of_lem (λ i. isnt (named p (callee_name p n i))) (callee_count p n) u.0 u.1 (true_isnt (unknown_name p _ u.2)))

    pub call_known : (r : ℕ) → NumberOf (proc_digit p) (names_in (callee_at p n)) (Some r) → (lost p n ≡ false) × (r ≡ callees_from p n 0)
    unfolding lost name_count name_in callees_from
    call_known r u = (fails _ (λ t. let v = any_at (λ i. isnt (named p (callee_name p n i))) (callee_count p n) (and_right _ _ t) in both_ways (known_name p _ (u.1 v.0 v.1)) (isnt_true _ v.2)), u.0)
