-- The turns and the returns of this crate's functions, as `search` finds them: the premises are what the code holds there.
use mathlib.Core.Path.{◌≡◌, refl, sym, ap, ap₂, ◌∙◌, subst, subst₂}
use mathlib.Core.Bool.{Bool, true, false, false≢true}
use mathlib.Core.List.{List, []}
use Prim.Native.Nat.{ℕ, ◌+◌, ◌-◌, ◌≤◌, ◌<◌}
use native.Mathlib.Omega.{arith}
use lib.Dec.{eqb}
use lib.ListN.{get_or, length, length-set, set}
use lib.Seq.{get_or-set_other, get_or-set_same, set_out}
use borrow.Author.Tests.{eqb-true, eq-eqb, ne_eqb}
use Rattle.laws.specs.Tests.{◌and◌, ◌⇒◌, every}
use Rattle.laws.specs.TestLaws.{and_both, and_left, and_right, both_ways, fails}
use Rattle.laws.specs.Slices.{below_or, same_or}
use Rattle.laws.specs.Chain.{Walk, walk_start}
use Rattle.rules.specs.Text.{Bytes, same, same_label}
use Rattle.rules.specs.Graph.{C, Kind, E, S, X, callee_at, callee_count, filled, kind_at, kind_number, label_at, node_count, same_kind}
use Rattle.rules.specs.Closing.{alike, both_call, exits_met, goes_on, same_callee}
use Rattle.rules.specs.Check.{entered_at}
use Rattle.rules.specs.ProgramFile.{Listing}
use Rattle.rules.proofs.ClosingLaws.{alike_back, alike_parts, alike_self, alike_then, bare_callees, same_callee_is}
use Rattle.rules.proofs.GraphLaws.{same_kind_true}
use Rattle.rules.proofs.TextLaws.{empty_true}
use Rattle.graph.specs.Table.{node_base}
use Rattle.graph.specs.Reads.{part_at}
use Rattle.pairset.specs.Store.{last_pair, new_at, old_at, pairs_in}
use Rattle.pairset.specs.StoreLaws.{listed_of, walked}
use Rattle.versions.specs.Memory.{InMemory, Memory, memory}
use Rattle.versions.specs.MemoryLaws.{kind_is, label_is, callees_are, sound, well_formed}
use Rattle.versions.specs.Called.{CalleesAt}
use Rattle.versions.specs.Claims.{Alike, BothCall, CalleesEntered, Entered, ExitsMet, GoesOn, SameCallees}
use Rattle.versions.specs.Groups.{Grouped, Groups, Known, OfGroup, Regrouped}

-- ---- `same_label`, `same_name`

module _ (a b x y : List ℕ) (r : Bool) (ea : a ≡ x) (eb : b ≡ y) where
  pub labels_same : r ≡ same_label a b → r ≡ same_label x y
  labels_same e = e ∙ ap₂ same_label ea eb

  pub names_same : r ≡ same a b → r ≡ same_callee x y
  names_same e = e ∙ ap₂ same ea eb ∙ sym (same_callee_is x y)

pub ruleset sames = (labels_same, names_same)

-- ---- `alike`

-- Only a call has a callee.
bare : (k : Kind) (l c : Bytes) → (kind_number k ≡ 2 → ⊥) → filled k l c ≡ true → c ≡ []
unfolding filled
bare E l c z f = empty_true c (and_right _ _ f)
bare S l c z f = empty_true c (and_right _ _ f)
bare C l c z f = absurd (z refl)
bare X l c z f = empty_true c (and_right _ _ f)

call_is : (k : Kind) → kind_number k ≡ 2 → k ≡ C
unfolding same_kind
call_is k e = same_kind_true k C (eq-eqb _ _ e)

module _ (v w : Memory) (n m k l : ℕ) (ek : k ≡ get_or v.nodes (node_base n) 0) (el : l ≡ get_or w.nodes (node_base m) 0) where
  pub alike_kinds : (k ≡ l → ⊥) → Alike v w n m false
  unfolding Alike same_kind ◌and◌
  alike_kinds d o p h g i j =
      let x : k ≡ kind_number (kind_at o.program n) = ek ∙ kind_is _ o h n i in
      let y : l ≡ kind_number (kind_at p.program m) = el ∙ kind_is _ p g m j in
      sym (alike_parts o.program p.program n m ∙ fails _ (λ t. d (x ∙ eqb-true _ _ (and_left _ _ t) ∙ sym y)))

  module _ (q : k ≡ l) (u : Bool) (eu : u ≡ same_label (part_at v.text v.nodes (node_base n + 1)) (part_at w.text w.nodes (node_base m + 1))) where
    pub alike_labels : u ≡ false → Alike v w n m false
    unfolding Alike
    alike_labels z o p h g i j =
        sym (alike_parts o.program p.program n m
        ∙ fails _ (λ t. both_ways (eu ∙ ap₂ same_label (label_is _ o h n i) (label_is _ p g m j) ∙ and_left _ _ (and_right _ _ t)) z))

    kinds_are : (o p : Listing) → InMemory v o → InMemory w p → n < node_count o.program → m < node_count p.program
        → (kind_number (kind_at o.program n) ≡ k) × (kind_number (kind_at p.program m) ≡ k)
    kinds_are o p h g i j = (sym (ek ∙ kind_is _ o h n i), sym (q ∙ el ∙ kind_is _ p g m j))

    labels_are : (o p : Listing) → InMemory v o → InMemory w p → n < node_count o.program → m < node_count p.program
        → u ≡ true → same_label (label_at o.program n) (label_at p.program m) ≡ true
    labels_are o p h g i j z = sym (ap₂ same_label (label_is _ o h n i) (label_is _ p g m j)) ∙ sym eu ∙ z

    pub alike_bare : u ≡ true → (k ≡ 2 → ⊥) → Alike v w n m true
    unfolding Alike same_kind
    alike_bare z d o p h g i j =
        let ks = kinds_are o p h g i j in
        let c : callee_at o.program n ≡ [] = bare _ _ _ (λ e. d (sym ks.0 ∙ e)) ((well_formed _ o h).fields n i) in
        let c' : callee_at p.program m ≡ [] = bare _ _ _ (λ e. d (sym ks.1 ∙ e)) ((well_formed _ p g).fields m j) in
        sym (alike_parts o.program p.program n m
        ∙ and_both (eq-eqb _ _ (ks.0 ∙ sym ks.1)) (and_both (labels_are o p h g i j z) (bare_callees o.program p.program n m c c')))

    pub alike_calls : (a b : ℕ) (r : Bool) → u ≡ true → k ≡ 2 → a ≡ get_or v.nodes (node_base n + 3) 0 → b ≡ get_or w.nodes (node_base m + 3) 0 → SameCallees v.text v.links w.text w.links a b r
        → Alike v w n m r
    unfolding Alike SameCallees same_kind every ◌and◌
    alike_calls a b r z d ea eb er o p h g i j =
        let ks = kinds_are o p h g i j in
        let at : CalleesAt o p n m 0 a b
        = record { old_node = i; call = call_is _ (ks.0 ∙ d); within = omega arith; old_from = ea ∙ callees_are _ o h n i; new_from = eb ∙ callees_are _ p g m j } in
        er v.nodes w.nodes o p h g n m 0 at j (call_is _ (ks.1 ∙ d)) (omega arith) refl
        ∙ sym (alike_parts o.program p.program n m
        ∙ ap₂ (λ (s t : Bool). s and (t and same_callee (callee_at o.program n) (callee_at p.program m))) (eq-eqb _ _ (ks.0 ∙ sym ks.1)) (labels_are o p h g i j z))

pub ruleset alikes = (alike_kinds, alike_labels, alike_bare, alike_calls)

-- ---- `both_call`

module _ (on nn : List ℕ) (n m k : ℕ) (ek : k ≡ get_or on (node_base n) 0) where
  pub calls_not : (k ≡ 2 → ⊥) → BothCall on nn n m false
  unfolding BothCall both_call same_kind
  calls_not d ot nt ol nl o p h g i j = sym (fails _ (λ t. d (ek ∙ kind_is _ o h n i ∙ eqb-true _ _ (and_left _ _ t))))

  pub calls_both : (l : ℕ) → k ≡ 2 → l ≡ get_or nn (node_base m) 0 → BothCall on nn n m (eqb l 2)
  unfolding BothCall both_call same_kind ◌and◌
  calls_both l d el ot nt ol nl o p h g i j =
      ap (λ (x : ℕ). eqb x 2) (el ∙ kind_is _ p g m j) ∙ sym (ap (λ (t : Bool). t and eqb (kind_number (kind_at p.program m)) 2) (eq-eqb (kind_number (kind_at o.program n)) 2 (sym (ek ∙ kind_is _ o h n i) ∙ d)))

pub ruleset calls = (calls_not, calls_both)

-- ---- `goes_on`, `entered`

module _ (on ol nn nl w : List ℕ) (n m : ℕ) where
  pub goes_free : (k : ℕ) → k ≡ get_or on (node_base n) 0 → (k ≡ 2 → ⊥) → GoesOn on ol nn nl w n m true
  unfolding GoesOn goes_on same_kind ◌⇒◌
  goes_free k ek d ot nt o p c h g st i j =
      sym (ap (λ (t : Bool). t ⇒ exits_met o.program p.program (pairs_in w c) n m (callee_count o.program n)) (ne_eqb (kind_number (kind_at o.program n)) 2 (λ e. d (ek ∙ kind_is _ o h n i ∙ e))))

  pub entered_free : (u : Bool) → BothCall on nn n m u → u ≡ false → Entered on ol nn nl w n m true
  unfolding Entered BothCall ◌⇒◌
  entered_free u b z ot nt o p c h g st i j =
      sym (ap (λ (t : Bool). t ⇒ every (callee_count o.program n) (entered_at o.program p.program (pairs_in w c) n m)) (sym (b ot nt ol nl o p h g i j) ∙ z))

  module _ (a b : ℕ) (r : Bool) (ea : a ≡ get_or on (node_base n + 3) 0) (eb : b ≡ get_or nn (node_base m + 3) 0) where
    -- The callees from the first on.
    all_callees : {ot nt : Bytes} {o p : Listing} → InMemory (memory ot on ol) o → InMemory (memory nt nn nl) p → n < node_count o.program → m < node_count p.program
        → kind_at o.program n ≡ C → CalleesAt o p n m 0 a b
    all_callees {o = o} {p = p} h g i j c = record { old_node = i; call = c; within = omega arith; old_from = ea ∙ callees_are _ o h n i; new_from = eb ∙ callees_are _ p g m j }

    pub goes_exits : (k : ℕ) → k ≡ get_or on (node_base n) 0 → k ≡ 2 → ExitsMet ol nl w a b r → GoesOn on ol nn nl w n m r
    unfolding GoesOn goes_on exits_met ExitsMet every same_kind ◌⇒◌
    goes_exits k ek d met ot nt o p c h g st i j =
        let e : kind_number (kind_at o.program n) ≡ 2 = sym (ek ∙ kind_is _ o h n i) ∙ d in
        met ot on nt nn o p c h g st n m 0 (all_callees h g i j (call_is _ e)) refl
        ∙ sym (ap (λ (t : Bool). t ⇒ exits_met o.program p.program (pairs_in w c) n m (callee_count o.program n)) (eq-eqb _ _ e))

    pub entered_callees : (u : Bool) → BothCall on nn n m u → u ≡ true → CalleesEntered ol nl w a b r → Entered on ol nn nl w n m r
    unfolding Entered BothCall both_call CalleesEntered exits_met every ◌⇒◌
    entered_callees u bc z came ot nt o p c h g st i j =
        let both : both_call o.program p.program n m ≡ true = sym (bc ot nt ol nl o p h g i j) ∙ z in
        came ot on nt nn o p c h g st n m 0 (all_callees h g i j (same_kind_true _ _ (and_left _ _ both))) refl refl
        ∙ sym (ap (λ (t : Bool). t ⇒ every (callee_count o.program n) (entered_at o.program p.program (pairs_in w c) n m)) both)

pub ruleset goes = (goes_free, goes_exits, entered_free, entered_callees)

-- ---- `group_node`, `group`

module _ (v : Memory) where
  pub group_start : (g : List ℕ) → Regrouped v g g
  unfolding Groups
  group_start g = record { size = refl; groups = λ s h was. was }

  pub group_on : (g g₁ g₂ : List ℕ) → Regrouped v g g₁ → Regrouped v g₁ g₂ → Regrouped v g g₂
  unfolding Groups
  group_on g g₁ g₂ a b = record { size = b.size ∙ a.size; groups = λ s h was. b.groups s h (a.groups s h was) }

  module _ (g g₁ : List ℕ) (x r : ℕ) (e : g₁ ≡ set g x r) where
    number_at : (y : ℕ) → (y ≡ x → ⊥) → get_or g₁ y 0 ≡ get_or g y 0
    number_at y q = ap (λ (m : List ℕ). get_or m y 0) e ∙ get_or-set_other g x y r 0 q

    size_at : length g₁ ≡ length g
    size_at = ap length e ∙ length-set g x r

    -- A number for the node x, where it says what is so.
    group_one : ((s : Listing) → InMemory v s → x < node_count s.program → OfGroup s.program r x) → Regrouped v g g₁
    unfolding Groups Grouped
    group_one like =
        record {
          size = size_at;
          groups = λ s h was y l pos.
              same_or y x
              (λ q.
              below_or x (length g)
              (λ i.
              let k : get_or g₁ y 0 ≡ r = ap (λ (m : List ℕ). get_or m y 0) e ∙ ap (λ (j : ℕ). get_or (set g x r) j 0) q ∙ get_or-set_same g x r 0 i in
              subst₂ (OfGroup s.program) (sym k) (sym q) (like s h (subst (λ (j : ℕ). j < node_count s.program) q l)))
              (λ i.
              let k : get_or g₁ y 0 ≡ get_or g y 0 = ap (λ (m : List ℕ). get_or m y 0) (e ∙ set_out g x r i) in
              subst₂ (OfGroup s.program) (sym k) refl (was y l (omega arith))))
              (λ q. let k = number_at y q in subst₂ (OfGroup s.program) (sym k) refl (was y l (omega arith)));
        }

    -- A number behind the nodes.
    group_behind : 512 ≤ x → Regrouped v g g₁
    unfolding Groups Grouped
    group_behind far =
        record {
          size = size_at;
          groups = λ s h was y l pos.
              let k = number_at y (λ q. let z : ⊥ = omega (arith, (sound _ s h).few_nodes) in z) in
              subst (λ (n : ℕ). OfGroup s.program n y) (sym k) (was y l (omega arith));
        }

  pub group_twin : (g g₁ : List ℕ) (x n : ℕ) (t : Bool) → n < x → Alike v v n x t → t ≡ true → g₁ ≡ set g x (n + 1) → Regrouped v g g₁
  unfolding Alike
  group_twin g g₁ x n t b is y e =
      let own : n ≡ n + 1 - 1 = omega arith in
      group_one g g₁ x (n + 1) e (λ s h l. subst (λ (k : ℕ). alike s.program s.program k x ≡ true) own (sym (is s s h h (omega arith) l) ∙ y))

  pub group_own : (g g₁ g₂ : List ℕ) (place x : ℕ) → 512 ≤ place → g₁ ≡ set g place (x + 1) → g₂ ≡ set g₁ x (x + 1) → Regrouped v g g₂
  group_own g g₁ g₂ place x far e e' =
      let own : x ≡ x + 1 - 1 = omega arith in
      group_on g g₁ g₂ (group_behind g g₁ place (x + 1) e far)
      (group_one g₁ g₂ x (x + 1) e' (λ s h l. subst (λ (n : ℕ). alike s.program s.program n x ≡ true) own (alike_self s.program x)))

pub ruleset groups = (group_start, group_on, group_twin, group_own)

-- ---- `known_alike`

module _ (w g : List ℕ) (a b : ℕ) where
  pub known_not : Known w g a b false
  unfolding Known
  known_not old new c st gr like j t = absurd (false≢true t)

  pub known_same : (place group partner q : ℕ) → place ≡ last_pair w a → 1 ≤ place → group ≡ get_or g b 0 → 1 ≤ group → partner ≡ new_at w (place - 1) → q ≡ get_or g partner 0
      → Known w g a b (eqb q group)
  unfolding Known Grouped
  known_same place group partner q ep pos eg some en eq old new c st gr like j t =
      let walk : Walk (λ _. ⊥) (old_at w) a c (last_pair w a) = walk_start (walked st (a + 1)) a (omega arith) in
      let own : old_at w (place - 1) ≡ a = ap (λ (k : ℕ). old_at w (k - 1)) ep ∙ walk.owner (omega arith) in
      let y = like a partner (listed_of w a partner c (place - 1) (omega (arith, walk.within)) own (sym en)) in
      let k : get_or g partner 0 ≡ group = sym eq ∙ eqb-true _ _ t in
      let r : alike new new (group - 1) partner ≡ true = subst (λ (n : ℕ). OfGroup new n partner) k (gr partner y.1 (omega arith)) in
      alike_then old new new a partner b y.0
      (alike_then new new new partner (group - 1) b (alike_back new new (group - 1) partner r) (subst (λ (n : ℕ). OfGroup new n b) (sym eg) (gr b j (omega arith))))

pub ruleset knowns = (known_not, known_same)
