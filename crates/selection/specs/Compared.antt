-- Two versions that were compared: their programs are in memory, with some texts, and a table holds exactly their pairs.
use Rattle.std.specs.Prelude.{◌≡◌, refl, Bool, false, List, ℕ, ◌≤◌, ◌<◌, ltb}
use Rattle.std.proofs.Common.{sym, ap, ◌∙◌}
use Rattle.std.proofs.Math.Path.{ap₂}
use Rattle.std.proofs.Math.Bool.{true}
use Rattle.std.proofs.Math.Dec.{eqb}
use borrow.Author.Tests.{eqb-true, eq-eqb}
use Rattle.laws.specs.Tests.{◌and◌, any, isnt, listed}
use Rattle.laws.specs.TestLaws.{and_both, and_left, and_right, any_at, any_of_lem, same_test}
use Rattle.laws.specs.Chain.{latest}
use Rattle.laws.specs.Fold.{passing}
use Rattle.rules.specs.Text.{Bytes}
use Rattle.rules.specs.Graph.{Program, edge_count, node_count, source_at, target_at}
use Rattle.rules.specs.Closing.{alike, edge_ends, fits, goes_on, joined, pairs, parted, opposite}
use Rattle.rules.specs.ProgramFile.{Listing}
use Rattle.rules.proofs.Closure.{joined_iff, joined_of, pair_alike, pairs_complete, pairs_inside, pairs_sound}
use Rattle.rules.proofs.ClosingLaws.{fits_of}
use Rattle.pairset.specs.Store.{new_at, old_at, pairs_in}
use Rattle.pairset.specs.StoreLaws.{listed_at, listed_of}
use Rattle.versions.specs.Memory.{InMemory, memory}
use Rattle.versions.specs.MemoryLaws.{well_formed}
use Rattle.versions.specs.Opposite.{LastOpposite, opposite_below, side_of}
use Rattle.versions.specs.PairsHeld.{PairsHeld, goes_on_agree}
use Rattle.selection.specs.declared.Ends.{Ends}
use Rattle.selection.specs.declared.Ends.TheVariants.{Met, Parted}

pub record Compared (on ol nn nl w : List ℕ) (c : ℕ) (o p : Listing) : Type 0 where
  pub old_text : Bytes
  pub new_text : Bytes
  pub old_in : InMemory (memory old_text on ol) o
  pub new_in : InMemory (memory new_text nn nl) p
  pub held : PairsHeld o.program p.program w c

-- Each pair of the table is listed; the new node of a listed pair is one.
pub pair_there : (w : List ℕ) (c k : ℕ) → k < c → listed (pairs_in w c) (old_at w k) (new_at w k) ≡ true
pair_there w c k l = listed_of w (old_at w k) (new_at w k) c k l refl refl

pub partner_below : {on ol nn nl w : List ℕ} {c : ℕ} {o p : Listing} → Compared on ol nn nl w c o p → (n m : ℕ) → listed (pairs_in w c) n m ≡ true → m < node_count p.program
partner_below {o = o} {p = p} h n m l = (pairs_inside o.program p.program n m (sym (h.held.same n m) ∙ l)).1

-- ---- an old edge at a pair that may go on

-- The ends are to be alike, or they are not to be.
abbrev pub is_met : Ends → Bool
is_met Met = true
is_met Parted = false

-- Both are true, or both are not.
unfoldable pub same_bool : Bool → Bool → Bool
same_bool true b = b
same_bool false b = isnt b

-- The old edge e and the new edge f are opposite, and their ends are alike, or, if `met` is false, are not.
unfoldable pub ends_met : Program → Program → Bool → ℕ → ℕ → Bool
ends_met old new met e f = opposite old new e f and same_bool (alike old new (target_at old e) (target_at new f)) met

same_true : (b : Bool) → same_bool b true ≡ b
unfolding same_bool isnt
same_true true = refl
same_true false = refl

same_false : (b : Bool) → same_bool b false ≡ isnt b
unfolding same_bool isnt
same_false true = refl
same_false false = refl

-- At a pair that may go on the ends of opposite edges are alike just where they are a pair.
pub ends_pair : {on ol nn nl w : List ℕ} {c : ℕ} {o p : Listing} → Compared on ol nn nl w c o p → (e f : ℕ) → e < edge_count o.program → f < edge_count p.program
    → listed (pairs_in w c) (source_at o.program e) (source_at p.program f) ≡ true → goes_on o.program p.program (pairs_in w c) (source_at o.program e) (source_at p.program f) ≡ true
    → opposite o.program p.program e f ≡ true
    → listed (pairs_in w c) (target_at o.program e) (target_at p.program f) ≡ alike o.program p.program (target_at o.program e) (target_at p.program f)
ends_pair {w = w} {c = c} {o = o} {p = p} h e f i j l g s =
    let old = o.program in
    let new = p.program in
    let wo = well_formed _ o h.old_in in
    let wn = well_formed _ p h.new_in in
    h.held.same (target_at old e) (target_at new f)
    ∙ same_test _ _ (λ t. pair_alike old new wo wn (pairs_sound old new wo wn _ _ t))
    (λ t.
    let z : joined old new (pairs old new) e f ≡ true
    = joined_of old new (pairs old new) e f (sym (h.held.same _ _) ∙ l) (sym (goes_on_agree old new (pairs_in w c) (pairs old new) h.held.same _ _) ∙ g) (fits_of old new e f s t) in
    let x = (joined_iff old new wo wn e f i j).0 z in
    pairs_complete old new wo wn (edge_ends x.pair x.may_go_on x.word x.old_takes x.new_takes x.alike_ends))

-- ---- the counterparts of an old edge, found along the pairs of the node that it leaves

-- At a listed pair that may go on the new edge f is opposite to the old edge e, with ends so: joined, or parted.
unfoldable pub met_at : Program → Program → List (ℕ × ℕ) → Bool → ℕ → ℕ → Bool
met_at old new M met e f = listed M (source_at old e) (source_at new f) and (goes_on old new M (source_at old e) (source_at new f) and ends_met old new met e f)

pub met_joined : (old new : Program) (M : List (ℕ × ℕ)) (e f : ℕ) → met_at old new M true e f ≡ joined old new M e f
unfolding met_at joined ends_met fits
met_joined old new M e f = ap (λ (t : Bool). listed M (source_at old e) (source_at new f) and (goes_on old new M (source_at old e) (source_at new f) and (opposite old new e f and t))) (same_true _)

pub met_parted : (old new : Program) (M : List (ℕ × ℕ)) (e f : ℕ) → met_at old new M false e f ≡ parted old new M e f
unfolding met_at parted ends_met
met_parted old new M e f = ap (λ (t : Bool). listed M (source_at old e) (source_at new f) and (goes_on old new M (source_at old e) (source_at new f) and (opposite old new e f and t))) (same_false _)

-- The new edge x is such an edge of the node m, where the pair may go on by the list; 1 + the last one below k, or 0.
unfoldable pub hit_at : Program → Program → List (ℕ × ℕ) → Bool → ℕ → ℕ → ℕ → Bool
hit_at old new M met e m x = ltb x (edge_count new) and (goes_on old new M (source_at old e) m and (eqb (source_at new x) m and ends_met old new met e x))

abbrev pub hit_below : Program → Program → List (ℕ × ℕ) → Bool → ℕ → ℕ → ℕ → ℕ
hit_below old new M met e m k = latest (passing (hit_at old new M met e m)) 0 k

-- `ends_meet`: the ends of e and of f, which is opposite to it, are alike, or, if `met` is false, are not.
unfoldable pub EndsMeet : List ℕ → List ℕ → List ℕ → ℕ → ℕ → Bool → Bool → Type 0
EndsMeet ol nl w e f met r =
    (on nn : List ℕ) (o p : Listing) (c : ℕ) → Compared on ol nn nl w c o p → e < edge_count o.program → f < edge_count p.program → (m : ℕ)
    → listed (pairs_in w c) (source_at o.program e) m ≡ true → goes_on o.program p.program (pairs_in w c) (source_at o.program e) m ≡ true
    → side_of o.program p.program e m f ≡ 0 → r ≡ same_bool (alike o.program p.program (target_at o.program e) (target_at p.program f)) met

-- `fitting`: 1 + the last such edge of m below k, or 0, where the place is that of the last opposite edge below k, and the pair may go on.
unfoldable pub Fits : List ℕ → List ℕ → List ℕ → ℕ → ℕ → Bool → ℕ → Type 0
Fits ol nl w e from met r =
    (on nn : List ℕ) (o p : Listing) (c : ℕ) → Compared on ol nn nl w c o p → e < edge_count o.program → (m k : ℕ)
    → listed (pairs_in w c) (source_at o.program e) m ≡ true → goes_on o.program p.program (pairs_in w c) (source_at o.program e) m ≡ true
    → k ≤ edge_count p.program → from ≡ opposite_below o.program p.program e m k → r ≡ hit_below o.program p.program (pairs_in w c) met e m k

pub record Fitting (ol nl w : List ℕ) (e from : ℕ) (met : Bool) (r : ℕ) : Type 0 where
  pub fits : Fits ol nl w e from met r
  pub below : r ≤ from

-- `last_fitting`: the same from the last opposite edge of m.
pub record LastFitting (ol nl w : List ℕ) (e m : ℕ) (met : Bool) (r : ℕ) : Type 0 where
  pub last : ℕ
  pub is_last : LastOpposite ol nl e m last
  pub fitting : Fitting ol nl w e last met r

-- `joins`: 1 + the last edge of the new node m that is joined with the old edge e, which leaves the node n, for the pair of n and m, or, if `met` is false, that parts from it; or 0.
unfoldable pub Joins : List ℕ → List ℕ → List ℕ → List ℕ → List ℕ → ℕ → ℕ → ℕ → Bool → ℕ → Type 0
Joins on ol nn nl w e n m met r =
    (o p : Listing) (c : ℕ) → Compared on ol nn nl w c o p → e < edge_count o.program → n ≡ source_at o.program e → listed (pairs_in w c) n m ≡ true
    → r ≡ hit_below o.program p.program (pairs_in w c) met e m (edge_count p.program)

-- `joins_before`: 1 + the one before f, which is such an edge, or 0.
unfoldable pub JoinsDown : List ℕ → List ℕ → List ℕ → ℕ → ℕ → Bool → ℕ → Type 0
JoinsDown ol nl w e f met r =
    (on nn : List ℕ) (o p : Listing) (c : ℕ) → Compared on ol nn nl w c o p → e < edge_count o.program → (m : ℕ) → listed (pairs_in w c) (source_at o.program e) m ≡ true
    → hit_at o.program p.program (pairs_in w c) met e m f ≡ true → r ≡ hit_below o.program p.program (pairs_in w c) met e m f

pub record JoinsBefore (ol nl w : List ℕ) (e f : ℕ) (met : Bool) (r : ℕ) : Type 0 where
  pub joins : JoinsDown ol nl w e f met r
  pub below : r ≤ f

module _ {on ol nn nl w : List ℕ} {c : ℕ} {o p : Listing} (h : Compared on ol nn nl w c o p) (e : ℕ) (met : Bool) where
  abbrev old : Program
  old = o.program

  abbrev new : Program
  new = p.program

  -- The list of the table says the same as the pairs.
  met_agree : (f : ℕ) → met_at old new (pairs_in w c) met e f ≡ met_at old new (pairs old new) met e f
  unfolding met_at
  met_agree f =
      ap₂ (λ (t u : Bool). t and (u and ends_met old new met e f)) (h.held.same (source_at old e) (source_at new f))
      (goes_on_agree old new (pairs_in w c) (pairs old new) h.held.same (source_at old e) (source_at new f))

  -- Such edges of the partners in the table are all that there are.
  pub hits_any : (x : ℕ) → any c (λ k. eqb (old_at w k) (source_at old e) and hit_at old new (pairs_in w c) met e (new_at w k) x) ≡ (ltb x (edge_count new) and met_at old new (pairs old new) met e x)
  unfolding hit_at met_at
  hits_any x =
      same_test _ _
      (λ t.
      let r = any_at (λ k. eqb (old_at w k) (source_at old e) and hit_at old new (pairs_in w c) met e (new_at w k) x) c t in
      let y = and_right _ _ r.2 in
      let z = and_right _ _ y in
      let s : source_at new x ≡ new_at w r.0 = eqb-true _ _ (and_left _ _ (and_right _ _ z)) in
      let j : met_at old new (pairs_in w c) met e x ≡ true
      = and_both (listed_of w _ _ c r.0 r.1 (eqb-true _ _ (and_left _ _ r.2)) (sym s))
      (and_both (ap (goes_on old new (pairs_in w c) (source_at old e)) s ∙ and_left _ _ z) (and_right _ _ (and_right _ _ z))) in
      and_both (and_left _ _ y) (sym (met_agree x) ∙ j))
      (λ t.
      let j : met_at old new (pairs_in w c) met e x ≡ true = met_agree x ∙ and_right _ _ t in
      let r = listed_at w (source_at old e) (source_at new x) c (and_left _ _ j) in
      let z = and_right _ _ j in
      any_of_lem (λ k. eqb (old_at w k) (source_at old e) and hit_at old new (pairs_in w c) met e (new_at w k) x) c r.0 r.1
      (and_both (eq-eqb _ _ r.2)
      (and_both (and_left _ _ t)
      (and_both (ap (goes_on old new (pairs_in w c) (source_at old e)) r.3 ∙ and_left _ _ z) (and_both (eq-eqb _ _ (sym r.3)) (and_right _ _ z))))))
