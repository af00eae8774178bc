-- The turns and the returns of the functions that walk along the edges opposite to an old one, as `search` finds them.
use mathlib.Core.Path.{◌≡◌, refl, sym, ap, ◌∙◌, subst}
use mathlib.Core.Bool.{Bool, true, false}
use mathlib.Core.List.{List}
use mathlib.Core.Option.{Option, none, some, none-ne-some, some-injective}
use Prim.Native.Nat.{ℕ, suc, ◌+◌, ◌-◌, ◌≤◌, ◌<◌}
use native.Mathlib.Omega.{arith}
use lib.Dec.{eqb}
use lib.ListN.{get_or}
use borrow.Author.Tests.{eq-eqb, eqb-false, ne_eqb}
use Rattle.laws.specs.Tests.{after, found, isnt, some?}
use Rattle.laws.specs.TestLaws.{both_ways}
use Rattle.laws.specs.Chain.{Blind, Left, latest, latest_hit, latest_miss, latest_none, latest_only, left_at, left_step}
use Rattle.rules.specs.Graph.{Program, WellFormed, edge_count, edge_taken, source_at, star, word_at}
use Rattle.rules.specs.Closing.{opposite, takes}
use Rattle.rules.specs.ProgramFile.{Listing}
use Rattle.rules.proofs.ClosingLaws.{named_opposite, star_opposite, taken_opposite}
use Rattle.rules.proofs.GraphLaws.{taken_at, taken_star}
use Rattle.graph.specs.Table.{edge_base, head_base}
use Rattle.graph.specs.Keys.{key_star, star_key, star_word, word_key}
use Rattle.graph.specs.Lookups.{EdgeTaken, EdgeWith}
use Rattle.graph.specs.Reads.{up_to, up_to_le}
use Rattle.graph.proofs.Laws.{taken_named}
use Rattle.versions.specs.Memory.{InMemory, memory}
use Rattle.versions.specs.MemoryLaws.{edges_chained, edges_in, key_is, sound, source_is, well_formed}
use Rattle.versions.specs.Opposite.{FindsBefore, FindsFrom, IsStar, LastOpposite, OppositeBefore, OppositeFrom, SoleOpposite, Takes, WordLost, opposite_below, side_at, side_of_lem, side_of}

-- ---- `takes`

module _ (ol nl : List ℕ) (e n f key taken : ℕ) (ek : key ≡ get_or nl (edge_base f + 2) 0) (et : EdgeTaken ol n key taken) where
  taken_told : (ot on nt nn : List ℕ) (o p : Listing) → InMemory (memory ot on ol) o → InMemory (memory nt nn nl) p → e < edge_count o.program → n ≡ source_at o.program e
      → f < edge_count p.program → taken ≡ found (edge_taken o.program (source_at o.program e) (word_at p.program f))
  unfolding EdgeTaken
  taken_told ot on nt nn o p h g i en j =
      et o (word_at p.program f) (edges_in _ o h) (rw en ((well_formed _ o h).sources e i)) ((sound _ p g).word_forms f j) (ek ∙ key_is _ p g f j)
      ∙ ap (λ (x : ℕ). found (edge_taken o.program x (word_at p.program f))) en

  told : (q : Option ℕ) → taken ≡ found q → (taken ≡ 0 → false ≡ after q false (λ x. eqb x e)) × ((taken ≡ 0 → ⊥) → eqb (taken - 1) e ≡ after q false (λ x. eqb x e))
  told none t = (λ z. refl, λ d. absurd (d t))
  told (some x) t = (λ z. absurd (let y : ⊥ = omega arith in y), λ d. let q : taken - 1 ≡ x = omega arith in ap (λ (y : ℕ). eqb y e) q)

  pub takes_none : taken ≡ 0 → Takes ol nl e n f false
  unfolding Takes takes
  takes_none z ot on nt nn o p h g i en j = (told (edge_taken o.program (source_at o.program e) (word_at p.program f)) (taken_told ot on nt nn o p h g i en j)).0 z

  pub takes_one : (taken ≡ 0 → ⊥) → Takes ol nl e n f (eqb (taken - 1) e)
  unfolding Takes takes
  takes_one d ot on nt nn o p h g i en j = (told (edge_taken o.program (source_at o.program e) (word_at p.program f)) (taken_told ot on nt nn o p h g i en j)).1 d

-- ---- `opposite_from`

-- What is found from the place on is what is found.
unfoldable pub LeftFrom : List ℕ → List ℕ → ℕ → ℕ → ℕ → ℕ → Type 0
LeftFrom ol nl e n from place =
    (ot on nt nn : List ℕ) (o p : Listing) → InMemory (memory ot on ol) o → InMemory (memory nt nn nl) p → e < edge_count o.program → n ≡ source_at o.program e
    → word_at o.program e ≡ star → (m k : ℕ) → k ≤ edge_count p.program → from ≡ latest (source_at p.program) m k
    → Left (source_at p.program) m (edge_count p.program) (opposite_below o.program p.program e m k) (opposite_below o.program p.program e m) place

below_blind : (old new : Program) (e m : ℕ) → Blind (source_at new) m (opposite_below old new e m)
unfolding Blind
below_blind old new e m f d = latest_miss _ 0 f (λ z. d (side_at old new e m f z).0)

module _ (ol nl : List ℕ) (e n from : ℕ) where
  pub from_start : LeftFrom ol nl e n from from
  unfolding LeftFrom
  from_start ot on nt nn o p h g i en s m k l q = left_at m k from (below_blind _ _ e m) l q refl

  pub from_end : LeftFrom ol nl e n from 0 → OppositeFrom ol nl e n from 0
  unfolding LeftFrom FindsFrom latest
  from_end inv =
      record {
        finds = λ ot on nt nn o p h g i en s m k l q. sym (inv ot on nt nn o p h g i en s m k l q).rest;
        below = omega arith;
      }

  module _ (f : ℕ) (t : Bool) (inv : LeftFrom ol nl e n from (suc f)) (et : Takes ol nl e n f t) where
    here : (ot on nt nn : List ℕ) (o p : Listing) (h : InMemory (memory ot on ol) o) (g : InMemory (memory nt nn nl) p) → e < edge_count o.program → n ≡ source_at o.program e
        → word_at o.program e ≡ star → f < edge_count p.program → opposite o.program p.program e f ≡ t
    unfolding Takes
    here ot on nt nn o p h g i en s j = star_opposite o.program p.program (well_formed _ o h) (well_formed _ p g) e f s i ∙ sym (et ot on nt nn o p h g i en j)

    pub from_hit : suc f ≤ from → t ≡ true → OppositeFrom ol nl e n from (suc f)
    unfolding LeftFrom FindsFrom
    from_hit b y =
        record {
          finds = λ ot on nt nn o p h g i en s m k l q.
              let r = inv ot on nt nn o p h g i en s m k l q in
              let j : f < edge_count p.program = omega (arith, r.within) in
              let d : suc f - 1 ≡ f = omega arith in
              let own : source_at p.program f ≡ m = subst (λ (x : ℕ). source_at p.program x ≡ m) d (r.owner (omega arith)) in
              sym (latest_hit _ 0 f (side_of_lem o.program p.program e m f own (here ot on nt nn o p h g i en s j ∙ y))) ∙ sym r.rest;
          below = b;
        }

    pub from_on : t ≡ false → LeftFrom ol nl e n from (up_to f (get_or nl (edge_base f + 4) 0))
    unfolding LeftFrom
    from_on y ot on nt nn o p h g i en s m k l z =
        let r = inv ot on nt nn o p h g i en s m k l z in
        let j : f < edge_count p.program = omega (arith, r.within) in
        let d : suc f - 1 ≡ f = omega arith in
        let miss : opposite_below o.program p.program e m (suc f) ≡ opposite_below o.program p.program e m f
        = latest_miss _ 0 f (λ v. both_ways (side_at o.program p.program e m f v).1 (here ot on nt nn o p h g i en s j ∙ y)) in
        rw d at (left_step (edges_chained _ p g) r (omega arith) (below_blind o.program p.program e m) (miss ∙ sym (ap (opposite_below o.program p.program e m) d)))

-- ---- `last_opposite`, `opposite_before`, `word_lost`

module _ (ol : List ℕ) (e key : ℕ) (ek : key ≡ get_or ol (edge_base e + 2) 0) (ot on : List ℕ) (o : Listing) (h : InMemory (memory ot on ol) o) (i : e < edge_count o.program) where
  is_star : key ≡ 42 → word_at o.program e ≡ star
  is_star z = key_star _ ((sound _ o h).word_forms e i) (sym (ek ∙ key_is _ o h e i) ∙ z)

  not_star : (key ≡ 42 → ⊥) → word_at o.program e ≡ star → ⊥
  not_star d z = d (ek ∙ key_is _ o h e i ∙ ap word_key z ∙ star_key)

-- An edge with another word has at most the one opposite that the new node takes for its word.
module _ (old new : Program) (wo : WellFormed old) (wn : WellFormed new) (e m : ℕ) (i : e < edge_count old) where
  taken_side : (f : ℕ) → edge_taken new m (word_at old e) ≡ some f → side_of old new e m f ≡ 0
  taken_side f t =
      let r = taken_at new m (word_at old e) f t in
      side_of_lem old new e m f r.1 (taken_opposite old new wo wn e f (ap (λ (x : ℕ). edge_taken new x (word_at old e)) r.1 ∙ t))

  module _ (d : word_at old e ≡ star → ⊥) where
    side_taken : (f : ℕ) → f < edge_count new → side_of old new e m f ≡ 0 → edge_taken new m (word_at old e) ≡ some f
    side_taken f j z =
        let r = side_at old new e m f z in
        ap (λ (x : ℕ). edge_taken new x (word_at old e)) (sym r.0) ∙ named_opposite old new wo wn e f d i j r.1

    named_last : found (edge_taken new m (word_at old e)) ≡ opposite_below old new e m (edge_count new)
    named_last = go (edge_taken new m (word_at old e)) refl
      where
        go : (q : Option ℕ) → edge_taken new m (word_at old e) ≡ q → found q ≡ opposite_below old new e m (edge_count new)
        go none t = sym (latest_none _ 0 (edge_count new) (λ f j z. none-ne-some f (sym t ∙ side_taken f j z)))
        go (some f) t =
            sym (latest_only _ 0 (edge_count new) f (taken_at new m (word_at old e) f t).0 (taken_side f t)
            (λ x j z. some-injective x f (sym (side_taken x j z) ∙ t)))

    named_before : (f : ℕ) → f < edge_count new → side_of old new e m f ≡ 0 → 0 ≡ opposite_below old new e m f
    named_before f j z =
        sym (latest_none _ 0 f (λ x k y.
        let q : x ≡ f = some-injective x f (sym (side_taken x (omega arith) y) ∙ side_taken f j z) in
        omega arith))

module _ (ol nl : List ℕ) (e m key : ℕ) (ek : key ≡ get_or ol (edge_base e + 2) 0) where
  pub last_star : (n from r : ℕ) → key ≡ 42 → n ≡ get_or ol (edge_base e) 0 → from ≡ get_or nl (head_base m) 0 → OppositeFrom ol nl e n from r → LastOpposite ol nl e m r
  unfolding LastOpposite FindsFrom
  last_star n from r z en ef t ot on nt nn o p h g i j =
      t.finds ot on nt nn o p h g i (en ∙ source_is _ o h e i) (is_star ol e key ek ot on o h i z) m (edge_count p.program) (omega arith) (ef ∙ g.heads m j)

  pub last_named : (r : ℕ) → (key ≡ 42 → ⊥) → EdgeTaken nl m key r → LastOpposite ol nl e m r
  unfolding LastOpposite EdgeTaken
  last_named r d t ot on nt nn o p h g i j =
      t p (word_at o.program e) (edges_in _ p g) j ((sound _ o h).word_forms e i) (ek ∙ key_is _ o h e i)
      ∙ named_last o.program p.program (well_formed _ o h) (well_formed _ p g) e m i (not_star ol e key ek ot on o h i d)

  pub lost_star : (last r : ℕ) → key ≡ 42 → EdgeWith nl m 42 r → WordLost ol nl e m last (eqb r 0)
  unfolding WordLost EdgeWith isnt some?
  lost_star last r z t ot on nt nn o p h g i j el =
      let s = is_star ol e key ek ot on o h i z in
      let q = t p star (edges_in _ p g) j star_word (sym star_key) in
      go (edge_taken p.program m (word_at o.program e)) (q ∙ ap found (sym (taken_star p.program m) ∙ ap (edge_taken p.program m) (sym s)))
    where
      go : (x : Option ℕ) → r ≡ found x → eqb r 0 ≡ isnt (some? x)
      go none q = eq-eqb r 0 q
      go (some f) q = ne_eqb r 0 (λ y. let v : ⊥ = omega arith in v)

  pub lost_named : (last : ℕ) → (key ≡ 42 → ⊥) → WordLost ol nl e m last (eqb last 0)
  unfolding WordLost isnt some?
  lost_named last d ot on nt nn o p h g i j el =
      go (edge_taken p.program m (word_at o.program e))
      (el ∙ sym (named_last o.program p.program (well_formed _ o h) (well_formed _ p g) e m i (not_star ol e key ek ot on o h i d)))
    where
      go : (x : Option ℕ) → last ≡ found x → eqb last 0 ≡ isnt (some? x)
      go none q = eq-eqb last 0 q
      go (some f) q = ne_eqb last 0 (λ y. let v : ⊥ = omega arith in v)

module _ (ol nl : List ℕ) (e f key : ℕ) (ek : key ≡ get_or ol (edge_base e + 2) 0) where
  pub before_star : (n r : ℕ) → key ≡ 42 → n ≡ get_or ol (edge_base e) 0 → OppositeFrom ol nl e n (up_to f (get_or nl (edge_base f + 4) 0)) r → OppositeBefore ol nl e f r
  unfolding FindsBefore FindsFrom
  before_star n r z en t =
      record {
        finds = λ ot on nt nn o p h g i j m s.
            t.finds ot on nt nn o p h g i (en ∙ source_is _ o h e i) (is_star ol e key ek ot on o h i z) m f (omega arith)
            ((edges_chained _ p g).link f j ∙ ap (λ (x : ℕ). latest (source_at p.program) x f) (side_at o.program p.program e m f s).0);
        below = omega (arith, t.below, up_to_le f (get_or nl (edge_base f + 4) 0));
      }

  pub before_named : (key ≡ 42 → ⊥) → OppositeBefore ol nl e f 0
  unfolding FindsBefore
  before_named d =
      record {
        finds = λ ot on nt nn o p h g i j m s. named_before o.program p.program (well_formed _ o h) (well_formed _ p g) e m i (not_star ol e key ek ot on o h i d) f j s;
        below = omega arith;
      }

-- ---- `is_star`, `sole_opposite`

pub star_told : (ol : List ℕ) (e key : ℕ) → key ≡ get_or ol (edge_base e + 2) 0 → IsStar ol e (eqb key 42)
unfolding IsStar
star_told ol e key ek z nl f = before_named ol nl e f key ek (eqb-false key 42 z)

module _ (ol nl : List ℕ) (e m key : ℕ) (ek : key ≡ get_or ol (edge_base e + 2) 0) where
  pub sole_none : SoleOpposite ol nl e m 0
  unfolding SoleOpposite
  sole_none pos = absurd (let z : ⊥ = omega arith in z)

  pub sole_named : (r : ℕ) → (key ≡ 42 → ⊥) → EdgeWith nl m key r → SoleOpposite ol nl e m r
  unfolding SoleOpposite
  sole_named r d t pos =
      record {
        last = last_named ol nl e m key ek r d (taken_named nl m key r t (λ z. let y : ⊥ = omega arith in y));
        before = before_named ol nl e (r - 1) key ek d;
        kept = subst (WordLost ol nl e m r) (ne_eqb r 0 (λ z. let y : ⊥ = omega arith in y)) (lost_named ol nl e m key ek r d);
      }

pub ruleset all = (from_start, from_end, from_hit, from_on, up_to_le, last_star, last_named, before_star, before_named, star_told, sole_none, sole_named)
