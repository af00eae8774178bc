-- The turns and the returns of the functions that find the opposite edges that fit an old one, and of the one that copies out the dangerous edges.
use mathlib.Core.Path.{◌≡◌, refl, sym, ap, ap₂, ◌∙◌}
use mathlib.Core.Bool.{Bool, true, false}
use Rattle.std.specs.Prelude.{not, min}
use mathlib.Core.List.{List}
use Prim.Native.Nat.{ℕ, suc, ◌+◌, ◌-◌, ◌*◌, ◌/◌, ◌%◌, ◌≤◌, ◌<◌}
use native.Mathlib.Omega.{arith}
use lib.ListN.{get_or, length, set, drop, length-set}
use lib.Seq.{drop-set-lt, get_or-set_same, get_or-set_other}
use borrow.Author.Tests.{eqb-true, eq-eqb, lt-ltb, ltb-true}
use Rattle.laws.specs.Tests.{isnt, listed}
use Rattle.laws.specs.TestLaws.{and_both, and_left, and_right, both_ways}
use Rattle.laws.specs.Chain.{Blind, Left, latest, latest_hit, latest_miss, left_at, left_step}
use Rattle.laws.specs.Fold.{passing_at, passing_of}
use Rattle.laws.specs.Slices.{same_or}
use Rattle.laws.specs.Bits.{bit_at, bit_in}
use Rattle.rules.specs.Graph.{Program, edge_count, source_at, target_at}
use Rattle.rules.specs.Closing.{alike, goes_on}
use Rattle.rules.specs.ProgramFile.{Listing}
use Rattle.graph.specs.Table.{edge_base}
use Rattle.pairset.specs.Store.{Has, danger_in, danger_word, pairs_in}
use Rattle.pairset.specs.StoreLaws.{before_le, danger_bit_lem}
use Rattle.versions.specs.MemoryLaws.{source_is, target_is, well_formed}
use Rattle.versions.specs.Claims.{GoesOn}
use Rattle.versions.specs.Opposite.{FindsBefore, LastOpposite, OppositeBefore, SoleOpposite, opposite_below, opposites, side_at, side_of_lem, side_of}
use Rattle.selection.specs.Compared.{Compared, EndsMeet, Fits, Fitting, LastFitting, ends_pair, ends_met, hit_at, hit_below, partner_below, same_bool}
use Rattle.selection.specs.Dangers.{Copies, DangersCopied}

-- ---- walks along the pairs of an old node

pub less_one : (f : ℕ) → suc f - 1 ≡ f
less_one f = omega arith

-- What the code holds of the node that an old edge leaves.
pub source_of : {on ol nn nl w : List ℕ} {c : ℕ} {o p : Listing} (e n : ℕ) → Compared on ol nn nl w c o p → e < edge_count o.program → n ≡ get_or ol (edge_base e) 0 → n ≡ source_at o.program e
source_of {o = o} e n h l q = q ∙ source_is _ o h.old_in e l

pub ruleset walks = (before_le)

-- ---- `ends_meet`, `fitting`

module _ (ol nl w : List ℕ) (e f a b : ℕ) (ea : a ≡ get_or ol (edge_base e + 3) 0) (eb : b ≡ get_or nl (edge_base f + 3) 0) (u : Bool) (eu : Has w a b u) where
  ends_told : (met v : Bool) → v ≡ same_bool u met → EndsMeet ol nl w e f met v
  unfolding EndsMeet Has
  ends_told met v ev on nn o p c h i j m l g z =
      let s = side_at o.program p.program e m f z in
      let x : a ≡ target_at o.program e = ea ∙ target_is _ o h.old_in e i in
      let y : b ≡ target_at p.program f = eb ∙ target_is _ p h.new_in f j in
      ev ∙ ap (λ (t : Bool). same_bool t met) (eu c h.held.store ∙ ap₂ (listed (pairs_in w c)) x y ∙ ends_pair h e f i j (rw s.0 l) (rw s.0 g) s.1)

  pub ends_alike : EndsMeet ol nl w e f true u
  unfolding same_bool isnt
  ends_alike = ends_told true u (told u)
    where
      told : (b : Bool) → b ≡ same_bool b true
      told true = refl
      told false = refl

  pub ends_apart : EndsMeet ol nl w e f false (not u)
  unfolding same_bool isnt
  ends_apart = ends_told false (not u) (told u)
    where
      told : (b : Bool) → not b ≡ same_bool b false
      told true = refl
      told false = refl

-- What is found from the place on is what is found.
unfoldable pub FitsFrom : List ℕ → List ℕ → List ℕ → ℕ → ℕ → Bool → ℕ → Type 0
FitsFrom ol nl w e from met place =
    (on nn : List ℕ) (o p : Listing) (c : ℕ) → Compared on ol nn nl w c o p → e < edge_count o.program → (m k : ℕ)
    → listed (pairs_in w c) (source_at o.program e) m ≡ true → goes_on o.program p.program (pairs_in w c) (source_at o.program e) m ≡ true
    → k ≤ edge_count p.program → from ≡ opposite_below o.program p.program e m k
    → Left (side_of o.program p.program e m) 0 (edge_count p.program) (hit_below o.program p.program (pairs_in w c) met e m k)
    (hit_below o.program p.program (pairs_in w c) met e m) place

module _ (old new : Program) (M : List (ℕ × ℕ)) (met : Bool) (e m : ℕ) where
  -- Such an edge is opposite, with ends so.
  pub hit_at_lem : (f : ℕ) → hit_at old new M met e m f ≡ true
      → (f < edge_count new) × (goes_on old new M (source_at old e) m ≡ true) × (side_of old new e m f ≡ 0) × (same_bool (alike old new (target_at old e) (target_at new f)) met ≡ true)
  unfolding hit_at ends_met
  hit_at_lem f t =
      let y = and_right _ _ t in
      let z = and_right _ _ y in
      let u = and_right _ _ z in
      (ltb-true _ _ (and_left _ _ t), and_left _ _ y, side_of_lem old new e m f (eqb-true _ _ (and_left _ _ z)) (and_left _ _ u), and_right _ _ u)

  hit_of : (f : ℕ) → f < edge_count new → goes_on old new M (source_at old e) m ≡ true → side_of old new e m f ≡ 0
      → same_bool (alike old new (target_at old e) (target_at new f)) met ≡ true → hit_at old new M met e m f ≡ true
  unfolding hit_at ends_met
  hit_of f l g z t = let s = side_at old new e m f z in and_both (lt-ltb _ _ l) (and_both g (and_both (eq-eqb _ _ s.0) (and_both s.1 t)))

  hit_blind : Blind (side_of old new e m) 0 (hit_below old new M met e m)
  unfolding Blind
  hit_blind f d = latest_miss _ 0 f (λ z. d (hit_at_lem f (passing_at _ f z)).2)

module _ (ol nl w : List ℕ) (e from : ℕ) (met : Bool) where
  pub fit_start : FitsFrom ol nl w e from met from
  unfolding FitsFrom
  fit_start on nn o p c h i m k l g b q = left_at 0 k from (hit_blind o.program p.program (pairs_in w c) met e m) b q refl

  pub fit_end : FitsFrom ol nl w e from met 0 → Fitting ol nl w e from met 0
  unfolding FitsFrom Fits latest
  fit_end inv = record { fits = λ on nn o p c h i m k l g b q. sym (inv on nn o p c h i m k l g b q).rest; below = omega arith }

  module _ (f : ℕ) (inv : FitsFrom ol nl w e from met (suc f)) (t : Bool) (et : EndsMeet ol nl w e f met t) where
    here : (on nn : List ℕ) (o p : Listing) (c : ℕ) (h : Compared on ol nn nl w c o p) (i : e < edge_count o.program) (m k : ℕ) (l : listed (pairs_in w c) (source_at o.program e) m ≡ true)
        (g : goes_on o.program p.program (pairs_in w c) (source_at o.program e) m ≡ true) (b : k ≤ edge_count p.program) (q : from ≡ opposite_below o.program p.program e m k)
        → (f < edge_count p.program) × (side_of o.program p.program e m f ≡ 0)
        × (t ≡ same_bool (alike o.program p.program (target_at o.program e) (target_at p.program f)) met)
    unfolding FitsFrom EndsMeet
    here on nn o p c h i m k l g b q =
        let r = inv on nn o p c h i m k l g b q in
        let j : f < edge_count p.program = omega (arith, r.within) in
        let s : side_of o.program p.program e m f ≡ 0 = ap (side_of o.program p.program e m) (sym (less_one f)) ∙ r.owner (omega arith) in
        (j, s, et on nn o p c h i j m l g s)

    pub fit_hit : suc f ≤ from → t ≡ true → Fitting ol nl w e from met (suc f)
    unfolding FitsFrom Fits
    fit_hit v y =
        record {
          fits = λ on nn o p c h i m k l g b q.
              let r = inv on nn o p c h i m k l g b q in
              let u = here on nn o p c h i m k l g b q in
              sym (latest_hit _ 0 f (passing_of _ f (hit_of o.program p.program (pairs_in w c) met e m f u.0 g u.1 (sym u.2 ∙ y)))) ∙ sym r.rest;
          below = v;
        }

    pub fit_on : (next : ℕ) → t ≡ false → OppositeBefore ol nl e f next → FitsFrom ol nl w e from met next
    unfolding FitsFrom FindsBefore
    fit_on next y q' on nn o p c h i m k l g b q =
        let r = inv on nn o p c h i m k l g b q in
        let u = here on nn o p c h i m k l g b q in
        let d : f ≡ suc f - 1 = sym (less_one f) in
        let pos : 0 < suc f = omega arith in
        let miss : hit_below o.program p.program (pairs_in w c) met e m (suc f) ≡ hit_below o.program p.program (pairs_in w c) met e m (suc f - 1)
        = latest_miss _ 0 f (λ z. both_ways (hit_at_lem o.program p.program (pairs_in w c) met e m f (passing_at _ f z)).3 (sym u.2 ∙ y))
        ∙ ap (hit_below o.program p.program (pairs_in w c) met e m) d in
        let down : next ≡ latest (side_of o.program p.program e m) (side_of o.program p.program e m (suc f - 1)) (suc f - 1)
        = q'.finds h.old_text on h.new_text nn o p h.old_in h.new_in i u.0 m u.1
        ∙ ap₂ (λ (a : ℕ) (j : ℕ). latest (side_of o.program p.program e m) a j) (sym (r.owner pos)) d in
        rw down (left_step (opposites o.program p.program e m) r pos (hit_blind o.program p.program (pairs_in w c) met e m) miss)

-- The walk leads down.
pub opposite_le : (ol nl : List ℕ) (e f next : ℕ) → OppositeBefore ol nl e f next → next ≤ f
opposite_le ol nl e f next q = q.below

-- ---- `last_fitting`

module _ (ol nl w : List ℕ) (e m : ℕ) (met : Bool) where
  pub last_any : (last r : ℕ) → LastOpposite ol nl e m last → Fitting ol nl w e last met r → LastFitting ol nl w e m met r
  last_any last r q t = record { last = last; is_last = q; fitting = t }

  -- Where one edge alone is opposite, the short way.
  module _ (f : ℕ) (so : SoleOpposite ol nl e m (suc f)) (t : Bool) (et : EndsMeet ol nl w e f met t) where
    pub last_sole : t ≡ true → LastFitting ol nl w e m met (suc f)
    unfolding SoleOpposite
    last_sole y = last_any (suc f) (suc f) (so (omega arith)).last (fit_hit ol nl w e (suc f) met f (fit_start ol nl w e (suc f) met) t et (omega arith) y)

    pub last_none : t ≡ false → LastFitting ol nl w e m met 0
    unfolding SoleOpposite
    last_none y =
        let s = so (omega arith) in
        let b : OppositeBefore ol nl e f 0 = rw (less_one f) at s.before in
        last_any (suc f) 0 s.last (fit_end ol nl w e (suc f) met (fit_on ol nl w e (suc f) met f (fit_start ol nl w e (suc f) met) t et 0 y b))

-- ---- the pair of the node that an old edge leaves

module _ (on ol nn nl w : List ℕ) (e n m : ℕ) (g : Bool) (go : GoesOn on ol nn nl w n m g) where
  -- What was found of it.
  pub goes_is : (o p : Listing) (c : ℕ) → Compared on ol nn nl w c o p → e < edge_count o.program → n ≡ source_at o.program e → listed (pairs_in w c) n m ≡ true
      → g ≡ goes_on o.program p.program (pairs_in w c) n m
  unfolding GoesOn
  goes_is o p c h i en j =
      let l = (well_formed _ o h.old_in).sources e i in
      go h.old_text h.new_text o p c h.old_in h.new_in h.held.store (omega (arith, en)) (partner_below h n m j)

pub ruleset fittings = (ends_alike, ends_apart, fit_start, fit_end, fit_hit, fit_on, opposite_le, last_any)

-- ---- `copy_dangers`

-- The first k words are those of the table.
pub record CopiedTo (w s t : List ℕ) (k : ℕ) : Type 0 where
  pub bits : (e : ℕ) → e < 64 * k → e < 1024 → bit_in t e ≡ danger_in w e
  pub rest : drop 16 t ≡ drop 16 s
  pub size : length t ≡ length s

module _ (w s : List ℕ) where
  pub copy_start : CopiedTo w s s 0
  copy_start = record { bits = λ e l _. absurd (let z : ⊥ = omega arith in z); rest = refl; size = refl }

  module _ (t : List ℕ) (k : ℕ) (inv : CopiedTo w s t k) where
    pub copy_end : min (length s) 16 ≤ k → DangersCopied w s t
    unfolding Copies
    copy_end l = record { copies = λ old new d i. record { bits = λ e j. inv.bits e (omega arith) j ∙ d e }; rest = inv.rest; size = inv.size }

    pub copy_on : (x : ℕ) → x ≡ danger_word w k → k < min (length s) 16 → CopiedTo w s (set t k x) (k + 1)
    unfolding bit_in
    copy_on x q l =
        record {
          bits = λ e i j.
              same_or (e / 64) k
              (λ y.
              ap (λ (n : ℕ). bit_at n (e % 64)) (ap (λ (n : ℕ). get_or (set t k x) n 0) y ∙ get_or-set_same t k x 0 (omega (arith, inv.size)) ∙ q ∙ ap (danger_word w) (sym y)) ∙ danger_bit_lem w e j)
              (λ y. ap (λ (n : ℕ). bit_at n (e % 64)) (get_or-set_other t k (e / 64) x 0 y) ∙ inv.bits e (omega arith) j);
          rest = drop-set-lt 16 t k x (omega arith) ∙ inv.rest;
          size = length-set t k x ∙ inv.size;
        }

pub ruleset dangers = (copy_start, copy_end, copy_on)
