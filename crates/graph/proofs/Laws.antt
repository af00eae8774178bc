-- The turns and the returns of this crate's functions, as `search` finds them: the premises are what the code holds there.
use mathlib.Core.Path.{◌≡◌, refl, sym, ap, ap₂, ◌∙◌}
use mathlib.Core.Bool.{Bool, true, false}
use mathlib.Core.List.{List, [], ◌∷◌, ◌++◌}
use mathlib.Core.Option.{Option, none, some}
use Prim.Native.Nat.{ℕ, suc, ◌+◌, ◌-◌, ◌*◌, ◌^◌, ◌≤◌, ◌<◌}
use native.Mathlib.Nat.{add-zero, pow-le-pow_right, pow-suc, zero-add}
use native.Mathlib.Numerals.{add-one}
use native.Mathlib.Omega.{arith}
use lib.Dec.{eqb}
use lib.ListN.{length, get_or, take, drop, length-append, length-take}
use Rattle.std.proofs.Common.{append_assoc, lit<}
use Rattle.std.proofs.lemmas.List.{append-nil, length_push}
use borrow.Author.Tests.{eqb-true, eq-eqb, ne_eqb, le-leb, lt-leb}
use Rattle.laws.specs.Tests.{◌and◌, ◌⇒◌, isnt, every, first, count, found, or_else}
use Rattle.laws.specs.Digits.{number}
use Rattle.laws.specs.TestLaws.{first_least, first_only, first_skip, count_skip, count_more, every_skip, every_at, fails, implied, implies}
use Rattle.laws.specs.Lists.{choose_yes, choose_no}
use Rattle.laws.specs.Chain.{Chained, Blind, Left, latest, left_at, left_start, link_le}
use Rattle.rules.specs.Text.{Bytes, same, between, all_bytes, word_byte, is_word}
use Rattle.rules.specs.Graph.{Program, name_at, source_at, word_at, proc_count, node_count, edge_count, dash, star, leaves, edge_taken, edge_with, degree}
use Rattle.rules.specs.ProgramFile.{Listing}
use Rattle.rules.proofs.Places.{part_is}
use Rattle.rules.proofs.GraphLaws.{leaves_true, leaves_of}
use Rattle.graph.specs.Table.{proc_base, edge_base, head_base}
use Rattle.graph.specs.Keys.{word_key, key_spells, same_keys, star_key, star_word}
use Rattle.graph.specs.Lookups.{in_table, Procs, Edges, ProcNamed, EdgeTaken, EdgeWith, Degree, Dashed}
use Rattle.graph.specs.Reads.{part_at, up_to, up_to_le, past, part_past}

-- ---- `part_at`, `spells`, `name_is`

module _ (text links part : List ℕ) (i : ℕ) where
  pub part_none : length links ≤ i → part ≡ take 0 (drop 0 text) → part ≡ part_at text links i
  unfolding part_at
  part_none h q = q ∙ ap₂ (λ (n : ℕ) (m : ℕ). take n (drop m text)) (sym (past links i (i + 1) h (omega arith))) (sym (past links i i h (omega arith)))

  pub part_at_is : (start len : ℕ) → start ≡ get_or links i 0 → len ≡ get_or links (i + 1) 0 → part ≡ take len (drop start text) → part ≡ part_at text links i
  unfolding part_at
  part_at_is start len x y q = q ∙ ap₂ (λ (n : ℕ) (m : ℕ). take n (drop m text)) y x

module _ (text links bytes : List ℕ) (i : ℕ) (t : Bool) where
  pub spells_is : (part : List ℕ) → part ≡ part_at text links i → t ≡ same part bytes → t ≡ same (part_at text links i) bytes
  spells_is part q e = e ∙ ap (λ (w : List ℕ). same w bytes) q

  pub name_past : length links ≤ i → t ≡ same (part_at text links i) bytes → t ≡ same (part_at text links (proc_base i)) bytes
  name_past h e = e ∙ ap (λ (w : List ℕ). same w bytes) (part_past text links i (proc_base i) h (omega arith))

-- ---- `head`, `edge_number`, `before`

module _ (links : List ℕ) (e : ℕ) where
  pub head_past : length links ≤ e → 0 ≡ get_or links (head_base e) 0
  head_past h = sym (past links e (head_base e) h (omega arith))

  pub number_past : (k : ℕ) → length links ≤ e → 0 ≡ get_or links (edge_base e + k) 0
  number_past k h = sym (past links e (edge_base e + k) h (omega arith))

  module _ (place : ℕ) (p : place ≡ get_or links (edge_base e + 4) 0) where
    pub before_in : place ≤ e → place ≡ up_to e (get_or links (edge_base e + 4) 0)
    unfolding up_to
    before_in h = rw (← p) (sym (choose_yes place 0 (le-leb place e h)))

    pub before_out : e < place → 0 ≡ up_to e (get_or links (edge_base e + 4) 0)
    unfolding up_to
    before_out h = rw (← p) (sym (choose_no place 0 (lt-leb place e h)))

pub ruleset reads = (part_none, part_at_is, spells_is, name_past, head_past, number_past, before_in, before_out)

-- ---- what the links of a program hold

proc_name : (text : Bytes) (links : List ℕ) (s : Listing) → Procs text (in_table links) s → (q : ℕ) → q < proc_count s.program → part_at text links (proc_base q) ≡ name_at s.program q
unfolding part_at
proc_name text links s h q l =
    ap₂ (λ (n : ℕ) (m : ℕ). take n (drop m text)) (h.heads q l 1 (omega arith)) (ap (λ (k : ℕ). get_or links k 0) (sym (add-zero (proc_base q))) ∙ h.heads q l 0 (omega arith))
    ∙ part_is text _ _ (h.names q l)

module _ (links : List ℕ) (s : Listing) (h : Edges (in_table links) s) where
  edge_key : (e : ℕ) → e < edge_count s.program → get_or links (edge_base e + 2) 0 ≡ word_key (word_at s.program e)
  edge_key e l = h.rows e l 2 (omega arith)

  chained : Chained (source_at s.program) (node_count s.program) (edge_count s.program) (λ n. get_or links (head_base n) 0) (λ e. get_or links (edge_base e + 4) 0)
  chained = record { top = h.heads; link = λ e l. h.rows e l 4 (omega arith) }

  before_is : (e : ℕ) → e < edge_count s.program → up_to e (get_or links (edge_base e + 4) 0) ≡ get_or links (edge_base e + 4) 0
  unfolding up_to
  before_is e l = choose_yes _ 0 (le-leb _ e (link_le chained e l))

-- ---- `proc_named`

-- The procedure q has the name.
abbrev is_named : Program → Bytes → ℕ → Bool
is_named p name q = same (name_at p q) name

-- No procedure before q has the name.
unfoldable pub Unnamed : Bytes → List ℕ → ℕ → Bytes → ℕ → Type 0
Unnamed text links c name q = (s : Listing) → Procs text (in_table links) s → c ≡ proc_count s.program → first q (is_named s.program name) ≡ none

module _ (text : Bytes) (links : List ℕ) (c : ℕ) (name : Bytes) where
  pub named_start : Unnamed text links c name 0
  unfolding Unnamed first
  named_start s h e = refl

  pub named_none : Unnamed text links c name c → ProcNamed text links c name 0
  unfolding Unnamed ProcNamed
  named_none inv s h e = sym (ap found (rw e at (inv s h e)))

  module _ (q : ℕ) (inv : Unnamed text links c name q) (l : q < c) where
    pub named_hit : same (part_at text links (proc_base q)) name ≡ true → ProcNamed text links c name (suc q)
    unfolding Unnamed ProcNamed
    named_hit y s h e =
        let x : q < proc_count s.program = omega arith in
        let f : same (name_at s.program q) name ≡ true = ap (λ (w : Bytes). same w name) (sym (proc_name text links s h q x)) ∙ y in
        sym (ap found (first_least (is_named s.program name) (proc_count s.program) q x f (inv s h e)))

    pub named_on : same (part_at text links (proc_base q)) name ≡ false → Unnamed text links c name (q + 1)
    unfolding Unnamed
    named_on y s h e =
        let x : q < proc_count s.program = omega arith in
        let f : same (name_at s.program q) name ≡ false = ap (λ (w : Bytes). same w name) (sym (proc_name text links s h q x)) ∙ y in
        ap (λ (k : ℕ). first k (is_named s.program name)) (add-one q) ∙ first_skip (is_named s.program name) q f ∙ inv s h e

pub ruleset names = (named_start, named_none, named_hit, named_on)

-- ---- the walk along the edges of the node n

-- At the place: what all edges come to is what F makes of those below it.
unfoldable pub Rest : {X : Type 0} → List ℕ → ℕ → (Program → X) → (Program → ℕ → X) → ℕ → Type 0
Rest links n all F place =
    (s : Listing) → Edges (in_table links) s → n < node_count s.program
    → Left (source_at s.program) n (edge_count s.program) (all s.program) (F s.program) place

owner_of : {X : Type 0} {key : ℕ → ℕ} {a c : ℕ} {all : X} {F : ℕ → X} (e : ℕ) → Left key a c all F (suc e) → key e ≡ a
owner_of {key = key} e i = ap key (let d : e ≡ suc e - 1 = omega arith in d) ∙ i.owner (omega arith)

module _ {X : Type 0} (links : List ℕ) (n : ℕ) (all : Program → X) (F : Program → ℕ → X) (b : (p : Program) → Blind (source_at p) n (F p)) where
  rest_start : ((p : Program) → all p ≡ F p (edge_count p)) → Rest links n all F (get_or links (head_base n) 0)
  unfolding Rest
  rest_start w s h l = rw (w s.program) (left_start (chained links s h) n l (b s.program))

  rest_on : (G : Program → ℕ → X) (e : ℕ) → Rest links n all G (suc e)
      → ((s : Listing) → Edges (in_table links) s → e < edge_count s.program → source_at s.program e ≡ n → G s.program (suc e) ≡ F s.program e)
      → Rest links n all F (up_to e (get_or links (edge_base e + 4) 0))
  unfolding Rest
  rest_on G e inv f s h l =
      let i = inv s h l in
      let k : e < edge_count s.program = omega (arith, i.within) in
      let o : source_at s.program e ≡ n = owner_of e i in
      rw (before_is links s h e k)
      (left_at n e _ (b s.program) (omega arith) ((chained links s h).link e k ∙ ap (λ (x : ℕ). latest (source_at s.program) x e) o) (i.rest ∙ f s h k o))

-- The walk goes down.
pub before_less : (place e r x : ℕ) → 0 < place → e ≡ place - 1 → r ≡ up_to e x → r < place
before_less place e r x pos d q = omega (arith, up_to_le e x)

-- ---- `edge_with`, `edge_taken`

-- The edge with the word of the key is the one among the edges below the place.
unfoldable pub WithBelow : List ℕ → ℕ → ℕ → ℕ → Type 0
WithBelow links n key place =
    (word : Bytes) → is_word word ≡ true → key ≡ word_key word → Rest links n (λ p. edge_with p n word) (λ p k. first k (leaves p n word)) place

with_blind : (n : ℕ) (word : Bytes) (p : Program) → Blind (source_at p) n (λ k. first k (leaves p n word))
unfolding Blind
with_blind n word p k e = first_skip (leaves p n word) k (fails _ (λ y. e (leaves_true p n word k y).0))

module _ (links : List ℕ) (n key : ℕ) where
  pub with_start : WithBelow links n key (get_or links (head_base n) 0)
  unfolding WithBelow edge_with
  with_start word v ek = rest_start links n _ _ (with_blind n word) (λ p. refl)

  pub with_none : WithBelow links n key 0 → EdgeWith links n key 0
  unfolding WithBelow Rest EdgeWith first
  with_none inv s word h l v ek = sym (ap found (inv word v ek s h l).rest)

  module _ (e : ℕ) (inv : WithBelow links n key (suc e)) where
    pub with_hit : get_or links (edge_base e + 2) 0 ≡ key → EdgeWith links n key (suc e)
    unfolding WithBelow Rest EdgeWith edge_with
    with_hit y s word h l v ek =
        let i = inv word v ek s h l in
        let k : e < edge_count s.program = omega (arith, i.within) in
        let a : source_at s.program e ≡ n = owner_of e i in
        let w : word_at s.program e ≡ word = key_spells _ _ (h.words e k) v (sym (edge_key links s h e k) ∙ y ∙ ek) in
        sym (ap found (first_only (leaves s.program n word) (edge_count s.program) e k (leaves_of s.program n word e a w)
        (λ f m t. let g = leaves_true s.program n word f t in h.once e f k m (g.0 ∙ sym a) (g.1 ∙ sym w))))

    pub with_on : (get_or links (edge_base e + 2) 0 ≡ key → ⊥) → WithBelow links n key (up_to e (get_or links (edge_base e + 4) 0))
    unfolding WithBelow
    with_on y word v ek =
        rest_on links n _ _ (with_blind n word) _ e (inv word v ek)
        (λ s h k a. first_skip (leaves s.program n word) e
        (fails _ (λ t. y (edge_key links s h e k ∙ ap word_key (leaves_true s.program n word e t).1 ∙ sym ek))))

or_first : (o s : Option ℕ) → (found o ≡ 0 → ⊥) → found o ≡ found (or_else o s)
unfolding or_else
or_first none s d = absurd (d refl)
or_first (some e) s d = refl

or_second : (o s : Option ℕ) → found o ≡ 0 → found s ≡ found (or_else o s)
unfolding or_else
or_second none s z = refl
or_second (some e) s z = absurd (let y : ⊥ = omega arith in y)

-- The edge for anything else, where none has the word.
module _ (links : List ℕ) (n key place : ℕ) (inv : EdgeWith links n key place) where
  pub taken_named : (place ≡ 0 → ⊥) → EdgeTaken links n key place
  unfolding EdgeWith EdgeTaken edge_taken
  taken_named d s word h l v ek = let q = inv s word h l v ek in q ∙ or_first (edge_with s.program n word) _ (λ z. d (q ∙ z))

  pub taken_else : (r : ℕ) → place ≡ 0 → EdgeWith links n 42 r → EdgeTaken links n key r
  unfolding EdgeWith EdgeTaken edge_taken
  taken_else r z t s word h l v ek = t s star h l star_word (sym star_key) ∙ or_second (edge_with s.program n word) _ (sym (inv s word h l v ek) ∙ z)

pub ruleset takes = (with_start, with_none, with_hit, with_on, taken_named, taken_else, up_to_le)

-- ---- `degree`

-- The edge e leaves the node n.
abbrev from : Program → ℕ → ℕ → Bool
from p n e = eqb (source_at p e) n

-- The degree is r and the edges of the node below the place.
unfoldable pub Counted : List ℕ → ℕ → ℕ → ℕ → Type 0
Counted links n r place = Rest links n (λ p. degree p n) (λ p k. r + count k (from p n)) place

counted_blind : (n r : ℕ) (p : Program) → Blind (source_at p) n (λ k. r + count k (from p n))
unfolding Blind
counted_blind n r p k e = ap (λ (x : ℕ). r + x) (count_skip (from p n) k (ne_eqb _ _ e))

pub degree_start : (links : List ℕ) (n : ℕ) → Counted links n 0 (get_or links (head_base n) 0)
unfolding Counted degree
degree_start links n = rest_start links n _ _ (counted_blind n 0) (λ p. sym (zero-add _))

module _ (links : List ℕ) (n r : ℕ) where
  pub degree_on : (e : ℕ) → Counted links n r (suc e) → Counted links n (r + 1) (up_to e (get_or links (edge_base e + 4) 0))
  unfolding Counted
  degree_on e inv = rest_on links n _ _ (counted_blind n (r + 1)) _ e inv (λ s h k a. omega (arith, count_more (from s.program n) e (eq-eqb _ _ a)))

  pub degree_end : Counted links n r 0 → Degree links n r
  unfolding Counted Rest Degree count
  degree_end inv s h l = sym ((inv s h l).rest ∙ add-zero r)

pub ruleset degrees = (degree_start, degree_on, degree_end, up_to_le)

-- ---- `dashed`

-- The edge e has the word `-`, if it leaves the node n.
abbrev dash_of : Program → ℕ → ℕ → Bool
dash_of p n e = eqb (source_at p e) n ⇒ same (word_at p e) dash

-- All edges of the node have the word `-` just where those below the place have it.
unfoldable pub DashedBelow : List ℕ → ℕ → ℕ → Type 0
DashedBelow links n place = Rest links n (λ p. every (edge_count p) (dash_of p n)) (λ p k. every k (dash_of p n)) place

-- A word is `-` where its key is 45.
dash_key : (w : Bytes) → is_word w ≡ true → same w dash ≡ eqb (word_key w) 45
unfolding number is_word between all_bytes word_byte isnt ◌and◌
dash_key w v = same_keys w dash v refl

module _ (links : List ℕ) (n : ℕ) where
  dashed_blind : (p : Program) → Blind (source_at p) n (λ k. every k (dash_of p n))
  unfolding Blind
  dashed_blind p k e = every_skip (dash_of p n) k (implies _ _ (λ y. absurd (e (eqb-true _ _ y))))

  pub dashed_start : DashedBelow links n (get_or links (head_base n) 0)
  unfolding DashedBelow
  dashed_start = rest_start links n _ _ dashed_blind (λ p. refl)

  pub dashed_all : DashedBelow links n 0 → Dashed links n true
  unfolding DashedBelow Rest Dashed every
  dashed_all inv s h l = sym (inv s h l).rest

  module _ (e : ℕ) (inv : DashedBelow links n (suc e)) where
    dash_is : (s : Listing) → Edges (in_table links) s → e < edge_count s.program → same (word_at s.program e) dash ≡ eqb (get_or links (edge_base e + 2) 0) 45
    dash_is s h k = dash_key _ (h.words e k) ∙ ap (λ (m : ℕ). eqb m 45) (sym (edge_key links s h e k))

    pub dashed_not : (get_or links (edge_base e + 2) 0 ≡ 45 → ⊥) → Dashed links n false
    unfolding DashedBelow Rest Dashed
    dashed_not y s h l =
        let i = inv s h l in
        let k : e < edge_count s.program = omega (arith, i.within) in
        sym (fails _ (λ t. y (eqb-true _ _ (sym (dash_is s h k) ∙ implied _ _ (every_at (dash_of s.program n) (edge_count s.program) t e k) (eq-eqb _ _ (owner_of e i))))))

    pub dashed_on : get_or links (edge_base e + 2) 0 ≡ 45 → DashedBelow links n (up_to e (get_or links (edge_base e + 4) 0))
    unfolding DashedBelow
    dashed_on y =
        rest_on links n _ _ dashed_blind _ e inv
        (λ s h k a. every_skip (dash_of s.program n) e (implies _ _ (λ t. dash_is s h k ∙ eq-eqb _ _ y)))

pub ruleset dashes = (dashed_start, dashed_all, dashed_not, dashed_on, up_to_le)

-- ---- `key`

-- The first 8 bytes of the word from behind: `left` are not read yet, and those behind have the key k, which has room for one more.
pub record KeyBehind (word left : Bytes) (k : ℕ) : Type 0 where
  pub behind : Bytes
  pub parts : left ++ behind ≡ take 8 word
  pub is : k ≡ word_key behind
  pub small : k < 256 ^ length behind
  pub room : 0 < length left → k < 256 ^ 7

pub key_start : (word s : Bytes) → s ≡ take 8 word → KeyBehind word s 0
unfolding number
key_start word s e = record { behind = []; parts = append-nil s ∙ e; is = refl; small = lit< tt; room = λ _. lit< tt }

pub key_on : (word left : Bytes) (b k : ℕ) → KeyBehind word (left ++ b ∷ []) k → b < 256 → KeyBehind word left (k * 256 + b)
unfolding number
key_on word left b k h l =
    let fit : k * 256 + b < 256 ^ length (b ∷ h.behind) = rw (pow-suc 256 (length h.behind)) (omega (arith, h.small)) in
    let parts : left ++ (b ∷ h.behind) ≡ take 8 word = sym (append_assoc left (b ∷ []) h.behind) ∙ h.parts in
    record {
      behind = b ∷ h.behind;
      parts = parts;
      is = ap (λ (x : ℕ). x * 256 + b) h.is;
      small = fit;
      room = λ r.
          let short : length (b ∷ h.behind) ≤ 7 = omega (arith, ap length parts, length-append left (b ∷ h.behind), length-take 8 word) in
          omega (arith, fit, pow-le-pow_right {n = 256} (omega arith) {i = length (b ∷ h.behind)} {j = 7} short);
    }

pub key_end : (word left : Bytes) (k : ℕ) → KeyBehind word left k → length left ≡ 0 → k ≡ word_key (take 8 word)
key_end word [] k h z = h.is ∙ ap word_key h.parts
key_end word (b ∷ left) k h z = absurd (let y : ⊥ = omega arith in y)

pub ruleset keys = (key_start, key_on, key_end, length_push)
