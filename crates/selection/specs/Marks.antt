-- What the functions that find a test's marks leave and answer. While they are found, the mark of a new edge is `0` (48) until an old counterpart is seen to be crossed, then `?` (63),
-- and `1` (49) once a crossed one has it as its only counterpart. Each claim is for tables that hold two programs, their pairs and the test's row; the marks for others are left
-- open, their number excepted.
use Rattle.std.specs.Prelude.{◌≡◌, Bool, true, List, ℕ, ◌≤◌, ◌<◌, eqb, leb, ltb, get_or, length, set}
use Rattle.std.proofs.lemmas.List.Edits.{sets}
use Rattle.laws.specs.Tests.{◌and◌, ◌⇒◌, any, choose, every, first, found, has, listed}
use Rattle.laws.specs.Fold.{fold}
use Rattle.laws.specs.Bits.{bit_in}
use Rattle.rules.specs.Graph.{Program, edge_count, source_at}
use Rattle.rules.specs.Closing.{Coverage, after_dangers, carries, carries_only, dangers, joined, meets, pairs, probes}
use Rattle.rules.specs.Sheet.{marks_of}
use Rattle.rules.specs.ProgramFile.{Listing}
use Rattle.pairset.specs.Store.{pairs_in}
use Rattle.coverage.specs.Rows.{Row}
use Rattle.selection.specs.declared.Seen.{Seen}
use Rattle.selection.specs.declared.Seen.TheVariants.{Nothing, One, Several}
use Rattle.selection.specs.Compared.{Compared, hit_at}
use Rattle.selection.specs.Dangers.{SetOf}

-- `unite`: what is seen of the counterparts of an old edge, nothing, one of them or several, when the edge f is seen too.
unfoldable pub united : Seen → ℕ → Seen
united Nothing f = One f
united (One g) f = choose (eqb g f) (One g) Several
united Several f = Several

-- `see`: what is seen when the counterparts of the old edge e at its pair with the new node m are seen too, the last of them first.
unfoldable pub seen_at : Program → Program → List (ℕ × ℕ) → ℕ → ℕ → ℕ → Seen → Seen
seen_at old new M e m f seen = choose (hit_at old new M true e m f) (united seen f) seen

unfoldable pub Sees : List ℕ → List ℕ → List ℕ → List ℕ → List ℕ → ℕ → ℕ → ℕ → Seen → Seen → Type 0
Sees on ol nn nl w e n m before r =
    (o p : Listing) (c : ℕ) → Compared on ol nn nl w c o p → e < edge_count o.program → n ≡ source_at o.program e → listed (pairs_in w c) n m ≡ true
    → r ≡ fold (seen_at o.program p.program (pairs_in w c) e m) (edge_count p.program) before

-- f passes J, and no other number below n does.
unfoldable pub sole : ℕ → (ℕ → Bool) → ℕ → Bool
sole n J f = J f and every n (λ g. J g ⇒ eqb g f)

-- `only_counterpart`: 1 + the only counterpart of the old edge e, or 0 where it has none or several.
unfoldable pub Only : List ℕ → List ℕ → List ℕ → List ℕ → List ℕ → ℕ → ℕ → Type 0
Only on ol nn nl w e r =
    (o p : Listing) (c : ℕ) → Compared on ol nn nl w c o p → e < edge_count o.program
    → r ≡ found (first (edge_count p.program) (sole (edge_count p.program) (joined o.program p.program (pairs o.program p.program) e)))

-- A mark that is not above `most` is raised to `?`, where `is` says so: with 48 a `0`, with 49 a `0` or `1`.
unfoldable pub lifted : ℕ → ℕ → Bool → ℕ
lifted most m is = choose (is and leb m most) 63 m

-- A mark after an old edge: of which the new edge is a counterpart, or is not; the only one, or not.
unfoldable pub carried : ℕ → Bool → Bool → ℕ
carried m is only = choose only 49 (lifted 48 m is)

-- `raise`: the mark of the edge x is raised.
unfoldable pub raised : List ℕ → ℕ → ℕ → List ℕ
raised marks x most = choose (leb (get_or marks x 0) most) (set marks x 63) marks

-- `raise_at`: each mark of a counterpart of the old edge e at its pair with the new node m is raised.
unfoldable pub RaisesAt : List ℕ → List ℕ → List ℕ → List ℕ → List ℕ → ℕ → ℕ → ℕ → ℕ → List ℕ → List ℕ → Type 0
RaisesAt on ol nn nl w e n m most marks marks' =
    (o p : Listing) (c : ℕ) → Compared on ol nn nl w c o p → e < edge_count o.program → n ≡ source_at o.program e → listed (pairs_in w c) n m ≡ true → (x : ℕ) → x < length marks
    → get_or marks' x 0 ≡ lifted most (get_or marks x 0) (hit_at o.program p.program (pairs_in w c) true e m x)

pub record RaisedAt (on ol nn nl w : List ℕ) (e n m most : ℕ) (marks marks' : List ℕ) : Type 0 where
  pub raises : RaisesAt on ol nn nl w e n m most marks marks'
  pub size : length marks' ≡ length marks

-- `raise_all`: each mark of a counterpart of the old edge e is raised.
unfoldable pub Raises : List ℕ → List ℕ → List ℕ → List ℕ → List ℕ → ℕ → ℕ → List ℕ → List ℕ → Type 0
Raises on ol nn nl w e most marks marks' =
    (o p : Listing) (c : ℕ) → Compared on ol nn nl w c o p → e < edge_count o.program → (x : ℕ) → x < length marks
    → get_or marks' x 0 ≡ lifted most (get_or marks x 0) (ltb x (edge_count p.program) and joined o.program p.program (pairs o.program p.program) e x)

pub record AllRaised (on ol nn nl w : List ℕ) (e most : ℕ) (marks marks' : List ℕ) : Type 0 where
  pub raises : Raises on ol nn nl w e most marks marks'
  pub size : length marks' ≡ length marks

-- The old edge e was crossed and has the new edge x as a counterpart; as its only one.
abbrev pub carries_to : Program → Program → Coverage → ℕ → ℕ → Bool
carries_to old new coverage x e = ltb x (edge_count new) and carries old new coverage x e

abbrev pub carries_only_to : Program → Program → Coverage → ℕ → ℕ → Bool
carries_only_to old new coverage x e = ltb x (edge_count new) and carries_only old new coverage x e

-- `carry`: the marks after the old edge e.
unfoldable pub Carries : List ℕ → List ℕ → List ℕ → List ℕ → List ℕ → List ℕ → ℕ → ℕ → List ℕ → List ℕ → Type 0
Carries on ol nn nl w rows i e marks marks' =
    (o p : Listing) (c : ℕ) (coverage : Coverage) → Compared on ol nn nl w c o p → Row (edge_count o.program) rows i coverage → e < edge_count o.program → (x : ℕ) → x < length marks
    → get_or marks' x 0 ≡ carried (get_or marks x 0) (carries_to o.program p.program coverage x e) (carries_only_to o.program p.program coverage x e)

pub record Carried (on ol nn nl w rows : List ℕ) (i e : ℕ) (marks marks' : List ℕ) : Type 0 where
  pub carries : Carries on ol nn nl w rows i e marks marks'
  pub size : length marks' ≡ length marks

-- `carry_all`: the marks after the first k old edges.
unfoldable pub CarriesTo : List ℕ → List ℕ → List ℕ → List ℕ → List ℕ → List ℕ → ℕ → ℕ → ℕ → List ℕ → List ℕ → Type 0
CarriesTo on ol nn nl w rows i edges k marks marks' =
    (o p : Listing) (c : ℕ) (coverage : Coverage) → Compared on ol nn nl w c o p → Row (edge_count o.program) rows i coverage → edges ≡ edge_count o.program → (x : ℕ) → x < length marks
    → get_or marks' x 0 ≡ carried (get_or marks x 0) (any k (carries_to o.program p.program coverage x)) (any k (carries_only_to o.program p.program coverage x))

pub record AllCarried (on ol nn nl w rows : List ℕ) (i edges k : ℕ) (marks marks' : List ℕ) : Type 0 where
  pub carries : CarriesTo on ol nn nl w rows i edges k marks marks'
  pub size : length marks' ≡ length marks

-- The old edge e, which was crossed, has the new edge x as a counterpart and lies after a danger.
abbrev pub opens_to : Program → Program → Coverage → ℕ → ℕ → Bool
opens_to old new coverage x e = ltb x (edge_count new) and (carries old new coverage x e and has (after_dangers old new) e)

-- `open_edge`: the marks after the old edge e, where the set has the edges after a danger.
unfoldable pub Opens : List ℕ → List ℕ → List ℕ → List ℕ → List ℕ → List ℕ → ℕ → List ℕ → ℕ → List ℕ → List ℕ → Type 0
Opens on ol nn nl w rows i after e marks marks' =
    (o p : Listing) (c : ℕ) (coverage : Coverage) → Compared on ol nn nl w c o p → Row (edge_count o.program) rows i coverage
    → SetOf (edge_count o.program) (after_dangers o.program p.program) after → e < edge_count o.program → (x : ℕ) → x < length marks
    → get_or marks' x 0 ≡ lifted 49 (get_or marks x 0) (opens_to o.program p.program coverage x e)

pub record Opened (on ol nn nl w rows : List ℕ) (i : ℕ) (after : List ℕ) (e : ℕ) (marks marks' : List ℕ) : Type 0 where
  pub opens : Opens on ol nn nl w rows i after e marks marks'
  pub size : length marks' ≡ length marks

-- `open_all`: the marks after the first k old edges.
unfoldable pub OpensTo : List ℕ → List ℕ → List ℕ → List ℕ → List ℕ → List ℕ → ℕ → List ℕ → ℕ → ℕ → List ℕ → List ℕ → Type 0
OpensTo on ol nn nl w rows i after edges k marks marks' =
    (o p : Listing) (c : ℕ) (coverage : Coverage) → Compared on ol nn nl w c o p → Row (edge_count o.program) rows i coverage
    → SetOf (edge_count o.program) (after_dangers o.program p.program) after → edges ≡ edge_count o.program → (x : ℕ) → x < length marks
    → get_or marks' x 0 ≡ lifted 49 (get_or marks x 0) (any k (opens_to o.program p.program coverage x))

pub record AllOpened (on ol nn nl w rows : List ℕ) (i : ℕ) (after : List ℕ) (edges k : ℕ) (marks marks' : List ℕ) : Type 0 where
  pub opens : OpensTo on ol nn nl w rows i after edges k marks marks'
  pub size : length marks' ≡ length marks

-- `open_set`: the edges of the set, of the first k, are marked `?`.
pub record SetOpened (set : List ℕ) (k : ℕ) (marks marks' : List ℕ) : Type 0 where
  pub opens : (x : ℕ) → x < length marks → get_or marks' x 0 ≡ choose (ltb x k and bit_in set x) 63 (get_or marks x 0)
  pub size : length marks' ≡ length marks

-- `find_marks`: the marks of the test i, one for each new edge, and what stands behind them. The two sets count only for a test that is repeated.
unfoldable pub Finds : List ℕ → List ℕ → List ℕ → List ℕ → List ℕ → List ℕ → ℕ → ℕ → ℕ → Bool → List ℕ → List ℕ → List ℕ → List ℕ → Type 0
Finds on ol nn nl w rows i olds news again probed after marks marks' =
    (o p : Listing) (c : ℕ) (coverage : Coverage) → Compared on ol nn nl w c o p → Row (edge_count o.program) rows i coverage → olds ≡ edge_count o.program → news ≡ edge_count p.program
    → again ≡ meets (dangers o.program p.program) coverage
    → (again ≡ true → SetOf (edge_count p.program) (probes o.program p.program) probed × SetOf (edge_count o.program) (after_dangers o.program p.program) after)
    → edge_count p.program ≤ length marks → marks' ≡ sets marks 0 (marks_of o.program p.program coverage (edge_count p.program))

pub record MarksFound (on ol nn nl w rows : List ℕ) (i olds news : ℕ) (again : Bool) (probed after marks marks' : List ℕ) : Type 0 where
  pub finds : Finds on ol nn nl w rows i olds news again probed after marks marks'
  pub size : length marks' ≡ length marks
