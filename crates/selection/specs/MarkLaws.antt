-- Laws of marks: one old edge after another, the mark at the end, and all marks together.
use Rattle.std.specs.Prelude.{◌≡◌, refl, Bool, true, false, List, ℕ, ◌+◌, ◌≤◌, ◌<◌, leb, get_or, length, take}
use Rattle.std.proofs.Math.Path.{sym}
use Rattle.std.proofs.Common.{ap, ◌∙◌, arith, ext_get_or}
use Rattle.std.proofs.lemmas.Bool.{false≢true}
use Rattle.std.proofs.lemmas.List.Edits.{sets}
use Rattle.std.proofs.Math.Seq.{length-sets}
use Rattle.laws.specs.Tests.{◌and◌, ◌or◌, any, choose, has, isnt}
use Rattle.laws.specs.TestLaws.{and_left, any_at, any_of_lem, or_swap}
use Rattle.laws.specs.Slices.{below_or, take_sets_end, get_d_sets_after, get_d_sets_in}
use Rattle.rules.specs.Graph.{Program, edge_count}
use Rattle.rules.specs.Closing.{Coverage, carried_mark, carries, carries_only, dangers, endangered, mark, mark_0, mark_1, mark_?, meets, probes}
use Rattle.rules.specs.Sheet.{mark_byte, marks_of}
use Rattle.rules.proofs.JobLaws.{marks_at, marks_length}
use Rattle.selection.specs.Marks.{carried, lifted}

-- ---- raised to `?`

pub lifted_none : (most m : ℕ) → lifted most m false ≡ m
unfolding lifted choose ◌and◌
lifted_none most m = refl

-- One old edge after another; in either order.
pub lifted_more : (most m : ℕ) (c d : Bool) → lifted most (lifted most m c) d ≡ lifted most m (c or d)
unfolding lifted choose ◌and◌ ◌or◌
lifted_more most m c d = go c d (leb m most) refl
  where
    either : (b : Bool) → ◌≡◌ {A = ℕ} (choose b 63 63) 63
    either true = refl
    either false = refl

    go : (c d b : Bool) → leb m most ≡ b → lifted most (lifted most m c) d ≡ lifted most m (c or d)
    go true d true e = rw e (either (d and leb 63 most))
    go true true false e = rw e (rw e refl)
    go true false false e = rw e refl
    go false d b e = refl

pub lifted_before : (most m : ℕ) (c d : Bool) → lifted most (lifted most m d) c ≡ lifted most m (c or d)
lifted_before most m c d = lifted_more most m d c ∙ ap (lifted most m) (or_swap d c)

-- ---- carried by old edges

-- An old edge that has nothing to do with the new edge leaves its mark.
pub carried_none : (m : ℕ) → carried m false false ≡ m
unfolding carried choose
carried_none m = lifted_none 48 m

-- One that is not its only counterpart raises it.
pub carried_lifted : (m : ℕ) (c : Bool) → carried m c false ≡ lifted 48 m c
unfolding carried choose
carried_lifted m c = refl

-- A `1` stays.
one_stays : (d : Bool) → lifted 48 49 d ≡ 49
unfolding lifted choose ◌and◌
one_stays true = refl
one_stays false = refl

-- One old edge after another.
pub carried_more : (m : ℕ) (c u d v : Bool) → carried (carried m c u) d v ≡ carried m (c or d) (u or v)
unfolding carried choose ◌or◌
carried_more m c u d true = go u
  where
    go : (u : Bool) → carried (carried m c u) d true ≡ carried m (c or d) (u or true)
    go true = refl
    go false = refl
carried_more m c false d false = lifted_more 48 m c d
carried_more m c true d false = one_stays d

-- An only counterpart is marked `1`, whether raised or not.
pub carried_only : (m : ℕ) (c : Bool) → carried m c true ≡ 49
unfolding carried choose
carried_only m c = refl

-- ---- the mark at the end

-- From `0`, after all old edges, and where the test is repeated, after what is left open: an edge that has a probe, and one that is endangered.
carried_byte : (c u : Bool) → (u ≡ true → c ≡ true) → carried 48 c u ≡ mark_byte (choose (isnt c) mark_0 (choose u mark_1 mark_?))
unfolding carried lifted choose ◌and◌ isnt mark_byte
carried_byte true true h = refl
carried_byte true false h = refl
carried_byte false true h = absurd (false≢true (h refl))
carried_byte false false h = refl

open_byte : (a b c u : Bool) → (u ≡ true → c ≡ true) → choose a 63 (lifted 49 (carried 48 c u) b) ≡ mark_byte (choose (a or b) mark_? (choose (isnt c) mark_0 (choose u mark_1 mark_?)))
unfolding carried lifted choose ◌and◌ ◌or◌ isnt mark_byte
open_byte true b c u h = refl
open_byte false true true true h = refl
open_byte false true true false h = refl
open_byte false true false true h = absurd (false≢true (h refl))
open_byte false true false false h = refl
open_byte false false c u h = carried_byte c u h

module _ (old new : Program) (coverage : Coverage) (x : ℕ) where
  abbrev carries_some : Bool
  carries_some = any (edge_count old) (carries old new coverage x)

  abbrev carries_one : Bool
  carries_one = any (edge_count old) (carries_only old new coverage x)

  only_carries : carries_one ≡ true → carries_some ≡ true
  unfolding carries_only
  only_carries t = let r = any_at (carries_only old new coverage x) (edge_count old) t in any_of_lem (carries old new coverage x) (edge_count old) r.0 r.1 (and_left _ _ r.2)

  pub mark_left : meets (dangers old new) coverage ≡ false → carried 48 carries_some carries_one ≡ mark_byte (mark old new coverage x)
  unfolding mark carried_mark choose ◌and◌
  mark_left e =
      carried_byte carries_some carries_one only_carries
      ∙ sym (ap (λ (t : Bool). mark_byte (choose (t and (has (probes old new) x or endangered old new coverage x)) mark_? (carried_mark old new coverage x))) e)

  pub mark_open : meets (dangers old new) coverage ≡ true
      → choose (has (probes old new) x) 63 (lifted 49 (carried 48 carries_some carries_one) (endangered old new coverage x)) ≡ mark_byte (mark old new coverage x)
  unfolding mark carried_mark choose ◌and◌
  mark_open e =
      open_byte (has (probes old new) x) (endangered old new coverage x) carries_some carries_one only_carries
      ∙ sym (ap (λ (t : Bool). mark_byte (choose (t and (has (probes old new) x or endangered old new coverage x)) mark_? (carried_mark old new coverage x))) e)

-- ---- all marks

module _ (old new : Program) (coverage : Coverage) (marks marks' : List ℕ) (room : edge_count new ≤ length marks) where
  -- The marks by index, and what stands behind them.
  pub marks_by : length marks' ≡ length marks → ((x : ℕ) → x < edge_count new → get_or marks' x 0 ≡ mark_byte (mark old new coverage x))
      → ((x : ℕ) → edge_count new ≤ x → get_or marks' x 0 ≡ get_or marks x 0) → marks' ≡ sets marks 0 (marks_of old new coverage (edge_count new))
  marks_by size is past =
      let long = marks_length old new coverage (edge_count new) in
      ext_get_or 0 marks' (sets marks 0 (marks_of old new coverage (edge_count new))) (size ∙ sym (length-sets marks 0 (marks_of old new coverage (edge_count new))))
      (λ x l.
      below_or x (edge_count new)
      (λ b.
      let q : 0 + x ≡ x = omega arith in
      is x b ∙ sym (ap (λ (i : ℕ). get_or (sets marks 0 (marks_of old new coverage (edge_count new))) i 0) (sym q)
      ∙ get_d_sets_in (marks_of old new coverage (edge_count new)) marks 0 x 0 (omega arith) (omega arith) ∙ marks_at old new coverage (edge_count new) x b))
      (λ b. past x b ∙ sym (get_d_sets_after (marks_of old new coverage (edge_count new)) marks 0 x 0 (omega arith))))

  -- The first of them are the marks.
  pub marks_front : marks' ≡ sets marks 0 (marks_of old new coverage (edge_count new)) → take (edge_count new) marks' ≡ marks_of old new coverage (edge_count new)
  marks_front e =
      let long = marks_length old new coverage (edge_count new) in
      let q : 0 + length (marks_of old new coverage (edge_count new)) ≡ edge_count new = omega arith in
      ap (take (edge_count new)) e ∙ ap (λ (n : ℕ). take n (sets marks 0 (marks_of old new coverage (edge_count new)))) (sym q)
      ∙ take_sets_end (marks_of old new coverage (edge_count new)) marks 0 (omega arith)
