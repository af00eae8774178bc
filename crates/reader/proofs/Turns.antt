-- The turns of the loop over lines: what the whole text reads to is what its rest reads to, after what the work table holds.
use mathlib.Core.Path.{◌≡◌, refl, sym, ap, ap₂, ◌∙◌, subst}
use mathlib.Core.List.{List, [], ◌∷◌}
use Prim.Native.Nat.{ℕ, suc, ◌+◌, ◌≤◌, ◌<◌}
use native.Mathlib.Omega.{arith}
use lib.ListN.{length, take, drop, length-take, length-drop}
use lib.Seq.{length-take-le}
use Rattle.laws.specs.Tests.{isnt}
use Rattle.laws.specs.Slices.{drop_end, drop_next}
use Rattle.laws.specs.TestLaws.{none_below}
use Rattle.rules.specs.Text.{Bytes, empty, split, fields_of, Reading, refused, accepted, then, unless, read_lines}
use Rattle.rules.specs.ProgramFile.{form_of, Listing, nothing_read, take_line, step_program, finish_program}
use Rattle.rules.proofs.TextLaws.{split_cons}
use Rattle.text.specs.Scans.{span}
use Rattle.text.specs.SplitLaws.{uncut, cut}
use Rattle.lines.specs.Stands.{Stands, line_stands}
use Rattle.lines.specs.Known.{Known, known_none, known_line}
use Rattle.reader.specs.Result.{Count, Small}
use Rattle.reader.specs.Reading.{Holds, After, Stepped, Refused, whole_text, LinesRead, counts}

-- ---- a line is no longer than the text

pub line_room : (text rest l : Bytes) (at len : ℕ) → rest ≡ drop at text → l ≡ take len rest → length text ≤ 65536 → length l ≤ 65536
line_room text rest l at len er el h = omega (arith, ap length el, length-take len rest, ap length er, length-drop at text)

-- ---- the loop

pub record So (text : Bytes) (at n : ℕ) (c : Count) (w : List ℕ) : Type 0 where
  pub listing : Listing
  pub known : Known text listing
  pub holds : Holds w c listing
  pub goes : whole_text text ≡ read_lines step_program finish_program n at listing (split 10 (drop at text))

so_start : (text w : Bytes) → So text 0 1 (counts 0 0 0) w
unfolding whole_text
so_start text w =
    record {
      listing = nothing_read;
      known = known_none text;
      holds = record {
        procs_n = refl;
        nodes_n = refl;
        edges_n = refl;
        reading = record { nodes = λ n h. none_below n h; procs = λ q h. none_below q h; entries = λ q h. none_below q h; exits = λ q h. none_below q h; edges = λ e h. none_below e h; heads = λ n h. none_below n h };
      };
      goes = refl;
    }

lines_more : (n at : ℕ) (s : Listing) (l : Bytes) (ps : List Bytes) (m : Bytes) (ms : List Bytes) → ps ≡ m ∷ ms
    → read_lines step_program finish_program n at s (l ∷ ps) ≡ then (step_program n at s l) (λ t. read_lines step_program finish_program (suc n) (at + length l + 1) t ps)
unfolding read_lines
lines_more n at s l ps m ms q =
    subst (λ (x : List Bytes). read_lines step_program finish_program n at s (l ∷ x) ≡ then (step_program n at s l) (λ t. read_lines step_program finish_program (suc n) (at + length l + 1) t x)) (sym q) refl

after_accepted : (x : Reading Listing) (r : Count) (w : List ℕ) → After x r w → r.number ≡ 0 → (t : Listing) × (x ≡ accepted t) × Holds w r t
after_accepted (refused k p) r w h z = absurd (let y : ⊥ = omega (arith, h.0, h.2) in y)
after_accepted (accepted t) r w h z = (t, refl, h.1)

after_refusal : (x : Reading Listing) (r : Count) (w : List ℕ) → After x r w → (r.number ≡ 0 → ⊥) → x ≡ refused r.number r.place
after_refusal (refused k p) r w h z = λ i. refused (sym h.0 i) (sym h.1 i)
after_refusal (accepted t) r w h z = absurd (z h.0)

module _ (text w : List ℕ) (at n : ℕ) (c : Count) (so : So text at n c w) (rest : List ℕ) (er : rest ≡ drop at text) (len : ℕ) (e : len ≡ span 10 rest) where
  -- The last line has no byte 10.
  no_end : at < length text → length rest ≤ len → whole_text text ≡ refused 2 n
  unfolding read_lines unless empty isnt
  no_end h k =
      so.goes ∙ ap (λ (x : Bytes). read_lines step_program finish_program n at so.listing (split 10 x)) (sym er) ∙ ap (read_lines step_program finish_program n at so.listing) (uncut 10 rest len e k) ∙ go rest (omega (arith, ap length er, length-drop at text))
    where
      go : (r : Bytes) → 0 < length r → unless (isnt (empty r)) 2 n (finish_program n so.listing) ≡ refused 2 n
      go [] h = absurd (let z : ⊥ = omega arith in z)
      go (x ∷ r) h = refl

  module _ (h : len < length rest) (line : List ℕ) (el : line ≡ take len rest) (r : Count) (w' : List ℕ) (stp : Stepped text n at (form_of (fields_of line)) c w r w') where
    line_long : length line ≡ len
    line_long = ap length el ∙ length-take-le len rest (omega arith)

    here : take (length line) (drop at text) ≡ line
    here = ap (λ (k : ℕ). take k (drop at text)) line_long ∙ ap (take len) (sym er) ∙ sym el

    stands : Stands text at (form_of (fields_of line))
    stands = line_stands text line at (omega (arith, line_long, ap length er, length-drop at text)) here

    whole : whole_text text ≡ then (take_line n at so.listing (form_of (fields_of line))) (λ t. read_lines step_program finish_program (suc n) (at + len + 1) t (split 10 (drop (at + len + 1) text)))
    unfolding step_program
    whole =
        let p : drop (len + 1) rest ≡ drop (at + len + 1) text = drop_next text rest at len er in
        let sc = split_cons 10 (drop (at + len + 1) text) in
        so.goes
        ∙ ap (λ (x : Bytes). read_lines step_program finish_program n at so.listing (split 10 x)) (sym er)
        ∙ ap (read_lines step_program finish_program n at so.listing) (cut 10 rest line (drop (len + 1) rest) len e h el refl)
        ∙ ap (λ (x : Bytes). read_lines step_program finish_program n at so.listing (line ∷ split 10 x)) p
        ∙ lines_more n at so.listing line (split 10 (drop (at + len + 1) text)) sc.0 sc.1 sc.2
        ∙ ap (λ (k : ℕ). then (step_program n at so.listing line) (λ t. read_lines step_program finish_program (suc n) (at + k + 1) t (split 10 (drop (at + len + 1) text)))) line_long

    after_step : After (take_line n at so.listing (form_of (fields_of line))) r w'
    unfolding Stepped
    after_step = stp so.listing so.known so.holds

    so_on : r.number ≡ 0 → So text (at + len + 1) (n + 1) r w'
    unfolding then
    so_on z =
        let a = after_accepted (take_line n at so.listing (form_of (fields_of line))) r w' after_step z in
        let one : n + 1 ≡ suc n = omega arith in
        record {
          listing = a.0;
          known = known_line text line n at so.listing a.0 so.known stands a.1;
          holds = a.2;
          goes = whole ∙ ap (λ (x : Reading Listing). then x (λ t. read_lines step_program finish_program (suc n) (at + len + 1) t (split 10 (drop (at + len + 1) text)))) a.1
              ∙ ap (λ (k : ℕ). read_lines step_program finish_program k (at + len + 1) a.0 (split 10 (drop (at + len + 1) text))) (sym one);
        }

    no_step : (r.number ≡ 0 → ⊥) → whole_text text ≡ refused r.number r.place
    unfolding then
    no_step z = whole ∙ ap (λ (x : Reading Listing). then x (λ t. read_lines step_program finish_program (suc n) (at + len + 1) t (split 10 (drop (at + len + 1) text)))) (after_refusal (take_line n at so.listing (form_of (fields_of line))) r w' after_step z)

-- The invariant.
pub record Head (text w₀ : List ℕ) (at n : ℕ) (c : Count) (w : List ℕ) : Type 0 where
  pub in_text : at ≤ length text
  pub some : 1 ≤ n
  pub few : n ≤ at + 1
  pub going : c.number ≡ 0
  pub small : Small c
  pub long : length w ≡ length w₀
  pub so : So text at n c w

pub head_start : (text w : List ℕ) (c : Count) → c ≡ counts 0 0 0 → Head text w 0 1 c w
head_start text w c e =
    rw e (record { in_text = omega arith; some = omega arith; few = omega arith; going = refl; small = record { few_procs = omega arith; few_nodes = omega arith; few_edges = omega arith }; long = refl; so = so_start text w })

pub head_on : (text w₀ w : List ℕ) (at n : ℕ) (c : Count) → Head text w₀ at n c w → (rest : List ℕ) → rest ≡ drop at text → (len : ℕ) → len ≡ span 10 rest → len < length rest
    → (line : List ℕ) → line ≡ take len rest → (r : Count) (w' : List ℕ) → Stepped text n at (form_of (fields_of line)) c w r w' → r.number ≡ 0 → Small r → length w' ≡ length w
    → Head text w₀ (at + len + 1) (n + 1) r w'
head_on text w₀ w at n c hd rest er len e h line el r w' stp z sm lg =
    record {
      in_text = omega (arith, ap length er, length-drop at text, hd.in_text);
      some = omega arith;
      few = omega (arith, hd.few);
      going = z;
      small = sm;
      long = lg ∙ hd.long;
      so = so_on text w at n c hd.so rest er len e h line el r w' stp z;
    }

-- The returns.
pub lines_open : (text w₀ w : List ℕ) (at n : ℕ) (c : Count) → Head text w₀ at n c w → at < length text → (rest : List ℕ) → rest ≡ drop at text → (len : ℕ) → len ≡ span 10 rest → length rest ≤ len
    → (r : Count) → Refused 2 n r → LinesRead text r w
lines_open text w₀ w at n c hd a rest er len e k r q =
    record {
      done = λ z. absurd (let y : ⊥ = omega (arith, q.number_is) in y);
      stopped = λ z. no_end text w at n c hd.so rest er len e a k ∙ ap₂ (λ (i j : ℕ). refused i j) (sym q.number_is) (sym q.place_is);
      small = q.small;
    }

pub lines_stop : (text w₀ w : List ℕ) (at n : ℕ) (c : Count) → Head text w₀ at n c w → (rest : List ℕ) → rest ≡ drop at text → (len : ℕ) → len ≡ span 10 rest → len < length rest
    → (line : List ℕ) → line ≡ take len rest → (r : Count) (w' : List ℕ) → Stepped text n at (form_of (fields_of line)) c w r w' → (r.number ≡ 0 → ⊥) → Small r → LinesRead text r w'
lines_stop text w₀ w at n c hd rest er len e h line el r w' stp z sm =
    record { done = λ y. absurd (z y); stopped = λ y. no_step text w at n c hd.so rest er len e h line el r w' stp y; small = sm }

pub lines_end : (text w₀ w : List ℕ) (at n : ℕ) (c : Count) → Head text w₀ at n c w → length text ≤ at → LinesRead text c w
unfolding read_lines split unless empty isnt
lines_end text w₀ w at n c hd h =
    record {
      done = λ z. record {
        listing = hd.so.listing;
        known = hd.so.known;
        holds = hd.so.holds;
        number = n;
        goes = hd.so.goes ∙ ap (λ (x : Bytes). read_lines step_program finish_program n at hd.so.listing (split 10 x)) (drop_end text at h);
      };
      stopped = λ z. absurd (z hd.going);
      small = hd.small;
    }

pub ruleset turns = (line_room, head_start, head_on, lines_open, lines_stop, lines_end)
