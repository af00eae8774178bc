-- Where the parts stand: the offsets that reading a program file gives lead to the bytes of names, labels and words in its text, and the line numbers to the lines.
use Rattle.std.specs.Prelude.{◌≡◌, refl, ◌⊎◌, get_or, take, drop}
use Rattle.std.proofs.Common.{sym, ◌∙◌, inl, inr, ⊎_elim, true≢false, arith, take_at, drop_at}
use Rattle.std.proofs.Math.Path.{ap, ap₂, subst}
use Rattle.std.proofs.Math.Bool.{true, false}
use mathlib.Core.List.{List, [], ◌∷◌, ◌++◌, append_assoc, append-nil}
use Prim.Native.Nat.{ℕ, suc, ◌+◌, ◌-◌, ◌≤◌, ◌<◌}
use Rattle.std.proofs.Math.ListN.{length, length-append, get_or-append}
use Rattle.laws.specs.TestLaws.{isnt_false}
use Rattle.laws.specs.Lists.{snoc_length, snoc_cases, snoc_old, snoc_new}
use Rattle.rules.specs.Text.{Bytes, bytes, lines_of, fields_of, commas, join_by, text_of, value, Reading, accepted, read_lines, read_text}
use Rattle.rules.specs.Graph.{Kind, E, S, C, X, Node, Edge, no_node, no_edge, label_at, node_count}
use Rattle.rules.specs.ProgramFile.{Line, proc_line, node_line, edge_line, malformed, form_of, Listing, nothing_read, current, begun, take_proc, take_line, step_program, finish_program, read_listing}
use Rattle.rules.specs.SuiteFile.{TestLine, TestListing, finish_suite, no_test, no_tests, read_tests, step_suite, take_test, test_line, test_form}
use Rattle.rules.specs.Job.{Version, label_part}
use Rattle.rules.specs.Layout.{kind_field, line_of_node, line_of_proc}
use Rattle.rules.specs.Places.{Part, Placed, Starts, OnLines, TestsPlaced}
use Rattle.rules.specs.Kept.{Formed}
use Rattle.rules.proofs.ProgramLaws.{formed, closing_begun, finished}
use Rattle.rules.proofs.SuiteLaws.{TestFormed, test_formed}
use Rattle.rules.proofs.TextLaws.{empty_true, nothing_ended, unless_accepted, accepted_same, then_accepted, join_split, lines_ended}
use Rattle.rules.specs.Kept.{after_line}

-- ---- reading, with the number and the offset of each line

ended_snoc : (ls : List Bytes) (l : Bytes) → text_of (ls ++ (l ∷ [])) ≡ text_of ls ++ (l ++ (10 ∷ []))
unfolding text_of
ended_snoc [] l = refl
ended_snoc (m ∷ ls) l = ap (λ (r : Bytes). m ++ (10 ∷ r)) (ended_snoc ls l) ∙ sym (append_assoc m (10 ∷ text_of ls) (l ++ (10 ∷ [])))

module _ {S A : Type 0} (step : ℕ → ℕ → S → Bytes → Reading S) (finish : ℕ → S → Reading A) (P : List Bytes → S → Type 0)
    (keeps : (ls : List Bytes) (st : S) (l : Bytes) (s : S) → P ls st → step (suc (length ls)) (length (text_of ls)) st l ≡ accepted s → P (ls ++ (l ∷ [])) s) where
  -- What each accepted line keeps, holds of all the lines and of what is read at the end.
  lines_placed : (ls pieces : List Bytes) (st : S) (a : A) (n at : ℕ) → n ≡ suc (length ls) → at ≡ length (text_of ls) → P ls st → read_lines step finish n at st pieces ≡ accepted a
      → (all : List Bytes) × (s : S) × (m : ℕ) × (ls ++ pieces ≡ all ++ ([] ∷ [])) × P all s × (finish m s ≡ accepted a)
  unfolding read_lines
  lines_placed ls [] st a n at p q h e = absurd (true≢false (let z : true ≡ false = cc in z))
  lines_placed ls (rest ∷ []) st a n at p q h e =
      let u = unless_accepted _ _ _ _ _ e in
      (ls, st, n, ap (λ (r : Bytes). ls ++ (r ∷ [])) (empty_true rest (isnt_false _ u.0)), h, u.1)
  lines_placed ls (l ∷ m ∷ ms) st a n at p q h e =
      let t = then_accepted _ _ _ e in
      let k : step (suc (length ls)) (length (text_of ls)) st l ≡ accepted t.0 = ap₂ (λ (i j : ℕ). step i j st l) (sym p) (sym q) ∙ t.1 in
      let n' : suc n ≡ suc (length (ls ++ (l ∷ []))) = omega (arith, length-append ls (l ∷ [])) in
      let at' : at + length l + 1 ≡ length (text_of (ls ++ (l ∷ [])))
      = omega (arith, ap length (ended_snoc ls l), length-append (text_of ls) (l ++ (10 ∷ [])), length-append l (10 ∷ [])) in
      subst (λ (p : List Bytes). (all : List Bytes) × (s : S) × (m : ℕ) × (p ≡ all ++ ([] ∷ [])) × P all s × (finish m s ≡ accepted a)) (append_assoc ls (l ∷ []) (m ∷ ms))
      (lines_placed (ls ++ (l ∷ [])) (m ∷ ms) t.0 a (suc n) (at + length l + 1) n' at' (keeps ls st l t.0 h k) t.2)

-- ---- a part of a text

-- Then they are the part of the text that begins there and is as long.
pub part_is : (text : Bytes) (i : ℕ) (w : Bytes) → Part text i w → take (length w) (drop i text) ≡ w
part_is text i w p =
    ap (λ (t : Bytes). take (length w) (drop i t)) p.text_is ∙ ap (take (length w)) (drop_at p.front (w ++ p.back) i p.offset) ∙ take_at w p.back (length w) refl

part_more : (text more : Bytes) (i : ℕ) (w : Bytes) → Part text i w → Part (text ++ more) i w
part_more text more i w p =
    record {
      front = p.front;
      back = p.back ++ more;
      text_is = ap (λ (t : Bytes). t ++ more) p.text_is ∙ append_assoc p.front (w ++ p.back) more ∙ ap (λ (t : Bytes). p.front ++ t) (append_assoc w p.back more);
      offset = p.offset;
    }

-- Bytes of a line that was added.
part_new : (ls : List Bytes) (a w b line : Bytes) (i : ℕ) → line ≡ a ++ (w ++ b) → i ≡ length (text_of ls) + length a → Part (text_of (ls ++ (line ∷ []))) i w
part_new ls a w b line i e k =
    record {
      front = text_of ls ++ a;
      back = b ++ (10 ∷ []);
      text_is = ended_snoc ls line ∙ ap (λ (l : Bytes). text_of ls ++ (l ++ (10 ∷ []))) e
          ∙ ap (λ (t : Bytes). text_of ls ++ t) (append_assoc a (w ++ b) (10 ∷ []) ∙ ap (λ (t : Bytes). a ++ t) (append_assoc w b (10 ∷ [])))
          ∙ sym (append_assoc (text_of ls) a (w ++ (b ++ (10 ∷ []))));
      offset = length-append (text_of ls) a ∙ sym k;
    }

starts_more : {A : Type 0} (text more : Bytes) (d : A) (f : A → Bytes) (vs : List A) (ss : List ℕ) → Starts text d f vs ss → Starts (text ++ more) d f vs ss
starts_more text more d f vs ss s = record { counted = s.counted; parts = λ n h. part_more text more _ _ (s.parts n h) }

starts_line : {A : Type 0} (ls : List Bytes) (l : Bytes) (d : A) (f : A → Bytes) (vs : List A) (ss : List ℕ) → Starts (text_of ls) d f vs ss → Starts (text_of (ls ++ (l ∷ []))) d f vs ss
starts_line ls l d f vs ss s = subst (λ (x : Bytes). Starts x d f vs ss) (sym (ended_snoc ls l)) (starts_more (text_of ls) (l ++ (10 ∷ [])) d f vs ss s)

starts_add : {A : Type 0} (text : Bytes) (d : A) (f : A → Bytes) (vs : List A) (ss : List ℕ) (v : A) (i : ℕ) → Starts text d f vs ss → Part text i (f v)
    → Starts text d f (vs ++ (v ∷ [])) (ss ++ (i ∷ []))
starts_add {A = A} text d f vs ss v i s p =
    record {
      counted = snoc_length 0 ss i ∙ ap suc s.counted ∙ sym (snoc_length d vs v);
      parts = λ n h.
          ⊎_elim
          (λ k.
          subst (λ (j : ℕ). Part text j (f (get_or (vs ++ (v ∷ [])) n d))) (sym (snoc_old 0 ss i n (omega (arith, s.counted))))
          (subst (λ (x : A). Part text (get_or ss n 0) (f x)) (sym (snoc_old d vs v n k)) (s.parts n k)))
          (λ (k : n ≡ length vs).
          let q : n ≡ length ss = k ∙ sym s.counted in
          subst (λ (j : ℕ). Part text j (f (get_or (vs ++ (v ∷ [])) n d))) (sym (subst (λ (m : ℕ). get_or (ss ++ (i ∷ [])) m 0 ≡ i) (sym q) (snoc_new 0 ss i)))
          (subst (λ (x : A). Part text i (f x)) (sym (subst (λ (m : ℕ). get_or (vs ++ (v ∷ [])) m d ≡ v) (sym k) (snoc_new d vs v))) p)) (snoc_cases d vs v n h);
    }

-- Line numbers that lead to the lines, where lines come after.
lines_more : {A : Type 0} (ls ms : List Bytes) (d : A) (f : A → Bytes) (vs : List A) (ns : List ℕ) → OnLines ls d f vs ns → OnLines (ls ++ ms) d f vs ns
lines_more ls ms d f vs ns o =
    record {
      counted = o.counted;
      inside = λ n h. ((o.inside n h).0, omega (arith, o.inside n h, length-append ls ms));
      lines_are = λ n h. get_or-append ls ms [] _ (omega (arith, o.inside n h)) ∙ o.lines_are n h;
      ascend = o.ascend;
    }

-- The line of one value more, where it is the next line.
lines_add : {A : Type 0} (ls : List Bytes) (l : Bytes) (d : A) (f : A → Bytes) (vs : List A) (ns : List ℕ) (v : A) → l ≡ f v → OnLines ls d f vs ns
    → OnLines (ls ++ (l ∷ [])) d f (vs ++ (v ∷ [])) (ns ++ (suc (length ls) ∷ []))
lines_add {A = A} ls l d f vs ns v e o =
    record {
      counted = snoc_length 0 ns (suc (length ls)) ∙ ap suc o.counted ∙ sym (snoc_length d vs v);
      inside = λ n h. inside n (snoc_cases d vs v n h);
      lines_are = λ n h. lines_are n (snoc_cases d vs v n h);
      ascend = λ m n a h. ascend m n a (snoc_cases d vs v n h);
    }
  where
    number_old : (n : ℕ) → n < length vs → get_or (ns ++ (suc (length ls) ∷ [])) n 0 ≡ get_or ns n 0
    number_old n h = snoc_old 0 ns (suc (length ls)) n (omega (arith, o.counted))

    number_new : (n : ℕ) → n ≡ length vs → get_or (ns ++ (suc (length ls) ∷ [])) n 0 ≡ suc (length ls)
    number_new n h =
        let q : n ≡ length ns = h ∙ sym o.counted in
        subst (λ (m : ℕ). get_or (ns ++ (suc (length ls) ∷ [])) m 0 ≡ suc (length ls)) (sym q) (snoc_new 0 ns (suc (length ls)))

    inside : (n : ℕ) → (n < length vs) ⊎ (n ≡ length vs) → (0 < get_or (ns ++ (suc (length ls) ∷ [])) n 0) × (get_or (ns ++ (suc (length ls) ∷ [])) n 0 ≤ length (ls ++ (l ∷ [])))
    inside n (inl h) = (omega (arith, number_old n h, o.inside n h), omega (arith, number_old n h, o.inside n h, length-append ls (l ∷ [])))
    inside n (inr h) = (omega (arith, number_new n h), omega (arith, number_new n h, length-append ls (l ∷ [])))

    lines_are : (n : ℕ) → (n < length vs) ⊎ (n ≡ length vs) → get_or (ls ++ (l ∷ [])) (get_or (ns ++ (suc (length ls) ∷ [])) n 0 - 1) [] ≡ f (get_or (vs ++ (v ∷ [])) n d)
    lines_are n (inl h) =
        ap (λ (i : ℕ). get_or (ls ++ (l ∷ [])) (i - 1) []) (number_old n h) ∙ get_or-append ls (l ∷ []) [] _ (omega (arith, o.inside n h)) ∙ o.lines_are n h
        ∙ ap f (sym (snoc_old d vs v n h))
    lines_are n (inr h) =
        let q : suc (length ls) - 1 ≡ length ls = omega arith in
        ap (λ (i : ℕ). get_or (ls ++ (l ∷ [])) (i - 1) []) (number_new n h) ∙ ap (λ (i : ℕ). get_or (ls ++ (l ∷ [])) i []) q ∙ snoc_new [] ls l ∙ e
        ∙ ap f (sym (subst (λ (m : ℕ). get_or (vs ++ (v ∷ [])) m d ≡ v) (sym h) (snoc_new d vs v)))

    ascend : (m n : ℕ) → m < n → (n < length vs) ⊎ (n ≡ length vs) → get_or (ns ++ (suc (length ls) ∷ [])) m 0 < get_or (ns ++ (suc (length ls) ∷ [])) n 0
    ascend m n a (inl h) = omega (arith, number_old m (omega arith), number_old n h, o.ascend m n a h)
    ascend m n a (inr h) = omega (arith, number_old m (omega arith), number_new n h, o.inside m (omega arith))

-- ---- a program file

pub line_taken : (n at : ℕ) (s : Listing) (l : Line) (t : Listing) → take_line n at s l ≡ accepted t → t ≡ after_line n at s l
unfolding take_line
line_taken n at s (proc_line name) t e =
    let u = closing_begun s (begun s.program) (take_proc n at name s) t refl e in
    let v = unless_accepted _ _ _ _ _ u.1 in
    let w = unless_accepted _ _ _ _ _ v.1 in
    sym (accepted_same w.1)
line_taken n at s (node_line kind label callee) t e =
    let u = unless_accepted _ _ _ _ _ e in
    let v = unless_accepted _ _ _ _ _ u.1 in
    sym (accepted_same v.1)
line_taken n at s (edge_line from word to) t e =
    let u = unless_accepted _ _ _ _ _ e in
    let v = unless_accepted _ _ _ _ _ u.1 in
    let w = unless_accepted _ _ _ _ _ v.1 in
    let x = unless_accepted _ _ _ _ _ w.1 in
    sym (accepted_same x.1)
line_taken n at s malformed t e = absurd (true≢false (let z : true ≡ false = cc in z))

-- What holds of the lines so far.
record Sofar (ls : List Bytes) (s : Listing) : Type 0 where
  names : Starts (text_of ls) [] (λ (n : Bytes). n) s.program.procs s.places.name_starts
  labels : Starts (text_of ls) no_node (λ (v : Node). v.label) s.program.nodes s.places.label_starts
  callees : Starts (text_of ls) no_node (λ (v : Node). v.label ++ (44 ∷ v.callee)) s.program.nodes s.places.label_starts
  words : Starts (text_of ls) no_edge (λ (x : Edge). x.word) s.program.edges s.places.word_starts
  on_procs : OnLines ls [] line_of_proc s.program.procs s.places.proc_lines
  on_nodes : OnLines ls no_node line_of_node s.program.nodes s.places.node_lines

-- A line more, that adds nothing.
sofar_more : (ls : List Bytes) (l : Bytes) (s : Listing) → Sofar ls s → Sofar (ls ++ (l ∷ [])) s
sofar_more ls l s p =
    record {
      names = starts_line ls l _ _ _ _ p.names;
      labels = starts_line ls l _ _ _ _ p.labels;
      callees = starts_line ls l _ _ _ _ p.callees;
      words = starts_line ls l _ _ _ _ p.words;
      on_procs = lines_more ls (l ∷ []) _ _ _ _ p.on_procs;
      on_nodes = lines_more ls (l ∷ []) _ _ _ _ p.on_nodes;
    }

pub kind_long : (k : Kind) → length (kind_field k) ≡ 1
kind_long E = refl
kind_long S = refl
kind_long C = refl
kind_long X = refl

sofar_line : (ls : List Bytes) (l : Bytes) (s : Listing) (x : Line) → Formed (fields_of l) x → Sofar ls s → Sofar (ls ++ (l ∷ [])) (after_line (suc (length ls)) (length (text_of ls)) s x)
unfolding join_by line_of_proc line_of_node
sofar_line ls l s (proc_line name) f p =
    let q = sofar_more ls l s p in
    let line : l ≡ line_of_proc name = sym (join_split 44 l) ∙ ap commas f.0 in
    let is : l ≡ bytes "P," ++ (name ++ []) = line ∙ ap (λ (r : Bytes). bytes "P," ++ r) (sym (append-nil name)) in
    record {
      names = starts_add _ [] (λ (n : Bytes). n) s.program.procs s.places.name_starts name _ q.names (part_new ls (bytes "P,") name [] l _ is refl);
      labels = q.labels;
      callees = q.callees;
      words = q.words;
      on_procs = lines_add ls l [] line_of_proc s.program.procs s.places.proc_lines name line p.on_procs;
      on_nodes = q.on_nodes;
    }
sofar_line ls l s (node_line kind label callee) f p =
    let q = sofar_more ls l s p in
    let v : Node = record { owner = current s.program; kind = kind; label = label; callee = callee } in
    let front : Bytes = bytes "N," ++ (kind_field kind ++ (44 ∷ [])) in
    let line : l ≡ line_of_node v = sym (join_split 44 l) ∙ ap commas f.0 in
    let is : l ≡ front ++ (label ++ (44 ∷ callee)) = line ∙ ap (λ (r : Bytes). bytes "N," ++ r) (sym (append_assoc (kind_field kind) (44 ∷ []) (label ++ (44 ∷ callee)))) in
    let long : length front ≡ 4 = omega (arith, kind_long kind, length-append (kind_field kind) (44 ∷ [])) in
    record {
      names = q.names;
      labels = starts_add _ no_node (λ (v : Node). v.label) s.program.nodes s.places.label_starts v _ q.labels (part_new ls front label (44 ∷ callee) l _ is (omega arith));
      callees = starts_add _ no_node (λ (v : Node). v.label ++ (44 ∷ v.callee)) s.program.nodes s.places.label_starts v _ q.callees
          (part_new ls front (label ++ (44 ∷ callee)) [] l _ (is ∙ ap (λ (r : Bytes). front ++ r) (sym (append-nil (label ++ (44 ∷ callee))))) (omega arith));
      words = q.words;
      on_procs = q.on_procs;
      on_nodes = lines_add ls l no_node line_of_node s.program.nodes s.places.node_lines v line p.on_nodes;
    }
sofar_line ls l s (edge_line from word to) f p =
    let q = sofar_more ls l s p in
    let x : Edge = record { source = value from; word = word; target = value to } in
    let front : Bytes = bytes "B," ++ (from ++ (44 ∷ [])) in
    let is : l ≡ front ++ (word ++ (44 ∷ to)) = sym (join_split 44 l) ∙ ap commas f.0 ∙ ap (λ (r : Bytes). bytes "B," ++ r) (sym (append_assoc from (44 ∷ []) (word ++ (44 ∷ to)))) in
    let long : length front ≡ length from + 3 = omega (arith, length-append from (44 ∷ [])) in
    record {
      names = q.names;
      labels = q.labels;
      callees = q.callees;
      words = starts_add _ no_edge (λ (x : Edge). x.word) s.program.edges s.places.word_starts x _ q.words (part_new ls front word (44 ∷ to) l _ is (omega arith));
      on_procs = q.on_procs;
      on_nodes = q.on_nodes;
    }
sofar_line ls l s malformed f p = sofar_more ls l s p

sofar_step : (ls : List Bytes) (s : Listing) (l : Bytes) (t : Listing) → Sofar ls s → step_program (suc (length ls)) (length (text_of ls)) s l ≡ accepted t → Sofar (ls ++ (l ∷ [])) t
unfolding step_program
sofar_step ls s l t p e =
    subst (λ (x : Listing). Sofar (ls ++ (l ∷ [])) x) (sym (line_taken _ _ s (form_of (fields_of l)) t e)) (sofar_line ls l s (form_of (fields_of l)) (formed (fields_of l)) p)

starts_none : {A : Type 0} (d : A) (f : A → Bytes) → Starts (text_of []) d f [] []
starts_none d f = record { counted = refl; parts = λ n h. absurd (let z : ⊥ = omega arith in z) }

on_none : {A : Type 0} (d : A) (f : A → Bytes) → OnLines [] d f [] []
on_none d f =
    record {
      counted = refl;
      inside = λ n h. absurd (let z : ⊥ = omega arith in z);
      lines_are = λ n h. absurd (let z : ⊥ = omega arith in z);
      ascend = λ m n a h. absurd (let z : ⊥ = omega arith in z);
    }

sofar_none : Sofar [] nothing_read
sofar_none = record { names = starts_none _ _; labels = starts_none _ _; callees = starts_none _ _; words = starts_none _ _; on_procs = on_none _ _; on_nodes = on_none _ _ }

-- The places of an accepted program text lead to its parts.
pub listing_placed : (text : Bytes) (s : Listing) → read_listing text ≡ accepted s → Placed text s
unfolding read_listing read_text
listing_placed text s e =
    let u = unless_accepted _ _ _ _ _ e in
    let r = lines_placed step_program finish_program Sofar sofar_step [] (lines_of text) nothing_read s 1 0 refl (sym nothing_ended) sofar_none u.1 in
    let f = finished r.2 r.1 s r.5 in
    subst (λ (x : Listing). Placed text x) f.1 (placed r.0 r.1 r.3 r.4)
  where
    placed : (ls : List Bytes) (s : Listing) → lines_of text ≡ ls ++ ([] ∷ []) → Sofar ls s → Placed text s
    placed ls s e p =
        let whole : text_of ls ≡ text = sym (lines_ended text ls e) in
        record {
          names = subst (λ (x : Bytes). Starts x [] (λ (n : Bytes). n) s.program.procs s.places.name_starts) whole p.names;
          labels = subst (λ (x : Bytes). Starts x no_node (λ (v : Node). v.label) s.program.nodes s.places.label_starts) whole p.labels;
          callees = subst (λ (x : Bytes). Starts x no_node (λ (v : Node). v.label ++ (44 ∷ v.callee)) s.program.nodes s.places.label_starts) whole p.callees;
          words = subst (λ (x : Bytes). Starts x no_edge (λ (x : Edge). x.word) s.program.edges s.places.word_starts) whole p.words;
          proc_lines_are = subst (λ (x : List Bytes). OnLines x [] line_of_proc s.program.procs s.places.proc_lines) (sym e) (lines_more ls ([] ∷ []) _ _ _ _ p.on_procs);
          node_lines_are = subst (λ (x : List Bytes). OnLines x no_node line_of_node s.program.nodes s.places.node_lines) (sym e) (lines_more ls ([] ∷ []) _ _ _ _ p.on_nodes);
        }

-- The part that is shown for a node is its label.
pub label_part_lem : (v : Version) → read_listing v.text ≡ accepted v.listing → (n : ℕ) → n < node_count v.listing.program → label_part v n ≡ label_at v.listing.program n
unfolding label_part
label_part_lem v e n h = part_is v.text _ _ ((listing_placed v.text v.listing e).labels.parts n h)

-- ---- a test file

abbrev NamesPlaced : List Bytes → TestListing → Type 0
NamesPlaced ls l = Starts (text_of ls) [] (λ (n : Bytes). n) l.suite.names l.starts

tests_line : (m n : ℕ) (ls : List Bytes) (s : TestListing) (l : Bytes) (x : TestLine) (t : TestListing) → TestFormed (fields_of l) x → NamesPlaced ls s
    → take_test m n (length (text_of ls)) s x ≡ accepted t → NamesPlaced (ls ++ (l ∷ [])) t
unfolding take_test join_by
tests_line m n ls s l (test_line name row) t f p e =
    let u = unless_accepted _ _ _ _ _ e in
    let v = unless_accepted _ _ _ _ _ u.1 in
    let w = unless_accepted _ _ _ _ _ v.1 in
    let is : l ≡ bytes "T," ++ (name ++ (44 ∷ row)) = sym (join_split 44 l) ∙ ap commas f.0 in
    subst (λ (x : TestListing). NamesPlaced (ls ++ (l ∷ [])) x) (accepted_same w.1)
    (starts_add _ [] (λ (n : Bytes). n) s.suite.names s.starts name _ (starts_line ls l _ _ _ _ p) (part_new ls (bytes "T,") name (44 ∷ row) l _ is refl))
tests_line m n ls s l no_test t f p e = absurd (true≢false (let z : true ≡ false = cc in z))

-- The offsets of an accepted test file lead to its names.
pub tests_placed : (m : ℕ) (text : Bytes) (l : TestListing) → read_tests m text ≡ accepted l → TestsPlaced text l
unfolding read_tests read_text step_suite
tests_placed m text l e =
    let u = unless_accepted _ _ _ _ _ e in
    let r = lines_placed (step_suite m) finish_suite NamesPlaced (λ ls s l t p e. tests_line m _ ls s l (test_form (fields_of l)) t (test_formed (fields_of l)) p e) [] (lines_of text) no_tests l 1 0 refl (sym nothing_ended) (starts_none _ _) u.1 in
    subst (λ (x : TestListing). TestsPlaced text x) (accepted_same r.5)
    (record { names = subst (λ (x : Bytes). Starts x [] (λ (n : Bytes). n) r.1.suite.names r.1.starts) (sym (lines_ended text r.0 r.3)) r.4 })
