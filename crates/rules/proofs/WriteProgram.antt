-- L5 for programs: a text is accepted exactly if it is the writing of a program that follows the rules, and that program is what is read.
use Rattle.std.specs.Prelude.{◌≡◌, ◌↔◌, ◌⊎◌, Bool, get_or, take, drop}
use Rattle.std.proofs.Math.Path.{refl, sym, ap, ap₂, subst}
use Rattle.std.proofs.Common.{◌∙◌, inl, inr, true≢false, take-append-drop, length-drop, drop_of_length-le, length-take-le, take-suc, take_all, drop-cons, get_or-take, get_or-drop}
use Rattle.std.proofs.Math.Logic.{⊎_elim}
use Rattle.std.proofs.Math.Bool.{true, false}
use Rattle.std.proofs.Math.Option.{Option, none, some}
use mathlib.Core.List.{List, [], ◌∷◌, ◌++◌, append_assoc, append-nil}
use Prim.Native.Nat.{ℕ, zero, suc, ◌+◌, ◌-◌, ◌≤◌, ◌<◌}
use native.Mathlib.Omega.{arith}
use Rattle.std.proofs.Math.Decide.{dec_lt}
use Rattle.std.proofs.Math.Dec.{eqb}
use Rattle.std.proofs.Math.ListN.{length}
use borrow.Author.Tests.{eqb-true, eqb-false, eq-eqb, ne_eqb, lt-ltb, le-ltb, lt-leb, le-leb, ltb-true}
use Rattle.laws.specs.Tests.{◌and◌, ◌or◌, isnt, any, first, plus, count, after, choose}
use Rattle.laws.specs.TestLaws.{false_isnt, and_left, and_right, and_both, implies, isnt_true, both_ways, fails, passes?, every_of, any_at, any_of_lem, any_none, first_at, below_suc}
use Rattle.laws.specs.Lists.{choose_yes, choose_no, snoc_length, snoc_old, snoc_new, count_agree}
use Rattle.rules.specs.Text.{Bytes, same, empty, bytes, max_bytes, max_procs, max_nodes, max_edges, fields_of, commas, text_of, all_bytes, is_name, is_word, value, decimal, refused, accepted, read_lines, read_text}
use Rattle.rules.specs.Graph.{Kind, E, S, C, X, Node, Edge, Program, no_node, no_edge, node_at, edge_at, name_at, owner_at, kind_at, label_at, callee_at, callee_count, callee_name, source_at, word_at, target_at, proc_count, node_count, edge_count, same_kind, is_of, degree, fewest, most, worded}
use Rattle.rules.specs.ProgramFile.{Line, proc_line, node_line, edge_line, malformed, kind_of, is_node, is_edge, form_of, Places, Listing, nothing_read, add_proc, add_node, add_edge, current, begun, has_edge, named, is_node_of, has_word, degree_fine, complete, lost, with_proc, with_node, with_edge, take_proc, take_line, step_program, finish_program, read_listing, read_program}
use Rattle.rules.specs.Layout.{kind_field, line_of_proc, line_of_node, line_of_edge, lines_of_those, proc_lines, program_lines, write_program, Follows}
use Rattle.rules.proofs.GraphLaws.{same_kind_true, leaves_true}
use Rattle.rules.specs.Kept.{Complete, Sound, Formed}
use Rattle.rules.proofs.ProgramLaws.{Ended, formed, Taken, taken, finished, sound_none, sound_step, well_formed}
use Rattle.rules.specs.Kept.{other}
use Rattle.rules.proofs.TextLaws.{same_true, same_of, same_self, empty_true, decimal_free, letter_free, unless_passes, accepted_same, then_accepted, then_passes, join_split, lines_ended, Free, AllFree, split_join, split_ended, free_commas, all_free_append, name_free, callees_free, label_free_ten, label_free_comma, word_free_ten, word_free_comma, decimal_number, value_decimal, decimal_value, text_holds, text_short}

-- ---- the lines of those that pass

module _ {A : Type 0} (f : A → Bool) (line : A → Bytes) where
  those_append : (l m : List A) → lines_of_those f line (l ++ m) ≡ lines_of_those f line l ++ lines_of_those f line m
  unfolding lines_of_those choose
  those_append [] m = refl
  those_append (x ∷ l) m = go (f x) (those_append l m)
    where
      go : (b : Bool) → lines_of_those f line (l ++ m) ≡ lines_of_those f line l ++ lines_of_those f line m
          → choose b (line x ∷ lines_of_those f line (l ++ m)) (lines_of_those f line (l ++ m))
          ≡ choose b (line x ∷ lines_of_those f line l) (lines_of_those f line l) ++ lines_of_those f line m
      go true e = ap (λ (r : List Bytes). line x ∷ r) e
      go false e = e

  those_none : (d : A) (l : List A) → ((n : ℕ) → n < length l → f (get_or l n d) ≡ false) → lines_of_those f line l ≡ []
  unfolding lines_of_those
  those_none d [] h = refl
  those_none d (x ∷ l) h = choose_no _ _ (h 0 (omega arith)) ∙ those_none d l (λ n k. h (suc n) (omega arith))

  those_one : (x : A) → f x ≡ true → lines_of_those f line (x ∷ []) ≡ line x ∷ []
  unfolding lines_of_those
  those_one x h = choose_yes _ _ h

  those_not : (x : A) → f x ≡ false → lines_of_those f line (x ∷ []) ≡ []
  unfolding lines_of_those
  those_not x h = choose_no _ _ h

  -- One more that passes, and one more that does not.
  those_more : (l : List A) (x : A) → f x ≡ true → lines_of_those f line (l ++ (x ∷ [])) ≡ lines_of_those f line l ++ (line x ∷ [])
  those_more l x h = those_append l (x ∷ []) ∙ ap (λ (r : List Bytes). lines_of_those f line l ++ r) (those_one x h)

  those_same : (l : List A) (x : A) → f x ≡ false → lines_of_those f line (l ++ (x ∷ [])) ≡ lines_of_those f line l
  those_same l x h = those_append l (x ∷ []) ∙ ap (λ (r : List Bytes). lines_of_those f line l ++ r) (those_not x h) ∙ append-nil _

those_agree : {A : Type 0} (f g : A → Bool) (line : A → Bytes) (d : A) (l : List A) → ((n : ℕ) → n < length l → f (get_or l n d) ≡ g (get_or l n d))
    → lines_of_those f line l ≡ lines_of_those g line l
unfolding lines_of_those
those_agree f g line d [] h = refl
those_agree f g line d (x ∷ l) h =
    ap₂ (λ (b : Bool) (r : List Bytes). choose b (line x ∷ r) r) (h 0 (omega arith)) (those_agree f g line d l (λ n k. h (suc n) (omega arith)))

-- ---- the lines of a program that grows

less_eqb : (a b : ℕ) → a < b → eqb a b ≡ false
less_eqb a b h = ne_eqb a b (λ e. let z : ⊥ = omega arith in z)

more_eqb : (a b : ℕ) → b < a → eqb a b ≡ false
more_eqb a b h = ne_eqb a b (λ e. let z : ⊥ = omega arith in z)

lines_agree : (p r : Program) (n : ℕ) → ((q : ℕ) → q < n → proc_lines r q ≡ proc_lines p q) → program_lines r n ≡ program_lines p n
unfolding program_lines
lines_agree p r zero h = refl
lines_agree p r (suc n) h = ap₂ (λ (a b : List Bytes). a ++ b) (lines_agree p r n (λ q l. h q (omega arith))) (h n (omega arith))

-- The N lines and the B lines of the procedure q.
abbrev nodes_of : Program → ℕ → List Bytes
nodes_of p q = lines_of_those (λ v. eqb v.owner q) line_of_node p.nodes

abbrev edges_of : Program → ℕ → List Bytes
edges_of p q = lines_of_those (λ x. eqb (owner_at p x.source) q) line_of_edge p.edges

proc_lines_lem : (p r : Program) (q : ℕ) → name_at r q ≡ name_at p q → nodes_of r q ≡ nodes_of p q → edges_of r q ≡ edges_of p q → proc_lines r q ≡ proc_lines p q
unfolding proc_lines
proc_lines_lem p r q a b c = ap (λ (n : Bytes). line_of_proc n ∷ (nodes_of r q ++ edges_of r q)) a ∙ ap₂ (λ (x y : List Bytes). line_of_proc (name_at p q) ∷ (x ++ y)) b c

module _ (p : Program) (s : Sound p) where
  -- A P line more.
  written_proc : (name : Bytes) → program_lines (add_proc name p) (proc_count (add_proc name p)) ≡ program_lines p (proc_count p) ++ (line_of_proc name ∷ [])
  unfolding program_lines proc_lines
  written_proc name =
      let none_nodes : nodes_of p (proc_count p) ≡ []
      = those_none _ line_of_node no_node p.nodes (λ n h. less_eqb _ _ (s.owners n h)) in
      let none_edges : edges_of p (proc_count p) ≡ []
      = those_none _ line_of_edge no_edge p.edges (λ n h. less_eqb _ _ (s.owners _ (s.sources n h))) in
      ap (program_lines (add_proc name p)) (snoc_length [] p.procs name)
      ∙ ap₂ (λ (a b : List Bytes). a ++ b) (lines_agree p (add_proc name p) (proc_count p) (λ q l. proc_lines_lem p (add_proc name p) q (snoc_old [] p.procs name q l) refl refl))
      (ap (λ (n : Bytes). line_of_proc n ∷ (nodes_of p (proc_count p) ++ edges_of p (proc_count p))) (snoc_new [] p.procs name)
      ∙ ap₂ (λ (x y : List Bytes). line_of_proc name ∷ (x ++ y)) none_nodes none_edges)

  module _ (m : ℕ) (last : proc_count p ≡ suc m) where
    -- An N line more, where the procedure has no B line.
    module _ (x : Node) (mine : x.owner ≡ m) (bare : has_edge p m ≡ false) where
      owner_kept : (e : ℕ) → e < edge_count p → owner_at (add_node x p) (source_at p e) ≡ owner_at p (source_at p e)
      owner_kept e h = ap (λ (v : Node). v.owner) (snoc_old no_node p.nodes x (source_at p e) (s.sources e h))

      edges_kept_lem : (q : ℕ) → edges_of (add_node x p) q ≡ edges_of p q
      edges_kept_lem q =
          those_agree (λ y. eqb (owner_at (add_node x p) y.source) q) (λ y. eqb (owner_at p y.source) q) line_of_edge no_edge p.edges (λ e h. ap (λ (o : ℕ). eqb o q) (owner_kept e h))

      no_edges : edges_of p m ≡ []
      unfolding has_edge
      no_edges = those_none _ line_of_edge no_edge p.edges (λ e h. fails _ (λ t. any_none (λ e. eqb (owner_at p (source_at p e)) m) (edge_count p) bare e h t))

      written_node : program_lines (add_node x p) (proc_count p) ≡ program_lines p (proc_count p) ++ (line_of_node x ∷ [])
      unfolding program_lines proc_lines
      written_node =
          ap (program_lines (add_node x p)) last
          ∙ ap₂ (λ (a b : List Bytes). a ++ b)
          (lines_agree p (add_node x p) m (λ q l.
          proc_lines_lem p (add_node x p) q refl (those_same _ line_of_node p.nodes x (more_eqb x.owner q (omega arith))) (edges_kept_lem q)))
          (ap₂ (λ (a b : List Bytes). line_of_proc (name_at p m) ∷ (a ++ b)) (those_more _ line_of_node p.nodes x (eq-eqb _ _ mine)) (edges_kept_lem m ∙ no_edges)
          ∙ ap (λ (a : List Bytes). line_of_proc (name_at p m) ∷ a) (append-nil _)
          ∙ ap (λ (a : List Bytes). line_of_proc (name_at p m) ∷ (a ++ (line_of_node x ∷ []))) (sym (append-nil (nodes_of p m)) ∙ ap (λ (a : List Bytes). nodes_of p m ++ a) (sym no_edges)))
          ∙ sym (append_assoc (program_lines p m) _ (line_of_node x ∷ []))
          ∙ ap (λ (n : ℕ). program_lines p n ++ (line_of_node x ∷ [])) (sym last)

    -- A B line more.
    module _ (x : Edge) (mine : owner_at p x.source ≡ m) where
      written_edge : program_lines (add_edge x p) (proc_count p) ≡ program_lines p (proc_count p) ++ (line_of_edge x ∷ [])
      unfolding program_lines proc_lines
      written_edge =
          ap (program_lines (add_edge x p)) last
          ∙ ap₂ (λ (a b : List Bytes). a ++ b)
          (lines_agree p (add_edge x p) m (λ q l.
          proc_lines_lem p (add_edge x p) q refl refl (those_same _ line_of_edge p.edges x (more_eqb (owner_at p x.source) q (omega arith)))))
          (ap (λ (b : List Bytes). line_of_proc (name_at p m) ∷ (nodes_of p m ++ b)) (those_more _ line_of_edge p.edges x (eq-eqb _ _ mine))
          ∙ ap (λ (a : List Bytes). line_of_proc (name_at p m) ∷ a) (sym (append_assoc (nodes_of p m) (edges_of p m) (line_of_edge x ∷ []))))
          ∙ sym (append_assoc (program_lines p m) _ (line_of_edge x ∷ []))
          ∙ ap (λ (n : ℕ). program_lines p n ++ (line_of_edge x ∷ [])) (sym last)

-- ---- an accepted text is the writing of what was read

-- The lines so far are the lines of the program so far.
pub record Written (ls : List Bytes) (s : Listing) : Type 0 where
  pub sound : Sound s.program
  pub lines : ls ≡ program_lines s.program (proc_count s.program)

written_line : (ls : List Bytes) (l : Bytes) (s : Listing) (x : Line) (t : Listing) → Formed (fields_of l) x → Written ls s → Taken s x t
    → ls ++ (l ∷ []) ≡ program_lines t.program (proc_count t.program)
unfolding line_of_proc line_of_node line_of_edge is_edge is_node_of
written_line ls l s (proc_line name) t f w k =
    ap₂ (λ (a : List Bytes) (b : Bytes). a ++ (b ∷ [])) w.lines (sym (join_split 44 l) ∙ ap commas f.0)
    ∙ sym (written_proc s.program w.sound name) ∙ ap (λ (p : Program). program_lines p (proc_count p)) (sym k.3)
written_line ls l s (node_line kind label callee) t f w k =
    ap₂ (λ (a : List Bytes) (b : Bytes). a ++ (b ∷ [])) w.lines (sym (join_split 44 l) ∙ ap commas f.0)
    ∙ sym (written_node s.program w.sound (current s.program) (omega (arith, k.0)) (record { owner = current s.program; kind = kind; label = label; callee = callee }) refl k.1)
    ∙ ap (λ (p : Program). program_lines p (proc_count p)) (sym k.3)
written_line ls l s (edge_line from word to) t f w k =
    ap₂ (λ (a : List Bytes) (b : Bytes). a ++ (b ∷ [])) w.lines
    (sym (join_split 44 l) ∙ ap commas f.0
    ∙ ap₂ (λ (a b : Bytes). commas (bytes "B" ∷ a ∷ word ∷ b ∷ [])) (sym (decimal_value from (and_left _ _ f.1))) (sym (decimal_value to (and_right _ _ (and_right _ _ f.1)))))
    ∙ sym (written_edge s.program w.sound (current s.program) (omega (arith, k.0)) (record { source = value from; word = word; target = value to }) (eqb-true _ _ (and_right _ _ k.2)))
    ∙ ap (λ (p : Program). program_lines p (proc_count p)) (sym k.5)
written_line ls l s malformed t f w k = absurd k

written_step : (n at : ℕ) (ls : List Bytes) (s : Listing) (l : Bytes) (t : Listing) → Written ls s → step_program n at s l ≡ accepted t → Written (ls ++ (l ∷ [])) t
unfolding step_program
written_step n at ls s l t w e =
    record {
      sound = sound_step n at s l t w.sound e;
      lines = written_line ls l s (form_of (fields_of l)) t (formed (fields_of l)) w (taken n at s (form_of (fields_of l)) t e);
    }

-- The facts that reading keeps are those of the layout.
follows : (p : Program) → Sound p → Ended p → length (write_program p) ≤ max_bytes → Follows p
follows p s f b =
    record {
      structure = well_formed p s f;
      name_forms = s.name_forms;
      node_forms = s.node_forms;
      word_forms = s.word_forms;
      node_order = s.node_order;
      edge_order = s.edge_order;
      few_procs = s.few_procs;
      few_nodes = s.few_nodes;
      few_edges = s.few_edges;
      few_bytes = b;
    }

pub accepted_follows : (text : Bytes) (p : Program) → read_program text ≡ accepted p → Follows p × (text ≡ write_program p)
unfolding read_program read_listing write_program program_lines
accepted_follows text p e =
    let u = then_accepted _ _ _ e in
    let r = text_holds step_program finish_program Written written_step text nothing_read u.0 (record { sound = sound_none; lines = refl }) u.1 in
    let f = finished r.number r.last u.0 r.finishes in
    let q : r.last.program ≡ p = ap (λ (s : Listing). s.program) f.1 ∙ accepted_same u.2 in
    let t : text ≡ write_program p = lines_ended text r.lines r.taken ∙ ap text_of r.holds.lines ∙ ap write_program q in
    let b : length text ≤ max_bytes = text_short step_program finish_program Written written_step text nothing_read u.0 u.1 in
    (follows p (subst Sound q r.holds.sound) (subst Ended q f.0) (subst (λ (x : Bytes). length x ≤ max_bytes) t b), t)

-- ---- the lines of a program that follows the rules have no byte 10, and their forms are found again

none_free : (b : ℕ) (s : Bytes) → empty s ≡ true → Free b s
unfolding all_bytes
none_free b s h = rw (empty_true s h) refl

both_empty : (l c : Bytes) → empty l ≡ true → empty c ≡ true → (Free 10 l × Free 10 c) × (Free 44 l × Free 44 c)
both_empty l c a b = ((none_free 10 l a, none_free 10 c b), (none_free 44 l a, none_free 44 c b))

kind_free : (b : ℕ) (k : Kind) → b < 48 → Free b (kind_field k)
kind_free b E h = letter_free b 69 h (omega arith)
kind_free b S h = letter_free b 83 h (omega arith)
kind_free b C h = letter_free b 67 h (omega arith)
kind_free b X h = letter_free b 88 h (omega arith)

node_free : (k : Kind) (l c : Bytes) → is_node k l c ≡ true → (Free 10 l × Free 10 c) × (Free 44 l × Free 44 c)
unfolding is_node other isnt
node_free E l c h = both_empty l c (and_left _ _ h) (and_right _ _ h)
node_free S l c h =
    ((label_free_ten l (and_left _ _ h), none_free 10 c (and_right _ _ h)), (label_free_comma l (and_left _ _ h), none_free 44 c (and_right _ _ h)))
node_free C l c h =
    ((label_free_ten l (and_left _ _ h), callees_free 10 c (omega arith) refl (and_right _ _ h)), (label_free_comma l (and_left _ _ h), callees_free 44 c (omega arith) refl (and_right _ _ h)))
node_free X l c h = both_empty l c (and_left _ _ h) (and_right _ _ h)

proc_line_free : (name : Bytes) → is_name name ≡ true → Free 10 (line_of_proc name)
unfolding line_of_proc
proc_line_free name h = free_commas (bytes "P" ∷ name ∷ []) (letter_free 10 80 (omega arith) (omega arith), (name_free 10 name (omega arith) h, tt))

node_line_free : (v : Node) → is_node v.kind v.label v.callee ≡ true → Free 10 (line_of_node v)
unfolding line_of_node
node_line_free v h =
    let f = node_free v.kind v.label v.callee h in
    free_commas (bytes "N" ∷ kind_field v.kind ∷ v.label ∷ v.callee ∷ [])
    (letter_free 10 78 (omega arith) (omega arith), (kind_free 10 v.kind (omega arith), (f.0.0, (f.0.1, tt))))

edge_line_free : (x : Edge) → is_word x.word ≡ true → Free 10 (line_of_edge x)
unfolding line_of_edge
edge_line_free x h =
    free_commas (bytes "B" ∷ decimal x.source ∷ x.word ∷ decimal x.target ∷ [])
    (letter_free 10 66 (omega arith) (omega arith), (decimal_free 10 x.source (omega arith), (word_free_ten x.word h, (decimal_free 10 x.target (omega arith), tt))))

form_proc : (name : Bytes) → is_name name ≡ true → form_of (fields_of (line_of_proc name)) ≡ proc_line name
unfolding line_of_proc form_of
form_proc name h =
    ap form_of (split_join 44 (bytes "P") (name ∷ []) (letter_free 44 80 (omega arith) (omega arith), (name_free 44 name (omega arith) h, tt)))
    ∙ choose_yes _ _ (and_both (same_self (bytes "P")) h)

kind_found : (k : Kind) → kind_of (kind_field k) ≡ some k
unfolding kind_of choose same ◌and◌
kind_found E = refl
kind_found S = refl
kind_found C = refl
kind_found X = refl

form_node : (v : Node) → is_node v.kind v.label v.callee ≡ true → form_of (fields_of (line_of_node v)) ≡ node_line v.kind v.label v.callee
unfolding line_of_node form_of
form_node v h =
    let f = node_free v.kind v.label v.callee h in
    ap form_of (split_join 44 (bytes "N") (kind_field v.kind ∷ v.label ∷ v.callee ∷ [])
    (letter_free 44 78 (omega arith) (omega arith), (kind_free 44 v.kind (omega arith), (f.1.0, (f.1.1, tt)))))
    ∙ choose_yes _ _ (same_self (bytes "N"))
    ∙ ap (λ (o : Option Kind). after o malformed (λ k. choose (is_node k v.label v.callee) (node_line k v.label v.callee) malformed)) (kind_found v.kind)
    ∙ choose_yes _ _ h

form_edge : (x : Edge) → is_word x.word ≡ true → form_of (fields_of (line_of_edge x)) ≡ edge_line (decimal x.source) x.word (decimal x.target)
unfolding line_of_edge form_of is_edge same ◌and◌
form_edge x h =
    ap form_of (split_join 44 (bytes "B") (decimal x.source ∷ x.word ∷ decimal x.target ∷ [])
    (letter_free 44 66 (omega arith) (omega arith), (decimal_free 44 x.source (omega arith), (word_free_comma x.word h, (decimal_free 44 x.target (omega arith), tt)))))
    ∙ choose_no _ _ refl
    ∙ choose_yes _ _ (and_both (same_self (bytes "B")) (and_both (decimal_number x.source) (and_both h (decimal_number x.target))))

those_free : {A : Type 0} (f : A → Bool) (line : A → Bytes) (d : A) (l : List A) → ((n : ℕ) → n < length l → Free 10 (line (get_or l n d))) → AllFree 10 (lines_of_those f line l)
unfolding lines_of_those choose
those_free f line d [] h = tt
those_free f line d (x ∷ l) h = go (f x) (those_free f line d l (λ n k. h (suc n) (omega arith)))
  where
    go : (b : Bool) → AllFree 10 (lines_of_those f line l) → AllFree 10 (choose b (line x ∷ lines_of_those f line l) (lines_of_those f line l))
    go true r = (h 0 (omega arith), r)
    go false r = r

lines_free : (p : Program) → Follows p → (n : ℕ) → n ≤ proc_count p → AllFree 10 (program_lines p n)
unfolding program_lines proc_lines
lines_free p f zero h = tt
lines_free p f (suc n) h =
    all_free_append 10 (program_lines p n) _ (lines_free p f n (omega arith)) (
      proc_line_free (name_at p n) (f.name_forms n (omega arith)),
      all_free_append 10 (nodes_of p n) _ (those_free _ line_of_node no_node p.nodes (λ m k. node_line_free (node_at p m) (f.node_forms m k)))
          (those_free _ line_of_edge no_edge p.edges (λ e k. edge_line_free (edge_at p e) (f.word_forms e k))),
    )

-- ---- reading the lines of a program that follows the rules

-- The first a procedures, b nodes and c edges.
abbrev cut : Program → ℕ → ℕ → ℕ → Program
cut p a b c = record { procs = take a p.procs; nodes = take b p.nodes; edges = take c p.edges }

any_false : (f : ℕ → Bool) (n : ℕ) → ((i : ℕ) → i < n → f i ≡ false) → any n f ≡ false
any_false f n h =
    fails _ (λ t.
    let r = any_at f n t in
    both_ways r.2 (h r.0 r.1))

-- Nothing beyond b counts.
count_prefix : (f : ℕ → Bool) (b n : ℕ) → b ≤ n → ((i : ℕ) → b ≤ i → i < n → f i ≡ false) → count n f ≡ count b f
unfolding count plus
count_prefix f b zero h k =
    let e : b ≡ 0 = omega arith in
    rw e refl
count_prefix f b (suc n) h k = go (dec_lt n b) (λ l. count_prefix f b n l (λ i u v. k i u (omega arith)))
  where
    go : Dec (n < b) → (b ≤ n → count n f ≡ count b f) → plus (f n) (count n f) ≡ count b f
    go (yes l) r =
        let e : b ≡ suc n = omega arith in
        rw e refl
    go (no l) r =
        let u : f n ≡ false = k n (omega arith) (omega arith) in
        rw u (r (omega arith))

and_false : {a : Bool} (b : Bool) → a ≡ false → (a and b) ≡ false
unfolding ◌and◌
and_false {a = true} b e = absurd (true≢false e)
and_false {a = false} b e = refl

or_both : {a b : Bool} → a ≡ false → b ≡ false → (a or b) ≡ false
unfolding ◌or◌
or_both {a = true} e f = absurd (true≢false e)
or_both {a = false} e f = f

below_or : (n b : ℕ) → (n < b) ⊎ (b ≤ n)
below_or n b = go (dec_lt n b)
  where
    go : Dec (n < b) → (n < b) ⊎ (b ≤ n)
    go (yes h) = inl h
    go (no h) = inr (omega arith)

says_complete : (p : Program) (q : ℕ) → Complete p q → complete p q ≡ true
unfolding complete degree_fine
says_complete p q c =
    and_both (eq-eqb _ _ c.one_entry)
    (and_both (eq-eqb _ _ c.one_exit)
    (and_both
    (every_of _ (node_count p) (λ n h. implies _ _ (λ o. and_both (le-leb _ _ (c.least n h (eqb-true _ _ o))) (le-leb _ _ (c.greatest n h (eqb-true _ _ o))))))
    (every_of _ (edge_count p) (λ e h. implies _ _ (λ o. c.dashed e h (eqb-true _ _ o))))))

-- The places where reading can stand before the P line of the procedure q: all nodes and edges before it were read, and none of its own or later ones.
record Between (p : Program) (q b c : ℕ) : Type 0 where
  nodes_in : b ≤ node_count p
  nodes_before : (n : ℕ) → n < b → owner_at p n < q
  nodes_after : (n : ℕ) → b ≤ n → n < node_count p → q ≤ owner_at p n
  edges_in : c ≤ edge_count p
  edges_before : (e : ℕ) → e < c → owner_at p (source_at p e) < q
  edges_after : (e : ℕ) → c ≤ e → e < edge_count p → q ≤ owner_at p (source_at p e)

module _ (p : Program) (f : Follows p) where
  -- The lines from here on are read to the end, and give p, wherever the parts stand.
  Goes : Program → List Bytes → Type 0
  Goes r ls =
      (o : Places) (n at : ℕ)
      → (t : Listing) × (read_lines step_program finish_program n at (record { program = r; places = o }) (ls ++ ([] ∷ [])) ≡ accepted t) × (t.program ≡ p)

  goes_more : (r u : Program) (l : Bytes) (ls : List Bytes)
      → ((o : Places) (n at : ℕ) → (o' : Places) × (step_program n at (record { program = r; places = o }) l ≡ accepted (record { program = u; places = o' })))
      → Goes u ls → Goes r (l ∷ ls)
  unfolding Goes read_lines
  goes_more r u l [] h g o n at =
      let k = h o n at in
      let t = g k.0 (suc n) (at + length l + 1) in
      (t.0, then_passes _ k.1 ∙ t.1, t.2)
  goes_more r u l (m ∷ ls) h g o n at =
      let k = h o n at in
      let t = g k.0 (suc n) (at + length l + 1) in
      (t.0, then_passes _ k.1 ∙ t.1, t.2)

  goes_at : (r u : Program) (ls : List Bytes) → r ≡ u → Goes r ls → Goes u ls
  goes_at r u ls e g = subst (λ (x : Program). Goes x ls) e g

  -- Every procedure is complete.
  whole : (q : ℕ) → q < proc_count p → Complete p q
  whole q h =
      let w = f.structure in
      record {
        one_entry = w.entries q h;
        one_exit = w.exits q h;
        least = λ n k o. w.fewest_leave n k;
        greatest = λ n k o. w.most_leave n k;
        dashed = λ e k o. w.dashes e k;
      }

  module _ (a b c : ℕ) (ha : a ≤ proc_count p) (hb : b ≤ node_count p) (hc : c ≤ edge_count p) where
    procs_cut : proc_count (cut p a b c) ≡ a
    procs_cut = length-take-le a p.procs ha

    nodes_cut : node_count (cut p a b c) ≡ b
    nodes_cut = length-take-le b p.nodes hb

    edges_cut : edge_count (cut p a b c) ≡ c
    edges_cut = length-take-le c p.edges hc

    name_cut : (q : ℕ) → q < a → name_at (cut p a b c) q ≡ name_at p q
    name_cut q h = get_or-take a p.procs q [] h

    node_cut : (n : ℕ) → n < b → node_at (cut p a b c) n ≡ node_at p n
    node_cut n h = get_or-take b p.nodes n no_node h

    edge_cut : (e : ℕ) → e < c → edge_at (cut p a b c) e ≡ edge_at p e
    edge_cut e h = get_or-take c p.edges e no_edge h

    owner_cut : (n : ℕ) → n < b → owner_at (cut p a b c) n ≡ owner_at p n
    owner_cut n h = ap (λ (v : Node). v.owner) (node_cut n h)

    source_cut : (e : ℕ) → e < c → source_at (cut p a b c) e ≡ source_at p e
    source_cut e h = ap (λ (x : Edge). x.source) (edge_cut e h)

    -- A procedure all of whose nodes and edges were read is complete so far.
    module _ (q : ℕ) (h : q < proc_count p) (later : (n : ℕ) → b ≤ n → n < node_count p → q < owner_at p n)
        (edges_later : (e : ℕ) → c ≤ e → e < edge_count p → q < owner_at p (source_at p e)) (inside : (e : ℕ) → e < c → source_at p e < b) where
      count_cut : (k : Kind) → count (node_count (cut p a b c)) (is_of (cut p a b c) q k) ≡ count (node_count p) (is_of p q k)
      unfolding is_of
      count_cut k =
          ap (λ (n : ℕ). count n (is_of (cut p a b c) q k)) nodes_cut
          ∙ count_agree (is_of (cut p a b c) q k) (is_of p q k) b (λ n l. ap (λ (v : Node). eqb v.owner q and same_kind v.kind k) (node_cut n l))
          ∙ sym (count_prefix (is_of p q k) b (node_count p) hb (λ n l m. and_false (same_kind (kind_at p n) k) (more_eqb (owner_at p n) q (later n l m))))

      degree_cut : (n : ℕ) → owner_at p n ≡ q → degree (cut p a b c) n ≡ degree p n
      unfolding degree
      degree_cut n o =
          ap (λ (m : ℕ). count m (λ e. eqb (source_at (cut p a b c) e) n)) edges_cut
          ∙ count_agree (λ e. eqb (source_at (cut p a b c) e) n) (λ e. eqb (source_at p e) n) c (λ e l. ap (λ (i : ℕ). eqb i n) (source_cut e l))
          ∙ sym (count_prefix (λ e. eqb (source_at p e) n) c (edge_count p) hc (λ e l m.
          ne_eqb _ _ (λ (t : source_at p e ≡ n). let z : ⊥ = omega (arith, edges_later e l m, ap (owner_at p) t) in z)))

      complete_cut : complete (cut p a b c) q ≡ true
      complete_cut =
          let w = whole q h in
          says_complete (cut p a b c) q
          (record {
            one_entry = count_cut E ∙ w.one_entry;
            one_exit = count_cut X ∙ w.one_exit;
            least = λ n l o.
                let i : n < b = omega (arith, nodes_cut) in
                let u : owner_at p n ≡ q = sym (owner_cut n i) ∙ o in
                subst (λ (v : Node). fewest v.kind ≤ degree (cut p a b c) n) (sym (node_cut n i)) (omega (arith, degree_cut n u, w.least n (omega arith) u));
            greatest = λ n l o.
                let i : n < b = omega (arith, nodes_cut) in
                let u : owner_at p n ≡ q = sym (owner_cut n i) ∙ o in
                subst (λ (v : Node). degree (cut p a b c) n ≤ most v.kind) (sym (node_cut n i)) (omega (arith, degree_cut n u, w.greatest n (omega arith) u));
            dashed = λ e l o.
                let i : e < c = omega (arith, edges_cut) in
                let j : source_at p e < b = inside e i in
                subst (λ (x : Edge). worded (kind_at (cut p a b c) x.source) x.word ≡ true) (sym (edge_cut e i))
                (subst (λ (v : Node). worded v.kind (word_at p e) ≡ true) (sym (node_cut (source_at p e) j))
                (w.dashed e (omega arith) (sym (owner_cut (source_at p e) j) ∙ ap (owner_at (cut p a b c)) (sym (source_cut e i)) ∙ o)));
          })

  -- ---- the P line of the procedure q

  module _ (q b c : ℕ) (h : q < proc_count p) (k : Between p q b c) where
    edges_inside : (e : ℕ) → e < c → source_at p e < b
    edges_inside e l = go (dec_lt (source_at p e) b)
      where
        go : Dec (source_at p e < b) → source_at p e < b
        go (yes i) = i
        go (no i) = absurd (let z : ⊥ = omega (arith, k.edges_before e l, k.nodes_after (source_at p e) (omega arith) (f.structure.sources e (omega (arith, k.edges_in)))) in z)

    -- The procedure before it is complete.
    before_complete : 0 < q → complete (cut p q b c) (current (cut p q b c)) ≡ true
    before_complete l =
        let e : current (cut p q b c) ≡ q - 1 = ap (λ (n : ℕ). n - 1) (procs_cut q b c (omega arith) k.nodes_in k.edges_in) in
        rw e
        (complete_cut q b c (omega arith) k.nodes_in k.edges_in (q - 1) (omega arith) (λ n i j. omega (arith, k.nodes_after n i j)) (λ e i j. omega (arith, k.edges_after e i j)) edges_inside)

    fresh_name : named (cut p q b c) (name_at p q) ≡ false
    unfolding named
    fresh_name =
        any_false _ (proc_count (cut p q b c)) (λ r l.
        let i : r < q = omega (arith, procs_cut q b c (omega arith) k.nodes_in k.edges_in) in
        fails _ (λ t.
        let e : r ≡ q = f.structure.names q r h (omega arith) (sym (name_cut q b c (omega arith) k.nodes_in k.edges_in r i) ∙ same_true _ _ t) in
        let z : ⊥ = omega arith in
        z))

    next_proc : add_proc (name_at p q) (cut p q b c) ≡ cut p (suc q) b c
    next_proc = ap (λ (l : List Bytes). record { procs = l; nodes = take b p.nodes; edges = take c p.edges }) (sym (take-suc p.procs q [] h))

    take_proc_lem : (o : Places) (n at : ℕ) → take_proc n at (name_at p q) (record { program = cut p q b c; places = o }) ≡ accepted (with_proc n at (name_at p q) (record { program = cut p q b c; places = o }))
    take_proc_lem o n at =
        unless_passes _ _ _ _ (lt-leb max_procs (proc_count (cut p q b c)) (omega (arith, procs_cut q b c (omega arith) k.nodes_in k.edges_in, f.few_procs)))
        ∙ unless_passes _ _ _ _ fresh_name

    take_line_proc : (o : Places) (n at : ℕ)
        → take_line n at (record { program = cut p q b c; places = o }) (proc_line (name_at p q)) ≡ accepted (with_proc n at (name_at p q) (record { program = cut p q b c; places = o }))
    unfolding take_line
    take_line_proc o n at =
        ⊎_elim
        (λ t.
        choose_yes _ _ t
        ∙ unless_passes _ _ _ _ (false_isnt (before_complete (omega (arith, ltb-true 0 (proc_count (cut p q b c)) t, procs_cut q b c (omega arith) k.nodes_in k.edges_in))))
        ∙ take_proc_lem o n at)
        (λ t. choose_no _ _ t ∙ take_proc_lem o n at) (passes? (begun (cut p q b c)))

    step_proc : (o : Places) (n at : ℕ)
        → (o' : Places) × (step_program n at (record { program = cut p q b c; places = o }) (line_of_proc (name_at p q)) ≡ accepted (record { program = cut p (suc q) b c; places = o' }))
    unfolding step_program
    step_proc o n at =
        let s : Listing = record { program = cut p q b c; places = o } in (
          (with_proc n at (name_at p q) s).places,
          ap (take_line n at s) (form_proc (name_at p q) (f.name_forms q h)) ∙ take_line_proc o n at
              ∙ ap (λ (r : Program). accepted (record { program = r; places = (with_proc n at (name_at p q) s).places })) next_proc,
        )

  -- ---- an N line of the procedure q, the node b

  module _ (q b c : ℕ) (h : q < proc_count p) (hb : b < node_count p) (hc : c ≤ edge_count p) (mine : owner_at p b ≡ q) (inside : (e : ℕ) → e < c → source_at p e < b)
      (before_q : (e : ℕ) → e < c → owner_at p (source_at p e) < q) where
    current_here : current (cut p (suc q) b c) ≡ q
    current_here = ap (λ (n : ℕ). n - 1) (procs_cut (suc q) b c (omega arith) (omega arith) hc) ∙ (let z : suc q - 1 ≡ q = omega arith in z)

    no_edge_yet : has_edge (cut p (suc q) b c) (current (cut p (suc q) b c)) ≡ false
    unfolding has_edge
    no_edge_yet =
        any_false _ (edge_count (cut p (suc q) b c)) (λ e l.
        let i : e < c = omega (arith, edges_cut (suc q) b c (omega arith) (omega arith) hc) in
        let o : owner_at (cut p (suc q) b c) (source_at (cut p (suc q) b c) e) ≡ owner_at p (source_at p e)
        = ap (owner_at (cut p (suc q) b c)) (source_cut (suc q) b c (omega arith) (omega arith) hc e i) ∙ owner_cut (suc q) b c (omega arith) (omega arith) hc (source_at p e) (inside e i) in
        less_eqb (owner_at (cut p (suc q) b c) (source_at (cut p (suc q) b c) e)) (current (cut p (suc q) b c)) (omega (arith, before_q e i, current_here)))

    next_node : add_node (record { owner = current (cut p (suc q) b c); kind = kind_at p b; label = label_at p b; callee = callee_at p b }) (cut p (suc q) b c) ≡ cut p (suc q) (suc b) c
    next_node =
        ap (λ (i : ℕ). add_node (record { owner = i; kind = kind_at p b; label = label_at p b; callee = callee_at p b }) (cut p (suc q) b c)) (current_here ∙ sym mine)
        ∙ ap (λ (l : List Node). record { procs = take (suc q) p.procs; nodes = l; edges = take c p.edges }) (sym (take-suc p.nodes b no_node hb))

    take_line_node : (o : Places) (n at : ℕ)
        → take_line n at (record { program = cut p (suc q) b c; places = o }) (node_line (kind_at p b) (label_at p b) (callee_at p b))
        ≡ accepted (with_node n at (kind_at p b) (label_at p b) (callee_at p b) (record { program = cut p (suc q) b c; places = o }))
    unfolding take_line
    take_line_node o n at =
        unless_passes _ _ _ _ (or_both (false_isnt (lt-ltb 0 (proc_count (cut p (suc q) b c)) (omega (arith, procs_cut (suc q) b c (omega arith) (omega arith) hc)))) no_edge_yet)
        ∙ unless_passes _ _ _ _ (lt-leb max_nodes (node_count (cut p (suc q) b c)) (omega (arith, nodes_cut (suc q) b c (omega arith) (omega arith) hc, f.few_nodes)))

    step_node : (o : Places) (n at : ℕ)
        → (o' : Places) × (step_program n at (record { program = cut p (suc q) b c; places = o }) (line_of_node (node_at p b)) ≡ accepted (record { program = cut p (suc q) (suc b) c; places = o' }))
    unfolding step_program
    step_node o n at =
        let s : Listing = record { program = cut p (suc q) b c; places = o } in
        let w : Places = (with_node n at (kind_at p b) (label_at p b) (callee_at p b) s).places in (
          w,
          ap (take_line n at s) (form_node (node_at p b) (f.node_forms b hb)) ∙ take_line_node o n at ∙ ap (λ (r : Program). accepted (record { program = r; places = w })) next_node,
        )

  -- ---- a B line of the procedure q, the edge c

  module _ (q b c : ℕ) (h : q < proc_count p) (hb : b ≤ node_count p) (hc : c < edge_count p) (mine : owner_at p (source_at p c) ≡ q)
      (all_in : (n : ℕ) → n < node_count p → owner_at p n ≡ q → n < b) where
    current_edge : current (cut p (suc q) b c) ≡ q
    current_edge = ap (λ (n : ℕ). n - 1) (procs_cut (suc q) b c (omega arith) hb (omega arith)) ∙ (let z : suc q - 1 ≡ q = omega arith in z)

    is_node_lem : (n : ℕ) → n < node_count p → owner_at p n ≡ q → is_node_of (cut p (suc q) b c) (current (cut p (suc q) b c)) n ≡ true
    unfolding is_node_of
    is_node_lem n l o =
        let i : n < b = all_in n l o in
        and_both (lt-ltb n (node_count (cut p (suc q) b c)) (omega (arith, nodes_cut (suc q) b c (omega arith) hb (omega arith))))
        (eq-eqb _ _ (owner_cut (suc q) b c (omega arith) hb (omega arith) n i ∙ o ∙ sym current_edge))

    fresh_word : has_word (cut p (suc q) b c) (source_at p c) (word_at p c) ≡ false
    unfolding has_word
    fresh_word =
        any_false _ (edge_count (cut p (suc q) b c)) (λ e l.
        let i : e < c = omega (arith, edges_cut (suc q) b c (omega arith) hb (omega arith)) in
        let x = edge_cut (suc q) b c (omega arith) hb (omega arith) e i in
        fails _ (λ t.
        let u = leaves_true (cut p (suc q) b c) (source_at p c) (word_at p c) e t in
        let z : e ≡ c = f.structure.words c e hc (omega arith) (sym (ap (λ (v : Edge). v.source) x) ∙ u.0) (sym (ap (λ (v : Edge). v.word) x) ∙ u.1) in
        let y : ⊥ = omega arith in
        y))

    take_line_edge : (o : Places) (n at : ℕ) (from to : Bytes) → value from ≡ source_at p c → value to ≡ target_at p c
        → take_line n at (record { program = cut p (suc q) b c; places = o }) (edge_line from (word_at p c) to) ≡ accepted (with_edge at from (word_at p c) to (record { program = cut p (suc q) b c; places = o }))
    unfolding take_line
    take_line_edge o n at from to x y =
        let i : is_node_of (cut p (suc q) b c) (current (cut p (suc q) b c)) (value from) ≡ true
        = subst (λ (m : ℕ). is_node_of (cut p (suc q) b c) (current (cut p (suc q) b c)) m ≡ true) (sym x) (is_node_lem (source_at p c) (f.structure.sources c hc) mine) in
        let j : is_node_of (cut p (suc q) b c) (current (cut p (suc q) b c)) (value to) ≡ true
        = subst (λ (m : ℕ). is_node_of (cut p (suc q) b c) (current (cut p (suc q) b c)) m ≡ true) (sym y) (is_node_lem (target_at p c) (f.structure.targets c hc) (sym (f.structure.stays c hc) ∙ mine)) in
        let w : has_word (cut p (suc q) b c) (value from) (word_at p c) ≡ false = subst (λ (m : ℕ). has_word (cut p (suc q) b c) m (word_at p c) ≡ false) (sym x) fresh_word in
        unless_passes _ _ _ _ (false_isnt (lt-ltb 0 (proc_count (cut p (suc q) b c)) (omega (arith, procs_cut (suc q) b c (omega arith) hb (omega arith)))))
        ∙ unless_passes _ _ _ _ (lt-leb max_edges (edge_count (cut p (suc q) b c)) (omega (arith, edges_cut (suc q) b c (omega arith) hb (omega arith), f.few_edges)))
        ∙ unless_passes _ _ _ _ (false_isnt (and_both i j))
        ∙ unless_passes _ _ _ _ w

    next_edge : (s t : ℕ) → s ≡ source_at p c → t ≡ target_at p c → add_edge (record { source = s; word = word_at p c; target = t }) (cut p (suc q) b c) ≡ cut p (suc q) b (suc c)
    next_edge s t x y =
        ap₂ (λ (i j : ℕ). add_edge (record { source = i; word = word_at p c; target = j }) (cut p (suc q) b c)) x y
        ∙ ap (λ (l : List Edge). record { procs = take (suc q) p.procs; nodes = take b p.nodes; edges = l }) (sym (take-suc p.edges c no_edge hc))

    step_edge : (o : Places) (n at : ℕ)
        → (o' : Places) × (step_program n at (record { program = cut p (suc q) b c; places = o }) (line_of_edge (edge_at p c)) ≡ accepted (record { program = cut p (suc q) b (suc c); places = o' }))
    unfolding step_program
    step_edge o n at =
        let s : Listing = record { program = cut p (suc q) b c; places = o } in
        let x : value (decimal (source_at p c)) ≡ source_at p c = value_decimal (source_at p c) in
        let y : value (decimal (target_at p c)) ≡ target_at p c = value_decimal (target_at p c) in
        let w : Places = (with_edge at (decimal (source_at p c)) (word_at p c) (decimal (target_at p c)) s).places in (
          w,
          ap (take_line n at s) (form_edge (edge_at p c) (f.word_forms c hc)) ∙ take_line_edge o n at (decimal (source_at p c)) (decimal (target_at p c)) x y
              ∙ ap (λ (r : Program). accepted (record { program = r; places = w })) (next_edge (value (decimal (source_at p c))) (value (decimal (target_at p c))) x y),
        )

  -- ---- all the lines

  above : (q n : ℕ) → q ≤ n → eqb n q ≡ false → q < n
  above q n h e = ⊎_elim (λ i. i) (λ (i : q ≡ n). absurd (eqb-false n q e (sym i))) (below_suc q n (omega arith))

  -- The rest has no line of the procedure q.
  nodes_done : (q b : ℕ) → ((n : ℕ) → b ≤ n → n < node_count p → q < owner_at p n) → lines_of_those (λ v. eqb v.owner q) line_of_node (drop b p.nodes) ≡ []
  nodes_done q b h =
      those_none _ line_of_node no_node (drop b p.nodes) (λ n l.
      ap (λ (v : Node). eqb v.owner q) (get_or-drop b p.nodes n no_node)
      ∙ more_eqb (owner_at p (b + n)) q (h (b + n) (omega arith) (omega (arith, length-drop b p.nodes))))

  edges_done : (q c : ℕ) → ((e : ℕ) → c ≤ e → e < edge_count p → q < owner_at p (source_at p e)) → lines_of_those (λ x. eqb (owner_at p x.source) q) line_of_edge (drop c p.edges) ≡ []
  edges_done q c h =
      those_none _ line_of_edge no_edge (drop c p.edges) (λ n l.
      ap (λ (x : Edge). eqb (owner_at p x.source) q) (get_or-drop c p.edges n no_edge)
      ∙ more_eqb (owner_at p (source_at p (c + n))) q (h (c + n) (omega arith) (omega (arith, length-drop c p.edges))))

  -- The N lines of the procedure q from the node b on.
  goes_nodes : (q c : ℕ) (ls : List Bytes) → q < proc_count p → c ≤ edge_count p → ((e : ℕ) → e < c → owner_at p (source_at p e) < q)
      → ((b : ℕ) → b ≤ node_count p → ((n : ℕ) → n < b → owner_at p n ≤ q) → ((n : ℕ) → b ≤ n → n < node_count p → q < owner_at p n) → Goes (cut p (suc q) b c) ls)
      → (k b : ℕ) → b + k ≡ node_count p → ((n : ℕ) → n < b → owner_at p n ≤ q) → ((n : ℕ) → b ≤ n → n < node_count p → q ≤ owner_at p n) → ((e : ℕ) → e < c → source_at p e < b)
      → Goes (cut p (suc q) b c) (lines_of_those (λ v. eqb v.owner q) line_of_node (drop b p.nodes) ++ ls)
  unfolding lines_of_those
  goes_nodes q c ls h hc early cont zero b e up low inside =
      subst (λ (l : List Node). Goes (cut p (suc q) b c) (lines_of_those (λ v. eqb v.owner q) line_of_node l ++ ls)) (sym (drop_of_length-le p.nodes (let z : node_count p ≤ b = omega arith in z)))
      (cont b (omega arith) up (λ n i j. absurd (let z : ⊥ = omega arith in z)))
  goes_nodes q c ls h hc early cont (suc k) b e up low inside =
      subst (λ (l : List Node). Goes (cut p (suc q) b c) (lines_of_those (λ v. eqb v.owner q) line_of_node l ++ ls)) (sym (drop-cons p.nodes b no_node (omega arith)))
      (⊎_elim
      (λ t.
      let o : owner_at p b ≡ q = eqb-true _ _ t in
      subst (λ (l : List Bytes). Goes (cut p (suc q) b c) (l ++ ls)) (sym (choose_yes _ _ t))
      (goes_more (cut p (suc q) b c) (cut p (suc q) (suc b) c) (line_of_node (node_at p b)) _ (step_node q b c h (omega arith) hc o inside early)
      (goes_nodes q c ls h hc early cont k (suc b) (omega arith) (λ n i. ⊎_elim (up n) (λ (j : n ≡ b). omega (arith, o, ap (owner_at p) j)) (below_suc n b i)) (λ n i j. low n (omega arith) j)
      (λ e i. omega (arith, inside e i)))))
      (λ t.
      let o : q < owner_at p b = above q (owner_at p b) (low b (omega arith) (omega arith)) t in
      subst (λ (l : List Bytes). Goes (cut p (suc q) b c) (l ++ ls)) (sym (choose_no _ _ t ∙ nodes_done q (suc b) (λ n i j. omega (arith, o, f.node_order b n (omega arith) j))))
      (cont b (omega arith) up (λ n i j. omega (arith, o, f.node_order b n i j)))) (passes? (eqb (owner_at p b) q)))

  -- The B lines of the procedure q from the edge c on.
  goes_edges : (q b : ℕ) (ls : List Bytes) → q < proc_count p → b ≤ node_count p → ((n : ℕ) → n < node_count p → owner_at p n ≡ q → n < b)
      → ((c : ℕ) → c ≤ edge_count p → ((e : ℕ) → e < c → owner_at p (source_at p e) ≤ q) → ((e : ℕ) → c ≤ e → e < edge_count p → q < owner_at p (source_at p e)) → Goes (cut p (suc q) b c) ls)
      → (k c : ℕ) → c + k ≡ edge_count p → ((e : ℕ) → e < c → owner_at p (source_at p e) ≤ q) → ((e : ℕ) → c ≤ e → e < edge_count p → q ≤ owner_at p (source_at p e))
      → Goes (cut p (suc q) b c) (lines_of_those (λ x. eqb (owner_at p x.source) q) line_of_edge (drop c p.edges) ++ ls)
  unfolding lines_of_those
  goes_edges q b ls h hb all_in cont zero c e up low =
      subst (λ (l : List Edge). Goes (cut p (suc q) b c) (lines_of_those (λ x. eqb (owner_at p x.source) q) line_of_edge l ++ ls)) (sym (drop_of_length-le p.edges (let z : edge_count p ≤ c = omega arith in z)))
      (cont c (omega arith) up (λ n i j. absurd (let z : ⊥ = omega arith in z)))
  goes_edges q b ls h hb all_in cont (suc k) c e up low =
      subst (λ (l : List Edge). Goes (cut p (suc q) b c) (lines_of_those (λ x. eqb (owner_at p x.source) q) line_of_edge l ++ ls)) (sym (drop-cons p.edges c no_edge (omega arith)))
      (⊎_elim
      (λ t.
      let o : owner_at p (source_at p c) ≡ q = eqb-true _ _ t in
      subst (λ (l : List Bytes). Goes (cut p (suc q) b c) (l ++ ls)) (sym (choose_yes _ _ t))
      (goes_more (cut p (suc q) b c) (cut p (suc q) b (suc c)) (line_of_edge (edge_at p c)) _ (step_edge q b c h hb (omega arith) o all_in)
      (goes_edges q b ls h hb all_in cont k (suc c) (omega arith) (λ n i. ⊎_elim (up n) (λ (j : n ≡ c). omega (arith, o, ap (λ (m : ℕ). owner_at p (source_at p m)) j)) (below_suc n c i))
      (λ n i j. low n (omega arith) j))))
      (λ t.
      let o : q < owner_at p (source_at p c) = above q (owner_at p (source_at p c)) (low c (omega arith) (omega arith)) t in
      subst (λ (l : List Bytes). Goes (cut p (suc q) b c) (l ++ ls)) (sym (choose_no _ _ t ∙ edges_done q (suc c) (λ n i j. omega (arith, o, f.edge_order c n (omega arith) j))))
      (cont c (omega arith) up (λ n i j. omega (arith, o, f.edge_order c n i j)))) (passes? (eqb (owner_at p (source_at p c)) q)))

  -- What stands before the node b, or the edge c, has no line of the procedure q.
  nodes_from : (q b : ℕ) → b ≤ node_count p → ((n : ℕ) → n < b → owner_at p n < q) → nodes_of p q ≡ lines_of_those (λ v. eqb v.owner q) line_of_node (drop b p.nodes)
  nodes_from q b l h =
      ap (lines_of_those (λ v. eqb v.owner q) line_of_node) (sym (take-append-drop b p.nodes))
      ∙ those_append _ line_of_node (take b p.nodes) (drop b p.nodes)
      ∙ ap (λ (r : List Bytes). r ++ lines_of_those (λ v. eqb v.owner q) line_of_node (drop b p.nodes))
      (those_none _ line_of_node no_node (take b p.nodes) (λ n i.
      let j : n < b = omega (arith, length-take-le b p.nodes l) in
      ap (λ (v : Node). eqb v.owner q) (get_or-take b p.nodes n no_node j) ∙ less_eqb (owner_at p n) q (h n j)))

  edges_from : (q c : ℕ) → c ≤ edge_count p → ((e : ℕ) → e < c → owner_at p (source_at p e) < q)
      → edges_of p q ≡ lines_of_those (λ x. eqb (owner_at p x.source) q) line_of_edge (drop c p.edges)
  edges_from q c l h =
      ap (lines_of_those (λ x. eqb (owner_at p x.source) q) line_of_edge) (sym (take-append-drop c p.edges))
      ∙ those_append _ line_of_edge (take c p.edges) (drop c p.edges)
      ∙ ap (λ (r : List Bytes). r ++ lines_of_those (λ x. eqb (owner_at p x.source) q) line_of_edge (drop c p.edges))
      (those_none _ line_of_edge no_edge (take c p.edges) (λ n i.
      let j : n < c = omega (arith, length-take-le c p.edges l) in
      ap (λ (x : Edge). eqb (owner_at p x.source) q) (get_or-take c p.edges n no_edge j) ∙ less_eqb (owner_at p (source_at p n)) q (h n j)))

  -- The lines of one procedure.
  goes_proc : (q b c : ℕ) (ls : List Bytes) → q < proc_count p → Between p q b c → ((b c : ℕ) → Between p (suc q) b c → Goes (cut p (suc q) b c) ls)
      → Goes (cut p q b c) (proc_lines p q ++ ls)
  unfolding proc_lines
  goes_proc q b c ls h k cont =
      goes_more (cut p q b c) (cut p (suc q) b c) (line_of_proc (name_at p q)) _ (step_proc q b c h k)
      (subst (λ (l : List Bytes). Goes (cut p (suc q) b c) l) (sym (append_assoc (nodes_of p q) (edges_of p q) ls))
      (subst (λ (l : List Bytes). Goes (cut p (suc q) b c) (l ++ (edges_of p q ++ ls))) (sym (nodes_from q b k.nodes_in k.nodes_before))
      (goes_nodes q c (edges_of p q ++ ls) h k.edges_in k.edges_before
      (λ b' i up low.
      subst (λ (l : List Bytes). Goes (cut p (suc q) b' c) (l ++ ls)) (sym (edges_from q c k.edges_in k.edges_before))
      (goes_edges q b' ls h i
      (λ n j o. ⊎_elim (λ u. u) (λ (u : b' ≤ n). absurd (let z : ⊥ = omega (arith, low n u j) in z)) (below_or n b'))
      (λ c' j up' low'.
      cont b' c'
      (record {
        nodes_in = i;
        nodes_before = λ n u. omega (arith, up n u);
        nodes_after = λ n u v. low n u v;
        edges_in = j;
        edges_before = λ e u. omega (arith, up' e u);
        edges_after = λ e u v. low' e u v;
      }))
      (edge_count p - c) c (omega (arith, k.edges_in)) (λ e u. omega (arith, k.edges_before e u)) k.edges_after))
      (node_count p - b) b (omega (arith, k.nodes_in)) (λ n u. omega (arith, k.nodes_before n u)) k.nodes_after (edges_inside q b c h k))))

  -- The lines of the first q procedures.
  goes_procs : (q : ℕ) → q ≤ proc_count p → (ls : List Bytes) → ((b c : ℕ) → Between p q b c → Goes (cut p q b c) ls) → Goes (cut p 0 0 0) (program_lines p q ++ ls)
  unfolding program_lines
  goes_procs zero h ls cont =
      cont 0 0
      (record {
        nodes_in = omega arith;
        nodes_before = λ n u. absurd (let z : ⊥ = omega arith in z);
        nodes_after = λ n u v. omega arith;
        edges_in = omega arith;
        edges_before = λ e u. absurd (let z : ⊥ = omega arith in z);
        edges_after = λ e u v. omega arith;
      })
  goes_procs (suc q) h ls cont =
      subst (λ (l : List Bytes). Goes (cut p 0 0 0) l) (sym (append_assoc (program_lines p q) (proc_lines p q) ls))
      (goes_procs q (omega arith) (proc_lines p q ++ ls) (λ b c k. goes_proc q b c ls (omega arith) k cont))

  -- All was read.
  all_cut : (b c : ℕ) → Between p (proc_count p) b c → cut p (proc_count p) b c ≡ p
  all_cut b c k =
      let n : node_count p ≤ b = ⊎_elim (λ (i : b < node_count p). absurd (let z : ⊥ = omega (arith, k.nodes_after b (omega arith) i, f.structure.owners b i) in z)) (λ i. i) (below_or b (node_count p)) in
      let m : edge_count p ≤ c
      = ⊎_elim (λ (i : c < edge_count p). absurd (let z : ⊥ = omega (arith, k.edges_after c (omega arith) i, f.structure.owners _ (f.structure.sources c i)) in z)) (λ i. i) (below_or c (edge_count p)) in
      let x : take (proc_count p) p.procs ≡ p.procs = take_all (proc_count p) p.procs (omega arith) in
      let y : take b p.nodes ≡ p.nodes = take_all b p.nodes n in
      let z : take c p.edges ≡ p.edges = take_all c p.edges m in
      ap (λ (l : List Bytes). record { procs = l; nodes = take b p.nodes; edges = take c p.edges }) x
      ∙ ap₂ (λ (l : List Node) (r : List Edge). record { procs = p.procs; nodes = l; edges = r }) y z

  not_lost : first (node_count p) (lost p) ≡ none
  unfolding lost named
  not_lost = go (first (node_count p) (lost p)) refl
    where
      go : (o : Option ℕ) → first (node_count p) (lost p) ≡ o → first (node_count p) (lost p) ≡ none
      go none e = e
      go (some n) e =
          let r = first_at (lost p) (node_count p) n e in
          let i = any_at (λ i. isnt (named p (callee_name p n i))) (callee_count p n) (and_right _ _ r.1) in
          let w = f.structure.callees n r.0 (same_kind_true _ _ (and_left _ _ r.1)) i.0 i.1 in
          absurd (both_ways (any_of_lem (λ q. same (name_at p q) (callee_name p n i.0)) (proc_count p) w.0 w.1 (same_of w.2)) (isnt_true _ i.2))

  goes_end : Goes p []
  unfolding Goes read_lines finish_program empty isnt
  goes_end o n at = (
    record { program = p; places = o },
    unless_passes _ _ _ _ refl
        ∙ unless_passes _ _ _ _ (false_isnt (lt-ltb 0 (proc_count p) f.structure.begins))
        ∙ unless_passes _ _ _ _ (false_isnt (says_complete p (current p) (whole (current p) (omega (arith, f.structure.begins)))))
        ∙ ap (λ (m : Option ℕ). after m (accepted (record { program = p; places = o })) (λ m. refused 9 (get_or o.node_lines m 0))) not_lost,
    refl,
  )

  goes_all : Goes (cut p 0 0 0) (program_lines p (proc_count p))
  goes_all =
      subst (λ (l : List Bytes). Goes (cut p 0 0 0) l) (append-nil (program_lines p (proc_count p)))
      (goes_procs (proc_count p) (omega arith) [] (λ b c k. goes_at p (cut p (proc_count p) b c) [] (sym (all_cut b c k)) goes_end))

  read_text_lem : (t : Listing) × (read_listing (write_program p) ≡ accepted t) × (t.program ≡ p)
  unfolding read_listing read_text write_program Goes
  read_text_lem =
      let g = goes_all nothing_read.places 1 0 in (
        g.0,
        unless_passes _ _ _ _ (le-ltb _ _ f.few_bytes)
            ∙ ap (read_lines step_program finish_program 1 0 nothing_read) (split_ended (program_lines p (proc_count p)) (lines_free p f (proc_count p) (omega arith))) ∙ g.1,
        g.2,
      )

  pub follows_accepted : read_program (write_program p) ≡ accepted p
  unfolding read_program
  follows_accepted =
      let g = read_text_lem in
      then_passes _ g.1 ∙ ap (λ (r : Program). accepted r) g.2

-- L5 for programs. A text is accepted, and gives p, exactly if p follows the rules and the text is how p is written.
pub reads_layout : (text : Bytes) (p : Program) → (read_program text ≡ accepted p) ↔ (Follows p × (text ≡ write_program p))
reads_layout text p =
    (accepted_follows text p, λ h. subst (λ (t : Bytes). read_program t ≡ accepted p) (sym h.1) (follows_accepted p h.0))
