-- Callees, the end of the text, and the whole reading: what each return and each turn shows.
use mathlib.Core.Path.{◌≡◌, refl, sym, ap, ◌∙◌, subst}
use mathlib.Core.Logic.{⊎_elim}
use mathlib.Core.Bool.{Bool, true, false}
use mathlib.Core.Option as Maybe
use Rattle.std.specs.Prelude.{Option, Some, None}
use mathlib.Core.List.{List, [], ◌∷◌}
use Prim.Native.Nat.{ℕ, zero, suc, ◌+◌, ◌-◌, ◌*◌, ◌/◌, ◌%◌, ◌≤◌, ◌<◌}
use native.Mathlib.Omega.{arith}
use lib.ListN.{length, get_or, take, drop, set}
use lib.Seq.{drop-drop, get_or-set_same, get_or-set_other}
use borrow.Author.Tests.{lt-ltb, le-ltb}
use Rattle.laws.specs.Tests.{isnt, first, after}
use Rattle.laws.specs.TestLaws.{below_suc, true_isnt, false_isnt, first_skip, first_least}
use Rattle.laws.specs.Slices.{drop_sets_after, same_or}
use Rattle.rules.specs.Text.{Bytes, names_in, is_callees, max_bytes, Reading, refused, accepted, read_text}
use Rattle.rules.specs.Graph.{name_at, kind_at, label_at, callee_at, proc_count, node_count, kind_number, entry, exit}
use Rattle.rules.specs.ProgramFile.{Listing, current, begun, lost, complete, finish_program, read_listing}
use Rattle.rules.proofs.TextLaws.{unless_passes, unless_refuses}
use Rattle.rules.specs.Kept.{Complete}
use Rattle.rules.proofs.ProgramLaws.{complete_says}
use Rattle.rules.proofs.Places.{part_is}
use Rattle.graph.specs.Table.{At, first_node, first_edge, node_row, proc_row, edge_row, proc_digit, callees_from}
use Rattle.graph.specs.Lookups.{in_table, Procs}
use Rattle.lines.specs.Callees.{callees_few, callees_short}
use Rattle.lines.specs.Known.{Known}
use Rattle.reader.specs.Result.{Count, links_of, Small, InTable, Told, ReadInto}
use Rattle.reader.specs.Reading.{Holds, Completes, of_current, whole_text, LinesRead, Partly, ResolvedNode, ResolvedTo, Resolved, callee_bytes, CalleesIn, NumberOf, Finished, Refused, counts}
use Rattle.reader.proofs.Completeness.{procs_of, some_procs, current_row}
use Rattle.reader.proofs.Callees.{positive, calls_nothing, not_lost, is_callees_lem, call_lost, call_known}

-- ---- `callee_of`

pub callee_part : (text a b c r : Bytes) (start len size : ℕ) → a ≡ drop start text → b ≡ drop len a → c ≡ drop 1 b → r ≡ take size c → r ≡ callee_bytes text start len size
unfolding callee_bytes
callee_part text a b c r start len size ea eb ec er = er ∙ ap (take size) (ec ∙ ap (drop 1) (eb ∙ ap (drop len) ea))

callee_is : (text : Bytes) (start len size : ℕ) → callee_bytes text start len size ≡ take size (drop (start + len + 1) text)
unfolding callee_bytes
callee_is text start len size =
    ap (λ (l : Bytes). take size (drop 1 l)) (drop-drop len start text) ∙ ap (take size) (drop-drop 1 (start + len) text)

one_less : (q i : ℕ) → q ≡ suc i → q - 1 ≡ i
one_less q i e = omega arith

-- ---- the row of a node, with its callees

four_at : (w : List ℕ) (i a b c d : ℕ) → get_or w i 0 ≡ a → get_or w (i + 1) 0 ≡ b → get_or w (i + 2) 0 ≡ c → get_or w (i + 3) 0 ≡ d → At (in_table w) i (a ∷ b ∷ c ∷ d ∷ [])
four_at w i a b c d p q r s zero h = ap (λ (m : ℕ). get_or w m 0) (let z : i + 0 ≡ i = omega arith in z) ∙ p
four_at w i a b c d p q r s (suc zero) h = q
four_at w i a b c d p q r s (suc (suc zero)) h = r
four_at w i a b c d p q r s (suc (suc (suc zero))) h = s
four_at w i a b c d p q r s (suc (suc (suc (suc k)))) h = absurd (let z : ⊥ = omega arith in z)

module _ (text : Bytes) (s : Listing) (k : Known text s) (w₀ w : List ℕ) (n : ℕ) (l : n < node_count s.program) (h : Partly w₀ w s n) (few : n < 512) where
  -- The numbers of its row.
  row_kind : get_or w (4 * n) 0 ≡ kind_number (kind_at s.program n)
  row_kind = ap (λ (i : ℕ). get_or w i 0) (let z : 4 * n ≡ 4 * n + 0 = omega arith in z) ∙ h.todo n l (omega arith) 0 (omega arith)

  row_start : get_or w (4 * n + 1) 0 ≡ get_or s.places.label_starts n 0
  row_start = h.todo n l (omega arith) 1 (omega arith)

  row_label : get_or w (4 * n + 2) 0 ≡ length (label_at s.program n)
  row_label = h.todo n l (omega arith) 2 (omega arith)

  row_last : get_or w (4 * n + 3) 0 ≡ get_or s.places.node_lines n 0 * 64 + length (callee_at s.program n)
  row_last = h.todo n l (omega arith) 3 (omega arith)

  -- Its callees stored.
  partly_next : (w' : List ℕ) (v : ℕ) → 8128 ≤ length w → w' ≡ set w (4 * n + 3) v → v ≡ callees_from s.program n 0 → lost s.program n ≡ false → Partly w₀ w' s (n + 1)
  partly_next w' v room e ev u =
      subst (λ (x : List ℕ). Partly w₀ x s (n + 1)) (sym e)
      (record {
        same_links = drop_sets_after (v ∷ []) w (4 * n + 3) 2048 (omega arith) ∙ h.same_links;
        done = λ m b c. ⊎_elim (λ d j g. get_or-set_other w (4 * n + 3) (4 * m + j) v 0 (omega arith) ∙ h.done m b d j g)
            (λ (d : m ≡ n). subst (λ (i : ℕ). At (in_table (set w (4 * n + 3) v)) (4 * i) (node_row s i)) (sym d) this) (below_suc m n (omega arith));
        todo = λ m b c j g. get_or-set_other w (4 * n + 3) (4 * m + j) v 0 (omega arith) ∙ h.todo m b (omega arith) j g;
        none_lost = ap (λ (i : ℕ). first i (lost s.program)) (let z : n + 1 ≡ suc n = omega arith in z) ∙ first_skip (lost s.program) n u ∙ h.none_lost;
      })
    where
      this : At (in_table (set w (4 * n + 3) v)) (4 * n) (node_row s n)
      this = four_at (set w (4 * n + 3) v) (4 * n) _ _ _ _
          (get_or-set_other w (4 * n + 3) (4 * n) v 0 (omega arith) ∙ row_kind)
          (get_or-set_other w (4 * n + 3) (4 * n + 1) v 0 (omega arith) ∙ row_start)
          (get_or-set_other w (4 * n + 3) (4 * n + 2) v 0 (omega arith) ∙ row_label)
          (get_or-set_same w (4 * n + 3) v 0 (omega arith) ∙ ev)

module _ (text w : List ℕ) (procs n kind two : ℕ) (ek : kind ≡ get_or w (4 * n) 0) (is_two : two ≡ 2) (few : n < 512) where
  pub resolve_other : (w' : List ℕ) → 8128 ≤ length w → (kind ≡ two → ⊥) → w' ≡ set w (4 * n + 3) 0 → ResolvedNode text w procs n 0 0 w'
  unfolding ResolvedNode
  resolve_other w' room z e s c w₀ k hs ep l h =
      let no_c : kind_number (kind_at s.program n) ≡ 2 → ⊥ = λ q. z (ek ∙ row_kind text s k w₀ w n l h few ∙ q ∙ sym is_two) in
      (λ y. partly_next text s k w₀ w n l h few w' 0 room e (calls_nothing text s k n l no_c) (not_lost text s k n l no_c), λ y. absurd (y refl))

  module _ (is_call : kind ≡ two) (start len last : ℕ) (es : start ≡ get_or w (4 * n + 1) 0) (el : len ≡ get_or w (4 * n + 2) 0) (et : last ≡ get_or w (4 * n + 3) 0)
      (b : Bytes) (eb : b ≡ callee_bytes text start len (last % 64)) (ls : List ℕ) (els : ls ≡ links_of w) where
    module _ (s : Listing) (c : Count) (w₀ : List ℕ) (k : Known text s) (hs : Holds w₀ c s) (ep : procs ≡ proc_count s.program) (l : n < node_count s.program) (h : Partly w₀ w s n) where
      calls : kind_number (kind_at s.program n) ≡ 2
      calls = sym (row_kind text s k w₀ w n l h few) ∙ sym ek ∙ is_call ∙ is_two

      field : is_callees (callee_at s.program n) ≡ true
      field = is_callees_lem text s k n l calls

      short : length (callee_at s.program n) ≤ 51
      short = callees_short (callee_at s.program n) field

      last_is : last ≡ get_or s.places.node_lines n 0 * 64 + length (callee_at s.program n)
      last_is = et ∙ row_last text s k w₀ w n l h few

      bytes_are : b ≡ callee_at s.program n
      bytes_are =
          let size : last % 64 ≡ length (callee_at s.program n) = omega (arith, last_is, short) in
          eb ∙ callee_is text start len (last % 64) ∙ ap (λ (m : ℕ). take m (drop (start + len + 1) text)) size
          ∙ ap (λ (m : ℕ). take (length (callee_at s.program n)) (drop m text))
          (let z : start + len + 1 ≡ get_or s.places.label_starts n 0 + length (label_at s.program n) + 1 = omega (arith, es, el, row_start text s k w₀ w n l h few, row_label text s k w₀ w n l h few) in z)
          ∙ part_is text _ (callee_at s.program n) (k.callees n l)

      number_is : (o : Option ℕ) → CalleesIn text ls procs b 4 o → NumberOf (proc_digit s.program) (names_in (callee_at s.program n)) o
      unfolding CalleesIn
      number_is o ci =
          subst (λ (x : Bytes). CalleesIn text ls procs x 4 o) bytes_are ci
          s (subst (λ (x : List ℕ). Procs text (in_table x) s) (sym (els ∙ h.same_links)) (procs_of text w₀ c s k hs)) ep k.sound.few_procs (callees_few (callee_at s.program n) field)

    pub resolve_lost : CalleesIn text ls procs b 4 None → ResolvedNode text w procs n 9 (last / 64) w
    unfolding ResolvedNode
    resolve_lost ci s c w₀ k hs ep l h = (
      λ y. absurd (let x : ⊥ = omega arith in x),
      λ y. (call_lost text s k n l (calls s c w₀ k hs ep l h) (number_is s c w₀ k hs ep l h None ci), refl, let x : last / 64 ≡ get_or s.places.node_lines n 0 = omega (arith, last_is s c w₀ k hs ep l h, short s c w₀ k hs ep l h) in x),
    )

    pub resolve_known : (w' : List ℕ) (q : ℕ) → 8128 ≤ length w → CalleesIn text ls procs b 4 (Some q) → w' ≡ set w (4 * n + 3) q → ResolvedNode text w procs n 0 0 w'
    unfolding ResolvedNode
    resolve_known w' q room ci e s c w₀ k hs ep l h =
        let a = call_known text s k n l (calls s c w₀ k hs ep l h) q (number_is s c w₀ k hs ep l h (Some q) ci) in
        (λ y. partly_next text s k w₀ w n l h few w' q room e a.1 a.0, λ y. absurd (y refl))

pub ruleset resolves = (callee_part, resolve_other, resolve_lost, resolve_known)

-- ---- `resolve`

module _ (text w₀ : List ℕ) (procs nodes : ℕ) where
  pub resolve_start : ResolvedTo text w₀ procs nodes 0 w₀
  unfolding ResolvedTo first
  resolve_start s c k h ep en = record { same_links = refl; done = λ n a b. absurd (let z : ⊥ = omega arith in z); todo = λ n a b. h.reading.nodes n a; none_lost = refl }

  pub resolve_on : (n r p : ℕ) (w w' : List ℕ) → ResolvedTo text w₀ procs nodes n w → n < nodes → ResolvedNode text w procs n r p w' → r ≡ 0 → ResolvedTo text w₀ procs nodes (n + 1) w'
  unfolding ResolvedTo ResolvedNode
  resolve_on n r p w w' f l q z s c k h ep en = (q s c w₀ k h ep (omega arith) (f s c k h ep en)).0 z

  pub resolve_not : (n r p : ℕ) (w w' : List ℕ) → ResolvedTo text w₀ procs nodes n w → n < nodes → ResolvedNode text w procs n r p w' → (r ≡ 0 → ⊥) → Resolved text w₀ procs nodes r p w'
  unfolding ResolvedTo ResolvedNode Resolved
  resolve_not n r p w w' f l q z s c k h ep en =
      let b : n < node_count s.program = omega arith in
      let a = (q s c w₀ k h ep b (f s c k h ep en)).1 z in
      (λ y. absurd (z y), λ y. (n, first_least (lost s.program) (node_count s.program) n b a.0 (f s c k h ep en).none_lost, a.1, a.2))

  pub resolve_end : (n : ℕ) (w : List ℕ) → ResolvedTo text w₀ procs nodes n w → n ≤ nodes → nodes ≤ n → Resolved text w₀ procs nodes 0 0 w
  unfolding ResolvedTo Resolved
  resolve_end n w f a b s c k h ep en = (
    λ y. subst (λ (m : ℕ). Partly w₀ w s m) (let z : n ≡ node_count s.program = omega arith in z) (f s c k h ep en),
    λ y. absurd (y refl),
  )

pub ruleset resolve_turns = (resolve_start, resolve_on, resolve_not, resolve_end)

-- ---- `finish`

told_refused : (x : Reading Listing) (k p : ℕ) (r : Count) (w : List ℕ) → x ≡ refused k p → 0 < k → Refused k p r → Told x r w
told_refused x k p r w e h q = subst (λ (y : Reading Listing). Told y r w) (sym e) (q.number_is, q.place_is, h)

-- A procedure's row, with its entry and exit.
seven_at : (f : ℕ → ℕ) (i a b c d e x y : ℕ) → At f i (a ∷ b ∷ c ∷ d ∷ e ∷ []) → f (i + 5) ≡ x → f (i + 6) ≡ y → At f i (a ∷ b ∷ c ∷ d ∷ e ∷ x ∷ y ∷ [])
seven_at f i a b c d e x y h p q zero l = h 0 (omega arith)
seven_at f i a b c d e x y h p q (suc zero) l = h 1 (omega arith)
seven_at f i a b c d e x y h p q (suc (suc zero)) l = h 2 (omega arith)
seven_at f i a b c d e x y h p q (suc (suc (suc zero))) l = h 3 (omega arith)
seven_at f i a b c d e x y h p q (suc (suc (suc (suc zero)))) l = h 4 (omega arith)
seven_at f i a b c d e x y h p q (suc (suc (suc (suc (suc zero))))) l = p
seven_at f i a b c d e x y h p q (suc (suc (suc (suc (suc (suc zero)))))) l = q
seven_at f i a b c d e x y h p q (suc (suc (suc (suc (suc (suc (suc k))))))) l = absurd (let z : ⊥ = omega arith in z)

module _ (text w w' : List ℕ) (c : Count) (s : Listing) (k : Known text s) (h : Holds w c s) (some_proc : 0 < proc_count s.program) (whole : complete s.program (current s.program) ≡ true) (h' : Partly w w' s (node_count s.program)) where
  each_complete : (q : ℕ) → q < proc_count s.program → Complete s.program q
  each_complete q l =
      same_or q (current s.program) (λ e. subst (Complete s.program) (sym e) (complete_says s.program (current s.program) whole)) (λ e. k.sound.closed q (next q e l))
    where
      next : (q : ℕ) → (q ≡ current s.program → ⊥) → q < proc_count s.program → suc q < proc_count s.program
      next q e l = ⊎_elim (λ (z : q < current s.program). omega arith) (λ (z : q ≡ current s.program). absurd (e z)) (below_suc q (current s.program) (omega arith))

  table_held : (r : Count) → r.procs ≡ c.procs → r.nodes ≡ c.nodes → r.edges ≡ c.edges → InTable w' r s
  table_held r ep en ee =
      record {
        procs_n = ep ∙ h.procs_n;
        nodes_n = en ∙ h.nodes_n;
        edges_n = ee ∙ h.edges_n;
        nodes = λ n l. h'.done n l l;
        procs = λ q l.
            subst (λ (m : List ℕ). At (in_table m) (7 * q) (proc_row s q)) (sym h'.same_links)
            (seven_at (in_table (links_of w)) (7 * q) (get_or s.places.name_starts q 0) (length (name_at s.program q)) (get_or s.places.proc_lines q 0) (first_node s.program q) (first_edge s.program q)
            (entry s.program q) (exit s.program q) (h.reading.procs q l) (h.reading.entries q l (each_complete q l).one_entry) (h.reading.exits q l (each_complete q l).one_exit));
        edges = λ e l. subst (λ (m : List ℕ). At (in_table m) (448 + 5 * e) (edge_row s e)) (sym h'.same_links) (h.reading.edges e l);
        heads = λ n l. ap (λ (m : List ℕ). get_or m (5568 + n) 0) h'.same_links ∙ h.reading.heads n l;
      }

module _ (text w : List ℕ) (c : Count) (sm : Small c) where
  pub finish_empty : (r : Count) → c.procs ≡ 0 → Refused 2 1 r → Finished text c w r w
  unfolding finish_program
  finish_empty r z a =
      record {
        told = λ s n k h. told_refused _ 2 1 r w (unless_refuses _ _ _ _ (true_isnt (le-ltb 0 (proc_count s.program) (omega (arith, h.procs_n))))) (omega arith) a;
        small = a.small;
      }

  module _ (some_proc : c.procs ≡ 0 → ⊥) (u : Bool) (q : Completes w c u) where
    some_of : (s : Listing) → Holds w c s → 0 < proc_count s.program
    some_of s h = some_procs w c s h some_proc

    begun_of : (s : Listing) → Holds w c s → isnt (begun s.program) ≡ false
    begun_of s h = false_isnt (lt-ltb 0 (proc_count s.program) (some_of s h))

    pub finish_open : (r : Count) (p : ℕ) → u ≡ false → p ≡ of_current w c.procs 2 → Refused 8 p r → Finished text c w r w
    unfolding finish_program Completes
    finish_open r p t e a =
        record {
          told = λ s n k h.
              told_refused _ 8 (get_or s.places.proc_lines (current s.program) 0) r w
              (unless_passes _ _ _ _ (begun_of s h) ∙ unless_refuses _ _ _ _ (true_isnt (sym (q s k.sound h (some_of s h)) ∙ t))) (omega arith)
              (subst (λ (m : ℕ). Refused 8 m r) (e ∙ current_row w c s h (some_of s h) 2 (omega arith)) a);
          small = a.small;
        }

    module _ (t : u ≡ true) (number place : ℕ) (w' : List ℕ) (rs : Resolved text w c.procs c.nodes number place w') where
      finish_is : (s : Listing) (n : ℕ) → Known text s → Holds w c s → finish_program n s ≡ after (first (node_count s.program) (lost s.program)) (accepted s) (λ m. refused 9 (get_or s.places.node_lines m 0))
      unfolding finish_program Completes
      finish_is s n k h = unless_passes _ _ _ _ (begun_of s h) ∙ unless_passes _ _ _ _ (false_isnt (sym (q s k.sound h (some_of s h)) ∙ t))

      pub finish_lost : 0 < number → Finished text c w (record { number = number; place = place; procs = 0; nodes = 0; edges = 0 }) w'
      unfolding Resolved
      finish_lost z =
          record {
            told = λ s n k h.
                let a = (rs s c k h h.procs_n h.nodes_n).1 (λ (y : number ≡ 0). let x : ⊥ = omega arith in x) in
                told_refused _ 9 (get_or s.places.node_lines a.0 0) (record { number = number; place = place; procs = 0; nodes = 0; edges = 0 }) w'
                (finish_is s n k h ∙ ap (λ (o : Maybe.Option ℕ). after o (accepted s) (λ m. refused 9 (get_or s.places.node_lines m 0))) a.1) (omega arith)
                (record { number_is = a.2; place_is = a.3; small = small_none });
            small = small_none;
          }
        where
          small_none : Small (record { number = number; place = place; procs = 0; nodes = 0; edges = 0 })
          small_none = record { few_procs = omega arith; few_nodes = omega arith; few_edges = omega arith }

      pub finish_done : number ≡ 0 → Finished text c w (counts c.procs c.nodes c.edges) w'
      unfolding Resolved Completes
      finish_done z =
          record {
            told = λ s n k h.
                let a : Partly w w' s (node_count s.program) = (rs s c k h h.procs_n h.nodes_n).0 z in
                let held : InTable w' (counts c.procs c.nodes c.edges) s
                = table_held text w w' c s k h (some_of s h) (sym (q s k.sound h (some_of s h)) ∙ t) a (counts c.procs c.nodes c.edges) refl refl refl in
                subst (λ (x : Reading Listing). Told x (counts c.procs c.nodes c.edges) w')
                (sym (finish_is s n k h ∙ ap (λ (o : Maybe.Option ℕ). after o (accepted s) (λ m. refused 9 (get_or s.places.node_lines m 0))) a.none_lost)) (refl, refl, held);
            small = record { few_procs = sm.few_procs; few_nodes = sm.few_nodes; few_edges = sm.few_edges };
          }

pub ruleset finishes = (finish_empty, finish_open, finish_lost, finish_done)

-- ---- `read_into`

pub into_long : (text w : List ℕ) (r : Count) → 65536 < length text → Refused 1 0 r → ReadInto text r w
unfolding read_listing read_text
into_long text w r h a = record { told = told_refused _ 1 0 r w (unless_refuses _ _ _ _ (lt-ltb max_bytes (length text) h)) (omega arith) a; small = a.small }

read_whole : (text : List ℕ) → length text ≤ 65536 → read_listing text ≡ whole_text text
unfolding read_listing read_text whole_text
read_whole text h = unless_passes _ _ _ _ (le-ltb max_bytes (length text) h)

pub into_stop : (text w : List ℕ) (r : Count) → length text ≤ 65536 → LinesRead text r w → (r.number ≡ 0 → ⊥) → ReadInto text r w
into_stop text w r h l z =
    record { told = told_refused _ r.number r.place r w (read_whole text h ∙ l.stopped z) (positive r.number z) (record { number_is = refl; place_is = refl; small = l.small }); small = l.small }

pub into_finish : (text w w' : List ℕ) (c r : Count) → length text ≤ 65536 → LinesRead text c w → c.number ≡ 0 → Finished text c w r w' → ReadInto text r w'
into_finish text w w' c r h l z f =
    let d = l.done z in
    record {
      told = subst (λ (x : Reading Listing). Told x r w') (sym (read_whole text h ∙ d.goes)) (f.told d.listing d.number d.known d.holds);
      small = f.small;
    }

pub ruleset intos = (into_long, into_stop, into_finish)
