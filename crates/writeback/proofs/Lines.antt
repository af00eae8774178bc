-- The turns and the returns of the writers.
use mathlib.Core.Path.{◌≡◌, refl, sym, ap, ◌∙◌, subst}
use mathlib.Core.List.{List, [], ◌∷◌}
use Prim.Native.Nat.{ℕ, zero, suc, ◌+◌, ◌-◌, ◌*◌, ◌^◌, ◌≤◌, ◌<◌, min}
use native.Mathlib.Numerals.{add-one}
use native.Mathlib.Nat.{zero-add}
use native.Mathlib.Omega.{arith}
use denote.Ref.{MutBor}
use lib.ListN.{length, get_or}
use borrow.Author.Tests.{le-ltb, lt-ltb}
use Rattle.laws.specs.Lists.{choose_no, choose_yes}
use Rattle.rules.specs.Text.{Bytes, decimal, join_by, text_of}
use Rattle.rules.specs.Layout.{line_of_edge, kind_field, line_of_node, line_of_proc}
use Rattle.graph.specs.Table.{edge_base, node_base, proc_base}
use Rattle.reader.specs.Result.{Count, Small}
use Rattle.text.specs.Puts.{Puts, puts_then, puts_length}
use Rattle.writer.specs.Writes.{Writes, writes_byte, writes_most, writes_none, writes_of, writes_then, writes_length}
use Rattle.writeback.specs.Runs.{Callable, LineWriter, PutsLines, RunPut}
use Rattle.writeback.specs.Parts.{callee_in, label_in, name_in, word_in}
use Rattle.writeback.specs.Back.{back_text, begins, edge_in, edge_text, edges_text, kind_from, node_in, node_text, nodes_text, proc_text, procedure_text, run_from}
use Rattle.writeback.proofs.BackLaws.{begins_few}

-- ---- lines

pub part_puts : {o o₁ o₂ part : List ℕ} {at r₁ r₂ : ℕ} → length part ≤ 60 → Puts o at (44 ∷ []) r₁ o₁ → Puts o₁ r₁ part r₂ o₂ → Writes o at (44 ∷ part) 61 r₂ o₂
part_puts h p q = writes_of 61 (puts_then p q) (omega arith)

pub proc_puts : {o o₁ o₂ o₃ name : List ℕ} {at r₁ r₂ r₃ : ℕ} (t l : List ℕ) (q : ℕ) → Puts o at (80 ∷ []) r₁ o₁ → name ≡ name_in t l q → Writes o₁ r₁ (44 ∷ name) 61 r₂ o₂ → Puts o₂ r₂ (10 ∷ []) r₃ o₃
    → Writes o at (proc_text t l q) 128 r₃ o₃
unfolding proc_text text_of line_of_proc join_by
proc_puts t l q p e n z = writes_most 128 (writes_byte (writes_then (writes_of 1 p (omega arith)) (rw e at n)) z) (omega arith)

pub kind_e : (k : ℕ) → k ≡ 0 → 69 ∷ [] ≡ kind_field (kind_from k)
unfolding kind_from
kind_e k e = sym (ap (λ (n : ℕ). kind_field (kind_from n)) e)

pub kind_s : (k : ℕ) → k ≡ 1 → 83 ∷ [] ≡ kind_field (kind_from k)
unfolding kind_from
kind_s k e = sym (ap (λ (n : ℕ). kind_field (kind_from n)) e)

pub kind_c : (k : ℕ) → k ≡ 2 → 67 ∷ [] ≡ kind_field (kind_from k)
unfolding kind_from
kind_c k e = sym (ap (λ (n : ℕ). kind_field (kind_from n)) e)

pub kind_x : (k : ℕ) → (k ≡ 0 → ⊥) → (k ≡ 1 → ⊥) → (k ≡ 2 → ⊥) → 88 ∷ [] ≡ kind_field (kind_from k)
unfolding kind_from
kind_x zero e s c = absurd (e refl)
kind_x (suc zero) e s c = absurd (s refl)
kind_x (suc (suc zero)) e s c = absurd (c refl)
kind_x (suc (suc (suc k))) e s c = refl

pub kind_puts : {o o₁ o₂ : List ℕ} {at b r₁ r₂ : ℕ} (k : ℕ) → Puts o at (78 ∷ 44 ∷ []) r₁ o₁ → b ∷ [] ≡ kind_field (kind_from k) → Puts o₁ r₁ (b ∷ []) r₂ o₂
    → Writes o at (78 ∷ 44 ∷ kind_field (kind_from k)) 3 r₂ o₂
kind_puts {o} {o₁} {o₂} {at} {b} {r₁} {r₂} k p e q = subst (λ (f : List ℕ). Writes o at (78 ∷ 44 ∷ f) 3 r₂ o₂) e (writes_of 3 (puts_then p q) (omega arith))

pub source_puts : {o o₁ o₂ : List ℕ} {at r₁ r₂ : ℕ} (x : ℕ) → Puts o at (66 ∷ []) r₁ o₁ → Writes o₁ r₁ (44 ∷ decimal x) 21 r₂ o₂ → Writes o at (66 ∷ 44 ∷ decimal x) 22 r₂ o₂
source_puts x p q = writes_then (writes_of 1 p (omega arith)) q

module _ {o o₁ o₂ o₃ o₄ : List ℕ} {at r₁ r₂ r₃ r₄ : ℕ} (t : List ℕ) where
  pub node_puts : {a c : List ℕ} {k : ℕ} (n l : List ℕ) (m : ℕ) → k ≡ get_or n (node_base m) 0 → Writes o at (78 ∷ 44 ∷ kind_field (kind_from k)) 3 r₁ o₁ → a ≡ label_in t n m
      → Writes o₁ r₁ (44 ∷ a) 61 r₂ o₂ → c ≡ callee_in t n l m → Writes o₂ r₂ (44 ∷ c) 61 r₃ o₃ → Puts o₃ r₃ (10 ∷ []) r₄ o₄ → Writes o at (node_text t n l m) 128 r₄ o₄
  unfolding node_text node_in text_of line_of_node join_by
  node_puts n l m ek p ea a ec c z = writes_most 128 (writes_byte (writes_then (rw ek at p) (writes_then (rw ea at a) (rw ec at c))) z) (omega arith)

  pub edge_puts : {w : List ℕ} {a b : ℕ} (l : List ℕ) (e : ℕ) → a ≡ get_or l (edge_base e) 0 → Writes o at (66 ∷ 44 ∷ decimal a) 22 r₁ o₁ → w ≡ word_in t l e → Writes o₁ r₁ (44 ∷ w) 61 r₂ o₂
      → b ≡ get_or l (edge_base e + 3) 0 → Writes o₂ r₂ (44 ∷ decimal b) 21 r₃ o₃ → Puts o₃ r₃ (10 ∷ []) r₄ o₄ → Writes o at (edge_text t l e) 128 r₄ o₄
  unfolding edge_text edge_in text_of line_of_edge join_by
  edge_puts l e ea a ew w eb b z = writes_most 128 (writes_byte (writes_then (rw ea at a) (writes_then (rw ew at w) (rw eb at b))) z) (omega arith)

pub ruleset lines = (part_puts, proc_puts, kind_e, kind_s, kind_c, kind_x, kind_puts, source_puts, node_puts, edge_puts, writes_length, puts_length)

-- ---- runs of lines

-- One more, each of at most b bytes.
run_more : (f : ℕ → Bytes) (a n b : ℕ) {o o₁ o₂ : List ℕ} {at k r : ℕ} → Writes o at (run_from f a n) (b * n) k o₁ → Writes o₁ k (f (a + n)) b r o₂
    → Writes o at (run_from f a (suc n)) (b * suc n) r o₂
unfolding run_from
run_more f a n b p q = let e : b * suc n ≡ b * n + b = omega arith in rw e (writes_then p q)

module _ (f : ℕ → Bytes) (from : ℕ) where
  pub run_start : (o : List ℕ) (at : ℕ) → Writes o at (run_from f from (from - from)) (128 * (from - from)) at o
  unfolding run_from
  run_start o at = let e : from - from ≡ 0 = omega arith in rw e (writes_none o at)

  module _ (m to : ℕ) {o o₁ : List ℕ} {at k : ℕ} (inv : Writes o at (run_from f from (m - from)) (128 * (m - from)) k o₁) where
    pub run_on : {o₂ : List ℕ} {r : ℕ} → from ≤ m → Writes o₁ k (f m) 128 r o₂ → Writes o at (run_from f from (m + 1 - from)) (128 * (m + 1 - from)) r o₂
    run_on {o₂} {r} h p =
        let e : m + 1 - from ≡ suc (m - from) = omega arith in
        let d : m ≡ from + (m - from) = omega arith in
        rw e (run_more f from (m - from) 128 inv (subst (λ (i : ℕ). Writes o₁ k (f i) 128 r o₂) d p))

    pub run_room : m < to → to ≤ 1024 → at ≤ 2 ^ 30 → k ≤ 2 ^ 31
    run_room h l s = omega (arith, inv.within)

    run_all : m - from ≤ to - from → to ≤ m → Writes o at (run_from f from (to - from)) (128 * (to - from)) k o₁
    run_all h l = let e : m - from ≡ to - from = omega arith in rw e at inv

-- ---- `put_run`

module _ {F : Type 0} (g : LineWriter F) (f : F) (o : List ℕ) (at from : ℕ) where
  pub put_start : RunPut g f o at from from at o
  unfolding RunPut
  put_start line puts = run_start line from o at

  module _ (to i k : ℕ) (o₁ : List ℕ) (inv : RunPut g f o at from i k o₁) where
    pub put_room : Callable g f → i < to → to ≤ 1024 → at ≤ 2 ^ 30 → k ≤ 2 ^ 31
    unfolding RunPut
    put_room c h l s = run_room c.line from i to (inv c.line c.puts) h l s

    pub put_on : (p q : MutBor (List ℕ)) (r : ℕ) → p.now ≡ o₁ → from ≤ i → g.post f (p, (k, (i, tt))) (r, (q, tt)) → RunPut g f o at from (i + 1) r q.now
    unfolding RunPut PutsLines
    put_on p q r e h post line puts = run_on line from i to (inv line puts) h (subst (λ (x : List ℕ). Writes x k (line i) 128 r q.now) e (puts p q k i r post))

    pub put_done : i - from ≤ to - from → to ≤ i → RunPut g f o at from to k o₁
    unfolding RunPut
    put_done h l line puts = run_all line from i to (inv line puts) h l

-- ---- procedures

module _ (l : List ℕ) (k procs count q : ℕ) where
  pub begin_past : procs ≤ q → count ≡ begins l k procs count q
  unfolding begins
  begin_past h = sym (choose_no _ _ (le-ltb q procs h))

  pub begin_at : (p : ℕ) → q < procs → p ≡ get_or l (proc_base q + k) 0 → min p count ≡ begins l k procs count q
  unfolding begins
  begin_at p h e = ap (λ (n : ℕ). min n count) e ∙ sym (choose_yes _ _ (lt-ltb q procs h))

-- The nodes and the edges of a procedure are such a run.
module _ {F : Type 0} (g : LineWriter F) (f : F) (t l : List ℕ) (had : Count) (q from to : ℕ) (o : List ℕ) (at r : ℕ) (o' : List ℕ) (run : RunPut g f o at from to r o') (s : Small had) where
  pub its_nodes : (n : List ℕ) → PutsLines g f (node_text t n l) → from ≡ begins l 3 had.procs had.nodes q → to ≡ begins l 3 had.procs had.nodes (q + 1)
      → Writes o at (nodes_text t n l had q) (2 ^ 16) r o'
  unfolding RunPut nodes_text
  its_nodes n puts ef et = rw (ef, et) at (writes_most (2 ^ 16) (run (node_text t n l) puts) (omega (arith, et, begins_few l 3 had.procs had.nodes (q + 1), s.few_nodes)))

  pub its_edges : PutsLines g f (edge_text t l) → from ≡ begins l 4 had.procs had.edges q → to ≡ begins l 4 had.procs had.edges (q + 1)
      → Writes o at (edges_text t l had q) (2 ^ 17) r o'
  unfolding RunPut edges_text
  its_edges puts ef et = rw (ef, et) at (writes_most (2 ^ 17) (run (edge_text t l) puts) (omega (arith, et, begins_few l 4 had.procs had.edges (q + 1), s.few_edges)))

module _ (t n l : List ℕ) (had : Count) where
  pub procedure_puts : {o o₁ o₂ o₃ : List ℕ} {at r₁ r₂ r₃ : ℕ} (q : ℕ) → Writes o at (proc_text t l q) 128 r₁ o₁ → Writes o₁ r₁ (nodes_text t n l had q) (2 ^ 16) r₂ o₂
      → Writes o₂ r₂ (edges_text t l had q) (2 ^ 17) r₃ o₃ → Writes o at (procedure_text t n l had q) (2 ^ 18) r₃ o₃
  unfolding procedure_text
  procedure_puts q a b c = writes_most (2 ^ 18) (writes_then a (writes_then b c)) (omega arith)

  pub program_start : (o : List ℕ) → Writes o 0 (run_from (procedure_text t n l had) 0 0) 0 0 o
  unfolding run_from
  program_start o = writes_none o 0

  module _ (q : ℕ) {o o₁ : List ℕ} {k : ℕ} (inv : Writes o 0 (run_from (procedure_text t n l had) 0 q) (262144 * q) k o₁) where
    pub program_on : {o₂ : List ℕ} {r : ℕ} → Writes o₁ k (procedure_text t n l had q) (2 ^ 18) r o₂ → Writes o 0 (run_from (procedure_text t n l had) 0 (q + 1)) (262144 * (q + 1)) r o₂
    program_on p = rw add-one (run_more (procedure_text t n l had) 0 q 262144 inv (rw zero-add p))

    pub program_room : q < had.procs → Small had → k ≤ 2 ^ 28
    program_room h s = omega (arith, inv.within, s.few_procs)

    pub program_done : Small had → q ≤ had.procs → had.procs ≤ q → Writes o 0 (back_text t n l had) (2 ^ 24) k o₁
    unfolding back_text
    program_done s h b = let e : q ≡ had.procs = omega arith in let z = s.few_procs in writes_most (2 ^ 24) (rw e at inv) (omega arith)

pub ruleset procedures = (begin_past, begin_at, procedure_puts, program_start, program_on, program_room, program_done)
