-- Reading the new program: the returns of the functions on values, and what is lent in records.
use mathlib.Core.Path.{◌≡◌, refl, sym, ap, ap₂, ◌∙◌, subst}
use mathlib.Core.Bool.{Bool, true, false}
use mathlib.Core.List.{List}
use mathlib.Core.Option.{Option, none, some}
use Prim.Native.Nat.{ℕ, ◌*◌, ◌≤◌}
use native.Mathlib.Omega.{arith}
use lib.ListN.{length, replicate, take, drop}
use lib.Seq.{sets, length-take-le}
use borrow.Author.Tests.{eq-eqb, ne_eqb}
use Rattle.laws.specs.Tests.{after, choose}
use Rattle.laws.specs.Slices.{part_sets}
use Rattle.rules.specs.Text.{Bytes, refused, accepted}
use Rattle.rules.specs.Graph.{proc_count, node_count, edge_count}
use Rattle.rules.specs.ProgramFile.{Listing}
use Rattle.rules.specs.Job.{of_stage, call_new}
use Rattle.answer.specs.Refusals.{fault_number}
use Rattle.answer.specs.declared.Fault.{Fault}
use Rattle.answer.specs.declared.Refusal.{Refusal}
use Rattle.std.specs.Prelude.{Ok, Err, None, Some}
use Rattle.std.proofs.lemmas.Option.{same_Some}
use Rattle.reader.specs.declared.Counts.{Counts}
use Rattle.reader.specs.Result.{ReadInto, counts_of, seen}
use Rattle.program.specs.Lent.{copied_links}
use Rattle.records.specs.declared.Job.{Job}
use Rattle.records.specs.declared.Node.{Node}
use Rattle.records.specs.Jobs.{same_job}
use Rattle.records.specs.Nodes.{flat, nodes_of}
use Rattle.records.specs.NodeLaws.{flat_length}
use Rattle.lent_job.specs.Held.{Lent, counted, numbers, lent, version_left, job_old, held_old}
use Rattle.held.specs.Left.{count_left}
use Rattle.lent_job.proofs.HeldLaws.{front_left}
use Rattle.lent_job.specs.ReadOld.{roomy, program_read}
use Rattle.answer.specs.Outcomes.{packing}
use Rattle.lent_job.proofs.Answers.{new_plain}
use Rattle.job.specs.Taken.{Reply, reply, with_old, TakenBy, old_part, NewTaken}
use Rattle.lent_job.proofs.ReadLaws.{none_due, roomy_parts}
use Rattle.lent_job.specs.ReadNew.{old_held_due, new_due, new_job, with_new, ReadNew}
use Rattle.job.proofs.Laws.{due_chosen, due_taken, fault_not, text_refused, text_taken, left_is}

-- ---- `new_due`

-- What is due by what is left of the old version.
module _ (j : Job) where
  abbrev due_of : Option Listing → ℕ
  due_of x = after (after x none (λ (o : Listing). choose (same_job j (job_old o)) (some o) none)) 14 (λ (o : Listing). 0)

  gone : (x : Option Listing) → None ≡ count_left x → 14 ≡ due_of x
  unfolding count_left
  gone none e = refl
  gone (some o) e = cc

  there : (x : Option Listing) (c : Counts) → Some c ≡ count_left x → choose (same_job j (with_old c)) 0 14 ≡ due_of x
  unfolding count_left with_old job_old
  there none c e = cc
  there (some o) c e =
      ap (λ (k : Counts). choose (same_job j (with_old k)) 0 14) (same_Some c (counted o) e) ∙ due_chosen o (same_job j (job_old o))

module _ (j : Job) (m : ℕ) (old : Bytes) (y joins : List ℕ) (n l k : ℕ) where
  abbrev Old' : Lent
  Old' = numbers m old y joins

  pub new_stage : (j.stage ≡ 1 → ⊥) → 13 ≡ new_due j Old' n l k
  unfolding new_due of_stage choose
  new_stage h = simp (ne_eqb _ _ h)

  module _ (st : j.stage ≡ 1) (u : Bool) (e : u ≡ roomy 512 6080 n l k) where
    pub new_short : u ≡ false → 14 ≡ new_due j Old' n l k
    unfolding new_due of_stage choose
    new_short t = simp (eq-eqb _ _ st, ← e, t)

    module _ (t : u ≡ true) (x : List ℕ) (ex : x ≡ y) where
      long : old_held_due j Old' ≡ new_due j Old' n l k
      unfolding new_due of_stage choose
      long = simp (eq-eqb _ _ st, ← e, t)

      left_is_old : version_left (numbers m old x joins) ≡ version_left Old'
      left_is_old = ap (λ (a : List ℕ). version_left (numbers m old a joins)) ex

      pub new_gone : None ≡ count_left (version_left (numbers m old x joins)) → 14 ≡ new_due j Old' n l k
      unfolding old_held_due held_old
      new_gone h = gone j (version_left Old') (h ∙ ap count_left left_is_old) ∙ long

      module _ (c : Counts) (ec : Some c ≡ count_left (version_left (numbers m old x joins))) (o : Job) (eo : o ≡ with_old c) (b : Bool) (eb : b ≡ same_job j o) where
        settled : choose b 0 14 ≡ new_due j Old' n l k
        unfolding old_held_due held_old
        settled = ap (λ (y : Bool). choose y 0 14) (eb ∙ ap (same_job j) eo) ∙ there j (version_left Old') c (ec ∙ ap count_left left_is_old) ∙ long

        pub new_none : b ≡ true → 0 ≡ new_due j Old' n l k
        unfolding choose
        new_none q = ap (λ (v : Bool). choose v 0 14) (sym q) ∙ settled

        pub new_job_lem : b ≡ false → 14 ≡ new_due j Old' n l k
        unfolding choose
        new_job_lem q = ap (λ (v : Bool). choose v 0 14) (sym q) ∙ settled

-- Where nothing is due the scratch is long enough.
pub new_room : (j : Job) (v : Lent) (n l w due : ℕ) → due ≡ new_due j v n l w → due ≡ 0 → 8128 ≤ w
unfolding new_due
new_room j v n l w due e z = (roomy_parts 512 6080 n l w (none_due (of_stage call_new j.stage) (roomy 512 6080 n l w) (old_held_due j v) (sym e ∙ z)).1).2

-- ---- `take_new`

new_counted : (j : Job) (s : Listing) (c : Counts) → c.procs ≡ proc_count s.program → c.nodes ≡ node_count s.program → c.edges ≡ edge_count s.program → new_job j (accepted s) ≡ with_new j c
unfolding new_job with_new
new_counted j s c p q r = rw (p, q, r)

module _ (j : Job) (v : Lent) (room : ℕ) (text : Bytes) (l : List ℕ) (work : ℕ) where
  stays : (k p : ℕ) → new_job j (refused k p) ≡ j
  unfolding new_job
  stays k p = refl

  by_due : (due : ℕ) (r : Reply) (l' w : List ℕ) → due ≡ new_due j v room (length l) work → TakenBy (new_job j) (program_read due text) r l l' w → NewTaken j v room text r l l' work w
  by_due due r l' w ed t = record { by = subst (λ (k : ℕ). TakenBy (new_job j) (program_read k text) r l l' w) ed t }

  pub new_due_taken : (f : Fault) (w : List ℕ) → fault_number f ≡ new_due j v room (length l) work → NewTaken j v room text (reply j (Err (record { fault = f; place = 0 }))) l l work w
  new_due_taken f w ed =
      by_due (fault_number f) _ l w ed (due_taken (new_job j) j stays text l (fault_number f) w _ (λ z. fault_not f z) refl)

  module _ (ed : 0 ≡ new_due j v room (length l) work) (w : List ℕ) where
    pub new_refused : (e : Refusal) → ReadInto text (seen (Err e)) w → NewTaken j v room text (reply j (Err e)) l l work w
    new_refused e h =
        by_due 0 _ l w ed (text_refused (new_job j) j stays text l 0 refl (seen (Err e)) w h _ _ refl (λ z. fault_not e.fault z) refl)

    pub new_done : (had : Counts) (l' : List ℕ) (k : Job) → ReadInto text (seen (Ok had)) w → length w ≡ work → l' ≡ copied_links w (counts_of had) l → k ≡ with_new j had
        → NewTaken j v room text (reply j (Ok (record { job = k; nodes = had.nodes }))) l l' work w
    new_done had l' k h b el ek =
        by_due 0 _ l' w ed
        (text_taken (new_job j) j stays text l 0 refl (counts_of had) w h k (λ s p q r. new_counted j s had p q r ∙ sym ek) 0 l' refl refl
        (subst (λ (n : ℕ). 8128 ≤ n) (sym b) (new_room j v room (length l) work 0 ed refl)) el)

pub ruleset new_all = (new_stage, new_short, new_gone, new_none, new_job_lem, new_room, new_due_taken, new_refused, new_done)

-- ---- `ry_job_read_new`

-- The numbers of the first 512 records, put at the front of a table.
pub front_flat : (ns : List Node) (w : List ℕ) → 2048 ≤ length w → 512 ≤ length ns → old_part (sets w 0 (flat (take 512 ns))) ≡ flat (take 512 ns)
front_flat ns w h k =
    let e : length (flat (take 512 ns)) ≡ 2048 = flat_length (take 512 ns) ∙ ap (λ (m : ℕ). 4 * m) (length-take-le 512 ns k) in
    ap (λ (m : ℕ). take m (drop 0 (sets w 0 (flat (take 512 ns))))) (sym e) ∙ part_sets (flat (take 512 ns)) w 0 (omega (arith, e, h))

module _ (j : Job) (old : Bytes) (ns : List Node) (ol w : List ℕ) (a b : ℕ) where
  abbrev front : Lent
  front = numbers (length ns) old (old_part (sets w 0 (flat (take 512 ns)))) ol

  same_due : new_due j front a b (length w) ≡ new_due j (lent old ns ol) a b (length w)
  unfolding new_due old_held_due held_old choose
  same_due = go (roomy 512 6080 a b (length w)) refl
    where
      go : (u : Bool) → roomy 512 6080 a b (length w) ≡ u
          → choose (of_stage call_new j.stage) (choose u (due_of j (version_left front)) 14) 13 ≡ choose (of_stage call_new j.stage) (choose u (due_of j (version_left (lent old ns ol))) 14) 13
      go true e =
          ap (λ (x : Option Listing). choose (of_stage call_new j.stage) (due_of j x) 13)
          (front_left old ns ol (old_part (sets w 0 (flat (take 512 ns)))) (λ k. front_flat ns w (omega (arith, (roomy_parts 512 6080 a b (length w) e).2)) k))
      go false e = refl

-- `ry_job_read_new`
pub read_new_is : (j : Job) (old : Bytes) (ns : List Node) (ol : List ℕ) (text : Bytes) (n n' : List Node) (l l' w w₁ v w' : List ℕ) (r : Reply) (x : ℕ) → w₁ ≡ sets w 0 (flat (take 512 ns)) → length w₁ ≡ length w
    → NewTaken j (numbers (length ns) old (old_part w₁) ol) (length n) text r l l' (length w₁) v → n' ≡ sets n 0 (nodes_of v r.nodes) → w' ≡ replicate (length v) 0 → length v ≡ length w₁
    → x ≡ packing r.number r.place → ReadNew j (lent old ns ol) text n l w x r.job n' l' w'
read_new_is j old ns ol text n n' l l' w w₁ v w' r x e₁ q t en ew e ex =
    let d : new_due j (numbers (length ns) old (old_part w₁) ol) (length n) (length l) (length w₁) ≡ new_due j (lent old ns ol) (length n) (length l) (length w)
    = ap₂ (λ (x : List ℕ) (k : ℕ). new_due j (numbers (length ns) old (old_part x) ol) (length n) (length l) k) e₁ q ∙ same_due j old ns ol w (length n) (length l) in
    record {
      left = left_is (new_job j) _ n n' l l' w v w' r x (new_plain j (lent old ns ol) (length n) (length l) (length w) text)
          (subst (λ (k : ℕ). TakenBy (new_job j) (program_read k text) r l l' v) d t.by) en ew (e ∙ q) ex;
    }
