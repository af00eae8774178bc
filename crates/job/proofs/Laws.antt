-- The returns of the functions on values.
use mathlib.Core.Path.{◌≡◌, refl, sym, ap, ap₂, ◌∙◌, subst}
use mathlib.Core.Bool.{Bool, true, false}
use mathlib.Core.List.{List}
use mathlib.Core.Option.{none, some}
use Prim.Native.Nat.{ℕ, ◌≤◌, ◌<◌}
use native.Mathlib.Omega.{arith}
use lib.ListN.{length, replicate}
use lib.Seq.{sets}
use borrow.Author.Tests.{eq-eqb, ne_eqb, le-leb, lt-leb}
use Rattle.laws.specs.Tests.{◌and◌, after, choose}
use Rattle.rules.specs.Text.{Bytes, Reading, refused, accepted}
use Rattle.rules.specs.Graph.{proc_count, node_count, edge_count}
use Rattle.rules.specs.ProgramFile.{Listing, read_listing}
use Rattle.rules.specs.Job.{of_stage, outcome, call_old}
use Rattle.rules.specs.Promises.{Plain}
use Rattle.answer.specs.Outcomes.{packing, packs}
use Rattle.answer.specs.Refusals.{fault_number, fault_some}
use Rattle.answer.specs.declared.Fault.{Fault}
use Rattle.answer.specs.declared.Refusal.{Refusal}
use Rattle.std.specs.Prelude.{Ok, Err}
use Rattle.reader.specs.declared.Counts.{Counts}
use Rattle.reader.specs.Result.{Count, Told, ReadInto, counts_of, seen}
use Rattle.program.specs.Lent.{copied_links}
use Rattle.program.proofs.Laws.{links_copied}
use Rattle.records.specs.declared.Job.{Job}
use Rattle.records.specs.declared.Node.{Node}
use Rattle.records.specs.Jobs.{fresh, same_job}
use Rattle.records.specs.Nodes.{nodes_of}
use Rattle.lent_job.specs.Held.{job_old}
use Rattle.lent_job.proofs.ReadLaws.{none_due, records_are, roomy_parts}
use Rattle.lent_job.specs.ReadOld.{roomy, fresh_due, old_due, program_read, read_answer, records_read, links_read, old_job, ProgramLeftBy, ReadOld, past_due}
use Rattle.lent_job.proofs.Answers.{old_plain}
use Rattle.job.specs.Taken.{Reply, reply, count_read, refused_reply, with_old, taken_of, TakenBy, OldTaken}

-- ---- `long_enough`

module _ (a b n l w : ℕ) where
  pub room_first : n < a → false ≡ roomy a b n l w
  unfolding roomy ◌and◌
  room_first h = simp (lt-leb a n h)

  module _ (hn : a ≤ n) where
    pub room_second : l < b → false ≡ roomy a b n l w
    unfolding roomy ◌and◌
    room_second h = simp (le-leb a n hn, lt-leb b l h)

    module _ (hl : b ≤ l) where
      pub room_work : w < 8128 → false ≡ roomy a b n l w
      unfolding roomy ◌and◌
      room_work h = simp (le-leb a n hn, le-leb b l hl, lt-leb 8128 w h)

      pub room_all : 8128 ≤ w → true ≡ roomy a b n l w
      unfolding roomy ◌and◌
      room_all h = simp (le-leb a n hn, le-leb b l hl, le-leb 8128 w h)

-- What is due by what is held: 14 where nothing is.
pub due_chosen : {A : Type 0} (a : A) (u : Bool) → ◌≡◌ {A = ℕ} (choose u 0 14) (after (choose u (some a) none) 14 (λ (x : A). 0))
unfolding choose
due_chosen a true = refl
due_chosen a false = refl

pub fault_not : (f : Fault) → fault_number f ≡ 0 → ⊥
fault_not f z = let y : ⊥ = omega (arith, fault_some f, z) in y

-- ---- `fresh_due` and `old_due`

module _ (j s : Job) (es : s ≡ fresh) (u : Bool) (e : u ≡ same_job j s) where
  pub fresh_yes : u ≡ true → 0 ≡ fresh_due j
  unfolding fresh_due choose
  fresh_yes t = simp (← es, ← e, t)

  pub fresh_no : u ≡ false → 14 ≡ fresh_due j
  unfolding fresh_due choose
  fresh_no t = simp (← es, ← e, t)

module _ (j : Job) (n l w : ℕ) where
  pub due_stage : (j.stage ≡ 0 → ⊥) → 13 ≡ old_due j n l w
  unfolding old_due of_stage choose
  due_stage h = simp (ne_eqb _ _ h)

  module _ (st : j.stage ≡ 0) (u : Bool) (e : u ≡ roomy 512 6080 n l w) where
    pub due_fresh : (d : ℕ) → u ≡ true → d ≡ fresh_due j → d ≡ old_due j n l w
    unfolding old_due of_stage choose
    due_fresh d t q = simp (eq-eqb _ _ st, ← e, t, q)

    pub due_short : u ≡ false → 14 ≡ old_due j n l w
    unfolding old_due of_stage choose
    due_short t = simp (eq-eqb _ _ st, ← e, t)

  -- Where nothing is due the scratch is long enough.
  pub due_room : (due : ℕ) → due ≡ old_due j n l w → due ≡ 0 → 8128 ≤ w
  unfolding old_due
  due_room due e z = (roomy_parts 512 6080 n l w (none_due (of_stage call_old j.stage) (roomy 512 6080 n l w) (fresh_due j) (sym e ∙ z)).1).2

-- ---- `with_old`

job_counted : (j : Job) (s : Listing) (c : Counts) → c.procs ≡ proc_count s.program → c.nodes ≡ node_count s.program → c.edges ≡ edge_count s.program → old_job j (accepted s) ≡ with_old c
unfolding old_job with_old job_old
job_counted j s c p q r = rw (p, q, r)

-- ---- reading a program on values, where `due` is due before it

module _ (after : Reading Listing → Job) (j : Job) (still : (k p : ℕ) → after (refused k p) ≡ j) (text : Bytes) (l : List ℕ) where
  left_refused : (k p : ℕ) (w : List ℕ) → TakenBy after (refused k p) (refused_reply j k p) l l w
  unfolding taken_of outcome count_read links_read records_read nodes_of
  left_refused k p w = record { taken = ap (λ (x : Job). refused_reply x k p) (sym (still k p)); links_are = refl; nodes_are = refl }

  pub due_taken : (due : ℕ) (w : List ℕ) (r : Reply) → (due ≡ 0 → ⊥) → r ≡ refused_reply j due 0 → TakenBy after (program_read due text) r l l w
  unfolding past_due choose
  due_taken due w r h e =
      let a : program_read due text ≡ refused due 0 = simp (ne_eqb _ _ h) in
      subst (λ (x : Reply). TakenBy after (program_read due text) x l l w) (sym e) (subst (λ (x : Reading Listing). TakenBy after x (refused_reply j due 0) l l w) (sym a) (left_refused due 0 w))

  module _ (due : ℕ) (z : due ≡ 0) (had : Count) (w : List ℕ) (h : ReadInto text had w) where
    goes_by : program_read due text ≡ read_listing text
    unfolding past_due choose
    goes_by = simp (eq-eqb _ _ z)

    stop : (x : Reading Listing) → Told x had w → (had.number ≡ 0 → ⊥) → TakenBy after x (refused_reply j had.number had.place) l l w
    stop (refused k p) t n = subst (λ (x : Reply). TakenBy after (refused k p) x l l w) (sym (ap₂ (refused_reply j) t.0 t.1)) (left_refused k p w)
    stop (accepted s) t n = absurd (n t.0)

    pub text_refused : (number : ℕ) (r : Reply) → number ≡ had.number → (number ≡ 0 → ⊥) → r ≡ refused_reply j number had.place → TakenBy after (program_read due text) r l l w
    text_refused number r en n e =
        subst (λ (x : Reply). TakenBy after (program_read due text) x l l w) (sym (e ∙ ap (λ (k : ℕ). refused_reply j k had.place) en))
        (subst (λ (x : Reading Listing). TakenBy after x (refused_reply j had.number had.place) l l w) (sym goes_by) (stop (read_listing text) h.told (λ q. n (en ∙ q))))

    module _ (k : Job) (moved : (s : Listing) → had.procs ≡ proc_count s.program → had.nodes ≡ node_count s.program → had.edges ≡ edge_count s.program → after (accepted s) ≡ k) where
      done : (x : Reading Listing) → Told x had w → had.number ≡ 0 → 8128 ≤ length w → TakenBy after x (record { job = k; number = 0; place = 0; nodes = had.nodes }) l (copied_links w had l) w
      unfolding taken_of outcome count_read links_read records_read
      done (refused k p) t n b = absurd (let y : ⊥ = omega (arith, t.0, t.2) in y)
      done (accepted s) t n b =
          record {
            taken = rw (moved s t.2.procs_n t.2.nodes_n t.2.edges_n, t.2.nodes_n);
            links_are = links_copied w had s t.2 h.small b l;
            nodes_are = records_are w had s t.2 (node_count s.program) (omega arith);
          }

      pub text_taken : (number : ℕ) (l' : List ℕ) → number ≡ had.number → number ≡ 0 → 8128 ≤ length w → l' ≡ copied_links w had l
          → TakenBy after (program_read due text) (record { job = k; number = 0; place = 0; nodes = had.nodes }) l l' w
      text_taken number l' en n b el =
          subst (λ (x : List ℕ). TakenBy after (program_read due text) (record { job = k; number = 0; place = 0; nodes = had.nodes }) l x w) (sym el)
          (subst (λ (x : Reading Listing). TakenBy after x (record { job = k; number = 0; place = 0; nodes = had.nodes }) l (copied_links w had l) w) (sym goes_by) (done (read_listing text) h.told (sym en ∙ n) b))

-- ---- `take_old`

module _ (j : Job) (room : ℕ) (text : Bytes) (l : List ℕ) (work : ℕ) where
  stays : (k p : ℕ) → old_job j (refused k p) ≡ j
  unfolding old_job
  stays k p = refl

  by_due : (due : ℕ) (r : Reply) (l' w : List ℕ) → due ≡ old_due j room (length l) work → TakenBy (old_job j) (program_read due text) r l l' w → OldTaken j room text r l l' work w
  by_due due r l' w ed t = record { by = subst (λ (k : ℕ). TakenBy (old_job j) (program_read k text) r l l' w) ed t }

  pub taken_due : (f : Fault) (w : List ℕ) → fault_number f ≡ old_due j room (length l) work → OldTaken j room text (reply j (Err (record { fault = f; place = 0 }))) l l work w
  taken_due f w ed =
      by_due (fault_number f) _ l w ed (due_taken (old_job j) j stays text l (fault_number f) w _ (λ z. fault_not f z) refl)

  module _ (ed : 0 ≡ old_due j room (length l) work) (w : List ℕ) where
    pub taken_refused : (e : Refusal) → ReadInto text (seen (Err e)) w → OldTaken j room text (reply j (Err e)) l l work w
    taken_refused e h =
        by_due 0 _ l w ed (text_refused (old_job j) j stays text l 0 refl (seen (Err e)) w h _ _ refl (λ z. fault_not e.fault z) refl)

    pub taken_done : (had : Counts) (l' : List ℕ) (k : Job) → ReadInto text (seen (Ok had)) w → length w ≡ work → l' ≡ copied_links w (counts_of had) l → k ≡ with_old had
        → OldTaken j room text (reply j (Ok (record { job = k; nodes = had.nodes }))) l l' work w
    taken_done had l' k h b el ek =
        by_due 0 _ l' w ed
        (text_taken (old_job j) j stays text l 0 refl (counts_of had) w h k (λ s p q r. job_counted j s had p q r ∙ sym ek) 0 l' refl refl
        (subst (λ (n : ℕ). 8128 ≤ n) (sym b) (due_room j room (length l) work 0 ed refl)) el)

pub ruleset all = (room_first, room_second, room_work, room_all, fresh_yes, fresh_no, due_stage, due_fresh, due_short, due_room, taken_due, taken_refused, taken_done)

-- ---- reading a program over lent memory

pub left_is : (after : Reading Listing → Job) (a : Reading Listing) (n n' : List Node) (l l' w v w' : List ℕ) (r : Reply) (x : ℕ) → Plain (read_answer a) → TakenBy after a r l l' v → n' ≡ sets n 0 (nodes_of v r.nodes)
    → w' ≡ replicate (length v) 0 → length v ≡ length w → x ≡ packing r.number r.place → ProgramLeftBy after a n l w x r.job n' l' w'
unfolding taken_of
left_is after a n n' l l' w v w' r x plain b en ew e ex =
    record {
      answer_is = ex ∙ packs (read_answer a) (record { number = r.number; place = r.place }) plain (record { number_is = ap (λ (t : Reply). t.number) b.taken; place_is = ap (λ (t : Reply). t.place) b.taken });
      job_is = ap (λ (t : Reply). t.job) b.taken;
      nodes_are = en ∙ ap (λ (t : Reply). sets n 0 (nodes_of v t.nodes)) b.taken ∙ ap (sets n 0) b.nodes_are;
      links_are = b.links_are;
      scratch_is = ew ∙ ap (λ (k : ℕ). replicate k 0) e;
    }

-- `ry_job_read_old`
pub read_old_is : (j : Job) (text : Bytes) (n n' : List Node) (l l' w v w' : List ℕ) (r : Reply) (x : ℕ) → OldTaken j (length n) text r l l' (length w) v → n' ≡ sets n 0 (nodes_of v r.nodes) → w' ≡ replicate (length v) 0
    → length v ≡ length w → x ≡ packing r.number r.place → ReadOld j text n l w x r.job n' l' w'
read_old_is j text n n' l l' w v w' r x t en ew e ex =
    record { left = left_is (old_job j) _ n n' l l' w v w' r x (old_plain j (length n) (length l) (length w) text) t.by en ew e ex }
