-- What ProgramBack in specs/ states: what the tables write back is just what 14 asks of the two texts.
use Rattle.std.specs.Prelude.{◌≡◌, Bool, List, ◌++◌, ℕ, ◌≤◌, ◌<◌, drop, length, take}
use Rattle.std.proofs.Math.Path.{refl, sym, ap, ap₂}
use Rattle.std.proofs.Common.{◌∙◌, arith}
use Rattle.std.proofs.Math.Logic.{⊎_elim}
use Rattle.std.proofs.Math.Bool.{true, false}
use Rattle.std.proofs.Math.Option.{Option, none, some}
use Rattle.std.proofs.Math.Seq.{take_all}
use Rattle.laws.specs.Tests.{◌and◌, after, choose}
use Rattle.laws.specs.TestLaws.{and_both, and_left, and_right}
use Rattle.laws.specs.Lists.{choose_yes}
use Rattle.rules.specs.Text.{Bytes, Reading, max_bytes}
use Rattle.rules.specs.Graph.{edge_count, node_count, proc_count}
use Rattle.rules.specs.ProgramFile.{Listing}
use Rattle.rules.specs.Layout.{write_program}
use Rattle.rules.specs.Job.{Given, Request, answering, by_side, outcome, request_by, serving, write_back, writing_back, written, wrote}
use Rattle.rules.specs.WriteBack.{other_alone}
use Rattle.rules.proofs.Theorems.{other_bytes_alone, written_unchanged}
use Rattle.rules.proofs.BackLaws.{by_side_lem, other_self, other_side}
use Rattle.rules.proofs.JobLaws.{outcome_wrote}
use Rattle.records.specs.declared.Job.{Job}
use Rattle.records.specs.declared.Node.{Node}
use Rattle.records.specs.NodeLaws.{flat_length}
use Rattle.versions.specs.Memory.{InMemory, memory}
use Rattle.program.specs.Lent.{Counted}
use Rattle.writeback.specs.Parts.{parts_same}
use Rattle.writeback.proofs.PartLaws.{parts_same_lem}
use Rattle.writeback.proofs.BackLaws.{back_text_is}
use Rattle.lent_job.specs.Held.{AllRead, Lent, job_tests, lent, numbers, version_left}
use Rattle.lent_job.proofs.HeldLaws.{after_some, chosen_some, held_tests_parts, version_long, version_memory, version_read, version_sound}
use Rattle.lent_job.specs.Calls.{Called, LentJob, given_by, held, held_back, holding, lent_call, lent_job, limited, new_back, new_count, old_back, old_count, others_alone, request_scratch, takes_parts, text_back, with_texts, written_back}
use Rattle.lent_job.proofs.DueLaws.{goes_held_lem, goes_on, held_stage}
use Rattle.lent_job.proofs.Progress.{program_of}
use Rattle.lent_job.proofs.Answers.{call_written, text_short, texts_given}
use Rattle.lent_job.proofs.Refusals.{tables_spoilt}
use Rattle.lent_job.specs.ProgramBack.{StandFor, Whole, WritesBack}

-- ---- what is promised

-- ---- one version

module _ (v : Lent) (t : Bytes) (s : Listing) (left : version_left (numbers v.room t v.nodes v.links) ≡ some s) (whole : 512 ≤ v.room → 2048 ≤ length v.nodes) (p n e : ℕ)
    (ep : p ≡ proc_count s.program) (en : n ≡ node_count s.program) (ee : e ≡ edge_count s.program) where
  abbrev u : Lent
  u = numbers v.room t v.nodes v.links

  in_memory : InMemory (memory t v.nodes v.links) s
  in_memory = version_memory u s left (whole (version_long u s left).0)

  counts : Counted (limited p n e) s
  counts =
      let f = version_sound u s left in
      record { procs_n = omega (arith, ep, f.few_procs); nodes_n = omega (arith, en, f.few_nodes); edges_n = omega (arith, ee, f.few_edges) }

  -- The test on the tables is the rules' test.
  parts_told : parts_same v.text t v.nodes v.links (limited p n e) ≡ other_alone v.text t s
  parts_told = parts_same_lem t v.nodes v.links s in_memory (limited p n e) counts v.text

  -- A text that leaves the tables, and differs from the lent one in other bytes alone, is the one that they write back.
  text_back_is : other_alone v.text t s ≡ true → text_back v (limited p n e) ≡ t
  unfolding text_back
  text_back_is alone =
      let r = version_read u s left in
      ap (take max_bytes) (back_text_is t v.nodes v.links s in_memory (limited p n e) counts v.text ((other_bytes_alone v.text t s r).0 alone)) ∙ take_all max_bytes t (text_short t s r)

-- ---- the job

-- Texts that leave the job and the tables, taken apart.
left_parts : (k : LentJob) (old new : Bytes) (h : AllRead) → held (with_texts k old new) ≡ some h
    → (version_left (with_texts k old new).old ≡ some h.old) × (version_left (with_texts k old new).new ≡ some h.new) × (k.job ≡ job_tests h.old h.new h.tests)
left_parts k old new h e = let p = held_tests_parts k.job (with_texts k old new).old (with_texts k old new).new k.tests_text k.tests k.rows h e in (p.0, p.1, p.3)

module _ (k : LentJob) (whole : Whole k) where
  module _ (old new : Bytes) (h : AllRead) (st : StandFor k old new h) where
    abbrev parts : (version_left (with_texts k old new).old ≡ some h.old) × (version_left (with_texts k old new).new ≡ some h.new) × (k.job ≡ job_tests h.old h.new h.tests)
    parts = left_parts k old new h st.leave

    old_is : old_back k ≡ old
    unfolding job_tests
    old_is =
        let j = parts.2 in
        text_back_is k.old old h.old parts.0 whole.old_whole _ _ _ (ap (λ (x : Job). x.old_procs) j) (ap (λ (x : Job). x.old_nodes) j) (ap (λ (x : Job). x.old_edges) j)
        st.old_alone

    new_is : new_back k ≡ new
    unfolding job_tests
    new_is =
        let j = parts.2 in
        text_back_is k.new new h.new parts.1 whole.new_whole _ _ _ (ap (λ (x : Job). x.new_procs) j) (ap (λ (x : Job). x.new_nodes) j) (ap (λ (x : Job). x.new_edges) j)
        st.new_alone

    stand_held : held_back k ≡ some h
    unfolding held_back written_back others_alone
    stand_held =
        let e : held (written_back k) ≡ some h = ap₂ (λ (x y : Bytes). held (with_texts k x y)) old_is new_is ∙ st.leave in
        let a : others_alone k h ≡ true
        = and_both (ap (λ (x : Bytes). other_alone k.old.text x h.old) old_is ∙ st.old_alone) (ap (λ (x : Bytes). other_alone k.new.text x h.new) new_is ∙ st.new_alone) in
        ap (λ (x : Option AllRead). after x none (λ g. choose (others_alone k g) (some g) none)) e ∙ choose_yes (some h) none a

    goes : (side : ℕ) → request_scratch ≤ k.scratch → (input : Bytes) (room : ℕ) → lent_call (write_back side) k input room ≡ writing_back (given_by h) side room
    unfolding lent_call holding outcome serving
    goes side long input room =
        ap (λ (x : Reading AllRead). outcome x (λ g. writing_back (given_by g) side room))
        (goes_on k (holding (write_back side) k) h (held_stage (with_texts k old new) h st.leave) long (choose_yes _ _ refl ∙ stand_held))

  held_stand : (h : AllRead) → held_back k ≡ some h → StandFor k (old_back k) (new_back k) h
  unfolding held_back written_back others_alone
  held_stand h e =
      let p = after_some (held (written_back k)) (λ g. choose (others_alone k g) (some g) none) h e in
      let c = chosen_some (others_alone k p.0) p.0 h p.2 in
      let a : others_alone k h ≡ true = ap (others_alone k) (sym c.1) ∙ c.0 in
      record { leave = p.1 ∙ ap some c.1; old_alone = and_left _ _ a; new_alone = and_right _ _ a }

  selves : (h : AllRead) → held k ≡ some h → StandFor k k.old.text k.new.text h
  selves h e = record { leave = e; old_alone = other_self k.old.text h.old; new_alone = other_self k.new.text h.new }

  all_held : (h : AllRead) → held k ≡ some h → (q : Request) → holding q k ≡ some h
  unfolding holding choose
  all_held h e q = go (takes_parts q)
    where
      go : (u : Bool) → choose u (held_back k) (held k) ≡ some h
      go true = stand_held k.old.text k.new.text h (selves h e)
      go false = e

  all_answered : (h : AllRead) → held k ≡ some h → request_scratch ≤ k.scratch → (q : Request) (input : Bytes) (room : ℕ)
      → lent_call q k input room ≡ answering q k.old.text k.new.text k.tests_text input room
  unfolding lent_call answering outcome
  all_answered h e long q input room =
      ap (λ (x : Reading AllRead). outcome x (λ y. serving q (given_by y) input room)) (goes_on k (holding q k) h (held_stage k h e) long (all_held h e q))
      ∙ sym (ap (λ (x : Reading Given). outcome x (λ g. serving q g input room)) (texts_given k h e))

  none_held : ((h : AllRead) → held_back k ≡ some h → ⊥) → held_back k ≡ none
  none_held f = go (held_back k) f
    where
      go : (x : Option AllRead) → ((h : AllRead) → x ≡ some h → ⊥) → x ≡ none
      go none g = refl
      go (some h) g = absurd (g h refl)

  pub writes_back : WritesBack k
  unfolding holding writing_back by_side
  writes_back =
      record {
        held_exactly = λ h. (λ e. (_, _, held_stand h e), λ s. stand_held s.0 s.1 h s.2);
        once = λ old new old' new' h h' s s'. (sym (old_is old new h s) ∙ old_is old' new' h' s', sym (new_is old new h s) ∙ new_is old' new' h' s');
        old_written = λ old new h s long input room.
            goes old new h s 0 long input room ∙ ap (written room) (written_unchanged old h.old.program (program_of old h.old (version_read _ h.old (parts old new h s).0)));
        new_written = λ old new h s long input room.
            goes old new h s 1 long input room ∙ ap (written room) (written_unchanged new h.new.program (program_of new h.new (version_read _ h.new (parts old new h s).1)));
        no_side = λ old new h s long side b input room. goes old new h s side long input room ∙ other_side (given_by h) side room b;
        none_stand = λ stage f side input room.
            tables_spoilt (write_back side) k input room stage (choose_yes _ _ refl ∙ none_held (λ h e. f _ _ h (held_stand h e)));
        themselves = selves;
        answered = all_answered;
      }

  -- ---- for the code: what is held is told by the texts that the tables write back, and by comparing parts

  abbrev same_back : Bool
  same_back =
      parts_same k.old.text (old_back k) k.old.nodes k.old.links (old_count k.job) and parts_same k.new.text (new_back k) k.new.nodes k.new.links (new_count k.job)

  alone_told : (h : AllRead) → held (written_back k) ≡ some h → others_alone k h ≡ same_back
  unfolding written_back others_alone job_tests
  alone_told h e =
      let p = left_parts k (old_back k) (new_back k) h e in
      let j = p.2 in
      sym (ap₂ ◌and◌
      (parts_told k.old (old_back k) h.old p.0 whole.old_whole _ _ _ (ap (λ (x : Job). x.old_procs) j) (ap (λ (x : Job). x.old_nodes) j) (ap (λ (x : Job). x.old_edges) j))
      (parts_told k.new (new_back k) h.new p.1 whole.new_whole _ _ _ (ap (λ (x : Job). x.new_procs) j) (ap (λ (x : Job). x.new_nodes) j) (ap (λ (x : Job). x.new_edges) j)))

  pub held_back_is : held_back k ≡ choose same_back (held (written_back k)) none
  unfolding held_back choose
  held_back_is = go (held (written_back k)) refl
    where
      nothing : (b : Bool) → none ≡ choose {A = Option AllRead} b none none
      nothing true = refl
      nothing false = refl

      go : (x : Option AllRead) → held (written_back k) ≡ x → after x none (λ h. choose (others_alone k h) (some h) none) ≡ choose same_back x none
      go none e = nothing same_back
      go (some h) e = ap (λ (b : Bool). choose b (some h) none) (alone_told h e)

-- ---- of the numbers that `ry_job_call` returns, and the output that it leaves

module _ (k : LentJob) (whole : Whole k) where
  -- A program that was written is the text that stands for the lent one of its side.
  wrote_back : (side : ℕ) (input : Bytes) (room : ℕ) (b : Bytes) → lent_call (write_back side) k input room ≡ wrote b
      → (old : Bytes) × (new : Bytes) × (h : AllRead) × StandFor k old new h × (by_side old new side ≡ some b)
  unfolding lent_call serving writing_back by_side holding
  wrote_back side input room b e =
      let w = outcome_wrote _ _ _ e in
      let st = held_stand k whole w.0 (sym (choose_yes _ _ refl) ∙ goes_held_lem k _ w.0 w.1) in
      let p = left_parts k _ _ w.0 st.leave in
      (_, _, w.0, st, by (given_by w.0) side (written_unchanged _ _ (program_of _ w.0.old (version_read _ _ p.0))) (written_unchanged _ _ (program_of _ w.0.new (version_read _ _ p.1))) w.2)
    where
      by : (g : Given) {old new : Bytes} (m : ℕ) → write_program g.old ≡ old → write_program g.new ≡ new → writing_back g m room ≡ wrote b → by_side old new m ≡ some b
      by g {old} {new} m d f q =
          ⊎_elim (λ u. ap (by_side old new) u.0 ∙ ap some (sym d ∙ u.1)) (λ u. ap (by_side old new) u.0 ∙ ap some (sym f ∙ u.1)) (by_side_lem g m room b q)

  -- The request 4 for a side returns a number below 4,294,967,296: so many bytes of that text stand at the front of the output.
  pub program_returned : (side b : ℕ) (input : Bytes) (r : ℕ) (j j' : Job) (w w' out out' : List ℕ) → Called (lent_call (request_by 4 side b) k input (length out)) r j j' w w' out out'
      → r < 4294967296
      → (old : Bytes) × (new : Bytes) × (h : AllRead) × StandFor k old new h × (text : Bytes) × (by_side old new side ≡ some text) × (r ≡ length text) × (out' ≡ text ++ drop r out)
  unfolding request_by choose
  program_returned side b input r j j' w w' out out' c l =
      let u = call_written (write_back side) k input r j j' w w' out out' c l in
      let s = wrote_back side input (length out) u.0 u.1 in
      (s.0, s.1, s.2, s.3, u.0, s.4, u.2, u.3)

-- Nodes that are lent as records are whole.
pub lent_whole : (j : Job) (ot : Bytes) (on : List Node) (ol : List ℕ) (nt : Bytes) (nn : List Node) (nl : List ℕ) (tt : Bytes) (tests rows : List ℕ) (n : ℕ)
    → Whole (lent_job j (lent ot on ol) (lent nt nn nl) tt tests rows n)
lent_whole j ot on ol nt nn nl tt tests rows n = record { old_whole = λ h. omega (arith, h, flat_length on); new_whole = λ h. omega (arith, h, flat_length nn) }
