-- The returns of the calls.
use mathlib.Core.Path.{◌≡◌, refl, sym, ap, ◌∙◌, subst}
use mathlib.Core.List.{List, []}
use Prim.Native.Nat.{ℕ}
use native.Mathlib.Omega.{arith}
use lib.ListN.{length, replicate, take}
use lib.Seq.{sets}
use Rattle.rules.specs.Text.{Reading, Bytes, accepted, refused}
use Rattle.rules.specs.ProgramFile.{Listing, read_listing, read_program}
use Rattle.rules.specs.Graph.{Program}
use Rattle.rules.specs.Job.{Given, Outcome, Request as Asked, answering, check_sheet, check_answer, outcome, output_after, packed, probes_answer, program_answer, read_job, read_new_answer, read_old_answer, read_tests_answer, record_answer, refusal, serving, sheet_answer, success, write_probes, write_back, write_record, write_sheet}
use Rattle.rules.proofs.Answers.{plain_answers}
use Rattle.std.specs.Prelude.{Result, Ok, Err}
use Rattle.answer.specs.Refusals.{Answer, fault_number, fault_some, number_in, place_in, told}
use Rattle.answer.specs.declared.Refusal.{Refusal}
use Rattle.answer.specs.Outcomes.{Answered, Told, answered_as, packing, packs, refusal_told, told_as}
use Rattle.reader.specs.Result.{Count, ReadInto, Told as ReaderTold, links_of, seen}
use Rattle.reader.specs.declared.Counts.{Counts as ProgramCounts}
use Rattle.suite.specs.Tables.{Tests, tests as suite_of}
use Rattle.versions.specs.Memory.{Memory, memory}
use Rattle.intake.specs.declared.Counts.{Counts}
use Rattle.intake.specs.Ready.{JobRead, JobTold, Ready}
use Rattle.intake.proofs.Laws.{job_goes, job_stops, program_of, program_refused}
use Rattle.work.specs.Work.{Done}
use Rattle.requests.specs.declared.Request.TheVariants.{Check, Probes, Program as ProgramOf, Record, Sheet}
use Rattle.requests.specs.Requests.{Served, asked}
use Rattle.records.specs.declared.Job.{Job}
use Rattle.records.specs.declared.Node.{Node}
use Rattle.records.specs.Nodes.{flat, nodes_of}
use Rattle.lent_job.specs.Held.{lent, numbers}
use Rattle.lent_job.specs.ReadOld.{ReadOld}
use Rattle.lent_job.specs.ReadNew.{ReadNew}
use Rattle.job.specs.Taken.{NewTaken, OldTaken, Reply, old_part}
use Rattle.job.proofs.Laws.{read_old_is}
use Rattle.job.proofs.NewLaws.{read_new_is}

-- A number and a place are those of an outcome.
abbrev Numbered : Outcome → ℕ → ℕ → Type 0
Numbered x k q = Answered x (record { number = k; place = q })

-- ---- programs

outcome_stops : {A : Type 0} (a : Reading A) (f : A → Outcome) (k q : ℕ) → a ≡ refused k q → outcome a f ≡ refusal k q
unfolding outcome
outcome_stops a f k q e = ap (λ x. outcome x f) e

outcome_goes : {A : Type 0} (a : Reading A) (f : A → Outcome) (x : A) → a ≡ accepted x → outcome a f ≡ f x
unfolding outcome
outcome_goes a f x e = ap (λ y. outcome y f) e

-- What the reader told of a program, before f.
told_program : (text : Bytes) (x : Reading Listing) (r : Count) (w : List ℕ) → read_listing text ≡ x → ReaderTold x r w → (f : Program → Outcome) → ((p : Program) → r.number ≡ 0 → r.place ≡ 0 → read_program text ≡ accepted p → Numbered (f p) r.number r.place)
    → Numbered (outcome (read_program text) f) r.number r.place
told_program text (refused k q) r w e t f go =
    answered_as (outcome_stops (read_program text) f k q (program_refused text k q e)) (record { number_is = t.0; place_is = t.1 })
told_program text (accepted s) r w e t f go =
    let p = program_of text s e in
    answered_as (outcome_goes (read_program text) f s.program p) (go s.program t.0 t.1 p)

-- It was accepted.
told_goes : (text : Bytes) (x : Reading Listing) (r : Count) (w : List ℕ) → read_listing text ≡ x → ReaderTold x r w → r.number ≡ 0 → (p : Program) × (read_program text ≡ accepted p)
told_goes text (refused k q) r w e t z = absurd (let y : ⊥ = omega (arith, t.0, t.2) in y)
told_goes text (accepted s) r w e t z = (s.program, program_of text s e)

-- The answer of a call that reads, by what was read.
abbrev read_in : {T : Type 0} → Result T Refusal → Answer
read_in r = record { number = number_in r; place = place_in r }

succeeded : (k q : ℕ) → k ≡ 0 → q ≡ 0 → Numbered success k q
succeeded k q e d = record { number_is = e; place_is = d }

old_numbered : (old : Bytes) (r : Result ProgramCounts Refusal) (w : List ℕ) → ReadInto old (seen r) w → Answered (read_old_answer old) (read_in r)
unfolding read_old_answer
old_numbered old (Ok c) w h = told_program old (read_listing old) (seen (Ok c)) w refl h.told (λ p. success) (λ p e d q. succeeded 0 0 e d)
old_numbered old (Err f) w h = told_program old (read_listing old) (seen (Err f)) w refl h.told (λ p. success) (λ p e d q. succeeded (fault_number f.fault) f.place e d)

pub old_packs : (old : Bytes) (r : Result ProgramCounts Refusal) (w : List ℕ) (a : Result ℕ Refusal) (x : ℕ) → ReadInto old (seen r) w → told a ≡ read_in r
    → x ≡ packing (told a).number (told a).place → x ≡ packed (read_old_answer old)
old_packs old r w a x h t e =
    e ∙ packs (read_old_answer old) (told a) (plain_answers old [] []).of_old (subst (λ (y : Answer). Answered (read_old_answer old) y) (sym t) (old_numbered old r w h))

-- ---- two programs

module _ (old new : Bytes) where
  stop_old : (f : Refusal) (w : List ℕ) → ReadInto old (seen (Err f)) w → Answered (read_new_answer old new) (told (Err f))
  unfolding read_new_answer
  stop_old f w h =
      told_program old (read_listing old) (seen (Err f)) w refl h.told (λ p. outcome (read_program new) (λ q. success))
      (λ p e d q. absurd (let z : ⊥ = omega (arith, e, fault_some f.fault) in z))

  pub new_stop_old : (f : Refusal) (w : List ℕ) (a : Result ℕ Refusal) → ReadInto old (seen (Err f)) w → a ≡ Err f → Answered (read_new_answer old new) (told a)
  new_stop_old f w a h e = subst (λ (x : Result ℕ Refusal). Answered (read_new_answer old new) (told x)) (sym e) (stop_old f w h)

  module _ (c : ProgramCounts) (w : List ℕ) (h : ReadInto old (seen (Ok c)) w) where
    past_old : (r : Answer) → Answered (outcome (read_program new) (λ q. success)) r → Answered (read_new_answer old new) r
    unfolding read_new_answer
    past_old r a =
        let p = told_goes old (read_listing old) (seen (Ok c)) w refl h.told refl in
        answered_as (outcome_goes (read_program old) (λ q. outcome (read_program new) (λ q. success)) p.0 p.1) a

    pub new_stop_new : (f : Refusal) (w' : List ℕ) (a : Result ℕ Refusal) → ReadInto new (seen (Err f)) w' → a ≡ Err f → Answered (read_new_answer old new) (told a)
    new_stop_new f w' a h' e = subst (λ (x : Result ℕ Refusal). Answered (read_new_answer old new) (told x)) (sym e) (past_old (told (Err f)) (told_program new (read_listing new) (seen (Err f)) w' refl h'.told (λ q. success) (λ p e d q. succeeded (fault_number f.fault) f.place e d)))

    pub new_read : (d : ProgramCounts) (w' : List ℕ) → ReadInto new (seen (Ok d)) w' → Answered (read_new_answer old new) (told (Ok 0))
    new_read d w' h' = past_old (told (Ok 0)) (told_program new (read_listing new) (seen (Ok d)) w' refl h'.told (λ q. success) (λ p e d q. succeeded 0 0 e d))

  pub new_packs : (a : Result ℕ Refusal) (x : ℕ) → Answered (read_new_answer old new) (told a) → x ≡ packing (told a).number (told a).place → x ≡ packed (read_new_answer old new)
  new_packs a x h e = e ∙ packs (read_new_answer old new) (told a) (plain_answers old new []).of_new h

-- ---- whole jobs

-- The counts of a job that was read, with those of the tests in memory.
abbrev counts_with : Counts → ℕ → Counts
counts_with c n = record { old_nodes = c.old_nodes; old_edges = c.old_edges; new_nodes = c.new_nodes; new_edges = c.new_edges; tests = n }

module _ (old ow new nw tt tests rows : List ℕ) where
  tests_at : (x : Reading Given) (r : Result Counts Refusal) → JobTold x old ow new nw tt tests rows r → Answered (outcome x (λ g. success)) (read_in r)
  unfolding outcome
  tests_at (refused k q) r t = record { number_is = t.0; place_is = t.1 }
  tests_at (accepted g) r t = succeeded (number_in r) (place_in r) (ap (λ (y : Result Counts Refusal). number_in y) t.1) (ap (λ (y : Result Counts Refusal). place_in y) t.1)

  tests_numbered : (r : Result Counts Refusal) → JobRead old ow new nw tt tests rows r → Answered (read_tests_answer old new tt) (read_in r)
  unfolding read_tests_answer
  tests_numbered r j = tests_at (read_job old new tt) r j.told

  pub tests_packs : (r : Result Counts Refusal) (a : Result ℕ Refusal) (x : ℕ) → JobRead old ow new nw tt tests rows r → told a ≡ read_in r
      → x ≡ packing (told a).number (told a).place → x ≡ packed (read_tests_answer old new tt)
  tests_packs r a x j t e =
      e ∙ packs (read_tests_answer old new tt) (told a) (plain_answers old new tt).of_tests (subst (λ (y : Answer). Answered (read_tests_answer old new tt) y) (sym t) (tests_numbered r j))

  -- A job that is refused, and one that goes on.
  stop : (e : Refusal) → JobRead old ow new nw tt tests rows (Err e) → (q : Asked) (input out : Bytes) → Told (answering q old new tt input (length out)) (told (Err e)) out out
  unfolding answering
  stop e j q input out =
      told_as (outcome_stops (read_job old new tt) _ (fault_number e.fault) e.place (job_stops old ow new nw tt tests rows e j)) (refusal_told (fault_number e.fault) e.place out)

  pub whole_stop : (e : Refusal) (a : Result ℕ Refusal) → JobRead old ow new nw tt tests rows (Err e) → a ≡ Err e → (q : Asked) (input out : Bytes) → Told (answering q old new tt input (length out)) (told a) out out
  whole_stop e a j is q input out = subst (λ (x : Result ℕ Refusal). Told (answering q old new tt input (length out)) (told x) out out) (sym is) (stop e j q input out)

  pub whole_goes : (c : Counts) → JobRead old ow new nw tt tests rows (Ok c) → (ol nl : List ℕ) → ol ≡ links_of ow → nl ≡ links_of nw
      → (v v' : Memory) → v ≡ memory old ow ol → v' ≡ memory new nw nl → (t : Tests) → t ≡ suite_of tt tests rows c.tests → (q : Asked) (input w w' out out' : List ℕ) (r : Answer)
      → Done w w' out out' (Served q v v' t.text t.names t.rows (record { old_nodes = c.old_nodes; old_edges = c.old_edges; new_nodes = c.new_nodes; new_edges = c.new_edges; tests = t.count }) input out r out')
      → Told (answering q old new tt input (length out)) r out out'
  unfolding answering Served
  whole_goes c j ol nl eo en v v' ev ev' t et q input w w' out out' r d =
      let a = job_goes old ow new nw tt tests rows c j in
      let e : v ≡ memory old ow (links_of ow) = ev ∙ ap (memory old ow) eo in
      let e' : v' ≡ memory new nw (links_of nw) = ev' ∙ ap (memory new nw) en in
      told_as (outcome_goes (read_job old new tt) _ a.0 a.1)
      (d.claim a.0
      (subst (λ (m : Memory). Ready m v' t.text t.names t.rows (counts_with c t.count) a.0) (sym e)
      (subst (λ (m : Memory). Ready (memory old ow (links_of ow)) m t.text t.names t.rows (counts_with c t.count) a.0) (sym e')
      (subst (λ (u : Tests). Ready (memory old ow (links_of ow)) (memory new nw (links_of nw)) u.text u.names u.rows (counts_with c u.count) a.0) (sym et) a.2))))

-- ---- packed answers of requests

module _ (old new tt input : Bytes) (a : Answer) (out out' : Bytes) where
  told_packs : (q : Asked) (r : ℕ) → Told (answering q old new tt input (length out)) a out out' → r ≡ packing a.number a.place
      → (r ≡ packed (answering q old new tt input (length out))) × (out' ≡ output_after (answering q old new tt input (length out)) out)
  told_packs q r t e = (e ∙ packs _ a ((plain_answers old new tt).of_request q input (length out)) t.answered, t.output_is)

  pub sheet_packs : (r : ℕ) → Told (answering (asked Sheet) old new tt input (length out)) a out out' → r ≡ packing a.number a.place
      → (r ≡ packed (sheet_answer old new tt (length out))) × (out' ≡ output_after (sheet_answer old new tt (length out)) out)
  unfolding answering serving asked
  sheet_packs r t e = told_packs write_sheet r t e

  pub record_packs : (i r : ℕ) → Told (answering (asked (Record i)) old new tt input (length out)) a out out' → r ≡ packing a.number a.place
      → (r ≡ packed (record_answer old new tt i (length out))) × (out' ≡ output_after (record_answer old new tt i (length out)) out)
  unfolding answering serving asked
  record_packs i r t e = told_packs (write_record i) r t e

  pub check_packs : (r : ℕ) → Told (answering (asked Check) old new tt input (length out)) a out out' → r ≡ packing a.number a.place → r ≡ packed (check_answer old new tt input)
  unfolding answering serving asked
  check_packs r t e = (told_packs check_sheet r t e).0

  pub program_packs : (side r : ℕ) → Told (answering (asked (ProgramOf side)) old new tt input (length out)) a out out' → r ≡ packing a.number a.place
      → (r ≡ packed (program_answer old new tt side (length out))) × (out' ≡ output_after (program_answer old new tt side (length out)) out)
  unfolding answering serving asked
  program_packs side r t e = told_packs (write_back side) r t e

  pub probes_packs : (r : ℕ) → Told (answering (asked Probes) old new tt input (length out)) a out out' → r ≡ packing a.number a.place
      → (r ≡ packed (probes_answer old new tt (length out))) × (out' ≡ output_after (probes_answer old new tt (length out)) out)
  unfolding answering serving asked
  probes_packs r t e = told_packs write_probes r t e

-- ---- the lent job

-- Reading a program over lent memory, with the job that was stored.
pub old_left : (j : Job) (text : Bytes) (n n' : List Node) (l l' w v w' : List ℕ) (r : Reply) (x : ℕ) → OldTaken j (length n) text r l l' (length w) v → n' ≡ sets n 0 (nodes_of v r.nodes) → w' ≡ replicate (length v) 0
    → length v ≡ length w → x ≡ packing r.number r.place → (k : Job) → k ≡ r.job → ReadOld j text n l w x k n' l' w'
old_left j text n n' l l' w v w' r x t en ew e ex k ek = subst (λ (i : Job). ReadOld j text n l w x i n' l' w') (sym ek) (read_old_is j text n n' l l' w v w' r x t en ew e ex)

pub new_left : (j : Job) (old : Bytes) (ns : List Node) (ol : List ℕ) (text : Bytes) (n n' : List Node) (l l' w w₁ v w' : List ℕ) (r : Reply) (x : ℕ) → w₁ ≡ sets w 0 (flat (take 512 ns)) → length w₁ ≡ length w
    → NewTaken j (numbers (length ns) old (old_part w₁) ol) (length n) text r l l' (length w₁) v → n' ≡ sets n 0 (nodes_of v r.nodes) → w' ≡ replicate (length v) 0 → length v ≡ length w₁
    → x ≡ packing r.number r.place → (k : Job) → k ≡ r.job → ReadNew j (lent old ns ol) text n l w x k n' l' w'
new_left j old ns ol text n n' l l' w w₁ v w' r x e₁ q t en ew e ex k ek =
    subst (λ (i : Job). ReadNew j (lent old ns ol) text n l w x i n' l' w') (sym ek) (read_new_is j old ns ol text n n' l l' w w₁ v w' r x e₁ q t en ew e ex)
