-- The returns of `read_job`.
use mathlib.Core.Path.{◌≡◌, refl, sym, ap, ◌∙◌, subst}
use mathlib.Core.List.{List}
use Prim.Native.Nat.{ℕ}
use native.Mathlib.Omega.{arith}
use Rattle.rules.specs.Text.{Bytes, Reading, accepted, refused, then}
use Rattle.rules.specs.Graph.{edge_count}
use Rattle.rules.specs.ProgramFile.{Listing, read_listing, read_program}
use Rattle.rules.specs.SuiteFile.{read_suite, read_tests}
use Rattle.rules.specs.Job.{Given, read_job}
use Rattle.rules.proofs.TextLaws.{then_passes}
use Rattle.std.specs.Prelude.{Result, Ok, Err}
use Rattle.answer.specs.declared.Refusal.{Refusal}
use Rattle.answer.specs.Refusals.{fault_number, fault_some}
use Rattle.reader.specs.declared.Counts.{Counts as Program}
use Rattle.reader.specs.Result.{Count, counts_of, seen, InTable, ReadInto, Told, links_of}
use Rattle.suite.specs.Reads.{read_of}
use Rattle.suite.specs.Tables.{Holds}
use Rattle.suite.specs.Reading.{Reads, TestsRead, accepted_of, refused_of}
use Rattle.versions.specs.Memory.{InMemory, memory}
use Rattle.intake.specs.declared.Counts.{Counts}
use Rattle.intake.specs.Ready.{JobRead, JobTold, Ready}

-- What reading a text leaves in a work table is a memory.
in_memory : (text w : List ℕ) (c : Count) (s : Listing) → read_listing text ≡ accepted s → InTable w c s → InMemory (memory text w (links_of w)) s
in_memory text w c s e t = record { read = e; nodes = t.nodes; procs = t.procs; edges = t.edges; heads = t.heads }

-- A refusal behind what passed is the refusal of all.
then_stops : {A B : Type 0} {a : Reading A} (f : A → Reading B) {k q : ℕ} → a ≡ refused k q → then a f ≡ refused k q
unfolding then
then_stops f e = ap (λ x. then x f) e

-- What the reader told of a program text.
told_accepted : (text w : List ℕ) (c : Program) → ReadInto text (seen (Ok c)) w → (s : Listing) × (read_listing text ≡ accepted s) × InTable w (counts_of c) s
told_accepted text w c h = go (read_listing text) h.told
  where
    go : (x : Reading Listing) → Told x (counts_of c) w → (s : Listing) × (x ≡ accepted s) × InTable w (counts_of c) s
    go (refused k p) t = absurd (let y : ⊥ = omega (arith, t.0, t.2) in y)
    go (accepted s) t = (s, refl, t.2)

told_refused : (text w : List ℕ) (e : Refusal) → ReadInto text (seen (Err e)) w → read_listing text ≡ refused (fault_number e.fault) e.place
told_refused text w e h = go (read_listing text) h.told
  where
    go : (x : Reading Listing) → Told x (seen (Err e)) w → x ≡ refused (fault_number e.fault) e.place
    go (refused k p) t = λ i. refused (sym t.0 i) (sym t.1 i)
    go (accepted s) t = absurd (let y : ⊥ = omega (arith, t.0, fault_some e.fault) in y)

pub program_of : (text : Bytes) (s : Listing) → read_listing text ≡ accepted s → read_program text ≡ accepted s.program
unfolding read_program
program_of text s e = then_passes (λ (x : Listing). accepted x.program) e

pub program_refused : (text : Bytes) (k q : ℕ) → read_listing text ≡ refused k q → read_program text ≡ refused k q
unfolding read_program
program_refused text k q e = then_stops (λ (x : Listing). accepted x.program) e

module _ (old ow new nw tt tests rows : List ℕ) where
  refuse : (e : Refusal) → read_job old new tt ≡ refused (fault_number e.fault) e.place → JobRead old ow new nw tt tests rows (Err e)
  refuse e is = record { told = subst (λ (x : Reading Given). JobTold x old ow new nw tt tests rows (Err e)) (sym is) (refl, refl, fault_some e.fault); few = record {} }

  -- The old program is refused.
  pub stop_old : (e : Refusal) → ReadInto old (seen (Err e)) ow → JobRead old ow new nw tt tests rows (Err e)
  unfolding read_job
  stop_old e h = refuse e (then_stops _ (program_refused old (fault_number e.fault) e.place (told_refused old ow e h)))

  module _ (o : Program) (h : ReadInto old (seen (Ok o)) ow) where
    s : (s : Listing) × (read_listing old ≡ accepted s) × InTable ow (counts_of o) s
    s = told_accepted old ow o h

    -- The new program is.
    pub stop_new : (e : Refusal) → ReadInto new (seen (Err e)) nw → JobRead old ow new nw tt tests rows (Err e)
    unfolding read_job
    stop_new e h' =
        refuse e (then_passes _ (program_of old s.0 s.1) ∙ then_stops _ (program_refused new (fault_number e.fault) e.place (told_refused new nw e h')))

    module _ (p : Program) (h' : ReadInto new (seen (Ok p)) nw) where
      s' : (s : Listing) × (read_listing new ≡ accepted s) × InTable nw (counts_of p) s
      s' = told_accepted new nw p h'

      tests_by : read_tests (edge_count s.0.program) tt ≡ read_tests o.edges tt
      tests_by = ap (λ (m : ℕ). read_tests m tt) (sym s.2.edges_n)

      -- The tests are.
      pub stop_tests : (e : Refusal) → TestsRead o.edges tt (read_of (Err e)) tests rows → JobRead old ow new nw tt tests rows (Err e)
      unfolding read_job read_suite Reads
      stop_tests e u =
          let a = refused_of o.edges (read_tests o.edges tt) (read_of (Err e)) tests rows u.reads (λ (y : fault_number e.fault ≡ 0). let z : ⊥ = omega (arith, fault_some e.fault) in z) in
          refuse e (then_passes _ (program_of old s.0 s.1) ∙ then_passes _ (program_of new s'.0 s'.1) ∙ then_stops _ (then_stops _ (tests_by ∙ a.0)))

      -- All are accepted.
      pub all_read : (n : ℕ) → TestsRead o.edges tt (read_of (Ok n)) tests rows
          → JobRead old ow new nw tt tests rows (Ok (record { old_nodes = o.nodes; old_edges = o.edges; new_nodes = p.nodes; new_edges = p.edges; tests = n }))
      unfolding read_job read_suite Reads
      all_read n u =
          let r = accepted_of o.edges (read_tests o.edges tt) (read_of (Ok n)) tests rows u.reads refl in
          let e : read_tests (edge_count s.0.program) tt ≡ accepted r.0 = tests_by ∙ r.1 in
          let c : Counts = record { old_nodes = o.nodes; old_edges = o.edges; new_nodes = p.nodes; new_edges = p.edges; tests = n } in
          let g : Given = record { old = s.0.program; new = s'.0.program; suite = r.0.suite } in
          let a : read_job old new tt ≡ accepted g = then_passes _ (program_of old s.0 s.1) ∙ then_passes _ (program_of new s'.0 s'.1) ∙ then_passes _ (then_passes _ e) in
          record {
            told = subst (λ (x : Reading Given). JobTold x old ow new nw tt tests rows (Ok c)) (sym a) (
              c,
              refl,
              record {
                o = s.0;
                p = s'.0;
                l = r.0;
                old_in = in_memory old ow (counts_of o) s.0 s.1 s.2;
                new_in = in_memory new nw (counts_of p) s'.0 s'.1 s'.2;
                tests_read = e;
                tests_in = subst (λ (m : ℕ). Holds m tests rows n r.0) s.2.edges_n r.2;
                given_is = refl;
                old_nodes_n = s.2.nodes_n;
                old_edges_n = s.2.edges_n;
                new_nodes_n = s'.2.nodes_n;
                new_edges_n = s'.2.edges_n;
              },
            );
            few = record {
              few_old_nodes = h.small.few_nodes;
              few_old_edges = h.small.few_edges;
              few_new_nodes = h'.small.few_nodes;
              few_new_edges = h'.small.few_edges;
              few_tests = u.few;
            };
          }

pub ruleset all = (stop_old, stop_new, stop_tests, all_read)

-- ---- what a caller has of an answer

module _ (old ow new nw tt tests rows : List ℕ) where
  pub job_stops : (e : Refusal) → JobRead old ow new nw tt tests rows (Err e) → read_job old new tt ≡ refused (fault_number e.fault) e.place
  job_stops e j = go (read_job old new tt) j.told
    where
      go : (x : Reading Given) → JobTold x old ow new nw tt tests rows (Err e) → x ≡ refused (fault_number e.fault) e.place
      go (refused k q) t = λ i. refused (sym t.0 i) (sym t.1 i)
      go (accepted g) t = absurd (let z : ◌≡◌ {A = Result Counts Refusal} (Err e) (Ok t.0) = t.1 in cc)

  pub job_goes : (c : Counts) → JobRead old ow new nw tt tests rows (Ok c)
      → (g : Given) × (read_job old new tt ≡ accepted g) × Ready (memory old ow (links_of ow)) (memory new nw (links_of nw)) tt tests rows c g
  job_goes c j = go (read_job old new tt) j.told
    where
      go : (x : Reading Given) → JobTold x old ow new nw tt tests rows (Ok c) → (g : Given) × (x ≡ accepted g) × Ready (memory old ow (links_of ow)) (memory new nw (links_of nw)) tt tests rows c g
      go (refused k q) t = absurd (let z : ⊥ = omega (arith, t.0, t.2) in z)
      go (accepted g) t =
          let same_counts : t.0 ≡ c = let z : ◌≡◌ {A = Result Counts Refusal} (Ok c) (Ok t.0) = t.1 in cc in
          (g, refl, subst (λ (d : Counts). Ready (memory old ow (links_of ow)) (memory new nw (links_of nw)) tt tests rows d g) same_counts t.2)
