-- The three calls that read, one after the other on a fresh job, each lent enough, and what it is that they succeed.
use Rattle.std.specs.Prelude.{◌≡◌, List, ℕ, ◌≤◌, length}
use Rattle.std.proofs.Math.Option.{some}
use Rattle.rules.specs.Text.{Bytes}
use Rattle.rules.specs.Job.{Given, given_of}
use Rattle.records.specs.declared.Job.{Job}
use Rattle.records.specs.declared.Node.{Node}
use Rattle.records.specs.Jobs.{fresh}
use Rattle.lent_job.specs.Held.{AllRead, Lent, lent, held_tests}
use Rattle.lent_job.specs.ReadOld.{ReadOld}
use Rattle.lent_job.specs.ReadNew.{ReadNew}
use Rattle.lent_job.specs.ReadTests.{ReadTests}

-- A call that reads a program, with the contract R, and is lent enough: what it is lent, what it answers and leaves, the lengths.
pub record ProgramCall (R : List Node → List ℕ → List ℕ → ℕ → Job → List Node → List ℕ → List ℕ → Type 0) : Type 0 where
  pub n : List Node
  pub l : List ℕ
  pub w : List ℕ
  pub answer : ℕ
  pub job : Job
  pub nodes : List Node
  pub links : List ℕ
  pub scratch : List ℕ
  pub reads : R n l w answer job nodes links scratch
  pub many_nodes : 512 ≤ length n
  pub many_links : 6080 ≤ length l
  pub room : 8128 ≤ length w

-- One of `ry_job_read_old`; one of `ry_job_read_new`, with the old version v.
abbrev pub OldCall : Job → Bytes → Type 0
OldCall j old = ProgramCall (ReadOld j old)

abbrev pub NewCall : Job → Lent → Bytes → Type 0
NewCall j v new = ProgramCall (ReadNew j v new)

-- One of `ry_job_read_tests`, with both versions.
pub record TestsCall (j : Job) (v v' : Lent) (tests : Bytes) : Type 0 where
  pub t : List ℕ
  pub u : List ℕ
  pub w : List ℕ
  pub answer : ℕ
  pub job : Job
  pub names : List ℕ
  pub rows : List ℕ
  pub scratch : List ℕ
  pub reads : ReadTests j v v' tests t u w answer job names rows scratch
  pub many_names : 400 ≤ length t
  pub many_rows : 3200 ≤ length u
  pub room : 8128 ≤ length w

-- The three on a fresh job, each on what those before it left.
pub record Chain (old new tests : Bytes) : Type 0 where
  pub first : OldCall fresh old
  pub second : NewCall first.job (lent old first.nodes first.links) new
  pub third : TestsCall second.job (lent old first.nodes first.links) (lent new second.nodes second.links) tests

-- Each returns 0, and the job and all tables are held, with what the texts give.
pub record Succeeds (old new tests : Bytes) (c : Chain old new tests) (g : Given) : Type 0 where
  pub old_succeeds : c.first.answer ≡ 0
  pub new_succeeds : c.second.answer ≡ 0
  pub tests_succeed : c.third.answer ≡ 0
  pub all : AllRead
  pub held : held_tests c.third.job (lent old c.first.nodes c.first.links) (lent new c.second.nodes c.second.links) tests c.third.names c.third.rows ≡ some all
  pub gives : given_of all.old all.new all.tests ≡ g
