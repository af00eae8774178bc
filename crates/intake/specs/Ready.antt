-- What the memory of a job holds once its three texts were read, and what reading them answers.
use Rattle.std.specs.Prelude.{◌≡◌, List, ℕ, ◌≤◌, ◌<◌, Result, Ok, IfOk}
use Rattle.rules.specs.Text.{Bytes, Reading, refused, accepted}
use Rattle.rules.specs.Graph.{edge_count, node_count}
use Rattle.rules.specs.ProgramFile.{Listing}
use Rattle.rules.specs.SuiteFile.{TestListing, read_tests}
use Rattle.rules.specs.Job.{Given, given_of, read_job}
use Rattle.answer.specs.declared.Refusal.{Refusal}
use Rattle.answer.specs.Refusals.{number_in, place_in}
use Rattle.reader.specs.Result.{links_of}
use Rattle.suite.specs.Tables.{Holds}
use Rattle.versions.specs.Memory.{InMemory, Memory, memory}
use Rattle.intake.specs.declared.Counts.{Counts}

-- The two memories and the tables of tests hold what the job's texts give, and the counts are theirs.
pub record Ready (v v' : Memory) (tt tests rows : List ℕ) (c : Counts) (g : Given) : Type 0 where
  pub o : Listing
  pub p : Listing
  pub l : TestListing
  pub old_in : InMemory v o
  pub new_in : InMemory v' p
  pub tests_read : read_tests (edge_count o.program) tt ≡ accepted l
  pub tests_in : Holds (edge_count o.program) tests rows c.tests l
  pub given_is : g ≡ given_of o p l
  pub old_nodes_n : c.old_nodes ≡ node_count o.program
  pub old_edges_n : c.old_edges ≡ edge_count o.program
  pub new_nodes_n : c.new_nodes ≡ node_count p.program
  pub new_edges_n : c.new_edges ≡ edge_count p.program

-- The counts are within their limits.
pub record Few (c : Counts) : Type 0 where
  pub few_old_nodes : c.old_nodes ≤ 512
  pub few_old_edges : c.old_edges ≤ 1024
  pub few_new_nodes : c.new_nodes ≤ 512
  pub few_new_edges : c.new_edges ≤ 1024
  pub few_tests : c.tests ≤ 200

-- `read_job`: the answer is the definition's, and where the texts are accepted the tables hold what they give. After a refusal what the tables hold is left open,
-- and what the tables hold beyond the counts of accepted texts always.
abbrev pub JobTold : Reading Given → Bytes → List ℕ → Bytes → List ℕ → Bytes → List ℕ → List ℕ → Result Counts Refusal → Type 0
JobTold (refused k q) old ow new nw tt tests rows r = (number_in r ≡ k) × (place_in r ≡ q) × (0 < k)
JobTold (accepted g) old ow new nw tt tests rows r = (c : Counts) × (r ≡ Ok c) × Ready (memory old ow (links_of ow)) (memory new nw (links_of nw)) tt tests rows c g

pub record JobRead (old ow new nw tt tests rows : List ℕ) (r : Result Counts Refusal) : Type 0 where
  pub told : JobTold (read_job old new tt) old ow new nw tt tests rows r
  pub few : IfOk r Few
