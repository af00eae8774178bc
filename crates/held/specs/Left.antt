-- What is held, as the functions tell it.
use Rattle.std.specs.Prelude.{◌≡◌, refl, ℕ, Option, None, Some}
use Rattle.std.proofs.Math.Option.{Option as Maybe, none, some}
use Rattle.std.proofs.lemmas.Option.{same_Some}
use Rattle.std.proofs.Common.{subst, sym}
use Rattle.rules.specs.Kept.{Sound}
use Rattle.rules.specs.ProgramFile.{Listing}
use Rattle.rules.specs.SuiteFile.{TestListing, test_count}
use Rattle.reader.specs.Result.{Small, counts_of}
use Rattle.reader.specs.declared.Counts.{Counts}
use Rattle.lent_job.specs.Held.{Lent, counted, version_left}
use Rattle.lent_job.proofs.HeldLaws.{version_sound}

-- `version_left`: the counts of what the tables hold. What its work table holds afterwards is left open.
unfoldable pub count_left : Maybe Listing → Option Counts
count_left none = None
count_left (some s) = Some (counted s)

-- `suite_left`: how many tests the tables hold. What its two work tables hold afterwards is left open.
unfoldable pub read_left : Maybe TestListing → Option ℕ
read_left none = None
read_left (some l) = Some (test_count l.suite)

-- ---- the counts that are answered are within their limits

counted_small : (s : Listing) → Sound s.program → Small (counts_of (counted s))
counted_small s h = record { few_procs = h.few_procs; few_nodes = h.few_nodes; few_edges = h.few_edges }

pub count_small : (v : Lent) (c : Counts) → Some c ≡ count_left (version_left v) → Small (counts_of c)
unfolding count_left
count_small v c q = go (version_left v) refl q
  where
    go : (x : Maybe Listing) → version_left v ≡ x → Some c ≡ count_left x → Small (counts_of c)
    go none e q = cc
    go (some s) e q = subst (λ (k : Counts). Small (counts_of k)) (sym (same_Some c (counted s) q)) (counted_small s (version_sound v s e))
