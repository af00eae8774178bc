-- What the tables say of the suite that they hold: the names of its tests, and what the definition promises of it.
use Rattle.std.specs.Prelude.{◌≡◌, List, ℕ, ◌<◌, take, drop}
use Rattle.std.proofs.Common.{ap₂, ◌∙◌}
use Rattle.rules.specs.Text.{Bytes, accepted}
use Rattle.rules.specs.SuiteFile.{TestListing, read_suite, read_tests, test_count, test_name}
use Rattle.rules.specs.Kept.{SoundSuite}
use Rattle.rules.proofs.SuiteLaws.{suite_sound}
use Rattle.rules.proofs.TextLaws.{then_passes}
use Rattle.rules.proofs.Places.{part_is, tests_placed}
use Rattle.suite.specs.Tables.{Holds}
use Rattle.suite.specs.Reading.{name_at}

-- The part of the text that the table gives as a test's name is its name.
pub name_read : (m : ℕ) (text : Bytes) (l : TestListing) (tests rows : List ℕ) (n i : ℕ) → read_tests m text ≡ accepted l → Holds m tests rows n l → i < test_count l.suite
    → name_at text tests i ≡ test_name l.suite i
unfolding name_at
name_read m text l tests rows n i e hold h =
    ap₂ (λ (a b : ℕ). take a (drop b text)) (hold.lengths i h) (hold.starts i h) ∙ part_is text _ _ ((tests_placed m text l e).names.parts i h)

-- What the definition promises of the suite: at most 200 tests, no name twice, a coverage of m edges for each test.
pub suite_read : (m : ℕ) (text : Bytes) (l : TestListing) → read_tests m text ≡ accepted l → SoundSuite m l.suite
unfolding read_suite
suite_read m text l e = suite_sound m text l.suite (then_passes (λ (x : TestListing). accepted x.suite) e)
