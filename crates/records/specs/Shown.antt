-- A part of one of two texts.
use Rattle.std.specs.Prelude.{[], ℕ, eqb, take, drop}
use Rattle.laws.specs.Tests.{choose}
use Rattle.rules.specs.Text.{Bytes}

-- The part that begins at start and has len bytes, cut at the text's end: of the old text for the side 0, of the new one for 1, else none.
unfoldable pub part_shown : Bytes → Bytes → ℕ → ℕ → ℕ → Bytes
part_shown old new side start len = choose (eqb side 0) (take len (drop start old)) (choose (eqb side 1) (take len (drop start new)) [])
