-- A hash of bytes: a number below 4,096. Bytes that are the same have one hash; others may.
use Rattle.std.specs.Prelude.{[], ◌∷◌, ℕ, ◌+◌, ◌*◌, ◌%◌, ◌<◌}
use Rattle.std.proofs.Common.{arith}
use Rattle.rules.specs.Text.{Bytes}

unfoldable pub hash_from : ℕ → Bytes → ℕ
hash_from h [] = h
hash_from h (x ∷ s) = hash_from ((h * 31 + x) % 4096) s

abbrev pub hash_of : Bytes → ℕ
hash_of = hash_from 0

pub hash_small : (h : ℕ) (s : Bytes) → h < 4096 → hash_from h s < 4096
unfolding hash_from
hash_small h [] k = k
hash_small h (x ∷ s) k = hash_small ((h * 31 + x) % 4096) s (omega arith)
