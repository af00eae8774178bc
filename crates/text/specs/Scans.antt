-- What the scans of a text find: a byte's place, blanks at the front, bytes that two texts have in common, last bytes, a byte's class, and bytes of one class.
use Rattle.std.specs.Prelude.{Bool, [], ◌∷◌, ℕ, suc, eqb, length}
use Rattle.laws.specs.Tests.{◌and◌, isnt, choose}
use Rattle.rules.specs.Text.{Bytes, between, all_bytes, name_byte, label_byte, word_byte, digit_byte}
use Rattle.rules.specs.SuiteFile.{hex_byte}
use Rattle.text.specs.declared.Class.{Class}
use Rattle.text.specs.declared.Class.TheVariants.{Name, Label, Word, Hex, Digit}

-- How many bytes stand before the first b: all of them, where there is none.
unfoldable pub span : ℕ → Bytes → ℕ
span b [] = 0
span b (x ∷ s) = choose (eqb x b) 0 (suc (span b s))

-- How many blanks (byte 32) stand at the front.
unfoldable pub blanks : Bytes → ℕ
blanks [] = 0
blanks (x ∷ s) = choose (eqb x 32) (suc (blanks s)) 0

-- How many bytes at the front of both are the same and no blanks.
unfoldable pub in_common : Bytes → Bytes → ℕ
in_common [] t = 0
in_common (x ∷ s) [] = 0
in_common (x ∷ s) (y ∷ t) = choose (eqb x y and isnt (eqb x 32)) (suc (in_common s t)) 0

-- The last byte: a blank, where there is none. The last bytes of two are no blanks and differ.
unfoldable pub last_byte : Bytes → ℕ
last_byte [] = 32
last_byte (x ∷ []) = x
last_byte (x ∷ y ∷ s) = last_byte (y ∷ s)

unfoldable pub ends_differ : Bytes → Bytes → Bool
ends_differ a b = isnt (eqb (last_byte a) 32) and isnt (eqb (last_byte b) 32) and isnt (eqb (last_byte a) (last_byte b))

-- The byte x is from a to 126, and no comma: of a label where a is 32, of a word where it is 33.
unfoldable pub plain_byte : ℕ → ℕ → Bool
plain_byte a x = between a 126 x and isnt (eqb x 44)

-- The byte x is of the class.
abbrev pub class_byte : Class → ℕ → Bool
class_byte Name = name_byte
class_byte Label = label_byte
class_byte Word = word_byte
class_byte Hex = hex_byte
class_byte Digit = digit_byte

-- From 1 to `most` bytes, all of the class.
unfoldable pub sized : Class → ℕ → Bytes → Bool
sized k most s = between 1 most (length s) and all_bytes (class_byte k) s
