-- Numbers of two bytes each, low byte first.
use Rattle.std.specs.Prelude.{ℕ, ◌+◌, ◌*◌, List, [], ◌∷◌}

-- the numbers of a list of bytes; a single byte at its end is left out
unfoldable pub u16_le_all : List ℕ → List ℕ
u16_le_all [] = []
u16_le_all (low ∷ []) = []
u16_le_all (low ∷ high ∷ bytes) = (low + 256 * high) ∷ u16_le_all bytes
