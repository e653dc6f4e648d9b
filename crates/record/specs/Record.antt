-- The update record: a map of two bytes, low byte first, and then the fields whose bits are set in it, from the lowest bit up.
use Rattle.std.specs.Prelude.{ℕ, zero, suc, ◌+◌, ◌-◌, ◌*◌, ◌/◌, ◌%◌, ◌^◌, Bool, cond, List, ltb, eqb, ℤ, pos, neg_ℤ, get_or}
use Rattle.laws.specs.Lists.{up_from, any_of}
use Rattle.record.specs.declared.Field.{Field}
use Rattle.record.specs.declared.Field.TheVariants.{Weight, Threshold, Truncation, Samples}

-- whether bit i of a number is set
unfoldable pub bit_set : ℕ → ℕ → Bool
bit_set n i = eqb (n / 2 ^ i % 2) 1

-- the 16-bit number of the two bytes at a place, low byte first
abbrev pub u16_le_at : List ℕ → ℕ → ℕ
u16_le_at bytes at = get_or bytes at 0 + 256 * get_or bytes (at + 1) 0

abbrev pub map_of : List ℕ → ℕ
map_of bytes = u16_le_at bytes 0

-- bits 0 to 11 have fields
abbrev pub field_count : ℕ
field_count = 12

-- whether a map bit that has no field is set: one from 12 to 15
abbrev pub unknown_bit : ℕ → Bool
unknown_bit map = any_of (bit_set map) (up_from field_count (16 - field_count))

-- bits 0 to 8 are for weights 1 to 9 (`Weight i` is weight i + 1), bit 9 for the threshold, 10 for r and 11 for N (and any above it, which has no field)
unfoldable pub field_of : ℕ → Field
field_of bit = cond (ltb bit 9) (Weight bit) (cond (eqb bit 9) Threshold (cond (eqb bit 10) Truncation Samples))

-- the threshold has two bytes, any other field one
abbrev pub size_of : Field → ℕ
size_of (Weight i) = 1
size_of Threshold = 2
size_of Truncation = 1
size_of Samples = 1

-- where the field of a bit starts: after the map and the fields that are there before it
unfoldable pub offset_of : ℕ → ℕ → ℕ
offset_of map zero = 2
offset_of map (suc bit) = cond (bit_set map bit) (offset_of map bit + size_of (field_of bit)) (offset_of map bit)

-- a field's bytes as a number, low byte first
abbrev pub number_at : Field → List ℕ → ℕ → ℕ
number_at (Weight i) bytes at = get_or bytes at 0
number_at Threshold bytes at = u16_le_at bytes at
number_at Truncation bytes at = get_or bytes at 0
number_at Samples bytes at = get_or bytes at 0

-- the number that the record has for the field of a bit
abbrev pub number_of : List ℕ → ℕ → ℕ
number_of bytes bit = number_at (field_of bit) bytes (offset_of (map_of bytes) bit)

-- a weight byte: the sign is bit 4, the magnitude bits 0 to 3
unfoldable pub weight_of : ℕ → ℤ
weight_of b = cond (bit_set b 4) (neg_ℤ (pos (b % 16))) (pos (b % 16))
