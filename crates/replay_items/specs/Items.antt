-- The numbers of a line, and the items of a list: the numbers that follow its count.
use Rattle.std.specs.Prelude.{ℕ, ◌+◌, Bool, cond, ◌&&◌, List, leb, ℤ, pos, negsuc, neg_ℤ, get_or}
use Rattle.std.specs.Int.Signed.{le_z}
use Rattle.laws.specs.Lists.{each}

-- a number with no sign; a negative one becomes the largest of 64 bits
abbrev pub natural_of : ℤ → ℕ
natural_of (pos n) = n
natural_of (negsuc n) = 18446744073709551615

-- a number up to the highest; 0 for any other
abbrev pub up_to : ℕ → ℤ → ℕ
up_to highest z = cond (leb (natural_of z) highest) (natural_of z) 0

-- a number of 32 bits with a sign; 0 for any other
abbrev pub entry_of : ℤ → ℤ
entry_of z = cond (le_z (neg_ℤ (pos 2147483648)) z && le_z z (pos 2147483647)) z (pos 0)

-- an item as a byte, and as a number of 16 bits: the one after i others, or the first each time
abbrev pub byte_item : List ℤ → ℕ → ℕ
byte_item list i = up_to 255 (get_or list (i + 1) (pos 0))

abbrev pub short_item : Bool → List ℤ → ℕ → ℕ
short_item same list i = up_to 65535 (get_or list (cond same 1 (i + 1)) (pos 0))

-- 4,096 of them
abbrev pub byte_items : List ℤ → List ℕ
byte_items list = each (byte_item list) 4096

abbrev pub short_items : Bool → List ℤ → List ℕ
short_items same list = each (short_item same list) 4096
