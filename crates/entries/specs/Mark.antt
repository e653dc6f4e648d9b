-- A *mark* stands in the place of a sum once a pixel's reading was above the threshold.
use Rattle.std.specs.Prelude.{ℕ, ◌+◌, ◌-◌, Bool, cond, ◌&&◌, ℤ, pos, negsuc, Option, Some, None}
use Rattle.std.specs.Int.Signed.{le_z}

-- what a mark has above its sample
abbrev pub mark_base : ℕ
mark_base = 1073741824

-- the mark of sample n, n from 1
abbrev pub mark : ℕ → ℤ
mark n = pos (mark_base + n)

-- an entry from the mark of sample 1 on is marked
abbrev pub marked : ℤ → Bool
marked e = le_z (mark 1) e

-- the mark of one of the samples a to b
abbrev pub mark_of : ℕ → ℕ → ℤ → Bool
mark_of a b e = le_z (mark a) e && le_z e (mark b)

-- the sample of a marked entry; none for any other
unfoldable pub sample_of : ℤ → Option ℕ
sample_of (pos e) = cond (marked (pos e)) (Some (e - mark_base)) None
sample_of (negsuc e) = None
