-- The range of an entry that the passes work with. No rule of the product stands here: it is what holds of an entry that is possible after at most nine samples.
use Rattle.std.specs.Prelude.{Bool, ◌&&◌, ◌||◌, ℤ, pos, neg_ℤ}
use Rattle.std.specs.Int.Signed.{le_z}
use Rattle.settings.specs.Settings.{max_samples}
use Rattle.entries.specs.Mark.{mark_of}

-- a mark of sample 1 to 9, or a sum of which four add up within 32 bits
unfoldable pub entry_in_range : ℤ → Bool
entry_in_range e =
    mark_of 1 max_samples e
    || le_z (neg_ℤ (pos 268435456)) e && le_z e (pos 268435456)
