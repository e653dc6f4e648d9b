-- Feed, one reading at a time. The definitions hold for any kind of entry and any step; `absent` stands for an entry past the end, where none is asked for.
use Rattle.std.specs.Prelude.{ℕ, suc, ◌/◌, ◌%◌, List, [], ◌∷◌, ℤ, length, get_or, set}
use Rattle.settings.specs.declared.Settings.{Settings}
use Rattle.engines.specs.Engine.{Engine, step_in, in_whole_numbers}

-- the array comes whole, row by row, for each sample: reading number f (from 0) of a ramp on m pixels is that of pixel f mod m at sample f div m + 1
abbrev pub pixel_of_reading : ℕ → ℕ → ℕ
pixel_of_reading m f = f % m

abbrev pub sample_of_reading : ℕ → ℕ → ℕ
sample_of_reading m f = suc (f / m)

-- the sums after reading number f, which is x
unfoldable pub feed_one : {E : Type 0} → E → (ℕ → E → ℕ → E) → ℕ → ℕ → ℕ → List E → List E
feed_one absent step m f x sums =
    let p = pixel_of_reading m f in
    set sums p (step (sample_of_reading m f) (get_or sums p absent) x)

-- the readings from number f on
unfoldable pub feed_all : {E : Type 0} → E → (ℕ → E → ℕ → E) → ℕ → ℕ → List ℕ → List E → List E
feed_all absent step m f [] sums = sums
feed_all absent step m f (x ∷ xs) sums = feed_all absent step m (suc f) xs (feed_one absent step m f x sums)

-- the sums, one for each pixel, after the readings from number f on
abbrev pub sums_in : {E : Type 0} → Engine E → Settings → ℕ → List ℕ → List E → List E
sums_in engine s f readings sums = feed_all engine.absent (step_in engine s) (length sums) f readings sums

-- in whole numbers
abbrev pub sums_after : Settings → ℕ → List ℕ → List ℤ → List ℤ
sums_after s f readings sums = sums_in in_whole_numbers s f readings sums
