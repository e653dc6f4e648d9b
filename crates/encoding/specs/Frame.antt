-- Which pixels a word is made of, and the frame of the sums.
use Rattle.std.specs.Prelude.{ℕ, ◌+◌, ◌*◌, ◌/◌, ◌%◌, Bool, true, false, List, [], ◌∷◌, map, ℤ, length, get_or}
use Rattle.laws.specs.Lists.{each}
use Rattle.engines.specs.Engine.{Engine, in_whole_numbers}
use Rattle.encoding.specs.Word.{word_of}

-- rows and columns are counted from 0, and pixels go row by row
abbrev pub pixel_at : ℕ → ℕ → ℕ → ℕ
pixel_at width row column = row * width + column

-- the square of rows 2j and 2j + 1 and columns 2i and 2i + 1
abbrev pub square_at : ℕ → ℕ → ℕ → List ℕ
square_at width j i =
    pixel_at width (2 * j) (2 * i)
    ∷ pixel_at width (2 * j) (2 * i + 1)
    ∷ pixel_at width (2 * j + 1) (2 * i)
    ∷ pixel_at width (2 * j + 1) (2 * i + 1)
    ∷ []

-- the pixels of word k: itself, or its square; squares go row by row, width / 2 to a row
unfoldable pub pixels_of : ℕ → Bool → ℕ → List ℕ
pixels_of width false k = k ∷ []
pixels_of width true k = square_at width (k / (width / 2)) (k % (width / 2))

-- how many words a frame of m pixels has: m, or m / 4 if binned
abbrev pub word_count : Bool → ℕ → ℕ
word_count false m = m
word_count true m = m / 4

-- word k of the frame: that of the whole numbers that its entries stand for
unfoldable pub word_in : {E : Type 0} → Engine E → ℕ → Bool → ℕ → List E → ℕ → ℕ
word_in engine width binned r sums k = word_of r (map (λ p. engine.value_of (get_or sums p engine.absent)) (pixels_of width binned k))

-- the frame of the sums, word by word
unfoldable pub frame_in : {E : Type 0} → Engine E → ℕ → Bool → ℕ → List E → List ℕ
frame_in engine width binned r sums = each (word_in engine width binned r sums) (word_count binned (length sums))

-- of sums in whole numbers
abbrev pub frame_of : ℕ → Bool → ℕ → List ℤ → List ℕ
frame_of width binned r sums = frame_in in_whole_numbers width binned r sums
