-- What the passes over a frame require, and what one row of squares comes to. No rule of the product stands here: it is what the board has checked by then.
use Rattle.std.specs.Prelude.{ℕ, ◌+◌, ◌*◌, ◌%◌, Bool, true, List, [], ◌∷◌, ◌≡◌, length, get_or}
use Rattle.laws.specs.Lists.{every}
use Rattle.settings.specs.Settings.{truncation_in_range}
use Rattle.engines.specs.Engine.{Engine}
use Rattle.engines.specs.SupportRange.{entry_in_range_in}
use Rattle.encoding.specs.Word.{word_of}
use Rattle.encoding.specs.Frame.{word_count}

-- what a frame is made of: the sums of width × height pixels, each in range; room for its words; even sides if binned; and an r in range
pub record Readable {E : Type 0} (engine : Engine E) (width height : ℕ) (binned : Bool) (r : ℕ) (sums : List E) (words : List ℕ) : Type 0 where
  pub pixels : length sums ≡ width * height
  pub room : length words ≡ word_count binned (width * height)
  pub even : binned ≡ true → (width % 2 ≡ 0) × (height % 2 ≡ 0)
  pub truncation : truncation_in_range r ≡ true
  pub entries : every (entry_in_range_in engine) sums ≡ true

-- word i of a row of squares, from its upper and its lower row of sums
abbrev pub row_word : {E : Type 0} → Engine E → ℕ → List E → List E → ℕ → ℕ
row_word engine r upper lower i =
    word_of r
    (engine.value_of (get_or upper (2 * i) engine.absent)
    ∷ engine.value_of (get_or upper (2 * i + 1) engine.absent)
    ∷ engine.value_of (get_or lower (2 * i) engine.absent)
    ∷ engine.value_of (get_or lower (2 * i + 1) engine.absent)
    ∷ [])
