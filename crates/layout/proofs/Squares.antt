-- The squares of a board.
--     row_word_lem    a word of a row of squares is the frame's
--     row_left        a whole row of squares is left
use Prim.Native.Nat.{ℕ, ◌+◌, ◌*◌, ◌/◌, ◌%◌, ◌<◌, ◌≤◌}
use mathlib.Core.Bool.{true}
use mathlib.Core.List.{List}
use mathlib.Core.Path.{◌≡◌, ap, ◌∙◌}
use native.Mathlib.Nat.{mul_assoc, mul_left_comm, add-mul, one-mul}
use native.Mathlib.Omega.{arith}
use lib.ListN.{take, drop}
use Rattle.laws.proofs.Numbers.{quotient, rest, room}
use Rattle.laws.proofs.Parts.{part_at}
use Rattle.engines.specs.Engine.{Engine}
use Rattle.encoding.specs.Frame.{pixels_of, word_in}
use Rattle.encoding.proofs.Grid.{sides}
use Rattle.layout.specs.SupportRequires.{row_word}

module _ {E : Type 0} (engine : Engine E) (w h row i r : ℕ) (sums : List E) (hw : w ≡ 2 * h) (hh : w / 2 ≡ h) (hi : i < h) where
  odd : (2 * row + 1) * w ≡ 2 * row * w + w
  odd = omega (arith, add-mul (2 * row) 1 w, one-mul w)

  pub row_word_lem : row_word engine r (take w (drop (2 * row * w) sums)) (take w (drop (2 * row * w + w) sums)) i ≡ word_in engine w true r sums (row * h + i)
  unfolding word_in pixels_of
  row_word_lem =
      let at = 2 * row * w in
      rw (hh, quotient h row i hi, rest h row i hi, odd)
      (rw (part_at sums at w (2 * i) engine.absent (omega arith), part_at sums at w (2 * i + 1) engine.absent (omega arith), part_at sums (at + w) w (2 * i) engine.absent (omega arith), part_at sums (at + w) w (2 * i + 1) engine.absent (omega arith)))

-- a whole row of squares is left
pub row_left : (w h row n m : ℕ) → (w % 2 ≡ 0) × (h % 2 ≡ 0) → n ≡ w * h → m ≡ w * h / 4 → row < h / 2
    → (w ≡ 2 * (w / 2)) × (row * (w / 2) + w / 2 ≤ m) × (2 * row * w + w + w ≤ n)
row_left w h row n m e f g k =
    let s = sides w h e in
    let r = room row (h / 2) (w / 2) k in
    let d : row * w ≡ 2 * (row * (w / 2)) = ap (λ (x : ℕ). row * x) s.0 ∙ mul_left_comm row 2 (w / 2) in
    omega (arith, mul_assoc 2 row w)
