-- The pixels of a word.
--     sides            what even sides hold
--     pixels_on        the pixels of a word lie on the board
--     pixels_some      there is at least one
use Prim.Native.Nat.{ℕ, ◌*◌, ◌/◌, ◌%◌, ◌≤◌, ◌<◌}
use mathlib.Core.Bool.{Bool, true, false}
use mathlib.Core.Path.{◌≡◌, refl, ap, ◌∙◌}
use native.Mathlib.Nat.{mul_comm, div-lt_iff_lt-mul, mod-lt}
use native.Mathlib.Omega.{arith}
use lib.Arith.{digits_lt}
use lib.ListN.{length}
use Rattle.laws.proofs.Parts.{All}
use Rattle.encoding.specs.Frame.{pixel_at, pixels_of, word_count}
use Rattle.laws.proofs.Numbers.{quarter}

-- the sides: two halves to the width, and four pixels to a square
pub sides : (w k : ℕ) → (w % 2 ≡ 0) × (k % 2 ≡ 0) → (w ≡ 2 * (w / 2)) × (w * k ≡ 4 * (k / 2 * (w / 2)))
sides w k h = let p : w ≡ 2 * (w / 2) = omega arith in let q : k ≡ 2 * (k / 2) = omega arith in (p, ap (λ (n : ℕ). n * k) p ∙ ap (λ (n : ℕ). 2 * (w / 2) * n) q ∙ quarter (w / 2) (k / 2))

-- a row and a column of the board
on_board : (w h row col : ℕ) → row < h → col < w → pixel_at w row col < w * h
on_board w h row col a b = rw (mul_comm w h) (digits_lt a b)

pub pixels_on : (width height : ℕ) (binned : Bool) → 1 ≤ width → (binned ≡ true → (width % 2 ≡ 0) × (height % 2 ≡ 0))
    → (j : ℕ) → j < word_count binned (width * height) → All (λ p. p < width * height) (pixels_of width binned j)
unfolding pixels_of
pixels_on w h false l e j k = (k, tt)
pixels_on w h true l e j k =
    let a = w / 2 in
    let b = h / 2 in
    let s = sides w h (e refl) in
    let eh = e refl in
    let ha : 0 < a = omega arith in
    let row : j / a < b = (div-lt_iff_lt-mul {k = a} {x = j} {y = b} ha).1 (omega arith) in
    let col : j % a < a = mod-lt j ha in
    let on = on_board w h in
    (on _ _ (omega arith) (omega arith), (on _ _ (omega arith) (omega arith), (on _ _ (omega arith) (omega arith), (on _ _ (omega arith) (omega arith), tt))))

pub pixels_some : (width : ℕ) (binned : Bool) (j : ℕ) → 0 < length (pixels_of width binned j)
unfolding pixels_of
pixels_some w false j = omega arith
pixels_some w true j = omega arith
