-- Each bound fits, and one test tells.
use Prim.Native.Nat.{ℕ, ◌+◌, ◌*◌, ◌%◌, ◌≤◌}
use native.Mathlib.Omega.{arith}
use mathlib.Core.Path.{◌≡◌, ◌∙◌}
use lib.IntN.{ℤ, pos, neg_ℤ, ◌+ℤ◌, ◌-ℤ◌}
use mir.Syntax.{w32}
use mir.Val.{SFits, to_z, of_z}
use mir.Facts.{to_z-of_z, Fits-of_z}
use Rattle.std.specs.Int.{int_wrap}
use Rattle.std.proofs.lemmas.Int.{wrapping_add-bits, wrapping_add_is}
use Rattle.laws.proofs.Ints.{sum, fits, fitted, to_z_nat}
use Rattle.entries.specs.Possible.{max_product}
use Rattle.entries.proofs.Possible.{gap, gap_is, lowered_is}
use Rattle.entries.proofs.Wrapped.{one_test}
use Rattle.entries.proofs.is_possible.Goals as goal

module _ (k : ℕ) (few : k ≤ 9) where
  abbrev span : ℤ
  span = pos (k * max_product)

  samples : to_z w32 k ≡ pos k
  samples = to_z_nat w32 k (omega arith)

  product : SFits w32 span
  product = record { sfits = omega arith }

  top : SFits w32 (pos (1073741824 + k))
  top = record { sfits = omega arith }

  high : SFits w32 (pos 128 +ℤ span)
  high = record { sfits = omega arith }

  between : SFits w32 (gap k)
  between = fits w32 _ (omega (arith, gap_is k))

  width : SFits w32 (pos (2 * (k * max_product)))
  width = record { sfits = omega arith }

  below : SFits w32 (span -ℤ pos 128)
  below = fits w32 _ (omega (arith, sum span (neg_ℤ (pos 128))))

  bound : SFits w32 (neg_ℤ (pos 2147483648) +ℤ pos (2 * (k * max_product)))
  bound = fits w32 _ (omega (arith, sum (neg_ℤ (pos 2147483648)) (pos (2 * (k * max_product)))))

-- what the two additions leave
wrapped : (y b : ℤ) → SFits w32 y → SFits w32 b
    → to_z w32 ((of_z w32 y + (2147483648 + of_z w32 b) % 4294967296) % 4294967296) ≡ int_wrap w32 (y +ℤ int_wrap w32 (neg_ℤ (pos 2147483648) +ℤ b))
wrapped y b f g =
    let m = (2147483648 + of_z w32 b) % 4294967296 in
    let inner : to_z w32 m ≡ int_wrap w32 (neg_ℤ (pos 2147483648) +ℤ b) = wrapping_add_is w32 (neg_ℤ (pos 2147483648)) b (record { sfits = omega arith }) g in
    wrapping_add-bits w32 (of_z w32 y) m (Fits-of_z f).fits (omega arith) ∙ rw (inner, to_z-of_z f)

pub returns : goal.returns
returns c =
    let k = c.args.k in
    let few : k ≤ 9 = c.requires in
    let y = c.lowered-moved.result in
    let fy : SFits w32 y = record { sfits = c.lowered-moved.type_inv } in
    let told = simp (samples k few, to_z-of_z, c.ranges.entry, product k few, top k few, high k few, between k few) at c.lowered-moved.ensures in
    let r = fitted w32 y fy in
    rw (samples k few)
    (simp (to_z-of_z, product k few, width k few, bound k few)
    (rw (wrapped y (span k few -ℤ pos 128) fy (below k few), one_test (k * max_product) (omega arith) y (omega arith) (omega arith), told) (lowered_is k few c.args.entry)))
