-- Each bound fits, and one range tells.
use Prim.Native.Nat.{ℕ, ◌+◌, ◌*◌, ◌≤◌}
use mathlib.Core.Path.{◌≡◌, ◌∙◌}
use native.Mathlib.Omega.{arith}
use lib.IntN.{ℤ, pos, neg_ℤ, ◌+ℤ◌, ◌-ℤ◌}
use mir.Syntax.{w64}
use mir.Val.{SFits, to_z}
use mir.Facts.{to_z-of_z}
use Rattle.laws.proofs.Ints.{sum, neg_up, neg_dn, fits, back, to_z_nat}
use Rattle.entries.specs.Possible.{max_product}
use Rattle.entries.proofs.Possible.{gap, gap_is}
use Rattle.float_entries.proofs.Windows.{window_is}
use Rattle.float_entries.proofs.are_possible.Goals as goal

module _ (k : ℕ) (few : k ≤ 9) where
  abbrev span : ℤ
  span = pos (k * max_product)

  samples : to_z w64 k ≡ pos k
  samples = to_z_nat w64 k (omega arith)

  product : SFits w64 span
  product = record { sfits = omega arith }

  top : SFits w64 (pos (1073741824 + k))
  top = record { sfits = omega arith }

  high : SFits w64 (pos 128 +ℤ span)
  high = record { sfits = omega arith }

  between : SFits w64 (gap k)
  between = fits w64 _ (omega (arith, gap_is k))

  low : SFits w64 (pos 128 -ℤ span)
  low = fits w64 _ (omega (arith, sum (pos 128) (neg_ℤ span), neg_up span, neg_dn span))

  lowest : SFits w64 (pos 4841369601570766848 +ℤ (pos 128 -ℤ span))
  lowest = fits w64 _ (omega (arith, sum (pos 4841369601570766848) (pos 128 -ℤ span), sum (pos 128) (neg_ℤ span), neg_up span, neg_dn span))

  highest : SFits w64 (pos 4841369601570766848 +ℤ (pos 128 +ℤ span))
  highest = record { sfits = omega arith }

pub returns : goal.returns
returns c =
    let k = c.args.k in
    let few : k ≤ 9 = c.requires in
    let m = c.lowered-moved in
    let moved = back w64 m.result m.type_inv ∙ simp (samples k few, to_z-of_z, c.ranges.bits, product k few, top k few, high k few, between k few) at m.ensures in
    rw moved (simp (samples k few, to_z-of_z, product k few, low k few, high k few, lowest k few, highest k few) (window_is k few c.args.bits))
