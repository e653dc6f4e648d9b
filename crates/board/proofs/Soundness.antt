-- What `sound` says, part by part, and back.
--     Sound, sound_parts, sound_whole    a sound board
use Prim.Native.Nat.{◌*◌, ◌≤◌}
use mathlib.Core.Bool.{true}
use mathlib.Core.Path.{◌≡◌}
use borrow.Author.Tests.{leb-true, le-leb}
use native.Mathlib.Nat.{mul-le-mul}
use native.Mathlib.Omega.{arith}
use lib.Dec.{leb}
use Rattle.laws.proofs.Tests.{and_true}
pub use Rattle.sides.proofs.Parts.{Side, Sides, sides_parts}
use Rattle.settings.proofs.Parts.{InRange, in_range_parts, in_range_whole}
use Rattle.board.specs.declared.Board.{Board}
use Rattle.board.specs.Board.{board_area, wanted, sides_taken, idle_unfed, sound}

pub record Sound (b : Board) : Type 0 where
  pub sides : sides_taken b.sides.width b.sides.height b.sides.binned ≡ true
  pub waiting : InRange b.waiting
  pub in_force : InRange b.in_force
  pub fed : b.fed ≤ wanted b
  pub idle : idle_unfed b ≡ true

pub sound_parts : (b : Board) → sound b ≡ true → Sound b
unfolding sound
sound_parts b e =
    let p = and_true _ (idle_unfed b) e in
    let q = and_true _ (leb b.fed (wanted b)) p.0 in
    let r = and_true _ _ q.0 in
    let t = and_true _ _ r.0 in
    record {
      sides = t.0;
      waiting = in_range_parts _ t.1;
      in_force = in_range_parts _ r.1;
      fed = leb-true _ _ q.1;
      idle = p.1;
    }

pub sound_whole : (b : Board) → Sound b → sound b ≡ true
unfolding sound
sound_whole b s =
    rw (s.sides, in_range_whole _ s.waiting, in_range_whole _ s.in_force, le-leb _ _ s.fed) s.idle

module _ (b : Board) (s : Sound b) where
  pub sides_of : Sides b.sides.width b.sides.height b.sides.binned
  sides_of = sides_parts _ _ _ s.sides

  -- a ramp wants at most nine readings of each pixel
  pub wanted_nine : wanted b ≤ 9 * board_area b
  wanted_nine = mul-le-mul {n₂ = 9} s.in_force.samples_high (omega arith)
