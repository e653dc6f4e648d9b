-- The sides that Open takes, part by part.
--     Side, Sides, sides_parts     each of them, and how many pixels they make
--     area_few                     the bound of what the code works out of the sides
use Prim.Native.Nat.{ℕ, ◌*◌, ◌%◌, ◌≤◌, ◌<◌}
use mathlib.Core.Bool.{Bool, true, not, ◌&&◌}
use mathlib.Core.Path.{◌≡◌}
use borrow.Author.Tests.{leb-true, eqb-false, not-true}
use native.Mathlib.Nat.{mul-le-mul, mul-pos}
use native.Mathlib.Omega.{arith}
use lib.Dec.{leb, eqb}
use Rattle.laws.proofs.Tests.{cases, and_true}
use Rattle.sides.specs.Sides.{max_side, max_area, side_taken, sides_taken, of_sides}

pub record Side (binned : Bool) (n : ℕ) : Type 0 where
  pub low : 1 ≤ n
  pub high : n ≤ max_side
  pub even : binned ≡ true → n % 2 ≡ 0

side_parts : (binned : Bool) (n : ℕ) → side_taken binned n ≡ true → Side binned n
side_parts binned n e =
    let a = and_true (leb 1 n && leb n max_side) (not (binned && eqb (n % 2) 1)) e in
    let b = and_true (leb 1 n) (leb n max_side) a.0 in
    record {
      low = leb-true _ _ b.0;
      high = leb-true _ _ b.1;
      even = λ q. omega (arith, eqb-false (n % 2) 1 (rw q at (not-true (binned && eqb (n % 2) 1) a.1)));
    }

pub record Sides (w h : ℕ) (binned : Bool) : Type 0 where
  pub width : Side binned w
  pub height : Side binned h
  pub some : 0 < w * h
  pub few : w * h ≤ max_area

pub sides_parts : (w h : ℕ) (binned : Bool) → sides_taken w h binned ≡ true → Sides w h binned
unfolding sides_taken
sides_parts w h binned e =
    let p = and_true (side_taken binned w) (side_taken binned h) e in
    let x = side_parts binned w p.0 in
    let y = side_parts binned h p.1 in
    record {
      width = x;
      height = y;
      some = mul-pos x.low y.low;
      few = mul-le-mul {n₂ = max_side} x.high y.high;
    }

module _ (w h : ℕ) (binned : Bool) where
  pub area_few : of_sides w h binned (w * h) ≤ max_area
  area_few = cases (sides_taken w h binned) (λ e. rw e (sides_parts w h binned e).few) (λ e. rw e (omega arith))
