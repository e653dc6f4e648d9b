-- `board::Board::wanted` meets its contract.
use Prim.Native.Nat.{◌*◌, ◌≤◌}
use native.Mathlib.Nat.{mul-le-mul}
use native.Mathlib.Omega.{arith}
use Rattle.board.specs.Board.{board_area, of_taken_sides}
use Rattle.sides.specs.Sides.{max_area}
use Rattle.sides.proofs.Parts.{area_few}
use Rattle.board.proofs.Board.wanted.Goals as goal

pub overflow_mul-result : goal.overflow_mul-result
overflow_mul-result c =
    let b = c.args.self.now in
    let m : b.in_force.samples * of_taken_sides b (board_area b) ≤ 65535 * max_area = mul-le-mul {n₂ = 65535} (omega arith) (area_few b.sides.width b.sides.height b.sides.binned) in
    rw (c.from.ensures, c.area.ensures) (record { fits = omega arith })
