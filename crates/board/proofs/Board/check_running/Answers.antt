-- `board::Board::check_running` meets its contract.
use Rattle.board.proofs.Checked.{in_order}
use Rattle.board.proofs.Board.check_running.Goals as goal

pub returns : goal.returns
returns c =
    rw (c.refuse_when-2.ensures, c.area.ensures, ← in_order c.args.self.now c.args.sums, c.requires, ← c.in_ok-refuse_when.ensures)
