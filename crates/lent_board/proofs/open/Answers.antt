use Rattle.lent_board.proofs.Kept.{opened_lem}
use Rattle.lent_board.proofs.open.Goals as goal

pub write_board-requires : goal.write_board-requires
write_board-requires c =
    opened_lem c.args.words.now c.args.sides.width c.args.sides.height c.args.sides.binned _ _ _
    c.refuse_when.ensures c.in_ok-refuse_when.was c.open.ensures c.in_ok-open.was
