use Rattle.std.proofs.Common.{rules}
use Rattle.operations.specs.Ramp.{start_of}
use Rattle.operations.proofs.Laws as OperationLaws
use Rattle.lent_board.proofs.Kept.{none_gives_99, kept}
use Rattle.lent_board.proofs.start.Goals as goal

pub write_board-requires : goal.write_board-requires
write_board-requires c =
    kept _ _ _ (start_of c.held-board.result) _ c.held-board.ensures c.start.ensures.answer c.start.ensures.board (c.in_ok-start.was)
    ((OperationLaws.laws).stays_sound.start _) (λ s. ((OperationLaws.laws).unsound_99 _ s).start)

pub returns-in_err-check_held-clause-answer : goal.returns-in_err-check_held-clause-answer
returns-in_err-check_held-clause-answer c = rw ((none_gives_99 _ _ _ c.check_held.ensures c.in_err-check_held.was).1.start) (search (rules, (none_gives_99 _ _ _ c.check_held.ensures c.in_err-check_held.was).0))

pub returns-in_err-check_held-clause-board : goal.returns-in_err-check_held-clause-board
returns-in_err-check_held-clause-board c = rw ((none_gives_99 _ _ _ c.check_held.ensures c.in_err-check_held.was).1.start)
