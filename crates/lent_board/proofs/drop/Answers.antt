use Rattle.std.proofs.Common.{rules}
use Rattle.operations.specs.Ramp.{drop_of}
use Rattle.operations.proofs.Laws as OperationLaws
use Rattle.lent_board.proofs.Kept.{none_gives_99, kept}
use Rattle.lent_board.proofs.drop.Goals as goal

pub write_board-requires : goal.write_board-requires
write_board-requires c =
    kept _ _ _ (drop_of c.held-board.result) _ c.held-board.ensures c.drop.ensures.answer c.drop.ensures.board (c.in_ok-drop.was)
    ((OperationLaws.laws).stays_sound.drop _) (λ s. ((OperationLaws.laws).unsound_99 _ s).drop)

pub returns-in_err-check_held-clause-answer : goal.returns-in_err-check_held-clause-answer
returns-in_err-check_held-clause-answer c = rw ((none_gives_99 _ _ _ c.check_held.ensures c.in_err-check_held.was).1.drop) (search (rules, (none_gives_99 _ _ _ c.check_held.ensures c.in_err-check_held.was).0))

pub returns-in_err-check_held-clause-board : goal.returns-in_err-check_held-clause-board
returns-in_err-check_held-clause-board c = rw ((none_gives_99 _ _ _ c.check_held.ensures c.in_err-check_held.was).1.drop)
