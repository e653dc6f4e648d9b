use Rattle.std.proofs.Common.{rules}
use Rattle.operations.specs.Update.{update_of}
use Rattle.operations.proofs.Laws as OperationLaws
use Rattle.lent_board.proofs.Kept.{none_gives_99, kept}
use Rattle.lent_board.proofs.update.Goals as goal

pub write_board-requires : goal.write_board-requires
write_board-requires c =
    kept _ _ _ (update_of c.held-board.result c.args.bytes.now) _ c.held-board.ensures c.update.ensures.answer c.update.ensures.board (c.in_ok-update.was)
    ((OperationLaws.laws).stays_sound.update _ _) (λ s. ((OperationLaws.laws).unsound_99 _ s).update _)

pub returns-in_err-check_held-clause-answer : goal.returns-in_err-check_held-clause-answer
returns-in_err-check_held-clause-answer c = rw ((none_gives_99 _ _ _ c.check_held.ensures c.in_err-check_held.was).1.update c.args.bytes.now) (search (rules, (none_gives_99 _ _ _ c.check_held.ensures c.in_err-check_held.was).0))

pub returns-in_err-check_held-clause-board : goal.returns-in_err-check_held-clause-board
returns-in_err-check_held-clause-board c = rw ((none_gives_99 _ _ _ c.check_held.ensures c.in_err-check_held.was).1.update c.args.bytes.now)
