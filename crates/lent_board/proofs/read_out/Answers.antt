use Rattle.std.proofs.Common.{rules}
use Rattle.operations.specs.ReadOut.{read_out_in}
use Rattle.operations.proofs.Laws.{read_out_sound, read_out_99}
use Rattle.lent_board.proofs.Kept.{none_99, kept}
use Rattle.lent_board.proofs.read_out.Goals as goal

pub write_board-requires : goal.write_board-requires
write_board-requires g c =
    kept _ _ _ (read_out_in g.E.Entry.engine c.held-board.result c.args.sums.now c.args.output.now) _ c.held-board.ensures c.read_out.ensures.answer c.read_out.ensures.board (c.in_ok-read_out.was)
    (read_out_sound g.E.Entry.engine _ _ _) (λ s. (read_out_99 g.E.Entry.engine _ _ _ s).0)

pub returns-in_err-check_held-clause-answer : goal.returns-in_err-check_held-clause-answer
returns-in_err-check_held-clause-answer g c =
    let none = none_99 _ _ _ c.check_held.ensures c.in_err-check_held.was in
    rw (read_out_99 g.E.Entry.engine _ c.args.sums.now c.args.output.now none.1).0 (search (rules, none.0))

pub returns-in_err-check_held-clause-board : goal.returns-in_err-check_held-clause-board
returns-in_err-check_held-clause-board g c = rw (read_out_99 g.E.Entry.engine _ c.args.sums.now c.args.output.now (none_99 _ _ _ c.check_held.ensures c.in_err-check_held.was).1).0

pub returns-in_err-check_held-clause-output : goal.returns-in_err-check_held-clause-output
returns-in_err-check_held-clause-output g c = rw (read_out_99 g.E.Entry.engine _ c.args.sums.now c.args.output.now (none_99 _ _ _ c.check_held.ensures c.in_err-check_held.was).1).1
