use Rattle.std.proofs.Common.{rules, ◌∙◌}
use Rattle.operations.proofs.Laws.{feed_99}
use Rattle.lent_board.proofs.Kept.{unsound_99, none_99}
use Rattle.lent_board.proofs.FedWord.{asked, fed_word}
use Rattle.lent_board.proofs.feed.Goals as goal

pub write_fed-requires : goal.write_fed-requires
write_fed-requires g c =
    asked g.E.Entry.engine _ _ _ c.args.readings.now c.args.sums.now _ c.held-board.ensures c.feed_sound.ensures.answer c.feed_sound.ensures.board c.in_ok-feed_sound.was

pub returns-clause-board : goal.returns-clause-board
returns-clause-board g c =
    c.write_fed.ensures
    ∙ fed_word g.E.Entry.engine _ _ _ c.args.readings.now c.args.sums.now _ c.held-board.ensures c.feed_sound.ensures.answer c.feed_sound.ensures.board c.in_ok-feed_sound.was

pub returns-in_err-check_held-clause-answer : goal.returns-in_err-check_held-clause-answer
returns-in_err-check_held-clause-answer g c =
    let none = none_99 _ _ _ c.check_held.ensures c.in_err-check_held.was in
    rw (feed_99 g.E.Entry.engine _ c.args.readings.now c.args.sums.now none.1).0 (search (rules, none.0))

pub returns-in_err-check_held-clause-board : goal.returns-in_err-check_held-clause-board
returns-in_err-check_held-clause-board g c = rw (feed_99 g.E.Entry.engine _ c.args.readings.now c.args.sums.now (none_99 _ _ _ c.check_held.ensures c.in_err-check_held.was).1).0

pub returns-in_err-check_held-clause-sums : goal.returns-in_err-check_held-clause-sums
returns-in_err-check_held-clause-sums g c = rw (feed_99 g.E.Entry.engine _ c.args.readings.now c.args.sums.now (none_99 _ _ _ c.check_held.ensures c.in_err-check_held.was).1).1

pub returns-in_err-check_sound-clause-answer : goal.returns-in_err-check_sound-clause-answer
returns-in_err-check_sound-clause-answer g c =
    let none = unsound_99 _ _ _ c.check_sound.ensures c.in_err-check_sound.was in
    rw (← c.held-board.ensures, (feed_99 g.E.Entry.engine _ c.args.readings.now c.args.sums.now none.1).0) (search (rules, none.0))

pub returns-in_err-check_sound-clause-board : goal.returns-in_err-check_sound-clause-board
returns-in_err-check_sound-clause-board g c =
    rw (← c.held-board.ensures, (feed_99 g.E.Entry.engine _ c.args.readings.now c.args.sums.now (unsound_99 _ _ _ c.check_sound.ensures c.in_err-check_sound.was).1).0)

pub returns-in_err-check_sound-clause-sums : goal.returns-in_err-check_sound-clause-sums
returns-in_err-check_sound-clause-sums g c =
    rw (← c.held-board.ensures, (feed_99 g.E.Entry.engine _ c.args.readings.now c.args.sums.now (unsound_99 _ _ _ c.check_sound.ensures c.in_err-check_sound.was).1).1)
