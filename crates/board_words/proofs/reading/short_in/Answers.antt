use Rattle.board_words.specs.Words.{word_at}
use Rattle.board_words.proofs.Fitting.{short_cast, short_has}
use Rattle.board_words.proofs.reading.short_in.Goals as goal

pub overflow_cast-result : goal.overflow_cast-result
overflow_cast-result c =
    let w = short_cast (word_at c.args.words.now c.args.i) (short_has _ c.requires.0 c.requires.1 c.args.i c.requires.2 c.requires.3) in
    rw w.whole w.small

pub returns : goal.returns
returns c =
    let w = short_cast (word_at c.args.words.now c.args.i) (short_has _ c.requires.0 c.requires.1 c.args.i c.requires.2 c.requires.3) in
    rw w.whole w.cast
