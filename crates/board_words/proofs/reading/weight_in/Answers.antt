use Rattle.board_words.specs.Words.{word_at}
use Rattle.board_words.proofs.Fitting.{weight_cast, weight_has_32}
use Rattle.board_words.proofs.reading.weight_in.Goals as goal

pub overflow_cast-result : goal.overflow_cast-result
overflow_cast-result c =
    let w = weight_cast (word_at c.args.words.now c.args.i) (weight_has_32 _ c.requires.0 c.requires.1 c.args.i c.requires.2) in
    rw w.whole w.small

pub returns : goal.returns
returns c =
    let w = weight_cast (word_at c.args.words.now c.args.i) (weight_has_32 _ c.requires.0 c.requires.1 c.args.i c.requires.2) in
    rw (w.whole, w.cast)
