-- Each call gives its weight, and changes nothing.
use Rattle.std.proofs.Common.{rules}
use Rattle.board_words.specs.Words.{word_at}
use Rattle.laws.proofs.Calls.{answers_each}
use Rattle.board_words.proofs.reading.settings_in.Goals as goal

pub returns : goal.returns
returns c =
    rw (answers_each _ _ (word_at c.args.words.now) (λ i y q k. search rules) c.from_fn.result 9 c.from_fn.ensures.items)
    (search rules)
