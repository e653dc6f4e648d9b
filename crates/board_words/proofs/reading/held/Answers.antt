-- The words are as many as a board takes, and those of settings fit.
use Rattle.std.proofs.Common.{arith, rules}
use Rattle.board_words.specs.Words.{held}
use Rattle.board_words.proofs.Fitting.{as_many, settings_fit_in_board}
use Rattle.board_words.proofs.reading.held.Goals as goal

pub split_at-requires : goal.split_at-requires
split_at-requires c = omega (arith, as_many c.args.words.now c.requires)

pub split_at-requires-2 : goal.split_at-requires-2
split_at-requires-2 c = omega (arith, as_many c.args.words.now c.requires, c.split_at.ensures.back_len)

pub settings_in-requires : goal.settings_in-requires
settings_in-requires c =
    let p = settings_fit_in_board c.args.words.now c.requires in
    (c.split_at-2.ensures.front_len, rw (c.split_at-2.ensures.front, c.split_at.ensures.back) p.0)

pub settings_in-requires-2 : goal.settings_in-requires-2
settings_in-requires-2 c =
    let p = settings_fit_in_board c.args.words.now c.requires in (
      omega (arith, c.split_at-2.ensures.back_len, c.split_at.ensures.back_len, as_many c.args.words.now c.requires),
      rw (c.split_at-2.ensures.back, c.split_at.ensures.back) p.1,
    )

pub returns : goal.returns
unfolding held
returns c = rw c.requires (search rules)
