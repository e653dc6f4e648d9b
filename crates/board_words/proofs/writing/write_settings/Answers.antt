-- Each call gives the word of its weight, and changes nothing.
use Rattle.std.proofs.Common.{rules, w64, ◌+◌}
use Rattle.laws.proofs.Ints.{back}
use Rattle.settings.specs.Settings.{weight_at}
use Rattle.laws.proofs.Calls.{answers_each}
use Rattle.board_words.proofs.writing.write_settings.Goals as goal

pub returns : goal.returns
returns c =
    rw (
      c.copy_from_slice.ensures.after,
      c.copy_from_slice-2.ensures.after,
      answers_each _ _ (λ i. weight_at c.args.settings (i + 1)) (λ i y q k. search rules) c.from_fn-nine.result 9 c.from_fn-nine.ensures.items,
      back w64 c.into.result c.into.type_inv,
      c.into.ensures,
      back w64 c.into-2.result c.into-2.type_inv,
      c.into-2.ensures,
      back w64 c.into-3.result c.into-3.type_inv,
      c.into-3.ensures,
    )
