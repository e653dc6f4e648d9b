use mathlib.Core.Path.{sym, ◌∙◌}
use borrow.Author.Tests.{not-true}
use lib.Ieee.{nan, is_nan}
use lib.ListN.{get_or}
use Rattle.laws.proofs.Every.{every_at}
use Rattle.engines.specs.Engine.{in_floats}
use Rattle.engines.specs.SupportPasses.{possible_after_in}
use Rattle.float_entries.proofs.Lanes.{is_number}
use Rattle.float_entries.proofs.Chunks.{one_less, none_left}
use Rattle.float_entries.proofs.each_possible.Goals as goal

pub is_possible_number-good-requires-clause-number : goal.is_possible_number-good-requires-clause-number
is_possible_number-good-requires-clause-number c =
    let i = c.loop-entry.entry-index in
    not-true (is_nan (get_or c.args.sums.now i nan)) (every_at is_number c.args.sums.now c.requires.numbers nan i c.loop-entry-test.true)

pub loop-entry-preserved : goal.loop-entry-preserved
loop-entry-preserved c =
    let l = c.loop-entry in
    l.invariant ∙ rw c.is_possible_number-good.ensures (one_less (possible_after_in in_floats c.args.k) c.args.sums.now l.entry-index nan l.good c.loop-entry-test.true)

pub returns : goal.returns
returns c =
    let l = c.loop-entry in
    sym (l.invariant ∙ none_left (possible_after_in in_floats c.args.k) c.args.sums.now l.entry-index l.good c.loop-entry-test.false)
