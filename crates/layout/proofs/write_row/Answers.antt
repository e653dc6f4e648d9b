-- `layout::write_row` meets its contract.
use Rattle.std.proofs.Common.{◌+◌, ◌*◌, rules, arith}
use Rattle.laws.specs.Lists.{each}
use Rattle.laws.proofs.Each.{each_store}
use Rattle.layout.specs.SupportRequires.{row_word}
use Rattle.layout.proofs.Held.{read_in_range, whole_is, whole_in_range}
use Rattle.layout.proofs.write_row.Goals as goal

pub loop-i-init : goal.loop-i-init
unfolding each
loop-i-init g c = search rules

pub whole-requires : goal.whole-requires
whole-requires g c = read_in_range g.E.Entry.engine c.args.upper.now (2 * c.loop-i.i) c.index-upper-k.result c.requires.upper_value (omega (arith, c.requires.upper_len)) c.index-upper-k.is

pub whole-requires-in-loop-i : goal.whole-requires-in-loop-i
whole-requires-in-loop-i g c = read_in_range g.E.Entry.engine c.args.upper.now (2 * c.loop-i.i + 1) c.index-upper-k-in-loop-i.result c.requires.upper_value (omega (arith, c.requires.upper_len)) c.index-upper-k-in-loop-i.is

pub whole-requires-in-loop-i-2 : goal.whole-requires-in-loop-i-2
whole-requires-in-loop-i-2 g c = read_in_range g.E.Entry.engine c.args.lower.now (2 * c.loop-i.i) c.index-lower-k.result c.requires.lower_value (omega (arith, c.requires.upper_len)) c.index-lower-k.is

pub whole-requires-in-loop-i-3 : goal.whole-requires-in-loop-i-3
whole-requires-in-loop-i-3 g c = read_in_range g.E.Entry.engine c.args.lower.now (2 * c.loop-i.i + 1) c.index-lower-k-in-loop-i.result c.requires.lower_value (omega (arith, c.requires.upper_len)) c.index-lower-k-in-loop-i.is

pub square_word-requires-clause-a_value : goal.square_word-requires-clause-a_value
square_word-requires-clause-a_value g c = (
  whole_in_range g.E.Entry.engine c.args.upper.now (2 * c.loop-i.i) c.index-upper-k.result c.requires.upper_value (omega (arith, c.requires.upper_len)) c.index-upper-k.is c.whole.result c.whole.ensures,
  whole_in_range g.E.Entry.engine c.args.upper.now (2 * c.loop-i.i + 1) c.index-upper-k-in-loop-i.result c.requires.upper_value (omega (arith, c.requires.upper_len)) c.index-upper-k-in-loop-i.is c.whole-in-loop-i.result c.whole-in-loop-i.ensures,
)

pub square_word-requires-clause-c_value : goal.square_word-requires-clause-c_value
square_word-requires-clause-c_value g c = (
  whole_in_range g.E.Entry.engine c.args.lower.now (2 * c.loop-i.i) c.index-lower-k.result c.requires.lower_value (omega (arith, c.requires.upper_len)) c.index-lower-k.is c.whole-in-loop-i-2.result c.whole-in-loop-i-2.ensures,
  whole_in_range g.E.Entry.engine c.args.lower.now (2 * c.loop-i.i + 1) c.index-lower-k-in-loop-i.result c.requires.lower_value (omega (arith, c.requires.upper_len)) c.index-lower-k-in-loop-i.is c.whole-in-loop-i-3.result c.whole-in-loop-i-3.ensures,
)

pub loop-i-preserved : goal.loop-i-preserved
loop-i-preserved g c =
    let l = c.loop-i in
    let e =
    simp (
      whole_is g.E.Entry.engine c.args.upper.now (2 * c.loop-i.i) c.index-upper-k.result c.requires.upper_value (omega (arith, c.requires.upper_len)) c.index-upper-k.is c.whole.result c.whole.ensures,
      whole_is g.E.Entry.engine c.args.upper.now (2 * c.loop-i.i + 1) c.index-upper-k-in-loop-i.result c.requires.upper_value (omega (arith, c.requires.upper_len)) c.index-upper-k-in-loop-i.is c.whole-in-loop-i.result c.whole-in-loop-i.ensures,
      whole_is g.E.Entry.engine c.args.lower.now (2 * c.loop-i.i) c.index-lower-k.result c.requires.lower_value (omega (arith, c.requires.upper_len)) c.index-lower-k.is c.whole-in-loop-i-2.result c.whole-in-loop-i-2.ensures,
      whole_is g.E.Entry.engine c.args.lower.now (2 * c.loop-i.i + 1) c.index-lower-k-in-loop-i.result c.requires.lower_value (omega (arith, c.requires.upper_len)) c.index-lower-k-in-loop-i.is c.whole-in-loop-i-3.result c.whole-in-loop-i-3.ensures,
    ) at c.square_word.ensures in
    each_store (row_word g.E.Entry.engine c.args.truncation c.args.upper.now c.args.lower.now) l.words l.i c.square_word.result (omega arith) l.invariant e
