-- `layout::write_pixels` meets its contract.
use Rattle.std.proofs.Common.{◌≡◌, ◌∙◌, sym, rules, arith, length, false}
use lib.Seq.{take_all}
use Rattle.laws.specs.Lists.{each}
use Rattle.laws.proofs.Each.{each_store}
use Rattle.encoding.specs.Frame.{pixels_of, word_in, frame_in}
use Rattle.layout.proofs.Held.{read_in_range, whole_is, whole_in_range}
use Rattle.layout.proofs.write_pixels.Goals as goal

pub loop-i-init : goal.loop-i-init
unfolding each
loop-i-init g c = search rules

pub whole-requires : goal.whole-requires
whole-requires g c = read_in_range g.E.Entry.engine c.args.sums.now c.loop-i.i c.index-sums-i.result c.requires.entries (omega (arith, c.requires.pixels, c.requires.room)) c.index-sums-i.is

pub pixel_word-requires-clause-value : goal.pixel_word-requires-clause-value
pixel_word-requires-clause-value g c =
    whole_in_range g.E.Entry.engine c.args.sums.now c.loop-i.i c.index-sums-i.result c.requires.entries (omega (arith, c.requires.pixels, c.requires.room)) c.index-sums-i.is c.whole.result c.whole.ensures

pub loop-i-preserved : goal.loop-i-preserved
unfolding pixels_of word_in
loop-i-preserved g c =
    let l = c.loop-i in
    let engine = g.E.Entry.engine in
    let h = whole_is engine c.args.sums.now l.i c.index-sums-i.result c.requires.entries (omega (arith, c.requires.pixels, c.requires.room)) c.index-sums-i.is c.whole.result c.whole.ensures in
    let e = rw h at c.pixel_word.ensures in
    each_store (word_in engine c.args.sides.width false c.args.truncation c.args.sums.now) l.words l.i c.pixel_word.result (omega arith) l.invariant e

pub returns : goal.returns
unfolding frame_in
returns g c =
    let n : c.loop-i.i ≡ length c.args.sums.now = omega (arith, c.requires.pixels, c.requires.room) in
    sym (take_all c.loop-i.i c.loop-i.words (omega arith)) ∙ c.loop-i.invariant ∙ rw n
