use Rattle.std.proofs.Common.{w64, arith}
use Rattle.laws.proofs.Ints.{back, to_z_nat}
use Rattle.board.proofs.Soundness.{sound_parts, sides_of, wanted_nine}
use Rattle.board_words.proofs.writing.words_of_first.Goals as goal

pub overflow_cast-result : goal.overflow_cast-result
overflow_cast-result c =
    let s = sides_of c.args.board (sound_parts c.args.board c.requires) in
    omega (arith, s.width.high)

pub overflow_cast-result-2 : goal.overflow_cast-result-2
overflow_cast-result-2 c =
    let s = sides_of c.args.board (sound_parts c.args.board c.requires) in
    omega (arith, s.height.high)

pub overflow_cast-result-3 : goal.overflow_cast-result-3
overflow_cast-result-3 c =
    let p = sound_parts c.args.board c.requires in
    let s = sides_of c.args.board p in
    omega (arith, p.fed, wanted_nine c.args.board p, s.few)

pub returns : goal.returns
returns c =
    let p = sound_parts c.args.board c.requires in
    let s = sides_of c.args.board p in
    rw (
      to_z_nat w64 c.args.board.sides.width (omega (arith, s.width.high)),
      to_z_nat w64 c.args.board.sides.height (omega (arith, s.height.high)),
      to_z_nat w64 c.args.board.fed (omega (arith, p.fed, wanted_nine c.args.board p, s.few)),
      back w64 c.truth_word.result c.truth_word.type_inv,
      back w64 c.truth_word-2.result c.truth_word-2.type_inv,
      c.truth_word.ensures,
      c.truth_word-2.ensures,
    )
