-- `layout::write_squares` meets its contract.
use Rattle.std.proofs.Common.{◌≡◌, ◌+◌, ◌*◌, ◌/◌, ◌∙◌, refl, sym, rules, arith, length, true, take, drop}
use native.Mathlib.Nat.{add-sub_cancel_left, add-mul, one-mul}
use lib.Seq.{take_all}
use Rattle.laws.specs.Lists.{each}
use Rattle.laws.proofs.Each.{each_part}
use Rattle.laws.proofs.Every.{every_take, every_drop}
use Rattle.laws.proofs.Parts.{part_length}
use Rattle.encoding.specs.Frame.{word_in, frame_in}
use Rattle.encoding.proofs.Grid.{sides}
use Rattle.layout.specs.SupportRequires.{row_word}
use Rattle.layout.proofs.Squares.{row_word_lem, row_left}
use Rattle.layout.proofs.write_squares.Goals as goal

pub loop-row-init : goal.loop-row-init
unfolding each
loop-row-init g c = search rules

pub overflow_add-middle-in-loop-row : goal.overflow_add-middle-in-loop-row
overflow_add-middle-in-loop-row g c =
    let e = row_left c.args.sides.width c.args.sides.height c.loop-row.row _ _ (c.requires.even refl) c.requires.pixels c.requires.room c.loop-row-test.true in
    let words_fit = c.well_formed.1.1.1.0 in
    record { fits = omega (arith, e, c.requires.room, words_fit) }

pub slice_bounds-write_row-end-in-loop-row : goal.slice_bounds-write_row-end-in-loop-row
slice_bounds-write_row-end-in-loop-row g c =
    let e = row_left c.args.sides.width c.args.sides.height c.loop-row.row _ _ (c.requires.even refl) c.requires.pixels c.requires.room c.loop-row-test.true in
    omega (arith, e)

pub slice_bounds-write_row-end-in-loop-row-2 : goal.slice_bounds-write_row-end-in-loop-row-2
slice_bounds-write_row-end-in-loop-row-2 g c =
    let e = row_left c.args.sides.width c.args.sides.height c.loop-row.row _ _ (c.requires.even refl) c.requires.pixels c.requires.room c.loop-row-test.true in
    omega (arith, e)

pub write_row-requires-clause-upper_value : goal.write_row-requires-clause-upper_value
write_row-requires-clause-upper_value g c = every_take _ _ _ (every_drop _ _ c.args.sums.now c.requires.entries)

pub write_row-requires-clause-lower_value : goal.write_row-requires-clause-lower_value
write_row-requires-clause-lower_value g c = every_take _ _ _ (every_drop _ _ c.args.sums.now c.requires.entries)

pub loop-row-preserved : goal.loop-row-preserved
loop-row-preserved g c =
    let engine = g.E.Entry.engine in
    let w = c.args.sides.width in
    let h = w / 2 in
    let l = c.loop-row in
    let row = l.row in
    let xs = c.args.sums.now in
    let r = c.args.truncation in
    let e = row_left w c.args.sides.height row (length xs) (length c.args.words.now) (c.requires.even refl) c.requires.pixels c.requires.room c.loop-row-test.true in
    let q : length (take h (drop (row * h) l.words)) ≡ h = part_length l.words (row * h) h (omega (arith, e)) in
    let x = simp (add-sub_cancel_left, q) at c.write_row.ensures in
    let f = word_in engine w true r xs in
    let row_of = row_word engine r (take w (drop (2 * row * w) xs)) (take w (drop (2 * row * w + w) xs)) in
    let m = each_part f row_of (row * h) h (drop h (drop (row * h) l.words)) (λ i k. row_word_lem engine w h row i r xs e.0 refl k) in
    simp (add-sub_cancel_left, x, l.invariant, add-mul row 1 h, one-mul h) m

pub returns : goal.returns
unfolding frame_in
returns g c =
    let l = c.loop-row in
    let w = c.args.sides.width in
    let e = sides w c.args.sides.height (c.requires.even refl) in
    let r : l.row ≡ c.args.sides.height / 2 = omega arith in
    let t = rw r at l.invariant in
    let d : length c.args.sums.now / 4 ≡ c.args.sides.height / 2 * (w / 2) = omega (arith, c.requires.pixels, e) in
    sym (take_all (c.args.sides.height / 2 * (w / 2)) l.words (omega (arith, c.requires.pixels, c.requires.room, e))) ∙ t ∙ rw d
