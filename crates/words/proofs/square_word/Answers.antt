-- `words::square_word` meets its contract: the smallest raised entry has the smallest sample, and where none is marked the total is that of four sums.
use Rattle.std.proofs.Common.{◌≡◌, ◌∙◌, w32, arith, ℤ, of_z, to_z, ◌+◌, ◌%◌, ◌+ℤ◌}
use mir.Val.{SFits}
use mir.Facts.{to_z-of_z}
use Rattle.std.specs.Int.{int_wrap}
use Rattle.std.proofs.lemmas.Int.{wrapping_add-bits, wrapping_add_is}
use Rattle.settings.proofs.Parts.{truncation_parts}
use Rattle.words.proofs.Words.{last_range, cut_lt, square}
use Rattle.words.proofs.Square.{smallest, added}
use Rattle.words.proofs.square_word.Goals as goal

pub overflow_add-truncation : goal.overflow_add-truncation
overflow_add-truncation c = omega (arith, truncation_parts c.args.truncation c.requires.truncation_value)

pub cut_off-requires : goal.cut_off-requires
cut_off-requires c = omega (arith, truncation_parts c.args.truncation c.requires.truncation_value)

pub mark_or_cut-requires-clause-pos_bound : goal.mark_or_cut-requires-clause-pos_bound
mark_or_cut-requires-clause-pos_bound c = λ t. last_range c.min-first.result

pub mark_or_cut-requires-clause-word_bound : goal.mark_or_cut-requires-clause-word_bound
mark_or_cut-requires-clause-word_bound c = rw c.cut_off.ensures (search cut_lt)

-- what the three additions leave
total : (p q s t : ℤ) → SFits w32 p → SFits w32 q → SFits w32 s → SFits w32 t
    → to_z w32 (((of_z w32 p + of_z w32 q) % 4294967296 + (of_z w32 s + of_z w32 t) % 4294967296) % 4294967296) ≡ int_wrap w32 (int_wrap w32 (p +ℤ q) +ℤ int_wrap w32 (s +ℤ t))
total p q s t f g h k =
    let m = (of_z w32 p + of_z w32 q) % 4294967296 in
    let n = (of_z w32 s + of_z w32 t) % 4294967296 in
    let left : to_z w32 m ≡ int_wrap w32 (p +ℤ q) = wrapping_add_is w32 p q f g in
    let right : to_z w32 n ≡ int_wrap w32 (s +ℤ t) = wrapping_add_is w32 s t h k in
    wrapping_add-bits w32 m n (omega arith) (omega arith) ∙ rw (left, right)

pub returns : goal.returns
returns c =
    let p = c.raised-p.result in
    let q = c.raised-q.result in
    let s = c.raised-s.result in
    let t = c.raised-t.result in
    let x = c.min.result in
    let y = c.min-2.result in
    let z = c.min-first.result in
    let fp : SFits w32 p = record { sfits = c.raised-p.type_inv } in
    let fq : SFits w32 q = record { sfits = c.raised-q.type_inv } in
    let fs : SFits w32 s = record { sfits = c.raised-s.type_inv } in
    let ft : SFits w32 t = record { sfits = c.raised-t.type_inv } in
    let fx : SFits w32 x = record { sfits = c.min.type_inv } in
    let fy : SFits w32 y = record { sfits = c.min-2.type_inv } in
    let fz : SFits w32 z = record { sfits = c.min-first.type_inv } in
    let ip = simp (to_z-of_z, c.ranges.a) at c.raised-p.ensures in
    let iq = simp (to_z-of_z, c.ranges.b) at c.raised-q.ensures in
    let is = simp (to_z-of_z, c.ranges.c) at c.raised-s.ensures in
    let it = simp (to_z-of_z, c.ranges.d) at c.raised-t.ensures in
    let first = smallest c.args.a c.args.b c.args.c c.args.d p q s t c.requires.a_value c.requires.c_value ip iq is it x y z
    (simp (to_z-of_z, fp, fq) at c.min.ensures.value) (simp (to_z-of_z, fs, ft) at c.min-2.ensures.value) (simp (to_z-of_z, fx, fy) at c.min-first.ensures.value) in
    let sums = added c.args.a c.args.b c.args.c c.args.d p q s t c.requires.a_value c.requires.c_value ip iq is it in
    simp (to_z-of_z, fz, rw (total p q s t fp fq fs ft) at c.cut_off.ensures) at c.mark_or_cut.ensures
    ∙ square c.args.a c.args.b c.args.c c.args.d c.args.truncation z (int_wrap w32 (int_wrap w32 (p +ℤ q) +ℤ int_wrap w32 (s +ℤ t))) first sums
