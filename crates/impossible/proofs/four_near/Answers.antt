use mathlib.Core.Bool.{true, ◌&&◌}
use mathlib.Core.Path.{◌≡◌}
use Prim.Native.Nat.{ℕ, ◌≤◌}
use native.Mathlib.Omega.{arith}
use denote.Ref.{Bor}
use lib.Bits.{bit_or, or_lt}
use lib.IntN.{ℤ, pos, ◌+ℤ◌}
use lib.ListN.{length}
use lib.Signed.{le_z, lt_z}
use mir.Syntax.{w32}
use mir.Val.{Fits, SFits, to_z, of_z}
use mir.Facts.{to_z-of_z, of_z-to_z, Fits-of_z}
use Rattle.std.proofs.Common.{rules}
use Rattle.std.proofs.lemmas.Iterator.{YieldsList-from_slice, YieldsList-from_zip}
use Rattle.std.proofs.lemmas.Iterator.Consumers.{YieldsList-turn, YieldsList-end}
use Rattle.std.proofs.lemmas.List.{length_push}
use Rattle.laws.proofs.Tests.{true_and}
use Rattle.laws.proofs.Ints.{sum, fits, signed}
use Rattle.impossible.proofs.Near.{together, bound_more, bound_near, row_at, rows_end}
use Rattle.impossible.proofs.four_near.Goals as goal

-- the bits of all are read back
read : (b x y u v : ℕ) → Fits w32 b → Fits w32 x → Fits w32 y → Fits w32 u → Fits w32 v
    → let all = bit_or b (bit_or (bit_or x y) (bit_or u v)) in of_z w32 (to_z w32 all) ≡ all
read b x y u v f g h k l =
    of_z-to_z {w = w32} (record { fits = or_lt 32 b (bit_or (bit_or x y) (bit_or u v)) f.fits (or_lt 32 (bit_or x y) (bit_or u v) (or_lt 32 x y g.fits h.fits) (or_lt 32 u v k.fits l.fits)) })

pub loop-p-preserved : goal.loop-p-preserved
loop-p-preserved c =
    let a = c.args in
    let i = length c.loop-p.yielded in
    let inv = c.loop-p.invariant in
    let row : (Bor ℤ × Bor ℤ) × (Bor ℤ × Bor ℤ) = ((c.in-Some.p, c.in-Some.q), (c.in-Some.s, c.in-Some.t)) in
    let start = c.into_iter-p-iterator.ensures.into_iter_gives in
    let upper = c.zip-p-items.ensures.first in
    let lower = c.zip-p-items.ensures.second in
    let turn =
    YieldsList-turn {s = c.into_iter-p-iterator.result} (YieldsList-from_zip
    (YieldsList-from_zip (YieldsList-from_slice a.a.now (rw (start, upper, c.zip.ensures.first) c.iter.ensures.rest)) (YieldsList-from_slice a.b.now (rw (start, upper) c.zip.ensures.second.0)))
    (YieldsList-from_zip (YieldsList-from_slice a.c.now (rw (start, lower, c.zip-2.ensures.first) c.iter-2.ensures.rest)) (YieldsList-from_slice a.d.now (rw (start, lower) c.zip-2.ensures.second.0))))
    c.loop-p.yielded _ c.loop-p.yielded_by _ c.next.new.self row c.in-Some.is c.next.ensures.steps in
    let at = row_at a.a.now a.b.now a.c.now a.d.now i ((c.in-Some.p.now, c.in-Some.q.now), (c.in-Some.s.now, c.in-Some.t.now)) (omega arith) (omega arith) (omega arith) turn.0 turn.1 in
    let x = c.moved in
    let y = c.moved-in-loop-p in
    let z = c.moved-in-loop-p-2 in
    let w = c.moved-in-loop-p-3 in
    let fx : SFits w32 x.result = record { sfits = x.type_inv } in
    let fy : SFits w32 y.result = record { sfits = y.type_inv } in
    let fz : SFits w32 z.result = record { sfits = z.type_inv } in
    let fw : SFits w32 w.result = record { sfits = w.type_inv } in
    let b = c.loop-p.bits-bits in
    let t = together b (of_z w32 x.result) (of_z w32 y.result) (of_z w32 z.result) (of_z w32 w.result) in
    let all = read b (of_z w32 x.result) (of_z w32 y.result) (of_z w32 z.result) (of_z w32 w.result) c.loop-p.auto.bits (Fits-of_z fx) (Fits-of_z fy) (Fits-of_z fz) (Fits-of_z fw) in
    let before = of_z-to_z c.loop-p.auto.bits in
    let ga : SFits w32 c.in-Some.p.now = search rules in
    let gb : SFits w32 c.in-Some.q.now = search rules in
    let gc : SFits w32 c.in-Some.s.now = search rules in
    let gd : SFits w32 c.in-Some.t.now = search rules in
    let more = bound_more (to_z w32 (of_z w32 a.gap)) (to_z w32 (of_z w32 a.near)) in
    rw (length_push c.loop-p.yielded row) (
      more a.a.now i _ _ x.result inv.0 (rw (all, before) t.0) fx (rw (to_z-of_z ga, at.1) at x.ensures) (rw all t.1),
      more a.b.now i _ _ y.result inv.1 (rw (all, before) t.0) fy (rw (to_z-of_z gb, at.2) at y.ensures) (rw all t.2),
      more a.c.now i _ _ z.result inv.2 (rw (all, before) t.0) fz (rw (to_z-of_z gc, at.3) at z.ensures) (rw all t.3),
      more a.d.now i _ _ w.result inv.3 (rw (all, before) t.0) fw (rw (to_z-of_z gd, at.4) at w.ensures) (rw all t.4),
    )

pub returns : goal.returns
returns c t =
    let a = c.args in
    let n = a.near in
    let h = c.requires.fitting in
    let twice : SFits w32 (to_z w32 (of_z w32 n) +ℤ to_z w32 (of_z w32 n)) = rw (to_z-of_z c.ranges.near) (fits w32 _ (omega (signed, sum n n))) in
    let v = c.loop-p.invariant in
    let i = length c.loop-p.yielded in
    let start = c.into_iter-p-iterator.ensures.into_iter_gives in
    let upper = c.zip-p-items.ensures.first in
    let lower = c.zip-p-items.ensures.second in
    let end =
    YieldsList-end {s = c.into_iter-p-iterator.result} (YieldsList-from_zip
    (YieldsList-from_zip (YieldsList-from_slice a.a.now (rw (start, upper, c.zip.ensures.first) c.iter.ensures.rest)) (YieldsList-from_slice a.b.now (rw (start, upper) c.zip.ensures.second.0)))
    (YieldsList-from_zip (YieldsList-from_slice a.c.now (rw (start, lower, c.zip-2.ensures.first) c.iter-2.ensures.rest)) (YieldsList-from_slice a.d.now (rw (start, lower) c.zip-2.ensures.second.0))))
    c.loop-p.yielded _ c.loop-p.yielded_by _ c.next.new.self c.in-None.is c.next.ensures.steps in
    let all : length a.a.now ≤ i = rows_end a.a.now a.b.now a.c.now a.d.now i (omega arith) (omega arith) (omega arith) end.1 in
    let b = c.loop-p.bits-bits in
    let before = of_z-to_z c.loop-p.auto.bits in
    let near = bound_near (to_z w32 (of_z w32 a.gap)) (to_z w32 (of_z w32 n)) in
    let said = rw (to_z-of_z twice) at t in
    let u : le_z (pos 0) (to_z w32 (of_z w32 (to_z w32 b))) && lt_z (to_z w32 (of_z w32 (to_z w32 b))) (to_z w32 (of_z w32 n) +ℤ to_z w32 (of_z w32 n)) ≡ true = rw before said in
    rw (← to_z-of_z c.ranges.gap, ← to_z-of_z c.ranges.near)
    (true_and
    (true_and (near a.a.now i (of_z w32 (to_z w32 b)) (omega arith) v.0 u) (near a.b.now i (of_z w32 (to_z w32 b)) (omega arith) v.1 u))
    (true_and (near a.c.now i (of_z w32 (to_z w32 b)) (omega arith) v.2 u) (near a.d.now i (of_z w32 (to_z w32 b)) (omega arith) v.3 u)))
