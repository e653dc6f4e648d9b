-- The bits of each entry so far are among those of all.
use Rattle.std.proofs.Common.{length}
use mir.Syntax.{w32}
use mir.Val.{of_z}
use Rattle.impossible.proofs.Near.{Bound}
use Rattle.impossible.proofs.four_near.Given as goal

abbrev pub invariant-loop-p : goal.invariant-loop-p
invariant-loop-p l =
    let bound = Bound l.gap l.near in
    let bits = of_z w32 l.bits in
    let i = length l.yielded in
    bound l.a i bits × bound l.b i bits × bound l.c i bits × bound l.d i bits
