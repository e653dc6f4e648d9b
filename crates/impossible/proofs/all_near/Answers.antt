-- Four quarters that are near, and what is left over.
use mathlib.Core.Path.{◌≡◌, sym, ◌∙◌}
use Prim.Native.Nat.{◌+◌, ◌/◌}
use lib.IntN.{pos, ◌-ℤ◌}
use lib.ListN.{length}
use mir.Syntax.{w32}
use mir.Val.{to_z, of_z}
use Rattle.laws.proofs.Ints.{back}
use Rattle.laws.proofs.Tests.{and_true}
use Rattle.entries.specs.Mark.{mark}
use Rattle.impossible.specs.SupportNear.{nearness}
use Rattle.impossible.proofs.Near.{quarters_possible}
use Rattle.impossible.proofs.all_near.Goals as goal

pub returns : goal.returns
returns c t =
    let k = c.args.k in
    let l = c.args.sums.now in
    let n = length l / 4 in
    let near : to_z w32 (of_z w32 c.nearness-near.result) ≡ pos (nearness k) = back w32 c.nearness-near.result c.nearness-near.type_inv ∙ c.nearness-near.ensures in
    let gap : to_z w32 (of_z w32 c.gap_above-gap.result) ≡ mark (k + 1) -ℤ pos (nearness k) = back w32 c.gap_above-gap.result c.gap_above-gap.type_inv ∙ rw near at c.gap_above-gap.ensures in
    let h = and_true c.four_near.result c.each_possible.result t in
    let parts = c.of.ensures in
    let most = rw (near, gap, parts.first, parts.second, parts.third, parts.fourth) at (c.four_near.ensures h.0) in
    let rest = rw parts.rest at c.each_possible.ensures in
    quarters_possible k n l c.requires.0 c.requires.1 most (sym rest ∙ h.1)
