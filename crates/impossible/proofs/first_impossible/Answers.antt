use mathlib.Core.Bool.{Bool, not}
use mathlib.Core.Path.{sym, ◌∙◌}
use lib.IntN.{ℤ, pos}
use mir.Facts.{to_z-of_z}
use Rattle.std.proofs.Common.{rules, tests}
use Rattle.std.proofs.lemmas.Iterator.{YieldsList-from_slice}
use Rattle.std.proofs.lemmas.Iterator.Search.{position_from_yields_List}
use Rattle.checks.proofs.Search.{found_every, found_position}
use Rattle.entries.specs.Possible.{possible_after}
use Rattle.impossible.proofs.first_impossible.Goals.{then-all_near, else-all_near}
use Rattle.impossible.proofs.first_impossible.Goals as goal

pub returns-then-each_possible : goal.returns-then-each_possible
returns-then-each_possible c =
    let l = c.args.sums.now in
    let found = found_every (possible_after c.args.k) l (pos 0) in
    elim c.if-all_near.branch [
      | then-all_near w ↦ sym (found (c.all_near.ensures w.if-all_near.true))
      | else-all_near w ↦ sym (found (sym w.each_possible.ensures ∙ sym w.value-is ∙ c.if-each_possible.true))
    ]

pub returns-else-each_possible : goal.returns-else-each_possible
returns-else-each_possible c =
    let l = c.args.sums.now in
    let fails : ℤ → Bool = λ e. not (possible_after c.args.k e) in
    position_from_yields_List fails _ _ _ c.position.ensures.ran (YieldsList-from_slice l cc) (λ x b q k. search (rules, tests, to_z-of_z))
    ∙ found_position fails l (pos 0)
