use mathlib.Core.Bool.{true, ◌&&◌}
use mathlib.Core.Path.{◌∙◌}
use mir.Facts.{to_z-of_z}
use Rattle.std.proofs.Common.{rules}
use Rattle.std.proofs.lemmas.Iterator.{YieldsList-from_slice}
use Rattle.laws.proofs.Folds.{fold_from_yields_List, every_fold}
use Rattle.entries.specs.Possible.{possible_after}
use Rattle.impossible.proofs.each_possible.Goals as goal

pub returns : goal.returns
returns c =
    let l = c.args.sums.now in
    let test = possible_after c.args.k in
    fold_from_yields_List (λ good e. good && test e) c.fold.ensures.ran (YieldsList-from_slice l cc) (λ good e more f' k. search (rules, to_z-of_z))
    ∙ every_fold test true l
