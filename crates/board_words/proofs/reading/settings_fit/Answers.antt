-- What the passes over both parts find.
use Rattle.std.proofs.Common.{rules, ◌∙◌}
use Rattle.std.proofs.lemmas.Iterator.{YieldsList-from_slice}
use mathlib.Core.Bool.{true, ◌&&◌}
use Rattle.laws.proofs.Folds.{fold_from_yields_List, every_fold}
use Rattle.board_words.specs.Words.{weight_fits, short_fits, settings_fit}
use Rattle.board_words.proofs.reading.settings_fit.Goals as goal

pub returns : goal.returns
unfolding settings_fit
returns c =
    let front = c.split_at.result.0.now in
    let back = c.split_at.result.1.now in
    let nine =
    fold_from_yields_List (λ good w. good && weight_fits w) c.fold-nine.ensures.ran (YieldsList-from_slice front cc) (λ good w more f' k. search rules)
    ∙ every_fold weight_fits true front
    in
    let three =
    fold_from_yields_List (λ good w. good && short_fits w) c.fold-three.ensures.ran (YieldsList-from_slice back cc) (λ good w more f' k. search rules)
    ∙ every_fold short_fits true back
    in
    rw (nine, three, c.split_at.ensures.front, c.split_at.ensures.back)
