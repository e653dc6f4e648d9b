use mathlib.Core.Bool.{Bool, not}
use mathlib.Core.Path.{sym, ◌∙◌}
use lib.Ieee.{Float, nan}
use Rattle.std.proofs.Common.{rules, tests}
use Rattle.std.proofs.lemmas.Iterator.{YieldsList-from_slice}
use Rattle.std.proofs.lemmas.Iterator.Search.{position_from_yields_List}
use Rattle.checks.proofs.Search.{found_every, found_position}
use Rattle.engines.specs.Engine.{in_floats}
use Rattle.engines.specs.SupportPasses.{possible_after_in}
use Rattle.float_entries.proofs.first_impossible.Goals as goal

pub returns-then-each_possible : goal.returns-then-each_possible
returns-then-each_possible c =
    sym (found_every (possible_after_in in_floats c.args.k) c.args.sums.now nan (sym c.each_possible.ensures ∙ c.if-each_possible.true))

pub returns-else-all_numbers : goal.returns-else-all_numbers
returns-else-all_numbers c =
    let l = c.args.sums.now in
    let fails : Float → Bool = λ e. not (possible_after_in in_floats c.args.k e) in
    position_from_yields_List fails _ _ _ c.position.ensures.ran (YieldsList-from_slice l cc) (λ x b q k. search (rules, tests))
    ∙ found_position fails l nan
