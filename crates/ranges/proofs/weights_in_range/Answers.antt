use Rattle.std.proofs.Common.{rules, ◌≡◌, List, [], ◌∷◌, Bool, ℤ, length, refl, ◌∙◌, arith}
use Rattle.std.specs.List.{list_all}
use Rattle.std.proofs.lemmas.Iterator.{YieldsList-from_slice}
use Rattle.std.proofs.lemmas.Iterator.Search.{all_from_yields_List}
use borrow.Author.Tests.{tests, eq-eqb}
use Rattle.laws.specs.Lists.{every}
use Rattle.ranges.specs.Ranges.{weight_in_range, max_samples}
use Rattle.ranges.proofs.weights_in_range.Goals as goal

all_is : (test : ℤ → Bool) (l : List ℤ) → list_all test l ≡ every test l
unfolding every
all_is test [] = refl
all_is test (x ∷ l) = rw (all_is test l)

pub returns : goal.returns
returns c =
    let nine : length c.args.weights ≡ max_samples = omega arith in
    let all = all_from_yields_List weight_in_range _ _ c.all.result c.all.ensures.ran (YieldsList-from_slice c.args.weights cc) (λ x b q k. search (rules, tests)) in
    rw (eq-eqb _ _ nine) (all ∙ all_is weight_in_range c.args.weights)
