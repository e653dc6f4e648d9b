use Prim.Native.Nat.{ℕ}
use mathlib.Core.Bool.{not}
use mathlib.Core.Path.{◌≡◌, sym, ◌∙◌}
use borrow.Author.Tests.{leb-true, leb-false, lt-ltb, le-ltb}
use lib.Dec.{leb, ltb}
use lib.ListN.{length, get_or}
use Rattle.std.proofs.Common.{rules, tests}
use Rattle.std.proofs.lemmas.Iterator.{YieldsList-from_slice}
use Rattle.std.proofs.lemmas.Iterator.Search.{position_from_yields_List}
use Rattle.std.specs.List.{position}
use Rattle.laws.proofs.Tests.{cases}
use Rattle.checks.proofs.Search.{found_every, found_position, found_same}
use Rattle.readings.specs.Readings.{max_reading, reading_in_range}
use Rattle.readings.proofs.first_above.Goals as goal

above : (x : ℕ) → ltb max_reading x ≡ not (reading_in_range x)
above x =
    cases (leb x max_reading)
    (λ t. rw (t, le-ltb max_reading x (leb-true x max_reading t)))
    (λ t. rw (t, lt-ltb max_reading x (leb-false x max_reading t)))

pub returns-then-all_in_range : goal.returns-then-all_in_range
returns-then-all_in_range c = sym (found_every reading_in_range c.args.readings.now 0 (sym c.all_in_range.ensures ∙ c.if-all_in_range.true))

pub returns-else-all_in_range : goal.returns-else-all_in_range
returns-else-all_in_range c =
    let l = c.args.readings.now in
    let found : c.position.result ≡ position (ltb max_reading) l = position_from_yields_List (ltb max_reading) _ _ _ c.position.ensures.ran (YieldsList-from_slice l cc) (λ x b q k. search (rules, tests)) in
    found ∙ found_position (ltb max_reading) l 0 ∙ found_same _ _ (length l) (λ i h. above (get_or l i 0))
