-- What is no number isn't whole.
use mathlib.Core.Bool.{Bool, true, false, ◌&&◌}
use mathlib.Core.Path.{◌≡◌, refl, sym, ◌∙◌}
use lib.Ieee.{Float, binary64, in_signed, is_nan}
use Rattle.laws.proofs.Tests.{cases, clash}
use Rattle.entries.specs.Possible.{possible_after}
use Rattle.engines.specs.Engine.{in_floats}
use Rattle.float_laws.proofs.Integers.{whole_number}
use Rattle.float_entries.proofs.is_possible.Goals as goal

none : (x : Float) (test : Bool) → is_nan x ≡ true → false ≡ (in_signed binary64 31 x && test)
none x test n = cases (in_signed binary64 31 x) (λ w. clash (sym n ∙ whole_number x w)) (λ w. rw w refl)

pub returns-else-not-is_nan : goal.returns-else-not-is_nan
returns-else-not-is_nan c =
    let a = c.args in
    rw c.if-not-is_nan.false (none a.entry (possible_after a.k (in_floats.value_of a.entry)) (sym c.is_nan.ensures.value ∙ c.if-not-is_nan.false))
