-- `and` of two answers, as the library has it, is the first that refuses.
use mathlib.Core.Path.{◌≡◌, refl}
use Rattle.std.specs.Prelude.{Ok, Err}
use Rattle.std.specs.Result.{result_and}
use Rattle.checks.specs.Checks.{Answer, first}

pub and_first : (a b : Answer) → result_and a b ≡ first a b
and_first (Ok tt) b = refl
and_first (Err r) b = refl
