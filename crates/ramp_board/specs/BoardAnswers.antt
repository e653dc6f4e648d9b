-- What Covered says, as a plain number. What a refusal doesn't tell is as it was.
use Rattle.std.specs.Prelude.{ℕ, Bool, true, false, Result, Ok, Err}
use Rattle.checks.specs.declared.Refusal.{Refusal}

-- 1 for covered, 0 for uncovered
abbrev pub covered_after : Result Bool Refusal → ℕ → ℕ
covered_after (Ok true) old = 1
covered_after (Ok false) old = 0
covered_after (Err r) old = old
