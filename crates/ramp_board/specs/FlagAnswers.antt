-- The answers about flags as plain numbers, for C. What a refusal, or "no flag", doesn't tell is as it was.
use Rattle.std.specs.Prelude.{ℕ, Option, Some, None, Result, Ok, Err}
use Rattle.checks.specs.declared.Refusal.{Refusal}
use Rattle.places.specs.declared.Place.{Place}

-- 1 for a flag, 0 for "no flag"
abbrev pub found_after : Result (Option Place) Refusal → ℕ → ℕ
found_after (Ok (Some p)) old = 1
found_after (Ok None) old = 0
found_after (Err r) old = old

abbrev pub row_after : Result (Option Place) Refusal → ℕ → ℕ
row_after (Ok (Some p)) old = p.row
row_after (Ok None) old = old
row_after (Err r) old = old

abbrev pub column_after : Result (Option Place) Refusal → ℕ → ℕ
column_after (Ok (Some p)) old = p.column
column_after (Ok None) old = old
column_after (Err r) old = old

abbrev pub flags_after : Result ℕ Refusal → ℕ → ℕ
flags_after (Ok n) old = n
flags_after (Err r) old = old
